-- The versions: as they are shown, and with one change more.
use Rattle.std.proofs.Common.{◌≡◌, ◌∙◌, ap, sym, refl, ℕ, ◌+◌, Bool, true, false, cond, if◌then◌else◌, List, [], ◌∷◌, ◌++◌, length, map as list_map, reverse, filter, Option, Some, None, option_map, option_and_then, append-nil, arith}
use Rattle.std.specs.Map.{lookup}
use Rattle.std.specs.Option.{option_map_or}
use Rattle.std.specs.Str.{bytes_eq}
use Rattle.std.proofs.lemmas.List.{reverse-append}
use Rattle.std.proofs.lemmas.List.Elements.{filter-append}
use Rattle.std.proofs.lemmas.Option.{none-some, same_Some}
use Rattle.s80_form.specs.declared.form.Form.TheVariants.{Define, ClassVars, Comment, RemoveMethod, Classify, RemoveClass, NoChanges}
use Rattle.s80_change.specs.declared.change.Change.{Change}
use Rattle.s80_change.specs.declared.change.Change.TheVariants.{Form, Method, DoIt}
use Rattle.s80_change.specs.Block.{blocks}
use Rattle.s80_history.specs.declared.noted.Noted.{Noted}
use Rattle.s80_history.specs.declared.noted.NotedKind.TheVariants as kinds
use Rattle.s80_history.specs.declared.trace.ClassTrace.{ClassTrace}
use Rattle.s80_history.specs.declared.trace.MethodTrace.{MethodTrace}
use Rattle.s80_history.specs.History.{ClassVersions, noting, of_class, of_method, places_on, places_under}
use Rattle.s80_history.specs.Lists.{MethodName, Placed, is_same, named, placed_from, puts, versions_of}
use Rattle.s80_history.specs.Topics.{name_of}
use Rattle.s80_history.specs.Traces.{Classes, Methods, Named, held, methods_on, places_of, versions_in, versions_of_classes, versions_seen, versions_with}
use Rattle.s80_base.specs.declared.names.Side.{Side}
use Rattle.s80_base.specs.declared.names.Side.TheVariants.{Instance, Class}
use Rattle.s80_history.proofs.OneMore.{placed_more}

-- ---- as they are shown

lookup_shown : {X Y : Type 0} (f : X → Y) (es : Named X) (q : List ℕ) → lookup (bytes_eq q) (list_map (λ e. (e.0.items, f e.1)) es) ≡ option_map f (held es q)
lookup_shown f [] q = refl
lookup_shown f (e ∷ es) q = go (bytes_eq q e.0.items) (lookup_shown f es q)
  where
    go : (b : Bool) → lookup (bytes_eq q) (list_map (λ e. (e.0.items, f e.1)) es) ≡ option_map f (held es q)
        → cond b (Some (f e.1)) (lookup (bytes_eq q) (list_map (λ e. (e.0.items, f e.1)) es)) ≡ option_map f (cond b (Some e.1) (held es q))
    go true rest = refl
    go false rest = rest

under_shown : (methods : Methods) (q : List ℕ) → places_under (places_of methods) q ≡ versions_seen (held methods q)
under_shown methods q = ap (λ o. option_map_or (λ (at : List ℕ). at) o []) (lookup_shown (λ (m : MethodTrace). m.versions.items) methods q) ∙ go (held methods q)
  where
    go : (o : Option MethodTrace) → option_map_or (λ (at : List ℕ). at) (option_map (λ (m : MethodTrace). m.versions.items) o) [] ≡ versions_seen o
    go None = refl
    go (Some m) = refl

abbrev shown_of : ClassTrace → ClassVersions
shown_of c = record { instance = places_of c.instance.entries; class = places_of c.class.entries }

on_shown : (c : ClassTrace) (s : Side) → places_on (shown_of c) s ≡ places_of (methods_on c s)
on_shown c Instance = refl
on_shown c Class = refl

pub versions_shown : (classes : Classes) (name : MethodName)
    → option_map_or (λ versions. places_under (places_on versions name.side) name.selector) (lookup (bytes_eq name.class_name) (versions_of_classes classes)) [] ≡ versions_in classes name
versions_shown classes name =
    ap (λ o. option_map_or (λ (v : ClassVersions). places_under (places_on v name.side) name.selector) o []) (lookup_shown shown_of classes name.class_name) ∙ go (held classes name.class_name)
  where
    go : (o : Option ClassTrace) → option_map_or (λ (v : ClassVersions). places_under (places_on v name.side) name.selector) (option_map shown_of o) []
        ≡ versions_seen (option_and_then (λ (c : ClassTrace). held (methods_on c name.side) name.selector) o)
    go None = refl
    go (Some c) = ap (λ places. places_under places name.selector) (on_shown c name.side) ∙ under_shown (methods_on c name.side) name.selector

-- ---- with one change more

abbrev places_at : List Placed → List ℕ
places_at ps = list_map (λ p. p.0) ps

abbrev puts_at : MethodName → Placed → Bool
puts_at name p = puts name p.1

pub versions_more : (changes : List Change) (c : Change) (at : ℕ) (name : MethodName) → at ≡ length (blocks changes)
    → places_at (versions_of (changes ++ c ∷ []) name) ≡ (if puts name c then at ∷ places_at (versions_of changes name) else places_at (versions_of changes name))
versions_more changes c at name here =
    ap (λ ps. places_at (reverse (filter (puts_at name) ps))) (placed_more 0 changes c ∙ ap (λ n. placed_from 0 changes ++ (n, c) ∷ []) place)
    ∙ ap (λ ps. places_at (reverse ps)) (filter-append (puts_at name) (placed_from 0 changes) ((at, c) ∷ []))
    ∙ go (puts name c)
  where
    place : 0 + length (blocks changes) ≡ at
    place = omega (arith, here)

    go : (b : Bool) → places_at (reverse (filter (puts_at name) (placed_from 0 changes) ++ cond b ((at, c) ∷ []) [])) ≡ (if b then at ∷ places_at (versions_of changes name) else places_at (versions_of changes name))
    go true = ap places_at (reverse-append (filter (puts_at name) (placed_from 0 changes)) ((at, c) ∷ []))
    go false = ap (λ ps. places_at (reverse ps)) (append-nil (filter (puts_at name) (placed_from 0 changes)))

newest_first : (vs : List ℕ) (at : ℕ) → reverse (vs ++ at ∷ []) ≡ at ∷ reverse vs
newest_first vs at = reverse-append vs (at ∷ [])

-- what a member puts is what its change puts
either_way : (b : Bool) (vs : List ℕ) → (if b then vs else vs) ≡ vs
either_way true vs = refl
either_way false vs = refl

put_same : (c : Change) (at : ℕ) (m : Noted) (name : MethodName) (vs : List ℕ) → noting at c ≡ Some m → versions_with m name vs ≡ (if puts name c then vs ++ at ∷ [] else vs)
put_same (DoIt text) at m name vs is = absurd (none-some m is)
put_same (Method mc) at m name vs is = go (named mc mc.source.selector) is
  where
    go : (n : Option MethodName) → option_map (λ k. of_method kinds.Method k at) n ≡ Some m
        → versions_with m name vs ≡ (if option_map_or (is_same name) n false then vs ++ at ∷ [] else vs)
    go None none = absurd (none-some m none)
    go (Some k) one = ap (λ (x : Noted). versions_with x name vs) (sym (same_Some (of_method kinds.Method k at) m one))
put_same (Form (Define d)) at m name vs is =
    let x = of_class kinds.Define d.class_name at in ap (λ (y : Noted). versions_with y name vs) (sym (same_Some x m is)) ∙ either_way (is_same name (name_of x)) vs
put_same (Form (ClassVars class names)) at m name vs is =
    let x = of_class kinds.ClassVars class at in ap (λ (y : Noted). versions_with y name vs) (sym (same_Some x m is)) ∙ either_way (is_same name (name_of x)) vs
put_same (Form (Comment class text)) at m name vs is =
    let x = of_class kinds.Comment class at in ap (λ (y : Noted). versions_with y name vs) (sym (same_Some x m is)) ∙ either_way (is_same name (name_of x)) vs
put_same (Form (RemoveMethod class side selector)) at m name vs is =
    let x = of_method kinds.RemoveMethod (record { class_name = class; side = side; selector = selector }) at in
    ap (λ (y : Noted). versions_with y name vs) (sym (same_Some x m is)) ∙ either_way (is_same name (name_of x)) vs
put_same (Form (Classify class side selector category)) at m name vs is =
    let x = of_method kinds.Classify (record { class_name = class; side = side; selector = selector }) at in
    ap (λ (y : Noted). versions_with y name vs) (sym (same_Some x m is)) ∙ either_way (is_same name (name_of x)) vs
put_same (Form (RemoveClass class)) at m name vs is =
    let x = of_class kinds.RemoveClass class at in ap (λ (y : Noted). versions_with y name vs) (sym (same_Some x m is)) ∙ either_way (is_same name (name_of x)) vs
put_same (Form NoChanges) at m name vs is = absurd (none-some m is)

-- a change of which nothing is noted puts nothing
unput : (c : Change) (at : ℕ) (name : MethodName) → noting at c ≡ None → puts name c ≡ false
unput (DoIt text) at name is = refl
unput (Method mc) at name is = go (named mc mc.source.selector) is
  where
    go : (n : Option MethodName) → option_map (λ k. of_method kinds.Method k at) n ≡ None → option_map_or (is_same name) n false ≡ false
    go None none = refl
    go (Some k) one = absurd (none-some (of_method kinds.Method k at) (sym one))
unput (Form form) at name is = refl

-- so the newest places are those of the list
module _ (changes : List Change) (c : Change) (at : ℕ) (here : at ≡ length (blocks changes)) (name : MethodName) (vs : List ℕ) (shown : reverse vs ≡ places_at (versions_of changes name)) where
  pub versions_noted : (m : Noted) → noting at c ≡ Some m → reverse (versions_with m name vs) ≡ places_at (versions_of (changes ++ c ∷ []) name)
  versions_noted m is = ap reverse (put_same c at m name vs is) ∙ go (puts name c) ∙ sym (versions_more changes c at name here)
    where
      go : (b : Bool) → reverse (if b then vs ++ at ∷ [] else vs) ≡ (if b then at ∷ places_at (versions_of changes name) else places_at (versions_of changes name))
      go true = newest_first vs at ∙ ap (λ places. at ∷ places) shown
      go false = shown

  pub versions_passed : noting at c ≡ None → reverse vs ≡ places_at (versions_of (changes ++ c ∷ []) name)
  versions_passed is =
      shown
      ∙ sym (versions_more changes c at name here ∙ ap (λ b. if b then at ∷ places_at (versions_of changes name) else places_at (versions_of changes name)) (unput c at name is))
