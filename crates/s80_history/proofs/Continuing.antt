-- What is kept stands for a list, and then for the list with one change more.
use Rattle.std.proofs.Common.{◌≡◌, ◌∙◌, ap, sym, subst, refl, ℕ, if◌then◌else◌, List, [], ◌∷◌, ◌++◌, length, map as list_map, reverse, Option, Some, None, option_map}
use Rattle.std.proofs.lemmas.Option.{none-some, same_Some}
use Rattle.s80_form.specs.declared.form.Form.TheVariants.{Define, ClassVars, Comment, RemoveMethod, Classify, RemoveClass, NoChanges}
use Rattle.s80_change.specs.declared.change.Change.{Change}
use Rattle.s80_change.specs.declared.change.Change.TheVariants.{Form, Method, DoIt}
use Rattle.s80_change.specs.Block.{blocks}
use Rattle.s80_history.specs.declared.members.Member.{Member}
use Rattle.s80_history.specs.declared.noted.Noted.{Noted}
use Rattle.s80_history.specs.declared.noted.NotedKind.TheVariants as kinds
use Rattle.s80_history.specs.History.{HistoryState, IsHistoryOf, noting, of_class, of_method, set_places, version_places}
use Rattle.s80_history.specs.Lists.{MethodName, Placed, is_no_changes, named, set_of, versions_of}
use Rattle.s80_history.specs.Members.{in_set}
use Rattle.s80_history.specs.Traces.{Classes, versions_in, versions_of_classes, versions_with}
use Rattle.s80_history.proofs.Showing.{Shows, noted_after, set_noted, set_unnoted, shows_from, shows_to}
use Rattle.s80_history.proofs.Versions.{versions_noted, versions_passed, versions_shown}

abbrev pub shown : List Member → Classes → Option Noted → HistoryState
shown members classes ready = record { members = in_set members; versions = versions_of_classes classes; ready = ready }

pub places_shown : (members : List Member) (classes : Classes) (ready : Option Noted) (h : HistoryState) (name : MethodName) → shown members classes ready ≡ h
    → version_places h name ≡ reverse (versions_in classes name)
places_shown members classes ready h name is = sym (ap (λ s. version_places s name) is) ∙ ap reverse (versions_shown classes name)

-- nothing is seen to change
pub places_still : (members new : List Member) (classes now : Classes) (ready next : Option Noted) (h : HistoryState) (name : MethodName) → shown members classes ready ≡ h
    → versions_in now name ≡ versions_in classes name → version_places (shown new now next) name ≡ version_places h name
places_still members new classes now ready next h name is same =
    places_shown new now next (shown new now next) name refl ∙ ap reverse same ∙ sym (places_shown members classes ready h name is)

pub still_history : (h now : HistoryState) (changes : List Change) → now.members ≡ h.members → ((name : MethodName) → version_places now name ≡ version_places h name) → IsHistoryOf h changes → IsHistoryOf now changes
still_history h now changes members versions is = record {
  members = ap (list_map Some) members ∙ is.members;
  versions = λ name. versions name ∙ is.versions name;
}

-- ---- a change is noted

-- what is noted of a change, at its place
pub noted_at : (c : Change) (at : ℕ) (m : Noted) → Some m ≡ noting 0 c → noting at c ≡ Some (record m { at = at })
noted_at (DoIt text) at m is = absurd (none-some m (sym is))
noted_at (Method mc) at m is = go (named mc mc.source.selector) is
  where
    go : (n : Option MethodName) → Some m ≡ option_map (λ k. of_method kinds.Method k 0) n → option_map (λ k. of_method kinds.Method k at) n ≡ Some (record m { at = at })
    go None none = absurd (none-some m (sym none))
    go (Some k) one = ap (λ (x : Noted). Some (record x { at = at })) (sym (same_Some m (of_method kinds.Method k 0) one))
noted_at (Form (Define d)) at m is = ap (λ (x : Noted). Some (record x { at = at })) (sym (same_Some m (of_class kinds.Define d.class_name 0) is))
noted_at (Form (ClassVars class names)) at m is = ap (λ (x : Noted). Some (record x { at = at })) (sym (same_Some m (of_class kinds.ClassVars class 0) is))
noted_at (Form (Comment class text)) at m is = ap (λ (x : Noted). Some (record x { at = at })) (sym (same_Some m (of_class kinds.Comment class 0) is))
noted_at (Form (RemoveMethod class side selector)) at m is =
    ap (λ (x : Noted). Some (record x { at = at })) (sym (same_Some m (of_method kinds.RemoveMethod (record { class_name = class; side = side; selector = selector }) 0) is))
noted_at (Form (Classify class side selector category)) at m is =
    ap (λ (x : Noted). Some (record x { at = at })) (sym (same_Some m (of_method kinds.Classify (record { class_name = class; side = side; selector = selector }) 0) is))
noted_at (Form (RemoveClass class)) at m is = ap (λ (x : Noted). Some (record x { at = at })) (sym (same_Some m (of_class kinds.RemoveClass class 0) is))
noted_at (Form NoChanges) at m is = absurd (none-some m (sym is))

none_at : (c : Change) (at : ℕ) → None ≡ noting 0 c → noting at c ≡ None
none_at (DoIt text) at is = refl
none_at (Method mc) at is = go (named mc mc.source.selector) is
  where
    go : (n : Option MethodName) → None ≡ option_map (λ k. of_method kinds.Method k 0) n → option_map (λ k. of_method kinds.Method k at) n ≡ None
    go None none = refl
    go (Some k) one = absurd (none-some (of_method kinds.Method k 0) one)
none_at (Form (Define d)) at is = absurd (none-some (of_class kinds.Define d.class_name 0) is)
none_at (Form (ClassVars class names)) at is = absurd (none-some (of_class kinds.ClassVars class 0) is)
none_at (Form (Comment class text)) at is = absurd (none-some (of_class kinds.Comment class 0) is)
none_at (Form (RemoveMethod class side selector)) at is = absurd (none-some (of_method kinds.RemoveMethod (record { class_name = class; side = side; selector = selector }) 0) is)
none_at (Form (Classify class side selector category)) at is = absurd (none-some (of_method kinds.Classify (record { class_name = class; side = side; selector = selector }) 0) is)
none_at (Form (RemoveClass class)) at is = absurd (none-some (of_class kinds.RemoveClass class 0) is)
none_at (Form NoChanges) at is = refl

-- ---- the places of a set

abbrev place_or : ℕ → Option Noted → ℕ
place_or at None = at
place_or at (Some m) = m.at

own_place : (at : ℕ) (c : Change) → place_or at (noting at c) ≡ at
own_place at (DoIt text) = refl
own_place at (Method mc) = go (named mc mc.source.selector)
  where
    go : (n : Option MethodName) → place_or at (option_map (λ k. of_method kinds.Method k at) n) ≡ at
    go None = refl
    go (Some k) = refl
own_place at (Form (Define d)) = refl
own_place at (Form (ClassVars class names)) = refl
own_place at (Form (Comment class text)) = refl
own_place at (Form (RemoveMethod class side selector)) = refl
own_place at (Form (Classify class side selector category)) = refl
own_place at (Form (RemoveClass class)) = refl
own_place at (Form NoChanges) = refl

places_of : (ms : List Noted) (ps : List Placed) → Shows ms ps → list_map (λ m. m.at) ms ≡ list_map (λ p. p.0) ps
unfolding Shows
places_of [] [] h = refl
places_of [] (p ∷ ps) h = absurd h
places_of (m ∷ ms) [] h = absurd h
places_of (m ∷ ms) (p ∷ ps) h = λ i. (ap (place_or p.0) h.0 ∙ own_place p.0 p.1) i ∷ places_of ms ps h.1 i

pub set_stands : (h : HistoryState) (changes : List Change) → IsHistoryOf h changes → set_places h ≡ list_map (λ p. p.0) (set_of changes)
set_stands h changes is = places_of h.members (set_of changes) (shows_from h.members (set_of changes) is.members)

-- ---- one change more

module _ (members : List Member) (classes : Classes) (ready : Option Noted) (h : HistoryState) (is : shown members classes ready ≡ h) (c : Change) (at : ℕ) (changes : List Change) (here : at ≡ length (blocks changes))
    (history : IsHistoryOf h changes) where
  own : IsHistoryOf (shown members classes ready) changes
  own = subst (λ s. IsHistoryOf s changes) (sym is) history

  set_shown : Shows (in_set members) (set_of changes)
  set_shown = shows_from (in_set members) (set_of changes) own.members

  versions_own : (name : MethodName) → reverse (versions_in classes name) ≡ list_map (λ p. p.0) (versions_of changes name)
  versions_own name = sym (places_shown members classes ready (shown members classes ready) name refl) ∙ own.versions name

  pub history_noted : (m : Noted) (new : List Member) (now : Classes) (next : Option Noted) → noting at c ≡ Some m → in_set new ≡ noted_after m (in_set members)
      → ((name : MethodName) → versions_in now name ≡ versions_with m name (versions_in classes name)) → IsHistoryOf (shown new now next) (changes ++ c ∷ [])
  history_noted m new now next noted set versions = record {
    members = shows_to (in_set new) (set_of (changes ++ c ∷ []))
        (subst (λ ms. Shows ms (set_of (changes ++ c ∷ []))) (sym set) (set_noted changes at here (in_set members) set_shown c m noted));
    versions = λ name. places_shown new now next (shown new now next) name refl ∙ ap reverse (versions name)
        ∙ versions_noted changes c at here name (versions_in classes name) (versions_own name) m noted;
  }

  pub history_passed : (new : List Member) (next : Option Noted) → None ≡ noting 0 c → in_set new ≡ (if is_no_changes c then [] else in_set members) → IsHistoryOf (shown new classes next) (changes ++ c ∷ [])
  history_passed new next none set =
      let nothing = none_at c at none in
      record {
        members = shows_to (in_set new) (set_of (changes ++ c ∷ []))
            (subst (λ ms. Shows ms (set_of (changes ++ c ∷ []))) (sym set) (set_unnoted changes at here (in_set members) set_shown c nothing));
        versions = λ name. places_shown new classes next (shown new classes next) name refl ∙ versions_passed changes c at here name (versions_in classes name) (versions_own name) nothing;
      }
