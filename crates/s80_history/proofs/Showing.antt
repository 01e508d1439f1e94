-- The same of what is noted: what one member more leaves out by its topic.
use Rattle.std.proofs.Common.{◌≡◌, ◌∙◌, ℕ, Bool, true, false, not, ◌&&◌, ◌||◌, if◌then◌else◌, List, [], ◌∷◌, ◌++◌, length, map as list_map, Option, Some, None, option_map, refl, sym, ap, subst, append-nil}
use Rattle.std.specs.List.{list_any}
use Rattle.std.specs.Option.{option_map_or}
use Rattle.std.specs.Str.{bytes_eq}
use Rattle.std.proofs.lemmas.Option.{none-some, same_Some}
use Rattle.s80_form.specs.declared.form.Form.TheVariants.{Define, ClassVars, Comment, RemoveMethod, Classify, RemoveClass, NoChanges}
use Rattle.s80_change.specs.declared.change.Change.{Change}
use Rattle.s80_change.specs.declared.change.Change.TheVariants.{Form, Method, DoIt}
use Rattle.s80_change.specs.declared.change.Method.{Method as MethodChange}
use Rattle.s80_change.specs.Block.{blocks}
use Rattle.s80_history.specs.declared.noted.Noted.{Noted}
use Rattle.s80_history.specs.declared.noted.NotedKind.TheVariants as kinds
use Rattle.s80_history.specs.History.{noting, of_class, of_method}
use Rattle.s80_history.specs.Lists.{MethodName, Placed, comments, is_no_changes, is_put_again, is_same, named, not_left_out, puts, removes, removes_class, set_of}
use Rattle.s80_history.specs.Topics.{Topic, CommentOf, MethodOf, ends, is_new, is_on, topic_of}
use Rattle.s80_history.proofs.OneMore.{set_more, superseded, trimmed}
use Rattle.s80_history.proofs.Same.{name_same, never_both, of_either, same_name, same_text, text_same}

-- ---- members for placed changes

abbrev noted_at : Placed → Option Noted
noted_at p = noting p.0 p.1

unfoldable pub Shows : List Noted → List Placed → Type 0
Shows [] [] = Unit {0}
Shows [] (p ∷ ps) = ⊥
Shows (m ∷ ms) [] = ⊥
Shows (m ∷ ms) (p ∷ ps) = (Some m ≡ noted_at p) × Shows ms ps

pub shows_from : (ms : List Noted) (ps : List Placed) → list_map Some ms ≡ list_map (λ p. noting p.0 p.1) ps → Shows ms ps
unfolding Shows
shows_from [] [] is = tt
shows_from [] (p ∷ ps) is = absurd cc
shows_from (m ∷ ms) [] is = absurd cc
shows_from (m ∷ ms) (p ∷ ps) is =
    let one : Some m ≡ noted_at p = cc in
    let others : list_map Some ms ≡ list_map (λ q. noting q.0 q.1) ps = cc in
    (one, shows_from ms ps others)

pub shows_to : (ms : List Noted) (ps : List Placed) → Shows ms ps → list_map Some ms ≡ list_map (λ p. noting p.0 p.1) ps
unfolding Shows
shows_to [] [] h = refl
shows_to [] (p ∷ ps) h = absurd h
shows_to (m ∷ ms) [] h = absurd h
shows_to (m ∷ ms) (p ∷ ps) h = λ i. h.0 i ∷ shows_to ms ps h.1 i

shows_both : (ms ns : List Noted) (ps qs : List Placed) → Shows ms ps → Shows ns qs → Shows (ms ++ ns) (ps ++ qs)
unfolding Shows
shows_both [] ns [] qs h k = k
shows_both [] ns (p ∷ ps) qs h k = absurd h
shows_both (m ∷ ms) ns [] qs h k = absurd h
shows_both (m ∷ ms) ns (p ∷ ps) qs h k = (h.0, shows_both ms ns ps qs h.1 k)

shows_one : (m : Noted) (p : Placed) → Some m ≡ noted_at p → Shows (m ∷ []) (p ∷ [])
unfolding Shows
shows_one m p is = (is, tt)

-- ---- what removes

abbrev Meets : (Change → Bool) → (Noted → Bool) → Type 0
Meets test on = (at : ℕ) (q : Change) (m : Noted) → Some m ≡ noting at q → test q ≡ on m

-- what a test says of what is noted of a change
module _ (on : Noted → Bool) (m : Noted) where
  told : (x : Noted) → Some m ≡ Some x → on x ≡ on m
  told x is = ap on (sym (same_Some m x is))

  untold : {P : Type 0} → Some m ≡ None → P
  untold is = absurd (none-some m (sym is))

  of_put : (mc : MethodChange) (at : ℕ) (b : Bool) → ((name : MethodName) → b ≡ on (of_method kinds.Method name at)) → Some m ≡ noting at (Method mc) → b ≡ on m
  of_put mc at b each is = go (named mc mc.source.selector) is
    where
      go : (n : Option MethodName) → Some m ≡ option_map (λ name. of_method kinds.Method name at) n → b ≡ on m
      go None none = untold none
      go (Some name) one = each name ∙ told (of_method kinds.Method name at) one

class_removed : (class : List ℕ) → Meets (removes_class class) (ends (CommentOf class))
class_removed class at (DoIt text) m is = untold (ends (CommentOf class)) m is
class_removed class at (Method mc) m is = of_put (ends (CommentOf class)) m mc at false (λ name. refl) is
class_removed class at (Form (Define d)) m is = told (ends (CommentOf class)) m (of_class kinds.Define d.class_name at) is
class_removed class at (Form (ClassVars name names)) m is = told (ends (CommentOf class)) m (of_class kinds.ClassVars name at) is
class_removed class at (Form (Comment name text)) m is = told (ends (CommentOf class)) m (of_class kinds.Comment name at) is
class_removed class at (Form (RemoveMethod name side selector)) m is =
    told (ends (CommentOf class)) m (of_method kinds.RemoveMethod (record { class_name = name; side = side; selector = selector }) at) is
class_removed class at (Form (Classify name side selector category)) m is =
    told (ends (CommentOf class)) m (of_method kinds.Classify (record { class_name = name; side = side; selector = selector }) at) is
class_removed class at (Form (RemoveClass name)) m is = told (ends (CommentOf class)) m (of_class kinds.RemoveClass name at) is
class_removed class at (Form NoChanges) m is = untold (ends (CommentOf class)) m is

method_removed : (name : MethodName) → Meets (removes name) (ends (MethodOf name))
method_removed name at (DoIt text) m is = untold (ends (MethodOf name)) m is
method_removed name at (Method mc) m is = of_put (ends (MethodOf name)) m mc at false (λ n. refl) is
method_removed name at (Form (Define d)) m is = told (ends (MethodOf name)) m (of_class kinds.Define d.class_name at) is
method_removed name at (Form (ClassVars class names)) m is = told (ends (MethodOf name)) m (of_class kinds.ClassVars class at) is
method_removed name at (Form (Comment class text)) m is = told (ends (MethodOf name)) m (of_class kinds.Comment class at) is
method_removed name at (Form (RemoveMethod class side selector)) m is =
    told (ends (MethodOf name)) m (of_method kinds.RemoveMethod (record { class_name = class; side = side; selector = selector }) at) is
method_removed name at (Form (Classify class side selector category)) m is =
    told (ends (MethodOf name)) m (of_method kinds.Classify (record { class_name = class; side = side; selector = selector }) at) is
method_removed name at (Form (RemoveClass class)) m is = told (ends (MethodOf name)) m (of_class kinds.RemoveClass class at) is
method_removed name at (Form NoChanges) m is = untold (ends (MethodOf name)) m is

abbrev changes_of : List Placed → List Change
changes_of ps = list_map (λ p. p.1) ps

any_meets : (test : Change → Bool) (on : Noted → Bool) → Meets test on → (ms : List Noted) (ps : List Placed) → Shows ms ps → list_any test (changes_of ps) ≡ list_any on ms
unfolding Shows
any_meets test on meet [] [] h = refl
any_meets test on meet [] (p ∷ ps) h = absurd h
any_meets test on meet (m ∷ ms) [] h = absurd h
any_meets test on meet (m ∷ ms) (p ∷ ps) h = λ i. meet p.0 p.1 m h.0 i || any_meets test on meet ms ps h.1 i

-- ---- what one member more leaves out

abbrev pub left_by : Topic → List Noted → List Noted
left_by u [] = []
left_by u (m ∷ later) = if is_on u m && not (list_any (ends u) later) then left_by u later else m ∷ left_by u later

-- a change leaves out what its topic's members are, but before a removal
abbrev LeavesOut : Change → Topic → Type 0
LeavesOut c u = (at : ℕ) (q : Change) (m : Noted) (ms : List Noted) (ps : List Placed) → Some m ≡ noting at q → Shows ms ps
    → superseded c q (changes_of ps) ≡ (is_on u m && not (list_any (ends u) ms))

module _ (m : Noted) (ms : List Noted) (u : Topic) where
  abbrev left : Noted → Bool
  left x = is_on u x && not (list_any (ends u) ms)

module _ (mc : MethodChange) (name : MethodName) (names : named mc mc.source.selector ≡ Some name) where
  puts_it : (n : MethodName) → puts n (Method mc) ≡ is_same n name
  puts_it n = ap (λ o. option_map_or (is_same n) o false) names

  put_leaves : (n : MethodName) (ms : List Noted) (ps : List Placed) → Shows ms ps
      → (not (list_any (removes n) (changes_of ps)) && puts n (Method mc)) ≡ (is_same name n && not (list_any (ends (MethodOf name)) ms))
  put_leaves n ms ps h =
      (λ i. not (any_meets (removes n) (ends (MethodOf n)) (method_removed n) ms ps h i) && puts_it n i)
      ∙ of_either is_same name_same same_name (λ k. list_any (ends (MethodOf k)) ms) n name

  by_put : LeavesOut (Method mc) (MethodOf name)
  by_put at (DoIt text) m ms ps is h = untold (λ x. false) m is
  by_put at (Method q) m ms ps is h = go (named q q.source.selector) is
    where
      go : (n : Option MethodName) → Some m ≡ option_map (λ k. of_method kinds.Method k at) n
          → option_map_or (λ k. not (list_any (removes k) (changes_of ps)) && puts k (Method mc)) n false ≡ (is_on (MethodOf name) m && not (list_any (ends (MethodOf name)) ms))
      go None none = untold (λ x. false) m none
      go (Some n) one = put_leaves n ms ps h ∙ told (left m ms (MethodOf name)) m (of_method kinds.Method n at) one
  by_put at (Form (Define d)) m ms ps is h = told (left m ms (MethodOf name)) m (of_class kinds.Define d.class_name at) is
  by_put at (Form (ClassVars class names)) m ms ps is h = told (left m ms (MethodOf name)) m (of_class kinds.ClassVars class at) is
  by_put at (Form (Comment class text)) m ms ps is h =
      never_both (not (list_any (removes_class class) (changes_of ps))) ∙ told (left m ms (MethodOf name)) m (of_class kinds.Comment class at) is
  by_put at (Form (RemoveMethod class side selector)) m ms ps is h =
      told (left m ms (MethodOf name)) m (of_method kinds.RemoveMethod (record { class_name = class; side = side; selector = selector }) at) is
  by_put at (Form (Classify class side selector category)) m ms ps is h =
      let n : MethodName = record { class_name = class; side = side; selector = selector } in
      put_leaves n ms ps h ∙ told (left m ms (MethodOf name)) m (of_method kinds.Classify n at) is
  by_put at (Form (RemoveClass class)) m ms ps is h = told (left m ms (MethodOf name)) m (of_class kinds.RemoveClass class at) is
  by_put at (Form NoChanges) m ms ps is h = untold (λ x. false) m is

module _ (class text : List ℕ) where
  by_comment : LeavesOut (Form (Comment class text)) (CommentOf class)
  by_comment at (DoIt other) m ms ps is h = untold (λ x. false) m is
  by_comment at (Method q) m ms ps is h = go (named q q.source.selector) is
    where
      go : (n : Option MethodName) → Some m ≡ option_map (λ k. of_method kinds.Method k at) n
          → option_map_or (λ k. not (list_any (removes k) (changes_of ps)) && puts k (Form (Comment class text))) n false
          ≡ (is_on (CommentOf class) m && not (list_any (ends (CommentOf class)) ms))
      go None none = untold (λ x. false) m none
      go (Some n) one = never_both (not (list_any (removes n) (changes_of ps))) ∙ told (left m ms (CommentOf class)) m (of_method kinds.Method n at) one
  by_comment at (Form (Define d)) m ms ps is h = told (left m ms (CommentOf class)) m (of_class kinds.Define d.class_name at) is
  by_comment at (Form (ClassVars name names)) m ms ps is h = told (left m ms (CommentOf class)) m (of_class kinds.ClassVars name at) is
  by_comment at (Form (Comment name other)) m ms ps is h =
      ap (λ b. not b && bytes_eq name class) (any_meets (removes_class name) (ends (CommentOf name)) (class_removed name) ms ps h)
      ∙ of_either bytes_eq text_same same_text (λ k. list_any (ends (CommentOf k)) ms) name class
      ∙ told (left m ms (CommentOf class)) m (of_class kinds.Comment name at) is
  by_comment at (Form (RemoveMethod name side selector)) m ms ps is h =
      told (left m ms (CommentOf class)) m (of_method kinds.RemoveMethod (record { class_name = name; side = side; selector = selector }) at) is
  by_comment at (Form (Classify name side selector category)) m ms ps is h =
      let n : MethodName = record { class_name = name; side = side; selector = selector } in
      never_both (not (list_any (removes n) (changes_of ps))) ∙ told (left m ms (CommentOf class)) m (of_method kinds.Classify n at) is
  by_comment at (Form (RemoveClass name)) m ms ps is h = told (left m ms (CommentOf class)) m (of_class kinds.RemoveClass name at) is
  by_comment at (Form NoChanges) m ms ps is h = untold (λ x. false) m is

trimmed_shows : (c : Change) (u : Topic) → LeavesOut c u → (ms : List Noted) (ps : List Placed) → Shows ms ps → Shows (left_by u ms) (trimmed c ps)
unfolding Shows
trimmed_shows c u leaves [] [] h = tt
trimmed_shows c u leaves [] (p ∷ ps) h = absurd h
trimmed_shows c u leaves (m ∷ ms) [] h = absurd h
trimmed_shows c u leaves (m ∷ ms) (p ∷ ps) h = go (is_on u m && not (list_any (ends u) ms)) (superseded c p.1 (changes_of ps)) (leaves p.0 p.1 m ms ps h.0 h.1) (trimmed_shows c u leaves ms ps h.1)
  where
    go : (b s : Bool) → s ≡ b → Shows (left_by u ms) (trimmed c ps) → Shows (if b then left_by u ms else m ∷ left_by u ms) (if s then trimmed c ps else p ∷ trimmed c ps)
    go true s e rest = subst (λ s. Shows (left_by u ms) (if s then trimmed c ps else p ∷ trimmed c ps)) (sym e) rest
    go false s e rest = subst (λ s. Shows (m ∷ left_by u ms) (if s then trimmed c ps else p ∷ trimmed c ps)) (sym e) (h.0, rest)

-- ---- what leaves out nothing

abbrev LeavesAll : Change → Type 0
LeavesAll c = ((name : MethodName) → puts name c ≡ false) × ((class : List ℕ) → comments class c ≡ false)

none_superseded : (c q : Change) (later : List Change) → LeavesAll c → superseded c q later ≡ false
none_superseded c (DoIt text) later none = refl
none_superseded c (Method m) later none = go (named m m.source.selector)
  where
    go : (n : Option MethodName) → option_map_or (λ name. not (list_any (removes name) later) && puts name c) n false ≡ false
    go None = refl
    go (Some name) = ap (λ b. not (list_any (removes name) later) && b) (none.0 name) ∙ never_both (not (list_any (removes name) later))
none_superseded c (Form (Define d)) later none = refl
none_superseded c (Form (ClassVars class names)) later none = refl
none_superseded c (Form (Comment class text)) later none = ap (λ b. not (list_any (removes_class class) later) && b) (none.1 class) ∙ never_both (not (list_any (removes_class class) later))
none_superseded c (Form (RemoveMethod class side selector)) later none = refl
none_superseded c (Form (Classify class side selector category)) later none =
    let name : MethodName = record { class_name = class; side = side; selector = selector } in
    ap (λ b. not (list_any (removes name) later) && b) (none.0 name) ∙ never_both (not (list_any (removes name) later))
none_superseded c (Form (RemoveClass class)) later none = refl
none_superseded c (Form NoChanges) later none = refl

untrimmed : (c : Change) (ps : List Placed) → LeavesAll c → trimmed c ps ≡ ps
untrimmed c [] none = refl
untrimmed c (p ∷ ps) none =
    ap (λ b. if b then trimmed c ps else p ∷ trimmed c ps) (none_superseded c p.1 (changes_of ps) none) ∙ ap (λ qs. p ∷ qs) (untrimmed c ps none)

-- ---- the members with one more

abbrev pub without_topic : Option Topic → List Noted → List Noted
without_topic u ms = option_map_or (λ u. left_by u ms) u ms

abbrev pub noted_after : Noted → List Noted → List Noted
noted_after m ms = (if is_new m then without_topic (topic_of m) ms else ms) ++ m ∷ []

module _ (changes : List Change) (at : ℕ) (here : at ≡ length (blocks changes)) (ms : List Noted) (shown : Shows ms (set_of changes)) where
  -- a change that leaves out nothing
  added : (c : Change) (x m : Noted) → x ≡ m → is_new x ≡ false → LeavesAll c → Some x ≡ noting at c → is_no_changes c ≡ false → not_left_out ((at, c) ∷ []) ≡ (at, c) ∷ []
      → Shows (noted_after m ms) (set_of (changes ++ c ∷ []))
  added c x m same old none is goes stays =
      let now : set_of (changes ++ c ∷ []) ≡ set_of changes ++ (at, c) ∷ [] =
      set_more changes c at here ∙ ap (λ b. if b then [] else trimmed c (set_of changes) ++ not_left_out ((at, c) ∷ [])) goes
      ∙ (λ i. untrimmed c (set_of changes) none i ++ stays i) in
      let of_x : Shows (ms ++ x ∷ []) (set_of changes ++ (at, c) ∷ []) = shows_both ms (x ∷ []) (set_of changes) ((at, c) ∷ []) shown (shows_one x (at, c) is) in
      let kept : (if is_new x then without_topic (topic_of x) ms else ms) ≡ ms = ap (λ b. if b then without_topic (topic_of x) ms else ms) old in
      subst (λ y. Shows (noted_after y ms) (set_of (changes ++ c ∷ []))) same
      (subst (λ ps. Shows (noted_after x ms) ps) (sym now) (subst (λ l. Shows (l ++ x ∷ []) (set_of changes ++ (at, c) ∷ [])) (sym kept) of_x))

  -- a change that leaves out what has its topic
  put : (c : Change) (u : Topic) (x m : Noted) → x ≡ m → is_new x ≡ true → topic_of x ≡ Some u → LeavesOut c u → Some x ≡ noting at c → is_no_changes c ≡ false
      → not_left_out ((at, c) ∷ []) ≡ (at, c) ∷ [] → Shows (noted_after m ms) (set_of (changes ++ c ∷ []))
  put c u x m same new topic leaves is goes stays =
      let now : set_of (changes ++ c ∷ []) ≡ trimmed c (set_of changes) ++ (at, c) ∷ [] =
      set_more changes c at here ∙ ap (λ b. if b then [] else trimmed c (set_of changes) ++ not_left_out ((at, c) ∷ [])) goes
      ∙ ap (λ ps. trimmed c (set_of changes) ++ ps) stays in
      let of_x : Shows (left_by u ms ++ x ∷ []) (trimmed c (set_of changes) ++ (at, c) ∷ []) =
      shows_both (left_by u ms) (x ∷ []) (trimmed c (set_of changes)) ((at, c) ∷ []) (trimmed_shows c u leaves ms (set_of changes) shown) (shows_one x (at, c) is) in
      let kept : (if is_new x then without_topic (topic_of x) ms else ms) ≡ left_by u ms =
      ap (λ b. if b then without_topic (topic_of x) ms else ms) new ∙ ap (λ t. without_topic t ms) topic in
      subst (λ y. Shows (noted_after y ms) (set_of (changes ++ c ∷ []))) same
      (subst (λ ps. Shows (noted_after x ms) ps) (sym now) (subst (λ l. Shows (l ++ x ∷ []) (trimmed c (set_of changes) ++ (at, c) ∷ [])) (sym kept) of_x))

  pub set_noted : (c : Change) (m : Noted) → noting at c ≡ Some m → Shows (noted_after m ms) (set_of (changes ++ c ∷ []))
  set_noted (DoIt text) m is = absurd (none-some m is)
  set_noted (Method mc) m is = go (named mc mc.source.selector) refl is
    where
      go : (n : Option MethodName) → named mc mc.source.selector ≡ n → option_map (λ k. of_method kinds.Method k at) n ≡ Some m → Shows (noted_after m ms) (set_of (changes ++ Method mc ∷ []))
      go None names none = absurd (none-some m none)
      go (Some name) names one =
          put (Method mc) (MethodOf name) (of_method kinds.Method name at) m (same_Some (of_method kinds.Method name at) m one) refl refl (by_put mc name names)
          (sym (ap (option_map (λ k. of_method kinds.Method k at)) names)) refl
          (ap (λ o. if option_map_or (λ k. is_put_again k []) o true then [] else (at, Method mc) ∷ []) names)
  set_noted (Form (Define d)) m is = let x = of_class kinds.Define d.class_name at in added (Form (Define d)) x m (same_Some x m is) refl ((λ name. refl), (λ class. refl)) refl refl refl
  set_noted (Form (ClassVars class names)) m is =
      let x = of_class kinds.ClassVars class at in added (Form (ClassVars class names)) x m (same_Some x m is) refl ((λ name. refl), (λ class. refl)) refl refl refl
  set_noted (Form (Comment class text)) m is =
      let x = of_class kinds.Comment class at in put (Form (Comment class text)) (CommentOf class) x m (same_Some x m is) refl refl (by_comment class text) refl refl refl
  set_noted (Form (RemoveMethod class side selector)) m is =
      let x = of_method kinds.RemoveMethod (record { class_name = class; side = side; selector = selector }) at in
      added (Form (RemoveMethod class side selector)) x m (same_Some x m is) refl ((λ name. refl), (λ class. refl)) refl refl refl
  set_noted (Form (Classify class side selector category)) m is =
      let x = of_method kinds.Classify (record { class_name = class; side = side; selector = selector }) at in
      added (Form (Classify class side selector category)) x m (same_Some x m is) refl ((λ name. refl), (λ class. refl)) refl refl refl
  set_noted (Form (RemoveClass class)) m is = let x = of_class kinds.RemoveClass class at in added (Form (RemoveClass class)) x m (same_Some x m is) refl ((λ name. refl), (λ class. refl)) refl refl refl
  set_noted (Form NoChanges) m is = absurd (none-some m is)

  -- a change of which nothing is noted
  passed : (c : Change) → LeavesAll c → is_no_changes c ≡ false → not_left_out ((at, c) ∷ []) ≡ [] → Shows ms (set_of (changes ++ c ∷ []))
  passed c none goes gone =
      let now : set_of (changes ++ c ∷ []) ≡ set_of changes ++ [] =
      set_more changes c at here ∙ ap (λ b. if b then [] else trimmed c (set_of changes) ++ not_left_out ((at, c) ∷ [])) goes
      ∙ (λ i. untrimmed c (set_of changes) none i ++ gone i) in
      subst (λ ps. Shows ms ps) (sym (now ∙ append-nil (set_of changes))) shown

  pub set_unnoted : (c : Change) → noting at c ≡ None → Shows (if is_no_changes c then [] else ms) (set_of (changes ++ c ∷ []))
  unfolding Shows
  set_unnoted (DoIt text) is = passed (DoIt text) ((λ name. refl), (λ class. refl)) refl refl
  set_unnoted (Method mc) is = go (named mc mc.source.selector) refl is
    where
      go : (n : Option MethodName) → named mc mc.source.selector ≡ n → option_map (λ k. of_method kinds.Method k at) n ≡ None → Shows ms (set_of (changes ++ Method mc ∷ []))
      go (Some name) names one = absurd (none-some (of_method kinds.Method name at) (sym one))
      go None names none =
          passed (Method mc) ((λ name. ap (λ o. option_map_or (is_same name) o false) names), (λ class. refl)) refl
          (ap (λ o. if option_map_or (λ k. is_put_again k []) o true then [] else (at, Method mc) ∷ []) names)
  set_unnoted (Form (Define d)) is = absurd (none-some (of_class kinds.Define d.class_name at) (sym is))
  set_unnoted (Form (ClassVars class names)) is = absurd (none-some (of_class kinds.ClassVars class at) (sym is))
  set_unnoted (Form (Comment class text)) is = absurd (none-some (of_class kinds.Comment class at) (sym is))
  set_unnoted (Form (RemoveMethod class side selector)) is = absurd (none-some (of_method kinds.RemoveMethod (record { class_name = class; side = side; selector = selector }) at) (sym is))
  set_unnoted (Form (Classify class side selector category)) is = absurd (none-some (of_method kinds.Classify (record { class_name = class; side = side; selector = selector }) at) (sym is))
  set_unnoted (Form (RemoveClass class)) is = absurd (none-some (of_class kinds.RemoveClass class at) (sym is))
  set_unnoted (Form NoChanges) is = subst (λ ps. Shows [] ps) (sym (set_more changes (Form NoChanges) at here)) tt
