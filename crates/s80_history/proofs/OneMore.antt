-- What one change more makes of a change set: what it leaves out goes, and it stands last.
use Rattle.std.proofs.Common.{◌≡◌, ◌∙◌, ℕ, ◌+◌, Bool, true, false, not, ◌&&◌, ◌||◌, if◌then◌else◌, List, [], ◌∷◌, ◌++◌, length, map, Option, Some, None, refl, sym, ap, arith, true≢false, length-append}
use Rattle.std.specs.List.{list_any}
use Rattle.std.specs.Option.{option_map_or}
use Rattle.std.proofs.lemmas.Bool.{false_from_ne_true}
use Rattle.std.proofs.lemmas.List.{map-append}
use Rattle.std.proofs.lemmas.List.Folds.{list_any-append}
use Rattle.s80_form.specs.declared.form.Form.TheVariants.{Define, ClassVars, Comment, RemoveMethod, Classify, RemoveClass, NoChanges}
use Rattle.s80_change.specs.declared.change.Change.{Change}
use Rattle.s80_change.specs.declared.change.Change.TheVariants.{Form, Method, DoIt}
use Rattle.s80_change.specs.Block.{block, blocks}
use Rattle.s80_history.specs.Lists.{MethodName, Placed, behind_last, comes_before, comments, is_left_out, is_no_changes, is_put_again, named, not_left_out, placed_from, puts, removes, removes_class, set_of}

-- ---- tests of one change more

more_test : (p e a b q : Bool) → (p || (not e && (a || (not b && q)))) ≡ ((p || (not e && a)) || (not (e || b) && q))
more_test true e a b q = refl
more_test false true a b q = refl
more_test false false a b q = refl

one_test : (p e : Bool) → (p || (not e && false)) ≡ (false || (not false && p))
one_test true e = refl
one_test false true = refl
one_test false false = refl

comes_more : (passes ends : Change → Bool) (changes : List Change) (c : Change) → comes_before passes ends (changes ++ c ∷ []) ≡ (comes_before passes ends changes || (not (list_any ends changes) && passes c))
comes_more passes ends [] c = one_test (passes c) (ends c)
comes_more passes ends (d ∷ changes) c =
    ap (λ r. passes d || (not (ends d) && r)) (comes_more passes ends changes c) ∙ more_test (passes d) (ends d) (comes_before passes ends changes) (list_any ends changes) (passes c)

-- whether the last change leaves out one that was in the set, by those between
abbrev pub superseded : Change → Change → List Change → Bool
superseded c (DoIt text) later = false
superseded c (Method m) later = option_map_or (λ name. not (list_any (removes name) later) && puts name c) (named m m.source.selector) false
superseded c (Form (Classify class side selector category)) later =
    not (list_any (removes (record { class_name = class; side = side; selector = selector })) later) && puts (record { class_name = class; side = side; selector = selector }) c
superseded c (Form (Comment class text)) later = not (list_any (removes_class class) later) && comments class c
superseded c (Form _) later = false

left_more : (c q : Change) (later : List Change) → is_left_out q (later ++ c ∷ []) ≡ (is_left_out q later || superseded c q later)
left_more c (DoIt text) later = refl
left_more c (Method m) later = by_name (named m m.source.selector)
  where
    by_name : (n : Option MethodName) → option_map_or (λ name. is_put_again name (later ++ c ∷ [])) n true
        ≡ (option_map_or (λ name. is_put_again name later) n true || option_map_or (λ name. not (list_any (removes name) later) && puts name c) n false)
    by_name None = refl
    by_name (Some name) = comes_more (puts name) (removes name) later c
left_more c (Form (Define d)) later = refl
left_more c (Form (ClassVars class names)) later = refl
left_more c (Form (Comment class text)) later = comes_more (comments class) (removes_class class) later c
left_more c (Form (RemoveMethod class side selector)) later = refl
left_more c (Form (Classify class side selector category)) later =
    let name : MethodName = record { class_name = class; side = side; selector = selector } in
    comes_more (puts name) (removes name) later c
left_more c (Form (RemoveClass class)) later = refl
left_more c (Form NoChanges) later = refl

-- ---- removals stay in the set

abbrev StayIn : (Change → Bool) → Type 0
StayIn test = (c : Change) (later : List Change) → test c ≡ true → is_left_out c later ≡ false

class_removals_stay : (class : List ℕ) → StayIn (removes_class class)
class_removals_stay class (DoIt text) later e = absurd (true≢false (sym e))
class_removals_stay class (Method m) later e = absurd (true≢false (sym e))
class_removals_stay class (Form (Define d)) later e = refl
class_removals_stay class (Form (ClassVars name names)) later e = refl
class_removals_stay class (Form (Comment name text)) later e = absurd (true≢false (sym e))
class_removals_stay class (Form (RemoveMethod name side selector)) later e = refl
class_removals_stay class (Form (Classify name side selector category)) later e = absurd (true≢false (sym e))
class_removals_stay class (Form (RemoveClass name)) later e = refl
class_removals_stay class (Form NoChanges) later e = refl

removals_stay : (name : MethodName) → StayIn (removes name)
removals_stay name (DoIt text) later e = absurd (true≢false (sym e))
removals_stay name (Method m) later e = absurd (true≢false (sym e))
removals_stay name (Form (Define d)) later e = refl
removals_stay name (Form (ClassVars class names)) later e = refl
removals_stay name (Form (Comment class text)) later e = absurd (true≢false (sym e))
removals_stay name (Form (RemoveMethod class side selector)) later e = refl
removals_stay name (Form (Classify class side selector category)) later e = absurd (true≢false (sym e))
removals_stay name (Form (RemoveClass class)) later e = refl
removals_stay name (Form NoChanges) later e = refl

abbrev changes_of : List Placed → List Change
changes_of ps = map (λ p. p.1) ps

any_stays : (test : Change → Bool) → StayIn test → (ps : List Placed) → list_any test (changes_of (not_left_out ps)) ≡ list_any test (changes_of ps)
any_stays test stay [] = refl
any_stays test stay (p ∷ ps) = go (is_left_out p.1 (changes_of ps)) refl (any_stays test stay ps)
  where
    go : (b : Bool) → is_left_out p.1 (changes_of ps) ≡ b → list_any test (changes_of (not_left_out ps)) ≡ list_any test (changes_of ps)
        → list_any test (changes_of (if b then not_left_out ps else p ∷ not_left_out ps)) ≡ (test p.1 || list_any test (changes_of ps))
    go true is rest =
        let none : test p.1 ≡ false = false_from_ne_true (test p.1) (λ passes. true≢false (sym is ∙ stay p.1 (changes_of ps) passes)) in
        rest ∙ ap (λ b. b || list_any test (changes_of ps)) (sym none)
    go false is rest = ap (λ r. test p.1 || r) rest

superseded_same : (c q : Change) (ps : List Placed) → superseded c q (changes_of (not_left_out ps)) ≡ superseded c q (changes_of ps)
superseded_same c (DoIt text) ps = refl
superseded_same c (Method m) ps = by_name (named m m.source.selector)
  where
    by_name : (n : Option MethodName) → option_map_or (λ name. not (list_any (removes name) (changes_of (not_left_out ps))) && puts name c) n false
        ≡ option_map_or (λ name. not (list_any (removes name) (changes_of ps)) && puts name c) n false
    by_name None = refl
    by_name (Some name) = ap (λ b. not b && puts name c) (any_stays (removes name) (removals_stay name) ps)
superseded_same c (Form (Define d)) ps = refl
superseded_same c (Form (ClassVars class names)) ps = refl
superseded_same c (Form (Comment class text)) ps = ap (λ b. not b && comments class c) (any_stays (removes_class class) (class_removals_stay class) ps)
superseded_same c (Form (RemoveMethod class side selector)) ps = refl
superseded_same c (Form (Classify class side selector category)) ps =
    let name : MethodName = record { class_name = class; side = side; selector = selector } in
    ap (λ b. not b && puts name c) (any_stays (removes name) (removals_stay name) ps)
superseded_same c (Form (RemoveClass class)) ps = refl
superseded_same c (Form NoChanges) ps = refl

-- ---- the set without what one change more leaves out

abbrev pub trimmed : Change → List Placed → List Placed
trimmed c [] = []
trimmed c (q ∷ later) = if superseded c q.1 (changes_of later) then trimmed c later else q ∷ trimmed c later

trimmed_more : (c : Change) (q : Placed) (kept all last : List Placed) (a s : Bool) → superseded c q.1 (changes_of kept) ≡ s → all ≡ trimmed c kept ++ last
    → (if a || s then all else q ∷ all) ≡ trimmed c (if a then kept else q ∷ kept) ++ last
trimmed_more c q kept all last true s same rest = rest
trimmed_more c q kept all last false true same rest = rest ∙ ap (λ b. (if b then trimmed c kept else q ∷ trimmed c kept) ++ last) (sym same)
trimmed_more c q kept all last false false same rest = ap (λ ps. q ∷ ps) rest ∙ ap (λ b. (if b then trimmed c kept else q ∷ trimmed c kept) ++ last) (sym same)

not_left_out_more : (ps : List Placed) (p : Placed) → not_left_out (ps ++ p ∷ []) ≡ trimmed p.1 (not_left_out ps) ++ not_left_out (p ∷ [])
not_left_out_more [] p = refl
not_left_out_more (q ∷ ps) p =
    ap (λ b. if b then not_left_out (ps ++ p ∷ []) else q ∷ not_left_out (ps ++ p ∷ []))
    (ap (is_left_out q.1) (map-append (λ (r : Placed). r.1) ps (p ∷ [])) ∙ left_more p.1 q.1 (changes_of ps))
    ∙ trimmed_more p.1 q (not_left_out ps) (not_left_out (ps ++ p ∷ [])) (not_left_out (p ∷ [])) (is_left_out q.1 (changes_of ps)) (superseded p.1 q.1 (changes_of ps))
    (superseded_same p.1 q.1 ps) (not_left_out_more ps p)

-- ---- behind the last that begins the set anew

or_false : (x y : Bool) → (x || (y || false)) ≡ (x || y)
or_false x true = refl
or_false x false = refl

behind_one : (q p : Placed) (ps all : List Placed) (kept : List Placed) (a b c : Bool) → all ≡ (if b then [] else kept ++ p ∷ [])
    → (if a || b then all else (if c then ps ++ p ∷ [] else q ∷ (ps ++ p ∷ []))) ≡ (if b then [] else (if a then kept else (if c then ps else q ∷ ps)) ++ p ∷ [])
behind_one q p ps all kept true true c rest = rest
behind_one q p ps all kept true false c rest = rest
behind_one q p ps all kept false true c rest = rest
behind_one q p ps all kept false false true rest = refl
behind_one q p ps all kept false false false rest = refl

behind_more : (passes : Change → Bool) (ps : List Placed) (p : Placed) → behind_last passes (ps ++ p ∷ []) ≡ (if passes p.1 then [] else behind_last passes ps ++ p ∷ [])
behind_more passes [] p = refl
behind_more passes (q ∷ ps) p =
    ap (λ b. if b then behind_last passes (ps ++ p ∷ []) else (if passes q.1 then ps ++ p ∷ [] else q ∷ (ps ++ p ∷ [])))
    (list_any-append (λ (r : Placed). passes r.1) ps (p ∷ []) ∙ or_false (list_any (λ (r : Placed). passes r.1) ps) (passes p.1))
    ∙ behind_one q p ps (behind_last passes (ps ++ p ∷ [])) (behind_last passes ps) (list_any (λ (r : Placed). passes r.1) ps) (passes p.1) (passes q.1) (behind_more passes ps p)

-- ---- places

pub placed_more : (at : ℕ) (changes : List Change) (c : Change) → placed_from at (changes ++ c ∷ []) ≡ placed_from at changes ++ (at + length (blocks changes), c) ∷ []
placed_more at [] c = ap (λ n. (n, c) ∷ []) here
  where
    here : at ≡ at + 0
    here = omega arith
placed_more at (d ∷ changes) c =
    ap (λ ps. (at, d) ∷ ps) (placed_more (at + length (block d)) changes c ∙ ap (λ n. placed_from (at + length (block d)) changes ++ (n, c) ∷ []) end)
  where
    end : at + length (block d) + length (blocks changes) ≡ at + length (blocks (d ∷ changes))
    end = omega (arith, length-append (block d) (blocks changes))

-- ---- the set with one change more

anew : (c : Change) (kept : List Placed) (p : Placed) (b : Bool) → not_left_out (if b then [] else kept ++ p ∷ []) ≡ (if b then [] else trimmed p.1 (not_left_out kept) ++ not_left_out (p ∷ []))
anew c kept p true = refl
anew c kept p false = not_left_out_more kept p

pub set_more : (changes : List Change) (c : Change) (at : ℕ) → at ≡ length (blocks changes)
    → set_of (changes ++ c ∷ []) ≡ (if is_no_changes c then [] else trimmed c (set_of changes) ++ not_left_out ((at, c) ∷ []))
set_more changes c at here =
    ap (λ ps. not_left_out (behind_last is_no_changes ps)) (placed_more 0 changes c ∙ ap (λ n. placed_from 0 changes ++ (n, c) ∷ []) place)
    ∙ ap not_left_out (behind_more is_no_changes (placed_from 0 changes) (at, c))
    ∙ anew c (behind_last is_no_changes (placed_from 0 changes)) (at, c) (is_no_changes c)
  where
    place : 0 + length (blocks changes) ≡ at
    place = omega (arith, here)
