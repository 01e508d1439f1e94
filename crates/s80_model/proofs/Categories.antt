-- Lines by category, a selector at a time.
use Rattle.std.proofs.Common.{Bor, ◌≡◌, ◌∙◌, ◌&&◌, ◌||◌, ◌+◌, ◌≤◌, ℕ, zero, suc, take, Bool, T, true, false, cond, refl, sym, ap, subst, List, [], ◌∷◌, ◌++◌, Vec, Option, Some, None, option_map, is_some, IsSome, length, true≢false, arith, append_assoc}
use Rattle.std.specs.Prelude.{map as list_map, unwrap_or}
use Rattle.std.specs.List.{filter, flat_map, list_any, slice_get}
use Rattle.std.specs.Map.{lookup, set_value}
use Rattle.std.specs.Map.Iter.{deref_pair}
use Rattle.std.proofs.Math.Seq.{take_all}
use Rattle.std.specs.FinMap as map
use Rattle.std.specs.FinMap.Entries.{below_all, by_order, find, is_sorted, put, same_entries}
use Rattle.std.specs.Str.{bytes_eq}
use Rattle.std.specs.Ordering.{nat_cmp, eq_by_cmp, is_eq, is_lt, match_ordering}
use Rattle.std.specs.declared.cmp.Ordering.{Ordering}
use Rattle.std.specs.declared.cmp.Ordering.TheVariants.{Less, Equal, Greater}
use Rattle.std.specs.Cmp.{IsTotalOrder, eq_by_cmp_equiv}
use Rattle.std.specs.Cmp.Lexicographic.{slice_cmp, nat_list_cmp_total, bytes_decides}
use Rattle.std.proofs.lemmas.List.{append-nil, take_more}
use Rattle.std.proofs.lemmas.Option.{slice_get_within, get_or_from_slice_get}
use Rattle.std.proofs.lemmas.List.Concat.{flat_map-append}
use Rattle.std.proofs.lemmas.List.Elements.{filter-append}
use Rattle.std.proofs.lemmas.Map.Text.{is_eq-slice_cmp}
use Rattle.std.specs.BTreeMap.{insert_entry}
use Rattle.s80_dict.specs.Dict.{Bytes, Methods}
use Rattle.s80_apply.specs.State.{MethodRow}
use Rattle.s80_apply.specs.Entries.{AreEntriesOf, Entry, state_row}
use Rattle.s80_model.specs.Entries.{AreLines, Lines, category_in, line_at, lines_of, shown, spaced, with_line}
use Rattle.s80_lex.specs.Spelling.{quoted}
use Rattle.s80_model.specs.Texts.{categories, category_at, category_lines, selectors_of}
use Rattle.s80_model.proofs.Telling.{filter_same}

abbrev pub R : Bytes → Bytes → Ordering
R = slice_cmp nat_cmp

o : IsTotalOrder R
o = nat_list_cmp_total

same : map.IsAntisymmetric R
same = map.slice_cmp-IsAntisymmetric map.nat_cmp-IsAntisymmetric

-- the two tests of a key agree
test_is : (q c : Bytes) → eq_by_cmp R q c ≡ bytes_eq c q
test_is q c = (eq_by_cmp_equiv o).symm q c ∙ is_eq-slice_cmp c q

ties : (q c : Bytes) → eq_by_cmp R q c ≡ true → q ≡ c
ties q c is = (bytes_decides q c).0 (sym (is_eq-slice_cmp q c) ∙ is)

self : (q : Bytes) → eq_by_cmp R q q ≡ true
self q = is_eq-slice_cmp q q ∙ (bytes_decides q q).1 refl

-- ---- lists of entries in order

first : (a b : Bool) → T (a && b) → T a
first true b p = tt
first false b p = absurd p

second : (a b : Bool) → T (a && b) → T b
second true b p = p
second false b p = absurd p

less_is : (r : Ordering) → T (is_lt r) → r ≡ Less
less_is Less p = refl
less_is Equal p = absurd p
less_is Greater p = absurd p

not_there : (q : Bytes) (es : List (Bytes × List ℕ)) → T (below_all R q es) → find R q es ≡ None
not_there q [] below = refl
not_there q (e ∷ es) below =
    ap (λ r. cond (is_eq r) (Some e.1) (find R q es)) (less_is (R q e.0) (first (is_lt (R q e.0)) (below_all R q es) below))
    ∙ not_there q es (second (is_lt (R q e.0)) (below_all R q es) below)

below_none : (q k : Bytes) (es : List (Bytes × List ℕ)) → R q k ≡ Less → T (below_all R k es) → find R q es ≡ None
below_none q k [] less below = refl
below_none q k (e ∷ es) less below =
    ap (λ r. cond (is_eq r) (Some e.1) (find R q es)) (o.trans q k e.0 less (less_is (R k e.0) (first (is_lt (R k e.0)) (below_all R k es) below)))
    ∙ below_none q k es less (second (is_lt (R k e.0)) (below_all R k es) below)

-- each entry has the value of its key
valued : (v : Bytes → List ℕ) (es : List (Bytes × List ℕ)) → T (is_sorted R es) → ((q : Bytes) (x : List ℕ) → find R q es ≡ Some x → x ≡ v q) → es ≡ list_map (λ e. (e.0, v e.0)) es
valued v [] up is = refl
valued v (e ∷ es) up is =
    let head : e.1 ≡ v e.0 = is e.0 e.1 (ap (λ b. cond b (Some e.1) (find R e.0 es)) (self e.0)) in
    let rest = valued v es (second (below_all R e.0 es) (is_sorted R es) up) (λ q x found. is q x (later q x found)) in
    λ i. (e.0, head i) ∷ rest i
  where
    later : (q : Bytes) (x : List ℕ) → find R q es ≡ Some x → find R q (e ∷ es) ≡ Some x
    later q x found = elim (eq_by_cmp R q e.0) as (λ b. eq_by_cmp R q e.0 ≡ b → cond b (Some e.1) (find R q es) ≡ Some x) [
      | true ↦ λ tied. absurd (true≢false (sym (ap is_some (sym (ap (λ k. find R k es) (ties q e.0 tied) ∙ not_there e.0 es (first (below_all R e.0 es) (is_sorted R es) up)) ∙ found))))
      | false ↦ λ apart. found
    ] refl

abbrev unit : Unit {0}
unit = tt

abbrev units : List (Bytes × List ℕ) → List (Bytes × Unit {0})
units es = list_map (λ e. (e.0, unit)) es

units_below : (k : Bytes) (es : List (Bytes × List ℕ)) → below_all R k (units es) ≡ below_all R k es
units_below k [] = refl
units_below k (e ∷ es) = ap (λ b. is_lt (R k e.0) && b) (units_below k es)

units_sorted : (es : List (Bytes × List ℕ)) → is_sorted R (units es) ≡ is_sorted R es
units_sorted [] = refl
units_sorted (e ∷ es) = λ i. units_below e.0 es i && units_sorted es i

units_find : (q : Bytes) (es : List (Bytes × List ℕ)) → find R q (units es) ≡ option_map (λ _. unit) (find R q es)
units_find q [] = refl
units_find q (e ∷ es) = elim (eq_by_cmp R q e.0) as (λ b. cond b (Some unit) (find R q (units es)) ≡ option_map (λ _. unit) (cond b (Some e.1) (find R q es))) [ true ↦ refl | false ↦ units_find q es ]

units_keys : (es : List (Bytes × List ℕ)) → list_map (λ e. e.0) (units es) ≡ list_map (λ e. e.0) es
units_keys [] = refl
units_keys (e ∷ es) = ap (λ l. e.0 ∷ l) (units_keys es)

by_keys : (v : Bytes → List ℕ) (es : List (Bytes × List ℕ)) → list_map {B = Bytes × List ℕ} (λ e. (e.0, v e.0)) es ≡ list_map {B = Bytes × List ℕ} (λ c. (c, v c)) (list_map (λ e. e.0) es)
by_keys v [] = refl
by_keys v (e ∷ es) = ap (λ l. (e.0, v e.0) ∷ l) (by_keys v es)

-- ---- what the calls of the map do

module _ {Z : Type 0} where
  abbrev pub at_key : Bytes → Vec ℕ Z → Bool
  at_key q k = is_eq (R q k.items)

  pub looked_up : (q : Bytes) (es : List (Vec ℕ Z × List ℕ)) → lookup (at_key q) es ≡ find R q (shown es)
  looked_up q [] = refl
  looked_up q (e ∷ es) = ap (λ r. cond (at_key q e.0) (Some e.1) r) (looked_up q es)

  abbrev pub by_items : Vec ℕ Z → Vec ℕ Z → Ordering
  by_items a b = R a.items b.items

  inserted : (k : Vec ℕ Z) (v : List ℕ) (es : List (Vec ℕ Z × List ℕ)) → shown (insert_entry by_items es k v) ≡ put R k.items v (shown es)
  inserted k v [] = refl
  inserted k v (e ∷ es) = elim (R k.items e.0.items) as (λ r. shown (match_ordering r ((k, v) ∷ e ∷ es) ((e.0, v) ∷ es) (e ∷ insert_entry by_items es k v))
      ≡ by_order r ((k.items, v) ∷ shown (e ∷ es)) ((e.0.items, v) ∷ shown es) ((e.0.items, e.1) ∷ put R k.items v (shown es))) [
        | Less ↦ refl
        | Equal ↦ refl
        | Greater ↦ ap (λ l. (e.0.items, e.1) ∷ l) (inserted k v es)
      ]

  written : (q : Bytes) (w : List ℕ) (es : List (Vec ℕ Z × List ℕ)) → T (is_sorted R (shown es)) → is_some (find R q (shown es)) ≡ true
      → shown (set_value (at_key q) es w) ≡ put R q w (shown es)
  written q w [] up there = absurd (true≢false (sym there))
  written q w (e ∷ es) up there = elim (R q e.0.items) as (λ r. R q e.0.items ≡ r → is_some (cond (is_eq r) (Some e.1) (find R q (shown es))) ≡ true
      → shown (cond (is_eq r) ((e.0, w) ∷ es) (e ∷ set_value (at_key q) es w)) ≡ by_order r ((q, w) ∷ shown (e ∷ es)) ((e.0.items, w) ∷ shown es) ((e.0.items, e.1) ∷ put R q w (shown es))) [
        | Less ↦ λ p h. absurd (true≢false (sym h ∙ ap is_some (below_none q e.0.items (shown es) p (first (below_all R e.0.items (shown es)) (is_sorted R (shown es)) up))))
        | Equal ↦ λ p h. refl
        | Greater ↦ λ p h. ap (λ l. (e.0.items, e.1) ∷ l) (written q w es (second (below_all R e.0.items (shown es)) (is_sorted R (shown es)) up) h)
      ] refl there

  pub is_line_there : (q : Bytes) (es : List (Vec ℕ Z × List ℕ)) (held : Lines) → AreLines es held → lookup (at_key q) es ≡ map.get held q
  is_line_there q es held are = looked_up q es ∙ ap (find R q) are ∙ sym (map.get-entries held q)

  pub lost_line : (q : Bytes) (es : List (Vec ℕ Z × List ℕ)) (held : Lines) → AreLines es held → None ≡ lookup (at_key q) es → IsSome (map.get held q) → ⊥
  lost_line q es held are none there = true≢false (sym there ∙ ap is_some (sym (is_line_there q es held are) ∙ sym none))

  pub line_made : (k : Vec ℕ Z) (category : Bytes) (es new : List (Vec ℕ Z × List ℕ)) (held : Lines) (test : Bool) → AreLines es held → test ≡ is_some (lookup (at_key category) es) → test ≡ false
      → k.items ≡ category → new ≡ insert_entry by_items es k [] → AreLines new (with_line held category)
  line_made k category es new held test are test_is apart key_is new_is =
      let none : is_some (map.get held category) ≡ false = ap is_some (sym (is_line_there category es held are)) ∙ sym test_is ∙ apart in
      ap shown new_is ∙ inserted k [] es ∙ ap (put R k.items []) are ∙ ap (λ c. put R c [] (map.entries held)) key_is ∙ sym (map.entries-insert o held category [])
      ∙ ap map.entries (ap (λ b. cond b held (map.insert held category [])) (sym none))

  pub line_kept : (category : Bytes) (es : List (Vec ℕ Z × List ℕ)) (held : Lines) (test : Bool) → AreLines es held → test ≡ is_some (lookup (at_key category) es) → test ≡ true
      → AreLines es (with_line held category)
  line_kept category es held test are test_is there =
      let some : is_some (map.get held category) ≡ true = ap is_some (sym (is_line_there category es held are)) ∙ sym test_is ∙ there in
      are ∙ ap map.entries (ap (λ b. cond b held (map.insert held category [])) (sym some))

  pub line_written : (category : Bytes) (es new : List (Vec ℕ Z × List ℕ)) (held : Lines) (before after line selector : List ℕ) → AreLines es held → Some before ≡ lookup (at_key category) es
      → new ≡ set_value (at_key category) es line → after ≡ before ++ 32 ∷ [] → line ≡ after ++ selector → AreLines new (map.insert held category (line_at held category ++ spaced selector))
  line_written category es new held before after line selector are found new_is after_is line_is =
      let line_at_is : line_at held category ≡ before = ap (λ r. unwrap_or r []) (sym (is_line_there category es held are) ∙ sym found) in
      let whole : line ≡ line_at held category ++ spaced selector = line_is ∙ ap (λ l. l ++ selector) after_is ∙ append_assoc before (32 ∷ []) selector ∙ ap (λ l. l ++ spaced selector) (sym line_at_is) in
      let there : is_some (find R category (shown es)) ≡ true = ap is_some (sym (looked_up category es) ∙ sym found) in
      let up : T (is_sorted R (shown es)) = subst (λ l. T (is_sorted R l)) (sym are) (map.entries_sorted held) in
      ap shown new_is ∙ written category line es up there ∙ ap (put R category line) are ∙ sym (map.entries-insert o held category line)
      ∙ ap (λ l. map.entries (map.insert held category l)) whole

-- ---- the lines of the selectors seen

abbrev pub chosen : (Bytes → Bytes) → List Bytes → Bytes → List Bytes
chosen category_of done q = filter (λ selector. bytes_eq (category_of selector) q) done

abbrev pub some_line : List Bytes → Option (List ℕ)
some_line [] = None
some_line (selector ∷ selectors) = Some (flat_map spaced (selector ∷ selectors))

pub record HasLines {Z : Type 0} (category_of : Bytes → Bytes) (done : List Bytes) (es : List (Vec ℕ Z × List ℕ)) : Type 0 where
  pub held : Lines
  pub are : AreLines es held
  pub each : (q : Bytes) → map.get held q ≡ some_line (chosen category_of done q)

line_more : (xs : List Bytes) (s : Bytes) → Some (unwrap_or (some_line xs) [] ++ spaced s) ≡ some_line (xs ++ s ∷ [])
line_more [] s = ap Some (sym (append-nil (spaced s)))
line_more (x ∷ xs) s = ap Some (ap (λ l. flat_map spaced (x ∷ xs) ++ l) (sym (append-nil (spaced s))) ∙ sym (flat_map-append spaced (x ∷ xs) (s ∷ [])))

with_line_gets : (held : Lines) (c q : Bytes) → eq_by_cmp R q c ≡ false → map.get (with_line held c) q ≡ map.get held q
with_line_gets held c q apart = elim (is_some (map.get held c)) as (λ b. map.get (cond b held (map.insert held c [])) q ≡ map.get held q) [
  | true ↦ refl
  | false ↦ map.get-insert o held c [] q ∙ ap (λ b. cond b (Some []) (map.get held q)) apart
]

at_itself : (held : Lines) (c : Bytes) (v : List ℕ) → map.get (map.insert held c v) c ≡ Some v
at_itself held c v = map.get-insert o held c v c ∙ ap (λ b. cond b (Some v) (map.get held c)) (self c)

with_line_has : (held : Lines) (c : Bytes) → map.get (with_line held c) c ≡ Some (line_at held c)
with_line_has held c = go (map.get held c) refl
  where
    go : (r : Option (List ℕ)) → map.get held c ≡ r → map.get (with_line held c) c ≡ Some (line_at held c)
    go None is = ap (λ r. map.get (cond (is_some r) held (map.insert held c [])) c) is ∙ at_itself held c [] ∙ ap (λ r. Some (unwrap_or r [])) (sym is)
    go (Some l) is = ap (λ r. map.get (cond (is_some r) held (map.insert held c [])) c) is ∙ is ∙ ap (λ r. Some (unwrap_or r [])) (sym is)

chosen_more : (f : Bytes → Bytes) (done : List Bytes) (s q : Bytes) → chosen f (done ++ s ∷ []) q ≡ chosen f done q ++ cond (bytes_eq (f s) q) (s ∷ []) []
chosen_more f done s q = filter-append (λ selector. bytes_eq (f selector) q) done (s ∷ [])

pub next_lines : {Z : Type 0} (f : Bytes → Bytes) (done : List Bytes) (s category : Bytes) (es made new : List (Vec ℕ Z × List ℕ)) → HasLines f done es → category ≡ f s
    → ((held : Lines) → AreLines es held → AreLines made (with_line held category))
    → ((held : Lines) → AreLines made held → IsSome (map.get held category) → AreLines new (map.insert held category (line_at held category ++ spaced s)))
    → HasLines f (done ++ s ∷ []) new
next_lines f done s category es made new has category_is makes adds = record {
  held = map.insert (with_line has.held category) category (line_at (with_line has.held category) category ++ spaced s);
  are = adds (with_line has.held category) (makes has.held has.are) (ap is_some (with_line_has has.held category));
  each = each;
}
  where
    here : line_at (with_line has.held category) category ≡ line_at has.held category
    here = ap (λ r. unwrap_or r []) (with_line_has has.held category)

    test : (q : Bytes) → bytes_eq (f s) q ≡ eq_by_cmp R q category
    test q = ap (λ c. bytes_eq c q) (sym category_is) ∙ sym (test_is q category)

    value : (q : Bytes) → map.get (map.insert (with_line has.held category) category (line_at (with_line has.held category) category ++ spaced s)) q ≡ cond (eq_by_cmp R q category) (Some (line_at (with_line has.held category) category ++ spaced s)) (map.get (with_line has.held category) q)
    value q = map.get-insert o (with_line has.held category) category (line_at (with_line has.held category) category ++ spaced s) q

    each : (q : Bytes) → map.get (map.insert (with_line has.held category) category (line_at (with_line has.held category) category ++ spaced s)) q ≡ some_line (chosen f (done ++ s ∷ []) q)
    each q = value q ∙ elim (eq_by_cmp R q category) as (λ b. eq_by_cmp R q category ≡ b → cond b (Some (line_at (with_line has.held category) category ++ spaced s)) (map.get (with_line has.held category) q) ≡ some_line (chosen f done q ++ cond b (s ∷ []) [])) [
      | true ↦ λ tied. ap (λ l. Some (l ++ spaced s)) (here ∙ ap (λ r. unwrap_or r []) (ap (map.get has.held) (sym (ties q category tied)) ∙ has.each q)) ∙ line_more (chosen f done q) s
      | false ↦ λ apart. with_line_gets has.held category q apart ∙ has.each q ∙ ap some_line (sym (append-nil (chosen f done q)))
    ] refl ∙ ap (λ b. some_line (chosen f done q ++ cond b (s ∷ []) [])) (sym (test q)) ∙ ap some_line (sym (chosen_more f done s q))

-- ---- the next selector

any_at : (p : Bytes → Bool) (xs : List Bytes) (i : ℕ) (x : Bytes) → slice_get xs i ≡ Some x → p x ≡ true → list_any p xs ≡ true
any_at p [] i x at is = absurd (true≢false (sym (ap is_some at)))
any_at p (y ∷ ys) zero x at is = ap (λ b. b || list_any p ys) (ap p (ap (λ r. unwrap_or r []) at) ∙ is)
any_at p (y ∷ ys) (suc i) x at is = ap (λ b. p y || b) (any_at p ys i x at is) ∙ elim (p y) as (λ b. (b || true) ≡ true) [ true ↦ refl | false ↦ refl ]

-- a key of the map is found in it
pub never_lost : (entries : Methods Entry) (names : List Bytes) (i : ℕ) (selector : Bytes) → names ≡ map.keys entries → slice_get names i ≡ Some selector → None ≡ map.get entries selector → ⊥
never_lost entries names i selector names_is at none =
    true≢false (sym (any_at (eq_by_cmp R selector) names i selector at (self selector)) ∙ ap (list_any (eq_by_cmp R selector)) names_is ∙ sym (map.contains_key-keys entries selector) ∙ ap is_some (sym none))

pub found_category : (entries : Methods Entry) (selector category : Bytes) (entry : Entry) → Some entry ≡ map.get entries selector → category ≡ entry.category → category ≡ category_in entries selector
found_category entries selector category entry is category_is = category_is ∙ ap (λ r. unwrap_or (option_map (λ (e : Entry). e.category) r) []) is

pub seen_more : {Z : Type 0} (f : Bytes → Bytes) (names : List Bytes) (i : ℕ) (selector : Bytes) (es : List (Vec ℕ Z × List ℕ)) → slice_get names i ≡ Some selector
    → HasLines f (take i names ++ selector ∷ []) es → HasLines f (take (i + 1) names) es
seen_more f names i selector es at has =
    subst (λ l. HasLines f l es) (sym (take_more names i [] (slice_get_within names i selector at) ∙ ap (λ n. take i names ++ n ∷ []) (get_or_from_slice_get names i selector [] at))) has

pub seen_all : {Z : Type 0} (f : Bytes → Bytes) (names : List Bytes) (i : ℕ) (es : List (Vec ℕ Z × List ℕ)) → length names ≤ i → HasLines f (take i names) es → HasLines f names es
seen_all f names i es within has = subst (λ l. HasLines f l es) (take_all i names within) has

no_entries : {A : Type 0} (xs : List A) → length xs ≡ 0 → xs ≡ []
no_entries [] e = refl
no_entries (x ∷ xs) e = absurd (omega (arith, e))

pub no_lines : {Z : Type 0} (f : Bytes → Bytes) (es : List (Vec ℕ Z × List ℕ)) → es ≡ [] → HasLines f [] es
no_lines f es is = record {
  held = map.empty;
  are = ap shown is ∙ sym (no_entries (map.entries (map.empty {X = List ℕ} {R = R})) (sym (map.len-entries (map.empty {X = List ℕ} {R = R})) ∙ map.len-empty R (List ℕ)));
  each = λ q. map.get-empty R q;
}

-- ---- all lines

category_same : (row : Option MethodRow) (entry : Option Entry) → option_map state_row entry ≡ row
    → unwrap_or (option_map (λ (e : Entry). e.category) entry) [] ≡ unwrap_or (option_map (λ (r : MethodRow). r.category) row) []
category_same row None is = ap (λ o. unwrap_or (option_map (λ (r : MethodRow). r.category) o) []) is
category_same row (Some entry) is = ap (λ o. unwrap_or (option_map (λ (r : MethodRow). r.category) o) []) is

line_is : (xs : List Bytes) (x : List ℕ) → some_line xs ≡ Some x → x ≡ flat_map spaced xs
line_is [] x is = absurd (true≢false (sym (ap is_some is)))
line_is (s ∷ xs) x is = sym (ap (λ r. unwrap_or r []) is)

key_found : (g : Bytes → Bytes) (sels : List Bytes) (q : Bytes) → option_map (λ _. unit) (some_line (chosen g sels q)) ≡ find R q (list_map (λ s. (g s, unit)) sels)
key_found g [] q = refl
key_found g (s ∷ sels) q =
    ap (λ b. option_map (λ _. unit) (some_line (cond b (s ∷ chosen g sels q) (chosen g sels q)))) (sym (test_is q (g s)))
    ∙ elim (eq_by_cmp R q (g s)) as (λ b. option_map (λ _. unit) (some_line (cond b (s ∷ chosen g sels q) (chosen g sels q))) ≡ cond b (Some unit) (find R q (list_map (λ s. (g s, unit)) sels))) [ true ↦ refl | false ↦ key_found g sels q ]

abbrev pairs : Methods MethodRow → List (Bytes × Unit {0})
pairs rows = list_map (λ s. (category_at rows s, unit)) (map.keys rows)

abbrev table : Methods MethodRow → map.FinMap {K = Bytes} R (Unit {0})
table rows = map.from_entries {X = Unit {0}} {R = R} (pairs rows)

pub all_lines : {Z : Type 0} (entries : Methods Entry) (rows : Methods MethodRow) (all : List Bytes) (es : List (Vec ℕ Z × List ℕ)) → AreEntriesOf entries rows → all ≡ map.keys entries
    → HasLines (category_in entries) all es → shown es ≡ lines_of rows
all_lines entries rows all es are all_is has =
    has.are ∙ valued (selectors_of rows) (map.entries has.held) (map.entries_sorted has.held) (λ q x found. line_is (chosen (category_at rows) (map.keys rows) q) x (sym (each q) ∙ map.get-entries has.held q ∙ found))
    ∙ by_keys (selectors_of rows) (map.entries has.held) ∙ ap (list_map {B = Bytes × List ℕ} (λ c. (c, selectors_of rows c))) keys
  where
    each : (q : Bytes) → map.get has.held q ≡ some_line (chosen (category_at rows) (map.keys rows) q)
    each q = has.each q ∙ ap (λ l. some_line (chosen (category_in entries) l q)) (all_is ∙ are.keys)
        ∙ ap some_line (filter_same (λ s. bytes_eq (category_in entries s) q) (λ s. bytes_eq (category_at rows s) q) (λ s. ap (λ c. bytes_eq c q) (category_same (map.get rows s) (map.get entries s) (are.each s))) (map.keys rows))

    found : (q : Bytes) → find R q (units (map.entries has.held)) ≡ find R q (map.entries (table rows))
    found q =
        units_find q (map.entries has.held) ∙ ap (option_map (λ _. unit)) (sym (map.get-entries has.held q) ∙ each q)
        ∙ key_found (category_at rows) (map.keys rows) q ∙ sym (map.get-from_entries o (pairs rows) q) ∙ map.get-entries (table rows) q

    keys : list_map (λ e. e.0) (map.entries has.held) ≡ categories rows
    keys = sym (units_keys (map.entries has.held)) ∙ ap (list_map (λ e. e.0)) (same_entries R o same (units (map.entries has.held)) (map.entries (table rows))
        (subst T (sym (units_sorted (map.entries has.held))) (map.entries_sorted has.held)) (map.entries_sorted (table rows)) found)

-- ---- the lines in the text

abbrev pub line_of : List ℕ → Bytes × List ℕ → List ℕ
line_of word line = word ++ (quoted 39 line.0 ++ (58 ∷ line.1 ++ 10 ∷ []))

abbrev pub added : List ℕ → List (Bytes × List ℕ) → List ℕ
added word lines = flat_map (line_of word) lines

of_categories : (word : List ℕ) (v : Bytes → List ℕ) (cs : List Bytes) → added word (list_map {B = Bytes × List ℕ} (λ c. (c, v c)) cs) ≡ flat_map (λ c. word ++ (quoted 39 c ++ (58 ∷ v c ++ 10 ∷ []))) cs
of_categories word v [] = refl
of_categories word v (c ∷ cs) = ap (λ l. line_of word (c, v c) ++ l) (of_categories word v cs)

pub lines_are : (word : List ℕ) (rows : Methods MethodRow) (lines : List (Bytes × List ℕ)) → lines ≡ lines_of rows → added word lines ≡ category_lines word rows
lines_are word rows lines is = ap (added word) is ∙ of_categories word (selectors_of rows) (categories rows)

pub line_seen : (word : List ℕ) (done : List (Bytes × List ℕ)) (line : Bytes × List ℕ) (first text new : List ℕ) → text ≡ first ++ added word done → new ≡ text ++ line_of word line
    → new ≡ first ++ added word (done ++ line ∷ [])
line_seen word done line first text new text_is new_is =
    new_is ∙ ap (λ l. l ++ line_of word line) text_is ∙ append_assoc first (added word done) (line_of word line)
    ∙ ap (λ l. first ++ (added word done ++ l)) (sym (append-nil (line_of word line)))
    ∙ ap (λ l. first ++ l) (sym (flat_map-append (line_of word) done (line ∷ [])))

pub shown_more : {Z : Type 0} (seen : List (Bor (Vec ℕ Z) × Bor (List ℕ))) (category : Bor (Vec ℕ Z)) (selectors : Bor (List ℕ))
    → shown (list_map deref_pair (seen ++ (category, selectors) ∷ [])) ≡ shown (list_map deref_pair seen) ++ (category.now.items, selectors.now) ∷ []
shown_more [] category selectors = refl
shown_more (e ∷ seen) category selectors = ap (λ l. (e.0.now.items, e.1.now) ∷ l) (shown_more seen category selectors)
