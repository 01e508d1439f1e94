-- A class and its descendants, as they are found: each once, and no other.
use Rattle.std.proofs.Common.{◌≡◌, ◌≢◌, ◌≤◌, ◌<◌, ◌∙◌, ◌++◌, ◌||◌, ◌+◌, ◌-◌, ◌⊎◌, inl, inr, ℕ, zero, suc, Bool, cond, true, false, refl, sym, ap, subst, List, [], ◌∷◌, length, map as list_map, Option, Some, None, true≢false, arith, slice_get}
use Rattle.std.specs.Option.{option_map}
use Rattle.std.specs.Str.{bytes_eq}
use Rattle.std.specs.Cmp.Lexicographic.{bytes_decides, nat_list_cmp_total}
use Rattle.std.specs.FinMap as map
use Rattle.std.proofs.lemmas.Option.{slice_get_within, slice_get-map, some_pair_parts}
use Rattle.std.proofs.lemmas.List.{length-map}
use Rattle.s80_class.specs.declared.inherited.Totals.{Totals}
use Rattle.s80_class.specs.Classes.{Name, ClassRow, Classes, IsLine, inherited_in}
use Rattle.s80_class.specs.Counted.{totals, over, own_of}
use Rattle.s80_class.specs.Table.{Table, IsNumberOf, row_of}
use Rattle.s80_class.specs.Kept.{names_of, classes_of, name_at, IsKept}
use Rattle.s80_class.specs.Family.{Found, IsBelow, AreDistinct, AreUnder, Grows}
use Rattle.s80_class.specs.Known.{IsKnown}
use Rattle.s80_class.proofs.lemmas.Lines.{Entry, passes, bytes_eq-self, not_eq, get-left, one_line, never_again, contains_some, len_positive}
use Rattle.s80_class.proofs.lemmas.Rows.{Entries, get_kept, entry_of_number, number_of_entry}
use Rattle.s80_class.proofs.Keeping.{shows_kept}
use Rattle.s80_class.proofs.Changes.{name_at_is}
use Rattle.s80_class.proofs.Calls.{shown}
use Rattle.s80_class.proofs.Indexed.{none_there}
use Rattle.s80_class.proofs.lemmas.Walks.{same_name, totals_more}

-- ---- what was found so far

-- one that was found under one before it, which was looked at
pub record IsFrom (table : Table) (found : List Found) (next j : ℕ) (p : Found) : Type 0 where
  pub place : ℕ
  pub parent : Found
  pub row : ClassRow
  pub before : place < j
  pub looked_at : place < next
  pub there : slice_get found place ≡ Some parent
  pub below : IsBelow table p.0 row parent.0
  pub adds : p.1 ≡ over (own_of row) parent.1

-- each once, and the subclasses of the first ones, so many, are among them
pub record IsFound (table : Table) (c : ℕ) (top : Totals) (found : List Found) (next : ℕ) : Type 0 where
  pub first : slice_get found 0 ≡ Some (c, top)
  pub distinct : AreDistinct found
  pub from : (j : ℕ) (p : Found) → 0 < j → slice_get found j ≡ Some p → IsFrom table found next j p
  pub all : (k : ℕ) (p : Found) → k < next → slice_get found k ≡ Some p → (x : ℕ) (row : ClassRow) → IsBelow table x row p.0 → (j : ℕ) × (t : Totals) × (slice_get found j ≡ Some (x, t))

-- ---- elements behind others

module _ {A : Type 0} where
  get_appended : (xs ys : List A) (k : ℕ) (y : A) → slice_get (xs ++ ys) k ≡ Some y → (slice_get xs k ≡ Some y) ⊎ ((m : ℕ) × (k ≡ length xs + m) × (slice_get ys m ≡ Some y))
  get_appended [] ys k y is = inr (k, omega arith, is)
  get_appended (x ∷ xs) ys zero y is = inl is
  get_appended (x ∷ xs) ys (suc k) y is = elim (get_appended xs ys k y is) [ inl h ↦ inl h | inr h ↦ inr (h.0, omega (arith, h.1), h.2) ]

  get_behind : (xs ys : List A) (m : ℕ) (y : A) → slice_get ys m ≡ Some y → slice_get (xs ++ ys) (length xs + m) ≡ Some y
  get_behind [] ys m y is = let e : 0 + m ≡ m = omega arith in ap (slice_get ys) e ∙ is
  get_behind (x ∷ xs) ys m y is = let e : length (x ∷ xs) + m ≡ suc (length xs + m) = omega arith in ap (slice_get (x ∷ (xs ++ ys))) e ∙ get_behind xs ys m y is

  get_old : (xs ys : List A) (k : ℕ) (y : A) → k < length xs → slice_get (xs ++ ys) k ≡ Some y → slice_get xs k ≡ Some y
  get_old xs ys k y lt is = elim (get_appended xs ys k y is) as (λ _. slice_get xs k ≡ Some y) [ inl h ↦ h | inr h ↦ absurd (omega (arith, h.1)) ]

or_true : (b c : Bool) → c ≡ true → (b || c) ≡ true
or_true true c h = refl
or_true false c h = h

-- ---- what a search knows of the table

pub known_table : (es : Entries) (order : List ℕ) → IsKept es order → (spare : ℕ) (table : Table) → shown es spare ≡ table → IsKnown table
known_table es order kept spare table shows =
    subst IsKnown shows (record {
      one_number = kept.one_number;
      known = λ number name named.
          let e = entry_of_number es number name named in
          (row_of (names_of es) e.0, ap (map.get (classes_of es)) (sym e.2) ∙ (shows_kept es order kept).found number e.0 e.1);
      numbered = λ name row is.
          let l = (shows_kept es order kept).listed name row is in
          (l.0, subst (λ n. IsNumberOf (names_of es) l.0 n) l.3 (number_of_entry es l.0 l.1 l.2));
      valid = kept.valid;
    })

-- no more distinct names than classes
few_names : (xs : List Name) (m : Classes) → ((k : ℕ) (x : Name) → slice_get xs k ≡ Some x → (row : ClassRow) × (map.get m x ≡ Some row))
    → ((j k : ℕ) (x : Name) → slice_get xs j ≡ Some x → slice_get xs k ≡ Some x → j ≡ k) → length xs ≤ map.len m
few_names [] m each distinct = omega arith
few_names (x ∷ xs) m each distinct =
    let here = each 0 x refl in
    let apart : (k : ℕ) (y : Name) → slice_get xs k ≡ Some y → y ≢ x = λ k y is same.
    let bad : 0 ≡ suc k = distinct 0 (suc k) x refl (is ∙ ap Some same) in absurd (omega arith) in
    let rest : length xs ≤ map.len (map.remove m x) = few_names xs (map.remove m x)
    (λ k y is. let row = each (suc k) y is in (row.0, get-left m x y (apart k y is) ∙ row.1))
    (λ j k y a b. let next : suc j ≡ suc k = distinct (suc j) (suc k) y a b in omega arith) in
    let size : map.len (map.remove m x) ≡ map.len m - 1 =
    map.len-remove nat_list_cmp_total m x ∙ ap (λ b. cond b (map.len m - 1) (map.len m)) (contains_some m x here.0 here.1) in
    omega (arith, len_positive m x here.0 here.1, rest, size)

module _ (table : Table) (is : IsKnown table) where
  same_superclass : (x s t : ℕ) (row other : ClassRow) → IsBelow table x row s → IsBelow table x other t → s ≡ t
  same_superclass x s t row other a b =
      let name : a.name ≡ b.name = same_name table x a.name b.name a.named b.named in
      let rows : row ≡ other = let h : Some row ≡ Some other = sym a.here ∙ ap (map.get table.classes) name ∙ b.here in cc in
      let above : b.above ≡ a.above = let h : Some b.above ≡ Some a.above = sym b.superclass_is ∙ ap (λ (r : ClassRow). r.superclass) (sym rows) ∙ a.superclass_is in cc in
      is.one_number s t a.above a.named_above (subst (λ n. IsNumberOf table.names t n) above b.named_above)

  -- no more than there are classes
  few_of : (found : List Found) → ((k : ℕ) (p : Found) → slice_get found k ≡ Some p → (q : Name) × IsNumberOf table.names p.0 q) → AreDistinct found → length found ≤ map.len table.classes
  few_of found classes distinct =
      let short : length (list_map spelled found) ≤ map.len table.classes = few_names (list_map spelled found) table.classes each apart in
      omega (arith, short, length-map found spelled)
    where
      spelled : Found → Name
      spelled p = name_at table.names p.0

      listed : (k : ℕ) (x : Name) → slice_get (list_map spelled found) k ≡ Some x → (p : Found) × (slice_get found k ≡ Some p) × IsNumberOf table.names p.0 x
      listed k x h = go (slice_get found k) refl (sym (slice_get-map spelled found k) ∙ h)
        where
          go : (o : Option Found) → slice_get found k ≡ o → option_map spelled o ≡ Some x → (p : Found) × (slice_get found k ≡ Some p) × IsNumberOf table.names p.0 x
          go None at h = absurd (let bad : None ≡ Some x = h in cc)
          go (Some p) at h =
              let q = classes k p at in
              let same : q.0 ≡ x = sym (name_at_is table.names p.0 q.0 q.1) ∙ (let e : Some (name_at table.names p.0) ≡ Some x = h in cc) in
              (p, at, subst (λ n. IsNumberOf table.names p.0 n) same q.1)

      each : (k : ℕ) (x : Name) → slice_get (list_map spelled found) k ≡ Some x → (row : ClassRow) × (map.get table.classes x ≡ Some row)
      each k x h = let p = listed k x h in is.known p.0.0 x p.2

      apart : (j k : ℕ) (x : Name) → slice_get (list_map spelled found) j ≡ Some x → slice_get (list_map spelled found) k ≡ Some x → j ≡ k
      apart j k x a b =
          let p = listed j x a in
          let q = listed k x b in
          distinct j k p.0 q.0 p.1 q.1 (is.one_number p.0.0 q.0.0 x p.2 q.2)

  module _ (c : ℕ) (top : Totals) (name : Name) (named : IsNumberOf table.names c name) where
    pub begun : IsFound table c top ((c, top) ∷ []) 0
    begun = record { first = refl; distinct = distinct; from = from; all = λ k p lt. absurd (omega arith) }
      where
        only : (j : ℕ) (p : Found) → slice_get ((c, top) ∷ []) j ≡ Some p → j ≡ 0
        only zero p h = refl
        only (suc j) p h = absurd (none_there j p h)

        distinct : AreDistinct ((c, top) ∷ [])
        distinct j k p q a b same = only j p a ∙ sym (only k q b)

        from : (j : ℕ) (p : Found) → 0 < j → slice_get ((c, top) ∷ []) j ≡ Some p → IsFrom table ((c, top) ∷ []) 0 j p
        from j p lt h = let none : j ≡ 0 = only j p h in absurd (omega arith)

    module _ (found : List Found) (next : ℕ) (so_far : IsFound table c top found next) where
      pub class_found : (j : ℕ) (p : Found) → slice_get found j ≡ Some p → (q : Name) × IsNumberOf table.names p.0 q
      class_found zero p at =
          let same : c ≡ p.0 = (some_pair_parts c p.0 top p.1 (sym so_far.first ∙ at)).0 in
          (name, subst (λ n. IsNumberOf table.names n name) same named)
      class_found (suc j) p at = let f = so_far.from (suc j) p (omega arith) at in (f.below.name, f.below.named)

      pub few : length found ≤ map.len table.classes
      few = few_of found class_found so_far.distinct

      -- ---- each is under the class, in each map that differs at the class alone

      module _ (classes : Classes) (alike : (q : Name) → q ≢ name → map.get classes q ≡ map.get table.classes q) where
        abbrev Counts : Found → List Entry → Type 0
        Counts p es = (passes name es ≡ true) × ((tops : List Entry) → IsLine classes (Some name) tops → top ≡ totals (inherited_in tops) → p.1 ≡ totals (inherited_in es))

        counts_within : (n j : ℕ) (p : Found) (q : Name) (es : List Entry) → j < n → slice_get found j ≡ Some p → IsNumberOf table.names p.0 q → IsLine classes (Some q) es → Counts p es
        counts_within zero j p q es lt at named_q line = absurd (omega arith)
        counts_within (suc n) j p q [] lt at named_q line = absurd line
        counts_within (suc n) zero p q (e ∷ es) lt at named_q line =
            let both = some_pair_parts c p.0 top p.1 (sym so_far.first ∙ at) in
            let same : q ≡ name = same_name table c q name (subst (λ m. IsNumberOf table.names m q) (sym both.0) named_q) named in (
              ap (λ b. b || passes name es) (ap (λ m. bytes_eq m name) (line.0 ∙ same) ∙ bytes_eq-self name),
              λ tops line_top is_top.
                  sym both.1 ∙ is_top
                  ∙ ap (λ xs. totals (inherited_in xs)) (one_line classes (Some name) tops (e ∷ es) line_top (subst (λ m. IsLine classes (Some m) (e ∷ es)) same line)),
            )
        counts_within (suc n) (suc j) p q (e ∷ es) lt at named_q line =
            let f = so_far.from (suc j) p (omega arith) at in
            let ne : q ≢ name = λ same.
            let first : suc j ≡ 0 = so_far.distinct (suc j) 0 p (c, top) at so_far.first (is.one_number p.0 c name (subst (λ m. IsNumberOf table.names p.0 m) same named_q) named) in
            absurd (omega arith) in
            let name_f : f.below.name ≡ q = same_name table p.0 f.below.name q f.below.named named_q in
            let rows : f.row ≡ e.1 = let h : Some f.row ≡ Some e.1 = sym f.below.here ∙ ap (map.get table.classes) name_f ∙ sym (alike q ne) ∙ line.1 in cc in
            let above : e.1.superclass ≡ Some f.below.above = ap (λ (r : ClassRow). r.superclass) (sym rows) ∙ f.below.superclass_is in
            let line_above : IsLine classes (Some f.below.above) es = subst (λ o. IsLine classes o es) above line.2 in
            let rest = counts_within n f.place f.parent f.below.above es (omega (arith, f.before)) f.there f.below.named_above line_above in (
              or_true (bytes_eq e.0 name) (passes name es) rest.0,
              λ tops line_top is_top.
                  f.adds ∙ ap (over (own_of f.row)) (rest.1 tops line_top is_top) ∙ ap (λ r. over (own_of r) (totals (inherited_in es))) rows ∙ sym (totals_more e es),
            )

        pub counts : (j : ℕ) (p : Found) (q : Name) (es : List Entry) → slice_get found j ≡ Some p → IsNumberOf table.names p.0 q → IsLine classes (Some q) es → Counts p es
        counts j p q es at named_q line = counts_within (suc j) j p q es (omega arith) at named_q line

        -- ---- and where all were looked at, each that is under the class was found

        pub found_where : length found ≤ next → (q : Name) (es : List Entry) → IsLine classes (Some q) es → passes name es ≡ true → (j : ℕ) × (p : Found) × (slice_get found j ≡ Some p) × IsNumberOf table.names p.0 q
        found_where le q [] line h = absurd line
        found_where le q (e ∷ es) line h =
            elim (bytes_eq e.0 name) as (λ b. bytes_eq e.0 name ≡ b → (b || passes name es) ≡ true → (j : ℕ) × (p : Found) × (slice_get found j ≡ Some p) × IsNumberOf table.names p.0 q) [
              | true ↦ λ t _.
                  let same : name ≡ q = sym ((bytes_decides e.0 name).0 t) ∙ line.0 in
                  (0, (c, top), so_far.first, subst (λ m. IsNumberOf table.names c m) same named)
              | false ↦ λ t h'.
                  let ne : q ≢ name = λ same. not_eq e.0 name t (line.0 ∙ same) in
                  on (λ s up passed. found_where le s es up passed) ne (sym (alike q ne) ∙ line.1) e.1.superclass refl line.2 h'
            ] refl h
          where
            on : ((s : Name) → IsLine classes (Some s) es → passes name es ≡ true → (j : ℕ) × (p : Found) × (slice_get found j ≡ Some p) × IsNumberOf table.names p.0 s)
                → q ≢ name → map.get table.classes q ≡ Some e.1 → (o : Option Name) → e.1.superclass ≡ o → IsLine classes o es → passes name es ≡ true
                → (j : ℕ) × (p : Found) × (slice_get found j ≡ Some p) × IsNumberOf table.names p.0 q
            on again ne row None above line h' = absurd (no_line es line h')
              where
                no_line : (xs : List Entry) → IsLine classes None xs → passes name xs ≡ true → ⊥
                no_line [] l g = true≢false (sym g)
                no_line (x ∷ xs) l g = l
            on again ne row (Some s) above line h' =
                let up = again s line h' in
                let x = is.numbered q e.1 row in
                let below : IsBelow table x.0 e.1 up.1.0 = record { name = q; above = s; named = x.1; here = row; superclass_is = above; named_above = up.3 } in
                let r = so_far.all up.0 up.1 (omega (arith, slice_get_within found up.0 up.1 up.2)) up.2 x.0 e.1 below in
                (r.0, (x.0, r.1), r.2, x.1)

      -- the class is below none of them
      not_again : (j : ℕ) (p : Found) (row : ClassRow) → slice_get found j ≡ Some p → IsBelow table c row p.0 → ⊥
      not_again j p row at below =
          let line = is.valid below.name row below.here in
          let same : below.name ≡ name = same_name table c below.name name below.named named in
          go line.0 (subst (λ m. IsLine table.classes (Some m) line.0) same line.1) (ap (map.get table.classes) (sym same) ∙ below.here)
        where
          go : (es : List Entry) → IsLine table.classes (Some name) es → map.get table.classes name ≡ Some row → ⊥
          go [] line here = line
          go (e ∷ es) line here =
              let rows : row ≡ e.1 = let h : Some row ≡ Some e.1 = sym here ∙ line.1 in cc in
              let above : e.1.superclass ≡ Some below.above = ap (λ (r : ClassRow). r.superclass) (sym rows) ∙ below.superclass_is in
              let up = counts table.classes (λ q ne. refl) j p below.above es at below.named_above (subst (λ o. IsLine table.classes o es) above line.2) in
              true≢false (sym up.0 ∙ never_again table.classes name e es line)

      -- ---- the subclasses of the next one

      module _ (number : ℕ) (sums : Totals) (here : slice_get found next ≡ Some (number, sums)) (more : List Found) (under : AreUnder table number sums more) where
        within : next < length found
        within = slice_get_within found next (number, sums) here

        apart : (j m : ℕ) (p q : Found) → slice_get found j ≡ Some p → slice_get more m ≡ Some q → p.0 ≡ q.0 → ⊥
        apart zero m p q a b same =
            let s = under.sound m q b in
            let first : c ≡ p.0 = (some_pair_parts c p.0 top p.1 (sym so_far.first ∙ a)).0 in
            not_again next (number, sums) s.0 here (subst (λ x. IsBelow table x s.0 number) (sym (first ∙ same)) s.1)
        apart (suc j) m p q a b same =
            let s = under.sound m q b in
            let f = so_far.from (suc j) p (omega arith) a in
            let above : f.parent.0 ≡ number = same_superclass p.0 f.parent.0 number f.row s.0 f.below (subst (λ x. IsBelow table x s.0 number) (sym same) s.1) in
            let place : f.place ≡ next = so_far.distinct f.place next f.parent (number, sums) f.there here above in
            absurd (omega (arith, f.looked_at, place))

        distinct_grown : AreDistinct (found ++ more)
        distinct_grown j k p q a b same = elim (get_appended found more j p a) as (λ _. j ≡ k) [
          | inl old_j ↦ elim (get_appended found more k q b) as (λ _. j ≡ k) [
            | inl old_k ↦ so_far.distinct j k p q old_j old_k same
            | inr new_k ↦ absurd (apart j new_k.0 p q old_j new_k.2 same)
          ]
          | inr new_j ↦ elim (get_appended found more k q b) as (λ _. j ≡ k) [
            | inl old_k ↦ absurd (apart k new_j.0 q p old_k new_j.2 (sym same))
            | inr new_k ↦ let m : new_j.0 ≡ new_k.0 = under.distinct new_j.0 new_k.0 p q new_j.2 new_k.2 same in omega (arith, new_j.1, new_k.1, m)
          ]
        ]

        class_grown : (k : ℕ) (p : Found) → slice_get (found ++ more) k ≡ Some p → (q : Name) × IsNumberOf table.names p.0 q
        class_grown k p at = elim (get_appended found more k p at) [
          | inl old ↦ class_found k p old
          | inr new ↦ let s = under.sound new.0 p new.2 in (s.1.name, s.1.named)
        ]

        -- so those of the next one have room too
        pub few_grown : length (found ++ more) ≤ map.len table.classes
        few_grown = few_of (found ++ more) class_grown distinct_grown

        from_grown : (j : ℕ) (p : Found) → 0 < j → slice_get (found ++ more) j ≡ Some p → IsFrom table (found ++ more) (next + 1) j p
        from_grown j p lt a = elim (get_appended found more j p a) [
          | inl old ↦
              let f = so_far.from j p lt old in
              record {
                place = f.place;
                parent = f.parent;
                row = f.row;
                before = f.before;
                looked_at = omega (arith, f.looked_at);
                there = get_kept found more f.place f.parent f.there;
                below = f.below;
                adds = f.adds;
              }
          | inr new ↦
              let s = under.sound new.0 p new.2 in
              record {
                place = next;
                parent = (number, sums);
                row = s.0;
                before = omega (arith, within, new.1);
                looked_at = omega arith;
                there = get_kept found more next (number, sums) here;
                below = s.1;
                adds = s.2;
              }
        ]

        all_grown : ((x : ℕ) (row : ClassRow) → IsBelow table x row number → (k : ℕ) × (t : Totals) × (slice_get more k ≡ Some (x, t))) → (k : ℕ) (p : Found) → k < next + 1 → slice_get (found ++ more) k ≡ Some p → (x : ℕ) (row : ClassRow) → IsBelow table x row p.0 → (j : ℕ) × (t : Totals) × (slice_get (found ++ more) j ≡ Some (x, t))
        all_grown each k p lt a x row below =
            let old : slice_get found k ≡ Some p = get_old found more k p (omega (arith, within)) a in
            go (less_or_same k next (omega arith)) old
          where
            less_or_same : (a b : ℕ) → a ≤ b → (a < b) ⊎ (a ≡ b)
            less_or_same a b le = grind arith

            go : (k < next) ⊎ (k ≡ next) → slice_get found k ≡ Some p → (j : ℕ) × (t : Totals) × (slice_get (found ++ more) j ≡ Some (x, t))
            go (inl before) old = let r = so_far.all k p before old x row below in (r.0, r.1, get_kept found more r.0 (x, r.1) r.2)
            go (inr same) old =
                let is_number : p.0 ≡ number = (some_pair_parts p.0 number p.1 sums (sym old ∙ ap (slice_get found) same ∙ here)).0 in
                let r = each x row (subst (λ s. IsBelow table x row s) is_number below) in
                (length found + r.0, r.1, get_behind found more r.0 (x, r.1) r.2)

        grown_found : ((x : ℕ) (row : ClassRow) → IsBelow table x row number → (k : ℕ) × (t : Totals) × (slice_get more k ≡ Some (x, t))) → IsFound table c top (found ++ more) (next + 1)
        grown_found each = record { first = get_kept found more 0 (c, top) so_far.first; distinct = distinct_grown; from = from_grown; all = all_grown each }

      pub grown : (number : ℕ) (sums : Totals) → slice_get found next ≡ Some (number, sums) → (new : List Found) → Grows table number sums found new → IsFound table c top new (next + 1)
      grown number sums here new grows = subst (λ xs. IsFound table c top xs (next + 1)) (sym grows.1) (grown_found number sums here grows.0 grows.2.under grows.2.all)
