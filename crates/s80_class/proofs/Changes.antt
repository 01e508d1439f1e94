-- What is kept when a class is added, replaced or removed.
use Rattle.std.proofs.Common.{◌≡◌, ◌≢◌, ◌<◌, ◌∙◌, ◌++◌, ◌⊎◌, inl, inr, ℕ, suc, zero, refl, sym, ap, subst, List, [], ◌∷◌, length, get_or, set, map as list_map, Option, Some, None, arith, slice_get, unwrap_or}
use Rattle.std.specs.List.{insert, remove}
use Rattle.std.specs.Option.{option_map}
use Rattle.std.specs.FinMap as map
use Rattle.std.proofs.lemmas.List.{get_or-map, length-map, map_push, map-set}
use Rattle.s80_class.specs.declared.entry.ClassEntry.{ClassEntry}
use Rattle.s80_class.specs.Classes.{Name, ClassRow, IsLine, IsValid}
use Rattle.s80_class.specs.Table.{IsNumberOf, IsClass, IsSuperclass, IsAbove, row_of}
use Rattle.s80_class.specs.Kept.{names_of, classes_of, name_at, IsKept, IsPlace}
use Rattle.s80_class.proofs.lemmas.Lines.{Entry, passes, IsOver, valid-insert, valid-remove, absent_passed, lineage_line}
use Rattle.s80_class.proofs.lemmas.Rows.{Entries, IsAt, IsDistinct, Shows, shows_rows, shows_same, shows_pushed, shows_set, shows_taken, distinct_entries, distinct_names, number_of_entry, entry_of_number, name_is, superclass_in, get_kept, get_new, get_pushed, get_set, get_set_other, set_again, is_superclass_kept, same_number}
use Rattle.s80_class.proofs.Keys.{keys_rise, key_of_class, present_place, keys-insert_new, keys-insert_old, keys-remove}
use Rattle.s80_class.proofs.Keeping.{distinct_kept, shows_kept}

map_same : (f g : ℕ → Name) (xs : List ℕ) → ((k : ℕ) → k < length xs → f (get_or xs k 0) ≡ g (get_or xs k 0)) → list_map f xs ≡ list_map g xs
map_same f g [] same = refl
map_same f g (x ∷ xs) same = λ i. same 0 (omega arith) i ∷ map_same f g xs (λ k lt. same (suc k) (omega arith)) i

map-insert : (f : ℕ → Name) (xs : List ℕ) (p n : ℕ) → list_map f (insert xs p n) ≡ insert (list_map f xs) p (f n)
map-insert f xs zero n = refl
map-insert f [] (suc p) n = refl
map-insert f (x ∷ xs) (suc p) n = ap (λ (ys : List Name). f x ∷ ys) (map-insert f xs p n)

map-remove : (f : ℕ → Name) (xs : List ℕ) (p : ℕ) → list_map f (remove xs p) ≡ remove (list_map f xs) p
map-remove f [] zero = refl
map-remove f [] (suc p) = refl
map-remove f (x ∷ xs) zero = refl
map-remove f (x ∷ xs) (suc p) = ap (λ (ys : List Name). f x ∷ ys) (map-remove f xs p)

-- what holds of each number and of one more
each_inserted : (P : ℕ → Type 0) (xs : List ℕ) (p n : ℕ) → ((k : ℕ) → k < length xs → P (get_or xs k 0)) → P n → (k : ℕ) → k < length (insert xs p n) → P (get_or (insert xs p n) k 0)
each_inserted P xs zero n each one zero lt = one
each_inserted P xs zero n each one (suc k) lt = each k (omega arith)
each_inserted P [] (suc p) n each one zero lt = one
each_inserted P [] (suc p) n each one (suc k) lt = absurd (omega arith)
each_inserted P (x ∷ xs) (suc p) n each one zero lt = each 0 (omega arith)
each_inserted P (x ∷ xs) (suc p) n each one (suc k) lt = each_inserted P xs p n (λ j l. each (suc j) (omega arith)) one k (omega arith)

each_left : (P : ℕ → Type 0) (xs : List ℕ) (p : ℕ) → ((k : ℕ) → k < length xs → k ≢ p → P (get_or xs k 0)) → (k : ℕ) → k < length (remove xs p) → P (get_or (remove xs p) k 0)
each_left P [] zero each k lt = absurd (omega arith)
each_left P [] (suc p) each k lt = absurd (omega arith)
each_left P (x ∷ xs) zero each k lt = each (suc k) (omega arith) (λ e. omega arith)
each_left P (x ∷ xs) (suc p) each zero lt = each 0 (omega arith) (λ e. omega arith)
each_left P (x ∷ xs) (suc p) each (suc k) lt = each_left P xs p (λ j l ne. each (suc j) (omega arith) (λ e. let same : j ≡ p = omega arith in ne same)) k (omega arith)

pub name_at_is : (names : List (Option Name)) (i : ℕ) (name : Name) → IsNumberOf names i name → name_at names i ≡ name
name_at_is names i name is = ap (λ o. unwrap_or o []) (name_is names i name is)

module _ (es : Entries) (order : List ℕ) (kept : IsKept es order) where
  -- the line of a superclass that is there
  line_above : (number : ℕ) (above : Name) → IsNumberOf (names_of es) number above → (line : List Entry) × IsLine (classes_of es) (Some above) line
  line_above number above is =
      let e = entry_of_number es number above is in
      let shows = shows_kept es order kept in
      let line = kept.valid e.0.class_name (row_of (names_of es) e.0) (shows.found number e.0 e.1) in
      (line.0, subst (λ n. IsLine (classes_of es) (Some n) line.0) e.2 line.1)

  over_new : (name : Name) → map.get (classes_of es) name ≡ None → (s : Option ℕ) → IsSuperclass (names_of es) s → IsOver (classes_of es) name (superclass_in (names_of es) s)
  over_new name none None is = ([], tt, refl)
  over_new name none (Some number) is =
      let line = line_above number is.0 is.1 in
      subst (IsOver (classes_of es) name) (sym (name_is (names_of es) number is.0 is.1))
      (line.0, line.1, absent_passed (classes_of es) name none (Some is.0) line.0 line.1)

  over_old : (name : Name) (spare : ℕ) (s : Option ℕ) → IsAbove (record { classes = classes_of es; names = names_of es; spare = spare }) s name → IsOver (classes_of es) name (superclass_in (names_of es) s)
  over_old name spare None is = ([], tt, refl)
  over_old name spare (Some number) is =
      let line = line_above number is.0 is.1 in
      subst (IsOver (classes_of es) name) (sym (name_is (names_of es) number is.0 is.1))
      (line.0, line.1, ap (passes name) (sym (lineage_line (classes_of es) is.0 line.0 line.1)) ∙ is.2)

  -- ---- a class more

  module _ (e : ClassEntry) (none : map.get (classes_of es) e.class_name ≡ None) (super : IsSuperclass (names_of es) e.superclass) where
    abbrev pub more : Entries
    more = es ++ Some e ∷ []

    pub names_more : names_of more ≡ names_of es ++ Some e.class_name ∷ []
    names_more = map_push (option_map (λ (f : ClassEntry). f.class_name)) es (Some e)

    distinct_more : IsDistinct more
    distinct_more i j f g at_f at_g same =
        elim (get_pushed es (Some e) i (Some f) at_f) as (λ _. i ≡ j) [
          | inl old_f ↦ elim (get_pushed es (Some e) j (Some g) at_g) as (λ _. i ≡ j) [
            | inl old_g ↦ distinct_kept es order kept i j f g old_f old_g same
            | inr new_g ↦ absurd (apart i f old_f (same ∙ ap (λ (h : ClassEntry). h.class_name) (is_it g new_g.1)))
          ]
          | inr new_f ↦ elim (get_pushed es (Some e) j (Some g) at_g) as (λ _. i ≡ j) [
            | inl old_g ↦ absurd (apart j g old_g (sym same ∙ ap (λ (h : ClassEntry). h.class_name) (is_it f new_f.1)))
            | inr new_g ↦ new_f.0 ∙ sym new_g.0
          ]
        ]
      where
        is_it : (h : ClassEntry) → Some e ≡ Some h → h ≡ e
        is_it h s = cc

        apart : (k : ℕ) (h : ClassEntry) → IsAt es k h → h.class_name ≡ e.class_name → ⊥
        apart k h at s =
            let shows = shows_kept es order kept in
            let bad : Some (row_of (names_of es) h) ≡ None = sym (shows.found k h at) ∙ ap (map.get (classes_of es)) s ∙ none in cc

    pub classes_more : classes_of more ≡ map.insert (classes_of es) e.class_name (row_of (names_of es) e)
    classes_more =
        shows_same (names_of more) more _ _ (shows_rows (names_of more) more distinct_more)
        (subst (λ names. Shows names more (map.insert (classes_of es) e.class_name (row_of (names_of es) e))) (sym names_more)
        (shows_pushed (names_of es) es (classes_of es) (shows_kept es order kept) e kept.superclasses none super))

    number_more : (i : ℕ) (name : Name) → IsNumberOf (names_of es) i name → IsNumberOf (names_of more) i name
    number_more i name is = subst (λ names. IsNumberOf names i name) (sym names_more) (get_kept (names_of es) (Some e.class_name ∷ []) i (Some name) is)

    new_number : IsNumberOf (names_of more) (length es) e.class_name
    new_number = number_of_entry more (length es) e (get_new es (Some e))

    superclass_more : (s : Option ℕ) → IsSuperclass (names_of es) s → IsSuperclass (names_of more) s
    superclass_more s is = subst (λ names. IsSuperclass names s) (sym names_more) (is_superclass_kept (names_of es) (Some e.class_name ∷ []) s is)

    superclasses_more : (i : ℕ) (f : ClassEntry) → IsAt more i f → IsSuperclass (names_of more) f.superclass
    superclasses_more i f at = elim (get_pushed es (Some e) i (Some f) at) as (λ _. IsSuperclass (names_of more) f.superclass) [
      | inl old ↦ superclass_more f.superclass (kept.superclasses i f old)
      | inr is ↦ let same : e ≡ f = let h : Some e ≡ Some f = is.1 in cc in
          subst (λ (g : ClassEntry). IsSuperclass (names_of more) g.superclass) same (superclass_more e.superclass super)
    ]

    names_stay : list_map (name_at (names_of more)) order ≡ list_map (name_at (names_of es)) order
    names_stay = map_same (name_at (names_of more)) (name_at (names_of es)) order (λ k lt.
        let class = kept.are_classes k lt in
        name_at_is (names_of more) (get_or order k 0) class.0 (number_more (get_or order k 0) class.0 class.1) ∙ sym (name_at_is (names_of es) (get_or order k 0) class.0 class.1))

    pub valid_more : IsValid (map.insert (classes_of es) e.class_name (row_of (names_of es) e))
    valid_more = valid-insert (classes_of es) e.class_name (row_of (names_of es) e) kept.valid (over_new e.class_name none e.superclass super)

    pub kept_more : (p : ℕ) → IsPlace (list_map (name_at (names_of es)) order) e.class_name p → IsKept more (insert order p (length es))
    kept_more p place = record {
      one_number = distinct_names more distinct_more;
      superclasses = superclasses_more;
      valid = subst IsValid (sym classes_more) valid_more;
      are_classes = each_inserted (IsClass (names_of more)) order p (length es)
          (λ k lt. let class = kept.are_classes k lt in (class.0, number_more (get_or order k 0) class.0 class.1))
          (e.class_name, new_number);
      in_order =
          map-insert (name_at (names_of more)) order p (length es)
          ∙ ap (λ n. insert (list_map (name_at (names_of more)) order) p n) (name_at_is (names_of more) (length es) e.class_name new_number)
          ∙ ap (λ ns. insert ns p e.class_name) (names_stay ∙ kept.in_order)
          ∙ sym (keys-insert_new (classes_of es) e.class_name (row_of (names_of es) e) p none (subst (λ ks. IsPlace ks e.class_name p) kept.in_order place))
          ∙ ap map.keys (sym classes_more);
    }

  -- ---- another entry in a class's place

  module _ (c : ℕ) (old : ClassEntry) (at : IsAt es c old) where
    pub old_number : IsNumberOf (names_of es) c old.class_name
    old_number = number_of_entry es c old at

    module _ (e : ClassEntry) (keeps : old.class_name ≡ e.class_name) where
      abbrev pub other : Entries
      other = set es c (Some e)

      pub names_other : names_of other ≡ names_of es
      names_other =
          map-set (option_map (λ (f : ClassEntry). f.class_name)) es c (Some e)
          ∙ ap (λ (n : Name). set (names_of es) c (Some n)) (sym keeps)
          ∙ set_again (names_of es) c (Some old.class_name) old_number

      -- an entry is the new one, or an old one
      at_other : (i : ℕ) (f : ClassEntry) → IsAt other i f → ((i ≡ c) × (e ≡ f)) ⊎ ((i ≢ c) × IsAt es i f)
      at_other i f is = elim (same_number i c) [
        | inl here ↦
            let same : e ≡ f = let h : Some (Some e) ≡ Some (Some f) = sym (get_set es c (Some old) (Some e) at) ∙ ap (slice_get other) (sym here) ∙ is in cc in
            inl (here, same)
        | inr ne ↦ inr (ne, sym (get_set_other es c i (Some e) ne) ∙ is)
      ]

      one_number_other : (i j : ℕ) (name : Name) → IsNumberOf (names_of other) i name → IsNumberOf (names_of other) j name → i ≡ j
      one_number_other = subst (λ names. (i j : ℕ) (name : Name) → IsNumberOf names i name → IsNumberOf names j name → i ≡ j) (sym names_other) kept.one_number

      pub classes_other : classes_of other ≡ map.insert (classes_of es) e.class_name (row_of (names_of es) e)
      classes_other =
          shows_same (names_of other) other _ _ (shows_rows (names_of other) other (distinct_entries other one_number_other))
          (subst (λ names. Shows names other (map.insert (classes_of es) e.class_name (row_of (names_of es) e))) (sym names_other)
          (shows_set (names_of es) es (classes_of es) (shows_kept es order kept) (distinct_kept es order kept) c old at e keeps))

      module _ (spare : ℕ) (above : IsAbove (record { classes = classes_of es; names = names_of es; spare = spare }) e.superclass e.class_name) where
        is_superclass : (s : Option ℕ) → IsAbove (record { classes = classes_of es; names = names_of es; spare = spare }) s e.class_name → IsSuperclass (names_of es) s
        is_superclass None is = tt
        is_superclass (Some number) is = (is.0, is.1)

        superclasses_other : (i : ℕ) (f : ClassEntry) → IsAt other i f → IsSuperclass (names_of other) f.superclass
        superclasses_other i f is = subst (λ names. IsSuperclass names f.superclass) (sym names_other)
            (elim (at_other i f is) as (λ _. IsSuperclass (names_of es) f.superclass) [
              | inl h ↦ subst (λ (g : ClassEntry). IsSuperclass (names_of es) g.superclass) h.1 (is_superclass e.superclass above)
              | inr h ↦ kept.superclasses i f h.1
            ])

        pub valid_other : IsValid (map.insert (classes_of es) e.class_name (row_of (names_of es) e))
        valid_other = valid-insert (classes_of es) e.class_name (row_of (names_of es) e) kept.valid (over_old e.class_name spare e.superclass above)

        pub kept_other : IsKept other order
        kept_other = record {
          one_number = one_number_other;
          superclasses = superclasses_other;
          valid = subst IsValid (sym classes_other) valid_other;
          are_classes = λ k lt. let class = kept.are_classes k lt in (class.0, subst (λ names. IsNumberOf names (get_or order k 0) class.0) (sym names_other) class.1);
          in_order =
              ap (λ names. list_map (name_at names) order) names_other ∙ kept.in_order
              ∙ sym (keys-insert_old (classes_of es) e.class_name (row_of (names_of es) e) (row_of (names_of es) old) (ap (map.get (classes_of es)) (sym keeps) ∙ (shows_kept es order kept).found c old at))
              ∙ ap map.keys (sym classes_other);
        }

    -- ---- a class less

    module _ (alone : (q : Name) (row : ClassRow) → map.get (classes_of es) q ≡ Some row → row.superclass ≢ Some old.class_name) where
      abbrev pub less : Entries
      less = set es c None

      pub names_less : names_of less ≡ set (names_of es) c None
      names_less = map-set (option_map (λ (f : ClassEntry). f.class_name)) es c None

      alone_numbers : (i : ℕ) (f : ClassEntry) → IsAt es i f → f.superclass ≢ Some c
      alone_numbers i f is same =
          alone f.class_name (row_of (names_of es) f) ((shows_kept es order kept).found i f is)
          (ap (superclass_in (names_of es)) same ∙ name_is (names_of es) c old.class_name old_number)

      at_less : (i : ℕ) (f : ClassEntry) → IsAt less i f → (i ≢ c) × IsAt es i f
      at_less i f is = elim (same_number i c) [
        | inl here ↦ let h : Some None ≡ Some (Some f) = sym (get_set es c (Some old) None at) ∙ ap (slice_get less) (sym here) ∙ is in cc
        | inr ne ↦ (ne, sym (get_set_other es c i None ne) ∙ is)
      ]

      distinct_less : IsDistinct less
      distinct_less i j f g at_f at_g same = distinct_kept es order kept i j f g (at_less i f at_f).1 (at_less j g at_g).1 same

      number_less : (i : ℕ) (name : Name) → i ≢ c → IsNumberOf (names_of es) i name → IsNumberOf (names_of less) i name
      number_less i name ne is = subst (λ names. IsNumberOf names i name) (sym names_less) (get_set_other (names_of es) c i None ne ∙ is)

      pub classes_less : classes_of less ≡ map.remove (classes_of es) old.class_name
      classes_less =
          shows_same (names_of less) less _ _ (shows_rows (names_of less) less distinct_less)
          (subst (λ names. Shows names less (map.remove (classes_of es) old.class_name)) (sym names_less)
          (shows_taken (names_of es) es (classes_of es) (shows_kept es order kept) (distinct_kept es order kept) c old at alone_numbers))

      is_superclass_less : (s : Option ℕ) → s ≢ Some c → IsSuperclass (names_of es) s → IsSuperclass (names_of less) s
      is_superclass_less None ne is = tt
      is_superclass_less (Some i) ne is = (is.0, number_less i is.0 (λ same. ne (ap Some same)) is.1)

      -- the number of the class stands at the place of its name
      module _ (p : ℕ) (place : IsPlace (list_map (name_at (names_of es)) order) old.class_name p) where
        found_old : map.get (classes_of es) old.class_name ≡ Some (row_of (names_of es) old)
        found_old = (shows_kept es order kept).found c old at

        place_in_keys : IsPlace (map.keys (classes_of es)) old.class_name p
        place_in_keys = subst (λ ks. IsPlace ks old.class_name p) kept.in_order place

        pub at_place : (p < length order) × (get_or order p 0 ≡ c)
        at_place =
            let key = key_of_class (classes_of es) old.class_name (row_of (names_of es) old) found_old in
            let same : p ≡ key.0 = present_place (map.keys (classes_of es)) old.class_name p key.0 (keys_rise (classes_of es)) place_in_keys key.1 key.2 in
            let lt : p < length order = omega (arith, key.1, same, ap length kept.in_order, length-map order (name_at (names_of es))) in
            let class = kept.are_classes p lt in
            let name : class.0 ≡ old.class_name =
            sym (name_at_is (names_of es) (get_or order p 0) class.0 class.1) ∙ sym (get_or-map (name_at (names_of es)) order p 0 [] lt)
            ∙ ap (λ ks. get_or ks p []) kept.in_order ∙ ap (λ k. get_or (map.keys (classes_of es)) k []) same ∙ key.2 in
            (lt, kept.one_number (get_or order p 0) c old.class_name (subst (λ n. IsNumberOf (names_of es) (get_or order p 0) n) name class.1) old_number)

        apart_in_order : (k : ℕ) → k < length order → k ≢ p → get_or order k 0 ≢ c
        apart_in_order k lt ne same =
            let name : get_or (map.keys (classes_of es)) k [] ≡ old.class_name =
            ap (λ ks. get_or ks k []) (sym kept.in_order) ∙ get_or-map (name_at (names_of es)) order k 0 [] lt ∙ ap (name_at (names_of es)) same
            ∙ name_at_is (names_of es) c old.class_name old_number in
            let within : k < length (map.keys (classes_of es)) = omega (arith, ap length kept.in_order, length-map order (name_at (names_of es))) in
            ne (sym (present_place (map.keys (classes_of es)) old.class_name p k (keys_rise (classes_of es)) place_in_keys within name))

        -- the numbers that are left are those of classes other than this one
        left_class : (k : ℕ) → k < length (remove order p) → (name : Name) × (get_or (remove order p) k 0 ≢ c) × IsNumberOf (names_of es) (get_or (remove order p) k 0) name
        left_class = each_left (λ n. (name : Name) × (n ≢ c) × IsNumberOf (names_of es) n name) order p
            (λ k lt ne. let class = kept.are_classes k lt in (class.0, apart_in_order k lt ne, class.1))

        pub kept_less : IsKept less (remove order p)
        kept_less = record {
          one_number = distinct_names less distinct_less;
          superclasses = λ i f is. let before = (at_less i f is).1 in is_superclass_less f.superclass (alone_numbers i f before) (kept.superclasses i f before);
          valid = subst IsValid (sym classes_less) (valid-remove (classes_of es) old.class_name kept.valid alone);
          are_classes = λ k lt. let class = left_class k lt in (class.0, number_less (get_or (remove order p) k 0) class.0 class.1 class.2);
          in_order =
              map_same (name_at (names_of less)) (name_at (names_of es)) (remove order p) (λ k lt.
              let class = left_class k lt in
              name_at_is (names_of less) (get_or (remove order p) k 0) class.0 (number_less (get_or (remove order p) k 0) class.0 class.1 class.2)
              ∙ sym (name_at_is (names_of es) (get_or (remove order p) k 0) class.0 class.2))
              ∙ map-remove (name_at (names_of es)) order p ∙ ap (λ ks. remove ks p) kept.in_order
              ∙ sym (keys-remove (classes_of es) old.class_name (row_of (names_of es) old) p found_old place_in_keys)
              ∙ ap map.keys (sym classes_less);
        }
