-- What the representation of a table shows to its reading calls.
use Rattle.std.proofs.Common.{◌≡◌, ◌≢◌, ◌≤◌, ◌<◌, ◌∙◌, inl, inr, ℕ, Bool, true, false, refl, sym, ap, subst, List, [], length, get_or, map as list_map, Option, Some, None, arith, slice_get, unwrap_or}
use Rattle.std.specs.List.Sorted.{IsPartitionedBy, IsPartitionPoint}
use Rattle.std.specs.FinMap as map
use Rattle.std.specs.Ordering.{nat_cmp}
use Rattle.std.specs.Str.{bytes_eq}
use Rattle.std.specs.Cmp.Lexicographic.{slice_cmp, same_text, other_text}
use Rattle.std.proofs.lemmas.Bool.{cases_lt}
use Rattle.std.proofs.lemmas.List.{get_or-map, length-map, nil_from_length}
use Rattle.std.specs.Option.{option_map}
use Rattle.std.proofs.lemmas.Option.{slice_get_within, slice_get-get_or, get_or_from_slice_get, slice_get_read}
use Rattle.s80_class.specs.declared.entry.ClassEntry.{ClassEntry}
use Rattle.s80_class.specs.Classes.{Name, ClassRow}
use Rattle.s80_class.specs.Table.{IsNumberOf, IsClass, IsEntryOf}
use Rattle.s80_class.specs.Kept.{names_of, classes_of, name_at, IsKept, is_below, IsRising, IsPlace}
use Rattle.s80_class.proofs.lemmas.Rows.{Entries, IsAt, IsDistinct, Shows, shows_rows, distinct_entries, number_of_entry, name_is}
use Rattle.s80_class.proofs.Keys.{keys_rise, no_key, below_trans}

-- ---- a search

module _ (names : List (Option Name)) (order : List ℕ) (name : Name) where
  abbrev pub sought : ℕ → Bool
  sought n = is_below (name_at names n) name

  abbrev pub named : List Name
  named = list_map (name_at names) order

  named_at : (k : ℕ) (d : ℕ) → k < length order → get_or named k [] ≡ name_at names (get_or order k d)
  named_at k d lt = get_or-map (name_at names) order k d [] lt

  pub parted : IsRising named → IsPartitionedBy sought order
  parted rises i j d le within found =
      elim (cases_lt i j) as (λ _. sought (get_or order i d) ≡ true) [
        | inl lt ↦
            let below = rises i j lt (omega (arith, length-map order (name_at names))) in
            let below' : is_below (name_at names (get_or order i d)) (name_at names (get_or order j d)) ≡ true =
            ap (λ a. is_below a (name_at names (get_or order j d))) (sym (named_at i d (omega arith))) ∙ ap (is_below (get_or named i [])) (sym (named_at j d within)) ∙ below in
            below_trans (name_at names (get_or order i d)) (name_at names (get_or order j d)) name below' found
        | inr ge ↦ let same : i ≡ j = omega arith in ap (λ k. sought (get_or order k d)) same ∙ found
      ]

  pub placed : (p : ℕ) → p ≤ length order → IsPartitionPoint (λ y. sought y ≡ true) (λ y. sought y ≡ false) order p → IsPlace named name p
  placed p le both =
      record {
        within = omega (arith, length-map order (name_at names));
        below = λ k lt. ap (λ a. is_below a name) (named_at k 0 (omega arith)) ∙ both.0 k 0 (omega arith) lt;
        above = λ k ge lt. let within : k < length order = omega (arith, length-map order (name_at names)) in ap (λ a. is_below a name) (named_at k 0 within) ∙ both.1 k 0 ge within;
      }

-- ---- what is kept

module _ (es : Entries) (order : List ℕ) (kept : IsKept es order) where
  pub distinct_kept : IsDistinct es
  distinct_kept = distinct_entries es kept.one_number

  pub shows_kept : Shows (names_of es) es (classes_of es)
  shows_kept = shows_rows (names_of es) es distinct_kept

  pub names_rise : IsRising (list_map (name_at (names_of es)) order)
  names_rise = subst IsRising (sym kept.in_order) (keys_rise (classes_of es))

  pub ordered_length : length order ≡ map.len (classes_of es)
  ordered_length =
      sym (length-map order (name_at (names_of es))) ∙ ap length kept.in_order
      ∙ length-map (map.entries (classes_of es)) (λ (e : Name × ClassRow). e.0) ∙ sym (map.len-entries (classes_of es))

  pub found_number : (name : Name) (at number : ℕ) → slice_get order at ≡ Some number → name_at (names_of es) number ≡ name → IsNumberOf (names_of es) number name
  found_number name at number here is =
      let lt : at < length order = slice_get_within order at number here in
      let class = kept.are_classes at lt in
      let at_number : IsNumberOf (names_of es) number class.0 = subst (λ n. IsNumberOf (names_of es) n class.0) (get_or_from_slice_get order at number 0 here) class.1 in
      let same : class.0 ≡ name = sym (ap (λ o. unwrap_or o []) (name_is (names_of es) number class.0 at_number)) ∙ is in
      subst (λ n. IsNumberOf (names_of es) number n) same at_number

  pub not_found : (name : Name) (at : ℕ) → IsPlace (list_map (name_at (names_of es)) order) name at → ((number : ℕ) → slice_get order at ≡ Some number → name_at (names_of es) number ≢ name)
      → map.get (classes_of es) name ≡ None
  not_found name at place differs =
      no_key (classes_of es) name at (subst (λ ks. IsPlace ks name at) kept.in_order place) (λ lt same.
      let within : at < length order = omega (arith, lt, ap length kept.in_order, length-map order (name_at (names_of es))) in
      differs (get_or order at 0) (slice_get-get_or order at 0 within)
      (sym (named_at (names_of es) order name at 0 within) ∙ ap (λ ks. get_or ks at []) kept.in_order ∙ same))

  -- the same as a search in two slices has it
  module _ (entries : Entries) (numbers : List ℕ) (name : Name) (at : ℕ) (entries_are : entries ≡ es) (numbers_are : numbers ≡ order) where
    pub found_there : (number : ℕ) (a b : Name) → at < length numbers → number ≡ get_or numbers at number → a ≡ name_at (names_of entries) number → b ≡ name → true ≡ bytes_eq a b
        → IsNumberOf (names_of es) number name
    found_there number a b lt here is_a is_b same =
        found_number name at number (ap (λ xs. slice_get xs at) (sym numbers_are) ∙ slice_get_read numbers (length numbers) at number refl lt here)
        (ap (λ es'. name_at (names_of es') number) (sym entries_are) ∙ sym is_a ∙ same_text a b same ∙ is_b)

    module _ (sought_name : Name) (name_is' : sought_name ≡ name) (place : IsPlace (list_map (name_at (names_of entries)) numbers) sought_name at) where
      placed_there : IsPlace (list_map (name_at (names_of es)) order) name at
      placed_there =
          subst (λ es'. IsPlace (list_map (name_at (names_of es')) order) name at) entries_are
          (subst (λ xs. IsPlace (list_map (name_at (names_of entries)) xs) name at) numbers_are
          (subst (λ n. IsPlace (list_map (name_at (names_of entries)) numbers) n at) name_is' place))

      pub past_there : length numbers ≤ at → map.get (classes_of es) name ≡ None
      past_there le = not_found name at placed_there (λ number is. let lt = slice_get_within order at number is in absurd (omega (arith, lt, ap length numbers_are)))

      pub other_there : (number : ℕ) (a b : Name) → at < length numbers → number ≡ get_or numbers at number → a ≡ name_at (names_of entries) number → b ≡ name → false ≡ bytes_eq a b
          → map.get (classes_of es) name ≡ None
      other_there number a b lt here is_a is_b differs = not_found name at placed_there (λ n is same.
          let read : slice_get order at ≡ Some number = ap (λ xs. slice_get xs at) (sym numbers_are) ∙ slice_get_read numbers (length numbers) at number refl lt here in
          let one : n ≡ number = let e : Some n ≡ Some number = sym is ∙ read in cc in
          other_text a b differs (is_a ∙ ap (λ es'. name_at (names_of es') number) entries_are ∙ ap (name_at (names_of es)) (sym one) ∙ same ∙ sym is_b))

  pub class_within : (i : ℕ) → IsClass (names_of es) i → i < length es
  class_within i class = omega (arith, slice_get_within (names_of es) i (Some class.0) class.1, length-map es (option_map (λ (e : ClassEntry). e.class_name)))

  pub is_entry : (spare i : ℕ) (e : ClassEntry) → IsAt es i e → IsEntryOf (record { classes = classes_of es; names = names_of es; spare = spare }) i e
  is_entry spare i e at = record {
    named = number_of_entry es i e at;
    row = (shows_kept).found i e at;
    superclass = kept.superclasses i e at;
  }

-- ---- no class at all

no_entries : map.entries (map.empty {X = ClassRow} {R = slice_cmp nat_cmp}) ≡ []
no_entries = nil_from_length _ (sym (map.len-entries (map.empty {X = ClassRow} {R = slice_cmp nat_cmp})) ∙ map.len-empty (slice_cmp nat_cmp) ClassRow)

pub none_kept : IsKept [] []
none_kept = record {
  one_number = λ i j name a b. cc;
  superclasses = λ i e at. cc;
  valid = λ name row is. let bad : None ≡ Some row = sym (map.get-empty (slice_cmp nat_cmp) name) ∙ is in cc;
  are_classes = λ k lt. absurd (omega arith);
  in_order = sym (ap (list_map (λ (e : Name × ClassRow). e.0)) no_entries);
}
