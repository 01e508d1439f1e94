-- What is kept after a change, as the calls of the table have it.
use Rattle.std.proofs.Common.{◌≡◌, ◌≢◌, ◌<◌, ◌∙◌, ◌++◌, ℕ, refl, sym, ap, subst, List, [], ◌∷◌, length, get_or, set, map as list_map, Option, Some, None, slice_get}
use Rattle.std.specs.List.{insert, remove}
use Rattle.std.specs.FinMap as map
use Rattle.std.proofs.lemmas.Option.{slice_get_read}
use Rattle.s80_class.specs.declared.entry.ClassEntry.{ClassEntry}
use Rattle.s80_class.specs.Classes.{Name, ClassRow, IsValid}
use Rattle.s80_class.specs.Table.{Table, IsNumberOf, IsClass, IsSuperclass, IsAbove, IsEntryOf, row_of}
use Rattle.s80_class.specs.Kept.{names_of, classes_of, name_at, IsKept, IsPlace}
use Rattle.s80_class.proofs.lemmas.Rows.{Entries, IsAt, entry_of_number}
use Rattle.s80_class.proofs.Keeping.{is_entry, class_within}
use Rattle.s80_class.proofs.Changes

abbrev pub shown : Entries → ℕ → Table
shown es spare = record { classes = classes_of es; names = names_of es; spare = spare }

module _ (es : Entries) (order : List ℕ) (kept : IsKept es order) (spare : ℕ) (table : Table) (shows : shown es spare ≡ table) where
  -- a class more
  module _ (e : ClassEntry) (none : map.get table.classes e.class_name ≡ None) (super : IsSuperclass table.names e.superclass) where
    none' : map.get (classes_of es) e.class_name ≡ None
    none' = subst (λ (t : Table). map.get t.classes e.class_name ≡ None) (sym shows) none

    super' : IsSuperclass (names_of es) e.superclass
    super' = subst (λ (t : Table). IsSuperclass t.names e.superclass) (sym shows) super

    module _ (entries : Entries) (are : entries ≡ es ++ Some e ∷ []) where
      pub added_kept : (numbers : List ℕ) (at number : ℕ) → numbers ≡ insert order at number → number ≡ length es → IsPlace (list_map (name_at (names_of es)) order) e.class_name at → IsKept entries numbers
      added_kept numbers at number numbers_are is place =
          subst (λ es'. IsKept es' numbers) (sym are)
          (subst (λ xs. IsKept (es ++ Some e ∷ []) xs) (ap (insert order at) (sym is) ∙ sym numbers_are) (Changes.kept_more es order kept e none' super' at place))

      pub added_classes : classes_of entries ≡ map.insert table.classes e.class_name (row_of table.names e)
      added_classes = ap classes_of are ∙ Changes.classes_more es order kept e none' super' ∙ ap (λ (t : Table). map.insert t.classes e.class_name (row_of t.names e)) shows

      pub added_valid : IsValid (classes_of entries)
      added_valid = subst IsValid (sym (ap classes_of are ∙ Changes.classes_more es order kept e none' super')) (Changes.valid_more es order kept e none' super')

  -- the entry that a number has
  class_at : (c : ℕ) (o : Option ClassEntry) → IsClass table.names c → o ≡ get_or es c o → slice_get es c ≡ Some o
  class_at c o class here =
      slice_get_read es (length es) c o refl (class_within es order kept c (subst (λ (t : Table). IsClass t.names c) (sym shows) class)) here

  pub entry_at : (c : ℕ) (o : Option ClassEntry) (old : ClassEntry) → IsClass table.names c → o ≡ get_or es c o → o ≡ Some old → IsAt es c old
  entry_at c o old class here is = class_at c o class here ∙ ap Some is

  pub entry_shown : (c : ℕ) (old : ClassEntry) → IsAt es c old → IsEntryOf table c old
  entry_shown c old at = subst (λ t. IsEntryOf t c old) shows (is_entry es order kept spare c old at)

  pub is_entry_at : (c : ℕ) (o : Option ClassEntry) → IsClass table.names c → o ≡ get_or es c o → (old : ClassEntry) × (o ≡ Some old)
  is_entry_at c o class here =
      let e = entry_of_number es c class.0 (subst (λ (t : Table). IsNumberOf t.names c class.0) (sym shows) class.1) in
      let same : o ≡ Some e.0 = let h : Some o ≡ Some (Some e.0) = sym (class_at c o class here) ∙ e.1 in cc in
      (e.0, same)

  pub entry_of_class : (c : ℕ) → IsClass table.names c → (old : ClassEntry) × IsAt es c old
  entry_of_class c class =
      let e = entry_of_number es c class.0 (subst (λ (t : Table). IsNumberOf t.names c class.0) (sym shows) class.1) in
      (e.0, e.1)

  -- a name has one number, and none where no class has it
  pub found_one : (name : Name) (number other : ℕ) → IsNumberOf table.names number name → IsNumberOf table.names other name → Some number ≡ Some other
  found_one name number other is named =
      let one = subst (λ (t : Table). (i j : ℕ) (n : Name) → IsNumberOf t.names i n → IsNumberOf t.names j n → i ≡ j) shows kept.one_number in
      ap Some (one number other name is named)

  pub found_none : (name : Name) (other : ℕ) → map.get table.classes name ≡ None → IsNumberOf table.names other name → None ≡ Some other
  found_none name other none named =
      let e = entry_of_class other (name, named) in
      let is = entry_shown other e.0 e.1 in
      let same : e.0.class_name ≡ name = let h : Some (Some e.0.class_name) ≡ Some (Some name) = sym is.named ∙ named in cc in
      let bad : Some (row_of table.names e.0) ≡ None = sym is.row ∙ ap (map.get table.classes) same ∙ none in cc

  -- the place of the name of a number
  pub place_named : (c : ℕ) (old : ClassEntry) → IsAt es c old → (p : ℕ) → IsPlace (list_map (name_at (names_of es)) order) (name_at (names_of es) c) p
      → IsPlace (list_map (name_at (names_of es)) order) old.class_name p
  place_named c old at p place =
      subst (λ n. IsPlace (list_map (name_at (names_of es)) order) n p) (Changes.name_at_is (names_of es) c old.class_name (Changes.old_number es order kept c old at)) place

  -- another entry
  module _ (c : ℕ) (old e : ClassEntry) (at : IsAt es c old) (named : IsNumberOf table.names c e.class_name) (entries : Entries) (are : entries ≡ set es c (Some e)) where
    keeps : old.class_name ≡ e.class_name
    keeps =
        let is = entry_of_number es c e.class_name (subst (λ (t : Table). IsNumberOf t.names c e.class_name) (sym shows) named) in
        let same : old ≡ is.0 = let h : Some (Some old) ≡ Some (Some is.0) = sym at ∙ is.1 in cc in
        ap (λ (f : ClassEntry). f.class_name) same ∙ is.2

    pub replaced_classes : classes_of entries ≡ map.insert table.classes e.class_name (row_of table.names e)
    replaced_classes = ap classes_of are ∙ Changes.classes_other es order kept c old at e keeps ∙ ap (λ (t : Table). map.insert t.classes e.class_name (row_of t.names e)) shows

    pub replaced_names : names_of entries ≡ table.names
    replaced_names = ap names_of are ∙ Changes.names_other es order kept c old at e keeps ∙ ap (λ (t : Table). t.names) shows

    module _ (above : IsAbove table e.superclass e.class_name) where
      above' : IsAbove (shown es spare) e.superclass e.class_name
      above' = subst (λ t. IsAbove t e.superclass e.class_name) (sym shows) above

      pub replaced_kept : IsKept entries order
      replaced_kept = subst (λ es'. IsKept es' order) (sym are) (Changes.kept_other es order kept c old at e keeps spare above')

      pub replaced_valid : IsValid (classes_of entries)
      replaced_valid = subst IsValid (sym (ap classes_of are ∙ Changes.classes_other es order kept c old at e keeps)) (Changes.valid_other es order kept c old at e keeps spare above')

  -- a class less
  module _ (c : ℕ) (old : ClassEntry) (at : IsAt es c old)
      (alone : (name : Name) (other : Name) (row : ClassRow) → IsNumberOf table.names c name → map.get table.classes other ≡ Some row → row.superclass ≢ Some name) where
    alone' : (q : Name) (row : ClassRow) → map.get (classes_of es) q ≡ Some row → row.superclass ≢ Some old.class_name
    alone' q row is =
        alone old.class_name q row (subst (λ (t : Table). IsNumberOf t.names c old.class_name) shows (Changes.old_number es order kept c old at))
        (subst (λ (t : Table). map.get t.classes q ≡ Some row) shows is)

    pub removed_at : (p : ℕ) → IsPlace (list_map (name_at (names_of es)) order) old.class_name p → p < length order
    removed_at p place = (Changes.at_place es order kept c old at alone' p place).0

    module _ (entries : Entries) (are : entries ≡ set es c None) where
      pub removed_kept : (numbers : List ℕ) (p : ℕ) → numbers ≡ remove order p → IsPlace (list_map (name_at (names_of es)) order) old.class_name p → IsKept entries numbers
      removed_kept numbers p numbers_are place =
          subst (λ es'. IsKept es' numbers) (sym are) (subst (λ xs. IsKept (set es c None) xs) (sym numbers_are) (Changes.kept_less es order kept c old at alone' p place))

      pub removed_classes : classes_of entries ≡ map.remove table.classes old.class_name
      removed_classes = ap classes_of are ∙ Changes.classes_less es order kept c old at alone' ∙ ap (λ (t : Table). map.remove t.classes old.class_name) shows

      pub removed_names : names_of entries ≡ set table.names c None
      removed_names = ap names_of are ∙ Changes.names_less es order kept c old at alone' ∙ ap (λ (t : Table). set t.names c None) shows
