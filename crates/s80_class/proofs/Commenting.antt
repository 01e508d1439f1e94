-- Another comment of a class.
use Rattle.std.proofs.Common.{◌≡◌, ◌∙◌, ℕ, refl, sym, ap, List, set, Some}
use Rattle.std.specs.Option.{option_map}
use Rattle.std.specs.FinMap as map
use Rattle.s80_class.specs.declared.entry.ClassEntry.{ClassEntry}
use Rattle.s80_class.specs.Classes.{Name, ClassRow, change_row, with_comment}
use Rattle.s80_class.specs.Table.{Table, IsNumberOf, IsAbove, IsEntryOf, row_of}
use Rattle.s80_class.specs.Kept.{names_of, classes_of, IsKept}
use Rattle.s80_class.specs.Below.{Pair, IsIndexed}
use Rattle.s80_class.proofs.lemmas.Above.{superclass_above}
use Rattle.s80_class.proofs.lemmas.Changed.{changed_there}
use Rattle.s80_class.proofs.lemmas.Rows.{Entries, IsAt}
use Rattle.s80_class.proofs.lemmas.Walks.{same_name}
use Rattle.s80_class.proofs.Calls.{shown, entry_shown, replaced_kept, replaced_classes, replaced_names}
use Rattle.s80_class.proofs.Families.{known_table}
use Rattle.s80_class.proofs.Indexed.{is_there, one_superclass, indexed_other}
use Rattle.s80_class.proofs.Pairs.{moved_nowhere}

module _ (es : Entries) (order : List ℕ) (kept : IsKept es order) (spare : ℕ) (table : Table) (shows : shown es spare ≡ table) (c : ℕ) (old : ClassEntry) (at : IsAt es c old) where
  is_old : IsEntryOf table c old
  is_old = entry_shown es order kept spare table shows c old at

  above_old : IsAbove table old.superclass old.class_name
  above_old = superclass_above table (known_table es order kept spare table shows).valid c old is_old

  pub old_comment : (name : Name) → IsNumberOf table.names c name → option_map (λ row. row.comment) (map.get table.classes name) ≡ Some old.comment
  old_comment name named =
      ap (option_map (λ (row : ClassRow). row.comment)) (ap (map.get table.classes) (same_name table c name old.class_name named is_old.named) ∙ is_old.row)

  module _ (text : List ℕ) where
    abbrev commented : ClassEntry
    commented = record old { comment = text }

    abbrev with_commented : Entries
    with_commented = set es c (Some commented)

    pub commented_kept : IsKept with_commented order
    commented_kept = replaced_kept es order kept spare table shows c old commented at is_old.named with_commented refl above_old

    pub commented_names : names_of with_commented ≡ table.names
    commented_names = replaced_names es order kept spare table shows c old commented at is_old.named with_commented refl

    pub commented_classes : (name : Name) → IsNumberOf table.names c name → classes_of with_commented ≡ change_row (with_comment text) name table.classes
    commented_classes name named =
        replaced_classes es order kept spare table shows c old commented at is_old.named with_commented refl
        ∙ sym (changed_there (with_comment text) old.class_name table.classes (row_of table.names old) is_old.row)
        ∙ ap (λ (n : Name). change_row (with_comment text) n table.classes) (same_name table c old.class_name name is_old.named named)

    pub commented_indexed : (pairs : List Pair) → IsIndexed es pairs → IsIndexed with_commented pairs
    commented_indexed pairs indexed =
        indexed_other es pairs indexed c old at commented pairs
        (moved_nowhere pairs c old.superclass old.superclass indexed.ordered (is_there es pairs indexed c old at) refl (one_superclass es pairs indexed c old at))
