-- The superclass of a class is above it.
use Rattle.std.proofs.Common.{◌≡◌, ◌∙◌, ℕ, false, refl, sym, ap, subst, List, [], ◌∷◌, Option, Some, None}
use Rattle.s80_class.specs.declared.entry.ClassEntry.{ClassEntry}
use Rattle.s80_class.specs.Classes.{ClassRow, IsLine, IsValid, is_under}
use Rattle.s80_class.specs.Table.{Table, IsSuperclass, IsAbove, IsEntryOf, row_of}
use Rattle.s80_class.proofs.lemmas.Lines.{Entry, passes, lineage_line, never_again}
use Rattle.s80_class.proofs.lemmas.Numbers.{value}
use Rattle.s80_class.proofs.lemmas.Rows.{name_is, superclass_in}

pub superclass_above : (table : Table) → IsValid table.classes → (c : ℕ) (e : ClassEntry) → IsEntryOf table c e → IsAbove table e.superclass e.class_name
superclass_above table valid c e is = go e.superclass refl is.superclass
  where
    not_under : (number : ℕ) (class : IsSuperclass table.names (Some number)) → e.superclass ≡ Some number → (es : List Entry) → IsLine table.classes (Some e.class_name) es
        → is_under table.classes class.0 e.class_name ≡ false
    not_under number class here [] line = absurd line
    not_under number class here (x ∷ es) line =
        let row : row_of table.names e ≡ x.1 = value (sym is.row ∙ line.1) in
        let above : x.1.superclass ≡ Some class.0 =
        ap (λ (r : ClassRow). r.superclass) (sym row) ∙ ap (superclass_in table.names) here ∙ name_is table.names number class.0 class.1 in
        let up : IsLine table.classes (Some class.0) es = subst (λ p. IsLine table.classes p es) above line.2 in
        ap (passes e.class_name) (lineage_line table.classes class.0 es up) ∙ never_again table.classes e.class_name x es line

    go : (s : Option ℕ) → e.superclass ≡ s → IsSuperclass table.names s → IsAbove table s e.class_name
    go None here class = tt
    go (Some number) here class =
        let line = valid e.class_name (row_of table.names e) is.row in
        (class.0, class.1, not_under number class here line.0 line.1)
