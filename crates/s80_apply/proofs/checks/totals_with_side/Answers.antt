use Rattle.std.proofs.Common.{◌≡◌, ◌∙◌, ap, sym, arith, length}
use Rattle.std.specs.FinMap as map
use Rattle.s80_class.specs.Classes.{ClassRow}
use Rattle.s80_class.specs.Table.{row_of}
use Rattle.s80_class.proofs.lemmas.Walks.{same_name}
use Rattle.s80_apply.proofs.Places.{some_same}
use Rattle.s80_apply.proofs.Vars.{given_totals, own_counted}
use Rattle.s80_apply.proofs.checks.totals_with_side.Goals as goal

pub overflow_sub-totals : goal.overflow_sub-totals
overflow_sub-totals c =
    let table = c.args.classes.now in
    let entry = c.at.result.now in
    let own = own_counted table.classes entry.class_name (row_of table.names entry) c.requires.valid c.at.ensures.row c.requires.within c.totals_of-totals.result (c.totals_of-totals.ensures entry.class_name c.at.ensures.named) in
    omega (arith, own, c.count-own.ensures)

pub returns : goal.returns
returns c = λ name row names named there count.
    let table = c.args.classes.now in
    let entry = c.at.result.now in
    let class : entry.class_name ≡ name = same_name table c.args.number entry.class_name name c.at.ensures.named named in
    let rows : row_of table.names entry ≡ row = some_same (row_of table.names entry) row (sym c.at.ensures.row ∙ ap (map.get table.classes) class ∙ there) in
    given_totals table.classes name row c.requires.valid there names c.requires.within c.totals_of-totals.result c.count-own.result c.args.class_side_vars c.saturating_add.result (c.totals_of-totals.ensures name named)
    (c.count-own.ensures ∙ ap (λ (r : ClassRow). length r.class_side_vars) rows) count c.saturating_add.ensures
