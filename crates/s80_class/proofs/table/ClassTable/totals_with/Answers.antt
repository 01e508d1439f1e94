use Rattle.std.proofs.Common.{◌≡◌, ◌∙◌, ap}
use Rattle.s80_class.specs.Classes.{inherited_in}
use Rattle.s80_class.specs.Counted.{totals, over, own}
use Rattle.s80_class.proofs.Settled.{above_counts, none_above}
use Rattle.s80_class.proofs.table.ClassTable.totals_with.Goals.{in-Some, in-None}
use Rattle.s80_class.proofs.table.ClassTable.totals_with.Goals as goal

pub returns : goal.returns
returns c = λ es line.
    let e = c.args.entry.now in
    let above : c.match-entry.above ≡ totals (inherited_in es) = elim c.match-entry.branch as (λ _. c.match-entry.above ≡ totals (inherited_in es)) [
      | in-Some w ↦ w.above-is ∙ above_counts c.args.self.now e.superclass w.in-Some.superclass w.in-Some.is c.requires w.totals_of-above.result w.totals_of-above.ensures es line
      | in-None w ↦ w.above-is ∙ w.none-above.ensures ∙ none_above c.args.self.now e.superclass w.in-None.is es line
    ] in
    c.over.ensures ∙ ap (λ o. over o c.match-entry.above) c.own.ensures ∙ ap (over (own e.kind e.inst_vars e.class_side_vars)) above
