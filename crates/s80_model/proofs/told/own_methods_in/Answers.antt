use Rattle.std.proofs.Common.{◌∙◌, sym, ap}
use Rattle.std.specs.List.{slice_get}
use Rattle.s80_model.proofs.Telling.{is_own_in, one_more, none_more}
use Rattle.s80_model.proofs.told.own_methods_in.Goals as goal
use Rattle.s80_model.proofs.told.own_methods_in.Goals.{then-is_own, else-is_own}

pub loop-i-preserved : goal.loop-i-preserved
loop-i-preserved c =
    let at = ap (λ l. slice_get l c.loop-i.i) c.selectors.view_is ∙ c.at.ensures in
    elim c.if-is_own.branch [
      | then-is_own w ↦ one_more (is_own_in c.args.name.now c.args.side c.args.methods.now.methods) c.selectors.inside.names.items c.loop-i.i c.at.result.now c.loop-i.count c.if-is_own.count
          c.loop-i.invariant at (sym c.is_own.ensures ∙ w.if-is_own.true) w.count-is
      | else-is_own w ↦ none_more (is_own_in c.args.name.now c.args.side c.args.methods.now.methods) c.selectors.inside.names.items c.loop-i.i c.at.result.now c.loop-i.count c.if-is_own.count
          c.loop-i.invariant at (sym c.is_own.ensures ∙ w.if-is_own.false) w.count-is
    ]
