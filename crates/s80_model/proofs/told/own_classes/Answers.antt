use Rattle.std.proofs.Common.{◌∙◌, sym, ap, not}
use Rattle.std.specs.List.{slice_get}
use Rattle.s80_kernel.specs.Rows.{is_kernel_class}
use Rattle.s80_model.proofs.Telling.{is_own_class, one_more, none_more}
use Rattle.s80_model.proofs.told.own_classes.Goals as goal
use Rattle.s80_model.proofs.told.own_classes.Goals.{then-not-is_kernel_class, else-not-is_kernel_class}

pub loop-i-preserved : goal.loop-i-preserved
loop-i-preserved c =
    let at = ap (λ l. slice_get l c.loop-i.i) c.names.view_is ∙ c.at.ensures in
    let test = ap not (sym (c.is_kernel_class.ensures ∙ ap is_kernel_class c.bytes.ensures)) in
    elim c.if-not-is_kernel_class.branch [
      | then-not-is_kernel_class w ↦ one_more is_own_class c.names.inside.names.items c.loop-i.i c.at.result.now c.loop-i.count c.if-not-is_kernel_class.count
          c.loop-i.invariant at (test ∙ ap not w.if-not-is_kernel_class.true) w.count-is
      | else-not-is_kernel_class w ↦ none_more is_own_class c.names.inside.names.items c.loop-i.i c.at.result.now c.loop-i.count c.if-not-is_kernel_class.count
          c.loop-i.invariant at (test ∙ ap not w.if-not-is_kernel_class.false) w.count-is
    ]
