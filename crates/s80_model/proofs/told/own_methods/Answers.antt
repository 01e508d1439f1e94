use Rattle.std.proofs.Common.{◌∙◌, refl, ap}
use Rattle.std.specs.List.{slice_get}
use Rattle.s80_model.proofs.Telling.{next_own, sum_of}
use Rattle.s80_model.proofs.told.own_methods.Goals as goal

pub loop-i-init : goal.loop-i-init
loop-i-init c = λ state of_state. refl

pub loop-i-preserved : goal.loop-i-preserved
loop-i-preserved c = λ state of_state. next_own state c.names.inside.names.items c.loop-i.i c.at.result.now c.loop-i.count c.in_ok-more.more c.in_ok-count.count
    (c.loop-i.invariant state of_state) (ap (λ l. slice_get l c.loop-i.i) c.names.view_is ∙ c.at.ensures) (c.in_ok-more.ensures state of_state)
    (sum_of c.checked_add.result c.in_ok-count.count c.loop-i.count c.in_ok-more.more c.checked_add.ensures c.in_ok-count.ensures.ok_part)
