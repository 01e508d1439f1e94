use Rattle.std.proofs.Common.{List, subst, sym}
use Rattle.s80_change.specs.declared.change.Change.{Change}
use Rattle.s80_apply.specs.List.{AreAccepted, state_from}
use Rattle.s80_apply.specs.Placed.{placed_kernel_state}
use Rattle.s80_apply.specs.State.{kernel_state}
use Rattle.s80_apply.specs.System.{IsSystemOf}
use Rattle.s80_image.specs.Classes.{classes_of}
use Rattle.s80_snapshot.proofs.BeginningSystem.{classes_accepted, is_begun}
use Rattle.s80_snapshot.proofs.begun.begun_system.Goals as goal

pub work_all-requires-clause-places : goal.work_all-requires-clause-places
work_all-requires-clause-places c = (placed_kernel_state, c.in_ok-system.ensures.places)

pub work_all-requires-clause-accepted : goal.work_all-requires-clause-accepted
work_all-requires-clause-accepted c =
    subst (AreAccepted kernel_state) (sym c.in_ok-changes.ensures) (classes_accepted c.lawful_classes_are_made.ensures (classes_of c.args.classes.now) c.requires)

pub returns : goal.returns
returns c =
    is_begun c.lawful_classes_are_made.ensures (classes_of c.args.classes.now) c.requires c.work_all.new.system
    (subst (λ (changes : List Change). IsSystemOf c.work_all.new.system (state_from kernel_state changes)) c.in_ok-changes.ensures c.in_ok-work_all.ensures.state) c.in_ok-work_all.ensures.places
