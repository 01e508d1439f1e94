use Rattle.std.proofs.Common.{Err, subst}
use Rattle.s80_apply.specs.System.{Prepares}
use Rattle.s80_snapshot.proofs.WorkingChanges.{not_refused, places_made, state_made}
use Rattle.s80_snapshot.proofs.working.work.Goals as goal

pub returns-in-Ok : goal.returns-in-Ok
returns-in-Ok c = record {
  state = λ state is. state_made c.prepare.new.self c.install.new.self c.in-Ok.step c.args.change.now state (c.in-Ok.ensures.prepared.answer state is) c.install.ensures;
  placed = λ placed has. places_made c.prepare.new.self c.install.new.self c.in-Ok.step c.args.change.now placed (c.in-Ok.ensures.prepared.places placed has) c.install.ensures;
}

pub unreachable-requires : goal.unreachable-requires
unreachable-requires c =
    not_refused c.args.system.now c.args.change.now c.in-Err-Refusal.field-0-0 c.requires
    (subst (λ why. Prepares c.requires.0 c.args.change.now c.prepare.new.self (Err why)) c.in-Err-Refusal.field-0-is (c.in-Err-Refusal.ensures.prepared.answer c.requires.0 c.requires.1))
