use Rattle.s80_machine.specs.Stretch.{local}
use Rattle.s80_machine.proofs.CameStretch.{KeepsOn}
use Rattle.s80_machine.proofs.context.Context.go_on.Given as goal

abbrev pub invariant-loop : goal.invariant-loop
invariant-loop l = KeepsOn l.quick l.entries (local l.initial.self l.initial.objects l.initial.ticks) (local l.self l.objects l.ticks)
