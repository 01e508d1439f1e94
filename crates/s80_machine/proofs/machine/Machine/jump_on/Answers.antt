use Rattle.s80_machine.proofs.CameSteps.{by_wanted, decided_jumps, decides, popped_goes}
use Rattle.s80_machine.proofs.machine.Machine.jump_on.Goals as goal
use Rattle.std.proofs.Common.{subst, w32}
use Rattle.std.proofs.lemmas.Int.{to_z-of_z}
use Rattle.s80_machine.specs.Came.{Came}
use Rattle.s80_machine.specs.Step.{jump}

pub returns-then-is_true-wanted : goal.returns-then-is_true-wanted
returns-then-is_true-wanted c = λ on code d rest w shows.
    let distance = c.args.distance in
    let next = c.args.next in
    let new = c.jump.new.self in
    let r = c.jump.result in
    by_wanted on code distance d next rest w new r c.args.wanted
    (popped_goes on c.args.self.now (record d { place = next }) rest w shows c.in_ok-value.value c.pop.new.self (decides on code distance d next rest w new r c.args.wanted) new r c.in_ok-value.ensures
    (λ stack there.
    decided_jumps on code distance d next rest w new r c.args.wanted c.in-Some.is_true c.in_ok-value.value stack c.in-Some.ensures c.if-is_true-wanted.true
    (subst (λ z. Came on (jump on.table on.methods on.code on.budget z d next stack rest w) new r) (to_z-of_z w32 distance c.ranges.distance) (c.jump.ensures on d rest w stack there))))
