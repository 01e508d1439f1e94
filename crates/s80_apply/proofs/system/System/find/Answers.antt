use Rattle.std.proofs.Common.{subst, sym, arith}
use Rattle.s80_apply.specs.System.{HasNumber, SystemState}
use Rattle.s80_apply.proofs.Places.{some_same}
use Rattle.s80_apply.proofs.Sound.{number_there}
use Rattle.s80_apply.proofs.system.System.find.Goals as goal

pub returns-in-Some : goal.returns-in-Some
returns-in-Some c =
    let here : SystemState = record { table = c.self.inside.classes; methods = c.self.inside.methods } in
    let there = number_there here c.in-Some.number c.args.name.now c.self.invariant c.in-Some.ensures.found.named in
    let is : HasNumber here c.args.name.now c.in-Some.number = record {
      named = c.in-Some.ensures.found.named;
      only = λ n named. sym (some_same c.in-Some.number n (c.in-Some.ensures.only n named));
      dictionaries = omega (arith, there);
      there = (_, c.in-Some.ensures.found.row);
    } in
    subst (λ s. HasNumber s c.args.name.now c.in-Some.number) c.self.view_is is
