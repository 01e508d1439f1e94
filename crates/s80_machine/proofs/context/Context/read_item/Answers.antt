use Rattle.std.proofs.Common.{◌≡◌, ◌+◌, arith, length, refl, rules, set, suc, take}
use Rattle.s80_machine.proofs.CameQuick.{item_read_leads}
use Rattle.s80_machine.proofs.context.Context.read_item.Goals as goal

pub returns-clause-tries : goal.returns-clause-tries
returns-clause-tries c = λ on code quick.
    let xs = c.self.inside.stack.items in
    let all : c.in-Some.below + 2 ≡ length xs = omega (arith, c.in-Some.ensures.0, c.in-Some.ensures.1, c.len.ensures, c.self.inside.stack.ok.0) in
    let tick = c.if-not-counted.ensures in
    let more : c.counted.new.ticks ≡ suc c.args.ticks.now = omega (arith, tick.1) in
    let read = c.in-Some-item_of.ensures in
    let left : c.pop.new.self.items ≡ take (c.in-Some.below + 1) (set xs c.in-Some.below c.in-Some-item_of.item) = search rules in
    item_read_leads on code c.args.next c.args.ticks.now c.counted.new.ticks c.args.quick.now quick _ c.args.self.now c.self.view_is xs refl c.in-Some.below tick.0 more
    all c.index.result.now c.index-2.result.now c.in-Some-item_of.item c.index.ensures c.index-2.ensures c.args.objects.now read.0 read.1 read.2 c.pop.new.self.items left
