use Rattle.std.proofs.Common.{◌≡◌, ◌+◌, arith, length, refl, rules, set, take}
use Rattle.s80_machine.proofs.CameQuick.{item_put_leads}
use Rattle.s80_machine.proofs.context.Context.put_item.Goals as goal

pub returns-clause-tries : goal.returns-clause-tries
returns-clause-tries c = λ on code quick.
    let xs = c.self.inside.stack.items in
    let all : c.in-Some.below + 3 ≡ length xs = omega (arith, c.in-Some.ensures.0, c.in-Some.ensures.1, c.len.ensures, c.self.inside.stack.ok.0) in
    let puts = c.if-not-put_item.ensures in
    let left : c.truncate.new.self.items ≡ take (c.in-Some.below + 1) (set xs c.in-Some.below c.index-value.result.now) = search rules in
    item_put_leads on code c.args.next c.args.ticks.now c.put_item.new.ticks c.args.quick.now quick _ c.args.self.now c.self.view_is xs refl c.in-Some.below puts.within puts.counted
    all c.index.result.now c.index-2.result.now c.index-value.result.now c.index.ensures c.index-2.ensures c.index-value.ensures c.args.objects.now c.put_item.new.objects puts c.truncate.new.self.items left
