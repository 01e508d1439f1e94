use Rattle.std.proofs.Common.{◌∙◌, ap, sym, subst, arith, drop, get_or}
use Rattle.std.proofs.lemmas.List.{take_rest, with_items_is}
use Rattle.s80_machine.specs.Counted.{AreCounted}
use Rattle.s80_machine.proofs.CountedBlocks.{left_counted, rest_counted}
use Rattle.s80_machine.proofs.contexts.Contexts.end_to_home.Goals as goal

pub take_all_off-requires : goal.take_all_off-requires
take_all_off-requires c = λ b.
    let ended = take_rest c.deref-2.result.now c.in-Some.place ∙ ap (drop c.in-Some.place) c.deref-2.ensures.value in
    omega (arith, ap (λ counts. get_or counts b 0) c.deref_mut.ensures.value, rest_counted c.self.inside.counts.items c.self.inside.contexts.items c.self.invariant c.in-Some.place _ ended b)

pub invariant_of-self : goal.invariant_of-self
invariant_of-self c =
    let ended = take_rest c.deref-2.result.now c.in-Some.place ∙ ap (drop c.in-Some.place) c.deref-2.ensures.value in
    subst (λ counts. AreCounted counts c.end_from.new.contexts.items) (sym (with_items_is c.self.inside.counts c.take_all_off.new.counts (omega (arith, c.take_all_off.auto.counts, c.deref_mut.ensures.len))))
    (left_counted c.self.inside.counts.items c.self.inside.contexts.items c.self.invariant c.in-Some.place _ c.end_from.new.contexts.items c.take_all_off.new.counts ended c.end_from.ensures
    (λ b. c.take_all_off.ensures b ∙ ap (λ counts. get_or counts b 0) c.deref_mut.ensures.value))
