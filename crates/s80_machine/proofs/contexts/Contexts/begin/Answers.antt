use Rattle.std.proofs.Common.{◌∙◌, ◌++◌, ◌∷◌, [], ap, sym, arith}
use Rattle.s80_machine.proofs.CountedBlocks.{begun_counted, one_more_of}
use Rattle.s80_machine.proofs.contexts.Contexts.begin.Goals as goal

pub invariant_of-self-2 : goal.invariant_of-self-2
invariant_of-self-2 c =
    let raised = c.in_ok-count.ensures.raised in
    begun_counted c.self.inside.counts.items c.self.inside.contexts.items c.self.invariant _ _ c.args.context (c.push_reserved-2.ensures.items ∙ ap (λ l. l ++ c.args.context ∷ []) c.make_room-2.ensures.items)
    (λ b. omega (
      arith,
      c.raised_count.ensures.same b,
      one_more_of c.raised_count.new.counts.items c.in-Some.block c.in_ok-count.count c.args.context raised.1 (sym c.in-Some.ensures) (omega (arith, raised.0, c.raised_count.ensures.same c.in-Some.block)) b,
    ))
