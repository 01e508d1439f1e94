use Rattle.std.proofs.Common.{arith, ap, map}
use Rattle.s80_object.specs.Body.{words_of}
use Rattle.s80_object.specs.Seen.{tree_of}
use Rattle.s80_object.proofs.Words.{small_at}
use Rattle.s80_object.proofs.bodies.Bodies.get.Goals as goal

pub returns-clause-small : goal.returns-clause-small
returns-clause-small c =
    small_at c.deref.result.now c.args.n _ c.get.result c.get.ensures.lookup.1 c.get.ensures.lookup.3
    (omega (arith, ap (λ xs. words_of (map tree_of xs)) c.deref.ensures.value, c.self.invariant.words, c.self.invariant.limit))
