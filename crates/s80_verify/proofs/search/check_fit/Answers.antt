use Rattle.std.proofs.Common.{sym, arith}
use Rattle.s80_lex.proofs.lemmas.SelectorLemmas.{not_true}
use Rattle.s80_verify.proofs.lemmas.JumpLemmas.{is_low, is_unfit}
use Rattle.s80_verify.proofs.search.check_fit.Goals as goal

pub returns-then-point-takes-clause-fault : goal.returns-then-point-takes-clause-fault
returns-then-point-takes-clause-fault c =
    rw (c.at.ensures.kind, c.at.ensures.place)
    (is_low c.args.code.now c.args.point.at c.args.point.stack c.args.point.depth c.args.instruction c.requires.runs.0 c.requires.reached c.requires.runs.1 (omega (arith, c.if-point-takes.true, c.takes.ensures)))

pub returns-then-not-suits-clause-fault : goal.returns-then-not-suits-clause-fault
returns-then-not-suits-clause-fault c =
    rw (c.at-then-not-suits.ensures.kind, c.at-then-not-suits.ensures.place)
    (is_unfit c.args.code.now c.args.point.at c.args.point.stack c.args.point.depth c.args.instruction c.requires.runs.0 c.requires.reached c.requires.runs.1
    (λ x. not_true c.suits.result _ c.if-not-suits.true c.suits.ensures.1 x))
