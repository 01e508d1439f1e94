use Rattle.std.proofs.Common.{sym, ◌∙◌}
use Rattle.s80_verify.proofs.lemmas.JumpLemmas.{is_short}
use Rattle.s80_verify.proofs.search.no_instruction.Goals as goal

pub returns-in-Some-2 : goal.returns-in-Some-2
returns-in-Some-2 c =
    rw (c.at-in-Some-2.ensures.kind, c.at-in-Some-2.ensures.place)
    (is_short c.args.code.now c.args.at c.in-Some.byte c.requires.reached c.requires.none (sym c.in-Some.ensures) (sym c.is_unused.ensures.value ∙ c.if-is_unused.false) c.is_unused.ensures.byte)
