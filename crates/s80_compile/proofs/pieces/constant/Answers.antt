use Rattle.std.proofs.Common.{sym, ◌∙◌}
use Rattle.std.proofs.lemmas.Result.{on_ok_weaker}
use Rattle.s80_base.specs.Literal.{literal_of}
use Rattle.s80_code.specs.Entries.{entries_of}
use Rattle.s80_compile.proofs.Singles.{constant_named}
use Rattle.s80_compile.proofs.pieces.constant.Goals as goal

pub returns-in_ok-number-in-None : goal.returns-in_ok-number-in-None
returns-in_ok-number-in-None c =
    on_ok_weaker c.push.result
    (constant_named (literal_of c.args.literal.now) (entries_of c.args.frame.now) (entries_of c.constant.new.frame) c.in_ok-number-in-None.number c.args.code.now c.push.new.code
    (sym c.in-None.is ∙ c.fixed_number.ensures.is) c.in_ok-number-in-None.ensures) c.push.ensures
