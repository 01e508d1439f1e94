use Rattle.std.proofs.Common.{sym}
use Rattle.s80_verify.proofs.BlockLemmas.{counts_by}
use Rattle.s80_verify.proofs.operands.count_at.Goals as goal

pub returns : goal.returns
returns c = λ n. counts_by c.args.code.now c.args.at c.in-Some.instruction c.in-Some.field-0-1 c.pushed.result (sym c.in-Some.ensures) c.pushed.ensures n
