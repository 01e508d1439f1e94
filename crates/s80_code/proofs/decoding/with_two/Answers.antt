use Rattle.std.proofs.Common.{sym, arith}
use Rattle.s80_code.proofs.lemmas.TableLemmas.{no_two_at}
use Rattle.s80_code.proofs.decoding.with_two.Goals as goal

pub returns-in_default : goal.returns-in_default
returns-in_default c = sym (no_two_at c.args.byte c.args.arguments c.args.selector (omega arith) (omega arith) (omega arith))
