use Rattle.std.proofs.Common.{ap}
use Rattle.s80_lex.proofs.lemmas.SelectorLemmas.{parameters_some, parameters_none}
use Rattle.s80_verify.proofs.operands.has_parameters.Goals as goal

pub returns-in-Some : goal.returns-in-Some
returns-in-Some c = parameters_some c.args.word.now c.bytes.result.now c.in-Some.count c.args.arguments c.from.result c.bytes.ensures c.from.ensures c.in-Some.ensures

pub returns-in-None : goal.returns-in-None
returns-in-None c = (λ r. cc, λ s. absurd (parameters_none c.args.word.now c.bytes.result.now c.args.arguments c.bytes.ensures c.in-None.ensures s))
