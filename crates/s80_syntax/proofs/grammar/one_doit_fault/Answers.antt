use Rattle.s80_syntax.specs.Faults.{IsDoItText}
use Rattle.s80_syntax.proofs.Whole.{one_fault}
use Rattle.s80_syntax.proofs.grammar.one_doit_fault.Goals as goal

pub returns : goal.returns
returns c = one_fault IsDoItText
