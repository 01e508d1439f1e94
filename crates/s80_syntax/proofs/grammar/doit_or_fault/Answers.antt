use Rattle.s80_syntax.specs.Faults.{IsDoItText}
use Rattle.s80_syntax.specs.Stack.{doit_start}
use Rattle.s80_syntax.proofs.Texts.{doits}
use Rattle.s80_syntax.proofs.Whole.{text_or_fault}
use Rattle.s80_syntax.proofs.grammar.doit_or_fault.Goals as goal

pub returns : goal.returns
returns c = text_or_fault IsDoItText doit_start doits
