use Rattle.s80_syntax.specs.Faults.{IsMethodText}
use Rattle.s80_syntax.specs.Stack.{method_start}
use Rattle.s80_syntax.proofs.Texts.{methods}
use Rattle.s80_syntax.proofs.Whole.{text_or_fault}
use Rattle.s80_syntax.proofs.grammar.method_or_fault.Goals as goal

pub returns : goal.returns
returns c = text_or_fault IsMethodText method_start methods
