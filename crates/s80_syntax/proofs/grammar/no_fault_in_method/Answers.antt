use Rattle.s80_syntax.specs.Faults.{IsMethodText}
use Rattle.s80_syntax.proofs.Whole.{no_fault_in_text}
use Rattle.s80_syntax.proofs.grammar.no_fault_in_method.Goals as goal

pub returns : goal.returns
returns c = no_fault_in_text IsMethodText
