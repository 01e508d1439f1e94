use Rattle.s80_syntax.specs.Faults.{IsMethodText}
use Rattle.s80_syntax.specs.Stack.{method_start}
use Rattle.s80_syntax.proofs.Texts.{methods}
use Rattle.s80_syntax.proofs.Whole.{stops_at_fault}
use Rattle.s80_syntax.proofs.grammar.run_stops_at_method_fault.Goals as goal

pub returns : goal.returns
returns c = stops_at_fault IsMethodText method_start methods
