use Rattle.s80_syntax.specs.Faults.{IsDoItText}
use Rattle.s80_syntax.specs.Stack.{doit_start}
use Rattle.s80_syntax.proofs.Texts.{doits}
use Rattle.s80_syntax.proofs.Whole.{stops_at_fault}
use Rattle.s80_syntax.proofs.grammar.run_stops_at_doit_fault.Goals as goal

pub returns : goal.returns
returns c = stops_at_fault IsDoItText doit_start doits
