use Rattle.s80_syntax.specs.Faults.{IsMethodText, IsDoItText}
use Rattle.s80_syntax.proofs.lemmas.OneReading.{one_fault_of}
use Rattle.s80_syntax.proofs.laws.one_fault.Goals as goal

pub returns-clause-method : goal.returns-clause-method
returns-clause-method c = one_fault_of IsMethodText

pub returns-clause-doit : goal.returns-clause-doit
returns-clause-doit c = one_fault_of IsDoItText
