use Rattle.std.proofs.Common.{arith}
use Rattle.s80_code.specs.declared.instruction.Instruction.TheVariants as is
use Rattle.s80_compile.proofs.Instructions.{added}
use Rattle.s80_compile.proofs.assembler.send_to_super.Goals as goal

pub returns : goal.returns
returns c = added c.encode.result (is.SendSuper c.args.arguments c.args.selector) 3 c.args.code.now c.encode.new.bytes (omega arith, omega arith) (omega arith) c.encode.ensures
