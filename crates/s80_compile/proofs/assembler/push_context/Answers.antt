use Rattle.std.proofs.Common.{arith}
use Rattle.s80_code.specs.declared.instruction.Instruction.TheVariants as is
use Rattle.s80_compile.proofs.Instructions.{added}
use Rattle.s80_compile.proofs.assembler.push_context.Goals as goal

pub returns : goal.returns
returns c = added c.encode.result (is.PushContext) 1 c.args.code.now c.encode.new.bytes tt (omega arith) c.encode.ensures
