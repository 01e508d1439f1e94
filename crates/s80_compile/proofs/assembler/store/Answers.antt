use Rattle.std.proofs.Common.{arith}
use Rattle.s80_code.specs.declared.instruction.Instruction.TheVariants as is
use Rattle.s80_compile.proofs.Instructions.{added}
use Rattle.s80_compile.proofs.assembler.store.Goals as goal

pub returns : goal.returns
returns c = added c.encode.result (is.Store c.args.storage) 2 c.args.code.now c.encode.new.bytes c.requires (omega arith) c.encode.ensures
