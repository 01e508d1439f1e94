use Rattle.s80_compile.proofs.Instructions.{added_back, one_back}
use Rattle.s80_compile.proofs.assembler.jump_back.Goals as goal

pub returns : goal.returns
returns c = added_back c.encode.result c.args.distance _ c.args.code.now c.encode.new.bytes c.requires (one_back c.args.distance c.requires) c.encode.ensures
