use Rattle.std.proofs.Common.{◌≡◌, pos, ap, w32, to_z, rules, arith}
use Rattle.s80_code.specs.declared.instruction.Instruction.TheVariants as is
use Rattle.s80_compile.proofs.Instructions.{added_as}
use Rattle.s80_compile.proofs.assembler.jump.Goals as goal

pub returns : goal.returns
returns c =
    let same : to_z w32 c.args.distance ≡ pos c.args.distance = search rules in
    added_as c.encode.result (is.Jump (pos c.args.distance)) (is.Jump (to_z w32 c.args.distance)) 2 c.args.code.now c.encode.new.bytes (ap is.Jump same) c.requires (omega arith) c.encode.ensures
