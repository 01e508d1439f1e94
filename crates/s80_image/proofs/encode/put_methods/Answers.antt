use Rattle.std.proofs.Common.{length}
use Rattle.std.specs.Prelude.{None}
use Rattle.std.specs.Int.{w32, to_be_bytes}
use Rattle.std.specs.List.{flat_map}
use Rattle.s80_image.specs.Methods.{method, methods, methods_of}
use Rattle.s80_image.proofs.Spelled.{whole, methods_spelled}
use Rattle.s80_image.proofs.encode.put_methods.Goals as goal

pub returns : goal.returns
returns c = whole (λ l. flat_map (method None).spell (methods_of l)) c.loop-method.out.items c.args.out.now.items (to_be_bytes w32 (length c.args.methods.now)) c.args.methods.now c.loop-method.method-index (methods.spell (methods_of c.args.methods.now)) c.loop-method-test.false c.loop-method.invariant (methods_spelled c.args.methods.now)
