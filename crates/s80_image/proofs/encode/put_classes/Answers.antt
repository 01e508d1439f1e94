use Rattle.std.proofs.Common.{length}
use Rattle.std.specs.Prelude.{None}
use Rattle.std.specs.Int.{w32, to_be_bytes}
use Rattle.std.specs.List.{flat_map}
use Rattle.s80_image.specs.Classes.{class, classes, classes_of}
use Rattle.s80_image.proofs.Spelled.{whole, classes_spelled}
use Rattle.s80_image.proofs.encode.put_classes.Goals as goal

pub returns : goal.returns
returns c = whole (λ l. flat_map (class None).spell (classes_of l)) c.loop-class.out.items c.args.out.now.items (to_be_bytes w32 (length c.args.classes.now)) c.args.classes.now c.loop-class.class-index (classes.spell (classes_of c.args.classes.now)) c.loop-class-test.false c.loop-class.invariant (classes_spelled c.args.classes.now)
