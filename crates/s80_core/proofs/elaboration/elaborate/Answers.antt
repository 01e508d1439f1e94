use Rattle.std.proofs.Common.{arith}
use Rattle.s80_tree.specs.Tree.{method_of}
use Rattle.s80_core.proofs.Declared.{declared}
use Rattle.s80_core.proofs.elaboration.elaborate.Goals as goal

pub body-requires-clause-part : goal.body-requires-clause-part
body-requires-clause-part c =
    let m = method_of c.args.tree.now in
    record { used = λ n here. here; room = omega (arith, declared m, c.requires.declarations, c.count.ensures, c.count-2.ensures) }
