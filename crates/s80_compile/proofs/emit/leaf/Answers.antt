use Rattle.std.proofs.lemmas.Result.{on_ok_weaker}
use Rattle.s80_code.specs.Entries.{entries_of}
use Rattle.s80_core.specs.Core.{leaf_of}
use Rattle.s80_compile.proofs.Made.{leaf_made}
use Rattle.s80_compile.proofs.emit.leaf.Goals as goal

pub returns : goal.returns
returns c =
    let f = entries_of c.args.frame.now in
    let g = entries_of c.push_leaf.new.frame in
    let e = c.end.new.code in
    on_ok_weaker c.end.result (leaf_made f g g g c.args.code.now c.push_leaf.new.code e e c.args.position (leaf_of c.args.of.now) c.in_ok-push_leaf.ensures) c.end.ensures
