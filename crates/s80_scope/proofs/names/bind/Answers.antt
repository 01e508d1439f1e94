use Rattle.std.proofs.Common.{arith}
use Rattle.s80_tree.specs.Tree.{method_of}
use Rattle.s80_scope.specs.Names.{is_at, uses_of}
use Rattle.s80_scope.proofs.Meant.{found_means}
use Rattle.s80_scope.proofs.lemmas.Places.{counted_none}
use Rattle.s80_scope.proofs.names.bind.Goals as goal

pub unreachable-requires : goal.unreachable-requires
unreachable-requires c = omega (arith, counted_none (is_at c.args.name_at) (uses_of (method_of c.args.tree.now)) c.in-Continue.ensures.1, c.requires.once)

pub returns : goal.returns
returns c = found_means (method_of c.args.tree.now) c.args.name_at c.args.shape.now c.in-Break.found c.meaning.result c.requires.once c.in-Break.ensures c.meaning.ensures
