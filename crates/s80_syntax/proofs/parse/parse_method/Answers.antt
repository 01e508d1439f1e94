use Rattle.std.proofs.Common.{sym}
use Rattle.s80_syntax.proofs.Meaning.{method_tree, method_fault}
use Rattle.s80_syntax.proofs.parse.parse_method.Goals as goal

pub returns-clause-tree : goal.returns-clause-tree
returns-clause-tree c = rw (sym c.bytes-bytes.ensures) (method_tree _ _ _ _ c.in_ok-tokens.ensures.found c.as_slice.ensures c.method.ensures)

pub returns-clause-fault : goal.returns-clause-fault
returns-clause-fault c = rw (sym c.bytes-bytes.ensures) (method_fault _ _ _ _ c.in_ok-tokens.ensures.found c.as_slice.ensures c.method.ensures)
