use Rattle.std.proofs.Common.{rules, arith}
use Rattle.s80_change.proofs.Lines.{ends_there, ends_at_mark, chunk_there}
use Rattle.s80_change.proofs.front.first_chunk.Goals as goal

pub returns-in-empty : goal.returns-in-empty
returns-in-empty c = ends_there c.args.bytes.now c.bytes.text c.bytes.rest.now c.bytes.invariant (omega arith)

pub returns-in-33 : goal.returns-in-33
returns-in-33 c = ends_at_mark c.args.bytes.now c.bytes.text c.bytes.rest.now c.bytes.invariant (omega arith) (search rules)

pub returns-in-33-3 : goal.returns-in-33-3
returns-in-33-3 c = chunk_there c.args.bytes.now c.bytes.text c.bytes.rest.now _ c.bytes.invariant (omega arith) (search rules) (search rules) (search rules)
