use Rattle.std.proofs.Common.{arith}
use Rattle.s80_code.specs.Entries.{entries_of, entry_of}
use Rattle.s80_compile.proofs.Numbers.{found, other_next, none_looks}
use Rattle.s80_compile.proofs.entry.find.Goals as goal

pub returns-then-same_entry : goal.returns-then-same_entry
returns-then-same_entry c =
    found (entries_of c.args.frame.now) c.loop-number.number (entry_of c.at.result.now) (entry_of c.args.entry.now) c.same_entry.result
    c.at.ensures c.same_entry.ensures c.if-same_entry.true

pub loop-number-preserved : goal.loop-number-preserved
loop-number-preserved c =
    other_next (entries_of c.args.frame.now) c.loop-number.number (entry_of c.at.result.now) (entry_of c.args.entry.now) c.same_entry.result c.requires
    c.loop-number.invariant c.at.ensures c.same_entry.ensures c.if-same_entry.false

pub returns : goal.returns
returns c = none_looks (entries_of c.args.frame.now) c.loop-number.number (entry_of c.args.entry.now) (omega (arith, c.loop-number-test.false, c.count-number-end.ensures)) c.loop-number.invariant
