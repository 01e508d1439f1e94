use Rattle.std.proofs.Common.{◌≤◌, ◌∙◌, length, sym, arith}
use Rattle.s80_code.specs.Entries.{entries_of, entry_of}
use Rattle.s80_snapshot.proofs.SameCodes.{all_same, lengths_differ, one_differs, one_further}
use Rattle.s80_snapshot.proofs.same_code.same_entries.Goals as goal

pub returns-then-count : goal.returns-then-count
returns-then-count c = lengths_differ (entries_of c.args.one.now) (entries_of c.args.other.now) (λ same. c.if-count.true (c.count-count.ensures ∙ same ∙ sym c.count.ensures))

pub loop-i-preserved : goal.loop-i-preserved
loop-i-preserved c =
    one_further (entries_of c.args.one.now) (entries_of c.args.other.now) c.loop-i.i (entry_of c.at.result.now) (entry_of c.at-in-loop-i.result.now) c.at.ensures c.at-in-loop-i.ensures c.loop-i.invariant
    (sym c.same_entry.ensures ∙ c.if-not-same_entry.false)

pub returns-then-not-same_entry : goal.returns-then-not-same_entry
returns-then-not-same_entry c =
    one_differs (entries_of c.args.one.now) (entries_of c.args.other.now) c.loop-i.i (entry_of c.at.result.now) (entry_of c.at-in-loop-i.result.now) c.at.ensures c.at-in-loop-i.ensures c.loop-i.invariant
    (sym c.same_entry.ensures ∙ c.if-not-same_entry.true)

pub returns : goal.returns
returns c =
    let past : length (entries_of c.args.one.now) ≤ c.loop-i.i = omega (arith, c.loop-i-test.false, c.count-count.ensures) in
    let both : length (entries_of c.args.other.now) ≤ c.loop-i.i = omega (arith, c.loop-i-test.false, c.count-count.ensures, c.count.ensures, c.if-count.false) in
    all_same (entries_of c.args.one.now) (entries_of c.args.other.now) c.loop-i.i past both c.loop-i.invariant
