use Rattle.std.proofs.Common.{◌++◌, ◌+◌, ◌∙◌, drop, arith}
use Rattle.s80_fileout.specs.FileText.{changes_text}
use Rattle.s80_fileout.proofs.Listed.{next_change, all_changes}
use Rattle.s80_fileout.proofs.file.with_changes.Goals as goal

pub loop-i-preserved : goal.loop-i-preserved
loop-i-preserved c = next_change c.args.changes.now c.loop-i.i c.at.result.now c.loop-i.file.text c.add.new.self.text (c.args.text ++ changes_text c.args.changes.now) c.loop-i.file.section c.add.new.self.section c.loop-i.invariant c.at.ensures
    (c.in_ok-add.ensures (drop (c.loop-i.i + 1) c.args.changes.now))

pub returns : goal.returns
returns c = c.in_ok-close.ensures.text ∙ all_changes c.args.changes.now c.loop-i.i c.loop-i.file.text (c.args.text ++ changes_text c.args.changes.now) c.loop-i.file.section (omega (arith, c.loop-i-test.false, c.count-i-end.ensures)) c.loop-i.invariant
