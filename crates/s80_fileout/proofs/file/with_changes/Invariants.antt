-- With the changes that are left, the text is that of all.
use Rattle.std.proofs.Common.{◌≡◌, ◌++◌, drop}
use Rattle.s80_fileout.specs.FileText.{changes_from, changes_text}
use Rattle.s80_fileout.proofs.file.with_changes.Given as goal

abbrev pub invariant-loop-i : goal.invariant-loop-i
invariant-loop-i l = l.file.text ++ changes_from l.file.section (drop l.i l.changes) ≡ l.fn.text ++ changes_text l.changes
