-- With the versions that are left, the text is that of all.
use Rattle.std.proofs.Common.{◌≡◌, ◌++◌, drop}
use Rattle.s80_model.specs.Texts.{versions_text}
use Rattle.s80_model.proofs.changes.versions_text.Given as goal

abbrev pub invariant-loop-i : goal.invariant-loop-i
invariant-loop-i l = l.text ++ versions_text (drop l.i l.versions) ≡ versions_text l.versions
