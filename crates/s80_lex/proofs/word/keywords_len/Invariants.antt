use Rattle.std.proofs.Common.{◌-◌, ◌≤◌, length, take, drop}
use Rattle.s80_lex.specs.Spelling.{AreKeywords}
use Rattle.s80_lex.proofs.word.keywords_len.Given as goal

abbrev pub invariant-loop-more : goal.invariant-loop-more
invariant-loop-more l = (l.length ≤ length l.bytes) × AreKeywords (take l.length l.bytes) (drop l.length l.bytes)

abbrev pub decreases-loop-more : goal.decreases-loop-more
decreases-loop-more l = length l.bytes - l.length
