use Rattle.std.proofs.Common.{◌≡◌, ◌≤◌, ◌-◌, ◌++◌, length, take, replicate}
use Rattle.s80_frames.proofs.frames.filled.Given as goal

-- the first words are copied
abbrev pub invariant-loop-i : goal.invariant-loop-i
invariant-loop-i g l = (l.block.items ≡ take l.i l.words) × (l.block.room ≡ l.room) × (l.block.heap ≡ l.alloc)

-- all are, and blanks stand behind them
abbrev pub invariant-loop-i-2 : goal.invariant-loop-i-2
invariant-loop-i-2 g l = (l.block.items ≡ l.words ++ replicate (l.i - length l.words) l.blank) × (l.block.room ≡ l.room) × (l.block.heap ≡ l.alloc) × (length l.words ≤ l.i)
