use Rattle.std.proofs.Common.{◌≡◌, ◌-◌, ◌≤◌, length}
use Rattle.s80_frames.proofs.tests.frames_go_deep_and_come_back.Given as goal

abbrev pub invariant-loop-count : goal.invariant-loop-count
invariant-loop-count g l = (length l.arena.frames ≡ l.count) × (l.count ≤ 10001)

abbrev pub decreases-loop-count : goal.decreases-loop-count
decreases-loop-count g l = 10001 - l.count

abbrev pub invariant-loop-count-2 : goal.invariant-loop-count-2
invariant-loop-count-2 g l = length l.arena.frames ≡ l.count

abbrev pub decreases-loop-count-2 : goal.decreases-loop-count-2
decreases-loop-count-2 g l = l.count
