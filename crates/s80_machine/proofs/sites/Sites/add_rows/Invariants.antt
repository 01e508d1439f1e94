-- What is noted stays.
use Rattle.std.proofs.Common.{◌≡◌, ◌+◌, ◌-◌, ℕ, length}
use Rattle.s80_machine.specs.Sites.{site_in}
use Rattle.s80_machine.proofs.sites.Sites.add_rows.Given as goal

abbrev pub invariant-loop-alloc : goal.invariant-loop-alloc
invariant-loop-alloc l = (n k : ℕ) → site_in l.self n k ≡ site_in l.fn.self n k

abbrev pub decreases-loop-alloc : goal.decreases-loop-alloc
decreases-loop-alloc l = l.row + 1 - length l.self.rows.items
