use Rattle.std.proofs.Common.{◌≡◌, ◌-◌, ◌<◌, ◌≤◌, ℕ, true, false, List}
use Rattle.std.specs.List.{AllWithin, HoldsAt}
use Rattle.s80_disk.specs.declared.disk.FileId.{FileId}
use Rattle.s80_disk.specs.declared.recorded.Recorded.{Recorded}
use Rattle.s80_disk.specs.Crash.{syncs}
use Rattle.s80_disk.proofs.memory.MemDisk.calls_synced.Given as goal

-- the last sync among the first i calls
pub record LastBelow (calls : List Recorded) (file : FileId) (i n : ℕ) : Type 0 where
  pub within : n ≤ i
  pub none : AllWithin (λ call. syncs file call ≡ false) calls n i
  pub last : 0 < n → HoldsAt (λ call. syncs file call ≡ true) calls (n - 1)

abbrev pub invariant-loop-i : goal.invariant-loop-i
invariant-loop-i l = LastBelow l.self.calls.items l.file l.i l.synced
