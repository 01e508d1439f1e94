-- Moments, and what a crash at them leaves.
use Rattle.std.specs.Prelude.{◌≡◌, ◌⊎◌, ℕ, ◌≤◌, List, Option}
use Rattle.s80_disk.specs.declared.disk.FileId.{FileId}
use Rattle.s80_disk.specs.Image.{Image, OnFile}

-- what an object holds beside its files
pub record Beside : Type 0 where
  pub left : Option (List ℕ)
  pub taken : Option (List ℕ)
  pub told : ℕ
  pub read_faults : ℕ
  pub write_faults : ℕ
  pub seconds : Option ℕ

-- Time goes on: a crash since t might have left what it might have left before, or what it may leave now, with what is told now.
pub record Elapses {D : Type 0} (moment : D → ℕ) (left_since : D → ℕ → ℕ → Image → Type 0) (may_leave : D → Image → Type 0) (beside : D → Beside) (old new : D) : Type 0 where
  pub later : moment old ≤ moment new
  pub nothing_else : (t told : ℕ) (c : Image) → t ≤ moment old → left_since new t told c → left_since old t told c ⊎ (may_leave new c × (told ≡ (beside new).told))
  pub keeps : (t told : ℕ) (c : Image) → t ≤ moment old → left_since old t told c → left_since new t told c

-- A crash at any moment since old leaves what has P, by what is told at that moment.
pub record LeavesOnly {D : Type 0} (moment : D → ℕ) (left_since : D → ℕ → ℕ → Image → Type 0) (old new : D) (P : ℕ → Image → Type 0) : Type 0 where
  pub later : moment old ≤ moment new
  pub each : (told : ℕ) (c : Image) → left_since new (moment old) told c → P told c
  -- for a run that began earlier
  pub before : (t told : ℕ) (c : Image) → t ≤ moment old → left_since new t told c → left_since old t told c ⊎ P told c

-- this much is told, and the image came from one that a crash might leave before, by such a change of one file
pub record ComesFrom (before : Image → Type 0) (told_before : ℕ) (file : FileId) (change : List ℕ → List ℕ → Type 0) (told : ℕ) (c : Image) : Type 0 where
  pub told_is : told ≡ told_before
  pub image : Image
  pub was : before image
  pub step : OnFile file change image c
