-- What the five files hold, and what a call does to one of them.
use Rattle.std.specs.Prelude.{◌≡◌, ◌≢◌, ℕ, ◌+◌, ◌<◌, ◌≤◌, min, max, List, length, take, drop}
use Rattle.s80_disk.specs.declared.disk.FileId.{FileId}

-- the bytes of each file
abbrev pub Image : Type 0
Image = FileId → List ℕ

-- after a write of a piece at a place: the piece stands there, and the bytes before and after it are as they were; a gap may hold any bytes
pub record Wrote (at : ℕ) (piece old new : List ℕ) : Type 0 where
  pub before : take (min at (length old)) new ≡ take (min at (length old)) old
  pub here : take (length piece) (drop at new) ≡ piece
  pub after : drop (at + length piece) new ≡ drop (at + length piece) old
  pub length_is : 0 < length piece → length new ≡ max (length old) (at + length piece)

-- after a write of n bytes that is cut short: any bytes in the range and past the old end, the others as they were
pub record Torn (at n : ℕ) (old new : List ℕ) : Type 0 where
  pub before : take (min at (length old)) new ≡ take (min at (length old)) old
  pub after : drop (at + n) new ≡ drop (at + n) old
  pub no_shorter : length old ≤ length new
  pub no_longer : length new ≤ max (length old) (at + n)

-- after a cut to n that may have happened or not: the bytes below n are as they were, and behind them stand any bytes
pub record CutShort (n : ℕ) (old new : List ℕ) : Type 0 where
  pub front : take n new ≡ take n old
  pub no_shorter : min n (length old) ≤ length new
  pub no_longer : length new ≤ length old

-- one file changes so, and the others are as they were
pub record OnFile (file : FileId) (change : List ℕ → List ℕ → Type 0) (old new : Image) : Type 0 where
  pub here : change (old file) (new file)
  pub others : (other : FileId) → other ≢ file → new other ≡ old other

-- what a crash may leave now came from what it might leave before by such a change of one file
abbrev pub Follows : FileId → (List ℕ → List ℕ → Type 0) → (Image → Type 0) → (Image → Type 0) → Type 0
Follows file change before now = (c : Image) → now c → (d : Image) × before d × OnFile file change d c

-- every crash leaves this file with these bytes
abbrev pub Only : FileId → List ℕ → (Image → Type 0) → Type 0
Only file bytes may_leave = (c : Image) → may_leave c → c file ≡ bytes
