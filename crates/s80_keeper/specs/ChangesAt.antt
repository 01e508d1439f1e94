-- What reading changes at the places of their blocks answers.
use Rattle.std.specs.Prelude.{◌≡◌, ◌+◌, ℕ, List, [], ◌∷◌, ◌++◌, drop, length, slice_get, Some, Result, Ok, Err, ⊤}
use Rattle.s80_change.specs.declared.change.Change.{Change}
use Rattle.s80_change.specs.Block.{block}
use Rattle.s80_change.specs.Blocks.{BeginsWith, BeginsWithNone}
use Rattle.s80_keeper.specs.declared.keep.KeepFault.{KeepFault}
use Rattle.s80_keeper.specs.declared.keep.KeepFault.TheVariants as faults
use Rattle.s80_keeper.specs.declared.start.Damage.TheVariants.{BadBlock}

-- a block of each of these changes begins at its place
abbrev pub BeginAt : List ℕ → List ℕ → List Change → Type 0
BeginAt bytes [] [] = ⊤
BeginAt bytes [] (change ∷ changes) = ⊥
BeginAt bytes (place ∷ places) [] = ⊥
BeginAt bytes (place ∷ places) (change ∷ changes) = BeginsWith (drop place bytes) change × BeginAt bytes places changes

-- it is one of these places
abbrev pub IsAmong : List ℕ → ℕ → Type 0
IsAmong places place = (i : ℕ) × (slice_get places i ≡ Some place)

-- the changes of which the bytes have blocks at these places; or at one of the places no block begins
abbrev pub AreReadAt : List ℕ → List ℕ → Result (List Change) KeepFault → Type 0
AreReadAt bytes places (Ok changes) = BeginAt bytes places changes
AreReadAt bytes places (Err (faults.Damaged (BadBlock place))) = IsAmong places place × BeginsWithNone (drop place bytes)
AreReadAt bytes places (Err (faults.Damaged _)) = ⊥
AreReadAt bytes places (Err faults.Memory) = ⊤
AreReadAt bytes places (Err (faults.Disk failed)) = ⊤
AreReadAt bytes places (Err (faults.Closed failed)) = ⊤
AreReadAt bytes places (Err (faults.Full count)) = ⊥

-- such changes stand behind those that there were; or at one of the places no block begins
abbrev pub AreAddedAt : List ℕ → List ℕ → List Change → List Change → Result (Unit {0}) KeepFault → Type 0
AreAddedAt bytes places before now (Ok done) = (more : List Change) × (now ≡ before ++ more) × BeginAt bytes places more
AreAddedAt bytes places before now (Err fault) = AreReadAt bytes places (Err fault)

-- the change of which the bytes have a block at this place, with the place behind it; or no block begins there
abbrev pub IsReadAt : List ℕ → ℕ → Result (Change × ℕ) KeepFault → Type 0
IsReadAt bytes at (Ok (change, next)) = BeginsWith (drop at bytes) change × (next ≡ at + length (block change))
IsReadAt bytes at (Err (faults.Damaged (BadBlock place))) = (place ≡ at) × BeginsWithNone (drop at bytes)
IsReadAt bytes at (Err (faults.Damaged _)) = ⊥
IsReadAt bytes at (Err faults.Memory) = ⊤
IsReadAt bytes at (Err (faults.Disk failed)) = ⊤
IsReadAt bytes at (Err (faults.Closed failed)) = ⊤
IsReadAt bytes at (Err (faults.Full count)) = ⊥

-- a damage is told at one of the places, and that the log is full never
abbrev pub ArePlaced : {T : Type 0} → List ℕ → Result T KeepFault → Type 0
ArePlaced places (Err (faults.Damaged (BadBlock place))) = IsAmong places place
ArePlaced places (Err (faults.Damaged _)) = ⊥
ArePlaced places (Err (faults.Full count)) = ⊥
ArePlaced places _ = ⊤

-- the same of one place
abbrev pub IsPlacedAt : {T : Type 0} → ℕ → Result T KeepFault → Type 0
IsPlacedAt at (Err (faults.Damaged (BadBlock place))) = place ≡ at
IsPlacedAt at (Err (faults.Damaged _)) = ⊥
IsPlacedAt at (Err (faults.Full count)) = ⊥
IsPlacedAt at _ = ⊤
