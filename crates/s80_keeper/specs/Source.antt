-- What reading the source of a method answers, and what it leaves.
use Rattle.std.specs.Prelude.{◌≡◌, ℕ, List, Option, Some, None, Result, Ok, Err, ⊤}
use Rattle.s80_disk.specs.Image.{Image}
use Rattle.s80_apply.specs.Entries.{Entry}
use Rattle.s80_apply.specs.Source.{text_for}
use Rattle.s80_log.specs.Log.{held_in}
use Rattle.s80_log.specs.declared.read.BlockFault.TheVariants as block_faults
use Rattle.s80_keeper.specs.SourceAt.{IsRead}
use Rattle.s80_keeper.specs.declared.keep.KeepFault.{KeepFault}
use Rattle.s80_keeper.specs.declared.keep.KeepFault.TheVariants as faults
use Rattle.s80_keeper.specs.declared.start.Damage.TheVariants.{BadBlock}
use Rattle.s80_keeper.specs.Keeper.{KeeperState}

-- it is this; or it isn't known
abbrev pub IsThis : {T : Type 0} → T → Result T KeepFault → Type 0
IsThis wanted (Ok found) = found ≡ wanted
IsThis wanted (Err faults.Memory) = ⊤
IsThis wanted (Err (faults.Disk failed)) = ⊤
IsThis wanted (Err (faults.Closed failed)) = ⊤
IsThis wanted (Err (faults.Full count)) = ⊥
IsThis wanted (Err (faults.Damaged damage)) = ⊥

-- it is read where the method's entry says, if there is one; or a text has no source there
abbrev pub IsReadBy : Image → KeeperState → Option Entry → Result (Option (List ℕ)) KeepFault → Type 0
IsReadBy files keeper None (Ok found) = found ≡ None
IsReadBy files keeper None (Err (faults.Damaged damage)) = ⊥
IsReadBy files keeper (Some entry) (Ok None) = ⊥
IsReadBy files keeper (Some entry) (Ok (Some source)) = IsRead (text_for entry.from_kernel (held_in files keeper.log)) entry.position entry.length (Ok source)
IsReadBy files keeper (Some entry) (Err (faults.Damaged (BadBlock place))) = IsRead (text_for entry.from_kernel (held_in files keeper.log)) entry.position entry.length (Err (block_faults.Bad place))
IsReadBy files keeper (Some entry) (Err (faults.Damaged _)) = ⊥
IsReadBy files keeper entry (Err faults.Memory) = ⊤
IsReadBy files keeper entry (Err (faults.Disk failed)) = ⊤
IsReadBy files keeper entry (Err (faults.Closed failed)) = ⊤
IsReadBy files keeper entry (Err (faults.Full count)) = ⊥

-- a damage is told at the place of the method's source, and that the log is full never
abbrev pub IsPlaced : Option Entry → Result (Option (List ℕ)) KeepFault → Type 0
IsPlaced entry (Err (faults.Damaged damage)) = (own : Entry) × (entry ≡ Some own) × (damage ≡ BadBlock own.position)
IsPlaced entry (Err (faults.Full count)) = ⊥
IsPlaced entry _ = ⊤

-- the keeper after something was to be read
abbrev pub after_reading : {T : Type 0} → Result T KeepFault → KeeperState → KeeperState
after_reading (Err (faults.Disk failed)) keeper = record keeper { fault = Some failed }
after_reading _ keeper = keeper
