-- The source of a method, by its entry and by the list that made it.
use Rattle.std.proofs.Common.{◌≡◌, ◌∙◌, ℕ, List, Option, Some, None, Result, Ok, Err, option_map, refl, sym, ap, subst}
use Rattle.std.specs.FinMap as map
use Rattle.s80_base.specs.declared.names.Side.{Side}
use Rattle.s80_change.specs.declared.change.Change.{Change}
use Rattle.s80_change.specs.Block.{blocks}
use Rattle.s80_class.specs.Classes.{Name}
use Rattle.s80_class.specs.Table.{IsNumberOf}
use Rattle.s80_dict.specs.Table.{methods_at}
use Rattle.s80_disk.specs.Image.{Image}
use Rattle.s80_apply.specs.State.{MethodRow}
use Rattle.s80_apply.specs.Placed.{PlacedRow, placed_of}
use Rattle.s80_apply.specs.Entries.{Entry, row_in, state_row}
use Rattle.s80_apply.specs.List.{state_of}
use Rattle.s80_apply.specs.Source.{AllStand, StandsAt, text_for}
use Rattle.s80_log.specs.Log.{held_in}
use Rattle.s80_log.specs.declared.read.BlockFault.{BlockFault}
use Rattle.s80_log.specs.declared.read.BlockFault.TheVariants as block_faults
use Rattle.s80_keeper.specs.SourceAt.{IsRead, IsThis as IsSource}
use Rattle.s80_keeper.specs.declared.keep.KeepFault.{KeepFault}
use Rattle.s80_keeper.specs.declared.keep.KeepFault.TheVariants as faults
use Rattle.s80_keeper.specs.declared.start.Damage.TheVariants.{BadBlock}
use Rattle.s80_keeper.specs.Keeper.{KeeperState, Knows}
use Rattle.s80_keeper.specs.Source.{IsThis, IsReadBy}

-- what is answered for a source that was read
abbrev pub answered : Result (List ℕ) BlockFault → Result (Option (List ℕ)) KeepFault
answered (Ok source) = Ok (Some source)
answered (Err block_faults.Memory) = Err faults.Memory
answered (Err (block_faults.Disk failed)) = Err (faults.Disk failed)
answered (Err (block_faults.Bad place)) = Err (faults.Damaged (BadBlock place))

-- ---- by its entry

read_so : (files : Image) (keeper : KeeperState) (entry : Entry) (result : Result (List ℕ) BlockFault) → IsRead (text_for entry.from_kernel (held_in files keeper.log)) entry.position entry.length result → IsReadBy files keeper (Some entry) (answered result)
read_so files keeper entry (Ok source) is = is
read_so files keeper entry (Err block_faults.Memory) is = tt
read_so files keeper entry (Err (block_faults.Disk failed)) is = tt
read_so files keeper entry (Err (block_faults.Bad place)) is = is

pub read_by : (files : Image) (keeper : KeeperState) (found : Option Entry) (entry : Entry) (result : Result (List ℕ) BlockFault) → found ≡ Some entry → IsRead (text_for entry.from_kernel (held_in files keeper.log)) entry.position entry.length result → IsReadBy files keeper found (answered result)
read_by files keeper found entry result there is = subst (λ f. IsReadBy files keeper f (answered result)) (sym there) (read_so files keeper entry result is)

-- ---- by the list

this_so : (source : List ℕ) (result : Result (List ℕ) BlockFault) → IsSource source result → IsThis (Some source) (answered result)
this_so source (Ok found) is = ap Some is
this_so source (Err block_faults.Memory) is = tt
this_so source (Err (block_faults.Disk failed)) is = tt
this_so source (Err (block_faults.Bad place)) is = absurd is

-- the method of a class, of which the keeper knows the list
module _ (files : Image) (keeper : KeeperState) (changes : List Change) (knows : Knows files keeper changes) (class : ℕ) (name : Name) (side : Side) (selector : List ℕ) (named : IsNumberOf keeper.system.table.names class name) where
  abbrev row_there : Option MethodRow
  row_there = map.get ((state_of changes).methods name side) selector

  abbrev entry_there : Option Entry
  entry_there = map.get (methods_at keeper.system.methods class side) selector

  row_is : option_map state_row entry_there ≡ row_there
  row_is = (knows.system.methods class name side named).each selector

  place_is : option_map row_in entry_there ≡ map.get ((placed_of changes).methods name side) selector
  place_is = (knows.places.methods class name side named).each selector

  pub no_source : entry_there ≡ None → IsThis (option_map (λ row. row.source) row_there) (Ok None)
  no_source none =
      let no_row : None ≡ row_there = ap (λ (e : Option Entry). option_map state_row e) (sym none) ∙ row_is in
      ap (λ (found : Option MethodRow). option_map (λ row. row.source) found) no_row

  pub source_is : AllStand (blocks changes) (placed_of changes) → (entry : Entry) → entry_there ≡ Some entry → (result : Result (List ℕ) BlockFault) → ((row : PlacedRow) → StandsAt (held_in files keeper.log) row → row_in entry ≡ row → IsSource row.source result) → IsThis (option_map (λ row. row.source) row_there) (answered result)
  source_is all entry there result reads =
      let row : PlacedRow = row_in entry in
      let own : row_there ≡ Some (state_row entry) = sym row_is ∙ ap (λ (e : Option Entry). option_map state_row e) there in
      let place : map.get ((placed_of changes).methods name side) selector ≡ Some row = sym place_is ∙ ap (λ (e : Option Entry). option_map row_in e) there in
      let stands = subst (λ log. StandsAt log row) (sym knows.log) (all name side selector row place) in
      subst (λ found. IsThis (option_map (λ row. row.source) found) (answered result)) (sym own) (this_so row.source result (reads row stands refl))
