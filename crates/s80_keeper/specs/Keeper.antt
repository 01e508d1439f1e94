-- A keeper at work on a disk.
use Rattle.std.specs.Prelude.{◌≡◌, ◌≢◌, ◌⊎◌, ◌++◌, ◌-◌, ℕ, Bool, List, length, Option, None, All}
use Rattle.s80_base.specs.declared.outside.Failed.{Failed}
use Rattle.s80_change.specs.declared.change.Change.{Change}
use Rattle.s80_disk.specs.Image.{Image}
use Rattle.s80_mark.specs.declared.mark.MarkState.{MarkState}
use Rattle.s80_change.specs.Block.{IsLawful, blocks}
use Rattle.s80_apply.specs.System.{SystemState, HasPlaces, IsSystemOf}
use Rattle.s80_apply.specs.Placed.{placed_of}
use Rattle.s80_apply.specs.List.{IsBuilt, state_of}
use Rattle.s80_log.specs.Log.{LogEnd, held_in}
use Rattle.s80_log.specs.Commit.{Holds}
use Rattle.s80_history.specs.History.{HistoryState, IsHistoryOf}
use Rattle.s80_keeper.specs.Imaged.{KeepsImage}

-- the log at work, the valid mark, the classes and their methods, the change set and the versions, how many changes there are, and the first
-- fault of the disk
pub record KeeperState : Type 0 where
  pub log : LogEnd
  pub mark : MarkState
  pub system : SystemState
  pub history : HistoryState
  pub count : ℕ
  pub fault : Option Failed

-- how many bytes of the log are appended and not yet committed
abbrev pub pending_of : KeeperState → ℕ
pending_of keeper = keeper.log.end - keeper.mark.log_length

-- nothing is pending, or the disk failed
abbrev pub IsSettled : KeeperState → Type 0
IsSettled keeper = (pending_of keeper ≡ 0) ⊎ (keeper.fault ≢ None)

-- The disk stands for the list that is kept by the keeper's mark, and up to its end the keeper's log has the blocks of all changes, of which
-- those that are kept come first; the image that the mark names, if it names one, is that of a front of what is kept. The keeper has the classes and methods that all of them make, with the places of their sources, their
-- change set and versions, counts them, and has met no fault.
pub record Keeps (tells : Bool) (reads : Image) (may_leave : Image → Type 0) (keeper : KeeperState) (kept all : List Change) : Type 0 where
  pub holds : Holds tells reads may_leave keeper.log keeper.mark kept all
  pub front : (pending : List Change) × (all ≡ kept ++ pending)
  pub image : KeepsImage reads may_leave keeper.mark kept
  pub built : IsBuilt all
  pub system : IsSystemOf keeper.system (state_of all)
  pub places : HasPlaces keeper.system (placed_of all)
  pub history : IsHistoryOf keeper.history all
  pub count : keeper.count ≡ length all
  pub faultless : keeper.fault ≡ None

-- What the files have of the keeper's log is the list's, whose changes are lawful, and the keeper has what the list makes, with the places of
-- its sources, its change set and versions, and counts its changes.
pub record Knows (files : Image) (keeper : KeeperState) (changes : List Change) : Type 0 where
  pub log : held_in files keeper.log ≡ blocks changes
  pub lawful : All IsLawful changes
  pub system : IsSystemOf keeper.system (state_of changes)
  pub places : HasPlaces keeper.system (placed_of changes)
  pub history : IsHistoryOf keeper.history changes
  pub count : keeper.count ≡ length changes
