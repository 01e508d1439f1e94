-- What a session filed out, filed in again.
use Rattle.std.specs.Prelude.{◌≡◌, ◌++◌, ℕ, List, [], map, Option, Some}
use Rattle.s80_change.specs.declared.change.Change.{Change}
use Rattle.s80_apply.specs.List.{state_of}
use Rattle.s80_history.specs.Lists.{set_of}
use Rattle.s80_fileout.specs.Condensed.{filed}
use Rattle.s80_filing.specs.Filing.{BeginsSet, FilesIn, HasRoom}
use Rattle.s80_model.specs.declared.item.Filed.TheVariants.{All as AllClasses, Set}
use Rattle.s80_model.specs.declared.item.Query.TheVariants.{FileOut}
use Rattle.s80_model.specs.declared.item.SessionItem.{SessionItem}
use Rattle.s80_model.specs.declared.item.SessionItem.TheVariants.{Query}
use Rattle.s80_model.specs.Replies.{Work, begun}
use Rattle.s80_model.specs.Settings.{IsNow, Settings}

-- these bytes, worked in any settings, make the classes and methods of the list again if there is room with the moment of the clock in the
-- first line: those of a file of all classes behind an empty list, and those of a change set behind the list before it
abbrev pub FiledOut : Work → SessionItem → List ℕ → Type 0
FiledOut work (Query (FileOut AllClasses)) bytes =
    (moment : List ℕ) × IsNow work.settings.moment moment × ((settings : Settings) → HasRoom [] (filed (state_of work.changes)) moment → FilesIn (begun settings []) bytes (state_of work.changes))
FiledOut work (Query (FileOut Set)) bytes =
    (moment : List ℕ) × IsNow work.settings.moment moment × ((settings : Settings) (before set : List Change) → work.changes ≡ before ++ set → BeginsSet before set → HasRoom before (map (λ p. p.1) (set_of work.changes)) moment
    → FilesIn (begun settings before) bytes (state_of work.changes))
FiledOut work item bytes = Unit {0}

-- behind the bytes that were put before an item, the output took such as file in
abbrev pub PutsFile : Work → SessionItem → List ℕ → Option (List ℕ) → Type 0
PutsFile work item put taken = (bytes : List ℕ) × (taken ≡ Some (put ++ bytes)) × FiledOut work item bytes
