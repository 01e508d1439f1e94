-- What a session knows of its log by what the disk reads, whatever a crash may leave.
use Rattle.std.specs.Prelude.{IsTrue, All, List, Result, Ok, Err}
use Rattle.s80_change.specs.declared.change.Change.{Change}
use Rattle.s80_change.specs.Block.{IsLawful}
use Rattle.s80_disk.specs.Shown.{Shown}
use Rattle.s80_keeper.specs.Renewing.{HasWritten}
use Rattle.s80_model.specs.declared.item.SessionItem.{SessionItem}
use Rattle.s80_model.specs.declared.item.SessionItem.TheVariants.{Chunk, Unended, Query}
use Rattle.s80_model.specs.Section.{IsBriefSection}
use Rattle.s80_session.specs.declared.end.SessionEnd.{SessionEnd}
use Rattle.s80_session.specs.declared.end.SessionEnd.TheVariants as ends
use Rattle.s80_session.specs.declared.session.Session.{Session}
use Rattle.s80_session.specs.Session.{keeper_of, section_of}
use Rattle.s80_session.specs.Working.{IsLawfulFor}

-- where the outside tells what its files hold, the session's keeper has what some list makes, and its log reads as the list's blocks; and the
-- head of its section is brief
abbrev pub IsKnowing : Shown → Session → Type 0
IsKnowing o session = IsTrue o.tells → IsBriefSection (section_of session) × (changes : List Change) × HasWritten o.tells o.files (keeper_of session) changes

-- after a call that goes on it is so; and no damage is met
abbrev pub StaysKnowing : {T : Type 0} → Result T SessionEnd → Shown → Session → Type 0
StaysKnowing (Ok value) o session = IsKnowing o session
StaysKnowing (Err (ends.Damaged damage)) o session = IsTrue o.tells → ⊥
StaysKnowing (Err ends.Memory) o session = Unit {0}
StaysKnowing (Err (ends.Read failed)) o session = Unit {0}
StaysKnowing (Err (ends.Write failed)) o session = Unit {0}
StaysKnowing (Err (ends.Disk failed)) o session = Unit {0}
StaysKnowing (Err ends.TooLong) o session = Unit {0}

-- the item is one of an input
abbrev pub IsFed : SessionItem → Type 0
IsFed (Chunk item) = Unit {0}
IsFed Unended = Unit {0}
IsFed (Query query) = ⊥

-- the change is lawful, whichever list of lawful changes accepts it
abbrev pub IsLawfulAnywhere : Change → Type 0
IsLawfulAnywhere change = (changes : List Change) → All IsLawful changes → IsLawfulFor changes change
