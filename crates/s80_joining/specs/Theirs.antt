-- Theirs: the changes of the items of an input, worked from a base item by item up to the first that is bad.
use Rattle.std.specs.Prelude.{◌≡◌, ◌||◌, ⊤, Bool, List, [], ◌∷◌, ◌++◌, Option, Some, None, Result, Ok, Err, if◌then◌else◌}
use Rattle.s80_chunk.specs.Chunks.{IsSound}
use Rattle.s80_change.specs.declared.change.Change.{Change}
use Rattle.s80_change.specs.declared.head.SectionHead.{SectionHead}
use Rattle.s80_change.specs.Source.{SourceParts}
use Rattle.s80_form.specs.declared.refusal.Refusal.{Refusal}
use Rattle.s80_form.specs.declared.refusal.Refused.{Refused}
use Rattle.s80_form.specs.declared.refusal.Refused.TheVariants as refused
use Rattle.s80_history.specs.Lists.{is_no_changes}
use Rattle.s80_apply.specs.State.{State}
use Rattle.s80_apply.specs.Accept.{accept, unknown_name}
use Rattle.s80_apply.specs.System.{IsSystemOf}
use Rattle.s80_model.specs.Asked.{Ask, Asks, refuses, adds, evaluates, condenses, opens, refuses_head, adds_source, refuses_source, closes, tells, files, seeks}
use Rattle.s80_model.specs.Replies.{method_in}
use Rattle.s80_model.specs.declared.item.SessionItem.{SessionItem}
use Rattle.s80_model.specs.declared.item.SessionItem.TheVariants.{Chunk, Unended, Query}
use Rattle.s80_model.specs.declared.section.Section.{Section}
use Rattle.s80_model.specs.declared.section.Section.TheVariants as sections
use Rattle.s80_joining.specs.declared.theirs.Theirs.{Theirs}
use Rattle.s80_joining.specs.Parts.{is_doit}

-- the changes so far, the state that they make of the base's, and the section in which the next item stands
pub record Worked : Type 0 where
  pub changes : List Change
  pub state : State
  pub section : Section

-- before the first item, from the state of the base
abbrev pub begun_from : State → Worked
begun_from state = record { changes = []; state = state; section = sections.Top }

-- ---- what is asked

-- a doIt, and what begins a set anew, are no changes of theirs
abbrev pub is_passed_over : Change → Bool
is_passed_over change = is_doit change || is_no_changes change

-- with a change more that makes this state, or is refused
abbrev pub with_change : Worked → Change → Result State Refusal → Result Worked Refusal
with_change worked change (Ok state) = Ok (record worked { changes = worked.changes ++ change ∷ []; state = state })
with_change worked change (Err refusal) = Err refusal

abbrev pub after_change : Worked → Change → Result Worked Refusal
after_change worked change = if is_passed_over change then Ok worked else with_change worked change (accept change worked.state)

-- a head is bad where there is no class of its name
abbrev pub in_section : Worked → SectionHead → Option Refusal → Result Worked Refusal
in_section worked head None = Ok (record worked { section = sections.Open head })
in_section worked head (Some refusal) = Err refusal

-- outside an open section nothing is made of a method
abbrev pub after_source : Worked → Section → SourceParts → Result Worked Refusal
after_source worked (sections.Open head) source = after_change worked (method_in head source)
after_source worked sections.Top source = Ok worked
after_source worked sections.Refused source = Ok worked

abbrev pub refused_in : Worked → Section → Refusal → Result Worked Refusal
refused_in worked (sections.Open head) refusal = Err refusal
refused_in worked sections.Top refusal = Ok worked
refused_in worked sections.Refused refusal = Ok worked

-- the work behind what an item asks; or the item is bad, and this is its refusal
abbrev pub after_ask : Worked → Ask → Result Worked Refusal
after_ask worked (refuses refusal) = Err refusal
after_ask worked (adds change) = after_change worked change
after_ask worked (evaluates text told stopped) = Ok worked
after_ask worked condenses = Ok worked
after_ask worked (opens head) = in_section worked head (unknown_name head.class_name worked.state.classes)
after_ask worked (refuses_head refusal) = Err refusal
after_ask worked (adds_source source) = after_source worked worked.section source
after_ask worked (refuses_source refusal) = refused_in worked worked.section refusal
after_ask worked closes = Ok (record worked { section = sections.Top })
after_ask worked (tells query) = Ok worked
after_ask worked (files filed moment) = Ok worked
after_ask worked (seeks query lines) = Ok worked

-- ---- items

-- What was made so far becomes this by these items, one after another. Behind a bad item nothing changes.
abbrev pub Become : Result Worked Refusal → List SessionItem → Result Worked Refusal → Type 0
Become (Err refusal) items now = now ≡ Err refusal
Become (Ok worked) [] now = now ≡ Ok worked
Become (Ok worked) (item ∷ items) now = (ask : Ask) × Asks item ask × Become (after_ask worked ask) items now

-- the items, worked from the state of a base, come to this: all of theirs, or the refusal of the first bad item
abbrev pub AreWorked : State → List SessionItem → Result Worked Refusal → Type 0
AreWorked state items now = Become (Ok (begun_from state)) items now

-- an item of an input: no query, and it carries the text of a chunk, or the length of one that is too long
abbrev pub IsGiven : SessionItem → Type 0
IsGiven (Chunk item) = IsSound item
IsGiven Unended = Unit {0}
IsGiven (Query query) = ⊥

-- ---- the object that works them

pub record IsAt (theirs : Theirs) (worked : Worked) : Type 0 where
  pub made : IsSystemOf theirs.system worked.state
  pub section : theirs.section ≡ worked.section
  pub changes : theirs.changes ≡ worked.changes

-- it worked these items from the state of a base, and none was bad
abbrev pub HasTaken : Theirs → State → List SessionItem → Type 0
HasTaken theirs state items = (worked : Worked) × AreWorked state items (Ok worked) × IsAt theirs worked

-- it worked them; or the last of them is the first that is bad
abbrev pub Takes : Theirs → State → List SessionItem → Result (Unit {0}) Refused → Type 0
Takes now state items (Ok done) = HasTaken now state items
Takes now state items (Err (refused.Refusal refusal)) = AreWorked state items (Err refusal)
Takes now state items (Err refused.Memory) = ⊤

-- the object has come to this work, or this is why it doesn't
abbrev pub Comes : Result Worked Refusal → Theirs → Result (Unit {0}) Refused → Type 0
Comes next now (Ok done) = (worked : Worked) × (next ≡ Ok worked) × IsAt now worked
Comes next now (Err (refused.Refusal refusal)) = next ≡ Err refusal
Comes next now (Err refused.Memory) = ⊤

-- by something that this asks
abbrev pub ComesBy : (Ask → Type 0) → Worked → Theirs → Result (Unit {0}) Refused → Type 0
ComesBy AsksSo worked now (Ok done) = (ask : Ask) × AsksSo ask × Comes (after_ask worked ask) now (Ok done)
ComesBy AsksSo worked now (Err (refused.Refusal refusal)) = (ask : Ask) × AsksSo ask × (after_ask worked ask ≡ Err refusal)
ComesBy AsksSo worked now (Err refused.Memory) = ⊤
