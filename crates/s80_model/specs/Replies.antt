-- The model keeper: what each thing asked changes, and what it is answered.
use Rattle.std.specs.Prelude.{◌≡◌, ℕ, nat_le, if◌then◌else◌, Bool, true, false, ◌||◌, List, [], ◌∷◌, ◌++◌, length, codes, Option, Some, None, Result, Ok, Err}
use Rattle.s80_change.specs.declared.change.Change.{Change}
use Rattle.s80_change.specs.declared.change.Change.TheVariants as changes
use Rattle.s80_change.specs.Source.{SourceParts}
use Rattle.s80_form.specs.declared.refusal.Refusal.{Refusal}
use Rattle.s80_form.specs.declared.refusal.Refusal.TheVariants.{LogFull}
use Rattle.s80_change.specs.Block.{blocks, log_limit}
use Rattle.s80_change.specs.declared.head.SectionHead.{SectionHead}
use Rattle.s80_print.specs.Refusal.{refusal_text}
use Rattle.s80_apply.specs.Accept.{unknown_name}
use Rattle.s80_apply.specs.List.{classes_of, state_of, add}
use Rattle.s80_fileout.specs.Condensed.{kept as with_versions}
use Rattle.s80_model.specs.declared.reply.Answer.{Answer}
use Rattle.s80_model.specs.declared.reply.Reply.{Reply}
use Rattle.s80_model.specs.declared.reply.Reply.TheVariants.{Silent, Accepted, Refused, Evaluated, Told}
use Rattle.s80_model.specs.declared.section.Section.{Section}
use Rattle.s80_model.specs.declared.section.Section.TheVariants as sections
use Rattle.s80_model.specs.Section.{section_or}
use Rattle.s80_model.specs.Settings.{IsNow, Settings}
use Rattle.s80_model.specs.Sought.{IsFound}
use Rattle.s80_model.specs.Told.{file_reply, told}
use Rattle.s80_model.specs.declared.item.SessionItem.{SessionItem}
use Rattle.s80_doit.specs.Answer.{EvaluatesTo}
use Rattle.s80_model.specs.Asked.{Ask, Asks, refuses, adds, evaluates, condenses, opens, refuses_head, adds_source, refuses_source, closes, tells, files, seeks}

-- the list of changes, the section in which the next item stands, and the settings
pub record Work : Type 0 where
  pub changes : List Change
  pub section : Section
  pub settings : Settings

-- before the first item of an input
abbrev pub begun : Settings → List Change → Work
begun settings changes = record { changes = changes; section = sections.Top; settings = settings }

abbrev pub reply_to_adding : Result (List Change) Refusal → Reply
reply_to_adding (Ok changes) = Accepted
reply_to_adding (Err refusal) = Refused refusal

abbrev pub list_or : Result (List Change) Refusal → List Change → List Change
list_or (Ok changes) before = changes
list_or (Err refusal) before = before

-- ---- doIts

-- once it is added, a doIt is answered with what it comes to
abbrev pub reply_to_evaluating : Result (List Change) Refusal → List ℕ → Bool → Reply
reply_to_evaluating (Ok changes) told stopped = Evaluated (told ++ 10 ∷ []) stopped
reply_to_evaluating (Err refusal) told stopped = Refused refusal

-- Where it is added, it is evaluated in the state that the list with it makes, under the budget. Of a refused one nothing is told.
abbrev pub IsEvaluated : Result (List Change) Refusal → List ℕ → Settings → List ℕ → Bool → Type 0
IsEvaluated (Ok changes) text settings told stopped = EvaluatesTo (state_of changes) text settings.budget told stopped
IsEvaluated (Err refusal) text settings told stopped = (told ≡ []) × (stopped ≡ false)

-- ---- condensing

-- a list whose blocks are no longer than a log may be, or else it is refused with their length
abbrev pub within_log : List Change → Result (List Change) Refusal
within_log changes = if nat_le (length (blocks changes)) log_limit then Ok changes else Err (LogFull (length (blocks changes)))

-- the list that takes the place of this one: it makes the same state, with so many of the newest versions of each method
abbrev pub condensed : List Change → ℕ → Result (List Change) Refusal
condensed changes count = within_log (with_versions changes count)

-- ---- sections

-- why a head is refused by the classes: there is no class of its name
abbrev pub refusal_of_head : List Change → SectionHead → Option Refusal
refusal_of_head changes head = unknown_name head.class_name (classes_of changes)

abbrev pub reply_to_head : Option Refusal → Reply
reply_to_head None = Silent
reply_to_head (Some refusal) = Refused refusal

abbrev pub section_of : SectionHead → Option Refusal → Section
section_of head None = sections.Open head
section_of head (Some refusal) = sections.Refused

-- a method of a section
abbrev pub method_in : SectionHead → SourceParts → Change
method_in head source = changes.Method (record { class_name = head.class_name; side = head.side; category = head.category; source = source })

-- what a source is answered, and the list after it: outside an open section nothing is answered
abbrev pub reply_to_source : List Change → Section → SourceParts → Reply
reply_to_source changes sections.Top source = Silent
reply_to_source changes (sections.Open head) source = reply_to_adding (add changes (method_in head source))
reply_to_source changes sections.Refused source = Silent

abbrev pub list_after_source : List Change → Section → SourceParts → List Change
list_after_source changes sections.Top source = changes
list_after_source changes (sections.Open head) source = list_or (add changes (method_in head source)) changes
list_after_source changes sections.Refused source = changes

abbrev pub reply_in_section : Section → Refusal → Reply
reply_in_section sections.Top refusal = Silent
reply_in_section (sections.Open head) refusal = Refused refusal
reply_in_section sections.Refused refusal = Silent

-- ---- what is asked

-- what is answered
abbrev pub reply_to : Work → Ask → Reply
reply_to work (refuses refusal) = Refused refusal
reply_to work (adds change) = reply_to_adding (add work.changes change)
reply_to work (evaluates text told stopped) = reply_to_evaluating (add work.changes (changes.DoIt text)) told stopped
reply_to work condenses = reply_to_adding (condensed work.changes work.settings.kept_versions)
reply_to work (opens head) = reply_to_head (refusal_of_head work.changes head)
reply_to work (refuses_head refusal) = Refused refusal
reply_to work (adds_source source) = reply_to_source work.changes work.section source
reply_to work (refuses_source refusal) = reply_in_section work.section refusal
reply_to work closes = Silent
reply_to work (tells query) = told work.changes query
reply_to work (files filed moment) = file_reply work.changes moment filed
reply_to work (seeks query lines) = Told lines

-- the work that goes on afterwards
abbrev pub work_after : Work → Ask → Work
work_after work (refuses refusal) = work
work_after work (adds change) = record work { changes = list_or (add work.changes change) work.changes }
work_after work (evaluates text told stopped) = record work { changes = list_or (add work.changes (changes.DoIt text)) work.changes }
work_after work condenses = record work { changes = list_or (condensed work.changes work.settings.kept_versions) work.changes }
work_after work (opens head) = record work { section = section_of head (refusal_of_head work.changes head) }
work_after work (refuses_head refusal) = record work { section = sections.Refused }
work_after work (adds_source source) = record work { changes = list_after_source work.changes work.section source }
work_after work (refuses_source refusal) = work
work_after work closes = record work { section = sections.Top }
work_after work (tells query) = work
work_after work (files filed moment) = work
work_after work (seeks query lines) = work

-- what is asked is so in this work: a doIt is told what it comes to, a file has the moment of the clock, and what is sought is found
abbrev pub IsSo : Work → Ask → Type 0
IsSo work (evaluates text told stopped) = IsEvaluated (add work.changes (changes.DoIt text)) text work.settings told stopped
IsSo work (files filed moment) = IsNow work.settings.moment moment
IsSo work (seeks query lines) = IsFound (state_of work.changes) query lines
IsSo work _ = Unit {0}

-- what an item asks in this work, and what items ask, one by one
abbrev pub AsksIn : Work → SessionItem → Ask → Type 0
AsksIn work item ask = Asks item ask × IsSo work ask

abbrev pub AllAsk : Work → List SessionItem → List Ask → Type 0
AllAsk work [] [] = Unit {0}
AllAsk work [] (ask ∷ asks) = ⊥
AllAsk work (item ∷ items) [] = ⊥
AllAsk work (item ∷ items) (ask ∷ asks) = AsksIn work item ask × AllAsk (work_after work ask) items asks

-- the list behind what was asked, with all else as it was
abbrev pub kept : Work → Ask → Work
kept work ask = record work { changes = (work_after work ask).changes }

-- it is what is answered, and names the section behind what was asked
abbrev pub IsAnswer : Work → Ask → Answer → Type 0
IsAnswer work ask answer = (answer.reply ≡ reply_to work ask) × (section_or answer.section work.section ≡ (work_after work ask).section)

-- a reply as it is written: a line, lines, or nothing
abbrev pub reply_text : Reply → List ℕ
reply_text Silent = []
reply_text Accepted = codes "ok" ++ 10 ∷ []
reply_text (Refused refusal) = refusal_text refusal ++ 10 ∷ []
reply_text (Evaluated lines stopped) = lines
reply_text (Told text) = text

-- a change was refused, or a doIt stopped
abbrev pub is_trouble : Reply → Bool
is_trouble Silent = false
is_trouble Accepted = false
is_trouble (Refused refusal) = true
is_trouble (Evaluated lines stopped) = stopped
is_trouble (Told text) = false

-- the replies to what is asked one after another, and the work after all of it
abbrev pub replies : Work → List Ask → List ℕ
replies work [] = []
replies work (ask ∷ asks) = reply_text (reply_to work ask) ++ replies (work_after work ask) asks

abbrev pub work_after_all : Work → List Ask → Work
work_after_all work [] = work
work_after_all work (ask ∷ asks) = work_after_all (work_after work ask) asks

abbrev pub list_after_all : Work → List Ask → List Change
list_after_all work asks = (work_after_all work asks).changes

-- whether something is refused or stopped
abbrev pub any_trouble : Work → List Ask → Bool
any_trouble work [] = false
any_trouble work (ask ∷ asks) = is_trouble (reply_to work ask) || any_trouble (work_after work ask) asks
