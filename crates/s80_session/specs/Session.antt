-- What a session holds.
use Rattle.std.specs.Prelude.{◌≡◌, ◌⊎◌, ◌<◌, ◌||◌, ◌++◌, ℕ, Bool, List, [], length, Option, None, Some, Result, Ok, Err, take}
use Rattle.std.specs.Int.NonZero.{non_zero_u32_get}
use Rattle.std.specs.Io.KnownBytes.{Appends}
use Rattle.s80_form.specs.Form.{IsEvaluatedText}
use Rattle.s80_chunk.specs.declared.item.Item.TheVariants as items
use Rattle.s80_apply.specs.System.{SystemState}
use Rattle.s80_doit.specs.DoIt.{AreGiven, Fits, IsRunOf}
use Rattle.s80_keeper.specs.Answers.{HasCommitted}
use Rattle.s80_keeper.specs.Keeper.{KeeperState, pending_of}
use Rattle.s80_machine.specs.Came.{RanValue}
use Rattle.s80_model.specs.declared.item.SessionItem.{SessionItem}
use Rattle.s80_model.specs.declared.item.SessionItem.TheVariants.{Chunk}
use Rattle.s80_model.specs.declared.reply.Answer.{Answer}
use Rattle.s80_model.specs.declared.reply.Reply.{Reply}
use Rattle.s80_model.specs.declared.reply.Reply.TheVariants.{Evaluated}
use Rattle.s80_model.specs.declared.section.Section.{Section}
use Rattle.s80_model.specs.declared.section.Section.TheVariants.{Top}
use Rattle.s80_model.specs.Replies.{is_trouble, reply_text}
use Rattle.s80_session.specs.declared.end.SessionEnd.{SessionEnd}
use Rattle.s80_session.specs.declared.end.SessionEnd.TheVariants as ends
use Rattle.s80_session.specs.declared.session.Session.{Session}

abbrev pub keeper_of : Session → KeeperState
keeper_of session = session.keeper

-- the section in which the next item stands
abbrev pub section_of : Session → Section
section_of session = session.section

-- how many ticks a doIt may take
abbrev pub budget_of : Session → ℕ
budget_of session = session.budget

-- how many versions of each method a condensed list keeps
abbrev pub kept_versions_of : Session → ℕ
kept_versions_of session = non_zero_u32_get session.kept_versions

-- the run of the doIt that was evaluated last
abbrev pub last_run_of : Session → Option RanValue
last_run_of session = session.last_run

-- whether some item was refused or stopped
abbrev pub troubled_of : Session → Bool
troubled_of session = session.troubled

-- the replies that are held
abbrev pub held_of : Session → List ℕ
held_of session = session.held.bytes

-- for how many bytes more there is room among them
abbrev pub room_of : Session → ℕ
room_of session = session.held.room

-- what a session held before: whether something was refused or stopped, and its last run
pub record Was : Type 0 where
  pub troubled : Bool
  pub last_run : Option RanValue

abbrev pub was_of : Session → Was
was_of session = record { troubled = session.troubled; last_run = session.last_run }

-- no call of the disk has failed in it
abbrev pub IsFaultless : Session → Type 0
IsFaultless session = session.keeper.fault ≡ None

-- its section, budget, versions to keep, last run and trouble are as before
pub record HasSameRest (before now : Session) : Type 0 where
  pub section : section_of now ≡ section_of before
  pub troubled : troubled_of now ≡ troubled_of before
  pub budget : budget_of now ≡ budget_of before
  pub kept_versions : kept_versions_of now ≡ kept_versions_of before
  pub last_run : last_run_of now ≡ last_run_of before

-- with so many bytes pending or held they are flushed
abbrev pub group_limit : ℕ
group_limit = 65536

-- less than a group is pending, and less than one is held
pub record HasLittle (session : Session) : Type 0 where
  pub pending : pending_of session.keeper < group_limit
  pub held : length (held_of session) < group_limit

-- no call of the disk has failed in it, nothing is pending, and no reply is held
pub record IsResting (session : Session) : Type 0 where
  pub faultless : IsFaultless session
  pub settled : pending_of session.keeper ≡ 0
  pub silent : held_of session ≡ []

-- The keeper before and after what was pending was to be committed by a call that ended so: it is, with one mark; where the disk failed the
-- keeper's mark stays.
abbrev pub HasMarked : {T : Type 0} → Result T SessionEnd → KeeperState → KeeperState → Type 0
HasMarked (Ok done) before now = HasCommitted before now
HasMarked (Err (ends.Write failed)) before now = HasCommitted before now
HasMarked (Err (ends.Disk failed)) before now = now.mark ≡ before.mark
HasMarked (Err ends.Memory) before now = ⊥
HasMarked (Err (ends.Read failed)) before now = ⊥
HasMarked (Err (ends.Damaged damage)) before now = ⊥
HasMarked (Err ends.TooLong) before now = ⊥

-- it stands at the top level of its input, a doIt may take so many ticks in it, and none was evaluated yet; so many versions it is to keep
pub record HasBegun (ticks versions : ℕ) (session : Session) : Type 0 where
  pub section : section_of session ≡ Top
  pub budget : budget_of session ≡ ticks
  pub kept_versions : kept_versions_of session ≡ versions
  pub last_run : last_run_of session ≡ None

-- this item is a doIt, and its text's run among these classes and methods is this
abbrev pub IsRunFor : SessionItem → SystemState → ℕ → Option RanValue → Type 0
IsRunFor (Chunk (items.Plain text)) system budget last = Fits text × IsEvaluatedText text × AreGiven system × (ran : RanValue) × IsRunOf system text budget ran × (last ≡ Some ran)
IsRunFor _ system budget last = ⊥

-- among those that there are it is the last
abbrev pub HasRun : SessionItem → Session → Type 0
HasRun item session = IsRunFor item (keeper_of session).system (budget_of session) (last_run_of session)

-- a doIt was evaluated
abbrev pub IsEvaluation : Reply → Type 0
IsEvaluation (Evaluated lines stopped) = Unit {0}
IsEvaluation _ = ⊥

-- the last run is another one only after a doIt that was evaluated
abbrev pub RunAfterReply : Reply → SessionItem → Session → Session → Type 0
RunAfterReply reply item before now = (last_run_of now ≡ last_run_of before) ⊎ (IsEvaluation reply × HasRun item now)

-- after the work on a text, and on an item: it stays where the work breaks off
abbrev pub RunAfterText : Result Reply SessionEnd → SessionItem → Session → Session → Type 0
RunAfterText (Ok reply) item before now = RunAfterReply reply item before now
RunAfterText (Err end) item before now = last_run_of now ≡ last_run_of before

abbrev pub RunAfterWork : Result Answer SessionEnd → SessionItem → Session → Session → Type 0
RunAfterWork (Ok answer) item before now = RunAfterReply answer.reply item before now
RunAfterWork (Err end) item before now = last_run_of now ≡ last_run_of before

-- after an item that was to be answered too
abbrev pub RunAfter : {T : Type 0} → Result T SessionEnd → SessionItem → Session → Session → Type 0
RunAfter (Ok done) item before now = (last_run_of now ≡ last_run_of before) ⊎ HasRun item now
RunAfter (Err (ends.Write failed)) item before now = (last_run_of now ≡ last_run_of before) ⊎ HasRun item now
RunAfter (Err (ends.Disk failed)) item before now = (last_run_of now ≡ last_run_of before) ⊎ HasRun item now
RunAfter (Err ends.Memory) item before now = last_run_of now ≡ last_run_of before
RunAfter (Err (ends.Read failed)) item before now = last_run_of now ≡ last_run_of before
RunAfter (Err (ends.Damaged damage)) item before now = last_run_of now ≡ last_run_of before
RunAfter (Err ends.TooLong) item before now = last_run_of now ≡ last_run_of before

-- the run of some doIt's code under a budget, among some classes and methods that it may be given
pub record IsSomeRun (budget : ℕ) (last : Option RanValue) : Type 0 where
  pub text : List ℕ
  pub system : SystemState
  pub given : AreGiven system
  pub ran : RanValue
  pub run : IsRunOf system text budget ran
  pub is : last ≡ Some ran

-- after some items: the budget stays, and the last run is the one before, or that of a doIt
pub record RunSince (before now : Session) : Type 0 where
  pub budget : budget_of now ≡ budget_of before
  pub last_run : (last_run_of now ≡ last_run_of before) ⊎ IsSomeRun (budget_of before) (last_run_of now)

-- after a line was to be put: the output took it, or a front of it
abbrev pub TakesLine : {T : Type 0} → Result T SessionEnd → Option (List ℕ) → Option (List ℕ) → List ℕ → Type 0
TakesLine (Ok done) before now line = Appends before now line
TakesLine (Err (ends.Write failed)) before now line = (count : ℕ) × Appends before now (take count line)
TakesLine (Err ends.Memory) before now line = ⊥
TakesLine (Err (ends.Read failed)) before now line = ⊥
TakesLine (Err (ends.Disk failed)) before now line = ⊥
TakesLine (Err (ends.Damaged damage)) before now line = ⊥
TakesLine (Err ends.TooLong) before now line = ⊥

-- after what was held was to be put: the output took it, or a front of it, or nothing where the disk failed before
abbrev pub TakesHeld : {T : Type 0} → Result T SessionEnd → Option (List ℕ) → Option (List ℕ) → List ℕ → Type 0
TakesHeld (Ok done) before now held = Appends before now held
TakesHeld (Err (ends.Write failed)) before now held = (count : ℕ) × (count < length held) × Appends before now (take count held)
TakesHeld (Err (ends.Disk failed)) before now held = now ≡ before
TakesHeld (Err ends.Memory) before now held = ⊥
TakesHeld (Err (ends.Read failed)) before now held = ⊥
TakesHeld (Err (ends.Damaged damage)) before now held = ⊥
TakesHeld (Err ends.TooLong) before now held = ⊥

-- a reply more is held, alone or behind others, and something was refused or stopped if it was so before, or this reply says so
abbrev pub HasHeld : Session → Session → Type 0
HasHeld before now =
    (reply : Reply) × ((held_of now ≡ held_of before ++ reply_text reply) ⊎ (held_of now ≡ reply_text reply)) × (troubled_of now ≡ (troubled_of before || is_trouble reply))

-- after the work on an item: where it breaks off no trouble is noted
abbrev pub TroubleWhile : {T : Type 0} → Result T SessionEnd → Session → Session → Type 0
TroubleWhile (Ok done) before now = HasHeld before now
TroubleWhile (Err end) before now = troubled_of now ≡ troubled_of before

-- a reply was put, and something was refused or stopped if it was so before, or this reply says so
abbrev pub HasReplied : {T : Type 0} → Result T SessionEnd → Option (List ℕ) → Option (List ℕ) → Session → Session → Type 0
HasReplied result taken_before taken_now before now =
    (reply : Reply) × TakesLine result taken_before taken_now (reply_text reply) × (troubled_of now ≡ (troubled_of before || is_trouble reply))

-- something was refused or stopped if it was so before, or a reply says so
abbrev pub HasMet : Session → Session → Type 0
HasMet before now = (reply : Reply) × (troubled_of now ≡ (troubled_of before || is_trouble reply))

-- after an item, with what the output took: where the work breaks off no trouble is noted, and where the disk fails behind it that of its reply
abbrev pub TroubleAfter : {T : Type 0} → Result T SessionEnd → Option (List ℕ) → Option (List ℕ) → Session → Session → Type 0
TroubleAfter (Ok done) taken_before taken_now before now = HasReplied (Ok done) taken_before taken_now before now
TroubleAfter (Err (ends.Write failed)) taken_before taken_now before now = HasReplied {T = Unit {0}} (Err (ends.Write failed)) taken_before taken_now before now
TroubleAfter (Err ends.Memory) taken_before taken_now before now = troubled_of now ≡ troubled_of before
TroubleAfter (Err (ends.Read failed)) taken_before taken_now before now = troubled_of now ≡ troubled_of before
TroubleAfter (Err (ends.Disk failed)) taken_before taken_now before now = (taken_now ≡ taken_before) × HasMet before now
TroubleAfter (Err (ends.Damaged damage)) taken_before taken_now before now = troubled_of now ≡ troubled_of before
TroubleAfter (Err ends.TooLong) taken_before taken_now before now = troubled_of now ≡ troubled_of before
