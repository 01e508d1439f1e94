-- A session in the middle of its work.
use Rattle.std.specs.Prelude.{◌≡◌, ◌⊎◌, ℕ, ◌<◌, ◌≤◌, Bool, false, ◌||◌, List, [], ◌∷◌, ◌++◌, length, take, Option, Some, Result, Ok, Err}
use Rattle.s80_chunk.specs.declared.item.Item.{Item}
use Rattle.s80_chunk.specs.declared.item.Item.TheVariants as items
use Rattle.s80_chunk.specs.Chunks.{Reads, IsChunkText, IsSound, longest}
use Rattle.s80_chunk.specs.Held.{Held, HasRead, HoldsNoMore}
use Rattle.s80_change.specs.declared.change.Change.{Change}
use Rattle.s80_change.specs.declared.change.Change.TheVariants as changes
use Rattle.s80_change.specs.Block.{IsLawful}
use Rattle.s80_apply.specs.Accept.{accept}
use Rattle.s80_apply.specs.List.{IsAccepted, state_of, add}
use Rattle.s80_apply.specs.State.{State}
use Rattle.s80_apply.specs.System.{IsSystemOf}
use Rattle.s80_disk.specs.Shown.{Shown}
use Rattle.s80_keeper.specs.Keeper.{Keeps, Knows}
use Rattle.s80_disk.specs.Image.{Image}
use Rattle.s80_keeper.specs.Standing.{FilesStandFor, ReadsFor}
use Rattle.s80_keeper.specs.Start.{IsDamage, IsUndamaged}
use Rattle.s80_model.specs.declared.item.SessionItem.{SessionItem}
use Rattle.s80_model.specs.declared.item.SessionItem.TheVariants.{Chunk, Unended, Query}
use Rattle.s80_model.specs.declared.reply.Answer.{Answer}
use Rattle.s80_model.specs.declared.reply.Reply.{Reply}
use Rattle.s80_model.specs.declared.reply.Reply.TheVariants.{Evaluated}
use Rattle.s80_doit.specs.Answer.{EvaluatesTo}
use Rattle.s80_doit.specs.DoIt.{AreGiven, IsRunOf, is_stopped}
use Rattle.s80_machine.specs.Came.{RanValue}
use Rattle.s80_print.specs.Outcome.{outcome_text}
use Rattle.s80_model.specs.Asked.{Ask, AsksPlain, adds, condenses, evaluates, snapshot_note}
use Rattle.s80_model.specs.Replies.{IsAnswer, Work, AsksIn, AllAsk, begun, kept, list_or, reply_to_adding, reply_to, reply_text, is_trouble, work_after, work_after_all, list_after_all, replies, any_trouble}
use Rattle.s80_model.specs.Section.{IsBriefSection}
use Rattle.s80_model.specs.Settings.{Settings}
use Rattle.s80_session.specs.declared.session.Session.{Session}
use Rattle.s80_session.specs.declared.end.SessionEnd.{SessionEnd}
use Rattle.s80_session.specs.declared.end.SessionEnd.TheVariants as ends
use Rattle.s80_form.specs.declared.refusal.Refusal.{Refusal}
use Rattle.s80_session.specs.Ends.{reply_to_keeping}
use Rattle.s80_session.specs.LastRun.{RunBehind, RunBehindAll}
use Rattle.s80_session.specs.Session.{Was, budget_of, held_of, keeper_of, kept_versions_of, last_run_of, section_of, troubled_of, was_of}
use Rattle.s80_session.specs.Run.{AsksOf, ShownFor, HasKept, chunks, input_limit, Ends, IsOneGroup}

-- What a session stands on: the list that is kept on the disk, the bytes that were put, and the replies that are held until what they answer
-- is kept.
pub record Ground : Type 0 where
  pub kept : List Change
  pub put : List ℕ
  pub held : List ℕ

-- the session is at work behind this list, of which a front is kept on its disk, in this section, whose head is brief; these bytes were put, and
-- those are held; and the settings have its budget and how many versions it keeps, and the moment that the clock tells
pub record IsAmid (may_leave : Image → Type 0) (o : Shown) (session : Session) (work : Work) (basis : Ground) : Type 0 where
  pub keeps : Keeps o.tells o.files may_leave (keeper_of session) basis.kept work.changes
  pub section : section_of session ≡ work.section
  pub brief : IsBriefSection work.section
  pub budget : budget_of session ≡ work.settings.budget
  pub kept_versions : kept_versions_of session ≡ work.settings.kept_versions
  pub moment : work.settings.moment ≡ o.seconds
  pub taken : o.taken ≡ Some basis.put
  pub told : o.told ≡ length basis.put
  pub held : held_of session ≡ basis.held

-- all is kept, and nothing is held
abbrev pub at_rest : Work → List ℕ → Ground
at_rest work put = record { kept = work.changes; put = put; held = [] }

-- the session is at rest behind this list, for which its disk stands, and these bytes were put
abbrev pub IsAt : (Image → Type 0) → Shown → Session → Work → List ℕ → Type 0
IsAt may_leave o session work put = IsAmid may_leave o session work (at_rest work put)

-- a reply more is held
abbrev pub holding : Ground → List ℕ → Ground
holding basis line = record basis { held = basis.held ++ line }

-- all is kept, and what was held is put
abbrev pub flushed : Work → Ground → Ground
flushed work basis = at_rest work (basis.put ++ basis.held)

-- the session goes on behind this list, on the same basis, or on that of a flush
abbrev pub GoesOn : (Image → Type 0) → Shown → Session → Work → Ground → Type 0
GoesOn may_leave o session work basis = IsAmid may_leave o session work basis ⊎ IsAmid may_leave o session work (flushed work basis)

-- its text is the text of a chunk, which isn't too long, or else its length is
abbrev pub IsReadable : SessionItem → Type 0
IsReadable (Chunk (items.Plain text)) = IsChunkText text × (length text ≤ longest)
IsReadable (Chunk item) = IsSound item
IsReadable Unended = Unit {0}
IsReadable (Query query) = Unit {0}

-- these bytes were put behind those, and their number is told
abbrev pub IsPut : Option (List ℕ) → ℕ → List ℕ → Type 0
IsPut taken told put = (taken ≡ Some put) × (told ≡ length put)

-- after what is held was to be put
abbrev pub HeldPut : {T : Type 0} → Result T SessionEnd → Option (List ℕ) → ℕ → List ℕ → List ℕ → Type 0
HeldPut (Ok done) taken told put held = IsPut taken told (put ++ held)
HeldPut (Err (ends.Write failed)) taken told put held = (count : ℕ) × (count < length held) × IsPut taken told (put ++ take count held)
HeldPut (Err _) taken told put held = ⊥

-- the change is lawful, if the list accepts it
abbrev pub IsLawfulFor : List Change → Change → Type 0
IsLawfulFor changes change = IsAccepted (accept change (state_of changes)) → IsLawful change

-- A call of the disk failed with these bytes put: the disk reads for one of these lists.
pub record IsLost (may_leave : Image → Type 0) (now : Shown) (put : List ℕ) (Lists : List Change → Type 0) : Type 0 where
  pub taken : now.taken ≡ Some put
  pub list : List Change
  pub is : Lists list
  pub reads : ReadsFor now.tells now.files may_leave list

-- after a change was to be kept that ended so: all is as before, or the disk failed
abbrev pub Unworked : SessionEnd → (Image → Type 0) → Shown → Session → Work → Ground → Type 0
Unworked ends.Memory may_leave now session work basis = IsAmid may_leave now session work basis
Unworked (ends.Disk failed) may_leave now session work basis = IsLost may_leave now basis.put (λ list. list ≡ basis.kept)
Unworked (ends.Read failed) may_leave now session work basis = ⊥
Unworked (ends.Write failed) may_leave now session work basis = ⊥
Unworked (ends.Damaged damage) may_leave now session work basis = ⊥
Unworked ends.TooLong may_leave now session work basis = ⊥

-- the same section behind the list to which a change is added
abbrev pub adding : Work → Change → Work
adding work change = record work { changes = list_or (add work.changes change) work.changes }

-- after a change was to be kept
abbrev pub Kept : Result (Option Refusal) SessionEnd → (Image → Type 0) → Shown → Session → Work → Ground → Change → Type 0
Kept (Ok refusal) may_leave now session work basis change =
    (reply_to_keeping refusal ≡ reply_to_adding (add work.changes change)) × IsAmid may_leave now session (adding work change) basis
Kept (Err end) may_leave now session work basis change = Unworked end may_leave now session work basis

-- after what is pending was to be committed: all is kept, or the disk failed
abbrev pub Committed : {T : Type 0} → Result T SessionEnd → (Image → Type 0) → Shown → Session → Work → Ground → Type 0
Committed (Ok done) may_leave now session work basis = IsAmid may_leave now session work (record basis { kept = work.changes })
Committed (Err (ends.Disk failed)) may_leave now session work basis = IsLost may_leave now basis.put (λ list. (list ≡ basis.kept) ⊎ (list ≡ work.changes))
Committed (Err ends.Memory) may_leave now session work basis = ⊥
Committed (Err (ends.Read failed)) may_leave now session work basis = ⊥
Committed (Err (ends.Write failed)) may_leave now session work basis = ⊥
Committed (Err (ends.Damaged damage)) may_leave now session work basis = ⊥
Committed (Err ends.TooLong) may_leave now session work basis = ⊥

-- after a flush: all is kept and put; or the disk failed before anything was put; or the output failed, and a front is put
abbrev pub Flushed : {T : Type 0} → Result T SessionEnd → (Image → Type 0) → Shown → Session → Work → Ground → Type 0
Flushed (Ok done) may_leave now session work basis = IsAt may_leave now session work (basis.put ++ basis.held)
Flushed (Err (ends.Disk failed)) may_leave now session work basis = IsLost may_leave now basis.put (λ list. (list ≡ basis.kept) ⊎ (list ≡ work.changes))
Flushed (Err (ends.Write failed)) may_leave now session work basis = (count : ℕ) × (count < length basis.held) × IsAt may_leave now session work (basis.put ++ take count basis.held)
Flushed (Err ends.Memory) may_leave now session work basis = ⊥
Flushed (Err (ends.Read failed)) may_leave now session work basis = ⊥
Flushed (Err (ends.Damaged damage)) may_leave now session work basis = ⊥
Flushed (Err ends.TooLong) may_leave now session work basis = ⊥

-- a session ends for want of memory, once it was flushed, or by the fault of the flush
abbrev pub EndsForMemory : SessionEnd → (Image → Type 0) → Shown → Session → Work → Ground → Type 0
EndsForMemory ends.Memory may_leave now session work basis = IsAt may_leave now session work (basis.put ++ basis.held)
EndsForMemory (ends.Disk failed) may_leave now session work basis = Flushed {T = Unit {0}} (Err (ends.Disk failed)) may_leave now session work basis
EndsForMemory (ends.Write failed) may_leave now session work basis = Flushed {T = Unit {0}} (Err (ends.Write failed)) may_leave now session work basis
EndsForMemory (ends.Read failed) may_leave now session work basis = ⊥
EndsForMemory (ends.Damaged damage) may_leave now session work basis = ⊥
EndsForMemory ends.TooLong may_leave now session work basis = ⊥

-- after the code of this text was to be evaluated among the classes and methods that the session's keeper has
abbrev pub Evaluates : {E : Type 0} → Result Reply E → Session → Session → List ℕ → Type 0
Evaluates (Ok reply) before now text =
    (ran : RanValue) × AreGiven (keeper_of before).system × IsRunOf (keeper_of before).system text (budget_of before) ran
    × ((state : State) → IsSystemOf (keeper_of before).system state → EvaluatesTo state text (budget_of before) (outcome_text (keeper_of before).system.table ran.outcome) (is_stopped ran.outcome.end))
    × (reply ≡ Evaluated (outcome_text (keeper_of before).system.table ran.outcome ++ 10 ∷ []) (is_stopped ran.outcome.end)) × (last_run_of now ≡ Some ran)
Evaluates (Err memory) before now text = last_run_of now ≡ last_run_of before

-- a list behind what an item asks, or before it
abbrev pub IsPast : Work → SessionItem → List Change → Type 0
IsPast work item list = (list ≡ work.changes) ⊎ ((ask : Ask) × AsksIn work item ask × (list ≡ (work_after work ask).changes))

-- the disk failed while an item was worked: before a flush, or behind it
abbrev pub IsLostAt : (Image → Type 0) → Shown → Work → Ground → SessionItem → Type 0
IsLostAt may_leave now work basis item =
    IsLost may_leave now basis.put (λ list. (list ≡ basis.kept) ⊎ IsPast work item list) ⊎ IsLost may_leave now (basis.put ++ basis.held) (IsPast work item)

-- the doIt that an item asks to evaluate was kept, and memory was wanting to evaluate it; P holds of the work behind it
abbrev pub IsUnevaluated : Work → SessionItem → (Work → Type 0) → Type 0
IsUnevaluated work item P = (text : List ℕ) × (told : List ℕ) × (stopped : Bool) × AsksIn work item (evaluates text told stopped) × P (kept work (evaluates text told stopped))

-- after work on an item that ended so, before it is answered: nothing was put but in a flush
abbrev pub Unreplied : SessionEnd → (Image → Type 0) → Shown → Session → Work → Ground → SessionItem → Type 0
Unreplied ends.Memory may_leave now session work basis item = GoesOn may_leave now session work basis ⊎ IsUnevaluated work item (λ w. IsAmid may_leave now session w basis)
Unreplied (ends.Disk failed) may_leave now session work basis item = IsLostAt may_leave now work basis item
Unreplied (ends.Write failed) may_leave now session work basis item = (count : ℕ) × (count < length basis.held) × IsAt may_leave now session work (basis.put ++ take count basis.held)
Unreplied (ends.Read failed) may_leave now session work basis item = ⊥
Unreplied (ends.Damaged damage) may_leave now session work basis item = ⊥
Unreplied ends.TooLong may_leave now session work basis item = ⊥

-- after what an item asks was to be worked by itself, behind a flush: it is, and all is kept
abbrev pub WorkedAlone : Result Reply SessionEnd → (Image → Type 0) → Shown → Session → Work → Ground → SessionItem → Ask → Type 0
WorkedAlone (Ok reply) may_leave now session work basis item ask =
    (reply ≡ reply_to work ask) × IsAmid may_leave now session (work_after work ask) (flushed (work_after work ask) basis)
WorkedAlone (Err ends.Memory) may_leave now session work basis item ask = GoesOn may_leave now session work basis
WorkedAlone (Err (ends.Disk failed)) may_leave now session work basis item ask = IsLostAt may_leave now work basis item
WorkedAlone (Err (ends.Write failed)) may_leave now session work basis item ask = (count : ℕ) × (count < length basis.held) × IsAt may_leave now session work (basis.put ++ take count basis.held)
WorkedAlone (Err (ends.Read failed)) may_leave now session work basis item ask = ⊥
WorkedAlone (Err (ends.Damaged damage)) may_leave now session work basis item ask = ⊥
WorkedAlone (Err ends.TooLong) may_leave now session work basis item ask = ⊥

-- after a query was worked, at rest
abbrev pub QueryWorked : Result Reply SessionEnd → (Image → Type 0) → Shown → Session → Was → Work → List ℕ → SessionItem → Type 0
QueryWorked (Ok reply) may_leave now session was work put item =
    (ask : Ask) × AsksIn work item ask × (reply ≡ reply_to work ask) × RunBehind work ask was.last_run (last_run_of session) × IsAt may_leave now session (work_after work ask) put
QueryWorked (Err ends.Memory) may_leave now session was work put item = IsAt may_leave now session work put
QueryWorked (Err (ends.Disk failed)) may_leave now session was work put item = IsLost may_leave now put (IsPast work item)
QueryWorked (Err (ends.Read failed)) may_leave now session was work put item = ⊥
QueryWorked (Err (ends.Write failed)) may_leave now session was work put item = ⊥
QueryWorked (Err (ends.Damaged damage)) may_leave now session was work put item = ⊥
QueryWorked (Err ends.TooLong) may_leave now session was work put item = ⊥

-- after an item was worked that leaves the section, and before it is answered
abbrev pub Replied : Result Reply SessionEnd → (Image → Type 0) → Shown → Session → Was → Work → Ground → SessionItem → Type 0
Replied (Ok reply) may_leave now session was work basis item =
    (ask : Ask) × AsksIn work item ask × (reply ≡ reply_to work ask) × RunBehind work ask was.last_run (last_run_of session) × GoesOn may_leave now session (work_after work ask) basis
Replied (Err end) may_leave now session was work basis item = Unreplied end may_leave now session work basis item

-- the work behind what was asked, with the section as it was
abbrev pub staying : Work → Ask → Work
staying work ask = record (work_after work ask) { section = work.section }

-- after an item was worked, before its section is entered and its reply is held
abbrev pub Answers : Result Answer SessionEnd → (Image → Type 0) → Shown → Session → Was → Work → Ground → SessionItem → Type 0
Answers (Ok answer) may_leave now session was work basis item =
    (ask : Ask) × AsksIn work item ask × IsAnswer work ask answer × RunBehind work ask was.last_run (last_run_of session) × GoesOn may_leave now session (staying work ask) basis
Answers (Err end) may_leave now session was work basis item = Unreplied end may_leave now session work basis item

-- the session goes on with a reply more held, on the same basis, or on that of a flush
abbrev pub Holds : (Image → Type 0) → Shown → Session → Work → Ground → List ℕ → Type 0
Holds may_leave now session work basis line = IsAmid may_leave now session work (holding basis line) ⊎ IsAmid may_leave now session work (holding (flushed work basis) line)

-- after an item was worked, and its reply held, before a flush for want of memory
abbrev pub ItemWorked : {T : Type 0} → Result T SessionEnd → (Image → Type 0) → Shown → Session → Was → Work → Ground → SessionItem → Type 0
ItemWorked (Ok done) may_leave now session was work basis item =
    (ask : Ask) × AsksIn work item ask × (troubled_of session ≡ (was.troubled || is_trouble (reply_to work ask)))
    × RunBehind work ask was.last_run (last_run_of session) × Holds may_leave now session (work_after work ask) basis (reply_text (reply_to work ask))
ItemWorked (Err end) may_leave now session was work basis item = Unreplied end may_leave now session work basis item

-- After an item was worked, and its reply held: where memory was wanting, all is kept and put that was there before.
abbrev pub Worked : {T : Type 0} → Result T SessionEnd → (Image → Type 0) → Shown → Session → Was → Work → Ground → SessionItem → Type 0
Worked (Ok done) may_leave now session was work basis item =
    (ask : Ask) × AsksIn work item ask × (troubled_of session ≡ (was.troubled || is_trouble (reply_to work ask)))
    × RunBehind work ask was.last_run (last_run_of session) × Holds may_leave now session (work_after work ask) basis (reply_text (reply_to work ask))
Worked (Err ends.Memory) may_leave now session was work basis item =
    IsAt may_leave now session work (basis.put ++ basis.held) ⊎ IsUnevaluated work item (λ w. IsAt may_leave now session w (basis.put ++ basis.held))
Worked (Err (ends.Disk failed)) may_leave now session was work basis item = IsLostAt may_leave now work basis item
Worked (Err (ends.Write failed)) may_leave now session was work basis item =
    (count : ℕ) × (count < length basis.held)
    × (IsAt may_leave now session work (basis.put ++ take count basis.held) ⊎ IsUnevaluated work item (λ w. IsAt may_leave now session w (basis.put ++ take count basis.held)))
Worked (Err (ends.Read failed)) may_leave now session was work basis item = ⊥
Worked (Err (ends.Damaged damage)) may_leave now session was work basis item = ⊥
Worked (Err ends.TooLong) may_leave now session was work basis item = ⊥

-- after an item was worked and answered, with what the session held before
abbrev pub Stepped : {T : Type 0} → Result T SessionEnd → (Image → Type 0) → Shown → Session → Was → Work → List ℕ → SessionItem → Type 0
Stepped (Ok done) may_leave now session was work put item =
    (ask : Ask) × AsksIn work item ask × (troubled_of session ≡ (was.troubled || is_trouble (reply_to work ask)))
    × RunBehind work ask was.last_run (last_run_of session) × IsAt may_leave now session (work_after work ask) (put ++ reply_text (reply_to work ask))
Stepped (Err ends.Memory) may_leave now session was work put item = IsAt may_leave now session work put ⊎ IsUnevaluated work item (λ w. IsAt may_leave now session w put)
Stepped (Err (ends.Disk failed)) may_leave now session was work put item = IsLost may_leave now put (IsPast work item)
Stepped (Err (ends.Write failed)) may_leave now session was work put item =
    (ask : Ask) × AsksIn work item ask × (count : ℕ) × IsAt may_leave now session (work_after work ask) (put ++ take count (reply_text (reply_to work ask)))
Stepped (Err (ends.Read failed)) may_leave now session was work put item = ⊥
Stepped (Err (ends.Damaged damage)) may_leave now session was work put item = ⊥
Stepped (Err ends.TooLong) may_leave now session was work put item = ⊥

-- some bytes were fed to the reader
abbrev pub HasReadSome : Held → Type 0
HasReadSome reader = (bytes : List ℕ) × (given : List Item) × HasRead reader bytes given

-- What a session stands on behind what was asked: the replies to the first asks are put, the list behind at least these is kept, and the
-- replies to the others are held. At most one is kept before it is answered.
pub record IsBehind (work : Work) (before : List ℕ) (asks : List Ask) (basis : Ground) : Type 0 where
  pub answered : List Ask
  pub more : List Ask
  pub pending : List Ask
  pub all : asks ≡ (answered ++ more) ++ pending
  pub kept : basis.kept ≡ list_after_all work (answered ++ more)
  pub put : basis.put ≡ before ++ replies work answered
  pub held : basis.put ++ basis.held ≡ before ++ replies work asks
  pub early : length more ≤ 1

-- of these bytes the reader gave these items, and what each asks was worked, since the session held that
pub record IsWorking (may_leave : Image → Type 0) (o : Shown) (session : Session) (reader : Held) (was : Was) (work : Work) (before bytes : List ℕ) (given : List Item) : Type 0 where
  pub asks : List Ask
  pub read : HasRead reader bytes given
  pub asked : AllAsk work (chunks given) asks
  pub basis : Ground
  pub behind : IsBehind work before asks basis
  pub group : IsOneGroup work asks (length (replies work behind.answered))
  pub at : IsAmid may_leave o session (work_after_all work asks) basis
  pub troubled : troubled_of session ≡ (was.troubled || any_trouble work asks)
  pub last_run : RunBehindAll work asks was.last_run (last_run_of session)

-- the same, where all is kept and every reply is put
pub record IsDone (may_leave : Image → Type 0) (o : Shown) (session : Session) (reader : Held) (was : Was) (work : Work) (before bytes : List ℕ) (given : List Item) : Type 0 where
  pub asks : List Ask
  pub read : HasRead reader bytes given
  pub asked : AllAsk work (chunks given) asks
  pub at : IsAt may_leave o session (work_after_all work asks) (before ++ replies work asks)
  pub troubled : troubled_of session ≡ (was.troubled || any_trouble work asks)
  pub last_run : RunBehindAll work asks was.last_run (last_run_of session)

-- these are the first items of the bytes
abbrev pub BeginsWith : Bool → List ℕ → List Item → Type 0
BeginsWith ended bytes given = (rest : List ℕ) × Reads ended false bytes given rest

-- the first items of the bytes ask this in a work
abbrev pub BeginsAsking : Work → Bool → List ℕ → List Ask → Type 0
BeginsAsking work ended bytes asks = (given : List Item) × BeginsWith ended bytes given × AllAsk work (chunks given) asks

-- the disk failed with the replies to these asks put: it reads for the list behind them and more that was asked
pub record IsLostBehind (may_leave : Image → Type 0) (now : Shown) (work : Work) (before : List ℕ) (asks more : List Ask) : Type 0 where
  pub taken : now.taken ≡ Some (before ++ replies work asks)
  pub reads : ReadsFor now.tells now.files may_leave (list_after_all work (asks ++ more))

-- the work broke off for this reason behind what was asked, of which Begins holds
abbrev pub BreaksOff : SessionEnd → (Image → Type 0) → Shown → Session → (List Ask → Type 0) → Work → List ℕ → Type 0
BreaksOff ends.Memory may_leave now session Begins work before =
    ((asks : List Ask) × Begins asks × IsAt may_leave now session (work_after_all work asks) (before ++ replies work asks))
    ⊎ ((asks : List Ask) × (text : List ℕ) × (told : List ℕ) × (stopped : Bool) × Begins (asks ++ evaluates text told stopped ∷ [])
    × IsAt may_leave now session (kept (work_after_all work asks) (evaluates text told stopped)) (before ++ replies work asks))
BreaksOff (ends.Disk failed) may_leave now session Begins work before =
    (asks : List Ask) × (more : List Ask) × Begins (asks ++ more) × IsLostBehind may_leave now work before asks more
BreaksOff (ends.Write failed) may_leave now session Begins work before =
    (asks : List Ask) × (count : ℕ) × (count < length (replies work asks)) × Begins asks × IsAt may_leave now session (work_after_all work asks) (before ++ take count (replies work asks)) × IsOneGroup work asks count
BreaksOff (ends.Read failed) may_leave now session Begins work before = ⊥
BreaksOff (ends.Damaged damage) may_leave now session Begins work before = ⊥
BreaksOff ends.TooLong may_leave now session Begins work before = ⊥

-- after all whole items that a reader holds were to be worked
abbrev pub WorksAll : {T : Type 0} → Result T SessionEnd → (Image → Type 0) → Shown → Session → Held → Was → Work → List ℕ → List ℕ → Type 0
WorksAll (Ok done) may_leave now session reader was work before bytes =
    (given : List Item) × IsWorking may_leave now session reader was work before bytes given × HoldsNoMore reader.ended bytes given
WorksAll (Err end) may_leave now session reader was work before bytes = BreaksOff end may_leave now session (BeginsAsking work reader.ended bytes) work before

-- after a piece of the input was to be taken into the front of a buffer: with no byte the input is at its end
abbrev pub Takes : Result ℕ SessionEnd → Shown → ℕ → List ℕ → List ℕ → Type 0
Takes (Ok count) now taken buf left = (after : List ℕ) × (left ≡ take count buf ++ after) × (now.left ≡ Some after) × (count ≡ 0 → after ≡ [])
Takes (Err (ends.Read failed)) now taken buf left = now.left ≡ Some left
Takes (Err ends.TooLong) now taken buf left = (next : ℕ) × (after : List ℕ) × (left ≡ next ∷ after) × (now.left ≡ Some after) × (taken ≡ input_limit)
Takes (Err ends.Memory) now taken buf left = ⊥
Takes (Err (ends.Write failed)) now taken buf left = ⊥
Takes (Err (ends.Disk failed)) now taken buf left = ⊥
Takes (Err (ends.Damaged damage)) now taken buf left = ⊥

-- after a piece was fed and worked, which ends these bytes of the input
abbrev pub PieceWorked : {T : Type 0} → Result T SessionEnd → (Image → Type 0) → Shown → Session → Held → Was → Work → List ℕ → List ℕ → List ℕ → Type 0
PieceWorked (Ok done) may_leave now session reader was work input before bytes =
    (given : List Item) × IsWorking may_leave now session reader was work before bytes given × HoldsNoMore false bytes given
PieceWorked (Err end) may_leave now session reader was work input before bytes = Ends {T = Unit {0}} (Err end) may_leave now was (was_of session) work input before

-- after the whole input was to be taken: all of it was fed, and what is whole before its end is answered
pub record AtEnd (may_leave : Image → Type 0) (now : Shown) (session : Session) (reader : Held) (was : Was) (work : Work) (input before : List ℕ) : Type 0 where
  pub given : List Item
  pub done : IsDone may_leave now session reader was work before input given
  pub left : now.left ≡ Some []
  pub within : length input ≤ input_limit

abbrev pub TakesAll : {T : Type 0} → Result T SessionEnd → (Image → Type 0) → Shown → Session → Held → Was → Work → List ℕ → List ℕ → Type 0
TakesAll (Ok done) may_leave now session reader was work input before = AtEnd may_leave now session reader was work input before
TakesAll (Err end) may_leave now session reader was work input before = Ends {T = Unit {0}} (Err end) may_leave now was (was_of session) work input before

-- after what is left at the end of the input was worked: all items of the input are, and their replies are put or held
pub record IsFinished (may_leave : Image → Type 0) (now : Shown) (session : Session) (was : Was) (work : Work) (input before : List ℕ) : Type 0 where
  pub asks : List Ask
  pub all : AsksOf work input asks
  pub within : length input ≤ input_limit
  pub left : now.left ≡ Some []
  pub basis : Ground
  pub behind : IsBehind work before asks basis
  pub group : IsOneGroup work asks (length (replies work behind.answered))
  pub at : IsAmid may_leave now session (work_after_all work asks) basis
  pub troubled : troubled_of session ≡ (was.troubled || any_trouble work asks)
  pub last_run : RunBehindAll work asks was.last_run (last_run_of session)

abbrev pub Finishes : {T : Type 0} → Result T SessionEnd → (Image → Type 0) → Shown → Session → Was → Work → List ℕ → List ℕ → Type 0
Finishes (Ok done) may_leave now session was work input before = IsFinished may_leave now session was work input before
Finishes (Err end) may_leave now session was work input before = Ends {T = Unit {0}} (Err end) may_leave now was (was_of session) work input before

-- what a crash leaves while what is pending is committed, and while it is flushed
abbrev pub CommitLeaves : Work → Ground → ℕ → Image → Type 0
CommitLeaves work basis told c = HasKept basis.kept (length basis.put) told c ⊎ HasKept work.changes (length basis.put) told c

abbrev pub FlushLeaves : Work → Ground → ℕ → Image → Type 0
FlushLeaves work basis told c = HasKept basis.kept (length basis.put) told c ⊎ HasKept work.changes (length (basis.put ++ basis.held)) told c

-- what a crash leaves while an item is worked, with a flush in it or none, and before its reply is put
abbrev pub WorkLeaves : Work → Ground → SessionItem → ℕ → Image → Type 0
WorkLeaves work basis item told c = FlushLeaves work basis told c ⊎ ((ask : Ask) × AsksIn work item ask × HasKept (work_after work ask).changes (length (basis.put ++ basis.held)) told c)

-- what a crash leaves while an item is worked and answered
abbrev pub StepLeaves : Work → List ℕ → SessionItem → ℕ → Image → Type 0
StepLeaves work put item told c =
    HasKept work.changes (length put) told c
    ⊎ ((ask : Ask) × AsksIn work item ask × HasKept (work_after work ask).changes (length (put ++ reply_text (reply_to work ask))) told c)

-- what a crash leaves while the whole items are worked that a reader holds
abbrev pub AnswersLeave : Bool → Work → List ℕ → List ℕ → ℕ → Image → Type 0
AnswersLeave ended work before bytes told c =
    (asks : List Ask) × BeginsAsking work ended bytes asks × HasKept (list_after_all work asks) (length (before ++ replies work asks)) told c

-- an item whose change is no more than pending behind it: a chunk that asks neither for a snapshot nor to condense, or what is left at the end
-- of the input
abbrev pub IsGrouped : SessionItem → Type 0
IsGrouped (Chunk (items.Plain text)) = (AsksPlain text (adds (changes.DoIt snapshot_note)) → ⊥) × (AsksPlain text condenses → ⊥)
IsGrouped (Chunk item) = Unit {0}
IsGrouped Unended = Unit {0}
IsGrouped (Query query) = ⊥

-- after a start on a disk that reads for this list
abbrev pub Starts : Result Session SessionEnd → (Image → Type 0) → Shown → Settings → List Change → List ℕ → Type 0
Starts (Ok session) may_leave now settings changes put = IsAt may_leave now session (begun settings changes) put
Starts (Err ends.Memory) may_leave now settings changes put = ShownFor may_leave now changes
Starts (Err (ends.Disk failed)) may_leave now settings changes put = IsLost may_leave now put (λ list. list ≡ changes)
Starts (Err (ends.Read failed)) may_leave now settings changes put = ⊥
Starts (Err (ends.Write failed)) may_leave now settings changes put = ⊥
Starts (Err (ends.Damaged damage)) may_leave now settings changes put = ⊥
Starts (Err ends.TooLong) may_leave now settings changes put = ⊥

-- what the files call for at the start
abbrev pub IsSessionStart : Image → Result Session SessionEnd → Type 0
IsSessionStart files (Ok session) = ((changes : List Change) × FilesStandFor files changes × Knows files (keeper_of session) changes) ⊎ IsUndamaged files (keeper_of session)
IsSessionStart files (Err (ends.Damaged damage)) = IsDamage files damage
IsSessionStart files (Err ends.Memory) = Unit {0}
IsSessionStart files (Err (ends.Disk failed)) = Unit {0}
IsSessionStart files (Err (ends.Read failed)) = ⊥
IsSessionStart files (Err (ends.Write failed)) = ⊥
IsSessionStart files (Err ends.TooLong) = ⊥
