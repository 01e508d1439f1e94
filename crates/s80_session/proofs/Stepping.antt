-- What the work on an item is answered, and what it leaves.
use Rattle.std.proofs.Common.{◌≡◌, ◌⊎◌, inl, inr, ⊎_elim, ℕ, List, [], ◌++◌, refl, sym, ap, subst, ◌∙◌, Result, Ok, Err, Option, Some, arith}
use Rattle.std.specs.Prelude.{None, IfSome}
use Rattle.std.proofs.lemmas.List.{append-nil}
use Rattle.s80_chunk.specs.declared.item.Role.{Role}
use Rattle.s80_chunk.specs.declared.item.Role.TheVariants as roles
use Rattle.s80_chunk.specs.declared.item.Item.TheVariants as items
use Rattle.s80_change.specs.declared.change.Change.{Change}
use Rattle.s80_change.specs.Source.{SourceParts}
use Rattle.s80_form.specs.declared.refusal.Refusal.{Refusal}
use Rattle.s80_form.specs.Name.{IsName, IsSelectorWord}
use Rattle.s80_disk.specs.Image.{Image}
use Rattle.s80_disk.specs.Shown.{Shown}
use Rattle.s80_keeper.specs.declared.start.StartFault.{StartFault}
use Rattle.s80_keeper.specs.declared.start.StartFault.TheVariants as faults
use Rattle.s80_keeper.specs.Start.{Started}
use Rattle.s80_change.specs.declared.head.SectionHead.{SectionHead}
use Rattle.s80_apply.specs.List.{add}
use Rattle.s80_fileout.specs.Moment.{IsMoment}
use Rattle.s80_model.specs.declared.item.Filed.{Filed}
use Rattle.s80_model.specs.declared.item.Query.{Query as SessionQuery}
use Rattle.s80_model.specs.declared.item.Query.TheVariants as queries
use Rattle.s80_model.specs.declared.item.SessionItem.{SessionItem}
use Rattle.s80_model.specs.declared.item.SessionItem.TheVariants.{Chunk, Query}
use Rattle.s80_model.specs.declared.reply.Answer.{Answer}
use Rattle.s80_model.specs.declared.reply.Reply.{Reply}
use Rattle.s80_model.specs.declared.reply.Reply.TheVariants.{Silent, Refused}
use Rattle.s80_model.specs.declared.section.Section.{Section}
use Rattle.s80_model.specs.declared.section.Section.TheVariants as sections
use Rattle.s80_machine.specs.Came.{RanValue}
use Rattle.s80_model.specs.Asked.{Ask, refuses, adds, evaluates, condenses, opens, refuses_head, adds_source, refuses_source, closes, tells, files, seeks, ask_of_too_long, Asks, AsksPlain, AsksHead, AsksMethod, AsksOf, AsksQuery}
use Rattle.s80_model.specs.Replies.{IsAnswer, Work, AsksIn, IsSo, list_after_source, method_in, reply_to, reply_to_adding, reply_to_source, work_after}
use Rattle.s80_model.specs.Settings.{IsNow, Settings}
use Rattle.s80_model.specs.Section.{section_or, IsBriefSection}
use Rattle.s80_model.specs.Told.{told}
use Rattle.s80_session.specs.declared.end.SessionEnd.{SessionEnd}
use Rattle.s80_session.specs.declared.end.SessionEnd.TheVariants as ends
use Rattle.s80_session.specs.declared.session.Session.{Session}
use Rattle.s80_session.specs.Ends.{end_of_start, reply_to_keeping}
use Rattle.s80_session.specs.LastRun.{RunBehind}
use Rattle.s80_session.specs.Replies.{TellsFile, TellsSought}
use Rattle.s80_session.specs.Session.{Was, last_run_of}
use Rattle.s80_session.specs.Working.{Ground, IsAmid, IsAt, GoesOn, IsLost, IsPast, Kept, QueryWorked, Replied, Answers, Flushed, Unreplied, Unworked, Starts, WorkedAlone, adding, at_rest, flushed, staying}

-- ---- texts that are kept

-- lists that are among others
pub lost_among : (may_leave : Image → Type 0) (now : Shown) (put : List ℕ) (Lists More : List Change → Type 0) → ((list : List Change) → Lists list → More list) → IsLost may_leave now put Lists → IsLost may_leave now put More
lost_among may_leave now put Lists More among h = record { taken = h.taken; list = h.list; is = among h.list h.is; reads = h.reads }

-- what broke off before anything was kept
pub unreplied : (end : SessionEnd) (may_leave : Image → Type 0) (now : Shown) (session : Session) (work : Work) (basis : Ground) (item : SessionItem) → Unworked end may_leave now session work basis → Unreplied end may_leave now session work basis item
unreplied ends.Memory may_leave now session work basis item h = inl (inl h)
unreplied (ends.Disk failed) may_leave now session work basis item h = inl (lost_among may_leave now basis.put (λ list. list ≡ basis.kept) (λ list. (list ≡ basis.kept) ⊎ IsPast work item list) (λ list same. inl same) h)
unreplied (ends.Read failed) may_leave now session work basis item h = h
unreplied (ends.Write failed) may_leave now session work basis item h = absurd h
unreplied ends.TooLong may_leave now session work basis item h = h
unreplied (ends.Damaged damage) may_leave now session work basis item h = h

-- an item that adds a change is worked by keeping it
pub replied_change : (may_leave : Image → Type 0) (now : Shown) (session : Session) (was : Was) (work : Work) (basis : Ground) (item : SessionItem) (change : Change) (refusal : Option Refusal) (reply : Reply) → last_run_of session ≡ was.last_run → Asks item (adds change) → reply ≡ reply_to_keeping refusal → Kept (Ok refusal) may_leave now session work basis change → Replied (Ok reply) may_leave now session was work basis item
replied_change may_leave now session was work basis item change refusal reply same is reply_is h = (adds change, (is, tt), reply_is ∙ h.0, same, inl h.1)

-- the same of what is worked by itself, behind a flush
pub replied_alone : (result : Result Reply SessionEnd) (may_leave : Image → Type 0) (now : Shown) (session : Session) (was : Was) (work : Work) (basis : Ground) (item : SessionItem) (ask : Ask) → AsksIn work item ask → RunBehind work ask was.last_run (last_run_of session) → WorkedAlone result may_leave now session work basis item ask → Replied result may_leave now session was work basis item
replied_alone (Ok reply) may_leave now session was work basis item ask asks run h = (ask, asks, h.0, run, inr h.1)
replied_alone (Err ends.Memory) may_leave now session was work basis item ask asks run h = inl h
replied_alone (Err (ends.Disk failed)) may_leave now session was work basis item ask asks run h = h
replied_alone (Err (ends.Write failed)) may_leave now session was work basis item ask asks run h = h
replied_alone (Err (ends.Read failed)) may_leave now session was work basis item ask asks run h = h
replied_alone (Err ends.TooLong) may_leave now session was work basis item ask asks run h = h
replied_alone (Err (ends.Damaged damage)) may_leave now session was work basis item ask asks run h = h

-- a text that is none of them is refused
pub replied_refusal : (may_leave : Image → Type 0) (now : Shown) (session : Session) (was : Was) (work : Work) (basis : Ground) (text : List ℕ) (refusal : Refusal) → last_run_of session ≡ was.last_run → AsksPlain text (refuses refusal) → IsAmid may_leave now session work basis → Replied (Ok (Refused refusal)) may_leave now session was work basis (Chunk (items.Plain text))
replied_refusal may_leave now session was work basis text refusal same is h = (refuses refusal, (is, tt), refl, same, inl h)

-- a source is worked by keeping its method, in a section that is open
pub replied_source : (may_leave : Image → Type 0) (now : Shown) (session : Session) (was : Was) (work : Work) (basis : Ground) (text : List ℕ) (source : SourceParts) (head : SectionHead) (change : Change) (refusal : Option Refusal) (reply : Reply) → last_run_of session ≡ was.last_run → change ≡ method_in head source → work.section ≡ sections.Open head → AsksMethod text (adds_source source) → reply ≡ reply_to_keeping refusal → Kept (Ok refusal) may_leave now session work basis change → Replied (Ok reply) may_leave now session was work basis (Chunk (items.Method text))
replied_source may_leave now session was work basis text source head change refusal reply same method section is reply_is h =
    let P : Section → Type 0 = λ s. (reply ≡ reply_to_source work.changes s source) × IsAmid may_leave now session (record work { changes = list_after_source work.changes s source }) basis in
    let Q : Change → Type 0 = λ c. (reply ≡ reply_to_adding (add work.changes c)) × IsAmid may_leave now session (adding work c) basis in
    let both = subst P (sym section) (subst Q method (reply_is ∙ h.0, h.1)) in
    (adds_source source, (is, tt), both.0, same, inl both.1)

-- in every other section it is passed over
passes_over : (may_leave : Image → Type 0) (now : Shown) (session : Session) (was : Was) (work : Work) (basis : Ground) (text : List ℕ) (source : SourceParts) (section : Section) → last_run_of session ≡ was.last_run → reply_to_source work.changes section source ≡ Silent → list_after_source work.changes section source ≡ work.changes → work.section ≡ section → AsksMethod text (adds_source source) → IsAmid may_leave now session work basis → Replied (Ok Silent) may_leave now session was work basis (Chunk (items.Method text))
passes_over may_leave now session was work basis text source section same silent stays is asks h =
    let P : List Change → Type 0 = λ l. IsAmid may_leave now session (record work { changes = l }) basis in
    let Q : Section → Type 0 = λ s. (Silent ≡ reply_to_source work.changes s source) × IsAmid may_leave now session (record work { changes = list_after_source work.changes s source }) basis in
    let both = subst Q (sym is) (sym silent, subst P (sym stays) h) in
    (adds_source source, (asks, tt), both.0, same, inl both.1)

pub passed_top : (may_leave : Image → Type 0) (now : Shown) (session : Session) (was : Was) (work : Work) (basis : Ground) (text : List ℕ) (source : SourceParts) → last_run_of session ≡ was.last_run → work.section ≡ sections.Top → AsksMethod text (adds_source source) → IsAmid may_leave now session work basis → Replied (Ok Silent) may_leave now session was work basis (Chunk (items.Method text))
passed_top may_leave now session was work basis text source same is asks h = passes_over may_leave now session was work basis text source sections.Top same refl refl is asks h

pub passed_refused : (may_leave : Image → Type 0) (now : Shown) (session : Session) (was : Was) (work : Work) (basis : Ground) (text : List ℕ) (source : SourceParts) → last_run_of session ≡ was.last_run → work.section ≡ sections.Refused → AsksMethod text (adds_source source) → IsAmid may_leave now session work basis → Replied (Ok Silent) may_leave now session was work basis (Chunk (items.Method text))
passed_refused may_leave now session was work basis text source same is asks h = passes_over may_leave now session was work basis text source sections.Refused same refl refl is asks h

-- ---- the answer to an item

-- an answer by which all is as before but for the section
pub worked_so : (may_leave : Image → Type 0) (now : Shown) (session : Session) (was : Was) (work : Work) (basis : Ground) (item : SessionItem) (ask : Ask) (answer : Answer) → AsksIn work item ask → IsAnswer work ask answer → RunBehind work ask was.last_run (last_run_of session) → staying work ask ≡ work → IsAmid may_leave now session work basis → Answers (Ok answer) may_leave now session was work basis item
worked_so may_leave now session was work basis item ask answer one is run stays h =
    let P : Work → Type 0 = λ w. IsAmid may_leave now session w basis in
    (ask, one, is, run, inl (subst P (sym stays) h))

plain_stays : (work : Work) (text : List ℕ) (ask : Ask) → AsksPlain text ask → (work_after work ask).section ≡ work.section
plain_stays work text (refuses refusal) h = refl
plain_stays work text (adds change) h = refl
plain_stays work text (evaluates own told stopped) h = refl
plain_stays work text condenses h = refl
plain_stays work text (opens head) h = absurd h
plain_stays work text (refuses_head refusal) h = absurd h
plain_stays work text (adds_source source) h = absurd h
plain_stays work text (refuses_source refusal) h = absurd h
plain_stays work text closes h = absurd h
plain_stays work text (tells query) h = absurd h
plain_stays work text (files filed moment) h = absurd h
plain_stays work text (seeks query lines) h = absurd h

method_stays : (work : Work) (text : List ℕ) (ask : Ask) → AsksMethod text ask → (work_after work ask).section ≡ work.section
method_stays work text (adds_source source) h = refl
method_stays work text (refuses refusal) h = absurd h
method_stays work text (adds change) h = absurd h
method_stays work text (evaluates own told stopped) h = absurd h
method_stays work text condenses h = absurd h
method_stays work text (opens head) h = absurd h
method_stays work text (refuses_head refusal) h = absurd h
method_stays work text (refuses_source refusal) h = absurd h
method_stays work text closes h = absurd h
method_stays work text (tells query) h = absurd h
method_stays work text (files filed moment) h = absurd h
method_stays work text (seeks query lines) h = absurd h

-- the section stays
staying_at : (may_leave : Image → Type 0) (now : Shown) (session : Session) (work : Work) (basis : Ground) (ask : Ask) → (work_after work ask).section ≡ work.section → IsAmid may_leave now session (work_after work ask) basis → IsAmid may_leave now session (staying work ask) basis
staying_at may_leave now session work basis ask stays h = record { keeps = h.keeps; section = h.section ∙ stays; brief = subst IsBriefSection stays h.brief; budget = h.budget; kept_versions = h.kept_versions; moment = h.moment; taken = h.taken; told = h.told; held = h.held }

-- a reply to an item that leaves the section is its answer
stays_there : (may_leave : Image → Type 0) (now : Shown) (session : Session) (was : Was) (work : Work) (basis : Ground) (item : SessionItem) (ask : Ask) (answer : Answer) → AsksIn work item ask → (work_after work ask).section ≡ work.section → answer.reply ≡ reply_to work ask → section_or answer.section work.section ≡ work.section → RunBehind work ask was.last_run (last_run_of session) → GoesOn may_leave now session (work_after work ask) basis → Answers (Ok answer) may_leave now session was work basis item
stays_there may_leave now session was work basis item ask answer one stays is same run h =
    (ask, one, (is, same ∙ sym stays), run, ⊎_elim (λ here. inl (staying_at may_leave now session work basis ask stays here)) (λ behind. inr (staying_at may_leave now session work (flushed (work_after work ask) basis) ask stays behind)) h)

-- it stays where an answer names no section
abbrev pub IsStaying : Reply → Answer → Type 0
IsStaying reply answer = answer ≡ record { reply = reply; section = None }

pub worked_plain : (may_leave : Image → Type 0) (now : Shown) (session : Session) (was : Was) (work : Work) (basis : Ground) (text : List ℕ) (reply : Reply) (answer : Answer) → IsStaying reply answer → Replied (Ok reply) may_leave now session was work basis (Chunk (items.Plain text)) → Answers (Ok answer) may_leave now session was work basis (Chunk (items.Plain text))
worked_plain may_leave now session was work basis text reply answer is h =
    stays_there may_leave now session was work basis (Chunk (items.Plain text)) h.0 answer h.1 (plain_stays work text h.0 h.1.0) (ap (λ (a : Answer). a.reply) is ∙ h.2) (ap (λ (a : Answer). section_or a.section work.section) is) h.3 h.4

pub worked_method : (may_leave : Image → Type 0) (now : Shown) (session : Session) (was : Was) (work : Work) (basis : Ground) (text : List ℕ) (reply : Reply) (answer : Answer) → IsStaying reply answer → Replied (Ok reply) may_leave now session was work basis (Chunk (items.Method text)) → Answers (Ok answer) may_leave now session was work basis (Chunk (items.Method text))
worked_method may_leave now session was work basis text reply answer is h =
    stays_there may_leave now session was work basis (Chunk (items.Method text)) h.0 answer h.1 (method_stays work text h.0 h.1.0) (ap (λ (a : Answer). a.reply) is ∙ h.2) (ap (λ (a : Answer). section_or a.section work.section) is) h.3 h.4

of_stays : (work : Work) (Suits : List ℕ → Type 0) (word : List ℕ) (query : SessionQuery) (ask : Ask) → AsksOf Suits word query ask → (work_after work ask).section ≡ work.section
of_stays work Suits word query ask (inl (suits, (lines, is))) = ap (λ (a : Ask). (work_after work a).section) is
of_stays work Suits word query ask (inr (fails, is)) = ap (λ (a : Ask). (work_after work a).section) is

query_stays : (work : Work) (query : SessionQuery) (ask : Ask) → AsksQuery query ask → (work_after work ask).section ≡ work.section
query_stays work queries.Recover ask is = ap (λ (a : Ask). (work_after work a).section) is
query_stays work queries.Classes ask is = ap (λ (a : Ask). (work_after work a).section) is
query_stays work (queries.Browse name) ask is = ap (λ (a : Ask). (work_after work a).section) is
query_stays work (queries.Source spec selector) ask is = ap (λ (a : Ask). (work_after work a).section) is
query_stays work (queries.Versions spec selector) ask is = ap (λ (a : Ask). (work_after work a).section) is
query_stays work queries.Changes ask is = ap (λ (a : Ask). (work_after work a).section) is
query_stays work (queries.FileOut filed) ask is = ap (λ (a : Ask). (work_after work a).section) is.1
query_stays work (queries.Senders selector) ask is = of_stays work IsSelectorWord selector (queries.Senders selector) ask is
query_stays work (queries.Implementors selector) ask is = of_stays work IsSelectorWord selector (queries.Implementors selector) ask is
query_stays work (queries.References name) ask is = of_stays work IsName name (queries.References name) ask is
query_stays work queries.Undeclared ask is = ap (λ (a : Ask). (work_after work a).section) is.1
query_stays work queries.Unimplemented ask is = ap (λ (a : Ask). (work_after work a).section) is.1
query_stays work queries.Unsent ask is = ap (λ (a : Ask). (work_after work a).section) is.1
query_stays work queries.Snapshot ask is = ap (λ (a : Ask). (work_after work a).section) is
query_stays work queries.Condense ask is = ap (λ (a : Ask). (work_after work a).section) is

pub worked_query : (may_leave : Image → Type 0) (now : Shown) (session : Session) (was : Was) (work : Work) (basis : Ground) (query : SessionQuery) (reply : Reply) (answer : Answer) → IsStaying reply answer → QueryWorked (Ok reply) may_leave now session was work (basis.put ++ basis.held) (Query query) → Answers (Ok answer) may_leave now session was work basis (Query query)
worked_query may_leave now session was work basis query reply answer is h =
    stays_there may_leave now session was work basis (Query query) h.0 answer h.1 (query_stays work query h.0 h.1.0) (ap (λ (a : Answer). a.reply) is ∙ h.2) (ap (λ (a : Answer). section_or a.section work.section) is) h.3 (inr h.4)

-- where a query isn't answered
pub queried_err : (end : SessionEnd) (may_leave : Image → Type 0) (now : Shown) (session : Session) (was : Was) (work : Work) (basis : Ground) (item : SessionItem) → QueryWorked (Err end) may_leave now session was work (basis.put ++ basis.held) item → Unreplied end may_leave now session work basis item
queried_err ends.Memory may_leave now session was work basis item h = inl (inr h)
queried_err (ends.Disk failed) may_leave now session was work basis item h = inr h
queried_err (ends.Read failed) may_leave now session was work basis item h = h
queried_err (ends.Write failed) may_leave now session was work basis item h = absurd h
queried_err ends.TooLong may_leave now session was work basis item h = h
queried_err (ends.Damaged damage) may_leave now session was work basis item h = h

-- a flush before it broke off
pub flush_err : (end : SessionEnd) (may_leave : Image → Type 0) (now : Shown) (session : Session) (work : Work) (basis : Ground) (item : SessionItem) → Flushed {T = Unit {0}} (Err end) may_leave now session work basis → Unreplied end may_leave now session work basis item
flush_err ends.Memory may_leave now session work basis item h = absurd h
flush_err (ends.Disk failed) may_leave now session work basis item h = inl (lost_among may_leave now basis.put (λ list. (list ≡ basis.kept) ⊎ (list ≡ work.changes)) (λ list. (list ≡ basis.kept) ⊎ IsPast work item list) (λ list. ⊎_elim (λ same. inl same) (λ same. inr (inl same))) h)
flush_err (ends.Write failed) may_leave now session work basis item h = h
flush_err (ends.Read failed) may_leave now session work basis item h = h
flush_err ends.TooLong may_leave now session work basis item h = h
flush_err (ends.Damaged damage) may_leave now session work basis item h = h

-- or before what is worked by itself
pub flush_alone : (end : SessionEnd) (may_leave : Image → Type 0) (now : Shown) (session : Session) (work : Work) (basis : Ground) (item : SessionItem) (ask : Ask) → Flushed {T = Unit {0}} (Err end) may_leave now session work basis → WorkedAlone (Err end) may_leave now session work basis item ask
flush_alone ends.Memory may_leave now session work basis item ask h = absurd h
flush_alone (ends.Disk failed) may_leave now session work basis item ask h = flush_err (ends.Disk failed) may_leave now session work basis item h
flush_alone (ends.Write failed) may_leave now session work basis item ask h = h
flush_alone (ends.Read failed) may_leave now session work basis item ask h = h
flush_alone ends.TooLong may_leave now session work basis item ask h = h
flush_alone (ends.Damaged damage) may_leave now session work basis item ask h = h

pub head_lists : (work : Work) (text : List ℕ) (ask : Ask) → AsksHead text ask → staying work ask ≡ work
head_lists work text (opens head) h = refl
head_lists work text (refuses_head refusal) h = refl
head_lists work text (refuses refusal) h = absurd h
head_lists work text (adds change) h = absurd h
head_lists work text (evaluates own told stopped) h = absurd h
head_lists work text condenses h = absurd h
head_lists work text (adds_source source) h = absurd h
head_lists work text (refuses_source refusal) h = absurd h
head_lists work text closes h = absurd h
head_lists work text (tells query) h = absurd h
head_lists work text (files filed moment) h = absurd h
head_lists work text (seeks query lines) h = absurd h

head_so : (work : Work) (text : List ℕ) (ask : Ask) → AsksHead text ask → IsSo work ask
head_so work text (opens head) h = tt
head_so work text (refuses_head refusal) h = tt
head_so work text (refuses refusal) h = absurd h
head_so work text (adds change) h = absurd h
head_so work text (evaluates own told stopped) h = absurd h
head_so work text condenses h = absurd h
head_so work text (adds_source source) h = absurd h
head_so work text (refuses_source refusal) h = absurd h
head_so work text closes h = absurd h
head_so work text (tells query) h = absurd h
head_so work text (files filed moment) h = absurd h
head_so work text (seeks query lines) h = absurd h

-- and runs nothing
head_runs : (work : Work) (text : List ℕ) (ask : Ask) (before now : Option RanValue) → AsksHead text ask → now ≡ before → RunBehind work ask before now
head_runs work text (opens head) before now h same = same
head_runs work text (refuses_head refusal) before now h same = same
head_runs work text (refuses refusal) before now h same = absurd h
head_runs work text (adds change) before now h same = absurd h
head_runs work text (evaluates own told stopped) before now h same = absurd h
head_runs work text condenses before now h same = absurd h
head_runs work text (adds_source source) before now h same = absurd h
head_runs work text (refuses_source refusal) before now h same = absurd h
head_runs work text closes before now h same = absurd h
head_runs work text (tells query) before now h same = absurd h
head_runs work text (files filed moment) before now h same = absurd h
head_runs work text (seeks query lines) before now h same = absurd h

pub worked_head : (may_leave : Image → Type 0) (now : Shown) (session : Session) (was : Was) (work : Work) (basis : Ground) (text : List ℕ) (answer : Answer) → last_run_of session ≡ was.last_run → (ask : Ask) × AsksHead text ask × IsAnswer work ask answer → IsAmid may_leave now session work basis → Answers (Ok answer) may_leave now session was work basis (Chunk (items.Head text))
worked_head may_leave now session was work basis text answer same is h =
    worked_so may_leave now session was work basis (Chunk (items.Head text)) is.0 answer (is.1, head_so work text is.0 is.1) is.2 (head_runs work text is.0 was.last_run (last_run_of session) is.1 same) (head_lists work text is.0 is.1) h

too_long_so : (work : Work) (role : Role) (n : ℕ) → IsSo work (ask_of_too_long role n)
too_long_so work roles.Plain n = tt
too_long_so work roles.Head n = tt
too_long_so work roles.Method n = tt

too_long_lists : (work : Work) (role : Role) (n : ℕ) → staying work (ask_of_too_long role n) ≡ work
too_long_lists work roles.Plain n = refl
too_long_lists work roles.Head n = refl
too_long_lists work roles.Method n = refl

too_long_runs : (work : Work) (role : Role) (n : ℕ) (before now : Option RanValue) → now ≡ before → RunBehind work (ask_of_too_long role n) before now
too_long_runs work roles.Plain n before now same = same
too_long_runs work roles.Head n before now same = same
too_long_runs work roles.Method n before now same = same

pub worked_too_long : (may_leave : Image → Type 0) (now : Shown) (session : Session) (was : Was) (work : Work) (basis : Ground) (role : Role) (n : ℕ) (answer : Answer) → last_run_of session ≡ was.last_run → IsAnswer work (ask_of_too_long role n) answer → IsAmid may_leave now session work basis → Answers (Ok answer) may_leave now session was work basis (Chunk (items.TooLong role n))
worked_too_long may_leave now session was work basis role n answer same is h =
    worked_so may_leave now session was work basis (Chunk (items.TooLong role n)) (ask_of_too_long role n) answer (refl, too_long_so work role n) is (too_long_runs work role n was.last_run (last_run_of session) same) (too_long_lists work role n) h

-- what a query is told
pub replied_told : (may_leave : Image → Type 0) (now : Shown) (session : Session) (was : Was) (work : Work) (put : List ℕ) (query asked : SessionQuery) (reply : Reply) → last_run_of session ≡ was.last_run → query ≡ asked → AsksQuery asked (tells asked) → reply ≡ told work.changes asked → IsAt may_leave now session work put → QueryWorked (Ok reply) may_leave now session was work put (Query query)
replied_told may_leave now session was work put query asked reply same is asks told_is h =
    let P : SessionQuery → Type 0 = λ q. QueryWorked (Ok reply) may_leave now session was work put (Query q) in
    subst P (sym is) (tells asked, (asks, tt), told_is, same, h)

-- what is sought
pub replied_sought : (may_leave : Image → Type 0) (now : Shown) (session : Session) (was : Was) (work : Work) (put : List ℕ) (query asked : SessionQuery) (reply : Reply) → last_run_of session ≡ was.last_run → query ≡ asked → TellsSought work asked reply → IsAt may_leave now session work put → QueryWorked (Ok reply) may_leave now session was work put (Query query)
replied_sought may_leave now session was work put query asked reply same is sought h =
    let P : SessionQuery → Type 0 = λ q. QueryWorked (Ok reply) may_leave now session was work put (Query q) in
    subst P (sym is) (⊎_elim (λ found. (seeks asked found.0, (found.1, found.2), found.3, same, h)) (λ refused. (refuses refused.0, (refused.1, tt), refused.2, same, h)) sought)

-- the second is the one that is told
pub told_second : (o now : Shown) (seconds : ℕ) → now ≡ o → IfSome o.seconds (λ told. seconds ≡ told) → IfSome now.seconds (λ told. seconds ≡ told)
told_second o now seconds same = let P : Shown → Type 0 = λ s. IfSome s.seconds (λ told. seconds ≡ told) in subst P (sym same)

-- its moment is one of the clock in the settings
is_now : (clock settings : Option ℕ) (seconds : ℕ) (moment : List ℕ) → settings ≡ clock → IfSome clock (λ told. seconds ≡ told) → IsMoment seconds moment → IsNow settings moment
is_now clock settings seconds moment same told is = let P : Option ℕ → Type 0 = λ o. IsNow o moment in subst P (sym same) (by_clock clock told)
  where
    by_clock : (clock : Option ℕ) → IfSome clock (λ told. seconds ≡ told) → IsNow clock moment
    by_clock None told = (seconds, is)
    by_clock (Some second) told = let P : ℕ → Type 0 = λ n. IsMoment n moment in subst P told is

-- a file that is told
pub replied_file : (may_leave : Image → Type 0) (now : Shown) (session : Session) (was : Was) (work : Work) (put : List ℕ) (filed asked : Filed) (seconds : ℕ) (reply : Reply) → last_run_of session ≡ was.last_run → filed ≡ asked → IfSome now.seconds (λ told. seconds ≡ told) → TellsFile work.changes seconds asked reply → IsAt may_leave now session work put → QueryWorked (Ok reply) may_leave now session was work put (Query (queries.FileOut filed))
replied_file may_leave now session was work put filed asked seconds reply same asks told (moment, is, reply_is) h =
    let P : Filed → Type 0 = λ f. QueryWorked (Ok reply) may_leave now session was work put (Query (queries.FileOut f)) in
    subst P (sym asks) (files asked moment, ((moment, refl), is_now now.seconds work.settings.moment seconds moment h.moment told is), reply_is, same, h)

-- what is worked by itself, at rest
at_end : (may_leave : Image → Type 0) (now : Shown) (session : Session) (work : Work) (put : List ℕ) → IsAt may_leave now session work (put ++ []) → IsAt may_leave now session work put
at_end may_leave now session work put h = let P : List ℕ → Type 0 = λ l. IsAt may_leave now session work l in subst P (append-nil put) h

pub queried_alone : (result : Result Reply SessionEnd) (may_leave : Image → Type 0) (now : Shown) (session : Session) (was : Was) (work : Work) (put : List ℕ) (item : SessionItem) (ask : Ask) → AsksIn work item ask → RunBehind work ask was.last_run (last_run_of session) → WorkedAlone result may_leave now session work (at_rest work put) item ask → QueryWorked result may_leave now session was work put item
queried_alone (Ok reply) may_leave now session was work put item ask asks run h = (ask, asks, h.0, run, at_end may_leave now session (work_after work ask) put h.1)
queried_alone (Err ends.Memory) may_leave now session was work put item ask asks run h = ⊎_elim (λ here. here) (at_end may_leave now session work put) h
queried_alone (Err (ends.Disk failed)) may_leave now session was work put item ask asks run h =
    let P : List ℕ → Type 0 = λ l. IsLost may_leave now l (IsPast work item) in
    ⊎_elim (lost_among may_leave now put (λ list. (list ≡ work.changes) ⊎ IsPast work item list) (IsPast work item) (λ list. ⊎_elim (λ same. inl same) (λ past. past))) (λ behind. subst P (append-nil put) behind) h
queried_alone (Err (ends.Write failed)) may_leave now session was work put item ask asks run h = absurd (omega (arith, h.1))
queried_alone (Err (ends.Read failed)) may_leave now session was work put item ask asks run h = h
queried_alone (Err ends.TooLong) may_leave now session was work put item ask asks run h = h
queried_alone (Err (ends.Damaged damage)) may_leave now session was work put item ask asks run h = h

-- how a start that fails ends the session
pub starts_err : (fault : StartFault) (may_leave : Image → Type 0) (now : Shown) (settings : Settings) (changes : List Change) (put : List ℕ) → now.taken ≡ Some put → Started (Err fault) now.tells now.files may_leave changes → Starts (Err (end_of_start fault)) may_leave now settings changes put
starts_err faults.Memory may_leave now settings changes put taken h = h
starts_err (faults.Disk failed) may_leave now settings changes put taken h = record { taken = taken; list = changes; is = refl; reads = h }
starts_err (faults.Damaged damage) may_leave now settings changes put taken h = absurd h
