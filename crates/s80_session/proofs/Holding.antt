-- An item that was worked: its reply is held, and its section entered.
use Rattle.std.proofs.Common.{◌≡◌, ◌⊎◌, inl, inr, ⊎_elim, ℕ, ◌≤◌, List, [], ◌++◌, refl, sym, ap, subst, ◌∙◌, Result, Ok, Err, Option, Some, Bool, arith}
use Rattle.std.specs.Prelude.{None, ◌||◌}
use Rattle.s80_change.specs.declared.change.Change.{Change}
use Rattle.s80_change.specs.declared.change.Change.TheVariants.{DoIt}
use Rattle.s80_change.specs.Source.{SourceParts}
use Rattle.s80_form.specs.declared.refusal.Refusal.{Refusal}
use Rattle.s80_disk.specs.Image.{Image}
use Rattle.s80_disk.specs.Shown.{Shown, Faults}
use Rattle.s80_keeper.specs.Keeper.{KeeperState, Keeps}
use Rattle.s80_apply.specs.List.{add}
use Rattle.s80_chunk.specs.declared.item.Item.{Item}
use Rattle.s80_chunk.specs.declared.item.Item.TheVariants as items
use Rattle.s80_chunk.specs.declared.item.Role.{Role}
use Rattle.s80_chunk.specs.declared.item.Role.TheVariants as roles
use Rattle.s80_model.specs.declared.item.Filed.TheVariants as contents
use Rattle.s80_model.specs.declared.item.Query.TheVariants as queries
use Rattle.s80_model.specs.declared.item.SessionItem.{SessionItem}
use Rattle.s80_model.specs.declared.item.SessionItem.TheVariants.{Chunk, Unended, Query}
use Rattle.s80_model.specs.declared.reply.Answer.{Answer}
use Rattle.s80_model.specs.declared.reply.Reply.{Reply}
use Rattle.s80_model.specs.declared.reply.Reply.TheVariants.{Silent, Accepted, Refused, Evaluated, Told}
use Rattle.s80_model.specs.declared.section.Section.{Section}
use Rattle.s80_model.specs.declared.section.Section.TheVariants as sections
use Rattle.s80_machine.specs.Came.{RanValue}
use Rattle.s80_model.specs.Asked.{Ask, refuses, adds, evaluates, condenses, opens, refuses_head, adds_source, refuses_source, closes, tells, files, seeks, ask_of_too_long}
use Rattle.s80_model.specs.Replies.{IsAnswer, Work, AsksIn, condensed, list_or, list_after_source, method_in, reply_to, reply_in_section, reply_to_adding, reply_to_evaluating, reply_to_source, reply_text, is_trouble, work_after}
use Rattle.s80_model.specs.Section.{section_or}
use Rattle.s80_session.specs.declared.end.SessionEnd.{SessionEnd}
use Rattle.s80_session.specs.declared.end.SessionEnd.TheVariants as ends
use Rattle.s80_session.specs.declared.session.Session.{Session}
use Rattle.s80_session.specs.Ending.{Counts, CountsFor, SourceCounts}
use Rattle.s80_session.specs.Ends.{reply_to_keeping}
use Rattle.s80_session.specs.LastRun.{RunBehind}
use Rattle.s80_session.specs.Replies.{HasRoom, HasRoomFor, LacksRoom}
use Rattle.s80_session.specs.Session.{Was, budget_of, held_of, keeper_of, kept_versions_of, last_run_of, section_of, troubled_of, HasHeld, HasRun, IsEvaluation, RunAfterReply}
use Rattle.s80_session.specs.Working.{Ground, IsAmid, GoesOn, Answers, ItemWorked, flushed, holding, staying}
use Rattle.s80_session.proofs.Breaking.{no_fewer}
use Rattle.s80_session.proofs.Brief.{brief_after}
use Rattle.s80_session.proofs.Marking.{run_kept}
use Rattle.s80_session.proofs.Stepping.{head_lists, IsStaying}

-- ---- what else a session holds is no matter

-- a session with the same keeper, section, budget and versions to keep, and as much held
pub amid_alike : (may_leave : Image → Type 0) (now : Shown) (mid session : Session) (work : Work) (basis : Ground) → keeper_of session ≡ keeper_of mid → section_of session ≡ section_of mid → budget_of session ≡ budget_of mid → kept_versions_of session ≡ kept_versions_of mid → held_of session ≡ held_of mid → IsAmid may_leave now mid work basis → IsAmid may_leave now session work basis
amid_alike may_leave now mid session work basis keeper section budget versions held h = record {
  keeps = let P : KeeperState → Type 0 = λ k. Keeps now.tells now.files may_leave k basis.kept work.changes in subst P (sym keeper) h.keeps;
  section = section ∙ h.section;
  brief = h.brief;
  budget = budget ∙ h.budget;
  kept_versions = versions ∙ h.kept_versions;
  moment = h.moment;
  taken = h.taken;
  told = h.told;
  held = held ∙ h.held;
}

-- ---- the reply is held, and the section entered

-- what becomes of a session on its basis
module _ (may_leave : Image → Type 0) (now : Shown) (mid session : Session) (work : Work) (item : SessionItem) (answer : Answer) (keeper : keeper_of session ≡ keeper_of mid) (budget : budget_of session ≡ budget_of mid) (versions : kept_versions_of session ≡ kept_versions_of mid) (section : section_of session ≡ section_or answer.section (section_of mid)) (held : held_of session ≡ held_of mid ++ reply_text answer.reply) where
  held_on : (basis : Ground) (ask : Ask) → AsksIn work item ask → IsAnswer work ask answer → IsAmid may_leave now mid (staying work ask) basis → IsAmid may_leave now session (work_after work ask) (holding basis (reply_text (reply_to work ask)))
  held_on basis ask asks is h = record {
    keeps = let P : KeeperState → Type 0 = λ k. Keeps now.tells now.files may_leave k basis.kept (work_after work ask).changes in subst P (sym keeper) h.keeps;
    section = section ∙ ap (section_or answer.section) h.section ∙ is.1;
    brief = brief_after work item ask asks.0 h.brief;
    budget = budget ∙ h.budget;
    kept_versions = versions ∙ h.kept_versions;
    moment = h.moment;
    taken = h.taken;
    told = h.told;
    held = held ∙ (λ i. h.held i ++ reply_text (is.0 i));
  }

  -- an item that was worked
  pub item_held : (was : Was) (basis : Ground) → troubled_of mid ≡ was.troubled → troubled_of session ≡ (troubled_of mid || is_trouble answer.reply) → last_run_of session ≡ last_run_of mid → Answers (Ok answer) may_leave now mid was work basis item → ItemWorked {T = Unit {0}} (Ok tt) may_leave now session was work basis item
  item_held was basis calm troubled run (ask, asks, is, behind, goes) =
      let P : Option RanValue → Type 0 = λ o. RunBehind work ask was.last_run o in (
        ask,
        asks,
        troubled ∙ (λ i. calm i || is_trouble (is.0 i)),
        subst P (sym run) behind,
        ⊎_elim (λ here. inl (held_on basis ask asks is here)) (λ flushed_here. inr (held_on (flushed (work_after work ask) basis) ask asks is flushed_here)) goes,
      )

-- and what is held
pub has_held : (before mid session : Session) (reply : Reply) → (held_of mid ≡ held_of before) ⊎ (held_of mid ≡ []) → held_of session ≡ held_of mid ++ reply_text reply → troubled_of session ≡ (troubled_of mid || is_trouble reply) → troubled_of mid ≡ troubled_of before → HasHeld before session
has_held before mid session reply was held troubled calm = (
  reply,
  ⊎_elim (λ same. inl (held ∙ ap (λ l. l ++ reply_text reply) same)) (λ none. inr (held ∙ ap (λ l. l ++ reply_text reply) none)) was,
  troubled ∙ ap (λ b. b || is_trouble reply) calm,
)

-- ---- the reply isn't held

adding_refused : (r : Result (List Change) Refusal) (changes : List Change) (refusal : Refusal) → reply_to_adding r ≡ Refused refusal → list_or r changes ≡ changes
adding_refused (Ok list) changes refusal e = cc
adding_refused (Err other) changes refusal e = refl

adding_told : (r : Result (List Change) Refusal) (changes : List Change) (text : List ℕ) → reply_to_adding r ≡ Told text → list_or r changes ≡ changes
adding_told (Ok list) changes text e = cc
adding_told (Err other) changes text e = refl

evaluating_refused : (r : Result (List Change) Refusal) (changes : List Change) (told : List ℕ) (stopped : Bool) (refusal : Refusal) → reply_to_evaluating r told stopped ≡ Refused refusal → list_or r changes ≡ changes
evaluating_refused (Ok list) changes told stopped refusal e = absurd (cc)
evaluating_refused (Err other) changes told stopped refusal e = refl

evaluating_told : (r : Result (List Change) Refusal) (changes : List Change) (told : List ℕ) (stopped : Bool) (text : List ℕ) → reply_to_evaluating r told stopped ≡ Told text → list_or r changes ≡ changes
evaluating_told (Ok list) changes told stopped text e = absurd (cc)
evaluating_told (Err other) changes told stopped text e = refl

source_refused : (changes : List Change) (section : Section) (source : SourceParts) (refusal : Refusal) → reply_to_source changes section source ≡ Refused refusal → list_after_source changes section source ≡ changes
source_refused changes sections.Top source refusal e = refl
source_refused changes (sections.Open head) source refusal e = adding_refused (add changes (method_in head source)) changes refusal e
source_refused changes sections.Refused source refusal e = refl

source_told : (changes : List Change) (section : Section) (source : SourceParts) (text : List ℕ) → reply_to_source changes section source ≡ Told text → list_after_source changes section source ≡ changes
source_told changes sections.Top source text e = refl
source_told changes (sections.Open head) source text e = adding_told (add changes (method_in head source)) changes text e
source_told changes sections.Refused source text e = refl

-- a refusal leaves all but the section
refused_stays : (work : Work) (ask : Ask) (refusal : Refusal) → reply_to work ask ≡ Refused refusal → staying work ask ≡ work
refused_stays work (refuses other) refusal e = refl
refused_stays work (adds change) refusal e = ap (λ l. record work { changes = l }) (adding_refused (add work.changes change) work.changes refusal e)
refused_stays work (evaluates text told stopped) refusal e = ap (λ l. record work { changes = l }) (evaluating_refused (add work.changes (DoIt text)) work.changes told stopped refusal e)
refused_stays work condenses refusal e = ap (λ l. record work { changes = l }) (adding_refused (condensed work.changes work.settings.kept_versions) work.changes refusal e)
refused_stays work (opens head) refusal e = refl
refused_stays work (refuses_head other) refusal e = refl
refused_stays work (adds_source source) refusal e = ap (λ l. record work { changes = l }) (source_refused work.changes work.section source refusal e)
refused_stays work (refuses_source other) refusal e = refl
refused_stays work closes refusal e = refl
refused_stays work (tells query) refusal e = refl
refused_stays work (files filed moment) refusal e = refl
refused_stays work (seeks query lines) refusal e = refl

-- so does what is told
told_stays : (work : Work) (ask : Ask) (text : List ℕ) → reply_to work ask ≡ Told text → staying work ask ≡ work
told_stays work (refuses other) text e = refl
told_stays work (adds change) text e = ap (λ l. record work { changes = l }) (adding_told (add work.changes change) work.changes text e)
told_stays work (evaluates own told stopped) text e = ap (λ l. record work { changes = l }) (evaluating_told (add work.changes (DoIt own)) work.changes told stopped text e)
told_stays work condenses text e = ap (λ l. record work { changes = l }) (adding_told (condensed work.changes work.settings.kept_versions) work.changes text e)
told_stays work (opens head) text e = refl
told_stays work (refuses_head other) text e = refl
told_stays work (adds_source source) text e = ap (λ l. record work { changes = l }) (source_told work.changes work.section source text e)
told_stays work (refuses_source other) text e = refl
told_stays work closes text e = refl
told_stays work (tells query) text e = refl
told_stays work (files filed moment) text e = refl
told_stays work (seeks query lines) text e = refl

-- a reply for which there is room, and which isn't held, is a refusal, or what is told
unheld_stays : (work : Work) (ask : Ask) (reply : Reply) (room : ℕ) → reply ≡ reply_to work ask → HasRoom reply room → LacksRoom reply room → staying work ask ≡ work
unheld_stays work ask Silent room is has lacks = absurd lacks
unheld_stays work ask Accepted room is has lacks = absurd (omega (arith, has, lacks))
unheld_stays work ask (Refused refusal) room is has lacks = refused_stays work ask refusal (sym is)
unheld_stays work ask (Evaluated lines stopped) room is has lacks = absurd (omega (arith, has, lacks))
unheld_stays work ask (Told text) room is has lacks = told_stays work ask text (sym is)

-- and so is a head that isn't answered
item_stays : (work : Work) (item : SessionItem) (ask : Ask) (reply : Reply) (room : ℕ) → AsksIn work item ask → reply ≡ reply_to work ask → HasRoomFor item reply room → LacksRoom reply room → staying work ask ≡ work
item_stays work (Chunk (items.Head text)) ask reply room asks is has lacks = head_lists work text ask asks.0
item_stays work (Chunk (items.Plain text)) ask reply room asks is has lacks = unheld_stays work ask reply room is has lacks
item_stays work (Chunk (items.Method text)) ask reply room asks is has lacks = unheld_stays work ask reply room is has lacks
item_stays work (Chunk items.SectionEnd) ask reply room asks is has lacks = unheld_stays work ask reply room is has lacks
item_stays work (Chunk (items.TooLong role n)) ask reply room asks is has lacks = unheld_stays work ask reply room is has lacks
item_stays work Unended ask reply room asks is has lacks = unheld_stays work ask reply room is has lacks
item_stays work (Query query) ask reply room asks is has lacks = unheld_stays work ask reply room is has lacks

-- so all goes on as if the item weren't there
pub unheld : (may_leave : Image → Type 0) (now : Shown) (mid session : Session) (was : Was) (work : Work) (basis : Ground) (item : SessionItem) (answer : Answer) (room : ℕ) → keeper_of session ≡ keeper_of mid → section_of session ≡ section_of mid → budget_of session ≡ budget_of mid → kept_versions_of session ≡ kept_versions_of mid → held_of session ≡ held_of mid → HasRoomFor item answer.reply room → LacksRoom answer.reply room → Answers (Ok answer) may_leave now mid was work basis item
    → GoesOn may_leave now session work basis
unheld may_leave now mid session was work basis item answer room keeper section budget versions held has lacks (ask, asks, is, behind, goes) =
    let P : Work → Type 0 = λ w. GoesOn may_leave now session w basis in
    subst P (item_stays work item ask answer.reply room asks is.0 has lacks) (⊎_elim (λ here. inl (amid_alike may_leave now mid session (staying work ask) basis keeper section budget versions held here)) (λ flushed_here. inr (amid_alike may_leave now mid session (staying work ask) (flushed (staying work ask) basis) keeper section budget versions held flushed_here)) goes)

-- and the last run is the one before
evaluation_held : (reply : Reply) (room : ℕ) → HasRoom reply room → LacksRoom reply room → IsEvaluation reply → ⊥
evaluation_held Silent room has lacks evaluation = evaluation
evaluation_held Accepted room has lacks evaluation = evaluation
evaluation_held (Refused refusal) room has lacks evaluation = evaluation
evaluation_held (Evaluated lines stopped) room has lacks evaluation = omega (arith, has, lacks)
evaluation_held (Told text) room has lacks evaluation = evaluation

no_run : (item : SessionItem) (reply : Reply) (room : ℕ) (mid : Session) → HasRoomFor item reply room → LacksRoom reply room → IsEvaluation reply → HasRun item mid → ⊥
no_run (Chunk (items.Head text)) reply room mid has lacks evaluation ran = ran
no_run (Chunk (items.Plain text)) reply room mid has lacks evaluation ran = evaluation_held reply room has lacks evaluation
no_run (Chunk (items.Method text)) reply room mid has lacks evaluation ran = ran
no_run (Chunk items.SectionEnd) reply room mid has lacks evaluation ran = ran
no_run (Chunk (items.TooLong role n)) reply room mid has lacks evaluation ran = ran
no_run Unended reply room mid has lacks evaluation ran = ran
no_run (Query query) reply room mid has lacks evaluation ran = ran

pub unheld_run : (reply : Reply) (room : ℕ) (item : SessionItem) (before mid : Session) → HasRoomFor item reply room → LacksRoom reply room → RunAfterReply reply item before mid → last_run_of mid ≡ last_run_of before
unheld_run reply room item before mid has lacks h = ⊎_elim (λ same. same) (λ ran. absurd (no_run item reply room mid has lacks ran.0 ran.1)) h

-- otherwise it may be a doIt's
pub held_run : (reply : Reply) (item : SessionItem) (before mid session : Session) → keeper_of session ≡ keeper_of mid → budget_of session ≡ budget_of mid → last_run_of session ≡ last_run_of mid → RunAfterReply reply item before mid → (last_run_of session ≡ last_run_of before) ⊎ HasRun item session
held_run reply item before mid session keeper budget last h = run_kept item before mid session (ap (λ (k : KeeperState). k.system) keeper) budget last (⊎_elim (λ same. inl same) (λ ran. inr ran.1) h)

-- ---- the counts of faults

-- those behind what met no fault
pub counts_then : {T U : Type 0} (item : SessionItem) (a m b : Faults) (value : T) (r : Result U SessionEnd) → (m ≡ a → Counts a b r × SourceCounts a b r) → CountsFor {T = T} item a m (Ok value) → CountsFor item a b r
counts_then (Chunk (items.Plain text)) a m b value r behind (inl h) = inl (behind h.reason).0
counts_then (Chunk (items.Plain text)) a m b value r behind (inr (asks, h)) = inr (asks, (behind h.reason).1)
counts_then (Chunk (items.Head text)) a m b value r behind h = (behind h.reason).0
counts_then (Chunk (items.Method text)) a m b value r behind h = (behind h.reason).0
counts_then (Chunk items.SectionEnd) a m b value r behind h = (behind h.reason).0
counts_then (Chunk (items.TooLong role length)) a m b value r behind h = (behind h.reason).0
counts_then Unended a m b value r behind h = (behind h.reason).0
counts_then (Query queries.Recover) a m b value r behind h = (behind h.reason).0
counts_then (Query queries.Classes) a m b value r behind h = (behind h.reason).0
counts_then (Query (queries.Browse name)) a m b value r behind h = (behind h.reason).0
counts_then (Query (queries.Source spec selector)) a m b value r behind h = (behind h.reason).1
counts_then (Query (queries.Versions spec selector)) a m b value r behind h = (behind h.reason).1
counts_then (Query queries.Changes) a m b value r behind h = (behind h.reason).1
counts_then (Query (queries.FileOut contents.All)) a m b value r behind h = (behind h.reason).0
counts_then (Query (queries.FileOut (contents.Class name))) a m b value r behind h = (behind h.reason).0
counts_then (Query (queries.FileOut contents.Set)) a m b value r behind h = (behind h.reason).1
counts_then (Query (queries.Senders selector)) a m b value r behind h = (behind h.reason).0
counts_then (Query (queries.Implementors selector)) a m b value r behind h = (behind h.reason).0
counts_then (Query (queries.References name)) a m b value r behind h = (behind h.reason).0
counts_then (Query queries.Undeclared) a m b value r behind h = (behind h.reason).0
counts_then (Query queries.Unimplemented) a m b value r behind h = (behind h.reason).0
counts_then (Query queries.Unsent) a m b value r behind h = (behind h.reason).0
counts_then (Query queries.Snapshot) a m b value r behind h = (behind h.reason).0
counts_then (Query queries.Condense) a m b value r behind h = (behind h.reason).1

-- no damage is met
pub source_counts : {U : Type 0} (a b : Faults) (r : Result U SessionEnd) → Counts a b r → SourceCounts a b r
source_counts a b (Ok value) h = record { later = h.later; reason = h.reason }
source_counts a b (Err ends.Memory) h = record { later = h.later; reason = h.reason }
source_counts a b (Err (ends.Read failed)) h = record { later = h.later; reason = h.reason }
source_counts a b (Err (ends.Write failed)) h = record { later = h.later; reason = h.reason }
source_counts a b (Err (ends.Disk failed)) h = record { later = h.later; reason = h.reason }
source_counts a b (Err (ends.Damaged damage)) h = absurd h.reason
source_counts a b (Err ends.TooLong) h = record { later = h.later; reason = h.reason }

-- of any item
pub any_counts : {U : Type 0} (item : SessionItem) (a b : Faults) (r : Result U SessionEnd) → Counts a b r → CountsFor item a b r
any_counts (Chunk (items.Plain text)) a b r h = inl h
any_counts (Chunk (items.Head text)) a b r h = h
any_counts (Chunk (items.Method text)) a b r h = h
any_counts (Chunk items.SectionEnd) a b r h = h
any_counts (Chunk (items.TooLong role length)) a b r h = h
any_counts Unended a b r h = h
any_counts (Query queries.Recover) a b r h = h
any_counts (Query queries.Classes) a b r h = h
any_counts (Query (queries.Browse name)) a b r h = h
any_counts (Query (queries.Source spec selector)) a b r h = source_counts a b r h
any_counts (Query (queries.Versions spec selector)) a b r h = source_counts a b r h
any_counts (Query queries.Changes) a b r h = source_counts a b r h
any_counts (Query (queries.FileOut contents.All)) a b r h = h
any_counts (Query (queries.FileOut (contents.Class name))) a b r h = h
any_counts (Query (queries.FileOut contents.Set)) a b r h = source_counts a b r h
any_counts (Query (queries.Senders selector)) a b r h = h
any_counts (Query (queries.Implementors selector)) a b r h = h
any_counts (Query (queries.References name)) a b r h = h
any_counts (Query queries.Undeclared) a b r h = h
any_counts (Query queries.Unimplemented) a b r h = h
any_counts (Query queries.Unsent) a b r h = h
any_counts (Query queries.Snapshot) a b r h = h
any_counts (Query queries.Condense) a b r h = source_counts a b r h

-- a chunk may ask to condense, and then damage may be met
pub chunk_counts : {U : Type 0} (item : Item) (a b : Faults) (r : Result U SessionEnd) → CountsFor (Chunk item) a b r → SourceCounts a b r
chunk_counts (items.Plain text) a b r (inl h) = source_counts a b r h
chunk_counts (items.Plain text) a b r (inr (asks, h)) = h
chunk_counts (items.Head text) a b r h = source_counts a b r h
chunk_counts (items.Method text) a b r h = source_counts a b r h
chunk_counts items.SectionEnd a b r h = source_counts a b r h
chunk_counts (items.TooLong role length) a b r h = source_counts a b r h

-- what follows what met no fault
pub counts_on : {U : Type 0} (a m b : Faults) (r : Result U SessionEnd) → Counts m b r → m ≡ a → Counts a b r × SourceCounts a b r
counts_on a m b r h same = let P : Faults → Type 0 = λ f. Counts f b r × SourceCounts f b r in subst P same (h, source_counts m b r h)

pub sources_on : {U : Type 0} (a m b : Faults) (r : Result U SessionEnd) → SourceCounts m b r → m ≡ a → SourceCounts a b r
sources_on a m b r h same = let P : Faults → Type 0 = λ f. SourceCounts f b r in subst P same h

-- for memory, and for what is done
pub memory_both : (a b : Faults) → b ≡ a → Counts {T = Unit {0}} a b (Err ends.Memory) × SourceCounts {T = Unit {0}} a b (Err ends.Memory)
memory_both a b same = (record { later = no_fewer a b same; reason = same }, record { later = no_fewer a b same; reason = same })

pub done_both : (a b : Faults) → b ≡ a → Counts {T = Unit {0}} a b (Ok tt) × SourceCounts {T = Unit {0}} a b (Ok tt)
done_both a b same = (record { later = no_fewer a b same; reason = same }, record { later = no_fewer a b same; reason = same })

-- ---- room for replies

-- any item's
pub any_room : (item : SessionItem) (reply : Reply) (room : ℕ) → HasRoom reply room → HasRoomFor item reply room
any_room (Chunk (items.Head text)) reply room has = tt
any_room (Chunk (items.Plain text)) reply room has = has
any_room (Chunk (items.Method text)) reply room has = has
any_room (Chunk items.SectionEnd) reply room has = has
any_room (Chunk (items.TooLong role n)) reply room has = has
any_room Unended reply room has = has
any_room (Query query) reply room has = has

-- an answer that names no section
pub staying_room : (item : SessionItem) (reply : Reply) (answer : Answer) (room : ℕ) → IsStaying reply answer → HasRoom reply room → HasRoomFor item answer.reply room
staying_room item reply answer room is has = any_room item answer.reply room (subst (λ r. HasRoom r room) (sym (ap (λ (a : Answer). a.reply) is)) has)

-- what keeping a change is answered
pub keeping_room : (refusal : Option Refusal) (reply : Reply) (room : ℕ) → reply ≡ reply_to_keeping refusal → 3 ≤ room → HasRoom reply room
keeping_room None reply room is enough = subst (λ r. HasRoom r room) (sym is) enough
keeping_room (Some refusal) reply room is enough = subst (λ r. HasRoom r room) (sym is) tt

-- what a text is answered that is too long
passed_room : (section : Section) (refusal : Refusal) (room : ℕ) → HasRoom (reply_in_section section refusal) room
passed_room sections.Top refusal room = tt
passed_room (sections.Open head) refusal room = tt
passed_room sections.Refused refusal room = tt

long_room : (work : Work) (role : Role) (n room : ℕ) → HasRoom (reply_to work (ask_of_too_long role n)) room
long_room work roles.Plain n room = tt
long_room work roles.Head n room = tt
long_room work roles.Method n room = passed_room work.section _ room

pub too_long_room : (section : Section) (role : Role) (n : ℕ) (answer : Answer) (room : ℕ) → ((work : Work) → work.section ≡ section → IsAnswer work (ask_of_too_long role n) answer) → HasRoom answer.reply room
too_long_room section role n answer room h =
    let work : Work = record { changes = []; section = section; settings = record { budget = 0; kept_versions = 0; moment = None } } in
    subst (λ r. HasRoom r room) (sym (h work refl).0) (long_room work role n room)
