-- What a session knows of its log stays known, and no damage is met.
use Rattle.std.proofs.Common.{◌≡◌, ◌≤◌, ◌-◌, inl, inr, ℕ, zero, suc, Bool, if◌then◌else◌, List, length, take, Option, None, Result, Ok, Err, sym, ap, subst, ◌∙◌, arith}
use Rattle.std.proofs.lemmas.Bool.Decides.{eqb_tells}
use Rattle.std.proofs.lemmas.List.{length-take-le}
use Rattle.std.proofs.lemmas.List.Elements.{All-nil}
use Rattle.std.specs.Prelude.{◌≢◌, IfErr, IsTrue}
use Rattle.s80_apply.specs.List.{IsAccepted, IsBuilt, state_of}
use Rattle.s80_apply.specs.Placed.{placed_of}
use Rattle.s80_apply.specs.State.{State}
use Rattle.s80_apply.specs.System.{HasPlaces, IsSystemOf, SystemState}
use Rattle.s80_change.specs.declared.change.Change.{Change}
use Rattle.s80_change.specs.declared.change.Change.TheVariants.{DoIt}
use Rattle.s80_change.specs.Block.{blocks, IsLawful, IsList}
use Rattle.s80_tree.specs.declared.method.MethodTree.{MethodTree}
use Rattle.s80_chunk.specs.Chunks.{IsChunkText, longest}
use Rattle.s80_disk.specs.declared.disk.FileId.{FileId}
use Rattle.s80_disk.specs.declared.disk.FileId.TheVariants.{Mark, Log0, Log1}
use Rattle.s80_disk.specs.Image.{Image}
use Rattle.s80_disk.specs.Shown.{Faults, Shown}
use Rattle.s80_doit.specs.DoIt.{IsMethodOfDoIt}
use Rattle.s80_form.specs.declared.refusal.Refusal.{Refusal}
use Rattle.s80_form.specs.Form.{IsEvaluatedText}
use Rattle.s80_history.specs.History.{IsHistoryOf}
use Rattle.s80_keeper.specs.declared.keep.KeepFault.{KeepFault}
use Rattle.s80_keeper.specs.declared.keep.KeepFault.TheVariants as faults
use Rattle.s80_keeper.specs.Answers.{AfterCommit, AfterKeepingLater, IsFor, PreparedChange}
use Rattle.s80_keeper.specs.Condensing.{AfterCondensing, IfReplaced}
use Rattle.s80_keeper.specs.Keeper.{KeeperState, Knows}
use Rattle.s80_keeper.specs.Renewing.{HasWritten}
use Rattle.s80_keeper.specs.Standing.{FilesStandFor}
use Rattle.s80_log.specs.Log.{held_in, log_file, LogEnd}
use Rattle.s80_model.specs.Asked.{Ask, Asks}
use Rattle.s80_model.specs.declared.item.SessionItem.{SessionItem}
use Rattle.s80_model.specs.declared.reply.Answer.{Answer}
use Rattle.s80_model.specs.declared.reply.Reply.{Reply}
use Rattle.s80_model.specs.declared.section.Section.{Section}
use Rattle.s80_model.specs.Replies.{IsAnswer, Work}
use Rattle.s80_model.specs.Section.{section_or, IsBriefSection}
use Rattle.s80_session.specs.declared.end.SessionEnd.{SessionEnd}
use Rattle.s80_session.specs.declared.end.SessionEnd.TheVariants as ends
use Rattle.s80_session.specs.declared.session.Session.{Session}
use Rattle.s80_session.specs.Ending.{Counts, IsWriteEnd}
use Rattle.s80_session.specs.Ends.{refusal_at_fault}
use Rattle.s80_session.specs.Known.{IsKnowing, IsLawfulAnywhere, StaysKnowing}
use Rattle.s80_session.specs.Session.{keeper_of, section_of}
use Rattle.s80_session.specs.Working.{IsLawfulFor}
use Rattle.s80_session.proofs.Brief.{brief_after}
use Rattle.s80_session.proofs.Unmarked.{unmarked}
use Rattle.s80_session.proofs.lemmas.Elsewhere.{no_mark}

-- ---- how it ends

-- what broke off ends the work too
pub ends_so : (T U : Type 0) (end : SessionEnd) (o : Shown) (session : Session) → StaysKnowing {T = T} (Err end) o session → StaysKnowing {T = U} (Err end) o session
ends_so T U (ends.Damaged damage) o session h = h
ends_so T U ends.Memory o session h = tt
ends_so T U (ends.Read failed) o session h = tt
ends_so T U (ends.Write failed) o session h = tt
ends_so T U (ends.Disk failed) o session h = tt
ends_so T U ends.TooLong o session h = tt

-- a flush, a keeping, a text and an answer may break off
pub flush_ends : (end : SessionEnd) (o : Shown) (session : Session) → StaysKnowing {T = Unit {0}} (Err end) o session → StaysKnowing {T = Reply} (Err end) o session
flush_ends = ends_so (Unit {0}) Reply

pub keeping_ends : (end : SessionEnd) (o : Shown) (session : Session) → StaysKnowing {T = Option Refusal} (Err end) o session → StaysKnowing {T = Reply} (Err end) o session
keeping_ends = ends_so (Option Refusal) Reply

pub text_ends : (end : SessionEnd) (o : Shown) (session : Session) → StaysKnowing {T = Reply} (Err end) o session → StaysKnowing {T = Answer} (Err end) o session
text_ends = ends_so Reply Answer

pub answer_ends : (end : SessionEnd) (o : Shown) (session : Session) → StaysKnowing {T = Answer} (Err end) o session → StaysKnowing {T = Unit {0}} (Err end) o session
answer_ends = ends_so Answer (Unit {0})

pub reply_ends : (end : SessionEnd) (o : Shown) (session : Session) → StaysKnowing {T = Reply} (Err end) o session → StaysKnowing {T = Unit {0}} (Err end) o session
reply_ends = ends_so Reply (Unit {0})

-- what counts no damage meets none
pub whole_ends : {T : Type 0} (a b : Faults) (end : SessionEnd) (o : Shown) (session : Session) → Counts {T = T} a b (Err end) → StaysKnowing {T = Unit {0}} (Err end) o session
whole_ends a b (ends.Damaged damage) o session h = absurd h.reason
whole_ends a b ends.Memory o session h = tt
whole_ends a b (ends.Read failed) o session h = tt
whole_ends a b (ends.Write failed) o session h = tt
whole_ends a b (ends.Disk failed) o session h = tt
whole_ends a b ends.TooLong o session h = tt

-- ---- what is known of another moment

-- the log is read as before, and the keeper is the same
written_on : (tells then_tells : Bool) (files now : Image) (keeper : KeeperState) (changes : List Change) → then_tells ≡ tells → now (log_file keeper.log.number) ≡ files (log_file keeper.log.number) → HasWritten tells files keeper changes → HasWritten then_tells now keeper changes
written_on tells then_tells files now keeper changes telling same h = record {
  made = h.made;
  list = h.list;
  whole = h.whole;
  bytes = λ told. ap (take keeper.log.end) same ∙ h.bytes (subst IsTrue telling told);
}

-- another session that has the same keeper and section, where nothing but the input or the output was used
pub knows_on : {D : Type 0} (shown : D → Shown) (old new : D) (before now : Session) → (now ≡ before) × (new ≡ old) → IsKnowing (shown old) before → IsKnowing (shown new) now
knows_on shown old new before now same knows = subst (λ o. IsKnowing (shown o) now) (sym same.1) (subst (λ s. IsKnowing (shown old) s) (sym same.0) knows)

pub knows_left : (o now : Shown) (session : Session) → now ≡ record o { left = now.left } → IsKnowing o session → IsKnowing now session
knows_left o now session shown knows = subst (λ s. IsKnowing s session) (sym shown) knows

-- what was held was put
pub knows_put : (r : Result (Unit {0}) SessionEnd) (mid now : Shown) (before session : Session) → IfErr r IsWriteEnd → session ≡ record before { held = session.held } → now ≡ record mid { taken = now.taken; told = now.told } → IsKnowing mid before → StaysKnowing r now session
knows_put (Ok done) mid now before session is rest shown knows = subst (λ o. IsKnowing o session) (sym shown) (subst (λ s. IsKnowing mid s) (sym rest) knows)
knows_put (Err (ends.Write failed)) mid now before session is rest shown knows = tt
knows_put (Err ends.Memory) mid now before session is rest shown knows = tt
knows_put (Err (ends.Read failed)) mid now before session is rest shown knows = tt
knows_put (Err (ends.Disk failed)) mid now before session is rest shown knows = tt
knows_put (Err (ends.Damaged damage)) mid now before session is rest shown knows = absurd is
knows_put (Err ends.TooLong) mid now before session is rest shown knows = tt

-- another section is entered, and its head is brief
pub knows_entered : (o : Shown) (before now : Session) → keeper_of now ≡ keeper_of before → (IsTrue o.tells → IsBriefSection (section_of now)) → IsKnowing o before → IsKnowing o now
knows_entered o before now keeper brief knows = λ told.
    let was = knows told in
    (brief told, was.1, subst (λ k. HasWritten o.tells o.files k was.1) (sym keeper) was.2)

-- the same section and keeper
pub knows_alike : (o : Shown) (before now : Session) → keeper_of now ≡ keeper_of before → section_of now ≡ section_of before → IsKnowing o before → IsKnowing o now
knows_alike o before now keeper section knows = knows_entered o before now keeper (λ told. subst IsBriefSection (sym section) (knows told).0) knows

-- ---- a start

-- the list that files stand for is built, and a log keeps it
built_of : (files : Image) (changes : List Change) → FilesStandFor files changes → IsBuilt changes
built_of files changes (inl empty) = subst IsBuilt (sym empty.1) tt
built_of files changes (inr marked) = marked.3

list_of : (files : Image) (changes : List Change) → FilesStandFor files changes → IsList changes
list_of files changes (inl empty) = subst IsList (sym empty.1) (record { lawful = All-nil IsLawful; within = omega arith })
list_of files changes (inr marked) = marked.1.list

-- what is known of files that have all of the log
pub starts_written : (tells : Bool) (files now : Image) (keeper : KeeperState) (changes : List Change) → FilesStandFor files changes → Knows files keeper changes → now (log_file keeper.log.number) ≡ files (log_file keeper.log.number) → keeper.log.end ≤ length (now (log_file keeper.log.number)) → HasWritten tells now keeper changes
starts_written tells files now keeper changes stands knows same long =
    let held : held_in now keeper.log ≡ blocks changes = ap (take keeper.log.end) same ∙ knows.log in
    record {
      made = record { built = built_of files changes stands; system = knows.system; places = knows.places; history = knows.history; count = knows.count };
      list = list_of files changes stands;
      whole = sym (length-take-le keeper.log.end (now (log_file keeper.log.number)) long) ∙ ap length held;
      bytes = λ told. held;
    }

-- ---- a change is kept

-- its keeper has prepared it
pub written_prepared : (tells : Bool) (files : Image) (before now : KeeperState) (changes : List Change) → now ≡ record before { system = now.system; history = now.history } → IsSystemOf now.system (state_of changes) → HasPlaces now.system (placed_of changes) → IsHistoryOf now.history changes → HasWritten tells files before changes → HasWritten tells files now changes
written_prepared tells files before now changes same system places history h =
    let P : LogEnd → Type 0 = λ l. (l.end ≡ length (blocks changes)) × (IsTrue tells → held_in files l ≡ blocks changes) in
    let log = subst P (sym (ap (λ (k : KeeperState). k.log) same)) (h.whole, h.bytes) in
    record {
      made = record { built = h.made.built; system = system; places = places; history = history; count = ap (λ (k : KeeperState). k.count) same ∙ h.made.count };
      list = h.list;
      whole = log.0;
      bytes = log.1;
    }

-- what was prepared is lawful
pub prepared_lawful : (changes : List Change) (change : Change) (system : SystemState) (prepared : PreparedChange) → prepared.change ≡ change → IsFor (state_of changes) system prepared → IsLawfulFor changes change → IsLawful prepared.change
prepared_lawful changes change system prepared is is_for lawful =
    let P : Change → Type 0 = λ x. IsLawfulFor changes x in
    let Q : Result State Refusal → Type 0 = λ r. IsAccepted r in
    subst P (sym is) lawful (subst Q (sym is_for.makes.1) tt)

-- no damage is met
pub kept_whole : (T : Type 0) (result : Result ℕ KeepFault) (prepared : PreparedChange) (before now : KeeperState) (fault : KeepFault) (o : Shown) (session : Session) → result ≡ Err fault → AfterKeepingLater result prepared before now → IfErr (refusal_at_fault fault) (λ end. StaysKnowing {T = T} (Err end) o session)
kept_whole T result prepared before now (faults.Damaged damage) o session is after = absurd (let P : Result ℕ KeepFault → Type 0 = λ r. AfterKeepingLater r prepared before now in subst P is after)
kept_whole T result prepared before now faults.Memory o session is after = tt
kept_whole T result prepared before now (faults.Disk failed) o session is after = tt
kept_whole T result prepared before now (faults.Closed failed) o session is after = tt
kept_whole T result prepared before now (faults.Full n) o session is after = tt

-- ---- what is pending is committed

pub commit_whole : (result : Result (Unit {0}) KeepFault) (before now : KeeperState) (fault : KeepFault) (o : Shown) (session : Session) → result ≡ Err fault → AfterCommit result before now → IfErr (refusal_at_fault fault) (λ end. StaysKnowing {T = Unit {0}} (Err end) o session)
commit_whole result before now (faults.Damaged damage) o session is after = absurd (let P : Result (Unit {0}) KeepFault → Type 0 = λ r. AfterCommit r before now in subst P is after)
commit_whole result before now faults.Memory o session is after = tt
commit_whole result before now (faults.Disk failed) o session is after = tt
commit_whole result before now (faults.Closed failed) o session is after = tt
commit_whole result before now (faults.Full n) o session is after = tt

-- ---- a session condenses

-- the two logs are two files
other_log : (number : ℕ) → log_file number ≢ log_file (1 - number)
other_log zero = λ is. cc is
other_log (suc n) = λ is.
    let none : 1 - suc n ≡ 0 = omega arith in
    elim (eqb_tells (suc n) 0) [
      | inl h ↦ omega (arith, h.1)
      | inr h ↦ let e : Log1 ≡ Log0 = sym (ap (λ (b : Bool). if b then Log0 else Log1) h.0) ∙ is ∙ ap log_file none in cc e
    ]

-- a list that would be too long leaves all
pub condensed_still : (fault : KeepFault) (refusal : Refusal) (mid now : Shown) (before after : KeeperState) (changes : List Change) → refusal_at_fault fault ≡ Ok refusal → AfterCondensing (Err fault) before after → now.tells ≡ mid.tells → ((other : FileId) → other ≢ Mark → other ≢ log_file (1 - before.log.number) → now.files other ≡ mid.files other)
    → HasWritten mid.tells mid.files before changes → HasWritten now.tells now.files after changes
condensed_still (faults.Full count) refusal mid now before after changes gives same tells others h =
    let P : KeeperState → Type 0 = λ k. HasWritten now.tells now.files k changes in
    subst P (sym same) (written_on mid.tells now.tells mid.files now.files before changes tells (others (log_file before.log.number) (no_mark before.log.number) (other_log before.log.number)) h)
condensed_still faults.Memory refusal mid now before after changes gives same tells others h = absurd (cc)
condensed_still (faults.Disk failed) refusal mid now before after changes gives same tells others h = absurd (cc)
condensed_still (faults.Closed failed) refusal mid now before after changes gives same tells others h = absurd (cc)
condensed_still (faults.Damaged damage) refusal mid now before after changes gives same tells others h = absurd (cc)

-- no damage is met
pub condensed_known : (P : List Change → Type 0) (fault : KeepFault) (o : Shown) (session : Session) → (IsTrue o.tells → (changes : List Change) × IfReplaced {T = Unit {0}} (Err fault) (P changes)) → IfErr (refusal_at_fault fault) (λ end. StaysKnowing {T = Reply} (Err end) o session)
condensed_known P (faults.Damaged damage) o session h = λ told. (h told).1
condensed_known P faults.Memory o session h = tt
condensed_known P (faults.Disk failed) o session h = tt
condensed_known P (faults.Closed failed) o session h = tt
condensed_known P (faults.Full count) o session h = tt

-- ---- what is lawful

-- the doIt that a plain text is, is the text itself
pub own_text : (own text : List ℕ) → own ≡ text → IsChunkText text → length text ≤ longest → IsEvaluatedText text → IsChunkText own × (length own ≤ longest) × IsEvaluatedText own
own_text own text is chunk short evaluated = let P : List ℕ → Type 0 = λ t. IsChunkText t × (length t ≤ longest) × IsEvaluatedText t in subst P (sym is) (chunk, short, evaluated)

-- a doIt that is evaluated
pub doit_anywhere : (text : List ℕ) (method : MethodTree) → IsMethodOfDoIt text method → IsChunkText text → length text ≤ longest → IsEvaluatedText text → IsLawfulAnywhere (DoIt text)
doit_anywhere text method is chunk short evaluated = λ changes all accepted. ((chunk, unmarked text is.tree is.tree_is, short), evaluated.none)

-- ---- sections

-- a work behind this list and in this section, with some settings
abbrev pub work_on : List Change → Section → Work
work_on changes section = record { changes = changes; section = section; settings = record { budget = 0; kept_versions = 0; moment = None } }

-- the section behind an answer is brief
pub brief_answered : (work : Work) (item : SessionItem) (ask : Ask) (answer : Answer) → Asks item ask → IsAnswer work ask answer → IsBriefSection work.section → IsBriefSection (section_or answer.section work.section)
brief_answered work item ask answer asks is brief = subst IsBriefSection (sym is.1) (brief_after work item ask asks brief)

pub brief_staying : (session : Session) (reply : Reply) (answer : Answer) → answer ≡ record { reply = reply; section = None } → IsBriefSection (section_of session) → IsBriefSection (section_or answer.section (section_of session))
brief_staying session reply answer is brief =
    let P : Answer → Type 0 = λ a. IsBriefSection (section_or a.section (section_of session)) in
    subst P (sym is) brief
