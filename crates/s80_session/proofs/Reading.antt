-- What faults of the keeper end or answer, while a change is kept and while changes are read again.
use Rattle.std.proofs.Common.{◌≡◌, inl, ℕ, List, refl, sym, ap, subst, ◌∙◌, Result, Ok, Err, Some, None}
use Rattle.std.specs.Prelude.{IfErr, ◌↔◌}
use Rattle.s80_base.specs.Causes.{Rose}
use Rattle.s80_base.specs.declared.outside.Failed.{Failed}
use Rattle.s80_change.specs.declared.change.Change.{Change}
use Rattle.s80_form.specs.declared.refusal.Refusal.{Refusal}
use Rattle.s80_disk.specs.Image.{Image}
use Rattle.s80_disk.specs.Shown.{Shown, Faults}
use Rattle.s80_keeper.specs.declared.keep.KeepFault.{KeepFault}
use Rattle.s80_keeper.specs.declared.keep.KeepFault.TheVariants as faults
use Rattle.s80_keeper.specs.Answers.{AfterKeepingLater, KeptLater, IfKeepDisk, UnlessKeepDisk, PreparedChange}
use Rattle.s80_keeper.specs.Keeper.{KeeperState, Keeps, pending_of}
use Rattle.s80_keeper.proofs.lemmas.Standing.{reads_so}
use Rattle.s80_keeper.specs.Source.{IsThis, after_reading}
use Rattle.s80_model.specs.declared.item.SessionItem.{SessionItem}
use Rattle.s80_model.specs.Replies.{Work}
use Rattle.s80_session.specs.declared.session.Session.{Session}
use Rattle.s80_session.specs.Ending.{EndsForReasonOrDamage, HasReason, IsKeepEnd, OnOkOrMemory}
use Rattle.s80_session.specs.Ends.{refusal_at_fault}
use Rattle.s80_session.specs.Session.{Was, budget_of, held_of, keeper_of, kept_versions_of, section_of}
use Rattle.s80_session.specs.Working.{Ground, IsAmid, IsAt, IsLost, IsPast, QueryWorked, Unworked}
use Rattle.s80_session.proofs.Adding.{lost_keeping, not_both}
use Rattle.s80_session.proofs.lemmas.Keeping.{keeps_less, keeps_stands}

-- ---- a change wasn't kept

-- nothing but the end of a session follows
pub fault_ends : (result : Result ℕ KeepFault) (fault : KeepFault) (refusal : Refusal) → result ≡ Err fault → ((n : ℕ) → result ≡ Err (faults.Full n) → ⊥) → refusal_at_fault fault ≡ Ok refusal → ⊥
fault_ends result faults.Memory refusal is roomy gives = cc
fault_ends result (faults.Disk failed) refusal is roomy gives = cc
fault_ends result (faults.Closed failed) refusal is roomy gives = cc
fault_ends result (faults.Full n) refusal is roomy gives = roomy n is
fault_ends result (faults.Damaged damage) refusal is roomy gives = cc

-- and its reason
pub kept_reason : (result : Result ℕ KeepFault) (prepared : PreparedChange) (before now : KeeperState) (fault : KeepFault) (a b : Faults) → result ≡ Err fault → AfterKeepingLater result prepared before now → IfKeepDisk result (λ failed. Rose a.disk b.disk) → ((failed : Failed) → (result ≡ Err (faults.Closed failed)) ↔ (before.fault ≡ Some failed)) → before.fault ≡ None → IfErr (refusal_at_fault fault) (HasReason a b)
kept_reason result prepared before now faults.Memory a b is after cause closed calm = absurd (let P : Result ℕ KeepFault → Type 0 = λ r. AfterKeepingLater r prepared before now in subst P is after)
kept_reason result prepared before now (faults.Disk failed) a b is after cause closed calm = let P : Result ℕ KeepFault → Type 0 = λ r. IfKeepDisk r (λ failed. Rose a.disk b.disk) in subst P is cause
kept_reason result prepared before now (faults.Closed failed) a b is after cause closed calm = absurd (not_both before.fault failed calm ((closed failed).0 is))
kept_reason result prepared before now (faults.Full n) a b is after cause closed calm = tt
kept_reason result prepared before now (faults.Damaged damage) a b is after cause closed calm = absurd (let P : Result ℕ KeepFault → Type 0 = λ r. AfterKeepingLater r prepared before now in subst P is after)

-- the log stays, and the disk has failed where memory isn't wanting
pub keep_log : (result : Result ℕ KeepFault) (prepared : PreparedChange) (before now : KeeperState) → AfterKeepingLater result prepared before now → now.log.number ≡ before.log.number
keep_log (Ok place) prepared before now after = ap (λ (k : KeeperState). k.log.number) after.1
keep_log (Err faults.Memory) prepared before now after = absurd after
keep_log (Err (faults.Disk failed)) prepared before now after = ap (λ (k : KeeperState). k.log.number) after
keep_log (Err (faults.Closed failed)) prepared before now after = ap (λ (k : KeeperState). k.log.number) after
keep_log (Err (faults.Full n)) prepared before now after = ap (λ (k : KeeperState). k.log.number) after
keep_log (Err (faults.Damaged damage)) prepared before now after = absurd after

pub keep_ends : (T P : Type 0) (result : Result ℕ KeepFault) (prepared : PreparedChange) (before now : KeeperState) (fault : KeepFault) → result ≡ Err fault → AfterKeepingLater result prepared before now → IfErr (refusal_at_fault fault) (λ end. OnOkOrMemory {T = T} (Err end) P)
keep_ends T P result prepared before now faults.Memory is after = absurd (let Q : Result ℕ KeepFault → Type 0 = λ r. AfterKeepingLater r prepared before now in subst Q is after)
keep_ends T P result prepared before now (faults.Disk failed) is after = tt
keep_ends T P result prepared before now (faults.Closed failed) is after = tt
keep_ends T P result prepared before now (faults.Full n) is after = tt
keep_ends T P result prepared before now (faults.Damaged damage) is after = tt

pub fault_keep_end : (fault : KeepFault) → IfErr (refusal_at_fault fault) IsKeepEnd
fault_keep_end faults.Memory = tt
fault_keep_end (faults.Disk failed) = tt
fault_keep_end (faults.Closed failed) = tt
fault_keep_end (faults.Full n) = tt
fault_keep_end (faults.Damaged damage) = tt

pub keep_calm : (result : Result ℕ KeepFault) (prepared : PreparedChange) (before now : KeeperState) (fault : KeepFault) (refusal : Refusal) → result ≡ Err fault → AfterKeepingLater result prepared before now → before.fault ≡ None → refusal_at_fault fault ≡ Ok refusal → now.fault ≡ None
keep_calm result prepared before now (faults.Full n) refusal is after calm gives =
    let Q : Result ℕ KeepFault → Type 0 = λ r. AfterKeepingLater r prepared before now in
    ap (λ (k : KeeperState). k.fault) (subst Q is after) ∙ calm
keep_calm result prepared before now faults.Memory refusal is after calm gives = absurd (cc)
keep_calm result prepared before now (faults.Disk failed) refusal is after calm gives = absurd (cc)
keep_calm result prepared before now (faults.Closed failed) refusal is after calm gives = absurd (cc)
keep_calm result prepared before now (faults.Damaged damage) refusal is after calm gives = absurd (cc)

-- the disk goes on to stand for what is kept
pub fault_unkept : (fault : KeepFault) (was may_leave : Image → Type 0) (o now : Shown) (before session : Session) (work : Work) (basis : Ground) (change : Change) → KeptLater (Err fault) now.tells now.files may_leave (keeper_of session) basis.kept work.changes change → now ≡ record o { files = now.files } → IsAmid was o before work basis
    → IfErr (refusal_at_fault fault) (λ end. Unworked end may_leave now session work basis)
fault_unkept faults.Memory was may_leave o now before session work basis change h shown at = absurd h
fault_unkept (faults.Disk failed) was may_leave o now before session work basis change h shown at = lost_keeping was may_leave o now before work basis h shown at
fault_unkept (faults.Closed failed) was may_leave o now before session work basis change h shown at = absurd h
fault_unkept (faults.Full n) was may_leave o now before session work basis change h shown at = tt
fault_unkept (faults.Damaged damage) was may_leave o now before session work basis change h shown at = absurd h

-- ---- something was to be read

-- what reading leaves of a keeper
pub reading_pending : (T : Type 0) (r : Result T KeepFault) (before now : KeeperState) → now ≡ after_reading r before → pending_of now ≡ pending_of before
reading_pending T (Ok value) before now is = ap pending_of is
reading_pending T (Err faults.Memory) before now is = ap pending_of is
reading_pending T (Err (faults.Disk failed)) before now is = ap pending_of is
reading_pending T (Err (faults.Closed failed)) before now is = ap pending_of is
reading_pending T (Err (faults.Full n)) before now is = ap pending_of is
reading_pending T (Err (faults.Damaged damage)) before now is = ap pending_of is

pub reading_log : (T : Type 0) (r : Result T KeepFault) (before now : KeeperState) → now ≡ after_reading r before → now.log.number ≡ before.log.number
reading_log T (Ok value) before now is = ap (λ (k : KeeperState). k.log.number) is
reading_log T (Err faults.Memory) before now is = ap (λ (k : KeeperState). k.log.number) is
reading_log T (Err (faults.Disk failed)) before now is = ap (λ (k : KeeperState). k.log.number) is
reading_log T (Err (faults.Closed failed)) before now is = ap (λ (k : KeeperState). k.log.number) is
reading_log T (Err (faults.Full n)) before now is = ap (λ (k : KeeperState). k.log.number) is
reading_log T (Err (faults.Damaged damage)) before now is = ap (λ (k : KeeperState). k.log.number) is

pub reading_calm : (T U : Type 0) (fault : KeepFault) (before now : KeeperState) → now ≡ after_reading {T = T} (Err fault) before → before.fault ≡ None → IfErr (refusal_at_fault fault) (λ end. OnOkOrMemory {T = U} (Err end) (now.fault ≡ None))
reading_calm T U faults.Memory before now is calm = ap (λ (k : KeeperState). k.fault) is ∙ calm
reading_calm T U (faults.Disk failed) before now is calm = tt
reading_calm T U (faults.Closed failed) before now is calm = tt
reading_calm T U (faults.Full n) before now is calm = tt
reading_calm T U (faults.Damaged damage) before now is calm = tt

-- a session that has read it is where it was
pub at_read : (was may_leave : Image → Type 0) (o now : Shown) (before session : Session) (work : Work) (put : List ℕ) → keeper_of session ≡ keeper_of before → session ≡ record before { keeper = keeper_of session } → ((c : Image) → may_leave c → was c) → now ≡ o → IsAt was o before work put → IsAt may_leave now session work put
at_read was may_leave o now before session work put keeper rest less is at =
    let P : Shown → Type 0 = λ s. IsAt may_leave s session work put in
    let Q : KeeperState → Type 0 = λ k. Keeps o.tells o.files may_leave k work.changes work.changes in
    subst P (sym is) (record {
      keeps = subst Q (sym keeper) (keeps_less o.tells o.files may_leave (keeper_of before) work.changes was less at.keeps);
      section = ap section_of rest ∙ at.section;
      brief = at.brief;
      budget = ap budget_of rest ∙ at.budget;
      kept_versions = ap kept_versions_of rest ∙ at.kept_versions;
      moment = at.moment;
      taken = at.taken;
      told = at.told;
      held = ap held_of rest ∙ at.held;
    })

-- a fault of the disk leaves it as it was
lost_reading : (was may_leave : Image → Type 0) (o now : Shown) (before : Session) (work : Work) (put : List ℕ) (item : SessionItem) → ((c : Image) → may_leave c → was c) → now ≡ o → IsAt was o before work put → IsLost may_leave now put (IsPast work item)
lost_reading was may_leave o now before work put item less is at =
    let P : Shown → Type 0 = λ s. IsLost may_leave s put (IsPast work item) in
    let here = keeps_less o.tells o.files may_leave (keeper_of before) work.changes was less at.keeps in
    subst P (sym is) (record {
      taken = at.taken;
      list = work.changes;
      is = inl refl;
      reads = reads_so o.tells o.files may_leave work.changes (keeps_stands o.tells o.files may_leave (keeper_of before) work.changes here);
    })

-- where it wasn't read, nothing but the end of a session follows
pub unread_ends : (T : Type 0) (fault : KeepFault) (wanted : T) (refusal : Refusal) → IsThis wanted (Err fault) → refusal_at_fault fault ≡ Ok refusal → ⊥
unread_ends T faults.Memory wanted refusal this gives = cc
unread_ends T (faults.Disk failed) wanted refusal this gives = cc
unread_ends T (faults.Closed failed) wanted refusal this gives = cc
unread_ends T (faults.Full n) wanted refusal this gives = this
unread_ends T (faults.Damaged damage) wanted refusal this gives = this

pub fault_unread : (T : Type 0) (fault : KeepFault) (wanted : T) (was_held : Was) (was may_leave : Image → Type 0) (o now : Shown) (before session : Session) (work : Work) (put : List ℕ) (item : SessionItem) → IsThis wanted (Err fault) → keeper_of session ≡ after_reading {T = T} (Err fault) (keeper_of before) → session ≡ record before { keeper = keeper_of session } → ((c : Image) → may_leave c → was c) → now ≡ o → IsAt was o before work put
    → IfErr (refusal_at_fault fault) (λ end. QueryWorked (Err end) may_leave now session was_held work put item)
fault_unread T faults.Memory wanted was_held was may_leave o now before session work put item this after rest less is at = at_read was may_leave o now before session work put after rest less is at
fault_unread T (faults.Disk failed) wanted was_held was may_leave o now before session work put item this after rest less is at = lost_reading was may_leave o now before work put item less is at
fault_unread T (faults.Closed failed) wanted was_held was may_leave o now before session work put item this after rest less is at = lost_reading was may_leave o now before work put item less is at
fault_unread T (faults.Full n) wanted was_held was may_leave o now before session work put item this after rest less is at = tt
fault_unread T (faults.Damaged damage) wanted was_held was may_leave o now before session work put item this after rest less is at = absurd this

-- the counts are as before where that of the disk is
pub faults_same : (a b : Faults) → b ≡ record a { disk = b.disk } → b.disk ≡ a.disk → b ≡ a
faults_same a b rest same = rest ∙ (λ i. record a { disk = same i })

pub read_reason : (T R : Type 0) (result : Result R KeepFault) (before : KeeperState) (fault : KeepFault) (a b : Faults) → result ≡ Err fault → b ≡ record a { disk = b.disk } → IfKeepDisk result (λ failed. Rose a.disk b.disk) → UnlessKeepDisk result (b.disk ≡ a.disk) → ((failed : Failed) → (result ≡ Err (faults.Closed failed)) ↔ (before.fault ≡ Some failed)) → before.fault ≡ None → IfErr (refusal_at_fault fault) (λ end. EndsForReasonOrDamage {T = T} a b (Err end))
read_reason T R result before faults.Memory a b is rest cause stay closed calm =
    let P : Result R KeepFault → Type 0 = λ r. UnlessKeepDisk r (b.disk ≡ a.disk) in
    faults_same a b rest (subst P is stay)
read_reason T R result before (faults.Disk failed) a b is rest cause stay closed calm = let P : Result R KeepFault → Type 0 = λ r. IfKeepDisk r (λ failed. Rose a.disk b.disk) in subst P is cause
read_reason T R result before (faults.Closed failed) a b is rest cause stay closed calm = absurd (not_both before.fault failed calm ((closed failed).0 is))
read_reason T R result before (faults.Full n) a b is rest cause stay closed calm = tt
read_reason T R result before (faults.Damaged damage) a b is rest cause stay closed calm =
    let P : Result R KeepFault → Type 0 = λ r. UnlessKeepDisk r (b.disk ≡ a.disk) in
    faults_same a b rest (subst P is stay)
