-- A flush: what is pending is committed, and then what is held is put.
use Rattle.std.proofs.Common.{◌≡◌, ◌⊎◌, inl, inr, ⊎_elim, ℕ, ◌<◌, List, [], ◌++◌, length, take, refl, sym, ap, subst, ◌∙◌, Result, Ok, Err, Some, None, arith}
use Rattle.std.specs.Prelude.{IfErr, ◌↔◌, ◌≢◌}
use Rattle.s80_base.specs.Causes.{Rose}
use Rattle.s80_base.specs.declared.outside.Failed.{Failed}
use Rattle.s80_change.specs.declared.change.Change.{Change}
use Rattle.s80_form.specs.declared.refusal.Refusal.{Refusal}
use Rattle.s80_disk.specs.declared.disk.FileId.{FileId}
use Rattle.s80_disk.specs.declared.disk.FileId.TheVariants.{Mark}
use Rattle.s80_disk.specs.Image.{Image}
use Rattle.s80_disk.specs.Shown.{Shown, Faults}
use Rattle.s80_disk.specs.Moments.{LeavesOnly}
use Rattle.s80_disk.proofs.lemmas.Run.{joined, weaker}
use Rattle.s80_keeper.specs.declared.keep.KeepFault.{KeepFault}
use Rattle.s80_keeper.specs.declared.keep.KeepFault.TheVariants as faults
use Rattle.s80_keeper.specs.Answers.{AfterCommit, HasCommitted, IfKeepDisk, Committed as KeeperCommitted}
use Rattle.s80_keeper.specs.Keeper.{KeeperState, Keeps, Knows}
use Rattle.s80_keeper.specs.Standing.{FilesStandFor, LeavesEither, ReadsFor}
use Rattle.s80_log.specs.Log.{log_file}
use Rattle.s80_model.specs.Replies.{Work}
use Rattle.s80_session.specs.declared.end.SessionEnd.{SessionEnd}
use Rattle.s80_session.specs.declared.end.SessionEnd.TheVariants as ends
use Rattle.s80_session.specs.declared.session.Session.{Session}
use Rattle.s80_session.specs.Ending.{HasReason, IsWriteEnd}
use Rattle.s80_session.specs.Ends.{refusal_at_fault}
use Rattle.s80_session.specs.Run.{HasKept}
use Rattle.s80_session.specs.Session.{HasMarked, keeper_of, kept_versions_of, held_of, section_of, budget_of}
use Rattle.s80_session.specs.Working.{Ground, IsAmid, IsAt, IsPut, HeldPut, Committed, Flushed, EndsForMemory, CommitLeaves, FlushLeaves}
use Rattle.s80_session.proofs.Adding.{not_both}
use Rattle.s80_session.proofs.lemmas.Elsewhere.{no_mark}
use Rattle.s80_session.proofs.lemmas.Grounds.{commit_flushes}
use Rattle.s80_session.proofs.lemmas.Keeping.{keeps_less}

-- ---- a commit

-- it fails by a fault of the disk alone
pub commit_fault : (result : Result (Unit {0}) KeepFault) (before now : KeeperState) (fault : KeepFault) → result ≡ Err fault → AfterCommit result before now → ((failed : Failed) → (result ≡ Err (faults.Closed failed)) ↔ (before.fault ≡ Some failed)) → before.fault ≡ None → (failed : Failed) × (fault ≡ faults.Disk failed)
commit_fault result before now faults.Memory is after closed calm = absurd (let P : Result (Unit {0}) KeepFault → Type 0 = λ r. AfterCommit r before now in subst P is after)
commit_fault result before now (faults.Disk failed) is after closed calm = (failed, refl)
commit_fault result before now (faults.Closed failed) is after closed calm = absurd (not_both before.fault failed calm ((closed failed).0 is))
commit_fault result before now (faults.Full n) is after closed calm = absurd (let P : Result (Unit {0}) KeepFault → Type 0 = λ r. AfterCommit r before now in subst P is after)
commit_fault result before now (faults.Damaged damage) is after closed calm = absurd (let P : Result (Unit {0}) KeepFault → Type 0 = λ r. AfterCommit r before now in subst P is after)

-- so it refuses nothing
pub not_refused : (failed : Failed) (fault : KeepFault) (refusal : Refusal) → fault ≡ faults.Disk failed → refusal_at_fault fault ≡ Ok refusal → ⊥
not_refused failed faults.Memory refusal is gives = cc
not_refused failed (faults.Disk other) refusal is gives = cc
not_refused failed (faults.Closed other) refusal is gives = cc
not_refused failed (faults.Full n) refusal is gives = cc is
not_refused failed (faults.Damaged damage) refusal is gives = cc

-- what it leaves then
pub commit_lost : (fault : KeepFault) (failed : Failed) (was may_leave : Image → Type 0) (o now : Shown) (before session : Session) (work : Work) (basis : Ground) → fault ≡ faults.Disk failed → KeeperCommitted {T = Unit {0}} (Err fault) now.tells now.files may_leave (keeper_of session) basis.kept work.changes → now ≡ record o { files = now.files } → IsAmid was o before work basis
    → IfErr (refusal_at_fault fault) (λ end. Committed {T = Unit {0}} (Err end) may_leave now session work basis)
commit_lost (faults.Disk other) failed was may_leave o now before session work basis is h shown at =
    let Lists : List Change → Type 0 = λ list. (list ≡ basis.kept) ⊎ (list ≡ work.changes) in
    let taken = ap (λ (s : Shown). s.taken) shown ∙ at.taken in
    ⊎_elim (λ (reads : ReadsFor now.tells now.files may_leave basis.kept). record { taken = taken; list = basis.kept; is = inl refl; reads = reads }) (λ (reads : ReadsFor now.tells now.files may_leave work.changes). record { taken = taken; list = work.changes; is = inr refl; reads = reads }) h.stands
commit_lost faults.Memory failed was may_leave o now before session work basis is h shown at = absurd h
commit_lost (faults.Closed other) failed was may_leave o now before session work basis is h shown at = absurd h
commit_lost (faults.Full n) failed was may_leave o now before session work basis is h shown at = absurd h
commit_lost (faults.Damaged damage) failed was may_leave o now before session work basis is h shown at = absurd h

-- and its reason
pub commit_reason : (result : Result (Unit {0}) KeepFault) (fault : KeepFault) (failed : Failed) (a b : Faults) → result ≡ Err fault → fault ≡ faults.Disk failed → IfKeepDisk result (λ failed. Rose a.disk b.disk) → IfErr (refusal_at_fault fault) (HasReason a b)
commit_reason result fault failed a b is disk cause =
    let P : Result (Unit {0}) KeepFault → Type 0 = λ r. IfKeepDisk r (λ failed. Rose a.disk b.disk) in
    let Q : KeepFault → Type 0 = λ f. IfErr (refusal_at_fault f) (HasReason a b) in
    subst Q (sym disk) (subst P (is ∙ ap Err disk) cause)

-- and its mark
pub commit_marks : (result : Result (Unit {0}) KeepFault) (before now : KeeperState) (fault : KeepFault) (failed : Failed) → result ≡ Err fault → fault ≡ faults.Disk failed → AfterCommit result before now → IfErr (refusal_at_fault fault) (λ end. HasMarked {T = Unit {0}} (Err end) before now)
commit_marks result before now fault failed is disk after =
    let P : Result (Unit {0}) KeepFault → Type 0 = λ r. AfterCommit r before now in
    let Q : KeepFault → Type 0 = λ f. IfErr (refusal_at_fault f) (λ end. HasMarked {T = Unit {0}} (Err end) before now) in
    subst Q (sym disk) (ap (λ (k : KeeperState). k.mark) (subst P (is ∙ ap Err disk) after))

-- behind a commit the output alone can fail
pub flush_marks : (result : Result (Unit {0}) SessionEnd) (before now : KeeperState) → IfErr result IsWriteEnd → HasCommitted before now → HasMarked result before now
flush_marks (Ok done) before now ends_so committed = committed
flush_marks (Err (ends.Write failed)) before now ends_so committed = committed
flush_marks (Err (ends.Disk failed)) before now ends_so committed = absurd ends_so
flush_marks (Err ends.Memory) before now ends_so committed = absurd ends_so
flush_marks (Err (ends.Read failed)) before now ends_so committed = absurd ends_so
flush_marks (Err (ends.Damaged damage)) before now ends_so committed = absurd ends_so
flush_marks (Err ends.TooLong) before now ends_so committed = absurd ends_so

module _ {D : Type 0} (moment : D → ℕ) (left_since : D → ℕ → ℕ → Image → Type 0) where
  pub commit_lasts : (old new : D) (work : Work) (basis : Ground) (told_before : ℕ) → told_before ≡ length basis.put → LeavesOnly moment left_since old new (LeavesEither told_before basis.kept work.changes) → LeavesOnly moment left_since old new (CommitLeaves work basis)
  commit_lasts old new work basis told_before is run = weaker moment left_since old new (LeavesEither told_before basis.kept work.changes) (CommitLeaves work basis) run (λ told c h.
      ⊎_elim (λ (files : FilesStandFor c basis.kept). inl (record { no_more = omega (arith, h.told_is, is); files = files })) (λ (files : FilesStandFor c work.changes). inr (record { no_more = omega (arith, h.told_is, is); files = files })) h.files)

-- the files but for the mark are as they were, and what is known of them
pub knows_committed : (files now : Image) (before after : KeeperState) (changes : List Change) → HasCommitted before after → ((other : FileId) → other ≢ Mark → now other ≡ files other) → Knows files before changes → Knows now after changes
knows_committed files now before after changes committed same h =
    let P : KeeperState → Type 0 = λ k. Knows now k changes in
    let log = ap (take before.log.end) (same (log_file before.log.number) (no_mark before.log.number)) ∙ h.log in
    ⊎_elim (λ none. subst P (sym none.1) (record { log = log; lawful = h.lawful; system = h.system; places = h.places; history = h.history; count = h.count })) (λ some. subst P (sym some.1) (record { log = log; lawful = h.lawful; system = h.system; places = h.places; history = h.history; count = h.count })) committed

-- ---- what is held is put

-- where a session stands then
put_at : (was may_leave : Image → Type 0) (mid now : Shown) (before session : Session) (work : Work) (basis : Ground) (put : List ℕ) → ((c : Image) → may_leave c → was c) → session ≡ record before { held = session.held } → held_of session ≡ [] → now ≡ record mid { taken = now.taken; told = now.told } → IsPut now.taken now.told put → IsAmid was mid before work (record basis { kept = work.changes }) → IsAt may_leave now session work put
put_at was may_leave mid now before session work basis put less rest none shown is_put at = record {
  keeps =
      let P : Shown → KeeperState → Type 0 = λ o k. Keeps o.tells o.files may_leave k work.changes work.changes in
      let here = keeps_less mid.tells mid.files may_leave (keeper_of before) work.changes was less at.keeps in
      subst (λ o. P o (keeper_of session)) (sym shown) (subst (λ k. P mid k) (sym (ap keeper_of rest)) here);
  section = ap section_of rest ∙ at.section;
  brief = at.brief;
  budget = ap budget_of rest ∙ at.budget;
  kept_versions = ap kept_versions_of rest ∙ at.kept_versions;
  moment = at.moment ∙ sym (ap (λ (s : Shown). s.seconds) shown);
  taken = is_put.0;
  told = is_put.1;
  held = none;
}

-- behind a commit
pub flushed_so : (r : Result (Unit {0}) SessionEnd) (was may_leave : Image → Type 0) (mid now : Shown) (before session : Session) (work : Work) (basis : Ground) → ((c : Image) → may_leave c → was c) → session ≡ record before { held = session.held } → held_of session ≡ [] → now ≡ record mid { taken = now.taken; told = now.told } → HeldPut r now.taken now.told basis.put (held_of before) → IsAmid was mid before work (record basis { kept = work.changes })
    → Flushed r may_leave now session work basis
flushed_so (Ok done) was may_leave mid now before session work basis less rest none shown put at =
    let P : List ℕ → Type 0 = λ l. IsPut now.taken now.told (basis.put ++ l) in
    put_at was may_leave mid now before session work basis (basis.put ++ basis.held) less rest none shown (subst P at.held put) at
flushed_so (Err (ends.Write failed)) was may_leave mid now before session work basis less rest none shown put at =
    let P : List ℕ → Type 0 = λ l. (put.0 < length l) × IsPut now.taken now.told (basis.put ++ take put.0 l) in
    let so = subst P at.held (put.1, put.2) in
    (put.0, so.0, put_at was may_leave mid now before session work basis (basis.put ++ take put.0 basis.held) less rest none shown so.1 at)
flushed_so (Err ends.Memory) was may_leave mid now before session work basis less rest none shown put at = absurd put
flushed_so (Err (ends.Disk failed)) was may_leave mid now before session work basis less rest none shown put at = absurd put
flushed_so (Err (ends.Read failed)) was may_leave mid now before session work basis less rest none shown put at = absurd put
flushed_so (Err ends.TooLong) was may_leave mid now before session work basis less rest none shown put at = absurd put
flushed_so (Err (ends.Damaged damage)) was may_leave mid now before session work basis less rest none shown put at = absurd put

-- the commit before it failed
pub uncommitted : (end : SessionEnd) (may_leave : Image → Type 0) (now : Shown) (session : Session) (work : Work) (basis : Ground) → Committed {T = Unit {0}} (Err end) may_leave now session work basis → Flushed {T = Unit {0}} (Err end) may_leave now session work basis
uncommitted ends.Memory may_leave now session work basis h = h
uncommitted (ends.Disk failed) may_leave now session work basis h = h
uncommitted (ends.Read failed) may_leave now session work basis h = h
uncommitted (ends.Write failed) may_leave now session work basis h = absurd h
uncommitted ends.TooLong may_leave now session work basis h = h
uncommitted (ends.Damaged damage) may_leave now session work basis h = h

-- memory was wanting before it
pub memory_ends : (end : SessionEnd) (may_leave : Image → Type 0) (now : Shown) (session : Session) (work : Work) (basis : Ground) → Flushed {T = Unit {0}} (Err end) may_leave now session work basis → EndsForMemory end may_leave now session work basis
memory_ends ends.Memory may_leave now session work basis h = absurd h
memory_ends (ends.Disk failed) may_leave now session work basis h = h
memory_ends (ends.Write failed) may_leave now session work basis h = h
memory_ends (ends.Read failed) may_leave now session work basis h = h
memory_ends ends.TooLong may_leave now session work basis h = h
memory_ends (ends.Damaged damage) may_leave now session work basis h = h

module _ {D : Type 0} (moment : D → ℕ) (left_since : D → ℕ → ℕ → Image → Type 0) where
  -- a commit alone
  pub commit_last : (old new : D) (work : Work) (basis : Ground) → LeavesOnly moment left_since old new (CommitLeaves work basis) → LeavesOnly moment left_since old new (FlushLeaves work basis)
  commit_last old new work basis run = weaker moment left_since old new (CommitLeaves work basis) (FlushLeaves work basis) run (commit_flushes work basis)

  -- and what was held behind it
  pub flush_last : (old mid new : D) (work : Work) (basis : Ground) → LeavesOnly moment left_since old mid (CommitLeaves work basis) → LeavesOnly moment left_since mid new (HasKept work.changes (length (basis.put ++ basis.held))) → LeavesOnly moment left_since old new (FlushLeaves work basis)
  flush_last old mid new work basis first second = joined moment left_since old mid new (FlushLeaves work basis) (HasKept work.changes (length (basis.put ++ basis.held))) (commit_last old mid work basis first) second (λ told c h. inr h)
