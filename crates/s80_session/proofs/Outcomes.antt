-- What merging an input comes to: the parts of the list are read, and the items of the input are taken in behind the base.
use Rattle.std.proofs.Common.{◌≡◌, ◌∙◌, ◌≤◌, ℕ, List, [], ◌++◌, Some, None, Result, Ok, Err, IsTrue, refl, sym, ap, subst, arith}
use Rattle.std.specs.Prelude.{IfErr}
use Rattle.std.proofs.lemmas.List.Elements.{All-nil}
use Rattle.s80_apply.specs.List.{IsBuilt, state_of}
use Rattle.s80_base.specs.Causes.{Rose}
use Rattle.s80_base.specs.declared.outside.Failed.{Failed}
use Rattle.s80_change.specs.declared.change.Change.{Change}
use Rattle.s80_disk.specs.Image.{Image}
use Rattle.s80_disk.specs.Moments.{LeavesOnly}
use Rattle.s80_disk.specs.Shown.{Faults, Shown}
use Rattle.s80_disk.proofs.lemmas.Run.{joined}
use Rattle.s80_form.specs.declared.refusal.Refusal.{Refusal}
use Rattle.s80_joining.specs.declared.given.Given.{Given}
use Rattle.s80_joining.specs.declared.outcome.Outcome.{Outcome}
use Rattle.s80_joining.specs.Given.{HasCome}
use Rattle.s80_joining.specs.Outcome.{IsOutcome, MayMerge}
use Rattle.s80_joining.specs.Parts.{base_of, ours_of}
use Rattle.s80_joining.specs.Theirs.{IsGiven}
use Rattle.s80_keeper.specs.declared.keep.KeepFault.{KeepFault}
use Rattle.s80_keeper.specs.declared.keep.KeepFault.TheVariants as faults
use Rattle.s80_keeper.specs.Answers.{IfKeepDisk, UnlessKeepDisk}
use Rattle.s80_keeper.specs.Keeper.{KeeperState, Knows}
use Rattle.s80_keeper.specs.Renewing.{HasWritten}
use Rattle.s80_keeper.specs.Source.{IsThis, after_reading}
use Rattle.s80_keeper.proofs.lemmas.Standing.{reads_so}
use Rattle.s80_model.specs.declared.item.SessionItem.{SessionItem}
use Rattle.s80_model.specs.Replies.{Work}
use Rattle.s80_session.specs.declared.end.SessionEnd.{SessionEnd}
use Rattle.s80_session.specs.declared.end.SessionEnd.TheVariants as ends
use Rattle.s80_session.specs.declared.session.Session.{Session}
use Rattle.s80_session.specs.Ending.{Counts, EndsForReasonOrDamage, IsKeepEnd, OnOkOrMemory, SourceCounts}
use Rattle.s80_session.specs.Ends.{refusal_at_fault}
use Rattle.s80_session.specs.Known.{IsKnowing, StaysKnowing}
use Rattle.s80_session.specs.Merging.{HasAll, HasOutcome, HasSome, IsPart, IsReadFrom, NoOutcome, Uncome}
use Rattle.s80_session.specs.Run.{HasKept}
use Rattle.s80_session.specs.Session.{IsResting, keeper_of, section_of}
use Rattle.s80_session.specs.Working.{IsAt, IsLost}
use Rattle.s80_session.proofs.Adding.{not_both}
use Rattle.s80_session.proofs.Knowing.{knows_alike, knows_left}
use Rattle.s80_session.proofs.Reading.{at_read, faults_same}
use Rattle.s80_session.proofs.lemmas.Amid.{amid_later}
use Rattle.s80_session.proofs.lemmas.Keeping.{keeps_knows, keeps_less, keeps_stands}

-- ---- how a part of the list is read

-- only a full log would be answered by a refusal
pub ends_it : (fault : KeepFault) (refusal : Refusal) → ((count : ℕ) → fault ≡ faults.Full count → ⊥) → refusal_at_fault fault ≡ Ok refusal → ⊥
ends_it faults.Memory refusal roomy gives = cc
ends_it (faults.Disk failed) refusal roomy gives = cc
ends_it (faults.Closed failed) refusal roomy gives = cc
ends_it (faults.Full count) refusal roomy gives = roomy count refl
ends_it (faults.Damaged damage) refusal roomy gives = cc

-- it isn't known
part_unknown : (wanted : List Change) (fault : KeepFault) → IsThis wanted (Err fault) → IfErr (refusal_at_fault fault) (λ end. IsPart wanted (Err end))
part_unknown wanted faults.Memory this = tt
part_unknown wanted (faults.Disk failed) this = tt
part_unknown wanted (faults.Closed failed) this = tt
part_unknown wanted (faults.Full count) this = tt
part_unknown wanted (faults.Damaged damage) this = absurd this

pub part_unread : (wanted : List Change) (fault : KeepFault) (end : SessionEnd) → refusal_at_fault fault ≡ Err end → IsThis wanted (Err fault) → IsPart wanted (Err end)
part_unread wanted fault end is this = subst (λ r. IfErr r (λ e. IsPart wanted (Err e))) is (part_unknown wanted fault this)

keeper_there : (T : Type 0) (fault : KeepFault) (before now : KeeperState) → now ≡ after_reading {T = T} (Err fault) before → IfErr (refusal_at_fault fault) (λ end. OnOkOrMemory {T = T} (Err end) (now ≡ before))
keeper_there T faults.Memory before now after = after
keeper_there T (faults.Disk failed) before now after = tt
keeper_there T (faults.Closed failed) before now after = tt
keeper_there T (faults.Full count) before now after = tt
keeper_there T (faults.Damaged damage) before now after = tt

pub keeper_unread : (T : Type 0) (fault : KeepFault) (end : SessionEnd) (before now : KeeperState) → refusal_at_fault fault ≡ Err end → now ≡ after_reading {T = T} (Err fault) before → OnOkOrMemory {T = T} (Err end) (now ≡ before)
keeper_unread T fault end before now is after = subst (λ r. IfErr r (λ e. OnOkOrMemory {T = T} (Err e) (now ≡ before))) is (keeper_there T fault before now after)

reason_there : (T : Type 0) (fault : KeepFault) (before : KeeperState) (a b : Faults) → b ≡ record a { disk = b.disk } → IfKeepDisk {T = T} (Err fault) (λ failed. Rose a.disk b.disk) → UnlessKeepDisk {T = T} (Err fault) (b.disk ≡ a.disk) → ((failed : Failed) → fault ≡ faults.Closed failed → before.fault ≡ Some failed) → before.fault ≡ None
    → IfErr (refusal_at_fault fault) (λ end. EndsForReasonOrDamage {T = T} a b (Err end))
reason_there T faults.Memory before a b rest cause stay closed calm = faults_same a b rest stay
reason_there T (faults.Disk failed) before a b rest cause stay closed calm = cause
reason_there T (faults.Closed failed) before a b rest cause stay closed calm = absurd (not_both before.fault failed calm (closed failed refl))
reason_there T (faults.Full count) before a b rest cause stay closed calm = tt
reason_there T (faults.Damaged damage) before a b rest cause stay closed calm = faults_same a b rest stay

-- the counts of faults where it isn't read
pub counts_unread : (T : Type 0) (fault : KeepFault) (end : SessionEnd) (before : KeeperState) (a b : Faults) → refusal_at_fault fault ≡ Err end → b ≡ record a { disk = b.disk } → a.disk ≤ b.disk → IfKeepDisk {T = T} (Err fault) (λ failed. Rose a.disk b.disk) → UnlessKeepDisk {T = T} (Err fault) (b.disk ≡ a.disk)
    → ((failed : Failed) → fault ≡ faults.Closed failed → before.fault ≡ Some failed) → before.fault ≡ None → SourceCounts {T = T} a b (Err end)
counts_unread T fault end before a b is rest less cause stay closed calm = record {
  later = record {
    read = let e = ap (λ (f : Faults). f.read) rest in omega (arith, e);
    write = let e = ap (λ (f : Faults). f.write) rest in omega (arith, e);
    disk = less;
  };
  reason = subst (λ r. IfErr r (λ e. EndsForReasonOrDamage {T = T} a b (Err e))) is (reason_there T fault before a b rest cause stay closed calm);
}

-- and where it is
pub counts_read : (T : Type 0) (value : T) (a b : Faults) → b ≡ record a { disk = b.disk } → b.disk ≡ a.disk → SourceCounts a b (Ok value)
counts_read T value a b rest same =
    let all = faults_same a b rest same in
    record {
      later = record {
        read = let e = ap (λ (f : Faults). f.read) all in omega (arith, e);
        write = let e = ap (λ (f : Faults). f.write) all in omega (arith, e);
        disk = omega (arith, same);
      };
      reason = all;
    }

-- ---- a session that reads

-- what is known of the list that a session is at
pub at_known : (may_leave : Image → Type 0) (o : Shown) (session : Session) (work : Work) (put : List ℕ) → IsAt may_leave o session work put → Knows o.files (keeper_of session) work.changes
at_known may_leave o session work put at = keeps_knows o.tells o.files may_leave (keeper_of session) work.changes at.keeps

-- so a part of it is read, or isn't known
pub at_part : (part : List Change → List Change) (result : Result (List Change) SessionEnd) (may_leave : Image → Type 0) (o : Shown) (session : Session) (work : Work) (put : List ℕ) → IsReadFrom part result o session → IsAt may_leave o session work put → IsPart (part work.changes) result
at_part part result may_leave o session work put reads at = reads at.keeps.holds.stands.told work.changes (at_known may_leave o session work put at) at.keeps.holds.whole

-- the disk failed
pub lost_at : (was may_leave : Image → Type 0) (o now : Shown) (before : Session) (work : Work) (put : List ℕ) → ((c : Image) → may_leave c → was c) → now ≡ o → IsAt was o before work put → IsLost may_leave now put (λ list. list ≡ work.changes)
lost_at was may_leave o now before work put less is at =
    let P : Shown → Type 0 = λ s. IsLost may_leave s put (λ list. list ≡ work.changes) in
    let here = keeps_less o.tells o.files may_leave (keeper_of before) work.changes was less at.keeps in
    subst P (sym is) (record {
      taken = at.taken;
      list = work.changes;
      is = refl;
      reads = reads_so o.tells o.files may_leave work.changes (keeps_stands o.tells o.files may_leave (keeper_of before) work.changes here);
    })

-- a part isn't read
pub part_fails : (end : SessionEnd) (wanted : List Change) (was may_leave : Image → Type 0) (o now : Shown) (before session : Session) (work : Work) (input put : List ℕ) → IsPart wanted (Err end) → IsKeepEnd end → OnOkOrMemory {T = List Change} (Err end) (keeper_of session ≡ keeper_of before) → session ≡ record before { keeper = keeper_of session } → ((c : Image) → may_leave c → was c) → now ≡ o → IsAt was o before work put
    → NoOutcome end may_leave now session work input put
part_fails ends.Memory wanted was may_leave o now before session work input put part keeps same rest less is at = (tt, at_read was may_leave o now before session work put same rest less is at)
part_fails (ends.Disk failed) wanted was may_leave o now before session work input put part keeps same rest less is at = lost_at was may_leave o now before work put less is at
part_fails (ends.Damaged damage) wanted was may_leave o now before session work input put part keeps same rest less is at = absurd part
part_fails (ends.Read failed) wanted was may_leave o now before session work input put part keeps same rest less is at = absurd keeps
part_fails (ends.Write failed) wanted was may_leave o now before session work input put part keeps same rest less is at = absurd keeps
part_fails ends.TooLong wanted was may_leave o now before session work input put part keeps same rest less is at = absurd keeps

-- the input doesn't come to its end
pub uncome_at : (end : SessionEnd) (may_leave : Image → Type 0) (now : Shown) (session : Session) (work : Work) (input put : List ℕ) → Uncome end now input → IsAt may_leave now session work put → NoOutcome end may_leave now session work input put
uncome_at ends.Memory may_leave now session work input put uncome at = (uncome, at)
uncome_at (ends.Read failed) may_leave now session work input put uncome at = (uncome, at)
uncome_at ends.TooLong may_leave now session work input put uncome at = (uncome, at)
uncome_at (ends.Write failed) may_leave now session work input put uncome at = absurd uncome
uncome_at (ends.Disk failed) may_leave now session work input put uncome at = absurd uncome
uncome_at (ends.Damaged damage) may_leave now session work input put uncome at = absurd uncome

-- ---- the outcome

-- what all items come to with the parts that were read
pub comes_so : (outcome : Outcome) (given : Given) (base ours : List Change) (may_leave : Image → Type 0) (now : Shown) (session : Session) (work : Work) (input put : List ℕ) → base ≡ base_of work.changes → ours ≡ ours_of work.changes → IsBuilt (base_of work.changes ++ ours_of work.changes) → HasAll given now (state_of base) input
    → ((items : List SessionItem) → IsBuilt (base ++ ours) → HasCome given (state_of base) items → IsOutcome base ours items outcome) → (IsBuilt (base ++ ours) → MayMerge base ours outcome) → IsAt may_leave now session work put → HasOutcome may_leave now session work input put outcome
comes_so outcome given base ours may_leave now session work input put base_is ours_is built all comes merges at =
    let built_here : IsBuilt (base ++ ours) = subst (λ b. IsBuilt (b ++ ours)) (sym base_is) (subst (λ (o : List Change). IsBuilt (base_of work.changes ++ o)) (sym ours_is) built) in
    record {
      comes = (all.items, all.all, subst (λ b. IsOutcome b (ours_of work.changes) all.items outcome) base_is (subst (λ (o : List Change). IsOutcome base o all.items outcome) ours_is (comes all.items built_here all.come)));
      either_way = subst (λ b. MayMerge b (ours_of work.changes) outcome) base_is (subst (λ (o : List Change). MayMerge base o outcome) ours_is (merges built_here));
      within = all.within;
      left = all.left;
      at = at;
    }

-- before the first item none were taken in
pub some_begun : (given : Given) (base : List Change) → HasCome given (state_of base) [] → HasSome given
some_begun given base come = (base, [], All-nil IsGiven, come)

-- ---- what stays

-- two calls that leave all but the keeper
pub rest_on : (first mid last : Session) → mid ≡ record first { keeper = keeper_of mid } → last ≡ record mid { keeper = keeper_of last } → last ≡ record first { keeper = keeper_of last }
rest_on first mid last one two = two ∙ ap (λ (s : Session). record s { keeper = keeper_of last }) one

pub still_resting : (before session : Session) → session ≡ record before { keeper = keeper_of session } → keeper_of session ≡ keeper_of before → IsResting before → IsResting session
still_resting before session rest keeper resting =
    let same : session ≡ before = rest ∙ ap (λ k. record before { keeper = k }) keeper in
    subst IsResting (sym same) resting

-- ---- what is known

-- what a session knows of its list
written_knows : (o : Shown) (keeper : KeeperState) (changes : List Change) → IsTrue o.tells → HasWritten o.tells o.files keeper changes → Knows o.files keeper changes
written_knows o keeper changes told h = record {
  log = h.bytes told;
  lawful = h.list.lawful;
  system = h.made.system;
  places = h.made.places;
  history = h.made.history;
  count = h.made.count;
}

-- so a part of it is read, or isn't known
known_part : (part : List Change → List Change) (end : SessionEnd) (o : Shown) (before : Session) → IsReadFrom part (Err end) o before → IsKnowing o before → IsTrue o.tells → (wanted : List Change) × IsPart wanted (Err end)
known_part part end o before reads knows told =
    let all = knows told in
    (part all.1, reads told all.1 (written_knows o (keeper_of before) all.1 told all.2) all.2.whole)

pub known_unread : (T : Type 0) (part : List Change → List Change) (end : SessionEnd) (o now : Shown) (before session : Session) → IsReadFrom part (Err end) o before → now ≡ o → IsKnowing o before → StaysKnowing {T = T} (Err end) now session
known_unread T part ends.Memory o now before session reads is knows = tt
known_unread T part (ends.Read failed) o now before session reads is knows = tt
known_unread T part (ends.Write failed) o now before session reads is knows = tt
known_unread T part (ends.Disk failed) o now before session reads is knows = tt
known_unread T part ends.TooLong o now before session reads is knows = tt
known_unread T part (ends.Damaged damage) o now before session reads is knows = λ told. (known_part part (ends.Damaged damage) o before reads knows (subst (λ (s : Shown). IsTrue s.tells) is told)).1

-- where it is read all stays known
pub known_read : (o now : Shown) (before session : Session) → session ≡ record before { keeper = keeper_of session } → keeper_of session ≡ keeper_of before → now ≡ o → IsKnowing o before → IsKnowing now session
known_read o now before session rest keeper is knows = subst (λ (s : Shown). IsKnowing s session) (sym is) (knows_alike o before session keeper (ap section_of rest) knows)

-- where the input didn't come to its end
pub known_uncome : (T : Type 0) (a b : Faults) (end : SessionEnd) (o : Shown) (session : Session) → Counts {T = Unit {0}} a b (Err end) → StaysKnowing {T = T} (Err end) o session
known_uncome T a b (ends.Damaged damage) o session h = absurd h.reason
known_uncome T a b ends.Memory o session h = tt
known_uncome T a b (ends.Read failed) o session h = tt
known_uncome T a b (ends.Write failed) o session h = tt
known_uncome T a b (ends.Disk failed) o session h = tt
known_uncome T a b ends.TooLong o session h = tt

-- ---- the counts of faults

-- whatever was to be answered
pub source_counts_so : (T U : Type 0) (a b : Faults) (end : SessionEnd) → SourceCounts {T = T} a b (Err end) → SourceCounts {T = U} a b (Err end)
source_counts_so T U a b ends.Memory h = record { later = h.later; reason = h.reason }
source_counts_so T U a b (ends.Read failed) h = record { later = h.later; reason = h.reason }
source_counts_so T U a b (ends.Write failed) h = record { later = h.later; reason = h.reason }
source_counts_so T U a b (ends.Disk failed) h = record { later = h.later; reason = h.reason }
source_counts_so T U a b (ends.Damaged damage) h = record { later = h.later; reason = h.reason }
source_counts_so T U a b ends.TooLong h = record { later = h.later; reason = h.reason }

pub counts_so : (T U : Type 0) (a b : Faults) (end : SessionEnd) → Counts {T = T} a b (Err end) → SourceCounts {T = U} a b (Err end)
counts_so T U a b ends.Memory h = record { later = h.later; reason = h.reason }
counts_so T U a b (ends.Read failed) h = record { later = h.later; reason = h.reason }
counts_so T U a b (ends.Write failed) h = record { later = h.later; reason = h.reason }
counts_so T U a b (ends.Disk failed) h = record { later = h.later; reason = h.reason }
counts_so T U a b (ends.Damaged damage) h = absurd h.reason
counts_so T U a b ends.TooLong h = record { later = h.later; reason = h.reason }

-- where no call failed
pub counted_calm : (T : Type 0) (result : Result T SessionEnd) (a b : Faults) → b ≡ a → EndsForReasonOrDamage a b result → SourceCounts a b result
counted_calm T result a b same reason = record {
  later = record {
    read = let e = ap (λ (f : Faults). f.read) same in omega (arith, e);
    write = let e = ap (λ (f : Faults). f.write) same in omega (arith, e);
    disk = let e = ap (λ (f : Faults). f.disk) same in omega (arith, e);
  };
  reason = reason;
}

-- behind a call that met no fault
pub counted_on : (T : Type 0) (result : Result T SessionEnd) (a mid b : Faults) → mid ≡ a → SourceCounts mid b result → SourceCounts a b result
counted_on T result a mid b same h = subst (λ f. SourceCounts f b result) same h

-- ---- what a crash leaves

-- two runs that keep the list
module _ {D : Type 0} (moment : D → ℕ) (left_since : D → ℕ → ℕ → Image → Type 0) where
  pub kept_on : (first mid last : D) (changes : List Change) (most : ℕ) → LeavesOnly moment left_since first mid (HasKept changes most) → LeavesOnly moment left_since mid last (HasKept changes most) → LeavesOnly moment left_since first last (HasKept changes most)
  kept_on first mid last changes most one two = joined moment left_since first mid last (HasKept changes most) (HasKept changes most) one two (λ told c h. h)
