use Rattle.std.proofs.Common.{◌≡◌, ◌++◌, ◌∷◌, [], ℕ, List, length, Option, None, refl, sym, Result, Ok, Err, ap, subst, ◌∙◌, arith}
use Rattle.std.specs.Prelude.{◌≢◌, IfErr, IsTrue, ⊤}
use Rattle.std.proofs.lemmas.Result.{err_from_is_err_and}
use Rattle.s80_change.specs.declared.change.Change.{Change}
use Rattle.s80_change.specs.Block.{block, IsLawful}
use Rattle.s80_form.specs.declared.refusal.Refusal.{Refusal}
use Rattle.s80_form.specs.declared.refusal.Refused.{Refused}
use Rattle.s80_disk.specs.declared.disk.FileId.{FileId}
use Rattle.s80_disk.specs.Moments.{LeavesOnly}
use Rattle.s80_disk.specs.Shown.{Faults, Shown}
use Rattle.s80_disk.proofs.lemmas.Showing.{told_beside}
use Rattle.s80_log.specs.Log.{log_file}
use Rattle.s80_keeper.specs.declared.keep.KeepFault.TheVariants.{Full}
use Rattle.s80_keeper.specs.Keeper.{KeeperState, Keeps}
use Rattle.s80_keeper.specs.Answers.{PlacesFor, Prepares}
use Rattle.s80_keeper.specs.Renewing.{HasWritten}
use Rattle.s80_apply.specs.List.{add, state_of}
use Rattle.s80_apply.specs.Placed.{placed_of}
use Rattle.s80_model.specs.Replies.{Work}
use Rattle.s80_session.specs.declared.end.SessionEnd.{SessionEnd}
use Rattle.s80_session.specs.declared.session.Session.{Session}
use Rattle.s80_session.specs.Ending.{HasReason, IsKeepEnd, NoFewer, OnOkOrMemory}
use Rattle.s80_session.specs.Files.{IsElsewhere, IsOther}
use Rattle.s80_session.specs.Known.{IsLawfulAnywhere, StaysKnowing}
use Rattle.s80_session.specs.Session.{keeper_of}
use Rattle.s80_session.specs.Run.{HasKept}
use Rattle.s80_session.specs.Working.{Ground, IsAmid, IsLawfulFor, Unworked}
use Rattle.s80_session.proofs.lemmas.Elsewhere.{elsewhere_beside}
use Rattle.s80_session.proofs.lemmas.Grounds.{nothing_happens}
use Rattle.s80_session.proofs.Adding.{still_at, refused, takes, lawful_on, kept}
use Rattle.s80_session.proofs.Knowing.{kept_whole, prepared_lawful, written_prepared}
use Rattle.s80_session.proofs.Reading.{fault_ends, fault_keep_end, fault_unkept, keep_calm, keep_ends, keep_log, kept_reason}
use Rattle.s80_session.proofs.session.Session.keep.Goals as goal
use Rattle.s80_session.proofs.session.Session.keep.Goals.{After-keep_later}

pub returns-in-Err-Memory-clause-any_moment : goal.returns-in-Err-Memory-clause-any_moment
returns-in-Err-Memory-clause-any_moment g c = λ work basis lawful at.
    nothing_happens g.O.Disk.moment g.O.Disk.left_since _ (g.O.Outside.shown c.args.outside.now) _ c.args.outside.now work basis (λ told image left. let x = g.met.O.Disk.only_now c.args.outside.now told image left in (x.0, x.1 ∙ told_beside g.met.O.Outside.beside_is g.met.O.Outside.shown_is c.args.outside.now)) at

pub returns-in-Err-Refusal-clause-any_moment : goal.returns-in-Err-Refusal-clause-any_moment
returns-in-Err-Refusal-clause-any_moment g c = λ work basis lawful at.
    nothing_happens g.O.Disk.moment g.O.Disk.left_since _ (g.O.Outside.shown c.args.outside.now) _ c.args.outside.now work basis (λ told image left. let x = g.met.O.Disk.only_now c.args.outside.now told image left in (x.0, x.1 ∙ told_beside g.met.O.Outside.beside_is g.met.O.Outside.shown_is c.args.outside.now)) at

pub returns-in-Err-Memory-clause-kept : goal.returns-in-Err-Memory-clause-kept
returns-in-Err-Memory-clause-kept g c = λ work basis lawful at.
    still_at (g.O.Disk.may_leave c.args.outside.now) (g.O.Outside.shown c.args.outside.now) c.args.self.now (record c.args.self.now { keeper = c.prepare.new.self }) work basis c.args.change c.prepare.ensures.same (c.prepare.ensures.system (state_of work.changes) at.keeps.system) (c.prepare.ensures.same_places (placed_of work.changes) at.keeps.places) (c.prepare.ensures.history work.changes at.keeps.history) refl at

pub returns-in-Err-Refusal-clause-kept : goal.returns-in-Err-Refusal-clause-kept
returns-in-Err-Refusal-clause-kept g c = λ work basis lawful at.
    let P : Refused → Type 0 = λ r. Prepares (state_of work.changes) (keeper_of c.args.self.now).log.end c.args.change c.prepare.new.self.system (Err r) in
    refused (g.O.Disk.may_leave c.args.outside.now) (g.O.Outside.shown c.args.outside.now) c.args.self.now (record c.args.self.now { keeper = c.prepare.new.self }) work basis c.args.change c.prepare.ensures.same (c.prepare.ensures.system (state_of work.changes) at.keeps.system) (c.prepare.ensures.same_places (placed_of work.changes) at.keeps.places) (c.prepare.ensures.history work.changes at.keeps.history) refl at c.in-Err-Refusal.refusal (subst P c.in-Err-Refusal.field-0-is (c.in-Err-Refusal.ensures.answer (state_of work.changes) at.keeps.system))

-- what the paths behind the keeping share
module _ (g : _) (c : After-keep_later g) (work : Work) (basis : Ground) (lawful : IsLawfulFor work.changes c.args.change) (at : IsAmid (g.O.Disk.may_leave c.args.outside.now) (g.O.Outside.shown c.args.outside.now) c.args.self.now work basis) where
  -- the session with a keeper that has prepared the change
  abbrev ready : Session
  ready = record c.args.self.now { keeper = c.prepare.new.self }

  -- it is at the list yet
  now_at : IsAmid (g.O.Disk.may_leave c.args.outside.now) (g.O.Outside.shown c.args.outside.now) ready work basis
  now_at = still_at (g.O.Disk.may_leave c.args.outside.now) (g.O.Outside.shown c.args.outside.now) c.args.self.now ready work basis c.args.change c.prepare.ensures.same (c.prepare.ensures.system (state_of work.changes) at.keeps.system) (c.prepare.ensures.same_places (placed_of work.changes) at.keeps.places) (c.prepare.ensures.history work.changes at.keeps.history) refl at

  answer : Prepares (state_of work.changes) (keeper_of c.args.self.now).log.end c.args.change c.prepare.new.self.system (Ok c.in-Ok.prepared)
  answer = c.in-Ok.ensures.answer (state_of work.changes) at.keeps.system

  places : PlacesFor (placed_of work.changes) c.prepare.new.self.system c.in-Ok.prepared
  places = c.in-Ok.ensures.places (placed_of work.changes) at.keeps.places

  is_added : add work.changes c.args.change ≡ Ok (work.changes ++ c.args.change ∷ [])
  is_added = takes (g.O.Disk.may_leave c.args.outside.now) (g.O.Outside.shown c.args.outside.now) c.args.self.now ready work basis c.args.change c.prepare.ensures.same (c.prepare.ensures.system (state_of work.changes) at.keeps.system) (c.prepare.ensures.same_places (placed_of work.changes) at.keeps.places) (c.prepare.ensures.history work.changes at.keeps.history) refl at c.in-Ok.prepared answer.0 answer.1 answer.2

  is_lawful : IsLawful c.in-Ok.prepared.change
  is_lawful = lawful_on (g.O.Disk.may_leave c.args.outside.now) (g.O.Outside.shown c.args.outside.now) c.args.self.now ready work basis c.args.change c.prepare.ensures.same (c.prepare.ensures.system (state_of work.changes) at.keeps.system) (c.prepare.ensures.same_places (placed_of work.changes) at.keeps.places) (c.prepare.ensures.history work.changes at.keeps.history) refl at c.in-Ok.prepared answer.0 answer.1 lawful

  -- what was prepared has room
  roomy : (n : ℕ) → c.keep_later.result ≡ Err (Full n) → ⊥
  roomy n is =
      let full = (c.keep_later.ensures.full n).0 is in
      let end = ap (λ (k : KeeperState). k.log.end) c.prepare.ensures.same in
      let size = ap (λ (x : Change). length (block x)) answer.0 in
      omega (arith, full.2, answer.2, end, size)

  run : LeavesOnly g.O.Disk.moment g.O.Disk.left_since c.args.outside.now c.keep_later.new.outside (HasKept basis.kept (length basis.put))
  run =
      let P : ℕ → Type 0 = λ n. LeavesOnly g.O.Disk.moment g.O.Disk.left_since c.args.outside.now c.keep_later.new.outside (HasKept basis.kept n) in
      subst P at.told (c.keep_later.ensures.any_moment basis.kept work.changes now_at.keeps)

pub returns-in-Ok-keep_later-clause-kept : goal.returns-in-Ok-keep_later-clause-kept
returns-in-Ok-keep_later-clause-kept g c = λ work basis lawful at.
    let after = (goal.at.returns-in-Ok-keep_later-clause-kept g c).After-keep_later in
    let new = c.keep_later.new.outside in
    let is = answer g after work basis lawful at in
    let P : Change → Type 0 = λ x. Keeps (g.O.Outside.shown new).tells (g.O.Outside.shown new).files (g.O.Disk.may_leave new) c.keep_later.new.keeper basis.kept (work.changes ++ x ∷ []) in
    kept (g.O.Disk.may_leave c.args.outside.now) (g.O.Disk.may_leave new) (g.O.Outside.shown c.args.outside.now) (g.O.Outside.shown new) c.args.self.now (record c.args.self.now { keeper = c.keep_later.new.keeper }) work basis c.args.change (is_added g after work basis lawful at)
    (subst P is.0 (c.in-Ok-keep_later.ensures.kept basis.kept work.changes (now_at g after work basis lawful at).keeps (is_lawful g after work basis lawful at) is.1 (places g after work basis lawful at)))
    refl c.keep_later.ensures.shown at

pub returns-in-Ok-keep_later-clause-any_moment : goal.returns-in-Ok-keep_later-clause-any_moment
returns-in-Ok-keep_later-clause-any_moment g c = run g (goal.at.returns-in-Ok-keep_later-clause-any_moment g c).After-keep_later

-- no fault refuses what was prepared
pub returns-in_ok-refusal_at_fault-in-Err-clause-kept : goal.returns-in_ok-refusal_at_fault-in-Err-clause-kept
returns-in_ok-refusal_at_fault-in-Err-clause-kept g c = λ work basis lawful at.
    let after = (goal.at.returns-in_ok-refusal_at_fault-in-Err-clause-kept g c).After-keep_later in
    absurd (fault_ends c.keep_later.result c.in-Err.fault c.in_ok-refusal_at_fault-in-Err.field-0 c.in-Err.is (roomy g after work basis lawful at) (sym c.in_ok-refusal_at_fault-in-Err.ensures))

pub returns-in_ok-refusal_at_fault-in-Err-clause-any_moment : goal.returns-in_ok-refusal_at_fault-in-Err-clause-any_moment
returns-in_ok-refusal_at_fault-in-Err-clause-any_moment g c = run g (goal.at.returns-in_ok-refusal_at_fault-in-Err-clause-any_moment g c).After-keep_later

-- the disk failed
pub returns-in_err-refusal_at_fault-in-Err-clause-kept : goal.returns-in_err-refusal_at_fault-in-Err-clause-kept
returns-in_err-refusal_at_fault-in-Err-clause-kept g c = λ work basis lawful at.
    let after = (goal.at.returns-in_err-refusal_at_fault-in-Err-clause-kept g c).After-keep_later in
    let new = c.keep_later.new.outside in
    let now : Session = record c.args.self.now { keeper = c.keep_later.new.keeper } in
    let is = answer g after work basis lawful at in
    let P : Result Refusal SessionEnd → Type 0 = λ r. IfErr r (λ end. Unworked end (g.O.Disk.may_leave new) (g.O.Outside.shown new) now work basis) in
    let ends = subst P (sym c.in_err-refusal_at_fault-in-Err.ensures) (fault_unkept c.in-Err.fault (g.O.Disk.may_leave c.args.outside.now) (g.O.Disk.may_leave new) (g.O.Outside.shown c.args.outside.now) (g.O.Outside.shown new) c.args.self.now now work basis c.in-Ok.prepared.change (c.in-Err.ensures.kept basis.kept work.changes (now_at g after work basis lawful at).keeps (is_lawful g after work basis lawful at) is.1 (places g after work basis lawful at)) c.keep_later.ensures.shown at) in
    let p = err_from_is_err_and c.from_residual.result c.from_residual.ensures.1 in
    rw (p.1, p.2) ends

pub returns-in_err-refusal_at_fault-in-Err-clause-any_moment : goal.returns-in_err-refusal_at_fault-in-Err-clause-any_moment
returns-in_err-refusal_at_fault-in-Err-clause-any_moment g c = run g (goal.at.returns-in_err-refusal_at_fault-in-Err-clause-any_moment g c).After-keep_later

-- no fault was met before
pub returns-in_err-refusal_at_fault-in-Err-clause-counts : goal.returns-in_err-refusal_at_fault-in-Err-clause-counts
returns-in_err-refusal_at_fault-in-Err-clause-counts g c =
    let counts = c.keep_later.ensures.faults in
    let old = g.O.Outside.faults c.args.outside.now in
    let new = g.O.Outside.faults c.keep_later.new.outside in
    let later : NoFewer old new = record {
      read = let e = ap (λ (f : Faults). f.read) counts in omega (arith, e);
      write = let e = ap (λ (f : Faults). f.write) counts in omega (arith, e);
      disk = c.keep_later.ensures.later;
    } in
    let calm : c.prepare.new.self.fault ≡ None = ap (λ (k : KeeperState). k.fault) c.prepare.ensures.same ∙ c.requires.faultless in
    let P : Result Refusal SessionEnd → Type 0 = λ r. IfErr r (HasReason old new) in
    let reason = subst P (sym c.in_err-refusal_at_fault-in-Err.ensures) (kept_reason c.keep_later.result c.in-Ok.prepared c.prepare.new.self c.keep_later.new.keeper c.in-Err.fault old new c.in-Err.is c.keep_later.ensures.after c.keep_later.ensures.cause c.keep_later.ensures.closed calm) in
    let p = err_from_is_err_and c.from_residual.result c.from_residual.ensures.1 in
    rw (p.1, p.2) (record { later = later; reason = reason })

-- ---- the other files

module _ (g : _) (c : After-keep_later g) where
  -- preparing leaves the log
  same_log : c.prepare.new.self.log.number ≡ (keeper_of c.args.self.now).log.number
  same_log = ap (λ (k : KeeperState). k.log.number) c.prepare.ensures.same

  elsewhere : LeavesOnly g.O.Disk.moment g.O.Disk.left_since c.args.outside.now c.keep_later.new.outside (IsElsewhere (g.O.Disk.may_leave c.args.outside.now) (IsOther (keeper_of c.args.self.now).log.number))
  elsewhere =
      let o = c.args.outside.now in
      let P : ℕ → Type 0 = λ n. LeavesOnly g.O.Disk.moment g.O.Disk.left_since o c.keep_later.new.outside (IsElsewhere (g.O.Disk.may_leave o) (IsOther n)) in
      subst P same_log (elsewhere_beside g.O.Disk.moment g.O.Disk.left_since o c.keep_later.new.outside (g.O.Disk.may_leave o) (g.O.Outside.shown o).told (log_file c.prepare.new.self.log.number) (λ image. ⊤) (IsOther c.prepare.new.self.log.number) (λ other is. (is.no_mark, is.no_log)) c.keep_later.ensures.elsewhere)

  others : (other : FileId) → other ≢ log_file (keeper_of c.args.self.now).log.number → (g.O.Outside.shown c.keep_later.new.outside).files other ≡ (g.O.Outside.shown c.args.outside.now).files other
  others =
      let P : ℕ → Type 0 = λ n. (other : FileId) → other ≢ log_file n → (g.O.Outside.shown c.keep_later.new.outside).files other ≡ (g.O.Outside.shown c.args.outside.now).files other in
      subst P same_log c.keep_later.ensures.others

pub returns-in-Ok-keep_later-clause-elsewhere : goal.returns-in-Ok-keep_later-clause-elsewhere
returns-in-Ok-keep_later-clause-elsewhere g c = elsewhere g (goal.at.returns-in-Ok-keep_later-clause-elsewhere g c).After-keep_later

pub returns-in_ok-refusal_at_fault-in-Err-clause-elsewhere : goal.returns-in_ok-refusal_at_fault-in-Err-clause-elsewhere
returns-in_ok-refusal_at_fault-in-Err-clause-elsewhere g c = elsewhere g (goal.at.returns-in_ok-refusal_at_fault-in-Err-clause-elsewhere g c).After-keep_later

pub returns-in_err-refusal_at_fault-in-Err-clause-elsewhere : goal.returns-in_err-refusal_at_fault-in-Err-clause-elsewhere
returns-in_err-refusal_at_fault-in-Err-clause-elsewhere g c = elsewhere g (goal.at.returns-in_err-refusal_at_fault-in-Err-clause-elsewhere g c).After-keep_later

pub returns-in-Ok-keep_later-clause-others : goal.returns-in-Ok-keep_later-clause-others
returns-in-Ok-keep_later-clause-others g c = others g (goal.at.returns-in-Ok-keep_later-clause-others g c).After-keep_later

pub returns-in_ok-refusal_at_fault-in-Err-clause-others : goal.returns-in_ok-refusal_at_fault-in-Err-clause-others
returns-in_ok-refusal_at_fault-in-Err-clause-others g c = others g (goal.at.returns-in_ok-refusal_at_fault-in-Err-clause-others g c).After-keep_later

pub returns-in_err-refusal_at_fault-in-Err-clause-others : goal.returns-in_err-refusal_at_fault-in-Err-clause-others
returns-in_err-refusal_at_fault-in-Err-clause-others g c = others g (goal.at.returns-in_err-refusal_at_fault-in-Err-clause-others g c).After-keep_later

-- ---- the keeper's log, and its fault

-- preparing meets no fault
module _ (g : _) (c : After-keep_later g) where
  calm : c.prepare.new.self.fault ≡ None
  calm = ap (λ (k : KeeperState). k.fault) c.prepare.ensures.same ∙ c.requires.faultless

  log : c.keep_later.new.keeper.log.number ≡ (keeper_of c.args.self.now).log.number
  log = keep_log c.keep_later.result c.in-Ok.prepared c.prepare.new.self c.keep_later.new.keeper c.keep_later.ensures.after ∙ same_log g c

pub returns-in-Ok-keep_later-clause-log : goal.returns-in-Ok-keep_later-clause-log
returns-in-Ok-keep_later-clause-log g c = log g (goal.at.returns-in-Ok-keep_later-clause-log g c).After-keep_later

pub returns-in_ok-refusal_at_fault-in-Err-clause-log : goal.returns-in_ok-refusal_at_fault-in-Err-clause-log
returns-in_ok-refusal_at_fault-in-Err-clause-log g c = log g (goal.at.returns-in_ok-refusal_at_fault-in-Err-clause-log g c).After-keep_later

pub returns-in_err-refusal_at_fault-in-Err-clause-log : goal.returns-in_err-refusal_at_fault-in-Err-clause-log
returns-in_err-refusal_at_fault-in-Err-clause-log g c = log g (goal.at.returns-in_err-refusal_at_fault-in-Err-clause-log g c).After-keep_later

pub returns-in-Err-Memory-clause-faultless : goal.returns-in-Err-Memory-clause-faultless
returns-in-Err-Memory-clause-faultless g c = ap (λ (k : KeeperState). k.fault) c.prepare.ensures.same ∙ c.requires.faultless

pub returns-in-Err-Refusal-clause-faultless : goal.returns-in-Err-Refusal-clause-faultless
returns-in-Err-Refusal-clause-faultless g c = ap (λ (k : KeeperState). k.fault) c.prepare.ensures.same ∙ c.requires.faultless

pub returns-in-Ok-keep_later-clause-faultless : goal.returns-in-Ok-keep_later-clause-faultless
returns-in-Ok-keep_later-clause-faultless g c =
    let after = (goal.at.returns-in-Ok-keep_later-clause-faultless g c).After-keep_later in
    let taken = c.in-Ok-keep_later.ensures.after in
    ap (λ (k : KeeperState). k.fault) taken.1 ∙ calm g after

pub returns-in_ok-refusal_at_fault-in-Err-clause-faultless : goal.returns-in_ok-refusal_at_fault-in-Err-clause-faultless
returns-in_ok-refusal_at_fault-in-Err-clause-faultless g c =
    let after = (goal.at.returns-in_ok-refusal_at_fault-in-Err-clause-faultless g c).After-keep_later in
    keep_calm c.keep_later.result c.in-Ok.prepared c.prepare.new.self c.keep_later.new.keeper c.in-Err.fault c.in_ok-refusal_at_fault-in-Err.field-0 c.in-Err.is c.keep_later.ensures.after (calm g after) (sym c.in_ok-refusal_at_fault-in-Err.ensures)

pub returns-in_err-refusal_at_fault-in-Err-clause-faultless : goal.returns-in_err-refusal_at_fault-in-Err-clause-faultless
returns-in_err-refusal_at_fault-in-Err-clause-faultless g c =
    let p = err_from_is_err_and c.from_residual.result c.from_residual.ensures.1 in
    let calm_now = c.keep_later.new.keeper.fault ≡ None in
    let P : Result Refusal SessionEnd → Type 0 = λ r. IfErr r (λ end. OnOkOrMemory {T = Option Refusal} (Err end) calm_now) in
    rw (p.1, p.2) (subst P (sym c.in_err-refusal_at_fault-in-Err.ensures) (keep_ends (Option Refusal) calm_now c.keep_later.result c.in-Ok.prepared c.prepare.new.self c.keep_later.new.keeper c.in-Err.fault c.in-Err.is c.keep_later.ensures.after))

pub returns-in_err-refusal_at_fault-in-Err-clause-ends : goal.returns-in_err-refusal_at_fault-in-Err-clause-ends
returns-in_err-refusal_at_fault-in-Err-clause-ends g c =
    let p = err_from_is_err_and c.from_residual.result c.from_residual.ensures.1 in
    let P : Result Refusal SessionEnd → Type 0 = λ r. IfErr r IsKeepEnd in
    rw (p.1, p.2) (subst P (sym c.in_err-refusal_at_fault-in-Err.ensures) (fault_keep_end c.in-Err.fault))

-- ---- what is known stays known

pub returns-in-Err-Refusal-clause-known : goal.returns-in-Err-Refusal-clause-known
returns-in-Err-Refusal-clause-known g c = λ lawful knows told.
    let o = g.O.Outside.shown c.args.outside.now in
    let was = knows told in
    (was.0, was.1, written_prepared o.tells o.files (keeper_of c.args.self.now) c.prepare.new.self was.1 c.prepare.ensures.same (c.prepare.ensures.system (state_of was.1) was.2.made.system) (c.prepare.ensures.same_places (placed_of was.1) was.2.made.places) (c.prepare.ensures.history was.1 was.2.made.history) was.2)

-- what the paths behind the keeping share
module _ (g : _) (c : After-keep_later g) (changes : List Change) (written : HasWritten (g.O.Outside.shown c.args.outside.now).tells (g.O.Outside.shown c.args.outside.now).files (keeper_of c.args.self.now) changes) where
  ready_known : HasWritten (g.O.Outside.shown c.args.outside.now).tells (g.O.Outside.shown c.args.outside.now).files c.prepare.new.self changes
  ready_known = written_prepared (g.O.Outside.shown c.args.outside.now).tells (g.O.Outside.shown c.args.outside.now).files (keeper_of c.args.self.now) c.prepare.new.self changes c.prepare.ensures.same (c.prepare.ensures.system (state_of changes) written.made.system) (c.prepare.ensures.same_places (placed_of changes) written.made.places) (c.prepare.ensures.history changes written.made.history) written

  prepares : Prepares (state_of changes) (keeper_of c.args.self.now).log.end c.args.change c.prepare.new.self.system (Ok c.in-Ok.prepared)
  prepares = c.in-Ok.ensures.answer (state_of changes) written.made.system

  lawful_there : IsLawfulAnywhere c.args.change → IsLawful c.in-Ok.prepared.change
  lawful_there lawful = prepared_lawful changes c.args.change c.prepare.new.self.system c.in-Ok.prepared prepares.0 prepares.1 (lawful changes written.list.lawful)

  -- what was prepared has room
  roomy_there : (n : ℕ) → c.keep_later.result ≡ Err (Full n) → ⊥
  roomy_there n is =
      let full = (c.keep_later.ensures.full n).0 is in
      let end = ap (λ (k : KeeperState). k.log.end) c.prepare.ensures.same in
      let size = ap (λ (x : Change). length (block x)) prepares.0 in
      omega (arith, full.2, prepares.2, end, size)

pub returns-in-Ok-keep_later-clause-known : goal.returns-in-Ok-keep_later-clause-known
returns-in-Ok-keep_later-clause-known g c = λ lawful knows told.
    let after = (goal.at.returns-in-Ok-keep_later-clause-known g c).After-keep_later in
    let before = subst IsTrue (ap (λ (o : Shown). o.tells) c.keep_later.ensures.shown) told in
    let was = knows before in
    (was.0, was.1 ++ c.in-Ok.prepared.change ∷ [], c.in-Ok-keep_later.ensures.written was.1 (ready_known g after was.1 was.2) (lawful_there g after was.1 was.2 (lawful before)) (prepares g after was.1 was.2).1 (c.in-Ok.ensures.places (placed_of was.1) was.2.made.places))

pub returns-in_ok-refusal_at_fault-in-Err-clause-known : goal.returns-in_ok-refusal_at_fault-in-Err-clause-known
returns-in_ok-refusal_at_fault-in-Err-clause-known g c = λ lawful knows told.
    let after = (goal.at.returns-in_ok-refusal_at_fault-in-Err-clause-known g c).After-keep_later in
    let was = knows (subst IsTrue (ap (λ (o : Shown). o.tells) c.keep_later.ensures.shown) told) in
    absurd (fault_ends c.keep_later.result c.in-Err.fault c.in_ok-refusal_at_fault-in-Err.field-0 c.in-Err.is (roomy_there g after was.1 was.2) (sym c.in_ok-refusal_at_fault-in-Err.ensures))

pub returns-in_err-refusal_at_fault-in-Err-clause-known : goal.returns-in_err-refusal_at_fault-in-Err-clause-known
returns-in_err-refusal_at_fault-in-Err-clause-known g c = λ lawful knows.
    let new = g.O.Outside.shown c.keep_later.new.outside in
    let now : Session = record c.args.self.now { keeper = c.keep_later.new.keeper } in
    let P : Result Refusal SessionEnd → Type 0 = λ r. IfErr r (λ end. StaysKnowing {T = Option Refusal} (Err end) new now) in
    let p = err_from_is_err_and c.from_residual.result c.from_residual.ensures.1 in
    rw (p.1, p.2) (subst P (sym c.in_err-refusal_at_fault-in-Err.ensures) (kept_whole (Option Refusal) c.keep_later.result c.in-Ok.prepared c.prepare.new.self c.keep_later.new.keeper c.in-Err.fault new now c.in-Err.is c.keep_later.ensures.after))
