use Rattle.std.proofs.Common.{◌≡◌, ℕ, [], Err, sym, ap, subst, ◌∙◌}
use Rattle.s80_disk.specs.Moments.{LeavesOnly}
use Rattle.s80_keeper.specs.Keeper.{pending_of}
use Rattle.s80_log.specs.Log.{LogEnd}
use Rattle.s80_model.specs.Replies.{Work}
use Rattle.s80_session.specs.declared.end.SessionEnd.{SessionEnd}
use Rattle.s80_session.specs.declared.end.SessionEnd.TheVariants as ends
use Rattle.s80_session.specs.Ending.{CountsFor, OnOkOrMemory}
use Rattle.s80_session.specs.Files.{IsAsking, IsAsLeft, IsOther, IsUnwritten, LogAfter}
use Rattle.s80_session.specs.Session.{held_of, keeper_of, was_of, IsFaultless, IsResting, RunAfter}
use Rattle.s80_session.specs.Working.{Ground, IsAmid, IsReadable, Unreplied}
use Rattle.s80_session.proofs.Breaking.{counts_memory, counts_whole, err_counts_on}
use Rattle.s80_session.proofs.Grouped.{memory_lasts, worked_err, worked_memory}
use Rattle.s80_session.proofs.Holding.{any_counts}
use Rattle.s80_session.proofs.Knowing.{whole_ends}
use Rattle.s80_session.proofs.Marking.{broken_run}
use Rattle.s80_session.proofs.lemmas.Elsewhere.{elsewhere_fewer, elsewhere_then, still_other}
use Rattle.s80_session.proofs.session.Session.work.Goals as goal
use Rattle.s80_session.proofs.session.Session.work.Goals.{After-end_for_memory}

-- memory was wanting: what the paths share
module _ (g : _) (c : After-end_for_memory g) where
  is : c.in-Err.end ≡ ends.Memory
  is = c.if-is_memory.ensures

  unreplied : (work : Work) (basis : Ground) → IsReadable c.args.item → IsAmid (g.O.Disk.may_leave c.args.outside.now) (g.O.Outside.shown c.args.outside.now) c.args.self.now work basis → Unreplied ends.Memory (g.O.Disk.may_leave c.work_item.new.outside) (g.O.Outside.shown c.work_item.new.outside) c.work_item.new.self work basis c.args.item
  unreplied work basis readable at =
      let P : SessionEnd → Type 0 = λ e. Unreplied e (g.O.Disk.may_leave c.work_item.new.outside) (g.O.Outside.shown c.work_item.new.outside) c.work_item.new.self work basis c.args.item in
      subst P is (c.in-Err.ensures.worked work basis readable at)

  -- at rest a query leaves all as it was
  none_held : IsResting c.args.self.now → held_of c.work_item.new.self ≡ []
  none_held resting = c.in-Err.ensures.unheld resting

  rests : IsAsking c.args.item → IsResting c.args.self.now → IsResting c.work_item.new.self
  rests asking resting =
      let calm : Type 0 = IsFaultless c.work_item.new.self in
      let P : SessionEnd → Type 0 = λ e. OnOkOrMemory {T = Unit {0}} (Err e) calm in
      let settled : Type 0 = pending_of (keeper_of c.work_item.new.self) ≡ 0 in
      let Q : SessionEnd → Type 0 = λ e. OnOkOrMemory {T = Unit {0}} (Err e) settled in
      record { faultless = subst P is c.in-Err.ensures.faultless; settled = subst Q is (c.in-Err.ensures.settled asking resting); silent = none_held resting }

  same : IsAsking c.args.item → IsResting c.args.self.now → c.end_for_memory.new.outside ≡ c.work_item.new.outside
  same asking resting = (c.end_for_memory.ensures.idle (rests asking resting)).0

pub returns-then-is_memory-clause-worked : goal.returns-then-is_memory-clause-worked
returns-then-is_memory-clause-worked g c = λ work basis readable at.
    worked_memory c.end_for_memory.result (g.O.Disk.may_leave c.work_item.new.outside) (g.O.Disk.may_leave c.end_for_memory.new.outside) (g.O.Outside.shown c.work_item.new.outside) (g.O.Outside.shown c.end_for_memory.new.outside) c.work_item.new.self c.end_for_memory.new.self (was_of c.args.self.now) work basis c.args.item c.end_for_memory.ensures.ends (unreplied g (goal.at.returns-then-is_memory-clause-worked g c).After-end_for_memory work basis readable at)

pub returns-then-is_memory-clause-any_moment : goal.returns-then-is_memory-clause-any_moment
returns-then-is_memory-clause-any_moment g c = λ work basis readable at.
    memory_lasts g.O.Disk.moment g.O.Disk.left_since c.args.outside.now c.work_item.new.outside c.end_for_memory.new.outside (g.O.Disk.may_leave c.work_item.new.outside) (g.O.Outside.shown c.work_item.new.outside) c.work_item.new.self work basis c.args.item (c.work_item.ensures.any_moment work basis readable at) c.end_for_memory.ensures.any_moment (unreplied g (goal.at.returns-then-is_memory-clause-any_moment g c).After-end_for_memory work basis readable at)

pub returns-then-is_memory-clause-elsewhere : goal.returns-then-is_memory-clause-elsewhere
returns-then-is_memory-clause-elsewhere g c =
    let D = g.O.Disk in
    let o = c.args.outside.now in
    let mid = c.work_item.new.outside in
    let number = (keeper_of c.args.self.now).log.number in
    let now = (keeper_of c.work_item.new.self).log.number in
    let behind = elsewhere_fewer D.moment D.left_since mid c.end_for_memory.new.outside (D.may_leave mid) (IsOther now) (IsUnwritten c.args.item number) (still_other c.args.item number now c.work_item.ensures.log) c.end_for_memory.ensures.elsewhere in
    elsewhere_then D.moment D.left_since o mid c.end_for_memory.new.outside (D.may_leave o) (D.may_leave mid) (D.beside mid).told (IsUnwritten c.args.item number) (g.met.O.Disk.counts_now mid) c.work_item.ensures.elsewhere behind

pub returns-then-is_memory-clause-others : goal.returns-then-is_memory-clause-others
returns-then-is_memory-clause-others g c = λ other unwritten. c.end_for_memory.ensures.others other unwritten.other.no_mark ∙ c.work_item.ensures.others other unwritten

pub returns-then-is_memory-clause-log : goal.returns-then-is_memory-clause-log
returns-then-is_memory-clause-log g c =
    let P : ℕ → Type 0 = λ n. LogAfter c.args.item (keeper_of c.args.self.now).log.number n in
    subst P (sym (ap (λ (l : LogEnd). l.number) c.end_for_memory.ensures.log)) c.work_item.ensures.log

pub returns-then-is_memory-clause-asked : goal.returns-then-is_memory-clause-asked
returns-then-is_memory-clause-asked g c = λ asking resting file.
    ap (λ o. (g.O.Outside.shown o).files file) (same g (goal.at.returns-then-is_memory-clause-asked g c).After-end_for_memory asking resting) ∙ c.work_item.ensures.asked asking resting file

pub returns-then-is_memory-clause-images : goal.returns-then-is_memory-clause-images
returns-then-is_memory-clause-images g c = λ asking resting image left.
    let now = same g (goal.at.returns-then-is_memory-clause-images g c).After-end_for_memory asking resting in
    c.work_item.ensures.images asking resting image (subst (λ o. g.O.Disk.may_leave o image) now left)

pub returns-then-is_memory-clause-no_more : goal.returns-then-is_memory-clause-no_more
returns-then-is_memory-clause-no_more g c = λ asking resting.
    let D = g.O.Disk in
    let now = same g (goal.at.returns-then-is_memory-clause-no_more g c).After-end_for_memory asking resting in
    subst (λ o. LeavesOnly D.moment D.left_since c.args.outside.now o (IsAsLeft (D.may_leave c.args.outside.now))) (sym now) (c.work_item.ensures.no_more asking resting)

pub returns-then-is_memory-clause-unput : goal.returns-then-is_memory-clause-unput
returns-then-is_memory-clause-unput g c = λ resting.
    c.end_for_memory.ensures.unheld (none_held g (goal.at.returns-then-is_memory-clause-unput g c).After-end_for_memory resting) ∙ c.work_item.ensures.unput resting

pub returns-then-is_memory-clause-last_run : goal.returns-then-is_memory-clause-last_run
returns-then-is_memory-clause-last_run g c =
    let after = (goal.at.returns-then-is_memory-clause-last_run g c).After-end_for_memory in
    let P : SessionEnd → Type 0 = λ e. RunAfter {T = Unit {0}} (Err e) c.args.item c.args.self.now c.work_item.new.self in
    broken_run (Unit {0}) c.end_for_memory.result c.args.item c.args.self.now c.end_for_memory.new.self (c.end_for_memory.ensures.rest.last_run ∙ subst P (is g after) c.in-Err.ensures.last_run)

pub returns-then-is_memory-clause-counts : goal.returns-then-is_memory-clause-counts
returns-then-is_memory-clause-counts g c =
    let after = (goal.at.returns-then-is_memory-clause-counts g c).After-end_for_memory in
    let old = g.O.Outside.faults c.args.outside.now in
    let mid = g.O.Outside.faults c.work_item.new.outside in
    let new = g.O.Outside.faults c.end_for_memory.new.outside in
    let P : SessionEnd → Type 0 = λ e. CountsFor {T = Unit {0}} c.args.item old mid (Err e) in
    any_counts c.args.item old new (Err c.end_for_memory.result) (err_counts_on (Unit {0}) (Unit {0}) old mid new c.end_for_memory.result (counts_memory (Unit {0}) c.args.item old mid (subst P (is g after) c.in-Err.ensures.counts)) c.end_for_memory.ensures.counts)

pub returns-then-is_memory-clause-sound : goal.returns-then-is_memory-clause-sound
returns-then-is_memory-clause-sound g c = λ tells changes knows built.
    counts_whole (Unit {0}) (Unit {0}) (g.O.Outside.faults c.work_item.new.outside) (g.O.Outside.faults c.end_for_memory.new.outside) c.end_for_memory.result c.end_for_memory.ensures.counts

-- it wasn't
pub returns-clause-worked : goal.returns-clause-worked
returns-clause-worked g c = λ work basis readable at.
    worked_err c.in-Err.end (g.O.Disk.may_leave c.work_item.new.outside) (g.O.Outside.shown c.work_item.new.outside) c.work_item.new.self (was_of c.args.self.now) work basis c.args.item c.if-is_memory.ensures (c.in-Err.ensures.worked work basis readable at)

-- ---- what is known stays known

pub returns-then-is_memory-clause-known : goal.returns-then-is_memory-clause-known
returns-then-is_memory-clause-known g c = λ readable fed knows.
    whole_ends (g.O.Outside.faults c.work_item.new.outside) (g.O.Outside.faults c.end_for_memory.new.outside) c.end_for_memory.result (g.O.Outside.shown c.end_for_memory.new.outside) c.end_for_memory.new.self c.end_for_memory.ensures.counts

pub returns-clause-known : goal.returns-clause-known
returns-clause-known g c = λ readable fed knows. c.in-Err.ensures.known readable fed knows
