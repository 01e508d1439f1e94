use Rattle.std.proofs.Common.{ℕ, List, Option, length, ap, sym, subst, ◌∙◌}
use Rattle.std.proofs.lemmas.Result.{err_from_is_err_and}
use Rattle.s80_disk.specs.Shown.{Shown}
use Rattle.s80_disk.specs.Moments.{LeavesOnly}
use Rattle.s80_session.specs.Files.{IsAsLeft, IsOther}
use Rattle.s80_session.specs.Putting.{IsAsBefore}
use Rattle.s80_session.specs.Session.{HasMarked, held_of, keeper_of, TakesHeld}
use Rattle.s80_session.proofs.Flushing.{commit_last, flush_last, flush_marks, flushed_so, uncommitted}
use Rattle.s80_session.proofs.Knowing.{knows_put}
use Rattle.s80_session.proofs.lemmas.Elsewhere.{elsewhere_on, left_as_before}
use Rattle.s80_session.proofs.lemmas.Grounds.{put_last}
use Rattle.s80_session.proofs.session.Session.flush.Goals as goal

pub returns-in_err-commit-clause-flushed : goal.returns-in_err-commit-clause-flushed
returns-in_err-commit-clause-flushed g c = λ work basis at.
    let p = err_from_is_err_and c.from_residual.result c.from_residual.ensures.1 in
    rw (p.1, p.2) (uncommitted c.in_err-commit.field-0.0 (g.O.Disk.may_leave c.commit.new.outside) (g.O.Outside.shown c.commit.new.outside) c.commit.new.self work basis (c.in_err-commit.ensures.committed work basis at))

pub returns-in_err-commit-clause-any_moment : goal.returns-in_err-commit-clause-any_moment
returns-in_err-commit-clause-any_moment g c = λ work basis at. commit_last g.O.Disk.moment g.O.Disk.left_since c.args.outside.now c.commit.new.outside work basis (c.commit.ensures.any_moment work basis at)

pub returns-clause-flushed : goal.returns-clause-flushed
returns-clause-flushed g c = λ work basis at.
    let mid = c.commit.new.outside in
    let new = c.put_held.new.outside in
    let here = c.in_ok-commit.ensures.committed work basis at in
    flushed_so c.put_held.result (g.O.Disk.may_leave mid) (g.O.Disk.may_leave new) (g.O.Outside.shown mid) (g.O.Outside.shown new) c.commit.new.self c.put_held.new.self work basis c.put_held.ensures.images c.put_held.ensures.rest c.put_held.ensures.none c.put_held.ensures.shown (c.put_held.ensures.told basis.put here.taken here.told) here

pub returns-clause-any_moment : goal.returns-clause-any_moment
returns-clause-any_moment g c = λ work basis at.
    let D = g.O.Disk in
    let mid = c.commit.new.outside in
    let new = c.put_held.new.outside in
    let here = c.in_ok-commit.ensures.committed work basis at in
    let P : List ℕ → Type 0 = λ l. LeavesOnly D.moment D.left_since mid new (IsAsBefore (D.may_leave mid) (g.O.Outside.shown mid).told (length l)) in
    flush_last D.moment D.left_since c.args.outside.now mid new work basis (c.commit.ensures.any_moment work basis at) (put_last D.moment D.left_since (D.may_leave mid) (g.O.Outside.shown mid) c.commit.new.self mid new work (record basis { kept = work.changes }) here (subst P here.held c.put_held.ensures.any_moment))

pub returns-in_err-commit-clause-one_mark : goal.returns-in_err-commit-clause-one_mark
returns-in_err-commit-clause-one_mark g c =
    let p = err_from_is_err_and c.from_residual.result c.from_residual.ensures.1 in
    rw (p.1, p.2) (c.in_err-commit.ensures.one_mark)

pub returns-clause-one_mark : goal.returns-clause-one_mark
returns-clause-one_mark g c =
    let same = ap keeper_of c.put_held.ensures.rest in
    subst (λ k. HasMarked c.put_held.result (keeper_of c.args.self.now) k) (sym same) (flush_marks c.put_held.result (keeper_of c.args.self.now) (keeper_of c.commit.new.self) c.put_held.ensures.ends c.in_ok-commit.ensures.one_mark)

pub returns-clause-put : goal.returns-clause-put
returns-clause-put g c =
    let taken = ap (λ (s : Shown). s.taken) c.commit.ensures.shown in
    let held = ap held_of c.commit.ensures.rest in
    let P : List ℕ → Option (List ℕ) → Type 0 = λ l o. TakesHeld c.put_held.result o (g.O.Outside.shown c.put_held.new.outside).taken l in
    subst (λ o. P (held_of c.args.self.now) o) taken (subst (λ l. P l (g.O.Outside.shown c.commit.new.outside).taken) held c.put_held.ensures.put)

pub returns-clause-elsewhere : goal.returns-clause-elsewhere
returns-clause-elsewhere g c =
    let D = g.O.Disk in
    let mid = c.commit.new.outside in
    elsewhere_on D.moment D.left_since c.args.outside.now mid c.put_held.new.outside (D.may_leave c.args.outside.now) (D.may_leave mid) (D.beside mid).told (IsOther (keeper_of c.args.self.now).log.number) (g.met.O.Disk.counts_now mid) c.commit.ensures.elsewhere (left_as_before D.moment D.left_since mid c.put_held.new.outside (D.may_leave mid) (g.O.Outside.shown mid).told (length (held_of c.commit.new.self)) c.put_held.ensures.any_moment)

-- with nothing pending the commit makes no call

pub returns-in_err-commit-clause-idle : goal.returns-in_err-commit-clause-idle
returns-in_err-commit-clause-idle g c = λ resting. let e = (c.in_err-commit.ensures.idle resting.settled).1 in absurd (cc)

pub returns-in_err-commit-clause-unpending : goal.returns-in_err-commit-clause-unpending
returns-in_err-commit-clause-unpending g c = λ none. let e = (c.in_err-commit.ensures.idle none).1 in absurd (cc)

pub returns-in_err-commit-clause-images : goal.returns-in_err-commit-clause-images
returns-in_err-commit-clause-images g c = λ none. let e = (c.in_err-commit.ensures.idle none).1 in absurd (cc)

pub returns-in_err-commit-clause-no_more : goal.returns-in_err-commit-clause-no_more
returns-in_err-commit-clause-no_more g c = λ none. let e = (c.in_err-commit.ensures.idle none).1 in absurd (cc)

pub returns-clause-unpending : goal.returns-clause-unpending
returns-clause-unpending g c = λ none file. ap (λ (s : Shown). s.files file) c.put_held.ensures.shown ∙ ap (λ o. (g.O.Outside.shown o).files file) (c.commit.ensures.idle none).0

pub returns-clause-images : goal.returns-clause-images
returns-clause-images g c = λ none image left. subst (λ o. g.O.Disk.may_leave o image) (c.commit.ensures.idle none).0 (c.put_held.ensures.images image left)

pub returns-clause-no_more : goal.returns-clause-no_more
returns-clause-no_more g c = λ none.
    let D = g.O.Disk in
    let mid = c.commit.new.outside in
    let new = c.put_held.new.outside in
    subst (λ o. LeavesOnly D.moment D.left_since o new (IsAsLeft (D.may_leave o))) (c.commit.ensures.idle none).0 (left_as_before D.moment D.left_since mid new (D.may_leave mid) (g.O.Outside.shown mid).told (length (held_of c.commit.new.self)) c.put_held.ensures.any_moment)

pub returns-clause-idle : goal.returns-clause-idle
returns-clause-idle g c = λ resting.
    let first = c.commit.ensures.idle resting.settled in
    let second = c.put_held.ensures.idle (ap held_of c.commit.ensures.rest ∙ resting.silent) in
    (second.0 ∙ first.0, second.1)

-- the classes and methods stay where the commit fails
pub returns-in_err-commit-clause-system : goal.returns-in_err-commit-clause-system
returns-in_err-commit-clause-system g c = c.commit.ensures.system

pub returns-in_err-commit-clause-unheld : goal.returns-in_err-commit-clause-unheld
returns-in_err-commit-clause-unheld g c = λ none. ap (λ (s : Shown). s.taken) c.commit.ensures.shown

pub returns-clause-unheld : goal.returns-clause-unheld
returns-clause-unheld g c = λ none. ap (λ o. (g.O.Outside.shown o).taken) (c.put_held.ensures.idle (ap held_of c.commit.ensures.rest ∙ none)).0 ∙ ap (λ (s : Shown). s.taken) c.commit.ensures.shown

-- ---- what is known stays known

pub returns-in_err-commit-clause-known : goal.returns-in_err-commit-clause-known
returns-in_err-commit-clause-known g c = λ knows.
    let p = err_from_is_err_and c.from_residual.result c.from_residual.ensures.1 in
    rw (p.1, p.2) (c.in_err-commit.ensures.known knows)

pub returns-clause-known : goal.returns-clause-known
returns-clause-known g c = λ knows.
    knows_put c.put_held.result (g.O.Outside.shown c.commit.new.outside) (g.O.Outside.shown c.put_held.new.outside) c.commit.new.self c.put_held.new.self c.put_held.ensures.ends c.put_held.ensures.rest c.put_held.ensures.shown (c.in_ok-commit.ensures.known knows)
