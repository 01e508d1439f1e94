use Rattle.std.proofs.Common.{◌≡◌, inl, ⊎_elim, sym, List, ℕ, Some, None, subst, ◌∙◌, IsTrue}
use Rattle.std.proofs.lemmas.Result.{on_ok_weaker, IfErr-weaker}
use Rattle.s80_base.specs.declared.outside.Call.TheVariants.{Read, Write, Sync}
use Rattle.s80_disk.specs.declared.disk.FileId.TheVariants.{Mark}
use Rattle.s80_disk.specs.Moments.{LeavesOnly}
use Rattle.s80_mark.specs.Slots.{other_of, mark_in}
use Rattle.s80_mark.specs.Writes.{Closes, IsClosed, Fills}
use Rattle.s80_mark.specs.Stays.{Anything}
use Rattle.s80_mark.specs.Commit.{CanCommit, HasEither}
use Rattle.s80_mark.proofs.Images.{follows_still, follows_through}
use Rattle.s80_mark.proofs.Marks.{spare_holds, gate_read, open_long, closing, filling, filled}
use Rattle.s80_mark.proofs.Steps.{unwritten, stepped, left_now}
use Rattle.s80_mark.proofs.commit.commit_mark.Goals as goal
use Rattle.s80_mark.proofs.commit.commit_mark.Goals.{After-close_gate, In_ok-close_gate}

-- until the spare gate is closed
run_close : (g : _) (c : After-close_gate g) → LeavesOnly g.D.Disk.moment g.D.Disk.left_since c.args.disk.now c.close_gate.new.disk (HasEither (g.D.Disk.tells c.args.disk.now) (g.D.Disk.reads c.args.disk.now) (g.D.Disk.may_leave c.args.disk.now) (g.D.Disk.beside c.args.disk.now).told c.args.old.now c.args.next.now)
run_close g c =
    let D = g.D.Disk in
    let d = c.args.disk.now in
    let file = D.reads d Mark in
    let old = c.args.old.now in
    let next = c.args.next.now in
    let read = c.read.ensures.untouched in
    let slots = c.in_ok-slots.slots in
    let spare = c.spare-spare.result in
    let was_open = c.is_open.result in
    stepped D.moment D.left_since D.may_leave D.tells D.reads D.beside old next d c.read.new.disk c.close_gate.new.disk (Closes spare was_open)
    (unwritten D.moment D.left_since D.may_leave D.tells D.reads D.beside old next d c.read.new.disk read.any_moment)
    c.close_gate.ensures.any_moment read.rest (follows_still Mark (D.may_leave d) (D.may_leave c.read.new.disk) read.crash)
    (λ can e left new closes.
    let is = c.in_ok-slots.ensures.value can.told in
    let P : List ℕ → Type 0 = λ l. Closes spare was_open l new in
    inl (closing old next spare file (spare_holds file slots spare old is c.spare-spare.ensures can.valid) was_open (gate_read file slots spare was_open is c.is_open.ensures) can.valid new (subst P (can.durable e (read.crash e left)) closes)))

-- both slots then
both : (g : _) (c : In_ok-close_gate g) → CanCommit (g.D.Disk.tells c.args.disk.now) (g.D.Disk.reads c.args.disk.now) (g.D.Disk.may_leave c.args.disk.now) c.args.old.now c.args.next.now → (mark_in (g.D.Disk.reads c.close_gate.new.disk Mark) (other_of c.spare-spare.result) ≡ Some c.args.old.now) × (mark_in (g.D.Disk.reads c.close_gate.new.disk Mark) c.spare-spare.result ≡ None)
both g c can =
    let D = g.D.Disk in
    let file = D.reads c.args.disk.now Mark in
    let slots = c.in_ok-slots.slots in
    let spare = c.spare-spare.result in
    let was_open = c.is_open.result in
    let is = c.in_ok-slots.ensures.value can.told in
    let holds = spare_holds file slots spare c.args.old.now is c.spare-spare.ensures can.valid in
    let P : List ℕ → Type 0 = λ l. IsClosed spare was_open l (D.reads c.close_gate.new.disk Mark) in
    let told : IsTrue (D.tells c.read.new.disk) = c.read.ensures.untouched.telling ∙ can.told in
    let closed = subst P (c.read.ensures.untouched.same Mark) (c.in_ok-close_gate.ensures.closed told) (open_long file (other_of spare) c.args.old.now holds) (gate_read file slots spare was_open is c.is_open.ensures) in
    (closed.0 ∙ holds, closed.1)

pub returns-in_err-slots-clause-any_moment : goal.returns-in_err-slots-clause-any_moment
returns-in_err-slots-clause-any_moment g c =
    let D = g.D.Disk in
    unwritten D.moment D.left_since D.may_leave D.tells D.reads D.beside c.args.old.now c.args.next.now c.args.disk.now c.read.new.disk c.read.ensures.untouched.any_moment

pub returns-in_err-slots-clause-left : goal.returns-in_err-slots-clause-left
returns-in_err-slots-clause-left g c =
    let D = g.D.Disk in
    left_now D.moment D.left_since D.may_leave D.tells D.reads D.beside c.args.old.now c.args.next.now c.args.disk.now c.read.new.disk (g.met.D.Disk.counts_now c.read.new.disk) (returns-in_err-slots-clause-any_moment g c)

pub returns-in_err-close_gate-clause-any_moment : goal.returns-in_err-close_gate-clause-any_moment
returns-in_err-close_gate-clause-any_moment g c = run_close g (goal.at.returns-in_err-close_gate-clause-any_moment g c).After-close_gate

pub returns-in_err-close_gate-clause-left : goal.returns-in_err-close_gate-clause-left
returns-in_err-close_gate-clause-left g c =
    let D = g.D.Disk in
    left_now D.moment D.left_since D.may_leave D.tells D.reads D.beside c.args.old.now c.args.next.now c.args.disk.now c.close_gate.new.disk (g.met.D.Disk.counts_now c.close_gate.new.disk) (returns-in_err-close_gate-clause-any_moment g c)

pub returns-clause-committed : goal.returns-clause-committed
returns-clause-committed g c = λ can.
    let D = g.D.Disk in
    let slots = both g (goal.at.returns-clause-committed g c).In_ok-close_gate can in
    on_ok_weaker c.write_slot.result
    (filled c.args.old.now c.args.next.now c.spare-spare.result (D.reads c.close_gate.new.disk Mark) slots.0 can.follows (D.reads c.write_slot.new.disk Mark))
    (c.write_slot.ensures.filled (c.close_gate.ensures.tells ∙ c.read.ensures.untouched.telling ∙ can.told))

pub returns-clause-any_moment : goal.returns-clause-any_moment
returns-clause-any_moment g c =
    let D = g.D.Disk in
    let d = c.args.disk.now in
    let mid = c.close_gate.new.disk in
    let read = c.read.ensures.untouched in
    let closed = c.close_gate.ensures in
    let spare = c.spare-spare.result in
    let next = c.args.next.now in
    let at = goal.at.returns-clause-any_moment g c in
    stepped D.moment D.left_since D.may_leave D.tells D.reads D.beside c.args.old.now next d mid c.write_slot.new.disk (Fills (D.tells mid) spare next)
    (run_close g at.After-close_gate) c.write_slot.ensures.any_moment (closed.beside ∙ read.rest)
    (follows_through Mark Anything (Closes spare c.is_open.result) Anything _ _ _ (follows_still Mark (D.may_leave d) (D.may_leave c.read.new.disk) read.crash) closed.crash (λ _ _ _ _ _. tt))
    (λ can e left new fills.
    let slots = both g at.In_ok-close_gate can in
    let P : List ℕ → Type 0 = λ l. Fills (D.tells mid) spare next l new in
    filling c.args.old.now next spare (D.reads mid Mark) slots.0 (D.tells mid) (closed.tells ∙ read.telling ∙ can.told) slots.1 can.follows new (subst P (c.in_ok-close_gate.ensures.durable e left) fills))

pub returns-clause-left : goal.returns-clause-left
returns-clause-left g c =
    let D = g.D.Disk in
    left_now D.moment D.left_since D.may_leave D.tells D.reads D.beside c.args.old.now c.args.next.now c.args.disk.now c.write_slot.new.disk (g.met.D.Disk.counts_now c.write_slot.new.disk) (returns-clause-any_moment g c)

pub returns-clause-others : goal.returns-clause-others
returns-clause-others g c = λ other ne. c.write_slot.ensures.others other ne ∙ c.close_gate.ensures.others other ne ∙ c.read.ensures.untouched.same other

pub returns-clause-unwritten : goal.returns-clause-unwritten
returns-clause-unwritten g c =
    IfErr-weaker c.write_slot.result _ _ (λ e named is file. absurd (⊎_elim (λ write. let h : Write ≡ Read = sym write ∙ is in cc) (λ sync. let h : Sync ≡ Read = sym sync ∙ is in cc) named)) c.write_slot.ensures.named
