use Rattle.std.proofs.Common.{◌≡◌, ◌≤◌, List, ℕ, length, ap, ◌∙◌, IsTrue, arith}
use Rattle.std.proofs.lemmas.Result.{on_ok_weaker}
use Rattle.s80_disk.specs.declared.disk.FileId.TheVariants.{Mark}
use Rattle.s80_disk.specs.Moments.{Beside, LeavesOnly, ComesFrom}
use Rattle.s80_disk.proofs.lemmas.Run.{weaker, joined}
use Rattle.s80_mark.specs.Mark.{mark_behind}
use Rattle.s80_mark.specs.Slots.{place_of}
use Rattle.s80_mark.specs.Writes.{Fills}
use Rattle.s80_mark.proofs.Images.{comes_looser, comes_through}
use Rattle.s80_mark.proofs.Writes.{stages, behind_is, fills, is_filled}
use Rattle.s80_mark.proofs.write.write_slot.Goals as goal
use Rattle.s80_mark.proofs.write.write_slot.Goals.{After-write_and_sync, In_ok-write_and_sync}

-- while the mark is written
staged : (g : _) (c : After-write_and_sync g) → LeavesOnly g.D.Disk.moment g.D.Disk.left_since c.args.disk.now c.write_and_sync.new.disk (ComesFrom (g.D.Disk.may_leave c.args.disk.now) (g.D.Disk.beside c.args.disk.now).told Mark (Fills (g.D.Disk.tells c.args.disk.now) c.args.slot c.args.mark))
staged g c =
    let D = g.D.Disk in
    let d = c.args.disk.now in
    let few : length c.to_bytes.result ≤ 43 = omega arith in
    weaker D.moment D.left_since d c.write_and_sync.new.disk _ _ c.write_and_sync.ensures.any_moment
    (comes_looser Mark _ (Fills (D.tells d) c.args.slot c.args.mark) (stages c.args.slot c.place-place.result c.place-place.ensures.place c.args.mark (D.tells d) (length c.to_bytes.result) few) (D.may_leave d) (D.beside d).told)

-- the mark that is on the disk then
behind : (g : _) (c : In_ok-write_and_sync g) → IsTrue (g.D.Disk.tells c.args.disk.now) → mark_behind (g.D.Disk.reads c.write_and_sync.new.disk Mark) (place_of c.args.slot) ≡ c.args.mark
behind g c told = behind_is c.args.slot c.place-place.result c.place-place.ensures.place c.args.mark c.to_bytes.result _ _ (omega arith) c.to_bytes.ensures (c.in_ok-write_and_sync.ensures.written told)

pub returns-in_err-write_and_sync-clause-any_moment : goal.returns-in_err-write_and_sync-clause-any_moment
returns-in_err-write_and_sync-clause-any_moment g c = staged g (goal.at.returns-in_err-write_and_sync-clause-any_moment g c).After-write_and_sync

pub returns-clause-filled : goal.returns-clause-filled
returns-clause-filled g c = λ told.
    let told_on : IsTrue (g.D.Disk.tells c.write_and_sync.new.disk) = c.write_and_sync.ensures.tells ∙ told in
    let last = c.write_and_sync-2.ensures in
    on_ok_weaker c.write_and_sync-2.result
    (is_filled c.args.slot c.place-place.result c.place-place.ensures.place c.args.mark (length c.to_bytes.result) (omega arith) _ _ _ (c.write_and_sync.ensures.torn told) (last.torn told_on) (behind g (goal.at.returns-clause-filled g c).In_ok-write_and_sync told))
    (last.written told_on)

pub returns-clause-any_moment : goal.returns-clause-any_moment
returns-clause-any_moment g c =
    let D = g.D.Disk in
    let d = c.args.disk.now in
    let mid = c.write_and_sync.new.disk in
    let first = c.write_and_sync.ensures in
    let Q = Fills (D.tells d) c.args.slot c.args.mark in
    let at = goal.at.returns-clause-any_moment g c in
    joined D.moment D.left_since d mid c.write_and_sync-2.new.disk (ComesFrom (D.may_leave d) (D.beside d).told Mark Q) _ (staged g at.After-write_and_sync) c.write_and_sync-2.ensures.any_moment
    (comes_through Mark _ _ Q (D.may_leave d) (D.may_leave mid) (D.beside d).told (D.beside mid).told (ap (λ (b : Beside). b.told) first.beside) first.crash
    (λ old between left torn new opens. fills c.args.slot c.place-place.result c.place-place.ensures.place c.args.mark (length c.to_bytes.result) (omega arith) (old Mark) (between Mark) new torn opens (D.tells d)
    (λ told. ap (λ (l : List ℕ). mark_behind l (place_of c.args.slot)) (c.in_ok-write_and_sync.ensures.durable between left) ∙ behind g at.In_ok-write_and_sync told)))
