use Rattle.std.proofs.lemmas.Result.{on_ok_weaker}
use Rattle.s80_disk.specs.declared.disk.FileId.TheVariants.{Mark}
use Rattle.s80_disk.proofs.lemmas.Run.{weaker}
use Rattle.s80_mark.specs.Writes.{Closes}
use Rattle.s80_mark.proofs.Images.{follows_looser, comes_looser}
use Rattle.s80_mark.proofs.Writes.{closes, is_closed}
use Rattle.s80_mark.proofs.write.close_gate.Goals as goal

pub returns-then-was_open-clause-closed : goal.returns-then-was_open-clause-closed
returns-then-was_open-clause-closed g c = λ told.
    let wrote = c.write_and_sync.ensures in
    on_ok_weaker c.write_and_sync.result (is_closed c.args.slot c.place.result c.place.ensures.place c.args.was_open _ _ (wrote.torn told)) (wrote.written told)

pub returns-then-was_open-clause-crash : goal.returns-then-was_open-clause-crash
returns-then-was_open-clause-crash g c =
    follows_looser Mark _ (Closes c.args.slot c.args.was_open) (closes c.args.slot c.place.result c.place.ensures.place c.args.was_open c.if-was_open.true) _ _ c.write_and_sync.ensures.crash

pub returns-then-was_open-clause-any_moment : goal.returns-then-was_open-clause-any_moment
returns-then-was_open-clause-any_moment g c =
    let D = g.D.Disk in
    weaker D.moment D.left_since c.args.disk.now c.write_and_sync.new.disk _ _ c.write_and_sync.ensures.any_moment
    (comes_looser Mark _ (Closes c.args.slot c.args.was_open) (closes c.args.slot c.place.result c.place.ensures.place c.args.was_open c.if-was_open.true) (D.may_leave c.args.disk.now) (D.beside c.args.disk.now).told)
