use Rattle.std.proofs.Common.{List, ℕ, sym, subst}
use Rattle.std.proofs.lemmas.List.{take_rest}
use Rattle.s80_disk.proofs.lemmas.Showing.{told_beside}
use Rattle.s80_session.proofs.UnderWay.{UnderWay, begun, went_on}
use Rattle.s80_session.proofs.outside.put_all.Goals as goal

pub loop-rest-init : goal.loop-rest-init
loop-rest-init g c =
    let D = g.O.Disk in
    let start = c.args.outside.now in
    begun D.may_leave D.moment D.left_since D.beside g.O.Outside.shown g.O.Outside.faults (told_beside g.met.O.Outside.beside_is g.met.O.Outside.shown_is) start c.args.piece.now (g.met.O.Disk.only_now start)

pub loop-rest-preserved : goal.loop-rest-preserved
loop-rest-preserved g c =
    let D = g.O.Disk in
    let S = g.O.Outside.shown in
    let F = g.O.Outside.faults in
    let start = c.args.outside.now in
    let piece = c.args.piece.now in
    let rest = c.loop-rest.rest.now in
    let count = c.in_ok-count.count in
    let put = c.put_output.ensures in
    let ok = c.in_ok-count.ensures in
    let P : List ℕ → Type 0 = λ l. UnderWay D.may_leave D.moment D.left_since S F start c.put_output.new.outside piece l in
    subst P (sym (take_rest rest count))
    (went_on D.may_leave D.moment D.left_since D.beside S F (told_beside g.met.O.Outside.beside_is g.met.O.Outside.shown_is) start piece c.loop-rest.outside c.put_output.new.outside rest count c.loop-rest.invariant ok.bound ok.bytes ok.told put.shown put.faults ok.cause.faultless put.images put.time)
