use Rattle.std.proofs.Common.{◌≡◌, ◌∙◌, ◌∷◌, ap, false, subst, sym, true, w32}
use Rattle.std.specs.Int.{is_negative}
use Rattle.std.proofs.lemmas.Int.{to_z-of_z}
use Rattle.s80_machine.specs.World.{one_tick}
use Rattle.s80_machine.specs.Step.{jump}
use Rattle.s80_machine.specs.Came.{Came, given_of}
use Rattle.s80_machine.proofs.CameSteps.{goes_back, goes_forth, ticked_goes, ticked_shows}
use Rattle.s80_machine.proofs.machine.Machine.jump_or_back.Goals as goal

pub returns-in_ok-tick : goal.returns-in_ok-tick
returns-in_ok-tick c = λ code d rest w shows.
    let on = given_of c.args.on.now in
    let old = c.args.self.now in
    let mid = c.tick.new.self in
    let new = c.jump.new.self in
    let distance = c.args.distance in
    let next = c.args.next in
    let same = to_z-of_z w32 distance c.ranges.distance in
    let back : is_negative c.args.distance ≡ true = ap is_negative (sym same) ∙ c.if-distance-lt0.true in
    let there = ticked_shows on on.budget old mid (record d { place = next } ∷ rest) w shows c.in_ok-tick.ensures in
    goes_back on code distance d next rest w new c.jump.result back
    (ticked_goes on on.budget old mid (record d { place = next } ∷ rest) w shows (jump on.table on.methods on.code on.budget distance d next d.stack rest) new c.jump.result c.in_ok-tick.ensures
    (subst (λ z. Came on (jump on.table on.methods on.code on.budget z d next d.stack rest (one_tick w)) new c.jump.result) same (c.jump.ensures on d rest (one_tick w) d.stack there)))

pub returns-else-distance-lt0 : goal.returns-else-distance-lt0
returns-else-distance-lt0 c = λ code d rest w shows.
    let on = given_of c.args.on.now in
    let new = c.jump-else-distance-lt0.new.self in
    let r = c.jump-else-distance-lt0.result in
    let distance = c.args.distance in
    let next = c.args.next in
    let same = to_z-of_z w32 distance c.ranges.distance in
    let forth : is_negative c.args.distance ≡ false = ap is_negative (sym same) ∙ c.if-distance-lt0.false in
    goes_forth on code distance d next rest w new r forth
    (subst (λ z. Came on (jump on.table on.methods on.code on.budget z d next d.stack rest w) new r) same (c.jump-else-distance-lt0.ensures on d rest w d.stack shows))
