use Rattle.std.proofs.Common.{arith}
use Rattle.s80_verify.proofs.FoundLemmas.{adding, adds_sound, adds_grows}
use Rattle.s80_verify.proofs.lemmas.JumpLemmas.{clashing}
use Rattle.s80_verify.proofs.search.Found.reach.Goals as goal

pub returns-then-clashes-clause-fault : goal.returns-then-clashes-clause-fault
returns-then-clashes-clause-fault c =
    rw (c.at-then-clashes.ensures.kind, c.at-then-clashes.ensures.place)
    (clashing c.args.code.now c.args.self.now c.args.point c.requires.sound c.requires.reached (c.clashes.ensures.0 c.if-clashes.true))

pub returns-then-is_none-clause-sound : goal.returns-then-is_none-clause-sound
returns-then-is_none-clause-sound c =
    adds_sound c.args.code.now c.args.self.now (record { marks = c.set.new.self; points = c.push.new.self }) c.args.point c.requires.sound
    (adding c.args.self.now c.set.new.self c.push.new.self c.args.point c.clashes.result c.is_none.result c.get.result c.set.ensures c.get.ensures c.is_none.ensures c.if-is_none.true c.push.ensures c.clashes.ensures.1 c.if-clashes.false)
    c.requires.reached c.requires.within (omega (arith, c.if-taken-from.false, c.taken.ensures, c.from.ensures, c.room_of.ensures))

pub returns-then-is_none-clause-grows : goal.returns-then-is_none-clause-grows
returns-then-is_none-clause-grows c =
    adds_grows c.args.self.now (record { marks = c.set.new.self; points = c.push.new.self }) c.args.point
    (adding c.args.self.now c.set.new.self c.push.new.self c.args.point c.clashes.result c.is_none.result c.get.result c.set.ensures c.get.ensures c.is_none.ensures c.if-is_none.true c.push.ensures c.clashes.ensures.1 c.if-clashes.false)
