use Rattle.s80_disk.proofs.lemmas.Showing.{nothing_shown, no_fault}
use Rattle.s80_disk.proofs.outside.time_now.Goals as goal

pub returns-clause-told : goal.returns-clause-told
returns-clause-told g c = rw (g.met.O.Outside.shown_is c.args.outside.now) c.now.ensures.told

pub returns-clause-shown : goal.returns-clause-shown
returns-clause-shown g c = nothing_shown g.met.O.Outside.beside_is g.met.O.Outside.shown_is c.args.outside.now c.now.new.self (g.met.O.Outside.now_keeps_files _ _ c.now.ensures.keeps).tells_same (g.met.O.Outside.now_keeps_files _ _ c.now.ensures.keeps).reads_same (g.met.O.Outside.now_keeps_beside _ _ c.now.ensures.keeps)

pub returns-clause-faults : goal.returns-clause-faults
returns-clause-faults g c = no_fault g.met.O.Outside.beside_is g.met.O.Outside.faults_is c.args.outside.now c.now.new.self (g.met.O.Outside.now_keeps_files _ _ c.now.ensures.keeps).no_fault (g.met.O.Outside.now_keeps_beside _ _ c.now.ensures.keeps)
