use Rattle.s80_disk.proofs.lemmas.Showing.{but_for_left, but_for_read}
use Rattle.s80_disk.proofs.outside.take_input.Goals as goal

pub returns-clause-bytes : goal.returns-clause-bytes
returns-clause-bytes g c = rw (g.met.O.Outside.shown_is c.args.outside.now, g.met.O.Outside.shown_is c.take.new.self) c.take.ensures.bytes

pub returns-clause-shown : goal.returns-clause-shown
returns-clause-shown g c = but_for_left g.met.O.Outside.beside_is g.met.O.Outside.shown_is c.args.outside.now c.take.new.self (g.met.O.Outside.take_keeps_files _ _ c.take.ensures.keeps) (g.met.O.Outside.take_keeps_output _ _ c.take.ensures.keeps)

pub returns-clause-faults : goal.returns-clause-faults
returns-clause-faults g c = but_for_read g.met.O.Outside.beside_is g.met.O.Outside.faults_is c.args.outside.now c.take.new.self (g.met.O.Outside.take_keeps_files _ _ c.take.ensures.keeps).no_fault (g.met.O.Outside.take_keeps_output _ _ c.take.ensures.keeps)

pub returns-clause-cause : goal.returns-clause-cause
returns-clause-cause g c = rw (g.met.O.Outside.faults_is c.args.outside.now, g.met.O.Outside.faults_is c.take.new.self) c.take.ensures.cause
