use Rattle.s80_disk.proofs.lemmas.Showing.{but_for_output, but_for_write}
use Rattle.s80_disk.proofs.outside.put_output.Goals as goal

pub returns-clause-bytes : goal.returns-clause-bytes
returns-clause-bytes g c = rw (g.met.O.Outside.shown_is c.args.outside.now, g.met.O.Outside.shown_is c.put.new.self) c.put.ensures.bytes

pub returns-clause-told : goal.returns-clause-told
returns-clause-told g c = rw (g.met.O.Outside.shown_is c.args.outside.now, g.met.O.Outside.shown_is c.put.new.self) c.put.ensures.told

pub returns-clause-shown : goal.returns-clause-shown
returns-clause-shown g c = but_for_output g.met.O.Outside.beside_is g.met.O.Outside.shown_is c.args.outside.now c.put.new.self (g.met.O.Outside.put_keeps_files _ _ c.put.ensures.keeps) (g.met.O.Outside.put_keeps_input _ _ c.put.ensures.keeps)

pub returns-clause-faults : goal.returns-clause-faults
returns-clause-faults g c = but_for_write g.met.O.Outside.beside_is g.met.O.Outside.faults_is c.args.outside.now c.put.new.self (g.met.O.Outside.put_keeps_files _ _ c.put.ensures.keeps).no_fault (g.met.O.Outside.put_keeps_input _ _ c.put.ensures.keeps)

pub returns-clause-cause : goal.returns-clause-cause
returns-clause-cause g c = rw (g.met.O.Outside.faults_is c.args.outside.now, g.met.O.Outside.faults_is c.put.new.self) c.put.ensures.cause
