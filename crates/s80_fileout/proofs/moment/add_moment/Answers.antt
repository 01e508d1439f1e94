use Rattle.std.proofs.Common.{◌≡◌, refl, ℕ, List, ◌++◌, Result, Ok, Err}
use Rattle.std.specs.Prelude.{OnOk}
use Rattle.s80_base.specs.declared.text.OutOfMemory.{OutOfMemory}
use Rattle.jiff_core.specs.declared.civil.datetime.DateTime.{DateTime}
use Rattle.s80_fileout.specs.Moment.{IsCivil, IsMoment, civil_text}
use Rattle.s80_fileout.proofs.moment.add_moment.Goals as goal

-- a civil time that was added is the moment
moment_added : (result : Result (Unit {0}) OutOfMemory) (seconds : ℕ) (dt : DateTime) (before now : List ℕ) → IsCivil seconds dt → OnOk result (now ≡ before ++ civil_text dt) → OnOk result ((moment : List ℕ) × IsMoment seconds moment × (now ≡ before ++ moment))
moment_added (Ok done) seconds dt before now civil added = (civil_text dt, (dt, civil, refl), added)
moment_added (Err memory) seconds dt before now civil added = tt

pub returns : goal.returns
returns c = moment_added c.add_civil.result c.args.seconds c.civil.result c.args.text.now c.add_civil.new.text c.civil.ensures c.add_civil.ensures
