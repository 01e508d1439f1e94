-- What a job of the code is.
use Rattle.std.specs.Prelude.{◌≤◌}
use Rattle.s80_program.specs.declared.program.Job.{Job as Own}
use Rattle.s80_program.specs.declared.program.Job.TheVariants as own
use Rattle.s80_program.specs.Command.{Job, Takes, Merges, Works, Makes}
use Rattle.s80_session.specs.Working.{IsReadable}

abbrev pub shown_job : Own → Job
shown_job own.Takes = Takes
shown_job own.Merges = Merges
shown_job (own.Works item) = Works item
shown_job (own.Makes classes) = Makes classes

-- the session may be given it
abbrev pub SuitsJob : Own → Type 0
SuitsJob own.Takes = Unit {0}
SuitsJob own.Merges = Unit {0}
SuitsJob (own.Works item) = IsReadable item
SuitsJob (own.Makes classes) = classes ≤ 1000
