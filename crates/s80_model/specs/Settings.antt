-- What a run is given beside its input.
use Rattle.std.specs.Prelude.{ℕ, List, Option, Some, None}
use Rattle.s80_fileout.specs.Moment.{IsMoment}

-- how many ticks a doIt may take, how many versions of each method a condensed list keeps, and the seconds of the clock, where it tells them
pub record Settings : Type 0 where
  pub budget : ℕ
  pub kept_versions : ℕ
  pub moment : Option ℕ

-- a file says this moment: the clock's, or some one where the clock doesn't tell it
abbrev pub IsNow : Option ℕ → List ℕ → Type 0
IsNow None moment = (seconds : ℕ) × IsMoment seconds moment
IsNow (Some seconds) moment = IsMoment seconds moment
