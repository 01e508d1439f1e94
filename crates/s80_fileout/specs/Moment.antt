-- A moment as it stands in the header of a file: the civil time in UTC, to the second (ISO 8601).
use Rattle.std.specs.Prelude.{◌≡◌, ℕ, ◌+◌, ◌/◌, ◌%◌, ◌*ℤ◌, pos, min, nat_abs, List, [], ◌∷◌, ◌++◌}
use Rattle.jiff_core.specs.declared.civil.datetime.DateTime.{DateTime}
use Rattle.jiff_core.specs.DateTime.{civil_nanos}

-- a number below a hundred in two digits, and one below ten thousand in four
abbrev pub two_digits : ℕ → List ℕ
two_digits n = (48 + n / 10) ∷ (48 + n % 10) ∷ []

abbrev pub four_digits : ℕ → List ℕ
four_digits n = two_digits (n / 100) ++ two_digits (n % 100)

-- `2001-09-09`
abbrev pub date_text : DateTime → List ℕ
date_text dt = four_digits (nat_abs dt.date.year) ++ (45 ∷ two_digits dt.date.month ++ (45 ∷ two_digits dt.date.day))

-- `T01:46:40Z`
abbrev pub clock_text : DateTime → List ℕ
clock_text dt = 84 ∷ two_digits dt.time.hour ++ (58 ∷ two_digits dt.time.minute ++ (58 ∷ two_digits dt.time.second ++ (90 ∷ [])))

abbrev pub civil_text : DateTime → List ℕ
civil_text dt = date_text dt ++ clock_text dt

-- a later second is taken as this one
abbrev pub last_second : ℕ
last_second = 250000000000

-- the civil time so many seconds after the beginning of 1970
abbrev pub IsCivil : ℕ → DateTime → Type 0
IsCivil seconds dt = civil_nanos dt ≡ pos (min seconds last_second) *ℤ pos 1000000000

abbrev pub IsMoment : ℕ → List ℕ → Type 0
IsMoment seconds text = (dt : DateTime) × IsCivil seconds dt × (text ≡ civil_text dt)
