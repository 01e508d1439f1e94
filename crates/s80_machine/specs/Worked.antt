-- Codes of runs that were worked by hand.
use Rattle.std.specs.Prelude.{ℕ, List, [], ◌∷◌, false}
use Rattle.s80_code.specs.declared.code.Code.{Code}
use Rattle.s80_code.specs.declared.code.Frame.{Frame}
use Rattle.s80_object.specs.Objects.{no_objects}
use Rattle.s80_prims.specs.declared.stop.End.{End}
use Rattle.s80_prims.specs.declared.stop.Outcome.{Outcome}

-- a doIt of these bytes without temporaries
abbrev pub plain_code : List ℕ → Frame → Code
plain_code bytes literals = record { flag = 0; arguments = 0; primitive = 0; temporaries = 0; large = false; literals = literals; bytes = bytes }

-- `2 + 2`: push 2, push 2, send +, return the top
abbrev pub two_and_two : List ℕ
two_and_two = 119 ∷ 119 ∷ 176 ∷ 124 ∷ []

-- `[true] whileTrue: []`: push true, jump 2 on false, jump 4 back, push nil, return the top
abbrev pub for_ever : List ℕ
for_ever = 113 ∷ 153 ∷ 163 ∷ 252 ∷ 115 ∷ 124 ∷ []

-- an outcome without objects, of a run that wrote nothing
abbrev pub ended : End → ℕ → Outcome
ended end ticks = record { end = end; transcript = []; ticks = ticks; words = 0; objects = no_objects }
