-- The text of what a doIt comes to.
use Rattle.std.specs.Prelude.{ℕ, List, [], ◌∷◌, ◌++◌, ◌==◌, codes, decimal, if◌then◌else◌}
use Rattle.s80_class.specs.Table.{Table}
use Rattle.s80_object.specs.Objects.{State}
use Rattle.s80_prims.specs.Known.{IsKnown}
use Rattle.s80_prims.specs.Printed.{class_text, printed}
use Rattle.s80_prims.specs.declared.stop.End.{End}
use Rattle.s80_prims.specs.declared.stop.End.TheVariants.{Answer, Stopped}
use Rattle.s80_prims.specs.declared.stop.Outcome.{Outcome}
use Rattle.s80_prims.specs.declared.stop.Stop.{Stop}
use Rattle.s80_prims.specs.declared.stop.Stop.TheVariants.{Error, NotUnderstood, NonBoolean, CannotReturn, BlockActive, ObjectsFull, Deep, TranscriptFull, Budget}

abbrev pub stop_text : Stop → List ℕ
stop_text (Error text) = codes "stopped 1 error " ++ text
stop_text (NotUnderstood class side selector) = codes "stopped 2 not understood " ++ (class_text class side ++ (codes " " ++ selector))
stop_text NonBoolean = codes "stopped 3 not boolean"
stop_text CannotReturn = codes "stopped 4 cannot return"
stop_text BlockActive = codes "stopped 5 block active"
stop_text (ObjectsFull held) = codes "stopped 6 objects full " ++ decimal held
stop_text Deep = codes "stopped 7 too deep"
stop_text TranscriptFull = codes "stopped 8 transcript full"
stop_text (Budget budget) = codes "stopped 9 budget " ++ decimal budget

abbrev pub end_text : Table → State → End → List ℕ
end_text t s (Answer v) = codes "=> " ++ printed t s v
end_text t s (Stopped stop) = stop_text stop

-- what a text wants behind it, whose last byte so far is this: nothing behind a line feed, and else one
abbrev pub ended : ℕ → List ℕ → List ℕ
ended last [] = if last == 10 then [] else 10 ∷ []
ended last (b ∷ bytes) = ended b bytes

-- a line feed behind what doesn't end in one, and nothing behind no text
abbrev pub line_end : List ℕ → List ℕ
line_end text = ended 10 text

-- what was written, on lines of its own, and the end
abbrev pub outcome_text : Table → Outcome → List ℕ
outcome_text t outcome = outcome.transcript ++ (line_end outcome.transcript ++ end_text t outcome.objects outcome.end)

-- the answer is a known value
abbrev pub HasKnownAnswer : Table → State → End → Type 0
HasKnownAnswer t s (Answer v) = IsKnown t s v
HasKnownAnswer t s (Stopped stop) = Unit {0}
