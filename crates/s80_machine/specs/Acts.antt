-- What the parts of an instruction promise.
use Rattle.std.specs.Prelude.{◌≡◌, ◌<◌, ◌^◌, ℕ, List, ◌∷◌, slice_get, IsSome, Option, Some, Result}
use Rattle.s80_code.specs.declared.code.Code.{Code}
use Rattle.s80_code.specs.declared.instruction.Instruction.{Instruction}
use Rattle.s80_machine.specs.declared.halt.Halt.{Halt}
use Rattle.s80_machine.specs.declared.machine.Machine.{Machine}
use Rattle.s80_machine.specs.World.{World, Activation, own, home, block}
use Rattle.s80_machine.specs.Turn.{Context}
use Rattle.s80_machine.specs.Step.{act}
use Rattle.s80_machine.specs.Sound.{HasCount}
use Rattle.s80_machine.specs.Seen.{Given, below_home}
use Rattle.s80_machine.specs.Came.{Came, Shows, at_place}

-- the machine does what the step says of an instruction of this code, behind which this place stands
abbrev pub Acts : Given → Code → ℕ → Instruction → Machine → Machine → Result (Unit {0}) Halt → Type 0
Acts on code next i old new result =
    (c : Context) (rest : List Context) (w : World) → Shows on old (at_place c next rest w)
    → Came on (act on.table on.methods on.code on.budget code c next rest w i) new result

-- the method of the active context is one that was activated
abbrev pub TopHasMethod : Machine → Type 0
TopHasMethod m = (c : Context) (rest : List Context) → m.contexts ≡ c ∷ rest → IsSome (slice_get m.methods c.method)

-- a number on top of the active context's stack fits a byte
abbrev pub TopCountsFew : Machine → Type 0
TopCountsFew m = (c : Context) (rest : List Context) (n : ℕ) → m.contexts ≡ c ∷ rest → HasCount n c.stack → n < 2 ^ 8

-- those that are left by a return from the message of an activation
abbrev pub left_by : Activation → List Context → Option (List Context)
left_by (own temporaries) rest = Some rest
left_by (home h) rest = Some rest
left_by (block b h) rest = below_home h rest
