-- What the rows of the table come to, as the calls that apply them say it.
use Rattle.std.specs.Prelude.{◌≡◌, ℕ, suc, pos, List, Bool, Option, Some, None, if◌then◌else◌}
use Rattle.s80_base.specs.declared.names.Side.TheVariants as side
use Rattle.s80_class.specs.Table.{Table}
use Rattle.s80_object.specs.Objects.{State}
use Rattle.s80_object.specs.declared.value.Value.{Value}
use Rattle.s80_object.specs.declared.value.Value.TheVariants.{Small, ClassRef}
use Rattle.s80_prims.specs.declared.applied.Applied.{Applied}
use Rattle.s80_prims.specs.Classes.{can_be_new}
use Rattle.s80_prims.specs.Primitives.{Effect, World}

abbrev pub world_of : State → List ℕ → World
world_of s transcript = record { objects = s; transcript = transcript }

abbrev pub came_to : Applied → World → Effect
came_to applied w = record { applied = applied; world = w }

-- a call on objects alone comes to this effect, whatever was written
abbrev pub Applies : State → State → Applied → (World → Effect) → Type 0
Applies old new applied effect = (transcript : List ℕ) → came_to applied (world_of new transcript) ≡ effect (world_of old transcript)

-- the place of a list that a value names; items count from 1
abbrev pub place_of : Value → Option ℕ
place_of (Small (pos (suc i))) = Some i
place_of _ = None

-- the class of which a receiver of `new` makes an instance
abbrev pub class_to_make : Table → Value → Option ℕ
class_to_make t (ClassRef c side.Instance) = if can_be_new t c then Some c else None
class_to_make t _ = None

abbrev pub text_if : Bool → Option (List ℕ) → Option (List ℕ)
text_if is text = if is then text else None
