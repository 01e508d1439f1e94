-- What primitives keep: values and objects that are known.
use Rattle.std.specs.Prelude.{◌≡◌, ℕ, true}
use Rattle.s80_kernel.specs.Rows.{is_kernel_class}
use Rattle.s80_class.specs.Classes.{Name}
use Rattle.s80_class.specs.Table.{Table, IsNumberOf}
use Rattle.s80_object.specs.Objects.{State}
use Rattle.s80_object.specs.declared.value.Value.{Value}
use Rattle.s80_prims.specs.declared.applied.Applied.{Applied}
use Rattle.s80_prims.specs.declared.applied.Applied.TheVariants.{Done, Fails, Stops}
use Rattle.s80_prims.specs.Known.{AreKnown, IsKnown}
use Rattle.s80_prims.specs.Primitives.{Effect}

-- each class of the kernel has a number
abbrev pub HasNumbers : Table → Type 0
HasNumbers t = (word : Name) → is_kernel_class word ≡ true → (c : ℕ) × IsNumberOf t.names c word

-- the answer is known, if there is one
abbrev pub AnswersKnown : Table → State → Applied → Type 0
AnswersKnown t s (Done v) = IsKnown t s v
AnswersKnown t s Fails = Unit {0}
AnswersKnown t s (Stops stop) = Unit {0}

-- the answer is known, and so are all that objects hold and each value that was
pub record KeepsKnown (t : Table) (old : State) (effect : Effect) : Type 0 where
  pub answer : AnswersKnown t effect.world.objects effect.applied
  pub objects : AreKnown t effect.world.objects
  pub values : (v : Value) → IsKnown t old v → IsKnown t effect.world.objects v
