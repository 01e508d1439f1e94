-- What stretches of instructions know of what a run doesn't change, and what they do of the items of Arrays.
use Rattle.std.specs.Prelude.{◌≡◌, ℕ, suc, ◌<◌, List, [], ◌∷◌, IsTrue, slice_get, Some}
use Rattle.s80_base.specs.declared.names.Side.TheVariants.{Instance}
use Rattle.s80_class.specs.Lookup.{Found, first_found, places_up}
use Rattle.s80_class.specs.Table.{Table}
use Rattle.s80_code.specs.declared.code.Code.{Code}
use Rattle.s80_code.specs.Special.{special_selectors}
use Rattle.s80_dict.specs.declared.dict.MethodEntry.{MethodEntry}
use Rattle.s80_object.specs.Objects.{State as Objects}
use Rattle.s80_object.specs.declared.value.Value.{Value}
use Rattle.s80_object.specs.declared.value.Value.TheVariants.{ClassRef}
use Rattle.s80_prims.specs.Classes.{class_of}
use Rattle.s80_prims.specs.Primitives.{World as Reached, done, primitive}
use Rattle.s80_machine.specs.declared.quick.Quick.{Quick}
use Rattle.s80_machine.specs.Seen.{Given}

-- a message that has a byte of its own finds a method of this primitive, where it is sent to an instance of the class
pub record FindsPrimitive (on : Given) (class n p : ℕ) : Type 0 where
  pub selector : List ℕ
  pub found : Found (MethodEntry Code)
  pub named : slice_get special_selectors n ≡ Some selector
  pub finds : first_found on.methods selector (places_up on.table class Instance) ≡ Some found
  pub is : found.entry.code.primitive ≡ p

pub record IsQuick (on : Given) (q : Quick) : Type 0 where
  pub budget : on.budget ≡ q.budget
  pub reads : IsTrue q.reads → FindsPrimitive on q.array 16 60
  pub puts : IsTrue q.puts → FindsPrimitive on q.array 17 61

-- an instance of the class of this number
abbrev pub IsArray : ℕ → Objects → Value → Type 0
IsArray class s v = (t : Table) → class_of t s v ≡ ClassRef class Instance

-- an item is put, and a tick counted
pub record Puts (q : Quick) (array place to : Value) (old : Objects) (ticks : ℕ) (new : Objects) (more : ℕ) : Type 0 where
  pub puts : IsTrue q.puts
  pub is_array : IsArray q.array old array
  pub within : ticks < q.budget
  pub counted : more ≡ suc ticks
  pub effect : (t : Table) (w : Reached) → w.objects ≡ old → primitive t 61 array (place ∷ to ∷ []) w ≡ done (record w { objects = new }) to
