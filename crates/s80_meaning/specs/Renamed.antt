-- One state under two numberings of its classes.
use Rattle.std.specs.Prelude.{◌≡◌, ℕ, ℤ, List, IsTrue, Option, Some, None}
use Rattle.std.specs.FinMap as map_of
use Rattle.s80_base.specs.declared.names.Side.{Side}
use Rattle.s80_class.specs.Classes.{Name, ClassRow}
use Rattle.s80_class.specs.Known.{IsKnown}
use Rattle.s80_class.specs.Table.{Table, IsNumberOf, name_of}
use Rattle.s80_kernel.specs.Rows.{is_kernel_class}
use Rattle.s80_object.specs.declared.value.Value.TheVariants.{Small}
use Rattle.s80_prims.specs.declared.stop.End.{End}
use Rattle.s80_prims.specs.declared.stop.End.TheVariants.{Answer, Stopped}
use Rattle.s80_prims.specs.declared.stop.Outcome.{Outcome}
use Rattle.s80_print.specs.Outcome.{outcome_text}
use Rattle.s80_meaning.specs.Meaning.{Methods, eval}
use Rattle.s80_meaning.specs.Tree.{Meant}

-- the kernel's classes are there
abbrev pub HasKernel : Table → Type 0
HasKernel t = (name : Name) → IsTrue (is_kernel_class name) → (row : ClassRow) × (map_of.get t.classes name ≡ Some row)

-- a table and the methods of its classes: where there is no class there is no method
pub record IsHouse (t : Table) (methods : Methods) : Type 0 where
  pub known : IsKnown t
  pub kernel : HasKernel t
  pub nowhere : (c : ℕ) (side : Side) (selector : List ℕ) → name_of t.names c ≡ None → methods c side selector ≡ None

-- the same classes with the same methods, whatever their numbers
pub record AreOneHouse (t u : Table) (methods others : Methods) : Type 0 where
  pub house : IsHouse t methods
  pub other : IsHouse u others
  pub classes : u.classes ≡ t.classes
  pub same_methods : (name : Name) (c d : ℕ) → IsNumberOf t.names c name → IsNumberOf u.names d name → (side : Side) (selector : List ℕ) → others d side selector ≡ methods c side selector

-- the SmallInteger that is answered, if one is
abbrev pub small_of : End → Option ℤ
small_of (Answer (Small n)) = Some n
small_of (Answer v) = None
small_of (Stopped stop) = None

-- both answer, and the same where one answers a SmallInteger; or both stop for the same reason
abbrev pub EndAlike : End → End → Type 0
EndAlike (Answer v) (Answer x) = small_of (Answer x) ≡ small_of (Answer v)
EndAlike (Stopped stop) (Stopped other) = other ≡ stop
EndAlike _ _ = ⊥

-- two outcomes of a doIt, each under its own numbering, are told alike
pub record AreToldAlike (t u : Table) (outcome other : Outcome) : Type 0 where
  pub end : EndAlike outcome.end other.end
  pub ticks : other.ticks ≡ outcome.ticks
  pub text : outcome_text u other ≡ outcome_text t outcome

-- what a doIt comes to hangs on the classes and their methods, and not on the classes' numbers
abbrev pub IsByName : Table → Table → Methods → Methods → Meant → ℕ → Type 0
IsByName t u methods others meant budget =
    (outcome : Outcome) → eval t methods meant budget ≡ Some outcome → (other : Outcome) × (eval u others meant budget ≡ Some other) × AreToldAlike t u outcome other
