-- What a doIt comes to, by the classes of a state and the sources of its methods: whatever their code, and whatever the classes' numbers.
use Rattle.std.specs.Prelude.{◌≡◌, ℕ, ℤ, List, [], Bool, Option, Some, None}
use Rattle.std.specs.FinMap as map
use Rattle.s80_base.specs.declared.names.Side.{Side}
use Rattle.s80_tree.specs.Tree.{DoItParts, MethodParts}
use Rattle.s80_syntax.specs.Text.{IsDoItOf, IsMethodOf}
use Rattle.s80_change.specs.Check.{as_method}
use Rattle.s80_class.specs.Classes.{Name, Classes}
use Rattle.s80_class.specs.Known.{IsKnown}
use Rattle.s80_class.specs.Table.{Table, name_of}
use Rattle.s80_method.specs.Shape.{shape_of}
use Rattle.s80_apply.specs.State.{MethodRow, State}
use Rattle.s80_prims.specs.declared.stop.Outcome.{Outcome}
use Rattle.s80_print.specs.Outcome.{outcome_text}
use Rattle.s80_meaning.specs.Meaning.{Methods, eval}
use Rattle.s80_meaning.specs.Renamed.{small_of}
use Rattle.s80_meaning.specs.Tree.{Meant, meant_in}
use Rattle.s80_doit.specs.DoIt.{is_stopped}

-- what a method of a class means: its source's tree there
abbrev pub IsMeantBy : Classes → Name → Side → Option MethodRow → Option Meant → Type 0
IsMeantBy classes class side None None = Unit {0}
IsMeantBy classes class side (Some row) (Some m) = (tree : MethodParts) × IsMethodOf row.source tree × (m ≡ meant_in tree (shape_of classes class side))
IsMeantBy classes class side _ _ = ⊥

-- where no class has the number, there is no method
abbrev pub IsMethodAt : State → Option Name → Side → List ℕ → Option Meant → Type 0
IsMethodAt state None side selector m = m ≡ None
IsMethodAt state (Some class) side selector m = IsMeantBy state.classes class side (map.get (state.methods class side) selector) m

-- the classes of a state, each under a number, and by these what its sources mean
pub record AreOfState (state : State) (t : Table) (methods : Methods) : Type 0 where
  pub known : IsKnown t
  pub classes : t.classes ≡ state.classes
  pub means : (c : ℕ) (side : Side) (selector : List ℕ) → IsMethodAt state (name_of t.names c) side selector (methods c side selector)

-- what a doIt means: its tree, as a method that sees no variable of a class
abbrev pub doit_meant : DoItParts → Meant
doit_meant tree = meant_in (as_method tree) (record { inst_vars = []; class_vars = [] })

-- A text is that of a doIt; its tree, evaluated in the state under a budget of ticks, comes to what is told so, and is stopped or not.
pub record EvaluatesTo (state : State) (text : List ℕ) (budget : ℕ) (told : List ℕ) (stopped : Bool) : Type 0 where
  pub tree : DoItParts
  pub tree_is : IsDoItOf text tree
  pub table : Table
  pub methods : Methods
  pub are : AreOfState state table methods
  pub outcome : Outcome
  pub evaluates : eval table methods (doit_meant tree) budget ≡ Some outcome
  pub told_is : told ≡ outcome_text table outcome
  pub stopped_is : stopped ≡ is_stopped outcome.end

-- the same, where the tree answers this SmallInteger, or none
pub record AnswersSmall (state : State) (text : List ℕ) (budget : ℕ) (told : List ℕ) (stopped : Bool) (small : Option ℤ) : Type 0 where
  pub evaluation : EvaluatesTo state text budget told stopped
  pub small_is : small ≡ small_of evaluation.outcome.end
