-- Code means its trees: the outcome of a run is that of the trees with which the codes agree.
use Rattle.std.specs.Prelude.{◌≡◌, ℕ, zero, suc, List, Option, Some, None, slice_get, option_and_then}
use Rattle.std.specs.FinMap as map_of
use Rattle.std.specs.Option.{option_map_or}
use Rattle.s80_base.specs.declared.names.Side.{Side}
use Rattle.s80_compile.specs.Compiles.{Compiles}
use Rattle.s80_compile.specs.Sent.{AreWellSent}
use Rattle.s80_class.specs.Table.{Table, class_name}
use Rattle.s80_code.specs.declared.code.Code.{Code}
use Rattle.s80_dict.specs.Table.{MethodsValue, methods_at}
use Rattle.s80_dict.specs.declared.dict.MethodEntry.{MethodEntry}
use Rattle.s80_object.specs.Body.{words_of}
use Rattle.s80_object.specs.Objects.{State as Objects, body_at, home_parts_of}
use Rattle.s80_object.specs.declared.value.Value.{Value}
use Rattle.s80_prims.specs.declared.stop.End.{End}
use Rattle.s80_prims.specs.declared.stop.Outcome.{Outcome}
use Rattle.s80_scope.specs.declared.shape.Shape.{Shape}
use Rattle.s80_tree.specs.Tree.{MethodParts}
use Rattle.s80_machine.specs.World.{Key, World}
use Rattle.s80_machine.specs.Turn.{Turn, Goes, Ends}
use Rattle.s80_machine.specs.Step.{code_for, turn}
use Rattle.s80_machine.specs.Shared.{outcome_of}
use Rattle.s80_machine.specs.Run.{start}
use Rattle.s80_meaning.specs.Tree.{Meant, meant_in}
use Rattle.s80_meaning.specs.Meaning.{Methods, last, meant_for}
use Rattle.s80_meaning.specs.Places.{MethodAt}
use Rattle.s80_meaning.specs.Image.{image}

-- a code is that of a method, or a doIt, with this meaning, whose messages have as many arguments as their selectors have parameters
pub record IsCodeFor (class : List ℕ) (side : Side) (meant : Meant) (code : Code) : Type 0 where
  pub parts : MethodParts
  pub shape : Shape
  pub well_sent : AreWellSent parts
  pub meant_is : meant ≡ meant_in parts shape
  pub code_is : Compiles parts shape class side code

-- a method on one side and on the other, or none on both
abbrev pub AreOne : List ℕ → Side → Option Meant → Option (MethodEntry Code) → Type 0
AreOne class side None None = Unit {0}
AreOne class side (Some m) (Some e) = IsCodeFor class side m e.code
AreOne class side _ _ = ⊥

-- the codes of the classes agree with their methods
abbrev pub Agree : Table → Methods → MethodsValue (MethodEntry Code) → Type 0
Agree t methods codes =
    (c : ℕ) (side : Side) (selector : List ℕ) → AreOne (class_name t c) side (methods c side selector) (map_of.get (methods_at codes c side) selector)

-- ---- where blocks begin

-- the real blocks of each method, and of the doIt, begin at these places of its code
abbrev pub AreStarts : Methods → Meant → MethodsValue (MethodEntry Code) → Code → (Key → ℕ → ℕ) → Type 0
AreStarts methods meant codes code starts =
    (key : Key) (m : Meant) (of : Code) → meant_for methods meant key ≡ Some m → code_for codes code key ≡ Some of → MethodAt m of (starts key)

-- where a block of this number begins, whose home is an object that is a home, by the places for the blocks of each method
abbrev pub place_by : (Key → ℕ → ℕ) → List Key → Objects → Value → ℕ → ℕ
place_by starts keys s whole b =
    option_map_or (λ key. starts key b) (option_and_then (λ (parts : ℕ × Value). slice_get keys parts.0) (option_and_then home_parts_of (body_at s whole))) b

-- the same world: a number of a method stands for the same method, and where a tree's block has its number, the code's has the place where it begins
pub record SameWorld (starts : Key → ℕ → ℕ) (meant ran : World) : Type 0 where
  pub transcript : ran.transcript ≡ meant.transcript
  pub ticks : ran.ticks ≡ meant.ticks
  pub words : words_of ran.objects.bodies ≡ words_of meant.objects.bodies
  pub keys : ran.keys ≡ meant.keys
  pub objects : ran.objects ≡ image (place_by starts meant.keys meant.objects) meant.objects

-- ---- the run and the trees

module _ (t : Table) (codes : MethodsValue (MethodEntry Code)) (code : Code) (budget : ℕ) where
  -- what so many steps behind a turn come to; one that ends the run is the last
  abbrev pub turns : ℕ → Turn → Turn
  turns zero now = now
  turns (suc n) (Goes s) = turns n (turn t codes code budget s)
  turns (suc n) now = now

  -- the run ends so, in this world
  abbrev pub EndsIn : End → World → Type 0
  EndsIn end w = (n : ℕ) × (turns n (start t codes code budget) ≡ Ends end w)

  -- The outcome of a run is that of the trees: both end alike, in the same world.
  pub record IsOfTrees (methods : Methods) (meant : Meant) (ran : Outcome) : Type 0 where
    pub end : End
    pub world : World
    pub ran_world : World
    pub evaluates : last t methods meant budget ≡ Some (end, world)
    pub ends : EndsIn end ran_world
    pub ran_is : ran ≡ outcome_of end ran_world
    pub starts : Key → ℕ → ℕ
    pub begin : AreStarts methods meant codes code starts
    pub same : SameWorld starts world ran_world

  -- whatever trees the codes are of, an outcome is that of the trees
  abbrev pub MeansItsTrees : Outcome → Type 0
  MeansItsTrees ran =
      (methods : Methods) (meant : Meant) (class : List ℕ) (side : Side) → Agree t methods codes → IsCodeFor class side meant code → IsOfTrees methods meant ran
