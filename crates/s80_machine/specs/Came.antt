-- What a machine shows, and what it comes to.
use Rattle.std.specs.Prelude.{◌≡◌, ℕ, ◌+◌, ◌<◌, ◌≤◌, List, [], ◌∷◌, length, All, map as list_map, Option, Some, None, Result, Ok, Err}
use Rattle.s80_class.specs.Known.{IsKnown as IsKnownTable}
use Rattle.s80_class.specs.Table.{Table}
use Rattle.s80_code.specs.declared.code.Code.{Code}
use Rattle.s80_code.specs.declared.instruction.Storage.{Storage}
use Rattle.s80_code.specs.Special.{special_selectors}
use Rattle.s80_object.specs.Objects.{State as Objects, IsHome, body_at, no_objects}
use Rattle.s80_object.specs.declared.value.Value.{Value}
use Rattle.s80_object.specs.declared.value.Value.TheVariants.{Object}
use Rattle.s80_object.specs.declared.value.ObjectFault.{ObjectFault}
use Rattle.s80_object.specs.declared.value.ObjectFault.TheVariants as fault
use Rattle.s80_prims.specs.Known.{AreKnown, HasKernel, IsKnown}
use Rattle.s80_prims.specs.Numbers.{AreNumbers}
use Rattle.s80_prims.specs.declared.stop.End.{End}
use Rattle.s80_prims.specs.declared.stop.End.TheVariants.{Answer, Stopped}
use Rattle.s80_prims.specs.declared.stop.Outcome.{Outcome}
use Rattle.s80_prims.specs.declared.stop.Stop.TheVariants.{Budget, Deep, ObjectsFull}
use Rattle.s80_machine.specs.declared.halt.Halt.{Halt}
use Rattle.s80_machine.specs.declared.halt.Halt.TheVariants as halt
use Rattle.s80_machine.specs.declared.machine.Machine.{Machine}
use Rattle.s80_machine.specs.declared.setting.Setting.{Setting}
use Rattle.s80_machine.specs.World.{World, Key, Variable, home_in}
use Rattle.s80_machine.specs.Turn.{Context, waiting, State, Turn, Goes, Ends, Stuck}
use Rattle.s80_class.specs.Lookup.{Place}
use Rattle.s80_machine.specs.Sites.{IsSite, site_in}
use Rattle.s80_machine.specs.declared.sites.Site.{Site}
use Rattle.s80_machine.specs.Shared.{depth_limit, does_not_understand}
use Rattle.s80_machine.specs.Step.{code_for, places_above, places_for, push, sent, store}
use Rattle.s80_machine.specs.Sound.{IsSetting}
use Rattle.s80_machine.specs.Seen.{EndsRun, Given, Method, value_in, value_of}

-- ---- what a run is given

abbrev pub given_of : Setting → Given
given_of s = record { table = s.classes.now; methods = s.methods.now; code = s.doit.now; budget = s.budget }

-- what is kept beside it agrees with it
pub record IsReady (s : Setting) : Type 0 where
  pub known : IsKnownTable s.classes.now
  pub kernel : HasKernel s.classes.now
  pub numbers : AreNumbers s.classes.now s.kernel
  pub selectors : s.special ≡ special_selectors
  pub unknown : s.unknown ≡ does_not_understand
  pub sides : length s.methods.now.sides ≡ length s.classes.now.names

-- ---- what a machine shows

-- a method's code is the one that is given for it
abbrev pub IsGiven : Given → Method → Type 0
IsGiven on m = code_for on.methods on.code m.key ≡ Some m.code

-- a machine's world
pub record ShowsWorld (on : Given) (m : Machine) (w : World) : Type 0 where
  pub objects : m.objects ≡ w.objects
  pub transcript : m.transcript ≡ w.transcript
  pub ticks : m.ticks ≡ w.ticks
  pub keys : list_map (λ x. x.key) m.methods ≡ w.keys
  pub given : All (IsGiven on) m.methods
  pub variables : (v : Variable) → value_of on.table m.variables v ≡ w.variables v
  pub sites : (n k : ℕ) (site : Site) → site_in m.sites n k ≡ Some site → IsSite on w.keys n k site

pub record Shows (on : Given) (m : Machine) (s : State) : Type 0 where
  pub contexts : m.contexts ≡ s.contexts
  pub world : ShowsWorld on m s.world

-- a machine came to what a turn says
abbrev pub Came : Given → Turn → Machine → Result (Unit {0}) Halt → Type 0
Came on turn new (Err halt.Memory) = Unit {0}
Came on (Goes s) new (Ok done) = Shows on new s
Came on (Ends end w) new (Err (halt.Ended told)) = (told ≡ end) × ShowsWorld on new w
Came on Stuck new (Err halt.Stuck) = Unit {0}
Came on _ new _ = ⊥

-- ---- parts of steps

pub record IsNew (m : Machine) : Type 0 where
  pub contexts : m.contexts ≡ []
  pub objects : m.objects ≡ no_objects
  pub transcript : m.transcript ≡ []
  pub ticks : m.ticks ≡ 0
  pub methods : m.methods ≡ []
  pub variables : (v : Variable) → value_in m.variables v ≡ None
  pub sites : (n k : ℕ) → site_in m.sites n k ≡ None

abbrev pub Ticks : ℕ → Machine → Machine → Result (Unit {0}) Halt → Type 0
Ticks budget old new (Ok done) = (old.ticks < budget) × (new ≡ record old { ticks = old.ticks + 1 })
Ticks budget old new (Err h) = (budget ≤ old.ticks) × ((new ≡ old) × EndsRun (Stopped (Budget budget)) h)

abbrev pub ChecksDepth : List Context → Result (Unit {0}) Halt → Type 0
ChecksDepth alive (Ok done) = length alive < depth_limit
ChecksDepth alive (Err h) = (depth_limit ≤ length alive) × EndsRun (Stopped Deep) h

-- an object that isn't made stops the run
abbrev pub IsMade : Result Value ObjectFault → Result Value Halt → Type 0
IsMade (Ok v) result = result ≡ Ok v
IsMade (Err (fault.Full held)) (Err h) = EndsRun (Stopped (ObjectsFull held)) h
IsMade (Err (fault.Full held)) (Ok v) = ⊥
IsMade (Err fault.Memory) result = result ≡ Err halt.Memory
IsMade (Err _) result = result ≡ Err halt.Stuck

-- a machine whose world alone was changed, where a part was there
abbrev pub Stores : Given → Option World → Machine → Machine → Result (Unit {0}) Halt → Type 0
Stores on w old new (Err halt.Memory) = Unit {0}
Stores on (Some w) old new (Ok done) = (new.contexts ≡ old.contexts) × ShowsWorld on new w
Stores on None old new (Err halt.Stuck) = Unit {0}
Stores on _ old new _ = ⊥

-- ---- what steps rest on

-- the values of the active context's stack are known, and all that objects hold
pub record TopIsKnown (t : Table) (m : Machine) : Type 0 where
  pub objects : AreKnown t m.objects
  pub stack : (c : Context) (rest : List Context) → m.contexts ≡ c ∷ rest → All (IsKnown t m.objects) c.stack

-- the home of the active context is one
abbrev pub TopHasHome : Machine → Type 0
TopHasHome m = (c : Context) (rest : List Context) (h : ℕ) → m.contexts ≡ c ∷ rest → home_in c.activation ≡ Some h → IsHome (body_at m.objects (Object h))

-- what a run is given suits it
abbrev pub IsSet : Given → Type 0
IsSet on = IsSetting on.table on.methods on.code

-- ---- steps of what is given

abbrev pub pushes : Given → Code → Context → ℕ → List Context → World → Storage → Turn
pushes on = push on.table on.methods on.code on.budget

abbrev pub stores : Given → Code → Context → ℕ → List Context → World → Storage → Value → List Value → Turn
stores on = store on.table on.methods on.code on.budget

abbrev pub sends : Given → List Place → List ℕ → Value → List Value → List Context → World → Turn
sends on = sent on.table on.methods on.code on.budget

abbrev pub places : Given → World → Value → List Place
places on = places_for on.table on.methods on.code on.budget

abbrev pub above : Given → Key → List Place
above on = places_above on.table on.methods on.code on.budget

-- the active context goes on at a place
abbrev pub at_place : Context → ℕ → List Context → World → State
at_place c next rest w = record { contexts = record c { place = next } ∷ rest; world = w }

-- and its stack is another
abbrev pub left_at : Context → ℕ → List Value → List Context → World → State
left_at c next stack rest w = record { contexts = waiting c next stack ∷ rest; world = w }

-- ---- a run that has ended

pub record RanValue : Type 0 where
  pub outcome : Outcome
  pub budget : ℕ

-- the answer is a known value among objects that are known
abbrev pub EndIsKnown : Table → Objects → End → Type 0
EndIsKnown t s (Answer v) = IsKnown t s v
EndIsKnown t s (Stopped stop) = Unit {0}

pub record AnswersKnown (t : Table) (outcome : Outcome) : Type 0 where
  pub answer : EndIsKnown t outcome.objects outcome.end
  pub objects : AreKnown t outcome.objects
