-- Steps that change the active context alone, and at most objects and ticks beside it.
use Rattle.std.specs.Prelude.{◌≡◌, ℕ, zero, suc, List, ◌∷◌, drop, Bool, MatchBool, Option, None}
use Rattle.s80_code.specs.declared.code.Code.{Code}
use Rattle.s80_code.specs.declared.instruction.Instruction.{Instruction}
use Rattle.s80_code.specs.declared.instruction.Storage.{Storage}
use Rattle.s80_code.specs.declared.instruction.Storage.TheVariants.{Receiver, Temporary}
use Rattle.s80_code.specs.Table.{decoded}
use Rattle.s80_object.specs.Objects.{State as Objects}
use Rattle.s80_object.specs.declared.value.Value.{Value}
use Rattle.s80_machine.specs.World.{World, receiver_variable, temporary}
use Rattle.s80_machine.specs.Turn.{Context, Goes, State}
use Rattle.s80_machine.specs.Step.{act, turn, turn_at}
use Rattle.s80_machine.specs.Seen.{Given}

-- an activation, and what its instructions may change beside it
pub record Local : Type 0 where
  pub context : Context
  pub objects : Objects
  pub ticks : ℕ

abbrev pub local : Context → Objects → ℕ → Local
local c objects ticks = record { context = c; objects = objects; ticks = ticks }

abbrev pub world_of : Local → World → World
world_of l w = record w { objects = l.objects; ticks = l.ticks }

abbrev pub state_of : Local → List Context → World → State
state_of l rest w = record { contexts = l.context ∷ rest; world = world_of l w }

module _ (on : Given) (code : Code) where
  -- an instruction leads from one to the other, whatever waits below and whatever else the world has
  pub record Leads (i : Instruction) (next : ℕ) (old new : Local) : Type 0 where
    pub method : new.context.method ≡ old.context.method
    pub step : (rest : List Context) (w : World) → act on.table on.methods on.code on.budget code old.context next rest (world_of old w) i ≡ Goes (state_of new rest w)

  -- it does so, or nothing is changed
  abbrev pub Tries : Instruction → ℕ → Local → Local → Bool → Type 0
  Tries i next old new done = MatchBool done (Leads i next old new) (new ≡ old)

  -- the instruction that stands at its place leads from one to the other
  pub record LeadsOn (old new : Local) : Type 0 where
    pub method : new.context.method ≡ old.context.method
    pub step : (rest : List Context) (w : World)
        → turn_at on.table on.methods on.code on.budget old.context rest (world_of old w) code (decoded (drop old.context.place code.bytes)) ≡ Goes (state_of new rest w)

  -- so many of them do
  abbrev pub LeadsFar : ℕ → Local → Local → Type 0
  LeadsFar zero old new = new ≡ old
  LeadsFar (suc n) old new = (between : Local) × LeadsFar n old between × LeadsOn between new

-- so many steps lead from one state to another
abbrev pub Reaches : Given → ℕ → State → State → Type 0
Reaches on zero s t = t ≡ s
Reaches on (suc n) s t = (between : State) × Reaches on n s between × (turn on.table on.methods on.code on.budget between ≡ Goes t)

-- a variable of the receiver, where that is an object, or a temporary
abbrev pub stored_in : World → Context → Storage → Option Value
stored_in w c (Receiver i) = receiver_variable w c.receiver i
stored_in w c (Temporary i) = temporary w c.activation i
stored_in w c _ = None
