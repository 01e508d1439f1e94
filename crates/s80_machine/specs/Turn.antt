-- What one step comes to, and the parts that steps are made of.
use Rattle.std.specs.Prelude.{ℕ, zero, suc, ℤ, pos, negsuc, ◌==◌, List, [], ◌∷◌, Bool, false, drop, length, nat_lt, Option, Some, None, if◌then◌else◌}
use Rattle.std.specs.Option.{option_map_or}
use Rattle.std.specs.List.{list_any}
use Rattle.s80_base.specs.Literal.{LiteralTree, symbol}
use Rattle.s80_code.specs.declared.code.Code.{Code}
use Rattle.s80_code.specs.declared.instruction.Instruction.{Instruction}
use Rattle.s80_code.specs.declared.instruction.Instruction.TheVariants.{SendSpecial}
use Rattle.s80_code.specs.Entries.{EntryTree, constant}
use Rattle.s80_code.specs.Special.{block_copy}
use Rattle.s80_code.specs.Table.{decoded}
use Rattle.s80_object.specs.declared.value.Value.{Value}
use Rattle.s80_prims.specs.declared.stop.End.{End}
use Rattle.s80_prims.specs.declared.stop.End.TheVariants.{Answer, Stopped}
use Rattle.s80_prims.specs.declared.stop.Stop.{Stop}
use Rattle.s80_prims.specs.declared.stop.Stop.TheVariants.{Budget, CannotReturn, Deep}
use Rattle.s80_machine.specs.World.{World, Activation, own, home, one_tick, is_home_activation, is_activation_of_block}
use Rattle.s80_machine.specs.World as world
use Rattle.s80_machine.specs.Shared.{depth_limit}

-- the method's number, the receiver, the place of the next instruction, and the values on the stack, the top first
pub record Context : Type 0 where
  pub method : ℕ
  pub receiver : Value
  pub activation : Activation
  pub place : ℕ
  pub stack : List Value

-- it goes on at a place, with this stack and an answer on it
abbrev pub waiting : Context → ℕ → List Value → Context
waiting c place stack = record c { place = place; stack = stack }

-- the activation to which that home belongs
abbrev pub is_home : ℕ → Context → Bool
is_home h c = is_home_activation h c.activation

-- the block is active
abbrev pub is_active : ℕ → List Context → Bool
is_active b contexts = list_any (λ c. is_activation_of_block b c.activation) contexts

-- the activations that are alive, the newest first
pub record State : Type 0 where
  pub contexts : List Context
  pub world : World

-- A step goes on or ends the run. Verified code is never stuck.
pub data Turn : Type 0 where
  Goes : State → Turn
  Ends : End → World → Turn
  Stuck : Turn

abbrev pub stops : Stop → World → Turn
stops stop w = Ends (Stopped stop) w

-- goes on with a part that is there
abbrev pub given : {A : Type 0} → Option A → (A → Turn) → Turn
given o go = option_map_or go o Stuck

-- the active context goes on at a place, with this stack
abbrev pub goes_on : Context → ℕ → List Value → List Context → World → Turn
goes_on c place stack rest w = Goes (record { contexts = record c { place = place; stack = stack } ∷ rest; world = w })

-- ---- the stack, the top first

abbrev pub popped : List Value → (Value → List Value → Turn) → Turn
popped [] go = Stuck
popped (v ∷ stack) go = go v stack

-- so many arguments, the last on top, and the receiver below them
abbrev pub message_off : ℕ → List Value → List Value → (Value → List Value → List Value → Turn) → Turn
message_off zero arguments stack go = popped stack (λ r below. go r arguments below)
message_off (suc n) arguments stack go = popped stack (λ v below. message_off n (v ∷ arguments) below go)

-- values pushed, the last on top
abbrev pub pushed_all : List Value → List Value → List Value
pushed_all [] stack = stack
pushed_all (v ∷ vs) stack = pushed_all vs (v ∷ stack)

-- ---- returns

-- a value for the context that waits for it; the last one's is the answer
abbrev pub deliver : Value → List Context → World → Turn
deliver v [] w = Ends (Answer v) w
deliver v (c ∷ rest) w = goes_on c c.place (v ∷ c.stack) rest w

-- past the contexts above a home's
abbrev pub return_home : ℕ → Value → List Context → World → Turn
return_home h v [] w = stops CannotReturn w
return_home h v (c ∷ rest) w = if is_home h c then deliver v rest w else return_home h v rest w

-- a return from the message: from the active context itself, or from its block's home
abbrev pub return_from : Activation → Value → List Context → World → Turn
return_from (own temporaries) v rest w = deliver v rest w
return_from (home h) v rest w = deliver v rest w
return_from (world.block b h) v rest w = return_home h v rest w

-- ---- ticks, and how many activations are alive

abbrev pub ticked : ℕ → World → (World → Turn) → Turn
ticked budget w go = if nat_lt w.ticks budget then go (one_tick w) else stops (Budget budget) w

-- one more activation above these
abbrev pub deeper : List Context → World → Turn → Turn
deeper alive w go = if nat_lt (length alive) depth_limit then go else stops Deep w

-- ---- jumps

abbrev pub place_at : ℤ → Option ℕ
place_at (pos n) = Some n
place_at (negsuc n) = None

-- ---- entries of a literal frame

abbrev pub constant_in : EntryTree → Option LiteralTree
constant_in (constant l) = Some l
constant_in _ = None

abbrev pub selector_in : EntryTree → Option (List ℕ)
selector_in (constant (symbol word)) = Some word
selector_in _ = None

-- ---- special messages

-- ---- blocks

-- a real block begins with 200, the byte of `blockCopy:`
abbrev pub begins_block : Instruction → Bool
begins_block (SendSpecial n) = n == block_copy
begins_block _ = false

-- the instructions of a code from its first byte on
abbrev pub instructions_in : ℕ → List ℕ → List Instruction
instructions_in zero bytes = []
instructions_in (suc count) bytes = option_map_or (λ p. p.0 ∷ instructions_in count (drop p.1 bytes)) (decoded bytes) []

abbrev pub holds_block : Code → Bool
holds_block code = list_any begins_block (instructions_in (length code.bytes) code.bytes)

-- ---- the selector that a symbol is
