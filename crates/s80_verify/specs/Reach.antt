-- Which places of a code are reached, on whose stack, and with how many values on it.
use Rattle.std.specs.Prelude.{◌≡◌, ℕ, zero, suc, ◌+◌, ◌-◌, ◌<◌, ◌≤◌, ℤ, pos, ◌⊎◌, List, slice_get, Some}
use Rattle.s80_base.specs.Literal.{small}
use Rattle.s80_code.specs.declared.code.Code.{Code}
use Rattle.s80_code.specs.declared.instruction.Storage.TheVariants.{Constant}
use Rattle.s80_code.specs.declared.instruction.Instruction.{Instruction}
use Rattle.s80_code.specs.declared.instruction.Instruction.TheVariants.{Push, PushFixed, PushContext, SendSpecial, Jump}
use Rattle.s80_code.specs.Entries.{constant, entries_of}
use Rattle.s80_code.specs.Special.{block_copy}
use Rattle.s80_code.specs.Table.{Stands}
use Rattle.s80_verify.specs.declared.stack.Stack.{Stack}
use Rattle.s80_verify.specs.declared.stack.Stack.TheVariants.{OfHome, OfBlock}
use Rattle.s80_verify.specs.Effect.{takes, leaves, Goes}

-- the place behind so many instructions from the beginning on
abbrev pub IsPlaceAfter : List ℕ → ℕ → ℕ → Type 0
IsPlaceAfter bytes zero at = at ≡ 0
IsPlaceAfter bytes (suc n) at = (before : ℕ) × (i : Instruction) × IsPlaceAfter bytes n before × Stands bytes before i at

abbrev pub IsPlace : List ℕ → ℕ → Type 0
IsPlace bytes at = (n : ℕ) × IsPlaceAfter bytes n at

-- an instruction of the code stands at a place, and not only inside another
abbrev pub IsInstruction : List ℕ → ℕ → Type 0
IsInstruction bytes at = IsPlace bytes at × ((i : Instruction) × (next : ℕ) × Stands bytes at i next)

-- an instruction pushes this SmallInteger, from 0 to 31
abbrev pub Counts : Code → Instruction → ℕ → Type 0
Counts code (PushFixed number) n = (number ≡ n + 5) × (n ≤ 2)
Counts code (Push (Constant number)) n = (slice_get (entries_of code.literals) number ≡ Some (constant (small (pos n)))) × (n ≤ 31)
Counts code _ n = ⊥

-- the four instructions that begin a real block: 137, a push of the number of its arguments, 200, and a jump by one of
-- the bytes 164 to 167 over the block to the place behind that jump's bytes, where the block begins
pub record Begins (code : Code) (at arguments start : ℕ) : Type 0 where
  pub context : ℕ
  pub push : ℕ
  pub count : Instruction
  pub jump : ℕ
  pub distance : ℤ
  pub byte : ℕ
  pub placed : IsPlace code.bytes context
  pub is_context : Stands code.bytes context PushContext push
  pub is_count : Stands code.bytes push count at
  pub counted : Counts code count arguments
  pub is_copy : Stands code.bytes at (SendSpecial block_copy) jump
  pub is_jump : Stands code.bytes jump (Jump distance) start
  pub begun : slice_get code.bytes jump ≡ Some byte
  pub low : 164 ≤ byte
  pub high : byte ≤ 167

-- one step: an instruction that finds what it takes goes on, on the same stack
pub record Continues (code : Code) (at : ℕ) (stack : Stack) (depth : ℕ) (to : ℕ) (other : Stack) (after : ℕ) : Type 0 where
  pub instruction : Instruction
  pub next : ℕ
  pub stands : Stands code.bytes at instruction next
  pub enough : takes instruction ≤ depth
  pub leads : Goes instruction next to
  pub same : other ≡ stack
  pub left : after ≡ (depth - takes instruction) + leaves instruction

-- and a 200 leads to its block's beginning as well, on the block's own stack with its arguments on it
abbrev pub Leads : Code → ℕ → Stack → ℕ → ℕ → Stack → ℕ → Type 0
Leads code at stack depth to other after =
    Continues code at stack depth to other after ⊎ ((other ≡ OfBlock) × Begins code at after to)

-- reached in so many steps from the beginning, with an empty stack there
abbrev pub ReachedIn : Code → ℕ → ℕ → Stack → ℕ → Type 0
ReachedIn code zero at stack depth = (at ≡ 0) × (stack ≡ OfHome) × (depth ≡ 0)
ReachedIn code (suc n) at stack depth =
    (before : ℕ) × (under : Stack) × (held : ℕ) × ReachedIn code n before under held × Leads code before under held at stack depth

abbrev pub Reached : Code → ℕ → Stack → ℕ → Type 0
Reached code at stack depth = (n : ℕ) × ReachedIn code n at stack depth

abbrev pub IsReached : Code → ℕ → Type 0
IsReached code at = (stack : Stack) × (depth : ℕ) × Reached code at stack depth
