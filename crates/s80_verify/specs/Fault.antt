-- What is wrong with a code, and at which place; and code in which nothing is.
use Rattle.std.specs.Prelude.{◌≡◌, ◌≢◌, ℕ, ◌+◌, ◌<◌, ◌⊎◌, List, Bool, true, false, if◌then◌else◌, length, slice_get, Some, None}
use Rattle.s80_code.specs.declared.code.Code.{Code}
use Rattle.s80_code.specs.declared.instruction.Instruction.{Instruction}
use Rattle.s80_code.specs.Table.{Stands, is_unused, width_of}
use Rattle.s80_verify.specs.declared.stack.Stack.{Stack}
use Rattle.s80_verify.specs.declared.stack.Stack.TheVariants.{OfHome, OfBlock}
use Rattle.s80_verify.specs.declared.fault.VerifyKind.{VerifyKind}
use Rattle.s80_verify.specs.declared.fault.VerifyKind.TheVariants.{Header, TooLong, Unused, Short, JumpTarget, StackLow, StackHigh, StackDiffers, Operand, Falls}
use Rattle.s80_verify.specs.Effect.{takes, distance_of, Jumps}
use Rattle.s80_verify.specs.Header.{HeaderFits}
use Rattle.s80_verify.specs.Reach.{IsInstruction, IsReached, Reached}
use Rattle.s80_verify.specs.Operands.{Suits, LandsBetween}

-- the room of a context's temporaries and values together
abbrev pub room_of : Code → ℕ
room_of code = if code.large then 32 else 12

-- what they take up: a home has its temporaries beside its stack, and a block has none of its own
abbrev pub taken : Code → Stack → ℕ → ℕ
taken code OfHome depth = code.temporaries + depth
taken code OfBlock depth = depth

-- an instruction stands at a place that is reached
pub record RunsAt (code : Code) (at : ℕ) : Type 0 where
  pub stack : Stack
  pub depth : ℕ
  pub instruction : Instruction
  pub next : ℕ
  pub reached : Reached code at stack depth
  pub stands : Stands code.bytes at instruction next

-- an unused byte stands at a place; the bytes end inside the instruction that begins there
abbrev pub IsUnused : List ℕ → ℕ → Type 0
IsUnused bytes at = (byte : ℕ) × (slice_get bytes at ≡ Some byte) × (is_unused byte ≡ true)

abbrev pub IsCutOff : List ℕ → ℕ → Type 0
IsCutOff bytes at = (byte : ℕ) × (slice_get bytes at ≡ Some byte) × (is_unused byte ≡ false) × (length bytes < at + width_of byte)

-- a code has this fault at this place
abbrev pub Fails : Code → VerifyKind → ℕ → Type 0
Fails code Header at = (at ≡ 0) × (HeaderFits code → ⊥)
Fails code TooLong at = (at ≡ 1023) × (1023 < length code.bytes)
Fails code Unused at = IsReached code at × IsUnused code.bytes at
Fails code Short at = IsReached code at × IsCutOff code.bytes at
Fails code JumpTarget at =
    (run : RunsAt code at) × (distance_of run.instruction ≢ None)
    × ((to : ℕ) → Jumps run.instruction run.next to → IsInstruction code.bytes to → ⊥)
Fails code StackLow at = (run : RunsAt code at) × (run.depth < takes run.instruction)
Fails code StackHigh at =
    (stack : Stack) × (depth : ℕ) × Reached code at stack depth × (room_of code < taken code stack depth)
Fails code StackDiffers at =
    (stack other : Stack) × (depth another : ℕ) × Reached code at stack depth × Reached code at other another × (depth ≢ another)
Fails code Operand at =
    (run : RunsAt code at) × ((Suits code at run.stack run.instruction → ⊥) ⊎ LandsBetween code run.instruction run.next)
Fails code Falls at = IsReached code at × (at ≡ length code.bytes)

-- code without a fault
abbrev pub IsVerified : Code → Type 0
IsVerified code = (kind : VerifyKind) (at : ℕ) → Fails code kind at → ⊥
