-- Code with a depth at each place that it comes to.
use Rattle.std.specs.Prelude.{◌≡◌, ℕ, ◌≤◌, ◌≢◌, ◌⊎◌, Option, Some, None, length}
use Rattle.s80_code.specs.declared.code.Code.{Code}
use Rattle.s80_code.specs.declared.instruction.Instruction.{Instruction}
use Rattle.s80_code.specs.Table.{Stands}
use Rattle.s80_verify.specs.declared.stack.Stack.{Stack}
use Rattle.s80_verify.specs.declared.stack.Stack.TheVariants.{OfHome}
use Rattle.s80_verify.specs.Effect.{takes, distance_of, Jumps}
use Rattle.s80_verify.specs.Reach.{IsInstruction, Begins, Leads}
use Rattle.s80_verify.specs.Operands.{Suits}
use Rattle.s80_verify.specs.Fault.{room_of, taken}
use Rattle.s80_verify.specs.Header.{HeaderFits}

-- an instruction of the code that fits a place, with so many values on this stack
pub record Fits (code : Code) (at : ℕ) (stack : Stack) (depth : ℕ) : Type 0 where
  pub instruction : Instruction
  pub next : ℕ
  pub stands : Stands code.bytes at instruction next
  pub enough : takes instruction ≤ depth
  pub room : taken code stack depth ≤ room_of code
  pub suits : Suits code at stack instruction
  pub lands : distance_of instruction ≢ None → (to : ℕ) × Jumps instruction next to × IsInstruction code.bytes to

-- a depth for some places on some stacks, the start among them: one for each place, and each instruction fits its own and
-- leads to others
pub record Depths (code : Code) (depth_at : Stack → ℕ → Option ℕ) : Type 0 where
  pub start : depth_at OfHome 0 ≡ Some 0
  pub one : (stack other : Stack) (at depth another : ℕ) → depth_at stack at ≡ Some depth → depth_at other at ≡ Some another → depth ≡ another
  pub fits : (stack : Stack) (at depth : ℕ) → depth_at stack at ≡ Some depth → Fits code at stack depth
  pub closed : (stack other : Stack) (at depth to after : ℕ) → depth_at stack at ≡ Some depth
      → Leads code at stack depth to other after → depth_at other to ≡ Some after

-- no jump lands between the four instructions of a block's beginning
abbrev pub IsClear : Code → (Stack → ℕ → Option ℕ) → Type 0
IsClear code depth_at =
    (stack other : Stack) (from next to at arguments start : ℕ) (i : Instruction)
    → depth_at stack from ≢ None → Stands code.bytes from i next → Jumps i next to
    → depth_at other at ≢ None → (b : Begins code at arguments start)
    → (to ≡ b.push) ⊎ ((to ≡ at) ⊎ (to ≡ b.jump)) → ⊥

-- such depths are known of the code
pub record HasDepths (code : Code) : Type 0 where
  pub header : HeaderFits code
  pub short : length code.bytes ≤ 1023
  pub depth_at : Stack → ℕ → Option ℕ
  pub depths : Depths code depth_at
  pub clear : IsClear code depth_at
