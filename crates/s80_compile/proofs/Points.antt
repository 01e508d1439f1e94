-- The instructions of a code one behind another, each with the stack on which it runs and the values on it.
use Rattle.std.proofs.Common.{◌≡◌, ◌≢◌, ℕ, ◌+◌, ◌-◌, ◌≤◌, ◌⊎◌, ℤ, List, [], ◌∷◌, Bool, true, false, slice_get, Some, None}
use Rattle.s80_code.specs.declared.code.Code.{Code}
use Rattle.s80_code.specs.declared.instruction.Instruction.{Instruction}
use Rattle.s80_code.specs.declared.instruction.Instruction.TheVariants.{PushContext, SendSpecial, Jump}
use Rattle.s80_code.specs.Special.{block_copy}
use Rattle.s80_code.specs.Table.{Stands}
use Rattle.s80_verify.specs.declared.stack.Stack.{Stack}
use Rattle.s80_verify.specs.declared.stack.Stack.TheVariants.{OfHome, OfBlock}
use Rattle.s80_verify.specs.Effect.{takes, leaves, distance_of, Goes, Jumps}
use Rattle.s80_verify.specs.Operands.{Suits}
use Rattle.s80_verify.specs.Reach.{Counts}
use Rattle.s80_core.specs.Core.{CoreTree}
use Rattle.s80_core.specs.Measures.{needs}

-- an instruction with the place behind it; inner are the second to the fourth of a block's beginning
pub record Point : Type 0 where
  pub at : ℕ
  pub next : ℕ
  pub instruction : Instruction
  pub stack : Stack
  pub depth : ℕ
  pub inner : Bool

abbrev pub In : List Point → Point → Type 0
In [] point = ⊥
In (first ∷ rest) point = (point ≡ first) ⊎ In rest point

abbrev pub Within : List Point → List Point → Type 0
Within part whole = (point : Point) → In part point → In whole point

-- one behind another, from one place to another
abbrev pub Chain : List ℕ → ℕ → ℕ → List Point → Type 0
Chain bytes p q [] = p ≡ q
Chain bytes p q (point ∷ rest) = (point.at ≡ p) × (Stands bytes point.at point.instruction point.next × Chain bytes point.next q rest)

-- a point of the list stands at a place
pub record IsAt (points : List Point) (at : ℕ) (inner : Bool) : Type 0 where
  pub point : Point
  pub has : In points point
  pub here : point.at ≡ at
  pub kind : point.inner ≡ inner

-- and with so many values on this stack
pub record Meets (points : List Point) (at : ℕ) (stack : Stack) (depth : ℕ) : Type 0 where
  pub point : Point
  pub has : In points point
  pub here : point.at ≡ at
  pub on : point.stack ≡ stack
  pub deep : point.depth ≡ depth

-- the same, where a jump may land
pub record Lands (points : List Point) (at : ℕ) (stack : Stack) (depth : ℕ) : Type 0 where
  pub point : Point
  pub has : In points point
  pub here : point.at ≡ at
  pub on : point.stack ≡ stack
  pub deep : point.depth ≡ depth
  pub plain : point.inner ≡ false

-- a point is the third of the four that begin a block
pub record IsCopy (code : Code) (points : List Point) (point : Point) : Type 0 where
  pub arguments : ℕ
  pub start : ℕ
  pub context : ℕ
  pub push : ℕ
  pub count : Instruction
  pub jump : ℕ
  pub distance : ℤ
  pub byte : ℕ
  pub copies : point.instruction ≡ SendSpecial block_copy
  pub placed : IsAt points context false
  pub is_context : Stands code.bytes context PushContext push
  pub is_count : Stands code.bytes push count point.at
  pub counted : Counts code count arguments
  pub is_copy : Stands code.bytes point.at (SendSpecial block_copy) jump
  pub is_jump : Stands code.bytes jump (Jump distance) start
  pub begun : slice_get code.bytes jump ≡ Some byte
  pub low : 164 ≤ byte
  pub high : byte ≤ 167
  pub push_inner : IsAt points push true
  pub copy_inner : IsAt points point.at true
  pub jump_inner : IsAt points jump true
  pub starts : Meets points start OfBlock arguments

pub record IsOrdinary (code : Code) (point : Point) : Type 0 where
  pub differs : point.instruction ≢ SendSpecial block_copy
  pub suits : Suits code point.at point.stack point.instruction

-- the instruction of a point fits there, and leads to points
pub record IsDone (code : Code) (room : Stack → ℕ) (points : List Point) (point : Point) : Type 0 where
  pub stands : Stands code.bytes point.at point.instruction point.next
  pub enough : takes point.instruction ≤ point.depth
  pub fits : point.depth ≤ room point.stack
  pub kind : IsOrdinary code point ⊎ IsCopy code points point
  pub goes : (to : ℕ) → Goes point.instruction point.next to
      → Meets points to point.stack ((point.depth - takes point.instruction) + leaves point.instruction)
  pub jumps : (to : ℕ) → Jumps point.instruction point.next to → IsAt points to false
  pub jumps_somewhere : distance_of point.instruction ≢ None → (to : ℕ) × Jumps point.instruction point.next to

-- points from the first place up to some other, with all that they lead to
pub record AreDone (code : Code) (room : Stack → ℕ) : Type 0 where
  pub points : List Point
  pub end : ℕ
  pub chain : Chain code.bytes 0 end points
  pub begins : Meets points 0 OfHome 0
  pub done : (point : Point) → In points point → IsDone code room points point

-- the room that a core tree asks for
abbrev pub asked : CoreTree → Stack → ℕ
asked core OfHome = (needs core).here
asked core OfBlock = (needs core).inside
