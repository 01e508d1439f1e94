-- What the code keeps of a search.
use Rattle.std.specs.Prelude.{◌≡◌, ◌≢◌, ℕ, zero, suc, ◌+◌, ℤ, pos, slice_set, ◌<◌, ◌≤◌, ◌⊎◌, ◌↔◌, Bool, true, List, [], ◌∷◌, length, slice_get, take, Option, Some, None}
use Rattle.s80_code.specs.declared.code.Code.{Code}
use Rattle.s80_code.specs.declared.instruction.Instruction.{Instruction}
use Rattle.s80_code.specs.declared.instruction.Instruction.TheVariants.{Jump}
use Rattle.s80_code.specs.Table.{Stands}
use Rattle.s80_verify.specs.declared.stack.Stack.{Stack}
use Rattle.s80_verify.specs.declared.stack.Stack.TheVariants.{OfHome, OfBlock}
use Rattle.s80_verify.specs.declared.point.Point.{Point}
use Rattle.s80_verify.specs.declared.point.Marks.{Marks}
use Rattle.s80_verify.specs.declared.search.Found.{Found}
use Rattle.s80_verify.specs.declared.search.Steps.{Steps}
use Rattle.s80_verify.specs.declared.operands.Beginning.{Beginning}
use Rattle.s80_verify.specs.Effect.{distance_of, Jumps}
use Rattle.s80_verify.specs.Reach.{IsPlace, IsInstruction, Counts, Begins, Leads, Reached}
use Rattle.s80_verify.specs.Fault.{room_of, taken}
use Rattle.s80_verify.specs.Record.{Fits}

-- what an array holds at a place
abbrev pub held : {A : Type 0} → Option (Option A) → Option A
held None = None
held (Some o) = o

-- the array gives, for each place, where the instruction stands that ends there
abbrev pub IsBefore : List (Option ℕ) → ℕ → Option ℕ → Type 0
IsBefore before at result = result ≡ held (slice_get before at)

pub record ArePlaces (bytes : List ℕ) (before : List (Option ℕ)) : Type 0 where
  pub sound : (at from : ℕ) → held (slice_get before at) ≡ Some from → IsPlace bytes from × ((i : Instruction) × Stands bytes from i at)
  pub whole : (at from : ℕ) (i : Instruction) → IsPlace bytes from → Stands bytes from i at → held (slice_get before at) ≡ Some from

-- the same, of the instructions before a place
pub record PlacesSoFar (bytes : List ℕ) (before : List (Option ℕ)) (next : ℕ) : Type 0 where
  pub long : length before ≡ 1024
  pub placed : IsPlace bytes next
  pub sound : (at from : ℕ) → held (slice_get before at) ≡ Some from → IsPlace bytes from × ((i : Instruction) × Stands bytes from i at)
  pub whole : (at from : ℕ) (i : Instruction) → IsPlace bytes from → Stands bytes from i at → at ≤ next → held (slice_get before at) ≡ Some from

abbrev pub depths_of : Marks → Stack → List (Option ℕ)
depths_of marks OfHome = marks.home
depths_of marks OfBlock = marks.block

-- the depth of a place
abbrev pub depth_in : Marks → Stack → ℕ → Option ℕ
depth_in marks stack at = held (slice_get (depths_of marks stack) at)

-- how many are not set
abbrev pub blanks : List (Option ℕ) → ℕ
blanks [] = 0
blanks (None ∷ rest) = suc (blanks rest)
blanks (Some depth ∷ rest) = blanks rest

abbrev pub free : Marks → ℕ
free marks = blanks marks.home + blanks marks.block

-- on some stack the place of a point has another depth
abbrev pub Clashes : Marks → Point → Type 0
Clashes marks point = (stack : Stack) × (another : ℕ) × (depth_in marks stack point.at ≡ Some another) × (point.depth ≢ another)

-- one depth is set, and the others stay
pub record Sets (old new : Marks) (point : Point) : Type 0 where
  pub here : depth_in new point.stack point.at ≡ Some point.depth
  pub there : (stack : Stack) (at : ℕ) → (stack ≢ point.stack) ⊎ (at ≢ point.at) → depth_in new stack at ≡ depth_in old stack at
  pub fewer : free new + 1 ≡ free old

-- a point of the list is reached, is marked, and stands within the bytes and the room
pub record IsKnown (code : Code) (marks : Marks) (point : Point) : Type 0 where
  pub reached : Reached code point.at point.stack point.depth
  pub marked : depth_in marks point.stack point.at ≡ Some point.depth
  pub within : point.at ≤ length code.bytes
  pub room : taken code point.stack point.depth ≤ room_of code

abbrev pub point_at : ℕ → Stack → ℕ → Point
point_at at stack depth = record { at = at; stack = stack; depth = depth }

-- the list and the marks say the same, and a place has one depth
pub record IsSound (code : Code) (found : Found) : Type 0 where
  pub known : (k : ℕ) (point : Point) → slice_get found.points k ≡ Some point → IsKnown code found.marks point
  pub listed : (stack : Stack) (at depth : ℕ) → depth_in found.marks stack at ≡ Some depth
      → (k : ℕ) × (slice_get found.points k ≡ Some (point_at at stack depth))
  pub one : (stack other : Stack) (at depth another : ℕ) → depth_in found.marks stack at ≡ Some depth
      → depth_in found.marks other at ≡ Some another → depth ≡ another
  pub count : length found.points + free found.marks ≡ 2048

-- what was marked stays so, and what was listed stays in front
pub record Grows (old new : Found) : Type 0 where
  pub marks : (stack : Stack) (at depth : ℕ) → depth_in old.marks stack at ≡ Some depth → depth_in new.marks stack at ≡ Some depth
  pub points : (k : ℕ) (point : Point) → slice_get old.points k ≡ Some point → slice_get new.points k ≡ Some point

-- the instruction at a point fits there, and where it leads is marked
pub record IsDone (code : Code) (marks : Marks) (point : Point) : Type 0 where
  pub fits : Fits code point.at point.stack point.depth
  pub closed : (other : Stack) (to after : ℕ) → Leads code point.at point.stack point.depth to other after
      → depth_in marks other to ≡ Some after

-- the first so many points of the list are done
abbrev pub AreDone : Code → Found → ℕ → Type 0
AreDone code found n = (k : ℕ) (point : Point) → suc k ≤ n → slice_get found.points k ≡ Some point → IsDone code found.marks point

-- the depths that were found
abbrev pub depths_in : Found → Stack → ℕ → Option ℕ
depths_in found stack at = depth_in found.marks stack at

-- a place stands between the four instructions of a block's beginning that was found
pub record IsBetween (code : Code) (found : Found) (place : ℕ) : Type 0 where
  pub stack : Stack
  pub at : ℕ
  pub depth : ℕ
  pub marked : depth_in found.marks stack at ≡ Some depth
  pub arguments : ℕ
  pub start : ℕ
  pub begins : Begins code at arguments start
  pub here : (place ≡ begins.push) ⊎ ((place ≡ at) ⊎ (place ≡ begins.jump))

-- what is known of the beginning of a block by its 200: it is the only one
pub record IsBegun (code : Code) (at : ℕ) (block : Beginning) : Type 0 where
  pub begins : Begins code at block.arguments block.start
  pub push : begins.push ≡ block.push
  pub jump : begins.jump ≡ block.jump
  pub only : (arguments start : ℕ) → (b : Begins code at arguments start)
      → (arguments ≡ block.arguments) × (start ≡ block.start) × (b.push ≡ block.push) × (b.jump ≡ block.jump)

abbrev pub IsBeginning : Code → ℕ → Option Beginning → Type 0
IsBeginning code at None = (arguments start : ℕ) → Begins code at arguments start → ⊥
IsBeginning code at (Some block) = IsBegun code at block

-- an instruction at a place pushes this SmallInteger, from 0 to 31
pub record CountsAt (code : Code) (at n : ℕ) : Type 0 where
  pub count : Instruction
  pub next : ℕ
  pub stands : Stands code.bytes at count next
  pub counts : Counts code count n

-- a jump by one of the bytes 164 to 167, and the place behind it
pub record JumpsLong (bytes : List ℕ) (at start : ℕ) : Type 0 where
  pub byte : ℕ
  pub distance : ℤ
  pub begun : slice_get bytes at ≡ Some byte
  pub low : 164 ≤ byte
  pub high : byte ≤ 167
  pub is_jump : Stands bytes at (Jump distance) start

abbrev pub IsLongJump : List ℕ → ℕ → Option ℕ → Type 0
IsLongJump bytes at None = (start : ℕ) → JumpsLong bytes at start → ⊥
IsLongJump bytes at (Some start) = JumpsLong bytes at start

-- a place at a number, or none below 1,024
abbrev pub LandsAt : ℤ → Option ℕ → Type 0
LandsAt z None = (to : ℕ) → to < 1024 → pos to ≡ z → ⊥
LandsAt z (Some to) = pos to ≡ z

-- where an instruction of the code jumps to, which is an instruction too
abbrev pub IsTarget : Code → Instruction → ℕ → Option ℕ → Type 0
IsTarget code i next None = distance_of i ≡ None
IsTarget code i next (Some to) = Jumps i next to × IsInstruction code.bytes to

-- where a point leads is one of the steps
abbrev pub IsStep : Steps → Point → Type 0
IsStep steps point = (steps.behind ≡ Some point) ⊎ ((steps.jump ≡ Some point) ⊎ (steps.block ≡ Some point))

pub record AreSteps (code : Code) (from : Point) (steps : Steps) : Type 0 where
  pub each : (point : Point) → IsStep steps point
      → Leads code from.at from.stack from.depth point.at point.stack point.depth × (point.at ≤ length code.bytes)
  pub whole : (other : Stack) (to after : ℕ) → Leads code from.at from.stack from.depth to other after
      → IsStep steps (point_at to other after)

-- no jump from a place lands between
abbrev pub JumpsClear : Code → Found → ℕ → Type 0
JumpsClear code found at = (i : Instruction) (next to : ℕ) → Stands code.bytes at i next → Jumps i next to → IsBetween code found to → ⊥

-- the array tells the places between, of the first so many points
abbrev pub AreBetween : Code → Found → List Bool → Type 0
AreBetween code found between = (place : ℕ) → (slice_get between place ≡ Some true) ↔ IsBetween code found place

-- three places are set, if there is a block's beginning
abbrev pub SetsBetween : List Bool → List Bool → ℕ → Option Beginning → Type 0
SetsBetween old new at None = new ≡ old
SetsBetween old new at (Some block) = new ≡ slice_set (slice_set (slice_set old block.push true) at true) block.jump true

-- the search so far
pub record Searched (code : Code) (found : Found) (next : ℕ) : Type 0 where
  pub sound : IsSound code found
  pub done : AreDone code found next
  pub start : depth_in found.marks OfHome 0 ≡ Some 0

-- the places between, of the first so many points
pub record BetweenSoFar (code : Code) (found : Found) (between : List Bool) (next : ℕ) : Type 0 where
  pub long : length between ≡ 1024
  pub sound : (place : ℕ) → slice_get between place ≡ Some true → IsBetween code found place
  pub whole : (k : ℕ) (point : Point) → suc k ≤ next → slice_get found.points k ≡ Some point
      → (arguments start : ℕ) (b : Begins code point.at arguments start) (place : ℕ)
      → (place ≡ b.push) ⊎ ((place ≡ point.at) ⊎ (place ≡ b.jump)) → slice_get between place ≡ Some true

-- the first so many points jump clear
abbrev pub ClearSoFar : Code → Found → ℕ → Type 0
ClearSoFar code found next = (k : ℕ) (point : Point) → suc k ≤ next → slice_get found.points k ≡ Some point → JumpsClear code found point.at
