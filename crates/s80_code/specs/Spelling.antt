-- The shortest spelling of each instruction: the table of instructions, read from right to left.
use Rattle.std.specs.Prelude.{ℕ, ◌≡◌, ◌<◌, ◌+◌, ◌*◌, ◌/◌, ◌%◌, ◌-◌, ℤ, pos, negsuc, List, [], ◌∷◌, slice_range, ◌&&◌, nat_le, nat_lt, if◌then◌else◌}
use Rattle.s80_code.specs.declared.instruction.Storage.{Storage}
use Rattle.s80_code.specs.declared.instruction.Storage.TheVariants.{Receiver, Temporary, Constant, Variable}
use Rattle.s80_code.specs.declared.instruction.Instruction.{Instruction}
use Rattle.s80_code.specs.declared.instruction.Instruction.TheVariants.{Push, Store, PopInto, PushFixed, ReturnFixed, ReturnTop, ReturnFromBlock, Send, SendSuper, SendSpecial, Pop, Duplicate, PushContext, Jump, JumpOnTrue, JumpOnFalse}
use Rattle.s80_code.specs.Table.{Stands}

-- the byte jjkkkkkk that names a storage
abbrev pub operand : Storage → ℕ
operand (Receiver k) = k
operand (Temporary k) = 64 + k
operand (Constant k) = 128 + k
operand (Variable k) = 192 + k

-- one byte, counted from the first of its row, where the number is below a limit; else two bytes
abbrev pub short_below : ℕ → ℕ → ℕ → ℕ → Storage → List ℕ
short_below limit first k long s = if nat_lt k limit then (first + k) ∷ [] else (long ∷ operand s ∷ [])

abbrev pub spelled_push : Storage → List ℕ
spelled_push (Receiver k) = short_below 16 0 k 128 (Receiver k)
spelled_push (Temporary k) = short_below 16 16 k 128 (Temporary k)
spelled_push (Constant k) = short_below 32 32 k 128 (Constant k)
spelled_push (Variable k) = short_below 32 64 k 128 (Variable k)

abbrev pub spelled_pop : Storage → List ℕ
spelled_pop (Receiver k) = short_below 8 96 k 130 (Receiver k)
spelled_pop (Temporary k) = short_below 8 104 k 130 (Temporary k)
spelled_pop s = 130 ∷ operand s ∷ []

-- arguments and selector in one byte jjjkkkkk where they fit, else in a byte each
abbrev pub packed : ℕ → ℕ → ℕ → ℕ → List ℕ
packed short long n k = if nat_lt n 8 && nat_lt k 32 then short ∷ (32 * n + k) ∷ [] else (long ∷ n ∷ k ∷ [])

abbrev pub spelled_send : ℕ → ℕ → List ℕ
spelled_send n k = if nat_lt n 3 && nat_lt k 16 then (208 + 16 * n + k) ∷ [] else packed 131 132 n k

-- a distance in two bytes, the first counted from that of distances below 256
abbrev pub far : ℕ → ℕ → List ℕ
far first d = (first + d / 256) ∷ d % 256 ∷ []

-- a distance from 1 to 8 in one byte, others in two
abbrev pub near : ℕ → ℕ → ℕ → List ℕ
near short first d = if nat_le 1 d && nat_le d 8 then (short + (d - 1)) ∷ [] else far first d

-- a jump back by d + 1 bytes is one of 1,024 - (d + 1) beyond the farthest back
abbrev pub spelled_jump : ℤ → List ℕ
spelled_jump (pos d) = near 144 164 d
spelled_jump (negsuc d) = far 160 (1023 - d)

abbrev pub distance_of : ℤ → ℕ
distance_of (pos d) = d
distance_of (negsuc d) = 0

unfoldable pub spelled : Instruction → List ℕ
spelled (Push s) = spelled_push s
spelled (Store s) = 129 ∷ operand s ∷ []
spelled (PopInto s) = spelled_pop s
spelled (PushFixed k) = (112 + k) ∷ []
spelled (ReturnFixed k) = (120 + k) ∷ []
spelled ReturnTop = 124 ∷ []
spelled ReturnFromBlock = 125 ∷ []
spelled (Send n k) = spelled_send n k
spelled (SendSuper n k) = packed 133 134 n k
spelled (SendSpecial k) = (176 + k) ∷ []
spelled Pop = 135 ∷ []
spelled Duplicate = 136 ∷ []
spelled PushContext = 137 ∷ []
spelled (Jump d) = spelled_jump d
spelled (JumpOnTrue d) = far 168 (distance_of d)
spelled (JumpOnFalse d) = near 152 172 (distance_of d)

-- ---- what has a spelling

-- the number of a storage has six bits
abbrev pub IsSmall : Storage → Type 0
IsSmall (Receiver k) = k < 64
IsSmall (Temporary k) = k < 64
IsSmall (Constant k) = k < 64
IsSmall (Variable k) = k < 64

-- a jump goes over at most 1,023 bytes, or back over at most 1,024
abbrev pub IsInReach : ℤ → Type 0
IsInReach (pos d) = d < 1024
IsInReach (negsuc d) = d < 1024

abbrev pub IsAhead : ℤ → Type 0
IsAhead (pos d) = d < 1024
IsAhead (negsuc d) = ⊥

-- the numbers of an instruction are among those that the table has
abbrev pub IsSpellable : Instruction → Type 0
IsSpellable (Push s) = IsSmall s
IsSpellable (Store s) = IsSmall s
IsSpellable (PopInto s) = IsSmall s
IsSpellable (PushFixed k) = k < 8
IsSpellable (ReturnFixed k) = k < 4
IsSpellable (Send n k) = (n < 256) × (k < 256)
IsSpellable (SendSuper n k) = (n < 256) × (k < 256)
IsSpellable (SendSpecial k) = k < 32
IsSpellable (Jump d) = IsInReach d
IsSpellable (JumpOnTrue d) = IsAhead d
IsSpellable (JumpOnFalse d) = IsAhead d
IsSpellable _ = Unit {0}

-- at a place stands an instruction in its shortest spelling, and behind it is the next place
pub record Written (bytes : List ℕ) (at : ℕ) (instruction : Instruction) (next : ℕ) : Type 0 where
  pub stands : Stands bytes at instruction next
  pub here : slice_range bytes at next ≡ spelled instruction
