-- What each instruction takes from the stack and leaves on it, and where it goes on.
use Rattle.std.specs.Prelude.{◌≡◌, ℕ, ◌+◌, ℤ, pos, ◌+ℤ◌, ◌⊎◌, get_or, Bool, true, false, Option, Some, None}
use Rattle.s80_code.specs.declared.instruction.Instruction.{Instruction}
use Rattle.s80_code.specs.declared.instruction.Instruction.TheVariants.{Push, Store, PopInto, PushFixed, ReturnFixed, ReturnTop, ReturnFromBlock, Send, SendSuper, SendSpecial, Pop, Duplicate, PushContext, Jump, JumpOnTrue, JumpOnFalse}
use Rattle.s80_code.specs.Special.{special_arguments}

-- how many values it takes; a message takes its receiver and its arguments
abbrev pub takes : Instruction → ℕ
takes (Push storage) = 0
takes (Store storage) = 1
takes (PopInto storage) = 1
takes (PushFixed number) = 0
takes (ReturnFixed number) = 0
takes ReturnTop = 1
takes ReturnFromBlock = 1
takes (Send arguments selector) = arguments + 1
takes (SendSuper arguments selector) = arguments + 1
takes (SendSpecial number) = get_or special_arguments number 0 + 1
takes Pop = 1
takes Duplicate = 1
takes PushContext = 0
takes (Jump distance) = 0
takes (JumpOnTrue distance) = 1
takes (JumpOnFalse distance) = 1

-- how many values it leaves
abbrev pub leaves : Instruction → ℕ
leaves (Push storage) = 1
leaves (Store storage) = 1
leaves (PopInto storage) = 0
leaves (PushFixed number) = 1
leaves (ReturnFixed number) = 0
leaves ReturnTop = 0
leaves ReturnFromBlock = 0
leaves (Send arguments selector) = 1
leaves (SendSuper arguments selector) = 1
leaves (SendSpecial number) = 1
leaves Pop = 0
leaves Duplicate = 2
leaves PushContext = 1
leaves (Jump distance) = 0
leaves (JumpOnTrue distance) = 0
leaves (JumpOnFalse distance) = 0

-- it goes on at the place behind it; a return ends its path, and a jump without a test goes elsewhere
abbrev pub goes_on : Instruction → Bool
goes_on (ReturnFixed number) = false
goes_on ReturnTop = false
goes_on ReturnFromBlock = false
goes_on (Jump distance) = false
goes_on _ = true

-- how far it jumps
abbrev pub distance_of : Instruction → Option ℤ
distance_of (Jump distance) = Some distance
distance_of (JumpOnTrue distance) = Some distance
distance_of (JumpOnFalse distance) = Some distance
distance_of _ = None

-- it jumps from the place behind it to a place
abbrev pub Jumps : Instruction → ℕ → ℕ → Type 0
Jumps i next to = (distance : ℤ) × (distance_of i ≡ Some distance) × (pos to ≡ pos next +ℤ distance)

-- where it goes on
abbrev pub Goes : Instruction → ℕ → ℕ → Type 0
Goes i next to = ((goes_on i ≡ true) × (to ≡ next)) ⊎ Jumps i next to
