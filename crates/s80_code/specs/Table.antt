-- The table of instructions.
use Rattle.std.specs.Prelude.{ℕ, ◌≡◌, ◌+◌, ◌-◌, ◌*◌, ◌/◌, ◌%◌, ◌==◌, pos, ◌+ℤ◌, ◌-ℤ◌, ◌*ℤ◌, List, [], ◌∷◌, Bool, ◌&&◌, ◌||◌, nat_le, drop, Option, Some, None, find, option_and_then, if◌then◌else◌}
use Rattle.std.specs.Option.{option_map_or}
use Rattle.s80_code.specs.declared.instruction.Storage.{Storage}
use Rattle.s80_code.specs.declared.instruction.Storage.TheVariants.{Receiver, Temporary, Constant, Variable}
use Rattle.s80_code.specs.declared.instruction.Instruction.{Instruction}
use Rattle.s80_code.specs.declared.instruction.Instruction.TheVariants.{Push, Store, PopInto, PushFixed, ReturnFixed, ReturnTop, ReturnFromBlock, Send, SendSuper, SendSpecial, Pop, Duplicate, PushContext, Jump, JumpOnTrue, JumpOnFalse}

-- an instruction of one byte, of two or of three, each by the number of its first byte within the row and by the bytes behind it
pub data Form : Type 0 where
  alone : (ℕ → Instruction) → Form
  with_one : (ℕ → ℕ → Instruction) → Form
  with_two : (ℕ → ℕ → ℕ → Instruction) → Form

pub record Row : Type 0 where
  pub first : ℕ
  pub last : ℕ
  pub form : Form

abbrev pub row : ℕ → ℕ → Form → Row
row first last form = record { first = first; last = last; form = form }

-- the storage that a byte jjkkkkkk names
abbrev pub storage : ℕ → Storage
storage b =
    if b / 64 == 0 then Receiver (b % 64) else
    (if b / 64 == 1 then Temporary (b % 64) else
    (if b / 64 == 2 then Constant (b % 64) else Variable (b % 64)))

-- the table: first byte, last byte, and what these bytes are
abbrev pub rows : List Row
rows =
    row 0 15 (alone (λ i. Push (Receiver i)))
    ∷ row 16 31 (alone (λ i. Push (Temporary i)))
    ∷ row 32 63 (alone (λ i. Push (Constant i)))
    ∷ row 64 95 (alone (λ i. Push (Variable i)))
    ∷ row 96 103 (alone (λ i. PopInto (Receiver i)))
    ∷ row 104 111 (alone (λ i. PopInto (Temporary i)))
    ∷ row 112 119 (alone (λ i. PushFixed i))
    ∷ row 120 123 (alone (λ i. ReturnFixed i))
    ∷ row 124 124 (alone (λ _. ReturnTop))
    ∷ row 125 125 (alone (λ _. ReturnFromBlock))
    ∷ row 128 128 (with_one (λ _ b. Push (storage b)))
    ∷ row 129 129 (with_one (λ _ b. Store (storage b)))
    ∷ row 130 130 (with_one (λ _ b. PopInto (storage b)))
    ∷ row 131 131 (with_one (λ _ b. Send (b / 32) (b % 32)))
    ∷ row 132 132 (with_two (λ _ b c. Send b c))
    ∷ row 133 133 (with_one (λ _ b. SendSuper (b / 32) (b % 32)))
    ∷ row 134 134 (with_two (λ _ b c. SendSuper b c))
    ∷ row 135 135 (alone (λ _. Pop))
    ∷ row 136 136 (alone (λ _. Duplicate))
    ∷ row 137 137 (alone (λ _. PushContext))
    ∷ row 144 151 (alone (λ i. Jump (pos (i + 1))))
    ∷ row 152 159 (alone (λ i. JumpOnFalse (pos (i + 1))))
    ∷ row 160 167 (with_one (λ i b. Jump ((pos i -ℤ pos 4) *ℤ pos 256 +ℤ pos b)))
    ∷ row 168 171 (with_one (λ i b. JumpOnTrue (pos (i * 256 + b))))
    ∷ row 172 175 (with_one (λ i b. JumpOnFalse (pos (i * 256 + b))))
    ∷ row 176 207 (alone (λ i. SendSpecial i))
    ∷ row 208 223 (alone (λ i. Send 0 i))
    ∷ row 224 239 (alone (λ i. Send 1 i))
    ∷ row 240 255 (alone (λ i. Send 2 i))
    ∷ []

-- the byte stands in the row
abbrev pub has : ℕ → Row → Bool
has b r = nat_le r.first b && nat_le b r.last

-- the row of a byte
unfoldable pub row_of : ℕ → Option Row
row_of b = find (has b) rows

-- the instruction of this form with these bytes behind it, and its width
abbrev pub formed : Form → ℕ → List ℕ → Option (Instruction × ℕ)
formed (alone f) i behind = Some (f i, 1)
formed (with_one f) i [] = None
formed (with_one f) i (b ∷ behind) = Some (f i b, 2)
formed (with_two f) i [] = None
formed (with_two f) i (b ∷ []) = None
formed (with_two f) i (b ∷ c ∷ behind) = Some (f i b c, 3)

-- the instruction at the front of these bytes, and its width
abbrev pub decoded : List ℕ → Option (Instruction × ℕ)
decoded [] = None
decoded (b ∷ behind) = option_and_then (λ r. formed r.form (b - r.first) behind) (row_of b)

-- how many bytes an instruction of this form has, and one that begins with this byte: 0 for none
abbrev pub form_width : Form → ℕ
form_width (alone f) = 1
form_width (with_one f) = 2
form_width (with_two f) = 3

abbrev pub width_of : ℕ → ℕ
width_of b = option_map_or (λ r. form_width r.form) (row_of b) 0

-- no instruction begins with such a byte
abbrev pub is_unused : ℕ → Bool
is_unused b = b == 126 || (b == 127 || (nat_le 138 b && nat_le b 143))

-- at a place stands an instruction, and behind it is the next place
pub record Stands (bytes : List ℕ) (at : ℕ) (instruction : Instruction) (next : ℕ) : Type 0 where
  pub width : ℕ
  pub is_decoded : decoded (drop at bytes) ≡ Some (instruction, width)
  pub behind : next ≡ at + width
