-- The instruction of a byte by how many stand behind it, as the functions behind `decode` look for it.
use Rattle.std.specs.Prelude.{ℕ, ◌-◌, Option, Some, None, option_and_then}
use Rattle.s80_code.specs.declared.instruction.Instruction.{Instruction}
use Rattle.s80_code.specs.Table.{Form, alone, with_one, with_two, row_of}

-- the instruction that a byte is by itself
abbrev pub if_alone : Form → ℕ → Option Instruction
if_alone (alone f) i = Some (f i)
if_alone (with_one f) i = None
if_alone (with_two f) i = None

abbrev pub alone_at : ℕ → Option Instruction
alone_at b = option_and_then (λ r. if_alone r.form (b - r.first)) (row_of b)

-- the instruction that a byte is with the one behind it
abbrev pub if_with_one : Form → ℕ → ℕ → Option Instruction
if_with_one (alone f) i c = None
if_with_one (with_one f) i c = Some (f i c)
if_with_one (with_two f) i c = None

abbrev pub with_one_at : ℕ → ℕ → Option Instruction
with_one_at b c = option_and_then (λ r. if_with_one r.form (b - r.first) c) (row_of b)

-- the instruction that a byte is with the two behind it
abbrev pub if_with_two : Form → ℕ → ℕ → ℕ → Option Instruction
if_with_two (alone f) i c d = None
if_with_two (with_one f) i c d = None
if_with_two (with_two f) i c d = Some (f i c d)

abbrev pub with_two_at : ℕ → ℕ → ℕ → Option Instruction
with_two_at b c d = option_and_then (λ r. if_with_two r.form (b - r.first) c d) (row_of b)
