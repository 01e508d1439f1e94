-- Code as text.
use Rattle.std.specs.Prelude.{ℕ, zero, suc, ◌+◌, ◌-◌, ◌/◌, ◌%◌, List, [], ◌∷◌, ◌++◌, length, map, take, drop, codes, decimal, nat_lt, if◌then◌else◌}
use Rattle.std.specs.Option.{option_map_or}
use Rattle.std.specs.List.{join_with_byte}
use Rattle.s80_code.specs.Table.{decoded}

-- the digit of a number below 16: `0` to `9`, then `A` to `F`
abbrev pub hex_digit : ℕ → ℕ
hex_digit n = if nat_lt n 10 then 48 + n else 65 + (n - 10)

abbrev pub hex_byte : ℕ → List ℕ
hex_byte b = hex_digit (b / 16) ∷ hex_digit (b % 16) ∷ []

-- a byte behind a space
abbrev pub spaced : ℕ → List ℕ
spaced b = 32 ∷ hex_byte b

-- the line of an instruction: its place, two spaces, its bytes parted by spaces, and a line feed
abbrev pub line : ℕ → List ℕ → List ℕ
line at bytes = decimal at ++ (codes "  " ++ (join_with_byte 32 (map hex_byte bytes) ++ 10 ∷ []))

-- the lines of the bytes from a place on, at most so many, up to the first place where no instruction stands
abbrev pub lines : ℕ → ℕ → List ℕ → List ℕ
lines zero at bytes = []
lines (suc most) at bytes =
    option_map_or (λ d. line at (take d.1 bytes) ++ lines most (at + d.1) (drop d.1 bytes)) (decoded bytes) []

-- the whole text: each line has at least one byte, so there are no more lines than bytes
abbrev pub disassembly : List ℕ → List ℕ
disassembly bytes = lines (length bytes) 0 bytes
