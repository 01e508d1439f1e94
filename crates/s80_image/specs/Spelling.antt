-- The bytes of an image as they are put one behind the other.
use Rattle.std.specs.Prelude.{ℕ, List, ◌++◌, length}
use Rattle.std.specs.Int.{w32, to_be_bytes}
use Rattle.std.specs.List.{flat_map}
use Rattle.s80_image.specs.Format.{word64}
use Rattle.s80_image.specs.Image.{signature_bytes}

-- what stands before the lists of an image: the signature, and how many changes there are
abbrev pub head_bytes : ℕ → List ℕ
head_bytes count = signature_bytes ++ word64.spell count

-- a list: its length, and each of its members by itself, whatever stands before it
abbrev pub listed : {A : Type 0} → (A → List ℕ) → List A → List ℕ
listed spell xs = to_be_bytes w32 (length xs) ++ flat_map spell xs
