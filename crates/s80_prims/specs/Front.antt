-- The front of what is written.
use Rattle.std.specs.Prelude.{◌≡◌, ℕ, List, ◌++◌, length, take, nat_lt}
use Rattle.s80_prims.specs.declared.front.Front.{Front}

-- the first 4,096 bytes of what was written, and whether there was more
abbrev pub Holds : Front → List ℕ → Type 0
Holds front written = (front.text ≡ take 4096 written) × (front.more ≡ nat_lt 4096 (length written))

-- these bytes were written behind all before
abbrev pub Writes : Front → Front → List ℕ → Type 0
Writes old new bytes = (written : List ℕ) → Holds old written → Holds new (written ++ bytes)
