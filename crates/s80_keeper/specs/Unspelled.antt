-- Texts that bytes spell.
use Rattle.std.specs.Prelude.{◌≡◌, ℕ, List, Option, Some, None}
use Rattle.s80_chunk.specs.Chunks.{spell}

-- the bytes spell this text, or none
abbrev pub IsUnspelled : List ℕ → Option (List ℕ) → Type 0
IsUnspelled bytes (Some text) = bytes ≡ spell text
IsUnspelled bytes None = (text : List ℕ) → bytes ≡ spell text → ⊥
