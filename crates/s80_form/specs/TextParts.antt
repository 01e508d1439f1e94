-- Parts of texts: words and quoted strings.
use Rattle.std.specs.Prelude.{◌≡◌, ℕ, List, ◌∷◌, ◌++◌, Bool, not, take, drop}
use Rattle.std.specs.List.{prefix_len}
use Rattle.s80_base.specs.Byte.{is_separator}
use Rattle.s80_lex.specs.Spelling.{quoted, NotNext}

-- how many bytes stand before the first separator
abbrev pub is_inner : ℕ → Bool
is_inner b = not (is_separator b)

abbrev pub word_len : List ℕ → ℕ
word_len bytes = prefix_len is_inner bytes

-- what stands before the first separator, and what stands from there on
pub record FindsWord (bytes found left : List ℕ) : Type 0 where
  pub word : found ≡ take (word_len bytes) bytes
  pub rest : left ≡ drop (word_len bytes) bytes

-- the string whose first quote stands before the bytes, and what follows its last
abbrev pub FindsString : List ℕ → List ℕ → List ℕ → Type 0
FindsString bytes found left =
    (text rest : List ℕ) → NotNext 39 rest → 39 ∷ bytes ≡ quoted 39 text ++ rest → (found ≡ text) × (left ≡ rest)
