-- What a call leaves of a file.
use Rattle.std.specs.Prelude.{ℕ, List, ⊤}

-- whatever the file holds
abbrev pub Anything : List ℕ → List ℕ → Type 0
Anything old new = ⊤
