-- Bytes of texts.
use Rattle.std.specs.Prelude.{ℕ, Bool, ◌==◌, ◌||◌}

-- space, tab, line feed, form feed and carriage return
abbrev pub is_separator : ℕ → Bool
is_separator b = b == 32 || b == 9 || b == 10 || b == 12 || b == 13
