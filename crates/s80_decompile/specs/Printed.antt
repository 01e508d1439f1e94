-- What a printer's text comes to.
use Rattle.std.specs.Prelude.{◌≡◌, List, ℕ, ◌++◌}
use Rattle.s80_syntax.specs.Lexeme.{Lexemes}
use Rattle.s80_decompile.specs.declared.printer.Printer.{Printer}
use Rattle.s80_decompile.specs.Spelled.{spelled}

-- the whole text, where these tokens follow
abbrev pub printed : Printer → Lexemes → List ℕ
printed printer more = printer.text ++ spelled printer.spaced more

-- such tokens were printed, whatever follows them
abbrev pub Prints : Printer → Printer → (Lexemes → Lexemes) → Type 0
Prints old new tokens = (more : Lexemes) → printed new more ≡ printed old (tokens more)
