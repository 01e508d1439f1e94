-- The words of the command line.
use Rattle.std.specs.Prelude.{◌≡◌, ℕ, List, Some}
use Rattle.s80_line.specs.declared.line.Line.{Line}
use Rattle.s80_line.specs.Line.{IsLine, LineParts}
use Rattle.s80_line.specs.Shown.{shown}
use Rattle.s80_program.specs.Command.{Command, Options, IsUseful, command_word, arguments_of}

-- the words behind the folder are a command and its arguments
pub record AreOf (word : List ℕ) (arguments : List (List ℕ)) (command : Command) : Type 0 where
  pub word_is : word ≡ command_word command
  pub arguments_are : arguments ≡ arguments_of command
  pub useful : IsUseful command

-- the options of a line
abbrev pub options_of : LineParts → Options
options_of line = record { budget = line.budget; kept_versions = line.keep }

abbrev pub options_in : Line → Options
options_in line = options_of (shown line)

-- the words are a line that asks for a command with these options
pub record Asks (words : List (List ℕ)) (options : Options) (command : Command) : Type 0 where
  pub line : LineParts
  pub read : IsLine words (Some line)
  pub options_are : options ≡ options_of line
  pub command_is : AreOf line.command line.arguments command
