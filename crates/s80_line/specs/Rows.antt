-- What clap's matches hold of a line.
use Rattle.std.specs.Prelude.{◌≡◌, List, [], ◌∷◌, Option, Some, None, codes, find, drop, option_and_then}
use Rattle.std.specs.Str.{bytes_eq}
use Rattle.clap.specs.Walk.{Row, rows_of}
use Rattle.clap.specs.Matches.{found_of}
use Rattle.clap.specs.declared.parser.matches.ArgMatches.{ArgMatches}
use Rattle.clap.specs.declared.parser.matches.ValueSource.TheVariants.{CommandLine}
use Rattle.clap.specs.declared.builder.value_parser.Reading.{Reading}
use Rattle.clap.specs.declared.builder.value_parser.Reading.TheVariants.{AsWritten}
use Rattle.s80_line.specs.Line.{Word, Read, before, read_from, nothing_read}

abbrev pub how : Reading
how = AsWritten

abbrev pub look : Word → List Row → Option Row
look id = find (λ r. bytes_eq r.id id)

abbrev pub row : Word → List Word → Row
row id words = record { id = id; values = words; count = None; source = Some CommandLine; reading = how }

abbrev pub entry : Word → List Word → Option Row
entry id [] = None
entry id (word ∷ words) = Some (row id (word ∷ words))

-- the plain words, by the positional that takes them
abbrev pub folders : List Word → List Word
folders [] = []
folders (folder ∷ words) = folder ∷ []

abbrev pub commands : List Word → List Word
commands [] = []
commands (folder ∷ []) = []
commands (folder ∷ command ∷ words) = command ∷ []

abbrev pub others : List Word → List Word
others [] = []
others (folder ∷ []) = []
others (folder ∷ command ∷ words) = words

-- the rows hold what was read
pub record Looks (rows : List Row) (read : Read) : Type 0 where
  pub budget : look (codes "budget") rows ≡ entry (codes "budget") read.budgets
  pub keep : look (codes "keep") rows ≡ entry (codes "keep") read.keeps
  pub folder : look (codes "folder") rows ≡ entry (codes "folder") (folders read.plains)
  pub command : look (codes "command") rows ≡ entry (codes "command") (commands read.plains)
  pub arguments : look (codes "arguments") rows ≡ entry (codes "arguments") (others read.plains)

-- what was read, where a folder and a command are there
abbrev pub whole : List Word → Read → Option Read
whole [] read = None
whole (folder ∷ []) read = None
whole (folder ∷ command ∷ arguments) read = Some read

abbrev pub whole_read : List Word → Option Read
whole_read words = option_and_then (λ read. whole read.plains read) (read_from before nothing_read (drop 1 words))

-- None where the words are no line, and else the matches of the line
abbrev pub IsOutcome : List Word → Option ArgMatches → Type 0
IsOutcome words None = whole_read words ≡ None
IsOutcome words (Some m) = (read : Read) × (whole_read words ≡ Some read) × Looks (rows_of (found_of m)) read
