-- What the words of a command line come to.
use Rattle.std.specs.Prelude.{◌≡◌, ℕ, ◌==◌, ◌+◌, ◌*◌, ◌-◌, ◌&&◌, All, Bool, IsUtf8, List, [], ◌∷◌, ◌++◌, Option, Some, None, length, codes, if◌then◌else◌, option_and_then, nat_le, fold}
use Rattle.std.specs.List.{before_first, after_first, list_any, list_all}
use Rattle.std.specs.Str.{bytes_eq}

abbrev pub Word : Type 0
Word = List ℕ

-- ---- one word before the first `--`

pub data OptionName : Type 0 where
  budget : OptionName
  keep : OptionName

-- `--`; an option, with the value that stands behind its `=`; a plain word; any other
pub data Kind : Type 0 where
  dashes : Kind
  option : OptionName → Option Word → Kind
  plain : Kind
  other : Kind

abbrev pub value_behind_equals : Word → Option Word
value_behind_equals word = if list_any (λ b. b == 61) word then Some (after_first (λ b. b == 61) word) else None

-- what an option is named, its value left out
abbrev pub name_in : Word → Word
name_in word = before_first (λ b. b == 61) word

-- what stands behind `--` in a word
abbrev pub kind_behind : Word → Kind
kind_behind [] = dashes
kind_behind (x ∷ xs) =
    if bytes_eq (codes "budget") (name_in (x ∷ xs)) then option budget (value_behind_equals (x ∷ xs)) else
    if bytes_eq (codes "keep") (name_in (x ∷ xs)) then option keep (value_behind_equals (x ∷ xs)) else other

-- a word of one byte is plain, also `-`
abbrev pub kind_of : Word → Kind
kind_of [] = plain
kind_of (x ∷ []) = plain
kind_of (x ∷ y ∷ ys) = if x == 45 then (if y == 45 then kind_behind ys else other) else plain

-- ---- all words

-- where the reading stands: before the first `--`, where an option's value comes next, and behind it
pub data Place : Type 0 where
  before : Place
  value : OptionName → Place
  behind : Place

-- the options' values, and the plain words
pub record Read : Type 0 where
  pub budgets : List Word
  pub keeps : List Word
  pub plains : List Word

abbrev pub with_value : OptionName → Word → Read → Read
with_value budget v read = record read { budgets = read.budgets ++ v ∷ [] }
with_value keep v read = record read { keeps = read.keeps ++ v ∷ [] }

abbrev pub with_plain : Word → Read → Read
with_plain word read = record read { plains = read.plains ++ word ∷ [] }

abbrev pub read_before : Kind → Word → Read → (Place → Read → Option Read) → Option Read
read_before dashes word read next = next behind read
read_before (option name (Some v)) word read next = next before (with_value name v read)
read_before (option name None) word read next = next (value name) read
read_before plain word read next = next before (with_plain word read)
read_before other word read next = None

-- a value in a word of its own is plain
abbrev pub read_value : OptionName → Kind → Word → Read → (Place → Read → Option Read) → Option Read
read_value name plain word read next = next before (with_value name word read)
read_value name _ word read next = None

abbrev pub read_word : Place → Word → Read → (Place → Read → Option Read) → Option Read
read_word before word read next = read_before (kind_of word) word read next
read_word (value name) word read next = read_value name (kind_of word) word read next
read_word behind word read next = next behind (with_plain word read)

abbrev pub at_end : Place → Read → Option Read
at_end before read = Some read
at_end (value name) read = None
at_end behind read = Some read

unfoldable pub read_from : Place → Read → List Word → Option Read
read_from place read [] = at_end place read
read_from place read (word ∷ words) = read_word place word read (λ p r. read_from p r words)

abbrev pub nothing_read : Read
nothing_read = record { budgets = []; keeps = []; plains = [] }

-- ---- the line

pub record LineParts : Type 0 where
  pub folder : Word
  pub command : Word
  pub arguments : List Word
  pub budget : ℕ
  pub keep : ℕ

abbrev pub is_digit : ℕ → Bool
is_digit b = nat_le 48 b && nat_le b 57

-- the decimal number of these digits
abbrev pub number_of : Word → ℕ
number_of word = fold (λ n b. n * 10 + (b - 48)) 0 word

-- at most so many decimal digits, and a number from 1 to this one
abbrev pub is_number : ℕ → ℕ → Word → Bool
is_number digits most word = nat_le 1 (length word) && (nat_le (length word) digits && (list_all is_digit word && (nat_le 1 (number_of word) && nat_le (number_of word) most)))

-- what an option says that stands at most once, or else the number without it
abbrev pub number_or : ℕ → ℕ → ℕ → List Word → Option ℕ
number_or without digits most [] = Some without
number_or without digits most (v ∷ []) = if is_number digits most v then Some (number_of v) else None
number_or without digits most (v ∷ w ∷ rest) = None

abbrev pub budget_of : List Word → Option ℕ
budget_of values = number_or 1000000 13 1000000000000 values

abbrev pub keep_of : List Word → Option ℕ
keep_of values = number_or 1 3 999 values

-- a folder, which isn't empty, a command and its arguments
abbrev pub with_numbers : List Word → ℕ → ℕ → Option LineParts
with_numbers [] b k = None
with_numbers (folder ∷ []) b k = None
with_numbers ([] ∷ command ∷ arguments) b k = None
with_numbers ((x ∷ xs) ∷ command ∷ arguments) b k = Some (record { folder = x ∷ xs; command = command; arguments = arguments; budget = b; keep = k })

abbrev pub line_of_read : Read → Option LineParts
line_of_read read = option_and_then (λ b. option_and_then (λ k. with_numbers read.plains b k) (keep_of read.keeps)) (budget_of read.budgets)

-- what the words come to behind the program's name
abbrev pub line_of : List Word → Option LineParts
line_of [] = None
line_of (program ∷ words) = option_and_then line_of_read (read_from before nothing_read words)

-- the words are this line, and UTF-8; or they are no line
abbrev pub IsLine : List Word → Option LineParts → Type 0
IsLine words (Some parts) = All IsUtf8 words × (line_of words ≡ Some parts)
IsLine words None = All IsUtf8 words → line_of words ≡ None
