-- What the front of a text has.
use Rattle.std.specs.Prelude.{◌≡◌, ℕ, zero, suc, ◌+◌, ◌<◌, ◌≤◌, Bool, ◌&&◌, if◌then◌else◌, ◌==◌, ◌||◌, nat_lt, not, List, [], ◌∷◌, ◌++◌, Option, Some, None, Result, Ok, Err, take, drop, length}
use Rattle.std.specs.List.{prefix_len, list_all}
use Rattle.std.specs.Char.{is_ascii_digit, digit_value}
use Rattle.s80_lex.specs.declared.class.Class.{Class}
use Rattle.s80_lex.specs.declared.class.Class.TheVariants.{Other}
use Rattle.s80_lex.specs.declared.fault.LexFault.{LexFault}
use Rattle.s80_lex.specs.declared.fault.LexFault.TheVariants as cause
use Rattle.s80_lex.specs.declared.front.Wrong.{Wrong}
use Rattle.s80_lex.specs.declared.front.Wrong.TheVariants as wrong
use Rattle.s80_lex.specs.declared.digits.Digits.{Digits}
use Rattle.s80_lex.specs.declared.digits.Digits.TheVariants.{Decimal, Capital}
use Rattle.s80_lex.specs.declared.part.Part.{Part}
use Rattle.s80_lex.specs.declared.token.TokenKind.{TokenKind}
use Rattle.s80_lex.specs.Class.{class_of}
use Rattle.s80_lex.specs.Spelling.{begins_with, IsQuoted, unended, IsToken, is_digit_or_capital}
use Rattle.s80_lex.specs.Text.{IsLongest, IsPart, IsUnended, IsBadNumber, IsBadByte}

abbrev pub first_class : List ℕ → Class
first_class [] = Other
first_class (b ∷ bytes) = class_of b

-- the longest token at the front has this kind and length
pub record Takes (kind : TokenKind) (n : ℕ) (text : List ℕ) : Type 0 where
  pub fits : n ≤ length text
  pub longest : IsLongest kind (take n text) (drop n text)

abbrev pub IsWrong : Wrong → List ℕ → Type 0
IsWrong wrong.Unended text = IsUnended text
IsWrong wrong.BadByte text = IsBadByte text
IsWrong wrong.BadNumber text = IsBadNumber text

abbrev pub fault_at : Wrong → ℕ → LexFault
fault_at wrong.Unended place = cause.Unended place
fault_at wrong.BadByte place = cause.BadByte place
fault_at wrong.BadNumber place = cause.BadNumber place

-- the part at the front, or what is wrong there
abbrev pub Stands : Result (Part × ℕ) Wrong → List ℕ → Type 0
Stands (Ok x) text = (0 < x.1) × (x.1 ≤ length text) × IsPart x.0 (take x.1 text) (drop x.1 text)
Stands (Err e) text = IsWrong e text

-- the longest front of this form has this length; there is none
pub record IsMost (P : List ℕ → List ℕ → Type 0) (n : ℕ) (text : List ℕ) : Type 0 where
  pub fits : n ≤ length text
  pub here : P (take n text) (drop n text)
  pub longest : (word rest : List ℕ) → word ++ rest ≡ text → P word rest → length word ≤ n

abbrev pub Lacks : (List ℕ → List ℕ → Type 0) → List ℕ → Type 0
Lacks P text = (word rest : List ℕ) → word ++ rest ≡ text → P word rest → ⊥

abbrev pub Finds : (List ℕ → List ℕ → Type 0) → Option ℕ → List ℕ → Type 0
Finds P None text = Lacks P text
Finds P (Some n) text = IsMost P n text

-- what follows a name makes it a keyword
abbrev pub ends_keyword : List ℕ → Bool
ends_keyword rest = begins_with 58 rest && not (begins_with 61 (drop 1 rest))

-- a quoted text ends at this length, or nowhere
abbrev pub FindsQuoted : ℕ → Option ℕ → List ℕ → Type 0
FindsQuoted quote None text = (inner : List ℕ) × (text ≡ unended quote inner)
FindsQuoted quote (Some n) text = IsMost (IsQuoted quote) n text

abbrev pub FindsKind : Option (TokenKind × ℕ) → List ℕ → Type 0
FindsKind None text = (kind : TokenKind) → Lacks (IsToken kind) text
FindsKind (Some x) text = Takes x.0 x.1 text

-- what stands behind a mark at the front, or nothing where it isn't there
abbrev pub after_mark : ℕ → List ℕ → List ℕ
after_mark mark [] = []
after_mark mark (b ∷ bytes) = if b == mark then bytes else []

-- a mark counts only before something
abbrev pub with_mark : ℕ → ℕ
with_mark zero = 0
with_mark (suc n) = suc (suc n)

-- the bytes of these digits
abbrev pub passes : Digits → ℕ → Bool
passes Decimal b = is_ascii_digit b
passes Capital b = is_digit_or_capital b

abbrev pub run_len : Digits → List ℕ → ℕ
run_len digits text = prefix_len (passes digits) text

abbrev pub fraction_len : Digits → List ℕ → ℕ
fraction_len digits text = with_mark (run_len digits (after_mark 46 text))

abbrev pub or_else : ℕ → ℕ → ℕ
or_else zero m = m
or_else (suc n) m = suc n

abbrev pub power_len : List ℕ → ℕ
power_len text = or_else (run_len Decimal text) (with_mark (run_len Decimal (after_mark 45 text)))

abbrev pub exponent_len : List ℕ → ℕ
exponent_len text = with_mark (power_len (after_mark 101 text))

-- n digits, with the fraction and exponent behind them
abbrev pub scaled_len : Digits → ℕ → List ℕ → ℕ
scaled_len digits n text =
    let m = n + fraction_len digits (drop n text) in
    m + exponent_len (drop m text)

abbrev pub in_radix_len : ℕ → ℕ → List ℕ → ℕ → ℕ
in_radix_len n zero after plain = plain
in_radix_len n (suc m) after plain = n + 1 + scaled_len Capital (suc m) after

abbrev pub number_len : List ℕ → ℕ
number_len text =
    let n = run_len Decimal text in
    let after = after_mark 114 (drop n text) in
    in_radix_len n (run_len Capital after) after (scaled_len Decimal n text)

-- each digit is below the radix
abbrev pub are_below : ℕ → List ℕ → Bool
are_below radix digits = list_all (λ b. b == 46 || nat_lt (digit_value b) radix) digits
