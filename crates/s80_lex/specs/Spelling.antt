-- How tokens are spelled.
use Rattle.std.specs.Prelude.{◌≡◌, ◌≢◌, ℕ, Bool, true, false, ◌==◌, ◌||◌, ◌⊎◌, List, [], ◌∷◌, ◌++◌, length, codes, if◌then◌else◌}
use Rattle.std.specs.List.{AllByRecursion, flat_map}
use Rattle.std.specs.Char.{is_ascii_alphanumeric, is_ascii_digit, is_ascii_uppercase}
use Rattle.s80_lex.specs.declared.class.Class.{Class}
use Rattle.s80_lex.specs.declared.class.Class.TheVariants.{Letter, Special, Minus}
use Rattle.s80_lex.specs.declared.token.TokenKind.{TokenKind}
use Rattle.s80_lex.specs.declared.token.TokenKind.TheVariants.{Name, Keyword, Assign, Binary, Number, Character, Str, Symbol, ArrayStart, OpenParen, CloseParen, OpenBracket, CloseBracket, Caret, Semicolon, Period, Colon}
use Rattle.s80_lex.specs.Class.{class_of}

-- this byte comes next
abbrev pub begins_with : ℕ → List ℕ → Bool
begins_with b [] = false
begins_with b (c ∷ rest) = c == b

abbrev pub NotNext : ℕ → List ℕ → Type 0
NotNext b rest = begins_with b rest ≡ false

-- each byte passes
abbrev pub Passes : (ℕ → Bool) → List ℕ → Type 0
Passes p bytes = AllByRecursion (λ b. p b ≡ true) bytes

-- one byte or more, and each passes
abbrev pub IsRun : (ℕ → Bool) → List ℕ → Type 0
IsRun p [] = ⊥
IsRun p (b ∷ bytes) = Passes p (b ∷ bytes)

-- a letter, then letters and digits
abbrev pub IsName : List ℕ → Type 0
IsName [] = ⊥
IsName (b ∷ bytes) = (class_of b ≡ Letter) × Passes is_ascii_alphanumeric bytes

-- a name and the colon that directly follows it
abbrev pub keyword : List ℕ → List ℕ
keyword name = name ++ codes ":"

-- a keyword: a colon that an equals sign (61) follows is no part of it
pub record IsKeyword (word rest : List ℕ) : Type 0 where
  pub name : List ℕ
  pub named : IsName name
  pub spelled : word ≡ keyword name
  pub ended : NotNext 61 rest

-- so many directly joined keywords, at least one
pub record IsKeywordSelector (n : ℕ) (word : List ℕ) : Type 0 where
  pub names : List (List ℕ)
  pub some : names ≢ []
  pub named : AllByRecursion IsName names
  pub spelled : word ≡ flat_map keyword names
  pub counted : n ≡ length names

-- joined keywords: a colon that an equals sign (61) follows is no part of them
pub record AreKeywords (word rest : List ℕ) : Type 0 where
  pub count : ℕ
  pub joined : IsKeywordSelector count word
  pub ended : NotNext 61 rest

abbrev pub IsOperator : Class → Type 0
IsOperator Special = Unit {0}
IsOperator Minus = Unit {0}
IsOperator _ = ⊥

-- one or two special characters; the second isn't a minus
abbrev pub IsBinary : List ℕ → Type 0
IsBinary (b ∷ []) = IsOperator (class_of b)
IsBinary (b ∷ c ∷ []) = IsOperator (class_of b) × (class_of c ≡ Special)
IsBinary _ = ⊥

-- a text behind a quote, with each quote in it doubled; and the quote that ends it
abbrev pub doubled : ℕ → ℕ → List ℕ
doubled quote b = if b == quote then quote ∷ quote ∷ [] else b ∷ []

abbrev pub unended : ℕ → List ℕ → List ℕ
unended quote text = quote ∷ flat_map (doubled quote) text

abbrev pub quoted : ℕ → List ℕ → List ℕ
quoted quote text = unended quote text ++ quote ∷ []

-- a quoted text: its last quote isn't the first of two
pub record IsQuoted (quote : ℕ) (word rest : List ℕ) : Type 0 where
  pub text : List ℕ
  pub spelled : word ≡ quoted quote text
  pub ended : NotNext quote rest

abbrev pub is_digit_or_capital : ℕ → Bool
is_digit_or_capital b = is_ascii_digit b || is_ascii_uppercase b

-- nothing, or a period (46) and a run
abbrev pub IsFraction : (ℕ → Bool) → List ℕ → Type 0
IsFraction p [] = Unit {0}
IsFraction p (b ∷ bytes) = (b ≡ 46) × IsRun p bytes

-- decimal digits, with a minus (45) before them or none
abbrev pub IsPower : List ℕ → Type 0
IsPower [] = ⊥
IsPower (b ∷ bytes) = IsRun is_ascii_digit (b ∷ bytes) ⊎ ((b ≡ 45) × IsRun is_ascii_digit bytes)

-- nothing, or an e (101) and a power
abbrev pub IsExponent : List ℕ → Type 0
IsExponent [] = Unit {0}
IsExponent (b ∷ bytes) = (b ≡ 101) × IsPower bytes

-- digits that p takes, a fraction and an exponent
abbrev pub IsScaled : (ℕ → Bool) → List ℕ → Type 0
IsScaled p word =
    (digits fraction exponent : List ℕ) × (word ≡ digits ++ fraction ++ exponent)
    × IsRun p digits × IsFraction p fraction × IsExponent exponent

-- a radix, an r (114), and digits and capitals
abbrev pub IsInRadix : List ℕ → Type 0
IsInRadix word =
    (radix scaled : List ℕ) × (word ≡ radix ++ 114 ∷ scaled)
    × IsRun is_ascii_digit radix × IsScaled is_digit_or_capital scaled

abbrev pub IsNumber : List ℕ → Type 0
IsNumber word = IsScaled is_ascii_digit word ⊎ IsInRadix word

-- joined keywords, a name or a binary selector
abbrev pub IsSelector : List ℕ → List ℕ → Type 0
IsSelector word rest = AreKeywords word rest ⊎ IsName word ⊎ IsBinary word

-- a hash, and the selector directly behind it
pub record IsSymbol (word rest : List ℕ) : Type 0 where
  pub selector : List ℕ
  pub spelled : word ≡ codes "#" ++ selector
  pub selects : IsSelector selector rest

-- A token of this kind, and what follows it. A string stands between quotes (39).
abbrev pub IsToken : TokenKind → List ℕ → List ℕ → Type 0
IsToken Name word rest = IsName word
IsToken Keyword word rest = IsKeyword word rest
IsToken Assign word rest = (word ≡ codes "_") ⊎ (word ≡ codes ":=")
IsToken Binary word rest = IsBinary word
IsToken Number word rest = IsNumber word
IsToken Character word rest = (b : ℕ) × (word ≡ codes "$" ++ b ∷ [])
IsToken Str word rest = IsQuoted 39 word rest
IsToken Symbol word rest = IsSymbol word rest
IsToken ArrayStart word rest = word ≡ codes "#("
IsToken OpenParen word rest = word ≡ codes "("
IsToken CloseParen word rest = word ≡ codes ")"
IsToken OpenBracket word rest = word ≡ codes "["
IsToken CloseBracket word rest = word ≡ codes "]"
IsToken Caret word rest = word ≡ codes "^"
IsToken Semicolon word rest = word ≡ codes ";"
IsToken Period word rest = word ≡ codes "."
IsToken Colon word rest = word ≡ codes ":"
