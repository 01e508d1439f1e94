-- A text as tokens.
use Rattle.std.specs.Prelude.{◌≡◌, ◌≢◌, ℕ, ◌+◌, ◌<◌, ◌≤◌, ◌⊎◌, List, [], ◌∷◌, ◌++◌, codes, length, drop, slice_range}
use Rattle.std.specs.List.{flat_map}
use Rattle.s80_lex.specs.declared.class.Class.TheVariants.{Separator}
use Rattle.s80_lex.specs.declared.fault.LexFault.{LexFault}
use Rattle.s80_lex.specs.declared.fault.LexFault.TheVariants as cause
use Rattle.s80_lex.specs.declared.part.Part.{Part}
use Rattle.s80_lex.specs.declared.part.Part.TheVariants as part
use Rattle.s80_lex.specs.declared.token.Token.{Token}
use Rattle.s80_lex.specs.declared.token.TokenKind.{TokenKind}
use Rattle.s80_lex.specs.declared.token.TokenKind.TheVariants.{Number}
use Rattle.s80_lex.specs.Class.{class_of}
use Rattle.s80_lex.specs.Spelling.{IsToken, IsQuoted, unended}
use Rattle.s80_lex.specs.Number.{IsLawfulNumber}

-- the token of this kind is taken: none at its place is longer
pub record IsLongest (kind : TokenKind) (word rest : List ℕ) : Type 0 where
  pub token : IsToken kind word rest
  pub longest : (other : TokenKind) (longer left : List ℕ) →
      longer ++ left ≡ word ++ rest → IsToken other longer left → length longer ≤ length word

-- What a text is made of, and what follows it. A comment stands between double quotes (34). A number with a wrong
-- radix or digit is no part.
abbrev pub IsPart : Part → List ℕ → List ℕ → Type 0
IsPart part.Separator word rest = (b : ℕ) × (word ≡ b ∷ []) × (class_of b ≡ Separator)
IsPart part.Comment word rest = IsQuoted 34 word rest
IsPart (part.Token kind) word rest = IsLongest kind word rest × (kind ≡ Number → IsLawfulNumber word)

abbrev pub text_of : List (Part × List ℕ) → List ℕ
text_of parts = flat_map (λ p. p.1) parts

-- each of them is a part in front of what follows it
abbrev pub AreParts : List (Part × List ℕ) → List ℕ → Type 0
AreParts [] rest = Unit {0}
AreParts (p ∷ parts) rest = IsPart p.0 p.1 (text_of parts ++ rest) × AreParts parts rest

abbrev pub token_of : Part → ℕ → ℕ → List Token
token_of (part.Token kind) from to = record { kind = kind; from = from; to = to } ∷ []
token_of _ from to = []

-- the tokens among the parts, with their places
abbrev pub tokens_of : ℕ → List (Part × List ℕ) → List Token
tokens_of at [] = []
tokens_of at (p ∷ parts) = token_of p.0 at (at + length p.1) ++ tokens_of (at + length p.1) parts

-- The text is these tokens, and what may stand between them.
pub record AreTokens (tokens : List Token) (text : List ℕ) : Type 0 where
  pub parts : List (Part × List ℕ)
  pub whole : text ≡ text_of parts
  pub each : AreParts parts []
  pub listed : tokens ≡ tokens_of 0 parts

-- a quote (39) or double quote (34) with none behind it but doubled ones, up to the end; or a dollar sign at the end
abbrev pub IsUnended : List ℕ → Type 0
IsUnended rest = ((text : List ℕ) × ((rest ≡ unended 39 text) ⊎ (rest ≡ unended 34 text))) ⊎ (rest ≡ codes "$")

-- a number with a wrong radix or digit
pub record IsBadNumber (rest : List ℕ) : Type 0 where
  pub word : List ℕ
  pub left : List ℕ
  pub spelled : rest ≡ word ++ left
  pub longest : IsLongest Number word left
  pub unlawful : ¬ IsLawfulNumber word

-- no part stands here
abbrev pub IsStuck : List ℕ → Type 0
IsStuck rest = (p : Part) (word left : List ℕ) → word ++ left ≡ rest → IsPart p word left → ⊥

-- no part stands here, and it is none of the other faults
pub record IsBadByte (rest : List ℕ) : Type 0 where
  pub some : rest ≢ []
  pub stuck : IsStuck rest
  pub ended : ¬ IsUnended rest
  pub lawful : ¬ IsBadNumber rest

-- the fault at a place, with what stands there
abbrev pub IsFaultAt : LexFault → ℕ → List ℕ → Type 0
IsFaultAt cause.Memory place rest = ⊥
IsFaultAt (cause.Unended at) place rest = (at ≡ place) × IsUnended rest
IsFaultAt (cause.BadByte at) place rest = (at ≡ place) × IsBadByte rest
IsFaultAt (cause.BadNumber at) place rest = (at ≡ place) × IsBadNumber rest

-- Up to this fault the text is made of parts, so it is the first.
pub record IsFirstFault (fault : LexFault) (text : List ℕ) : Type 0 where
  pub parts : List (Part × List ℕ)
  pub rest : List ℕ
  pub whole : text ≡ text_of parts ++ rest
  pub each : AreParts parts rest
  pub here : IsFaultAt fault (length (text_of parts)) rest

-- a token as a slice of its source
pub record IsSlice (text : List ℕ) (token : Token) : Type 0 where
  pub some : token.from < token.to
  pub within : token.to ≤ length text
  pub spelled : IsToken token.kind (slice_range text token.from token.to) (drop token.to text)
  pub lawful : token.kind ≡ Number → IsLawfulNumber (slice_range text token.from token.to)
