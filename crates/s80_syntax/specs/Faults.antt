-- Texts, and the fault of what is none.
use Rattle.std.specs.Prelude.{◌≡◌, ℕ, [], ◌∷◌, ◌++◌, Bool, true, false}
use Rattle.s80_lex.specs.declared.token.TokenKind.{TokenKind}
use Rattle.s80_lex.specs.declared.token.TokenKind.TheVariants as kind
use Rattle.s80_tree.specs.Tree.{MethodParts, DoItParts}
use Rattle.s80_syntax.specs.Lexeme.{Lexeme, Lexemes, place}
use Rattle.s80_syntax.specs.Grammar.{IsMethod, IsDoIt}
use Rattle.s80_syntax.specs.Limits.{IsLawfulMethod, IsLawfulDoIt}

-- these tokens are a method of the grammar; where strict is true, one within its limits
abbrev pub IsMethodText : Bool → Lexemes → Type 0
IsMethodText strict ts = (m : MethodParts) × IsMethod m ts × IsLawfulMethod strict m

abbrev pub IsDoItText : Bool → Lexemes → Type 0
IsDoItText strict ts = (d : DoItParts) × IsDoIt d ts × IsLawfulDoIt strict d

pub data Wrong : Type 0 where
  Unexpected : Wrong
  Nested : Wrong
  -- the target
  NotAssignable : Lexeme → Wrong

-- some text begins with these tokens
abbrev pub IsFront : (Lexemes → Type 0) → Lexemes → Type 0
IsFront IsText ts = (more : Lexemes) × IsText (ts ++ more)

-- no text goes on with the next token, or none ends here
abbrev pub NoneGoesOn : (Lexemes → Type 0) → Lexemes → Lexemes → Type 0
NoneGoesOn IsText before [] = IsText before → ⊥
NoneGoesOn IsText before (l ∷ after) = IsFront IsText (before ++ l ∷ []) → ⊥

abbrev pub IsOpening : TokenKind → Type 0
IsOpening kind.OpenParen = Unit {0}
IsOpening kind.OpenBracket = Unit {0}
IsOpening kind.ArrayStart = Unit {0}
IsOpening _ = ⊥

-- what is wrong with the next token: the grammar itself doesn't go on with it; or it does, but the token opens a level too
-- many, or is the sign behind a target that may not be assigned
abbrev pub IsCause : (Lexemes → Type 0) → Wrong → Lexemes → Lexemes → Type 0
IsCause IsText Unexpected before rest = NoneGoesOn IsText before rest
IsCause IsText _ before [] = ⊥
IsCause IsText Nested before (l ∷ after) = IsOpening l.kind × IsFront IsText (before ++ l ∷ [])
IsCause IsText (NotAssignable target) before (l ∷ after) =
    (earlier : Lexemes) × (before ≡ earlier ++ target ∷ []) × (l.kind ≡ kind.Assign) × IsFront IsText (before ++ l ∷ [])

-- rest begins at the first token with which no lawful text goes on, or is empty where none ends with the last token
pub record IsFault (IsText : Bool → Lexemes → Type 0) (wrong : Wrong) (ts rest : Lexemes) : Type 0 where
  pub before : Lexemes
  pub split : ts ≡ before ++ rest
  pub front : IsFront (IsText true) before
  pub none : NoneGoesOn (IsText true) before rest
  pub cause : IsCause (IsText false) wrong before rest

-- where a fault stands in a text that ends there
abbrev pub fault_place : ℕ → Wrong → Lexemes → ℕ
fault_place end Unexpected rest = place end rest
fault_place end Nested rest = place end rest
fault_place end (NotAssignable target) rest = target.at
