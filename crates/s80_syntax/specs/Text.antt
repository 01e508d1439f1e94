-- What a text means, or why it means nothing.
use Rattle.std.specs.Prelude.{◌≡◌, ℕ, List, Bool, true, length}
use Rattle.s80_lex.specs.declared.token.Token.{Token}
use Rattle.s80_lex.specs.declared.fault.LexFault.TheVariants as lex
use Rattle.s80_lex.specs.Text.{AreTokens, IsFirstFault}
use Rattle.s80_tree.specs.Tree.{MethodParts, DoItParts}
use Rattle.s80_syntax.specs.Lexeme.{Lexeme, Lexemes, lexemes}
use Rattle.s80_syntax.specs.Grammar.{IsMethod, IsDoIt}
use Rattle.s80_syntax.specs.Limits.{IsLawfulMethod, IsLawfulDoIt}
use Rattle.s80_syntax.specs.Faults.{Wrong, Unexpected, Nested, NotAssignable, IsFault, fault_place}
use Rattle.s80_syntax.specs.declared.fault.ParseFault.{ParseFault}
use Rattle.s80_syntax.specs.declared.fault.ParseFault.TheVariants as fault

-- the text's tokens are this method
pub record IsMethodOf (text : List ℕ) (m : MethodParts) : Type 0 where
  pub tokens : List Token
  pub are_tokens : AreTokens tokens text
  pub method : IsMethod m (lexemes text tokens)
  pub lawful : IsLawfulMethod true m

pub record IsDoItOf (text : List ℕ) (d : DoItParts) : Type 0 where
  pub tokens : List Token
  pub are_tokens : AreTokens tokens text
  pub doit : IsDoIt d (lexemes text tokens)
  pub lawful : IsLawfulDoIt true d

-- the text has tokens, and this is their fault
pub record IsFaultAt (IsText : Bool → Lexemes → Type 0) (text : List ℕ) (w : Wrong) (at : ℕ) : Type 0 where
  pub tokens : List Token
  pub are_tokens : AreTokens tokens text
  pub rest : Lexemes
  pub first : IsFault IsText w (lexemes text tokens) rest
  pub place : at ≡ fault_place (length text) w rest

-- a fault of the tokens comes before every other
abbrev pub IsFaultOf : (Bool → Lexemes → Type 0) → List ℕ → ParseFault → Type 0
IsFaultOf IsText text fault.Memory = Unit {0}
IsFaultOf IsText text (fault.Unended at) = IsFirstFault (lex.Unended at) text
IsFaultOf IsText text (fault.BadByte at) = IsFirstFault (lex.BadByte at) text
IsFaultOf IsText text (fault.BadNumber at) = IsFirstFault (lex.BadNumber at) text
IsFaultOf IsText text (fault.Unexpected at) = IsFaultAt IsText text Unexpected at
IsFaultOf IsText text (fault.Nested at) = IsFaultAt IsText text Nested at
IsFaultOf IsText text (fault.NotAssignable at) = (target : Lexeme) × IsFaultAt IsText text (NotAssignable target) at
