-- Tests with what they tell.
use Rattle.std.proofs.Common.{◌≡◌, refl, Option, Some, None, Bool, true, false}
use Rattle.s80_lex.specs.declared.token.TokenKind.{TokenKind}
use Rattle.s80_lex.specs.declared.token.TokenKind.TheVariants as kind

-- what comes next, where there was something
infixl 10 ◌>>=◌
abbrev pub ◌>>=◌ : {A B : Type 0} → Option A → (A → Option B) → Option B
◌>>=◌ None f = None
◌>>=◌ (Some x) f = f x

-- the first that there is
abbrev pub first_of : {A : Type 0} → Option A → Option A → Option A
first_of (Some x) other = Some x
first_of None other = other

abbrev pub told : (b : Bool) → Option (b ≡ true)
told true = Some refl
told false = None

abbrev pub told_not : (b : Bool) → Option (b ≡ false)
told_not true = None
told_not false = Some refl

abbrev pub same_kind : (a b : TokenKind) → Option (a ≡ b)
same_kind kind.Name kind.Name = Some refl
same_kind kind.Keyword kind.Keyword = Some refl
same_kind kind.Assign kind.Assign = Some refl
same_kind kind.Binary kind.Binary = Some refl
same_kind kind.Number kind.Number = Some refl
same_kind kind.Str kind.Str = Some refl
same_kind kind.OpenParen kind.OpenParen = Some refl
same_kind kind.CloseParen kind.CloseParen = Some refl
same_kind kind.OpenBracket kind.OpenBracket = Some refl
same_kind kind.CloseBracket kind.CloseBracket = Some refl
same_kind kind.Caret kind.Caret = Some refl
same_kind kind.Semicolon kind.Semicolon = Some refl
same_kind kind.Period kind.Period = Some refl
same_kind kind.Colon kind.Colon = Some refl
same_kind a b = None
