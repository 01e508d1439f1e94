-- The classes of bytes.
use Rattle.std.specs.Prelude.{ℕ, Bool, ◌==◌, codes, if◌then◌else◌}
use Rattle.std.specs.List.{list_any}
use Rattle.std.specs.Char.{is_ascii_alphabetic, is_ascii_digit}
use Rattle.s80_base.specs.Byte.{is_separator}
use Rattle.s80_lex.specs.declared.class.Class.{Class}
use Rattle.s80_lex.specs.declared.class.Class.TheVariants.{Letter, Digit, Special, Minus, Quote, DoubleQuote, Dollar, Hash, Underscore, Colon, Mark, Separator, Other}
use Rattle.s80_lex.specs.declared.token.TokenKind.TheVariants as kind

-- what a binary selector is made of, but for the minus
abbrev pub is_special : ℕ → Bool
is_special b = list_any (λ c. b == c) (codes "+/\\*~<>=@%|&?,!")

-- the bytes that are a token by themselves, whatever follows: ( ) [ ] ^ ; .
abbrev pub mark_of : ℕ → Class
mark_of b =
    if b == 40 then Mark kind.OpenParen else
    (if b == 41 then Mark kind.CloseParen else
    (if b == 91 then Mark kind.OpenBracket else
    (if b == 93 then Mark kind.CloseBracket else
    (if b == 94 then Mark kind.Caret else
    (if b == 59 then Mark kind.Semicolon else
    (if b == 46 then Mark kind.Period else Other))))))

-- the bytes that begin what no other byte begins: ' " $ # _ :
abbrev pub sign_of : ℕ → Class
sign_of b =
    if b == 39 then Quote else
    (if b == 34 then DoubleQuote else
    (if b == 36 then Dollar else
    (if b == 35 then Hash else
    (if b == 95 then Underscore else
    (if b == 58 then Colon else mark_of b)))))

-- the class of a byte
abbrev pub class_of : ℕ → Class
class_of b =
    if is_ascii_alphabetic b then Letter else
    (if is_ascii_digit b then Digit else
    (if is_separator b then Separator else
    (if is_special b then Special else
    (if b == 45 then Minus else sign_of b))))
