-- Identifiers: what they are made of.
use Rattle.std.proofs.Common.{◌≡◌, ℕ, List, [], ◌∷◌, Bool, true, false, not, ◌&&◌, ap, ◌∙◌, rules, tests}
use Rattle.std.specs.Char.{is_ascii_alphabetic, is_ascii_alphanumeric}
use Rattle.std.specs.List.{list_all}
use Rattle.std.proofs.lemmas.Bool.{and_parts, false≢true}
use Rattle.s80_base.specs.Byte.{is_separator}
use Rattle.s80_syntax.specs.Word.{is_reserved}
use Rattle.s80_lex.specs.Selector.{is_name as is_identifier}
use Rattle.s80_form.specs.Name.{IsName}

alphabetic_passes : (b : ℕ) → is_ascii_alphabetic b ≡ true → is_ascii_alphanumeric b ≡ true
alphabetic_passes b e = search (rules, tests)

pub no_separator : (b : ℕ) → is_ascii_alphanumeric b ≡ true → is_separator b ≡ false
no_separator b e = search (rules, tests)

pub identifier_of : (w : List ℕ) → IsName w → is_identifier w ≡ true
identifier_of w h = (and_parts (is_identifier w) (not (is_reserved w)) h).0

and_both : (a b : Bool) → a ≡ true → b ≡ true → a && b ≡ true
and_both a b e f = ap (λ t. t && b) e ∙ f

-- an identifier is of letters and digits
pub identifier_passes : (w : List ℕ) → is_identifier w ≡ true → list_all is_ascii_alphanumeric w ≡ true
identifier_passes [] e = absurd (false≢true e)
identifier_passes (b ∷ w) e =
    let parts = and_parts (is_ascii_alphabetic b) (list_all is_ascii_alphanumeric w) e in
    and_both (is_ascii_alphanumeric b) (list_all is_ascii_alphanumeric w) (alphabetic_passes b parts.0) parts.1
