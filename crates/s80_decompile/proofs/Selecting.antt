-- Selectors, keyword by keyword.
use Rattle.std.proofs.Common.{◌≡◌, ℕ, ◌+◌, List, [], ◌∷◌, ◌++◌, Bool, true, false, not, ◌||◌, ◌==◌, length, take, drop, refl, ap, sym, ◌∙◌, subst, rules, tests, length-append, append_assoc, if◌then◌else◌}
use Rattle.std.specs.Char.{is_ascii_alphanumeric}
use Rattle.std.specs.List.{position_or_len}
use Rattle.std.proofs.lemmas.List.{take_at, drop_at}
use Rattle.s80_lex.specs.declared.token.TokenKind.TheVariants as kind
use Rattle.s80_lex.specs.Number.{before, behind, has}
use Rattle.s80_lex.specs.Selector.{begins_binary}
use Rattle.s80_lex.specs.Spelling.{IsBinary, IsName, IsOperator, Passes, keyword}
use Rattle.s80_lex.specs.Class.{class_of}
use Rattle.s80_lex.proofs.lemmas.Runs.{run_ends}
use Rattle.s80_lex.proofs.lemmas.SelectorLemmas.{operator_then}
use Rattle.s80_decompile.specs.TreeTokens.{part_token, token}

letter : (b : ℕ) → class_of b ≡ class_of 97 → is_ascii_alphanumeric b ≡ true
letter b e = search (rules, tests)

name_passes : (w : List ℕ) → IsName w → Passes is_ascii_alphanumeric w
name_passes [] h = absurd h
name_passes (b ∷ w) h = (letter b h.0, h.1)

keyword_append : (n rest : List ℕ) → keyword n ++ rest ≡ n ++ 58 ∷ rest
keyword_append n rest = append_assoc n (58 ∷ []) rest

no_colon : (b : ℕ) → is_ascii_alphanumeric b ≡ true → (b == 58) ≡ false
no_colon b e = search (rules, tests)

passes_colon : (w : List ℕ) → Passes is_ascii_alphanumeric w → Passes (λ b. not (b == 58)) w
passes_colon [] h = tt
passes_colon (b ∷ w) h = (ap not (no_colon b h.0), passes_colon w h.1)

pub has_mark : (mark : ℕ) (w rest : List ℕ) → (mark == mark) ≡ true → has mark (w ++ mark ∷ rest) ≡ true
has_mark mark [] rest e = ap (λ t. t || has mark rest) e
has_mark mark (b ∷ w) rest e = ap (λ t. (b == mark) || t) (has_mark mark w rest e) ∙ or_true (b == mark)
  where
    or_true : (t : Bool) → (t || true) ≡ true
    or_true true = refl
    or_true false = refl

-- the first of joined keywords, and the others
module _ (n rest : List ℕ) (h : IsName n) where
  colon_at : position_or_len (λ b. b == 58) (n ++ 58 ∷ rest) ≡ length n
  colon_at = run_ends (λ b. not (b == 58)) n 58 rest (passes_colon n (name_passes n h)) refl

  before_first : before 58 (keyword n ++ rest) ≡ n
  before_first = ap (before 58) (keyword_append n rest) ∙ ap (λ k. take k (n ++ 58 ∷ rest)) colon_at ∙ take_at n (58 ∷ rest) (length n) refl

  pub behind_first : behind 58 (keyword n ++ rest) ≡ rest
  behind_first =
      ap (behind 58) (keyword_append n rest) ∙ ap (λ k. drop (k + 1) (n ++ 58 ∷ rest)) colon_at
      ∙ ap (λ l. drop (length n + 1) l) (sym (keyword_append n rest)) ∙ drop_at (keyword n) rest (length n + 1) (length-append n (58 ∷ []))

  pub keyword_part : part_token (keyword n ++ rest) ≡ token kind.Keyword (keyword n)
  keyword_part =
      ap (λ t. if t then token kind.Keyword (keyword (before 58 (keyword n ++ rest))) else token kind.Binary (keyword n ++ rest)) (ap (has 58) (keyword_append n rest) ∙ has_mark 58 n rest refl)
      ∙ ap (λ l. token kind.Keyword (keyword l)) before_first

operator_no_colon : (b : ℕ) → begins_binary b ≡ true → (b == 58) ≡ false
operator_no_colon b e = search (rules, tests)

special_is : (b : ℕ) → class_of b ≡ class_of 43 → IsOperator (class_of b)
special_is b e = subst IsOperator (sym e) tt

binary_no_colon : (w : List ℕ) → IsBinary w → has 58 w ≡ false
binary_no_colon [] h = absurd h
binary_no_colon (b ∷ []) h = ap (λ t. t || false) (operator_no_colon b (operator_then b h))
binary_no_colon (b ∷ c ∷ []) h =
    ap (λ t. t || ((c == 58) || false)) (operator_no_colon b (operator_then b h.0)) ∙ ap (λ t. t || false) (operator_no_colon c (operator_then c (special_is c h.1)))
binary_no_colon (b ∷ c ∷ d ∷ w) h = absurd h

pub binary_part : (w : List ℕ) → IsBinary w → part_token w ≡ token kind.Binary w
binary_part w h = ap (λ t. if t then token kind.Keyword (keyword (before 58 w)) else token kind.Binary w) (binary_no_colon w h)
