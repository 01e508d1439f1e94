-- The tokens of a text: their bytes and their number are bounded by the text, and names are spelled as such.
use Rattle.std.proofs.Common.{◌≡◌, ◌≤◌, ◌<◌, ◌+◌, ◌*◌, ◌-◌, ℕ, suc, sym, subst, List, [], ◌∷◌, length, take, drop, slice_range, arith, length-take, length-drop}
use Rattle.std.specs.List.{All, AllByRecursion, AllPairs}
use Rattle.std.proofs.lemmas.List.Elements.{All-head, recursion_from_All}
use Rattle.std.proofs.lemmas.Slice.{between_is}
use Rattle.s80_lex.specs.declared.token.Token.{Token}
use Rattle.s80_lex.specs.declared.token.TokenKind.TheVariants as kind
use Rattle.s80_lex.specs.Spelling.{IsName, IsToken}
use Rattle.s80_lex.specs.Text.{AreTokens, IsSlice}
use Rattle.s80_lex.proofs.lemmas.Slices.{in_order, slices}
use Rattle.s80_syntax.specs.Lexeme.{Lexeme, Lexemes, lexemes}

-- how many bytes tokens have, and how many they are
abbrev pub weight : Lexemes → ℕ
weight [] = 0
weight (l ∷ ts) = suc (length l.bytes) + weight ts

-- names are names
abbrev pub AreNamed : Lexemes → Type 0
AreNamed ts = AllByRecursion (λ (l : Lexeme). l.kind ≡ kind.Name → IsName l.bytes) ts

slice_length : (text : List ℕ) (from to : ℕ) → length (slice_range text from to) ≤ to - from
slice_length text from to = subst (λ bytes. length bytes ≤ to - from) (sym (between_is text from to)) (omega (arith, length-drop from (take to text), length-take to text))

-- each stands behind the one before, and is one of the text
abbrev Rise : ℕ → ℕ → List Token → Type 0
Rise from end [] = from ≤ end
Rise from end (t ∷ ts) = (from ≤ t.from) × (t.from < t.to) × Rise t.to end ts

weight_within : (text : List ℕ) (from end : ℕ) (ts : List Token) → Rise from end ts → weight (lexemes text ts) + 2 * from ≤ 2 * end
weight_within text from end [] rise = omega (arith, rise)
weight_within text from end (t ∷ ts) rise =
    omega (arith, rise.0, rise.1, weight_within text t.to end ts rise.2, slice_length text t.from t.to)

module _ {X : Type 0} (R : X → X → Type 0) where
  pairs_first : (x : X) (xs : List X) → AllPairs R (x ∷ xs) → All (R x) xs
  pairs_first x xs all = λ k d lt. all 0 (suc k) d (omega (arith, lt)) (omega (arith, lt))

  pairs_rest : (x : X) (xs : List X) → AllPairs R (x ∷ xs) → AllPairs R xs
  pairs_rest x xs all = λ i j d less lt. all (suc i) (suc j) d (omega (arith, less)) (omega (arith, lt))

abbrev Before : Token → Token → Type 0
Before a b = a.to ≤ b.from

abbrev Behind : ℕ → Token → Type 0
Behind at t = at ≤ t.from

all_rise : (text : List ℕ) (from : ℕ) (ts : List Token) → from ≤ length text → AllByRecursion (IsSlice text) ts → All (Behind from) ts → AllPairs Before ts
    → Rise from (length text) ts
all_rise text from [] le each first pairs = le
all_rise text from (t ∷ ts) le each first pairs =
    (All-head (Behind from) t ts first, each.0.some, all_rise text t.to ts each.0.within each.1 (pairs_first Before t ts pairs) (pairs_rest Before t ts pairs))

named_slices : (text : List ℕ) (ts : List Token) → AllByRecursion (IsSlice text) ts → AreNamed (lexemes text ts)
named_slices text [] all = tt
named_slices text (t ∷ ts) all =
    (λ is. subst (λ k. IsToken k (slice_range text t.from t.to) (drop t.to text)) is all.0.spelled, named_slices text ts all.1)

-- the tokens of a text of at most 65,535 bytes
pub record IsFine (ts : Lexemes) : Type 0 where
  pub few : weight ts ≤ 131070
  pub named : AreNamed ts

pub tokens_fine : (text : List ℕ) (tokens : List Token) → length text ≤ 65535 → AreTokens tokens text → IsFine (lexemes text tokens)
tokens_fine text tokens short are =
    let each : AllByRecursion (IsSlice text) tokens = recursion_from_All (IsSlice text) tokens (slices tokens text are) in
    record {
      few = omega (arith, weight_within text 0 (length text) tokens (all_rise text 0 tokens (omega arith) each (λ k d lt. omega arith) (in_order tokens text are)), short);
      named = named_slices text tokens each;
    }
