-- Literals of a source are brief: no text in them is longer than the source.
use Rattle.std.proofs.Common.{◌≡◌, inl, inr, ◌≤◌, ◌<◌, ◌+◌, ◌-◌, ◌^◌, ◌==◌, ◌&&◌, ℕ, zero, suc, Bool, cond, true, false, nat_le, nat_lt, refl, sym, ap, subst, List, [], ◌∷◌, length, drop, arith, length-append, length-take, length-drop}
use Rattle.std.specs.Prelude.{ℤ, pos, negsuc, neg_ℤ, codes}
use Rattle.std.specs.Str.{bytes_eq}
use Rattle.std.proofs.lemmas.Bool.Decides.{nat_tests}
use Rattle.s80_base.specs.Literal.{LiteralTree, LiteralTrees, small, character, str, symbol, array, true_literal, false_literal, nil_literal, number, no_literals, literals}
use Rattle.s80_base.specs.declared.literal.NumberKind.TheVariants.{Float, LargeNegative, LargePositive}
use Rattle.s80_image.specs.Literals.{count_of}
use Rattle.s80_form.specs.Name.{IsBrief}
use Rattle.s80_lex.specs.Number.{is_whole, negative_literal, number_literal, positive_literal, signed, whole_value}
use Rattle.s80_lex.specs.declared.token.TokenKind.{TokenKind}
use Rattle.s80_lex.specs.declared.token.TokenKind.TheVariants as kind
use Rattle.s80_syntax.specs.Grammar.{AreElements, AreJoined, IsArray, IsArrayStart, IsLiteral, IsMark, IsNegative, IsSingle, IsWord}
use Rattle.s80_syntax.specs.Lexeme.{Lexeme, Lexemes}
use Rattle.s80_syntax.specs.Literals.{IsLiteralKind, between_ends, name_literal, token_literal, unquoted}
use Rattle.s80_snapshot.proofs.BriefTokens.{AreNamed, IsFine, weight}

-- ---- what is left of the tokens

pub record Left (n : ℕ) (ts rest : Lexemes) : Type 0 where
  pub takes : n + weight rest ≤ weight ts
  pub named : AreNamed ts → AreNamed rest

-- a part that is so, and takes so much
abbrev pub Read : Type 0 → ℕ → Lexemes → Lexemes → Type 0
Read P n ts rest = P × Left n ts rest

pub fine_on : (n : ℕ) (ts rest : Lexemes) → IsFine ts → Left n ts rest → IsFine rest
fine_on n ts rest fine left = record { few = omega (arith, fine.few, left.takes); named = left.named fine.named }

pub left_none : (ts rest : Lexemes) → ts ≡ rest → Left 0 ts rest
left_none ts rest is = record { takes = omega (arith, ap weight is); named = λ named. subst AreNamed is named }

pub left_then : (n m : ℕ) (ts mid rest : Lexemes) → Left n ts mid → Left m mid rest → Left (n + m) ts rest
left_then n m ts mid rest first second = record { takes = omega (arith, first.takes, second.takes); named = λ named. second.named (first.named named) }

pub left_less : (n m : ℕ) (ts rest : Lexemes) → n ≤ m → Left m ts rest → Left n ts rest
left_less n m ts rest le left = record { takes = omega (arith, le, left.takes); named = left.named }

pub left_one : (l : Lexeme) (ts rest : Lexemes) → ts ≡ l ∷ rest → Left (suc (length l.bytes)) ts rest
left_one l ts rest is = record { takes = omega (arith, ap weight is); named = λ named. (subst AreNamed is named).1 }

pub left_mark : (k : TokenKind) (ts rest : Lexemes) → IsMark k ts rest → Left 1 ts rest
left_mark k ts rest h = left_less 1 (suc (length h.0.bytes)) ts rest (omega arith) (left_one h.0 ts rest h.1.0)

-- ---- literals

-- a SmallInteger
abbrev pub IsSmall : ℤ → Type 0
IsSmall (pos n) = n < 2 ^ 30
IsSmall (negsuc n) = n < 2 ^ 30

abbrev mutual
  pub IsBriefLiteral : LiteralTree → Type 0
  IsBriefLiteral (small z) = IsSmall z
  IsBriefLiteral (character c) = Unit {0}
  IsBriefLiteral (str t) = IsBrief t
  IsBriefLiteral (symbol t) = IsBrief t
  IsBriefLiteral (array vs) = (count_of vs < 2 ^ 32) × AreBriefLiterals vs
  IsBriefLiteral true_literal = Unit {0}
  IsBriefLiteral false_literal = Unit {0}
  IsBriefLiteral nil_literal = Unit {0}
  IsBriefLiteral (number k t) = IsBrief t

  pub AreBriefLiterals : LiteralTrees → Type 0
  AreBriefLiterals no_literals = Unit {0}
  AreBriefLiterals (literals v vs) = IsBriefLiteral v × AreBriefLiterals vs

-- ---- numbers

negated_small : (n : ℕ) → n ≤ 2 ^ 30 → IsSmall (neg_ℤ (pos n))
negated_small zero le = omega arith
negated_small (suc n) le = omega (arith, le)

positive_brief : (bytes : List ℕ) → IsBrief bytes → IsBriefLiteral (positive_literal bytes)
positive_brief bytes brief = go (nat_lt (whole_value bytes) (2 ^ 30)) refl
  where
    go : (b : Bool) → nat_lt (whole_value bytes) (2 ^ 30) ≡ b → IsBriefLiteral (cond b (small (pos (whole_value bytes))) (number LargePositive bytes))
    go true is = grind (arith, nat_tests)
    go false is = brief

negative_brief : (bytes : List ℕ) → suc (length bytes) < 2 ^ 32 → IsBriefLiteral (negative_literal bytes)
negative_brief bytes brief = go (nat_le (whole_value bytes) (2 ^ 30)) refl
  where
    le_of : (n : ℕ) → nat_le n (2 ^ 30) ≡ true → n ≤ 2 ^ 30
    le_of n is = grind (arith, nat_tests)

    go : (b : Bool) → nat_le (whole_value bytes) (2 ^ 30) ≡ b → IsBriefLiteral (cond b (small (neg_ℤ (pos (whole_value bytes)))) (number LargeNegative (45 ∷ bytes)))
    go true is = negated_small (whole_value bytes) (le_of (whole_value bytes) is)
    go false is = omega (arith, brief)

pub number_brief : (negative : Bool) (bytes : List ℕ) → suc (length bytes) < 2 ^ 32 → IsBriefLiteral (number_literal negative bytes)
unfolding number_literal
number_brief negative bytes brief = go (is_whole bytes) negative
  where
    go : (w n : Bool) → IsBriefLiteral (cond w (cond n (negative_literal bytes) (positive_literal bytes)) (number Float (signed n bytes)))
    go true true = negative_brief bytes brief
    go true false = positive_brief bytes (omega (arith, brief))
    go false true = omega (arith, brief)
    go false false = omega (arith, brief)

-- ---- tokens

unquoted_shorter : (bytes : List ℕ) → length (unquoted bytes) ≤ length bytes
unquoted_shorter [] = omega arith
unquoted_shorter (b ∷ []) = omega arith
unquoted_shorter (b ∷ c ∷ bytes) = go ((b == 39) && (c == 39)) (unquoted_shorter bytes) (unquoted_shorter (c ∷ bytes))
  where
    go : (q : Bool) → length (unquoted bytes) ≤ length bytes → length (unquoted (c ∷ bytes)) ≤ suc (length bytes)
        → length (cond q (39 ∷ unquoted bytes) (b ∷ unquoted (c ∷ bytes))) ≤ suc (suc (length bytes))
    go true one other = omega (arith, one)
    go false one other = omega (arith, other)

token_brief : (k : TokenKind) (bytes : List ℕ) → IsLiteralKind k → suc (length bytes) < 2 ^ 32 → IsBriefLiteral (token_literal k bytes)
token_brief kind.Number bytes is brief = number_brief false bytes brief
token_brief kind.Character bytes is brief = tt
token_brief kind.Str bytes is brief = omega (arith, brief, unquoted_shorter (between_ends bytes), length-take (length bytes - 2) (drop 1 bytes), length-drop 1 bytes)
token_brief kind.Symbol bytes is brief = omega (arith, brief, length-drop 1 bytes)
token_brief kind.Name bytes is brief = absurd is
token_brief kind.Keyword bytes is brief = absurd is
token_brief kind.Assign bytes is brief = absurd is
token_brief kind.Binary bytes is brief = absurd is
token_brief kind.ArrayStart bytes is brief = absurd is
token_brief kind.OpenParen bytes is brief = absurd is
token_brief kind.CloseParen bytes is brief = absurd is
token_brief kind.OpenBracket bytes is brief = absurd is
token_brief kind.CloseBracket bytes is brief = absurd is
token_brief kind.Caret bytes is brief = absurd is
token_brief kind.Semicolon bytes is brief = absurd is
token_brief kind.Period bytes is brief = absurd is
token_brief kind.Colon bytes is brief = absurd is

-- a token of such a text is brief
pub short_token : (l : Lexeme) (ts rest : Lexemes) → IsFine ts → ts ≡ l ∷ rest → suc (length l.bytes) < 2 ^ 32
short_token l ts rest fine is = omega (arith, fine.few, ap weight is)

single_read : (v : LiteralTree) (ts rest : Lexemes) → IsSingle v ts rest → IsFine ts → Read (IsBriefLiteral v) 1 ts rest
single_read v ts rest h fine = (
  subst IsBriefLiteral (sym h.3) (token_brief h.0.kind h.0.bytes h.2 (short_token h.0 ts rest fine h.1)),
  left_less 1 (suc (length h.0.bytes)) ts rest (omega arith) (left_one h.0 ts rest h.1),
)

negative_read : (v : LiteralTree) (ts rest : Lexemes) → IsNegative v ts rest → IsFine ts → Read (IsBriefLiteral v) 1 ts rest
negative_read v ts rest h fine =
    let first = left_one h.0 ts h.2 h.3.0 in
    let second = left_one h.1 h.2 rest h.5.0 in (
      subst IsBriefLiteral (sym h.6) (number_brief true h.1.bytes (short_token h.1 h.2 rest (fine_on (suc (length h.0.bytes)) ts h.2 fine first) h.5.0)),
      left_less 1 (suc (length h.0.bytes) + suc (length h.1.bytes)) ts rest (omega arith) (left_then (suc (length h.0.bytes)) (suc (length h.1.bytes)) ts h.2 rest first second),
    )

pub joined_left : (word : List ℕ) (ts rest : Lexemes) → AreJoined word ts rest → Left (suc (length word)) ts rest
joined_left word [] rest h = absurd h
joined_left word (l ∷ ts) rest (is, inl h) =
    left_less (suc (length word)) (suc (length l.bytes)) (l ∷ ts) rest (omega (arith, ap length h.1)) (left_one l (l ∷ ts) rest (ap (λ k. l ∷ k) h.2))
joined_left word (l ∷ ts) rest (is, inr h) =
    left_less (suc (length word)) (suc (length l.bytes) + suc (length h.0)) (l ∷ ts) rest (omega (arith, ap length h.2, length-append l.bytes h.0))
    (left_then (suc (length l.bytes)) (suc (length h.0)) (l ∷ ts) ts rest (left_one l (l ∷ ts) ts refl) (joined_left h.0 ts rest h.3))

named_brief : (bytes : List ℕ) → IsBrief bytes → IsBriefLiteral (name_literal bytes)
named_brief bytes brief = go (bytes_eq bytes (codes "true")) (bytes_eq bytes (codes "false")) (bytes_eq bytes (codes "nil"))
  where
    go : (a b c : Bool) → IsBriefLiteral (cond a true_literal (cond b false_literal (cond c nil_literal (symbol bytes))))
    go true b c = tt
    go false true c = tt
    go false false true = tt
    go false false false = brief

word_read : (v : LiteralTree) (ts rest : Lexemes) → IsWord v ts rest → IsFine ts → Read (IsBriefLiteral v) 1 ts rest
word_read v ts rest (inl h) fine = (
  subst IsBriefLiteral (sym h.2) (named_brief h.0.bytes (let short : suc (length h.0.bytes) < 2 ^ 32 = short_token h.0 ts rest fine h.1.0 in omega (arith, short))),
  left_less 1 (suc (length h.0.bytes)) ts rest (omega arith) (left_one h.0 ts rest h.1.0),
)
word_read v ts rest (inr (inl h)) fine = (
  subst IsBriefLiteral (sym h.3) (let short : suc (length h.0.bytes) < 2 ^ 32 = short_token h.0 ts rest fine h.1.0 in omega (arith, short)),
  left_less 1 (suc (length h.0.bytes)) ts rest (omega arith) (left_one h.0 ts rest h.1.0),
)
word_read v ts rest (inr (inr h)) fine =
    let left = joined_left h.0 ts rest h.1 in
    (subst IsBriefLiteral (sym h.2) (omega (arith, left.takes, fine.few)), left_less 1 (suc (length h.0)) ts rest (omega arith) left)

start_left : (inner : Bool) (ts rest : Lexemes) → IsArrayStart inner ts rest → Left 1 ts rest
start_left false ts rest h = left_mark kind.ArrayStart ts rest h
start_left true ts rest (inl h) = left_mark kind.ArrayStart ts rest h
start_left true ts rest (inr h) = left_mark kind.OpenParen ts rest h

mutual
  array_read : (inner : Bool) (v : LiteralTree) (ts rest : Lexemes) → IsArray inner v ts rest → IsFine ts → Read (IsBriefLiteral v) 1 ts rest
  array_read inner (array vs) ts rest h fine =
      let first = start_left inner ts h.0 h.2 in
      let inside = elements_read vs h.0 h.1 h.3 (fine_on 1 ts h.0 fine first) in
      let last = left_mark kind.CloseParen h.1 rest h.4 in (
        (omega (arith, fine.few, first.takes, inside.1.takes), inside.0),
        left_less 1 (1 + (count_of vs + 1)) ts rest (omega arith) (left_then 1 (count_of vs + 1) ts h.0 rest first (left_then (count_of vs) 1 h.0 h.1 rest inside.1 last)),
      )
  array_read inner (small z) ts rest h fine = absurd h
  array_read inner (character c) ts rest h fine = absurd h
  array_read inner (str t) ts rest h fine = absurd h
  array_read inner (symbol t) ts rest h fine = absurd h
  array_read inner true_literal ts rest h fine = absurd h
  array_read inner false_literal ts rest h fine = absurd h
  array_read inner nil_literal ts rest h fine = absurd h
  array_read inner (number k t) ts rest h fine = absurd h

  elements_read : (vs : LiteralTrees) (ts rest : Lexemes) → AreElements vs ts rest → IsFine ts → Read (AreBriefLiterals vs) (count_of vs) ts rest
  elements_read no_literals ts rest h fine = (tt, left_none ts rest h)
  elements_read (literals v vs) ts rest (a, inl h, more) fine =
      let one = single_read v ts a h fine in
      let others = elements_read vs a rest more (fine_on 1 ts a fine one.1) in
      ((one.0, others.0), left_less (suc (count_of vs)) (1 + count_of vs) ts rest (omega arith) (left_then 1 (count_of vs) ts a rest one.1 others.1))
  elements_read (literals v vs) ts rest (a, inr (inl h), more) fine =
      let one = negative_read v ts a h fine in
      let others = elements_read vs a rest more (fine_on 1 ts a fine one.1) in
      ((one.0, others.0), left_less (suc (count_of vs)) (1 + count_of vs) ts rest (omega arith) (left_then 1 (count_of vs) ts a rest one.1 others.1))
  elements_read (literals v vs) ts rest (a, inr (inr (inl h)), more) fine =
      let one = word_read v ts a h fine in
      let others = elements_read vs a rest more (fine_on 1 ts a fine one.1) in
      ((one.0, others.0), left_less (suc (count_of vs)) (1 + count_of vs) ts rest (omega arith) (left_then 1 (count_of vs) ts a rest one.1 others.1))
  elements_read (literals v vs) ts rest (a, inr (inr (inr h)), more) fine =
      let one = array_read true v ts a h fine in
      let others = elements_read vs a rest more (fine_on 1 ts a fine one.1) in
      ((one.0, others.0), left_less (suc (count_of vs)) (1 + count_of vs) ts rest (omega arith) (left_then 1 (count_of vs) ts a rest one.1 others.1))

pub literal_read : (v : LiteralTree) (ts rest : Lexemes) → IsLiteral v ts rest → IsFine ts → Read (IsBriefLiteral v) 1 ts rest
literal_read v ts rest (inl h) fine = single_read v ts rest h fine
literal_read v ts rest (inr (inl h)) fine = negative_read v ts rest h fine
literal_read v ts rest (inr (inr h)) fine = array_read false v ts rest h fine
