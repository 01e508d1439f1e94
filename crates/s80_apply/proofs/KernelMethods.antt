-- The method that tokens are, read.
use Rattle.std.proofs.Common.{◌≡◌, refl, subst, Option, Some, None, false, List, [], ◌∷◌, ◌++◌, ℕ, zero, suc, nat_le, inl, inr, pos}
use Rattle.std.proofs.lemmas.Bool.{leb-true}
use Rattle.s80_lex.specs.declared.token.TokenKind.TheVariants as token
use Rattle.s80_lex.specs.Number.{number_literal}
use Rattle.s80_base.specs.Literal.{LiteralTree, small}
use Rattle.s80_tree.specs.declared.name.NameAt.{NameAt}
use Rattle.s80_tree.specs.Tree.{BodyTree, MethodParts}
use Rattle.s80_syntax.specs.Lexeme.{Lexeme, Lexemes}
use Rattle.s80_syntax.specs.Grammar.{Takes, IsDeclared, AreKeywords, IsPattern, IsPrimitive, AreTemporaries, AreOptionalTemporaries, IsHead, IsBody, IsMethod}
use Rattle.s80_syntax.specs.Word.{less, greater, primitive_word}
use Rattle.s80_apply.proofs.KernelTold.{◌>>=◌, first_of, told}
use Rattle.s80_apply.proofs.KernelMarks.{Read, token_in, sign_in, bar_in, declared_in, names_in}
use Rattle.s80_apply.proofs.KernelExprs.{readers}

-- ---- patterns: a selector and parameters

abbrev Pattern : Lexemes → Type 0
Pattern ts = Read (λ (x : List ℕ × List NameAt). IsPattern x.0 x.1) ts

abbrev keyword_in : (ts : Lexemes) → Option (Read (λ (x : Lexeme × NameAt) ts rest. (mid : Lexemes) × Takes token.Keyword x.0 ts mid × IsDeclared x.1 mid rest) ts)
keyword_in ts = do
  l ← token_in token.Keyword ts
  n ← declared_in l.rest
  Some (record { tree = (l.tree, n.tree); rest = n.rest; is = (l.rest, l.is, n.is) })

abbrev keywords_in : ℕ → (ts : Lexemes) → Read (λ (x : List ℕ × List NameAt). AreKeywords x.1 x.0) ts
keywords_in zero ts = record { tree = ([], []); rest = ts; is = (refl, refl) }
keywords_in (suc k) ts = elim (keyword_in ts) [
  | None ↦ record { tree = ([], []); rest = ts; is = (refl, refl) }
  | Some part ↦
      let more = keywords_in k part.rest in
      record { tree = (part.tree.0.bytes ++ more.tree.0, part.tree.1 ∷ more.tree.1); rest = more.rest; is = (part.tree.0, part.is.0, part.rest, more.tree.0, part.is.1, refl, part.is.2, more.is) }
]

abbrev keyword_pattern : (ts : Lexemes) → Option (Pattern ts)
keyword_pattern ts = do
  part ← keyword_in ts
  let more = keywords_in 4 part.rest
  Some (record { tree = (part.tree.0.bytes ++ more.tree.0, part.tree.1 ∷ more.tree.1); rest = more.rest; is = inr (part.tree.0, part.is.0, part.rest, more.tree.0, part.is.1, refl, part.is.2, more.is) })

abbrev binary_pattern : (ts : Lexemes) → Option (Pattern ts)
binary_pattern ts = do
  l ← token_in token.Binary ts
  n ← declared_in l.rest
  Some (record { tree = (l.tree.bytes, n.tree ∷ []); rest = n.rest; is = inl (l.tree, l.rest, l.is, refl, n.is, refl) })

abbrev unary_pattern : (ts : Lexemes) → Option (Pattern ts)
unary_pattern ts = do
  l ← token_in token.Name ts
  Some (record { tree = (l.tree.bytes, []); rest = l.rest; is = (l.tree, l.is, refl) })

abbrev pattern_in : (ts : Lexemes) → Option (Pattern ts)
pattern_in ts = first_of (keyword_pattern ts) (first_of (binary_pattern ts) (unary_pattern ts))

-- ---- heads: temporaries and a primitive

abbrev temporaries_in : (ts : Lexemes) → Option (Read AreTemporaries ts)
temporaries_in ts = do
  bar ← bar_in ts
  let ns = names_in 4 bar.rest
  other ← bar_in ns.rest
  Some (record { tree = ns.tree; rest = other.rest; is = (bar.rest, ns.rest, bar.is, ns.is, other.is) })

abbrev optional_temporaries : (ts : Lexemes) → Read AreOptionalTemporaries ts
optional_temporaries ts = elim (temporaries_in ts) [
  | Some ns ↦ record { tree = ns.tree; rest = ns.rest; is = inl ns.is }
  | None ↦ record { tree = []; rest = ts; is = inr (refl, refl) }
]

abbrev natural : (v : LiteralTree) → Option ((n : ℕ) × (v ≡ small (pos n)))
natural (small (pos n)) = Some (n, refl)
natural v = None

abbrev primitive_in : (ts : Lexemes) → Option (Read IsPrimitive ts)
primitive_in ts = do
  a ← sign_in token.Binary less ts
  b ← sign_in token.Keyword primitive_word a.rest
  l ← token_in token.Number b.rest
  n ← natural (number_literal false l.tree.bytes)
  low ← told (nat_le 1 n.0)
  high ← told (nat_le n.0 255)
  d ← sign_in token.Binary greater l.rest
  Some (record { tree = n.0; rest = d.rest; is = (l.tree, a.rest, b.rest, l.rest, a.is, b.is, l.is, n.1, leb-true 1 n.0 low, leb-true n.0 255 high, d.is) })

abbrev Head : Lexemes → Type 0
Head ts = Read (λ (x : List NameAt × ℕ). IsHead x.0 x.1) ts

abbrev primitive_head : (ts : Lexemes) → Option (Head ts)
primitive_head ts = do
  n ← primitive_in ts
  let ns = optional_temporaries n.rest
  Some (record { tree = (ns.tree, n.tree); rest = ns.rest; is = inr (inl (n.rest, n.is, ns.is)) })

abbrev plain_head : (ts : Lexemes) → Head ts
plain_head ts =
    let ns = optional_temporaries ts in
    record { tree = (ns.tree, 0); rest = ns.rest; is = inl (refl, ns.is) }

abbrev head_in : (ts : Lexemes) → Option (Head ts)
head_in ts = first_of (primitive_head ts) (Some (plain_head ts))

-- ---- methods

abbrev none_left : (ts : Lexemes) → Option (ts ≡ [])
none_left [] = Some refl
none_left (l ∷ ts) = None

pub whole_body : (ss : BodyTree) (ts rest : Lexemes) → rest ≡ [] → IsBody ss ts rest → IsBody ss ts []
whole_body ss ts rest e h = subst (IsBody ss ts) e h

abbrev pub method_in : (ts : Lexemes) → Option ((m : MethodParts) × IsMethod m ts)
method_in ts = do
  pattern ← pattern_in ts
  head ← head_in pattern.rest
  ss ← (readers 40).body_in head.rest
  e ← none_left ss.rest
  Some (record { selector = pattern.tree.0; parameters = pattern.tree.1; temporaries = head.tree.0; primitive = head.tree.1; body = ss.tree }, (pattern.rest, head.rest, pattern.is, head.is, whole_body ss.tree head.rest ss.rest e ss.is))
