-- What stands at the front of tokens, read.
use Rattle.std.proofs.Common.{◌≡◌, refl, sym, subst, Option, Some, None, true, List, [], ◌∷◌, ℕ, zero, suc, bytes_eq, inl}
use Rattle.std.proofs.lemmas.Slice.Eq.{bytes_eq-Decides}
use Rattle.s80_lex.specs.declared.token.TokenKind.{TokenKind}
use Rattle.s80_lex.specs.declared.token.TokenKind.TheVariants as token
use Rattle.s80_tree.specs.declared.name.NameAt.{NameAt}
use Rattle.s80_syntax.specs.Lexeme.{Lexemes}
use Rattle.s80_syntax.specs.Literals.{IsLiteralKind, token_literal}
use Rattle.s80_syntax.specs.Grammar.{Takes, IsMark, IsSign, IsName, IsDeclared, IsTargets, AreDeclared, AreParameters, IsBar, IsLiteral}
use Rattle.s80_syntax.specs.Word.{is_reserved, bar}
use Rattle.s80_apply.proofs.KernelTold.{◌>>=◌, first_of, told, told_not, same_kind}

-- what was read, and the tokens that are left
pub record Read {T : Type 0} (Is : T → Lexemes → Lexemes → Type 0) (ts : Lexemes) : Type 0 where
  pub tree : T
  pub rest : Lexemes
  pub is : Is tree ts rest

abbrev pub token_in : (k : TokenKind) (ts : Lexemes) → Option (Read (Takes k) ts)
token_in k [] = None
token_in k (l ∷ ts) = do
  e ← same_kind l.kind k
  Some (record { tree = l; rest = ts; is = (refl, e) })

-- a mark, which says nothing
abbrev pub mark_in : (k : TokenKind) (ts : Lexemes) → Option (Read (λ (u : Unit {0}). IsMark k) ts)
mark_in k ts = do
  t ← token_in k ts
  Some (record { tree = tt; rest = t.rest; is = (t.tree, t.is) })

pub same_bytes : (a b : List ℕ) → bytes_eq a b ≡ true → a ≡ b
same_bytes a b e = (bytes_eq-Decides a b).0 e

abbrev pub sign_in : (k : TokenKind) (word : List ℕ) (ts : Lexemes) → Option (Read (λ (u : Unit {0}). IsSign k word) ts)
sign_in k word ts = do
  t ← token_in k ts
  e ← told (bytes_eq t.tree.bytes word)
  Some (record { tree = tt; rest = t.rest; is = (t.tree, t.is, same_bytes t.tree.bytes word e) })

abbrev pub bar_in : (ts : Lexemes) → Option (Read (λ (u : Unit {0}). IsBar) ts)
bar_in ts = sign_in token.Binary bar ts

abbrev pub name_in : (ts : Lexemes) → Option (Read IsName ts)
name_in ts = do
  t ← token_in token.Name ts
  Some (record { tree = record { name = t.tree.bytes; at = t.tree.at }; rest = t.rest; is = (t.tree, t.is, refl, refl) })

abbrev pub declared_in : (ts : Lexemes) → Option (Read IsDeclared ts)
declared_in ts = do
  n ← name_in ts
  e ← told_not (is_reserved n.tree.name)
  Some (record { tree = n.tree; rest = n.rest; is = (n.is, e) })

abbrev target_in : (ts : Lexemes) → Option (Read IsTargets ts)
target_in ts = do
  n ← name_in ts
  sign ← mark_in token.Assign n.rest
  Some (record { tree = n.tree ∷ []; rest = sign.rest; is = (n.rest, sign.rest, n.is, sign.is, refl) })

-- at most one target
abbrev pub targets_in : (ts : Lexemes) → Read IsTargets ts
targets_in ts = elim (target_in ts) [ Some t ↦ t | None ↦ record { tree = []; rest = ts; is = refl } ]

-- declared names, as many as there are, up to a bound
abbrev pub names_in : ℕ → (ts : Lexemes) → Read AreDeclared ts
names_in zero ts = record { tree = []; rest = ts; is = refl }
names_in (suc k) ts = elim (declared_in ts) [
  | None ↦ record { tree = []; rest = ts; is = refl }
  | Some n ↦
      let more = names_in k n.rest in
      record { tree = n.tree ∷ more.tree; rest = more.rest; is = (n.rest, n.is, more.is) }
]

abbrev pub parameter_in : (ts : Lexemes) → Option (Read (λ (n : NameAt) ts rest. (mid : Lexemes) × IsMark token.Colon ts mid × IsDeclared n mid rest) ts)
parameter_in ts = do
  colon ← mark_in token.Colon ts
  n ← declared_in colon.rest
  Some (record { tree = n.tree; rest = n.rest; is = (colon.rest, colon.is, n.is) })

abbrev pub parameters_in : ℕ → (ts : Lexemes) → Read AreParameters ts
parameters_in zero ts = record { tree = []; rest = ts; is = refl }
parameters_in (suc k) ts = elim (parameter_in ts) [
  | None ↦ record { tree = []; rest = ts; is = refl }
  | Some n ↦
      let more = parameters_in k n.rest in
      record { tree = n.tree ∷ more.tree; rest = more.rest; is = (n.is.0, n.rest, n.is.1, n.is.2, more.is) }
]

-- a literal of one token
abbrev single_in : (k : TokenKind) → IsLiteralKind k → (ts : Lexemes) → Option (Read IsLiteral ts)
single_in k is_literal ts = do
  t ← token_in k ts
  Some (record { tree = token_literal t.tree.kind t.tree.bytes; rest = t.rest; is = inl (t.tree, t.is.0, subst IsLiteralKind (sym t.is.1) is_literal, refl) })

-- numbers and strings
abbrev pub literal_in : (ts : Lexemes) → Option (Read IsLiteral ts)
literal_in ts = first_of (single_in token.Number tt ts) (single_in token.Str tt ts)
