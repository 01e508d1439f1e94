-- The names to which an expression is assigned, as they are read.
use Rattle.std.proofs.Common.{subst, ◌≡◌, ℕ, ◌<◌, List, [], ◌∷◌, ◌++◌, Bool, true, false, cond, length, refl, ap, sym, ◌∙◌, arith}
use Rattle.s80_lex.specs.declared.token.Token.{Token}
use Rattle.s80_lex.specs.declared.token.TokenKind.TheVariants as kind
use Rattle.s80_tree.specs.declared.name.NameAt.{NameAt}
use Rattle.s80_syntax.specs.Lexeme.{Lexeme, Lexemes, lexeme, lexemes}
use Rattle.s80_syntax.specs.Grammar.{IsMark, IsName, IsTargets}
use Rattle.s80_syntax.specs.Word.{is_minus}
use Rattle.s80_syntax.specs.Limits.{may_assign}
use Rattle.s80_syntax.specs.Faults.{NotAssignable}
use Rattle.s80_syntax.specs.Stack.{Symbol, Stack, Assigns, Refuses, Fails, run, takes, act, step, assigns, expr_takes, assign_takes, expr_start, after_name}
use Rattle.s80_syntax.proofs.Moves.{pushes, assigned}
use Rattle.s80_syntax.specs.Reads.{AreSlices, IsNotNext, Stops, bytes_of}
use Rattle.s80_syntax.specs.Names.{IsTargetNext}
use Rattle.s80_syntax.proofs.NextToken.{takes_next, tail_slices}
use Rattle.s80_syntax.proofs.Steps.{at_list}

-- one more target
targets_more : (ns : List NameAt) (n : NameAt) (ts a b rest : Lexemes) → IsTargets ns ts a → IsName n a b → IsMark kind.Assign b rest → IsTargets (ns ++ n ∷ []) ts rest
targets_more [] n ts a b rest h i j = (b, rest, (i.0, (h ∙ i.1.0, i.1.1), i.2, i.3), j, refl)
targets_more (m ∷ ns) n ts a b rest h i j = (h.0, h.1, h.2, h.3, targets_more ns n h.1 a b rest h.4 i j)

pub target_read : (text : List ℕ) (old new : List NameAt) (n : NameAt) (ts : Lexemes) (a b rest : List Token) (t u : Token) → IsTargets old ts (lexemes text a) → a ≡ t ∷ b → t.kind ≡ kind.Name → b ≡ u ∷ rest → u.kind ≡ kind.Assign → (n.name ≡ bytes_of text t) × (n.at ≡ t.from) → new ≡ old ++ n ∷ [] → IsTargets new ts (lexemes text rest)
target_read text old new n ts a b rest t u h e i f j v p =
    subst (λ x. IsTargets x ts (lexemes text rest)) (sym p) (targets_more old n ts (lexemes text a) (lexemes text b) (lexemes text rest) h (lexeme text t b, takes_next text a b t kind.Name e i, v.0, v.1) (lexeme text u rest, takes_next text b rest u kind.Assign f j))

name_pushed : (text : List ℕ) (a b : List Token) (t : Token) → a ≡ t ∷ b → t.kind ≡ kind.Name → (k : Stack) → run true (lexemes text a) (expr_start ∷ k) ≡ run true (lexemes text b) (after_name (lexeme text t b) ∷ k)
name_pushed text a b t e i k =
    at_list text a (t ∷ b) (expr_start ∷ k) e
    ∙ pushes true (lexeme text t b) (lexemes text b) expr_start k (after_name (lexeme text t b) ∷ []) (ap (λ x. expr_takes x (is_minus (lexeme text t b)) (lexeme text t b) [] Refuses) i)

pub target_taken : (text : List ℕ) (names : List ℕ → Bool) (a b rest : List Token) (t u : Token) → a ≡ t ∷ b → t.kind ≡ kind.Name → b ≡ u ∷ rest → u.kind ≡ kind.Assign → names (bytes_of text t) ≡ true → (k : Stack) → assigns k ≡ names → run true (lexemes text a) (expr_start ∷ k) ≡ run true (lexemes text rest) (expr_start ∷ k)
target_taken text names a b rest t u e i f j s k g =
    name_pushed text a b t e i k
    ∙ at_list text b (u ∷ rest) (after_name (lexeme text t b) ∷ k) f
    ∙ assigned true (lexeme text u rest) (lexemes text rest) (after_name (lexeme text t b)) k (lexeme text t b) (ap (λ x. assign_takes x (lexeme text t b)) j) (ap (λ x. may_assign true x (bytes_of text t)) g ∙ s)

refuses_target : (l : Lexeme) (ts : Lexemes) (a : Symbol) (k : Stack) (n : Lexeme) → takes a l ≡ Assigns n → may_assign true (assigns k) n.bytes ≡ false → run true (l ∷ ts) (a ∷ k) ≡ Fails (NotAssignable n) (l ∷ ts)
unfolding run
refuses_target l ts a k n e h =
    ap (λ x. act true (run true ts) l ts k x (step true (run true ts) l ts k)) e
    ∙ ap (λ x. cond x (run true ts (expr_start ∷ k)) (Fails (NotAssignable n) (l ∷ ts))) h

pub target_refused : (text : List ℕ) (depth : ℕ) (names : List ℕ → Bool) (ts a b rest : List Token) (t u : Token) → ((k : Stack) → assigns k ≡ names → run true (lexemes text ts) (expr_start ∷ k) ≡ run true (lexemes text a) (expr_start ∷ k)) → a ≡ t ∷ b → t.kind ≡ kind.Name → b ≡ u ∷ rest → u.kind ≡ kind.Assign → names (bytes_of text t) ≡ false → (n : Lexeme) × Stops text depth names (expr_start ∷ []) (lexemes text ts) (NotAssignable n) t.from
target_refused text depth names ts a b rest t u h e i f j s = (
  lexeme text t b,
  record {
    rest = lexemes text b;
    is_place = refl;
    same = λ k g.
        h k g.1 ∙ name_pushed text a b t e i k
        ∙ at_list text b (u ∷ rest) (after_name (lexeme text t b) ∷ k) f
        ∙ refuses_target (lexeme text u rest) (lexemes text rest) (after_name (lexeme text t b)) k (lexeme text t b) (ap (λ x. assign_takes x (lexeme text t b)) j) (ap (λ x. may_assign true x (bytes_of text t)) g.1 ∙ s)
        ∙ ap (λ x. Fails (NotAssignable (lexeme text t b)) (lexemes text x)) (sym f);
  },
)

no_target_name : (t : Token) (b : List Token) → IsNotNext kind.Assign b → IsTargetNext (t ∷ b) → ⊥
no_target_name t [] n h = h
no_target_name t (u ∷ b) n h = n h.1

pub no_target_here : (a b : List Token) (t : Token) → a ≡ t ∷ b → IsNotNext kind.Assign b → IsTargetNext a → ⊥
no_target_here a b t e n h = no_target_name t b n (subst IsTargetNext e h)

pub no_target_end : (a : List Token) → IsNotNext kind.Name a → IsTargetNext a → ⊥
no_target_end [] n h = h
no_target_end (t ∷ []) n h = h
no_target_end (t ∷ u ∷ ts) n h = n h.0

pub two_slices : (text : List ℕ) (a b rest : List Token) (t u : Token) → a ≡ t ∷ b → b ≡ u ∷ rest → AreSlices text a → AreSlices text rest
two_slices text a b rest t u e f h = tail_slices text b rest u f (tail_slices text a b t e h)

pub two_smaller : (a b rest : List Token) (t u : Token) → a ≡ t ∷ b → b ≡ u ∷ rest → length rest < length a
two_smaller a b rest t u e f = omega (arith, ap length e, ap length f)
