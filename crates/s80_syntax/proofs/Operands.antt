-- Literals where an operand is expected, as they are read.
use Rattle.std.proofs.Common.{subst, ◌≡◌, ◌≢◌, ℕ, ◌<◌, ◌≤◌, List, [], ◌∷◌, ◌++◌, Bool, true, false, length, refl, ap, sym, ◌∙◌, arith, ◌⊎◌, inl, inr, Option, Some, None}
use Rattle.std.specs.Borrow.{Bor}
use Rattle.s80_base.specs.declared.literal.Literal.{Literal}
use Rattle.s80_base.specs.Literal.{LiteralTree, LiteralTrees, array, literal_of}
use Rattle.s80_lex.specs.declared.token.Token.{Token}
use Rattle.s80_lex.specs.declared.token.TokenKind.{TokenKind}
use Rattle.s80_lex.specs.declared.token.TokenKind.TheVariants as kind
use Rattle.s80_syntax.specs.Lexeme.{Lexeme, Lexemes, lexeme, lexemes}
use Rattle.s80_syntax.specs.Literals.{IsLiteralKind}
use Rattle.s80_syntax.specs.Grammar.{IsSingle, IsNegative, IsLiteral}
use Rattle.s80_syntax.specs.Word.{is_minus}
use Rattle.s80_syntax.specs.Faults.{Unexpected, Nested}
use Rattle.s80_syntax.specs.Stack.{Symbol, Stack, Opens, Refuses, run, takes, assigns, primary_takes, primary, elements, close_paren}
use Rattle.s80_syntax.proofs.TakenLiterals.{single_at_primary, negative_at_primary}
use Rattle.s80_syntax.specs.declared.fault.ParseFault.{ParseFault}
use Rattle.s80_syntax.specs.Reads.{AreSlices, IsNotNext, Stops, FailsAs, Took, Parsed, place_in, bytes_of}
use Rattle.s80_syntax.specs.Literal.{IsTokenLiteral, NoMinus, IsArrayRest, IsOther, IsNegativeNext}
use Rattle.s80_syntax.proofs.NextToken.{takes_next, tail_slices}
use Rattle.s80_syntax.proofs.Steps.{at_list, fails_back, stops_refused, stops_end, stops_nested, opened}

row_opens : (text : List ℕ) (t : Token) (tail : List Token) → t.kind ≡ kind.ArrayStart → takes primary (lexeme text t tail) ≡ Opens (elements ∷ close_paren ∷ [])
row_opens text t tail k = ap (λ x. primary_takes x (is_minus (lexeme text t tail)) [] Refuses) k

pub literal_nested : (text : List ℕ) (depth : ℕ) (names : List ℕ → Bool) (ts tail : List Token) (t : Token) (p : ℕ) → ts ≡ t ∷ tail → t.kind ≡ kind.ArrayStart → depth ≡ 64 → p ≡ place_in text ts → Stops text depth names (primary ∷ []) (lexemes text ts) Nested p
literal_nested text depth names ts tail t p e k d q = stops_nested text depth names primary (elements ∷ close_paren ∷ []) ts tail t p e (row_opens text t tail k) d q

pub literal_inner : (text : List ℕ) (depth : ℕ) (names : List ℕ → Bool) (ts tail : List Token) (t : Token) (e : ParseFault) → ts ≡ t ∷ tail → t.kind ≡ kind.ArrayStart → depth < 64 → FailsAs text depth names (elements ∷ close_paren ∷ []) (lexemes text tail) e → FailsAs text depth names (primary ∷ []) (lexemes text ts) e
literal_inner text depth names ts tail t f e k d h =
    fails_back text f depth depth names names (primary ∷ []) (elements ∷ close_paren ∷ []) (lexemes text ts) (lexemes text tail) (λ s. s)
    (λ s g. (g, opened text depth primary (elements ∷ close_paren ∷ []) ts tail t s e (row_opens text t tail k) d g.0)) h

pub literal_array : (text : List ℕ) (depth : ℕ) (names : List ℕ → Bool) (v : LiteralTree) (vs : LiteralTrees) (ts tail after : List Token) (t : Token) → ts ≡ t ∷ tail → t.kind ≡ kind.ArrayStart → depth < 64 → Parsed text depth names (elements ∷ close_paren ∷ []) (IsArrayRest vs) tail after → v ≡ array vs → Parsed text depth names (primary ∷ []) (IsLiteral v) ts after
literal_array text depth names v vs ts tail after t e k d x g = record {
  read = subst (λ z. IsLiteral z (lexemes text ts) (lexemes text after)) (sym g) (inr (inr (lexemes text tail, x.read.0, (lexeme text t tail, takes_next text ts tail t kind.ArrayStart e k), x.read.1, x.read.2)));
  same = λ s f. opened text depth primary (elements ∷ close_paren ∷ []) ts tail t s e (row_opens text t tail k) d f.0 ∙ x.same s f;
  slices = x.slices;
  shorter = (let s = x.shorter in omega (arith, ap length e));
}

pub literal_negative : (text : List ℕ) (depth : ℕ) (names : List ℕ → Bool) (v : LiteralTree) (ts rest : List Token) → Took text (IsNegative v) ts rest → Parsed text depth names (primary ∷ []) (IsLiteral v) ts rest
literal_negative text depth names v ts rest h = record {
  read = inr (inl h.read);
  same = λ k g. negative_at_primary true v (lexemes text ts) (lexemes text rest) h.read k;
  slices = h.slices;
  shorter = (let s = h.shorter in omega arith);
}

-- the same, as a function gives it
pub negative_found : (text : List ℕ) (depth : ℕ) (names : List ℕ → Bool) (o : Option (Literal × Bor (List Token))) (x : Literal × Bor (List Token)) (ts : List Token) → IsNegativeNext text ts o → o ≡ Some x → Parsed text depth names (primary ∷ []) (IsLiteral (literal_of x.0)) ts x.1.now
negative_found text depth names o x ts h e = literal_negative text depth names (literal_of x.0) ts x.1.now (subst (IsNegativeNext text ts) e h)

pub literal_token : (text : List ℕ) (depth : ℕ) (names : List ℕ → Bool) (o : Option Literal) (l : Literal) (ts tail : List Token) (t : Token) → AreSlices text ts → ts ≡ t ∷ tail → IsTokenLiteral text t o → o ≡ Some l → Parsed text depth names (primary ∷ []) (IsLiteral (literal_of l)) ts tail
literal_token text depth names o l ts tail t w e h i =
    let g = subst (IsTokenLiteral text t) i h in
    let s : IsSingle (literal_of l) (lexemes text ts) (lexemes text tail) = (lexeme text t tail, ap (lexemes text) e, g.0, g.1) in
    record {
      read = inl s;
      same = λ k f. single_at_primary true (literal_of l) (lexemes text ts) (lexemes text tail) s k;
      slices = tail_slices text ts tail t e w;
      shorter = omega (arith, ap length e);
    }

no_primary : (d : TokenKind) (b : Bool) → d ≢ kind.Name → d ≢ kind.OpenParen → d ≢ kind.OpenBracket → d ≢ kind.ArrayStart → (IsLiteralKind d → ⊥) → (d ≡ kind.Binary → b ≡ false) → primary_takes d b [] Refuses ≡ Refuses
no_primary kind.Name b n o p q r s = absurd (n refl)
no_primary kind.OpenParen b n o p q r s = absurd (o refl)
no_primary kind.OpenBracket b n o p q r s = absurd (p refl)
no_primary kind.ArrayStart b n o p q r s = absurd (q refl)
no_primary kind.Number b n o p q r s = absurd (r tt)
no_primary kind.Character b n o p q r s = absurd (r tt)
no_primary kind.Str b n o p q r s = absurd (r tt)
no_primary kind.Symbol b n o p q r s = absurd (r tt)
no_primary kind.Binary b n o p q r s = ap (λ x. primary_takes kind.Binary x [] Refuses) (s refl)
no_primary _ b n o p q r s = refl

pub literal_none : (text : List ℕ) (depth : ℕ) (names : List ℕ → Bool) (o : Option Literal) (m : Option (Literal × Bor (List Token))) (ts tail : List Token) (t : Token) (p : ℕ) → ts ≡ t ∷ tail → IsOther ts → IsNotNext kind.ArrayStart ts → IsNegativeNext text ts m → m ≡ None → IsTokenLiteral text t o → o ≡ None → p ≡ place_in text ts → Stops text depth names (primary ∷ []) (lexemes text ts) Unexpected p
literal_none text depth names o m ts tail t p e w n g i h j q =
    let a = subst IsOther e w in
    let b = subst (IsNotNext kind.ArrayStart) e n in
    let c = subst (NoMinus text) e (subst (IsNegativeNext text ts) i g) in
    stops_refused text depth names primary [] ts tail t p e (no_primary t.kind (is_minus (lexeme text t tail)) a.0 a.1 a.2 b (subst (IsTokenLiteral text t) j h) c) q

pub literal_end : (text : List ℕ) (depth : ℕ) (names : List ℕ → Bool) (ts : List Token) (p : ℕ) → ts ≡ [] → p ≡ place_in text ts → Stops text depth names (primary ∷ []) (lexemes text ts) Unexpected p
literal_end text depth names ts p e q = stops_end text depth names primary [] ts p e refl q
