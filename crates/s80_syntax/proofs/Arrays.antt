-- Arrays, as they are read.
use Rattle.std.proofs.Common.{subst, ◌≡◌, ◌≢◌, ℕ, suc, ◌+◌, ◌<◌, ◌≤◌, List, [], ◌∷◌, ◌++◌, Bool, true, false, length, refl, ap, sym, ◌∙◌, arith, ◌⊎◌, inl, inr, Ok, Err, Option, Some, None}
use Rattle.std.specs.Borrow.{Bor}
use Rattle.s80_base.specs.declared.literal.Literal.{Literal}
use Rattle.s80_base.specs.Literal.{LiteralTree, LiteralTrees, array, no_literals, literals, literals_append, literal_of}
use Rattle.s80_lex.specs.declared.token.Token.{Token}
use Rattle.s80_lex.specs.declared.token.TokenKind.{TokenKind}
use Rattle.s80_lex.specs.declared.token.TokenKind.TheVariants as kind
use Rattle.s80_syntax.specs.Lexeme.{Lexeme, Lexemes, lexeme, lexemes}
use Rattle.s80_syntax.specs.Literals.{IsLiteralKind}
use Rattle.s80_syntax.specs.Grammar.{IsMark, IsSingle, IsNegative, IsWord, IsArrayStart, IsArray, AreElements}
use Rattle.s80_syntax.specs.Word.{is_minus}
use Rattle.s80_syntax.specs.Faults.{Unexpected, Nested}
use Rattle.s80_syntax.specs.Stack.{Symbol, Stack, Opens, Pops, Refuses, run, takes, level, assigns, element_takes, paren_takes, elements, close_paren}
use Rattle.s80_syntax.proofs.Moves.{pops, ends, pushes}
use Rattle.s80_syntax.proofs.TakenLiterals.{single_at_elements, negative_at_elements, word_taken, array_end}
use Rattle.s80_syntax.specs.declared.fault.ParseFault.{ParseFault}
use Rattle.s80_syntax.specs.Reads.{AreSlices, IsNotNext, Stands, Stops, FailsAs, Took, Parsed, Parses, place_in}
use Rattle.s80_syntax.specs.Literal.{IsSimple, IsSimpleKind, NoSimple, IsSimpleNext, opens_array, IsElement, TookElement, NoElement, ParsesElement, IsArrayRest}
use Rattle.s80_syntax.proofs.NextToken.{takes_next, tail_slices}
use Rattle.s80_syntax.proofs.Steps.{at_list, fails_back, stops_nested, opened}
use Rattle.s80_syntax.proofs.Closing.{inner_fails, unclosed, paren_missing, paren_closes}

pub element_end : (text : List ℕ) (ts : List Token) → ts ≡ [] → NoElement text ts
element_end text ts e = λ k. at_list text ts [] (elements ∷ k) e ∙ ends true elements k refl ∙ sym (at_list text ts [] k e)

no_element : (d : TokenKind) (b j : Bool) → (IsSimpleKind d → ⊥) → opens_array d ≡ false → element_takes d b j ≡ Pops
no_element kind.Number b j n o = absurd (n tt)
no_element kind.Character b j n o = absurd (n tt)
no_element kind.Str b j n o = absurd (n tt)
no_element kind.Symbol b j n o = absurd (n tt)
no_element kind.Name b j n o = absurd (n tt)
no_element kind.Binary b j n o = absurd (n tt)
no_element kind.Keyword b j n o = absurd (n tt)
no_element kind.ArrayStart b j n o = cc
no_element kind.OpenParen b j n o = cc
no_element _ b j n o = refl

simple_same : (v : LiteralTree) (ts rest : Lexemes) → IsSimple v ts rest → (k : Stack) → run true ts (elements ∷ k) ≡ run true rest (elements ∷ k)
simple_same v ts rest (inl h) k = single_at_elements true v ts rest h k
simple_same v ts rest (inr (inl h)) k = negative_at_elements true v ts rest h k
simple_same v ts rest (inr (inr h)) k = word_taken true v ts rest h k

simple_element : (v : LiteralTree) (ts rest : Lexemes) → IsSimple v ts rest → IsElement v ts rest
simple_element v ts rest (inl h) = inl h
simple_element v ts rest (inr (inl h)) = inr (inl h)
simple_element v ts rest (inr (inr h)) = inr (inr (inl h))

pub simple_next : (text : List ℕ) (depth : ℕ) (names : List ℕ → Bool) (ts tail : List Token) (t : Token) (o : Option (Literal × Bor (List Token))) → ts ≡ t ∷ tail → opens_array t.kind ≡ false → IsSimpleNext text ts o → ParsesElement text depth names ts (Ok o)
simple_next text depth names ts tail t None e o h = λ k.
    at_list text ts (t ∷ tail) (elements ∷ k) e
    ∙ pops true (lexeme text t tail) (lexemes text tail) elements k (no_element t.kind (is_minus (lexeme text t tail)) (lexeme text t tail).joined (subst NoSimple e h) o)
    ∙ sym (at_list text ts (t ∷ tail) k e)
simple_next text depth names ts tail t (Some x) e o h = record {
  read = simple_element (literal_of x.0) (lexemes text ts) (lexemes text x.1.now) h.read;
  same = λ k g. simple_same (literal_of x.0) (lexemes text ts) (lexemes text x.1.now) h.read k;
  slices = h.slices;
  shorter = h.shorter;
}

-- an opening token where an element may come
element_opens : (d : TokenKind) (b j : Bool) → opens_array d ≡ true → element_takes d b j ≡ Opens (elements ∷ close_paren ∷ elements ∷ [])
element_opens kind.ArrayStart b j o = refl
element_opens kind.OpenParen b j o = refl
element_opens _ b j o = cc

row_opens : (text : List ℕ) (t : Token) (tail : List Token) → opens_array t.kind ≡ true → takes elements (lexeme text t tail) ≡ Opens (elements ∷ close_paren ∷ elements ∷ [])
row_opens text t tail o = element_opens t.kind (is_minus (lexeme text t tail)) (lexeme text t tail).joined o

pub element_nested : (text : List ℕ) (depth : ℕ) (names : List ℕ → Bool) (ts tail : List Token) (t : Token) (p : ℕ) → ts ≡ t ∷ tail → opens_array t.kind ≡ true → depth ≡ 64 → p ≡ place_in text ts → Stops text depth names (elements ∷ []) (lexemes text ts) Nested p
element_nested text depth names ts tail t p e o d q = stops_nested text depth names elements (elements ∷ close_paren ∷ elements ∷ []) ts tail t p e (row_opens text t tail o) d q

pub element_inner : (text : List ℕ) (depth : ℕ) (names : List ℕ → Bool) (ts tail : List Token) (t : Token) (e : ParseFault) → ts ≡ t ∷ tail → opens_array t.kind ≡ true → depth < 64 → FailsAs text depth names (elements ∷ close_paren ∷ []) (lexemes text tail) e → FailsAs text depth names (elements ∷ []) (lexemes text ts) e
element_inner text depth names ts tail t f e o d h =
    fails_back text f depth depth names names (elements ∷ []) (elements ∷ close_paren ∷ []) (lexemes text ts) (lexemes text tail) (λ k. elements ∷ k)
    (λ k g. (g, opened text depth elements (elements ∷ close_paren ∷ elements ∷ []) ts tail t k e (row_opens text t tail o) d g.0)) h

inner_start : (text : List ℕ) (ts tail : List Token) (t : Token) (d : TokenKind) → ts ≡ t ∷ tail → t.kind ≡ d → opens_array d ≡ true → IsArrayStart true (lexemes text ts) (lexemes text tail)
inner_start text ts tail t kind.ArrayStart e k o = inl (lexeme text t tail, takes_next text ts tail t kind.ArrayStart e k)
inner_start text ts tail t kind.OpenParen e k o = inr (lexeme text t tail, takes_next text ts tail t kind.OpenParen e k)
inner_start text ts tail t _ e k o = cc

pub element_array : (text : List ℕ) (depth : ℕ) (v : LiteralTree) (vs : LiteralTrees) (ts tail after : List Token) (t : Token) → ts ≡ t ∷ tail → opens_array t.kind ≡ true → depth < 64 → ((names : List ℕ → Bool) → Parsed text depth names (elements ∷ close_paren ∷ []) (IsArrayRest vs) tail after) → v ≡ array vs → TookElement text depth v ts after
element_array text depth v vs ts tail after t e o d h g =
    let x = h (λ w. true) in
    record {
      read = subst (λ z. IsElement z (lexemes text ts) (lexemes text after)) (sym g) (inr (inr (inr (lexemes text tail, x.read.0, inner_start text ts tail t t.kind e refl o, x.read.1, x.read.2))));
      same = λ k f. opened text depth elements (elements ∷ close_paren ∷ elements ∷ []) ts tail t k e (row_opens text t tail o) d f ∙ (h (assigns k)).same (elements ∷ k) (f, refl);
      slices = x.slices;
      shorter = (let s = x.shorter in omega (arith, ap length e));
    }

-- behind an array's elements
pub rest_fails : (text : List ℕ) (depth inner : ℕ) (names : List ℕ → Bool) (ts : List Token) (e : ParseFault) → inner ≡ depth + 1 → FailsAs text inner names (elements ∷ []) (lexemes text ts) e → FailsAs text depth names (elements ∷ close_paren ∷ []) (lexemes text ts) e
rest_fails text depth inner names ts e i h = inner_fails text depth inner names elements close_paren ts e (λ k g. ((let f = g.0 in omega arith), g.1)) h

pub rest_unclosed : (text : List ℕ) (depth inner : ℕ) (names : List ℕ → Bool) (vs : LiteralTrees) (ts rest : List Token) (p : ℕ) → inner ≡ depth + 1 → Parsed text inner names (elements ∷ []) (AreElements vs) ts rest → IsNotNext kind.CloseParen rest → p ≡ place_in text rest → Stops text depth names (elements ∷ close_paren ∷ []) (lexemes text ts) Unexpected p
rest_unclosed text depth inner names vs ts rest p i x n q =
    unclosed text depth inner names elements close_paren (AreElements vs) ts rest p (λ k g. ((let f = g.0 in omega arith), g.1)) x (paren_missing text depth names rest p n q)

pub rest_done : (text : List ℕ) (depth inner : ℕ) (names : List ℕ → Bool) (vs : LiteralTrees) (ts rest after : List Token) (t : Token) → inner ≡ depth + 1 → Parsed text inner names (elements ∷ []) (AreElements vs) ts rest → rest ≡ t ∷ after → t.kind ≡ kind.CloseParen → Parsed text depth names (elements ∷ close_paren ∷ []) (IsArrayRest vs) ts after
rest_done text depth inner names vs ts rest after t i x e n = record {
  read = (lexemes text rest, x.read, (lexeme text t after, takes_next text rest after t kind.CloseParen e n));
  same = λ k g. x.same (close_paren ∷ k) ((let f = g.0 in omega arith), g.1) ∙ paren_closes text rest after t e n k;
  slices = tail_slices text rest after t e x.slices;
  shorter = (let s = x.shorter in omega (arith, ap length e));
}

-- one element more
literals_append_assoc : (a b c : LiteralTrees) → literals_append (literals_append a b) c ≡ literals_append a (literals_append b c)
literals_append_assoc no_literals b c = refl
literals_append_assoc (literals v a) b c = ap (literals v) (literals_append_assoc a b c)

pub elements_more : (text : List ℕ) (depth : ℕ) (v : LiteralTree) (old new : LiteralTrees) (start : Lexemes) (rest after : List Token) → ((more : LiteralTrees) (end : Lexemes) → AreElements more (lexemes text rest) end → AreElements (literals_append old more) start end) → TookElement text depth v rest after → new ≡ literals_append old (literals v no_literals) → (more : LiteralTrees) (end : Lexemes) → AreElements more (lexemes text after) end → AreElements (literals_append new more) start end
elements_more text depth v old new start rest after h x e more end g =
    subst (λ z. AreElements z start end) (sym (ap (λ z. literals_append z more) e ∙ literals_append_assoc old (literals v no_literals) more)) (h (literals v more) end (lexemes text after, x.read, g))

pub elements_fail : (text : List ℕ) (depth : ℕ) (names : List ℕ → Bool) (ts rest : List Token) (e : ParseFault) → ((k : Stack) → level k ≡ depth → run true (lexemes text ts) (elements ∷ k) ≡ run true (lexemes text rest) (elements ∷ k)) → FailsAs text depth names (elements ∷ []) (lexemes text rest) e → FailsAs text depth names (elements ∷ []) (lexemes text ts) e
elements_fail text depth names ts rest e s h =
    fails_back text e depth depth names names (elements ∷ []) (elements ∷ []) (lexemes text ts) (lexemes text rest) (λ k. k) (λ k g. (g, s k g.0)) h

literals_all : (a : LiteralTrees) → literals_append a no_literals ≡ a
literals_all no_literals = refl
literals_all (literals v a) = ap (literals v) (literals_all a)

pub elements_done : (text : List ℕ) (depth : ℕ) (names : List ℕ → Bool) (vs : LiteralTrees) (ts rest : List Token) → ((more : LiteralTrees) (end : Lexemes) → AreElements more (lexemes text rest) end → AreElements (literals_append vs more) (lexemes text ts) end) → ((k : Stack) → level k ≡ depth → run true (lexemes text ts) (elements ∷ k) ≡ run true (lexemes text rest) (elements ∷ k)) → NoElement text rest → AreSlices text rest → length rest ≤ length ts → Parsed text depth names (elements ∷ []) (AreElements vs) ts rest
elements_done text depth names vs ts rest h s n w q = record {
  read = subst (λ z. AreElements z (lexemes text ts) (lexemes text rest)) (literals_all vs) (h no_literals (lexemes text rest) refl);
  same = λ k g. s k g.0 ∙ n k;
  slices = w;
  shorter = q;
}

-- what came of the test for an element
pub element_found : (text : List ℕ) (depth : ℕ) (ts : List Token) (o : Option (Literal × Bor (List Token))) (x : Literal × Bor (List Token)) → ((names : List ℕ → Bool) → ParsesElement text depth names ts (Ok o)) → o ≡ Some x → TookElement text depth (literal_of x.0) ts x.1.now
element_found text depth ts o x h e = subst (λ z. ParsesElement text depth (λ w. true) ts (Ok z)) e (h (λ w. true))

pub element_none : (text : List ℕ) (depth : ℕ) (ts : List Token) (o : Option (Literal × Bor (List Token))) → ((names : List ℕ → Bool) → ParsesElement text depth names ts (Ok o)) → o ≡ None → NoElement text ts
element_none text depth ts o h e = subst (λ z. ParsesElement text depth (λ w. true) ts (Ok z)) e (h (λ w. true))
