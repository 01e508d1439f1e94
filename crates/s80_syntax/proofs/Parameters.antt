-- Names that are declared, and a block's parameters, as they are read.
use Rattle.std.proofs.Common.{subst, ◌≡◌, ℕ, ◌<◌, List, [], ◌∷◌, ◌++◌, Bool, true, false, length, refl, ap, sym, ◌∙◌, arith, Option, Some, None}
use Rattle.std.specs.Borrow.{Bor}
use Rattle.s80_lex.specs.declared.token.Token.{Token}
use Rattle.s80_lex.specs.declared.token.TokenKind.{TokenKind}
use Rattle.s80_lex.specs.declared.token.TokenKind.TheVariants as kind
use Rattle.s80_tree.specs.declared.name.NameAt.{NameAt}
use Rattle.s80_syntax.specs.Lexeme.{Lexeme, Lexemes, lexeme, lexemes}
use Rattle.s80_syntax.specs.Grammar.{IsMark, IsDeclared, AreParameters}
use Rattle.s80_syntax.specs.Word.{Names, names_in, is_reserved, is_minus, is_word, bar}
use Rattle.s80_syntax.specs.Faults.{Unexpected}
use Rattle.s80_syntax.specs.Stack.{Symbol, Stack, Action, may_end, Pushes, Pops, Refuses, run, takes, colon_takes, declared_takes, body_takes, sign_takes, body, block_scope, block_start, parameter, after_parameter}
use Rattle.s80_syntax.proofs.Moves.{pushes}
use Rattle.s80_syntax.proofs.TakenSigns.{declared_taken}
use Rattle.s80_syntax.specs.Reads.{AreSlices, IsNotNext, Stops, Took, place_in, bytes_of}
use Rattle.s80_syntax.specs.Names.{NoDeclared, IsDeclaredNext, parameter_symbol}
use Rattle.s80_syntax.proofs.NextToken.{takes_next, tail_slices}
use Rattle.s80_syntax.proofs.Steps.{at_list, stops_refused, stops_end}

pub declared_here : (text : List ℕ) (n : NameAt) (ts tail : List Token) (t : Token) → AreSlices text ts → ts ≡ t ∷ tail → t.kind ≡ kind.Name → is_reserved (bytes_of text t) ≡ false → n.name ≡ bytes_of text t → n.at ≡ t.from → Took text (IsDeclared n) ts tail
declared_here text n ts tail t w e k r i j = record {
  read = ((lexeme text t tail, takes_next text ts tail t kind.Name e k, i, j), ap is_reserved i ∙ r);
  slices = tail_slices text ts tail t e w;
  shorter = omega (arith, ap length e);
}

pub reserved_here : (text : List ℕ) (ts tail : List Token) (t : Token) → ts ≡ t ∷ tail → is_reserved (bytes_of text t) ≡ true → NoDeclared text ts
reserved_here text ts tail t e r = subst (NoDeclared text) (sym e) (λ k. r)

pub no_name : (text : List ℕ) (ts : List Token) → IsNotNext kind.Name ts → NoDeclared text ts
no_name text [] n = tt
no_name text (t ∷ ts) n = λ k. absurd (n k)

-- one more parameter of a block
parameters_more : (ns : List NameAt) (n : NameAt) (ts a b rest : Lexemes) → AreParameters ns ts a → IsMark kind.Colon a b → IsDeclared n b rest → AreParameters (ns ++ n ∷ []) ts rest
parameters_more [] n ts a b rest h i j = (b, rest, (i.0, (h ∙ i.1.0, i.1.1)), j, refl)
parameters_more (m ∷ ns) n ts a b rest h i j = (h.0, h.1, h.2, h.3, parameters_more ns n h.1 a b rest h.4 i j)

pub parameter_read : (text : List ℕ) (old new : List NameAt) (n : NameAt) (ts : Lexemes) (a b rest : List Token) (t : Token) → AreParameters old ts (lexemes text a) → a ≡ t ∷ b → t.kind ≡ kind.Colon → Took text (IsDeclared n) b rest → new ≡ old ++ n ∷ [] → AreParameters new ts (lexemes text rest)
parameter_read text old new n ts a b rest t h e i x p =
    subst (λ y. AreParameters y ts (lexemes text rest)) (sym p) (parameters_more old n ts (lexemes text a) (lexemes text b) (lexemes text rest) h (lexeme text t b, takes_next text a b t kind.Colon e i) x.read)

-- a colon where a parameter may come
colon_row : (ns : Names) (l : Lexeme) → l.kind ≡ kind.Colon → takes (parameter_symbol ns) l ≡ Pushes (parameter ns ∷ [])
colon_row [] l e = ap (λ x. colon_takes x (parameter [] ∷ []) (body_takes x (is_minus l) l)) e
colon_row (n ∷ ns) l e = ap (λ x. colon_takes x (parameter (n ∷ ns) ∷ []) (sign_takes x (is_word bar l) (body ∷ block_scope (n ∷ ns) ∷ []) Pops)) e

colon_taken : (text : List ℕ) (ns : Names) (a b : List Token) (t : Token) → a ≡ t ∷ b → t.kind ≡ kind.Colon → (k : Stack) → run true (lexemes text a) (parameter_symbol ns ∷ k) ≡ run true (lexemes text b) (parameter ns ∷ k)
colon_taken text ns a b t e i k =
    at_list text a (t ∷ b) (parameter_symbol ns ∷ k) e
    ∙ pushes true (lexeme text t b) (lexemes text b) (parameter_symbol ns) k (parameter ns ∷ []) (colon_row ns (lexeme text t b) i)

some_parameters : (ns : Names) (x : List ℕ) (k : Stack) → after_parameter (ns ++ x ∷ []) ∷ k ≡ parameter_symbol (ns ++ x ∷ []) ∷ k
some_parameters [] x k = refl
some_parameters (n ∷ ns) x k = refl

names_end : (ns : List NameAt) (n : NameAt) → names_in (ns ++ n ∷ []) ≡ names_in ns ++ n.name ∷ []
names_end [] n = refl
names_end (m ∷ ns) n = ap (λ x. m.name ∷ x) (names_end ns n)

pub parameter_taken : (text : List ℕ) (old new : List NameAt) (n : NameAt) (a b rest : List Token) (t : Token) → a ≡ t ∷ b → t.kind ≡ kind.Colon → Took text (IsDeclared n) b rest → new ≡ old ++ n ∷ [] → (k : Stack) → run true (lexemes text a) (parameter_symbol (names_in old) ∷ k) ≡ run true (lexemes text rest) (parameter_symbol (names_in new) ∷ k)
parameter_taken text old new n a b rest t e i x p k =
    colon_taken text (names_in old) a b t e i k
    ∙ declared_taken true (parameter (names_in old)) (λ y. after_parameter (names_in old ++ y ∷ []) ∷ []) (λ l. Refuses) (λ l. refl) n (lexemes text b) (lexemes text rest) x.read k
    ∙ ap (run true (lexemes text rest)) (some_parameters (names_in old) n.name k)
    ∙ ap (λ y. run true (lexemes text rest) (parameter_symbol y ∷ k)) (sym (ap names_in p ∙ names_end old n))

pub not_declared : (d : TokenKind) (b : Bool) (p : Stack) (other : Action) → (d ≡ kind.Name → b ≡ true) → declared_takes d b p other ≡ other
not_declared kind.Name b p other h = ap (λ x. declared_takes kind.Name x p other) (h refl)
not_declared _ b p other h = refl

-- a name was wanted that may be declared
pub declared_missing : (text : List ℕ) (depth : ℕ) (names : List ℕ → Bool) (a : Symbol) (p : List ℕ → Stack) → ((l : Lexeme) → takes a l ≡ declared_takes l.kind (is_reserved l.bytes) (p l.bytes) Refuses) → may_end a ≡ false → (ts : List Token) (at : ℕ) → NoDeclared text ts → at ≡ place_in text ts → Stops text depth names (a ∷ []) (lexemes text ts) Unexpected at
declared_missing text depth names a p row m [] at n q = stops_end text depth names a [] [] at refl m q
declared_missing text depth names a p row m (t ∷ ts) at n q =
    stops_refused text depth names a [] (t ∷ ts) ts t at refl (row (lexeme text t ts) ∙ not_declared t.kind (is_reserved (bytes_of text t)) (p (bytes_of text t)) Refuses n) q

pub parameter_missing : (text : List ℕ) (depth : ℕ) (names : List ℕ → Bool) (old : List NameAt) (ts a b : List Token) (t : Token) (p : ℕ) → ((k : Stack) → run true (lexemes text ts) (block_start ∷ k) ≡ run true (lexemes text a) (parameter_symbol (names_in old) ∷ k)) → a ≡ t ∷ b → t.kind ≡ kind.Colon → NoDeclared text b → p ≡ place_in text b → Stops text depth names (block_start ∷ []) (lexemes text ts) Unexpected p
parameter_missing text depth names old ts a b t p h e i n q =
    let s = declared_missing text depth names (parameter (names_in old)) (λ x. after_parameter (names_in old ++ x ∷ []) ∷ []) (λ l. refl) refl b p n q in
    record { rest = s.rest; is_place = s.is_place; same = λ k g. h k ∙ colon_taken text (names_in old) a b t e i k ∙ s.same k g }

-- what came of the test for a name
pub name_found : (text : List ℕ) (ts : List Token) (o : Option (NameAt × Bor (List Token))) (x : NameAt × Bor (List Token)) → IsDeclaredNext text ts o → o ≡ Some x → Took text (IsDeclared x.0) ts x.1.now
name_found text ts o x h e = subst (IsDeclaredNext text ts) e h

pub name_missing : (text : List ℕ) (ts : List Token) (o : Option (NameAt × Bor (List Token))) → IsDeclaredNext text ts o → o ≡ None → NoDeclared text ts
name_missing text ts o h e = subst (IsDeclaredNext text ts) e h
