-- Blocks, as they are read.
use Rattle.std.proofs.Common.{subst, ◌≡◌, ◌≢◌, ℕ, suc, ◌+◌, ◌<◌, ◌≤◌, List, [], ◌∷◌, ◌++◌, Bool, true, false, length, refl, ap, sym, ◌∙◌, arith, inl, inr, ◌==◌, Result, Ok, Err}
use Rattle.std.proofs.lemmas.Bool.Decides.{nat_tests}
use Rattle.std.specs.Borrow.{Bor}
use Rattle.s80_lex.specs.declared.token.Token.{Token}
use Rattle.s80_lex.specs.declared.token.TokenKind.{TokenKind}
use Rattle.s80_lex.specs.declared.token.TokenKind.TheVariants as kind
use Rattle.s80_tree.specs.declared.name.NameAt.{NameAt}
use Rattle.s80_tree.specs.declared.expr.Body.{Body}
use Rattle.s80_tree.specs.Tree.{PrimaryTree, BodyTree, BlockTree, block, no_stmts, stmts, body_of}
use Rattle.s80_syntax.specs.Lexeme.{Lexeme, Lexemes, lexeme, lexemes}
use Rattle.s80_syntax.specs.Grammar.{IsBar, IsBarBetween, IsBody}
use Rattle.s80_syntax.specs.Word.{Names, names_in, is_minus, is_word, bar}
use Rattle.s80_syntax.specs.Limits.{block_assigns}
use Rattle.s80_syntax.specs.Faults.{Unexpected}
use Rattle.s80_syntax.specs.Stack.{Stack, Action, Pops, run, level, assigns, body_takes, colon_takes, sign_takes, body, block_scope, block_start, parameter, after_parameter, close_bracket}
use Rattle.s80_syntax.proofs.Moves.{pushes, pops, ends, same_takes}
use Rattle.s80_syntax.proofs.TakenBodies.{bar_row}
use Rattle.s80_syntax.proofs.Words.{word_true, word_false}
use Rattle.s80_syntax.specs.declared.fault.ParseFault.{ParseFault}
use Rattle.s80_syntax.specs.Reads.{AreSlices, IsNotNext, IsNotSign, Stands, Stops, FailsAs, Parsed, Parses, place_in, bytes_of}
use Rattle.s80_syntax.specs.Names.{parameter_symbol, TookParameters}
use Rattle.s80_syntax.specs.Expr.{IsBlockBody, IsBlockRest}
use Rattle.s80_syntax.proofs.NextToken.{takes_next, tail_slices}
use Rattle.s80_syntax.proofs.Steps.{at_list, fails_back, passes_on}
use Rattle.s80_syntax.proofs.Closing.{bracket_missing, bracket_closes}

-- without parameters
no_colon : (d : TokenKind) (p : Stack) (a : Action) → d ≢ kind.Colon → colon_takes d p a ≡ a
no_colon kind.Colon p a n = absurd (n refl)
no_colon _ p a n = refl

plain_start : (text : List ℕ) (ts : List Token) (k : Stack) → IsNotNext kind.Colon ts → run true (lexemes text ts) (block_start ∷ k) ≡ run true (lexemes text ts) (body ∷ k)
plain_start text [] k n = ends true block_start k refl ∙ sym (ends true body k refl)
plain_start text (t ∷ ts) k n = same_takes true (lexeme text t ts) (lexemes text ts) block_start body k (no_colon t.kind (parameter [] ∷ []) (body_takes t.kind (is_minus (lexeme text t ts)) (lexeme text t ts)) n)

plain_body : (text : List ℕ) (depth : ℕ) (names : List ℕ → Bool) (ts : List Token) (r : Result (Body × Bor (List Token)) ParseFault) → IsNotNext kind.Colon ts → Parses text depth (block_assigns [] names) (body ∷ []) (λ x. IsBody (body_of x)) ts r → Parses text depth names (block_start ∷ []) (λ x. IsBlockBody [] (body_of x)) ts r
plain_body text depth names ts r n x =
    passes_on text depth names (block_assigns [] names) (block_start ∷ []) (body ∷ []) (λ k. k) (λ y. IsBody (body_of y)) (λ y. IsBlockBody [] (body_of y)) ts ts r
    (λ k g. (g, plain_start text ts k n)) (λ end k. refl) (λ v end h. (lexemes text ts, refl, h)) (omega arith) x

pub block_plain : (text : List ℕ) (depth : ℕ) (names inside : List ℕ → Bool) (ps : List NameAt) (ts : List Token) (r : Result (Body × Bor (List Token)) ParseFault) → ps ≡ [] → IsNotNext kind.Colon ts → inside ≡ block_assigns (names_in ps) names → Parses text depth inside (body ∷ []) (λ x. IsBody (body_of x)) ts r → Parses text depth names (parameter_symbol (names_in ps) ∷ []) (λ x. IsBlockBody ps (body_of x)) ts r
block_plain text depth names inside ps ts r e n i x =
    subst (λ y. Parses text depth (block_assigns (names_in y) names) (body ∷ []) (λ x. IsBody (body_of x)) ts r → Parses text depth names (parameter_symbol (names_in y) ∷ []) (λ x. IsBlockBody y (body_of x)) ts r) (sym e) (plain_body text depth names ts r n)
    (subst (λ y. Parses text depth y (body ∷ []) (λ z. IsBody (body_of z)) ts r) i x)

-- with parameters and a bar
scope_ends : (text : List ℕ) (ns : Names) (ts : List Token) (k : Stack) → run true (lexemes text ts) (block_scope ns ∷ k) ≡ run true (lexemes text ts) k
scope_ends text ns [] k = ends true (block_scope ns) k refl
scope_ends text ns (t ∷ ts) k = pops true (lexeme text t ts) (lexemes text ts) (block_scope ns) k refl

bar_between : (n : NameAt) (ns : List NameAt) (ss : BodyTree) (ts rest : Lexemes) → IsBar ts rest → IsBarBetween (n ∷ ns) ss ts rest
bar_between n ns no_stmts ts rest h = inl h
bar_between n ns (stmts r e ss) ts rest h = h

pub block_barred : (text : List ℕ) (depth : ℕ) (names inside : List ℕ → Bool) (ps : List NameAt) (ts tail : List Token) (t : Token) (r : Result (Body × Bor (List Token)) ParseFault) → ps ≢ [] → ts ≡ t ∷ tail → t.kind ≡ kind.Binary → bytes_of text t ≡ bar → inside ≡ block_assigns (names_in ps) names → Parses text depth inside (body ∷ []) (λ x. IsBody (body_of x)) tail r → Parses text depth names (parameter_symbol (names_in ps) ∷ []) (λ x. IsBlockBody ps (body_of x)) ts r
block_barred text depth names inside [] ts tail t r n e k b i x = absurd (n refl)
block_barred text depth names inside (p ∷ ps) ts tail t r n e k b i x =
    let ns : Names = names_in (p ∷ ps) in
    passes_on text depth names inside (after_parameter ns ∷ []) (body ∷ []) (λ s. block_scope ns ∷ s) (λ y. IsBody (body_of y)) (λ y. IsBlockBody (p ∷ ps) (body_of y)) ts tail r
    (λ s g. ((g.0, ap (block_assigns ns) g.1 ∙ sym i), at_list text ts (t ∷ tail) (after_parameter ns ∷ s) e ∙ pushes true (lexeme text t tail) (lexemes text tail) (after_parameter ns) s (body ∷ block_scope ns ∷ []) (bar_row ns (lexeme text t tail) k (word_true bar (lexeme text t tail) b))))
    (λ end s. scope_ends text ns end s)
    (λ v end h. (lexemes text tail, bar_between p ps (body_of v) (lexemes text ts) (lexemes text tail) (lexeme text t tail, takes_next text ts tail t kind.Binary e k, b), h)) (omega (arith, ap length e)) x

-- with parameters alone
no_bar : (d : TokenKind) (b : Bool) (p : Stack) → (d ≡ kind.Binary → b ≡ false) → sign_takes d b p Pops ≡ Pops
no_bar kind.Binary b p h = ap (λ x. sign_takes kind.Binary x p Pops) (h refl)
no_bar _ b p h = refl

unbarred : (text : List ℕ) (ns : Names) (ts : List Token) (k : Stack) → IsNotNext kind.Colon ts → IsNotSign kind.Binary bar text ts → run true (lexemes text ts) (after_parameter ns ∷ k) ≡ run true (lexemes text ts) k
unbarred text ns [] k n m = ends true (after_parameter ns) k refl
unbarred text ns (t ∷ ts) k n m =
    let l : Lexeme = lexeme text t ts in
    pops true l (lexemes text ts) (after_parameter ns) k
    (no_colon t.kind (parameter ns ∷ []) (sign_takes t.kind (is_word bar l) (body ∷ block_scope ns ∷ []) Pops) n ∙ no_bar t.kind (is_word bar l) (body ∷ block_scope ns ∷ []) (λ e. word_false bar l (m e)))

pub block_none : (text : List ℕ) (depth : ℕ) (names : List ℕ → Bool) (ps : List NameAt) (b : BodyTree) (ts : List Token) → ps ≢ [] → IsNotNext kind.Colon ts → IsNotSign kind.Binary bar text ts → AreSlices text ts → b ≡ no_stmts → Parsed text depth names (parameter_symbol (names_in ps) ∷ []) (IsBlockBody ps b) ts ts
block_none text depth names [] b ts n c m w e = absurd (n refl)
block_none text depth names (p ∷ ps) b ts n c m w e = record {
  read = subst (λ y. IsBlockBody (p ∷ ps) y (lexemes text ts) (lexemes text ts)) (sym e) (lexemes text ts, inr refl, refl);
  same = λ k g. unbarred text (names_in (p ∷ ps)) ts k c m;
  slices = w;
  shorter = omega arith;
}

-- all of a block behind its opening bracket
within : (depth inner : ℕ) (names : List ℕ → Bool) (k : Stack) → inner ≡ depth + 1 → Stands depth names k → Stands inner names (close_bracket ∷ k)
within depth inner names k i g = ((let f = g.0 in omega arith), g.1)

pub block_parameters_fail : (text : List ℕ) (d : ParseFault) (depth : ℕ) (names : List ℕ → Bool) (ts : List Token) → ((inner : ℕ) (free : List ℕ → Bool) → FailsAs text inner free (block_start ∷ []) (lexemes text ts) d) → FailsAs text depth names (block_start ∷ close_bracket ∷ []) (lexemes text ts) d
block_parameters_fail text d depth names ts f =
    fails_back text d depth (depth + 1) names names (block_start ∷ close_bracket ∷ []) (block_start ∷ []) (lexemes text ts) (lexemes text ts) (λ k. close_bracket ∷ k) (λ k g. (within depth (depth + 1) names k refl g, refl)) (f (depth + 1) names)

pub block_body_fails : (text : List ℕ) (d : ParseFault) (depth inner : ℕ) (names : List ℕ → Bool) (ps qs : List NameAt) (ts start : List Token) → inner ≡ depth + 1 → qs ≡ ps → TookParameters text ps ts start → FailsAs text inner names (parameter_symbol (names_in qs) ∷ []) (lexemes text start) d → FailsAs text depth names (block_start ∷ close_bracket ∷ []) (lexemes text ts) d
block_body_fails text d depth inner names ps qs ts start i e x f =
    fails_back text d depth inner names names (block_start ∷ close_bracket ∷ []) (parameter_symbol (names_in ps) ∷ []) (lexemes text ts) (lexemes text start) (λ k. close_bracket ∷ k) (λ k g. (within depth inner names k i g, x.same (close_bracket ∷ k)))
    (subst (λ z. FailsAs text inner names (parameter_symbol (names_in z) ∷ []) (lexemes text start) d) e f)

abbrev ParsedBody : List ℕ → ℕ → (List ℕ → Bool) → BodyTree → List Token → List Token → List NameAt → Type 0
ParsedBody text inner names ss start rest ps = Parsed text inner names (parameter_symbol (names_in ps) ∷ []) (IsBlockBody ps ss) start rest

pub block_unclosed : (text : List ℕ) (depth inner : ℕ) (names : List ℕ → Bool) (ps qs : List NameAt) (ss : BodyTree) (ts start rest : List Token) (p : ℕ) → inner ≡ depth + 1 → qs ≡ ps → TookParameters text ps ts start → Parsed text inner names (parameter_symbol (names_in qs) ∷ []) (IsBlockBody qs ss) start rest → IsNotNext kind.CloseBracket rest → p ≡ place_in text rest → Stops text depth names (block_start ∷ close_bracket ∷ []) (lexemes text ts) Unexpected p
block_unclosed text depth inner names ps qs ss ts start rest p i e x y n q =
    let s = bracket_missing text depth names rest p n q in
    let z = subst (ParsedBody text inner names ss start rest) e y in
    record { rest = s.rest; is_place = s.is_place; same = λ k g. x.same (close_bracket ∷ k) ∙ z.same (close_bracket ∷ k) (within depth inner names k i g) ∙ s.same k g }

pub block_done : (text : List ℕ) (depth inner : ℕ) (names : List ℕ → Bool) (ps qs : List NameAt) (ss : BodyTree) (b : BlockTree) (v : PrimaryTree) (ts start rest after : List Token) (t : Token) → inner ≡ depth + 1 → qs ≡ ps → TookParameters text ps ts start → Parsed text inner names (parameter_symbol (names_in qs) ∷ []) (IsBlockBody qs ss) start rest → rest ≡ t ∷ after → t.kind ≡ kind.CloseBracket → v ≡ block b.0 b.1 → b ≡ (ps, ss) → Parsed text depth names (block_start ∷ close_bracket ∷ []) (IsBlockRest v) ts after
block_done text depth inner names ps qs ss b v ts start rest after t i o x y e n h j =
    let z = subst (ParsedBody text inner names ss start rest) o y in
    record {
      read = subst (λ w. IsBlockRest w (lexemes text ts) (lexemes text after)) (sym (h ∙ ap (λ w. block w.0 w.1) j)) (lexemes text start, lexemes text rest, x.read, z.read, (lexeme text t after, takes_next text rest after t kind.CloseBracket e n));
      same = λ k g. x.same (close_bracket ∷ k) ∙ z.same (close_bracket ∷ k) (within depth inner names k i g) ∙ bracket_closes text rest after t e n k;
      slices = tail_slices text rest after t e z.slices;
      shorter = (let a = x.shorter in let c = z.shorter in omega (arith, ap length e));
    }

-- whether there are parameters
pub no_parameters : (ps : List NameAt) → true ≡ (length ps == 0) → ps ≡ []
no_parameters [] h = refl
no_parameters (p ∷ ps) h = absurd (grind (arith, nat_tests, h))

pub some_parameters : (ps : List NameAt) → false ≡ (length ps == 0) → ps ≢ []
some_parameters ps h e = false_true (h ∙ ap (λ x. length x == 0) e)
  where
    false_true : false ≡ true → ⊥
    false_true e = cc
