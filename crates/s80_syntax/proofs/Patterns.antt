-- Patterns of methods, as they are read.
use Rattle.std.proofs.Common.{subst, ◌≡◌, ◌≢◌, ℕ, List, [], ◌∷◌, ◌++◌, Bool, true, false, refl, ap, sym, ◌∙◌, append_assoc, append-nil, inl, inr, Result}
use Rattle.std.specs.Borrow.{Bor}
use Rattle.s80_base.specs.declared.text.Text.{Text}
use Rattle.s80_lex.specs.declared.token.Token.{Token}
use Rattle.s80_lex.specs.declared.token.TokenKind.{TokenKind}
use Rattle.s80_lex.specs.declared.token.TokenKind.TheVariants as kind
use Rattle.s80_tree.specs.declared.name.NameAt.{NameAt}
use Rattle.s80_tree.specs.declared.name.NamesAt.{NamesAt}
use Rattle.s80_tree.specs.Name.{names_of}
use Rattle.s80_syntax.specs.Lexeme.{Lexeme, Lexemes, lexeme, lexemes}
use Rattle.s80_syntax.specs.Grammar.{Takes, IsDeclared, AreKeywords, IsPattern}
use Rattle.s80_syntax.specs.Word.{Names, names_in, is_reserved, is_minus}
use Rattle.s80_syntax.specs.Faults.{Unexpected}
use Rattle.s80_syntax.specs.Stack.{Stack, Pushes, Refuses, run, takes, level, assigns, keyword_takes, pattern_takes, head_takes, method_start, binary_parameter, keyword_parameter, after_keyword, after_pattern}
use Rattle.s80_syntax.proofs.Moves.{pushes}
use Rattle.s80_syntax.proofs.TakenSigns.{declared_taken}
use Rattle.s80_syntax.proofs.TakenTexts.{Follows, NotKeyword, pattern_taken}
use Rattle.s80_syntax.specs.declared.fault.ParseFault.{ParseFault}
use Rattle.s80_syntax.specs.Reads.{AreSlices, IsNotNext, Took, place_in, bytes_of}
use Rattle.s80_syntax.specs.Literal.{KeywordNext}
use Rattle.s80_syntax.specs.Names.{NoDeclared}
use Rattle.s80_syntax.specs.Method.{Breaks, Goes, GoesTo, IsBinaryPattern, keyword_symbol}
use Rattle.s80_syntax.proofs.NextToken.{takes_next, tail_slices}
use Rattle.s80_syntax.proofs.Steps.{at_list}
use Rattle.s80_syntax.proofs.Parameters.{declared_missing}
use Rattle.s80_syntax.proofs.Arguments.{some_keyword}
use Rattle.s80_syntax.proofs.Going.{breaks_here, breaks_refused, breaks_end, goes_through}

-- a unary selector
pub unary_pattern : (text : List ℕ) (s : List ℕ) (ps : List NameAt) (ts tail : List Token) (t : Token) → AreSlices text ts → ts ≡ t ∷ tail → t.kind ≡ kind.Name → s ≡ bytes_of text t → ps ≡ [] → Goes text (method_start ∷ []) (after_pattern (names_in ps) ∷ []) (IsPattern s ps) ts tail
unary_pattern text s ps ts tail t w e n h i = record {
  read = subst (λ y. IsPattern s y (lexemes text ts) (lexemes text tail)) (sym i) (lexeme text t tail, takes_next text ts tail t kind.Name e n, h);
  same =
      at_list text ts (t ∷ tail) (method_start ∷ []) e
      ∙ pushes true (lexeme text t tail) (lexemes text tail) method_start [] (after_pattern [] ∷ []) (ap pattern_takes n)
      ∙ ap (λ y. run true (lexemes text tail) (after_pattern (names_in y) ∷ [])) (sym i);
  slices = tail_slices text ts tail t e w;
}

pub pattern_end : (text : List ℕ) (ts : List Token) (p : ℕ) → ts ≡ [] → p ≡ place_in text ts → Breaks text (method_start ∷ []) (lexemes text ts) Unexpected p
pattern_end text ts p e q = breaks_end text method_start [] ts p e refl q

no_pattern : (d : TokenKind) → d ≢ kind.Name → d ≢ kind.Binary → d ≢ kind.Keyword → pattern_takes d ≡ Refuses
no_pattern kind.Name a b c = absurd (a refl)
no_pattern kind.Binary a b c = absurd (b refl)
no_pattern kind.Keyword a b c = absurd (c refl)
no_pattern _ a b c = refl

pub pattern_refused : (text : List ℕ) (ts tail : List Token) (t : Token) (p : ℕ) → ts ≡ t ∷ tail → t.kind ≢ kind.Name → t.kind ≢ kind.Binary → t.kind ≢ kind.Keyword → p ≡ place_in text ts → Breaks text (method_start ∷ []) (lexemes text ts) Unexpected p
pattern_refused text ts tail t p e a b c q = breaks_refused text method_start [] ts tail t p e (no_pattern t.kind a b c) q

-- a binary selector and its parameter
pub binary_missing : (text : List ℕ) (ts : List Token) (p : ℕ) → NoDeclared text ts → p ≡ place_in text ts → Breaks text (binary_parameter ∷ []) (lexemes text ts) Unexpected p
binary_missing text ts p n q =
    breaks_here text (binary_parameter ∷ []) [] (lexemes text ts) Unexpected p
    (declared_missing text (level []) (assigns []) binary_parameter (λ x. after_pattern (x ∷ []) ∷ []) (λ l. refl) refl ts p n q)

pub binary_done : (text word s : List ℕ) (n : NameAt) (none ps : List NameAt) (ts rest : List Token) → Took text (IsDeclared n) ts rest → none ≡ [] → ps ≡ none ++ n ∷ [] → s ≡ word → Goes text (binary_parameter ∷ []) (after_pattern (names_in ps) ∷ []) (IsBinaryPattern word s ps) ts rest
binary_done text word s n none ps ts rest x o e h =
    let one : ps ≡ n ∷ [] = e ∙ ap (λ y. y ++ n ∷ []) o in
    record {
      read = (n, h, one, x.read);
      same =
          declared_taken true binary_parameter (λ y. after_pattern (y ∷ []) ∷ []) (λ l. Refuses) (λ l. refl) n (lexemes text ts) (lexemes text rest) x.read []
          ∙ ap (λ y. run true (lexemes text rest) (after_pattern (names_in y) ∷ [])) (sym one);
      slices = x.slices;
    }

binary_read : (b s : List ℕ) (ps : List NameAt) (l : Lexeme) (ts tail end : Lexemes) → Takes kind.Binary l ts tail → b ≡ l.bytes → IsBinaryPattern b s ps tail end → IsPattern s ps ts end
binary_read b s ps l ts tail end h e g = subst (λ y. IsPattern s y ts end) (sym g.2) (inl (l, tail, h, g.1 ∙ e, g.3, refl))

pub pattern_binary : (text : List ℕ) (ts tail : List Token) (t : Token) (r : Result ((List ℕ × NamesAt) × Bor (List Token)) ParseFault) → ts ≡ t ∷ tail → t.kind ≡ kind.Binary → GoesTo text (binary_parameter ∷ []) (λ x. after_pattern (names_in (names_of x.1)) ∷ []) (λ x. IsBinaryPattern (bytes_of text t) x.0 (names_of x.1)) tail r → GoesTo text (method_start ∷ []) (λ x. after_pattern (names_in (names_of x.1)) ∷ []) (λ x. IsPattern x.0 (names_of x.1)) ts r
pattern_binary text ts tail t r e n x =
    goes_through text (method_start ∷ []) (binary_parameter ∷ []) (λ y. after_pattern (names_in (names_of y.1)) ∷ []) (λ y. IsBinaryPattern (bytes_of text t) y.0 (names_of y.1)) (λ y. IsPattern y.0 (names_of y.1)) ts tail r
    (at_list text ts (t ∷ tail) (method_start ∷ []) e ∙ pushes true (lexeme text t tail) (lexemes text tail) method_start [] (binary_parameter ∷ []) (ap pattern_takes n))
    (λ v end h. binary_read (bytes_of text t) v.0 (names_of v.1) (lexeme text t tail) (lexemes text ts) (lexemes text tail) end (takes_next text ts tail t kind.Binary e n) refl h) x

-- keywords, each with its parameter
keywords_more : (ns : List NameAt) (s : List ℕ) (l : Lexeme) (n : NameAt) (ts a b rest : Lexemes) → AreKeywords ns s ts a → Takes kind.Keyword l a b → IsDeclared n b rest → AreKeywords (ns ++ n ∷ []) (s ++ l.bytes) ts rest
keywords_more [] s l n ts a b rest h t d = (l, b, rest, [], (h.0 ∙ t.0, t.1), ap (λ x. x ++ l.bytes) h.1 ∙ sym (append-nil l.bytes), d, (refl, refl))
keywords_more (m ∷ ns) s l n ts a b rest h t d = (h.0, h.1, h.2, h.3 ++ l.bytes, h.4, ap (λ x. x ++ l.bytes) h.5 ∙ append_assoc h.0.bytes h.3 l.bytes, h.6, keywords_more ns h.3 l n h.2 a b rest h.7 t d)

pub keyword_read : (text : List ℕ) (old new : List NameAt) (s r : List ℕ) (n : NameAt) (ts : Lexemes) (a tail rest : List Token) (t : Token) → AreKeywords old s ts (lexemes text a) → a ≡ t ∷ tail → t.kind ≡ kind.Keyword → Took text (IsDeclared n) tail rest → r ≡ s ++ bytes_of text t → new ≡ old ++ n ∷ [] → AreKeywords new r ts (lexemes text rest)
keyword_read text old new s r n ts a tail rest t h e k x i j =
    subst (λ y. AreKeywords new y ts (lexemes text rest)) (sym i)
    (subst (λ y. AreKeywords y (s ++ bytes_of text t) ts (lexemes text rest)) (sym j) (keywords_more old s (lexeme text t tail) n ts (lexemes text a) (lexemes text tail) (lexemes text rest) h (takes_next text a tail t kind.Keyword e k) x.read))

keyword_row : (ns : Names) (l : Lexeme) → l.kind ≡ kind.Keyword → takes (keyword_symbol ns) l ≡ Pushes (keyword_parameter ns ∷ [])
keyword_row [] l e = ap pattern_takes e
keyword_row (n ∷ ns) l e = first (head_takes (n ∷ ns) l) l.kind e
  where
    first : (other : _) (d : TokenKind) → d ≡ kind.Keyword → keyword_takes d (keyword_parameter (n ∷ ns) ∷ []) other ≡ Pushes (keyword_parameter (n ∷ ns) ∷ [])
    first other d e = ap (λ x. keyword_takes x (keyword_parameter (n ∷ ns) ∷ []) other) e

keyword_opens : (text : List ℕ) (ns : Names) (a tail : List Token) (t : Token) → a ≡ t ∷ tail → t.kind ≡ kind.Keyword → run true (lexemes text a) (keyword_symbol ns ∷ []) ≡ run true (lexemes text tail) (keyword_parameter ns ∷ [])
keyword_opens text ns a tail t e k =
    at_list text a (t ∷ tail) (keyword_symbol ns ∷ []) e
    ∙ pushes true (lexeme text t tail) (lexemes text tail) (keyword_symbol ns) [] (keyword_parameter ns ∷ []) (keyword_row ns (lexeme text t tail) k)

some_keywords : (ns : Names) (x : List ℕ) → after_keyword (ns ++ x ∷ []) ≡ keyword_symbol (ns ++ x ∷ [])
some_keywords [] x = refl
some_keywords (n ∷ ns) x = refl

names_end : (ns : List NameAt) (n : NameAt) → names_in (ns ++ n ∷ []) ≡ names_in ns ++ n.name ∷ []
names_end [] n = refl
names_end (m ∷ ns) n = ap (λ x. m.name ∷ x) (names_end ns n)

pub keyword_taken : (text : List ℕ) (old new : List NameAt) (n : NameAt) (a tail rest : List Token) (t : Token) → a ≡ t ∷ tail → t.kind ≡ kind.Keyword → Took text (IsDeclared n) tail rest → new ≡ old ++ n ∷ [] → run true (lexemes text a) (keyword_symbol (names_in old) ∷ []) ≡ run true (lexemes text rest) (keyword_symbol (names_in new) ∷ [])
keyword_taken text old new n a tail rest t e k x p =
    keyword_opens text (names_in old) a tail t e k
    ∙ declared_taken true (keyword_parameter (names_in old)) (λ y. after_keyword (names_in old ++ y ∷ []) ∷ []) (λ l. Refuses) (λ l. refl) n (lexemes text tail) (lexemes text rest) x.read []
    ∙ ap (λ y. run true (lexemes text rest) (y ∷ [])) (some_keywords (names_in old) n.name)
    ∙ ap (λ y. run true (lexemes text rest) (keyword_symbol y ∷ [])) (sym (ap names_in p ∙ names_end old n))

pub keyword_missing : (text : List ℕ) (old : List NameAt) (ts a tail : List Token) (t : Token) (p : ℕ) → run true (lexemes text ts) (method_start ∷ []) ≡ run true (lexemes text a) (keyword_symbol (names_in old) ∷ []) → a ≡ t ∷ tail → t.kind ≡ kind.Keyword → NoDeclared text tail → p ≡ place_in text tail → Breaks text (method_start ∷ []) (lexemes text ts) Unexpected p
keyword_missing text old ts a tail t p s e k n q =
    let ns : Names = names_in old in
    let b = breaks_here text (keyword_parameter ns ∷ []) [] (lexemes text tail) Unexpected p (declared_missing text (level []) (assigns []) (keyword_parameter ns) (λ x. after_keyword (ns ++ x ∷ []) ∷ []) (λ l. refl) refl tail p n q) in
    record { rest = b.rest; is_place = b.is_place; same = s ∙ keyword_opens text ns a tail t e k ∙ b.same }

follows : (text : List ℕ) (ts : List Token) → IsNotNext kind.Keyword ts → Follows (lexemes text ts)
follows text [] n = inl refl
follows text (t ∷ ts) n = inr (lexeme text t ts, lexemes text ts, refl, other t.kind (is_minus (lexeme text t ts)) n)
  where
    other : (d : TokenKind) (b : Bool) → d ≢ kind.Keyword → NotKeyword d b
    other kind.Keyword b n = absurd (n refl)
    other _ b n = tt

keywords_pattern : (text : List ℕ) (ps : List NameAt) (s : List ℕ) (ts rest : List Token) → KeywordNext ts → IsNotNext kind.Keyword rest → AreKeywords ps s (lexemes text ts) (lexemes text rest) → IsPattern s ps (lexemes text ts) (lexemes text rest)
keywords_pattern text [] s ts rest k n h = absurd (some_keyword text ts rest k n h.0)
keywords_pattern text (p ∷ ps) s ts rest k n h = inr h

pub keywords_done : (text : List ℕ) (ps : List NameAt) (s : List ℕ) (ts rest : List Token) → AreKeywords ps s (lexemes text ts) (lexemes text rest) → KeywordNext ts → IsNotNext kind.Keyword rest → AreSlices text rest → Goes text (method_start ∷ []) (after_pattern (names_in ps) ∷ []) (IsPattern s ps) ts rest
keywords_done text ps s ts rest h k n w =
    let p = keywords_pattern text ps s ts rest k n h in
    record { read = p; same = pattern_taken true s ps (lexemes text ts) (lexemes text rest) p (follows text rest n); slices = w }
