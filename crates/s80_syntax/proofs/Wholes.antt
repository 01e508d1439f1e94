-- Whole texts, as they are read.
use Rattle.std.proofs.Common.{subst, ◌≡◌, ◌≢◌, ℕ, ◌≤◌, List, [], ◌∷◌, ◌++◌, Bool, true, false, length, refl, ap, sym, ◌∙◌, arith, ◌==◌, Result, Ok, Err, All, ◌⊎◌, inl, inr}
use Rattle.std.proofs.lemmas.Bool.Decides.{nat_tests}
use Rattle.s80_lex.specs.declared.token.Token.{Token}
use Rattle.s80_lex.specs.declared.fault.LexFault.{LexFault}
use Rattle.s80_lex.specs.declared.fault.LexFault.TheVariants as lex
use Rattle.s80_lex.specs.Text.{AreTokens, IsFirstFault, IsSlice}
use Rattle.s80_tree.specs.declared.name.NameAt.{NameAt}
use Rattle.s80_tree.specs.declared.method.MethodTree.{MethodTree}
use Rattle.s80_tree.specs.declared.method.DoItTree.{DoItTree}
use Rattle.s80_tree.specs.Tree.{MethodParts, DoItParts, BodyTree, method_of, doit_of}
use Rattle.s80_syntax.specs.Lexeme.{Lexeme, Lexemes, lexeme, lexemes}
use Rattle.s80_syntax.specs.Grammar.{IsBody, IsPattern, IsHead, AreOptionalTemporaries, IsMethod, IsDoIt}
use Rattle.s80_syntax.specs.Limits.{home_assigns, IsLawfulMethod, IsLawfulDoIt}
use Rattle.s80_syntax.specs.Word.{Names, names_in}
use Rattle.s80_syntax.specs.Faults.{Wrong, Unexpected, Nested, NotAssignable, IsMethodText, IsDoItText, IsFault}
use Rattle.s80_syntax.specs.Stack.{Symbol, Stack, Accepts, Fails, run, finish, step, method_start, doit_start, after_pattern, optional_temporaries, body, home_scope}
use Rattle.s80_syntax.proofs.Moves.{pops}
use Rattle.s80_syntax.proofs.Whole.{stops_at_fault}
use Rattle.s80_syntax.proofs.Texts.{methods, doits}
use Rattle.s80_syntax.proofs.UniqueTexts.{one_method, one_doit}
use Rattle.s80_syntax.specs.declared.fault.ParseFault.{ParseFault}
use Rattle.s80_syntax.specs.declared.fault.ParseFault.TheVariants as fault
use Rattle.s80_syntax.specs.Fault.{of_lex}
use Rattle.s80_syntax.specs.Reads.{AreSlices, Parsed, FailsAs, place_in}
use Rattle.s80_syntax.specs.Method.{Breaks, BreaksAs, Goes, GoesTo, MeansMethod, MeansDoIt, home_body}
use Rattle.s80_syntax.specs.Text.{IsMethodOf, IsDoItOf, IsFaultAt, IsFaultOf}
use Rattle.s80_syntax.proofs.Going.{breaks_later, fails_breaks}

-- behind a body
home_ends : (ps ns : Names) → run true [] (home_scope ps ns ∷ []) ≡ Accepts
unfolding run
home_ends ps ns = refl

home_stops : (ps ns : Names) (l : Lexeme) (ts : Lexemes) → run true (l ∷ ts) (home_scope ps ns ∷ []) ≡ Fails Unexpected (l ∷ ts)
unfolding run
home_stops ps ns l ts = refl

pub no_tokens : (ts : List Token) → true ≡ (length ts == 0) → ts ≡ []
no_tokens [] h = refl
no_tokens (t ∷ ts) h = absurd (grind (arith, nat_tests, h))

pub some_tokens : (ts : List Token) → false ≡ (length ts == 0) → ts ≢ []
some_tokens ts h e = false_true (h ∙ ap (λ x. length x == 0) e)
  where
    false_true : false ≡ true → ⊥
    false_true e = cc

stops_behind : (text : List ℕ) (ps ns : Names) (ts : List Token) (p : ℕ) → ts ≢ [] → p ≡ place_in text ts → Breaks text (home_scope ps ns ∷ []) (lexemes text ts) Unexpected p
stops_behind text ps ns [] p n q = absurd (n refl)
stops_behind text ps ns (t ∷ ts) p n q = record { rest = lexemes text (t ∷ ts); is_place = q; same = home_stops ps ns (lexeme text t ts) (lexemes text ts) }

ends_behind : (text : List ℕ) (ps ns : Names) (ts : List Token) → ts ≡ [] → run true (lexemes text ts) (home_scope ps ns ∷ []) ≡ Accepts
ends_behind text ps ns ts e = ap (λ x. run true (lexemes text x) (home_scope ps ns ∷ [])) e ∙ home_ends ps ns

-- a body where these names are declared
body_same : (text : List ℕ) (ps ns : Names) (names : List ℕ → Bool) (b : BodyTree) (ts rest : List Token) → names ≡ home_assigns ps ns → Parsed text 0 names (body ∷ []) (IsBody b) ts rest → run true (lexemes text ts) (home_body ps ns) ≡ run true (lexemes text rest) (home_scope ps ns ∷ [])
body_same text ps ns names b ts rest i x = x.same (home_scope ps ns ∷ []) (refl, sym i)

body_breaks : (text : List ℕ) (ps ns : Names) (names : List ℕ → Bool) (e : ParseFault) (ts : List Token) → names ≡ home_assigns ps ns → FailsAs text 0 names (body ∷ []) (lexemes text ts) e → BreaksAs text (home_body ps ns) (lexemes text ts) e
body_breaks text ps ns names e ts i f = fails_breaks text 0 names (body ∷ []) (home_scope ps ns ∷ []) (lexemes text ts) e (refl, sym i) f

-- a method
pub method_head_fails : (text : List ℕ) (e : ParseFault) (s : List ℕ) (ps : List NameAt) (ts rest : List Token) → Goes text (method_start ∷ []) (after_pattern (names_in ps) ∷ []) (IsPattern s ps) ts rest → ((qs : Names) → BreaksAs text (after_pattern qs ∷ []) (lexemes text rest) e) → BreaksAs text (method_start ∷ []) (lexemes text ts) e
method_head_fails text e s ps ts rest x f = breaks_later text (method_start ∷ []) (after_pattern (names_in ps) ∷ []) (lexemes text ts) (lexemes text rest) e x.same (f (names_in ps))

method_to_body : (text : List ℕ) (s : List ℕ) (ps ns : List NameAt) (n : ℕ) (ts rest start : List Token) → Goes text (method_start ∷ []) (after_pattern (names_in ps) ∷ []) (IsPattern s ps) ts rest → ((qs : Names) → Goes text (after_pattern qs ∷ []) (home_body qs (names_in ns)) (IsHead ns n) rest start) → run true (lexemes text ts) (method_start ∷ []) ≡ run true (lexemes text start) (home_body (names_in ps) (names_in ns))
method_to_body text s ps ns n ts rest start x y = x.same ∙ (y (names_in ps)).same

pub method_body_fails : (text : List ℕ) (e : ParseFault) (s : List ℕ) (ps ns qs ms : List NameAt) (n : ℕ) (names : List ℕ → Bool) (ts rest start : List Token) → qs ≡ ps → ms ≡ ns → names ≡ home_assigns (names_in qs) (names_in ms) → Goes text (method_start ∷ []) (after_pattern (names_in ps) ∷ []) (IsPattern s ps) ts rest → ((rs : Names) → Goes text (after_pattern rs ∷ []) (home_body rs (names_in ns)) (IsHead ns n) rest start) → FailsAs text 0 names (body ∷ []) (lexemes text start) e → BreaksAs text (method_start ∷ []) (lexemes text ts) e
method_body_fails text e s ps ns qs ms n names ts rest start g h i x y f =
    breaks_later text (method_start ∷ []) (home_body (names_in ps) (names_in ns)) (lexemes text ts) (lexemes text start) e (method_to_body text s ps ns n ts rest start x y)
    (body_breaks text (names_in ps) (names_in ns) names e start (i ∙ ap (λ z. home_assigns (names_in z) (names_in ms)) g ∙ ap (λ z. home_assigns (names_in ps) (names_in z)) h) f)

method_to_end : (text : List ℕ) (s : List ℕ) (ps ns qs ms : List NameAt) (n : ℕ) (b : BodyTree) (names : List ℕ → Bool) (ts rest start end : List Token) → qs ≡ ps → ms ≡ ns → names ≡ home_assigns (names_in qs) (names_in ms) → Goes text (method_start ∷ []) (after_pattern (names_in ps) ∷ []) (IsPattern s ps) ts rest → ((rs : Names) → Goes text (after_pattern rs ∷ []) (home_body rs (names_in ns)) (IsHead ns n) rest start) → Parsed text 0 names (body ∷ []) (IsBody b) start end → run true (lexemes text ts) (method_start ∷ []) ≡ run true (lexemes text end) (home_scope (names_in ps) (names_in ns) ∷ [])
method_to_end text s ps ns qs ms n b names ts rest start end g h i x y z =
    method_to_body text s ps ns n ts rest start x y
    ∙ body_same text (names_in ps) (names_in ns) names b start end (i ∙ ap (λ z. home_assigns (names_in z) (names_in ms)) g ∙ ap (λ z. home_assigns (names_in ps) (names_in z)) h) z

pub method_goes_on : (text : List ℕ) (s : List ℕ) (ps ns qs ms : List NameAt) (n : ℕ) (b : BodyTree) (names : List ℕ → Bool) (ts rest start end : List Token) (p : ℕ) → qs ≡ ps → ms ≡ ns → names ≡ home_assigns (names_in qs) (names_in ms) → Goes text (method_start ∷ []) (after_pattern (names_in ps) ∷ []) (IsPattern s ps) ts rest → ((rs : Names) → Goes text (after_pattern rs ∷ []) (home_body rs (names_in ns)) (IsHead ns n) rest start) → Parsed text 0 names (body ∷ []) (IsBody b) start end → end ≢ [] → p ≡ place_in text end → Breaks text (method_start ∷ []) (lexemes text ts) Unexpected p
method_goes_on text s ps ns qs ms n b names ts rest start end p g h i x y z o q =
    let k = stops_behind text (names_in ps) (names_in ns) end p o q in
    record { rest = k.rest; is_place = k.is_place; same = method_to_end text s ps ns qs ms n b names ts rest start end g h i x y z ∙ k.same }

pub method_done : (text : List ℕ) (s : List ℕ) (ps ns qs ms : List NameAt) (n : ℕ) (b : BodyTree) (names : List ℕ → Bool) (m : MethodParts) (ts rest start end : List Token) → qs ≡ ps → ms ≡ ns → names ≡ home_assigns (names_in qs) (names_in ms) → Goes text (method_start ∷ []) (after_pattern (names_in ps) ∷ []) (IsPattern s ps) ts rest → ((rs : Names) → Goes text (after_pattern rs ∷ []) (home_body rs (names_in ns)) (IsHead ns n) rest start) → Parsed text 0 names (body ∷ []) (IsBody b) start end → end ≡ [] → m ≡ record { selector = s; parameters = ps; temporaries = ns; primitive = n; body = b } → IsMethod m (lexemes text ts) × (run true (lexemes text ts) (method_start ∷ []) ≡ Accepts)
method_done text s ps ns qs ms n b names m ts rest start end g h i x y z o e = (
  subst (λ w. IsMethod w (lexemes text ts)) (sym e) (lexemes text rest, lexemes text start, x.read, (y []).read, subst (IsBody b (lexemes text start)) (ap (lexemes text) o) z.read),
  method_to_end text s ps ns qs ms n b names ts rest start end g h i x y z ∙ ends_behind text (names_in ps) (names_in ns) end o,
)

-- a doIt
pub doit_body_fails : (text : List ℕ) (e : ParseFault) (ns ms : List NameAt) (names : List ℕ → Bool) (ts start : List Token) → ms ≡ ns → names ≡ home_assigns [] (names_in ms) → ((rs : Names) → Goes text (optional_temporaries rs ∷ []) (home_body rs (names_in ns)) (AreOptionalTemporaries ns) ts start) → FailsAs text 0 names (body ∷ []) (lexemes text start) e → BreaksAs text (doit_start ∷ []) (lexemes text ts) e
doit_body_fails text e ns ms names ts start h i y f =
    breaks_later text (doit_start ∷ []) (home_body [] (names_in ns)) (lexemes text ts) (lexemes text start) e (y []).same
    (body_breaks text [] (names_in ns) names e start (i ∙ ap (λ z. home_assigns [] (names_in z)) h) f)

doit_to_end : (text : List ℕ) (ns ms : List NameAt) (b : BodyTree) (names : List ℕ → Bool) (ts start end : List Token) → ms ≡ ns → names ≡ home_assigns [] (names_in ms) → ((rs : Names) → Goes text (optional_temporaries rs ∷ []) (home_body rs (names_in ns)) (AreOptionalTemporaries ns) ts start) → Parsed text 0 names (body ∷ []) (IsBody b) start end → run true (lexemes text ts) (doit_start ∷ []) ≡ run true (lexemes text end) (home_scope [] (names_in ns) ∷ [])
doit_to_end text ns ms b names ts start end h i y z = (y []).same ∙ body_same text [] (names_in ns) names b start end (i ∙ ap (λ z. home_assigns [] (names_in z)) h) z

pub doit_goes_on : (text : List ℕ) (ns ms : List NameAt) (b : BodyTree) (names : List ℕ → Bool) (ts start end : List Token) (p : ℕ) → ms ≡ ns → names ≡ home_assigns [] (names_in ms) → ((rs : Names) → Goes text (optional_temporaries rs ∷ []) (home_body rs (names_in ns)) (AreOptionalTemporaries ns) ts start) → Parsed text 0 names (body ∷ []) (IsBody b) start end → end ≢ [] → p ≡ place_in text end → Breaks text (doit_start ∷ []) (lexemes text ts) Unexpected p
doit_goes_on text ns ms b names ts start end p h i y z o q =
    let k = stops_behind text [] (names_in ns) end p o q in
    record { rest = k.rest; is_place = k.is_place; same = doit_to_end text ns ms b names ts start end h i y z ∙ k.same }

pub doit_done : (text : List ℕ) (ns ms : List NameAt) (b : BodyTree) (names : List ℕ → Bool) (d : DoItParts) (ts start end : List Token) → ms ≡ ns → names ≡ home_assigns [] (names_in ms) → ((rs : Names) → Goes text (optional_temporaries rs ∷ []) (home_body rs (names_in ns)) (AreOptionalTemporaries ns) ts start) → Parsed text 0 names (body ∷ []) (IsBody b) start end → end ≡ [] → d ≡ record { temporaries = ns; body = b } → IsDoIt d (lexemes text ts) × (run true (lexemes text ts) (doit_start ∷ []) ≡ Accepts)
doit_done text ns ms b names d ts start end h i y z o e = (
  subst (λ w. IsDoIt w (lexemes text ts)) (sym e) (lexemes text start, (y []).read, subst (IsBody b (lexemes text start)) (ap (lexemes text) o) z.read),
  doit_to_end text ns ms b names ts start end h i y z ∙ ends_behind text [] (names_in ns) end o,
)
