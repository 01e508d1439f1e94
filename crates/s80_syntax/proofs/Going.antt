-- Runs of known stacks beside the descent.
use Rattle.std.proofs.Common.{subst, ◌≡◌, ◌≢◌, ℕ, List, [], ◌∷◌, ◌++◌, Bool, true, false, refl, ap, sym, ◌∙◌, ◌⊎◌, inl, inr, Result, Ok, Err}
use Rattle.std.specs.Borrow.{Bor}
use Rattle.s80_lex.specs.declared.token.Token.{Token}
use Rattle.s80_lex.specs.declared.token.TokenKind.{TokenKind}
use Rattle.s80_lex.specs.declared.token.TokenKind.TheVariants as kind
use Rattle.s80_syntax.specs.Lexeme.{Lexeme, Lexemes, lexeme, lexemes}
use Rattle.s80_syntax.specs.Faults.{Wrong, Unexpected}
use Rattle.s80_syntax.specs.Grammar.{IsSign}
use Rattle.s80_syntax.specs.Word.{Names, is_word, is_minus}
use Rattle.s80_syntax.specs.Stack.{Symbol, Stack, Action, Pops, Refuses, run, takes, may_end, level, assigns, above, body_takes, sign_takes, home_takes, body, home_scope}
use Rattle.s80_syntax.proofs.Moves.{pops, ends, stands_above, IsTaken}
use Rattle.s80_syntax.proofs.Words.{word_false}
use Rattle.s80_syntax.specs.declared.fault.ParseFault.{ParseFault}
use Rattle.s80_syntax.specs.declared.fault.ParseFault.TheVariants as fault
use Rattle.s80_syntax.specs.Reads.{Stands, Stops, FailsAs, IsNotSign, place_in, bytes_of}
use Rattle.s80_syntax.specs.Method.{Breaks, BreaksAs, Goes, GoesTo, home_body}
use Rattle.s80_syntax.proofs.NextToken.{takes_next}
use Rattle.s80_syntax.proofs.Steps.{stops_refused, stops_end}

breaks_back : (text : List ℕ) (from to : Stack) (ts rest : Lexemes) (w : Wrong) (at : ℕ) → run true ts from ≡ run true rest to → Breaks text to rest w at → Breaks text from ts w at
breaks_back text from to ts rest w at s h = record { rest = h.rest; is_place = h.is_place; same = s ∙ h.same }

-- a fault behind the first steps is a fault of the whole
pub breaks_later : (text : List ℕ) (from to : Stack) (ts rest : Lexemes) (e : ParseFault) → run true ts from ≡ run true rest to → BreaksAs text to rest e → BreaksAs text from ts e
breaks_later text from to ts rest fault.Memory s h = tt
breaks_later text from to ts rest (fault.Unexpected p) s h = breaks_back text from to ts rest _ p s h
breaks_later text from to ts rest (fault.Nested p) s h = breaks_back text from to ts rest _ p s h
breaks_later text from to ts rest (fault.NotAssignable p) s h = (h.0, breaks_back text from to ts rest _ p s h.1)
breaks_later text from to ts rest (fault.Unended p) s h = absurd h
breaks_later text from to ts rest (fault.BadByte p) s h = absurd h
breaks_later text from to ts rest (fault.BadNumber p) s h = absurd h

pub breaks_here : (text : List ℕ) (wanted k : Stack) (ts : Lexemes) (w : Wrong) (at : ℕ) → Stops text (level k) (assigns k) wanted ts w at → Breaks text (wanted ++ k) ts w at
breaks_here text wanted k ts w at h = record { rest = h.rest; is_place = h.is_place; same = h.same k (refl, refl) }

-- the same, for the functions that read any part
pub fails_breaks : (text : List ℕ) (depth : ℕ) (names : List ℕ → Bool) (wanted k : Stack) (ts : Lexemes) (e : ParseFault) → Stands depth names k → FailsAs text depth names wanted ts e → BreaksAs text (wanted ++ k) ts e
fails_breaks text depth names wanted k ts fault.Memory g h = tt
fails_breaks text depth names wanted k ts (fault.Unexpected p) g h = record { rest = h.rest; is_place = h.is_place; same = h.same k g }
fails_breaks text depth names wanted k ts (fault.Nested p) g h = record { rest = h.rest; is_place = h.is_place; same = h.same k g }
fails_breaks text depth names wanted k ts (fault.NotAssignable p) g h = (h.0, record { rest = h.1.rest; is_place = h.1.is_place; same = h.1.same k g })
fails_breaks text depth names wanted k ts (fault.Unended p) g h = absurd h
fails_breaks text depth names wanted k ts (fault.BadByte p) g h = absurd h
fails_breaks text depth names wanted k ts (fault.BadNumber p) g h = absurd h

-- what another function gives for what is still wanted
pub goes_through : {V : Type 0} (text : List ℕ) (from mid : Stack) (to : V → Stack) (R S : V → Lexemes → Lexemes → Type 0) (ts rest : List Token) (r : Result (V × Bor (List Token)) ParseFault) → run true (lexemes text ts) from ≡ run true (lexemes text rest) mid → ((v : V) (end : Lexemes) → R v (lexemes text rest) end → S v (lexemes text ts) end) → GoesTo text mid to R rest r → GoesTo text from to S ts r
goes_through text from mid to R S ts rest (Err e) s q x = breaks_later text from mid (lexemes text ts) (lexemes text rest) e s x
goes_through text from mid to R S ts rest (Ok y) s q x = record { read = q y.0 (lexemes text y.1.now) x.read; same = s ∙ x.same; slices = x.slices }

-- the next token is refused, or one must come
pub breaks_refused : (text : List ℕ) (a : Symbol) (k : Stack) (ts tail : List Token) (t : Token) (p : ℕ) → ts ≡ t ∷ tail → takes a (lexeme text t tail) ≡ Refuses → p ≡ place_in text ts → Breaks text (a ∷ k) (lexemes text ts) Unexpected p
breaks_refused text a k ts tail t p e r q = breaks_here text (a ∷ []) k (lexemes text ts) Unexpected p (stops_refused text (level k) (assigns k) a [] ts tail t p e r q)

pub breaks_end : (text : List ℕ) (a : Symbol) (k : Stack) (ts : List Token) (p : ℕ) → ts ≡ [] → may_end a ≡ false → p ≡ place_in text ts → Breaks text (a ∷ k) (lexemes text ts) Unexpected p
breaks_end text a k ts p e m q = breaks_here text (a ∷ []) k (lexemes text ts) Unexpected p (stops_end text (level k) (assigns k) a [] ts p e m q)

-- signs
pub no_sign : (d : TokenKind) (b : Bool) (p : Stack) (other : Action) → (d ≡ kind.Binary → b ≡ false) → sign_takes d b p other ≡ other
no_sign kind.Binary b p other h = ap (λ x. sign_takes kind.Binary x p other) (h refl)
no_sign _ b p other h = refl

pub other_sign : (text word : List ℕ) (t : Token) (ts : List Token) (p : Stack) (other : Action) → IsNotSign kind.Binary word text (t ∷ ts) → sign_takes t.kind (is_word word (lexeme text t ts)) p other ≡ other
other_sign text word t ts p other n = no_sign t.kind (is_word word (lexeme text t ts)) p other (λ e. word_false word (lexeme text t ts) (n e))

pub sign_missing : (text word : List ℕ) (a : Symbol) (p k : Stack) → ((l : Lexeme) → takes a l ≡ sign_takes l.kind (is_word word l) p Refuses) → may_end a ≡ false → (ts : List Token) (at : ℕ) → IsNotSign kind.Binary word text ts → at ≡ place_in text ts → Breaks text (a ∷ k) (lexemes text ts) Unexpected at
sign_missing text word a p k row m [] at n q = breaks_end text a k [] at refl m q
sign_missing text word a p k row m (t ∷ ts) at n q = breaks_refused text a k (t ∷ ts) ts t at refl (row (lexeme text t ts) ∙ other_sign text word t ts p Refuses n) q

pub sign_here : (text word : List ℕ) (k : TokenKind) (ts tail : List Token) → (t : Token) × (ts ≡ t ∷ tail) × (t.kind ≡ k) × (bytes_of text t ≡ word) → IsSign k word (lexemes text ts) (lexemes text tail)
sign_here text word k ts tail h = (lexeme text h.0 tail, takes_next text ts tail h.0 k h.1 h.2, h.3)

-- where no more of a head comes, the body does
body_row : (d : TokenKind) (b : Bool) (l : Lexeme) → IsTaken (body_takes d b l) ⊎ (body_takes d b l ≡ Pops)
body_row kind.Caret b l = inl tt
body_row kind.Name b l = inl tt
body_row kind.Number b l = inl tt
body_row kind.Character b l = inl tt
body_row kind.Str b l = inl tt
body_row kind.Symbol b l = inl tt
body_row kind.ArrayStart b l = inl tt
body_row kind.OpenParen b l = inl tt
body_row kind.OpenBracket b l = inl tt
body_row kind.Binary true l = inl tt
body_row kind.Binary false l = inr refl
body_row _ b l = inr refl

home_at : (l : Lexeme) (ts : Lexemes) (a : Symbol) (ps ns : Names) → takes a l ≡ home_takes ps ns l → IsTaken (body_takes l.kind (is_minus l) l) ⊎ (body_takes l.kind (is_minus l) l ≡ Pops) → run true (l ∷ ts) (a ∷ []) ≡ run true (l ∷ ts) (home_body ps ns)
home_at l ts a ps ns e (inl t) = stands_above true l ts a body (home_scope ps ns ∷ []) [] e t refl
home_at l ts a ps ns e (inr p) =
    pops true l ts a [] (e ∙ ap (λ x. above x (home_scope ps ns ∷ [])) p)
    ∙ sym (pops true l ts body (home_scope ps ns ∷ []) p ∙ pops true l ts (home_scope ps ns) [] refl)

pub home_follows : (text : List ℕ) (a : Symbol) (ps ns : Names) → may_end a ≡ true → (ts : List Token) → ((t : Token) (tail : List Token) → ts ≡ t ∷ tail → takes a (lexeme text t tail) ≡ home_takes ps ns (lexeme text t tail)) → run true (lexemes text ts) (a ∷ []) ≡ run true (lexemes text ts) (home_body ps ns)
home_follows text a ps ns m [] row = ends true a [] m ∙ sym (ends true body (home_scope ps ns ∷ []) refl ∙ ends true (home_scope ps ns) [] refl)
home_follows text a ps ns m (t ∷ ts) row = home_at (lexeme text t ts) (lexemes text ts) a ps ns (row t ts refl) (body_row t.kind (is_minus (lexeme text t ts)) (lexeme text t ts))
