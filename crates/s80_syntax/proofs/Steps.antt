-- The stack beside the descent: what a function's first token, or its absence, does.
use Rattle.std.proofs.Common.{subst, ◌≡◌, ◌≢◌, ℕ, suc, ◌+◌, ◌<◌, ◌≤◌, List, [], ◌∷◌, ◌++◌, Bool, true, false, cond, length, refl, ap, sym, ◌∙◌, arith, nat_lt, Result, Ok, Err}
use Rattle.std.specs.Borrow.{Bor}
use Rattle.std.proofs.lemmas.Bool.Decides.{Decides-ltb}
use Rattle.s80_lex.specs.declared.token.Token.{Token}
use Rattle.s80_lex.specs.declared.token.TokenKind.{TokenKind}
use Rattle.s80_syntax.specs.Lexeme.{Lexeme, Lexemes, lexeme, lexemes}
use Rattle.s80_syntax.specs.Limits.{may_open}
use Rattle.s80_syntax.specs.Faults.{Wrong, Unexpected, Nested, NotAssignable}
use Rattle.s80_syntax.specs.Stack.{Symbol, Stack, Action, Outcome, Pushes, Opens, Pops, Refuses, Fails, run, takes, act, step, finish, may_end, level, assigns}
use Rattle.s80_syntax.proofs.Moves.{pops, ends, opens}
use Rattle.s80_syntax.specs.declared.fault.ParseFault.{ParseFault}
use Rattle.s80_syntax.specs.declared.fault.ParseFault.TheVariants as fault
use Rattle.s80_syntax.specs.Reads.{AreSlices, IsNotNext, IsMemory, Stands, Stops, FailsAs, Parsed, Parses, place_in}

-- the run from tokens that are known by the next one
pub at_list : (text : List ℕ) (ts us : List Token) (k : Stack) → ts ≡ us → run true (lexemes text ts) k ≡ run true (lexemes text us) k
at_list text ts us k e = ap (λ x. run true (lexemes text x) k) e

pub refused : (l : Lexeme) (ts : Lexemes) (a : Symbol) (k : Stack) → takes a l ≡ Refuses → run true (l ∷ ts) (a ∷ k) ≡ Fails Unexpected (l ∷ ts)
unfolding run
refused l ts a k e = ap (λ x. act true (run true ts) l ts k x (step true (run true ts) l ts k)) e

pub ended : (a : Symbol) (k : Stack) → may_end a ≡ false → run true [] (a ∷ k) ≡ Fails Unexpected []
unfolding run
ended a k e = ap (λ x. cond x (finish k) (Fails Unexpected [])) e

nests : (l : Lexeme) (ts : Lexemes) (a : Symbol) (k p : Stack) → takes a l ≡ Opens p → may_open true (level k) ≡ false → run true (l ∷ ts) (a ∷ k) ≡ Fails Nested (l ∷ ts)
unfolding run
nests l ts a k p e h =
    ap (λ x. act true (run true ts) l ts k x (step true (run true ts) l ts k)) e
    ∙ ap (λ x. cond x (run true ts (p ++ k)) (Fails Nested (l ∷ ts))) h

-- a fault behind the first steps is a fault of the whole
stops_back : (text : List ℕ) (depth inner : ℕ) (names within : List ℕ → Bool) (wanted left : Stack) (ts rest : Lexemes) (f : Stack → Stack) (w : Wrong) (p : ℕ) → ((k : Stack) → Stands depth names k → Stands inner within (f k) × (run true ts (wanted ++ k) ≡ run true rest (left ++ f k))) → Stops text inner within left rest w p → Stops text depth names wanted ts w p
stops_back text depth inner names within wanted left ts rest f w p g h = record { rest = h.rest; is_place = h.is_place; same = λ k e. (g k e).1 ∙ h.same (f k) (g k e).0 }

pub fails_back : (text : List ℕ) (e : ParseFault) (depth inner : ℕ) (names within : List ℕ → Bool) (wanted left : Stack) (ts rest : Lexemes) (f : Stack → Stack) → ((k : Stack) → Stands depth names k → Stands inner within (f k) × (run true ts (wanted ++ k) ≡ run true rest (left ++ f k))) → FailsAs text inner within left rest e → FailsAs text depth names wanted ts e
fails_back text fault.Memory depth inner names within wanted left ts rest f g h = tt
fails_back text (fault.Unexpected p) depth inner names within wanted left ts rest f g h = stops_back text depth inner names within wanted left ts rest f Unexpected p g h
fails_back text (fault.Nested p) depth inner names within wanted left ts rest f g h = stops_back text depth inner names within wanted left ts rest f Nested p g h
fails_back text (fault.NotAssignable p) depth inner names within wanted left ts rest f g h = (h.0, stops_back text depth inner names within wanted left ts rest f (NotAssignable h.0) p g h.1)
fails_back text (fault.Unended p) depth inner names within wanted left ts rest f g h = absurd h
fails_back text (fault.BadByte p) depth inner names within wanted left ts rest f g h = absurd h
fails_back text (fault.BadNumber p) depth inner names within wanted left ts rest f g h = absurd h

pub memory_fails : (text : List ℕ) (e : ParseFault) (depth : ℕ) (names : List ℕ → Bool) (wanted : Stack) (ts : Lexemes) → IsMemory e → FailsAs text depth names wanted ts e
memory_fails text fault.Memory depth names wanted ts h = tt
memory_fails text (fault.Unexpected p) depth names wanted ts h = absurd h
memory_fails text (fault.Nested p) depth names wanted ts h = absurd h
memory_fails text (fault.NotAssignable p) depth names wanted ts h = absurd h
memory_fails text (fault.Unended p) depth names wanted ts h = absurd h
memory_fails text (fault.BadByte p) depth names wanted ts h = absurd h
memory_fails text (fault.BadNumber p) depth names wanted ts h = absurd h

-- the first wanted symbol refuses the next token, or must come at the end
pub stops_refused : (text : List ℕ) (depth : ℕ) (names : List ℕ → Bool) (a : Symbol) (more : Stack) (ts tail : List Token) (t : Token) (p : ℕ) → ts ≡ t ∷ tail → takes a (lexeme text t tail) ≡ Refuses → p ≡ place_in text ts → Stops text depth names (a ∷ more) (lexemes text ts) Unexpected p
stops_refused text depth names a more ts tail t p e r q = record {
  rest = lexemes text ts;
  is_place = q;
  same = λ k g. at_list text ts (t ∷ tail) (a ∷ (more ++ k)) e ∙ refused (lexeme text t tail) (lexemes text tail) a (more ++ k) r ∙ ap (λ x. Fails Unexpected (lexemes text x)) (sym e);
}

pub stops_end : (text : List ℕ) (depth : ℕ) (names : List ℕ → Bool) (a : Symbol) (more : Stack) (ts : List Token) (p : ℕ) → ts ≡ [] → may_end a ≡ false → p ≡ place_in text ts → Stops text depth names (a ∷ more) (lexemes text ts) Unexpected p
stops_end text depth names a more ts p e m q = record {
  rest = lexemes text ts;
  is_place = q;
  same = λ k g. at_list text ts [] (a ∷ (more ++ k)) e ∙ ended a (more ++ k) m ∙ ap (λ x. Fails Unexpected (lexemes text x)) (sym e);
}

-- the next token opens a level too many
pub stops_nested : (text : List ℕ) (depth : ℕ) (names : List ℕ → Bool) (a : Symbol) (pushed : Stack) (ts tail : List Token) (t : Token) (p : ℕ) → ts ≡ t ∷ tail → takes a (lexeme text t tail) ≡ Opens pushed → depth ≡ 64 → p ≡ place_in text ts → Stops text depth names (a ∷ []) (lexemes text ts) Nested p
stops_nested text depth names a pushed ts tail t p e o d q = record {
  rest = lexemes text ts;
  is_place = q;
  same = λ k g. at_list text ts (t ∷ tail) (a ∷ k) e ∙ nests (lexeme text t tail) (lexemes text tail) a k pushed o (ap (may_open true) (g.0 ∙ d)) ∙ ap (λ x. Fails Nested (lexemes text x)) (sym e);
}

pub deep_enough : (depth n : ℕ) → n ≡ depth → depth < 64 → may_open true n ≡ true
deep_enough depth n e h = ap (may_open true) e ∙ (Decides-ltb depth 64).1 h

pub opened : (text : List ℕ) (depth : ℕ) (a : Symbol) (pushed : Stack) (ts tail : List Token) (t : Token) (k : Stack) → ts ≡ t ∷ tail → takes a (lexeme text t tail) ≡ Opens pushed → depth < 64 → level k ≡ depth → run true (lexemes text ts) (a ∷ k) ≡ run true (lexemes text tail) (pushed ++ k)
opened text depth a pushed ts tail t k e o h g = at_list text ts (t ∷ tail) (a ∷ k) e ∙ opens true (lexeme text t tail) (lexemes text tail) a k pushed o (deep_enough depth (level k) g h)

-- a symbol that only takes tokens of one kind is done where none of it comes
pub passed : (text : List ℕ) (a : Symbol) (kd : TokenKind) (ts : List Token) (k : Stack) → may_end a ≡ true → ((l : Lexeme) → l.kind ≢ kd → takes a l ≡ Pops) → IsNotNext kd ts → run true (lexemes text ts) (a ∷ k) ≡ run true (lexemes text ts) k
passed text a kd [] k m p h = ends true a k m
passed text a kd (t ∷ ts) k m p h = pops true (lexeme text t ts) (lexemes text ts) a k (p (lexeme text t ts) h)

-- a fault in the first wanted symbol is one of all
pub first_fails : (text : List ℕ) (e : ParseFault) (depth : ℕ) (names : List ℕ → Bool) (a : Symbol) (more : Stack) (ts : List Token) → ((k : Stack) → Stands depth names k → Stands depth names (more ++ k)) → FailsAs text depth names (a ∷ []) (lexemes text ts) e → FailsAs text depth names (a ∷ more) (lexemes text ts) e
first_fails text e depth names a more ts s h = fails_back text e depth depth names names (a ∷ more) (a ∷ []) (lexemes text ts) (lexemes text ts) (λ k. more ++ k) (λ k g. (s k g, refl)) h

-- what another function gives for what is still wanted
pub passes_on : {V : Type 0} (text : List ℕ) (depth : ℕ) (names within : List ℕ → Bool) (wanted left : Stack) (f : Stack → Stack) (R S : V → Lexemes → Lexemes → Type 0) (ts rest : List Token) (r : Result (V × Bor (List Token)) ParseFault) → ((k : Stack) → Stands depth names k → Stands depth within (f k) × (run true (lexemes text ts) (wanted ++ k) ≡ run true (lexemes text rest) (left ++ f k))) → ((end : List Token) (k : Stack) → run true (lexemes text end) (f k) ≡ run true (lexemes text end) k) → ((v : V) (end : Lexemes) → R v (lexemes text rest) end → S v (lexemes text ts) end) → length rest ≤ length ts → Parses text depth within left R rest r → Parses text depth names wanted S ts r
passes_on text depth names within wanted left f R S ts rest (Err e) g h q l x = fails_back text e depth depth names within wanted left (lexemes text ts) (lexemes text rest) f g x
passes_on text depth names within wanted left f R S ts rest (Ok y) g h q l x = record {
  read = q y.0 (lexemes text y.1.now) x.read;
  same = λ k w. (g k w).1 ∙ x.same (f k) (g k w).0 ∙ h y.1.now k;
  slices = x.slices;
  shorter = (let s = x.shorter in omega arith);
}
