-- Messages one behind another, as they are read.
use Rattle.std.proofs.Common.{subst, ◌≡◌, ◌≢◌, ℕ, ◌+◌, ◌<◌, ◌≤◌, List, [], ◌∷◌, ◌++◌, Bool, true, length, refl, ap, sym, ◌∙◌, arith, inl, inr, lit≤}
use Rattle.s80_lex.specs.declared.token.Token.{Token}
use Rattle.s80_lex.specs.declared.token.TokenKind.{TokenKind}
use Rattle.s80_lex.specs.declared.token.TokenKind.TheVariants as kind
use Rattle.s80_tree.specs.Tree.{ExprTree, ExprTrees, MessageTrees, MessageTree, no_exprs, exprs, no_messages, messages, messages_append}
use Rattle.s80_syntax.specs.Lexeme.{Lexemes, lexeme, lexemes}
use Rattle.s80_syntax.specs.Grammar.{IsOperand, IsChain, IsMessage}
use Rattle.s80_syntax.specs.Stack.{Stack, Pops, run, name_takes, binary_takes, primary, unary_tail, binary_tail}
use Rattle.s80_syntax.proofs.Moves.{pushes}
use Rattle.s80_syntax.proofs.TakenExprs.{unary_token}
use Rattle.s80_syntax.specs.declared.fault.ParseFault.{ParseFault}
use Rattle.s80_syntax.specs.Reads.{AreSlices, IsNotNext, Stands, FailsAs, Parsed, bytes_of}
use Rattle.s80_syntax.specs.Expr.{GoesOn, TookUnaries, AreBinary, IsBinaryRest}
use Rattle.s80_syntax.proofs.NextToken.{takes_next, tail_slices}
use Rattle.s80_syntax.proofs.Steps.{at_list, fails_back, passed}

pub messages_all : (m : MessageTrees) → messages_append m no_messages ≡ m
messages_all no_messages = refl
messages_all (messages s es m) = ap (messages s es) (messages_all m)

pub messages_assoc : (a b c : MessageTrees) → messages_append (messages_append a b) c ≡ messages_append a (messages_append b c)
messages_assoc no_messages b c = refl
messages_assoc (messages s es a) b c = ap (messages s es) (messages_assoc a b c)

-- a list with one message more, as functions give it
pub message_added : (new old : MessageTrees) (m : MessageTree) (s b : List ℕ) (es fs : ExprTrees) → new ≡ messages_append old (messages m.0 m.1 no_messages) → m ≡ (s, es) → s ≡ b → es ≡ fs → new ≡ messages_append old (messages b fs no_messages)
message_added new old m s b es fs e f g h =
    e ∙ ap (λ x. messages_append old (messages x.0 x.1 no_messages)) f
    ∙ ap (λ x. messages_append old (messages x es no_messages)) g
    ∙ ap (λ x. messages_append old (messages b x no_messages)) h

-- a chain that goes on with this message goes on behind it
pub goes_on : (old new : MessageTrees) (s : List ℕ) (es : ExprTrees) (low next high : ℕ) (ts a rest : Lexemes) → GoesOn old low high ts a → IsMessage es s low high next a rest → new ≡ messages_append old (messages s es no_messages) → GoesOn new next high ts rest
goes_on old new s es low next high ts a rest g m e = λ more end h.
    subst (λ x. IsChain x 0 high ts end) (sym (ap (λ x. messages_append x more) e ∙ messages_assoc old (messages s es no_messages) more)) (g (messages s es more) end (rest, next, m, h))

pub none_goes_on : (m : MessageTrees) (high : ℕ) (ts : Lexemes) → m ≡ no_messages → GoesOn m 0 high ts ts
none_goes_on m high ts e = λ more end h. subst (λ x. IsChain (messages_append x more) 0 high ts end) (sym e) h

chain_low : (m : MessageTrees) (high : ℕ) (ts rest : Lexemes) → IsChain m 1 high ts rest → IsChain m 0 high ts rest
chain_low no_messages high ts rest h = h
chain_low (messages s no_exprs m) high ts rest (a, next, h, g) = absurd (omega (arith, h.3))
chain_low (messages s (exprs e es) m) high ts rest (a, next, inl h, g) = (a, next, inl (h.0, h.1, h.2, h.3, omega arith, h.5, h.6, h.7, h.8), g)
chain_low (messages s (exprs e es) m) high ts rest (a, next, inr h, g) = (a, next, inr (h.0, h.1, h.2, h.3, h.4, h.5, omega arith, h.7, h.8, h.9, h.10), g)

goes_higher : (m : MessageTrees) (high : ℕ) (ts rest : Lexemes) → GoesOn m 0 high ts rest → GoesOn m 1 high ts rest
goes_higher m high ts rest g = λ more end h. g more end (chain_low more high rest end h)

-- the chain as it is
pub chain_ends : (m : MessageTrees) (low high : ℕ) (ts rest : Lexemes) → GoesOn m low high ts rest → IsChain m 0 high ts rest
chain_ends m low high ts rest g = subst (λ x. IsChain x 0 high ts rest) (messages_all m) (g no_messages rest refl)

not_name : (k : TokenKind) → k ≢ kind.Name → name_takes k (unary_tail ∷ []) Pops ≡ Pops
not_name kind.Name n = absurd (n refl)
not_name _ n = refl

no_unary : (text : List ℕ) (ts : List Token) (k : Stack) → IsNotNext kind.Name ts → run true (lexemes text ts) (unary_tail ∷ k) ≡ run true (lexemes text ts) k
no_unary text ts k h = passed text unary_tail kind.Name ts k refl (λ l n. not_name l.kind n) h

pub unary_read : (text : List ℕ) (old new : MessageTrees) (ts : Lexemes) (a rest : List Token) (t : Token) → ((high : ℕ) → GoesOn old 0 high ts (lexemes text a)) → a ≡ t ∷ rest → t.kind ≡ kind.Name → new ≡ messages_append old (messages (bytes_of text t) no_exprs no_messages) → (high : ℕ) → GoesOn new 0 high ts (lexemes text rest)
unary_read text old new ts a rest t g e n p high =
    goes_on old new (bytes_of text t) no_exprs 0 0 high ts (lexemes text a) (lexemes text rest) (g high) (lexeme text t rest, takes_next text a rest t kind.Name e n, refl, refl, refl) p

pub unary_taken : (text : List ℕ) (a rest : List Token) (t : Token) → a ≡ t ∷ rest → t.kind ≡ kind.Name → (k : Stack) → run true (lexemes text a) (unary_tail ∷ k) ≡ run true (lexemes text rest) (unary_tail ∷ k)
unary_taken text a rest t e n k = at_list text a (t ∷ rest) (unary_tail ∷ k) e ∙ unary_token true (lexeme text t rest) (lexemes text rest) k n

pub unaries_done : (text : List ℕ) (m : MessageTrees) (ts rest : List Token) → ((high : ℕ) → GoesOn m 0 high (lexemes text ts) (lexemes text rest)) → ((k : Stack) → run true (lexemes text ts) (unary_tail ∷ k) ≡ run true (lexemes text rest) (unary_tail ∷ k)) → IsNotNext kind.Name rest → AreSlices text rest → length rest ≤ length ts → TookUnaries text m ts rest
unaries_done text m ts rest g s n w q = record { read = g; same = λ k. s k ∙ no_unary text rest k n; slices = w; shorter = q }

-- binary messages
not_binary : (k : TokenKind) → k ≢ kind.Binary → binary_takes k ≡ Pops
not_binary kind.Binary n = absurd (n refl)
not_binary _ n = refl

no_binary : (text : List ℕ) (ts : List Token) (k : Stack) → IsNotNext kind.Binary ts → run true (lexemes text ts) (binary_tail ∷ k) ≡ run true (lexemes text ts) k
no_binary text ts k h = passed text binary_tail kind.Binary ts k refl (λ l n. not_binary l.kind n) h

binary_opens : (text : List ℕ) (a tail : List Token) (t : Token) → a ≡ t ∷ tail → t.kind ≡ kind.Binary → (k : Stack) → run true (lexemes text a) (binary_tail ∷ k) ≡ run true (lexemes text tail) (primary ∷ unary_tail ∷ binary_tail ∷ k)
binary_opens text a tail t e n k = at_list text a (t ∷ tail) (binary_tail ∷ k) e ∙ pushes true (lexeme text t tail) (lexemes text tail) binary_tail k (primary ∷ unary_tail ∷ binary_tail ∷ []) (ap binary_takes n)

pub binaries_start : (text : List ℕ) (m : MessageTrees) (ts rest : List Token) → TookUnaries text m ts rest → AreBinary m (lexemes text ts) (lexemes text rest)
binaries_start text m ts rest u = λ high q. goes_higher m high (lexemes text ts) (lexemes text rest) (u.read high)

binary_more : (old new : MessageTrees) (m : MessageTree) (b : List ℕ) (ts : Lexemes) (text : List ℕ) (a tail rest : List Token) (t : Token) → AreBinary old ts (lexemes text a) → a ≡ t ∷ tail → t.kind ≡ kind.Binary → b ≡ bytes_of text t → IsBinaryRest b m (lexemes text tail) (lexemes text rest) → new ≡ messages_append old (messages m.0 m.1 no_messages) → AreBinary new ts (lexemes text rest)
binary_more old new m b ts text a tail rest t g e n i h p = λ high q.
    goes_on old new b (exprs h.0 no_exprs) 1 1 high ts (lexemes text a) (lexemes text rest) (g high q)
    (inl (lexeme text t tail, lexemes text tail, takes_next text a tail t kind.Binary e n, i, lit≤ tt, q, refl, h.2, tt))
    (p ∙ ap (λ x. messages_append old (messages x.0 x.1 no_messages)) h.1)

pub binary_read : (text : List ℕ) (depth : ℕ) (names : List ℕ → Bool) (old new : MessageTrees) (m : MessageTree) (ts : Lexemes) (a tail rest : List Token) (t : Token) → AreBinary old ts (lexemes text a) → a ≡ t ∷ tail → t.kind ≡ kind.Binary → Parsed text depth names (primary ∷ unary_tail ∷ []) (IsBinaryRest (bytes_of text t) m) tail rest → new ≡ messages_append old (messages m.0 m.1 no_messages) → AreBinary new ts (lexemes text rest)
binary_read text depth names old new m ts a tail rest t g e n x p = binary_more old new m (bytes_of text t) ts text a tail rest t g e n refl x.read p

pub binary_taken : (text : List ℕ) (depth : ℕ) (names : List ℕ → Bool) (R : Lexemes → Lexemes → Type 0) (a tail rest : List Token) (t : Token) → a ≡ t ∷ tail → t.kind ≡ kind.Binary → Parsed text depth names (primary ∷ unary_tail ∷ []) R tail rest → (k : Stack) → Stands depth names k → run true (lexemes text a) (binary_tail ∷ k) ≡ run true (lexemes text rest) (binary_tail ∷ k)
binary_taken text depth names R a tail rest t e n x k g = binary_opens text a tail t e n k ∙ x.same (binary_tail ∷ k) g

pub binary_fails : (text : List ℕ) (d : ParseFault) (depth : ℕ) (names : List ℕ → Bool) (ts a tail : List Token) (t : Token) → ((k : Stack) → Stands depth names k → run true (lexemes text ts) (unary_tail ∷ binary_tail ∷ k) ≡ run true (lexemes text a) (binary_tail ∷ k)) → a ≡ t ∷ tail → t.kind ≡ kind.Binary → FailsAs text depth names (primary ∷ unary_tail ∷ []) (lexemes text tail) d → FailsAs text depth names (unary_tail ∷ binary_tail ∷ []) (lexemes text ts) d
binary_fails text d depth names ts a tail t s e n f =
    fails_back text d depth depth names names (unary_tail ∷ binary_tail ∷ []) (primary ∷ unary_tail ∷ []) (lexemes text ts) (lexemes text tail) (λ k. binary_tail ∷ k) (λ k g. (g, s k g ∙ binary_opens text a tail t e n k)) f

pub binaries_done : (text : List ℕ) (depth : ℕ) (names : List ℕ → Bool) (m : MessageTrees) (ts rest : List Token) → AreBinary m (lexemes text ts) (lexemes text rest) → ((k : Stack) → Stands depth names k → run true (lexemes text ts) (unary_tail ∷ binary_tail ∷ k) ≡ run true (lexemes text rest) (binary_tail ∷ k)) → IsNotNext kind.Binary rest → AreSlices text rest → length rest ≤ length ts → Parsed text depth names (unary_tail ∷ binary_tail ∷ []) (AreBinary m) ts rest
binaries_done text depth names m ts rest g s n w q = record { read = g; same = λ k f. s k f ∙ no_binary text rest k n; slices = w; shorter = q }
