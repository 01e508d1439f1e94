-- An expression's tokens are all taken.
use Rattle.std.proofs.Common.{◌≡◌, ℕ, zero, suc, ◌≤◌, List, [], ◌∷◌, ◌++◌, Bool, true, false, refl, ap, sym, ◌∙◌, append_assoc, arith, ◌⊎◌, inl, inr}
use Rattle.s80_lex.specs.declared.token.TokenKind.{TokenKind}
use Rattle.s80_lex.specs.declared.token.TokenKind.TheVariants as kind
use Rattle.s80_tree.specs.Tree.{PrimaryTree, ExprTrees, MessageTrees, name, literal, block, paren, no_exprs, exprs, no_messages, messages}
use Rattle.s80_syntax.specs.Lexeme.{Lexeme, Lexemes}
use Rattle.s80_syntax.specs.Grammar.{IsMark, IsNone, IsCascadeOf, IsPrimary, IsChain, IsMessage, IsCascade}
use Rattle.s80_syntax.specs.Word.{is_minus}
use Rattle.s80_syntax.specs.Stack.{Symbol, Stack, Pushes, Pops, Refuses, run, takes, above, tails, level, assigns, primary_takes, expr_takes, body_takes, message_takes, name_takes, assign_takes, binary_takes, keyword_takes, paren_takes, bracket_takes, body, after_statement, expr_start, after_name, first_message, primary, unary_tail, binary_tail, keyword_tail, cascade, close_paren, close_bracket}
use Rattle.s80_syntax.proofs.Moves.{pushes, pops, stands_above, IsTaken}
use Rattle.s80_syntax.proofs.Quiet.{Closes, Quiet, quiet_at, quiet_append, quiet_less, quiet_chain, quiet_cascade, quiet_first, IsFirst, is_first, is_name}
use Rattle.s80_syntax.proofs.Begins.{Begins, NamelessStart, Operand, IsNameless, nameless_begins}
use Rattle.s80_syntax.proofs.TakenLiterals.{at}

-- so many brackets are open, and these names may be assigned
abbrev pub At : ℕ → (List ℕ → Bool) → Stack → Type 0
At depth names k = (level k ≡ depth) × (assigns k ≡ names)

-- what is left to come in a chain of messages up to this kind
abbrev pub chain_tails : ℕ → Stack → Stack
chain_tails zero k = unary_tail ∷ k
chain_tails (suc zero) k = unary_tail ∷ binary_tail ∷ k
chain_tails (suc (suc n)) k = unary_tail ∷ binary_tail ∷ keyword_tail ∷ k

pub at_chain : (high : ℕ) (depth : ℕ) (names : List ℕ → Bool) (k : Stack) → At depth names k → At depth names (chain_tails high k)
at_chain zero depth names k e = e
at_chain (suc zero) depth names k e = e
at_chain (suc (suc n)) depth names k e = e

pub unary_token : (strict : Bool) (l : Lexeme) (ts : Lexemes) (k : Stack) → l.kind ≡ kind.Name → run strict (l ∷ ts) (unary_tail ∷ k) ≡ run strict ts (unary_tail ∷ k)
unary_token strict l ts k e = pushes strict l ts unary_tail k (unary_tail ∷ []) (ap (λ x. name_takes x (unary_tail ∷ []) Pops) e)

-- a unary tail lets other tokens pass
pub unary_binary : (strict : Bool) (l : Lexeme) (ts : Lexemes) (k : Stack) → l.kind ≡ kind.Binary → run strict (l ∷ ts) (unary_tail ∷ binary_tail ∷ k) ≡ run strict ts (primary ∷ unary_tail ∷ binary_tail ∷ k)
unary_binary strict l ts k e =
    pops strict l ts unary_tail (binary_tail ∷ k) (ap (λ x. name_takes x (unary_tail ∷ []) Pops) e)
    ∙ pushes strict l ts binary_tail k (primary ∷ unary_tail ∷ binary_tail ∷ []) (ap binary_takes e)

pub keyword_token : (strict : Bool) (l : Lexeme) (ts : Lexemes) (k : Stack) → l.kind ≡ kind.Keyword → run strict (l ∷ ts) (unary_tail ∷ binary_tail ∷ keyword_tail ∷ k) ≡ run strict ts (primary ∷ unary_tail ∷ binary_tail ∷ keyword_tail ∷ k)
keyword_token strict l ts k e =
    pops strict l ts unary_tail (binary_tail ∷ keyword_tail ∷ k) (ap (λ x. name_takes x (unary_tail ∷ []) Pops) e)
    ∙ pops strict l ts binary_tail (keyword_tail ∷ k) (ap binary_takes e)
    ∙ pushes strict l ts keyword_tail k (primary ∷ unary_tail ∷ binary_tail ∷ keyword_tail ∷ []) (ap (λ x. keyword_takes x (primary ∷ unary_tail ∷ binary_tail ∷ keyword_tail ∷ []) Pops) e)

pub unary_chain : (strict : Bool) (high : ℕ) (l : Lexeme) (ts : Lexemes) (k : Stack) → l.kind ≡ kind.Name → run strict (l ∷ ts) (chain_tails high k) ≡ run strict ts (chain_tails high k)
unary_chain strict zero l ts k e = unary_token strict l ts k e
unary_chain strict (suc zero) l ts k e = unary_token strict l ts (binary_tail ∷ k) e
unary_chain strict (suc (suc n)) l ts k e = unary_token strict l ts (binary_tail ∷ keyword_tail ∷ k) e

pub binary_chain : (strict : Bool) (high : ℕ) → 1 ≤ high → (l : Lexeme) (ts : Lexemes) (k : Stack) → l.kind ≡ kind.Binary → run strict (l ∷ ts) (chain_tails high k) ≡ run strict ts (primary ∷ chain_tails high k)
binary_chain strict zero h l ts k e = absurd (omega arith)
binary_chain strict (suc zero) h l ts k e = unary_binary strict l ts k e
binary_chain strict (suc (suc n)) h l ts k e = unary_binary strict l ts (keyword_tail ∷ k) e

pub keyword_chain : (strict : Bool) (high : ℕ) → 2 ≤ high → (l : Lexeme) (ts : Lexemes) (k : Stack) → l.kind ≡ kind.Keyword → run strict (l ∷ ts) (chain_tails high k) ≡ run strict ts (primary ∷ chain_tails high k)
keyword_chain strict zero h l ts k e = absurd (omega arith)
keyword_chain strict (suc zero) h l ts k e = absurd (omega arith)
keyword_chain strict (suc (suc n)) h l ts k e = keyword_token strict l ts k e

-- the tails of a binary argument stand within those of the chain
pub record Within (high low : ℕ) (depth : ℕ) (names : List ℕ → Bool) (k : Stack) : Type 0 where
  pub below : Stack
  pub same : chain_tails high k ≡ chain_tails low below
  pub stands : At depth names below

pub within_binary : (high : ℕ) → 1 ≤ high → (depth : ℕ) (names : List ℕ → Bool) (k : Stack) → At depth names k → Within high 0 depth names k
within_binary zero h depth names k e = absurd (omega arith)
within_binary (suc zero) h depth names k e = record { below = binary_tail ∷ k; same = refl; stands = e }
within_binary (suc (suc n)) h depth names k e = record { below = binary_tail ∷ keyword_tail ∷ k; same = refl; stands = e }

pub within_keyword : (high : ℕ) → 2 ≤ high → (k : Stack) → chain_tails high k ≡ chain_tails 1 (keyword_tail ∷ k)
within_keyword zero h k = absurd (omega arith)
within_keyword (suc zero) h k = absurd (omega arith)
within_keyword (suc (suc n)) h k = refl

-- what a tree's tokens leave on the stack
abbrev pub Leaves : Bool → ℕ → Symbol → ℕ → (List ℕ → Bool) → Lexemes → Lexemes → Type 0
Leaves strict n a depth names ts rest = (s : Stack) × Quiet n s × ((k : Stack) → At depth names k → run strict ts (a ∷ k) ≡ run strict rest (s ++ k))

-- where an operand begins, a body is an expression and what follows a statement
body_above : (k : TokenKind) (b : Bool) (l : Lexeme) → Operand k b → body_takes k b l ≡ above (expr_takes k b l [] Refuses) (after_statement ∷ [])
body_above kind.Name b l o = refl
body_above kind.Number b l o = refl
body_above kind.Character b l o = refl
body_above kind.Str b l o = refl
body_above kind.Symbol b l o = refl
body_above kind.Binary true l o = refl
body_above kind.Binary false l o = cc
body_above kind.ArrayStart b l o = refl
body_above kind.OpenParen b l o = refl
body_above kind.OpenBracket b l o = refl
body_above _ b l o = absurd o

expr_operand : (k : TokenKind) (b : Bool) (l : Lexeme) → Operand k b → IsTaken (expr_takes k b l [] Refuses)
expr_operand kind.Name b l o = tt
expr_operand kind.Number b l o = tt
expr_operand kind.Character b l o = tt
expr_operand kind.Str b l o = tt
expr_operand kind.Symbol b l o = tt
expr_operand kind.Binary true l o = tt
expr_operand kind.Binary false l o = absurd (false_true o)
  where
    false_true : false ≡ true → ⊥
    false_true e = cc
expr_operand kind.ArrayStart b l o = tt
expr_operand kind.OpenParen b l o = tt
expr_operand kind.OpenBracket b l o = tt
expr_operand _ b l o = absurd o

pub body_is_expr : (strict : Bool) (ts : Lexemes) → Begins Operand ts → (k : Stack) → run strict ts (body ∷ k) ≡ run strict ts (expr_start ∷ after_statement ∷ k)
body_is_expr strict ts (l, us, e, o) k =
    at strict (body ∷ k) ts (l ∷ us) e
    ∙ stands_above strict l us body expr_start (after_statement ∷ []) k (body_above l.kind (is_minus l) l o) (expr_operand l.kind (is_minus l) l o) refl
    ∙ sym (at strict (expr_start ∷ after_statement ∷ k) ts (l ∷ us) e)

-- where no name begins it, an expression is an operand and its first message
nameless_above : (k : TokenKind) (b : Bool) (l : Lexeme) → NamelessStart k b → expr_takes k b l [] Refuses ≡ above (primary_takes k b [] Refuses) (first_message ∷ [])
nameless_above kind.Number b l o = refl
nameless_above kind.Character b l o = refl
nameless_above kind.Str b l o = refl
nameless_above kind.Symbol b l o = refl
nameless_above kind.Binary true l o = refl
nameless_above kind.Binary false l o = cc
nameless_above kind.ArrayStart b l o = refl
nameless_above kind.OpenParen b l o = refl
nameless_above kind.OpenBracket b l o = refl
nameless_above _ b l o = absurd o

primary_operand : (k : TokenKind) (b : Bool) → NamelessStart k b → IsTaken (primary_takes k b [] Refuses)
primary_operand kind.Number b o = tt
primary_operand kind.Character b o = tt
primary_operand kind.Str b o = tt
primary_operand kind.Symbol b o = tt
primary_operand kind.Binary true o = tt
primary_operand kind.Binary false o = absurd (false_true o)
  where
    false_true : false ≡ true → ⊥
    false_true e = cc
primary_operand kind.ArrayStart b o = tt
primary_operand kind.OpenParen b o = tt
primary_operand kind.OpenBracket b o = tt
primary_operand _ b o = absurd o

nameless_first : (strict : Bool) (ts : Lexemes) → Begins NamelessStart ts → (k : Stack) → run strict ts (expr_start ∷ k) ≡ run strict ts (primary ∷ first_message ∷ k)
nameless_first strict ts (l, us, e, o) k =
    at strict (expr_start ∷ k) ts (l ∷ us) e
    ∙ stands_above strict l us expr_start primary (first_message ∷ []) k (nameless_above l.kind (is_minus l) l o) (primary_operand l.kind (is_minus l) o) refl
    ∙ sym (at strict (primary ∷ first_message ∷ k) ts (l ∷ us) e)

-- the first operand of an expression leaves a symbol that takes a first message
abbrev pub Starts : Bool → ℕ → (List ℕ → Bool) → Lexemes → Lexemes → Type 0
Starts strict depth names ts rest = (f : Symbol) × IsFirst f × ((k : Stack) → At depth names k → run strict ts (expr_start ∷ k) ≡ run strict rest (f ∷ k))

abbrev pub Taken : Bool → Symbol → ℕ → (List ℕ → Bool) → Lexemes → Lexemes → Type 0
Taken strict a depth names ts rest = (k : Stack) → At depth names k → run strict ts (a ∷ k) ≡ run strict rest k

nameless_taken : (strict : Bool) (p : PrimaryTree) (ts rest : Lexemes) (depth : ℕ) (names : List ℕ → Bool) → IsNameless p → IsPrimary p ts rest → Taken strict primary depth names ts rest → Starts strict depth names ts rest
nameless_taken strict p ts rest depth names i h g = (first_message, is_first, λ k e. nameless_first strict ts (nameless_begins p ts rest i h) k ∙ g (first_message ∷ k) e)

pub first_taken : (strict : Bool) (p : PrimaryTree) (ts rest : Lexemes) (depth : ℕ) (names : List ℕ → Bool) → IsPrimary p ts rest → Taken strict primary depth names ts rest → Starts strict depth names ts rest
first_taken strict (name n) ts rest depth names h g =
    (after_name h.0, is_name h.0, λ k e. at strict (expr_start ∷ k) ts (h.0 ∷ rest) h.1.0 ∙ pushes strict h.0 rest expr_start k (after_name h.0 ∷ []) (ap (λ x. expr_takes x (is_minus h.0) h.0 [] Refuses) h.1.1))
first_taken strict (literal v) ts rest depth names h g = nameless_taken strict (literal v) ts rest depth names tt h g
first_taken strict (paren e) ts rest depth names h g = nameless_taken strict (paren e) ts rest depth names tt h g
first_taken strict (block ps ss) ts rest depth names h g = nameless_taken strict (block ps ss) ts rest depth names tt h g

-- the first message and those behind it, up to a cascade
first_row : (f : Symbol) → IsFirst f → (l : Lexeme) (p : Stack) (kd : TokenKind) → l.kind ≡ kd → message_takes kd ≡ Pushes p → ((n : Lexeme) → assign_takes kd n ≡ message_takes kd) → takes f l ≡ Pushes p
first_row _ is_first l p kd e m g = ap message_takes e ∙ m
first_row _ (is_name n) l p kd e m g = ap (λ x. assign_takes x n) e ∙ g n ∙ m

first_is_chain : (strict : Bool) (f : Symbol) → IsFirst f → (es : ExprTrees) (s : List ℕ) (low high next : ℕ) (ts rest : Lexemes) → IsMessage es s low high next ts rest → (k : Stack) → run strict ts (f ∷ k) ≡ run strict ts (chain_tails 2 (cascade ∷ k))
first_is_chain strict f i no_exprs s low high next ts rest h k =
    at strict (f ∷ k) ts (h.0 ∷ rest) h.1.0
    ∙ pushes strict h.0 rest f k tails (first_row f i h.0 tails kind.Name h.1.1 refl (λ n. refl))
    ∙ sym (unary_token strict h.0 rest (binary_tail ∷ keyword_tail ∷ cascade ∷ k) h.1.1)
    ∙ sym (at strict (chain_tails 2 (cascade ∷ k)) ts (h.0 ∷ rest) h.1.0)
first_is_chain strict f i (exprs e es) s low high next ts rest (inl h) k =
    at strict (f ∷ k) ts (h.0 ∷ h.1) h.2.0
    ∙ pushes strict h.0 h.1 f k (primary ∷ tails) (first_row f i h.0 (primary ∷ tails) kind.Binary h.2.1 refl (λ n. refl))
    ∙ sym (unary_binary strict h.0 h.1 (keyword_tail ∷ cascade ∷ k) h.2.1)
    ∙ sym (at strict (chain_tails 2 (cascade ∷ k)) ts (h.0 ∷ h.1) h.2.0)
first_is_chain strict f i (exprs e es) s low high next ts rest (inr h) k =
    at strict (f ∷ k) ts (h.0 ∷ h.1) h.4.0
    ∙ pushes strict h.0 h.1 f k (primary ∷ tails) (first_row f i h.0 (primary ∷ tails) kind.Keyword h.4.1 refl (λ n. refl))
    ∙ sym (keyword_token strict h.0 h.1 (cascade ∷ k) h.4.1)
    ∙ sym (at strict (chain_tails 2 (cascade ∷ k)) ts (h.0 ∷ h.1) h.4.0)

abbrev pub ChainTaken : Bool → ℕ → ℕ → (List ℕ → Bool) → Lexemes → Lexemes → Type 0
ChainTaken strict high depth names ts rest = (k : Stack) → At depth names k → run strict ts (chain_tails high k) ≡ run strict rest (chain_tails high k)

abbrev pub FirstChain : Bool → MessageTrees → Symbol → ℕ → (List ℕ → Bool) → Lexemes → Lexemes → Type 0
FirstChain strict m f depth names ts rest =
    ((ts ≡ rest) × IsNone m) ⊎ ((k : Stack) → At depth names k → run strict ts (f ∷ k) ≡ run strict rest (chain_tails 2 (cascade ∷ k)))

pub first_chain : (strict : Bool) (m : MessageTrees) (f : Symbol) → IsFirst f → (depth : ℕ) (names : List ℕ → Bool) (ts rest : Lexemes) → IsChain m 0 2 ts rest → ChainTaken strict 2 depth names ts rest → FirstChain strict m f depth names ts rest
first_chain strict no_messages f i depth names ts rest h g = inl (h, tt)
first_chain strict (messages s es m) f i depth names ts rest h g =
    inr (λ k e. first_is_chain strict f i es s 0 2 h.1 ts h.0 h.2 k ∙ g (cascade ∷ k) e)

-- what follows an expression's first operand
abbrev pub Cascades : Bool → ℕ → (List ℕ → Bool) → Lexemes → Lexemes → Type 0
Cascades strict depth names ts rest = (s : Stack) → Quiet 2 s → (t : Stack) × Quiet 2 t × ((k : Stack) → At depth names k → run strict ts (s ++ cascade ∷ k) ≡ run strict rest (t ++ cascade ∷ k))

pub expr_end : (strict : Bool) (m c : MessageTrees) (f : Symbol) → IsFirst f → (depth : ℕ) (names : List ℕ → Bool) (b d rest : Lexemes) → IsCascadeOf m c → IsCascade c d rest → Cascades strict depth names d rest → FirstChain strict m f depth names b d → Leaves strict 1 f depth names b rest
expr_end strict m no_messages f i depth names b d rest o h g (inl e) = (f ∷ [], quiet_less 1 2 (omega arith) (f ∷ []) (quiet_first f i), λ k w. at strict (f ∷ k) b rest (e.0 ∙ h))
expr_end strict m (messages s es c) f i depth names b d rest o h g (inl e) = absurd (o e.1)
expr_end strict m c f i depth names b d rest o h g (inr e) =
    let x = g (unary_tail ∷ binary_tail ∷ keyword_tail ∷ []) quiet_chain in
    (x.0 ++ cascade ∷ [], quiet_append 1 x.0 (cascade ∷ []) (quiet_less 1 2 (omega arith) x.0 x.1) quiet_cascade, λ k w. e k w ∙ x.2 k w ∙ ap (run strict rest) (sym (append_assoc x.0 (cascade ∷ []) k)))

-- a closing token behind what is quiet
pub close_paren_taken : (strict : Bool) (s : Stack) → Quiet 1 s → (ts rest : Lexemes) → IsMark kind.CloseParen ts rest → (k : Stack) → run strict ts (s ++ close_paren ∷ k) ≡ run strict rest k
close_paren_taken strict s q ts rest h k =
    at strict (s ++ close_paren ∷ k) ts (h.0 ∷ rest) h.1.0
    ∙ quiet_at strict 1 s q h.0 (closes_kind h.0 h.1.1) rest (close_paren ∷ k)
    ∙ pushes strict h.0 rest close_paren k [] (ap paren_takes h.1.1)
  where
    closes_kind : (l : Lexeme) → l.kind ≡ kind.CloseParen → Closes 1 l.kind
    closes_kind l e = rw e tt

pub close_bracket_taken : (strict : Bool) (s : Stack) → Quiet 0 s → (ts rest : Lexemes) → IsMark kind.CloseBracket ts rest → (k : Stack) → run strict ts (s ++ close_bracket ∷ k) ≡ run strict rest k
close_bracket_taken strict s q ts rest h k =
    at strict (s ++ close_bracket ∷ k) ts (h.0 ∷ rest) h.1.0
    ∙ quiet_at strict 0 s q h.0 (closes_kind h.0 h.1.1) rest (close_bracket ∷ k)
    ∙ pushes strict h.0 rest close_bracket k [] (ap bracket_takes h.1.1)
  where
    closes_kind : (l : Lexeme) → l.kind ≡ kind.CloseBracket → Closes 0 l.kind
    closes_kind l e = rw e tt
