-- Rows of the table read backwards: what a token pushes, behind that token, is what the symbol stands for.
use Rattle.std.proofs.Common.{subst, ◌≡◌, ℕ, ◌≤◌, List, [], ◌∷◌, ◌++◌, Bool, true, false, cond, refl, sym, append_assoc, arith, inl, inr}
use Rattle.std.specs.Prelude.{pos, neg_ℤ, nat_le, nat_lt, ◌^◌, codes}
use Rattle.std.specs.Str.{bytes_eq}
use Rattle.s80_lex.specs.declared.token.TokenKind.{TokenKind}
use Rattle.s80_lex.specs.declared.token.TokenKind.TheVariants as kind
use Rattle.s80_base.specs.declared.literal.NumberKind.TheVariants.{LargePositive, LargeNegative, Float}
use Rattle.s80_base.specs.Literal.{LiteralTree, array, literals, no_literals, symbol, number, small, true_literal, false_literal, nil_literal}
use Rattle.s80_tree.specs.Tree.{ExprTree, ExprTrees, MessageTrees, expr, name, literal, block, paren, no_exprs, exprs, no_messages, messages, no_stmts, stmts, messages_append}
use Rattle.s80_lex.specs.Number.{number_literal, whole_value, is_whole, signed, negative_literal, positive_literal}
use Rattle.s80_syntax.specs.Lexeme.{Lexeme, Lexemes}
use Rattle.s80_syntax.specs.Literals.{IsLiteralKind, token_literal, name_literal}
use Rattle.s80_syntax.specs.Grammar.{IsMark, IsCascadeOf, IsExpr, IsChain, AreParts}
use Rattle.s80_syntax.specs.Word.{is_minus}
use Rattle.s80_syntax.specs.Limits.{may_open, may_assign, IsLawfulLiteral, IsLawfulExpr, AreLawfulExprs, AreLawfulMessages}
use Rattle.s80_syntax.specs.Stack.{Symbol, Stack, Action, Pushes, Opens, Assigns, Pops, Refuses, level, assigns, above, primary_takes, expr_takes, body_takes, element_takes, joined_takes, number_takes, message_takes, cascade_takes, name_takes, assign_takes, binary_takes, keyword_takes, semicolon_takes, period_takes, paren_takes, bracket_takes, body, after_statement, after_return, expr_start, after_name, first_message, primary, unary_tail, binary_tail, keyword_tail, cascade, message, after_minus, elements, joined_keyword, close_paren, close_bracket}
use Rattle.s80_syntax.proofs.Means.{Means, MeansBody, Derives, name_of, is_name}

-- what an action says of the tokens before which it stands
abbrev pub Back : Bool → Symbol → Lexeme → Action → Type 0
Back strict a l (Pushes p) = (k : Stack) (us : Lexemes) → Derives strict (p ++ k) us → Derives strict (a ∷ k) (l ∷ us)
Back strict a l (Opens p) = (k : Stack) (us : Lexemes) → may_open strict (level k) ≡ true → Derives strict (p ++ k) us → Derives strict (a ∷ k) (l ∷ us)
Back strict a l (Assigns n) = (k : Stack) (us : Lexemes) → may_assign strict (assigns k) n.bytes ≡ true → Derives strict (expr_start ∷ k) us → Derives strict (a ∷ k) (l ∷ us)
Back strict a l Pops = (depth : ℕ) (names : List ℕ → Bool) (us : Lexemes) → Means strict a depth names us us
Back strict a l Refuses = Unit {0}

-- messages of each kind behind one another
chain_low : (m : MessageTrees) (high : ℕ) (ts rest : Lexemes) → IsChain m 1 high ts rest → IsChain m 0 high ts rest
chain_low no_messages high ts rest h = h
chain_low (messages s no_exprs m) high ts rest (a, next, h, g) = absurd (omega (arith, h.3))
chain_low (messages s (exprs e es) m) high ts rest (a, next, inl h, g) = (a, next, inl (h.0, h.1, h.2, h.3, omega arith, h.5, h.6, h.7, h.8), g)
chain_low (messages s (exprs e es) m) high ts rest (a, next, inr h, g) = (a, next, inr (h.0, h.1, h.2, h.3, h.4, h.5, omega arith, h.7, h.8, h.9, h.10), g)

-- binary messages, and then messages up to a kind
join_binary : (b m : MessageTrees) (high : ℕ) → 1 ≤ high → (ts a rest : Lexemes) → IsChain b 1 1 ts a → IsChain m 1 high a rest → IsChain (messages_append b m) 1 high ts rest
join_binary no_messages m high k ts a rest h g = subst (λ x. IsChain m 1 high x rest) (sym h) g
join_binary (messages s no_exprs b) m high k ts a rest (x, next, h, g) j = absurd (omega (arith, h.3))
join_binary (messages s (exprs e es) b) m high k ts a rest (x, next, inl h, g) j =
    (x, 1, inl (h.0, h.1, h.2, h.3, h.4, k, refl, h.7, h.8), join_binary b m high k x a rest (subst (λ n. IsChain b n 1 x a) h.6 g) j)
join_binary (messages s (exprs e es) b) m high k ts a rest (x, next, inr h, g) j = absurd (omega (arith, h.7))

-- unary messages, and then messages up to a kind
join_unary : (u m : MessageTrees) (high : ℕ) (ts a rest : Lexemes) → IsChain u 0 0 ts a → IsChain m 0 high a rest → IsChain (messages_append u m) 0 high ts rest
join_unary no_messages m high ts a rest h g = subst (λ x. IsChain m 0 high x rest) (sym h) g
join_unary (messages s no_exprs u) m high ts a rest (x, next, h, g) j =
    (x, 0, (h.0, h.1, h.2, h.3, refl), join_unary u m high x a rest (subst (λ n. IsChain u n 0 x a) h.4 g) j)
join_unary (messages s (exprs e es) u) m high ts a rest (x, next, inl h, g) j = absurd (omega (arith, h.5))
join_unary (messages s (exprs e es) u) m high ts a rest (x, next, inr h, g) j = absurd (omega (arith, h.7))

-- a keyword message, if there are keywords
abbrev pub keyword_message : ExprTrees → List ℕ → MessageTrees
keyword_message no_exprs s = no_messages
keyword_message (exprs e es) s = messages s (exprs e es) no_messages

is_keyword_message : (es : ExprTrees) (s : List ℕ) (ts rest : Lexemes) → AreParts es s ts rest → IsChain (keyword_message es s) 1 2 ts rest
is_keyword_message no_exprs s ts rest h = h.0
is_keyword_message (exprs e es) s ts rest h = (rest, 3, inr (h.0, h.1, h.2, h.3, h.4, h.5, omega arith, omega arith, refl, h.6, h.7), refl)

chain_binary : (b : MessageTrees) (es : ExprTrees) (s : List ℕ) (x y rest : Lexemes) → IsChain b 1 1 x y → AreParts es s y rest → IsChain (messages_append b (keyword_message es s)) 1 2 x rest
chain_binary b es s x y rest g k = join_binary b (keyword_message es s) 2 (omega arith) x y rest g (is_keyword_message es s y rest k)

chain_all : (u b : MessageTrees) (es : ExprTrees) (s : List ℕ) (ts x y rest : Lexemes) → IsChain u 0 0 ts x → IsChain b 1 1 x y → AreParts es s y rest → IsChain (messages_append u (messages_append b (keyword_message es s))) 0 2 ts rest
chain_all u b es s ts x y rest h g k =
    join_unary u (messages_append b (keyword_message es s)) 2 ts x rest h (chain_low (messages_append b (keyword_message es s)) 2 x rest (chain_binary b es s x y rest g k))

operand_both : (u b : MessageTrees) (ts x rest : Lexemes) → IsChain u 0 0 ts x → IsChain b 1 1 x rest → IsChain (messages_append u b) 0 1 ts rest
operand_both u b ts x rest h g = join_unary u b 1 ts x rest h (chain_low b 1 x rest g)

-- and they are lawful
lawful_both : (strict : Bool) (depth : ℕ) (names : List ℕ → Bool) (m n : MessageTrees) → AreLawfulMessages strict depth names m → AreLawfulMessages strict depth names n → AreLawfulMessages strict depth names (messages_append m n)
lawful_both strict depth names no_messages n w v = v
lawful_both strict depth names (messages s es m) n w v = (w.0, lawful_both strict depth names m n w.1 v)

lawful_keywords : (strict : Bool) (depth : ℕ) (names : List ℕ → Bool) (es : ExprTrees) (s : List ℕ) → AreLawfulExprs strict depth names es → AreLawfulMessages strict depth names (keyword_message es s)
lawful_keywords strict depth names no_exprs s w = tt
lawful_keywords strict depth names (exprs e es) s w = (w, tt)

lawful_rest : (strict : Bool) (depth : ℕ) (names : List ℕ → Bool) (b : MessageTrees) (es : ExprTrees) (s : List ℕ) → AreLawfulMessages strict depth names b → AreLawfulExprs strict depth names es → AreLawfulMessages strict depth names (messages_append b (keyword_message es s))
lawful_rest strict depth names b es s w v = lawful_both strict depth names b (keyword_message es s) w (lawful_keywords strict depth names es s v)

cascade_of_some : (s : List ℕ) (es : ExprTrees) (m c : MessageTrees) → IsCascadeOf (messages s es m) c
cascade_of_some s es m no_messages = tt
cascade_of_some s es m (messages t fs c) = λ x. x

-- literals of one token are no arrays
lawful_choice : (strict : Bool) (depth : ℕ) (b : Bool) (x y : LiteralTree) → IsLawfulLiteral strict depth x → IsLawfulLiteral strict depth y → IsLawfulLiteral strict depth (cond b x y)
lawful_choice strict depth true x y v w = v
lawful_choice strict depth false x y v w = w

lawful_number : (strict : Bool) (depth : ℕ) (negative : Bool) (bytes : List ℕ) → IsLawfulLiteral strict depth (number_literal negative bytes)
unfolding number_literal
lawful_number strict depth negative bytes =
    let n : ℕ = whole_value bytes in
    lawful_choice strict depth (is_whole bytes) (cond negative (negative_literal bytes) (positive_literal bytes)) (number Float (signed negative bytes))
    (lawful_choice strict depth negative (negative_literal bytes) (positive_literal bytes)
    (lawful_choice strict depth (nat_le n (2 ^ 30)) (small (neg_ℤ (pos n))) (number LargeNegative (45 ∷ bytes)) tt tt)
    (lawful_choice strict depth (nat_lt n (2 ^ 30)) (small (pos n)) (number LargePositive bytes) tt tt))
    tt

lawful_token : (strict : Bool) (depth : ℕ) (k : TokenKind) (bytes : List ℕ) → IsLawfulLiteral strict depth (token_literal k bytes)
lawful_token strict depth kind.Character bytes = tt
lawful_token strict depth kind.Str bytes = tt
lawful_token strict depth kind.Symbol bytes = tt
lawful_token strict depth _ bytes = lawful_number strict depth false bytes

lawful_name : (strict : Bool) (depth : ℕ) (bytes : List ℕ) → IsLawfulLiteral strict depth (name_literal bytes)
lawful_name strict depth bytes =
    let x : LiteralTree = cond (bytes_eq bytes (codes "nil")) nil_literal (symbol bytes) in
    let y : LiteralTree = cond (bytes_eq bytes (codes "false")) false_literal x in
    lawful_choice strict depth (bytes_eq bytes (codes "true")) true_literal y tt
    (lawful_choice strict depth (bytes_eq bytes (codes "false")) false_literal x tt
    (lawful_choice strict depth (bytes_eq bytes (codes "nil")) nil_literal (symbol bytes) tt tt))

pub back_unary : (strict : Bool) (l : Lexeme) (d : TokenKind) → l.kind ≡ d → Back strict unary_tail l (name_takes d (unary_tail ∷ []) Pops)
back_unary strict l kind.Name e = λ k us (rest, (m, h, w), g). (rest, (messages l.bytes no_exprs m, (us, 0, (l, (refl, e), refl, refl, refl), h), (tt, w)), g)
back_unary strict l _ e = λ depth names us. (no_messages, refl, tt)

pub back_binary : (strict : Bool) (l : Lexeme) (d : TokenKind) → l.kind ≡ d → Back strict binary_tail l (binary_takes d)
back_binary strict l kind.Binary e = λ k us (x, (p, hp, wp), (y, (m, hm, wm), (z, (b, hb, wb), g))).
    (z, (messages l.bytes (exprs (expr [] p m no_messages) no_exprs) b, (y, 1, inl (l, us, (refl, e), refl, omega arith, omega arith, refl, (x, refl, tt, hp, hm), tt), hb), (((tt, wp, wm, tt), tt), wb)), g)
back_binary strict l _ e = λ depth names us. (no_messages, refl, tt)

pub back_keyword : (strict : Bool) (l : Lexeme) (d : TokenKind) → l.kind ≡ d → Back strict keyword_tail l (keyword_takes d (primary ∷ unary_tail ∷ binary_tail ∷ keyword_tail ∷ []) Pops)
back_keyword strict l kind.Keyword e = λ k us (x, (p, hp, wp), (y, (m, hm, wm), (z, (b, hb, wb), (w, (es, s, hs, ws), g)))). (
  w,
  (
    exprs (expr [] p (messages_append m b) no_messages) es,
    l.bytes ++ s,
    (l, us, z, s, (refl, e), refl, (x, refl, tt, hp, operand_both m b x y z hm hb), hs),
    ((tt, wp, lawful_both strict (level k) (assigns k) m b wm wb, tt), ws),
  ),
  g,
)
back_keyword strict l _ e = λ depth names us. (no_exprs, [], (refl, refl), tt)

pub back_cascade : (strict : Bool) (l : Lexeme) (d : TokenKind) → l.kind ≡ d → Back strict cascade l (semicolon_takes d)
back_cascade strict l kind.Semicolon e = λ k us (x, (es, s, n, h, w), (y, (c, hc, wc), g)). (y, (messages s es c, (us, x, n, (l, (refl, e)), h, hc), (w, wc)), g)
back_cascade strict l _ e = λ depth names us. (no_messages, refl, tt)

pub back_message : (strict : Bool) (l : Lexeme) (d : TokenKind) → l.kind ≡ d → Back strict message l (cascade_takes d)
back_message strict l kind.Name e = λ k us g. (us, (no_exprs, l.bytes, 0, (l, (refl, e), refl, refl, refl), tt), g)
back_message strict l kind.Binary e = λ k us (x, (p, hp, wp), (y, (m, hm, wm), g)).
    (y, (exprs (expr [] p m no_messages) no_exprs, l.bytes, 1, inl (l, us, (refl, e), refl, omega arith, omega arith, refl, (x, refl, tt, hp, hm), tt), ((tt, wp, wm, tt), tt)), g)
back_message strict l kind.Keyword e = λ k us (x, (p, hp, wp), (y, (m, hm, wm), (z, (b, hb, wb), (w, (es, s, hs, ws), g)))). (
  w,
  (
    exprs (expr [] p (messages_append m b) no_messages) es,
    l.bytes ++ s,
    3,
    inr (l, us, z, s, (refl, e), refl, omega arith, omega arith, refl, (x, refl, tt, hp, operand_both m b x y z hm hb), hs),
    ((tt, wp, lawful_both strict (level k) (assigns k) m b wm wb, tt), ws),
  ),
  g,
)
back_message strict l _ e = tt

pub back_first : (strict : Bool) (l : Lexeme) (d : TokenKind) → l.kind ≡ d → Back strict first_message l (message_takes d)
back_first strict l kind.Name e = λ k us (x, (m, hm, wm), (y, (b, hb, wb), (z, (es, s, hs, ws), (w, (c, hc, wc), g)))).
    let n : MessageTrees = messages_append m (messages_append b (keyword_message es s)) in
    let v = lawful_both strict (level k) (assigns k) m (messages_append b (keyword_message es s)) wm (lawful_rest strict (level k) (assigns k) b es s wb ws) in
    (w, (messages l.bytes no_exprs n, c, z, (us, 0, (l, (refl, e), refl, refl, refl), chain_all m b es s us x y z hm hb hs), cascade_of_some l.bytes no_exprs n c, hc, (tt, v), wc), g)
back_first strict l kind.Binary e = λ k us (v, (p, hp, wp), (x, (m, hm, wm), (y, (b, hb, wb), (z, (es, s, hs, ws), (w, (c, hc, wc), g))))).
    let n : MessageTrees = messages_append b (keyword_message es s) in
    let a : ExprTrees = exprs (expr [] p m no_messages) no_exprs in (
      w,
      (
        messages l.bytes a n,
        c,
        z,
        (x, 1, inl (l, us, (refl, e), refl, omega arith, omega arith, refl, (v, refl, tt, hp, hm), tt), chain_binary b es s x y z hb hs),
        cascade_of_some l.bytes a n c,
        hc,
        (((tt, wp, wm, tt), tt), lawful_rest strict (level k) (assigns k) b es s wb ws),
        wc,
      ),
      g,
    )
back_first strict l kind.Keyword e = λ k us (v, (p, hp, wp), (x, (m, hm, wm), (y, (b, hb, wb), (z, (es, s, hs, ws), (w, (c, hc, wc), g))))).
    let a : ExprTrees = exprs (expr [] p (messages_append m b) no_messages) es in (
      w,
      (
        messages (l.bytes ++ s) a no_messages,
        c,
        z,
        (z, 3, inr (l, us, y, s, (refl, e), refl, omega arith, omega arith, refl, (v, refl, tt, hp, operand_both m b v x y hm hb), hs), refl),
        cascade_of_some (l.bytes ++ s) a no_messages c,
        hc,
        (((tt, wp, lawful_both strict (level k) (assigns k) m b wm wb, tt), ws), tt),
        wc,
      ),
      g,
    )
back_first strict l _ e = λ depth names us. (no_messages, no_messages, us, refl, tt, refl, tt, tt)

-- a name and what may follow it is an expression
first_name : (strict : Bool) (depth : ℕ) (names : List ℕ → Bool) (n : Lexeme) (ts rest : Lexemes) → Means strict first_message depth names ts rest → Means strict (after_name n) depth names ts rest
first_name strict depth names n ts rest (m, c, a, h, o, g, w, v) = λ e. (expr [] (name (name_of n)) m c, (n ∷ ts, ts, a, refl, is_name n ts e, h, o, g), (tt, tt, w, v))

add_target : (strict : Bool) (depth : ℕ) (names : List ℕ → Bool) (n : Lexeme) (l : Lexeme) (us rest : Lexemes) → n.kind ≡ kind.Name → l.kind ≡ kind.Assign → may_assign strict names n.bytes ≡ true → (e : ExprTree) → IsExpr e us rest → IsLawfulExpr strict depth names e → (f : ExprTree) × IsExpr f (n ∷ l ∷ us) rest × IsLawfulExpr strict depth names f
add_target strict depth names n l us rest i j o (expr t p m c) (x, y, z, ht, hp, hm, q, hc) w =
    (expr (name_of n ∷ t) p m c, (x, y, z, (l ∷ us, us, is_name n (l ∷ us) i, (l, (refl, j)), ht), hp, hm, q, hc), ((o, w.0), w.1, w.2, w.3))

-- an action that is no assignment
abbrev pub IsNoSign : Action → Type 0
IsNoSign (Assigns n) = ⊥
IsNoSign _ = Unit {0}

as_name : (strict : Bool) (n l : Lexeme) (x : Action) → IsNoSign x → Back strict first_message l x → Back strict (after_name n) l x
as_name strict n l (Pushes p) i h = λ k us d. let r = h k us d in (r.0, first_name strict (level k) (assigns k) n (l ∷ us) r.0 r.1, r.2)
as_name strict n l (Opens p) i h = λ k us o d. let r = h k us o d in (r.0, first_name strict (level k) (assigns k) n (l ∷ us) r.0 r.1, r.2)
as_name strict n l (Assigns m) i h = absurd i
as_name strict n l Pops i h = λ depth names us. first_name strict depth names n us us (h depth names us)
as_name strict n l Refuses i h = tt

message_no_sign : (d : TokenKind) → IsNoSign (message_takes d)
message_no_sign kind.Name = tt
message_no_sign kind.Binary = tt
message_no_sign kind.Keyword = tt
message_no_sign _ = tt

abbrev NotAssign : TokenKind → Type 0
NotAssign kind.Assign = ⊥
NotAssign _ = Unit {0}

assign_other : (d : TokenKind) (n : Lexeme) → NotAssign d → message_takes d ≡ assign_takes d n
assign_other kind.Assign n i = absurd i
assign_other _ n i = refl

pub back_name : (strict : Bool) (n l : Lexeme) (d : TokenKind) → l.kind ≡ d → Back strict (after_name n) l (assign_takes d n)
back_name strict n l kind.Assign e = λ k us o (rest, (x, h, w), g). (rest, λ i. add_target strict (level k) (assigns k) n l us rest i e o x h w, g)
back_name strict n l d e = subst (Back strict (after_name n) l) (assign_other d n tt) (as_name strict n l (message_takes d) (message_no_sign d) (back_first strict l d e))

-- a literal of one token
token_primary : (strict : Bool) (l : Lexeme) → IsLiteralKind l.kind → (depth : ℕ) (names : List ℕ → Bool) (us : Lexemes) → Means strict primary depth names (l ∷ us) us
token_primary strict l h depth names us = (literal (token_literal l.kind l.bytes), inl (l, refl, h, refl), lawful_token strict depth l.kind l.bytes)

literal_kind : (l : Lexeme) (d : TokenKind) → l.kind ≡ d → IsLiteralKind d → IsLiteralKind l.kind
literal_kind l d e h = subst IsLiteralKind (sym e) h

pub back_primary : (strict : Bool) (l : Lexeme) (d : TokenKind) (b : Bool) → l.kind ≡ d → is_minus l ≡ b → Back strict primary l (primary_takes d b [] Refuses)
back_primary strict l kind.Name b e f = λ k us g. (us, (name (name_of l), is_name l us e, tt), g)
back_primary strict l kind.Number b e f = λ k us g. (us, token_primary strict l (literal_kind l kind.Number e tt) (level k) (assigns k) us, g)
back_primary strict l kind.Character b e f = λ k us g. (us, token_primary strict l (literal_kind l kind.Character e tt) (level k) (assigns k) us, g)
back_primary strict l kind.Str b e f = λ k us g. (us, token_primary strict l (literal_kind l kind.Str e tt) (level k) (assigns k) us, g)
back_primary strict l kind.Symbol b e f = λ k us g. (us, token_primary strict l (literal_kind l kind.Symbol e tt) (level k) (assigns k) us, g)
back_primary strict l kind.Binary true e f = λ k us (x, (n, h), g). (x, (literal (number_literal true n.bytes), inr (inl (l, n, us, (refl, e), f, h, refl)), lawful_number strict (level k) true n.bytes), g)
back_primary strict l kind.ArrayStart b e f = λ k us o (x, (vs, h, w), (y, c, g)). (y, (literal (array vs), inr (inr (us, x, (l, (refl, e)), h, c)), (o, w)), g)
back_primary strict l kind.OpenParen b e f = λ k us o (x, (i, h, w), (y, c, g)). (y, (paren i, (us, x, (l, (refl, e)), h, c), (o, w)), g)
back_primary strict l kind.OpenBracket b e f = λ k us o (x, (ps, ss, i, j, hp, hb, hs, w), (y, c, g)). (y, (block ps ss, (us, i, j, x, (l, (refl, e)), hp, hb, hs, c), (o, w)), g)
back_primary strict l _ b e f = tt

starts_with : (strict : Bool) (depth : ℕ) (names : List ℕ → Bool) (ts a rest : Lexemes) → Means strict primary depth names ts a → Means strict first_message depth names a rest → Means strict expr_start depth names ts rest
starts_with strict depth names ts a rest (p, h, v) (m, c, x, hm, o, hc, w, u) = (expr [] p m c, (ts, a, x, refl, h, hm, o, hc), (tt, v, w, u))

-- where an operand is taken, an expression is that operand and what may follow it
back_starts : (strict : Bool) (l : Lexeme) (x : Action) → IsNoSign x → Back strict primary l x → Back strict expr_start l (above x (first_message ∷ []))
back_starts strict l (Pushes p) i h = λ k us d.
    let r = h (first_message ∷ k) us (subst (λ x. Derives strict x us) (append_assoc p (first_message ∷ []) k) d) in
    (r.2.0, starts_with strict (level k) (assigns k) (l ∷ us) r.0 r.2.0 r.1 r.2.1, r.2.2)
back_starts strict l (Opens p) i h = λ k us o d.
    let r = h (first_message ∷ k) us o (subst (λ x. Derives strict x us) (append_assoc p (first_message ∷ []) k) d) in
    (r.2.0, starts_with strict (level k) (assigns k) (l ∷ us) r.0 r.2.0 r.1 r.2.1, r.2.2)
back_starts strict l (Assigns n) i h = absurd i
back_starts strict l Pops i h = λ depth names us. starts_with strict depth names us us us (h depth names us) (no_messages, no_messages, us, refl, tt, refl, tt, tt)
back_starts strict l Refuses i h = tt

primary_no_sign : (d : TokenKind) (b : Bool) → IsNoSign (primary_takes d b [] Refuses)
primary_no_sign kind.Binary true = tt
primary_no_sign kind.Binary false = tt
primary_no_sign _ b = tt

abbrev NotName : TokenKind → Type 0
NotName kind.Name = ⊥
NotName _ = Unit {0}

expr_above : (d : TokenKind) (b : Bool) (l : Lexeme) → NotName d → above (primary_takes d b [] Refuses) (first_message ∷ []) ≡ expr_takes d b l [] Refuses
expr_above kind.Name b l i = absurd i
expr_above kind.Binary true l i = refl
expr_above kind.Binary false l i = refl
expr_above _ b l i = refl

pub back_expr : (strict : Bool) (l : Lexeme) (d : TokenKind) (b : Bool) → l.kind ≡ d → is_minus l ≡ b → Back strict expr_start l (expr_takes d b l [] Refuses)
back_expr strict l kind.Name b e f = λ k us (rest, h, g). (rest, h e, g)
back_expr strict l d b e f = subst (Back strict expr_start l) (expr_above d b l tt) (back_starts strict l (primary_takes d b [] Refuses) (primary_no_sign d b) (back_primary strict l d b e f))

stmts_false : (strict : Bool) (depth : ℕ) (names : List ℕ → Bool) (e : ExprTree) (x y a ts : Lexemes) → IsExpr e ts x → IsLawfulExpr strict depth names e → IsMark kind.Period x a → MeansBody strict depth names a y → MeansBody strict depth names ts y
stmts_false strict depth names e x y a ts h w p (no_stmts, b, v) = (stmts false e no_stmts, (ts, x, a, refl, h, inl p, b), (w, v))
stmts_false strict depth names e x y a ts h w p (stmts r f ss, b, v) = (stmts false e (stmts r f ss), (ts, x, a, refl, h, p, b), (w, v))

statement_first : (strict : Bool) (k : Stack) (ts : Lexemes) → Derives strict (expr_start ∷ after_statement ∷ k) ts → Derives strict (body ∷ k) ts
statement_first strict k ts (x, (e, h, w), (y, inl (a, p, b), g)) = (y, stmts_false strict (level k) (assigns k) e x y a ts h w p b, g)
statement_first strict k ts (x, (e, h, w), (y, inr q, g)) = (y, (stmts false e no_stmts, (ts, x, x, refl, h, inr refl, q), (w, tt)), g)

pub back_body : (strict : Bool) (l : Lexeme) (d : TokenKind) (b : Bool) → l.kind ≡ d → is_minus l ≡ b → Back strict body l (body_takes d b l)
back_body strict l kind.Caret b e f = λ k us (x, (i, h, w), (y, o, g)). (y, (stmts true i no_stmts, (us, x, y, (l, (refl, e)), h, o, refl), (w, tt)), g)
back_body strict l kind.Name b e f = λ k us d. statement_first strict k (l ∷ us) (back_expr strict l kind.Name b e f (after_statement ∷ k) us d)
back_body strict l kind.Number b e f = λ k us d. statement_first strict k (l ∷ us) (back_expr strict l kind.Number b e f (after_statement ∷ k) us d)
back_body strict l kind.Character b e f = λ k us d. statement_first strict k (l ∷ us) (back_expr strict l kind.Character b e f (after_statement ∷ k) us d)
back_body strict l kind.Str b e f = λ k us d. statement_first strict k (l ∷ us) (back_expr strict l kind.Str b e f (after_statement ∷ k) us d)
back_body strict l kind.Symbol b e f = λ k us d. statement_first strict k (l ∷ us) (back_expr strict l kind.Symbol b e f (after_statement ∷ k) us d)
back_body strict l kind.Binary true e f = λ k us d. statement_first strict k (l ∷ us) (back_expr strict l kind.Binary true e f (after_statement ∷ k) us d)
back_body strict l kind.ArrayStart b e f = λ k us o d. statement_first strict k (l ∷ us) (back_expr strict l kind.ArrayStart b e f (after_statement ∷ k) us o d)
back_body strict l kind.OpenParen b e f = λ k us o d. statement_first strict k (l ∷ us) (back_expr strict l kind.OpenParen b e f (after_statement ∷ k) us o d)
back_body strict l kind.OpenBracket b e f = λ k us o d. statement_first strict k (l ∷ us) (back_expr strict l kind.OpenBracket b e f (after_statement ∷ k) us o d)
back_body strict l _ b e f = λ depth names us. (no_stmts, refl, tt)

pub back_after : (strict : Bool) (l : Lexeme) (d : TokenKind) → l.kind ≡ d → Back strict after_statement l (period_takes d (body ∷ []))
back_after strict l kind.Period e = λ k us (x, h, g). (x, inl (us, (l, (refl, e)), h), g)
back_after strict l _ e = λ depth names us. inr refl

pub back_return : (strict : Bool) (l : Lexeme) (d : TokenKind) → l.kind ≡ d → Back strict after_return l (period_takes d [])
back_return strict l kind.Period e = λ k us g. (us, inl (l, (refl, e)), g)
back_return strict l _ e = λ depth names us. inr refl

pub back_paren : (strict : Bool) (l : Lexeme) (d : TokenKind) → l.kind ≡ d → Back strict close_paren l (paren_takes d)
back_paren strict l kind.CloseParen e = λ k us g. (us, (l, (refl, e)), g)
back_paren strict l _ e = tt

pub back_bracket : (strict : Bool) (l : Lexeme) (d : TokenKind) → l.kind ≡ d → Back strict close_bracket l (bracket_takes d)
back_bracket strict l kind.CloseBracket e = λ k us g. (us, (l, (refl, e)), g)
back_bracket strict l _ e = tt

pub back_minus : (strict : Bool) (l : Lexeme) (d : TokenKind) → l.kind ≡ d → Back strict after_minus l (number_takes d true)
back_minus strict l kind.Number e = λ k us g. (us, (l, (refl, e)), g)
back_minus strict l _ e = tt

pub back_joined : (strict : Bool) (l : Lexeme) (d : TokenKind) (j : Bool) → l.kind ≡ d → l.joined ≡ j → Back strict joined_keyword l (joined_takes d j)
back_joined strict l kind.Keyword true e i = λ k us (x, (word, h), g). (x, (l.bytes ++ word, (e, inr (word, i, refl, h))), g)
back_joined strict l kind.Keyword false e i = λ k us g. (us, (l.bytes, (e, inl (i, refl, refl))), g)
back_joined strict l _ j e i = tt

token_element : (strict : Bool) (l : Lexeme) → IsLiteralKind l.kind → (k : Stack) (us : Lexemes) → Derives strict (elements ∷ k) us → Derives strict (elements ∷ k) (l ∷ us)
token_element strict l h k us (x, (vs, hv, w), g) = (x, (literals (token_literal l.kind l.bytes) vs, (us, inl (l, refl, h, refl), hv), (lawful_token strict (level k) l.kind l.bytes, w)), g)

pub back_element : (strict : Bool) (l : Lexeme) (d : TokenKind) (b j : Bool) → l.kind ≡ d → is_minus l ≡ b → l.joined ≡ j → Back strict elements l (element_takes d b j)
back_element strict l kind.Number b j e f i = token_element strict l (literal_kind l kind.Number e tt)
back_element strict l kind.Character b j e f i = token_element strict l (literal_kind l kind.Character e tt)
back_element strict l kind.Str b j e f i = token_element strict l (literal_kind l kind.Str e tt)
back_element strict l kind.Symbol b j e f i = token_element strict l (literal_kind l kind.Symbol e tt)
back_element strict l kind.Name b j e f i = λ k us (x, (vs, hv, w), g).
    (x, (literals (name_literal l.bytes) vs, (us, inr (inr (inl (inl (l, (refl, e), refl)))), hv), (lawful_name strict (level k) l.bytes, w)), g)
back_element strict l kind.Binary true j e f i = λ k us (x, (n, h), (y, (vs, hv, w), g)).
    (y, (literals (number_literal true n.bytes) vs, (x, inr (inl (l, n, us, (refl, e), f, h, refl)), hv), (lawful_number strict (level k) true n.bytes, w)), g)
back_element strict l kind.Binary false j e f i = λ k us (x, (vs, hv, w), g).
    (x, (literals (symbol l.bytes) vs, (us, inr (inr (inl (inr (inl (l, (refl, e), f, refl))))), hv), (tt, w)), g)
back_element strict l kind.Keyword b true e f i = λ k us (x, (word, h), (y, (vs, hv, w), g)).
    (y, (literals (symbol (l.bytes ++ word)) vs, (x, inr (inr (inl (inr (inr (l.bytes ++ word, (e, inr (word, i, refl, h)), refl))))), hv), (tt, w)), g)
back_element strict l kind.Keyword b false e f i = λ k us (x, (vs, hv, w), g).
    (x, (literals (symbol l.bytes) vs, (us, inr (inr (inl (inr (inr (l.bytes, (e, inl (i, refl, refl)), refl))))), hv), (tt, w)), g)
back_element strict l kind.ArrayStart b j e f i = λ k us o (x, (vs, hv, w), (y, c, (z, (more, hm, v), g))).
    (z, (literals (array vs) more, (y, inr (inr (inr (us, x, inl (l, (refl, e)), hv, c))), hm), ((o, w), v)), g)
back_element strict l kind.OpenParen b j e f i = λ k us o (x, (vs, hv, w), (y, c, (z, (more, hm, v), g))).
    (z, (literals (array vs) more, (y, inr (inr (inr (us, x, inr (l, (refl, e)), hv, c))), hm), ((o, w), v)), g)
back_element strict l _ b j e f i = λ depth names us. (no_literals, refl, tt)
