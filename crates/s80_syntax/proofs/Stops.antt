-- The tokens before which the parts of an expression are over.
use Rattle.std.proofs.Common.{subst, ◌≡◌, ℕ, ◌≤◌, List, [], ◌∷◌, Bool, true, false, refl, ap, sym, ◌∙◌, arith, inl, inr}
use Rattle.s80_lex.specs.declared.token.TokenKind.{TokenKind}
use Rattle.s80_lex.specs.declared.token.TokenKind.TheVariants as kind
use Rattle.s80_tree.specs.declared.name.NameAt.{NameAt}
use Rattle.s80_tree.specs.Tree.{ExprTree, PrimaryTree, ExprTrees, MessageTrees, BodyTree, name, literal, block, paren, no_exprs, exprs, no_messages, messages, no_stmts, stmts}
use Rattle.s80_syntax.specs.Lexeme.{Lexeme, Lexemes}
use Rattle.s80_syntax.specs.Grammar.{Takes, IsMark, IsNone, IsEmpty, IsBetween, IsCaret, IsExpr, IsPrimary, IsChain, IsMessage, AreParts, IsCascade, IsBody, IsTargets}
use Rattle.s80_syntax.specs.Word.{is_minus}
use Rattle.s80_syntax.proofs.Begins.{Begins, Operand, NamelessStart, StatementStart, nameless_begins, expr_begins, stmt_begins}
use Rattle.s80_syntax.proofs.UniqueLiterals.{front_is, mark_both, name_both}

-- tokens before which a chain of messages up to this kind is over; at 3 also a cascade and an assignment
abbrev pub Stop : ℕ → TokenKind → Type 0
Stop high kind.Name = ⊥
Stop high kind.Assign = ⊥
Stop high kind.Binary = high ≡ 0
Stop high kind.Keyword = high ≤ 1
Stop high kind.Semicolon = high ≤ 2
Stop high _ = Unit {0}

abbrev pub Stops : ℕ → Lexemes → Type 0
Stops high [] = Unit {0}
Stops high (l ∷ ts) = Stop high l.kind

stop_less : (m n : ℕ) → m ≤ n → (k : TokenKind) → Stop n k → Stop m k
stop_less m n h kind.Name s = s
stop_less m n h kind.Assign s = s
stop_less m n h kind.Binary s = omega arith
stop_less m n h kind.Keyword s = omega arith
stop_less m n h kind.Semicolon s = omega arith
stop_less m n h _ s = tt

pub stops_less : (m n : ℕ) → m ≤ n → (ts : Lexemes) → Stops n ts → Stops m ts
stops_less m n h [] s = tt
stops_less m n h (l ∷ ts) s = stop_less m n h l.kind s

-- a token of a kind at the front
pub stops_at : (high : ℕ) (k : TokenKind) → Stop high k → (l : Lexeme) (ts a : Lexemes) → Takes k l ts a → Stops high ts
stops_at high k s l ts a h = subst (Stops high) (sym h.0) (subst (Stop high) (sym h.1) s)

pub stops_kind : (high : ℕ) (k : TokenKind) (l : Lexeme) (ts a : Lexemes) → Takes k l ts a → Stops high ts → Stop high k
stops_kind high k l ts a h s = subst (Stop high) h.1 (subst (Stops high) h.0 s)

pub stops_same : (high : ℕ) (ts us : Lexemes) → ts ≡ us → Stops high us → Stops high ts
stops_same high ts us e s = subst (Stops high) (sym e) s

chain_stops : (m : MessageTrees) (low high : ℕ) → 1 ≤ low → (ts rest : Lexemes) → IsChain m low high ts rest → Stops high rest → Stops 0 ts
chain_stops no_messages low high n ts rest h s = stops_same 0 ts rest h (stops_less 0 high (omega arith) rest s)
chain_stops (messages s no_exprs m) low high n ts rest (a, next, h, g) t = absurd (omega (arith, h.3))
chain_stops (messages s (exprs e es) m) low high n ts rest (a, next, inl h, g) t = stops_at 0 kind.Binary refl h.0 ts h.1 h.2
chain_stops (messages s (exprs e es) m) low high n ts rest (a, next, inr h, g) t = stops_at 0 kind.Keyword (omega arith) h.0 ts h.1 h.4

pub parts_stop : (es : ExprTrees) (s : List ℕ) (ts rest : Lexemes) → AreParts es s ts rest → Stops 2 rest → Stops 1 ts
parts_stop no_exprs s ts rest h t = stops_same 1 ts rest h.0 (stops_less 1 2 (omega arith) rest t)
parts_stop (exprs e es) s ts rest h t = stops_at 1 kind.Keyword (omega arith) h.0 ts h.1 h.4

pub cascade_stops : (c : MessageTrees) (ts rest : Lexemes) → IsCascade c ts rest → Stops 3 rest → Stops 2 ts
cascade_stops no_messages ts rest h t = stops_same 2 ts rest h (stops_less 2 3 (omega arith) rest t)
cascade_stops (messages s es c) ts rest h t = stops_at 2 kind.Semicolon (omega arith) h.3.0 ts h.0 h.3.1

-- no chain is left after a keyword message
chain_over : (m : MessageTrees) (high : ℕ) (ts rest : Lexemes) → IsChain m 3 high ts rest → (m ≡ no_messages) × (ts ≡ rest)
chain_over no_messages high ts rest h = (refl, h)
chain_over (messages s no_exprs m) high ts rest (a, next, h, g) = absurd (omega (arith, h.3))
chain_over (messages s (exprs e es) m) high ts rest (a, next, inl h, g) = absurd (omega (arith, h.4))
chain_over (messages s (exprs e es) m) high ts rest (a, next, inr h, g) = absurd (omega (arith, h.6))

pub empty_is : (es : ExprTrees) → IsEmpty es → es ≡ no_exprs
empty_is no_exprs h = refl
empty_is (exprs e es) h = absurd h

pub none_is : (m : MessageTrees) → IsNone m → m ≡ no_messages
none_is no_messages h = refl
none_is (messages s es m) h = absurd h

-- what a message is followed by, by its kind
abbrev pub Followed : ℕ → Lexemes → Type 0
Followed next rest = (next ≡ 1 → Stops 0 rest) × (next ≡ 3 → Stops 2 rest)

pub chain_follows : (m : MessageTrees) (next high : ℕ) (ts rest : Lexemes) → (next ≡ 3 → 2 ≤ high) → IsChain m next high ts rest → Stops high rest → Followed next ts
chain_follows m next high ts rest n h s = (
  λ e. chain_stops m next high (omega arith) ts rest h s,
  λ e. let k = n e in let o = chain_over m high ts rest (subst (λ x. IsChain m x high ts rest) e h) in stops_same 2 ts rest o.1 (stops_less 2 high (omega arith) rest s),
)

pub message_high : (es : ExprTrees) (s : List ℕ) (low high next : ℕ) (ts rest : Lexemes) → IsMessage es s low high next ts rest → next ≡ 3 → 2 ≤ high
message_high no_exprs s low high next ts rest h e = absurd (let x = h.4 in omega arith)
message_high (exprs f es) s low high next ts rest (inl h) e = absurd (let x = h.6 in omega arith)
message_high (exprs f es) s low high next ts rest (inr h) e = h.7

pub begins_not : (es : ExprTrees) (x : List ℕ) (low high next : ℕ) (ts rest : Lexemes) → IsMessage es x low high next ts rest → Stops high ts → ⊥
begins_not no_exprs x low high next ts rest h s = stops_kind high kind.Name h.0 ts rest h.1 s
begins_not (exprs e es) x low high next ts rest (inl h) s = let z = stops_kind high kind.Binary h.0 ts h.1 h.2 s in let w = h.5 in omega arith
begins_not (exprs e es) x low high next ts rest (inr h) s = let z = stops_kind high kind.Keyword h.0 ts h.1 h.4 s in let w = h.7 in omega arith

-- no assigned name comes next
abbrev pub NoTarget : Lexemes → Type 0
NoTarget ts = (l m : Lexeme) (us : Lexemes) → ts ≡ l ∷ m ∷ us → l.kind ≡ kind.Name → m.kind ≡ kind.Assign → ⊥

pub same_targets : (ns ms : List NameAt) (ts us a b : Lexemes) → ts ≡ us → IsTargets ns ts a → IsTargets ms us b → NoTarget a → NoTarget b → (ns ≡ ms) × (a ≡ b)
same_targets [] [] ts us a b e h g s t = (refl, sym h ∙ e ∙ g)
same_targets [] (m ∷ ms) ts us a b e h g s t = absurd (s g.2.0 g.3.0 g.1 (sym h ∙ e ∙ g.2.1.0 ∙ ap (λ x. g.2.0 ∷ x) g.3.1.0) g.2.1.1 g.3.1.1)
same_targets (n ∷ ns) [] ts us a b e h g s t = absurd (t h.2.0 h.3.0 h.1 (sym g ∙ sym e ∙ h.2.1.0 ∙ ap (λ x. h.2.0 ∷ x) h.3.1.0) h.2.1.1 h.3.1.1)
same_targets (n ∷ ns) (m ∷ ms) ts us a b e h g s t =
    let r = name_both n m ts us h.0 g.0 e h.2 g.2 in
    let q = same_targets ns ms h.1 g.1 a b (mark_both kind.Assign h.0 g.0 h.1 g.1 r.1 h.3 g.3) h.4 g.4 s t in
    (ap (λ x. x ∷ ns) r.0 ∙ ap (λ x. m ∷ x) q.0, q.1)

abbrev pub NoAssign : Lexemes → Type 0
NoAssign [] = Unit {0}
NoAssign (l ∷ ts) = l.kind ≡ kind.Assign → ⊥

no_assign_at : (k : TokenKind) → (k ≡ kind.Assign → ⊥) → (l : Lexeme) (ts a : Lexemes) → Takes k l ts a → NoAssign ts
no_assign_at k n l ts a h = subst NoAssign (sym h.0) (λ e. n (sym h.1 ∙ e))

no_assign_stops : (ts : Lexemes) → Stops 2 ts → NoAssign ts
no_assign_stops [] s = tt
no_assign_stops (l ∷ ts) s = λ e. subst (Stop 2) e s

pub chain_no_assign : (m : MessageTrees) (ts rest : Lexemes) → IsChain m 0 2 ts rest → Stops 2 rest → NoAssign ts
chain_no_assign no_messages ts rest h s = subst NoAssign (sym h) (no_assign_stops rest s)
chain_no_assign (messages x no_exprs m) ts rest (a, next, h, g) s = no_assign_at kind.Name (λ e. cc) h.0 ts a h.1
chain_no_assign (messages x (exprs e es) m) ts rest (a, next, inl h, g) s = no_assign_at kind.Binary (λ e. cc) h.0 ts h.1 h.2
chain_no_assign (messages x (exprs e es) m) ts rest (a, next, inr h, g) s = no_assign_at kind.Keyword (λ e. cc) h.0 ts h.1 h.4

nameless_no_target : (ts : Lexemes) → Begins NamelessStart ts → NoTarget ts
nameless_no_target ts (x, xs, e, o) = λ l m us i j k. subst (λ z. NamelessStart z (is_minus x)) (ap (λ z. z.kind) (front_is x l xs (m ∷ us) (sym e ∙ i)).0 ∙ j) o

pub no_target : (p : PrimaryTree) (ts a : Lexemes) → IsPrimary p ts a → NoAssign a → NoTarget ts
no_target (name n) ts a h s = λ l m us e i j. subst NoAssign (front_is h.0 l a (m ∷ us) (sym h.1.0 ∙ e)).1 s j
no_target (literal v) ts a h s = nameless_no_target ts (nameless_begins (literal v) ts a tt h)
no_target (paren f) ts a h s = nameless_no_target ts (nameless_begins (paren f) ts a tt h)
no_target (block ps ss) ts a h s = nameless_no_target ts (nameless_begins (block ps ss) ts a tt h)

-- what ends a body: a bracket, or the text's end
abbrev pub BodyEnd : Lexemes → Type 0
BodyEnd [] = Unit {0}
BodyEnd (l ∷ ts) = l.kind ≡ kind.CloseBracket

end_stops : (ts : Lexemes) → BodyEnd ts → Stops 3 ts
end_stops [] h = tt
end_stops (l ∷ ts) h = subst (Stop 3) (sym h) tt

pub bracket_end : (d r : Lexemes) → IsMark kind.CloseBracket d r → BodyEnd d
bracket_end d r m = subst BodyEnd (sym m.1.0) m.1.1

ends_at : (k : TokenKind) (l : Lexeme) (ts a : Lexemes) → Takes k l ts a → BodyEnd ts → k ≡ kind.CloseBracket
ends_at k l ts a h b = sym h.1 ∙ subst BodyEnd h.0 b

pub between_stops : (r : Bool) (ss : BodyTree) (b c a : Lexemes) → IsBetween r ss b c → IsBody ss c a → BodyEnd a → Stops 3 b
between_stops r no_stmts b c a (inl h) g e = stops_at 3 kind.Period tt h.0 b c h.1
between_stops r no_stmts b c a (inr h) g e = stops_same 3 b a (h ∙ g) (end_stops a e)
between_stops false (stmts q f ss) b c a h g e = stops_at 3 kind.Period tt h.0 b c h.1
between_stops true (stmts q f ss) b c a h g e = absurd h

period_end : (b a c : Lexemes) → b ≡ a → BodyEnd a → IsMark kind.Period b c → ⊥
period_end b a c e h m = let x : kind.Period ≡ kind.CloseBracket = ends_at kind.Period m.0 b c m.1 (subst BodyEnd (sym e) h) in cc

pub same_between : (r : Bool) (ss st : BodyTree) (b b' c c' a a' : Lexemes) → b ≡ b' → IsBetween r ss b c → IsBetween r st b' c' → IsBody ss c a → IsBody st c' a' → BodyEnd a → BodyEnd a' → c ≡ c'
same_between r no_stmts no_stmts b b' c c' a a' e (inl h) (inl g) i j x y = mark_both kind.Period b b' c c' e h g
same_between r no_stmts no_stmts b b' c c' a a' e (inl h) (inr g) i j x y = absurd (period_end b a' c (e ∙ g ∙ j) y h)
same_between r no_stmts no_stmts b b' c c' a a' e (inr h) (inl g) i j x y = absurd (period_end b' a c' (sym e ∙ h ∙ i) x g)
same_between r no_stmts no_stmts b b' c c' a a' e (inr h) (inr g) i j x y = sym h ∙ e ∙ g
same_between true no_stmts (stmts q f ss) b b' c c' a a' e h g i j x y = absurd g
same_between true (stmts q f ss) st b b' c c' a a' e h g i j x y = absurd h
same_between false no_stmts (stmts q f ss) b b' c c' a a' e (inl h) g i j x y = mark_both kind.Period b b' c c' e h g
same_between false no_stmts (stmts q f ss) b b' c c' a a' e (inr h) g i j x y = absurd (period_end b' a c' (sym e ∙ h ∙ i) x g)
same_between false (stmts q f ss) no_stmts b b' c c' a a' e h (inl g) i j x y = mark_both kind.Period b b' c c' e h g
same_between false (stmts q f ss) no_stmts b b' c c' a a' e h (inr g) i j x y = absurd (period_end b a' c (e ∙ g ∙ j) y h)
same_between false (stmts q f ss) (stmts q' f' ss') b b' c c' a a' e h g i j x y = mark_both kind.Period b b' c c' e h g

pub statement_no_end : (r : Bool) (f : ExprTree) (ss : BodyTree) (ts a : Lexemes) → IsBody (stmts r f ss) ts a → BodyEnd ts → ⊥
statement_no_end r f ss ts a h e =
    let (l, us, i, o) = stmt_begins r f ss ts a h in
    let x : l.kind ≡ kind.CloseBracket = subst BodyEnd i e in
    subst (λ z. StatementStart z (is_minus l)) x o

caret_or_not : (f : ExprTree) (ts us a b c : Lexemes) → ts ≡ us → IsMark kind.Caret ts a → us ≡ b → IsExpr f b c → ⊥
caret_or_not f ts us a b c e m i h =
    let x = expr_begins f b c h in
    let y : x.0.kind ≡ kind.Caret = ap (λ z. z.kind) (front_is x.0 m.0 x.1 a (sym x.2 ∙ sym i ∙ sym e ∙ m.1.0)).0 ∙ m.1.1 in
    subst (λ z. Operand z (is_minus x.0)) y x.3

pub same_caret : (r q : Bool) (f f' : ExprTree) (ts us a b c d : Lexemes) → ts ≡ us → IsCaret r ts a → IsCaret q us b → IsExpr f a c → IsExpr f' b d → (r ≡ q) × (a ≡ b)
same_caret true true f f' ts us a b c d e h g i j = (refl, mark_both kind.Caret ts us a b e h g)
same_caret true false f f' ts us a b c d e h g i j = absurd (caret_or_not f' ts us a b d e h g j)
same_caret false true f f' ts us a b c d e h g i j = absurd (caret_or_not f us ts b a c (sym e) g h i)
same_caret false false f f' ts us a b c d e h g i j = (refl, sym h ∙ e ∙ g)
