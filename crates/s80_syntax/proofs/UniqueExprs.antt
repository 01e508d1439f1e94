-- An expression's tokens are those of one expression.
use Rattle.std.proofs.Common.{subst, ◌≡◌, ℕ, List, [], ◌∷◌, ◌++◌, Bool, refl, ap, sym, ◌∙◌, arith, inl, inr}
use Rattle.s80_lex.specs.declared.token.TokenKind.{TokenKind}
use Rattle.s80_lex.specs.declared.token.TokenKind.TheVariants as kind
use Rattle.s80_base.specs.Literal.{LiteralTree}
use Rattle.s80_tree.specs.declared.name.NameAt.{NameAt}
use Rattle.s80_tree.specs.Tree.{ExprTree, PrimaryTree, ExprTrees, MessageTrees, BodyTree, expr, name, literal, block, paren, no_exprs, exprs, no_messages, messages, no_stmts, stmts}
use Rattle.s80_syntax.specs.Lexeme.{Lexeme, Lexemes}
use Rattle.s80_syntax.specs.Grammar.{Takes, IsMark, IsBar, IsDeclared, AreParameters, IsBarBetween, IsLiteral, IsExpr, IsPrimary, IsOperand, IsChain, IsMessage, AreParts, IsCascade, IsBody, IsBetween}
use Rattle.s80_syntax.specs.Word.{is_minus}
use Rattle.s80_syntax.proofs.Begins.{Begins, LiteralStart, literal_begins, begins_kind, begins_mark, begins_same, body_begins}
use Rattle.s80_syntax.proofs.TakenBodies.{NotColon, statement_no_colon}
use Rattle.s80_syntax.proofs.UniqueLiterals.{front_is, takes_both, never, mark_both, bytes_both, name_both, same_literal}
use Rattle.s80_syntax.proofs.Stops.{Stops, stops_less, stops_at, stops_kind, stops_same, parts_stop, cascade_stops, empty_is, none_is, Followed, chain_follows, message_high, begins_not, same_targets, chain_no_assign, no_target, BodyEnd, bracket_end, between_stops, same_between, statement_no_end, same_caret}

pub declared_both : (n m : NameAt) (ts us a b : Lexemes) → ts ≡ us → IsDeclared n ts a → IsDeclared m us b → (n ≡ m) × (a ≡ b)
declared_both n m ts us a b e h g = name_both n m ts us a b e h.0 g.0

colon_begins : (ts a : Lexemes) → IsMark kind.Colon ts a → Begins NotColon ts → ⊥
colon_begins ts a m (l, us, e, o) = subst (λ z. NotColon z (is_minus l)) (ap (λ z. z.kind) (front_is l m.0 us a (sym e ∙ m.1.0)).0 ∙ m.1.1) o

same_parameters : (ps qs : List NameAt) (ts us a b : Lexemes) → ts ≡ us → AreParameters ps ts a → AreParameters qs us b → Begins NotColon a → Begins NotColon b → (ps ≡ qs) × (a ≡ b)
same_parameters [] [] ts us a b e h g s t = (refl, sym h ∙ e ∙ g)
same_parameters [] (m ∷ ms) ts us a b e h g s t = absurd (colon_begins us g.0 g.2 (begins_same NotColon us a (sym e ∙ h) s))
same_parameters (n ∷ ns) [] ts us a b e h g s t = absurd (colon_begins ts h.0 h.2 (begins_same NotColon ts b (e ∙ g) t))
same_parameters (n ∷ ns) (m ∷ ms) ts us a b e h g s t =
    let r = declared_both n m h.0 g.0 h.1 g.1 (mark_both kind.Colon ts us h.0 g.0 e h.2 g.2) h.3 g.3 in
    let q = same_parameters ns ms h.1 g.1 a b r.1 h.4 g.4 s t in
    (ap (λ x. x ∷ ns) r.0 ∙ ap (λ x. m ∷ x) q.0, q.1)

body_no_colon : (ss : BodyTree) (c d rest : Lexemes) → IsBody ss c d → IsMark kind.CloseBracket d rest → Begins NotColon c
body_no_colon ss c d rest g m = body_begins NotColon statement_no_colon ss c d g (begins_mark NotColon kind.CloseBracket (λ b. tt) d rest m)

after_parameters : (ps : List NameAt) (ss : BodyTree) (b c d rest : Lexemes) → IsBarBetween ps ss b c → IsBody ss c d → IsMark kind.CloseBracket d rest → Begins NotColon b
after_parameters [] ss b c d rest h g m = begins_same NotColon b c h (body_no_colon ss c d rest g m)
after_parameters (n ∷ ns) no_stmts b c d rest (inl h) g m = begins_kind NotColon kind.Binary (λ x. tt) h.0 b c h.1
after_parameters (n ∷ ns) no_stmts b c d rest (inr h) g m = begins_same NotColon b c h (body_no_colon no_stmts c d rest g m)
after_parameters (n ∷ ns) (stmts r f ss) b c d rest h g m = begins_kind NotColon kind.Binary (λ x. tt) h.0 b c h.1

pub bar_both : (ts us a b : Lexemes) → ts ≡ us → IsBar ts a → IsBar us b → a ≡ b
bar_both ts us a b e h g = (takes_both kind.Binary kind.Binary h.0 g.0 ts us a b e h.1 g.1).1

bar_end : (b d rest c : Lexemes) → b ≡ d → IsMark kind.CloseBracket d rest → IsBar b c → ⊥
bar_end b d rest c e m h = never kind.Binary kind.CloseBracket h.0 m.0 b d c rest e h.1 m.1 (λ x. cc)

same_bar : (ps : List NameAt) (ss st : BodyTree) (b b' c c' d d' r r' : Lexemes) → b ≡ b' → IsBarBetween ps ss b c → IsBarBetween ps st b' c' → IsBody ss c d → IsBody st c' d' → IsMark kind.CloseBracket d r → IsMark kind.CloseBracket d' r' → c ≡ c'
same_bar [] ss st b b' c c' d d' r r' e h g i j x y = sym h ∙ e ∙ g
same_bar (n ∷ ns) no_stmts no_stmts b b' c c' d d' r r' e (inl h) (inl g) i j x y = bar_both b b' c c' e h g
same_bar (n ∷ ns) no_stmts no_stmts b b' c c' d d' r r' e (inl h) (inr g) i j x y = absurd (bar_end b d' r' c (e ∙ g ∙ j) y h)
same_bar (n ∷ ns) no_stmts no_stmts b b' c c' d d' r r' e (inr h) (inl g) i j x y = absurd (bar_end b' d r c' (sym e ∙ h ∙ i) x g)
same_bar (n ∷ ns) no_stmts no_stmts b b' c c' d d' r r' e (inr h) (inr g) i j x y = sym h ∙ e ∙ g
same_bar (n ∷ ns) no_stmts (stmts q f st) b b' c c' d d' r r' e (inl h) g i j x y = bar_both b b' c c' e h g
same_bar (n ∷ ns) no_stmts (stmts q f st) b b' c c' d d' r r' e (inr h) g i j x y = absurd (bar_end b' d r c' (sym e ∙ h ∙ i) x g)
same_bar (n ∷ ns) (stmts q f ss) no_stmts b b' c c' d d' r r' e h (inl g) i j x y = bar_both b b' c c' e h g
same_bar (n ∷ ns) (stmts q f ss) no_stmts b b' c c' d d' r r' e h (inr g) i j x y = absurd (bar_end b d' r' c (e ∙ g ∙ j) y h)
same_bar (n ∷ ns) (stmts q f ss) (stmts q' f' st) b b' c c' d d' r r' e h g i j x y = bar_both b b' c c' e h g

-- a literal begins with none of these
literal_or : (k : TokenKind) → ((b : Bool) → LiteralStart k b → ⊥) → (v : LiteralTree) (l : Lexeme) (ts us a b : Lexemes) → ts ≡ us → IsLiteral v ts a → Takes k l us b → ⊥
literal_or k f v l ts us a b e h g =
    let (m, ms, i, o) = literal_begins v ts a h in
    f (is_minus m) (subst (λ z. LiteralStart z (is_minus m)) (ap (λ z. z.kind) (front_is m l ms b (sym i ∙ e ∙ g.0)).0 ∙ g.1) o)

mutual
  same_primary : (p q : PrimaryTree) (ts us a b : Lexemes) → ts ≡ us → IsPrimary p ts a → IsPrimary q us b → (p ≡ q) × (a ≡ b)
  same_primary (name n) (name m) ts us a b e h g = let r = name_both n m ts us a b e h g in (ap name r.0, r.1)
  same_primary (name n) (literal w) ts us a b e h g = absurd (literal_or kind.Name (λ x o. o) w h.0 us ts b a (sym e) g h.1)
  same_primary (name n) (paren f) ts us a b e h g = absurd (never kind.Name kind.OpenParen h.0 g.2.0 ts us a g.0 e h.1 g.2.1 (λ x. cc))
  same_primary (name n) (block ps ss) ts us a b e h g = absurd (never kind.Name kind.OpenBracket h.0 g.4.0 ts us a g.0 e h.1 g.4.1 (λ x. cc))
  same_primary (literal v) (literal w) ts us a b e h g = let r = same_literal v w ts us a b e h g in (ap literal r.0, r.1)
  same_primary (literal v) (name n) ts us a b e h g = absurd (literal_or kind.Name (λ x o. o) v g.0 ts us a b e h g.1)
  same_primary (literal v) (paren f) ts us a b e h g = absurd (literal_or kind.OpenParen (λ x o. o) v g.2.0 ts us a g.0 e h g.2.1)
  same_primary (literal v) (block ps ss) ts us a b e h g = absurd (literal_or kind.OpenBracket (λ x o. o) v g.4.0 ts us a g.0 e h g.4.1)
  same_primary (paren f) (name n) ts us a b e h g = absurd (never kind.OpenParen kind.Name h.2.0 g.0 ts us h.0 b e h.2.1 g.1 (λ x. cc))
  same_primary (paren f) (literal w) ts us a b e h g = absurd (literal_or kind.OpenParen (λ x o. o) w h.2.0 us ts b h.0 (sym e) g h.2.1)
  same_primary (paren f) (block ps ss) ts us a b e h g = absurd (never kind.OpenParen kind.OpenBracket h.2.0 g.4.0 ts us h.0 g.0 e h.2.1 g.4.1 (λ x. cc))
  same_primary (paren f) (paren f') ts us a b e h g =
      let i = mark_both kind.OpenParen ts us h.0 g.0 e h.2 g.2 in
      let r = same_expr f f' h.0 g.0 h.1 g.1 i h.3 g.3 (stops_at 3 kind.CloseParen tt h.4.0 h.1 a h.4.1) (stops_at 3 kind.CloseParen tt g.4.0 g.1 b g.4.1) in
      (ap paren r.0, mark_both kind.CloseParen h.1 g.1 a b r.1 h.4 g.4)
  same_primary (block ps ss) (name n) ts us a b e h g = absurd (never kind.OpenBracket kind.Name h.4.0 g.0 ts us h.0 b e h.4.1 g.1 (λ x. cc))
  same_primary (block ps ss) (literal w) ts us a b e h g = absurd (literal_or kind.OpenBracket (λ x o. o) w h.4.0 us ts b h.0 (sym e) g h.4.1)
  same_primary (block ps ss) (paren f) ts us a b e h g = absurd (never kind.OpenBracket kind.OpenParen h.4.0 g.2.0 ts us h.0 g.0 e h.4.1 g.2.1 (λ x. cc))
  same_primary (block ps ss) (block qs st) ts us a b e h g =
      let i = mark_both kind.OpenBracket ts us h.0 g.0 e h.4 g.4 in
      let r = same_parameters ps qs h.0 g.0 h.1 g.1 i h.5 g.5 (after_parameters ps ss h.1 h.2 h.3 a h.6 h.7 h.8) (after_parameters qs st g.1 g.2 g.3 b g.6 g.7 g.8) in
      let c = same_bar qs ss st h.1 g.1 h.2 g.2 h.3 g.3 a b r.1 (subst (λ z. IsBarBetween z ss h.1 h.2) r.0 h.6) g.6 h.7 g.7 h.8 g.8 in
      let q = same_body ss st h.2 g.2 h.3 g.3 c h.7 g.7 (bracket_end h.3 a h.8) (bracket_end g.3 b g.8) in
      (ap (λ z. block z ss) r.0 ∙ ap (block qs) q.0, mark_both kind.CloseBracket h.3 g.3 a b q.1 h.8 g.8)

  pub same_expr : (e f : ExprTree) (ts us a b : Lexemes) → ts ≡ us → IsExpr e ts a → IsExpr f us b → Stops 3 a → Stops 3 b → (e ≡ f) × (a ≡ b)
  same_expr (expr t p m c) (expr t' p' m' c') ts us a b e h g s s' =
      let x = cascade_stops c h.2 a h.7 s in
      let x' = cascade_stops c' g.2 b g.7 s' in
      let i = same_targets t t' ts us h.0 g.0 e h.3 g.3 (no_target p h.0 h.1 h.4 (chain_no_assign m h.1 h.2 h.5 x)) (no_target p' g.0 g.1 g.4 (chain_no_assign m' g.1 g.2 g.5 x')) in
      let r = same_primary p p' h.0 g.0 h.1 g.1 i.1 h.4 g.4 in
      let q = same_chain m m' 0 2 h.1 g.1 h.2 g.2 r.1 h.5 g.5 x x' in
      let k = same_cascade c c' h.2 g.2 a b q.1 h.7 g.7 s s' in
      (ap (λ z. expr z p m c) i.0 ∙ ap (λ z. expr t' z m c) r.0 ∙ ap (λ z. expr t' p' z c) q.0 ∙ ap (expr t' p' m') k.0, k.1)

  same_cascade : (c d : MessageTrees) (ts us a b : Lexemes) → ts ≡ us → IsCascade c ts a → IsCascade d us b → Stops 3 a → Stops 3 b → (c ≡ d) × (a ≡ b)
  same_cascade no_messages no_messages ts us a b e h g s s' = (refl, sym h ∙ e ∙ g)
  same_cascade no_messages (messages y fs d) ts us a b e h g s s' = absurd (let z = stops_kind 3 kind.Semicolon g.3.0 us g.0 g.3.1 (stops_same 3 us a (sym e ∙ h) s) in omega arith)
  same_cascade (messages x es c) no_messages ts us a b e h g s s' = absurd (let z = stops_kind 3 kind.Semicolon h.3.0 ts h.0 h.3.1 (stops_same 3 ts b (e ∙ g) s') in omega arith)
  same_cascade (messages x es c) (messages y fs d) ts us a b e h g s s' =
      let i = mark_both kind.Semicolon ts us h.0 g.0 e h.3 g.3 in
      let z = cascade_stops c h.1 a h.5 s in
      let z' = cascade_stops d g.1 b g.5 s' in
      let r = same_message es fs x y 0 2 h.2 g.2 h.0 g.0 h.1 g.1 i h.4 g.4 (λ w. stops_less 0 2 (omega arith) h.1 z, λ w. z) (λ w. stops_less 0 2 (omega arith) g.1 z', λ w. z') in
      let q = same_cascade c d h.1 g.1 a b r.3 h.5 g.5 s s' in
      (ap (λ z. messages z es c) r.1 ∙ ap (λ z. messages y z c) r.0 ∙ ap (messages y fs) q.0, q.1)

  pub same_body : (ss st : BodyTree) (ts us a b : Lexemes) → ts ≡ us → IsBody ss ts a → IsBody st us b → BodyEnd a → BodyEnd b → (ss ≡ st) × (a ≡ b)
  same_body no_stmts no_stmts ts us a b e h g s s' = (refl, sym h ∙ e ∙ g)
  same_body no_stmts (stmts r f st) ts us a b e h g s s' = absurd (statement_no_end r f st us b g (subst BodyEnd (sym h ∙ e) s))
  same_body (stmts r f ss) no_stmts ts us a b e h g s s' = absurd (statement_no_end r f ss ts a h (subst BodyEnd (sym g ∙ sym e) s'))
  same_body (stmts r f ss) (stmts r' f' st) ts us a b e h g s s' =
      let i = same_caret r r' f f' ts us h.0 g.0 h.1 g.1 e h.3 g.3 h.4 g.4 in
      let q = same_expr f f' h.0 g.0 h.1 g.1 i.1 h.4 g.4 (between_stops r ss h.1 h.2 a h.5 h.6 s) (between_stops r' st g.1 g.2 b g.5 g.6 s') in
      let c = same_between r' ss st h.1 g.1 h.2 g.2 a b q.1 (subst (λ z. IsBetween z ss h.1 h.2) i.0 h.5) g.5 h.6 g.6 s s' in
      let k = same_body ss st h.2 g.2 a b c h.6 g.6 s s' in
      (ap (λ z. stmts z f ss) i.0 ∙ ap (λ z. stmts r' z ss) q.0 ∙ ap (stmts r' f') k.0, k.1)

  same_operand : (e f : ExprTree) (high : ℕ) (ts us a b : Lexemes) → ts ≡ us → IsOperand e high ts a → IsOperand f high us b → Stops high a → Stops high b → (e ≡ f) × (a ≡ b)
  same_operand (expr t p m c) (expr t' p' m' c') high ts us a b e h g s s' =
      let r = same_primary p p' ts us h.0 g.0 e h.3 g.3 in
      let q = same_chain m m' 0 high h.0 g.0 a b r.1 h.4 g.4 s s' in
      let o = none_is c h.2 ∙ sym (none_is c' g.2) in
      (ap (λ x. expr x p m c) (h.1 ∙ sym g.1) ∙ ap (λ x. expr t' x m c) r.0 ∙ ap (λ x. expr t' p' x c) q.0 ∙ ap (expr t' p' m') o, q.1)

  same_chain : (m n : MessageTrees) (low high : ℕ) (ts us a b : Lexemes) → ts ≡ us → IsChain m low high ts a → IsChain n low high us b → Stops high a → Stops high b → (m ≡ n) × (a ≡ b)
  same_chain no_messages no_messages low high ts us a b e h g s s' = (refl, sym h ∙ e ∙ g)
  same_chain no_messages (messages x es n) low high ts us a b e h g s s' = absurd (begins_not es x low high g.1 us g.0 g.2 (stops_same high us a (sym e ∙ h) s))
  same_chain (messages x es m) no_messages low high ts us a b e h g s s' = absurd (begins_not es x low high h.1 ts h.0 h.2 (stops_same high ts b (e ∙ g) s'))
  same_chain (messages x es m) (messages y fs n) low high ts us a b e h g s s' =
      let r = same_message es fs x y low high h.1 g.1 ts us h.0 g.0 e h.2 g.2 (chain_follows m h.1 high h.0 a (message_high es x low high h.1 ts h.0 h.2) h.3 s) (chain_follows n g.1 high g.0 b (message_high fs y low high g.1 us g.0 g.2) g.3 s') in
      let q = same_chain m n g.1 high h.0 g.0 a b r.3 (subst (λ z. IsChain m z high h.0 a) r.2 h.3) g.3 s s' in
      (ap (λ z. messages z es m) r.1 ∙ ap (λ z. messages y z m) r.0 ∙ ap (messages y fs) q.0, q.1)

  same_message : (es fs : ExprTrees) (x y : List ℕ) (low high n m : ℕ) (ts us a b : Lexemes) → ts ≡ us → IsMessage es x low high n ts a → IsMessage fs y low high m us b → Followed n a → Followed m b → (es ≡ fs) × (x ≡ y) × (n ≡ m) × (a ≡ b)
  same_message no_exprs no_exprs x y low high n m ts us a b e h g s s' =
      let r = bytes_both kind.Name h.0 g.0 ts us a b x y e h.1 g.1 h.2 g.2 in (refl, r.0, h.4 ∙ sym g.4, r.1)
  same_message no_exprs (exprs f fs) x y low high n m ts us a b e h (inl g) s s' = absurd (never kind.Name kind.Binary h.0 g.0 ts us a g.1 e h.1 g.2 (λ x. cc))
  same_message no_exprs (exprs f fs) x y low high n m ts us a b e h (inr g) s s' = absurd (never kind.Name kind.Keyword h.0 g.0 ts us a g.1 e h.1 g.4 (λ x. cc))
  same_message (exprs d es) no_exprs x y low high n m ts us a b e (inl h) g s s' = absurd (never kind.Binary kind.Name h.0 g.0 ts us h.1 b e h.2 g.1 (λ x. cc))
  same_message (exprs d es) no_exprs x y low high n m ts us a b e (inr h) g s s' = absurd (never kind.Keyword kind.Name h.0 g.0 ts us h.1 b e h.4 g.1 (λ x. cc))
  same_message (exprs d es) (exprs f fs) x y low high n m ts us a b e (inl h) (inr g) s s' = absurd (never kind.Binary kind.Keyword h.0 g.0 ts us h.1 g.1 e h.2 g.4 (λ x. cc))
  same_message (exprs d es) (exprs f fs) x y low high n m ts us a b e (inr h) (inl g) s s' = absurd (never kind.Keyword kind.Binary h.0 g.0 ts us h.1 g.1 e h.4 g.2 (λ x. cc))
  same_message (exprs d es) (exprs f fs) x y low high n m ts us a b e (inl h) (inl g) s s' =
      let r = bytes_both kind.Binary h.0 g.0 ts us h.1 g.1 x y e h.2 g.2 h.3 g.3 in
      let q = same_operand d f 0 h.1 g.1 a b r.1 h.7 g.7 (s.0 h.6) (s'.0 g.6) in
      (ap (λ z. exprs z es) q.0 ∙ ap (exprs f) (empty_is es h.8 ∙ sym (empty_is fs g.8)), r.0, h.6 ∙ sym g.6, q.1)
  same_message (exprs d es) (exprs f fs) x y low high n m ts us a b e (inr h) (inr g) s s' =
      let t = takes_both kind.Keyword kind.Keyword h.0 g.0 ts us h.1 g.1 e h.4 g.4 in
      let q = same_operand d f 1 h.1 g.1 h.2 g.2 t.1 h.9 g.9 (parts_stop es h.3 h.2 a h.10 (s.1 h.8)) (parts_stop fs g.3 g.2 b g.10 (s'.1 g.8)) in
      let r = same_parts es fs h.3 g.3 h.2 g.2 a b q.1 h.10 g.10 (s.1 h.8) (s'.1 g.8) in
      (ap (λ z. exprs z es) q.0 ∙ ap (exprs f) r.0, h.5 ∙ ap (λ l. l.bytes ++ h.3) t.0 ∙ ap (λ z. g.0.bytes ++ z) r.1 ∙ sym g.5, h.8 ∙ sym g.8, r.2)

  same_parts : (es fs : ExprTrees) (x y : List ℕ) (ts us a b : Lexemes) → ts ≡ us → AreParts es x ts a → AreParts fs y us b → Stops 2 a → Stops 2 b → (es ≡ fs) × (x ≡ y) × (a ≡ b)
  same_parts no_exprs no_exprs x y ts us a b e h g s s' = (refl, h.1 ∙ sym g.1, sym h.0 ∙ e ∙ g.0)
  same_parts no_exprs (exprs f fs) x y ts us a b e h g s s' = absurd (let z = stops_kind 2 kind.Keyword g.0 us g.1 g.4 (stops_same 2 us a (sym e ∙ h.0) s) in omega arith)
  same_parts (exprs d es) no_exprs x y ts us a b e h g s s' = absurd (let z = stops_kind 2 kind.Keyword h.0 ts h.1 h.4 (stops_same 2 ts b (e ∙ g.0) s') in omega arith)
  same_parts (exprs d es) (exprs f fs) x y ts us a b e h g s s' =
      let t = takes_both kind.Keyword kind.Keyword h.0 g.0 ts us h.1 g.1 e h.4 g.4 in
      let q = same_operand d f 1 h.1 g.1 h.2 g.2 t.1 h.6 g.6 (parts_stop es h.3 h.2 a h.7 s) (parts_stop fs g.3 g.2 b g.7 s') in
      let r = same_parts es fs h.3 g.3 h.2 g.2 a b q.1 h.7 g.7 s s' in
      (ap (λ z. exprs z es) q.0 ∙ ap (exprs f) r.0, h.5 ∙ ap (λ l. l.bytes ++ h.3) t.0 ∙ ap (λ z. g.0.bytes ++ z) r.1 ∙ sym g.5, r.2)
