-- A text has at most one tree.
use Rattle.std.proofs.Common.{subst, ◌≡◌, ℕ, List, [], ◌∷◌, ◌++◌, true, false, refl, ap, sym, ◌∙◌, inl, inr}
use Rattle.std.specs.Prelude.{pos}
use Rattle.std.specs.Str.{bytes_eq}
use Rattle.s80_lex.specs.declared.token.TokenKind.{TokenKind}
use Rattle.s80_lex.specs.declared.token.TokenKind.TheVariants as kind
use Rattle.s80_base.specs.Literal.{LiteralTree, small}
use Rattle.s80_tree.specs.declared.name.NameAt.{NameAt}
use Rattle.s80_tree.specs.Tree.{BodyTree, MethodParts, DoItParts, no_stmts, stmts}
use Rattle.s80_lex.specs.Number.{number_literal}
use Rattle.s80_syntax.specs.Lexeme.{Lexeme, Lexemes}
use Rattle.s80_syntax.specs.Grammar.{Takes, IsSign, IsBar, IsDeclared, AreDeclared, IsBody, AreTemporaries, AreOptionalTemporaries, IsPrimitive, IsHead, AreKeywords, IsPattern, IsMethod, IsDoIt}
use Rattle.s80_syntax.specs.Word.{is_minus, bar, less, minus}
use Rattle.s80_syntax.proofs.Words.{word_true, other_word, minus_is}
use Rattle.s80_syntax.proofs.Begins.{StatementStart, stmt_begins}
use Rattle.s80_syntax.proofs.TakenTexts.{NotKeyword, Follows, head_starts}
use Rattle.s80_syntax.proofs.UniqueLiterals.{front_is, takes_both, never, bytes_both}
use Rattle.s80_syntax.proofs.UniqueExprs.{declared_both, bar_both, same_body}

false_true : false ≡ true → ⊥
false_true e = cc

-- a sign is no other sign
sign_or_sign : (word other : List ℕ) → bytes_eq word other ≡ false → (ts us a b : Lexemes) → ts ≡ us → IsSign kind.Binary word ts a → IsSign kind.Binary other us b → ⊥
sign_or_sign word other d ts us a b e h g =
    let l = h.0 in
    let m = takes_both kind.Binary kind.Binary h.0 g.0 ts us a b e h.1 g.1 in
    false_true (sym (other_word word other d l h.2) ∙ word_true other l (ap (λ z. z.bytes) m.0 ∙ g.2))

sign_both : (k : TokenKind) (word : List ℕ) (ts us a b : Lexemes) → ts ≡ us → IsSign k word ts a → IsSign k word us b → a ≡ b
sign_both k word ts us a b e h g = (takes_both k k h.0 g.0 ts us a b e h.1 g.1).1

-- and begins no statement
start_no_sign : (word : List ℕ) → bytes_eq minus word ≡ false → (k : TokenKind) (l : Lexeme) → l.kind ≡ k → StatementStart k (is_minus l) → k ≡ kind.Binary → l.bytes ≡ word → ⊥
start_no_sign word d kind.Binary l e o b i = false_true (sym (other_word minus word d l (minus_is l o)) ∙ word_true word l i)
start_no_sign word d kind.Name l e o b i = absurd (name_binary b)
  where
    name_binary : kind.Name ≡ kind.Binary → ⊥
    name_binary e = cc
start_no_sign word d _ l e o b i = cc

body_or_sign : (word : List ℕ) → bytes_eq minus word ≡ false → (ss : BodyTree) (ts us a : Lexemes) → ts ≡ us → IsBody ss ts [] → IsSign kind.Binary word us a → ⊥
body_or_sign word d no_stmts ts us a e h g = let x : [] ≡ g.0 ∷ a = sym h ∙ e ∙ g.1.0 in cc
body_or_sign word d (stmts r f ss) ts us a e h g =
    let (l, ms, i, o) = stmt_begins r f ss ts [] h in
    let m = front_is l g.0 ms a (sym i ∙ e ∙ g.1.0) in
    start_no_sign word d l.kind l refl o (ap (λ z. z.kind) m.0 ∙ g.1.1) (ap (λ z. z.bytes) m.0 ∙ g.2)

-- declared names up to a bar
bar_or_name : (n : NameAt) (ts us a b : Lexemes) → ts ≡ us → IsBar ts a → IsDeclared n us b → ⊥
bar_or_name n ts us a b e h g = never kind.Binary kind.Name h.0 g.0.0 ts us a b e h.1 g.0.1 (λ x. cc)

same_names : (ns ms : List NameAt) (ts us a b c d : Lexemes) → ts ≡ us → AreDeclared ns ts a → AreDeclared ms us b → IsBar a c → IsBar b d → (ns ≡ ms) × (a ≡ b)
same_names [] [] ts us a b c d e h g x y = (refl, sym h ∙ e ∙ g)
same_names [] (m ∷ ms) ts us a b c d e h g x y = absurd (bar_or_name m a us c g.0 (sym h ∙ e) x g.1)
same_names (n ∷ ns) [] ts us a b c d e h g x y = absurd (bar_or_name n b ts d h.0 (sym g ∙ sym e) y h.1)
same_names (n ∷ ns) (m ∷ ms) ts us a b c d e h g x y =
    let r = declared_both n m ts us h.0 g.0 e h.1 g.1 in
    let q = same_names ns ms h.0 g.0 a b c d r.1 h.2 g.2 x y in
    (ap (λ z. z ∷ ns) r.0 ∙ ap (λ z. m ∷ z) q.0, q.1)

same_temps : (ns ms : List NameAt) (ts us a b : Lexemes) → ts ≡ us → AreTemporaries ns ts a → AreTemporaries ms us b → (ns ≡ ms) × (a ≡ b)
same_temps ns ms ts us a b e (x, y, p, q, r) (x', y', p', q', r') =
    let s = same_names ns ms x x' y y' a b (bar_both ts us x x' e p p') q q' r r' in (s.0, bar_both y y' a b s.1 r r')

-- temporaries, if any, before a body
same_optional : (ns ms : List NameAt) (ss st : BodyTree) (ts us a b : Lexemes) → ts ≡ us → AreOptionalTemporaries ns ts a → AreOptionalTemporaries ms us b → IsBody ss a [] → IsBody st b [] → (ns ≡ ms) × (a ≡ b)
same_optional ns ms ss st ts us a b e (inl h) (inl g) x y = same_temps ns ms ts us a b e h g
same_optional ns ms ss st ts us a b e (inl h) (inr g) x y = absurd (body_or_sign bar refl st b ts h.0 (sym g.1 ∙ sym e) y h.2)
same_optional ns ms ss st ts us a b e (inr h) (inl g) x y = absurd (body_or_sign bar refl ss a us g.0 (sym h.1 ∙ e) x g.2)
same_optional ns ms ss st ts us a b e (inr h) (inr g) x y = (h.0 ∙ sym g.0, sym h.1 ∙ e ∙ g.1)

abbrev value_of : LiteralTree → ℕ
value_of (small (pos n)) = n
value_of _ = 0

same_primitive : (n m : ℕ) (ts us a b : Lexemes) → ts ≡ us → IsPrimitive n ts a → IsPrimitive m us b → (n ≡ m) × (a ≡ b)
same_primitive n m ts us a b e (l, x, y, z, first, word, number, value, low, high, last) (l', x', y', z', first', word', number', value', low', high', last') =
    let i = sign_both kind.Binary less ts us x x' e first first' in
    let j = (takes_both kind.Keyword kind.Keyword word.0 word'.0 x x' y y' i word.1 word'.1).1 in
    let k = takes_both kind.Number kind.Number l l' y y' z z' j number number' in
    (ap value_of (sym value ∙ ap (λ q. number_literal false q.bytes) k.0 ∙ value'), (takes_both kind.Binary kind.Binary last.0 last'.0 z z' a b k.1 last.1 last'.1).1)

optional_or_less : (ns : List NameAt) (ss : BodyTree) (ts us a b : Lexemes) → ts ≡ us → AreOptionalTemporaries ns ts a → IsBody ss a [] → IsSign kind.Binary less us b → ⊥
optional_or_less ns ss ts us a b e (inl h) x g = sign_or_sign bar less refl ts us h.0 b e h.2 g
optional_or_less ns ss ts us a b e (inr h) x g = body_or_sign less refl ss a us b (sym h.1 ∙ e) x g

-- no primitive, and one behind temporaries
optional_or_behind : (ns ms : List NameAt) (n : ℕ) (ss : BodyTree) (ts us a b c : Lexemes) → ts ≡ us → AreOptionalTemporaries ns ts a → IsBody ss a [] → AreTemporaries ms us b → IsPrimitive n b c → ⊥
optional_or_behind ns ms n ss ts us a b c e (inl h) x g p = body_or_sign less refl ss a b p.1 (same_temps ns ms ts us a b e h g).1 x p.4
optional_or_behind ns ms n ss ts us a b c e (inr h) x g p = body_or_sign bar refl ss a us g.0 (sym h.1 ∙ e) x g.2

same_head : (ns ms : List NameAt) (n m : ℕ) (ss st : BodyTree) (ts us a b : Lexemes) → ts ≡ us → IsHead ns n ts a → IsHead ms m us b → IsBody ss a [] → IsBody st b [] → (ns ≡ ms) × (n ≡ m) × (a ≡ b)
same_head ns ms n m ss st ts us a b e (inl (z, h)) (inl (y, g)) i j =
    let r = same_optional ns ms ss st ts us a b e h g i j in (r.0, z ∙ sym y, r.1)
same_head ns ms n m ss st ts us a b e (inl (z, h)) (inr (inl (x, p, g))) i j = absurd (optional_or_less ns ss ts us a p.1 e h i p.4)
same_head ns ms n m ss st ts us a b e (inl (z, h)) (inr (inr (x, g, p))) i j = absurd (optional_or_behind ns ms m ss ts us a x b e h i g p)
same_head ns ms n m ss st ts us a b e (inr (inl (x, p, h))) (inl (z, g)) i j = absurd (optional_or_less ms st us ts b p.1 (sym e) g j p.4)
same_head ns ms n m ss st ts us a b e (inr (inl (x, p, h))) (inr (inl (y, q, g))) i j =
    let k = same_primitive n m ts us x y e p q in
    let r = same_optional ns ms ss st x y a b k.1 h g i j in (r.0, k.0, r.1)
same_head ns ms n m ss st ts us a b e (inr (inl (x, p, h))) (inr (inr (y, g, q))) i j = absurd (sign_or_sign less bar refl ts us p.1 g.0 e p.4 g.2)
same_head ns ms n m ss st ts us a b e (inr (inr (x, h, p))) (inl (z, g)) i j = absurd (optional_or_behind ms ns n st us ts b x a (sym e) g j h p)
same_head ns ms n m ss st ts us a b e (inr (inr (x, h, p))) (inr (inl (y, q, g))) i j = absurd (sign_or_sign bar less refl ts us h.0 q.1 e h.2 q.4)
same_head ns ms n m ss st ts us a b e (inr (inr (x, h, p))) (inr (inr (y, g, q))) i j =
    let r = same_temps ns ms ts us x y e h g in
    let k = same_primitive n m x y a b r.1 p q in (r.0, k.0, k.1)

keyword_follows : (l : Lexeme) (ts us a : Lexemes) → ts ≡ us → Takes kind.Keyword l ts a → Follows us → ⊥
keyword_follows l ts us a e h (inl f) = let x : l ∷ a ≡ [] = sym h.0 ∙ e ∙ f in cc
keyword_follows l ts us a e h (inr (m, ms, i, o)) =
    subst (λ z. NotKeyword z (is_minus m)) (ap (λ z. z.kind) (front_is m l ms a (sym i ∙ sym e ∙ h.0)).0 ∙ h.1) o

same_keywords : (ps qs : List NameAt) (s t : List ℕ) (ts us a b : Lexemes) → ts ≡ us → AreKeywords ps s ts a → AreKeywords qs t us b → Follows a → Follows b → (ps ≡ qs) × (s ≡ t) × (a ≡ b)
same_keywords [] [] s t ts us a b e h g f f' = (refl, h.1 ∙ sym g.1, sym h.0 ∙ e ∙ g.0)
same_keywords [] (q ∷ qs) s t ts us a b e h g f f' = absurd (keyword_follows g.0 us a g.1 (sym e ∙ h.0) g.4 f)
same_keywords (p ∷ ps) [] s t ts us a b e h g f f' = absurd (keyword_follows h.0 ts b h.1 (e ∙ g.0) h.4 f')
same_keywords (p ∷ ps) (q ∷ qs) s t ts us a b e h g f f' =
    let i = takes_both kind.Keyword kind.Keyword h.0 g.0 ts us h.1 g.1 e h.4 g.4 in
    let j = declared_both p q h.1 g.1 h.2 g.2 i.1 h.6 g.6 in
    let r = same_keywords ps qs h.3 g.3 h.2 g.2 a b j.1 h.7 g.7 f f' in
    (ap (λ z. z ∷ ps) j.0 ∙ ap (λ z. q ∷ z) r.0, h.5 ∙ ap (λ l. l.bytes ++ h.3) i.0 ∙ ap (λ z. g.0.bytes ++ z) r.1 ∙ sym g.5, r.2)

same_pattern : (ps qs : List NameAt) (s t : List ℕ) (ts us a b : Lexemes) → ts ≡ us → IsPattern s ps ts a → IsPattern t qs us b → Follows a → Follows b → (ps ≡ qs) × (s ≡ t) × (a ≡ b)
same_pattern [] [] s t ts us a b e h g f f' = let r = bytes_both kind.Name h.0 g.0 ts us a b s t e h.1 g.1 h.2 g.2 in (refl, r.0, r.1)
same_pattern [] (q ∷ qs) s t ts us a b e h (inl g) f f' = absurd (never kind.Name kind.Binary h.0 g.0 ts us a g.1 e h.1 g.2 (λ x. cc))
same_pattern [] (q ∷ qs) s t ts us a b e h (inr g) f f' = absurd (never kind.Name kind.Keyword h.0 g.0 ts us a g.1 e h.1 g.4 (λ x. cc))
same_pattern (p ∷ ps) [] s t ts us a b e (inl h) g f f' = absurd (never kind.Binary kind.Name h.0 g.0 ts us h.1 b e h.2 g.1 (λ x. cc))
same_pattern (p ∷ ps) [] s t ts us a b e (inr h) g f f' = absurd (never kind.Keyword kind.Name h.0 g.0 ts us h.1 b e h.4 g.1 (λ x. cc))
same_pattern (p ∷ ps) (q ∷ qs) s t ts us a b e (inl h) (inl g) f f' =
    let r = bytes_both kind.Binary h.0 g.0 ts us h.1 g.1 s t e h.2 g.2 h.3 g.3 in
    let j = declared_both p q h.1 g.1 a b r.1 h.4 g.4 in
    (ap (λ z. z ∷ ps) j.0 ∙ ap (λ z. q ∷ z) (h.5 ∙ sym g.5), r.0, j.1)
same_pattern (p ∷ ps) (q ∷ qs) s t ts us a b e (inl h) (inr g) f f' = absurd (never kind.Binary kind.Keyword h.0 g.0 ts us h.1 g.1 e h.2 g.4 (λ x. cc))
same_pattern (p ∷ ps) (q ∷ qs) s t ts us a b e (inr h) (inl g) f f' = absurd (never kind.Keyword kind.Binary h.0 g.0 ts us h.1 g.1 e h.4 g.2 (λ x. cc))
same_pattern (p ∷ ps) (q ∷ qs) s t ts us a b e (inr h) (inr g) f f' = same_keywords (p ∷ ps) (q ∷ qs) s t ts us a b e h g f f'

-- a text has at most one tree
pub one_method : (m n : MethodParts) (ts : Lexemes) → IsMethod m ts → IsMethod n ts → m ≡ n
one_method m n ts (a, b, p, h, g) (a', b', p', h', g') =
    let i = same_pattern m.parameters n.parameters m.selector n.selector ts ts a a' refl p p' (head_starts m.temporaries m.primitive m.body a b h g) (head_starts n.temporaries n.primitive n.body a' b' h' g') in
    let j = same_head m.temporaries n.temporaries m.primitive n.primitive m.body n.body a a' b b' i.2 h h' g g' in
    let k = same_body m.body n.body b b' [] [] j.2 g g' tt tt in
    λ x. record { selector = i.1 x; parameters = i.0 x; temporaries = j.0 x; primitive = j.1 x; body = k.0 x }

pub one_doit : (d e : DoItParts) (ts : Lexemes) → IsDoIt d ts → IsDoIt e ts → d ≡ e
one_doit d e ts (a, h, g) (a', h', g') =
    let j = same_optional d.temporaries e.temporaries d.body e.body ts ts a a' refl h h' g g' in
    let k = same_body d.body e.body a a' [] [] j.1 g g' tt tt in
    λ x. record { temporaries = j.0 x; body = k.0 x }
