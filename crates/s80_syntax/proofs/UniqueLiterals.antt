-- A literal's tokens are those of one literal.
use Rattle.std.proofs.Common.{subst, ◌≡◌, ℕ, List, [], ◌∷◌, ◌++◌, Bool, true, false, refl, ap, sym, ◌∙◌, ◌⊎◌, inl, inr}
use Rattle.s80_lex.specs.declared.token.TokenKind.{TokenKind}
use Rattle.s80_lex.specs.declared.token.TokenKind.TheVariants as kind
use Rattle.s80_base.specs.Literal.{LiteralTree, LiteralTrees, array, symbol, no_literals, literals}
use Rattle.s80_tree.specs.declared.name.NameAt.{NameAt}
use Rattle.s80_lex.specs.Number.{number_literal}
use Rattle.s80_syntax.specs.Lexeme.{Lexeme, Lexemes}
use Rattle.s80_syntax.specs.Literals.{IsLiteralKind, token_literal, name_literal}
use Rattle.s80_syntax.specs.Grammar.{Takes, IsMark, IsName, IsSingle, IsNegative, AreJoined, IsWord, IsArrayStart, IsArray, AreElements, IsLiteral}
use Rattle.s80_syntax.specs.Word.{is_minus}

-- two tokens at the front of equal lists
pub front_is : (l m : Lexeme) (xs ys : Lexemes) → l ∷ xs ≡ m ∷ ys → (l ≡ m) × (xs ≡ ys)
front_is l m xs ys e = (cc, cc)

pub takes_both : (k d : TokenKind) (l m : Lexeme) (ts us a b : Lexemes) → ts ≡ us → Takes k l ts a → Takes d m us b → (l ≡ m) × (a ≡ b) × (k ≡ d)
takes_both k d l m ts us a b e h g =
    let f = front_is l m a b (sym h.0 ∙ e ∙ g.0) in (f.0, f.1, sym h.1 ∙ ap (λ x. x.kind) f.0 ∙ g.1)

-- what begins with two kinds is nothing
pub never : (k d : TokenKind) (l m : Lexeme) (ts us a b : Lexemes) → ts ≡ us → Takes k l ts a → Takes d m us b → (k ≡ d → ⊥) → ⊥
never k d l m ts us a b e h g n = n (takes_both k d l m ts us a b e h g).2

pub mark_both : (k : TokenKind) (ts us a b : Lexemes) → ts ≡ us → IsMark k ts a → IsMark k us b → a ≡ b
mark_both k ts us a b e h g = (takes_both k k h.0 g.0 ts us a b e h.1 g.1).1

pub bytes_both : (k : TokenKind) (l m : Lexeme) (ts us a b : Lexemes) (x y : List ℕ) → ts ≡ us → Takes k l ts a → Takes k m us b → x ≡ l.bytes → y ≡ m.bytes → (x ≡ y) × (a ≡ b)
bytes_both k l m ts us a b x y e h g i j =
    let t = takes_both k k l m ts us a b e h g in (i ∙ ap (λ z. z.bytes) t.0 ∙ sym j, t.1)

pub name_both : (n m : NameAt) (ts us a b : Lexemes) → ts ≡ us → IsName n ts a → IsName m us b → (n ≡ m) × (a ≡ b)
name_both n m ts us a b e h g =
    let t = takes_both kind.Name kind.Name h.0 g.0 ts us a b e h.1 g.1 in
    (name_is n m (h.2 ∙ ap (λ l. l.bytes) t.0 ∙ sym g.2) (h.3 ∙ ap (λ l. l.at) t.0 ∙ sym g.3), t.1)
  where
    name_is : (n m : NameAt) → n.name ≡ m.name → n.at ≡ m.at → n ≡ m
    name_is n m e f = λ i. record { name = e i; at = f i }

-- the sorts of what stands in an array, by their first token
data Sort : Type 0 where
  a_single : Sort
  a_negative : Sort
  a_name : Sort
  a_binary : Sort
  a_keyword : Sort
  an_array : Sort
  no_sort : Sort

abbrev sort : TokenKind → Bool → Sort
sort kind.Number b = a_single
sort kind.Character b = a_single
sort kind.Str b = a_single
sort kind.Symbol b = a_single
sort kind.Binary true = a_negative
sort kind.Binary false = a_binary
sort kind.Name b = a_name
sort kind.Keyword b = a_keyword
sort kind.ArrayStart b = an_array
sort kind.OpenParen b = an_array
sort _ b = no_sort

abbrev HasSort : Sort → Lexemes → Type 0
HasSort s ts = (l : Lexeme) × (us : Lexemes) × (ts ≡ l ∷ us) × (sort l.kind (is_minus l) ≡ s)

sort_both : (s t : Sort) (ts us : Lexemes) → ts ≡ us → HasSort s ts → HasSort t us → s ≡ t
sort_both s t ts us e (l, x, i, h) (m, y, j, g) =
    let f = front_is l m x y (sym i ∙ e ∙ j) in sym h ∙ ap (λ z. sort z.kind (is_minus z)) f.0 ∙ g

kind_sort : (s : Sort) (k : TokenKind) (l : Lexeme) (ts rest : Lexemes) → ((b : Bool) → sort k b ≡ s) → Takes k l ts rest → HasSort s ts
kind_sort s k l ts rest f h = (l, rest, h.0, ap (λ x. sort x (is_minus l)) h.1 ∙ f (is_minus l))

single_sort : (k : TokenKind) (b : Bool) → IsLiteralKind k → sort k b ≡ a_single
single_sort kind.Number b h = refl
single_sort kind.Character b h = refl
single_sort kind.Str b h = refl
single_sort kind.Symbol b h = refl
single_sort _ b h = absurd h

-- an element that is no array, by its sort
abbrev FormOf : Sort → LiteralTree → Lexemes → Lexemes → Type 0
FormOf a_single v ts rest = IsSingle v ts rest
FormOf a_negative v ts rest = IsNegative v ts rest
FormOf a_name v ts rest = (l : Lexeme) × Takes kind.Name l ts rest × (v ≡ name_literal l.bytes)
FormOf a_binary v ts rest = (l : Lexeme) × Takes kind.Binary l ts rest × (is_minus l ≡ false) × (v ≡ symbol l.bytes)
FormOf a_keyword v ts rest = (word : List ℕ) × AreJoined word ts rest × (v ≡ symbol word)
FormOf _ v ts rest = ⊥

abbrev Simple : LiteralTree → Lexemes → Lexemes → Type 0
Simple v ts rest = (s : Sort) × FormOf s v ts rest

joined_sort : (word : List ℕ) (ts rest : Lexemes) → AreJoined word ts rest → HasSort a_keyword ts
joined_sort word [] rest h = absurd h
joined_sort word (l ∷ ts) rest h = (l, ts, refl, ap (λ x. sort x (is_minus l)) h.0)

form_sort : (s : Sort) (v : LiteralTree) (ts rest : Lexemes) → FormOf s v ts rest → HasSort s ts
form_sort a_single v ts rest h = (h.0, rest, h.1, single_sort h.0.kind (is_minus h.0) h.2)
form_sort a_negative v ts rest h = (h.0, h.2, h.3.0, ap (λ x. sort x (is_minus h.0)) h.3.1 ∙ ap (sort kind.Binary) h.4)
form_sort a_name v ts rest h = kind_sort a_name kind.Name h.0 ts rest (λ b. refl) h.1
form_sort a_binary v ts rest h = (h.0, rest, h.1.0, ap (λ x. sort x (is_minus h.0)) h.1.1 ∙ ap (sort kind.Binary) h.2)
form_sort a_keyword v ts rest h = joined_sort h.0 ts rest h.1
form_sort an_array v ts rest h = absurd h
form_sort no_sort v ts rest h = absurd h

false_true : false ≡ true → ⊥
false_true e = cc

same_joined : (x y : List ℕ) (ts a b : Lexemes) → AreJoined x ts a → AreJoined y ts b → (x ≡ y) × (a ≡ b)
same_joined x y [] a b h g = absurd h
same_joined x y (l ∷ ts) a b (e, inl h) (f, inl g) = (h.1 ∙ sym g.1, sym h.2 ∙ g.2)
same_joined x y (l ∷ ts) a b (e, inl h) (f, inr g) = absurd (false_true (sym h.0 ∙ g.1))
same_joined x y (l ∷ ts) a b (e, inr h) (f, inl g) = absurd (false_true (sym g.0 ∙ h.1))
same_joined x y (l ∷ ts) a b (e, inr h) (f, inr g) =
    let r = same_joined h.0 g.0 ts a b h.3 g.3 in (h.2 ∙ ap (λ z. l.bytes ++ z) r.0 ∙ sym g.2, r.1)

same_form : (s : Sort) (v w : LiteralTree) (ts us a b : Lexemes) → ts ≡ us → FormOf s v ts a → FormOf s w us b → (v ≡ w) × (a ≡ b)
same_form a_single v w ts us a b e h g =
    let f = front_is h.0 g.0 a b (sym h.1 ∙ e ∙ g.1) in (h.3 ∙ ap (λ l. token_literal l.kind l.bytes) f.0 ∙ sym g.3, f.1)
same_form a_negative v w ts us a b e h g =
    let i = takes_both kind.Binary kind.Binary h.0 g.0 ts us h.2 g.2 e h.3 g.3 in
    let j = takes_both kind.Number kind.Number h.1 g.1 h.2 g.2 a b i.1 h.5 g.5 in
    (h.6 ∙ ap (λ l. number_literal true l.bytes) j.0 ∙ sym g.6, j.1)
same_form a_name v w ts us a b e h g =
    let t = takes_both kind.Name kind.Name h.0 g.0 ts us a b e h.1 g.1 in (h.2 ∙ ap (λ l. name_literal l.bytes) t.0 ∙ sym g.2, t.1)
same_form a_binary v w ts us a b e h g =
    let t = takes_both kind.Binary kind.Binary h.0 g.0 ts us a b e h.1 g.1 in (h.3 ∙ ap (λ l. symbol l.bytes) t.0 ∙ sym g.3, t.1)
same_form a_keyword v w ts us a b e h g =
    let t = same_joined h.0 g.0 us a b (subst (λ x. AreJoined h.0 x a) e h.1) g.1 in (h.2 ∙ ap symbol t.0 ∙ sym g.2, t.1)
same_form an_array v w ts us a b e h g = absurd h
same_form no_sort v w ts us a b e h g = absurd h

same_simple : (v w : LiteralTree) (ts us a b : Lexemes) → ts ≡ us → Simple v ts a → Simple w us b → (v ≡ w) × (a ≡ b)
same_simple v w ts us a b e (s, h) (t, g) =
    let i = sort_both s t ts us e (form_sort s v ts a h) (form_sort t w us b g) in
    same_form s v w ts us a b e h (subst (λ x. FormOf x w us b) (sym i) g)

-- an array begins otherwise than the rest
array_sort : (v : LiteralTree) (ts rest : Lexemes) → IsArray true v ts rest → HasSort an_array ts
array_sort (array vs) ts rest h = by_start h.2
  where
    by_start : IsArrayStart true ts h.0 → HasSort an_array ts
    by_start (inl m) = kind_sort an_array kind.ArrayStart m.0 ts h.0 (λ b. refl) m.1
    by_start (inr m) = kind_sort an_array kind.OpenParen m.0 ts h.0 (λ b. refl) m.1
array_sort _ ts rest h = absurd h

simple_no_array : (v w : LiteralTree) (ts us a b : Lexemes) → ts ≡ us → Simple v ts a → IsArray true w us b → ⊥
simple_no_array v w ts us a b e (s, h) g = by_sort s (sort_both s an_array ts us e (form_sort s v ts a h) (array_sort w us b g)) h
  where
    by_sort : (s : Sort) → s ≡ an_array → FormOf s v ts a → ⊥
    by_sort s i h = subst (λ x. FormOf x v ts a) i h

-- an element begins otherwise than what ends an array
paren_sort : (ts a : Lexemes) → IsMark kind.CloseParen ts a → HasSort no_sort ts
paren_sort ts a h = kind_sort no_sort kind.CloseParen h.0 ts a (λ b. refl) h.1

abbrev Element : LiteralTree → Lexemes → Lexemes → Type 0
Element v ts rest = IsSingle v ts rest ⊎ IsNegative v ts rest ⊎ IsWord v ts rest ⊎ IsArray true v ts rest

split_element : (v : LiteralTree) (ts rest : Lexemes) → Element v ts rest → Simple v ts rest ⊎ IsArray true v ts rest
split_element v ts rest (inl h) = inl (a_single, h)
split_element v ts rest (inr (inl h)) = inl (a_negative, h)
split_element v ts rest (inr (inr (inl (inl h)))) = inl (a_name, h)
split_element v ts rest (inr (inr (inl (inr (inl h))))) = inl (a_binary, h)
split_element v ts rest (inr (inr (inl (inr (inr h))))) = inl (a_keyword, h)
split_element v ts rest (inr (inr (inr h))) = inr h

same_element : (v w : LiteralTree) (ts us a b : Lexemes) → ts ≡ us → Simple v ts a ⊎ IsArray true v ts a → Simple w us b ⊎ IsArray true w us b → (IsArray true v ts a → IsArray true w us b → (v ≡ w) × (a ≡ b)) → (v ≡ w) × (a ≡ b)
same_element v w ts us a b e (inl h) (inl g) r = same_simple v w ts us a b e h g
same_element v w ts us a b e (inl h) (inr g) r = absurd (simple_no_array v w ts us a b e h g)
same_element v w ts us a b e (inr h) (inl g) r = absurd (simple_no_array w v us ts b a (sym e) g h)
same_element v w ts us a b e (inr h) (inr g) r = r h g

sort_ne : (s : Sort) (v : LiteralTree) (ts rest : Lexemes) → FormOf s v ts rest → s ≡ no_sort → ⊥
sort_ne s v ts rest h i = subst (λ x. FormOf x v ts rest) i h

element_no_end : (v : LiteralTree) (ts us rest a : Lexemes) → ts ≡ us → Simple v ts rest ⊎ IsArray true v ts rest → IsMark kind.CloseParen us a → ⊥
element_no_end v ts us rest a e (inl h) m = sort_ne h.0 v ts rest h.1 (sort_both h.0 no_sort ts us e (form_sort h.0 v ts rest h.1) (paren_sort us a m))
element_no_end v ts us rest a e (inr h) m = let i : an_array ≡ no_sort = sort_both an_array no_sort ts us e (array_sort v ts rest h) (paren_sort us a m) in cc

start_both : (ts us a b : Lexemes) → ts ≡ us → IsArrayStart true ts a → IsArrayStart true us b → a ≡ b
start_both ts us a b e (inl h) (inl g) = mark_both kind.ArrayStart ts us a b e h g
start_both ts us a b e (inl h) (inr g) = absurd (never kind.ArrayStart kind.OpenParen h.0 g.0 ts us a b e h.1 g.1 (λ x. cc))
start_both ts us a b e (inr h) (inl g) = absurd (never kind.OpenParen kind.ArrayStart h.0 g.0 ts us a b e h.1 g.1 (λ x. cc))
start_both ts us a b e (inr h) (inr g) = mark_both kind.OpenParen ts us a b e h g

mutual
  same_array : (v w : LiteralTree) (ts us a b : Lexemes) → ts ≡ us → IsArray true v ts a → IsArray true w us b → (v ≡ w) × (a ≡ b)
  same_array (array vs) (array ws) ts us a b e h g =
      let r = same_elements vs ws h.0 g.0 h.1 g.1 a b (start_both ts us h.0 g.0 e h.2 g.2) h.3 g.3 h.4 g.4 in
      (ap array r.0, mark_both kind.CloseParen h.1 g.1 a b r.1 h.4 g.4)
  same_array (array vs) _ ts us a b e h g = absurd g
  same_array _ w ts us a b e h g = absurd h

  pub same_elements : (vs ws : LiteralTrees) (ts us a b x y : Lexemes) → ts ≡ us → AreElements vs ts a → AreElements ws us b → IsMark kind.CloseParen a x → IsMark kind.CloseParen b y → (vs ≡ ws) × (a ≡ b)
  same_elements no_literals no_literals ts us a b x y e h g m n = (refl, sym h ∙ e ∙ g)
  same_elements no_literals (literals w ws) ts us a b x y e h g m n = absurd (element_no_end w us a g.0 x (sym e ∙ h) (split_element w us g.0 g.1) m)
  same_elements (literals v vs) no_literals ts us a b x y e h g m n = absurd (element_no_end v ts b h.0 y (e ∙ g) (split_element v ts h.0 h.1) n)
  same_elements (literals v vs) (literals w ws) ts us a b x y e h g m n =
      let i = same_element v w ts us h.0 g.0 e (split_element v ts h.0 h.1) (split_element w us g.0 g.1) (λ p q. same_array v w ts us h.0 g.0 e p q) in
      let r = same_elements vs ws h.0 g.0 a b x y i.1 h.2 g.2 m n in
      (ap (λ z. literals z vs) i.0 ∙ ap (literals w) r.0, r.1)

abbrev Outer : LiteralTree → Lexemes → Lexemes → Type 0
Outer v ts rest = Simple v ts rest ⊎ IsArray false v ts rest

split_literal : (v : LiteralTree) (ts rest : Lexemes) → IsLiteral v ts rest → Outer v ts rest
split_literal v ts rest (inl h) = inl (a_single, h)
split_literal v ts rest (inr (inl h)) = inl (a_negative, h)
split_literal v ts rest (inr (inr h)) = inr h

inner_of_outer : (v : LiteralTree) (ts rest : Lexemes) → IsArray false v ts rest → IsArray true v ts rest
inner_of_outer (array vs) ts rest h = (h.0, h.1, inl h.2, h.3, h.4)
inner_of_outer _ ts rest h = absurd h

same_outer : (v w : LiteralTree) (ts us a b : Lexemes) → ts ≡ us → Outer v ts a → Outer w us b → (v ≡ w) × (a ≡ b)
same_outer v w ts us a b e (inl h) (inl g) = same_simple v w ts us a b e h g
same_outer v w ts us a b e (inl h) (inr g) = absurd (simple_no_array v w ts us a b e h (inner_of_outer w us b g))
same_outer v w ts us a b e (inr h) (inl g) = absurd (simple_no_array w v us ts b a (sym e) g (inner_of_outer v ts a h))
same_outer v w ts us a b e (inr h) (inr g) = same_array v w ts us a b e (inner_of_outer v ts a h) (inner_of_outer w us b g)

pub same_literal : (v w : LiteralTree) (ts us a b : Lexemes) → ts ≡ us → IsLiteral v ts a → IsLiteral w us b → (v ≡ w) × (a ≡ b)
same_literal v w ts us a b e h g = same_outer v w ts us a b e (split_literal v ts a h) (split_literal w us b g)
