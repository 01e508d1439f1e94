-- Lists of literals by what is left of them; literals that are copied and compared.
use Rattle.std.proofs.Common.{◌≡◌, ◌≢◌, ℕ, suc, ◌+◌, ◌<◌, ◌≤◌, Bool, true, false, ◌&&◌, List, [], ◌∷◌, map, length, drop, get_or, refl, ap, ap₂, sym, ◌∙◌, rules, Vec, Global}
use Rattle.std.specs.Vec.{vec_len}
use Rattle.std.proofs.lemmas.List.{drop_all, drop_more}
use Rattle.s80_base.proofs.lemmas.Lists.{literals_open, length_map}
use Rattle.s80_base.specs.Literal.{LiteralTree, LiteralTrees, literal_of, literals_of, literals_from, literals_append, literals, no_literals}
use Rattle.s80_base.specs.declared.literal.Literal.{Literal}
use Rattle.s80_base.specs.declared.literal.Literals.{Literals, out-Literals}
use Rattle.s80_base.specs.SameLiteral.{same_literal, same_literals}

abbrev pub literals_left : List Literal → ℕ → LiteralTrees
literals_left xs i = literals_from (map literal_of (drop i xs))

pub literals_next : (xs : List Literal) (i : ℕ) (x : Literal) → i < length xs → x ≡ get_or xs i x → literals_left xs i ≡ literals (literal_of x) (literals_left xs (i + 1))
literals_next xs i x within is = ap (λ l. literals_from (map literal_of l)) (drop_more xs i x within ∙ ap (λ y. y ∷ drop (i + 1) xs) (sym is))

pub literals_done : (xs : List Literal) (i : ℕ) → length xs ≤ i → literals_left xs i ≡ no_literals
literals_done xs i past = ap (λ l. literals_from (map literal_of l)) (drop_all i xs past)

pub vec_length : {X : Type 0} (v : Vec X Global) → vec_len v ≡ length v.items
vec_length v = search rules

one_behind : (a : LiteralTrees) (v : LiteralTree) (rest : LiteralTrees) → literals_append (literals_append a (literals v no_literals)) rest ≡ literals_append a (literals v rest)
one_behind no_literals v rest = refl
one_behind (literals w a) v rest = ap (literals w) (one_behind a v rest)

none_behind : (a : LiteralTrees) → literals_append a no_literals ≡ a
none_behind no_literals = refl
none_behind (literals w a) = ap (literals w) (none_behind a)

pub copied_next : (xs : List Literal) (i : ℕ) (x copy : Literal) (all old new : LiteralTrees) → i < length xs → x ≡ get_or xs i x → literals_append old (literals_left xs i) ≡ all
    → literal_of copy ≡ literal_of x → new ≡ literals_append old (literals (literal_of copy) no_literals) → literals_append new (literals_left xs (i + 1)) ≡ all
copied_next xs i x copy all old new within is so_far same n =
    ap (λ l. literals_append l (literals_left xs (i + 1))) n ∙ one_behind old (literal_of copy) (literals_left xs (i + 1))
    ∙ ap (λ v. literals_append old (literals v (literals_left xs (i + 1)))) same ∙ ap (literals_append old) (sym (literals_next xs i x within is)) ∙ so_far

pub copied_all : (xs : List Literal) (i : ℕ) (all old : LiteralTrees) → length xs ≤ i → literals_append old (literals_left xs i) ≡ all → old ≡ all
copied_all xs i all old past so_far = sym (none_behind old) ∙ ap (literals_append old) (sym (literals_done xs i past)) ∙ so_far

and_false : (b : Bool) → (b && false) ≡ false
and_false true = refl
and_false false = refl

differ : (vs ws : List LiteralTree) → length vs ≢ length ws → same_literals (literals_from vs) (literals_from ws) ≡ false
differ [] [] h = absurd (h refl)
differ [] (w ∷ ws) h = refl
differ (v ∷ vs) [] h = refl
differ (v ∷ vs) (w ∷ ws) h = ap (λ b. same_literal v w && b) (differ vs ws (λ e. h (ap suc e))) ∙ and_false (same_literal v w)

pub lengths_differ : (a b : Literals) → length (out-Literals a).items.items ≢ length (out-Literals b).items.items → false ≡ same_literals (literals_of a) (literals_of b)
lengths_differ a b h =
    sym (ap₂ same_literals (literals_open a) (literals_open b)
    ∙ differ (map literal_of (out-Literals a).items.items) (map literal_of (out-Literals b).items.items)
    (λ e. h (sym (length_map literal_of (out-Literals a).items.items) ∙ e ∙ length_map literal_of (out-Literals b).items.items)))

-- what is left to compare at a place
abbrev pub same_left : Literals → Literals → ℕ → Bool
same_left a b i = same_literals (literals_left (out-Literals a).items.items i) (literals_left (out-Literals b).items.items i)

pub same_begun : (a b : Literals) → same_left a b 0 ≡ same_literals (literals_of a) (literals_of b)
same_begun a b = sym (ap₂ same_literals (literals_open a) (literals_open b))

pub same_next : (a b : Literals) (i : ℕ) (x y : Literal) → i < length (out-Literals a).items.items → i < length (out-Literals b).items.items
    → x ≡ get_or (out-Literals a).items.items i x → y ≡ get_or (out-Literals b).items.items i y → same_left a b i ≡ (same_literal (literal_of x) (literal_of y) && same_left a b (i + 1))
same_next a b i x y low high is at = ap₂ same_literals (literals_next (out-Literals a).items.items i x low is) (literals_next (out-Literals b).items.items i y high at)

pub same_all : (a b : Literals) (i : ℕ) → length (out-Literals a).items.items ≤ i → length (out-Literals b).items.items ≤ i → true ≡ same_left a b i
same_all a b i low high = sym (ap₂ same_literals (literals_done (out-Literals a).items.items i low) (literals_done (out-Literals b).items.items i high))
