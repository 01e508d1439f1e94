-- The uses of a text's tree stand at rising places, and where places rise each use is the only one at its place.
use Rattle.std.proofs.Common.{◌≡◌, ℕ, zero, suc, ◌+◌, ◌==◌, ◌<◌, ◌≤◌, List, [], ◌∷◌, true, false, cond, length, refl, ap, ◌∙◌, subst, arith}
use Rattle.std.specs.List.{All, AllByRecursion, AllPairs, Contains, count_by}
use Rattle.std.proofs.lemmas.Bool.Decides.{nat_tests}
use Rattle.std.proofs.lemmas.List.Elements.{All-from_recursion, recursion_from_All}
use Rattle.std.proofs.lemmas.List.Kept.{AllPairs-cons}
use Rattle.std.proofs.lemmas.List.Sums.{sum_by-cons}
use Rattle.s80_lex.specs.declared.token.Token.{Token}
use Rattle.s80_lex.specs.Text.{IsSlice}
use Rattle.s80_lex.proofs.lemmas.Slices.{slices, in_order}
use Rattle.s80_tree.specs.declared.name.NameAt.{NameAt}
use Rattle.s80_tree.specs.Tree.{MethodParts, DoItParts}
use Rattle.s80_syntax.specs.Lexeme.{lexemes, place}
use Rattle.s80_syntax.specs.Text.{IsMethodOf, IsDoItOf}
use Rattle.s80_scope.specs.Names.{AreInOrder, IsUsedOnce, is_at, body_uses, uses_of}
use Rattle.s80_scope.proofs.Rising.{Rising, Rises, rises_later, method_rises, doit_rises}

abbrev InOrder : List Token → Type 0
InOrder tokens = AllPairs (λ (a b : Token). a.to ≤ b.from) tokens

tokens_rise : (text : List ℕ) (tokens : List Token) → AllByRecursion (IsSlice text) tokens → InOrder tokens → Rising (length text) (lexemes text tokens)
tokens_rise text [] h order = tt
tokens_rise text (t ∷ []) h order = let some = h.0.some in let within = h.0.within in (omega arith, tt)
tokens_rise text (t ∷ u ∷ more) h order =
    let next : t.to ≤ u.from = order 0 1 t (omega arith) (omega arith) in
    let some = h.0.some in
    (omega arith, tokens_rise text (u ∷ more) h.1 (λ i j d less within. order (suc i) (suc j) d (omega arith) (omega arith)))

above : (low high : ℕ) (uses : List NameAt) → Rises (suc low) uses high → AllByRecursion (λ n. low < n.at) uses
above low high [] h = tt
above low high (n ∷ ns) h = (omega arith, above low high ns (rises_later (suc low) (suc n.at) high ns (omega arith) h.1))

in_order_from : (low high : ℕ) (uses : List NameAt) → Rises low uses high → AreInOrder uses
in_order_from low high [] h = λ i j d less within. absurd (omega arith)
in_order_from low high (n ∷ ns) h =
    AllPairs-cons (λ (one other : NameAt). one.at < other.at) n ns (All-from_recursion (λ b. n.at < b.at) ns (above n.at high ns h.1)) (in_order_from (suc n.at) high ns h.1)

pub method_in_order : (text : List ℕ) (m : MethodParts) → IsMethodOf text m → AreInOrder (uses_of m)
method_in_order text m h =
    let ts = lexemes text h.tokens in
    let rising = tokens_rise text h.tokens (recursion_from_All (IsSlice text) h.tokens (slices h.tokens text h.are_tokens)) (in_order h.tokens text h.are_tokens) in
    in_order_from (place (length text) ts) (length text) (body_uses m.body) (method_rises (length text) m ts h.method rising)

pub doit_in_order : (text : List ℕ) (d : DoItParts) → IsDoItOf text d → AreInOrder (body_uses d.body)
doit_in_order text d h =
    let ts = lexemes text h.tokens in
    let rising = tokens_rise text h.tokens (recursion_from_All (IsSlice text) h.tokens (slices h.tokens text h.are_tokens)) (in_order h.tokens text h.are_tokens) in
    in_order_from (place (length text) ts) (length text) (body_uses d.body) (doit_rises (length text) d ts h.doit rising)

-- no use behind a place stands there
none_above : (at : ℕ) (ns : List NameAt) → AllByRecursion (λ n. at < n.at) ns → count_by (is_at at) ns ≡ 0
none_above at [] h = refl
none_above at (n ∷ ns) h =
    let off : is_at at n ≡ false = other n.at at h.0 in
    let rest = none_above at ns h.1 in
    sum_by-cons (λ x. cond (is_at at x) 1 0) n ns ∙ ap (λ b. cond b 1 0 + count_by (is_at at) ns) off ∙ omega arith
  where
    other : (a b : ℕ) → b < a → (a == b) ≡ false
    other a b less = grind (arith, nat_tests)

pub used_once : (uses : List NameAt) (n : NameAt) → AreInOrder uses → Contains uses n → IsUsedOnce n.at uses
used_once [] n order (k, within, is) = absurd (omega arith)
used_once (x ∷ xs) n order (zero, within, is) =
    let later : All (λ b. x.at < b.at) xs = λ k d less. order 0 (suc k) d (omega arith) (omega arith) in
    let none = none_above x.at xs (recursion_from_All (λ b. x.at < b.at) xs later) in
    subst (λ m. count_by (is_at m.at) (x ∷ xs) ≡ 1) is
    (sum_by-cons (λ y. cond (is_at x.at y) 1 0) x xs ∙ ap (λ b. cond b 1 0 + count_by (is_at x.at) xs) (itself x.at) ∙ omega arith)
  where
    itself : (a : ℕ) → (a == a) ≡ true
    itself a = grind (arith, nat_tests)
used_once (x ∷ xs) n order (suc k, within, is) =
    let later = order 0 (suc k) n (omega arith) within in
    let less : x.at < n.at = subst (λ m. x.at < m.at) is later in
    let one = used_once xs n (λ i j d below inside. order (suc i) (suc j) d (omega arith) (omega arith)) (k, omega arith, is) in
    sum_by-cons (λ y. cond (is_at n.at y) 1 0) x xs ∙ ap (λ b. cond b 1 0 + count_by (is_at n.at) xs) (off x.at n.at less) ∙ omega arith
  where
    off : (a b : ℕ) → a < b → (a == b) ≡ false
    off a b below = grind (arith, nat_tests)
