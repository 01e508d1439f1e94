-- The names that were put into a set, one after the other.
use Rattle.std.proofs.Common.{◌≡◌, ◌≤◌, ◌<◌, ◌+◌, ◌∙◌, ◌||◌, ◌++◌, ℕ, Bool, cond, true, false, refl, sym, ap, subst, List, [], ◌∷◌, Vec, Global, length, take, drop, Some, arith}
use Rattle.std.specs.BTreeSet.{BTreeSet, btree_set_len, contains, Updates}
use Rattle.std.specs.Cmp.Lexicographic.{slice_cmp, bytes_decides}
use Rattle.std.specs.List.{slice_get}
use Rattle.std.specs.Ordering.{nat_cmp, is_eq}
use Rattle.std.specs.Str.{bytes_eq}
use Rattle.std.specs.declared.cmp.Ordering.{Ordering}
use Rattle.std.proofs.lemmas.List.{take_more}
use Rattle.std.proofs.lemmas.List.Folds.{list_any_more}
use Rattle.std.proofs.lemmas.Option.{slice_get_within, get_or_from_slice_get}
use Rattle.std.proofs.lemmas.Map.Text.{is_eq-slice_cmp}
use Rattle.s80_syntax.specs.Word.{has_name}
use Rattle.s80_apply.specs.Accept.{first_again}
use Rattle.s80_apply.proofs.Found.{rest_at}

abbrev pub Word : Type 0
Word = Vec ℕ Global

abbrev pub in_order : Word → Word → Ordering
in_order x y = slice_cmp nat_cmp x.items y.items

-- the set has the names so far, each once
pub record AreSeen (before : BTreeSet Word) (names : List (List ℕ)) : Type 0 where
  pub count : btree_set_len before ≤ length names
  pub same : (word : Word) → contains in_order before word ≡ has_name (take (btree_set_len before) names) word.items
  pub again : first_again (take (btree_set_len before) names) (drop (btree_set_len before) names) ≡ first_again [] names

pub words_turned : (a b : List ℕ) → bytes_eq a b ≡ bytes_eq b a
words_turned a b = go (bytes_eq a b) (bytes_eq b a) refl refl
  where
    go : (x y : Bool) → bytes_eq a b ≡ x → bytes_eq b a ≡ y → x ≡ y
    go true true p q = refl
    go false false p q = refl
    go true false p q = sym ((bytes_decides b a).1 (sym ((bytes_decides a b).0 p))) ∙ q
    go false true p q = sym p ∙ (bytes_decides a b).1 (sym ((bytes_decides b a).0 q))

or_turned : (a b : Bool) → cond a true b ≡ (b || a)
or_turned true true = refl
or_turned true false = refl
or_turned false true = refl
or_turned false false = refl

-- the next name, where the set has it
pub found_again : (names : List (List ℕ)) (n : ℕ) (x : List ℕ) (before : BTreeSet Word) (key : Word) → AreSeen before names → n ≡ btree_set_len before → slice_get names n ≡ Some x → key.items ≡ x
    → contains in_order before key ≡ true → Some x ≡ first_again [] names
found_again names n x before key seen count is spelled has =
    let m : ℕ = btree_set_len before in
    let here : slice_get names m ≡ Some x = subst (λ k. slice_get names k ≡ Some x) count is in
    let known : has_name (take m names) x ≡ true = ap (has_name (take m names)) (sym spelled) ∙ sym (seen.same key) ∙ has in
    ap (λ b. cond b (Some x) (first_again (take m names ++ x ∷ []) (drop (m + 1) names))) (sym known) ∙ ap (first_again (take m names)) (sym (rest_at names m x here)) ∙ seen.again

-- and where it was put there
pub seen_more : (names : List (List ℕ)) (n : ℕ) (x : List ℕ) (before after : BTreeSet Word) (key : Word) → AreSeen before names → n ≡ btree_set_len before → slice_get names n ≡ Some x → key.items ≡ x
    → contains in_order before key ≡ false → Updates in_order before after key true → btree_set_len after ≡ btree_set_len before + 1 → AreSeen after names
seen_more names n x before after key seen count is spelled has updates more =
    let m : ℕ = btree_set_len before in
    let here : slice_get names m ≡ Some x = subst (λ k. slice_get names k ≡ Some x) count is in
    let within : m < length names = slice_get_within names m x here in
    let same : (word : Word) → contains in_order after word ≡ has_name (take (m + 1) names) word.items = λ word.
    updates.0 word
    ∙ or_turned (is_eq (in_order key word)) (contains in_order before word)
    ∙ (λ i. seen.same word i || (is_eq-slice_cmp key.items word.items ∙ words_turned key.items word.items ∙ ap (bytes_eq word.items) (spelled ∙ sym (get_or_from_slice_get names m x x here))) i)
    ∙ sym (list_any_more (bytes_eq word.items) names m x within) in
    let unknown : has_name (take m names) x ≡ false = ap (has_name (take m names)) (sym spelled) ∙ sym (seen.same key) ∙ has in
    let front : take m names ++ x ∷ [] ≡ take (m + 1) names = (λ i. take m names ++ sym (get_or_from_slice_get names m x x here) i ∷ []) ∙ sym (take_more names m x within) in
    let again : first_again (take (m + 1) names) (drop (m + 1) names) ≡ first_again [] names =
    ap (λ front. first_again front (drop (m + 1) names)) (sym front)
    ∙ ap (λ b. cond b (Some x) (first_again (take m names ++ x ∷ []) (drop (m + 1) names))) (sym unknown)
    ∙ ap (first_again (take m names)) (sym (rest_at names m x here)) ∙ seen.again in
    let step : m + 1 ≡ btree_set_len after = sym more in
    record {
      count = omega (arith, within, more);
      same = subst (λ k. (word : Word) → contains in_order after word ≡ has_name (take k names) word.items) step same;
      again = subst (λ k. first_again (take k names) (drop k names) ≡ first_again [] names) step again;
    }
