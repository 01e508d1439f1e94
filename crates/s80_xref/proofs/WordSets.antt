-- Sets of words.
use Rattle.std.proofs.Common.{◌≡◌, ◌∙◌, ◌++◌, ◌||◌, ◌+◌, ℕ, Bool, true, false, refl, sym, ap, ap₂, List, [], ◌∷◌, Some, Vec, Global, Bor, take, map}
use Rattle.std.specs.Prelude.{slice_get}
use Rattle.std.specs.BTreeSet.{insert_key}
use Rattle.std.specs.Cmp.Lexicographic.{slice_cmp, bytes_decides}
use Rattle.std.specs.List.{AllByRecursion, list_any}
use Rattle.std.specs.List.Sorted.{IsStrictlySortedBy}
use Rattle.std.specs.Map.Iter.{deref}
use Rattle.std.specs.Ordering.{nat_cmp, is_eq, match_ordering}
use Rattle.std.specs.Str.{bytes_eq}
use Rattle.std.specs.declared.cmp.Ordering.{Ordering}
use Rattle.std.specs.declared.cmp.Ordering.TheVariants.{Less, Equal, Greater}
use Rattle.std.proofs.lemmas.List.{map-append}
use Rattle.std.proofs.lemmas.Map.Text.{is_eq-slice_cmp}
use Rattle.s80_xref.proofs.Members.{any_next}

abbrev pub Word : Type 0
Word = Vec ℕ Global

abbrev pub in_order : Word → Word → Ordering
in_order x y = slice_cmp nat_cmp x.items y.items

abbrev pub words_of : List Word → List (List ℕ)
words_of keys = map (λ (w : Word). w.items) keys

or_same : (a b r : Bool) → a ≡ b → (b || r) ≡ (a || (b || r))
or_same true true r e = refl
or_same true false r e = cc
or_same false b r e = refl

or_swap : (a b r : Bool) → (a || (b || r)) ≡ (b || (a || r))
or_swap true true r = refl
or_swap true false r = refl
or_swap false b r = refl

or_turn : (a b : Bool) → (a || b) ≡ (b || a)
or_turn true true = refl
or_turn true false = refl
or_turn false true = refl
or_turn false false = refl

or_move : (a b c : Bool) → ((a || b) || c) ≡ (a || (b || c))
or_move true b c = refl
or_move false b c = refl

-- ---- whether a word is there

pub word_found : (word : List ℕ) (keys : List Word) → list_any (λ (k : Word). is_eq (slice_cmp nat_cmp word k.items)) keys ≡ list_any (bytes_eq word) (words_of keys)
word_found word [] = refl
word_found word (k ∷ keys) = ap₂ (λ a b. a || b) (is_eq-slice_cmp word k.items) (word_found word keys)

-- ---- one word more

same_word : (key k : Word) → in_order key k ≡ Equal → key.items ≡ k.items
same_word key k e = (bytes_decides key.items k.items).0 (sym (is_eq-slice_cmp key.items k.items) ∙ ap is_eq e)

pub inserted : (word : List ℕ) (keys : List Word) (key : Word) → list_any (bytes_eq word) (words_of (insert_key in_order keys key)) ≡ (bytes_eq word key.items || list_any (bytes_eq word) (words_of keys))
inserted word [] key = refl
inserted word (k ∷ keys) key = by_order (in_order key k) refl (inserted word keys key)
  where
    by_order : (o : Ordering) → in_order key k ≡ o → list_any (bytes_eq word) (words_of (insert_key in_order keys key)) ≡ (bytes_eq word key.items || list_any (bytes_eq word) (words_of keys))
        → list_any (bytes_eq word) (words_of (match_ordering o (key ∷ k ∷ keys) (k ∷ keys) (k ∷ insert_key in_order keys key))) ≡ (bytes_eq word key.items || (bytes_eq word k.items || list_any (bytes_eq word) (words_of keys)))
    by_order Less e more = refl
    by_order Equal e more = or_same (bytes_eq word key.items) (bytes_eq word k.items) (list_any (bytes_eq word) (words_of keys)) (ap (bytes_eq word) (same_word key k e))
    by_order Greater e more = ap (λ b. bytes_eq word k.items || b) more ∙ or_swap (bytes_eq word k.items) (bytes_eq word key.items) (list_any (bytes_eq word) (words_of keys))

-- ---- a loop that adds more

module _ {X : Type 0} (p : X → Bool) (xs : List X) (i : ℕ) (x : X) (before now new more : Bool) (at : slice_get xs i ≡ Some x) (so_far : now ≡ (before || list_any p (take i xs))) (is : more ≡ p x) where
  pub added_behind : new ≡ (now || more) → new ≡ (before || list_any p (take (i + 1) xs))
  added_behind added = added ∙ ap₂ (λ a b. a || b) so_far is ∙ or_move before (list_any p (take i xs)) (p x) ∙ ap (λ b. before || b) (sym (any_next p xs i x at))

  pub added_before : new ≡ (more || now) → new ≡ (before || list_any p (take (i + 1) xs))
  added_before added = added_behind (added ∙ or_turn more now)

-- ---- the words in order

all_rise : (k : Word) (keys : List Word) → AllByRecursion (λ y. in_order k y ≡ Less) keys → AllByRecursion (λ y. slice_cmp nat_cmp k.items y ≡ Less) (words_of keys)
all_rise k [] all = tt
all_rise k (y ∷ ys) all = (all.0, all_rise k ys all.1)

pub words_rise : (keys : List Word) → IsStrictlySortedBy in_order keys → IsStrictlySortedBy (slice_cmp nat_cmp) (words_of keys)
unfolding IsStrictlySortedBy
words_rise [] up = tt
words_rise (k ∷ keys) up = (all_rise k keys up.0, words_rise keys up.1)

pub one_listed : (yielded : List (Bor Word)) (w : Bor Word) (names new : List (List ℕ)) (text : List ℕ) → names ≡ words_of (map deref yielded) → new ≡ names ++ text ∷ [] → text ≡ w.now.items → new ≡ words_of (map deref (yielded ++ w ∷ []))
one_listed yielded w names new text so more is =
    more ∙ ap₂ (λ (ns : List (List ℕ)) (t : List ℕ). ns ++ t ∷ []) so is
    ∙ sym (ap words_of (map-append deref yielded (w ∷ [])) ∙ map-append (λ (k : Word). k.items) (map deref yielded) (w.now ∷ []))
