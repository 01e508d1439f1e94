-- The words of bodies, and a body that is changed.
use Rattle.std.proofs.Common.{◌≡◌, ◌∙◌, ℕ, zero, suc, ◌+◌, ◌/◌, ◌≤◌, ◌<◌, ◌^◌, ◌++◌, arith, List, [], ◌∷◌, length, map, set, take, get_or, slice_get, Option, Some, None, option_map, IfSome, Result, Ok, Err, Bor, MatchOption, HoldsAt, if◌then◌else◌, refl, sym, ap, ap₂, subst, nat_lt, Bool, true, false}
use Rattle.std.specs.Option.{option_map_or}
use Rattle.std.proofs.lemmas.List.{take-map, map-append, map-set, length-set}
use Rattle.std.proofs.lemmas.Option.{slice_get-map, slice_get_read}
use Rattle.s80_object.specs.declared.body.Body.{Body}
use Rattle.s80_object.specs.declared.value.ObjectFault.{ObjectFault}
use Rattle.s80_object.specs.declared.value.ObjectFault.TheVariants.{Range, Kind}
use Rattle.s80_object.specs.declared.value.Value.{Value}
use Rattle.s80_object.specs.Body.{BodyTree, pointers, bytes, words, home, block, cost, words_of, number_to}
use Rattle.s80_object.specs.Objects.{placed, field_put, item_put}
use Rattle.s80_object.specs.Seen.{tree_of, AreCounted}
use Rattle.s80_object.specs.Steps.{IsChanged, IsPutAt}

pub words_of-append : (xs ys : List BodyTree) → words_of (xs ++ ys) ≡ words_of xs + words_of ys
words_of-append [] ys = omega arith
words_of-append (x ∷ xs) ys = ap (λ n. cost x + n) (words_of-append xs ys) ∙ omega arith

some_cost : (b : BodyTree) → 1 ≤ cost b
some_cost (pointers class fields items) = omega arith
some_cost (bytes class items) = omega arith
some_cost (words class items) = omega arith
some_cost (home method receiver temporaries) = omega arith
some_cost (block whole start arguments) = omega arith

pub fewer_than_words : (bs : List BodyTree) → length bs ≤ words_of bs
fewer_than_words [] = omega arith
fewer_than_words (b ∷ bs) = omega (arith, some_cost b, fewer_than_words bs)

cost_at : (bs : List BodyTree) (n : ℕ) (b : BodyTree) → slice_get bs n ≡ Some b → cost b ≤ words_of bs
cost_at [] n b at = absurd (let f : ⊥ = cc at in f)
cost_at (a ∷ bs) zero b at = let is : a ≡ b = cc at in omega (arith, ap cost is)
cost_at (a ∷ bs) (suc n) b at = omega (arith, cost_at bs n b at)

pub small_at : (xs : List Body) (n most : ℕ) (r : Option (Bor Body)) → IfSome r (λ b. b.now ≡ get_or xs n b.now) → MatchOption r (length xs ≤ n) (λ b. (n < length xs) × HoldsAt (λ y. b.now ≡ y) xs n)
    → words_of (map tree_of xs) ≤ most → IfSome r (λ b. cost (tree_of b.now) ≤ most)
small_at xs n most None is at within = tt
small_at xs n most (Some b) is at within =
    omega (arith, cost_at (map tree_of xs) n (tree_of b.now) (slice_get-map tree_of xs n ∙ ap (option_map tree_of) (slice_get_read xs (length xs) n b.now refl at.0 is)))

taken_words : (n : ℕ) (bs : List BodyTree) → words_of (take n bs) ≤ words_of bs
taken_words zero bs = omega arith
taken_words (suc n) [] = omega arith
taken_words (suc n) (b ∷ bs) = omega (arith, taken_words n bs)

module _ (xs : List Body) (d : List BodyTree) (shows : map tree_of xs ≡ d) where
  pub cut : (n : ℕ) (ys : List Body) → ys ≡ take n xs → map tree_of ys ≡ take n d
  cut n ys is = ap (map tree_of) is ∙ sym (take-map tree_of n xs) ∙ ap (take n) shows

  pub cut_counted : (n : ℕ) (ys : List Body) → ys ≡ take n xs → (count before : ℕ) → AreCounted (map tree_of xs) before → count ≡ words_of (take n d) → AreCounted (map tree_of ys) count
  cut_counted n ys is count before sound told = record {
    words = told ∙ ap words_of (sym (cut n ys is));
    limit = omega (arith, told, taken_words n d, ap words_of shows, sound.words, sound.limit);
  }

  pub few : (count most : ℕ) → AreCounted (map tree_of xs) count → count ≤ most → length d ≤ most
  few count most sound within = omega (arith, fewer_than_words d, ap words_of shows, sound.words)

  pub pushed_counted : (x : Body) (ys : List Body) → ys ≡ xs ++ x ∷ [] → (count added : ℕ) → AreCounted (map tree_of xs) count → added ≡ cost (tree_of x) → words_of d + cost (tree_of x) ≤ 2 ^ 20 → AreCounted (map tree_of ys) (count + added)
  pushed_counted x ys is count added sound told within = record {
    words = ap₂ (λ a b. a + b) sound.words told ∙ omega arith ∙ sym (words_of-append (map tree_of xs) (tree_of x ∷ [])) ∙ sym (ap words_of (ap (map tree_of) is ∙ map-append tree_of xs (x ∷ [])));
    limit = omega (arith, sound.words, told, ap words_of shows, within);
  }

-- ---- a body that is changed

set_same : {X : Type 0} (xs : List X) (n : ℕ) (x : X) → slice_get xs n ≡ Some x → set xs n x ≡ xs
set_same [] n x at = refl
set_same (y ∷ xs) zero x at = let is : y ≡ x = cc at in ap (λ z. z ∷ xs) (sym is)
set_same (y ∷ xs) (suc n) x at = ap (λ zs. y ∷ zs) (set_same xs n x at)

words_of-set : (bs : List BodyTree) (n : ℕ) (old new : BodyTree) → slice_get bs n ≡ Some old → cost new ≡ cost old → words_of (set bs n new) ≡ words_of bs
words_of-set [] n old new at same = refl
words_of-set (b ∷ bs) zero old new at same = let is : b ≡ old = cc at in ap (λ c. c + words_of bs) (same ∙ sym (ap cost is))
words_of-set (b ∷ bs) (suc n) old new at same = ap (λ c. cost b + c) (words_of-set bs n old new at same)

put_by : (e : Result BodyTree ObjectFault) (old new : BodyTree) (d : List BodyTree) (n : ℕ) (r : Result (Unit {0}) ObjectFault) → slice_get d n ≡ Some old → IsChanged e old new r → IsPutAt e d n (set d n new) r
put_by (Ok b) old new d n (Ok done) at is = ap (set d n) is
put_by (Err fault) old new d n (Err told) at is = (is.0, ap (set d n) is.1 ∙ set_same d n old at)
put_by (Ok b) old new d n (Err told) at is = is
put_by (Err fault) old new d n (Ok done) at is = is

-- a change that keeps what the body costs
abbrev pub Keeps : (BodyTree → Result BodyTree ObjectFault) → Type 0
Keeps change = (old new : BodyTree) → change old ≡ Ok new → cost new ≡ cost old

same_cost : (e : Result BodyTree ObjectFault) (old new : BodyTree) (r : Result (Unit {0}) ObjectFault) → IsChanged e old new r → ((b : BodyTree) → e ≡ Ok b → cost b ≡ cost old) → cost new ≡ cost old
same_cost (Ok b) old new (Ok done) is kept = ap cost is ∙ kept b refl
same_cost (Err fault) old new (Err told) is kept = ap cost is.1
same_cost (Ok b) old new (Err told) is kept = absurd is
same_cost (Err fault) old new (Ok done) is kept = absurd is

module _ (xs : List Body) (d : List BodyTree) (shows : map tree_of xs ≡ d) (n : ℕ) (b : Body) (within : n < length xs) (is : b ≡ get_or xs n b)
    (change : BodyTree → Result BodyTree ObjectFault) (b' : Body) (r : Result (Unit {0}) ObjectFault) (changed : IsChanged (change (tree_of b)) (tree_of b) (tree_of b') r) where
  there : slice_get d n ≡ Some (tree_of b)
  there = ap (λ d. slice_get d n) (sym shows) ∙ slice_get-map tree_of xs n ∙ ap (option_map tree_of) (slice_get_read xs (length xs) n b refl within is)

  shown : map tree_of (set xs n b') ≡ set d n (tree_of b')
  shown = map-set tree_of xs n b' ∙ ap (λ d. set d n (tree_of b')) shows

  pub put_at : IsPutAt (option_map_or change (slice_get d n) (Err Kind)) d n (map tree_of (set xs n b')) r
  put_at = subst (λ o. IsPutAt (option_map_or change o (Err Kind)) d n (map tree_of (set xs n b')) r) (sym there)
      (subst (λ new. IsPutAt (change (tree_of b)) d n new r) (sym shown) (put_by (change (tree_of b)) (tree_of b) (tree_of b') d n r there changed))

  pub put_counted : Keeps change → (count : ℕ) → AreCounted (map tree_of xs) count → AreCounted (map tree_of (set xs n b')) count
  put_counted keeps count sound = record {
    words = sound.words ∙ ap words_of shows ∙ sym (words_of-set d n (tree_of b) (tree_of b') there (same_cost _ _ _ r changed (keeps (tree_of b)))) ∙ sym (ap words_of shown);
    limit = sound.limit;
  }

-- ---- what may be put keeps the cost

placed_under : {X : Type 0} (b : Bool) (items : List X) (i : ℕ) (x : X) (body : List X → BodyTree) (new : BodyTree) → ((more : List X) → length more ≡ length items → cost (body more) ≡ cost (body items))
    → (if b then Ok (body (set items i x)) else Err Range) ≡ Ok new → cost new ≡ cost (body items)
placed_under true items i x body new same is = let told : body (set items i x) ≡ new = cc is in ap cost (sym told) ∙ same (set items i x) (length-set items i x)
placed_under false items i x body new same is = absurd (let f : ⊥ = cc is in f)

placed_keeps : {X : Type 0} (items : List X) (i : ℕ) (x : X) (body : List X → BodyTree) (new : BodyTree) → ((more : List X) → length more ≡ length items → cost (body more) ≡ cost (body items))
    → placed items i x body ≡ Ok new → cost new ≡ cost (body items)
placed_keeps items zero x body new same is = absurd (let f : ⊥ = cc is in f)
placed_keeps items (suc i) x body new same is = placed_under (nat_lt i (length items)) items i x body new same is

pub fields_keep : (i : ℕ) (to : Value) → Keeps (λ b. field_put b i to)
fields_keep i to (pointers class fields items) new is = placed_keeps fields (suc i) to (λ more. pointers class more items) new (λ more same. ap (λ n. 2 + n + length items) same) is
fields_keep i to (home method receiver temporaries) new is = placed_keeps temporaries (suc i) to (home method receiver) new (λ more same. refl) is
fields_keep i to (bytes class items) new is = absurd (let f : ⊥ = cc is in f)
fields_keep i to (words class items) new is = absurd (let f : ⊥ = cc is in f)
fields_keep i to (block whole start arguments) new is = absurd (let f : ⊥ = cc is in f)

numbers_keep : (o : Option ℕ) (items : List ℕ) (i : ℕ) (body : List ℕ → BodyTree) (new : BodyTree) → ((more : List ℕ) → length more ≡ length items → cost (body more) ≡ cost (body items))
    → option_map_or (λ n. placed items i n body) o (Err Kind) ≡ Ok new → cost new ≡ cost (body items)
numbers_keep None items i body new same is = absurd (let f : ⊥ = cc is in f)
numbers_keep (Some n) items i body new same is = placed_keeps items i n body new same is

pub items_keep : (i : ℕ) (to : Value) → Keeps (λ b. item_put b i to)
items_keep i to (pointers class fields items) new is = placed_keeps items i to (pointers class fields) new (λ more same. ap (λ n. 2 + length fields + n) same) is
items_keep i to (bytes class items) new is = numbers_keep (number_to 255 to) items i (bytes class) new (λ more same. ap (λ n. 2 + (n + 3) / 4) same) is
items_keep i to (words class items) new is = numbers_keep (number_to 65535 to) items i (words class) new (λ more same. ap (λ n. 2 + (n + 1) / 2) same) is
items_keep i to (home method receiver temporaries) new is = absurd (let f : ⊥ = cc is in f)
items_keep i to (block whole start arguments) new is = absurd (let f : ⊥ = cc is in f)
