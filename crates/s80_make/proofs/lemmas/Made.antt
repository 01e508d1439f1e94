-- The items of generated input by their numbers.
use Rattle.std.proofs.Common.{◌≡◌, ℕ, zero, suc, ◌+◌, ◌*◌, ◌/◌, ◌%◌, ◌<◌, ◌≤◌, List, [], ◌∷◌, ◌++◌, length, length-append, map, take, slice_get, option_map, Some, inl, inr, refl, sym, ap, subst, ◌∙◌, arith}
use Rattle.std.proofs.lemmas.Bool.{cases_lt}
use Rattle.std.proofs.lemmas.List.{length-map, take_all}
use Rattle.std.proofs.lemmas.Option.{none-some, slice_get-map}
use Rattle.s80_chunk.specs.declared.item.Item.{Item}
use Rattle.s80_chunk.specs.declared.item.Role.TheVariants.{Method}
use Rattle.s80_chunk.specs.Chunks.{item_of}
use Rattle.s80_model.specs.declared.item.Query.TheVariants.{Condense}
use Rattle.s80_model.specs.declared.item.SessionItem.TheVariants.{Chunk, Query}
use Rattle.s80_make.specs.Items.{class_items, classes_items, items_each, make_items, method_text}

-- an element of a list of two parts
module _ {A : Type 0} where
  in_first : (xs ys : List A) (i : ℕ) (x : A) → slice_get xs i ≡ Some x → slice_get (xs ++ ys) i ≡ Some x
  in_first [] ys i x is = absurd (none-some x is)
  in_first (y ∷ xs) ys zero x is = is
  in_first (y ∷ xs) ys (suc i) x is = in_first xs ys i x is

  in_second : (xs ys : List A) (i : ℕ) → slice_get (xs ++ ys) (length xs + i) ≡ slice_get ys i
  in_second [] ys i = let at : 0 + i ≡ i = omega arith in ap (slice_get ys) at
  in_second (x ∷ xs) ys i = let at : suc (length xs) + i ≡ suc (length xs + i) = omega arith in ap (slice_get (x ∷ xs ++ ys)) at ∙ in_second xs ys i

-- the ten methods stand behind the definition and the head
method_at : (k j : ℕ) → j < 10 → slice_get (class_items k) (suc (suc j)) ≡ Some (item_of Method (method_text k j))
method_at k zero few = refl
method_at k (suc zero) few = refl
method_at k (suc (suc zero)) few = refl
method_at k (suc (suc (suc zero))) few = refl
method_at k (suc (suc (suc (suc zero)))) few = refl
method_at k (suc (suc (suc (suc (suc zero))))) few = refl
method_at k (suc (suc (suc (suc (suc (suc zero)))))) few = refl
method_at k (suc (suc (suc (suc (suc (suc (suc zero))))))) few = refl
method_at k (suc (suc (suc (suc (suc (suc (suc (suc zero)))))))) few = refl
method_at k (suc (suc (suc (suc (suc (suc (suc (suc (suc zero))))))))) few = refl
method_at k (suc (suc (suc (suc (suc (suc (suc (suc (suc (suc j)))))))))) few = absurd (omega (arith, few))

-- an item of a class by its place
pub at_place : (k place at : ℕ) (item wanted : Item) → place ≡ at → item ≡ wanted → slice_get (class_items k) at ≡ Some wanted → slice_get (class_items k) place ≡ Some item
at_place k place at item wanted is same there = ap (slice_get (class_items k)) is ∙ there ∙ ap Some (sym same)

pub at_method : (k place j : ℕ) (item : Item) → place ≡ j + 2 → j < 10 → item ≡ item_of Method (method_text k j) → slice_get (class_items k) place ≡ Some item
at_method k place j item is few same =
    let on : place ≡ suc (suc j) = omega (arith, is) in
    at_place k place (suc (suc j)) item (item_of Method (method_text k j)) on same (method_at k j few)

length_classes : (count : ℕ) → length (classes_items count) ≡ items_each * count
length_classes zero = omega arith
length_classes (suc count) =
    let both : length (classes_items (suc count)) ≡ length (classes_items count) + 14 = length-append (classes_items count) (class_items (suc count)) in
    omega (arith, both, length_classes count)

-- the item of a number is an item of one of the classes
at_last : (count number : ℕ) (item : Item) → slice_get (class_items (1 + number / items_each)) (number % items_each) ≡ Some item → items_each * count ≤ number → number < items_each * suc count → slice_get (classes_items (suc count)) number ≡ Some item
at_last count number item is from few =
    let on : 1 + number / items_each ≡ suc count = omega (arith, from, few) in
    let at : number ≡ length (classes_items count) + number % items_each = omega (arith, length_classes count, from, few) in
    let P : ℕ → Type 0 = λ k. slice_get (class_items k) (number % items_each) ≡ Some item in
    ap (slice_get (classes_items (suc count))) at ∙ in_second (classes_items count) (class_items (suc count)) (number % items_each) ∙ subst P on is

class_at : (count number : ℕ) (item : Item) → slice_get (class_items (1 + number / items_each)) (number % items_each) ≡ Some item → number < items_each * count → slice_get (classes_items count) number ≡ Some item
class_at zero number item is few = absurd (omega (arith, few))
class_at (suc count) number item is few =
    elim (cases_lt number (items_each * count)) [
      | inl before ↦ in_first (classes_items count) (class_items (suc count)) number item (class_at count number item is before)
      | inr from ↦ at_last count number item is from few
    ]

pub made_at : (count number : ℕ) (item : Item) → slice_get (class_items (1 + number / items_each)) (number % items_each) ≡ Some item → number < items_each * count → slice_get (make_items count) number ≡ Some (Chunk item)
made_at count number item is few =
    in_first (map Chunk (classes_items count)) (Query Condense ∷ []) number (Chunk item) (slice_get-map Chunk (classes_items count) number ∙ ap (option_map Chunk) (class_at count number item is few))

length_chunks : (count : ℕ) → length (map Chunk (classes_items count)) ≡ items_each * count
length_chunks count = length-map (classes_items count) Chunk ∙ length_classes count

-- condensing is the last
pub condense_at : (count : ℕ) → slice_get (make_items count) (items_each * count) ≡ Some (Query Condense)
condense_at count =
    let at : items_each * count ≡ length (map Chunk (classes_items count)) + 0 = omega (arith, length_chunks count) in
    ap (slice_get (make_items count)) at ∙ in_second (map Chunk (classes_items count)) (Query Condense ∷ []) 0

pub all_items : (count : ℕ) → take (items_each * count + 1) (make_items count) ≡ make_items count
all_items count =
    let both : length (make_items count) ≡ length (map Chunk (classes_items count)) + 1 = length-append (map Chunk (classes_items count)) (Query Condense ∷ []) in
    take_all (items_each * count + 1) (make_items count) (omega (arith, both, length_chunks count))
