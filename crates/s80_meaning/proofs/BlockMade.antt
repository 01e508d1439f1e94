-- A block is made, and a home.
use Rattle.std.proofs.Common.{arith, ◌≡◌, ◌∙◌, ◌⊎◌, inl, inr, ap, sym, subst, refl, ℕ, zero, suc, Bool, true, false, ◌==◌, if◌then◌else◌, List, [], ◌∷◌, ◌++◌, length, slice_get, Option, Some, None, option_and_then}
use Rattle.s80_object.specs.Body.{BodyTree, bytes, home, block, pointers, words}
use Rattle.s80_object.specs.Objects.{body_at, home_parts_of, with_body}
use Rattle.s80_object.specs.declared.value.Value.{Value}
use Rattle.s80_object.specs.declared.value.Value.TheVariants.{Object}
use Rattle.s80_machine.specs.World.{World, Key, with_objects}
use Rattle.s80_code.proofs.lemmas.TableLemmas.{value}
use Rattle.s80_machine.proofs.lemmas.SoundLists.{same_number}
use Rattle.s80_machine.specs.Shared.{Block, block_in, block_with, if_takes}
use Rattle.s80_meaning.proofs.Extends.{homes_pushed}
use Rattle.s80_meaning.proofs.Stays.{Facts, IsFine, IsPlaced, Later, key_of, placed_stays}
use Rattle.s80_meaning.proofs.Variables.{Alike}

found_pushed : {X : Type 0} (xs : List X) (x : X) (m : ℕ) (y : X) → slice_get (xs ++ x ∷ []) m ≡ Some y → (slice_get xs m ≡ Some y) ⊎ (x ≡ y)
found_pushed [] x zero y e = let same : x ≡ y = cc in inr same
found_pushed [] x (suc m) y e = cc
found_pushed (z ∷ xs) x zero y e = inl e
found_pushed (z ∷ xs) x (suc m) y e = found_pushed xs x m y e

last_pushed : {X : Type 0} (xs : List X) (x : X) → slice_get (xs ++ x ∷ []) (length xs) ≡ Some x
last_pushed [] x = refl
last_pushed (z ∷ xs) x = last_pushed xs x

-- a home's object names its method
pub home_key : (w : World) (key : Key) (number : ℕ) (r : Value) (temporaries : List Value) → slice_get w.keys number ≡ Some key
    → key_of (with_objects w (with_body w.objects (home number r temporaries))) (Object (length w.objects.bodies)) ≡ Some key
home_key w key number r temporaries there =
    ap (λ (o : Option BodyTree). option_and_then (λ (parts : ℕ × Value). slice_get w.keys parts.0) (option_and_then home_parts_of o)) (last_pushed w.objects.bodies (home number r temporaries)) ∙ there

module _ (w : World) (h n count : ℕ) where
  -- the objects with the block
  abbrev made : World
  made = with_objects w (with_body w.objects (block (Object h) n count))

  pub block_later : Later w made
  block_later = record { keys = λ n key e. e; homes = homes; ticks = omega arith }
    where
      homes : (whole : Value) (parts : ℕ × Value) → option_and_then home_parts_of (body_at w.objects whole) ≡ Some parts → option_and_then home_parts_of (body_at made.objects whole) ≡ Some parts
      homes (Object m) parts e = homes_pushed w.objects.bodies (block (Object h) n count) m parts e
      homes _ parts e = e

  pub block_placed : (facts : Facts) (key : Key) → IsPlaced facts w w.objects → key_of w (Object h) ≡ Some key → facts.kept key n ≡ Some count → IsPlaced facts w made.objects
  block_placed facts key fine keyed kept m whole b k e =
      elim (found_pushed w.objects.bodies (block (Object h) n count) m (block whole b k) e) [
        | inl there ↦ fine m whole b k there
        | inr same ↦ (let whole_is : Object h ≡ whole = cc in let number_is : n ≡ b = cc in let count_is : count ≡ k = cc in
            (key, subst (λ whole. key_of w whole ≡ Some key) whole_is keyed, ap (facts.kept key) (sym number_is) ∙ kept ∙ ap (λ z. Some z) count_is))
      ]

  pub block_alike : (facts : Facts) (key : Key) → IsFine facts w → key_of w (Object h) ≡ Some key → facts.kept key n ≡ Some count → Alike facts w made
  block_alike facts key fine keyed kept =
      record { later = block_later; fine = record { placed = placed_stays facts w made block_later made.objects (block_placed facts key fine.placed keyed kept); unique = fine.unique; made = fine.made; in_time = fine.in_time } }

-- what stands behind a block: the method of its home, which has such a block
abbrev pub IsBehind : Facts → World → Value → ℕ → ℕ → Type 0
IsBehind facts w whole start count = (key : Key) × (key_of w whole ≡ Some key) × (facts.kept key start ≡ Some count)

pub block_behind : (facts : Facts) (w : World) (r : Value) (count : ℕ) (b : Block) → IsPlaced facts w w.objects → block_with w.objects r count ≡ Some b → IsBehind facts w b.home b.start count
block_behind facts w (Object n) count b placed e = by_body (slice_get w.objects.bodies n) refl e
  where
    by_count : (whole : Value) (start arguments : ℕ) → slice_get w.objects.bodies n ≡ Some (block whole start arguments) → (takes : Bool) → (arguments == count) ≡ takes
        → (if takes then Some (record { object = n; home = whole; start = start; arguments = arguments }) else None) ≡ Some b → IsBehind facts w b.home b.start count
    by_count whole start arguments is false takes e = cc
    by_count whole start arguments is true takes e =
        let it : Block = record { object = n; home = whole; start = start; arguments = arguments } in
        let same : it ≡ b = value e in
        let h = placed n whole start arguments is in
        subst (λ (b : Block). IsBehind facts w b.home b.start count) same (h.0, h.1, h.2 ∙ ap (λ k. Some k) (same_number arguments count takes))

    by_body : (o : Option BodyTree) → slice_get w.objects.bodies n ≡ o → option_and_then (if_takes count) (option_and_then (block_in n) o) ≡ Some b → IsBehind facts w b.home b.start count
    by_body None is e = cc
    by_body (Some (block whole start arguments)) is e = by_count whole start arguments is (arguments == count) refl e
    by_body (Some (pointers class fields items)) is e = cc
    by_body (Some (bytes class items)) is e = cc
    by_body (Some (words class items)) is e = cc
    by_body (Some (home m r temporaries)) is e = cc
block_behind facts w _ count b placed e = cc
