-- The first activation of a method gives it its number, which it keeps.
use Rattle.std.proofs.Common.{arith, ◌≡◌, ◌∙◌, ap, sym, subst, refl, ℕ, zero, suc, ◌+◌, inl, inr, not, cond, ◌||◌, List, [], ◌∷◌, ◌++◌, length, slice_get, Some, Bool, true, false, arith, if◌then◌else◌}
use Rattle.std.specs.List.{list_any, position_or_len}
use Rattle.s80_machine.specs.World.{World, Key, number_in, numbered, same_key}
use Rattle.s80_machine.proofs.lemmas.SoundLists.{get_either_last, keys_same, numbered_there, once_front}
use Rattle.s80_meaning.proofs.Stays.{Facts, IsFine, Later, made_stays, placed_stays}
use Rattle.s80_meaning.proofs.Variables.{Alike}

module _ {X : Type 0} (test : X → Bool) where
  -- what stands in front keeps its place
  place_front : (xs ys : List X) (n : ℕ) (y : X) → slice_get xs n ≡ Some y → position_or_len test xs ≡ n → position_or_len test (xs ++ ys) ≡ n
  place_front [] ys n y there e = cc
  place_front (x ∷ xs) ys n y there e = by_test (test x) n there (place_front xs ys) e
    where
      by_test : (b : Bool) (n : ℕ) → slice_get (x ∷ xs) n ≡ Some y → ((m : ℕ) (z : X) → slice_get xs m ≡ Some z → position_or_len test xs ≡ m → position_or_len test (xs ++ ys) ≡ m)
          → cond (not b) (1 + position_or_len test xs) 0 ≡ n → cond (not b) (1 + position_or_len test (xs ++ ys)) 0 ≡ n
      by_test true n there more e = e
      by_test false zero there more e = absurd (omega (arith, e))
      by_test false (suc m) there more e =
          let same : position_or_len test (xs ++ ys) ≡ m = more m y there (omega (arith, e)) in
          omega (arith, same)

  -- and what is added comes behind all of them
  place_last : (x : X) (xs : List X) → test x ≡ true → list_any test xs ≡ false → position_or_len test (xs ++ x ∷ []) ≡ length xs
  place_last x [] is none = ap (λ b. cond (not b) (1 + 0) 0) is
  place_last x (y ∷ ys) is none = by_test (test y) (place_last x ys is) none
    where
      by_test : (b : Bool) → (list_any test ys ≡ false → position_or_len test (ys ++ x ∷ []) ≡ length ys) → (b || list_any test ys) ≡ false
          → cond (not b) (1 + position_or_len test (ys ++ x ∷ [])) 0 ≡ length (y ∷ ys)
      by_test true more none = cc
      by_test false more none = let same : position_or_len test (ys ++ x ∷ []) ≡ length ys = more none in omega (arith, same)

-- each key has one number, and so it has with one more
more_unique : (key : Key) (keys : List Key) → ((n : ℕ) (k : Key) → slice_get keys n ≡ Some k → position_or_len (same_key k) keys ≡ n) → (b : Bool) → list_any (same_key key) keys ≡ b
    → (n : ℕ) (k : Key) → slice_get (if b then keys else keys ++ key ∷ []) n ≡ Some k → position_or_len (same_key k) (if b then keys else keys ++ key ∷ []) ≡ n
more_unique key keys unique true is n k there = unique n k there
more_unique key keys unique false is n k there = elim (get_either_last keys key n k there) [
  | inl before ↦ place_front (same_key k) keys (key ∷ []) n k before (unique n k before)
  | inr last ↦ subst (λ (k : Key). position_or_len (same_key k) (keys ++ key ∷ []) ≡ n) last.1 (place_last (same_key key) key keys (keys_same key) is ∙ sym last.0)
]

pub numbered_alike : (facts : Facts) (w : World) (key : Key) → IsFine facts w → Alike facts w (numbered w key)
numbered_alike facts w key fine = record {
  later = later;
  fine = record {
    placed = placed_stays facts w (numbered w key) later w.objects fine.placed;
    unique = more_unique key w.keys fine.unique (list_any (same_key key) w.keys) refl;
    made = made_stays facts w (numbered w key) later w.objects fine.made;
    in_time = fine.in_time;
  };
}
  where
    later : Later w (numbered w key)
    later = record { keys = λ n k e. once_front (same_key key) key w.keys n k e; homes = λ whole parts e. e; ticks = omega arith }

pub number_there : (w : World) (key : Key) → slice_get (numbered w key).keys (number_in (numbered w key) key) ≡ Some key
number_there w key = numbered_there w key
