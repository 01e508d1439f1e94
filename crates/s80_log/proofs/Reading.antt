-- A block in a piece of the log, and in all of it.
use Rattle.std.proofs.Common.{◌≡◌, inl, inr, ℕ, zero, suc, ◌+◌, ◌-◌, ◌≤◌, List, [], ◌∷◌, ◌++◌, length, take, drop, refl, sym, ap, ◌∙◌, subst, arith, append_assoc, length-take, length-drop}
use Rattle.std.proofs.lemmas.Bool.{cases_lt}
use Rattle.std.proofs.lemmas.List.{take-append-drop, drop-take}
use Rattle.std.proofs.Math.ListN.{drop_of_length-le}
use Rattle.s80_change.specs.declared.change.Change.{Change}
use Rattle.s80_change.specs.Block.{block}
use Rattle.s80_change.specs.Blocks.{BeginsWith, BeginsWithNone}

-- what stands from a place to the end of a front
front_from : (at end : ℕ) (file : List ℕ) → drop at (take end file) ≡ take (end - at) (drop at file)
front_from at end file =
    elim (cases_lt end at) [
      | inl over ↦
          let short : length (take end file) ≤ at = rw length-take (omega arith) in
          let none : end - at ≡ 0 = omega arith in
          drop_of_length-le (take end file) short ∙ rw none refl
      | inr within ↦
          let whole : at + (end - at) ≡ end = omega arith in
          let P : ℕ → Type 0 = λ n. drop at (take n file) ≡ take (end - at) (drop at file) in
          subst P whole (drop-take at (end - at) file)
    ]

take_all : (k : ℕ) (xs : List ℕ) → length xs ≤ k → take k xs ≡ xs
take_all zero [] le = refl
take_all zero (x ∷ xs) le = absurd (omega arith)
take_all (suc k) [] le = refl
take_all (suc k) (x ∷ xs) le = ap (λ l. x ∷ l) (take_all k xs (omega arith))

take_of_take : (k n : ℕ) (xs : List ℕ) → k ≤ n → take k (take n xs) ≡ take k xs
take_of_take zero n xs le = refl
take_of_take (suc k) zero xs le = absurd (omega arith)
take_of_take (suc k) (suc n) [] le = refl
take_of_take (suc k) (suc n) (x ∷ xs) le = ap (λ l. x ∷ l) (take_of_take k n xs (omega arith))

-- a piece is the first bytes of what the log holds from there on
pub piece_of : (k at end : ℕ) (file : List ℕ) → k ≤ end - at → take k (drop at file) ≡ take k (drop at (take end file))
piece_of k at end file le = sym (ap (take k) (front_from at end file) ∙ take_of_take k (end - at) (drop at file) le)

-- a block that a piece begins with
pub begins_whole : (k : ℕ) (piece whole : List ℕ) (change : Change) → piece ≡ take k whole → BeginsWith piece change → BeginsWith whole change
begins_whole k piece whole change e begins = record {
  lawful = begins.lawful;
  after = begins.after ++ drop k whole;
  begins = sym (take-append-drop k whole) ∙ ap (λ l. l ++ drop k whole) (sym e ∙ begins.begins) ∙ append_assoc (block change) begins.after (drop k whole);
}

-- no block begins with a piece, whatever follows it
pub none_after : (k : ℕ) (piece whole : List ℕ) → piece ≡ take k whole → ((more : List ℕ) → BeginsWithNone (piece ++ more)) → BeginsWithNone whole
none_after k piece whole e none = subst BeginsWithNone (ap (λ l. l ++ drop k whole) e ∙ take-append-drop k whole) (none (drop k whole))

-- the piece is all there is
pub none_whole : (k : ℕ) (piece whole : List ℕ) → piece ≡ take k whole → length whole ≤ k → BeginsWithNone piece → BeginsWithNone whole
none_whole k piece whole e all none = subst BeginsWithNone (e ∙ take_all k whole all) none

-- what the log holds from a place on isn't longer than the rest of it
pub held_length : (at end : ℕ) (file : List ℕ) → length (drop at (take end file)) ≤ end - at
held_length at end file = simp (length-drop, length-take) (omega arith)
