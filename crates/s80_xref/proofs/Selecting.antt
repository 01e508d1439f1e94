-- The selector of a special message, as the table holds it.
use Rattle.std.proofs.Common.{◌≡◌, ◌≢◌, ◌∙◌, ap, sym, refl, ℕ, ◌<◌, ◌≤◌, ◌==◌, List, length, map, get_or, slice_get, Bool, true, false, cond, Option, Some, None, if◌then◌else◌, arith}
use Rattle.std.specs.Option.{option_map}
use Rattle.std.proofs.lemmas.Bool.Decides.{nat_tests}
use Rattle.std.proofs.lemmas.Option.{slice_get-map, slice_get_read, slice_get_past}
use Rattle.s80_code.specs.declared.special.SpecialMessage.{SpecialMessage as Held}
use Rattle.s80_code.specs.Special.{special_selectors, block_copy}

-- the number of `blockCopy:` is left out
abbrev pub unless_copies : ℕ → Option (List ℕ) → Option (List ℕ)
unless_copies n o = if n == block_copy then None else o

other : (n : ℕ) (o : Option (List ℕ)) → n ≢ block_copy → unless_copies n o ≡ o
other n o differs = by_test (n == block_copy) (grind (arith, nat_tests))
  where
    by_test : (copy : Bool) → copy ≡ false → cond copy None o ≡ o
    by_test true e = cc
    by_test false e = refl

pub special_there : (rows : List Held) (i n : ℕ) (m : Held) (word : List ℕ) → map (λ (m : Held). m.selector.now) rows ≡ special_selectors → i ≡ n → n ≢ block_copy
    → i < length rows → m ≡ get_or rows i m → word ≡ m.selector.now → Some word ≡ unless_copies n (slice_get special_selectors n)
special_there rows i n m word same is differs within read said =
    let here : slice_get rows i ≡ Some m = slice_get_read rows (length rows) i m refl within read in
    let there : slice_get special_selectors i ≡ Some m.selector.now =
    ap (λ l. slice_get l i) (sym same) ∙ slice_get-map (λ (m : Held). m.selector.now) rows i ∙ ap (option_map (λ (m : Held). m.selector.now)) here in
    ap Some said ∙ sym there ∙ ap (slice_get special_selectors) is ∙ sym (other n (slice_get special_selectors n) differs)

pub special_past : (rows : List Held) (i n : ℕ) → i ≡ n → n ≢ block_copy → length rows ≡ 32 → length rows ≤ i → None ≡ unless_copies n (slice_get special_selectors n)
special_past rows i n is differs count past = sym (slice_get_past special_selectors n (omega (arith, count, is, past))) ∙ sym (other n (slice_get special_selectors n) differs)
