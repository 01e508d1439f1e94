-- What the writes into a slot leave of both slots.
use Rattle.std.proofs.Common.{◌≡◌, ◌≤◌, ◌⊎◌, inl, inr, ⊎_elim, ℕ, ◌+◌, ◌-◌, Bool, true, false, List, [], ◌∷◌, length, take, drop, sym, ◌∙◌, ap, subst, arith}
use Rattle.std.specs.Prelude.{IsTrue, is_some, slice_index, Option, Some, None}
use Rattle.s80_disk.specs.Image.{Wrote, Torn}
use Rattle.s80_mark.specs.declared.mark.MarkState.{MarkState}
use Rattle.s80_mark.specs.declared.slots.Slot.{Slot}
use Rattle.s80_mark.specs.declared.slots.Slot.TheVariants.{First, Second}
use Rattle.s80_mark.specs.Mark.{mark_behind, mark_of}
use Rattle.s80_mark.specs.Slots.{place_of, mark_in}
use Rattle.s80_mark.specs.Writes.{KeepsOther, Closes, IsClosed, Fills, IsFilled}
use Rattle.s80_mark.proofs.Bytes.{place_below, none_or_behind, opened, closed, same_slot, same_length, part_below, part_above, byte_below, byte_above, written}

-- a write inside a slot leaves the other
keeps_other : (slot : Slot) (at n : ℕ) (old new : List ℕ) → 128 ≤ length old → place_of slot ≤ at → at + n ≤ place_of slot + 44 → Torn at n old new → KeepsOther slot old new
keeps_other First at n old new long from to torn =
    let fits : at + n ≤ length old = omega arith in
    same_slot old new Second (same_length at n old new torn fits) (byte_above at n old new torn fits 64 (omega arith)) (part_above at n old new torn fits 65 108 (omega arith))
keeps_other Second at n old new long from to torn =
    let fits : at + n ≤ length old = omega arith in
    same_slot old new First (same_length at n old new torn fits) (byte_below at n old new torn fits 0 (omega arith)) (part_below at n old new torn fits 1 44 (omega arith))

module _ (slot : Slot) (place : ℕ) (here : place ≡ place_of slot) where
  module _ (old new : List ℕ) (long : 128 ≤ length old) where
    -- a write inside the slot keeps the length
    still_long : (at n : ℕ) → at + n ≤ place + 44 → Torn at n old new → 128 ≤ length new
    still_long at n to torn = omega (arith, same_length at n old new torn (omega (arith, place_below slot)), long)

    -- a write of the gate leaves the mark behind it
    same_behind : Torn place 1 old new → mark_behind new (place_of slot) ≡ mark_behind old (place_of slot)
    same_behind torn = ap mark_of (part_above place 1 old new torn (omega (arith, place_below slot)) (place_of slot + 1) (place_of slot + 44) (omega arith))

    -- a write behind a closed gate leaves it closed
    stays_closed : (n : ℕ) → n ≤ 43 → Torn (place + 1) n old new → mark_in old slot ≡ None → mark_in new slot ≡ None
    stays_closed n few torn was =
        let gate = byte_below (place + 1) n old new torn (omega (arith, place_below slot)) (place_of slot) (omega arith) in
        closed new slot (λ e. let h : None ≡ Some (mark_behind old (place_of slot)) = sym was ∙ opened old slot long (sym gate ∙ e) in cc)

  -- the gate that was written
  gate_written : (byte : ℕ) (old new : List ℕ) → Wrote place (byte ∷ []) old new → slice_index new (place_of slot) ≡ byte
  gate_written byte old new wrote = ap (slice_index new) (sym here) ∙ written place byte old new wrote

  -- closing an open gate
  pub closes : (was_open : Bool) → was_open ≡ true → (old new : List ℕ) → Torn place 1 old new → Closes slot was_open old new
  closes was_open open_is old new torn = λ long was. (
    keeps_other slot place 1 old new long (omega arith) (omega arith) torn,
    ⊎_elim (λ none. inr none) (λ some. inl (some ∙ ap Some (same_behind old new long torn) ∙ sym (still (none_or_behind old slot) (was ∙ open_is)))) (none_or_behind new slot),
  )
    where
      still : (mark_in old slot ≡ None) ⊎ (mark_in old slot ≡ Some (mark_behind old (place_of slot))) → is_some (mark_in old slot) ≡ true → mark_in old slot ≡ Some (mark_behind old (place_of slot))
      still (inl none) is = absurd (let h : false ≡ true = ap (λ (o : Option MarkState). is_some o) (sym none) ∙ is in cc)
      still (inr some) is = some

  -- when it is closed
  pub is_closed : (was_open : Bool) (old new : List ℕ) → Torn place 1 old new → Wrote place (0 ∷ []) old new → IsClosed slot was_open old new
  is_closed was_open old new torn wrote = λ long was. (
    keeps_other slot place 1 old new long (omega arith) (omega arith) torn,
    closed new slot (λ e. let h : 0 ≡ 33 = sym (gate_written 0 old new wrote) ∙ e in omega (arith, h)),
  )

  -- a mark behind a closed gate, whole or in part
  pub stages : (mark : MarkState) (tells : Bool) (n : ℕ) → n ≤ 43 → (old new : List ℕ) → Torn (place + 1) n old new → Fills tells slot mark old new
  stages mark tells n few old new torn = λ told long was. (keeps_other slot (place + 1) n old new long (omega arith) (omega arith) torn, inl (stays_closed old new long n few torn was))

  -- the mark that was written
  pub behind_is : (mark : MarkState) (piece old new : List ℕ) → length piece ≡ 43 → mark_of piece ≡ mark → Wrote (place + 1) piece old new → mark_behind new (place_of slot) ≡ mark
  behind_is mark piece old new count is wrote =
      let e : length piece ≡ place_of slot + 44 - (place_of slot + 1) = omega arith in
      let at : place + 1 ≡ place_of slot + 1 = omega arith in
      let P : ℕ → ℕ → Type 0 = λ n k. take n (drop k new) ≡ piece in
      ap mark_of (subst (P (place_of slot + 44 - (place_of slot + 1))) at (let Q : ℕ → Type 0 = λ n. P n (place + 1) in subst Q e wrote.here)) ∙ is

  module _ (mark : MarkState) (n : ℕ) (few : n ≤ 43) (old mid new : List ℕ) (staged : Torn (place + 1) n old mid) (opens : Torn place 1 mid new) where
    -- between the two writes
    mid_long : 128 ≤ length old → 128 ≤ length mid
    mid_long long = still_long old mid long (place + 1) n (omega arith) staged

    -- both writes leave the other slot
    both_keep : 128 ≤ length old → KeepsOther slot old new
    both_keep long = keeps_other slot place 1 mid new (mid_long long) (omega arith) (omega arith) opens ∙ keeps_other slot (place + 1) n old mid long (omega arith) (omega arith) staged

    -- the second write leaves the mark
    same_mark : 128 ≤ length old → mark_behind mid (place_of slot) ≡ mark → mark_behind new (place_of slot) ≡ mark
    same_mark long is = same_behind mid new (mid_long long) opens ∙ is

    -- opening the gate before a mark
    pub fills : (tells : Bool) → (IsTrue tells → mark_behind mid (place_of slot) ≡ mark) → Fills tells slot mark old new
    fills tells is = λ told long was. (both_keep long, ⊎_elim (λ none. inl none) (λ some. inr (some ∙ ap Some (same_mark long (is told)))) (none_or_behind new slot))

    -- when it is open
    pub is_filled : mark_behind mid (place_of slot) ≡ mark → Wrote place (33 ∷ []) mid new → IsFilled slot mark old new
    is_filled is wrote = λ long. (both_keep long, opened new slot (still_long mid new (mid_long long) place 1 (omega arith) opens) (gate_written 33 mid new wrote) ∙ ap Some (same_mark long is))
