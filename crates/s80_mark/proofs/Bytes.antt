-- What the bytes of a mark file say of its slots.
use Rattle.std.proofs.Common.{◌≡◌, ◌≢◌, ◌<◌, ◌≤◌, ◌⊎◌, inl, inr, ℕ, ◌+◌, ◌-◌, min, Bool, true, false, List, [], ◌∷◌, length, take, drop, refl, sym, ◌∙◌, ap, subst, arith, length-take, get_or}
use Rattle.std.specs.Prelude.{slice_index, slice_range, nat_le, ◌&&◌, ◌==◌, Some, None, if◌then◌else◌}
use Rattle.std.proofs.lemmas.Bool.Decides.{nat_tests}
use Rattle.std.proofs.lemmas.List.{get_or-take, get_or-drop, take-take, drop-take, drop-drop, take_min}
use Rattle.std.proofs.lemmas.Slice.{between_is}
use Rattle.s80_disk.specs.Image.{Wrote, Torn}
use Rattle.s80_mark.specs.declared.mark.MarkState.{MarkState}
use Rattle.s80_mark.specs.declared.slots.Slot.{Slot}
use Rattle.s80_mark.specs.declared.slots.Slot.TheVariants.{First, Second}
use Rattle.s80_mark.specs.Mark.{is_open, mark_behind, mark_of}
use Rattle.s80_mark.specs.Slots.{place_of, mark_in, slots_of}

-- a gate in the first 128 bytes
gate_in_front : (file : List ℕ) (at : ℕ) → at < 128 → (nat_le 128 (length (take 128 file)) && (slice_index (take 128 file) at == 33)) ≡ (nat_le 128 (length file) && (slice_index file at == 33))
gate_in_front file at lt =
    let long : length (take 128 file) ≡ min 128 (length file) = length-take 128 file in
    let same : slice_index (take 128 file) at ≡ slice_index file at = get_or-take 128 file at 0 lt in
    grind (arith, nat_tests)

-- a slot in them
pub open_in_front : (file : List ℕ) (slot : Slot) → mark_in (take 128 file) slot ≡ mark_in file slot
open_in_front file First =
    let mark = ap (take 43) (drop-take 1 127 file) ∙ take-take 43 127 (drop 1 file) (omega arith) in
    λ i. if gate_in_front file 0 (omega arith) i then Some (mark_of (mark i)) else None
open_in_front file Second =
    let mark = ap (take 43) (drop-take 65 63 file) ∙ take-take 43 63 (drop 65 file) (omega arith) in
    λ i. if gate_in_front file 64 (omega arith) i then Some (mark_of (mark i)) else None

-- what was read of the first 128 bytes
pub slots_read : (buf file : List ℕ) (count : ℕ) → length buf ≡ 128 → count ≡ min (length buf) (length file) → take count buf ≡ take count file → slots_of (take count buf) ≡ slots_of file
slots_read buf file count long is same =
    let front : take count buf ≡ take 128 file = same ∙ ap (λ (n : ℕ). take n file) (is ∙ ap (λ (n : ℕ). min n (length file)) long) ∙ take_min 128 file in
    ap slots_of front ∙ λ i. record { first = open_in_front file First i; second = open_in_front file Second i }

-- both slots stand in front
pub place_below : (slot : Slot) → place_of slot ≤ 64
place_below First = omega arith
place_below Second = omega arith

-- an open gate has its mark behind it
pub none_or_behind : (file : List ℕ) (slot : Slot) → (mark_in file slot ≡ None) ⊎ (mark_in file slot ≡ Some (mark_behind file (place_of slot)))
none_or_behind file slot = by_gate (is_open file (place_of slot))
  where
    by_gate : (gate : Bool) → ((if gate then Some (mark_behind file (place_of slot)) else None) ≡ None) ⊎ ((if gate then Some (mark_behind file (place_of slot)) else None) ≡ Some (mark_behind file (place_of slot)))
    by_gate true = inr refl
    by_gate false = inl refl

-- an open gate, and one that isn't
pub opened : (file : List ℕ) (slot : Slot) → 128 ≤ length file → slice_index file (place_of slot) ≡ 33 → mark_in file slot ≡ Some (mark_behind file (place_of slot))
opened file slot long gate =
    let is : is_open file (place_of slot) ≡ true = grind (arith, nat_tests) in
    ap (λ (b : Bool). if b then Some (mark_behind file (place_of slot)) else None) is

pub closed : (file : List ℕ) (slot : Slot) → slice_index file (place_of slot) ≢ 33 → mark_in file slot ≡ None
closed file slot gate =
    let is : is_open file (place_of slot) ≡ false = grind (arith, nat_tests) in
    ap (λ (b : Bool). if b then Some (mark_behind file (place_of slot)) else None) is

-- the mark that is read behind an open gate
pub read_behind : (file : List ℕ) (slot : Slot) (place : ℕ) (mark : MarkState) → place ≡ place_of slot → 128 ≤ length file → slice_index file place ≡ 33 → mark ≡ mark_of (slice_range file (place + 1) (place + 1 + 43)) → Some mark ≡ mark_in file slot
read_behind file slot place mark here long gate is =
    let end : place + 1 + 43 ≡ place + 44 = omega arith in
    let behind : mark ≡ mark_behind file place = is ∙ ap (λ (n : ℕ). mark_of (slice_range file (place + 1) n)) end in
    ap Some (behind ∙ ap (mark_behind file) here) ∙ sym (opened file slot long (ap (slice_index file) (sym here) ∙ gate))

-- a slot stays where its bytes do
pub same_slot : (old new : List ℕ) (slot : Slot) → length new ≡ length old → slice_index new (place_of slot) ≡ slice_index old (place_of slot) → slice_range new (place_of slot + 1) (place_of slot + 44) ≡ slice_range old (place_of slot + 1) (place_of slot + 44) → mark_in new slot ≡ mark_in old slot
same_slot old new slot long gate mark = λ i. if nat_le 128 (long i) && (gate i == 33) then Some (mark_of (mark i)) else None

module _ (at n : ℕ) (old new : List ℕ) (torn : Torn at n old new) (fits : at + n ≤ length old) where
  -- a torn write leaves what is outside its range
  pub same_length : length new ≡ length old
  same_length = omega (arith, torn.no_shorter, torn.no_longer)

  front : take at new ≡ take at old
  front = let e : min at (length old) ≡ at = omega arith in let P : ℕ → Type 0 = λ k. take k new ≡ take k old in subst P e torn.before

  front_to : (j : ℕ) → j ≤ at → take j new ≡ take j old
  front_to j le = sym (take-take j at new le) ∙ ap (take j) front ∙ take-take j at old le

  rest_from : (i : ℕ) → at + n ≤ i → drop i new ≡ drop i old
  rest_from i le =
      let e : at + n + (i - (at + n)) ≡ i = omega arith in
      let P : ℕ → Type 0 = λ k. drop k new ≡ drop k old in
      subst P e (sym (drop-drop (i - (at + n)) (at + n) new) ∙ ap (drop (i - (at + n))) torn.after ∙ drop-drop (i - (at + n)) (at + n) old)

  pub part_below : (i j : ℕ) → j ≤ at → slice_range new i j ≡ slice_range old i j
  part_below i j le = between_is new i j ∙ ap (drop i) (front_to j le) ∙ sym (between_is old i j)

  pub part_above : (i j : ℕ) → at + n ≤ i → slice_range new i j ≡ slice_range old i j
  part_above i j le = ap (take (j - i)) (rest_from i le)

  pub byte_below : (i : ℕ) → i < at → slice_index new i ≡ slice_index old i
  byte_below i lt = sym (get_or-take at new i 0 lt) ∙ ap (λ (l : List ℕ). get_or l i 0) front ∙ get_or-take at old i 0 lt

  pub byte_above : (i : ℕ) → at + n ≤ i → slice_index new i ≡ slice_index old i
  byte_above i le =
      let e : i + 0 ≡ i = omega arith in
      let P : ℕ → Type 0 = λ k. slice_index new k ≡ slice_index old k in
      subst P e (sym (get_or-drop i new 0 0) ∙ ap (λ (l : List ℕ). get_or l 0 0) (rest_from i le) ∙ get_or-drop i old 0 0)

-- a byte that was written
pub written : (at byte : ℕ) (old new : List ℕ) → Wrote at (byte ∷ []) old new → slice_index new at ≡ byte
written at byte old new wrote =
    let e : at + 0 ≡ at = omega arith in
    let P : ℕ → Type 0 = λ k. slice_index new k ≡ byte in
    subst P e (sym (get_or-drop at new 0 0) ∙ sym (get_or-take 1 (drop at new) 0 0 (omega arith)) ∙ ap (λ (l : List ℕ). get_or l 0 0) wrote.here)
