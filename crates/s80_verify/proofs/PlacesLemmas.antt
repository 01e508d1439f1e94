-- The array of places while it is filled.
use Rattle.std.proofs.Common.{◌≡◌, ◌≢◌, ◌∙◌, ap, sym, subst, refl, ℕ, zero, suc, ◌+◌, ◌<◌, ◌≤◌, ◌⊎◌, inl, inr, List, [], ◌∷◌, Option, Some, None, length, drop, slice_get, set, replicate, arith}
use Rattle.std.proofs.lemmas.Bool.{cases_lt}
use Rattle.s80_code.specs.declared.instruction.Instruction.{Instruction}
use Rattle.s80_code.specs.Table.{Stands, decoded}
use Rattle.s80_code.proofs.lemmas.TableLemmas.{value}
use Rattle.s80_verify.specs.Reach.{IsPlaceAfter, IsPlace, IsInstruction}
use Rattle.s80_verify.specs.Found.{held, ArePlaces, PlacesSoFar}
use Rattle.s80_verify.proofs.lemmas.PlaceLemmas.{same_instruction, goes_forward, Precedes, order, place_behind, one_before}
use Rattle.s80_verify.proofs.lemmas.LawLemmas.{none_stands}
use Rattle.s80_verify.proofs.lemmas.ListLemmas.{same_or_not, set_here, set_there, nothing_held, replicate_long, set_long}

pub no_places : (bytes : List ℕ) → PlacesSoFar bytes (replicate 1024 None) 0
no_places bytes =
    record {
      long = replicate_long {A = Option ℕ} None 1024;
      placed = (0, refl);
      sound = λ at from e. let differs = sym e ∙ nothing_held 1024 at in cc;
      whole = λ at from i p s h. absurd (omega (arith, goes_forward bytes from i at s));
    }

pub more_sound : (bytes : List ℕ) (before : List (Option ℕ)) (at : ℕ) (i : Instruction) (next : ℕ) → PlacesSoFar bytes before at → Stands bytes at i next → next < length before
    → (to from : ℕ) → held (slice_get (set before next (Some at)) to) ≡ Some from → IsPlace bytes from × ((j : Instruction) × Stands bytes from j to)
more_sound bytes before at i next h s short to from e =
    elim (same_or_not to next) [
      | inl same ↦
          let here : Some at ≡ Some from = sym (ap held (set_here before next (Some at) short)) ∙ ap (λ k. held (slice_get (set before next (Some at)) k)) (sym same) ∙ e in
          let there : Stands bytes at i to = subst (λ (q : ℕ). Stands bytes at i q) (sym same) s in
          subst (λ (q : ℕ). IsPlace bytes q × ((j : Instruction) × Stands bytes q j to)) (value here) (h.placed, (i, there))
      | inr differs ↦ h.sound to from (sym (ap held (set_there before next to (Some at) differs)) ∙ e)
    ]

pub not_between : (bytes : List ℕ) (at from next to : ℕ) (i j : Instruction) → IsPlace bytes at → IsPlace bytes from → Stands bytes at i next → Stands bytes from j to → at < to → to < next → ⊥
not_between bytes at from next to i j p q s t low high =
    elim (order bytes from at q p) [
      | inl same ↦ omega (arith, (same_instruction bytes at j i to next (subst (λ (x : ℕ). Stands bytes x j to) same t) s).place)
      | inr (inl first) ↦ omega (arith, first.upto, (same_instruction bytes from first.instruction j first.next to first.stands t).place)
      | inr (inr second) ↦ omega (arith, second.upto, (same_instruction bytes at second.instruction i second.next next second.stands s).place, goes_forward bytes from j to t)
    ]

pub more_whole : (bytes : List ℕ) (before : List (Option ℕ)) (at : ℕ) (i : Instruction) (next : ℕ) → PlacesSoFar bytes before at → Stands bytes at i next → next < length before
    → (to from : ℕ) (j : Instruction) → IsPlace bytes from → Stands bytes from j to → to ≤ next → held (slice_get (set before next (Some at)) to) ≡ Some from
more_whole bytes before at i next h s short to from j p t upto =
    elim (same_or_not to next) [
      | inl same ↦
          let there : Stands bytes from j next = subst (λ (q : ℕ). Stands bytes from j q) same t in
          ap (λ k. held (slice_get (set before next (Some at)) k)) same ∙ ap held (set_here before next (Some at) short)
          ∙ ap (λ x. Some x) (one_before bytes at from i j next h.placed p s there)
      | inr differs ↦ elim (cases_lt at to) [
        | inl behind ↦ absurd (not_between bytes at from next to i j h.placed p s t behind (omega arith))
        | inr before_it ↦ ap held (set_there before next to (Some at) differs) ∙ h.whole to from j p t (omega arith)
      ]
    ]

pub more_places : (bytes : List ℕ) (before : List (Option ℕ)) (at : ℕ) (i : Instruction) (next : ℕ) → PlacesSoFar bytes before at → Stands bytes at i next → next < length before → PlacesSoFar bytes (set before next (Some at)) next
more_places bytes before at i next h s short =
    record { long = set_long before next (Some at) ∙ h.long; placed = place_behind bytes at i next h.placed s; sound = more_sound bytes before at i next h s short; whole = more_whole bytes before at i next h s short }

pub last_place : (bytes : List ℕ) (at from to : ℕ) (i : Instruction) → decoded (drop at bytes) ≡ None → IsPlace bytes at → IsPlace bytes from → Stands bytes from i to → to ≤ at
last_place bytes at from to i e p q t =
    elim (order bytes from at q p) [
      | inl same ↦ absurd (none_stands bytes at i to e (subst (λ (x : ℕ). Stands bytes x i to) same t))
      | inr (inl first) ↦ omega (arith, first.upto, (same_instruction bytes from first.instruction i first.next to first.stands t).place)
      | inr (inr second) ↦ absurd (none_stands bytes at second.instruction second.next e second.stands)
    ]

pub all_places : (bytes : List ℕ) (before : List (Option ℕ)) (at : ℕ) → PlacesSoFar bytes before at → decoded (drop at bytes) ≡ None → ArePlaces bytes before
all_places bytes before at h e =
    record { sound = h.sound; whole = λ to from i p t. h.whole to from i p t (last_place bytes at from to i e h.placed p t) }

-- a place is the first, or an instruction ends there
pub is_behind : (bytes : List ℕ) (before : List (Option ℕ)) (at : ℕ) → ArePlaces bytes before → IsPlace bytes at → (at ≡ 0) ⊎ ((from : ℕ) × (held (slice_get before at) ≡ Some from))
is_behind bytes before at h (zero, first) = inl first
is_behind bytes before at h (suc n, (from, i, p, s)) = inr (from, h.whole at from i (n, p) s)

pub is_place : (bytes : List ℕ) (before : List (Option ℕ)) (at from : ℕ) → ArePlaces bytes before → held (slice_get before at) ≡ Some from → IsPlace bytes at
is_place bytes before at from h e = let (p, (i, s)) = h.sound at from e in place_behind bytes from i at p s

pub stands_at : (bytes : List ℕ) (at width : ℕ) (i : Instruction) → decoded (drop at bytes) ≡ Some (i, width) → Stands bytes at i (at + width)
stands_at bytes at width i e = record { width = width; is_decoded = e; behind = refl }

pub place_or_not : (bytes : List ℕ) (before : List (Option ℕ)) (at : ℕ) → ArePlaces bytes before → at ≢ 0 → held (slice_get before at) ≡ None → IsPlace bytes at → ⊥
place_or_not bytes before at h differs none p =
    elim (is_behind bytes before at h p) [
      | inl first ↦ differs first
      | inr found ↦ (let both = sym none ∙ found.1 in cc)
    ]
