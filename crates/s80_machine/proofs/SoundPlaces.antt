-- Places of verified code: where a step leads, and where a 200 may stand.
use Rattle.std.proofs.Common.{◌≡◌, ◌∙◌, ap, sym, subst, refl, ℕ, zero, suc, ◌+◌, ◌-◌, ◌≤◌, inl, inr, ◌||◌, pos, ◌+ℤ◌, ◌-ℤ◌, ◌*ℤ◌, List, [], ◌∷◌, Some, Bool, true, false, length, drop, arith}
use Rattle.std.specs.Option.{option_map_or}
use Rattle.std.proofs.lemmas.List.{drop-drop}
use Rattle.std.specs.List.{list_any}
use Rattle.s80_code.specs.declared.code.Code.{Code}
use Rattle.s80_code.specs.declared.instruction.Instruction.{Instruction}
use Rattle.s80_code.specs.declared.instruction.Instruction.TheVariants.{PushContext, SendSpecial, Jump}
use Rattle.s80_code.specs.Special.{block_copy}
use Rattle.s80_code.specs.Table.{Stands, decoded, formed, with_one, row}
use Rattle.s80_code.proofs.lemmas.TableLemmas.{value, row_law}
use Rattle.s80_verify.specs.declared.stack.Stack.{Stack}
use Rattle.s80_verify.specs.declared.stack.Stack.TheVariants.{OfBlock}
use Rattle.s80_verify.specs.Effect.{takes, leaves, goes_on, Jumps, Goes}
use Rattle.s80_verify.specs.Reach.{IsPlaceAfter, IsPlace, Counts, Begins, Leads, ReachedIn, Reached}
use Rattle.s80_verify.specs.Record.{HasDepths}
use Rattle.s80_verify.proofs.lemmas.LawLemmas.{all_marked, fits_there, fits_as, marked_is_some}
use Rattle.s80_verify.proofs.lemmas.JumpLemmas.{same_place, jump_is, does_jump}
use Rattle.s80_verify.proofs.lemmas.PlaceLemmas.{same_instruction, goes_forward, ends_within, moved, place_behind, one_before, front_at}
use Rattle.s80_machine.specs.Sound.{IsNoCopy}
use Rattle.s80_machine.specs.Turn.{begins_block, instructions_in, holds_block}

-- ---- steps

module _ (code : Code) (at : ℕ) (stack : Stack) (depth : ℕ) (reached : Reached code at stack depth) where
  pub reach_behind : (i : Instruction) (next after : ℕ) → Stands code.bytes at i next → takes i ≤ depth → goes_on i ≡ true → after ≡ (depth - takes i) + leaves i → Reached code next stack after
  reach_behind i next after s enough on left =
      (suc reached.0, (at, stack, depth, reached.1, inl (record { instruction = i; next = next; stands = s; enough = enough; leads = inl (on, refl); same = refl; left = left })))

  pub reach_jump : (i : Instruction) (next to after : ℕ) → Stands code.bytes at i next → takes i ≤ depth → Jumps i next to → after ≡ (depth - takes i) + leaves i → Reached code to stack after
  reach_jump i next to after s enough jumps left =
      (suc reached.0, (at, stack, depth, reached.1, inl (record { instruction = i; next = next; stands = s; enough = enough; leads = inr jumps; same = refl; left = left })))

  pub reach_block : (arguments start : ℕ) → Begins code at arguments start → Reached code start OfBlock arguments
  reach_block arguments start b = (suc reached.0, (at, stack, depth, reached.1, inr (refl, b)))

-- ---- each place that is reached is one of an instruction

push_place : (code : Code) (at arguments start : ℕ) (b : Begins code at arguments start) → IsPlace code.bytes b.push
push_place code at arguments start b = place_behind code.bytes b.context PushContext b.push b.placed b.is_context

jump_place : (code : Code) (at arguments start : ℕ) (b : Begins code at arguments start) → IsPlace code.bytes b.jump
jump_place code at arguments start b =
    place_behind code.bytes at (SendSpecial block_copy) b.jump (place_behind code.bytes b.push b.count at (push_place code at arguments start b) b.is_count) b.is_copy

target_place : (code : Code) → HasDepths code → (before : ℕ) (under : Stack) (held : ℕ) → Reached code before under held → (i : Instruction) (next to : ℕ) → Stands code.bytes before i next → Jumps i next to → IsPlace code.bytes to
target_place code h before under held r i next to s jumps =
    let lands = (fits_as code before under held (fits_there code h before under held r) i next s).lands (does_jump i jumps.0 jumps.1) in
    let same : lands.0 ≡ to = same_place lands.0 to (jump_is i next lands.0 jumps.0 jumps.1 lands.1 ∙ sym jumps.2) in
    subst (IsPlace code.bytes) same lands.2.0

pub place_in : (code : Code) → HasDepths code → (n at : ℕ) (stack : Stack) (depth : ℕ) → ReachedIn code n at stack depth → IsPlace code.bytes at
place_in code h zero at stack depth (first, home, empty) = (0, first)
place_in code h (suc n) at stack depth (before, under, held, reached, leads) = go (place_in code h n before under held reached) leads
  where
    goes : (i : Instruction) (next : ℕ) → Stands code.bytes before i next → IsPlace code.bytes before → Goes i next at → IsPlace code.bytes at
    goes i next s p (inl (on, is)) = subst (IsPlace code.bytes) (sym is) (place_behind code.bytes before i next p s)
    goes i next s p (inr jumps) = target_place code h before under held (n, reached) i next at s jumps

    go : IsPlace code.bytes before → Leads code before under held at stack depth → IsPlace code.bytes at
    go p (inl c) = goes c.instruction c.next c.stands p c.leads
    go p (inr b) = place_behind code.bytes b.1.jump (Jump b.1.distance) at (jump_place code before depth at b.1) b.1.is_jump

pub reached_place : (code : Code) → HasDepths code → (at : ℕ) (stack : Stack) (depth : ℕ) → Reached code at stack depth → IsPlace code.bytes at
reached_place code h at stack depth (n, r) = place_in code h n at stack depth r

-- ---- where a 200 stands

-- what stands before it is the push of its number
pub counts_before : (code : Code) (at next : ℕ) (i : Instruction) → IsPlace code.bytes at → Stands code.bytes at i next → (arguments start : ℕ) → Begins code next arguments start → Counts code i arguments
counts_before code at next i p s arguments start b =
    let push : b.push ≡ at = one_before code.bytes b.push at b.count i next (push_place code next arguments start b) p b.is_count s in
    let count : b.count ≡ i = (same_instruction code.bytes at b.count i next next (moved code.bytes b.push at b.count next push b.is_count) s).instruction in
    subst (λ (j : Instruction). Counts code j arguments) count b.counted

pub none_first : (code : Code) → IsNoCopy code 0
none_first code arguments start b = omega (arith, goes_forward code.bytes b.push b.count 0 b.is_count)

pub none_at_target : (code : Code) → HasDepths code → (at : ℕ) (stack : Stack) (depth : ℕ) → Reached code at stack depth → (i : Instruction) (next to : ℕ) (other : Stack) (another : ℕ)
    → Stands code.bytes at i next → Jumps i next to → Reached code to other another → IsNoCopy code to
none_at_target code h at stack depth r i next to other another s jumps there arguments start b =
    h.clear stack other at next to to arguments start i
    (marked_is_some _ _ (all_marked code h.depth_at h.depths r.0 at stack depth r.1)) s jumps
    (marked_is_some _ _ (all_marked code h.depth_at h.depths there.0 to other another there.1)) b (inr (inl refl))

pub none_at_start : (code : Code) (at arguments start : ℕ) → Begins code at arguments start → IsNoCopy code start
none_at_start code at arguments start b others other c = counts_before code b.jump start (Jump b.distance) (jump_place code at arguments start b) b.is_jump others other c

-- ---- the jump over a block has two bytes

two_bytes : (f : ℕ → ℕ → Instruction) (i : ℕ) (behind : List ℕ) (d : Instruction × ℕ) → formed (with_one f) i behind ≡ Some d → d.1 ≡ 2
two_bytes f i [] d e = cc
two_bytes f i (c ∷ behind) d e = sym (ap (λ p. p.1) (value e))

jumps : ℕ → ℕ → Instruction
jumps i b = Jump ((pos i -ℤ pos 4) *ℤ pos 256 +ℤ pos b)

pub starts_behind : (code : Code) (at arguments start : ℕ) (b : Begins code at arguments start) → start ≡ b.jump + 2
unfolding jumps
starts_behind code at arguments start b =
    let s = b.is_jump in
    let behind : List ℕ = drop (suc b.jump) code.bytes in
    let law : decoded (b.byte ∷ behind) ≡ formed (with_one jumps) (b.byte - 160) behind =
    row_law 22 b.byte (row 160 167 (with_one jumps)) behind refl (omega (arith, b.low)) (omega (arith, b.high)) in
    let is : formed (with_one jumps) (b.byte - 160) behind ≡ Some (Jump b.distance, s.width) = sym law ∙ sym (ap decoded (front_at code.bytes b.jump b.byte b.begun)) ∙ s.is_decoded in
    s.behind ∙ ap (λ w. b.jump + w) (two_bytes jumps (b.byte - 160) behind (Jump b.distance, s.width) is)

-- ---- a code with a 200 holds a block

places_far : (bytes : List ℕ) (n at : ℕ) → IsPlaceAfter bytes n at → n ≤ at
places_far bytes zero at p = omega arith
places_far bytes (suc n) at (before, i, p, s) = omega (arith, places_far bytes n before p, goes_forward bytes before i at s)

abbrev HasBlockFrom : List ℕ → ℕ → ℕ → Type 0
HasBlockFrom bytes at count = list_any begins_block (instructions_in count (drop at bytes)) ≡ true

block_here : (bytes : List ℕ) (at next count : ℕ) → Stands bytes at (SendSpecial block_copy) next → HasBlockFrom bytes at (suc count)
block_here bytes at next count s =
    ap (λ o. list_any begins_block (option_map_or (λ p. p.0 ∷ instructions_in count (drop p.1 (drop at bytes))) o [])) s.is_decoded

or_later : (x y : Bool) → y ≡ true → (x || y) ≡ true
or_later true y e = refl
or_later false y e = e

block_before : (bytes : List ℕ) (before at count : ℕ) (i : Instruction) → Stands bytes before i at → HasBlockFrom bytes at count → HasBlockFrom bytes before (suc count)
block_before bytes before at count i s h =
    let rest : drop s.width (drop before bytes) ≡ drop at bytes = drop-drop s.width before bytes ∙ ap (λ k. drop k bytes) (sym s.behind) in
    let later : list_any begins_block (instructions_in count (drop s.width (drop before bytes))) ≡ true = ap (λ l. list_any begins_block (instructions_in count l)) rest ∙ h in
    ap (λ o. list_any begins_block (option_map_or (λ p. p.0 ∷ instructions_in count (drop p.1 (drop before bytes))) o [])) s.is_decoded
    ∙ or_later (begins_block i) _ later

block_first : (bytes : List ℕ) (n at count : ℕ) → IsPlaceAfter bytes n at → HasBlockFrom bytes at count → HasBlockFrom bytes 0 (count + n)
block_first bytes zero at count p h =
    let c : count + 0 ≡ count = omega arith in
    subst (λ a. HasBlockFrom bytes a (count + 0)) p (subst (HasBlockFrom bytes at) (sym c) h)
block_first bytes (suc n) at count (before, i, p, s) h =
    let c : suc count + n ≡ count + suc n = omega arith in
    subst (HasBlockFrom bytes 0) c (block_first bytes n before (suc count) p (block_before bytes before at count i s h))

pub holds_it : (code : Code) → HasDepths code → (at : ℕ) (stack : Stack) (depth next : ℕ) → Reached code at stack depth → Stands code.bytes at (SendSpecial block_copy) next → holds_block code ≡ true
holds_it code h at stack depth next r s =
    let p = reached_place code h at stack depth r in
    let far = places_far code.bytes p.0 at p.1 in
    let last = ends_within code.bytes at (SendSpecial block_copy) next s in
    let more = goes_forward code.bytes at (SendSpecial block_copy) next s in
    let c : suc (length code.bytes - suc p.0) + p.0 ≡ length code.bytes = omega (arith, far, last, more) in
    subst (HasBlockFrom code.bytes 0) c (block_first code.bytes p.0 at (suc (length code.bytes - suc p.0)) p.1 (block_here code.bytes at next (length code.bytes - suc p.0) s))
