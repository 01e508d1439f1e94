-- Code whose depths are known has no fault.
use Rattle.std.proofs.Common.{◌≡◌, ◌≢◌, ◌∙◌, ap, sym, subst, refl, ℕ, zero, suc, ◌+◌, ◌-◌, ◌<◌, ◌≤◌, ◌⊎◌, inl, inr, List, [], ◌∷◌, Option, Some, None, Bool, true, false, length, drop, slice_get, arith, length-drop}
use Rattle.s80_code.specs.declared.code.Code.{Code}
use Rattle.s80_code.specs.declared.instruction.Instruction.{Instruction}
use Rattle.s80_code.specs.Table.{Stands, decoded, is_unused, width_of}
use Rattle.s80_code.proofs.lemmas.TableLemmas.{value, where_none}
use Rattle.s80_verify.specs.declared.stack.Stack.{Stack}
use Rattle.s80_verify.specs.declared.stack.Stack.TheVariants.{OfHome}
use Rattle.s80_verify.specs.declared.fault.VerifyKind.{VerifyKind}
use Rattle.s80_verify.specs.declared.fault.VerifyKind.TheVariants.{Header, TooLong, Unused, Short, JumpTarget, StackLow, StackHigh, StackDiffers, Operand, Falls}
use Rattle.s80_verify.specs.Effect.{takes, distance_of, Jumps}
use Rattle.s80_verify.specs.Reach.{IsInstruction, IsReached, Reached, ReachedIn, Leads}
use Rattle.s80_verify.specs.Operands.{Suits, LandsBetween}
use Rattle.s80_verify.specs.Fault.{Fails, RunsAt, IsVerified, IsUnused, IsCutOff, room_of, taken}
use Rattle.s80_verify.specs.Record.{Fits, Depths, IsClear, HasDepths}
use Rattle.s80_verify.proofs.lemmas.PlaceLemmas.{same_instruction, goes_forward, ends_within, front_at}

pub set_there : (depth_at : Stack → ℕ → Option ℕ) (at depth : ℕ) (stack : Stack) → at ≡ 0 → stack ≡ OfHome → depth ≡ 0 → depth_at OfHome 0 ≡ Some 0 → depth_at stack at ≡ Some depth
set_there depth_at at depth stack first home empty start =
    ap (λ s. depth_at s at) home ∙ ap (λ p. depth_at OfHome p) first ∙ start ∙ ap (λ d. Some d) (sym empty)

-- each place that is reached has its depth
pub all_marked : (code : Code) (depth_at : Stack → ℕ → Option ℕ) → Depths code depth_at → (n at : ℕ) (stack : Stack) (depth : ℕ) → ReachedIn code n at stack depth → depth_at stack at ≡ Some depth
all_marked code depth_at h zero at stack depth (first, home, empty) = set_there depth_at at depth stack first home empty h.start
all_marked code depth_at h (suc n) at stack depth (before, under, held, reached, leads) =
    h.closed under stack before held at depth (all_marked code depth_at h n before under held reached) leads

pub fits_there : (code : Code) (h : HasDepths code) (at : ℕ) (stack : Stack) (depth : ℕ) → Reached code at stack depth → Fits code at stack depth
fits_there code h at stack depth (n, reached) = h.depths.fits stack at depth (all_marked code h.depth_at h.depths n at stack depth reached)

pub one_there : (code : Code) (h : HasDepths code) (at : ℕ) (stack other : Stack) (depth another : ℕ) → Reached code at stack depth → Reached code at other another → depth ≡ another
one_there code h at stack other depth another (n, reached) (m, again) =
    h.depths.one stack other at depth another (all_marked code h.depth_at h.depths n at stack depth reached) (all_marked code h.depth_at h.depths m at other another again)

pub step_there : (code : Code) (at to : ℕ) (stack other : Stack) (depth after : ℕ) → Reached code at stack depth → Leads code at stack depth to other after → Reached code to other after
step_there code at to stack other depth after (n, reached) leads = (suc n, (at, stack, depth, reached, leads))

-- what is known of an instruction that runs
pub record FitsRun (code : Code) (at : ℕ) (stack : Stack) (depth : ℕ) (i : Instruction) (next : ℕ) : Type 0 where
  pub enough : takes i ≤ depth
  pub suits : Suits code at stack i
  pub lands : distance_of i ≢ None → (to : ℕ) × Jumps i next to × IsInstruction code.bytes to

pub fits_as : (code : Code) (at : ℕ) (stack : Stack) (depth : ℕ) (fits : Fits code at stack depth) (i : Instruction) (next : ℕ) → Stands code.bytes at i next → FitsRun code at stack depth i next
fits_as code at stack depth fits i next s =
    let same = same_instruction code.bytes at fits.instruction i fits.next next fits.stands s in
    let here : FitsRun code at stack depth fits.instruction fits.next = record { enough = fits.enough; suits = fits.suits; lands = fits.lands } in
    let there : FitsRun code at stack depth i fits.next = subst (λ (j : Instruction). FitsRun code at stack depth j fits.next) same.instruction here in
    subst (λ (q : ℕ). FitsRun code at stack depth i q) same.place there

pub runs_well : (code : Code) (h : HasDepths code) (at : ℕ) (run : RunsAt code at) → FitsRun code at run.stack run.depth run.instruction run.next
runs_well code h at run = fits_as code at run.stack run.depth (fits_there code h at run.stack run.depth run.reached) run.instruction run.next run.stands

-- no instruction stands at an unused byte, nor where the bytes end inside it
pub none_at : (bytes : List ℕ) (at byte : ℕ) → slice_get bytes at ≡ Some byte → (is_unused byte ≡ true) ⊎ (length bytes < at + width_of byte) → decoded (drop at bytes) ≡ None
none_at bytes at byte got (inl unused) =
    ap decoded (front_at bytes at byte got) ∙ where_none byte (drop (suc at) bytes) (inl unused)
none_at bytes at byte got (inr short) =
    let front = front_at bytes at byte got in
    let long : length (drop at bytes) ≡ length (byte ∷ drop (suc at) bytes) = ap (λ l. length l) front in
    let left : length (drop at bytes) ≡ length bytes - at = length-drop at bytes in
    ap decoded front ∙ where_none byte (drop (suc at) bytes) (inr (omega (arith, long, left, short)))

pub none_stands : (bytes : List ℕ) (at : ℕ) (i : Instruction) (next : ℕ) → decoded (drop at bytes) ≡ None → Stands bytes at i next → ⊥
none_stands bytes at i next e s = let differs = sym e ∙ s.is_decoded in cc

pub marked_is_some : (o : Option ℕ) (d : ℕ) → o ≡ Some d → o ≢ None
marked_is_some o d e none = let differs = sym e ∙ none in cc

pub no_fault : (code : Code) → HasDepths code → IsVerified code
no_fault code h Header at (first, bad) = bad h.header
no_fault code h TooLong at (last, long) = omega (arith, h.short)
no_fault code h Unused at ((stack, depth, reached), (byte, got, unused)) =
    let fits = fits_there code h at stack depth reached in
    none_stands code.bytes at fits.instruction fits.next (none_at code.bytes at byte got (inl unused)) fits.stands
no_fault code h Short at ((stack, depth, reached), (byte, got, used, short)) =
    let fits = fits_there code h at stack depth reached in
    none_stands code.bytes at fits.instruction fits.next (none_at code.bytes at byte got (inr short)) fits.stands
no_fault code h JumpTarget at (run, jumps, none) =
    let (to, lands, is) = (runs_well code h at run).lands jumps in none to lands is
no_fault code h StackLow at (run, low) = omega (arith, (runs_well code h at run).enough)
no_fault code h StackHigh at (stack, depth, reached, high) = omega (arith, (fits_there code h at stack depth reached).room)
no_fault code h StackDiffers at (stack, other, depth, another, reached, again, differs) =
    differs (one_there code h at stack other depth another reached again)
no_fault code h Operand at (run, inl bad) = bad (runs_well code h at run).suits
no_fault code h Operand at (run, inr lands) = between code h at run lands (run.reached) lands.reached
  where
    between : (code : Code) (h : HasDepths code) (at : ℕ) (run : RunsAt code at) (lands : LandsBetween code run.instruction run.next) → Reached code at run.stack run.depth → IsReached code lands.at → ⊥
    between code h at run lands (n, here) (stack, depth, (m, there)) =
        h.clear run.stack stack at run.next lands.to lands.at lands.arguments lands.start run.instruction
        (marked_is_some _ _ (all_marked code h.depth_at h.depths n at run.stack run.depth here)) run.stands lands.jumps
        (marked_is_some _ _ (all_marked code h.depth_at h.depths m lands.at stack depth there)) lands.begins lands.landed
no_fault code h Falls at ((stack, depth, reached), last) =
    let fits = fits_there code h at stack depth reached in
    omega (arith, goes_forward code.bytes at fits.instruction fits.next fits.stands, ends_within code.bytes at fits.instruction fits.next fits.stands)
