-- The active context goes on: behind an instruction, and where it jumps.
use Rattle.std.proofs.Common.{◌≡◌, ap, sym, subst, refl, ℕ, zero, suc, ◌+◌, ◌-◌, ◌≤◌, ℤ, List, [], ◌∷◌, Some, true, length, All, arith}
use Rattle.std.proofs.lemmas.List.Elements.{All-head, All-tail, All-cons}
use Rattle.s80_class.specs.Table.{Table}
use Rattle.s80_code.specs.declared.code.Code.{Code}
use Rattle.s80_code.specs.declared.instruction.Instruction.{Instruction}
use Rattle.s80_code.specs.Table.{Stands}
use Rattle.s80_dict.specs.Table.{MethodsValue}
use Rattle.s80_dict.specs.declared.dict.MethodEntry.{MethodEntry}
use Rattle.s80_object.specs.declared.value.Value.{Value}
use Rattle.s80_prims.specs.Known.{IsKnown}
use Rattle.s80_verify.specs.declared.stack.Stack.{Stack}
use Rattle.s80_verify.specs.Effect.{takes, leaves, goes_on as goes_behind, distance_of}
use Rattle.s80_verify.specs.Reach.{Counts, Reached}
use Rattle.s80_verify.proofs.lemmas.LawLemmas.{FitsRun, fits_as, fits_there}
use Rattle.s80_verify.proofs.lemmas.JumpLemmas.{does_jump, jump_is}
use Rattle.s80_machine.specs.World.{World, Activation}
use Rattle.s80_machine.specs.Turn.{Context, Turn, given, goes_on, message_off, place_at, popped}
use Rattle.s80_machine.specs.Step.{jump}
use Rattle.s80_machine.specs.Sound.{HasCount, IsActivationOf, IsSoundContext, IsSoundTurn, IsSoundWorld, stack_kind}
use Rattle.s80_machine.proofs.SoundPlaces.{counts_before, none_at_target, reach_behind, reach_jump, reached_place}
use Rattle.s80_machine.proofs.SoundWorlds.{activation_stays, method_stays}
use Rattle.s80_machine.proofs.SoundChanges.{Follows}
use Rattle.s80_machine.proofs.SoundEnds.{AllWait, wait_on}

module _ (t : Table) (methods : MethodsValue (MethodEntry Code)) (code : Code) where
  -- ---- values off the stack

  module _ (w : World) where
    pub popped_sound : (vs : List Value) (go : Value → List Value → Turn) → 1 ≤ length vs → All (IsKnown t w.objects) vs
        → ((v : Value) (stack : List Value) → length vs ≡ suc (length stack) → IsKnown t w.objects v → All (IsKnown t w.objects) stack → IsSoundTurn t methods code (go v stack)) → IsSoundTurn t methods code (popped vs go)
    popped_sound [] go some known goes = absurd (omega (arith, some))
    popped_sound (v ∷ stack) go some known goes = goes v stack refl (All-head (IsKnown t w.objects) v stack known) (All-tail (IsKnown t w.objects) v stack known)

    pub message_sound : (n : ℕ) (arguments vs : List Value) (go : Value → List Value → List Value → Turn) → n + 1 ≤ length vs → All (IsKnown t w.objects) arguments → All (IsKnown t w.objects) vs
        → ((r : Value) (all below : List Value) → length all ≡ n + length arguments → length vs ≡ n + 1 + length below → IsKnown t w.objects r → All (IsKnown t w.objects) all → All (IsKnown t w.objects) below → IsSoundTurn t methods code (go r all below))
        → IsSoundTurn t methods code (message_off n arguments vs go)
    message_sound zero arguments [] go some args known goes = absurd (omega (arith, some))
    message_sound zero arguments (r ∷ below) go some args known goes =
        goes r arguments below (omega arith) (omega arith) (All-head (IsKnown t w.objects) r below known) args (All-tail (IsKnown t w.objects) r below known)
    message_sound (suc n) arguments [] go some args known goes = absurd (omega (arith, some))
    message_sound (suc n) arguments (v ∷ vs) go some args known goes =
        message_sound n (v ∷ arguments) vs go (omega (arith, some)) (All-cons (IsKnown t w.objects) v arguments (All-head (IsKnown t w.objects) v vs known) args) (All-tail (IsKnown t w.objects) v vs known)
        (λ r all below count left h g k. goes r all below (omega (arith, count)) (omega (arith, left)) h g k)

  -- ---- the active context

  module _ (c : Context) (rest : List Context) (w : World) (sound : IsSoundWorld t methods code w) (context : IsSoundContext t methods code w 0 c) (wait : AllWait t methods code w rest) where
    pub fits : (i : Instruction) (next : ℕ) → Stands context.of.bytes c.place i next → FitsRun context.of c.place (stack_kind c.activation) (length c.stack + 0) i next
    fits i next s =
        let depths = context.method.suits.depths in
        fits_as context.of c.place (stack_kind c.activation) (length c.stack + 0) (fits_there context.of depths c.place (stack_kind c.activation) (length c.stack + 0) context.reached) i next s

    -- what a context has that goes on behind an instruction
    pub record IsBehind (i : Instruction) (w1 : World) (awaited : ℕ) (f : Activation) (stack : List Value) : Type 0 where
      pub follows : Follows t methods code w w1
      pub activation : IsActivationOf t methods code w1 f c.method c.receiver context.of
      pub kind : stack_kind f ≡ stack_kind c.activation
      pub known : All (IsKnown t w1.objects) stack
      pub goes : goes_behind i ≡ true
      pub depth : length stack + awaited ≡ (length c.stack - takes i) + leaves i
      pub counts : (arguments : ℕ) → Counts context.of i arguments → (awaited ≡ 0) × HasCount arguments stack

    pub behind : (i : Instruction) (next : ℕ) → Stands context.of.bytes c.place i next → (w1 : World) (awaited : ℕ) (f : Activation) (stack : List Value) → IsBehind i w1 awaited f stack
        → IsSoundContext t methods code w1 awaited (record { method = c.method; receiver = c.receiver; activation = f; place = next; stack = stack })
    behind i next s w1 awaited f stack h =
        let depths = context.method.suits.depths in
        let kind : Stack = stack_kind c.activation in
        let left : length stack + awaited ≡ (length c.stack + 0 - takes i) + leaves i = omega (arith, h.depth) in
        let there : Reached context.of next kind (length stack + awaited) = reach_behind context.of c.place kind (length c.stack + 0) context.reached i next (length stack + awaited) s (fits i next s).enough h.goes left in
        record {
          of = context.of;
          method = method_stays t methods code w w1 h.follows.onward c.method c.receiver context.of context.method;
          activation = h.activation;
          reached = subst (λ k. Reached context.of next k (length stack + awaited)) (sym h.kind) there;
          counted = λ arguments start b.
              h.counts arguments (counts_before context.of c.place next i (reached_place context.of depths c.place kind (length c.stack + 0) context.reached) s arguments start b);
          values = h.known;
        }

    pub goes_sound : (i : Instruction) (next : ℕ) → Stands context.of.bytes c.place i next → (w1 : World) (f : Activation) (stack : List Value) → IsBehind i w1 0 f stack → IsSoundTurn t methods code (goes_on (record c { activation = f }) next stack rest w1)
    goes_sound i next s w1 f stack h = record { world = h.follows.sound; contexts = (behind i next s w1 0 f stack h, wait_on t methods code w w1 h.follows rest wait) }

    -- ---- jumps

    pub jump_sound : (i : Instruction) (distance : ℤ) (next : ℕ) → Stands context.of.bytes c.place i next → distance_of i ≡ Some distance → (w1 : World) (stack : List Value) → (budget : ℕ) → Follows t methods code w w1 → All (IsKnown t w1.objects) stack
        → length stack ≡ (length c.stack - takes i) + leaves i → IsSoundTurn t methods code (jump t methods code budget distance c next stack rest w1)
    jump_sound i distance next s is w1 stack budget f known depth =
        let depths = context.method.suits.depths in
        let kind : Stack = stack_kind c.activation in
        let lands = (fits i next s).lands (does_jump i distance is) in
        let left : length stack + 0 ≡ (length c.stack + 0 - takes i) + leaves i = omega (arith, depth) in
        let there : Reached context.of lands.0 kind (length stack + 0) = reach_jump context.of c.place kind (length c.stack + 0) context.reached i next lands.0 (length stack + 0) s (fits i next s).enough lands.1 left in
        let at : IsSoundContext t methods code w1 0 (record c { place = lands.0; stack = stack }) = record {
          of = context.of;
          method = method_stays t methods code w w1 f.onward c.method c.receiver context.of context.method;
          activation = activation_stays t methods code w w1 f.onward c.activation c.method c.receiver context.of context.activation;
          reached = there;
          counted = λ arguments start b.
              absurd (none_at_target context.of depths c.place kind (length c.stack + 0) context.reached i next lands.0 kind (length stack + 0) s lands.1 there arguments start b);
          values = known;
        } in
        subst (λ o. IsSoundTurn t methods code (given o (λ to. goes_on c to stack rest w1))) (ap place_at (jump_is i next lands.0 distance is lands.1))
        (record { world = f.sound; contexts = (at, wait_on t methods code w w1 f rest wait) })
