-- A run begins soundly, and each step keeps that.
use Rattle.std.proofs.Common.{◌≡◌, ◌∙◌, ap, sym, subst, refl, ℕ, ◌+◌, ◌-◌, ◌≤◌, ℤ, List, [], ◌∷◌, Option, Some, None, Bool, true, false, codes, length, All, arith, if◌then◌else◌, option_and_then}
use Rattle.std.specs.Int.{is_negative}
use Rattle.std.specs.Str.{bytes_eq}
use Rattle.std.proofs.lemmas.List.Elements.{All-cons, All-nil}
use Rattle.s80_class.specs.Table.{Table, number_of}
use Rattle.s80_code.specs.declared.code.Code.{Code}
use Rattle.s80_code.specs.declared.instruction.Instruction.{Instruction}
use Rattle.s80_code.specs.declared.instruction.Instruction.TheVariants.{Push, Store, PopInto, PushFixed, ReturnFixed, ReturnTop, ReturnFromBlock, Send, SendSuper, SendSpecial, Pop, Duplicate, PushContext, Jump, JumpOnTrue, JumpOnFalse}
use Rattle.s80_code.specs.declared.instruction.Storage.{Storage}
use Rattle.s80_code.specs.Table.{Stands}
use Rattle.s80_dict.specs.Table.{MethodsValue}
use Rattle.s80_dict.specs.declared.dict.MethodEntry.{MethodEntry}
use Rattle.s80_object.specs.declared.value.Value.{Value}
use Rattle.s80_object.specs.declared.value.Value.TheVariants.{Nil, True, False, Context as ContextValue, Transcript, Smalltalk}
use Rattle.s80_prims.specs.Known.{IsKnown}
use Rattle.s80_prims.specs.declared.stop.Stop.TheVariants.{NonBoolean}
use Rattle.s80_verify.specs.Effect.{takes, leaves, goes_on as goes_behind}
use Rattle.s80_verify.specs.Reach.{Counts}
use Rattle.s80_verify.proofs.lemmas.LawLemmas.{fits_there}
use Rattle.s80_machine.specs.World.{World, one_tick, Variable as VariableName, class_variable, outer, class_side, doit, first_value, first_world, outer_value}
use Rattle.s80_machine.specs.Turn.{Context, Turn, State, deliver, given, goes_on, return_from, stops, ticked}
use Rattle.s80_machine.specs.Shared.{decided, fixed}
use Rattle.s80_machine.specs.Step.{act, code_at, code_for, jump, store, turn, turn_at, turn_in, turn_of}
use Rattle.s80_machine.specs.Run.{start}
use Rattle.s80_machine.specs.Sound.{AreSound, IsSetting, IsSound, IsSoundContext, IsSoundTurn, IsSoundWorld, of_receiver, stack_kind}
use Rattle.s80_machine.proofs.lemmas.SoundLists.{all_got, got_there}
use Rattle.s80_class.proofs.lemmas.Numbers.{number_names}
use Rattle.s80_machine.proofs.SoundOperands.{in_range}
use Rattle.s80_machine.proofs.SoundWorlds.{values_stay}
use Rattle.s80_machine.proofs.SoundChanges.{Follows, same_follows}
use Rattle.s80_machine.proofs.SoundEnds.{AllWait, CanRun, activated_sound, deliver_sound, if_sound, return_sound, stops_sound, ticked_sound}
use Rattle.s80_machine.proofs.SoundSends.{PrimitivesKeep}
use Rattle.s80_machine.proofs.SoundMoves.{fits, goes_sound, jump_sound, popped_sound}
use Rattle.s80_machine.proofs.SoundPushes.{all_fixed, fixed_sound, push_sound, store_sound}
use Rattle.s80_machine.proofs.SoundCalls.{send_sound, specials_sound, super_sound}

module _ (t : Table) (methods : MethodsValue (MethodEntry Code)) (code : Code) (setting : IsSetting t methods code) (keeps : PrimitivesKeep t) (budget : ℕ) where
  abbrev Turns : Turn → Type 0
  Turns = IsSoundTurn t methods code

  module _ (c : Context) (rest : List Context) (w : World) (sound : IsSoundWorld t methods code w) (context : IsSoundContext t methods code w 0 c) (wait : AllWait t methods code w rest) where
    same : Follows t methods code w w
    same = same_follows t methods code w sound

    -- ---- the stack alone

    stores : (storage : Storage) (next : ℕ) → Stands context.of.bytes c.place (Store storage) next → Turns (act t methods code budget context.of c next rest w (Store storage))
    stores storage next s =
        let here = fits t methods code c rest w sound context wait (Store storage) next s in
        popped_sound t methods code w c.stack (λ v stack. store t methods code budget context.of c next rest w storage v (v ∷ stack)) (omega (arith, here.enough)) context.values
        (λ v stack left known all.
        store_sound t methods code setting budget c rest w sound context wait (Store storage) storage next v (v ∷ stack) s known
        (record { goes = refl; depth = omega (arith, left); counts = λ n is. is; names = λ k is. ap of_receiver is; writable = here.suits; known = All-cons (IsKnown t w.objects) v stack known all }))

    pops_into : (storage : Storage) (next : ℕ) → Stands context.of.bytes c.place (PopInto storage) next → Turns (act t methods code budget context.of c next rest w (PopInto storage))
    pops_into storage next s =
        let here = fits t methods code c rest w sound context wait (PopInto storage) next s in
        popped_sound t methods code w c.stack (store t methods code budget context.of c next rest w storage) (omega (arith, here.enough)) context.values
        (λ v stack left known all.
        store_sound t methods code setting budget c rest w sound context wait (PopInto storage) storage next v stack s known
        (record { goes = refl; depth = omega (arith, left); counts = λ n is. is; names = λ k is. ap of_receiver is; writable = here.suits; known = all }))

    -- it goes on behind an instruction that changes the stack alone
    stays : (i : Instruction) (next : ℕ) → Stands context.of.bytes c.place i next → (stack : List Value) → All (IsKnown t w.objects) stack → goes_behind i ≡ true → length stack + 0 ≡ (length c.stack - takes i) + leaves i
        → ((n : ℕ) → Counts context.of i n → ⊥) → Turns (goes_on c next stack rest w)
    stays i next s stack known goes depth counts =
        goes_sound t methods code c rest w sound context wait i next s w c.activation stack
        (record { follows = same; activation = context.activation; kind = refl; known = known; goes = goes; depth = depth; counts = λ n is. absurd (counts n is) })

    pops : (next : ℕ) → Stands context.of.bytes c.place Pop next → Turns (act t methods code budget context.of c next rest w Pop)
    pops next s =
        popped_sound t methods code w c.stack (λ v stack. goes_on c next stack rest w) (omega (arith, (fits t methods code c rest w sound context wait Pop next s).enough)) context.values
        (λ v stack left known all. stays Pop next s stack all refl (omega (arith, left)) (λ n is. is))

    doubles : (next : ℕ) → Stands context.of.bytes c.place Duplicate next → Turns (act t methods code budget context.of c next rest w Duplicate)
    doubles next s =
        popped_sound t methods code w c.stack (λ v stack. goes_on c next (v ∷ v ∷ stack) rest w) (omega (arith, (fits t methods code c rest w sound context wait Duplicate next s).enough)) context.values
        (λ v stack left known all.
        stays Duplicate next s (v ∷ v ∷ stack) (All-cons (IsKnown t w.objects) v (v ∷ stack) known (All-cons (IsKnown t w.objects) v stack known all)) refl (omega (arith, left)) (λ n is. is))

    -- ---- returns

    returns_fixed : (n next : ℕ) → Stands context.of.bytes c.place (ReturnFixed n) next → Turns (act t methods code budget context.of c next rest w (ReturnFixed n))
    returns_fixed n next s =
        let within : n ≤ 7 = in_range context.of.bytes c.place next (ReturnFixed n) s in
        let v = got_there (fixed c.receiver) n (omega (arith, within)) in
        let known = all_got (IsKnown t w.objects) (fixed c.receiver) n v.0 (all_fixed (IsKnown t w.objects) c.receiver context.method.known tt tt tt (λ n. tt)) v.1 in
        subst (λ o. Turns (given o (λ v. return_from c.activation v rest w))) (sym v.1) (return_sound t methods code c.activation v.0 rest w known sound wait)

    returns_top : (next : ℕ) → Stands context.of.bytes c.place ReturnTop next → Turns (act t methods code budget context.of c next rest w ReturnTop)
    returns_top next s =
        popped_sound t methods code w c.stack (λ v stack. return_from c.activation v rest w) (omega (arith, (fits t methods code c rest w sound context wait ReturnTop next s).enough)) context.values
        (λ v stack left known all. return_sound t methods code c.activation v rest w known sound wait)

    answers : (next : ℕ) → Stands context.of.bytes c.place ReturnFromBlock next → Turns (act t methods code budget context.of c next rest w ReturnFromBlock)
    answers next s =
        popped_sound t methods code w c.stack (λ v stack. deliver v rest w) (omega (arith, (fits t methods code c rest w sound context wait ReturnFromBlock next s).enough)) context.values
        (λ v stack left known all. deliver_sound t methods code v rest w known sound wait)

    -- ---- jumps

    jumps : (distance : ℤ) (next : ℕ) → Stands context.of.bytes c.place (Jump distance) next → Turns (act t methods code budget context.of c next rest w (Jump distance))
    jumps distance next s =
        if_sound t methods code (is_negative distance) (ticked budget w (jump t methods code budget distance c next c.stack rest)) (jump t methods code budget distance c next c.stack rest w)
        (ticked_sound t methods code budget w (jump t methods code budget distance c next c.stack rest) sound
        (λ f. jump_sound t methods code c rest w sound context wait (Jump distance) distance next s refl (one_tick w) c.stack budget f (values_stay t w (one_tick w) f.onward c.stack context.values) (omega arith)))
        (jump_sound t methods code c rest w sound context wait (Jump distance) distance next s refl w c.stack budget same context.values (omega arith))

    decided_sound : (v : Value) (on off neither : Turn) → Turns on → Turns off → Turns neither → Turns (decided v on off neither)
    decided_sound True on off neither h g k = h
    decided_sound False on off neither h g k = g
    decided_sound _ on off neither h g k = k

    jumps_on_true : (distance : ℤ) (next : ℕ) → Stands context.of.bytes c.place (JumpOnTrue distance) next → Turns (act t methods code budget context.of c next rest w (JumpOnTrue distance))
    jumps_on_true distance next s =
        popped_sound t methods code w c.stack (λ v stack. decided v (jump t methods code budget distance c next stack rest w) (goes_on c next stack rest w) (stops NonBoolean w))
        (omega (arith, (fits t methods code c rest w sound context wait (JumpOnTrue distance) next s).enough)) context.values
        (λ v stack left known all.
        decided_sound v (jump t methods code budget distance c next stack rest w) (goes_on c next stack rest w) (stops NonBoolean w)
        (jump_sound t methods code c rest w sound context wait (JumpOnTrue distance) distance next s refl w stack budget same all (omega (arith, left)))
        (stays (JumpOnTrue distance) next s stack all refl (omega (arith, left)) (λ n is. is)) (stops_sound t methods code NonBoolean w sound))

    jumps_on_false : (distance : ℤ) (next : ℕ) → Stands context.of.bytes c.place (JumpOnFalse distance) next → Turns (act t methods code budget context.of c next rest w (JumpOnFalse distance))
    jumps_on_false distance next s =
        popped_sound t methods code w c.stack (λ v stack. decided v (goes_on c next stack rest w) (jump t methods code budget distance c next stack rest w) (stops NonBoolean w))
        (omega (arith, (fits t methods code c rest w sound context wait (JumpOnFalse distance) next s).enough)) context.values
        (λ v stack left known all.
        decided_sound v (goes_on c next stack rest w) (jump t methods code budget distance c next stack rest w) (stops NonBoolean w)
        (stays (JumpOnFalse distance) next s stack all refl (omega (arith, left)) (λ n is. is))
        (jump_sound t methods code c rest w sound context wait (JumpOnFalse distance) distance next s refl w stack budget same all (omega (arith, left))) (stops_sound t methods code NonBoolean w sound))

    -- ---- each instruction

    act_sound : (i : Instruction) (next : ℕ) → Stands context.of.bytes c.place i next → Turns (act t methods code budget context.of c next rest w i)
    act_sound (Push storage) next s =
        push_sound t methods code setting budget c rest w sound context wait storage next s (fits t methods code c rest w sound context wait (Push storage) next s).suits
    act_sound (Store storage) next s = stores storage next s
    act_sound (PopInto storage) next s = pops_into storage next s
    act_sound (PushFixed n) next s = fixed_sound t methods code setting budget c rest w sound context wait n next s
    act_sound (ReturnFixed n) next s = returns_fixed n next s
    act_sound ReturnTop next s = returns_top next s
    act_sound ReturnFromBlock next s = answers next s
    act_sound (Send count k) next s =
        send_sound t methods code setting keeps budget c rest w sound context wait count k next s (fits t methods code c rest w sound context wait (Send count k) next s).suits
    act_sound (SendSuper count k) next s =
        super_sound t methods code setting keeps budget c rest w sound context wait count k next s (fits t methods code c rest w sound context wait (SendSuper count k) next s).suits.0
    act_sound (SendSpecial n) next s = specials_sound t methods code setting keeps budget c rest w sound context wait n next s
    act_sound Pop next s = pops next s
    act_sound Duplicate next s = doubles next s
    act_sound PushContext next s =
        stays PushContext next s (ContextValue ∷ c.stack) (All-cons (IsKnown t w.objects) ContextValue c.stack tt context.values) refl (omega arith) (λ n is. is)
    act_sound (Jump distance) next s = jumps distance next s
    act_sound (JumpOnTrue distance) next s = jumps_on_true distance next s
    act_sound (JumpOnFalse distance) next s = jumps_on_false distance next s

    pub active_sound : Turns (turn_in t methods code budget (c ∷ rest) w)
    active_sound =
        let method = context.method in
        let fetched : code_at methods code w c.method ≡ Some context.of = ap (option_and_then (code_for methods code)) method.key_is ∙ method.code_is in
        let here = fits_there context.of method.suits.depths c.place (stack_kind c.activation) (length c.stack + 0) context.reached in
        let s = here.stands in
        let stands : Stands context.of.bytes c.place here.instruction (c.place + s.width) = record { width = s.width; is_decoded = s.is_decoded; behind = refl } in
        subst (λ o. Turns (turn_of t methods code budget c rest w o)) (sym fetched)
        (subst (λ o. Turns (turn_at t methods code budget c rest w context.of o)) (sym s.is_decoded) (act_sound here.instruction (c.place + s.width) stands))

  pub turn_sound : (s : State) → IsSound t methods code s → Turns (turn t methods code budget s)
  turn_sound s h = by_contexts s.contexts h.contexts
    where
      by_contexts : (contexts : List Context) → AreSound t methods code s.world contexts → Turns (turn_in t methods code budget contexts s.world)
      by_contexts [] h' = absurd h'
      by_contexts (c ∷ rest) h' = active_sound c rest s.world h.world h'.0 h'.1

  -- ---- the beginning

  first_known : (v : VariableName) → IsKnown t (first_world t).objects (first_value t v)
  first_known (class_variable class name) = tt
  first_known (class_side n i) = tt
  first_known (outer name) = by_number (number_of t.names name) refl
    where
      by_text : (a b : Bool) → IsKnown t (first_world t).objects (if a then Smalltalk else (if b then Transcript else Nil))
      by_text true b = tt
      by_text false true = tt
      by_text false false = tt

      by_number : (o : Option ℕ) → number_of t.names name ≡ o → IsKnown t (first_world t).objects (outer_value t name o)
      by_number (Some n) e = (name, number_names t.names name n e)
      by_number None e = by_text (bytes_eq name (codes "Smalltalk")) (bytes_eq name (codes "Transcript"))

  first_sound : IsSoundWorld t methods code (first_world t)
  first_sound = record { known = λ n b e. cc; bodies = λ n b e. cc; literals = λ i made e. cc; variables = first_known }

  pub start_sound : Turns (start t methods code budget)
  start_sound =
      let can : CanRun t methods code (first_world t) doit code Nil = record { code_is = refl; suits = setting.doit_suits; known = tt; variables = λ i below. absurd (omega (arith, below)) } in
      activated_sound t methods code budget doit code Nil [] [] (first_world t) first_sound can (All-nil (IsKnown t (first_world t).objects)) (omega arith) (All-nil (IsSoundContext t methods code (first_world t) 1))
