-- What is left behind one step of a sound state, and behind the first activation.
use Rattle.std.proofs.Common.{◌≡◌, ◌∙◌, ap, sym, refl, subst, ℕ, suc, ◌+◌, ◌*◌, ◌<◌, ◌≤◌, List, [], ◌∷◌, drop, length, Option, Some, None, option_and_then, arith, length-drop}
use Rattle.s80_class.specs.Table.{Table}
use Rattle.s80_code.specs.declared.code.Code.{Code}
use Rattle.s80_code.specs.declared.instruction.Instruction.{Instruction}
use Rattle.s80_code.specs.Table.{decoded}
use Rattle.s80_code.proofs.lemmas.TableLemmas.{decodes}
use Rattle.s80_dict.specs.Table.{MethodsValue}
use Rattle.s80_dict.specs.declared.dict.MethodEntry.{MethodEntry}
use Rattle.s80_object.specs.declared.value.Value.TheVariants.{Nil}
use Rattle.s80_machine.specs.World.{World, doit, first_world}
use Rattle.s80_machine.specs.Turn.{Context, State, Turn, Goes}
use Rattle.s80_machine.specs.Shared.{depth_limit}
use Rattle.s80_machine.specs.Step.{code_at, code_for, turn, turn_at, turn_in, turn_of}
use Rattle.s80_machine.specs.Run.{start}
use Rattle.s80_machine.specs.Sound.{AreSound, IsSound}
use Rattle.s80_machine.specs.Measure.{IsWithin, one_tick_more, steps_left}
use Rattle.s80_machine.proofs.LeftActs.{by_act}
use Rattle.s80_machine.proofs.LeftJumps.{decoded_is_forward}
use Rattle.s80_machine.proofs.LeftParts.{IsPaid, Lowers}
use Rattle.s80_machine.proofs.LeftSends.{by_activation}

module _ (t : Table) (methods : MethodsValue (MethodEntry Code)) (doit_code : Code) (budget : ℕ) where
  by_code : (c : Context) (rest : List Context) (w : World) (code : Code) → length code.bytes ≤ 1023 → length (c ∷ rest) ≤ depth_limit → w.ticks ≤ budget
      → (o : Option (Instruction × ℕ)) → decoded (drop c.place code.bytes) ≡ o
      → Lowers budget (steps_left budget (record { contexts = c ∷ rest; world = w })) (turn_at t methods doit_code budget c rest w code o)
  by_code c rest w code short few within None e = tt
  by_code c rest w code short few within (Some p) e =
      let d = decodes (drop c.place code.bytes) p e in
      let left = length-drop c.place code.bytes in
      by_act t methods doit_code code budget (c.place + p.1) c rest w (omega (arith, d.some)) (omega (arith, d.some, d.within, left, short)) few within p.0
      (decoded_is_forward (drop c.place code.bytes) p e)

  pub by_turn : (contexts : List Context) (w : World) → AreSound t methods doit_code w contexts → length contexts ≤ depth_limit → w.ticks ≤ budget
      → Lowers budget (steps_left budget (record { contexts = contexts; world = w })) (turn_in t methods doit_code budget contexts w)
  by_turn [] w sound few within = tt
  by_turn (c ∷ rest) w sound few within =
      let m = sound.0.method in
      let code = sound.0.of in
      let there : code_at methods doit_code w c.method ≡ Some code = ap (option_and_then (code_for methods doit_code)) m.key_is ∙ m.code_is in
      subst (λ (o : Option Code). Lowers budget (steps_left budget (record { contexts = c ∷ rest; world = w })) (turn_of t methods doit_code budget c rest w o)) (sym there)
      (by_code c rest w code m.suits.depths.short few within (decoded (drop c.place code.bytes)) refl)

  pub lowered : (most : ℕ) (at : Turn) (next : State) → at ≡ Goes next → Lowers budget most at → IsWithin budget next × (steps_left budget next < most)
  lowered most at next e h =
      let (few, (within, less)) : Lowers budget most (Goes next) = subst (Lowers budget most) e h in
      (record { deep = few; ticks = within }, less)

  pub leaves_less : (s next : State) → IsSound t methods doit_code s → IsWithin budget s → turn t methods doit_code budget s ≡ Goes next
      → IsWithin budget next × (steps_left budget next < steps_left budget s)
  leaves_less s next sound within e =
      lowered (steps_left budget s) (turn t methods doit_code budget s) next e (by_turn s.contexts s.world sound.contexts within.deep within.ticks)

  -- a first activation is within any budget
  pub begins_within : (s : State) → start t methods doit_code budget ≡ Goes s → IsWithin budget s
  begins_within s e =
      let first : IsPaid budget (suc (budget * one_tick_more + depth_limit * 1024)) 0 = (omega arith, omega arith) in
      (lowered (suc (budget * one_tick_more + depth_limit * 1024)) (start t methods doit_code budget) s e
      (by_activation t methods doit_code budget (suc (budget * one_tick_more + depth_limit * 1024)) doit doit_code Nil [] [] (first_world t) first)).0
