-- What is left behind each instruction.
use Rattle.std.proofs.Common.{◌≡◌, ap, sym, refl, ℕ, ◌+◌, ◌-◌, ◌*◌, ◌<◌, ◌≤◌, ◌==◌, ℤ, pos, negsuc, ◌+ℤ◌, List, [], ◌∷◌, get_or, length, codes, nat_le, slice_get, Option, Some, None, option_and_then, subst, arith}
use Rattle.std.specs.Prelude.{if◌then◌else◌}
use Rattle.std.specs.Int.{is_negative}
use Rattle.std.proofs.lemmas.List.Sums.{sum_by-cons}
use Rattle.s80_base.specs.Literal.{LiteralTree}
use Rattle.s80_class.specs.Table.{Table}
use Rattle.s80_code.specs.declared.code.Code.{Code}
use Rattle.s80_code.specs.declared.instruction.Instruction.{Instruction}
use Rattle.s80_code.specs.declared.instruction.Instruction.TheVariants as instruction
use Rattle.s80_code.specs.declared.instruction.Storage.{Storage}
use Rattle.s80_code.specs.declared.instruction.Storage.TheVariants.{Receiver, Temporary, Constant, Variable}
use Rattle.s80_code.specs.Entries.{entries_of}
use Rattle.s80_code.specs.Special.{block_copy, special_arguments, special_selectors}
use Rattle.s80_dict.specs.Table.{MethodsValue}
use Rattle.s80_dict.specs.declared.dict.MethodEntry.{MethodEntry}
use Rattle.s80_object.specs.Body.{block, words_of, word_limit}
use Rattle.s80_object.specs.Literal.{built, is_object, made_before, noted}
use Rattle.s80_object.specs.Objects.{State as Objects, with_body}
use Rattle.s80_object.specs.declared.value.Value.{Value}
use Rattle.s80_object.specs.declared.value.Value.TheVariants.{Small, Character, Nil, True, False, Symbol, Number, ClassRef, Object, Context as ThisContext, Transcript, Smalltalk}
use Rattle.s80_prims.specs.declared.stop.Stop.TheVariants.{NonBoolean}
use Rattle.s80_machine.specs.World.{World, Activation, home_in, one_tick, receiver_variable, temporary, variable_named, with_objects, with_receiver_variable, with_temporary, with_variable}
use Rattle.s80_machine.specs.Turn.{Context, waiting, Turn, Goes, constant_in, given, goes_on, place_at, stops, ticked}
use Rattle.s80_class.specs.Lookup.{number}
use Rattle.s80_machine.specs.Shared.{at_once, block_with, decided, depth_limit, fixed, is_value}
use Rattle.s80_machine.specs.Step.{act, block_made, copy_turn, first_pushed, jump, jump_or_back, literal_pushed, places_above, places_for, push, selector_at, send_turn, special_turn, store, super_turn}
use Rattle.s80_machine.specs.Measure.{left_of, left_of_all, one_tick_more, steps_left}
use Rattle.s80_machine.proofs.LeftJumps.{IsForward}
use Rattle.s80_machine.proofs.LeftKept.{KeepsTicks, BothKeep, temporary_keeps, variable_keeps}
use Rattle.s80_machine.proofs.LeftParts.{IsPaid, Lowers, Pays, paid, spent, by_given, by_map_or, by_message, by_popped, by_return, by_delivery, by_room, by_test, by_tick}
use Rattle.s80_machine.proofs.LeftSends.{by_block, by_send}

-- further along a code less is left of it
less_along : (x y p q k : ℕ) → x ≡ y → p < q → p < 1024 → x + ((1024 - q) + k) < y + ((1024 - p) + k)
less_along x y p q k e h l = omega (arith, e, h, l)

module _ (t : Table) (methods : MethodsValue (MethodEntry Code)) (doit_code code : Code) (budget next : ℕ) (c : Context) (rest : List Context) (w : World)
    (forward : c.place < next) (room : c.place < 1024) (few : length (c ∷ rest) ≤ depth_limit) (within : w.ticks ≤ budget) where
  abbrev now : ℕ
  now = steps_left budget (record { contexts = c ∷ rest; world = w })

  -- an instruction that costs nothing goes on further along
  along : (d : Context) (place : ℕ) (stack : List Value) (u : World) → u.ticks ≡ w.ticks → c.place < place → Lowers budget now (goes_on d place stack rest u)
  along d place stack u same h =
      let same_ticks : (budget - u.ticks) * one_tick_more ≡ (budget - w.ticks) * one_tick_more = ap (λ n. (budget - n) * one_tick_more) same in
      let new = sum_by-cons left_of (record d { place = place; stack = stack }) rest in
      let old = sum_by-cons left_of c rest in
      let less = less_along ((budget - u.ticks) * one_tick_more) ((budget - w.ticks) * one_tick_more) c.place place (left_of_all rest) same_ticks h room in
      (few, (omega (arith, same, within), omega (arith, less, new, old)))

  on : (stack : List Value) → Lowers budget now (goes_on c next stack rest w)
  on stack = along c next stack w refl forward

  pays : Pays budget now w.ticks
  pays = paid budget (c ∷ rest) w

  -- without the active context
  ended : Lowers budget now (Goes (record { contexts = rest; world = w }))
  ended =
      let old = sum_by-cons left_of c rest in
      (omega (arith, few), (within, omega (arith, room, old)))

  -- ---- literals, variables and temporaries

  by_literal : (k : ℕ) (l : LiteralTree) → Lowers budget now (literal_pushed t methods doit_code budget c next rest w k l)
  by_literal k l =
      by_map_or budget now (made_before c.method k w.objects) _ _ (λ v. on (v ∷ c.stack)) (by_first (built (number t (codes "String")) (number t (codes "Array")) l w.objects))
    where
      by_first : (b : Objects × Value) → Lowers budget now (first_pushed t methods doit_code budget c next rest w k l b)
      by_first b =
          by_test budget now (nat_le (words_of b.0.bodies) word_limit) _ _ (along c next (b.1 ∷ c.stack) (with_objects w (noted c.method k (is_object l) b)) refl forward) tt

  by_push : (s : Storage) → Lowers budget now (push t methods doit_code budget code c next rest w s)
  by_push (Receiver i) = by_given budget now (receiver_variable w c.receiver i) _ (λ v. on (v ∷ c.stack))
  by_push (Temporary i) = by_given budget now (temporary w c.activation i) _ (λ v. on (v ∷ c.stack))
  by_push (Constant k) = by_given budget now (option_and_then constant_in (slice_get (entries_of code.literals) k)) _ (by_literal k)
  by_push (Variable k) = by_given budget now (option_and_then variable_named (slice_get (entries_of code.literals) k)) _ (λ u. on (w.variables u ∷ c.stack))

  by_store : (s : Storage) (v : Value) (stack : List Value) → Lowers budget now (store t methods doit_code budget code c next rest w s v stack)
  by_store (Receiver i) v stack = kept (with_receiver_variable w c.receiver i v) (variable_keeps w c.receiver i v)
    where
      kept : (o : Option World) → KeepsTicks w.ticks o → Lowers budget now (given o (goes_on c next stack rest))
      kept None h = tt
      kept (Some u) h = along c next stack u h forward
  by_store (Temporary i) v stack = kept (with_temporary w c.activation i v) (temporary_keeps w c.activation i v)
    where
      kept : (o : Option (World × Activation)) → BothKeep w.ticks o → Lowers budget now (given o (λ p. goes_on (record c { activation = p.1 }) next stack rest p.0))
      kept None h = tt
      kept (Some p) h = along (record c { activation = p.1 }) next stack p.0 h forward
  by_store (Constant k) v stack = tt
  by_store (Variable k) v stack =
      by_given budget now (option_and_then variable_named (slice_get (entries_of code.literals) k)) _ (λ u. along c next stack (with_variable w u v) refl forward)

  -- ---- real blocks

  by_block_made : (count : ℕ) (stack : List Value) (h : ℕ) → Lowers budget now (block_made t methods doit_code budget c next rest w count stack h)
  by_block_made count stack h =
      by_room budget now w (block (Object h) (next + 2) count) (goes_on c next (Object (length w.objects.bodies) ∷ stack) rest)
      (along c next (Object (length w.objects.bodies) ∷ stack) (with_objects w (with_body w.objects (block (Object h) (next + 2) count))) refl forward)

  by_copy : (stack : List Value) → Lowers budget now (copy_turn t methods doit_code budget c next rest w stack)
  by_copy [] = tt
  by_copy (Small (pos count) ∷ []) = tt
  by_copy (Small (pos count) ∷ v ∷ stack) = by_given budget now (home_in c.activation) (block_made t methods doit_code budget c next rest w count stack) (by_block_made count stack)
  by_copy (Small (negsuc n) ∷ stack) = tt
  by_copy (Nil ∷ stack) = tt
  by_copy (True ∷ stack) = tt
  by_copy (False ∷ stack) = tt
  by_copy (Object n ∷ stack) = tt
  by_copy (Character n ∷ stack) = tt
  by_copy (Symbol n ∷ stack) = tt
  by_copy (Number n ∷ stack) = tt
  by_copy (ClassRef n side ∷ stack) = tt
  by_copy (ThisContext ∷ stack) = tt
  by_copy (Transcript ∷ stack) = tt
  by_copy (Smalltalk ∷ stack) = tt

  -- ---- messages

  by_special : (n : ℕ) (r : Value) (arguments stack : List Value) → Lowers budget now (special_turn t methods doit_code budget n c next rest w r arguments stack)
  by_special n r arguments stack =
      by_map_or budget now (at_once t w.objects n r arguments) _ _ (λ v. on (v ∷ stack))
      (by_map_or budget now (if is_value n then block_with w.objects r (length arguments) else None) _ _
      (λ b. by_block t methods doit_code budget now b arguments (waiting c next stack ∷ rest) w pays)
      (by_given budget now (slice_get special_selectors n) _
      (λ selector. by_send t methods doit_code budget now (places_for t methods doit_code budget w r) selector r arguments (waiting c next stack ∷ rest) w pays few)))

  by_send_turn : (k : ℕ) (r : Value) (arguments stack : List Value) → Lowers budget now (send_turn t methods doit_code budget code c next rest w k r arguments stack)
  by_send_turn k r arguments stack =
      by_given budget now (selector_at t methods doit_code budget code k) _
      (λ selector. by_send t methods doit_code budget now (places_for t methods doit_code budget w r) selector r arguments (waiting c next stack ∷ rest) w pays few)

  by_super_turn : (k : ℕ) (r : Value) (arguments stack : List Value) → Lowers budget now (super_turn t methods doit_code budget code c next rest w k r arguments stack)
  by_super_turn k r arguments stack =
      by_given budget now (selector_at t methods doit_code budget code k) _
      (λ selector. by_given budget now (slice_get w.keys c.method) _
      (λ key. by_send t methods doit_code budget now (places_above t methods doit_code budget key) selector c.receiver arguments (waiting c next stack ∷ rest) w pays few))

  -- ---- jumps

  by_jump : (n : ℕ) (stack : List Value) → Lowers budget now (jump t methods doit_code budget (pos n) c next stack rest w)
  by_jump n stack = along c (next + n) stack w refl (omega (arith, forward))

  by_forward : (distance : ℤ) (n : ℕ) → distance ≡ pos n → (stack : List Value) → Lowers budget now (jump t methods doit_code budget distance c next stack rest w)
  by_forward distance n is stack = subst (λ (d : ℤ). Lowers budget now (jump t methods doit_code budget d c next stack rest w)) (sym is) (by_jump n stack)

  by_jump_paid : (distance : ℤ) (stack : List Value) (u : World) → IsPaid budget now u.ticks → Lowers budget now (jump t methods doit_code budget distance c next stack rest u)
  by_jump_paid distance stack u p = by_given budget now (place_at (pos next +ℤ distance)) _ (λ to. spent budget now (record c { place = to; stack = stack } ∷ rest) u p few)

  by_back : (distance : ℤ) → Lowers budget now (ticked budget w (jump t methods doit_code budget distance c next c.stack rest))
  by_back distance = by_tick budget now w (jump t methods doit_code budget distance c next c.stack rest) (λ l. by_jump_paid distance c.stack (one_tick w) (pays l))

  by_jump_or_back : (distance : ℤ) → Lowers budget now (jump_or_back t methods doit_code budget distance c next rest w)
  by_jump_or_back (pos n) = by_test budget now (is_negative (pos n)) _ _ (by_back (pos n)) (by_jump n c.stack)
  by_jump_or_back (negsuc n) = by_back (negsuc n)

  by_decision : (v : Value) (on_true on_false : Turn) → Lowers budget now on_true → Lowers budget now on_false → Lowers budget now (decided v on_true on_false (stops NonBoolean w))
  by_decision True on_true on_false h k = h
  by_decision False on_true on_false h k = k
  by_decision Nil on_true on_false h k = tt
  by_decision (Object n) on_true on_false h k = tt
  by_decision (Small n) on_true on_false h k = tt
  by_decision (Character n) on_true on_false h k = tt
  by_decision (Symbol n) on_true on_false h k = tt
  by_decision (Number n) on_true on_false h k = tt
  by_decision (ClassRef n side) on_true on_false h k = tt
  by_decision ThisContext on_true on_false h k = tt
  by_decision Transcript on_true on_false h k = tt
  by_decision Smalltalk on_true on_false h k = tt

  -- ---- instructions

  pub by_act : (i : Instruction) → IsForward i → Lowers budget now (act t methods doit_code budget code c next rest w i)
  by_act (instruction.Push storage) f = by_push storage
  by_act (instruction.Store storage) f = by_popped budget now c.stack _ (λ v stack. by_store storage v (v ∷ stack))
  by_act (instruction.PopInto storage) f = by_popped budget now c.stack _ (λ v stack. by_store storage v stack)
  by_act (instruction.PushFixed n) f = by_given budget now (slice_get (fixed c.receiver) n) _ (λ v. on (v ∷ c.stack))
  by_act (instruction.ReturnFixed n) f = by_given budget now (slice_get (fixed c.receiver) n) _ (λ v. by_return budget now c.activation v rest w ended)
  by_act instruction.ReturnTop f = by_popped budget now c.stack _ (λ v stack. by_return budget now c.activation v rest w ended)
  by_act instruction.ReturnFromBlock f = by_popped budget now c.stack _ (λ v stack. by_delivery budget now v rest w ended)
  by_act (instruction.Send count k) f = by_message budget now count [] c.stack _ (by_send_turn k)
  by_act (instruction.SendSuper count k) f = by_message budget now count [] c.stack _ (by_super_turn k)
  by_act (instruction.SendSpecial n) f =
      by_test budget now (n == block_copy) _ _ (by_copy c.stack) (by_message budget now (get_or special_arguments n 0) [] c.stack _ (by_special n))
  by_act instruction.Pop f = by_popped budget now c.stack _ (λ v stack. on stack)
  by_act instruction.Duplicate f = by_popped budget now c.stack _ (λ v stack. on (v ∷ v ∷ stack))
  by_act instruction.PushContext f = on (ThisContext ∷ c.stack)
  by_act (instruction.Jump distance) f = by_jump_or_back distance
  by_act (instruction.JumpOnTrue distance) (n, is) =
      by_popped budget now c.stack _
      (λ v stack. by_decision v (jump t methods doit_code budget distance c next stack rest w) (goes_on c next stack rest w) (by_forward distance n is stack) (on stack))
  by_act (instruction.JumpOnFalse distance) (n, is) =
      by_popped budget now c.stack _
      (λ v stack. by_decision v (goes_on c next stack rest w) (jump t methods doit_code budget distance c next stack rest w) (on stack) (by_forward distance n is stack))
