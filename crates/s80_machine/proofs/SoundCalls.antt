-- Messages of the active context, and the blocks that it makes.
use Rattle.std.proofs.Common.{◌≡◌, ◌∙◌, ap, sym, subst, refl, ℕ, ◌+◌, ◌≤◌, ◌==◌, pos, List, [], ◌∷◌, Option, Some, None, IfSome, Bool, true, false, length, slice_get, get_or, All, arith, if◌then◌else◌, option_and_then, true≢false}
use Rattle.std.specs.Option.{option_map_or}
use Rattle.std.proofs.lemmas.List.Elements.{All-cons, All-nil, All-tail}
use Rattle.s80_class.specs.Table.{Table}
use Rattle.s80_code.specs.declared.code.Code.{Code}
use Rattle.s80_code.specs.declared.instruction.Instruction.{Instruction}
use Rattle.s80_code.specs.declared.instruction.Instruction.TheVariants as instruction
use Rattle.s80_code.specs.Special.{block_copy, special_arguments, special_selectors}
use Rattle.s80_code.specs.Table.{Stands}
use Rattle.s80_dict.specs.Table.{MethodsValue}
use Rattle.s80_dict.specs.declared.dict.MethodEntry.{MethodEntry}
use Rattle.s80_object.specs.Body.{block as block_body}
use Rattle.s80_object.specs.Objects.{with_body}
use Rattle.s80_object.specs.declared.value.Value.{Value}
use Rattle.s80_object.specs.declared.value.Value.TheVariants.{Object, Small}
use Rattle.s80_prims.specs.Known.{IsKnown}
use Rattle.s80_verify.specs.declared.stack.Stack.TheVariants.{OfBlock}
use Rattle.s80_verify.specs.Effect.{takes, leaves, goes_on as goes_behind}
use Rattle.s80_verify.specs.Operands.{Sends}
use Rattle.s80_verify.specs.Reach.{Begins, Counts, Reached}
use Rattle.s80_lex.specs.Selector.{IsSelectorOf}
use Rattle.s80_verify.proofs.lemmas.ListLemmas.{get_within}
use Rattle.s80_verify.proofs.lemmas.PlaceLemmas.{same_instruction}
use Rattle.s80_machine.specs.World.{World, Activation, own, home, block, home_in, with_objects}
use Rattle.s80_machine.specs.Turn.{Context, waiting, Turn, given, goes_on, holds_block, message_off, selector_in}
use Rattle.s80_machine.specs.Shared.{Block, at_once, block_with, is_value}
use Rattle.s80_machine.specs.Step.{block_activated, block_made, copy_turn, places_above, places_for, selector_at, send_turn, sent, special_turn, super_turn}
use Rattle.s80_machine.specs.Sound.{HasCount, IsBlockOf, IsActivationOf, IsHomeOf, IsNoCopy, IsSetting, IsSoundContext, IsSoundTurn, IsSoundWorld, stack_kind}
use Rattle.s80_machine.proofs.lemmas.SoundLists.{same_number}
use Rattle.s80_machine.proofs.SoundOperands.{in_range, special_there}
use Rattle.s80_machine.proofs.SoundPlaces.{holds_it, none_at_start, reach_block, starts_behind}
use Rattle.s80_machine.proofs.SoundWorlds.{activation_stays, values_stay}
use Rattle.s80_machine.proofs.SoundChanges.{last_known, same_follows}
use Rattle.s80_machine.proofs.SoundValues.{at_once_known, class_of_known}
use Rattle.s80_machine.proofs.SoundEnds.{AllWait, block_sound, block_takes, room_sound}
use Rattle.s80_machine.proofs.SoundSends.{PrimitivesKeep, sent_sound, serves_above, serves_class}
use Rattle.s80_machine.proofs.SoundMoves.{behind, fits, goes_sound, message_sound}

module _ (t : Table) (methods : MethodsValue (MethodEntry Code)) (code : Code) (setting : IsSetting t methods code) (keeps : PrimitivesKeep t) (budget : ℕ)
    (c : Context) (rest : List Context) (w : World) (sound : IsSoundWorld t methods code w) (context : IsSoundContext t methods code w 0 c) (wait : AllWait t methods code w rest) where
  abbrev Turns : Turn → Type 0
  Turns = IsSoundTurn t methods code

  abbrev AreKnownAll : List Value → Type 0
  AreKnownAll vs = All (IsKnown t w.objects) vs

  -- ---- messages

  -- an instruction that takes so many arguments and a receiver off the stack, and leaves an answer
  pub record IsCall (i : Instruction) (count : ℕ) : Type 0 where
    pub goes : goes_behind i ≡ true
    pub takes : takes i ≡ count + 1
    pub leaves : leaves i ≡ 1
    pub counts : (n : ℕ) → Counts context.of i n → ⊥

  -- the context waits below for the answer
  waits : (i : Instruction) (count next : ℕ) → Stands context.of.bytes c.place i next → IsCall i count → (stack : List Value) → length c.stack ≡ count + 1 + length stack → AreKnownAll stack → AllWait t methods code w (waiting c next stack ∷ rest)
  waits i count next s h stack left known =
      All-cons (IsSoundContext t methods code w 1) (waiting c next stack) rest
      (behind t methods code c rest w sound context wait i next s w 1 c.activation stack
      (record {
        follows = same_follows t methods code w sound;
        activation = context.activation;
        kind = refl;
        known = known;
        goes = h.goes;
        depth = omega (arith, left, h.takes, h.leaves);
        counts = λ n is. absurd (h.counts n is);
      }))
      wait

  -- the answer is there at once
  at_once_sound : (i : Instruction) (count next : ℕ) → Stands context.of.bytes c.place i next → IsCall i count → (v : Value) (stack : List Value) → length c.stack ≡ count + 1 + length stack → IsKnown t w.objects v → AreKnownAll stack
      → Turns (goes_on c next (v ∷ stack) rest w)
  at_once_sound i count next s h v stack left known all =
      goes_sound t methods code c rest w sound context wait i next s w c.activation (v ∷ stack)
      (record {
        follows = same_follows t methods code w sound;
        activation = context.activation;
        kind = refl;
        known = All-cons (IsKnown t w.objects) v stack known all;
        goes = h.goes;
        depth = omega (arith, left, h.takes, h.leaves);
        counts = λ n is. absurd (h.counts n is);
      })

  send_call : (count k : ℕ) → IsCall (instruction.Send count k) count
  send_call count k = record { goes = refl; takes = refl; leaves = refl; counts = λ n is. is }

  super_call : (count k : ℕ) → IsCall (instruction.SendSuper count k) count
  super_call count k = record { goes = refl; takes = refl; leaves = refl; counts = λ n is. is }

  special_call : (n : ℕ) → IsCall (instruction.SendSpecial n) (get_or special_arguments n 0)
  special_call n = record { goes = refl; takes = refl; leaves = refl; counts = λ n is. is }

  -- a message with its selector, to what lies below the arguments
  call_sound : (i : Instruction) (count next : ℕ) → Stands context.of.bytes c.place i next → IsCall i count → (go : Value → List Value → List Value → Turn)
      → ((r : Value) (all below : List Value) → length all ≡ count → length c.stack ≡ count + 1 + length below → IsKnown t w.objects r → AreKnownAll all → AreKnownAll below → Turns (go r all below)) → Turns (message_off count [] c.stack go)
  call_sound i count next s h go goes =
      let enough = (fits t methods code c rest w sound context wait i next s).enough in
      message_sound t methods code w count [] c.stack go (omega (arith, enough, h.takes)) (All-nil (IsKnown t w.objects)) context.values
      (λ r all below taken left known args stack. goes r all below (omega (arith, taken)) left known args stack)

  selector_there : (count k : ℕ) (h : Sends context.of count k) → selector_at t methods code budget context.of k ≡ Some h.0
  selector_there count k h = ap (option_and_then selector_in) h.1

  pub send_sound : (count k next : ℕ) → Stands context.of.bytes c.place (instruction.Send count k) next → Sends context.of count k → Turns (message_off count [] c.stack (send_turn t methods code budget context.of c next rest w k))
  send_sound count k next s h =
      call_sound (instruction.Send count k) count next s (send_call count k) (send_turn t methods code budget context.of c next rest w k)
      (λ r all below taken left known args stack.
      subst (λ o. Turns (given o (λ selector. sent t methods code budget (places_for t methods code budget w r) selector r all (waiting c next below ∷ rest) w))) (sym (selector_there count k h))
      (sent_sound t methods code setting keeps budget (places_for t methods code budget w r) h.0 r all (waiting c next below ∷ rest) w sound known (serves_class t methods code setting keeps budget w r sound known) args
      (subst (λ n. IsSelectorOf n h.0) (sym taken) h.2) (waits (instruction.Send count k) count next s (send_call count k) below left stack)))

  pub super_sound : (count k next : ℕ) → Stands context.of.bytes c.place (instruction.SendSuper count k) next → Sends context.of count k → Turns (message_off count [] c.stack (super_turn t methods code budget context.of c next rest w k))
  super_sound count k next s h =
      let key = context.method.key in
      let places = places_above t methods code budget key in
      call_sound (instruction.SendSuper count k) count next s (super_call count k) (super_turn t methods code budget context.of c next rest w k)
      (λ r all below taken left known args stack.
      subst (λ o. Turns (given o (λ selector. given (slice_get w.keys c.method) (λ key. sent t methods code budget (places_above t methods code budget key) selector c.receiver all (waiting c next below ∷ rest) w)))) (sym (selector_there count k h))
      (subst (λ o. Turns (given o (λ key. sent t methods code budget (places_above t methods code budget key) h.0 c.receiver all (waiting c next below ∷ rest) w))) (sym context.method.key_is)
      (sent_sound t methods code setting keeps budget places h.0 c.receiver all (waiting c next below ∷ rest) w sound context.method.known
      (serves_above t methods code setting keeps budget w c.method c.receiver context.of context.method) args
      (subst (λ n. IsSelectorOf n h.0) (sym taken) h.2) (waits (instruction.SendSuper count k) count next s (super_call count k) below left stack))))

  special_sound : (n next : ℕ) → Stands context.of.bytes c.place (instruction.SendSpecial n) next → Turns (message_off (get_or special_arguments n 0) [] c.stack (special_turn t methods code budget n c next rest w))
  special_sound n next s =
      call_sound (instruction.SendSpecial n) (get_or special_arguments n 0) next s (special_call n) (special_turn t methods code budget n c next rest w)
      (λ r all below taken left known args stack.
      let wait_below = waits (instruction.SendSpecial n) (get_or special_arguments n 0) next s (special_call n) below left stack in
      by_answer r all below taken left known args stack wait_below (at_once t w.objects n r all) (at_once_known t w.objects n r all (class_of_known t methods code setting w sound r known)))
    where
      by_test : (test : Bool) (r : Value) (all : List Value) (b : Block) → (if test then block_with w.objects r (length all) else None) ≡ Some b → block_with w.objects r (length all) ≡ Some b
      by_test true r all b e = e
      by_test false r all b e = cc

      by_block : (r : Value) (all below : List Value) → length all ≡ get_or special_arguments n 0 → IsKnown t w.objects r → AreKnownAll all → AllWait t methods code w (waiting c next below ∷ rest)
          → (o : Option Block) → (if is_value n then block_with w.objects r (length all) else None) ≡ o
          → Turns (option_map_or (λ b. block_activated t methods code budget b all (waiting c next below ∷ rest) w) o
          (given (slice_get special_selectors n) (λ selector. sent t methods code budget (places_for t methods code budget w r) selector r all (waiting c next below ∷ rest) w)))
      by_block r all below taken known args wait_below None e =
          let word = special_there n (in_range context.of.bytes c.place next (instruction.SendSpecial n) s) in
          subst (λ o. Turns (given o (λ selector. sent t methods code budget (places_for t methods code budget w r) selector r all (waiting c next below ∷ rest) w))) (sym word.1)
          (sent_sound t methods code setting keeps budget (places_for t methods code budget w r) word.0 r all (waiting c next below ∷ rest) w sound known (serves_class t methods code setting keeps budget w r sound known) args
          (subst (λ k. IsSelectorOf k word.0) (sym taken) word.2) wait_below)
      by_block r all below taken known args wait_below (Some b) e =
          block_sound t methods code budget b all (waiting c next below ∷ rest) w sound (block_takes t methods code w.objects r (length all) b (by_test (is_value n) r all b e)) args wait_below

      by_answer : (r : Value) (all below : List Value) → length all ≡ get_or special_arguments n 0 → length c.stack ≡ get_or special_arguments n 0 + 1 + length below → IsKnown t w.objects r → AreKnownAll all → AreKnownAll below
          → AllWait t methods code w (waiting c next below ∷ rest) → (o : Option Value) → IfSome o (IsKnown t w.objects)
          → Turns (option_map_or (λ v. goes_on c next (v ∷ below) rest w) o
          (option_map_or (λ b. block_activated t methods code budget b all (waiting c next below ∷ rest) w)
          (if is_value n then block_with w.objects r (length all) else None)
          (given (slice_get special_selectors n) (λ selector. sent t methods code budget (places_for t methods code budget w r) selector r all (waiting c next below ∷ rest) w))))
      by_answer r all below taken left known args stack wait_below None fine = by_block r all below taken known args wait_below (if is_value n then block_with w.objects r (length all) else None) refl
      by_answer r all below taken left known args stack wait_below (Some v) fine = at_once_sound (instruction.SendSpecial n) (get_or special_arguments n 0) next s (special_call n) v below left fine stack

  -- ---- real blocks

  home_there : (f : Activation) (m : ℕ) (r : Value) (of : Code) → IsActivationOf t methods code w f m r of → holds_block of ≡ true → (h : ℕ) × (home_in f ≡ Some h) × IsHomeOf t methods code w h m r of
  home_there (own temporaries) m r of is holds = absurd (true≢false (sym holds ∙ is.1.1))
  home_there (home h) m r of is holds = (h, refl, is)
  home_there (block b h) m r of is holds = (h, refl, is.0)

  made_sound : (next arguments start : ℕ) → Stands context.of.bytes c.place (instruction.SendSpecial block_copy) next → Begins context.of c.place arguments start → (count : ℕ) → count ≡ arguments → (stack : List Value) → length c.stack ≡ 2 + length stack
      → AreKnownAll stack → (h : ℕ) → IsHomeOf t methods code w h c.method c.receiver context.of → Turns (block_made t methods code budget c next rest w count stack h)
  made_sound next arguments start s b count same stack left known h is_home =
      let jump : b.jump ≡ next = (same_instruction context.of.bytes c.place (instruction.SendSpecial block_copy) (instruction.SendSpecial block_copy) b.jump next b.is_copy s).place in
      let begins : start ≡ next + 2 = starts_behind context.of c.place arguments start b ∙ ap (λ p. p + 2) jump in
      let body = block_body (Object h) (next + 2) count in
      let w1 : World = with_objects w (with_body w.objects body) in
      let reached : Reached context.of (next + 2) OfBlock count =
      subst (λ p. Reached context.of p OfBlock count) begins
      (subst (Reached context.of start OfBlock) (sym same) (reach_block context.of c.place (stack_kind c.activation) (length c.stack + 0) context.reached arguments start b)) in
      let is : IsBlockOf t methods code w (Object h) (next + 2) count = record {
        home = h;
        number = c.method;
        receiver = c.receiver;
        of = context.of;
        whole_is = refl;
        method = context.method;
        is_home = is_home;
        reached = reached;
        plain = subst (IsNoCopy context.of) begins (none_at_start context.of c.place arguments start b);
      } in
      room_sound t methods code w body (goes_on c next (Object (length w.objects.bodies) ∷ stack) rest) sound (get_within w.objects.bodies h _ is_home.there) is
      (λ f.
      goes_sound t methods code c rest w sound context wait (instruction.SendSpecial block_copy) next s w1 c.activation (Object (length w.objects.bodies) ∷ stack)
      (record {
        follows = f;
        activation = activation_stays t methods code w w1 f.onward c.activation c.method c.receiver context.of context.activation;
        kind = refl;
        known = All-cons (IsKnown t w1.objects) (Object (length w.objects.bodies)) stack (last_known t methods code w body) (values_stay t w w1 f.onward stack known);
        goes = refl;
        depth = omega (arith, left);
        counts = λ n is. absurd is;
      }))

  copy_sound : (next : ℕ) → Stands context.of.bytes c.place (instruction.SendSpecial block_copy) next → Turns (copy_turn t methods code budget c next rest w c.stack)
  copy_sound next s =
      let here = fits t methods code c rest w sound context wait (instruction.SendSpecial block_copy) next s in
      let b = here.suits refl in
      by_stack b.0 b.1 b.2 c.stack refl (context.counted b.0 b.1 b.2).1 (omega (arith, here.enough)) context.values
    where
      by_stack : (arguments start : ℕ) → Begins context.of c.place arguments start → (vs : List Value) → c.stack ≡ vs → HasCount arguments vs → 2 ≤ length vs → AreKnownAll vs → Turns (copy_turn t methods code budget c next rest w vs)
      by_stack arguments start b (Small (pos count) ∷ x ∷ stack) e same enough known =
          let holds = holds_it context.of context.method.suits.depths c.place (stack_kind c.activation) (length c.stack + 0) next context.reached s in
          let h = home_there c.activation c.method c.receiver context.of context.activation holds in
          let left : length c.stack ≡ 2 + length stack = ap length e ∙ omega arith in
          let tail = All-tail (IsKnown t w.objects) x stack (All-tail (IsKnown t w.objects) (Small (pos count)) (x ∷ stack) known) in
          subst (λ o. Turns (given o (block_made t methods code budget c next rest w count stack))) (sym h.1) (made_sound next arguments start s b count same stack left tail h.0 h.2)
      by_stack arguments start b (Small (pos count) ∷ []) e same enough known = absurd (omega (arith, enough))
      by_stack arguments start b _ e same enough known = absurd same

  pub specials_sound : (n next : ℕ) → Stands context.of.bytes c.place (instruction.SendSpecial n) next
      → Turns (if n == block_copy then copy_turn t methods code budget c next rest w c.stack else message_off (get_or special_arguments n 0) [] c.stack (special_turn t methods code budget n c next rest w))
  specials_sound n next s = by_test (n == block_copy) refl
    where
      by_test : (b : Bool) → (n == block_copy) ≡ b
          → Turns (if b then copy_turn t methods code budget c next rest w c.stack else message_off (get_or special_arguments n 0) [] c.stack (special_turn t methods code budget n c next rest w))
      by_test true is = copy_sound next (subst (λ k. Stands context.of.bytes c.place (instruction.SendSpecial k) next) (same_number n block_copy is) s)
      by_test false is = special_sound n next s
