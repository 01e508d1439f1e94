-- Messages: each method that is found may be activated with the receiver.
use Rattle.std.proofs.Common.{◌≡◌, ap, sym, subst, refl, ℕ, ◌<◌, ◌≤◌, ◌==◌, List, [], ◌∷◌, codes, Option, Some, None, IfSome, length, unwrap_or, All, arith, if◌then◌else◌}
use Rattle.std.specs.FinMap as map_of
use Rattle.std.specs.Option.{IsSome, option_map, option_map_or}
use Rattle.std.proofs.lemmas.List.Elements.{All-nil, All-cons, All-tail, All-drop}
use Rattle.s80_base.specs.declared.names.Side.{Side}
use Rattle.s80_base.specs.declared.names.Side.TheVariants.{Instance}
use Rattle.s80_kernel.specs.Rows as rows
use Rattle.s80_class.specs.Table.{Table, class_name}
use Rattle.s80_code.specs.declared.code.Code.{Code}
use Rattle.s80_dict.specs.Table.{MethodsValue, methods_at}
use Rattle.s80_dict.specs.declared.dict.MethodEntry.{MethodEntry}
use Rattle.s80_object.specs.declared.value.Value.{Value}
use Rattle.s80_prims.specs.declared.applied.Applied.{Applied}
use Rattle.s80_prims.specs.declared.applied.Applied.TheVariants.{Done, Fails, Stops}
use Rattle.s80_prims.specs.declared.stop.Stop.TheVariants.{NotUnderstood}
use Rattle.s80_prims.specs.Classes.{class_of}
use Rattle.s80_prims.specs.Kept.{AnswersKnown, KeepsKnown}
use Rattle.s80_prims.specs.Known.{AreKnown, IsKnown}
use Rattle.s80_prims.specs.Primitives.{World as ReachedWorld, primitive}
use Rattle.s80_lex.specs.Selector.{IsSelectorOf}
use Rattle.s80_machine.specs.World.{World, Key, doit, method, changed, one_tick, reached, receiver_variable}
use Rattle.s80_machine.specs.Turn.{Context, Turn}
use Rattle.s80_class.specs.Lookup.{Found, Place, first_found, number, places_up}
use Rattle.s80_machine.specs.Shared.{Block, block_with, does_not_understand, selector_of}
use Rattle.s80_machine.specs.Step.{activated, block_activated, by_effect, by_primitive, code_for, found_turn, looked_up, method_turn, not_understood, performed, places_above, places_for, places_of, sent, sent_on}
use Rattle.s80_machine.specs.Sound.{IsSetting, IsMethod, IsSoundTurn, IsSoundWorld, SuitsMethod, variables_for, variables_on}
use Rattle.s80_machine.proofs.SoundClasses.{HasAtMost, found_at, kernel_number, kernel_plain, places_within}
use Rattle.s80_machine.proofs.SoundOperands.{one_selector}
use Rattle.s80_machine.proofs.SoundWorlds.{Onward, value_stays, variable_stays}
use Rattle.s80_machine.proofs.SoundChanges.{Follows}
use Rattle.s80_machine.proofs.SoundValues.{has_class}
use Rattle.s80_machine.proofs.SoundPrims.{primitive_good}
use Rattle.s80_machine.proofs.SoundMessages.{made_sound, selector_takes, takes_one}
use Rattle.s80_machine.proofs.SoundEnds.{AllWait, CanRun, activated_sound, block_sound, block_takes, deliver_sound, if_sound, stops_sound, ticked_sound, wait_on}
use Rattle.s80_code.proofs.lemmas.TableLemmas.{value}

-- the receiver has the variables of all these places
pub record Serves (t : Table) (w : World) (r : Value) (places : List Place) : Type 0 where
  pub most : ℕ
  pub within : All (HasAtMost t most) places
  pub variables : (i : ℕ) → i < most → IsSome (receiver_variable w r i)

pub serves_on : (t : Table) (w w1 : World) → Onward w w1 → (r : Value) (places : List Place) → Serves t w r places → Serves t w1 r places
serves_on t w w1 on r places h = record { most = h.most; within = h.within; variables = λ i below. variable_stays w w1 on r i (h.variables i below) }

mapped_from : {X Y : Type 0} (f : X → Y) (o : Option X) (y : Y) → option_map f o ≡ Some y → (x : X) × (o ≡ Some x) × (f x ≡ y)
mapped_from f None y e = cc
mapped_from f (Some x) y e = (x, refl, value e)

-- what is told of primitives
abbrev pub PrimitivesKeep : Table → Type 0
PrimitivesKeep t = (n : ℕ) (r : Value) (arguments : List Value) (w : ReachedWorld) → IsKnown t w.objects r → All (IsKnown t w.objects) arguments → AreKnown t w.objects → KeepsKnown t w.objects (primitive t n r arguments w)

module _ (t : Table) (methods : MethodsValue (MethodEntry Code)) (code : Code) (setting : IsSetting t methods code) (keeps : PrimitivesKeep t) (budget : ℕ) where
  -- ---- the places of a receiver's class, and above a method's own

  pub serves_class : (w : World) (r : Value) → IsSoundWorld t methods code w → IsKnown t w.objects r → Serves t w r (places_for t methods code budget w r)
  serves_class w r h known =
      let c = has_class t methods code setting w h r known in
      subst (λ v. Serves t w r (places_of t methods code budget v)) (sym c.is)
      (record { most = variables_on t c.number c.side; within = places_within t methods code setting c.number c.side (variables_on t c.number c.side) c.there (omega arith); variables = c.variables })

  method_class : (c : ℕ) (side : Side) (selector : List ℕ) (of : Code) → code_for methods code (method c side selector) ≡ Some of → SuitsMethod t c side selector of
  method_class c side selector of e =
      let r = mapped_from (λ (e : MethodEntry Code). e.code) (map_of.get (methods_at methods c side) selector) of e in
      subst (SuitsMethod t c side selector) r.2 (setting.methods_suit c side selector r.0 r.1)

  pub serves_above : (w : World) (m : ℕ) (r : Value) (of : Code) (h : IsMethod t methods code w m r of) → Serves t w r (places_above t methods code budget h.key)
  unfolding rows.is_kernel_class
  serves_above w m r of h = by_key h.key h.code_is h.variables
    where
      by_key : (key : Key) → code_for methods code key ≡ Some of → ((i : ℕ) → i < variables_for t key → IsSome (receiver_variable w r i)) → Serves t w r (places_above t methods code budget key)
      by_key doit is variables =
          let nil : ℕ = number t (codes "UndefinedObject") in
          let few : variables_on t nil Instance ≤ 0 = omega (arith, kernel_plain t methods code setting (codes "UndefinedObject") refl refl) in
          record {
            most = 0;
            within = All-drop (HasAtMost t 0) 1 (places_up t nil Instance)
                (places_within t methods code setting nil Instance 0 (codes "UndefinedObject", kernel_number t methods code setting (codes "UndefinedObject") refl) few);
            variables = variables;
          }
      by_key (method c side selector) is variables =
          let suits = method_class c side selector of is in
          record {
            most = variables_on t c side;
            within = All-drop (HasAtMost t (variables_on t c side)) 1 (places_up t c side) (places_within t methods code setting c side (variables_on t c side) suits.class (omega arith));
            variables = variables;
          }

  -- ---- a method that was found

  effect_sound : (applied : Applied) (after w : World) (otherwise : Turn) (below : List Context) → IsSoundWorld t methods code after → IsSoundWorld t methods code w → AnswersKnown t after.objects applied
      → IsSoundTurn t methods code otherwise → AllWait t methods code after below → IsSoundTurn t methods code (by_effect t methods code budget applied after otherwise below w)
  effect_sound (Done v) after w otherwise below h old answer run wait = deliver_sound t methods code v below after answer h wait
  effect_sound Fails after w otherwise below h old answer run wait = run
  effect_sound (Stops stop) after w otherwise below h old answer run wait = stops_sound t methods code stop w old

  primitive_sound : (n : ℕ) (r : Value) (arguments : List Value) (otherwise : Turn) (below : List Context) (w : World) → IsSoundWorld t methods code w → IsKnown t w.objects r → All (IsKnown t w.objects) arguments
      → IsSoundTurn t methods code otherwise → AllWait t methods code w below → IsSoundTurn t methods code (by_primitive t methods code budget n r arguments otherwise below w)
  primitive_sound n r arguments otherwise below w h known all run wait =
      let effect = primitive t n r arguments (reached w) in
      let f = primitive_good t methods code setting w h n r arguments known all in
      effect_sound effect.applied (changed w effect.world) w otherwise below f.sound h (keeps n r arguments (reached w) known all h.known).answer run (wait_on t methods code w (changed w effect.world) f below wait)

  method_sound : (other : Option Turn) (key : Key) (of : Code) (r : Value) (arguments : List Value) (below : List Context) (w : World) → IsSoundWorld t methods code w → IfSome other (IsSoundTurn t methods code)
      → CanRun t methods code w key of r → All (IsKnown t w.objects) arguments → length arguments ≤ of.temporaries → AllWait t methods code w below
      → IsSoundTurn t methods code (method_turn t methods code budget other key of r arguments below w)
  method_sound other key of r arguments below w h fine can all few wait =
      if_sound t methods code (of.primitive == 81) (option_map_or (λ b. block_activated t methods code budget b arguments below w) (block_with w.objects r (length arguments)) run)
      (if of.primitive == 83 then unwrap_or other run else by_primitive t methods code budget of.primitive r arguments run below w)
      (by_block (block_with w.objects r (length arguments)) refl)
      (if_sound t methods code (of.primitive == 83) (unwrap_or other run) (by_primitive t methods code budget of.primitive r arguments run below w) (by_other other fine)
      (primitive_sound of.primitive r arguments run below w h can.known all runs wait))
    where
      run : Turn
      run = activated t methods code budget key of r arguments below w

      runs : IsSoundTurn t methods code (activated t methods code budget key of r arguments below w)
      runs = activated_sound t methods code budget key of r arguments below w h can all few wait

      by_block : (o : Option Block) → block_with w.objects r (length arguments) ≡ o
          → IsSoundTurn t methods code (option_map_or (λ b. block_activated t methods code budget b arguments below w) o (activated t methods code budget key of r arguments below w))
      by_block None e = runs
      by_block (Some b) e = block_sound t methods code budget b arguments below w h (block_takes t methods code w.objects r (length arguments) b e) all wait

      by_other : (o : Option Turn) → IfSome o (IsSoundTurn t methods code) → IsSoundTurn t methods code (unwrap_or o (activated t methods code budget key of r arguments below w))
      by_other None fine = runs
      by_other (Some turn) fine = fine

  -- ---- the look-up

  none_sound : (w : World) (r : Value) (selector : List ℕ) → IsSoundWorld t methods code w → IsKnown t w.objects r → IsSoundTurn t methods code (not_understood t methods code budget (class_of t w.objects r) selector w)
  none_sound w r selector h known =
      let c = has_class t methods code setting w h r known in
      subst (λ v. IsSoundTurn t methods code (not_understood t methods code budget v selector w)) (sym c.is) (stops_sound t methods code (NotUnderstood (class_name t c.number) c.side selector) w h)

  run_sound : (f : Found (MethodEntry Code)) (other : Option Turn) (places : List Place) (selector : List ℕ) (r : Value) (arguments : List Value) (below : List Context) (w : World)
      → first_found methods selector places ≡ Some f → IsSoundWorld t methods code w → IfSome other (IsSoundTurn t methods code) → IsKnown t w.objects r → Serves t w r places → All (IsKnown t w.objects) arguments
      → IsSelectorOf (length arguments) selector → AllWait t methods code w below → IsSoundTurn t methods code (method_turn t methods code budget other (method f.class f.side selector) f.entry.code r arguments below w)
  run_sound f other places selector r arguments below w e h fine known serves all takes wait =
      let found = found_at methods selector (HasAtMost t serves.most) places f serves.within e in
      let suits = setting.methods_suit f.class f.side selector f.entry found.entry in
      let same : f.entry.code.arguments ≡ length arguments = one_selector selector f.entry.code.arguments (length arguments) suits.selector_is takes in
      let few : length arguments ≤ f.entry.code.temporaries = omega (arith, same, suits.suits.depths.header.arguments) in
      let fits : variables_on t f.class f.side ≤ serves.most = found.place in
      let can : CanRun t methods code w (method f.class f.side selector) f.entry.code r = record {
        code_is = ap (option_map (λ (e : MethodEntry Code). e.code)) found.entry;
        suits = suits.suits;
        known = known;
        variables = λ i below. serves.variables i (omega (arith, below, fits));
      } in
      method_sound other (method f.class f.side selector) f.entry.code r arguments below w h fine can all few wait

  on_sound : (o : Option (Found (MethodEntry Code))) (places : List Place) (selector : List ℕ) (r : Value) (arguments : List Value) (below : List Context) (w : World)
      → first_found methods does_not_understand places ≡ o → IsSoundWorld t methods code w → IsKnown t w.objects r → Serves t w r places → All (IsKnown t w.objects) arguments
      → AllWait t methods code w below → IsSoundTurn t methods code (sent_on t methods code budget o selector r arguments below w)
  on_sound None places selector r arguments below w e h known serves all wait = none_sound w r selector h known
  on_sound (Some f) places selector r arguments below w e h known serves all wait =
      made_sound t methods code setting budget selector arguments w (λ m. method_turn t methods code budget None (method f.class f.side does_not_understand) f.entry.code r (m ∷ []) below) h all
      (λ m w1 follows is.
      run_sound f None places does_not_understand r (m ∷ []) below w1 e follows.sound tt (value_stays t w w1 follows.onward r known) (serves_on t w w1 follows.onward r places serves)
      (All-cons (IsKnown t w1.objects) m [] is (All-nil (IsKnown t w1.objects))) takes_one (wait_on t methods code w w1 follows below wait))

  found_sound : (o on : Option (Found (MethodEntry Code))) (other : World → Option Turn) (places : List Place) (selector : List ℕ) (r : Value) (arguments : List Value) (below : List Context) (w : World)
      → first_found methods selector places ≡ o → first_found methods does_not_understand places ≡ on → IsSoundWorld t methods code w → IfSome (other w) (IsSoundTurn t methods code) → IsKnown t w.objects r
      → Serves t w r places → All (IsKnown t w.objects) arguments → IsSelectorOf (length arguments) selector → AllWait t methods code w below
      → IsSoundTurn t methods code (found_turn t methods code budget o on other selector r arguments below w)
  found_sound None on other places selector r arguments below w e is h fine known serves all takes wait = on_sound on places selector r arguments below w is h known serves all wait
  found_sound (Some f) on other places selector r arguments below w e is h fine known serves all takes wait =
      run_sound f (other w) places selector r arguments below w e h fine known serves all takes wait

  looked_sound : (other : World → Option Turn) (places : List Place) (selector : List ℕ) (r : Value) (arguments : List Value) (below : List Context) (w : World) → IsSoundWorld t methods code w
      → (Follows t methods code w (one_tick w) → IfSome (other (one_tick w)) (IsSoundTurn t methods code)) → IsKnown t w.objects r → Serves t w r places → All (IsKnown t w.objects) arguments
      → IsSelectorOf (length arguments) selector → AllWait t methods code w below → IsSoundTurn t methods code (looked_up t methods code budget other places selector r arguments below w)
  looked_sound other places selector r arguments below w h fine known serves all takes wait =
      let o : Option (Found (MethodEntry Code)) = first_found methods selector places in
      let on : Option (Found (MethodEntry Code)) = first_found methods does_not_understand places in
      ticked_sound t methods code budget w (found_turn t methods code budget o on other selector r arguments below) h
      (λ f.
      let w1 : World = one_tick w in
      found_sound o on other places selector r arguments below w1 refl refl f.sound (fine f) known (serves_on t w w1 f.onward r places serves) all takes (wait_on t methods code w w1 f below wait))

  -- ---- a message that a primitive sends

  by_told : (o : Option (List ℕ)) (takes : List ℕ → Type 0) (go : List ℕ → Turn) → ((selector : List ℕ) → o ≡ Some selector → takes selector)
      → ((selector : List ℕ) → takes selector → IsSoundTurn t methods code (go selector)) → IfSome (option_map go o) (IsSoundTurn t methods code)
  by_told None takes go told h = tt
  by_told (Some selector) takes go told h = h selector (told selector refl)

  performed_sound : (r : Value) (arguments : List Value) (below : List Context) (w : World) → IsSoundWorld t methods code w → IsKnown t w.objects r → All (IsKnown t w.objects) arguments
      → AllWait t methods code w below → IfSome (performed t methods code budget r arguments below w) (IsSoundTurn t methods code)
  performed_sound r [] below w h known all wait = tt
  performed_sound r (a ∷ arguments) below w h known all wait =
      by_told (selector_of w.objects a (length arguments)) (IsSelectorOf (length arguments))
      (λ selector. looked_up t methods code budget (performed t methods code budget r arguments below) (places_for t methods code budget w r) selector r arguments below w)
      (selector_takes w.objects a (length arguments))
      (λ selector takes.
      looked_sound (performed t methods code budget r arguments below) (places_for t methods code budget w r) selector r arguments below w h
      (λ f. performed_sound r arguments below (one_tick w) f.sound known (All-tail (IsKnown t w.objects) a arguments all) (wait_on t methods code w (one_tick w) f below wait)) known (serves_class w r h known)
      (All-tail (IsKnown t w.objects) a arguments all) takes wait)

  pub sent_sound : (places : List Place) (selector : List ℕ) (r : Value) (arguments : List Value) (below : List Context) (w : World) → IsSoundWorld t methods code w → IsKnown t w.objects r → Serves t w r places
      → All (IsKnown t w.objects) arguments → IsSelectorOf (length arguments) selector → AllWait t methods code w below → IsSoundTurn t methods code (sent t methods code budget places selector r arguments below w)
  sent_sound places selector r arguments below w h known serves all takes wait =
      looked_sound (performed t methods code budget r arguments below) places selector r arguments below w h
      (λ f. performed_sound r arguments below (one_tick w) f.sound known all (wait_on t methods code w (one_tick w) f below wait)) known serves all takes wait
