-- What is left behind a tick: an activation, an answer of a primitive, a message that is sent.
use Rattle.std.proofs.Common.{ℕ, suc, ◌-◌, ◌<◌, ◌≤◌, ◌++◌, ◌==◌, List, [], ◌∷◌, length, replicate, Option, Some, None, option_and_then}
use Rattle.std.specs.Prelude.{if◌then◌else◌}
use Rattle.std.specs.Option.{option_map, unwrap_or}
use Rattle.s80_class.specs.Table.{Table}
use Rattle.s80_code.specs.declared.code.Code.{Code}
use Rattle.s80_dict.specs.Table.{MethodsValue}
use Rattle.s80_dict.specs.declared.dict.MethodEntry.{MethodEntry}
use Rattle.s80_object.specs.Body.{BodyTree}
use Rattle.s80_object.specs.Body as body
use Rattle.s80_object.specs.Literal.{named}
use Rattle.s80_object.specs.Objects.{State as Objects, body_at, home_parts_of, with_body}
use Rattle.s80_object.specs.declared.value.Value.{Value}
use Rattle.s80_object.specs.declared.value.Value.TheVariants.{Small, Character, Nil, True, False, Symbol, Number, ClassRef, Object, Context as ThisContext, Transcript, Smalltalk}
use Rattle.s80_prims.specs.Classes.{class_of}
use Rattle.s80_prims.specs.Primitives.{primitive}
use Rattle.s80_prims.specs.declared.applied.Applied.{Applied}
use Rattle.s80_prims.specs.declared.applied.Applied.TheVariants.{Done, Fails, Stops}
use Rattle.s80_prims.specs.declared.stop.Stop.TheVariants.{BlockActive}
use Rattle.s80_machine.specs.World.{World, Key, method, Activation, block, changed, home, number_in, numbered, one_tick, own, reached, with_objects}
use Rattle.s80_machine.specs.Turn.{Context, is_active, Turn, Goes, holds_block, pushed_all, stops, deeper}
use Rattle.s80_class.specs.Lookup.{Found, Place, first_found}
use Rattle.s80_machine.specs.Shared.{Block, arguments_body, block_with, depth_limit, does_not_understand, message_body, selector_of}
use Rattle.s80_machine.specs.Step.{activated, at_home, block_activated, block_started, by_effect, found_turn, looked_up, message_made, method_turn, not_understood, performed, places_for, sent, sent_on, started, with_home, with_room, without_home}
use Rattle.s80_machine.proofs.LeftParts.{IsPaid, Lowers, Pays, one_above, paid_again, spent, by_delivery, by_depth, by_given, by_map_or, by_room, by_test, by_tick}

module _ (t : Table) (methods : MethodsValue (MethodEntry Code)) (doit_code : Code) (budget most : ℕ) where
  -- ---- activations

  abbrev begun : Key → Value → Activation → World → Context
  begun key r f w = record { method = number_in w key; receiver = r; activation = f; place = 0; stack = [] }

  abbrev begun_block : Block → List Value → ℕ → ℕ × Value → Context
  begun_block b arguments h parts =
      record { method = parts.0; receiver = parts.1; activation = block b.object h; place = b.start; stack = pushed_all arguments [] }

  pub by_start : (key : Key) (code : Code) (r : Value) (temporaries : List Value) (below : List Context) (w : World)
      → IsPaid budget most w.ticks → length below < depth_limit → Lowers budget most (started t methods doit_code budget key code r temporaries below w)
  by_start key code r temporaries below w p l =
      by_test budget most (holds_block code) (with_home t methods doit_code budget key r temporaries below w) (without_home t methods doit_code budget key r temporaries below w)
      (by_room budget most w (body.home (number_in w key) r temporaries)
      (λ w1. Goes (record { contexts = begun key r (home (length w.objects.bodies)) w ∷ below; world = w1 }))
      (one_above budget most (begun key r (home (length w.objects.bodies)) w) below (with_objects w (with_body w.objects (body.home (number_in w key) r temporaries))) p l))
      (one_above budget most (begun key r (own temporaries) w) below w p l)

  pub by_activation : (key : Key) (code : Code) (r : Value) (arguments : List Value) (below : List Context) (w : World)
      → IsPaid budget most w.ticks → Lowers budget most (activated t methods doit_code budget key code r arguments below w)
  by_activation key code r arguments below w p =
      by_depth budget most below w _
      (λ l. by_start key code r (arguments ++ replicate (code.temporaries - length arguments) Nil) below (numbered w key) p l)

  pub by_block_at : (b : Block) (arguments : List Value) (below : List Context) (w : World) (v : Value)
      → IsPaid budget most w.ticks → length below < depth_limit → Lowers budget most (at_home t methods doit_code budget b arguments below w v)
  by_block_at b arguments below w (Object h) p l =
      by_given budget most (option_and_then home_parts_of (body_at w.objects (Object h))) (block_started t methods doit_code budget b arguments below w h)
      (λ parts. one_above budget most (begun_block b arguments h parts) below w p l)
  by_block_at b arguments below w (Small n) p l = tt
  by_block_at b arguments below w (Character n) p l = tt
  by_block_at b arguments below w Nil p l = tt
  by_block_at b arguments below w True p l = tt
  by_block_at b arguments below w False p l = tt
  by_block_at b arguments below w (Symbol n) p l = tt
  by_block_at b arguments below w (Number n) p l = tt
  by_block_at b arguments below w (ClassRef n side) p l = tt
  by_block_at b arguments below w ThisContext p l = tt
  by_block_at b arguments below w Transcript p l = tt
  by_block_at b arguments below w Smalltalk p l = tt

  pub by_block : (b : Block) (arguments : List Value) (below : List Context) (w : World)
      → Pays budget most w.ticks → Lowers budget most (block_activated t methods doit_code budget b arguments below w)
  by_block b arguments below w pays =
      by_tick budget most w
      (λ w1. if is_active b.object below then stops BlockActive w1 else deeper below w1 (at_home t methods doit_code budget b arguments below w1 b.home))
      (λ l. by_test budget most (is_active b.object below) (stops BlockActive (one_tick w))
      (deeper below (one_tick w) (at_home t methods doit_code budget b arguments below (one_tick w) b.home)) tt
      (by_depth budget most below (one_tick w) _ (λ less. by_block_at b arguments below (one_tick w) b.home (pays l) less)))

  -- ---- sends

  abbrev pub IfThere : Option Turn → Type 0
  IfThere None = Unit {0}
  IfThere (Some turn) = Lowers budget most turn

  pub by_result : (applied : Applied) (after : World) (otherwise : Turn) (below : List Context) (w : World) → IsPaid budget most after.ticks → length below ≤ depth_limit
      → Lowers budget most otherwise → Lowers budget most (by_effect t methods doit_code budget applied after otherwise below w)
  by_result (Done v) after otherwise below w p few h = by_delivery budget most v below after (spent budget most below after p few)
  by_result Fails after otherwise below w p few h = h
  by_result (Stops stop) after otherwise below w p few h = tt

  pub by_sent_or : (o : Option Turn) (otherwise : Turn) → IfThere o → Lowers budget most otherwise → Lowers budget most (unwrap_or o otherwise)
  by_sent_or None otherwise h k = k
  by_sent_or (Some turn) otherwise h k = h

  pub by_method : (o : Option Turn) (key : Key) (code : Code) (r : Value) (arguments : List Value) (below : List Context) (w : World)
      → IsPaid budget most w.ticks → length below ≤ depth_limit → IfThere o → Lowers budget most (method_turn t methods doit_code budget o key code r arguments below w)
  by_method o key code r arguments below w p few h =
      let body = by_activation key code r arguments below w p in
      by_test budget most (code.primitive == 81) _ _
      (by_map_or budget most (block_with w.objects r (length arguments)) (λ b. block_activated t methods doit_code budget b arguments below w)
      (activated t methods doit_code budget key code r arguments below w) (λ b. by_block b arguments below w (paid_again budget most w.ticks p)) body)
      (by_test budget most (code.primitive == 83) _ _
      (by_sent_or o (activated t methods doit_code budget key code r arguments below w) h body)
      (by_result (primitive t code.primitive r arguments (reached w)).applied (changed w (primitive t code.primitive r arguments (reached w)).world) (activated t methods doit_code budget key code r arguments below w) below w p few body))

  pub by_none : (v : Value) (selector : List ℕ) (w : World) → Lowers budget most (not_understood t methods doit_code budget v selector w)
  by_none (ClassRef c side) selector w = tt
  by_none (Object h) selector w = tt
  by_none (Small n) selector w = tt
  by_none (Character n) selector w = tt
  by_none Nil selector w = tt
  by_none True selector w = tt
  by_none False selector w = tt
  by_none (Symbol n) selector w = tt
  by_none (Number n) selector w = tt
  by_none ThisContext selector w = tt
  by_none Transcript selector w = tt
  by_none Smalltalk selector w = tt

  -- an Array and a Message are made, which take no tick
  pub by_message_made : (selector : List ℕ) (arguments : List Value) (w : World) (go : Value → World → Turn) → ((m : Value) (s : Objects) → Lowers budget most (go m (with_objects w s)))
      → Lowers budget most (message_made t methods doit_code budget selector arguments w go)
  by_message_made selector arguments w go h =
      let first : World = with_objects w (with_body w.objects (arguments_body t arguments)) in
      let before : World = with_objects first (named selector first.objects).0 in
      let whole : BodyTree = message_body t (named selector first.objects).1 (Object (length w.objects.bodies)) in
      by_room budget most w (arguments_body t arguments)
      (λ w1.
      with_room (with_objects w1 (named selector w1.objects).0) (message_body t (named selector w1.objects).1 (Object (length w.objects.bodies))) (go (Object (length w1.objects.bodies))))
      (by_room budget most before whole (go (Object (length first.objects.bodies))) (h (Object (length first.objects.bodies)) (with_body before.objects whole)))

  pub by_sent_on : (o : Option (Found (MethodEntry Code))) (selector : List ℕ) (r : Value) (arguments : List Value) (below : List Context) (w : World)
      → IsPaid budget most w.ticks → length below ≤ depth_limit → Lowers budget most (sent_on t methods doit_code budget o selector r arguments below w)
  by_sent_on None selector r arguments below w p few = by_none (class_of t w.objects r) selector w
  by_sent_on (Some f) selector r arguments below w p few =
      by_message_made selector arguments w (λ m. method_turn t methods doit_code budget None (method f.class f.side does_not_understand) f.entry.code r (m ∷ []) below)
      (λ m s. by_method None (method f.class f.side does_not_understand) f.entry.code r (m ∷ []) below (with_objects w s) p few tt)

  pub by_found : (o other : Option (Found (MethodEntry Code))) (further : World → Option Turn) (selector : List ℕ) (r : Value) (arguments : List Value) (below : List Context) (w : World)
      → IsPaid budget most w.ticks → length below ≤ depth_limit → IfThere (further w)
      → Lowers budget most (found_turn t methods doit_code budget o other further selector r arguments below w)
  by_found None other further selector r arguments below w p few h = by_sent_on other selector r arguments below w p few
  by_found (Some f) other further selector r arguments below w p few h = by_method (further w) (method f.class f.side selector) f.entry.code r arguments below w p few h

  pub by_look_up : (further : World → Option Turn) (places : List Place) (selector : List ℕ) (r : Value) (arguments : List Value) (below : List Context) (w : World)
      → Pays budget most w.ticks → length below ≤ depth_limit → (w.ticks < budget → IfThere (further (one_tick w)))
      → Lowers budget most (looked_up t methods doit_code budget further places selector r arguments below w)
  by_look_up further places selector r arguments below w pays few h =
      by_tick budget most w
      (found_turn t methods doit_code budget (first_found methods selector places) (first_found methods does_not_understand places) further selector r arguments below)
      (λ l.
      by_found (first_found methods selector places) (first_found methods does_not_understand places) further selector r arguments below (one_tick w) (pays l) few (h l))

  pub by_mapped : (o : Option (List ℕ)) (go : List ℕ → Turn) → ((selector : List ℕ) → Lowers budget most (go selector)) → IfThere (option_map go o)
  by_mapped None go h = tt
  by_mapped (Some selector) go h = h selector

  -- the message of a primitive takes a tick more, and each message that this sends again
  pub by_performing : (r : Value) (arguments : List Value) (below : List Context) (w : World) → Pays budget most w.ticks → length below ≤ depth_limit
      → IfThere (performed t methods doit_code budget r arguments below w)
  by_performing r [] below w pays few = tt
  by_performing r (a ∷ arguments) below w pays few =
      by_mapped (selector_of w.objects a (length arguments)) _
      (λ selector.
      by_look_up (performed t methods doit_code budget r arguments below) (places_for t methods doit_code budget w r) selector r arguments below w pays few
      (λ l. by_performing r arguments below (one_tick w) (paid_again budget most (suc w.ticks) (pays l)) few))

  pub by_send : (places : List Place) (selector : List ℕ) (r : Value) (arguments : List Value) (below : List Context) (w : World)
      → Pays budget most w.ticks → length below ≤ depth_limit → Lowers budget most (sent t methods doit_code budget places selector r arguments below w)
  by_send places selector r arguments below w pays few =
      by_look_up (performed t methods doit_code budget r arguments below) places selector r arguments below w pays few
      (λ l. by_performing r arguments below (one_tick w) (paid_again budget most (suc w.ticks) (pays l)) few)
