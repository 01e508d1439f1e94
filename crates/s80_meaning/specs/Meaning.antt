-- The meaning of a tree among classes and methods, under a budget of ticks (Blue Book: chapter 2, literals, variables, messages, cascades
-- and blocks; chapter 3, methods, returns and primitives; chapter 4, look-up along superclasses and messages to super; chapter 5,
-- metaclasses; what an object costs and when a run is stopped are the machine's).
use Rattle.std.specs.Prelude.{ℕ, zero, suc, ◌+◌, ◌-◌, ◌==◌, List, [], ◌∷◌, ◌++◌, Bool, true, false, codes, drop, length, replicate, slice_get, nat_le, nat_lt, Option, Some, None, option_and_then, unwrap_or, if◌then◌else◌}
use Rattle.std.specs.Option.{option_map, option_map_or}
use Rattle.std.specs.List.{list_any}
use Rattle.s80_base.specs.Literal.{LiteralTree}
use Rattle.s80_base.specs.declared.names.Side.{Side}
use Rattle.s80_base.specs.declared.names.Side.TheVariants.{Instance}
use Rattle.s80_class.specs.Table.{Table, class_name}
use Rattle.s80_code.specs.Special.{special_number}
use Rattle.s80_core.specs.Core.{VariableTree, LeafTree}
use Rattle.s80_core.specs.Core as core
use Rattle.s80_core.specs.Measures.{fixed_number}
use Rattle.s80_object.specs.Body.{BodyTree, cost, words_of, word_limit}
use Rattle.s80_object.specs.Body as body
use Rattle.s80_object.specs.Literal.{built, is_object, made_before, named, noted}
use Rattle.s80_object.specs.Objects.{body_at, home_parts_of, with_body}
use Rattle.s80_object.specs.declared.value.Value.{Value}
use Rattle.s80_object.specs.declared.value.Value.TheVariants.{True, False, Nil, ClassRef, Object, Context}
use Rattle.s80_prims.specs.Classes.{class_of}
use Rattle.s80_prims.specs.Primitives.{primitive}
use Rattle.s80_prims.specs.declared.applied.Applied.{Applied}
use Rattle.s80_prims.specs.declared.applied.Applied.TheVariants.{Done, Fails, Stops}
use Rattle.s80_prims.specs.declared.stop.End.{End}
use Rattle.s80_prims.specs.declared.stop.End.TheVariants as end
use Rattle.s80_prims.specs.declared.stop.Outcome.{Outcome}
use Rattle.s80_prims.specs.declared.stop.Stop.{Stop}
use Rattle.s80_prims.specs.declared.stop.Stop.TheVariants.{Budget, NonBoolean, CannotReturn, BlockActive, Deep, NotUnderstood, ObjectsFull}
use Rattle.s80_machine.specs.World.{World, Key, doit, method, Variable, Activation, own, home, changed, first_world, home_in, is_home_activation, is_activation_of_block, numbered, number_in, one_tick, reached, receiver_variable, temporary, with_objects, with_receiver_variable, with_temporary, with_variable}
use Rattle.s80_machine.specs.World as world
use Rattle.s80_class.specs.Lookup.{Found, Place, found_or, number, places_up}
use Rattle.s80_machine.specs.Shared.{outcome_of, Block, arguments_body, at_once, block_with, decided, depth_limit, does_not_understand, fixed, is_value, message_body, selector_of}
use Rattle.s80_meaning.specs.Tree.{Meant, RealBlock, Tree, Trees, Sends, place_of, leaf, assign, value, send, cascade, real, two_arms, one_arm, shortcut, repeat, nothing, before, answer, answer_fixed, leave, no_trees, trees, no_sends, sends}

-- ---- what evaluation comes to

-- A value in the activation, with its own temporaries; the end of the activation with a value; a return from a home; a stop; or nothing, where
-- what is named isn't there, or the ticks ran deeper than was asked.
pub data Out (A : Type 0) : Type 0 where
  Gives : A → World → Activation → Out A
  Answers : Value → World → Out A
  Returns : ℕ → Value → World → Out A
  Stopped : Stop → World → Out A
  Unfinished : Out A

abbrev pub and_then : {A B : Type 0} → Out A → (A → World → Activation → Out B) → Out B
and_then (Gives a w f) go = go a w f
and_then (Answers v w) go = Answers v w
and_then (Returns h v w) go = Returns h v w
and_then (Stopped stop w) go = Stopped stop w
and_then Unfinished go = Unfinished

-- with a part that is there
abbrev pub with_part : {A B : Type 0} → Option A → (A → Out B) → Out B
with_part o go = option_map_or go o Unfinished

-- what an activation came to, for the one that waits for it: its home, if it is one, is where returns from it end
abbrev pub ends_home : Activation → ℕ → Value → World → Option ℕ → Out Value
ends_home f h v w None = Returns h v w
ends_home f h v w (Some k) = if h == k then Gives v w f else Returns h v w

abbrev pub awaited : Activation → Option ℕ → Out Value → Out Value
awaited f mine (Gives v w g) = Unfinished
awaited f mine (Answers v w) = Gives v w f
awaited f mine (Returns h v w) = ends_home f h v w mine
awaited f mine (Stopped stop w) = Stopped stop w
awaited f mine Unfinished = Unfinished

-- ---- where a tree stands

-- its method, the receiver, and the activations alive, its own first; of those that keep their temporaries themselves these aren't seen
pub record Here : Type 0 where
  pub key : Key
  pub receiver : Value
  pub alive : List Activation

abbrev pub Evaluator : Type 0
Evaluator = Tree → Here → World → Activation → Out Value

abbrev pub is_active : ℕ → List Activation → Bool
is_active b alive = list_any (is_activation_of_block b) alive

abbrev pub is_alive : ℕ → List Activation → Bool
is_alive h alive = list_any (is_home_activation h) alive

-- ---- ticks, depth and room

abbrev pub ticked : {A : Type 0} → ℕ → World → (World → Out A) → Out A
ticked budget w go = if nat_lt w.ticks budget then go (one_tick w) else Stopped (Budget budget) w

abbrev pub deeper : {A : Type 0} → List Activation → World → Out A → Out A
deeper alive w go = if nat_lt (length alive) depth_limit then go else Stopped Deep w

abbrev pub with_room : {A : Type 0} → World → BodyTree → (World → Out A) → Out A
with_room w b go =
    if nat_le (words_of w.objects.bodies + cost b) word_limit then go (with_objects w (with_body w.objects b))
    else Stopped (ObjectsFull (words_of w.objects.bodies)) w

-- ---- variables

abbrev pub outside : VariableTree → Option Variable
outside (core.class_variable class name) = Some (world.class_variable class name)
outside (core.outer name) = Some (world.outer name)
outside _ = None

abbrev pub read : World → Activation → Value → VariableTree → Option Value
read w f r (core.temporary i) = temporary w f i
read w f r (core.instance i) = receiver_variable w r i
read w f r v = option_map w.variables (outside v)

abbrev pub same_activation : Activation → World → World × Activation
same_activation f w = (w, f)

abbrev pub written : World → Activation → Value → VariableTree → Value → Option (World × Activation)
written w f r (core.temporary i) x = with_temporary w f i x
written w f r (core.instance i) x = option_map (same_activation f) (with_receiver_variable w r i x)
written w f r v x = option_map (λ u. (with_variable w u x, f)) (outside v)

-- the arguments of a block are the temporaries of its home from the first parameter on; the last is written first
abbrev pub with_parameters : World → Activation → ℕ → List Value → Option World
with_parameters w f first [] = Some w
with_parameters w f first (v ∷ vs) = option_and_then (λ w1. option_map (λ p. p.0) (with_temporary w1 f first v)) (with_parameters w f (suc first) vs)

-- ---- returns

-- a return from where a tree stands
abbrev pub returned : {A : Type 0} → Activation → List Activation → Value → World → Out A
returned (own temporaries) alive v w = Answers v w
returned (home h) alive v w = Answers v w
returned (world.block b h) alive v w = if is_alive h alive then Returns h v w else Stopped CannotReturn w

-- ---- choices

-- the constant of `and:` and `or:` where their argument isn't wanted
abbrev pub otherwise : Bool → Value
otherwise true = False
otherwise false = True

abbrev pub chosen : {A : Type 0} → Bool → Value → Out A → Out A → World → Out A
chosen on v wanted other w = decided v (if on then wanted else other) (if on then other else wanted) (Stopped NonBoolean w)

-- ---- methods

-- the method of each selector on each side of the class of each number, where there is one
abbrev pub Methods : Type 0
Methods = ℕ → Side → List ℕ → Option Meant

-- the first of these places at which there is a method of this selector
abbrev pub first_meant : Methods → List ℕ → List Place → Option (Found Meant)
first_meant methods selector [] = None
first_meant methods selector (place ∷ places) = found_or place (methods place.0 place.1 selector) (first_meant methods selector places)

-- a method, or the doIt
abbrev pub meant_for : Methods → Meant → Key → Option Meant
meant_for methods doit_meant doit = Some doit_meant
meant_for methods doit_meant (method c side selector) = methods c side selector

module _ (t : Table) (methods : Methods) (doit_meant : Meant) (budget : ℕ) where
  -- a literal is made at its first push, and is the same one at each later push
  abbrev pub literal_value : World → Activation → ℕ → ℕ → LiteralTree → Out Value
  literal_value w f m k l =
      option_map_or (λ v. Gives v w f)
      (made_before m k w.objects)
      (let b = built (number t (codes "String")) (number t (codes "Array")) l w.objects in
      if nat_le (words_of b.0.bodies) word_limit then Gives b.1 (with_objects w (noted m k (is_object l) b)) f
      else Stopped (ObjectsFull (words_of w.objects.bodies)) w)

  abbrev pub constant_value : Here → World → Activation → LiteralTree → Option ℕ → Out Value
  constant_value here w f l (Some n) = with_part (slice_get (fixed here.receiver) n) (λ v. Gives v w f)
  constant_value here w f l None = with_part (meant_for methods doit_meant here.key) (λ m. literal_value w f (number_in w here.key) (place_of l m.named) l)

  abbrev pub leaf_value : Here → World → Activation → LeafTree → Out Value
  leaf_value here w f (core.variable v) = with_part (read w f here.receiver v) (λ x. Gives x w f)
  leaf_value here w f (core.constant l) = constant_value here w f l (fixed_number l)
  leaf_value here w f core.receiver = Gives here.receiver w f
  leaf_value here w f core.context = Gives Context w f

  module _ (next : Evaluator) where
    -- ---- activations

    abbrev pub in_home : Key → Meant → Value → List Value → List Activation → World → Activation → Out Value
    in_home key m r temporaries alive w f =
        with_room w (body.home (number_in w key) r temporaries) (λ w1.
        awaited f (Some (length w.objects.bodies))
        (next m.body (record { key = key; receiver = r; alive = home (length w.objects.bodies) ∷ alive }) w1 (home (length w.objects.bodies))))

    abbrev pub alone : Key → Meant → Value → List Value → List Activation → World → Activation → Out Value
    alone key m r temporaries alive w f =
        awaited f None (next m.body (record { key = key; receiver = r; alive = own [] ∷ alive }) w (own temporaries))

    abbrev pub started : List RealBlock → Key → Meant → Value → List Value → List Activation → World → Activation → Out Value
    started [] key m r temporaries alive w f = alone key m r temporaries alive w f
    started (b ∷ bs) key m r temporaries alive w f = in_home key m r temporaries alive w f

    abbrev pub activated : Key → Meant → Value → List Value → List Activation → World → Activation → Out Value
    activated key m r arguments alive w f =
        deeper alive w (started m.blocks key m r (arguments ++ replicate (m.temporaries - length arguments) Nil) alive (numbered w key) f)

    -- a block of a home: its method, its receiver and its tree
    abbrev pub at_tree : Block → ℕ → Key → Value → List Value → List Activation → World → Activation → RealBlock → Out Value
    at_tree b h key r arguments alive w f block =
        with_part (with_parameters w (world.block b.object h) block.first arguments) (λ w1.
        awaited f None (next block.body (record { key = key; receiver = r; alive = world.block b.object h ∷ alive }) w1 (world.block b.object h)))

    -- which has as many parameters as there are arguments
    abbrev pub if_fits : Block → ℕ → Key → Value → List Value → List Activation → World → Activation → RealBlock → Out Value
    if_fits b h key r arguments alive w f block = if block.parameters == length arguments then at_tree b h key r arguments alive w f block else Unfinished

    abbrev pub of_key : Block → ℕ → Value → List Value → List Activation → World → Activation → Key → Out Value
    of_key b h r arguments alive w f key =
        with_part (option_and_then (λ m. slice_get m.blocks b.start) (meant_for methods doit_meant key)) (if_fits b h key r arguments alive w f)

    abbrev pub at_home : Block → List Value → List Activation → World → Activation → Value → Out Value
    at_home b arguments alive w f (Object h) =
        with_part (option_and_then home_parts_of (body_at w.objects (Object h))) (λ parts.
        with_part (slice_get w.keys parts.0) (of_key b h parts.1 arguments alive w f))
    at_home b arguments alive w f _ = Unfinished

    abbrev pub block_activated : Block → List Value → List Activation → World → Activation → Out Value
    block_activated b arguments alive w f =
        ticked budget w (λ w1. if is_active b.object alive then Stopped BlockActive w1 else deeper alive w1 (at_home b arguments alive w1 f b.home))

    -- ---- messages

    abbrev pub by_effect : Applied → World → World → Out Value → Activation → Out Value
    by_effect (Done v) w after otherwise f = Gives v after f
    by_effect Fails w after otherwise f = otherwise
    by_effect (Stops stop) w after otherwise f = Stopped stop w

    abbrev pub method_value : Option (Out Value) → Key → Meant → Value → List Value → List Activation → World → Activation → Out Value
    method_value performed key m r arguments alive w f =
        if m.primitive == 81
        then option_map_or (λ b. block_activated b arguments alive w f) (block_with w.objects r (length arguments)) (activated key m r arguments alive w f)
        else (if m.primitive == 83 then unwrap_or performed (activated key m r arguments alive w f)
        else by_effect (primitive t m.primitive r arguments (reached w)).applied w (changed w (primitive t m.primitive r arguments (reached w)).world) (activated key m r arguments alive w f) f)

    abbrev pub not_understood : Value → List ℕ → World → Out Value
    not_understood (ClassRef c side) selector w = Stopped (NotUnderstood (class_name t c) side selector) w
    not_understood _ selector w = Unfinished

    -- a message as an object: an Array of its arguments is made, and then the Message of its selector and that Array
    abbrev pub message_made : List ℕ → List Value → World → (Value → World → Out Value) → Out Value
    message_made selector arguments w go =
        with_room w (arguments_body t arguments) (λ w1.
        with_room (with_objects w1 (named selector w1.objects).0) (message_body t (named selector w1.objects).1 (Object (length w.objects.bodies))) (λ w2.
        go (Object (length w1.objects.bodies)) w2))

    -- a message that isn't understood, with what is found of `doesNotUnderstand:`, which is sent a Message in its place
    abbrev pub sent_on : Option (Found Meant) → List ℕ → Value → List Value → List Activation → World → Activation → Out Value
    sent_on None selector r arguments alive w f = not_understood (class_of t w.objects r) selector w
    sent_on (Some found) selector r arguments alive w f =
        message_made selector arguments w (λ m w1. method_value None (method found.class found.side does_not_understand) found.entry r (m ∷ []) alive w1 f)

    -- a message that finds a method or none, and what is found of `doesNotUnderstand:` along the same places
    abbrev pub found_value : Option (Found Meant) → Option (Found Meant) → (World → Option (Out Value)) → List ℕ → Value → List Value → List Activation → World → Activation → Out Value
    found_value None other performed selector r arguments alive w f = sent_on other selector r arguments alive w f
    found_value (Some found) other performed selector r arguments alive w f =
        method_value (performed w) (method found.class found.side selector) found.entry r arguments alive w f

    abbrev pub places_of : Value → List Place
    places_of (ClassRef c side) = places_up t c side
    places_of _ = []

    abbrev pub looked_up : (World → Option (Out Value)) → List Place → List ℕ → Value → List Value → List Activation → World → Activation → Out Value
    looked_up performed places selector r arguments alive w f =
        ticked budget w (λ w1. found_value (first_meant methods selector places) (first_meant methods does_not_understand places) performed selector r arguments alive w1 f)

    -- the message of a primitive: the first argument is its selector, and its arguments are those behind, so that it may again send one
    abbrev pub performed : Value → List Value → List Activation → Activation → World → Option (Out Value)
    performed r [] alive f w = None
    performed r (a ∷ arguments) alive f w =
        option_map (λ selector. looked_up (performed r arguments alive f) (places_of (class_of t w.objects r)) selector r arguments alive w f)
        (selector_of w.objects a (length arguments))

    abbrev pub sent : List Place → List ℕ → Value → List Value → List Activation → World → Activation → Out Value
    sent places selector r arguments alive w f = looked_up (performed r arguments alive f) places selector r arguments alive w f

    -- above the class and the side of the method; a doIt is one of nil's class
    abbrev pub places_above : Key → List Place
    places_above doit = drop 1 (places_up t (number t (codes "UndefinedObject")) Instance)
    places_above (method c side selector) = drop 1 (places_up t c side)

    abbrev pub plain : List ℕ → Value → List Value → List Activation → World → Activation → Out Value
    plain selector r arguments alive w f = sent (places_of (class_of t w.objects r)) selector r arguments alive w f

    -- answered at once, or a block's activation, or a message as any other
    abbrev pub message : List ℕ → Option ℕ → Value → List Value → List Activation → World → Activation → Out Value
    message selector None r arguments alive w f = plain selector r arguments alive w f
    message selector (Some n) r arguments alive w f =
        option_map_or (λ v. Gives v w f)
        (at_once t w.objects n r arguments)
        (option_map_or (λ b. block_activated b arguments alive w f)
        (if is_value n then block_with w.objects r (length arguments) else None)
        (plain selector r arguments alive w f))

    abbrev pub sent_to : Bool → List ℕ → Value → List Value → Here → World → Activation → Out Value
    sent_to true selector r arguments here w f = sent (places_above here.key) selector here.receiver arguments here.alive w f
    sent_to false selector r arguments here w f = message selector (special_number selector) r arguments here.alive w f

    -- ---- trees

    -- a block that is an object of its home
    abbrev pub block_made : ℕ → Option RealBlock → Option ℕ → World → Activation → Out Value
    block_made n (Some block) (Some h) w f =
        with_room w (body.block (Object h) n block.parameters) (λ w1. Gives (Object (length w.objects.bodies)) w1 f)
    block_made n _ _ w f = Unfinished

    abbrev mutual
      pub ev : Tree → Here → World → Activation → Out Value
      ev (leaf l) here w f = leaf_value here w f l
      ev (assign v e) here w f = and_then (ev e here w f) (λ x w1 f1. with_part (written w1 f1 here.receiver v x) (λ p. Gives x p.0 p.1))
      ev (value e) here w f = ev e here w f
      ev (send r to_super s es) here w f = and_then (ev r here w f) (λ x w1 f1. and_then (ev_all es here w1 f1) (λ xs w2 f2. sent_to to_super s x xs here w2 f2))
      ev (cascade r to_super ms) here w f = and_then (ev r here w f) (λ x w1 f1. ev_sends ms to_super x here w1 f1)
      ev (real n) here w f = block_made n (option_and_then (λ m. slice_get m.blocks n) (meant_for methods doit_meant here.key)) (home_in f) w f
      ev (two_arms on c a b) here w f = and_then (ev c here w f) (λ v w1 f1. chosen on v (ev a here w1 f1) (ev b here w1 f1) w1)
      ev (one_arm on c a) here w f = and_then (ev c here w f) (λ v w1 f1. chosen on v (ev a here w1 f1) (Gives Nil w1 f1) w1)
      ev (shortcut on c a) here w f = and_then (ev c here w f) (λ v w1 f1. chosen on v (ev a here w1 f1) (Gives (otherwise on) w1 f1) w1)
      ev (repeat on c e) here w f =
          and_then (ev c here w f) (λ v w1 f1.
          chosen on v (and_then (ev e here w1 f1) (λ x w2 f2. ticked budget w2 (λ w3. next (repeat on c e) here w3 f2))) (Gives Nil w1 f1) w1)
      ev nothing here w f = Gives Nil w f
      ev (before a b) here w f = and_then (ev a here w f) (λ x w1 f1. ev b here w1 f1)
      ev (answer e) here w f = and_then (ev e here w f) (λ v w1 f1. returned f1 here.alive v w1)
      ev (answer_fixed n) here w f = with_part (slice_get (fixed here.receiver) n) (λ v. returned f here.alive v w)
      ev (leave e) here w f = and_then (ev e here w f) (λ v w1 f1. Answers v w1)

      pub ev_all : Trees → Here → World → Activation → Out (List Value)
      ev_all no_trees here w f = Gives [] w f
      ev_all (trees e es) here w f = and_then (ev e here w f) (λ x w1 f1. and_then (ev_all es here w1 f1) (λ xs w2 f2. Gives (x ∷ xs) w2 f2))

      -- messages to one receiver: the value is that of the last
      pub ev_sends : Sends → Bool → Value → Here → World → Activation → Out Value
      ev_sends no_sends to_super r here w f = Gives r w f
      ev_sends (sends s es no_sends) to_super r here w f = and_then (ev_all es here w f) (λ xs w1 f1. sent_to to_super s r xs here w1 f1)
      ev_sends (sends s es ms) to_super r here w f =
          and_then (ev_all es here w f) (λ xs w1 f1. and_then (sent_to to_super s r xs here w1 f1) (λ x w2 f2. ev_sends ms to_super r here w2 f2))

  -- at most n ticks deep
  abbrev pub evaluated : ℕ → Evaluator
  evaluated zero tree here w f = Unfinished
  evaluated (suc n) tree here w f = ev (evaluated n) tree here w f

  -- ---- a doIt

  -- how it ends, and the world at its end
  abbrev pub ended : Out Value → Option (End × World)
  ended (Gives v w f) = Some (end.Answer v, w)
  ended (Stopped stop w) = Some (end.Stopped stop, w)
  ended _ = None

  -- its own activation costs no tick, and nil is its receiver
  abbrev pub last : Option (End × World)
  last = ended (activated (evaluated (suc budget)) doit doit_meant Nil [] [] (first_world t) (own []))

  abbrev pub eval : Option Outcome
  eval = option_map (λ p. outcome_of p.0 p.1) last
