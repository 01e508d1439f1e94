-- The step of the machine: what each instruction does (Blue Book, part four).
use Rattle.std.specs.Prelude.{ℕ, ◌+◌, ◌-◌, ◌==◌, ℤ, pos, ◌+ℤ◌, List, [], ◌∷◌, ◌++◌, codes, drop, get_or, length, replicate, slice_get, nat_le, Option, Some, None, option_and_then, unwrap_or, if◌then◌else◌}
use Rattle.std.specs.Int.{is_negative}
use Rattle.std.specs.FinMap as map_of
use Rattle.std.specs.Option.{option_map, option_map_or}
use Rattle.s80_base.specs.Literal.{LiteralTree}
use Rattle.s80_base.specs.declared.names.Side.TheVariants.{Instance}
use Rattle.s80_class.specs.Table.{Table, class_name}
use Rattle.s80_code.specs.declared.code.Code.{Code}
use Rattle.s80_code.specs.declared.instruction.Instruction.{Instruction}
use Rattle.s80_code.specs.declared.instruction.Instruction.TheVariants as instruction
use Rattle.s80_code.specs.declared.instruction.Storage.{Storage}
use Rattle.s80_code.specs.declared.instruction.Storage.TheVariants.{Receiver, Temporary, Constant, Variable}
use Rattle.s80_code.specs.Entries.{entries_of}
use Rattle.s80_code.specs.Special.{block_copy, special_arguments, special_selectors}
use Rattle.s80_code.specs.Table.{decoded}
use Rattle.s80_dict.specs.Table.{MethodsValue, methods_at}
use Rattle.s80_dict.specs.declared.dict.MethodEntry.{MethodEntry}
use Rattle.s80_object.specs.Body.{BodyTree, block, cost, words_of, word_limit}
use Rattle.s80_object.specs.Body as body
use Rattle.s80_object.specs.Literal.{built, is_object, made_before, named, noted}
use Rattle.s80_object.specs.Objects.{State as Objects, body_at, home_parts_of, with_body}
use Rattle.s80_object.specs.declared.value.Value.{Value}
use Rattle.s80_object.specs.declared.value.Value.TheVariants.{Small, Nil, ClassRef, Object}
use Rattle.s80_object.specs.declared.value.Value.TheVariants as value
use Rattle.s80_prims.specs.Classes.{class_of}
use Rattle.s80_prims.specs.Primitives.{primitive}
use Rattle.s80_prims.specs.declared.applied.Applied.{Applied}
use Rattle.s80_prims.specs.declared.applied.Applied.TheVariants.{Done, Fails, Stops}
use Rattle.s80_prims.specs.declared.stop.Stop.TheVariants.{NonBoolean, BlockActive, NotUnderstood, ObjectsFull}
use Rattle.s80_machine.specs.World.{World, Key, doit, method, own, home, changed, home_in, number_in, numbered, reached, receiver_variable, temporary, variable_named, with_objects, with_receiver_variable, with_temporary, with_variable}
use Rattle.s80_machine.specs.Turn.{Context, is_active, waiting, State, Turn, Goes, Stuck, constant_in, deeper, deliver, given, goes_on, holds_block, message_off, place_at, popped, pushed_all, return_from, selector_in, stops, ticked}
use Rattle.s80_machine.specs.World as world
use Rattle.s80_class.specs.Lookup.{Found, Place, first_found, number, places_up}
use Rattle.s80_machine.specs.Shared.{Block, arguments_body, at_once, block_with, decided, does_not_understand, fixed, is_value, message_body, selector_of}

-- one more object, or the words would pass the limit
abbrev pub with_room : World → BodyTree → (World → Turn) → Turn
with_room w b go =
    if nat_le (words_of w.objects.bodies + cost b) word_limit then go (with_objects w (with_body w.objects b))
    else stops (ObjectsFull (words_of w.objects.bodies)) w

module _ (methods : MethodsValue (MethodEntry Code)) (doit_code : Code) where
  -- ---- methods by number

  abbrev pub code_for : Key → Option Code
  code_for doit = Some doit_code
  code_for (method c s selector) = option_map (λ e. e.code) (map_of.get (methods_at methods c s) selector)

  abbrev pub code_at : World → ℕ → Option Code
  code_at w m = option_and_then code_for (slice_get w.keys m)

module _ (t : Table) (methods : MethodsValue (MethodEntry Code)) (doit_code : Code) (budget : ℕ) where
  -- ---- activations

  -- a method's activation, whose home is an object where the code holds a real block
  abbrev pub with_home : Key → Value → List Value → List Context → World → Turn
  with_home key r temporaries below w =
      with_room w (body.home (number_in w key) r temporaries) (λ w1. Goes (record {
        contexts = record { method = number_in w key; receiver = r; activation = home (length w.objects.bodies); place = 0; stack = [] } ∷ below;
        world = w1;
      }))

  abbrev pub without_home : Key → Value → List Value → List Context → World → Turn
  without_home key r temporaries below w =
      Goes (record { contexts = record { method = number_in w key; receiver = r; activation = own temporaries; place = 0; stack = [] } ∷ below; world = w })

  abbrev pub started : Key → Code → Value → List Value → List Context → World → Turn
  started key code r temporaries below w =
      if holds_block code then with_home key r temporaries below w else without_home key r temporaries below w

  -- the arguments are the first temporaries
  abbrev pub activated : Key → Code → Value → List Value → List Context → World → Turn
  activated key code r arguments below w =
      deeper below w (started key code r (arguments ++ replicate (code.temporaries - length arguments) Nil) below (numbered w key))

  -- a block's activation, with its arguments on its stack
  abbrev pub block_started : Block → List Value → List Context → World → ℕ → ℕ × Value → Turn
  block_started b arguments below w h parts =
      Goes (record {
        contexts = record { method = parts.0; receiver = parts.1; activation = world.block b.object h; place = b.start; stack = pushed_all arguments [] } ∷ below;
        world = w;
      })

  abbrev pub at_home : Block → List Value → List Context → World → Value → Turn
  at_home b arguments below w (Object h) =
      given (option_and_then home_parts_of (body_at w.objects (Object h))) (block_started b arguments below w h)
  at_home b arguments below w _ = Stuck

  abbrev pub block_activated : Block → List Value → List Context → World → Turn
  block_activated b arguments below w =
      ticked budget w (λ w1. if is_active b.object below then stops BlockActive w1 else deeper below w1 (at_home b arguments below w1 b.home))

  -- ---- sends

  -- what a primitive does: it answers, or the body of the method is run, or the run is stopped
  abbrev pub by_effect : Applied → World → Turn → List Context → World → Turn
  by_effect (Done v) after otherwise below w = deliver v below after
  by_effect Fails after otherwise below w = otherwise
  by_effect (Stops stop) after otherwise below w = stops stop w

  abbrev pub by_primitive : ℕ → Value → List Value → Turn → List Context → World → Turn
  by_primitive n r arguments otherwise below w =
      by_effect (primitive t n r arguments (reached w)).applied (changed w (primitive t n r arguments (reached w)).world) otherwise below w

  -- a method that was found: 81 activates a block, 83 sends a message, and each other primitive is one of the table
  abbrev pub method_turn : Option Turn → Key → Code → Value → List Value → List Context → World → Turn
  method_turn sent key code r arguments below w =
      if code.primitive == 81
      then option_map_or (λ b. block_activated b arguments below w) (block_with w.objects r (length arguments)) (activated key code r arguments below w)
      else (if code.primitive == 83 then unwrap_or sent (activated key code r arguments below w)
      else by_primitive code.primitive r arguments (activated key code r arguments below w) below w)

  -- the receiver's class doesn't understand the message
  abbrev pub not_understood : Value → List ℕ → World → Turn
  not_understood (ClassRef c side) selector w = stops (NotUnderstood (class_name t c) side selector) w
  not_understood _ selector w = Stuck

  -- a message as an object: an Array of its arguments is made, and then the Message of its selector and that Array
  abbrev pub message_made : List ℕ → List Value → World → (Value → World → Turn) → Turn
  message_made selector arguments w go =
      with_room w (arguments_body t arguments) (λ w1.
      with_room (with_objects w1 (named selector w1.objects).0) (message_body t (named selector w1.objects).1 (Object (length w.objects.bodies))) (λ w2.
      go (Object (length w1.objects.bodies)) w2))

  -- a message that isn't understood, with what is found of `doesNotUnderstand:`, which is sent a Message in its place
  abbrev pub sent_on : Option (Found (MethodEntry Code)) → List ℕ → Value → List Value → List Context → World → Turn
  sent_on None selector r arguments below w = not_understood (class_of t w.objects r) selector w
  sent_on (Some f) selector r arguments below w =
      message_made selector arguments w (λ m. method_turn None (method f.class f.side does_not_understand) f.entry.code r (m ∷ []) below)

  -- a message that finds a method or none, and what is found of `doesNotUnderstand:` along the same places
  abbrev pub found_turn : Option (Found (MethodEntry Code)) → Option (Found (MethodEntry Code)) → (World → Option Turn) → List ℕ → Value → List Value → List Context → World → Turn
  found_turn None other sent selector r arguments below w = sent_on other selector r arguments below w
  found_turn (Some f) other sent selector r arguments below w = method_turn (sent w) (method f.class f.side selector) f.entry.code r arguments below w

  -- the tick, the look-up along these places, and the method
  abbrev pub looked_up : (World → Option Turn) → List Place → List ℕ → Value → List Value → List Context → World → Turn
  looked_up sent places selector r arguments below w =
      ticked budget w (found_turn (first_found methods selector places) (first_found methods does_not_understand places) sent selector r arguments below)

  -- the places of a receiver's class
  abbrev pub places_of : Value → List Place
  places_of (ClassRef c side) = places_up t c side
  places_of _ = []

  abbrev pub places_for : World → Value → List Place
  places_for w r = places_of (class_of t w.objects r)

  -- the message of a primitive: the first argument is its selector, and its arguments are those behind, so that it may again send one
  abbrev pub performed : Value → List Value → List Context → World → Option Turn
  performed r [] below w = None
  performed r (a ∷ arguments) below w =
      option_map (λ selector. looked_up (performed r arguments below) (places_for w r) selector r arguments below w) (selector_of w.objects a (length arguments))

  abbrev pub sent : List Place → List ℕ → Value → List Value → List Context → World → Turn
  sent places selector r arguments below w = looked_up (performed r arguments below) places selector r arguments below w

  -- above the class and the side of the method; a doIt is one of nil's class
  abbrev pub places_above : Key → List Place
  places_above doit = drop 1 (places_up t (number t (codes "UndefinedObject")) Instance)
  places_above (method c side selector) = drop 1 (places_up t c side)

  -- a special message is answered at once, or activates a block, or is sent
  abbrev pub special_turn : ℕ → Context → ℕ → List Context → World → Value → List Value → List Value → Turn
  special_turn n c next rest w r arguments stack =
      option_map_or (λ v. goes_on c next (v ∷ stack) rest w)
      (at_once t w.objects n r arguments)
      (option_map_or (λ b. block_activated b arguments (waiting c next stack ∷ rest) w)
      (if is_value n then block_with w.objects r (length arguments) else None)
      (given (slice_get special_selectors n) (λ selector. sent (places_for w r) selector r arguments (waiting c next stack ∷ rest) w)))

  -- ---- real blocks

  -- it begins behind the jump of two bytes that stands next
  abbrev pub block_made : Context → ℕ → List Context → World → ℕ → List Value → ℕ → Turn
  block_made c next rest w count stack h =
      with_room w (block (Object h) (next + 2) count) (goes_on c next (Object (length w.objects.bodies) ∷ stack) rest)

  -- the number of its arguments is on top, and the active context below
  abbrev pub copy_turn : Context → ℕ → List Context → World → List Value → Turn
  copy_turn c next rest w (Small (pos count) ∷ _ ∷ stack) = given (home_in c.activation) (block_made c next rest w count stack)
  copy_turn c next rest w _ = Stuck

  -- ---- literals, variables and temporaries

  -- a literal becomes an object at its first push, and is the same one at each later push
  abbrev pub first_pushed : Context → ℕ → List Context → World → ℕ → LiteralTree → Objects × Value → Turn
  first_pushed c next rest w k l b =
      if nat_le (words_of b.0.bodies) word_limit
      then goes_on c next (b.1 ∷ c.stack) rest (with_objects w (noted c.method k (is_object l) b))
      else stops (ObjectsFull (words_of w.objects.bodies)) w

  abbrev pub literal_pushed : Context → ℕ → List Context → World → ℕ → LiteralTree → Turn
  literal_pushed c next rest w k l =
      option_map_or (λ v. goes_on c next (v ∷ c.stack) rest w)
      (made_before c.method k w.objects)
      (first_pushed c next rest w k l (built (number t (codes "String")) (number t (codes "Array")) l w.objects))

  abbrev pub push : Code → Context → ℕ → List Context → World → Storage → Turn
  push code c next rest w (Receiver i) = given (receiver_variable w c.receiver i) (λ v. goes_on c next (v ∷ c.stack) rest w)
  push code c next rest w (Temporary i) = given (temporary w c.activation i) (λ v. goes_on c next (v ∷ c.stack) rest w)
  push code c next rest w (Constant k) =
      given (option_and_then constant_in (slice_get (entries_of code.literals) k)) (literal_pushed c next rest w k)
  push code c next rest w (Variable k) =
      given (option_and_then variable_named (slice_get (entries_of code.literals) k)) (λ u. goes_on c next (w.variables u ∷ c.stack) rest w)

  -- a value stored, and this stack left
  abbrev pub store : Code → Context → ℕ → List Context → World → Storage → Value → List Value → Turn
  store code c next rest w (Receiver i) v stack = given (with_receiver_variable w c.receiver i v) (goes_on c next stack rest)
  store code c next rest w (Temporary i) v stack =
      given (with_temporary w c.activation i v) (λ p. goes_on (record c { activation = p.1 }) next stack rest p.0)
  store code c next rest w (Constant k) v stack = Stuck
  store code c next rest w (Variable k) v stack =
      given (option_and_then variable_named (slice_get (entries_of code.literals) k)) (λ u. goes_on c next stack rest (with_variable w u v))

  -- ---- jumps

  abbrev pub jump : ℤ → Context → ℕ → List Value → List Context → World → Turn
  jump distance c next stack rest w = given (place_at (pos next +ℤ distance)) (λ to. goes_on c to stack rest w)

  -- a jump back costs a tick
  abbrev pub jump_or_back : ℤ → Context → ℕ → List Context → World → Turn
  jump_or_back distance c next rest w =
      if is_negative distance then ticked budget w (jump distance c next c.stack rest) else jump distance c next c.stack rest w

  -- ---- messages of a literal frame

  abbrev pub selector_at : Code → ℕ → Option (List ℕ)
  selector_at code k = option_and_then selector_in (slice_get (entries_of code.literals) k)

  abbrev pub send_turn : Code → Context → ℕ → List Context → World → ℕ → Value → List Value → List Value → Turn
  send_turn code c next rest w k r arguments stack =
      given (selector_at code k) (λ selector. sent (places_for w r) selector r arguments (waiting c next stack ∷ rest) w)

  -- its receiver is that of the method itself, whatever lies below the arguments
  abbrev pub super_turn : Code → Context → ℕ → List Context → World → ℕ → Value → List Value → List Value → Turn
  super_turn code c next rest w k r arguments stack =
      given (selector_at code k) (λ selector.
      given (slice_get w.keys c.method) (λ key. sent (places_above key) selector c.receiver arguments (waiting c next stack ∷ rest) w))

  -- ---- instructions

  abbrev pub act : Code → Context → ℕ → List Context → World → Instruction → Turn
  act code c next rest w (instruction.Push storage) = push code c next rest w storage
  act code c next rest w (instruction.Store storage) = popped c.stack (λ v stack. store code c next rest w storage v (v ∷ stack))
  act code c next rest w (instruction.PopInto storage) = popped c.stack (store code c next rest w storage)
  act code c next rest w (instruction.PushFixed n) = given (slice_get (fixed c.receiver) n) (λ v. goes_on c next (v ∷ c.stack) rest w)
  act code c next rest w (instruction.ReturnFixed n) = given (slice_get (fixed c.receiver) n) (λ v. return_from c.activation v rest w)
  act code c next rest w instruction.ReturnTop = popped c.stack (λ v stack. return_from c.activation v rest w)
  act code c next rest w instruction.ReturnFromBlock = popped c.stack (λ v stack. deliver v rest w)
  act code c next rest w (instruction.Send count k) = message_off count [] c.stack (send_turn code c next rest w k)
  act code c next rest w (instruction.SendSuper count k) = message_off count [] c.stack (super_turn code c next rest w k)
  act code c next rest w (instruction.SendSpecial n) =
      if n == block_copy then copy_turn c next rest w c.stack else message_off (get_or special_arguments n 0) [] c.stack (special_turn n c next rest w)
  act code c next rest w instruction.Pop = popped c.stack (λ v stack. goes_on c next stack rest w)
  act code c next rest w instruction.Duplicate = popped c.stack (λ v stack. goes_on c next (v ∷ v ∷ stack) rest w)
  act code c next rest w instruction.PushContext = goes_on c next (value.Context ∷ c.stack) rest w
  act code c next rest w (instruction.Jump distance) = jump_or_back distance c next rest w
  act code c next rest w (instruction.JumpOnTrue distance) =
      popped c.stack (λ v stack. decided v (jump distance c next stack rest w) (goes_on c next stack rest w) (stops NonBoolean w))
  act code c next rest w (instruction.JumpOnFalse distance) =
      popped c.stack (λ v stack. decided v (goes_on c next stack rest w) (jump distance c next stack rest w) (stops NonBoolean w))

  -- ---- one step of the active context

  abbrev pub turn_at : Context → List Context → World → Code → Option (Instruction × ℕ) → Turn
  turn_at c rest w code None = Stuck
  turn_at c rest w code (Some p) = act code c (c.place + p.1) rest w p.0

  abbrev pub turn_of : Context → List Context → World → Option Code → Turn
  turn_of c rest w None = Stuck
  turn_of c rest w (Some code) = turn_at c rest w code (decoded (drop c.place code.bytes))

  abbrev pub turn_in : List Context → World → Turn
  turn_in [] w = Stuck
  turn_in (c ∷ rest) w = turn_of c rest w (code_at methods doit_code w c.method)

  abbrev pub turn : State → Turn
  turn s = turn_in s.contexts s.world
