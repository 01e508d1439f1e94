-- Messages under other numbers of the classes.
use Rattle.std.proofs.Common.{◌≡◌, ◌∙◌, ◌==◌, ℕ, Bool, true, false, refl, sym, ap, subst, List, [], ◌∷◌, codes, drop, length, map, Option, Some, None, unwrap_or, if◌then◌else◌}
use Rattle.std.specs.Option.{option_map, option_map_or}
use Rattle.std.proofs.lemmas.List.{length-map}
use Rattle.s80_base.specs.declared.names.Side.TheVariants.{Instance}
use Rattle.s80_class.specs.Lookup.{Found, Place, found_or, number, places_up}
use Rattle.s80_class.specs.Table.{class_name}
use Rattle.s80_code.specs.Special.{special_number}
use Rattle.s80_object.specs.Body.{BodyTree, pointers}
use Rattle.s80_object.specs.Literal.{named}
use Rattle.s80_object.specs.Objects.{with_body}
use Rattle.s80_object.specs.declared.value.Value.{Value}
use Rattle.s80_object.specs.declared.value.Value.TheVariants.{ClassRef, Object}
use Rattle.s80_prims.specs.declared.applied.Applied.{Applied}
use Rattle.s80_prims.specs.declared.applied.Applied.TheVariants.{Done, Fails, Stops}
use Rattle.s80_prims.specs.declared.stop.Stop.TheVariants.{NotUnderstood}
use Rattle.s80_prims.specs.Classes.{class_of}
use Rattle.s80_prims.specs.Primitives.{Effect, primitive}
use Rattle.s80_machine.specs.World.{World, Key, doit, method, Variable, Activation, changed, one_tick, reached, with_objects}
use Rattle.s80_machine.specs.Shared.{Block, arguments_body, at_once, block_with, does_not_understand, is_value, message_body, selector_of}
use Rattle.s80_meaning.specs.Meaning.{Out, Gives, Stopped, Here, Evaluator, first_meant, activated, block_activated, by_effect, found_value, looked_up, message, message_made, method_value, not_understood, performed, places_above, places_of, plain, sent, sent_on, sent_to, with_room}
use Rattle.s80_meaning.specs.Tree.{Meant, Tree}
use Rattle.s80_meaning.proofs.RenamedObjects.{length_renamed, renamed, renamed_body, renamed_objects}
use Rattle.s80_meaning.proofs.RenamedClasses.{arrays_renamed, class_name_same, class_of_renamed, messages_renamed, nil_class_renamed}
use Rattle.s80_meaning.proofs.RenamedPrimitives.{primitive_renamed, renamed_applied}
use Rattle.s80_meaning.proofs.RenamedPlaces.{found_or_renamed, places_up_renamed, renamed_found, renamed_place}
use Rattle.s80_meaning.proofs.RenamedWorld.{AreRenamed, at_once_renamed, block_with_renamed, renamed_activation, renamed_block, renamed_key, renamed_world, selector_same}
use Rattle.s80_meaning.proofs.RenamedOut.{gives, stopped, unfinished, if_alike, or_alike, room_alike, ticked_alike}
use Rattle.s80_meaning.proofs.RenamedActivations.{Houses, Same, TreeAlike, activated_alike, block_activated_alike, renamed_here}

drop_one : {X Y : Type 0} (f : X → Y) (xs : List X) → drop 1 (map f xs) ≡ map f (drop 1 xs)
drop_one f [] = refl
drop_one f (x ∷ xs) = refl

module _ (p : Houses) where
  abbrev rename : Value → Value
  rename = renamed p.r

  abbrev rename_all : List Value → List Value
  rename_all = map (renamed p.r)

  abbrev other : World → (Variable → Value) → World
  other w vs = renamed_world p.r w vs

  abbrev act : Activation → Activation
  act f = renamed_activation p.r f

  abbrev acts : List Activation → List Activation
  acts = map (renamed_activation p.r)

  abbrev places : List Place → List Place
  places = map (renamed_place p.r)

  -- an answer that is there, or none
  abbrev PartSame : Option (Out Value) → Option (Out Value) → Type 0
  PartSame None q = q ≡ None
  PartSame (Some o) q = (q1 : Out Value) × Same p o q1 × (q ≡ Some q1)

  unwrapped : (o q : Option (Out Value)) (none nones : Out Value) → PartSame o q → Same p none nones → Same p (unwrap_or o none) (unwrap_or q nones)
  unwrapped None q none nones h g = subst (λ k. Same p none (unwrap_or k nones)) (sym h) g
  unwrapped (Some o) q none nones h g = subst (λ k. Same p o (unwrap_or k nones)) (sym h.2) h.1

  -- ---- look-ups

  meant_renamed : (selector : List ℕ) (line : List Place) → first_meant p.others selector (places line) ≡ option_map (renamed_found p.r) (first_meant p.methods selector line)
  meant_renamed selector [] = refl
  meant_renamed selector (place ∷ line) =
      ap (λ o. found_or (renamed_place p.r place) o (first_meant p.others selector (places line))) (p.same place.0 place.1 selector)
      ∙ ap (found_or (renamed_place p.r place) (p.methods place.0 place.1 selector)) (meant_renamed selector line)
      ∙ found_or_renamed p.r place (p.methods place.0 place.1 selector) (first_meant p.methods selector line)

  module _ (next nexts : Evaluator) (on : (tree : Tree) → TreeAlike p.r next nexts tree) where
    places_of_renamed : (v : Value) → places_of p.u p.others p.meant p.budget nexts (rename v) ≡ places (places_of p.t p.methods p.meant p.budget next v)
    places_of_renamed (ClassRef c side) = places_up_renamed p.t p.u p.r p.is c side
    places_of_renamed _ = refl

    places_above_renamed : (key : Key) → places_above p.u p.others p.meant p.budget nexts (renamed_key p.r key) ≡ places (places_above p.t p.methods p.meant p.budget next key)
    places_above_renamed doit =
        ap (λ c. drop 1 (places_up p.u c Instance)) (nil_class_renamed p.t p.u p.r p.is)
        ∙ ap (drop 1) (places_up_renamed p.t p.u p.r p.is (number p.t (codes "UndefinedObject")) Instance)
        ∙ drop_one (renamed_place p.r) (places_up p.t (number p.t (codes "UndefinedObject")) Instance)
    places_above_renamed (method c side selector) = ap (drop 1) (places_up_renamed p.t p.u p.r p.is c side) ∙ drop_one (renamed_place p.r) (places_up p.t c side)

    -- ---- methods

    effect_alike : (applied : Applied) (w after : World) (vs : Variable → Value) (o q : Out Value) (f : Activation) → AreRenamed p.r w.variables vs → AreRenamed p.r after.variables vs → Same p o q
        → Same p (by_effect p.t p.methods p.meant p.budget next applied w after o f)
        (by_effect p.u p.others p.meant p.budget nexts (renamed_applied p.r applied) (other w vs) (other after vs) q (act f))
    effect_alike (Done v) w after vs o q f h g e = gives v after f vs g
    effect_alike Fails w after vs o q f h g e = e
    effect_alike (Stops stop) w after vs o q f h g e = stopped stop w vs h

    method_alike : (part parts : Option (Out Value)) (key : Key) (m : Meant) (x : Value) (arguments : List Value) (alive : List Activation) (w : World) (f : Activation) (vs : Variable → Value)
        → AreRenamed p.r w.variables vs → PartSame part parts
        → Same p (method_value p.t p.methods p.meant p.budget next part key m x arguments alive w f)
        (method_value p.u p.others p.meant p.budget nexts parts (renamed_key p.r key) m (rename x) (rename_all arguments) (acts alive) (other w vs) (act f))
    method_alike part parts key m x arguments alive w f vs h g =
        let o : Out Value = activated p.t p.methods p.meant p.budget next key m x arguments alive w f in
        let q : Out Value = activated p.u p.others p.meant p.budget nexts (renamed_key p.r key) m (rename x) (rename_all arguments) (acts alive) (other w vs) (act f) in
        let same : Same p o q = activated_alike p next nexts on key m x arguments alive w f vs h in
        let of : Block → Out Value = λ b. block_activated p.t p.methods p.meant p.budget next b arguments alive w f in
        let ofs : Block → Out Value = λ b. block_activated p.u p.others p.meant p.budget nexts b (rename_all arguments) (acts alive) (other w vs) (act f) in
        let e : Effect = primitive p.t m.primitive x arguments (reached w) in
        let es : Effect = primitive p.u m.primitive (rename x) (rename_all arguments) (reached (other w vs)) in
        let done : Effect → Out Value = λ k. by_effect p.u p.others p.meant p.budget nexts k.applied (other w vs) (changed (other w vs) k.world) q (act f) in
        let ways : ℕ → Out Value = λ n. option_map_or ofs (block_with (renamed_objects p.r w.objects) (rename x) n) q in
        if_alike p.r (renamed p.r) (m.primitive == 81) (option_map_or of (block_with w.objects x (length arguments)) o)
        (if m.primitive == 83 then unwrap_or part o else by_effect p.t p.methods p.meant p.budget next e.applied w (changed w e.world) o f)
        (ways (length (rename_all arguments))) (if m.primitive == 83 then unwrap_or parts q else done es)
        (subst (λ n. Same p (option_map_or of (block_with w.objects x (length arguments)) o) (ways n)) (sym (length-map arguments (renamed p.r)))
        (or_alike p.r (renamed_block p.r) (renamed p.r) of ofs (block_with w.objects x (length arguments)) (block_with (renamed_objects p.r w.objects) (rename x) (length arguments)) o q
        (block_with_renamed p.r w.objects x (length arguments)) (λ b. block_activated_alike p next nexts on b arguments alive w f vs h) same))
        (if_alike p.r (renamed p.r) (m.primitive == 83) (unwrap_or part o) (by_effect p.t p.methods p.meant p.budget next e.applied w (changed w e.world) o f) (unwrap_or parts q) (done es)
        (unwrapped part parts o q g same)
        (subst (λ k. Same p (by_effect p.t p.methods p.meant p.budget next e.applied w (changed w e.world) o f) (done k)) (sym (primitive_renamed p.t p.u p.r p.is m.primitive x arguments (reached w)))
        (effect_alike e.applied w (changed w e.world) vs o q f h h same)))

    not_understood_alike : (v : Value) (selector : List ℕ) (w : World) (vs : Variable → Value) → AreRenamed p.r w.variables vs
        → Same p (not_understood p.t p.methods p.meant p.budget next v selector w) (not_understood p.u p.others p.meant p.budget nexts (rename v) selector (other w vs))
    not_understood_alike (ClassRef c side) selector w vs h =
        subst (λ name. Same p (Stopped (NotUnderstood (class_name p.t c) side selector) w) (Stopped (NotUnderstood name side selector) (other w vs))) (sym (class_name_same p.t p.u p.r p.is c))
        (stopped (NotUnderstood (class_name p.t c) side selector) w vs h)
    not_understood_alike _ selector w vs h = unfinished

    -- ---- a message as an object

    -- what goes on alike with a Message
    abbrev WithAlike : (Variable → Value) → (Value → World → Out Value) → (Value → World → Out Value) → Type 0
    WithAlike vs go goes = (m : Value) (w : World) → AreRenamed p.r w.variables vs → Same p (go m w) (goes (rename m) (other w vs))

    -- the second object: the selector is named, and the Message is made of it and the first
    abbrev second : List ℕ → ℕ → (Value → World → Out Value) → World → Out Value
    second selector n go w =
        with_room (with_objects w (named selector w.objects).0) (message_body p.t (named selector w.objects).1 (Object n)) (λ w1. go (Object (length w.objects.bodies)) w1)

    abbrev seconds : List ℕ → ℕ → (Value → World → Out Value) → World → Out Value
    seconds selector n go w =
        with_room (with_objects w (named selector w.objects).0) (message_body p.u (named selector w.objects).1 (Object n)) (λ w1. go (Object (length w.objects.bodies)) w1)

    second_alike : (selector : List ℕ) (n : ℕ) (go goes : Value → World → Out Value) (w : World) (vs : Variable → Value) → AreRenamed p.r w.variables vs → WithAlike vs go goes
        → Same p (second selector n go w) (seconds selector n goes (other w vs))
    second_alike selector n go goes w vs h g =
        let made : Value = Object (length w.objects.bodies) in
        let symbol : Value = (named selector w.objects).1 in
        let w1 : World = with_objects w (named selector w.objects).0 in
        let body : BodyTree = message_body p.t symbol (Object n) in
        let w2 : World = with_objects w1 (with_body w1.objects body) in
        subst (λ c. Same p (second selector n go w) (with_room (other w1 vs) (pointers c (symbol ∷ Object n ∷ []) []) (λ x. goes (Object (length (map (renamed_body p.r) w.objects.bodies))) x)))
        (sym (messages_renamed p.t p.u p.r p.is))
        (subst (λ k. Same p (second selector n go w) (with_room (other w1 vs) (renamed_body p.r body) (λ x. goes (Object k) x))) (sym (length_renamed p.r w.objects.bodies))
        (room_alike p.r (renamed p.r) w1 vs body (λ x. go made x) (λ x. goes made x) h (g made w2 h)))

    message_made_alike : (selector : List ℕ) (arguments : List Value) (w : World) (vs : Variable → Value) (go goes : Value → World → Out Value) → AreRenamed p.r w.variables vs → WithAlike vs go goes
        → Same p (message_made p.t p.methods p.meant p.budget next selector arguments w go) (message_made p.u p.others p.meant p.budget nexts selector (rename_all arguments) (other w vs) goes)
    message_made_alike selector arguments w vs go goes h g =
        let n : ℕ = length w.objects.bodies in
        let body : BodyTree = arguments_body p.t arguments in
        let w1 : World = with_objects w (with_body w.objects body) in
        let made : Out Value = with_room w body (second selector n go) in
        subst (λ c. Same p made (with_room (other w vs) (pointers c [] (rename_all arguments)) (seconds selector (length (map (renamed_body p.r) w.objects.bodies)) goes))) (sym (arrays_renamed p.t p.u p.r p.is))
        (subst (λ k. Same p made (with_room (other w vs) (renamed_body p.r body) (seconds selector k goes))) (sym (length_renamed p.r w.objects.bodies))
        (room_alike p.r (renamed p.r) w vs body (second selector n go) (seconds selector n goes) h (second_alike selector n go goes w1 vs h g)))

    -- ---- look-ups and what primitives send

    -- what a primitive sends, from each world on
    abbrev PartsSame : (World → Option (Out Value)) → (World → Option (Out Value)) → Type 0
    PartsSame part parts = (w : World) (vs : Variable → Value) → AreRenamed p.r w.variables vs → PartSame (part w) (parts (other w vs))

    sent_on_alike : (found : Option (Found Meant)) (selector : List ℕ) (x : Value) (arguments : List Value) (alive : List Activation) (w : World) (f : Activation) (vs : Variable → Value)
        → AreRenamed p.r w.variables vs
        → Same p (sent_on p.t p.methods p.meant p.budget next found selector x arguments alive w f)
        (sent_on p.u p.others p.meant p.budget nexts (option_map (renamed_found p.r) found) selector (rename x) (rename_all arguments) (acts alive) (other w vs) (act f))
    sent_on_alike None selector x arguments alive w f vs h =
        subst (λ v. Same p (not_understood p.t p.methods p.meant p.budget next (class_of p.t w.objects x) selector w) (not_understood p.u p.others p.meant p.budget nexts v selector (other w vs)))
        (sym (class_of_renamed p.t p.u p.r p.is w.objects x)) (not_understood_alike (class_of p.t w.objects x) selector w vs h)
    sent_on_alike (Some found) selector x arguments alive w f vs h =
        let key : Key = method found.class found.side does_not_understand in
        message_made_alike selector arguments w vs (λ m w1. method_value p.t p.methods p.meant p.budget next None key found.entry x (m ∷ []) alive w1 f)
        (λ m w1. method_value p.u p.others p.meant p.budget nexts None (renamed_key p.r key) found.entry (rename x) (m ∷ []) (acts alive) w1 (act f)) h
        (λ m w1 h1. method_alike None None key found.entry x (m ∷ []) alive w1 f vs h1 refl)

    found_alike : (found missing : Option (Found Meant)) (part parts : World → Option (Out Value)) (selector : List ℕ) (x : Value) (arguments : List Value) (alive : List Activation) (w : World) (f : Activation) (vs : Variable → Value)
        → AreRenamed p.r w.variables vs → PartsSame part parts
        → Same p (found_value p.t p.methods p.meant p.budget next found missing part selector x arguments alive w f)
        (found_value p.u p.others p.meant p.budget nexts (option_map (renamed_found p.r) found) (option_map (renamed_found p.r) missing) parts selector (rename x) (rename_all arguments) (acts alive)
        (other w vs) (act f))
    found_alike None missing part parts selector x arguments alive w f vs h g = sent_on_alike missing selector x arguments alive w f vs h
    found_alike (Some found) missing part parts selector x arguments alive w f vs h g =
        method_alike (part w) (parts (other w vs)) (method found.class found.side selector) found.entry x arguments alive w f vs h (g w vs h)

    looked_up_alike : (part parts : World → Option (Out Value)) (line : List Place) (selector : List ℕ) (x : Value) (arguments : List Value) (alive : List Activation) (w : World) (f : Activation) (vs : Variable → Value)
        → AreRenamed p.r w.variables vs → PartsSame part parts
        → Same p (looked_up p.t p.methods p.meant p.budget next part line selector x arguments alive w f)
        (looked_up p.u p.others p.meant p.budget nexts parts (places line) selector (rename x) (rename_all arguments) (acts alive) (other w vs) (act f))
    looked_up_alike part parts line selector x arguments alive w f vs h g =
        let found : Option (Found Meant) = first_meant p.methods selector line in
        let missing : Option (Found Meant) = first_meant p.methods does_not_understand line in
        let go : World → Out Value = λ w1. found_value p.t p.methods p.meant p.budget next found missing part selector x arguments alive w1 f in
        let goes : Option (Found Meant) → Option (Found Meant) → World → Out Value = λ o k w1. found_value p.u p.others p.meant p.budget nexts o k parts selector (rename x) (rename_all arguments) (acts alive) w1 (act f) in
        ticked_alike p.r (renamed p.r) p.budget w vs go (goes (first_meant p.others selector (places line)) (first_meant p.others does_not_understand (places line))) h
        (subst (λ o. Same p (go (one_tick w)) (goes o (first_meant p.others does_not_understand (places line)) (other (one_tick w) vs))) (sym (meant_renamed selector line))
        (subst (λ k. Same p (go (one_tick w)) (goes (option_map (renamed_found p.r) found) k (other (one_tick w) vs))) (sym (meant_renamed does_not_understand line))
        (found_alike found missing part parts selector x arguments alive (one_tick w) f vs h g)))

    -- ---- messages

    places_of_class : (w : World) (x : Value)
        → places_of p.u p.others p.meant p.budget nexts (class_of p.u (renamed_objects p.r w.objects) (rename x)) ≡ places (places_of p.t p.methods p.meant p.budget next (class_of p.t w.objects x))
    places_of_class w x =
        ap (places_of p.u p.others p.meant p.budget nexts) (class_of_renamed p.t p.u p.r p.is w.objects x) ∙ places_of_renamed (class_of p.t w.objects x)

    -- a message of a primitive, at these places, by whose method's primitive the next is sent
    abbrev next_by : List Place → Value → List Value → List Activation → World → Activation → List ℕ → Out Value
    next_by line x arguments alive w f selector = looked_up p.t p.methods p.meant p.budget next (performed p.t p.methods p.meant p.budget next x arguments alive f) line selector x arguments alive w f

    abbrev next_so : List Place → Value → List Value → List Activation → World → Activation → List ℕ → Out Value
    next_so line x arguments alive w f selector = looked_up p.u p.others p.meant p.budget nexts (performed p.u p.others p.meant p.budget nexts x arguments alive f) line selector x arguments alive w f

    -- what primitives send of these arguments
    abbrev AreSent : Value → List Value → List Activation → Activation → Type 0
    AreSent x arguments alive f =
        PartsSame (performed p.t p.methods p.meant p.budget next x arguments alive f) (performed p.u p.others p.meant p.budget nexts (rename x) (rename_all arguments) (acts alive) (act f))

    next_alike : (line : List Place) (x : Value) (arguments : List Value) (alive : List Activation) (w : World) (f : Activation) (vs : Variable → Value) (o : Option (List ℕ)) → AreRenamed p.r w.variables vs
        → AreSent x arguments alive f
        → PartSame (option_map (next_by line x arguments alive w f) o) (option_map (next_so (places line) (rename x) (rename_all arguments) (acts alive) (other w vs) (act f)) o)
    next_alike line x arguments alive w f vs None h g = refl
    next_alike line x arguments alive w f vs (Some selector) h g = (
      next_so (places line) (rename x) (rename_all arguments) (acts alive) (other w vs) (act f) selector,
      looked_up_alike (performed p.t p.methods p.meant p.budget next x arguments alive f) (performed p.u p.others p.meant p.budget nexts (rename x) (rename_all arguments) (acts alive) (act f))
          line selector x arguments alive w f vs h g,
      refl,
    )

    more_alike : (x a : Value) (arguments : List Value) (alive : List Activation) (f : Activation) → AreSent x arguments alive f → AreSent x (a ∷ arguments) alive f
    more_alike x a arguments alive f g w vs h =
        let line : List Place = places_of p.t p.methods p.meant p.budget next (class_of p.t w.objects x) in
        let o : Option (List ℕ) = selector_of w.objects a (length arguments) in
        let part : Option (Out Value) = option_map (next_by line x arguments alive w f) o in
        let so : List Place → List ℕ → Out Value = λ l. next_so l (rename x) (rename_all arguments) (acts alive) (other w vs) (act f) in
        subst (λ k. PartSame part (option_map (so (places_of p.u p.others p.meant p.budget nexts (class_of p.u (renamed_objects p.r w.objects) (rename x)))) k))
        (sym (ap (selector_of (renamed_objects p.r w.objects) (rename a)) (length-map arguments (renamed p.r)) ∙ selector_same p.r w.objects a (length arguments)))
        (subst (λ l. PartSame part (option_map (so l) o)) (sym (places_of_class w x)) (next_alike line x arguments alive w f vs o h g))

    performed_alike : (x : Value) (arguments : List Value) (alive : List Activation) (f : Activation) → AreSent x arguments alive f
    performed_alike x [] alive f = λ w vs h. refl
    performed_alike x (a ∷ arguments) alive f = more_alike x a arguments alive f (performed_alike x arguments alive f)

    sent_alike : (line : List Place) (selector : List ℕ) (x : Value) (arguments : List Value) (alive : List Activation) (w : World) (f : Activation) (vs : Variable → Value) → AreRenamed p.r w.variables vs
        → Same p (sent p.t p.methods p.meant p.budget next line selector x arguments alive w f)
        (sent p.u p.others p.meant p.budget nexts (places line) selector (rename x) (rename_all arguments) (acts alive) (other w vs) (act f))
    sent_alike line selector x arguments alive w f vs h =
        looked_up_alike (performed p.t p.methods p.meant p.budget next x arguments alive f) (performed p.u p.others p.meant p.budget nexts (rename x) (rename_all arguments) (acts alive) (act f))
        line selector x arguments alive w f vs h (performed_alike x arguments alive f)

    plain_alike : (selector : List ℕ) (x : Value) (arguments : List Value) (alive : List Activation) (w : World) (f : Activation) (vs : Variable → Value) → AreRenamed p.r w.variables vs
        → Same p (plain p.t p.methods p.meant p.budget next selector x arguments alive w f)
        (plain p.u p.others p.meant p.budget nexts selector (rename x) (rename_all arguments) (acts alive) (other w vs) (act f))
    plain_alike selector x arguments alive w f vs h =
        let line : List Place = places_of p.t p.methods p.meant p.budget next (class_of p.t w.objects x) in
        subst (λ l. Same p (sent p.t p.methods p.meant p.budget next line selector x arguments alive w f)
        (sent p.u p.others p.meant p.budget nexts l selector (rename x) (rename_all arguments) (acts alive) (other w vs) (act f))) (sym (places_of_class w x))
        (sent_alike line selector x arguments alive w f vs h)

    message_alike : (selector : List ℕ) (o : Option ℕ) (x : Value) (arguments : List Value) (alive : List Activation) (w : World) (f : Activation) (vs : Variable → Value) → AreRenamed p.r w.variables vs
        → Same p (message p.t p.methods p.meant p.budget next selector o x arguments alive w f)
        (message p.u p.others p.meant p.budget nexts selector o (rename x) (rename_all arguments) (acts alive) (other w vs) (act f))
    message_alike selector None x arguments alive w f vs h = plain_alike selector x arguments alive w f vs h
    message_alike selector (Some n) x arguments alive w f vs h =
        let of : Block → Out Value = λ b. block_activated p.t p.methods p.meant p.budget next b arguments alive w f in
        let ofs : Block → Out Value = λ b. block_activated p.u p.others p.meant p.budget nexts b (rename_all arguments) (acts alive) (other w vs) (act f) in
        let all : Out Value = plain p.t p.methods p.meant p.budget next selector x arguments alive w f in
        let alls : Out Value = plain p.u p.others p.meant p.budget nexts selector (rename x) (rename_all arguments) (acts alive) (other w vs) (act f) in
        let b : Option Block = if is_value n then block_with w.objects x (length arguments) else None in
        let bs : Option Block = if is_value n then block_with (renamed_objects p.r w.objects) (rename x) (length (rename_all arguments)) else None in
        or_alike p.r (renamed p.r) (renamed p.r) (λ v. Gives v w f) (λ v. Gives v (other w vs) (act f)) (at_once p.t w.objects n x arguments)
        (at_once p.u (renamed_objects p.r w.objects) n (rename x) (rename_all arguments)) (option_map_or of b all) (option_map_or ofs bs alls)
        (at_once_renamed p.t p.u p.r p.is w.objects n x arguments) (λ v. gives v w f vs h)
        (or_alike p.r (renamed_block p.r) (renamed p.r) of ofs b bs all alls (value_block (is_value n)) (λ k. block_activated_alike p next nexts on k arguments alive w f vs h) (plain_alike selector x arguments alive w f vs h))
      where
        value_block : (test : Bool) → (if test then block_with (renamed_objects p.r w.objects) (rename x) (length (rename_all arguments)) else None)
            ≡ option_map (renamed_block p.r) (if test then block_with w.objects x (length arguments) else None)
        value_block true = ap (block_with (renamed_objects p.r w.objects) (rename x)) (length-map arguments (renamed p.r)) ∙ block_with_renamed p.r w.objects x (length arguments)
        value_block false = refl

    pub sent_to_alike : (to_super : Bool) (selector : List ℕ) (x : Value) (arguments : List Value) (here : Here) (w : World) (f : Activation) (vs : Variable → Value) → AreRenamed p.r w.variables vs
        → Same p (sent_to p.t p.methods p.meant p.budget next to_super selector x arguments here w f)
        (sent_to p.u p.others p.meant p.budget nexts to_super selector (rename x) (rename_all arguments) (renamed_here p.r here) (other w vs) (act f))
    sent_to_alike true selector x arguments here w f vs h =
        let line : List Place = places_above p.t p.methods p.meant p.budget next here.key in
        subst (λ l. Same p (sent p.t p.methods p.meant p.budget next line selector here.receiver arguments here.alive w f)
        (sent p.u p.others p.meant p.budget nexts l selector (rename here.receiver) (rename_all arguments) (acts here.alive) (other w vs) (act f))) (sym (places_above_renamed here.key))
        (sent_alike line selector here.receiver arguments here.alive w f vs h)
    sent_to_alike false selector x arguments here w f vs h = message_alike selector (special_number selector) x arguments here.alive w f vs h
