-- The machine follows a message from its look-up on: the method that was found, its primitive, and its activation.
use Rattle.std.proofs.Common.{option_map, ◌≡◌, ◌∙◌, ap, sym, subst, refl, ℕ, suc, List, [], ◌∷◌, length, slice_get, unwrap_or, Bool, true, false, ◌==◌, ◌≤◌, arith, Option, Some, None, if◌then◌else◌}
use Rattle.s80_code.specs.declared.code.Code.{Code}
use Rattle.s80_dict.specs.declared.dict.MethodEntry.{MethodEntry}
use Rattle.s80_object.specs.Body.{BodyTree}
use Rattle.s80_object.specs.Literal.{named}
use Rattle.s80_object.specs.Objects.{State as Objects, with_body}
use Rattle.s80_object.specs.declared.value.Value.{Value}
use Rattle.s80_class.specs.Lookup.{Found, Place, first_found}
use Rattle.s80_meaning.specs.Image.{image, image_reached}
use Rattle.std.specs.Option.{option_map_or}
use Rattle.s80_meaning.proofs.Natural.{natural}
use Rattle.s80_meaning.proofs.NaturalObjects.{class_of_image, length_image}
use Rattle.s80_meaning.proofs.Extends.{added_extends, primitive_extends, symbols_extend}
use Rattle.s80_object.specs.declared.value.Value.TheVariants as val
use Rattle.s80_prims.specs.Classes.{class_of}
use Rattle.s80_prims.specs.Primitives.{Effect as Performed, primitive}
use Rattle.s80_prims.specs.declared.applied.Applied.{Applied}
use Rattle.s80_prims.specs.declared.applied.Applied.TheVariants.{Done, Fails, Stops}
use Rattle.s80_prims.specs.declared.stop.Stop.TheVariants.{Budget}
use Rattle.s80_machine.specs.World.{World, Key, changed, reached, method, Activation, one_tick, with_objects}
use Rattle.s80_machine.specs.Turn.{State, Turn, Goes, given, goes_on, stops}
use Rattle.s80_machine.specs.Shared.{Block, arguments_body, at_once, block_with, does_not_understand, is_value, message_body, selector_of}
use Rattle.s80_machine.specs.Step.{activated, found_turn, looked_up, message_made, not_understood, performed, places_for, places_of, sent, sent_on, special_turn, with_room, block_activated, method_turn, by_effect, by_primitive, code_for, turn}
use Rattle.s80_meaning.specs.Tree.{Meant}
use Rattle.s80_meaning.specs.Meaning.{Out, Gives, Stopped, first_meant, with_room as in_room}
use Rattle.s80_meaning.specs.Meaning as meaning
use Rattle.s80_meaning.proofs.Variables.{Alike, alike_by, alike_then, same_alike, shown_by}
use Rattle.s80_code.specs.Special.{special_selectors}
use Rattle.s80_meaning.proofs.NaturalWorld.{at_once_image, block_with_image, placed_block, selector_image}
use Rattle.s80_meaning.proofs.Stays.{Extends, IsFine, extends_placed, place_in}
use Rattle.s80_meaning.proofs.BlockMade.{block_behind}
use Rattle.s80_meaning.proofs.Corresponds.{Active, AreFound, Deeper, Follows, Known, Leads, Setting, above, context, facts, here_of, meant_for, shown}
use Rattle.s80_meaning.proofs.Following.{by_test, by_tick, gives, tick_alike}
use Rattle.s80_meaning.proofs.WorldsShown.{changed_alike, changed_shown, made_shown}
use Rattle.s80_meaning.proofs.ActivationsFollow.{activated_so, room_so}
use Rattle.s80_meaning.proofs.BlocksFollow.{block_so}

if_some : (test : Bool) (o : Option Block) (b : Block) → (if test then o else None) ≡ Some b → o ≡ Some b
if_some true o b e = e
if_some false o b e = cc

module _ {on : Setting} (deeper : Deeper on) (a : Active on) (enough : deeper.k ≤ a.from) (f : Activation) (p : ℕ) (stack : List Value) where
  open on use {table as t, methods, meant, codes, code, budget, starts}
  open deeper use {ready, next, k}

  -- a message that a primitive sends, on both sides or on none
  abbrev AreSent : World → State → Option Turn → Option (Out Value) → Type 0
  AreSent w0 s None None = Unit {0}
  AreSent w0 s (Some turn) (Some out) = Leads on s turn → Follows a w0 s p (λ v. v ∷ stack) out
  AreSent w0 s _ _ = ⊥

  method_so : (key : Key) (m : Meant) (of : Code) (means_is : meant_for on key ≡ Some m) (code_is : code_for codes code key ≡ Some of) (sent : Option Turn) (performed : Option (Out Value)) (r : Value) (xs : List Value) (w0 w : World) (s : State)
      → Known a w0 f → Alike (facts on) w0 w → suc k ≤ w.ticks → AreSent w0 s sent performed
      → Leads on s (method_turn t codes code budget sent key of r xs (above a f p stack) (shown on w))
      → Follows a w0 s p (λ v. v ∷ stack) (meaning.method_value t methods meant budget next performed key m r xs (here_of a).alive w f)
  method_so key m of means_is code_is sent performed r xs w0 w s known alike late are l =
      by_test a w0 s p (λ v. v ∷ stack) (m.primitive == 81)
      (option_map_or (λ b. block_activated t codes code budget b xs (above a f p stack) (shown on w)) (block_with (shown on w).objects r (length xs)) machine)
      (if m.primitive == 83 then unwrap_or sent machine else by_primitive t codes code budget m.primitive r xs machine (above a f p stack) (shown on w))
      (option_map_or (λ b. meaning.block_activated t methods meant budget next b xs (here_of a).alive w f) (block_with w.objects r (length xs)) tree)
      (if m.primitive == 83 then unwrap_or performed tree
      else meaning.by_effect t methods meant budget next effect.applied w (changed w effect.world) tree f)
      (subst (λ n. Leads on s (if n == 81 then option_map_or (λ b. block_activated t codes code budget b xs (above a f p stack) (shown on w)) (block_with (shown on w).objects r (length xs)) machine
      else (if n == 83 then unwrap_or sent machine else by_primitive t codes code budget n r xs machine (above a f p stack) (shown on w)))) (ready.pairs key m of means_is code_is).primitive l)
      (λ l. by_block (block_with w.objects r (length xs)) refl (subst (λ o. Leads on s (option_map_or (λ b. block_activated t codes code budget b xs (above a f p stack) (shown on w)) o machine)) (block_with_image at w.objects r (length xs)) l))
      (λ l. by_test a w0 s p (λ v. v ∷ stack) (m.primitive == 83) (unwrap_or sent machine) (by_primitive t codes code budget m.primitive r xs machine (above a f p stack) (shown on w)) (unwrap_or performed tree)
      (meaning.by_effect t methods meant budget next effect.applied w (changed w effect.world) tree f) l
      (by_sent sent performed are)
      (λ l. by_applied effect.applied (subst (λ (x : Performed). Leads on s (by_effect t codes code budget x.applied (changed (shown on w) x.world) machine (above a f p stack) (shown on w))) (natural at t m.primitive r xs (reached w)) l)))
    where
      at : Value → ℕ → ℕ
      at = place_in starts w

      machine : Turn
      machine = activated t codes code budget key of r xs (above a f p stack) (shown on w)

      tree : Out Value
      tree = meaning.activated t methods meant budget next key m r xs (here_of a).alive w f

      effect : Performed
      effect = primitive t m.primitive r xs (reached w)

      started_so : Leads on s machine → Follows a w0 s p (λ v. v ∷ stack) tree
      started_so l = activated_so deeper a enough f p stack key m of means_is code_is r xs w0 w s known alike late l

      by_block : (o : Option Block) → block_with w.objects r (length xs) ≡ o → Leads on s (option_map_or (λ b. block_activated t codes code budget b xs (above a f p stack) (shown on w)) (option_map (placed_block at) o) machine)
          → Follows a w0 s p (λ v. v ∷ stack) (option_map_or (λ b. meaning.block_activated t methods meant budget next b xs (here_of a).alive w f) o tree)
      by_block None is l = started_so l
      by_block (Some b) is l = block_so deeper a enough f p stack b xs w0 w s known alike (block_behind (facts on) w r (length xs) b alike.fine.placed is) l

      by_sent : (sent : Option Turn) (performed : Option (Out Value)) → AreSent w0 s sent performed → Leads on s (unwrap_or sent machine) → Follows a w0 s p (λ v. v ∷ stack) (unwrap_or performed tree)
      by_sent None None are l = started_so l
      by_sent (Some going) (Some out) are l = are l
      by_sent None (Some out) are l = absurd are
      by_sent (Some going) None are l = absurd are

      by_applied : (applied : Applied) → Leads on s (by_effect t codes code budget applied (changed (shown on w) (image_reached at effect.world)) machine (above a f p stack) (shown on w))
          → Follows a w0 s p (λ v. v ∷ stack) (meaning.by_effect t methods meant budget next applied w (changed w effect.world) tree f)
      by_applied (Done v) l =
          let ext = primitive_extends t m.primitive r xs (reached w) in
          let more : Alike (facts on) w (changed w effect.world) = changed_alike on w effect.world alike.fine ext in (
            alike_then (facts on) w0 w (changed w effect.world) alike more,
            known.seen,
            subst (λ x. Leads on s (Goes (record { contexts = context a f p (v ∷ stack) ∷ a.below; world = x }))) (changed_shown on w effect.world alike.fine ext) l,
          )
      by_applied Fails l = started_so l
      by_applied (Stops stop) l = l

  -- the class doesn't understand the message
  unknown_so : (v : Value) (selector : List ℕ) (w0 w : World) (s : State) → Leads on s (not_understood t codes code budget v selector (shown on w)) → Follows a w0 s p (λ v. v ∷ stack) (meaning.not_understood t methods meant budget next v selector w)
  unknown_so (val.ClassRef c side) selector w0 w s l = l
  unknown_so _ selector w0 w s l = l

  -- ---- a message as an object

  -- the second object: the selector is named, and the Message is made of it and the first
  abbrev second : List ℕ → ℕ → (Value → World → Turn) → World → Turn
  second selector n go w = with_room (with_objects w (named selector w.objects).0) (message_body t (named selector w.objects).1 (val.Object n)) (λ w1. go (val.Object (length w.objects.bodies)) w1)

  abbrev second_of : List ℕ → ℕ → (Value → World → Out Value) → World → Out Value
  second_of selector n gone w = in_room (with_objects w (named selector w.objects).0) (message_body t (named selector w.objects).1 (val.Object n)) (λ w1. gone (val.Object (length w.objects.bodies)) w1)

  -- what goes on alike with a Message
  abbrev WithMessage : World → World → State → (Value → World → Turn) → (Value → World → Out Value) → Type 0
  WithMessage w0 w s go gone = (v : Value) (w1 : World) → Alike (facts on) w w1 → Leads on s (go v (shown on w1)) → Follows a w0 s p (λ v. v ∷ stack) (gone v w1)

  second_so : (selector : List ℕ) (n : ℕ) (w0 w : World) (s : State) (go : Value → World → Turn) (gone : Value → World → Out Value) → IsFine (facts on) w → WithMessage w0 w s go gone
      → Leads on s (second selector n go (shown on w)) → Follows a w0 s p (λ v. v ∷ stack) (second_of selector n gone w)
  second_so selector n w0 w s go gone fine h l =
      let at = place_in starts w in
      let made : Value = val.Object (length w.objects.bodies) in
      let names : Objects = (named selector w.objects).0 in
      let w1 : World = with_objects w names in
      let of : BodyTree = message_body t (named selector w.objects).1 (val.Object n) in
      let named_ext : Extends w.objects names = symbols_extend w.objects names.symbols in
      let named_alike : Alike (facts on) w w1 = alike_by (facts on) w names fine named_ext in
      let ext : Extends names (with_body names of) = added_extends names of tt in
      let more : Alike (facts on) w1 (with_objects w1 (with_body names of)) = alike_by (facts on) w1 (with_body names of) named_alike.fine ext in
      room_so a w0 w1 s p (λ v. v ∷ stack) of (λ x. go made x) (λ x. gone made x)
      (subst (λ (k : ℕ). Leads on s (with_room (shown on w1) of (λ x. go (val.Object k) x))) (length_image at w.objects.bodies)
      (subst (λ (x : World). Leads on s (with_room x of (λ x. go (val.Object (length (image at w.objects).bodies)) x))) (shown_by starts (facts on) w names fine named_ext) l))
      (λ l. h made (with_objects w1 (with_body names of)) (alike_then (facts on) w w1 (with_objects w1 (with_body names of)) named_alike more)
      (subst (λ x. Leads on s (go made x)) (made_shown on w1 of more.later (extends_placed w1 (with_body names of) ext named_alike.fine)) l))

  made_so : (selector : List ℕ) (xs : List Value) (w0 w : World) (s : State) (go : Value → World → Turn) (gone : Value → World → Out Value) → IsFine (facts on) w → WithMessage w0 w s go gone
      → Leads on s (message_made t codes code budget selector xs (shown on w) go) → Follows a w0 s p (λ v. v ∷ stack) (meaning.message_made t methods meant budget next selector xs w gone)
  made_so selector xs w0 w s go gone fine h l =
      let at = place_in starts w in
      let n : ℕ = length w.objects.bodies in
      let of : BodyTree = arguments_body t xs in
      let w1 : World = with_objects w (with_body w.objects of) in
      let ext : Extends w.objects (with_body w.objects of) = added_extends w.objects of tt in
      let more : Alike (facts on) w w1 = alike_by (facts on) w (with_body w.objects of) fine ext in
      room_so a w0 w s p (λ v. v ∷ stack) of (second selector n go) (second_of selector n gone)
      (subst (λ (k : ℕ). Leads on s (with_room (shown on w) of (second selector k go))) (length_image at w.objects.bodies) l)
      (λ l. second_so selector n w0 w1 s go gone more.fine (λ v w2 later. h v w2 (alike_then (facts on) w w1 w2 more later))
      (subst (λ x. Leads on s (second selector n go x)) (made_shown on w of more.later (extends_placed w (with_body w.objects of) ext fine)) l))

  -- a message that isn't understood is sent on as a Message, if a method of doesNotUnderstand: is found
  sent_on_so : (selector : List ℕ) (tree : Option (Found Meant)) (machine : Option (Found (MethodEntry Code))) → AreFound on does_not_understand tree machine → (r : Value) (xs : List Value) (w0 w : World) (s : State)
      → Known a w0 f → Alike (facts on) w0 w → suc k ≤ w.ticks
      → Leads on s (sent_on t codes code budget machine selector r xs (above a f p stack) (shown on w))
      → Follows a w0 s p (λ v. v ∷ stack) (meaning.sent_on t methods meant budget next tree selector r xs (here_of a).alive w f)
  sent_on_so selector None None found r xs w0 w s known alike late l =
      unknown_so (class_of t w.objects r) selector w0 w s (subst (λ v. Leads on s (not_understood t codes code budget v selector (shown on w))) (class_of_image (place_in starts w) t w.objects r) l)
  sent_on_so selector (Some m) (Some c) found r xs w0 w s known alike late l =
      let key = method m.class m.side does_not_understand in
      let same : method c.class c.side does_not_understand ≡ key = sym found.0 in
      made_so selector xs w0 w s (λ v. method_turn t codes code budget None key c.entry.code r (v ∷ []) (above a f p stack))
      (λ v w1. meaning.method_value t methods meant budget next None key m.entry r (v ∷ []) (here_of a).alive w1 f) alike.fine
      (λ v w1 more l. method_so key m.entry c.entry.code found.1 (subst (λ key. code_for codes code key ≡ Some c.entry.code) same found.2) None None r (v ∷ []) w0 w1 s known (alike_then (facts on) w0 w w1 alike more) (omega (arith, late, more.later.ticks)) tt l)
      (subst (λ key. Leads on s (message_made t codes code budget selector xs (shown on w) (λ v. method_turn t codes code budget None key c.entry.code r (v ∷ []) (above a f p stack)))) same l)
  sent_on_so selector None (Some c) found r xs w0 w s known alike late l = absurd found
  sent_on_so selector (Some m) None found r xs w0 w s known alike late l = absurd found

  -- ---- the look-up

  -- the method that was found, or none, with what was found of doesNotUnderstand:
  found_so : (selector : List ℕ) (tree other : Option (Found Meant)) (machine missing : Option (Found (MethodEntry Code))) → AreFound on selector tree machine → AreFound on does_not_understand other missing
      → (sent : World → Option Turn) (performed : World → Option (Out Value)) (r : Value) (xs : List Value) (w0 w : World) (s : State)
      → Known a w0 f → Alike (facts on) w0 w → suc k ≤ w.ticks → AreSent w0 s (sent (shown on w)) (performed w)
      → Leads on s (found_turn t codes code budget machine missing sent selector r xs (above a f p stack) (shown on w))
      → Follows a w0 s p (λ v. v ∷ stack) (meaning.found_value t methods meant budget next tree other performed selector r xs (here_of a).alive w f)
  found_so selector None other None missing found otherwise sent performed r xs w0 w s known alike late are l = sent_on_so selector other missing otherwise r xs w0 w s known alike late l
  found_so selector (Some m) other (Some c) missing found otherwise sent performed r xs w0 w s known alike late are l =
      let key = method m.class m.side selector in
      let same : method c.class c.side selector ≡ key = sym found.0 in
      method_so key m.entry c.entry.code found.1 (subst (λ key. code_for codes code key ≡ Some c.entry.code) same found.2) (sent (shown on w)) (performed w) r xs w0 w s known alike late are
      (subst (λ key. Leads on s (method_turn t codes code budget (sent (shown on w)) key c.entry.code r xs (above a f p stack) (shown on w))) same l)
  found_so selector None other (Some c) missing found otherwise sent performed r xs w0 w s known alike late are l = absurd found
  found_so selector (Some m) other None missing found otherwise sent performed r xs w0 w s known alike late are l = absurd found

  -- the tick, the look-up, the method
  looked_up_so : (sent : World → Option Turn) (performed : World → Option (Out Value)) (places : List Place) (selector : List ℕ) (r : Value) (xs : List Value) (w0 w : World) (s : State)
      → Known a w0 f → Alike (facts on) w0 w → (suc w.ticks ≤ budget → AreSent w0 s (sent (shown on (one_tick w))) (performed (one_tick w)))
      → Leads on s (looked_up t codes code budget sent places selector r xs (above a f p stack) (shown on w))
      → Follows a w0 s p (λ v. v ∷ stack) (meaning.looked_up t methods meant budget next performed places selector r xs (here_of a).alive w f)
  looked_up_so sent performed places selector r xs w0 w s known alike are l =
      by_tick a w0 s p (λ v. v ∷ stack) w.ticks
      (found_turn t codes code budget (first_found codes selector places) (first_found codes does_not_understand places) sent selector r xs (above a f p stack) (shown on (one_tick w))) (stops (Budget budget) (shown on w))
      (meaning.found_value t methods meant budget next (first_meant methods selector places) (first_meant methods does_not_understand places) performed selector r xs (here_of a).alive (one_tick w) f) (Stopped (Budget budget) w) l
      (λ low l. found_so selector (first_meant methods selector places) (first_meant methods does_not_understand places) (first_found codes selector places) (first_found codes does_not_understand places)
      (ready.found selector places) (ready.found does_not_understand places) sent performed r xs w0 (one_tick w) s known (alike_then (facts on) w0 w (one_tick w) alike (tick_alike w alike.fine low)) (omega (arith, enough, known.spent, alike.later.ticks)) (are low) l)
      (λ l. l)

  places_same : (v : Value) → places_of t codes code budget v ≡ meaning.places_of t methods meant budget next v
  places_same (val.ClassRef c side) = refl
  places_same _ = refl

  -- the places of a receiver's class
  places_so : (w : World) (r : Value) → places_for t codes code budget (shown on w) r ≡ meaning.places_of t methods meant budget next (class_of t w.objects r)
  places_so w r = ap (places_of t codes code budget) (class_of_image (place_in starts w) t w.objects r) ∙ places_same (class_of t w.objects r)

  -- what primitives send of these arguments
  abbrev ArePerformed : Value → List Value → World → World → State → Type 0
  ArePerformed r xs w0 w s = AreSent w0 s (performed t codes code budget r xs (above a f p stack) (shown on w)) (meaning.performed t methods meant budget next r xs (here_of a).alive f w)

  -- the message of a primitive, by whose method's primitive the next is sent
  more_performed : (r x : Value) (xs : List Value) (w0 w : World) (s : State) → Known a w0 f → Alike (facts on) w0 w → (suc w.ticks ≤ budget → ArePerformed r xs w0 (one_tick w) s) → ArePerformed r (x ∷ xs) w0 w s
  more_performed r x xs w0 w s known alike further =
      subst (λ o. AreSent w0 s (option_map machine o) (option_map tree (selector_of w.objects x (length xs)))) (sym (selector_image (place_in starts w) w.objects x (length xs))) (by_selector (selector_of w.objects x (length xs)))
    where
      machine : List ℕ → Turn
      machine selector = looked_up t codes code budget (performed t codes code budget r xs (above a f p stack)) (places_for t codes code budget (shown on w) r) selector r xs (above a f p stack) (shown on w)

      tree : List ℕ → Out Value
      tree selector = meaning.looked_up t methods meant budget next (meaning.performed t methods meant budget next r xs (here_of a).alive f) (meaning.places_of t methods meant budget next (class_of t w.objects r)) selector r xs (here_of a).alive w f

      by_selector : (o : Option (List ℕ)) → AreSent w0 s (option_map machine o) (option_map tree o)
      by_selector None = tt
      by_selector (Some selector) =
          λ l. looked_up_so (performed t codes code budget r xs (above a f p stack)) (meaning.performed t methods meant budget next r xs (here_of a).alive f)
          (meaning.places_of t methods meant budget next (class_of t w.objects r)) selector r xs w0 w s known alike further
          (subst (λ places. Leads on s (looked_up t codes code budget (performed t codes code budget r xs (above a f p stack)) places selector r xs (above a f p stack) (shown on w))) (places_so w r) l)

  performed_so : (r : Value) (xs : List Value) (w0 w : World) (s : State) → Known a w0 f → Alike (facts on) w0 w → ArePerformed r xs w0 w s
  performed_so r [] w0 w s known alike = tt
  performed_so r (x ∷ xs) w0 w s known alike =
      more_performed r x xs w0 w s known alike (λ low. performed_so r xs w0 (one_tick w) s known (alike_then (facts on) w0 w (one_tick w) alike (tick_alike w alike.fine low)))

  pub sent_so : (places : List Place) (selector : List ℕ) (r : Value) (xs : List Value) (w0 w : World) (s : State) → Known a w0 f → Alike (facts on) w0 w
      → Leads on s (sent t codes code budget places selector r xs (above a f p stack) (shown on w)) → Follows a w0 s p (λ v. v ∷ stack) (meaning.sent t methods meant budget next places selector r xs (here_of a).alive w f)
  sent_so places selector r xs w0 w s known alike l =
      looked_up_so (performed t codes code budget r xs (above a f p stack)) (meaning.performed t methods meant budget next r xs (here_of a).alive f) places selector r xs w0 w s known alike
      (λ low. performed_so r xs w0 (one_tick w) s known (alike_then (facts on) w0 w (one_tick w) alike (tick_alike w alike.fine low))) l

  -- a message by a selector of the activation
  pub plain_so : (selector : List ℕ) (r : Value) (xs : List Value) (w : World) (s : State) → Known a w f → Leads on s (sent t codes code budget (places_for t codes code budget (shown on w) r) selector r xs (above a f p stack) (shown on w))
      → Follows a w s p (λ v. v ∷ stack) (meaning.plain t methods meant budget next selector r xs (here_of a).alive w f)
  plain_so selector r xs w s known l =
      sent_so (meaning.places_of t methods meant budget next (class_of t w.objects r)) selector r xs w w s known (same_alike (facts on) w known.fine)
      (subst (λ places. Leads on s (sent t codes code budget places selector r xs (above a f p stack) (shown on w))) (places_so w r) l)

  -- a special message: answered at once, or a block's activation, or sent
  pub special_so : (n : ℕ) (selector : List ℕ) (r : Value) (xs : List Value) (q : ℕ) (from : List Value) (w : World) (s : State) → Known a w f → slice_get special_selectors n ≡ Some selector
      → Leads on s (special_turn t codes code budget n (context a f q from) p a.below (shown on w) r xs stack)
      → Follows a w s p (λ v. v ∷ stack) (meaning.message t methods meant budget next selector (Some n) r xs (here_of a).alive w f)
  special_so n selector r xs q from w s known is l =
      by_answer (at_once t w.objects n r xs)
      (subst (λ o. Leads on s (option_map_or (λ v. goes_on (context a f q from) p (v ∷ stack) a.below (shown on w)) o by_other)) (at_once_image (place_in starts w) t w.objects n r xs) l)
    where
      at : Value → ℕ → ℕ
      at = place_in starts w

      by_message : Turn
      by_message = given (slice_get special_selectors n) (λ selector. sent t codes code budget (places_for t codes code budget (shown on w) r) selector r xs (above a f p stack) (shown on w))

      by_other : Turn
      by_other = option_map_or (λ b. block_activated t codes code budget b xs (above a f p stack) (shown on w)) (if is_value n then block_with (shown on w).objects r (length xs) else None) by_message

      tree : Out Value
      tree = meaning.plain t methods meant budget next selector r xs (here_of a).alive w f

      by_block : (o : Option Block) → (if is_value n then block_with w.objects r (length xs) else None) ≡ o → Leads on s (option_map_or (λ b. block_activated t codes code budget b xs (above a f p stack) (shown on w)) (option_map (placed_block at) o) by_message)
          → Follows a w s p (λ v. v ∷ stack) (option_map_or (λ b. meaning.block_activated t methods meant budget next b xs (here_of a).alive w f) o tree)
      by_block None is_none l =
          plain_so selector r xs w s known
          (subst (λ o. Leads on s (given o (λ selector. sent t codes code budget (places_for t codes code budget (shown on w) r) selector r xs (above a f p stack) (shown on w)))) is l)
      by_block (Some b) is_it l = block_so deeper a enough f p stack b xs w w s known (same_alike (facts on) w known.fine) (block_behind (facts on) w r (length xs) b known.fine.placed (if_some (is_value n) (block_with w.objects r (length xs)) b is_it)) l

      if_value : (test : Bool) (o : Option Block) → (if test then option_map (placed_block at) o else None) ≡ option_map (placed_block at) (if test then o else None)
      if_value true o = refl
      if_value false o = refl

      by_answer : (o : Option Value) → Leads on s (option_map_or (λ v. goes_on (context a f q from) p (v ∷ stack) a.below (shown on w)) o by_other)
          → Follows a w s p (λ v. v ∷ stack) (option_map_or (λ v. Gives v w f) o (option_map_or (λ b. meaning.block_activated t methods meant budget next b xs (here_of a).alive w f) (if is_value n then block_with w.objects r (length xs) else None) tree))
      by_answer None l =
          by_block (if is_value n then block_with w.objects r (length xs) else None) refl
          (subst (λ o. Leads on s (option_map_or (λ b. block_activated t codes code budget b xs (above a f p stack) (shown on w)) o by_message))
          (ap (λ (o : Option Block). if is_value n then o else None) (block_with_image at w.objects r (length xs)) ∙ if_value (is_value n) (block_with w.objects r (length xs))) l)
      by_answer (Some v) l = gives a w f s p (λ v. v ∷ stack) v known l
