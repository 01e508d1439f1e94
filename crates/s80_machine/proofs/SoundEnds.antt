-- Turns that are sound: stops, answers, returns, and new activations.
use Rattle.std.proofs.Common.{◌≡◌, ◌∙◌, ap, sym, subst, refl, ℕ, suc, ◌+◌, ◌-◌, ◌<◌, ◌≤◌, ◌==◌, List, [], ◌∷◌, ◌++◌, Option, Some, None, Bool, true, false, length, slice_get, nat_le, nat_lt, replicate, All, arith, if◌then◌else◌, option_and_then, length-append}
use Rattle.std.specs.Option.{IsSome}
use Rattle.std.proofs.lemmas.List.{length-replicate}
use Rattle.std.proofs.lemmas.List.Elements.{All-nil, All-cons, All-head, All-tail, All-append, All-replicate}
use Rattle.s80_class.specs.Table.{Table}
use Rattle.s80_code.specs.declared.code.Code.{Code}
use Rattle.s80_dict.specs.Table.{MethodsValue}
use Rattle.s80_dict.specs.declared.dict.MethodEntry.{MethodEntry}
use Rattle.s80_object.specs.Body.{BodyTree, pointers, bytes, words, home as home_body, block as block_body, cost, word_limit, words_of}
use Rattle.s80_object.specs.Objects.{State as Objects, home_parts_of, with_body}
use Rattle.s80_object.specs.declared.value.Value.{Value}
use Rattle.s80_object.specs.declared.value.Value.TheVariants.{Nil, Object}
use Rattle.s80_prims.specs.Known.{BodyIsKnown, IsKnown}
use Rattle.s80_prims.specs.declared.stop.Stop.{Stop}
use Rattle.s80_prims.specs.declared.stop.Stop.TheVariants.{BlockActive, Budget, CannotReturn, Deep, ObjectsFull}
use Rattle.s80_verify.specs.declared.stack.Stack.TheVariants.{OfHome, OfBlock}
use Rattle.s80_verify.specs.Reach.{Reached}
use Rattle.s80_verify.proofs.lemmas.ListLemmas.{get_last}
use Rattle.s80_machine.specs.World.{World, Key, Activation, own, home, block, number_in, numbered, one_tick, receiver_variable, with_objects}
use Rattle.s80_machine.specs.Turn.{Context, is_active, is_home, Turn, Goes, deeper, deliver, given, holds_block, pushed_all, return_from, return_home, stops, ticked}
use Rattle.s80_machine.specs.Shared.{Block, block_in, block_with, depth_limit, if_takes}
use Rattle.s80_machine.specs.Step.{activated, at_home, block_activated, block_started, code_for, started, with_home, with_room, without_home}
use Rattle.s80_machine.specs.Sound.{IsBlockOf, IsActivationOf, IsHomeOf, IsMethod, IsSoundBody, IsSoundContext, IsSoundTurn, IsSoundWorld, Suits, stack_kind, variables_for}
use Rattle.s80_machine.proofs.lemmas.SoundLists.{numbered_there, same_number}
use Rattle.s80_machine.proofs.SoundPlaces.{none_first}
use Rattle.s80_machine.proofs.SoundWorlds.{contexts_stay, method_stays, variable_stays}
use Rattle.s80_machine.proofs.SoundChanges.{Follows, body_follows, numbered_follows, tick_follows}
use Rattle.s80_code.proofs.lemmas.TableLemmas.{value}

module _ (t : Table) (methods : MethodsValue (MethodEntry Code)) (code : Code) where
  -- each waits for an answer
  abbrev pub AllWait : World → List Context → Type 0
  AllWait w rest = All (IsSoundContext t methods code w 1) rest

  pub wait_on : (w w1 : World) → Follows t methods code w w1 → (rest : List Context) → AllWait w rest → AllWait w1 rest
  wait_on w w1 f rest h = contexts_stay t methods code w w1 f.onward rest h

  pub stops_sound : (stop : Stop) (w : World) → IsSoundWorld t methods code w → IsSoundTurn t methods code (stops stop w)
  stops_sound stop w h = (tt, h.known)

  pub if_sound : (b : Bool) (x y : Turn) → IsSoundTurn t methods code x → IsSoundTurn t methods code y → IsSoundTurn t methods code (if b then x else y)
  if_sound true x y h g = h
  if_sound false x y h g = g

  pub ticked_sound : (budget : ℕ) (w : World) (go : World → Turn) → IsSoundWorld t methods code w → (Follows t methods code w (one_tick w) → IsSoundTurn t methods code (go (one_tick w))) → IsSoundTurn t methods code (ticked budget w go)
  ticked_sound budget w go h goes = if_sound (nat_lt w.ticks budget) (go (one_tick w)) (stops (Budget budget) w) (goes (tick_follows t methods code w h)) (stops_sound (Budget budget) w h)

  pub deeper_sound : (below : List Context) (w : World) (go : Turn) → IsSoundWorld t methods code w → IsSoundTurn t methods code go → IsSoundTurn t methods code (deeper below w go)
  deeper_sound below w go h goes = if_sound (nat_lt (length below) depth_limit) go (stops Deep w) goes (stops_sound Deep w h)

  pub room_sound : (w : World) (b : BodyTree) (go : World → Turn) → IsSoundWorld t methods code w → BodyIsKnown t w.objects b → IsSoundBody t methods code w b
      → (Follows t methods code w (with_objects w (with_body w.objects b)) → IsSoundTurn t methods code (go (with_objects w (with_body w.objects b)))) → IsSoundTurn t methods code (with_room w b go)
  room_sound w b go h known is goes =
      if_sound (nat_le (words_of w.objects.bodies + cost b) word_limit) (go (with_objects w (with_body w.objects b))) (stops (ObjectsFull (words_of w.objects.bodies)) w)
      (goes (body_follows t methods code w b h known is)) (stops_sound (ObjectsFull (words_of w.objects.bodies)) w h)

  -- ---- answers and returns

  -- a context that waited goes on with a value
  pub answered : (w : World) (v : Value) (c : Context) → IsKnown t w.objects v → IsSoundContext t methods code w 1 c → IsSoundContext t methods code w 0 (record c { stack = v ∷ c.stack })
  answered w v c known h = record {
    of = h.of;
    method = h.method;
    activation = h.activation;
    reached = let same : length c.stack + 1 ≡ suc (length c.stack) + 0 = omega arith in subst (Reached h.of c.place (stack_kind c.activation)) same h.reached;
    counted = λ arguments start b. absurd (let bad : 1 ≡ 0 = (h.counted arguments start b).0 in omega (arith, bad));
    values = All-cons (IsKnown t w.objects) v c.stack known h.values;
  }

  pub deliver_sound : (v : Value) (rest : List Context) (w : World) → IsKnown t w.objects v → IsSoundWorld t methods code w → AllWait w rest → IsSoundTurn t methods code (deliver v rest w)
  deliver_sound v [] w known h wait = (known, h.known)
  deliver_sound v (c ∷ rest) w known h wait =
      record { world = h; contexts = (answered w v c known (All-head (IsSoundContext t methods code w 1) c rest wait), All-tail (IsSoundContext t methods code w 1) c rest wait) }

  pub home_sound : (k : ℕ) (v : Value) (rest : List Context) (w : World) → IsKnown t w.objects v → IsSoundWorld t methods code w → AllWait w rest → IsSoundTurn t methods code (return_home k v rest w)
  home_sound k v [] w known h wait = stops_sound CannotReturn w h
  home_sound k v (c ∷ rest) w known h wait =
      let below = All-tail (IsSoundContext t methods code w 1) c rest wait in
      if_sound (is_home k c) (deliver v rest w) (return_home k v rest w) (deliver_sound v rest w known h below) (home_sound k v rest w known h below)

  pub return_sound : (f : Activation) (v : Value) (rest : List Context) (w : World) → IsKnown t w.objects v → IsSoundWorld t methods code w → AllWait w rest → IsSoundTurn t methods code (return_from f v rest w)
  return_sound (own temporaries) v rest w known h wait = deliver_sound v rest w known h wait
  return_sound (home k) v rest w known h wait = deliver_sound v rest w known h wait
  return_sound (block b k) v rest w known h wait = home_sound k v rest w known h wait

  -- ---- a method's activation

  -- a method that may be activated with a receiver
  pub record CanRun (w : World) (key : Key) (of : Code) (r : Value) : Type 0 where
    pub code_is : code_for methods code key ≡ Some of
    pub suits : Suits (variables_for t key) of
    pub known : IsKnown t w.objects r
    pub variables : (i : ℕ) → i < variables_for t key → IsSome (receiver_variable w r i)

  -- it begins at its first place, with nothing on its stack
  begun : (w : World) (m : ℕ) (r : Value) (of : Code) (f : Activation) → stack_kind f ≡ OfHome → IsMethod t methods code w m r of → IsSoundWorld t methods code w → IsActivationOf t methods code w f m r of
      → IsSoundContext t methods code w 0 (record { method = m; receiver = r; activation = f; place = 0; stack = [] })
  begun w m r of f kind method h activation = record {
    of = of;
    method = method;
    activation = activation;
    reached = (0, (refl, kind, refl));
    counted = λ arguments start b. absurd (none_first of arguments start b);
    values = All-nil (IsKnown t w.objects);
  }

  started_sound : (budget : ℕ) (key : Key) (of : Code) (r : Value) (temporaries : List Value) (below : List Context) (w : World) → IsSoundWorld t methods code w → IsMethod t methods code w (number_in w key) r of
      → All (IsKnown t w.objects) temporaries → length temporaries ≡ of.temporaries → AllWait w below → IsSoundTurn t methods code (started t methods code budget key of r temporaries below w)
  started_sound budget key of r temporaries below w h method all count wait = by_block (holds_block of) refl
    where
      at_end : (f : Follows t methods code w (with_objects w (with_body w.objects (home_body (number_in w key) r temporaries))))
          → IsHomeOf t methods code (with_objects w (with_body w.objects (home_body (number_in w key) r temporaries))) (length w.objects.bodies) (number_in w key) r of
      at_end f = record { temporaries = temporaries; there = get_last w.objects.bodies (home_body (number_in w key) r temporaries); count = count }

      by_block : (b : Bool) → holds_block of ≡ b → IsSoundTurn t methods code (if b then with_home t methods code budget key r temporaries below w else without_home t methods code budget key r temporaries below w)
      by_block true e =
          room_sound w (home_body (number_in w key) r temporaries)
          (λ w1. Goes (record { contexts = record { method = number_in w key; receiver = r; activation = home (length w.objects.bodies); place = 0; stack = [] } ∷ below; world = w1 })) h
          (method.known, all) (of, method, count)
          (λ f.
          let w1 : World = with_objects w (with_body w.objects (home_body (number_in w key) r temporaries)) in
          record {
            world = f.sound;
            contexts = (
              begun w1 (number_in w key) r of (home (length w.objects.bodies)) refl (method_stays t methods code w w1 f.onward (number_in w key) r of method) f.sound (at_end f),
              wait_on w w1 f below wait,
            );
          })
      by_block false e = record { world = h; contexts = (begun w (number_in w key) r of (own temporaries) refl method h (count, (all, e)), wait) }

  pub activated_sound : (budget : ℕ) (key : Key) (of : Code) (r : Value) (arguments : List Value) (below : List Context) (w : World) → IsSoundWorld t methods code w → CanRun w key of r
      → All (IsKnown t w.objects) arguments → length arguments ≤ of.temporaries → AllWait w below → IsSoundTurn t methods code (activated t methods code budget key of r arguments below w)
  activated_sound budget key of r arguments below w h can all few wait =
      let w1 : World = numbered w key in
      let f = numbered_follows t methods code w key h in
      let nils : List Value = replicate (of.temporaries - length arguments) Nil in
      let method : IsMethod t methods code w1 (number_in w1 key) r of = record {
        key = key;
        key_is = numbered_there w key;
        code_is = can.code_is;
        suits = can.suits;
        known = can.known;
        variables = λ i below. variable_stays w w1 f.onward r i (can.variables i below);
      } in
      let known : All (IsKnown t w1.objects) (arguments ++ nils) = All-append (IsKnown t w1.objects) arguments nils all (All-replicate (IsKnown t w1.objects) (of.temporaries - length arguments) Nil tt) in
      let count : length (arguments ++ nils) ≡ of.temporaries = omega (arith, length-append arguments nils, length-replicate (of.temporaries - length arguments) Nil, few) in
      deeper_sound below w (started t methods code budget key of r (arguments ++ nils) below w1) h
      (started_sound budget key of r (arguments ++ nils) below w1 f.sound method known count (wait_on w w1 f below wait))

  -- ---- a block's activation

  -- a block that takes so many
  pub record Takes (s : Objects) (count : ℕ) (b : Block) : Type 0 where
    pub there : slice_get s.bodies b.object ≡ Some (block_body b.home b.start b.arguments)
    pub takes : b.arguments ≡ count

  pub block_takes : (s : Objects) (r : Value) (count : ℕ) (b : Block) → block_with s r count ≡ Some b → Takes s count b
  block_takes s (Object n) count b e = go (slice_get s.bodies n) refl e
    where
      of : (c : BodyTree) → slice_get s.bodies n ≡ Some c → (o : Option Block) → block_in n c ≡ o → option_and_then (if_takes count) o ≡ Some b → Takes s count b
      of c is None at e = cc
      of (pointers class fields items) is (Some x) at e = cc
      of (bytes class items) is (Some x) at e = cc
      of (words class items) is (Some x) at e = cc
      of (home_body m r temporaries) is (Some x) at e = cc
      of (block_body whole start arguments) is (Some x) at e = fits (arguments == count) refl (ap (if_takes count) (value at) ∙ e)
        where
          fits : (test : Bool) → (arguments == count) ≡ test → (if test then Some (record { object = n; home = whole; start = start; arguments = arguments }) else None) ≡ Some b → Takes s count b
          fits true same e =
              let here : Takes s count (record { object = n; home = whole; start = start; arguments = arguments }) = record { there = is; takes = same_number arguments count same } in
              subst (Takes s count) (value e) here
          fits false same e = cc

      go : (o : Option BodyTree) → slice_get s.bodies n ≡ o → option_and_then (if_takes count) (option_and_then (block_in n) o) ≡ Some b → Takes s count b
      go None is e = cc
      go (Some c) is e = of c is (block_in n c) refl e
  block_takes s _ count b e = cc

  pushed_known : (P : Value → Type 0) (vs stack : List Value) → All P vs → All P stack → All P (pushed_all vs stack)
  pushed_known P [] stack h g = g
  pushed_known P (v ∷ vs) stack h g = pushed_known P vs (v ∷ stack) (All-tail P v vs h) (All-cons P v stack (All-head P v vs h) g)

  pushed_count : (vs stack : List Value) → length (pushed_all vs stack) ≡ length vs + length stack
  pushed_count [] stack = omega arith
  pushed_count (v ∷ vs) stack = omega (arith, pushed_count vs (v ∷ stack))

  home_started : (b : Block) (arguments : List Value) (below : List Context) (w : World) → IsSoundWorld t methods code w → Takes w.objects (length arguments) b → All (IsKnown t w.objects) arguments
      → AllWait w below → (budget : ℕ) (whole : Value) → IsBlockOf t methods code w whole b.start b.arguments → b.home ≡ whole → IsSoundTurn t methods code (at_home t methods code budget b arguments below w whole)
  home_started b arguments below w h takes all wait budget whole is same =
      subst (λ v. IsSoundTurn t methods code (at_home t methods code budget b arguments below w v)) (sym is.whole_is)
      (subst (λ o. IsSoundTurn t methods code (given (option_and_then home_parts_of o) (block_started t methods code budget b arguments below w is.home))) (sym is.is_home.there) goes)
    where
      count : b.arguments ≡ length (pushed_all arguments []) + 0
      count = omega (arith, pushed_count arguments [], takes.takes)

      context : IsSoundContext t methods code w 0 (record { method = is.number; receiver = is.receiver; activation = block b.object is.home; place = b.start; stack = pushed_all arguments [] })
      context = record {
        of = is.of;
        method = is.method;
        activation = (is.is_home, (b.start, b.arguments, takes.there ∙ ap (λ v. Some (block_body v b.start b.arguments)) (same ∙ is.whole_is)));
        reached = subst (Reached is.of b.start OfBlock) count is.reached;
        counted = λ n start c. absurd (is.plain n start c);
        values = pushed_known (IsKnown t w.objects) arguments [] all (All-nil (IsKnown t w.objects));
      }

      goes : IsSoundTurn t methods code (block_started t methods code budget b arguments below w is.home (is.number, is.receiver))
      goes = record { world = h; contexts = (context, wait) }

  pub block_sound : (budget : ℕ) (b : Block) (arguments : List Value) (below : List Context) (w : World) → IsSoundWorld t methods code w → Takes w.objects (length arguments) b → All (IsKnown t w.objects) arguments
      → AllWait w below → IsSoundTurn t methods code (block_activated t methods code budget b arguments below w)
  block_sound budget b arguments below w h takes all wait =
      ticked_sound budget w (λ w1. if is_active b.object below then stops BlockActive w1 else deeper below w1 (at_home t methods code budget b arguments below w1 b.home)) h
      (λ f.
      let w1 : World = one_tick w in
      if_sound (is_active b.object below) (stops BlockActive w1) (deeper below w1 (at_home t methods code budget b arguments below w1 b.home)) (stops_sound BlockActive w1 f.sound)
      (deeper_sound below w1 (at_home t methods code budget b arguments below w1 b.home) f.sound
      (home_started b arguments below w1 f.sound takes all (wait_on w w1 f below wait) budget b.home
      (f.sound.bodies b.object (block_body b.home b.start b.arguments) takes.there) refl)))
