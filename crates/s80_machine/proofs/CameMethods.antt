-- Messages: the method that is found, and what runs it.
use Rattle.std.proofs.Common.{◌≡◌, ◌∙◌, ap, sym, subst, refl, ℕ, ◌+◌, ◌++◌, ◌==◌, cond, List, [], ◌∷◌, drop, find, length, nat_le, All, Option, Some, None, Result, Ok, Err, Bool, true, false, unwrap_or, arith, if◌then◌else◌, option_and_then, pos, replicate, slice_get}
use Rattle.std.specs.List.{AllByRecursion}
use Rattle.std.specs.Option.{option_map, option_map_or}
use Rattle.std.proofs.lemmas.List.Elements.{All-cons, All-nil}
use Rattle.s80_form.specs.declared.definition.Kind.{Kind}
use Rattle.s80_form.specs.declared.definition.Kind.TheVariants as kind
use Rattle.s80_base.specs.declared.names.Side.TheVariants.{Instance}
use Rattle.s80_class.specs.Table.{Table}
use Rattle.s80_code.specs.declared.code.Code.{Code}
use Rattle.s80_code.specs.Special.{special_selectors}
use Rattle.s80_dict.specs.declared.dict.MethodEntry.{MethodEntry}
use Rattle.s80_object.specs.Body.{BodyTree, blank, bytes_of, cost, pointers, word_limit, words_of}
use Rattle.s80_object.specs.Objects.{State as Objects, body_at, item_put, put_with, with_body}
use Rattle.s80_object.specs.declared.value.BodyKind.TheVariants as body
use Rattle.s80_object.specs.declared.value.ObjectFault.{ObjectFault}
use Rattle.s80_object.specs.declared.value.Value.{Value}
use Rattle.s80_object.specs.declared.value.Value.TheVariants.{Small, Character, Nil, ClassRef, Object}
use Rattle.s80_prims.specs.declared.applied.Applied.{Applied}
use Rattle.s80_prims.specs.declared.applied.Applied.TheVariants.{Done, Fails, Stops}
use Rattle.s80_prims.specs.declared.stop.End.TheVariants.{Stopped}
use Rattle.s80_prims.specs.declared.stop.Stop.{Stop}
use Rattle.s80_prims.specs.declared.stop.Stop.TheVariants.{Error, ObjectsFull, TranscriptFull}
use Rattle.s80_prims.specs.Arithmetic.{arithmetic, ranged}
use Rattle.s80_prims.specs.Classes.{can_be_new, class_of, kind_of_class, variables_of}
use Rattle.s80_prims.specs.Primitives.{Alone, Effect, WithOne, WithTwo, World as ReachedWorld, at_place, character_of, done, fails, gives, makes, names, new_indexed, new_plain, new_with, number_of_character, of_class, primitive, put_at, put_character_at, put_done, puts, readable, readable_bytes, rows_alone, rows_with_one, rows_with_two, stops, string_of, text_bytes, transcript_limit, two_numbers, with_text, writes}
use Rattle.s80_prims.specs.Printed.{printed}
use Rattle.s80_prims.specs.Rows.{came_to, world_of}
use Rattle.s80_lex.specs.Selector.{IsSelectorOf}
use Rattle.s80_machine.specs.declared.activations.Block.{Block as KeptBlock}
use Rattle.s80_machine.specs.declared.halt.Halt.{Halt}
use Rattle.s80_machine.specs.declared.machine.Machine.{Machine}
use Rattle.s80_machine.specs.World.{World, Key, method, changed, reached}
use Rattle.s80_machine.specs.Turn.{Context, waiting, Turn, Stuck, given, goes_on}
use Rattle.s80_class.specs.Lookup.{Found, Place, IsFound}
use Rattle.s80_machine.specs.Shared.{Block, at_once, block_with, does_not_understand, is_value, sent_in}
use Rattle.s80_machine.specs.Step.{block_activated, by_effect, by_primitive, found_turn, method_turn, sent_on, special_turn}
use Rattle.s80_machine.specs.Sound.{IsSetting}
use Rattle.s80_machine.specs.Seen.{Does, EndsRun, Given, IsBlock, block_of, pushed, FoundCode}
use Rattle.s80_machine.specs.Came.{Came, Shows, ShowsWorld, places, sends}
use Rattle.s80_machine.specs.Messages.{Takes, activates, finds, makes_message, performs, refuses, runs, runs_method, runs_primitive, sends_on}
use Rattle.s80_machine.proofs.SoundClasses.{found_at}
use Rattle.s80_machine.proofs.SoundEnds.{block_takes}
use Rattle.s80_machine.proofs.lemmas.SoundLists.{same_number}
use Rattle.s80_machine.proofs.SoundOperands.{one_selector}
use Rattle.s80_machine.proofs.CameParts.{ends_so}
use Rattle.s80_machine.proofs.CameSends.{alive, itself, pushed_came}

-- ---- a method that was found takes the arguments

module _ (on : Given) (setting : IsSetting on.table on.methods on.code) (selector : List ℕ) where
  abbrev Anywhere : Place → Type 0
  Anywhere place = Unit {0}

  anywhere : (places : List Place) → All Anywhere places
  anywhere [] = All-nil Anywhere
  anywhere (p ∷ places) = All-cons Anywhere p places tt (anywhere places)

  pub takes_found : (at : List Place) (f : Found (MethodEntry Code)) (arguments : List Value) → IsSelectorOf (length arguments) selector → finds on selector at ≡ Some f
      → Takes on (method f.class f.side selector) f.entry.code arguments
  takes_found at f arguments takes found =
      let there = found_at on.methods selector Anywhere at f (anywhere at) found in
      let suits = setting.methods_suit f.class f.side selector f.entry there.entry in
      let same : f.entry.code.arguments ≡ length arguments = one_selector selector f.entry.code.arguments (length arguments) suits.selector_is takes in
      record { code_is = ap (option_map (λ (e : MethodEntry Code). e.code)) there.entry; few = omega (arith, same, suits.suits.depths.header.arguments) }

  pub found_takes : (at : List Place) (g : FoundCode) (arguments : List Value) → IsSelectorOf (length arguments) selector → IsFound (finds on selector at) (Some g)
      → Takes on (method g.class g.side selector) g.entry.now.code arguments
  found_takes at g arguments takes found = go (finds on selector at) refl found
    where
      go : (o : Option (Found (MethodEntry Code))) → finds on selector at ≡ o → IsFound o (Some g) → Takes on (method g.class g.side selector) g.entry.now.code arguments
      go None e is = absurd is
      go (Some f) e is =
          let here = takes_found at f arguments takes e in
          subst (λ code. Takes on (method g.class g.side selector) code arguments) (ap (λ (e : MethodEntry Code). e.code) (sym is.2))
          (subst (λ side. Takes on (method g.class side selector) f.entry.code arguments) (sym is.1) (subst (λ class. Takes on (method class f.side selector) f.entry.code arguments) (sym is.0) here))

-- ---- and is run

module _ (on : Given) (sent : World → Option Turn) (at : List Place) (selector : List ℕ) (r : Value) (arguments : List Value) (below : List Context) (w : World) (new : Machine) (result : Result (Unit {0}) Halt) where
  abbrev of_found : Option (Found (MethodEntry Code)) → Turn
  of_found o = found_turn on.table on.methods on.code on.budget o (finds on does_not_understand at) sent selector r arguments below w

  abbrev of_method : Key → Code → Turn
  of_method key code = method_turn on.table on.methods on.code on.budget (sent w) key code r arguments below w

  -- nothing is found
  pub found_none : IsFound (finds on selector at) None → Came on (sends_on on at selector r arguments below w) new result → Came on (runs on sent at selector r arguments below w) new result
  found_none is h = go (finds on selector at) is
    where
      go : (o : Option (Found (MethodEntry Code))) → IsFound o None → Came on (of_found o) new result
      go None is = h
      go (Some f) is = absurd is

  -- what the code has found
  pub found_code : (g : FoundCode) → IsFound (finds on selector at) (Some g) → Came on (of_method (method g.class g.side selector) g.entry.now.code) new result → Came on (runs on sent at selector r arguments below w) new result
  found_code g is h = go (finds on selector at) is
    where
      go : (o : Option (Found (MethodEntry Code))) → IsFound o (Some g) → Came on (of_found o) new result
      go None is = absurd is
      go (Some f) is =
          subst (λ class. Came on (of_method (method class f.side selector) f.entry.code) new result) is.0
          (subst (λ side. Came on (of_method (method g.class side selector) f.entry.code) new result) is.1 (subst (λ code. Came on (of_method (method g.class g.side selector) code) new result) (ap (λ (e : MethodEntry Code). e.code) is.2) h))

  sends_none : {A : Type 0} (a b : Bool) (o : Option A) (x run p : A) → (if b then o else None) ≡ None → (if a then x else (if b then run else p)) ≡ (if a then x else (if b then unwrap_or o run else p))
  sends_none true b o x run p none = refl
  sends_none false true o x run p none = ap (λ o. unwrap_or o run) (sym none)
  sends_none false false o x run p none = refl

  -- its primitive sends no message
  pub found_runs : (g : FoundCode) → IsFound (finds on selector at) (Some g) → (if g.entry.now.code.primitive == 83 then sent w else None) ≡ None
      → Came on (runs_method on (method g.class g.side selector) g.entry.now.code r arguments below w) new result → Came on (runs on sent at selector r arguments below w) new result
  found_runs g is none h =
      let key : Key = method g.class g.side selector in
      let code : Code = g.entry.now.code in
      let run : Turn = activates on key code r arguments below w in
      let same =
      sends_none (code.primitive == 81) (code.primitive == 83) (sent w)
      (option_map_or (λ b. block_activated on.table on.methods on.code on.budget b arguments below w) (block_with w.objects r (length arguments)) run) run (runs_primitive on key code r arguments below w) none in
      found_code g is (subst (λ turn. Came on turn new result) same h)

none_mapped : {A B : Type 0} (f : A → B) (b : Bool) (o : Option A) → None ≡ (if b then o else None) → (if b then option_map f o else None) ≡ None
none_mapped f true o e = ap (option_map f) (sym e)
none_mapped f false o e = refl

-- the message of a primitive is sent with the arguments behind the first
performs_is : (on : Given) (r : Value) (arguments : List Value) (below : List Context) (w : World)
    → performs on r arguments below w ≡ option_map (λ u. sends on (places on w r) u r (drop 1 arguments) below w) (sent_in w.objects arguments)
performs_is on r [] below w = refl
performs_is on r (a ∷ arguments) below w = refl

module _ (on : Given) (at : List Place) (selector : List ℕ) (r : Value) (arguments : List Value) (below : List Context) (w : World) (new : Machine) (result : Result (Unit {0}) Halt) (g : FoundCode)
    (found : IsFound (finds on selector at) (Some g)) where
  abbrev asked : Option (List ℕ)
  asked = if g.entry.now.code.primitive == 83 then sent_in w.objects arguments else None

  abbrev sends_it : List ℕ → Turn
  sends_it u = sends on (places on w r) u r (drop 1 arguments) below w

  -- no message is asked for
  pub runs_found : None ≡ asked → Came on (runs_method on (method g.class g.side selector) g.entry.now.code r arguments below w) new result
      → Came on (runs on (performs on r arguments below) at selector r arguments below w) new result
  runs_found none h =
      let test : Bool = g.entry.now.code.primitive == 83 in
      found_runs on (performs on r arguments below) at selector r arguments below w new result g found
      (ap (λ o. if test then o else None) (performs_is on r arguments below w) ∙ none_mapped sends_it test (sent_in w.objects arguments) none) h

  sent_turn : (n : ℕ) (o : Option (List ℕ)) (u : List ℕ) (x run p : Turn) → Some u ≡ (if n == 83 then o else None) → sends_it u ≡ (if n == 81 then x else (if n == 83 then unwrap_or (option_map sends_it o) run else p))
  sent_turn n o u x run p e = go (n == 83) refl e
    where
      go : (b : Bool) → (n == 83) ≡ b → Some u ≡ (if b then o else None) → sends_it u ≡ (if n == 81 then x else (if n == 83 then unwrap_or (option_map sends_it o) run else p))
      go true is e =
          subst (λ k. sends_it u ≡ (if k == 81 then x else (if k == 83 then unwrap_or (option_map sends_it o) run else p))) (sym (same_number n 83 is))
          (ap (λ o. unwrap_or (option_map sends_it o) run) e)
      go false is e = cc

  -- this one is
  pub performs_found : (u : List ℕ) → Some u ≡ asked → Came on (sends_it u) new result → Came on (runs on (performs on r arguments below) at selector r arguments below w) new result
  performs_found u e h =
      let key : Key = method g.class g.side selector in
      let code : Code = g.entry.now.code in
      let run : Turn = activates on key code r arguments below w in
      let block : Turn = option_map_or (λ b. block_activated on.table on.methods on.code on.budget b arguments below w) (block_with w.objects r (length arguments)) run in
      let other : Turn = runs_primitive on key code r arguments below w in
      let same =
      sent_turn code.primitive (sent_in w.objects arguments) u block run other e
      ∙ ap (λ o. if code.primitive == 81 then block else (if code.primitive == 83 then unwrap_or o run else other)) (sym (performs_is on r arguments below w)) in
      found_code on (performs on r arguments below) at selector r arguments below w new result g found (subst (λ turn. Came on turn new result) same h)

-- ---- a message that isn't understood

module _ (on : Given) (at : List Place) (selector : List ℕ) (r : Value) (arguments : List Value) (below : List Context) (w : World) (new : Machine) (result : Result (Unit {0}) Halt) where
  abbrev of_other : Option (Found (MethodEntry Code)) → Turn
  of_other o = sent_on on.table on.methods on.code on.budget o selector r arguments below w

  -- no method takes it on
  pub refused : IsFound (finds on does_not_understand at) None → Came on (refuses on (class_of on.table w.objects r) selector w) new result → Came on (sends_on on at selector r arguments below w) new result
  refused is h = go (finds on does_not_understand at) is
    where
      go : (o : Option (Found (MethodEntry Code))) → IsFound o None → Came on (of_other o) new result
      go None is = h
      go (Some f) is = absurd is

  -- this one does, with a Message
  abbrev pub taken_on : Key → Code → Value → World → Turn
  taken_on key code m = runs_method on key code r (m ∷ []) below

  abbrev turn_of : Key → Code → Turn
  turn_of key code = makes_message on selector arguments w (taken_on key code)

  pub takes_on : (g : FoundCode) → IsFound (finds on does_not_understand at) (Some g) → Came on (turn_of (method g.class g.side does_not_understand) g.entry.now.code) new result
      → Came on (sends_on on at selector r arguments below w) new result
  takes_on g is h = go (finds on does_not_understand at) is
    where
      go : (o : Option (Found (MethodEntry Code))) → IsFound o (Some g) → Came on (of_other o) new result
      go None is = absurd is
      go (Some f) is =
          subst (λ class. Came on (turn_of (method class f.side does_not_understand) f.entry.code) new result) is.0
          (subst (λ side. Came on (turn_of (method g.class side does_not_understand) f.entry.code) new result) is.1
          (subst (λ code. Came on (turn_of (method g.class g.side does_not_understand) code) new result) (ap (λ (e : MethodEntry Code). e.code) is.2) h))

-- ---- blocks

pub block_is : (on : Given) (s : Objects) (r : Value) (count : ℕ) (k : KeptBlock) → IsBlock (block_with s r count) (Some k) → block_with s r count ≡ Some (block_of k count)
block_is on s r count k is = go (block_with s r count) refl is
  where
    go : (o : Option Block) → block_with s r count ≡ o → IsBlock o (Some k) → block_with s r count ≡ Some (block_of k count)
    go None e is = absurd is
    go (Some b) e is =
        let takes : b.arguments ≡ count = (block_takes on.table on.methods on.code s r count b e).takes in
        e ∙ (λ i. Some (record { object = sym is.0 i; home = sym is.1.0 i; start = sym is.1.1 i; arguments = takes i }))

pub no_block : (o : Option Block) → IsBlock o None → o ≡ None
no_block None is = refl
no_block (Some b) is = absurd is

-- ---- a method whose primitive sends no message

module _ (on : Given) (key : Key) (code : Code) (r : Value) (arguments : List Value) (below : List Context) (w : World) (new : Machine) (result : Result (Unit {0}) Halt) where
  abbrev of_block : Option Block → Turn
  of_block o = option_map_or (λ b. block_activated on.table on.methods on.code on.budget b arguments below w) o (activates on key code r arguments below w)

  abbrev of_number : ℕ → Turn
  of_number n =
      if n == 81 then of_block (block_with w.objects r (length arguments))
      else (if n == 83 then activates on key code r arguments below w
      else by_primitive on.table on.methods on.code on.budget n r arguments (activates on key code r arguments below w) below w)

  abbrev Runs : Type 0
  Runs = Came on (runs_method on key code r arguments below w) new result

  at_number : (n : ℕ) → code.primitive ≡ n → Came on (of_number n) new result → Runs
  at_number n is h = subst (λ n. Came on (of_number n) new result) (sym is) h

  pub method_activates_block : code.primitive ≡ 81 → (k : KeptBlock) → IsBlock (block_with w.objects r (length arguments)) (Some k)
      → Came on (block_activated on.table on.methods on.code on.budget (block_of k (length arguments)) arguments below w) new result → Runs
  method_activates_block is k block h = at_number 81 is (subst (λ o. Came on (of_block o) new result) (sym (block_is on w.objects r (length arguments) k block)) h)

  pub method_without_block : code.primitive ≡ 81 → IsBlock (block_with w.objects r (length arguments)) None → Came on (activates on key code r arguments below w) new result → Runs
  method_without_block is none h = at_number 81 is (subst (λ o. Came on (of_block o) new result) (sym (no_block (block_with w.objects r (length arguments)) none)) h)

  pub method_sends_none : code.primitive ≡ 83 → Came on (activates on key code r arguments below w) new result → Runs
  method_sends_none is h = at_number 83 is h

  pub method_by_primitive : (code.primitive == 81) ≡ false → (code.primitive == 83) ≡ false → Came on (runs_primitive on key code r arguments below w) new result → Runs
  method_by_primitive no_block no_message h =
      let n : ℕ = code.primitive in
      let run : Turn = activates on key code r arguments below w in
      let block : Turn = of_block (block_with w.objects r (length arguments)) in
      let other : Turn = by_primitive on.table on.methods on.code on.budget n r arguments run below w in
      subst (λ b. Came on (if b then block else (if n == 83 then run else other)) new result) (sym no_block) (subst (λ b. Came on (if b then run else other) new result) (sym no_message) h)

-- ---- a primitive that doesn't answer changes nothing

abbrev pub IsStillAs : Applied → ReachedWorld → ReachedWorld → Type 0
IsStillAs (Done v) new old = Unit {0}
IsStillAs Fails new old = new ≡ old
IsStillAs (Stops stop) new old = new ≡ old

module _ (t : Table) (w : ReachedWorld) where
  abbrev pub IsStill : Effect → Type 0
  IsStill e = IsStillAs e.applied e.world w

  if_still : (test : Bool) (a b : Effect) → IsStill a → IsStill b → IsStill (if test then a else b)
  if_still true a b h g = h
  if_still false a b h g = g

  gives_still : (o : Option Value) → IsStill (gives w o)
  gives_still None = refl
  gives_still (Some v) = tt

  text_still : (o : Option (List ℕ)) (go : List ℕ → Effect) → ((text : List ℕ) → IsStill (go text)) → IsStill (with_text w o go)
  text_still None go h = refl
  text_still (Some text) go h = h text

  makes_still : (b : BodyTree) → IsStill (makes w b)
  makes_still b =
      if_still (nat_le (words_of w.objects.bodies + cost b) word_limit) (done (record w { objects = with_body w.objects b }) (Object (length w.objects.bodies))) (stops w (ObjectsFull (words_of w.objects.bodies))) tt refl

  put_still : (r answer : Value) (o : Result BodyTree ObjectFault) → IsStill (put_done w r answer o)
  put_still r answer (Ok b) = tt
  put_still r answer (Err fault) = refl

  put_at_still : (r place to : Value) → IsStill (put_at w r place to)
  put_at_still r (Small (pos i)) to = put_still r to (put_with (λ b. item_put b i to) w.objects r)
  put_at_still r _ to = refl

  put_character_still : (r place to : Value) → IsStill (put_character_at w r place to)
  put_character_still r (Small (pos i)) (Character c) = go (option_and_then bytes_of (body_at w.objects r))
    where
      go : (o : Option (List ℕ)) → IsStill (option_map_or (λ items. puts w r i (Small (pos c)) (Character c)) o (fails w))
      go None = refl
      go (Some items) = put_still r (Character c) (put_with (λ b. item_put b i (Small (pos c))) w.objects r)
  put_character_still r _ to = refl

  of_class_still : (r : Value) (go : ℕ → Effect) → ((c : ℕ) → IsStill (go c)) → IsStill (of_class t w r go)
  of_class_still (ClassRef c Instance) go h = if_still (can_be_new t c) (go c) (fails w) (h c) refl
  of_class_still _ go h = refl

  plain_still : (c : ℕ) (k : Kind) → IsStill (new_plain t w c k)
  plain_still c kind.Plain = makes_still (pointers c (replicate (variables_of t c) Nil) [])
  plain_still c kind.Pointers = refl
  plain_still c kind.Bytes = refl
  plain_still c kind.Words = refl

  indexed_still : (c : ℕ) (k : Kind) (n : ℕ) → IsStill (new_indexed t w c k n)
  indexed_still c kind.Plain n = refl
  indexed_still c kind.Pointers n = makes_still (blank c body.Pointers (variables_of t c) n)
  indexed_still c kind.Bytes n = makes_still (blank c body.Bytes 0 n)
  indexed_still c kind.Words n = makes_still (blank c body.Words 0 n)

  new_with_still : (r a : Value) → IsStill (new_with t w r a)
  new_with_still r (Small (pos n)) = of_class_still r (λ c. new_indexed t w c (kind_of_class t c) n) (λ c. indexed_still c (kind_of_class t c) n)
  new_with_still r _ = refl

  number_still : (r : Value) → IsStill (number_of_character w r)
  number_still (Character c) = tt
  number_still _ = refl

  character_still : (a : Value) → IsStill (character_of w a)
  character_still (Small (pos n)) = if_still (nat_le n 255) (done w (Character n)) (fails w) tt refl
  character_still _ = refl

  numbers_still : (n : ℕ) (r a : Value) → IsStill (two_numbers n w r a)
  numbers_still n (Small a) (Small b) = gives_still (arithmetic n a b)
  numbers_still n _ _ = refl

  found_still : {R : Type 0} (test : R → Bool) (effect : R → Effect) (none : Effect) (rs : List R) → AllByRecursion (λ r. IsStill (effect r)) rs → IsStill none → IsStill (option_map_or effect (find test rs) none)
  found_still test effect none [] h g = g
  found_still test effect none (r ∷ rs) h g =
      elim (test r) as (λ is. IsStill (option_map_or effect (cond is (Some r) (find test rs)) none)) [
        | true ↦ h.0
        | false ↦ found_still test effect none rs h.1 g
      ]

  pub primitive_still : (n : ℕ) (r : Value) (arguments : List Value) → IsStill (primitive t n r arguments w)
  primitive_still n r [] =
      found_still (λ (row : Alone). row.number == n) (λ (row : Alone). row.effect t w r) (fails w) rows_alone (
        gives_still (option_and_then (λ items. ranged (pos (length items))) (readable w.objects r)),
        (of_class_still r (λ c. new_plain t w c (kind_of_class t c)) (λ c. plain_still c (kind_of_class t c)), (tt, (number_still r, (text_still (text_bytes t w.objects r) (names w) (λ text. tt), (makes_still (string_of t (printed t w.objects r)), tt))))),
      )
      refl
  primitive_still n r (a ∷ []) =
      found_still (λ (row : WithOne). row.number == n) (λ (row : WithOne). row.effect t w r a) (two_numbers n w r a) rows_with_one (
        gives_still (option_and_then (λ items. at_place items a) (readable w.objects r)),
        (
          gives_still (option_map Character (option_and_then (λ items. at_place items a) (readable_bytes w.objects r))),
          (
            new_with_still r a,
            (
              tt,
              (
                text_still (text_bytes t w.objects a) (writes w r) writes_still,
                (text_still (text_bytes t w.objects a) (λ text. stops w (Error text)) (λ text. refl), (character_still a, tt)),
              ),
            ),
          ),
        ),
      )
      (numbers_still n r a)
    where
      writes_still : (text : List ℕ) → IsStill (writes w r text)
      writes_still text = if_still (nat_le (length w.transcript + length text) transcript_limit) (done (record w { transcript = w.transcript ++ text }) r) (stops w TranscriptFull) tt refl
  primitive_still n r (a ∷ b ∷ []) =
      found_still (λ (row : WithTwo). row.number == n) (λ (row : WithTwo). row.effect t w r a b) (fails w) rows_with_two (put_at_still r a b, (put_character_still r a b, tt)) refl
  primitive_still n r (a ∷ b ∷ c ∷ rest) = refl

-- ---- a primitive of a method

module _ (on : Given) (m : Machine) (c : Context) (rest : List Context) (w : World) (shows : Shows on m (alive (c ∷ rest) w)) (key : Key) (code : Code) (r : Value) (arguments : List Value) (n : ℕ) (same : n ≡ code.primitive)
    (applied : Applied) (objects : Objects) (transcript : List ℕ) (is : came_to applied (world_of objects transcript) ≡ primitive on.table n r arguments (world_of m.objects m.transcript)) where
  effect : came_to applied (world_of objects transcript) ≡ primitive on.table code.primitive r arguments (reached w)
  effect =
      is ∙ ap (λ n. primitive on.table n r arguments (world_of m.objects m.transcript)) same ∙ ap (λ s. primitive on.table code.primitive r arguments (world_of s m.transcript)) shows.world.objects
      ∙ ap (λ text. primitive on.table code.primitive r arguments (world_of w.objects text)) shows.world.transcript

  abbrev Run : Machine → Result (Unit {0}) Halt → Type 0
  Run new result = Came on (runs_primitive on key code r arguments (c ∷ rest) w) new result

  abbrev to : Applied → Turn
  to applied = by_effect on.table on.methods on.code on.budget applied (changed w (world_of objects transcript)) (activates on key code r arguments (c ∷ rest) w) (c ∷ rest) w

  by_applied : (new : Machine) (result : Result (Unit {0}) Halt) → Came on (to applied) new result → Run new result
  by_applied new result h =
      subst (λ e. Came on (by_effect on.table on.methods on.code on.budget e.applied (changed w e.world) (activates on key code r arguments (c ∷ rest) w) (c ∷ rest) w) new result) effect h

  abbrev after : Machine
  after = record m { objects = objects; transcript = transcript }

  still : IsStillAs applied (world_of objects transcript) (reached w)
  still = subst (IsStill on.table (reached w)) (sym effect) (primitive_still on.table (reached w) code.primitive r arguments)

  stays : world_of objects transcript ≡ reached w → ShowsWorld on after w
  stays e = record {
    objects = ap (λ x. x.objects) e;
    transcript = ap (λ x. x.transcript) e;
    ticks = shows.world.ticks;
    keys = shows.world.keys;
    given = shows.world.given;
    variables = shows.world.variables;
    sites = shows.world.sites;
  }

  pub primitive_answers : (v : Value) → applied ≡ Done v → (new : List Context) (result : Result (Unit {0}) Halt) → Does itself (pushed v) m.contexts new result → Run (record after { contexts = new }) result
  primitive_answers v done new result pushes =
      by_applied (record after { contexts = new }) result
      (subst (λ a. Came on (to a) (record after { contexts = new }) result) (sym done)
      (pushed_came on after c rest (changed w (world_of objects transcript)) v new result
      (record {
        contexts = shows.contexts;
        world = record { objects = refl; transcript = refl; ticks = shows.world.ticks; keys = shows.world.keys; given = shows.world.given; variables = shows.world.variables; sites = shows.world.sites };
      })
      pushes))

  pub primitive_fails : applied ≡ Fails → (new : Machine) (result : Result (Unit {0}) Halt) → (Shows on after (alive (c ∷ rest) w) → Came on (activates on key code r arguments (c ∷ rest) w) new result) → Run new result
  primitive_fails fails new result goes =
      let world = stays (subst (λ a. IsStillAs a (world_of objects transcript) (reached w)) fails still) in
      by_applied new result (subst (λ a. Came on (to a) new result) (sym fails) (goes (record { contexts = shows.contexts; world = world })))

  pub primitive_stops : (stop : Stop) (h : Halt) → applied ≡ Stops stop → EndsRun (Stopped stop) h → Run after (Err h)
  primitive_stops stop h stops told =
      let world = stays (subst (λ a. IsStillAs a (world_of objects transcript) (reached w)) stops still) in
      by_applied after (Err h) (subst (λ a. Came on (to a) after (Err h)) (sym stops) (ends_so on (Stopped stop) w after h told world))

-- ---- special messages

module _ (on : Given) (n : ℕ) (c : Context) (next : ℕ) (rest : List Context) (w : World) (r : Value) (arguments stack : List Value) (new : Machine) (result : Result (Unit {0}) Halt) where
  abbrev asks : Option Block
  asks = if is_value n then block_with w.objects r (length arguments) else None

  abbrev sends_word : List ℕ → Turn
  sends_word word = sends on (places on w r) word r arguments (waiting c next stack ∷ rest) w

  abbrev looked_for : Option (List ℕ) → Turn
  looked_for o = given o sends_word

  abbrev with_block : Option Block → Turn
  with_block o = option_map_or (λ b. block_activated on.table on.methods on.code on.budget b arguments (waiting c next stack ∷ rest) w) o (looked_for (slice_get special_selectors n))

  abbrev answered : Option Value → Turn
  answered o = option_map_or (λ v. goes_on c next (v ∷ stack) rest w) o (with_block asks)

  abbrev Turned : Type 0
  Turned = Came on (special_turn on.table on.methods on.code on.budget n c next rest w r arguments stack) new result

  pub special_answers : (v : Value) → Some v ≡ at_once on.table w.objects n r arguments → Came on (goes_on c next (v ∷ stack) rest w) new result → Turned
  special_answers v e h = subst (λ o. Came on (answered o) new result) e h

  module _ (none : None ≡ at_once on.table w.objects n r arguments) where
    pub special_blocks : (k : KeptBlock) → IsBlock asks (Some k) → Came on (block_activated on.table on.methods on.code on.budget (block_of k (length arguments)) arguments (waiting c next stack ∷ rest) w) new result → Turned
    special_blocks k is h = subst (λ o. Came on (answered o) new result) none (subst (λ o. Came on (with_block o) new result) (sym (by_test (is_value n) is)) h)
      where
        by_test : (test : Bool) → IsBlock (if test then block_with w.objects r (length arguments) else None) (Some k) → (if test then block_with w.objects r (length arguments) else None) ≡ Some (block_of k (length arguments))
        by_test true is = block_is on w.objects r (length arguments) k is
        by_test false is = absurd is

    looked : IsBlock asks None → Came on (looked_for (slice_get special_selectors n)) new result → Turned
    looked is h = subst (λ o. Came on (answered o) new result) none (subst (λ o. Came on (with_block o) new result) (sym (no_block asks is)) h)

    pub special_sends : IsBlock asks None → (word : List ℕ) → Some word ≡ slice_get special_selectors n → Came on (sends_word word) new result → Turned
    special_sends is word e h = looked is (subst (λ o. Came on (looked_for o) new result) e h)

    pub special_stuck : IsBlock asks None → None ≡ slice_get special_selectors n → Came on Stuck new result → Turned
    special_stuck is e h = looked is (subst (λ o. Came on (looked_for o) new result) e h)
