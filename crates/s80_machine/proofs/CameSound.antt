-- What a machine has that shows a sound state: its method, its instruction, and what calls rest on.
use Rattle.std.proofs.Common.{◌≡◌, ◌∙◌, ap, sym, subst, refl, ℕ, ◌+◌, ◌<◌, ◌≤◌, ◌^◌, List, [], ◌∷◌, All, drop, length, map, slice_get, Option, Some, None, Result, Ok, arith, option_and_then}
use Rattle.std.specs.Option.{IsSome, MatchOption, SomeIff, option_map}
use Rattle.std.proofs.lemmas.Option.{slice_get-map}
use Rattle.s80_code.specs.declared.code.Code.{Code}
use Rattle.s80_code.specs.declared.instruction.Instruction.{Instruction}
use Rattle.s80_code.specs.declared.instruction.Instruction.TheVariants.{SendSpecial}
use Rattle.s80_code.specs.Special.{block_copy}
use Rattle.s80_code.specs.Table.{Stands, decoded}
use Rattle.s80_code.proofs.lemmas.TableLemmas.{value}
use Rattle.s80_object.specs.Body.{home as home_body}
use Rattle.s80_object.specs.Objects.{IsHome, State as Objects, body_at}
use Rattle.s80_object.specs.declared.value.Value.TheVariants.{Object}
use Rattle.s80_prims.specs.Known.{AreKnown, IsKnown}
use Rattle.s80_verify.specs.declared.stack.Stack.{Stack}
use Rattle.s80_verify.specs.Operands.{Suits}
use Rattle.s80_verify.specs.Record.{Fits}
use Rattle.s80_verify.proofs.lemmas.LawLemmas.{fits_there}
use Rattle.s80_verify.proofs.lemmas.PlaceLemmas.{ends_within}
use Rattle.s80_machine.specs.declared.halt.Halt.{Halt}
use Rattle.s80_machine.specs.declared.machine.Machine.{Machine}
use Rattle.s80_machine.specs.declared.methods.Activated.{Activated}
use Rattle.s80_machine.specs.World.{World, Activation, own, home, block, home_in}
use Rattle.s80_machine.specs.Turn.{Context, State}
use Rattle.s80_machine.specs.Step.{act, code_at, code_for, turn, turn_at, turn_of}
use Rattle.s80_machine.specs.Sound.{AreSound, HasCount, IsActivationOf, IsHomeOf, IsSound, IsSoundContext, IsSoundWorld, stack_kind}
use Rattle.s80_machine.specs.Seen.{Does, Given, IsActivated, Method, moved}
use Rattle.s80_machine.specs.Came.{Came, IsGiven, Shows, ShowsWorld, TopHasHome, TopIsKnown, at_place}
use Rattle.s80_machine.specs.Messages.{ReceiverIsKnown, TopRuns}
use Rattle.s80_machine.specs.Acts.{TopCountsFew, TopHasMethod}
use Rattle.s80_machine.proofs.SoundEnds.{AllWait}
use Rattle.s80_machine.proofs.lemmas.SoundLists.{all_got}
use Rattle.s80_machine.proofs.CameCounts.{few_counted}
use Rattle.s80_machine.proofs.CameSteps.{shows_other, state, with_contexts}

-- a sum that fits
pub added_is : (o : Option ℕ) (n sum : ℕ) → SomeIff o (sum < 2 ^ 32) sum → o ≡ Some n → n ≡ sum
added_is o n sum added is = let there : SomeIff (Some n) (sum < 2 ^ 32) sum = subst (λ p. SomeIff p (sum < 2 ^ 32) sum) is added in there.1

pub some_sum : (o : Option ℕ) (sum : ℕ) → SomeIff o (sum < 2 ^ 32) sum → o ≡ None → sum < 2 ^ 32 → ⊥
some_sum o sum added none = subst (λ p. SomeIff p (sum < 2 ^ 32) sum) none added

module _ (on : Given) (m : Machine) where
  -- ---- a machine shows one state

  one_world : (w v : World) → ShowsWorld on m w → ShowsWorld on m v → w ≡ v
  one_world w v h g = λ i. record {
    objects = (sym h.objects ∙ g.objects) i;
    transcript = (sym h.transcript ∙ g.transcript) i;
    ticks = (sym h.ticks ∙ g.ticks) i;
    keys = (sym h.keys ∙ g.keys) i;
    variables = λ u. (sym (h.variables u) ∙ g.variables u) i;
  }

  pub one_state : (s z : State) → Shows on m s → Shows on m z → s ≡ z
  one_state s z h g = λ i. record { contexts = (sym h.contexts ∙ g.contexts) i; world = one_world s.world z.world h.world g.world i }

  -- ---- the active context

  pub record Active : Type 0 where
    pub context : Context
    pub rest : List Context
    pub world : World
    pub shows : Shows on m (state (context ∷ rest) world)
    pub sound : IsSoundWorld on.table on.methods on.code world
    pub stands : IsSoundContext on.table on.methods on.code world 0 context
    pub wait : AllWait on.table on.methods on.code world rest

  pub active : (s : State) → Shows on m s → IsSound on.table on.methods on.code s → Active
  active s shows sound = by_contexts s.contexts refl sound.contexts
    where
      by_contexts : (contexts : List Context) → s.contexts ≡ contexts → AreSound on.table on.methods on.code s.world contexts → Active
      by_contexts [] e h = absurd h
      by_contexts (c ∷ rest) e h =
          record { context = c; rest = rest; world = s.world; shows = record { contexts = shows.contexts ∙ e; world = shows.world }; sound = sound.world; stands = h.0; wait = h.1 }

  module _ (a : Active) where
    abbrev c : Context
    c = a.context

    abbrev w : World
    w = a.world

    abbrev of : Code
    of = a.stands.of

    pub first : slice_get m.contexts 0 ≡ Some a.context
    first = ap (λ l. slice_get l 0) a.shows.contexts

    -- ---- its method

    method_there : (number : ℕ) → number ≡ c.method → option_map (λ x. x.key) (slice_get m.methods number) ≡ Some a.stands.method.key
    method_there number is =
        sym (slice_get-map (λ x. x.key) m.methods number) ∙ ap (λ keys. slice_get keys number) a.shows.world.keys ∙ ap (slice_get w.keys) is ∙ a.stands.method.key_is

    pub some_method : (number : ℕ) → number ≡ c.method → slice_get m.methods number ≡ None → ⊥
    some_method number is none = let e = method_there number is in let gone = ap (option_map (λ (x : Method). x.key)) none in cc

    -- the method of a number, which was activated
    its_method : (o : Option Method) (x : Activated) → IsActivated o x → (y : Method) × (o ≡ Some y) × (x.code.now ≡ y.code)
    its_method None x h = absurd h
    its_method (Some y) x h = (y, refl, h.0)

    its_code : (number : ℕ) (y : Method) → number ≡ c.method → slice_get m.methods number ≡ Some y → y.code ≡ of
    its_code number y is there =
        let key : y.key ≡ a.stands.method.key = value (sym (ap (option_map (λ (x : Method). x.key)) there) ∙ method_there number is) in
        let given : code_for on.methods on.code y.key ≡ Some y.code = all_got (IsGiven on) m.methods number y a.shows.world.given there in
        value (sym given ∙ ap (code_for on.methods on.code) key ∙ a.stands.method.code_is)

    pub has_method : (next : ℕ) (contexts : List Context) → contexts ≡ record c { place = next } ∷ a.rest → TopHasMethod (with_contexts m contexts)
    has_method next contexts is = λ d rest e.
        let same : d ∷ rest ≡ record c { place = next } ∷ a.rest = sym e ∙ is in
        let top : d ≡ record c { place = next } = cc in
        let there : d.method ≡ c.method = ap (λ (x : Context). x.method) top in
        some (slice_get m.methods d.method) (λ none. some_method d.method there none)
      where
        some : (o : Option Method) → (o ≡ None → ⊥) → IsSome o
        some None h = absurd (h refl)
        some (Some x) h = refl

    -- the active context and its method, as they were read
    pub record IsRead (number place : ℕ) (code : Code) : Type 0 where
      pub place_is : place ≡ c.place
      pub code_is : code ≡ of
      pub method : Method
      pub there : slice_get m.methods number ≡ Some method
      pub same_code : code ≡ method.code

    pub reads : (x view : Context) (o : Option Activated) (k : Activated) → slice_get m.contexts 0 ≡ Some x → view ≡ x
        → MatchOption o (slice_get m.methods view.method ≡ None) (IsActivated (slice_get m.methods view.method)) → o ≡ Some k → IsRead view.method view.place k.code.now
    reads x view o k top seen found is =
        let same : view ≡ c = seen ∙ value (sym top ∙ first) in
        let activated : IsActivated (slice_get m.methods view.method) k =
        subst (λ p. MatchOption p (slice_get m.methods view.method ≡ None) (IsActivated (slice_get m.methods view.method))) is found in
        let y = its_method (slice_get m.methods view.method) k activated in
        record {
          place_is = ap (λ (y : Context). y.place) same;
          code_is = y.2 ∙ its_code view.method y.0 (ap (λ (y : Context). y.method) same) y.1;
          method = y.0;
          there = y.1;
          same_code = y.2;
        }

    -- what is listed at its place is what stands there
    pub listed : (number place : ℕ) (code : Code) → IsRead number place code → (entry : Option (Instruction × ℕ))
        → ((y : Method) → slice_get m.methods number ≡ Some y → entry ≡ decoded (drop place y.code.bytes)) → decoded (drop place code.bytes) ≡ entry
    listed number place code read entry is = ap (λ (k : Code). decoded (drop place k.bytes)) read.same_code ∙ sym (is read.method read.there)

    -- it goes on at a place
    pub moved_to : (next : ℕ) (new : List Context) → Does (λ done. done) (moved next) m.contexts new (Ok tt) → new ≡ record c { place = next } ∷ a.rest
    moved_to next new does =
        let h : Does (λ done. done) (moved next) (c ∷ a.rest) new (Ok tt) = subst (λ l. Does (λ done. done) (moved next) l new (Ok tt)) a.shows.contexts does in
        h.1

    pub shows_moved : (next : ℕ) (new : List Context) → new ≡ record c { place = next } ∷ a.rest → Shows on (with_contexts m new) (at_place c next a.rest w)
    shows_moved next new is = shows_other on m (c ∷ a.rest) new (record c { place = next } ∷ a.rest) w is a.shows

    -- ---- its instruction

    abbrev here : Fits of c.place (stack_kind c.activation) (length c.stack + 0)
    here = fits_there of a.stands.method.suits.depths c.place (stack_kind c.activation) (length c.stack + 0) a.stands.reached

    fetched : (code : Code) (place : ℕ) → code ≡ of → place ≡ c.place → decoded (drop place code.bytes) ≡ Some (here.instruction, here.stands.width)
    fetched code place same at = ap (λ (k : Code). decoded (drop place k.bytes)) same ∙ ap (λ p. decoded (drop p of.bytes)) at ∙ here.stands.is_decoded

    pub some_instruction : (code : Code) (place : ℕ) → code ≡ of → place ≡ c.place → decoded (drop place code.bytes) ≡ None → ⊥
    some_instruction code place same at none = let e = fetched code place same at in cc

    -- an instruction that was decoded
    module _ (code : Code) (place : ℕ) (same : code ≡ of) (at : place ≡ c.place) (i : Instruction) (width : ℕ) (is : decoded (drop place code.bytes) ≡ Some (i, width)) where
      one : ◌≡◌ {A = Instruction × ℕ} (here.instruction, here.stands.width) (i, width)
      one = value (sym (fetched code place same at) ∙ is)

      stands : Stands of.bytes c.place i (c.place + width)
      stands =
          let there : decoded (drop c.place of.bytes) ≡ Some (i, width) = here.stands.is_decoded ∙ ap (λ p. Some p) one in
          record { width = width; is_decoded = there; behind = refl }

      pub near : place + width ≤ 1023
      near = omega (arith, ends_within of.bytes c.place i (c.place + width) stands, a.stands.method.suits.depths.short, at)

      pub suits : (at : ℕ) × (stack : Stack) × Suits code at stack i
      suits =
          let there : Suits of c.place (stack_kind c.activation) i = subst (λ (p : Instruction × ℕ). Suits of c.place (stack_kind c.activation) p.0) one here.suits in
          (c.place, stack_kind c.activation, subst (λ (k : Code). Suits k c.place (stack_kind c.activation) i) (sym same) there)

      pub few : i ≡ SendSpecial block_copy → (next : ℕ) (contexts : List Context) → contexts ≡ record c { place = next } ∷ a.rest → TopCountsFew (with_contexts m contexts)
      few copies next contexts is = λ d rest n e counts.
          let same : d ∷ rest ≡ record c { place = next } ∷ a.rest = sym e ∙ is in
          let top : d ≡ record c { place = next } = cc in
          let on_top : HasCount n c.stack = subst (λ (x : Context). HasCount n x.stack) top counts in
          let there : Stands of.bytes c.place (SendSpecial block_copy) (c.place + width) = subst (λ j. Stands of.bytes c.place j (c.place + width)) copies stands in
          few_counted on.table on.methods on.code c a.rest w a.sound a.stands a.wait (c.place + width) there n on_top

      -- the step is what this instruction does
      pub steps : (next : ℕ) (new : Machine) (r : Result (Unit {0}) Halt) → next ≡ place + width
          → Came on (act on.table on.methods on.code on.budget code c next a.rest w i) new r
          → (s : State) → Shows on m s → Came on (turn on.table on.methods on.code on.budget s) new r
      unfolding stands
      steps next new r behind came s shows =
          let behind_it : next ≡ c.place + width = behind ∙ ap (λ p. p + width) at in
          let acted : Came on (act on.table on.methods on.code on.budget of c (c.place + width) a.rest w i) new r =
          subst (λ n. Came on (act on.table on.methods on.code on.budget of c n a.rest w i) new r) behind_it
          (subst (λ (k : Code). Came on (act on.table on.methods on.code on.budget k c next a.rest w i) new r) same came) in
          let code_is : code_at on.methods on.code w c.method ≡ Some of = ap (option_and_then (code_for on.methods on.code)) a.stands.method.key_is ∙ a.stands.method.code_is in
          let turned : Came on (turn on.table on.methods on.code on.budget (state (c ∷ a.rest) w)) new r =
          subst (λ o. Came on (turn_of on.table on.methods on.code on.budget c a.rest w o) new r) (sym code_is)
          (subst (λ o. Came on (turn_at on.table on.methods on.code on.budget c a.rest w of o) new r) (sym stands.is_decoded) acted) in
          subst (λ z. Came on (turn on.table on.methods on.code on.budget z) new r) (one_state (state (c ∷ a.rest) w) s a.shows shows) turned

    -- ---- what calls rest on

    pub has_known : (next : ℕ) (contexts : List Context) → contexts ≡ record c { place = next } ∷ a.rest → TopIsKnown on.table (with_contexts m contexts)
    has_known next contexts is =
        let objects : w.objects ≡ m.objects = sym a.shows.world.objects in
        record {
          objects = subst (AreKnown on.table) objects a.sound.known;
          stack = λ d rest e.
              let same : record c { place = next } ∷ a.rest ≡ d ∷ rest = sym is ∙ e in
              let top : record c { place = next } ≡ d = cc in
              let known : All (IsKnown on.table m.objects) c.stack = subst (λ (s : Objects). All (IsKnown on.table s) c.stack) objects a.stands.values in
              subst (λ (x : Context). All (IsKnown on.table m.objects) x.stack) top known;
        }

    pub has_receiver : (next : ℕ) (contexts : List Context) → contexts ≡ record c { place = next } ∷ a.rest → ReceiverIsKnown on.table (with_contexts m contexts)
    has_receiver next contexts is = λ d rest e.
        let same : record c { place = next } ∷ a.rest ≡ d ∷ rest = sym is ∙ e in
        let top : record c { place = next } ≡ d = cc in
        let known : IsKnown on.table m.objects c.receiver = subst (λ (s : Objects). IsKnown on.table s c.receiver) (sym a.shows.world.objects) a.stands.method.known in
        subst (λ (x : Context). IsKnown on.table m.objects x.receiver) top known

    -- it runs this code
    pub has_code : (code : Code) → code ≡ of → (next : ℕ) (contexts : List Context) → contexts ≡ record c { place = next } ∷ a.rest → TopRuns on code (with_contexts m contexts)
    has_code code same next contexts is = λ d rest e.
        let all : d ∷ rest ≡ record c { place = next } ∷ a.rest = sym e ∙ is in
        let top : d ≡ record c { place = next } = cc in
        let there = ap (λ (x : Context). slice_get (map (λ x. x.key) m.methods) x.method) top ∙ ap (λ keys. slice_get keys c.method) a.shows.world.keys ∙ a.stands.method.key_is in
        (a.stands.method.key, (there, a.stands.method.code_is ∙ ap (λ k. Some k) (sym same)))

    home_there : (f : Activation) (h : ℕ) → IsActivationOf on.table on.methods on.code w f c.method c.receiver of → home_in f ≡ Some h → IsHomeOf on.table on.methods on.code w h c.method c.receiver of
    home_there (own temporaries) h activation e = cc
    home_there (home k) h activation e = subst (λ n. IsHomeOf on.table on.methods on.code w n c.method c.receiver of) (value e) activation
    home_there (block b k) h activation e = subst (λ n. IsHomeOf on.table on.methods on.code w n c.method c.receiver of) (value e) activation.0

    home_is : (h : ℕ) → IsHomeOf on.table on.methods on.code w h c.method c.receiver of → IsHome (body_at m.objects (Object h))
    home_is h it =
        let there : body_at w.objects (Object h) ≡ Some (home_body c.method c.receiver it.temporaries) = it.there in
        subst (λ (s : Objects). IsHome (body_at s (Object h))) (sym a.shows.world.objects) (subst IsHome (sym there) tt)

    pub has_home : (next : ℕ) (contexts : List Context) → contexts ≡ record c { place = next } ∷ a.rest → TopHasHome (with_contexts m contexts)
    has_home next contexts is = λ d rest h e found.
        let same : d ∷ rest ≡ record c { place = next } ∷ a.rest = sym e ∙ is in
        let same_one : d ≡ record c { place = next } = cc in
        let top : d.activation ≡ c.activation = ap (λ (x : Context). x.activation) same_one in
        home_is h (home_there c.activation h a.stands.activation (sym (ap home_in top) ∙ found))
