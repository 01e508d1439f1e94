-- What changes of the active context come to, and the parts of steps that they make.
use Rattle.std.proofs.Common.{◌≡◌, ◌∙◌, ap, sym, subst, refl, ℕ, suc, ◌+◌, ◌<◌, ◌≤◌, ◌≢◌, List, [], ◌∷◌, Bool, true, false, nat_lt, ok_or, slice_get, get_or, ◌==◌, Option, Some, None, Result, Ok, Err, arith, if◌then◌else◌, ℤ}
use Rattle.std.specs.Bool.{beq}
use Rattle.std.specs.Int.{is_negative}
use Rattle.std.specs.Option.{IsSome, option_map}
use Rattle.std.proofs.lemmas.Option.{slice_get-map}
use Rattle.std.proofs.lemmas.Bool.Decides.{nat_tests}
use Rattle.s80_code.specs.declared.code.Code.{Code}
use Rattle.s80_code.specs.declared.instruction.Instruction.{Instruction}
use Rattle.s80_code.specs.declared.instruction.Instruction.TheVariants.{Jump, JumpOnFalse, JumpOnTrue, SendSpecial}
use Rattle.s80_code.specs.Special.{block_copy, special_arguments}
use Rattle.s80_code.proofs.lemmas.TableLemmas.{value}
use Rattle.s80_object.specs.declared.value.Value.{Value}
use Rattle.s80_object.specs.declared.value.Value.TheVariants.{False, True}
use Rattle.s80_prims.specs.declared.stop.End.TheVariants.{Stopped}
use Rattle.s80_prims.specs.declared.stop.Stop.TheVariants.{Budget, CannotReturn, NonBoolean}
use Rattle.s80_machine.specs.declared.halt.Halt.{Halt}
use Rattle.s80_machine.specs.declared.halt.Halt.TheVariants as halt
use Rattle.s80_machine.specs.declared.machine.Machine.{Machine}
use Rattle.s80_machine.specs.World.{World, Key, Activation, own, home, block, one_tick}
use Rattle.s80_machine.specs.Turn.{Context, is_home, State, Turn, Goes, Stuck, deliver, given, goes_on, message_off, return_from, return_home, stops, ticked}
use Rattle.s80_machine.specs.Shared.{decided}
use Rattle.s80_machine.specs.Turn as turn
use Rattle.s80_machine.specs.Step.{act, copy_turn, jump, special_turn}
use Rattle.s80_machine.specs.Seen.{Does, DoesOne, Given, IsEnded, IsUnwound, Method, below_home, popped, popped_from, topped, topped_in, with_stack}
use Rattle.s80_machine.specs.Came.{Came, Shows, ShowsWorld, Ticks}
use Rattle.s80_machine.specs.Acts.{Acts, left_by}
use Rattle.s80_machine.proofs.CameParts.{ends_so}

-- a machine with other activations
abbrev pub with_contexts : Machine → List Context → Machine
with_contexts m new = record m { contexts = new }

abbrev pub state : List Context → World → State
state contexts w = record { contexts = contexts; world = w }

-- the code is stuck where a part isn't there
pub stuck_fault : {A : Type 0} (o : Option A) (fault : Halt) → ◌≡◌ {A = Result A Halt} (Err fault) (ok_or o halt.Stuck) → o ≡ None → fault ≡ halt.Stuck
stuck_fault o fault told none = let is = told ∙ ap (λ p. ok_or p halt.Stuck) none in cc

module _ (on : Given) where
  -- want of memory meets every promise
  pub by_memory : (turn : Turn) (new : Machine) (fault : Halt) → fault ≡ halt.Memory → Came on turn new (Err fault)
  by_memory turn new fault is = subst (λ f. Came on turn new (Err f)) (sym is) tt

  -- where the step is stuck
  pub by_stuck : (turn : Turn) (new : Machine) (fault : Halt) → turn ≡ Stuck → fault ≡ halt.Stuck → Came on turn new (Err fault)
  by_stuck turn new fault none is = subst (λ t. Came on t new (Err fault)) (sym none) (subst (λ f. Came on Stuck new (Err f)) (sym is) tt)

  module _ (m : Machine) where
    pub same_world : (w : World) (new : List Context) → ShowsWorld on m w → ShowsWorld on (with_contexts m new) w
    same_world w new h = record { objects = h.objects; transcript = h.transcript; ticks = h.ticks; keys = h.keys; given = h.given; variables = h.variables; sites = h.sites }

    pub shows_other : (old new given : List Context) (w : World) → new ≡ given → Shows on m (state old w) → Shows on (with_contexts m new) (state given w)
    shows_other old new given w is h = record { contexts = is; world = same_world w new h.world }

    -- ---- a value for the context that waits

    module _ (c : Context) (rest : List Context) (w : World) (shows : Shows on m (state (c ∷ rest) w)) where
      pub of_active : {A B : Type 0} (seen : B → A) (change : Context → Option (Context × A)) (new : List Context) (r : Result B Halt) → Does seen change m.contexts new r → DoesOne seen (change c) rest new r
      of_active seen change new r h = subst (λ l. Does seen change l new r) shows.contexts h

      -- the active context becomes another
      pub becomes : (to : Context) (change : Context → Option (Context × Unit {0})) (new : List Context) (r : Result (Unit {0}) Halt) → Does (λ done. done) change m.contexts new r → change c ≡ Some (to, tt)
          → Came on (Goes (state (to ∷ rest) w)) (with_contexts m new) r
      becomes to change new r does is = by_result r (subst (λ o. DoesOne (λ done. done) o rest new r) is (of_active (λ done. done) change new r does))
        where
          by_result : (r : Result (Unit {0}) Halt) → DoesOne (λ (done : Unit {0}). done) (Some (to, tt)) rest new r → Came on (Goes (state (to ∷ rest) w)) (with_contexts m new) r
          by_result (Ok done) h = shows_other (c ∷ rest) new (to ∷ rest) w h.1 shows
          by_result (Err fault) h = by_memory (Goes (state (to ∷ rest) w)) (with_contexts m new) fault h

      -- ---- the top of the stack

      pub none_popped : (fault : Halt) (new : List Context) (go : Value → List Value → Turn) (x : Machine) → Does (λ v. v) popped m.contexts new (Err fault) → Came on (turn.popped c.stack go) x (Err fault)
      none_popped fault new go x does = by_stack c.stack (of_active (λ v. v) popped new (Err fault) does)
        where
          by_stack : (stack : List Value) → DoesOne (λ (v : Value). v) (popped_from c stack) rest new (Err fault) → Came on (turn.popped stack go) x (Err fault)
          by_stack [] h = by_stuck Stuck x fault refl cc
          by_stack (v ∷ stack) h = by_memory (go v stack) x fault h

      pub popped_goes : (v : Value) (new : List Context) (go : Value → List Value → Turn) (x : Machine) (r : Result (Unit {0}) Halt) → Does (λ v. v) popped m.contexts new (Ok v)
          → ((stack : List Value) → Shows on (with_contexts m new) (state (with_stack c stack ∷ rest) w) → Came on (go v stack) x r) → Came on (turn.popped c.stack go) x r
      popped_goes v new go x r does goes = by_stack c.stack (of_active (λ v. v) popped new (Ok v) does)
        where
          by_stack : (stack : List Value) → DoesOne (λ (v : Value). v) (popped_from c stack) rest new (Ok v) → Came on (turn.popped stack go) x r
          by_stack [] h = cc
          by_stack (u ∷ stack) h = subst (λ y. Came on (go y stack) x r) h.0 (goes stack (shows_other (c ∷ rest) new (with_stack c stack ∷ rest) w h.1 shows))

      pub none_topped : (fault : Halt) (new : List Context) (go : Value → List Value → Turn) (x : Machine) → Does (λ v. v) topped m.contexts new (Err fault) → Came on (turn.popped c.stack go) x (Err fault)
      none_topped fault new go x does = by_stack c.stack (of_active (λ v. v) topped new (Err fault) does)
        where
          by_stack : (stack : List Value) → DoesOne (λ (v : Value). v) (topped_in c stack) rest new (Err fault) → Came on (turn.popped stack go) x (Err fault)
          by_stack [] h = by_stuck Stuck x fault refl cc
          by_stack (v ∷ stack) h = by_memory (go v stack) x fault h

      pub topped_goes : (v : Value) (new : List Context) (go : Value → List Value → Turn) (x : Machine) (r : Result (Unit {0}) Halt) → Does (λ v. v) topped m.contexts new (Ok v)
          → ((stack : List Value) → Shows on m (state (with_stack c (v ∷ stack) ∷ rest) w) → Came on (go v stack) x r) → Came on (turn.popped c.stack go) x r
      topped_goes v new go x r does goes = by_stack c.stack refl (of_active (λ v. v) topped new (Ok v) does)
        where
          by_stack : (stack : List Value) → c.stack ≡ stack → DoesOne (λ (v : Value). v) (topped_in c stack) rest new (Ok v) → Came on (turn.popped stack go) x r
          by_stack [] is h = cc
          by_stack (u ∷ stack) is h =
              let there : Shows on m (state (with_stack c (v ∷ stack) ∷ rest) w) =
              subst (λ s. Shows on m (state (with_stack c s ∷ rest) w)) (is ∙ ap (λ y. y ∷ stack) (sym h.0)) shows in
              subst (λ y. Came on (go y stack) x r) h.0 (goes stack there)

      -- ---- ends of activations

      pub ended_goes : (new : List Context) → IsEnded m.contexts new (Ok tt) → Shows on (with_contexts m new) (state rest w)
      ended_goes new ended =
          let h : IsEnded (c ∷ rest) new (Ok tt) = subst (λ l. IsEnded l new (Ok tt)) shows.contexts ended in
          shows_other (c ∷ rest) new rest w h.1 shows

      pub none_ended : (fault : Halt) (new : List Context) → IsEnded m.contexts new (Err fault) → ⊥
      none_ended fault new ended = let h : IsEnded (c ∷ rest) new (Err fault) = subst (λ l. IsEnded l new (Err fault)) shows.contexts ended in let is = h.0 in cc

  -- ---- ticks

  module _ (budget : ℕ) (old new : Machine) (contexts : List Context) (w : World) (shows : Shows on old (state contexts w)) where
    pub ticked_shows : Ticks budget old new (Ok tt) → Shows on new (state contexts (one_tick w))
    ticked_shows (within, is) =
        let more : old.ticks + 1 ≡ suc w.ticks = omega (arith, shows.world.ticks) in
        subst (λ m. Shows on m (state contexts (one_tick w))) (sym is)
        (record {
          contexts = shows.contexts;
          world = record {
            objects = shows.world.objects;
            transcript = shows.world.transcript;
            ticks = more;
            keys = shows.world.keys;
            given = shows.world.given;
            variables = shows.world.variables;
            sites = shows.world.sites;
          };
        })

    pub ticked_goes : (go : World → Turn) (x : Machine) (r : Result (Unit {0}) Halt) → Ticks budget old new (Ok tt) → Came on (go (one_tick w)) x r → Came on (ticked budget w go) x r
    ticked_goes go x r (within, is) goes =
        let less : w.ticks < budget = omega (arith, within, shows.world.ticks) in
        let test : nat_lt w.ticks budget ≡ true = grind (arith, nat_tests) in
        subst (λ b. Came on (if b then go (one_tick w) else stops (Budget budget) w) x r) (sym test) goes

    pub none_ticked : (go : World → Turn) (fault : Halt) → Ticks budget old new (Err fault) → Came on (ticked budget w go) new (Err fault)
    none_ticked go fault (past, (same, is)) =
        let most : budget ≤ w.ticks = omega (arith, past, shows.world.ticks) in
        let test : nat_lt w.ticks budget ≡ false = grind (arith, nat_tests) in
        subst (λ b. Came on (if b then go (one_tick w) else stops (Budget budget) w) new (Err fault)) (sym test)
        (ends_so on (Stopped (Budget budget)) w new fault is (subst (λ m. ShowsWorld on m w) (sym same) shows.world))

  -- ---- returns

  home_left : (h : ℕ) (v : Value) (contexts : List Context) (w : World) (left : List Context) → below_home h contexts ≡ Some left → return_home h v contexts w ≡ deliver v left w
  home_left h v [] w left e = cc
  home_left h v (c ∷ contexts) w left e = by_test (is_home h c) (home_left h v contexts w left) e
    where
      by_test : (b : Bool) → (below_home h contexts ≡ Some left → return_home h v contexts w ≡ deliver v left w) → (if b then Some contexts else below_home h contexts) ≡ Some left → (if b then deliver v contexts w else return_home h v contexts w) ≡ deliver v left w
      by_test true later e = let same : contexts ≡ left = cc in ap (λ l. deliver v l w) same
      by_test false later e = later e

  home_not_left : (h : ℕ) (v : Value) (contexts : List Context) (w : World) → below_home h contexts ≡ None → return_home h v contexts w ≡ stops CannotReturn w
  home_not_left h v [] w e = refl
  home_not_left h v (c ∷ contexts) w e = by_test (is_home h c) (home_not_left h v contexts w) e
    where
      by_test : (b : Bool) → (below_home h contexts ≡ None → return_home h v contexts w ≡ stops CannotReturn w) → (if b then Some contexts else below_home h contexts) ≡ None → (if b then deliver v contexts w else return_home h v contexts w) ≡ stops CannotReturn w
      by_test true later e = cc
      by_test false later e = later e

  left_is : (f : Activation) (v : Value) (rest : List Context) (w : World) (left : List Context) → left_by f rest ≡ Some left → return_from f v rest w ≡ deliver v left w
  left_is (own temporaries) v rest w left e = let same : rest ≡ left = cc in ap (λ l. deliver v l w) same
  left_is (home h) v rest w left e = let same : rest ≡ left = cc in ap (λ l. deliver v l w) same
  left_is (block b h) v rest w left e = home_left h v rest w left e

  none_left : (f : Activation) (v : Value) (rest : List Context) (w : World) → left_by f rest ≡ None → return_from f v rest w ≡ stops CannotReturn w
  none_left (own temporaries) v rest w e = cc
  none_left (home h) v rest w e = cc
  none_left (block b h) v rest w e = home_not_left h v rest w e

  module _ (m : Machine) (c : Context) (rest : List Context) (w : World) (shows : Shows on m (state (c ∷ rest) w)) (v : Value) (new : List Context) where
    pub none_unwound : (fault : Halt) → IsUnwound (left_by c.activation rest) m.contexts new (Err fault) → Came on (return_from c.activation v rest w) (with_contexts m new) (Err fault)
    none_unwound fault unwound = by_left (left_by c.activation rest) refl unwound
      where
        by_left : (o : Option (List Context)) → left_by c.activation rest ≡ o → IsUnwound o m.contexts new (Err fault) → Came on (return_from c.activation v rest w) (with_contexts m new) (Err fault)
        by_left None e h =
            subst (λ t. Came on t (with_contexts m new) (Err fault)) (sym (none_left c.activation v rest w e))
            (ends_so on (Stopped CannotReturn) w (with_contexts m new) fault h.0 (same_world m w new shows.world))
        by_left (Some left) e h = let is = h.0 in cc

    pub unwound_goes : (x : Machine) (r : Result (Unit {0}) Halt) → IsUnwound (left_by c.activation rest) m.contexts new (Ok tt)
        → ((left : List Context) → Shows on (with_contexts m new) (state left w) → Came on (deliver v left w) x r) → Came on (return_from c.activation v rest w) x r
    unwound_goes x r unwound goes = by_left (left_by c.activation rest) refl unwound
      where
        by_left : (o : Option (List Context)) → left_by c.activation rest ≡ o → IsUnwound o m.contexts new (Ok tt) → Came on (return_from c.activation v rest w) x r
        by_left None e h = absurd h
        by_left (Some left) e h = subst (λ t. Came on t x r) (sym (left_is c.activation v rest w left e)) (goes left (shows_other m (c ∷ rest) new left w h.1 shows))

  -- ---- a part that may be there

  module _ {A : Type 0} (go : A → Turn) (new : Machine) where
    pub none_given : (o : Option A) (fault : Halt) → o ≡ None → fault ≡ halt.Stuck → Came on (given o go) new (Err fault)
    none_given o fault none is = by_stuck (given o go) new fault (ap (λ p. given p go) none) is

    pub given_goes : (o : Option A) (a : A) (r : Result (Unit {0}) Halt) → o ≡ Some a → Came on (go a) new r → Came on (given o go) new r
    given_goes o a r is came = subst (λ p. Came on (given p go) new r) (sym is) came

    -- the same as the code asks for it
    pub none_there : (o wanted : Option A) (fault : Halt) → ◌≡◌ {A = Result A Halt} (Err fault) (ok_or o halt.Stuck) → o ≡ None → o ≡ wanted → Came on (given wanted go) new (Err fault)
    none_there o wanted fault told none is = none_given wanted fault (sym is ∙ none) (stuck_fault o fault told none)

  -- ---- jumps

  module _ (code : Code) (distance : ℤ) (c : Context) (next : ℕ) (rest : List Context) (w : World) (new : Machine) (r : Result (Unit {0}) Halt) where
    abbrev pub acts : Instruction → Turn
    acts = act on.table on.methods on.code on.budget code c next rest w

    abbrev pub jumps : List Value → World → Turn
    jumps stack = jump on.table on.methods on.code on.budget distance c next stack rest

    pub goes_back : is_negative distance ≡ true → Came on (ticked on.budget w (jumps c.stack)) new r → Came on (acts (Jump distance)) new r
    goes_back is came = subst (λ b. Came on (if b then ticked on.budget w (jumps c.stack) else jumps c.stack w) new r) (sym is) came

    pub goes_forth : is_negative distance ≡ false → Came on (jumps c.stack w) new r → Came on (acts (Jump distance)) new r
    goes_forth is came = subst (λ b. Came on (if b then ticked on.budget w (jumps c.stack) else jumps c.stack w) new r) (sym is) came

    -- what a decision comes to
    abbrev pub decides : Bool → Value → List Value → Turn
    decides wanted v stack = decided v (if wanted then jumps stack w else goes_on c next stack rest w) (if wanted then goes_on c next stack rest w else jumps stack w) (stops NonBoolean w)

    pub by_wanted : (wanted : Bool) → Came on (turn.popped c.stack (decides wanted)) new r → Came on (acts (if wanted then JumpOnTrue distance else JumpOnFalse distance)) new r
    by_wanted true came = came
    by_wanted false came = came

    decided_as : (v : Value) (t : Bool) (a b n : Turn) → Some t ≡ decided v (Some true) (Some false) None → decided v a b n ≡ (if t then a else b)
    decided_as True t a b n e = sym (ap (λ x. if x then a else b) (value e))
    decided_as False t a b n e = sym (ap (λ x. if x then a else b) (value e))
    decided_as _ t a b n e = cc

    pub decided_jumps : (wanted t : Bool) (v : Value) (stack : List Value) → Some t ≡ decided v (Some true) (Some false) None → beq t wanted ≡ true → Came on (jumps stack w) new r → Came on (decides wanted v stack) new r
    decided_jumps wanted t v stack e same came =
        subst (λ x. Came on x new r) (sym (decided_as v t (if wanted then jumps stack w else goes_on c next stack rest w) (if wanted then goes_on c next stack rest w else jumps stack w) (stops NonBoolean w) e)) (both t wanted same)
      where
        both : (t wanted : Bool) → beq t wanted ≡ true → Came on (if t then (if wanted then jumps stack w else goes_on c next stack rest w) else (if wanted then goes_on c next stack rest w else jumps stack w)) new r
        both true true same = came
        both true false same = cc
        both false true same = cc
        both false false same = came

  -- ---- which instruction, and which method

  pub acts_as : (code : Code) (next : ℕ) (i j : Instruction) (old new : Machine) (r : Result (Unit {0}) Halt) → i ≡ j → Acts on code next j old new r → Acts on code next i old new r
  acts_as code next i j old new r is acts = λ c rest w shows. subst (λ k. Came on (act on.table on.methods on.code on.budget code c next rest w k) new r) (sym is) (acts c rest w shows)

  pub key_there : (m : Machine) (w : World) (n : ℕ) → ShowsWorld on m w → IsSome (slice_get m.methods n) → (key : Key) × (slice_get w.keys n ≡ Some key)
  key_there m w n shows some = by_method (slice_get m.methods n) refl some
    where
      by_method : (o : Option Method) → slice_get m.methods n ≡ o → IsSome o → (key : Key) × (slice_get w.keys n ≡ Some key)
      by_method None e h = cc
      by_method (Some x) e h =
          (x.key, ap (λ keys. slice_get keys n) (sym shows.keys) ∙ slice_get-map (λ (x : Method). x.key) m.methods n ∙ ap (option_map (λ (x : Method). x.key)) e)

  -- ---- messages that have bytes of their own

  module _ (code : Code) (n next : ℕ) (c : Context) (rest : List Context) (w : World) (new : Machine) (r : Result (Unit {0}) Halt) where
    abbrev copies : Turn
    copies = copy_turn on.table on.methods on.code on.budget c next rest w c.stack

    abbrev sends : Turn
    sends = message_off (get_or special_arguments n 0) [] c.stack (special_turn on.table on.methods on.code on.budget n c next rest w)

    pub short_copies : n ≡ block_copy → Came on (copy_turn on.table on.methods on.code on.budget c next rest w c.stack) new r → Came on (act on.table on.methods on.code on.budget code c next rest w (SendSpecial n)) new r
    short_copies is came = let test : (n == block_copy) ≡ true = grind (arith, nat_tests) in subst (λ b. Came on (if b then copies else sends) new r) (sym test) came

    pub short_sends : n ≢ block_copy → Came on (message_off (get_or special_arguments n 0) [] c.stack (special_turn on.table on.methods on.code on.budget n c next rest w)) new r
        → Came on (act on.table on.methods on.code on.budget code c next rest w (SendSpecial n)) new r
    short_sends differs came = let test : (n == block_copy) ≡ false = grind (arith, nat_tests) in subst (λ b. Came on (if b then copies else sends) new r) (sym test) came
