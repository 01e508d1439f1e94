-- What a machine comes to by parts of steps: tests, a tick, one more activation and a new object.
use Rattle.std.proofs.Common.{◌≡◌, ap, sym, subst, ◌∙◌, ℕ, ◌+◌, ◌<◌, ◌≤◌, List, Bool, true, false, length, nat_le, nat_lt, Result, Ok, Err, arith, if◌then◌else◌}
use Rattle.std.proofs.lemmas.Bool.Decides.{nat_tests}
use Rattle.s80_object.specs.Body.{BodyTree, cost, words_of, word_limit}
use Rattle.s80_object.specs.Objects.{State as Objects, Makes, with_body}
use Rattle.s80_object.specs.declared.value.ObjectFault.{ObjectFault}
use Rattle.s80_object.specs.declared.value.ObjectFault.TheVariants as fault
use Rattle.s80_object.specs.declared.value.Value.{Value}
use Rattle.s80_prims.specs.declared.stop.End.{End}
use Rattle.s80_prims.specs.declared.stop.End.TheVariants.{Stopped}
use Rattle.s80_prims.specs.declared.stop.Stop.TheVariants.{Budget, Deep, ObjectsFull}
use Rattle.s80_machine.specs.declared.halt.Halt.{Halt}
use Rattle.s80_machine.specs.declared.halt.Halt.TheVariants as halt
use Rattle.s80_machine.specs.declared.machine.Machine.{Machine}
use Rattle.s80_machine.specs.World.{World, one_tick, with_objects}
use Rattle.s80_machine.specs.Turn.{Context, Ends, Turn, deeper, stops, ticked}
use Rattle.s80_machine.specs.Shared.{depth_limit}
use Rattle.s80_machine.specs.Step.{with_room}
use Rattle.s80_machine.specs.Seen.{EndsRun, Given}
use Rattle.s80_machine.specs.Came.{Came, ChecksDepth, IsMade, ShowsWorld, Ticks}

at_most : (a b : ℕ) → a ≤ b → nat_le a b ≡ true
at_most a b h = grind (arith, nat_tests)

too_many : (a b : ℕ) → b < a → nat_le a b ≡ false
too_many a b h = grind (arith, nat_tests)

below : (a b : ℕ) → a < b → nat_lt a b ≡ true
below a b h = grind (arith, nat_tests)

-- what was made after all
pub made_is : (old new : Objects) (b : BodyTree) (made : Result Value ObjectFault) (v : Value) → Makes old b new made → IsMade made (Ok v) → Makes old b new (Ok v)
made_is old new b (Ok u) v makes is = let same : u ≡ v = cc is in subst (λ v. Makes old b new (Ok v)) same makes
made_is old new b (Err fault.Memory) v makes is = absurd (let f : ⊥ = cc is in f)
made_is old new b (Err (fault.Full held)) v makes is = absurd is
made_is old new b (Err fault.Range) v makes is = absurd makes
made_is old new b (Err fault.Kind) v makes is = absurd makes

module _ (on : Given) where
  -- a run that has ended so, or memory was wanting
  pub ends_so : (end : End) (w : World) (new : Machine) (h : Halt) → EndsRun end h → ShowsWorld on new w → Came on (Ends end w) new (Err h)
  ends_so end w new halt.Memory is shows = tt
  ends_so end w new (halt.Ended told) is shows = (is, shows)
  ends_so end w new halt.Stuck is shows = absurd is

  pub when_true : (b : Bool) (x y : Turn) (new : Machine) (result : Result (Unit {0}) Halt) → b ≡ true → Came on x new result → Came on (if b then x else y) new result
  when_true b x y new result is came = subst (λ (b : Bool). Came on (if b then x else y) new result) (sym is) came

  pub when_false : (b : Bool) (x y : Turn) (new : Machine) (result : Result (Unit {0}) Halt) → b ≡ false → Came on y new result → Came on (if b then x else y) new result
  when_false b x y new result is came = subst (λ (b : Bool). Came on (if b then x else y) new result) (sym is) came

  -- the contexts alone were changed
  pub aside : (m : Machine) (w : World) (contexts : List Context) → ShowsWorld on m w → ShowsWorld on (record m { contexts = contexts }) w
  aside m w contexts shows = record {
    objects = shows.objects;
    transcript = shows.transcript;
    ticks = shows.ticks;
    keys = shows.keys;
    given = shows.given;
    variables = shows.variables;
    sites = shows.sites;
  }

  -- ---- ticks

  module _ (budget : ℕ) (old m : Machine) (w : World) (shows : ShowsWorld on old w) (ticks : Ticks budget old m (Ok tt)) where
    pub ticked_world : ShowsWorld on m (one_tick w)
    ticked_world =
        subst (λ m. ShowsWorld on m (one_tick w)) (sym ticks.1) (record {
          objects = shows.objects;
          transcript = shows.transcript;
          ticks = omega (arith, shows.ticks);
          keys = shows.keys;
          given = shows.given;
          variables = shows.variables;
          sites = shows.sites;
        })

    pub ticked_contexts : m.contexts ≡ old.contexts
    ticked_contexts = ap (λ m. m.contexts) ticks.1

    pub ticked_on : (go : World → Turn) (new : Machine) (result : Result (Unit {0}) Halt) → Came on (go (one_tick w)) new result → Came on (ticked budget w go) new result
    ticked_on go new result came =
        let left : w.ticks < budget = omega (arith, ticks.0, shows.ticks) in
        when_true (nat_lt w.ticks budget) (go (one_tick w)) (stops (Budget budget) w) new result (below w.ticks budget left) came

  -- ---- how many activations are alive

  pub not_deep : (alive : List Context) (w : World) (go : Turn) (new : Machine) (result : Result (Unit {0}) Halt) → ChecksDepth alive (Ok tt) → Came on go new result → Came on (deeper alive w go) new result
  not_deep alive w go new result checks came = when_true (nat_lt (length alive) depth_limit) go (stops Deep w) new result (below (length alive) depth_limit checks) came

  -- ---- objects that are made

  module _ (old : Machine) (w : World) (shows : ShowsWorld on old w) (b : BodyTree) (objects : Objects) (v : Value) (made : Makes old.objects b objects (Ok v)) where
    pub made_world : ShowsWorld on (record old { objects = objects }) (with_objects w (with_body w.objects b))
    made_world = record {
      objects = made.1.0 ∙ ap (λ s. with_body s b) shows.objects;
      transcript = shows.transcript;
      ticks = shows.ticks;
      keys = shows.keys;
      given = shows.given;
      variables = shows.variables;
      sites = shows.sites;
    }

    -- there is room for it
    pub made_goes : (go : World → Turn) → with_room w b go ≡ go (with_objects w (with_body w.objects b))
    made_goes go =
        let room : words_of w.objects.bodies + cost b ≤ word_limit = subst (λ (s : Objects). words_of s.bodies + cost b ≤ word_limit) shows.objects made.1.1 in
        ap (λ (t : Bool). if t then go (with_objects w (with_body w.objects b)) else stops (ObjectsFull (words_of w.objects.bodies)) w) (at_most (words_of w.objects.bodies + cost b) word_limit room)

    pub made_on : (go : World → Turn) (new : Machine) (result : Result (Unit {0}) Halt) → Came on (go (with_objects w (with_body w.objects b))) new result → Came on (with_room w b go) new result
    made_on go new result came = subst (λ (turn : Turn). Came on turn new result) (sym (made_goes go)) came

  -- ---- objects that aren't made

  module _ (old : Machine) (w : World) (shows : ShowsWorld on old w) (b : BodyTree) (objects : Objects) (go : World → Turn) where
    same_world : objects ≡ old.objects → ShowsWorld on (record old { objects = objects }) w
    same_world is = record {
      objects = is ∙ shows.objects;
      transcript = shows.transcript;
      ticks = shows.ticks;
      keys = shows.keys;
      given = shows.given;
      variables = shows.variables;
      sites = shows.sites;
    }

    no_room : (held : ℕ) (h : Halt) → Makes old.objects b objects (Err (fault.Full held)) → EndsRun (Stopped (ObjectsFull held)) h → Came on (with_room w b go) (record old { objects = objects }) (Err h)
    no_room held h makes is =
        let words : words_of old.objects.bodies ≡ words_of w.objects.bodies = ap (λ (s : Objects). words_of s.bodies) shows.objects in
        let full : word_limit < words_of w.objects.bodies + cost b = subst (λ n. word_limit < n + cost b) words makes.1.1 in
        when_false (nat_le (words_of w.objects.bodies + cost b) word_limit) (go (with_objects w (with_body w.objects b))) (stops (ObjectsFull (words_of w.objects.bodies)) w)
        (record old { objects = objects }) (Err h) (too_many (words_of w.objects.bodies + cost b) word_limit full)
        (ends_so (Stopped (ObjectsFull (words_of w.objects.bodies))) w (record old { objects = objects }) h (subst (λ n. EndsRun (Stopped (ObjectsFull n)) h) (makes.1.0 ∙ words) is) (same_world makes.0))

    pub not_made : (made : Result Value ObjectFault) (h : Halt) → Makes old.objects b objects made → IsMade made (Err h) → Came on (with_room w b go) (record old { objects = objects }) (Err h)
    not_made (Ok v) h makes is = absurd (let f : ⊥ = cc is in f)
    not_made (Err fault.Memory) h makes is = let memory : halt.Memory ≡ h = cc is in subst (λ (h : Halt). Came on (with_room w b go) (record old { objects = objects }) (Err h)) memory tt
    not_made (Err (fault.Full held)) h makes is = no_room held h makes is
    not_made (Err fault.Range) h makes is = absurd makes
    not_made (Err fault.Kind) h makes is = absurd makes
