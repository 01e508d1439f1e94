-- A machine on its way: it shows a sound state that the run comes by.
use Rattle.std.proofs.Common.{◌≡◌, ◌∙◌, ap, sym, subst, refl, ℕ, zero, suc, ◌+◌, ◌*◌, ◌-◌, ◌<◌, ◌≤◌, ◌≢◌, List, [], ◌∷◌, slice_get, Some, Result, Ok, Err, unwrap_or, map, All, arith}
use Rattle.std.specs.Result.{IfOk}
use Rattle.std.proofs.lemmas.Result.{IfOk-weaker}
use Rattle.std.proofs.lemmas.List.Elements.{All-cons, All-nil}
use Rattle.std.specs.List.{position_or_len}
use Rattle.s80_object.specs.Literal.{added_once}
use Rattle.s80_object.specs.Body.{words_of}
use Rattle.s80_object.specs.Objects.{State as Objects}
use Rattle.s80_prims.specs.declared.stop.End.{End}
use Rattle.s80_prims.specs.declared.stop.End.TheVariants.{Answer, Stopped}
use Rattle.s80_prims.specs.declared.stop.Outcome.{Outcome}
use Rattle.s80_machine.specs.declared.halt.Halt.{Halt}
use Rattle.s80_machine.specs.declared.halt.Halt.TheVariants as halt
use Rattle.s80_machine.specs.declared.machine.Machine.{Machine}
use Rattle.s80_machine.specs.World.{World, Key, doit, first_value, first_world, number_in, numbered}
use Rattle.s80_machine.specs.declared.sites.Site.{Site}
use Rattle.s80_machine.specs.Sites.{IsSite, site_in}
use Rattle.s80_machine.specs.Turn.{State, Turn, Goes, Ends, Stuck}
use Rattle.s80_machine.specs.Step.{turn}
use Rattle.s80_machine.specs.Run.{ComesTo, RunsTo, start}
use Rattle.s80_machine.specs.Shared.{outcome_of}
use Rattle.s80_machine.specs.Sound.{IsKnownEnd, IsSound, IsSoundTurn}
use Rattle.s80_machine.specs.Measure.{IsWithin, left_of_all, one_tick_more, steps_left}
use Rattle.s80_machine.specs.Seen.{Given, Method, Numbers, is_method}
use Rattle.s80_machine.specs.Came.{AnswersKnown, Came, EndIsKnown, IsGiven, IsNew, Shows, ShowsWorld}
use Rattle.s80_machine.specs.Stretch.{Reaches}
use Rattle.s80_machine.proofs.CameSteps.{state}

-- what is left of the steps, as a machine tells it
abbrev pub left_in : ℕ → Machine → ℕ
left_in budget m = (budget - m.ticks) * one_tick_more + left_of_all m.contexts

module _ (on : Given) where
  abbrev turn_of : State → Turn
  turn_of = turn on.table on.methods on.code on.budget

  abbrev Comes : Turn → Outcome → Type 0
  Comes = ComesTo on.table on.methods on.code on.budget

  abbrev pub Runs : Outcome → Type 0
  Runs = RunsTo on.table on.methods on.code on.budget

  abbrev Sound : State → Type 0
  Sound = IsSound on.table on.methods on.code

  -- it came to a turn of a sound run
  pub record IsAtTurn (t : Turn) : Type 0 where
    pub sound : IsSoundTurn on.table on.methods on.code t
    pub within : (s : State) → t ≡ Goes s → IsWithin on.budget s
    pub leads : (outcome : Outcome) → Comes t outcome → Runs outcome

  pub record IsOnItsWay (m : Machine) : Type 0 where
    pub state : State
    pub shows : Shows on m state
    pub sound : Sound state
    pub within : IsWithin on.budget state
    pub leads : (outcome : Outcome) → Comes (turn_of state) outcome → Runs outcome

  -- what it comes to at its end
  abbrev pub IsAtEnd : Machine → End → Type 0
  IsAtEnd m end = (w : World) × ShowsWorld on m w × Runs (outcome_of end w) × AnswersKnown on.table (outcome_of end w)

  one_more : (s : State) (outcome : Outcome) → Comes (turn_of s) outcome → Comes (Goes s) outcome
  one_more s outcome (n, is) = (suc n, is)

  module _ (new : Machine) (t : Turn) (at : IsAtTurn t) where
    pub goes_on : Came on t new (Ok tt) → (s : State) × (t ≡ Goes s) × Shows on new s
    goes_on came = by_turn t refl came
      where
        by_turn : (x : Turn) → t ≡ x → Came on x new (Ok tt) → (s : State) × (t ≡ Goes s) × Shows on new s
        by_turn (Goes s) e h = (s, e, h)
        by_turn (Ends end w) e h = absurd h
        by_turn Stuck e h = absurd h

    pub on_its_way : Came on t new (Ok tt) → IsOnItsWay new
    on_its_way came =
        let g = goes_on came in
        let there : IsSoundTurn on.table on.methods on.code (Goes g.0) = subst (IsSoundTurn on.table on.methods on.code) g.1 at.sound in
        record {
          state = g.0;
          shows = g.2;
          sound = there;
          within = at.within g.0 g.1;
          leads = λ outcome comes. at.leads outcome (subst (λ x. Comes x outcome) (sym g.1) (one_more g.0 outcome comes));
        }

    pub never_stuck : (fault : Halt) → Came on t new (Err fault) → fault ≢ halt.Stuck
    never_stuck fault came is = by_turn t at.sound (subst (λ f. Came on t new (Err f)) is came)
      where
        by_turn : (x : Turn) → IsSoundTurn on.table on.methods on.code x → Came on x new (Err halt.Stuck) → ⊥
        by_turn (Goes s) sound h = h
        by_turn (Ends end w) sound h = h
        by_turn Stuck sound h = sound

    known_end : (end : End) (w : World) → IsKnownEnd on.table on.methods on.code w end → EndIsKnown on.table w.objects end
    known_end (Answer v) w h = h
    known_end (Stopped stop) w h = tt

    at_end : (end : End) → Came on t new (Err (halt.Ended end)) → IsAtEnd new end
    at_end end came = by_turn t refl at.sound came
      where
        by_turn : (x : Turn) → t ≡ x → IsSoundTurn on.table on.methods on.code x → Came on x new (Err (halt.Ended end)) → IsAtEnd new end
        by_turn (Goes s) e sound h = absurd h
        by_turn (Ends told w) e sound h =
            subst (IsAtEnd new) (sym h.0)
            (w, h.1, at.leads (outcome_of told w) (subst (λ x. Comes x (outcome_of told w)) (sym e) (0, refl)), record { answer = known_end told w sound.0; objects = sound.1 })
        by_turn Stuck e sound h = absurd sound

    -- what a run's end tells
    pub ends : {Y : Type 0} (result : Result End Y) (fault : Halt) → Came on t new (Err fault) → IfOk result (λ end. fault ≡ halt.Ended end) → IfOk result (IsAtEnd new)
    ends result fault came told = IfOk-weaker result (λ end. fault ≡ halt.Ended end) (IsAtEnd new) (λ end is. at_end end (subst (λ f. Came on t new (Err f)) is came)) told

  -- ---- the laws of steps

  module _ (steps_sound : (s : State) → Sound s → IsSoundTurn on.table on.methods on.code (turn_of s))
      (leaves_less : (s next : State) → Sound s → IsWithin on.budget s → turn_of s ≡ Goes next → IsWithin on.budget next × (steps_left on.budget next < steps_left on.budget s)) where
    pub at_turn : (old : Machine) (way : IsOnItsWay old) → IsAtTurn (turn_of way.state)
    at_turn old way = record {
      sound = steps_sound way.state way.sound;
      within = λ s e. (leaves_less way.state s way.sound way.within e).0;
      leads = way.leads;
    }

    left_is : (m : Machine) (s : State) → Shows on m s → left_in on.budget m ≡ steps_left on.budget s
    left_is m s shows = ap (λ n. (on.budget - n) * one_tick_more + left_of_all m.contexts) shows.world.ticks ∙ ap (λ l. (on.budget - s.world.ticks) * one_tick_more + left_of_all l) shows.contexts

    pub less_left : (old new : Machine) (way : IsOnItsWay old) → Came on (turn_of way.state) new (Ok tt) → left_in on.budget new < left_in on.budget old
    less_left old new way came =
        let g = goes_on new (turn_of way.state) (at_turn old way) came in
        let less = (leaves_less way.state g.0 way.sound way.within g.1).1 in
        omega (arith, less, left_is old way.state way.shows, left_is new g.0 g.2)

    -- ---- some steps on

    record IsFurther (s t : State) : Type 0 where
      sound : Sound t
      within : IsWithin on.budget t
      leads : (outcome : Outcome) → Comes (turn_of t) outcome → Runs outcome
      no_more : steps_left on.budget t ≤ steps_left on.budget s

    reaches_further : (n : ℕ) (s t : State) → Sound s → IsWithin on.budget s → ((outcome : Outcome) → Comes (turn_of s) outcome → Runs outcome) → Reaches on n s t → IsFurther s t
    reaches_further zero s t sound within leads is =
        subst (IsFurther s) (sym is) (record { sound = sound; within = within; leads = leads; no_more = omega arith })
    reaches_further (suc n) s t sound within leads (mid, far, e) =
        let h = reaches_further n s mid sound within leads far in
        let less = leaves_less mid t h.sound h.within e in
        let no_more = h.no_more in
        record {
          sound = subst (IsSoundTurn on.table on.methods on.code) e (steps_sound mid h.sound);
          within = less.0;
          leads = λ outcome comes. h.leads outcome (subst (λ x. Comes x outcome) (sym e) (one_more t outcome comes));
          no_more = omega (arith, less.1, no_more);
        }

    module _ (old new : Machine) (way : IsOnItsWay old) (behind : (t : State) × ((n : ℕ) × Reaches on n way.state t) × Shows on new t) where
      further : IsFurther way.state behind.0
      further = reaches_further behind.1.0 way.state behind.0 way.sound way.within way.leads behind.1.1

      pub still_on_its_way : IsOnItsWay new
      still_on_its_way = record { state = behind.0; shows = behind.2; sound = further.sound; within = further.within; leads = further.leads }

      pub no_more_left : left_in on.budget new ≤ left_in on.budget old
      no_more_left = let no_more = further.no_more in omega (arith, no_more, left_is old way.state way.shows, left_is new behind.0 behind.2)

  -- ---- the beginning

  pub begins : IsSoundTurn on.table on.methods on.code (start on.table on.methods on.code on.budget)
      → ((s : State) → start on.table on.methods on.code on.budget ≡ Goes s → IsWithin on.budget s) → IsAtTurn (start on.table on.methods on.code on.budget)
  begins sound within = record { sound = sound; within = within; leads = λ outcome comes. comes }

  no_site : (m : Machine) → IsNew m → (keys : List Key) (n k : ℕ) (site : Site) → site_in m.sites n k ≡ Some site → IsSite on keys n k site
  no_site m new keys n k site e = let none = sym (new.sites n k) ∙ e in cc

  pub shows_first : (m : Machine) → IsNew m → Shows on m (state [] (first_world on.table))
  shows_first m new = record {
    contexts = new.contexts;
    world = record {
      objects = new.objects;
      transcript = new.transcript;
      ticks = new.ticks;
      keys = ap (map (λ x. x.key)) new.methods;
      given = subst (All (IsGiven on)) (sym new.methods) (All-nil (IsGiven on));
      variables = λ v. ap (λ o. unwrap_or o (first_value on.table v)) (new.variables v);
      sites = no_site m new [];
    };
  }

  module _ (m : Machine) (methods : List Method) (number : ℕ) (new : IsNew m) (numbers : Numbers doit on.code m.methods methods number) where
    first : List Method
    first = record { key = doit; code = on.code } ∷ []

    added : methods ≡ record { key = doit; code = on.code } ∷ []
    added = numbers.added ∙ ap (added_once (is_method doit) (record { key = doit; code = on.code })) new.methods

    number_is : number ≡ 0
    number_is = numbers.is ∙ ap (position_or_len (is_method doit)) new.methods

    -- the doIt has its number, and nothing else was done
    pub shows_doit : Shows on (record m { methods = methods }) (state [] (numbered (first_world on.table) doit))
    shows_doit =
        let none = shows_first m new in
        record {
          contexts = none.contexts;
          world = record {
            objects = none.world.objects;
            transcript = none.world.transcript;
            ticks = none.world.ticks;
            keys = ap (map (λ (x : Method). x.key)) added;
            given = subst (All (IsGiven on)) (sym added) (All-cons (IsGiven on) (record { key = doit; code = on.code }) [] refl (All-nil (IsGiven on)));
            variables = none.world.variables;
            sites = no_site m new (doit ∷ []);
          };
        }

    pub doit_there : slice_get (numbered (first_world on.table) doit).keys number ≡ Some doit
    doit_there = ap (slice_get (numbered (first_world on.table) doit).keys) number_is

    pub doit_number : number_in (numbered (first_world on.table) doit) doit ≡ number
    doit_number = sym number_is

  -- ---- the outcome

  pub outcome_is : (m : Machine) (w : World) (end : End) (words : ℕ) → ShowsWorld on m w → words ≡ words_of m.objects.bodies
      → outcome_of end w ≡ record { end = end; transcript = m.transcript; ticks = m.ticks; words = words; objects = m.objects }
  outcome_is m w end words shows is =
      let all : words_of w.objects.bodies ≡ words = ap (λ (s : Objects). words_of s.bodies) (sym shows.objects) ∙ sym is in
      λ i. record { end = end; transcript = sym shows.transcript i; ticks = sym shows.ticks i; words = all i; objects = sym shows.objects i }
