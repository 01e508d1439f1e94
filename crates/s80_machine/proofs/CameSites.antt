-- Messages that went to a method before: what they come to, and how they are noted.
use Rattle.std.proofs.Common.{◌≡◌, ◌∙◌, ap, sym, subst, ℕ, zero, suc, ◌==◌, ◌&&◌, ◌<◌, ◌++◌, refl, List, [], ◌∷◌, Bool, true, false, length, slice_get, Option, Some, None, Result, unwrap_or, if◌then◌else◌}
use Rattle.std.specs.List.{position_or_len}
use Rattle.std.specs.Option.{option_map_or}
use Rattle.std.proofs.lemmas.Option.{slice_get_within}
use Rattle.s80_base.specs.declared.names.Side.{Side}
use Rattle.s80_class.specs.Table.{Table}
use Rattle.s80_code.specs.declared.code.Code.{Code}
use Rattle.s80_code.proofs.lemmas.TableLemmas.{value}
use Rattle.s80_dict.specs.declared.dict.MethodEntry.{MethodEntry}
use Rattle.s80_object.specs.declared.value.Value.{Value}
use Rattle.s80_object.specs.declared.value.Value.TheVariants.{ClassRef, Small}
use Rattle.s80_prims.specs.declared.applied.Applied.TheVariants.{Fails}
use Rattle.s80_prims.specs.Classes.{class_of}
use Rattle.s80_prims.specs.Primitives.{World as ReachedWorld, primitive, two_numbers}
use Rattle.s80_machine.specs.declared.halt.Halt.{Halt}
use Rattle.s80_machine.specs.declared.machine.Machine.{Machine}
use Rattle.s80_machine.specs.declared.sites.Site.{Site}
use Rattle.s80_machine.specs.declared.sites.Sites.{Sites}
use Rattle.s80_machine.specs.declared.sites.Target.{Target}
use Rattle.s80_machine.specs.declared.sites.Target.TheVariants.{Numbered}
use Rattle.s80_machine.specs.World.{World, Key, method, same_key, changed, number_in, numbered, reached}
use Rattle.s80_machine.specs.Turn.{Context, State, Turn}
use Rattle.s80_class.specs.Lookup.{Found, Place, places_up, IsFound}
use Rattle.s80_machine.specs.Shared.{block_with, does_not_understand}
use Rattle.s80_machine.specs.Step.{block_activated, by_effect, by_primitive, code_for, found_turn, method_turn, places_of, selector_at}
use Rattle.s80_machine.specs.Seen.{Given, Method, FoundCode}
use Rattle.s80_machine.specs.Came.{Came, Shows, at_place, places, sends}
use Rattle.s80_machine.specs.Messages.{TopSends, activates, finds, runs}
use Rattle.s80_machine.specs.Sites.{IsLiteralOf, IsNoted, IsNumberFound, IsSentAt, IsSite, IsTarget, site_in}
use Rattle.s80_machine.proofs.lemmas.SoundLists.{both_true, found_there, keys_same, same_keys, same_number}
use Rattle.s80_machine.proofs.KeptSites.{any_got, any_within, sent_stays}
use Rattle.s80_machine.proofs.CameSends.{IsNumbered, alive}
use Rattle.s80_machine.proofs.CameMethods.{found_code}

-- ---- a method without a primitive

zero_fails : (t : Table) (r : Value) (arguments : List Value) (w : ReachedWorld) → (primitive t 0 r arguments w).applied ≡ Fails
zero_fails t r [] w = refl
zero_fails t r (a ∷ []) w = of_two r a
  where
    of_two : (r a : Value) → (two_numbers 0 w r a).applied ≡ Fails
    of_two (Small m) (Small n) = refl
    of_two _ _ = refl
zero_fails t r (a ∷ b ∷ []) w = refl
zero_fails t r (a ∷ b ∷ c ∷ rest) w = refl

module _ (on : Given) (sent : Option Turn) (key : Key) (code : Code) (r : Value) (arguments : List Value) (below : List Context) (w : World) where
  abbrev run : Turn
  run = activates on key code r arguments below w

  abbrev of_number : ℕ → Turn
  of_number n =
      if n == 81
      then option_map_or (λ b. block_activated on.table on.methods on.code on.budget b arguments below w) (block_with w.objects r (length arguments)) run
      else (if n == 83 then unwrap_or sent run else by_primitive on.table on.methods on.code on.budget n r arguments run below w)

  plain_turn : code.primitive ≡ 0 → method_turn on.table on.methods on.code on.budget sent key code r arguments below w ≡ run
  plain_turn plain =
      ap of_number plain
      ∙ ap (λ a. by_effect on.table on.methods on.code on.budget a (changed w (primitive on.table 0 r arguments (reached w)).world) run below w) (zero_fails on.table r arguments (reached w))

module _ (on : Given) (sent : World → Option Turn) (at : List Place) (selector : List ℕ) (r : Value) (arguments : List Value) (below : List Context) (w : World) (new : Machine) (result : Result (Unit {0}) Halt) where
  abbrev Activates : Key → Code → Type 0
  Activates key code = Came on (activates on key code r arguments below w) new result

  abbrev Runs : Type 0
  Runs = Came on (runs on sent at selector r arguments below w) new result

  -- it is activated at once
  pub plain_runs : (f : Found (MethodEntry Code)) → finds on selector at ≡ Some f → f.entry.code.primitive ≡ 0 → Activates (method f.class f.side selector) f.entry.code → Runs
  plain_runs f is plain came =
      subst (λ o. Came on (found_turn on.table on.methods on.code on.budget o (finds on does_not_understand at) sent selector r arguments below w) new result) (sym is)
      (subst (λ turn. Came on turn new result) (sym (plain_turn on (sent w) (method f.class f.side selector) f.entry.code r arguments below w plain)) came)

  pub plain_code_runs : (g : FoundCode) → IsFound (finds on selector at) (Some g) → g.entry.now.code.primitive ≡ 0 → Activates (method g.class g.side selector) g.entry.now.code → Runs
  plain_code_runs g found plain came =
      found_code on sent at selector r arguments below w new result g found
      (subst (λ turn. Came on turn new result) (sym (plain_turn on (sent w) (method g.class g.side selector) g.entry.now.code r arguments below w plain)) came)

-- ---- a message that went somewhere before

-- it finds the method of this number, which has no primitive
pub record IsHit (on : Given) (w : World) (selector : List ℕ) (at : List Place) (number : ℕ) : Type 0 where
  pub found : Found (MethodEntry Code)
  pub is : finds on selector at ≡ Some found
  pub plain : found.entry.code.primitive ≡ 0
  pub there : slice_get w.keys number ≡ Some (method found.class found.side selector)
  pub own : number_in w (method found.class found.side selector) ≡ number

same_literal : (on : Given) (keys : List Key) (m k : ℕ) (selector other : List ℕ) → IsLiteralOf on keys m k selector → IsLiteralOf on keys m k other → selector ≡ other
same_literal on keys m k selector other one two =
    let key : one.key ≡ two.key = value (sym one.key_is ∙ two.key_is) in
    let code : one.code ≡ two.code = value (sym one.code_is ∙ ap (code_for on.methods on.code) key ∙ two.code_is) in
    value (sym one.selector_is ∙ ap (λ (c : Code). selector_at on.table on.methods on.code on.budget c k) code ∙ two.selector_is)

key_there : (key : Key) (keys : List Key) (n : ℕ) → position_or_len (same_key key) keys ≡ n → n < length keys → slice_get keys n ≡ Some key
key_there key keys n is within =
    let there = found_there (same_key key) keys (any_within (same_key key) keys (subst (λ n. n < length keys) (sym is) within)) in
    ap (slice_get keys) (sym is) ∙ there.1 ∙ ap (λ k. Some k) (sym (same_keys key there.0 there.2))

pub hits : (on : Given) (w : World) (selector : List ℕ) (at : List Place) (n : ℕ) → IsNumberFound on w.keys selector at n → IsHit on w selector at n
hits on w selector at n is = record {
  found = is.found;
  is = is.finds;
  plain = is.plain;
  there = key_there (method is.found.class is.found.side selector) w.keys n is.number is.there;
  own = is.number;
}

same_sent : (on : Given) (keys : List Key) (m k : ℕ) (selector other : List ℕ) → IsSentAt on keys m k selector → IsSentAt on keys m k other → selector ≡ other
same_sent on keys zero k selector other one two = value (sym one ∙ two)
same_sent on keys (suc m) k selector other one two = same_literal on keys m k selector other one two

-- what is noted is where this message goes
pub noted_goes : (on : Given) (keys : List Key) (m k : ℕ) (selector : List ℕ) (site : Site) → IsSentAt on keys m k selector → IsSite on keys m k site → IsTarget on keys selector (places_up on.table site.class site.side) site.target
noted_goes on keys m k selector site sends is =
    subst (λ s. IsTarget on keys s (places_up on.table site.class site.side) site.target) (same_sent on keys m k is.selector selector is.sent sends) is.goes

-- what has a number isn't added again
pub is_numbered : (w : World) (key : Key) (n : ℕ) → slice_get w.keys n ≡ Some key → numbered w key ≡ w
is_numbered w key n there = ap (λ (b : Bool). record w { keys = if b then w.keys else w.keys ++ key ∷ [] }) (any_got (same_key key) w.keys n key there (keys_same key))

-- ---- a message that is noted

number_found : (on : Given) (keys : List Key) (selector : List ℕ) (at : List Place) (number : ℕ) (g : FoundCode) → IsFound (finds on selector at) (Some g) → g.entry.now.code.primitive ≡ 0
    → position_or_len (same_key (method g.class g.side selector)) keys ≡ number → number < length keys → IsNumberFound on keys selector at number
number_found on keys selector at number g found plain own there = go (finds on selector at) refl found
  where
    go : (o : Option (Found (MethodEntry Code))) → finds on selector at ≡ o → IsFound o (Some g) → IsNumberFound on keys selector at number
    go None e is = absurd is
    go (Some f) e is = record {
      found = f;
      finds = e;
      plain = ap (λ (e : MethodEntry Code). e.code.primitive) (sym is.2) ∙ plain;
      number = subst (λ s. position_or_len (same_key (method f.class s selector)) keys ≡ number) is.1 (subst (λ c. position_or_len (same_key (method c g.side selector)) keys ≡ number) is.0 own);
      there = there;
    }

shows_noted : (on : Given) (m : Machine) (s : State) (sites : Sites) (n k : ℕ) (site : Site) → Shows on m s → IsNoted m.sites n k site sites → IsSite on s.world.keys n k site → Shows on (record m { sites = sites }) s
shows_noted on m s sites n k site shows noted is = record {
  contexts = shows.contexts;
  world = record {
    objects = shows.world.objects;
    transcript = shows.world.transcript;
    ticks = shows.world.ticks;
    keys = shows.world.keys;
    given = shows.world.given;
    variables = shows.world.variables;
    sites = λ a b found e. by_test a b found (a == n && b == k) refl (sym (noted a b) ∙ e);
  };
}
  where
    by_test : (a b : ℕ) (found : Site) (t : Bool) → (a == n && b == k) ≡ t → (if t then Some site else site_in m.sites a b) ≡ Some found → IsSite on s.world.keys a b found
    by_test a b found true same e =
        let here = both_true (a == n) (b == k) same in
        subst (λ a. IsSite on s.world.keys a b found) (sym (same_number a n here.0))
        (subst (λ b. IsSite on s.world.keys n b found) (sym (same_number b k here.1)) (subst (λ x. IsSite on s.world.keys n k x) (value e) is))
    by_test a b found false other e = shows.world.sites a b found e

-- it goes there, and that is noted
pub target_noted : (on : Given) (m : Machine) (s : State) (sites : Sites) (n k : ℕ) (selector : List ℕ) (class : ℕ) (side : Side) (t : Target) → Shows on m s → IsSentAt on s.world.keys n k selector
    → IsTarget on s.world.keys selector (places_up on.table class side) t → IsNoted m.sites n k (record { class = class; side = side; target = t }) sites → Shows on (record m { sites = sites }) s
target_noted on m s sites n k selector class side t shows sends goes noted =
    shows_noted on m s sites n k (record { class = class; side = side; target = t }) shows noted (record { selector = selector; sent = sends; goes = goes })

-- the method has its number, and that is noted
pub noted_after : (on : Given) (m : Machine) (s : State) (at k : ℕ) (selector : List ℕ) (class : ℕ) (side : Side) (number : ℕ) (g : FoundCode) (methods : List Method) (sites : Sites) → IsSentAt on s.world.keys at k selector
    → IsFound (finds on selector (places_up on.table class side)) (Some g) → g.entry.now.code.primitive ≡ 0 → IsNumbered on (record m { methods = methods }) s (method g.class g.side selector) number
    → IsNoted m.sites at k (record { class = class; side = side; target = Numbered number }) sites
    → Shows on (record m { methods = methods; sites = sites }) (alive s.contexts (numbered s.world (method g.class g.side selector)))
noted_after on m s at k selector class side number g methods sites sends found plain n noted =
    let key : Key = method g.class g.side selector in
    let w : World = numbered s.world key in
    target_noted on (record m { methods = methods }) (alive s.contexts w) sites at k selector class side (Numbered number) n.shows (sent_stays on key s.world.keys at k selector sends)
    (number_found on w.keys selector (places_up on.table class side) number g found plain n.own (slice_get_within w.keys number key n.there)) noted

-- ---- a message of a literal

-- the literal of the active context's code, in the world that is shown
pub literal_at : (on : Given) (m : Machine) (top : Context) (rest : List Context) (w : World) (next k number : ℕ) (selector : List ℕ) → Shows on m (at_place top next rest w) → TopSends on k selector m → number ≡ top.method
    → IsSentAt on w.keys (suc number) k selector
literal_at on m top rest w next k number selector shows sends is =
    subst (λ n. IsLiteralOf on w.keys n k selector) (sym is)
    (subst (λ keys. IsLiteralOf on keys top.method k selector) shows.world.keys (sends (record top { place = next }) rest shows.contexts))

-- from the places of the receiver's class
pub sent_from : (on : Given) (w : World) (class : ℕ) (side : Side) (selector : List ℕ) (r : Value) (arguments : List Value) (below : List Context) (new : Machine) (result : Result (Unit {0}) Halt)
    → class_of on.table w.objects r ≡ ClassRef class side → Came on (sends on (places_up on.table class side) selector r arguments below w) new result → Came on (sends on (places on w r) selector r arguments below w) new result
sent_from on w class side selector r arguments below new result is came =
    subst (λ v. Came on (sends on (places_of on.table on.methods on.code on.budget v) selector r arguments below w) new result) (sym is) came
