-- Messages: ticks, the message on the stack, answers, and the numbers of methods.
use Rattle.std.proofs.Common.{◌≡◌, ◌∙◌, ap, sym, subst, refl, ℕ, zero, suc, ◌+◌, ◌<◌, ◌≤◌, ◌||◌, not, cond, List, [], ◌∷◌, ◌++◌, map, length, slice_get, nat_lt, All, Option, Some, None, Result, Ok, Err, Bool, true, false, arith, if◌then◌else◌}
use Rattle.std.specs.List.{list_any, position_or_len}
use Rattle.std.specs.Option.{ok_or, option_map}
use Rattle.std.proofs.lemmas.Bool.Decides.{nat_tests}
use Rattle.std.proofs.lemmas.List.Elements.{All-cons, All-head, All-nil, All-push, All-tail}
use Rattle.s80_class.specs.Table.{Table}
use Rattle.s80_code.specs.declared.code.Code.{Code}
use Rattle.s80_code.proofs.lemmas.TableLemmas.{value}
use Rattle.s80_object.specs.Literal.{added_once}
use Rattle.s80_object.specs.Objects.{State as Objects}
use Rattle.s80_object.specs.declared.value.Value.{Value}
use Rattle.s80_prims.specs.Known.{IsKnown}
use Rattle.s80_prims.specs.declared.stop.End.TheVariants.{Stopped}
use Rattle.s80_prims.specs.declared.stop.Stop.TheVariants.{Budget, Deep}
use Rattle.s80_machine.specs.declared.halt.Halt.{Halt}
use Rattle.s80_machine.specs.declared.halt.Halt.TheVariants as halt
use Rattle.s80_machine.specs.declared.machine.Machine.{Machine}
use Rattle.s80_machine.specs.World.{World, Key, same_key, number_in, numbered, one_tick}
use Rattle.s80_machine.specs.Turn.{Context, State, Turn, Stuck, deeper, given, goes_on, message_off, stops, ticked}
use Rattle.s80_machine.specs.Shared.{depth_limit}
use Rattle.s80_machine.specs.Step.{code_for}
use Rattle.s80_machine.specs.Seen.{Does, DoesOne, Given, Method, Numbers, is_method, message_in, message_taken, pushed, with_stack}
use Rattle.s80_machine.specs.Came.{Came, ChecksDepth, IsGiven, Shows, ShowsWorld, Ticks, TopIsKnown, at_place, left_at}
use Rattle.s80_machine.specs.Messages.{ReceiverIsKnown}
use Rattle.s80_machine.proofs.CameParts.{ends_so}
use Rattle.s80_machine.proofs.lemmas.SoundLists.{keys_same, numbered_there}
use Rattle.s80_machine.proofs.KeptSites.{site_stays}

-- activations that are alive, in a world
abbrev pub alive : List Context → World → State
alive contexts w = record { contexts = contexts; world = w }

abbrev pub itself : Unit {0} → Unit {0}
itself done = done

-- a part that isn't there
pub missing : {T : Type 0} (o : Option T) (h : Halt) (r : Result T Halt) → r ≡ Err h → r ≡ ok_or o halt.Stuck → o ≡ None → h ≡ halt.Stuck
missing None h r is from none = cc
missing (Some x) h r is from none = cc

-- ---- the active context

pub active_is : (on : Given) (m : Machine) (c : Context) (rest : List Context) (w : World) (next : ℕ) → Shows on m (at_place c next rest w) → (a : Context) → slice_get m.contexts 0 ≡ Some a → a ≡ record c { place = next }
active_is on m c rest w next shows a is = value (sym is ∙ ap (λ l. slice_get l 0) shows.contexts)

pub active_known : (t : Table) (m : Machine) → ReceiverIsKnown t m → (a : Context) → slice_get m.contexts 0 ≡ Some a → IsKnown t m.objects a.receiver
active_known t m known a is = go m.contexts refl is
  where
    go : (contexts : List Context) → m.contexts ≡ contexts → slice_get contexts 0 ≡ Some a → IsKnown t m.objects a.receiver
    go [] e is = cc
    go (c ∷ rest) e is = subst (λ (c : Context). IsKnown t m.objects c.receiver) (value is) (known c rest e)

-- ---- the world of a machine whose activations alone were changed

pub same_world : (on : Given) (m : Machine) (w : World) (contexts : List Context) → ShowsWorld on m w → ShowsWorld on (record m { contexts = contexts }) w
same_world on m w contexts shows = record {
  objects = shows.objects;
  transcript = shows.transcript;
  ticks = shows.ticks;
  keys = shows.keys;
  given = shows.given;
  variables = shows.variables;
  sites = shows.sites;
}

-- ---- ticks, and how many activations are alive

module _ (on : Given) (m : Machine) (w : World) where
  pub tick_stops : ShowsWorld on m w → (budget : ℕ) (go : World → Turn) (new : Machine) (h : Halt) → Ticks budget m new (Err h) → Came on (ticked budget w go) new (Err h)
  tick_stops shows budget go new h is =
      subst (λ b. Came on (if b then go (one_tick w) else stops (Budget budget) w) new (Err h)) (sym none)
      (ends_so on (Stopped (Budget budget)) w new h is.1.1 (subst (λ m. ShowsWorld on m w) (sym is.1.0) shows))
    where
      past : budget ≤ w.ticks
      past = subst (λ n. budget ≤ n) shows.ticks is.0

      none : nat_lt w.ticks budget ≡ false
      none = grind (arith, nat_tests, past)

  pub tick_shows : (contexts : List Context) (new : Machine) → Shows on m (alive contexts w) → new ≡ record m { ticks = m.ticks + 1 } → Shows on new (alive contexts (one_tick w))
  tick_shows contexts new shows is =
      subst (λ m. Shows on m (alive contexts (one_tick w))) (sym is)
      (record {
        contexts = shows.contexts;
        world = record {
          objects = shows.world.objects;
          transcript = shows.world.transcript;
          ticks = more;
          keys = shows.world.keys;
          given = shows.world.given;
          variables = shows.world.variables;
          sites = shows.world.sites;
        };
      })
    where
      more : m.ticks + 1 ≡ suc w.ticks
      more = omega (arith, shows.world.ticks)

  pub tick_goes : (contexts : List Context) (budget : ℕ) (go : World → Turn) (new end : Machine) (done : Unit {0}) (r : Result (Unit {0}) Halt) → Shows on m (alive contexts w) → Ticks budget m new (Ok done)
      → (Shows on new (alive contexts (one_tick w)) → Came on (go (one_tick w)) end r) → Came on (ticked budget w go) end r
  tick_goes contexts budget go new end done r shows is goes =
      subst (λ b. Came on (if b then go (one_tick w) else stops (Budget budget) w) end r) (sym some) (goes (tick_shows contexts new shows is.1))
    where
      less : w.ticks < budget
      less = subst (λ n. n < budget) shows.world.ticks is.0

      some : nat_lt w.ticks budget ≡ true
      some = grind (arith, nat_tests, less)

  pub too_deep : (contexts : List Context) (go : Turn) (h : Halt) → Shows on m (alive contexts w) → ChecksDepth m.contexts (Err h) → Came on (deeper contexts w go) m (Err h)
  too_deep contexts go h shows is =
      subst (λ b. Came on (if b then go else stops Deep w) m (Err h)) (sym none) (ends_so on (Stopped Deep) w m h is.1 shows.world)
    where
      many : depth_limit ≤ length contexts
      many = subst (λ l. depth_limit ≤ length l) shows.contexts is.0

      none : nat_lt (length contexts) depth_limit ≡ false
      none = grind (arith, nat_tests, many)

  pub goes_deeper : (contexts : List Context) (go : Turn) (end : Machine) (done : Unit {0}) (r : Result (Unit {0}) Halt) → Shows on m (alive contexts w) → ChecksDepth m.contexts (Ok done)
      → Came on go end r → Came on (deeper contexts w go) end r
  goes_deeper contexts go end done r shows is goes = subst (λ b. Came on (if b then go else stops Deep w) end r) (sym some) goes
    where
      few : length contexts < depth_limit
      few = subst (λ l. length l < depth_limit) shows.contexts is

      some : nat_lt (length contexts) depth_limit ≡ true
      some = grind (arith, nat_tests, few)

-- ---- the message on a stack

abbrev Taken : Type 0
Taken = List Value × (Value × List Value)

off_is : (n : ℕ) (arguments stack : List Value) (go : Value → List Value → List Value → Turn) → message_off n arguments stack go ≡ given (message_in n arguments stack) (λ p. go p.1.0 p.1.1 p.0)
off_is zero arguments [] go = refl
off_is zero arguments (r ∷ stack) go = refl
off_is (suc n) arguments [] go = refl
off_is (suc n) arguments (v ∷ stack) go = off_is n (v ∷ arguments) stack go

-- a receiver and arguments that are known
pub record AreTaken (t : Table) (s : Objects) (n : ℕ) (r : Value) (vs : List Value) : Type 0 where
  pub receiver : IsKnown t s r
  pub arguments : All (IsKnown t s) vs
  pub count : length vs ≡ n

module _ (t : Table) (s : Objects) where
  known_in : (n : ℕ) (arguments stack : List Value) (p : Taken) → message_in n arguments stack ≡ Some p → All (IsKnown t s) stack → All (IsKnown t s) arguments → AreTaken t s (n + length arguments) p.1.0 p.1.1
  known_in zero arguments [] p e all known = cc
  known_in zero arguments (r ∷ stack) p e all known =
      let here : AreTaken t s (0 + length arguments) r arguments = record { receiver = All-head (IsKnown t s) r stack all; arguments = known; count = omega arith } in
      subst (λ q. AreTaken t s (0 + length arguments) q.1.0 q.1.1) (value e) here
  known_in (suc n) arguments [] p e all known = cc
  known_in (suc n) arguments (v ∷ stack) p e all known =
      let rest = known_in n (v ∷ arguments) stack p e (All-tail (IsKnown t s) v stack all) (All-cons (IsKnown t s) v arguments (All-head (IsKnown t s) v stack all) known) in
      let same : n + length (v ∷ arguments) ≡ suc n + length arguments = omega arith in
      subst (λ k. AreTaken t s k p.1.0 p.1.1) same rest

module _ {B : Type 0} (seen : B → Value × List Value) (count : ℕ) where
  abbrev off : Context → Option Taken → Option (Context × (Value × List Value))
  off c o = option_map (λ p. (with_stack c p.0, p.1)) o

  none_off : (on : Given) (c : Context) (rest new : List Context) (h : Halt) (end : Machine) (go : Value → List Value → List Value → Turn) (o : Option Taken) → DoesOne seen (off c o) rest new (Err h)
      → Came on (given o (λ p. go p.1.0 p.1.1 p.0)) end (Err h)
  none_off on c rest new h end go None is = let e : h ≡ halt.Stuck = cc in subst (λ h. Came on Stuck end (Err h)) (sym e) tt
  none_off on c rest new h end go (Some p) is = subst (λ h. Came on (go p.1.0 p.1.1 p.0) end (Err h)) (sym is) tt

  one_off : (c : Context) (rest new : List Context) (b : B) (o : Option Taken) → DoesOne seen (off c o) rest new (Ok b) → (stack : List Value) × (o ≡ Some (stack, seen b)) × (new ≡ with_stack c stack ∷ rest)
  one_off c rest new b None is = cc
  one_off c rest new b (Some p) is = (p.0, ap (λ q. Some (p.0, q)) (sym is.0), is.1)

  -- it isn't there
  pub not_taken : (n : ℕ) → count ≡ n → (on : Given) (m end : Machine) (c : Context) (rest : List Context) (w : World) (next : ℕ) (new : List Context) (h : Halt) (go : Value → List Value → List Value → Turn)
      → Shows on m (at_place c next rest w) → Does seen (message_taken count) m.contexts new (Err h) → Came on (message_off n [] c.stack go) end (Err h)
  not_taken n same on m end c rest w next new h go shows is =
      subst (λ turn. Came on turn end (Err h)) (sym (off_is count [] c.stack go) ∙ ap (λ k. message_off k [] c.stack go) same)
      (none_off on (record c { place = next }) rest new h end go (message_in count [] c.stack) (subst (λ l. Does seen (message_taken count) l new (Err h)) shows.contexts is))

  -- it is taken off
  pub taken : (n : ℕ) → count ≡ n → (on : Given) (m end : Machine) (c : Context) (rest : List Context) (w : World) (next : ℕ) (new : List Context) (b : B) (r : Result (Unit {0}) Halt) (go : Value → List Value → List Value → Turn)
      → Shows on m (at_place c next rest w) → Does seen (message_taken count) m.contexts new (Ok b)
      → ((stack : List Value) → Shows on (record m { contexts = new }) (left_at c next stack rest w) → Came on (go (seen b).0 (seen b).1 stack) end r) → Came on (message_off n [] c.stack go) end r
  taken n same on m end c rest w next new b r go shows is goes =
      let one = one_off (record c { place = next }) rest new b (message_in count [] c.stack) (subst (λ l. Does seen (message_taken count) l new (Ok b)) shows.contexts is) in
      subst (λ turn. Came on turn end r) (sym (off_is count [] c.stack go ∙ ap (λ o. given o (λ p. go p.1.0 p.1.1 p.0)) one.1) ∙ ap (λ k. message_off k [] c.stack go) same)
      (goes one.0 (record { contexts = one.2; world = same_world on m w new shows.world }))

  -- and is known
  pub taken_known : (t : Table) (m : Machine) (new : List Context) (b : B) → TopIsKnown t m → Does seen (message_taken count) m.contexts new (Ok b) → AreTaken t m.objects count (seen b).0 (seen b).1
  taken_known t m new b known does = by_contexts m.contexts refl does
    where
      by_contexts : (contexts : List Context) → m.contexts ≡ contexts → Does seen (message_taken count) contexts new (Ok b) → AreTaken t m.objects count (seen b).0 (seen b).1
      by_contexts [] e does = cc
      by_contexts (c ∷ rest) e does =
          let one = one_off c rest new b (message_in count [] c.stack) does in
          let same : count + length {A = Value} [] ≡ count = omega arith in
          subst (λ n. AreTaken t m.objects n (seen b).0 (seen b).1) same
          (known_in t m.objects count [] c.stack (one.0, seen b) one.1 (known.stack c rest e) (All-nil (IsKnown t m.objects)))

-- ---- an answer

pub pushed_came : (on : Given) (m : Machine) (c : Context) (rest : List Context) (w : World) (v : Value) (new : List Context) (r : Result (Unit {0}) Halt) → Shows on m (alive (c ∷ rest) w)
    → Does itself (pushed v) m.contexts new r → Came on (goes_on c c.place (v ∷ c.stack) rest w) (record m { contexts = new }) r
pushed_came on m c rest w v new r shows does = go r (subst (λ l. Does itself (pushed v) l new r) shows.contexts does)
  where
    go : (r : Result (Unit {0}) Halt) → DoesOne itself (pushed v c) rest new r → Came on (goes_on c c.place (v ∷ c.stack) rest w) (record m { contexts = new }) r
    go (Ok done) is = record { contexts = is.1; world = same_world on m w new shows.world }
    go (Err h) is = subst (λ h. Came on (goes_on c c.place (v ∷ c.stack) rest w) (record m { contexts = new }) (Err h)) (sym is) tt

-- ---- methods by their numbers

module _ {X Y : Type 0} (of : X → Y) (test : Y → Bool) where
  mapped_any : (xs : List X) → list_any test (map of xs) ≡ list_any (λ x. test (of x)) xs
  mapped_any [] = refl
  mapped_any (x ∷ xs) = ap (λ b. test (of x) || b) (mapped_any xs)

  mapped_place : (xs : List X) → position_or_len test (map of xs) ≡ position_or_len (λ x. test (of x)) xs
  mapped_place [] = refl
  mapped_place (x ∷ xs) = ap (λ n. cond (not (test (of x))) (1 + n) 0) (mapped_place xs)

  mapped_last : (xs : List X) (x : X) → map of (xs ++ x ∷ []) ≡ map of xs ++ of x ∷ []
  mapped_last [] x = refl
  mapped_last (y ∷ xs) x = ap (λ l. of y ∷ l) (mapped_last xs x)

  mapped_once : (xs : List X) (x : X) → map of (added_once (λ x. test (of x)) x xs) ≡ added_once test (of x) (map of xs)
  mapped_once xs x = by_test (list_any (λ x. test (of x)) xs) ∙ ap (λ (b : Bool). if b then map of xs else map of xs ++ of x ∷ []) (sym (mapped_any xs))
    where
      by_test : (b : Bool) → map of (if b then xs else xs ++ x ∷ []) ≡ (if b then map of xs else map of xs ++ of x ∷ [])
      by_test true = refl
      by_test false = mapped_last xs x

module _ {X : Type 0} (test : X → Bool) (x : X) (is : test x ≡ true) where
  last_place : (xs : List X) → position_or_len test (xs ++ x ∷ []) ≡ position_or_len test xs
  last_place [] = ap (λ b. cond (not b) (1 + 0) 0) is
  last_place (y ∷ xs) = ap (λ n. cond (not (test y)) (1 + n) 0) (last_place xs)

  once_place : (xs : List X) → position_or_len test (added_once test x xs) ≡ position_or_len test xs
  once_place xs = by_test (list_any test xs)
    where
      by_test : (b : Bool) → position_or_len test (if b then xs else xs ++ x ∷ []) ≡ position_or_len test xs
      by_test true = refl
      by_test false = last_place xs

once_all : {X : Type 0} (P : X → Type 0) (test : X → Bool) (x : X) (xs : List X) → All P xs → P x → All P (added_once test x xs)
once_all P test x xs all h = by_test (list_any test xs)
  where
    by_test : (b : Bool) → All P (if b then xs else xs ++ x ∷ [])
    by_test true = all
    by_test false = All-push P xs x all h

-- the activations go on in a world in which a method has a number
pub record IsNumbered (on : Given) (m : Machine) (s : State) (key : Key) (number : ℕ) : Type 0 where
  pub shows : Shows on m (alive s.contexts (numbered s.world key))
  pub there : slice_get (numbered s.world key).keys number ≡ Some key
  pub own : number_in (numbered s.world key) key ≡ number

pub method_numbered : (on : Given) (m : Machine) (s : State) (key : Key) (of : Code) (new : List Method) (number : ℕ) → Shows on m s → code_for on.methods on.code key ≡ Some of → Numbers key of m.methods new number
    → IsNumbered on (record m { methods = new }) s key number
method_numbered on m s key of new number shows is numbers = record {
  shows = record {
    contexts = shows.contexts;
    world = record {
      objects = shows.world.objects;
      transcript = shows.world.transcript;
      ticks = shows.world.ticks;
      keys = ap (map (λ x. x.key)) numbers.added ∙ mapped_once (λ (x : Method). x.key) (same_key key) m.methods (record { key = key; code = of }) ∙ ap (added_once (same_key key) key) shows.world.keys;
      given = subst (All (IsGiven on)) (sym numbers.added) (once_all (IsGiven on) (is_method key) (record { key = key; code = of }) m.methods shows.world.given is);
      variables = shows.world.variables;
      sites = λ n k site e. site_stays on key s.world.keys n k site (shows.world.sites n k site e);
    };
  };
  there = subst (λ n. slice_get (numbered s.world key).keys n ≡ Some key) own (numbered_there s.world key);
  own = own;
}
  where
    own : number_in (numbered s.world key) key ≡ number
    own =
        once_place (same_key key) key (keys_same key) s.world.keys ∙ ap (position_or_len (same_key key)) (sym shows.world.keys) ∙ mapped_place (λ (x : Method). x.key) (same_key key) m.methods
        ∙ sym numbers.is
