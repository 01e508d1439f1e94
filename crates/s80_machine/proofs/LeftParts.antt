-- What is left after a turn: less than before, where the turn goes on.
use Rattle.std.proofs.Common.{◌≡◌, ◌∙◌, ap, refl, ℕ, zero, suc, ◌+◌, ◌-◌, ◌*◌, ◌<◌, ◌≤◌, List, [], ◌∷◌, length, nat_le, Bool, true, false, Option, Some, None, arith, ltb-true}
use Rattle.std.specs.Prelude.{if◌then◌else◌}
use Rattle.std.specs.Option.{option_map_or}
use Rattle.std.proofs.Math.Nat.{suc-mul}
use Rattle.std.proofs.lemmas.List.Sums.{sum_by-cons}
use Rattle.s80_object.specs.Body.{BodyTree, cost, words_of, word_limit}
use Rattle.s80_object.specs.Objects.{with_body}
use Rattle.s80_object.specs.declared.value.Value.{Value}
use Rattle.s80_prims.specs.declared.stop.Stop.TheVariants.{ObjectsFull}
use Rattle.s80_machine.specs.World.{World, Activation, own, home, block, one_tick, with_objects}
use Rattle.s80_machine.specs.Turn.{Context, is_home, Turn, Goes, Ends, Stuck, deeper, deliver, given, message_off, popped, return_from, return_home, stops, ticked}
use Rattle.s80_machine.specs.Shared.{depth_limit}
use Rattle.s80_machine.specs.Step.{with_room}
use Rattle.s80_machine.specs.Measure.{left_of, left_of_all, one_tick_more, steps_left}

-- ---- numbers

pub left_at_most : (contexts : List Context) → left_of_all contexts ≤ length contexts * 1024
left_at_most [] = omega arith
left_at_most (c ∷ rest) = let h = left_at_most rest in omega (arith, h, sum_by-cons left_of c rest)

pub one_more : (b t k : ℕ) → t < b → (b - t) * k ≡ (b - suc t) * k + k
one_more b t k l =
    let e : b - t ≡ suc (b - suc t) = omega arith in
    ap (λ n. n * k) e ∙ suc-mul (b - suc t) k

-- a tick pays for all that may be left
pub pays : (b t d y : ℕ) → t < b → (b - suc t) * (d + 1) + d < (b - t) * (d + 1) + y
pays b t d y l = let e = one_more b t (d + 1) l in omega (arith, e)

pub pays_again : (b t d y : ℕ) → t < b → (b - t) * (d + 1) + d < y → (b - suc t) * (d + 1) + d < y
pays_again b t d y l h = let e = one_more b t (d + 1) l in omega (arith, e, h)

pub spends : (b t d n x y : ℕ) → n ≤ d → x ≤ n * 1024 → (b - t) * (d * 1024 + 1) + d * 1024 < y → (b - t) * (d * 1024 + 1) + x < y
spends b t d n x y l few h = omega (arith, l, few, h)

-- ---- turns

-- where it goes on, there are no more activations and ticks than there may be, and less is left than this
abbrev pub Lowers : ℕ → ℕ → Turn → Type 0
Lowers budget most (Goes s) = (length s.contexts ≤ depth_limit) × ((s.world.ticks ≤ budget) × (steps_left budget s < most))
Lowers budget most (Ends end w) = Unit {0}
Lowers budget most Stuck = Unit {0}

-- so many ticks leave less whatever is alive
abbrev pub IsPaid : ℕ → ℕ → ℕ → Type 0
IsPaid budget most ticks = (ticks ≤ budget) × ((budget - ticks) * one_tick_more + depth_limit * 1024 < most)

-- one tick more does
abbrev pub Pays : ℕ → ℕ → ℕ → Type 0
Pays budget most ticks = ticks < budget → IsPaid budget most (suc ticks)

pub paid : (budget : ℕ) (contexts : List Context) (w : World) → Pays budget (steps_left budget (record { contexts = contexts; world = w })) w.ticks
paid budget contexts w l = (omega arith, pays budget w.ticks (depth_limit * 1024) (left_of_all contexts) l)

pub paid_again : (budget most ticks : ℕ) → IsPaid budget most ticks → Pays budget most ticks
paid_again budget most ticks p l = (omega arith, pays_again budget ticks (depth_limit * 1024) most l p.1)

module _ (budget most : ℕ) where
  pub spent : (contexts : List Context) (w : World) → IsPaid budget most w.ticks → length contexts ≤ depth_limit
      → Lowers budget most (Goes (record { contexts = contexts; world = w }))
  spent contexts w p h = (h, (p.0, spends budget w.ticks depth_limit (length contexts) (left_of_all contexts) most h (left_at_most contexts) p.1))

  pub one_above : (c : Context) (below : List Context) (w : World) → IsPaid budget most w.ticks → length below < depth_limit
      → Lowers budget most (Goes (record { contexts = c ∷ below; world = w }))
  one_above c below w p l = spent (c ∷ below) w p (omega (arith, l))

  pub by_map_or : {A : Type 0} (o : Option A) (go : A → Turn) (otherwise : Turn) → ((a : A) → Lowers budget most (go a)) → Lowers budget most otherwise
      → Lowers budget most (option_map_or go o otherwise)
  by_map_or None go otherwise h k = k
  by_map_or (Some a) go otherwise h k = h a

  pub by_given : {A : Type 0} (o : Option A) (go : A → Turn) → ((a : A) → Lowers budget most (go a)) → Lowers budget most (given o go)
  by_given o go h = by_map_or o go Stuck h tt

  pub by_popped : (stack : List Value) (go : Value → List Value → Turn) → ((v : Value) (below : List Value) → Lowers budget most (go v below)) → Lowers budget most (popped stack go)
  by_popped [] go h = tt
  by_popped (v ∷ stack) go h = h v stack

  pub by_message : (n : ℕ) (arguments stack : List Value) (go : Value → List Value → List Value → Turn)
      → ((r : Value) (arguments below : List Value) → Lowers budget most (go r arguments below)) → Lowers budget most (message_off n arguments stack go)
  by_message zero arguments [] go h = tt
  by_message zero arguments (r ∷ stack) go h = h r arguments stack
  by_message (suc n) arguments [] go h = tt
  by_message (suc n) arguments (v ∷ stack) go h = by_message n (v ∷ arguments) stack go h

  pub by_test : (b : Bool) (x y : Turn) → Lowers budget most x → Lowers budget most y → Lowers budget most (if b then x else y)
  by_test true x y h k = h
  by_test false x y h k = k

  pub by_known : (b : Bool) (x y : Turn) → (b ≡ true → Lowers budget most x) → Lowers budget most y → Lowers budget most (if b then x else y)
  by_known true x y h k = h refl
  by_known false x y h k = k

  pub by_tick : (w : World) (go : World → Turn) → (w.ticks < budget → Lowers budget most (go (one_tick w))) → Lowers budget most (ticked budget w go)
  by_tick w go h = by_known _ _ _ (λ e. h (ltb-true w.ticks budget e)) tt

  pub by_depth : (alive : List Context) (w : World) (go : Turn) → (length alive < depth_limit → Lowers budget most go) → Lowers budget most (deeper alive w go)
  by_depth alive w go h = by_known _ _ _ (λ e. h (ltb-true (length alive) depth_limit e)) tt

  pub by_room : (w : World) (b : BodyTree) (go : World → Turn) → Lowers budget most (go (with_objects w (with_body w.objects b))) → Lowers budget most (with_room w b go)
  by_room w b go h =
      by_test (nat_le (words_of w.objects.bodies + cost b) word_limit) (go (with_objects w (with_body w.objects b))) (stops (ObjectsFull (words_of w.objects.bodies)) w) h tt

  -- ---- returns

  pub by_delivery : (v : Value) (below : List Context) (w : World) → Lowers budget most (Goes (record { contexts = below; world = w })) → Lowers budget most (deliver v below w)
  by_delivery v [] w h = tt
  by_delivery v (c ∷ rest) w h = h

  pub by_less : (c : Context) (rest : List Context) (w : World) → Lowers budget most (Goes (record { contexts = c ∷ rest; world = w }))
      → Lowers budget most (Goes (record { contexts = rest; world = w }))
  by_less c rest w h = (omega (arith, h.0), (h.1.0, omega (arith, h.1.1, sum_by-cons left_of c rest)))

  pub by_home : (h : ℕ) (v : Value) (rest : List Context) (w : World) → Lowers budget most (Goes (record { contexts = rest; world = w })) → Lowers budget most (return_home h v rest w)
  by_home h v [] w l = tt
  by_home h v (c ∷ rest) w l =
      let less = by_less c rest w l in
      by_test (is_home h c) (deliver v rest w) (return_home h v rest w) (by_delivery v rest w less) (by_home h v rest w less)

  pub by_return : (f : Activation) (v : Value) (rest : List Context) (w : World) → Lowers budget most (Goes (record { contexts = rest; world = w })) → Lowers budget most (return_from f v rest w)
  by_return (own temporaries) v rest w l = by_delivery v rest w l
  by_return (home h) v rest w l = by_delivery v rest w l
  by_return (block b h) v rest w l = by_home h v rest w l
