-- What an evaluation comes to under other numbers of the classes, and the parts that evaluations are made of.
use Rattle.std.proofs.Common.{◌≡◌, ◌∙◌, ◌+◌, ◌==◌, ℕ, Bool, true, false, sym, ap, subst, List, length, map, Option, Some, None, nat_le, nat_lt, if◌then◌else◌}
use Rattle.std.specs.Option.{option_map, option_map_or}
use Rattle.std.proofs.lemmas.List.{length-map}
use Rattle.s80_object.specs.Body.{BodyTree, cost, words_of, word_limit}
use Rattle.s80_object.specs.Objects.{with_body}
use Rattle.s80_object.specs.declared.value.Value.{Value}
use Rattle.s80_object.specs.declared.value.Value.TheVariants as value
use Rattle.s80_prims.specs.declared.stop.Stop.{Stop}
use Rattle.s80_prims.specs.declared.stop.Stop.TheVariants.{Budget, NonBoolean, CannotReturn, Deep, ObjectsFull}
use Rattle.s80_machine.specs.World.{World, Variable, Activation, own, home, one_tick, with_objects}
use Rattle.s80_machine.specs.World as world
use Rattle.s80_machine.specs.Shared.{decided, depth_limit}
use Rattle.s80_meaning.specs.Meaning.{Out, Gives, Answers, Returns, Stopped, Unfinished, and_then, awaited, chosen, deeper, ends_home, is_alive, returned, ticked, with_part, with_room}
use Rattle.s80_meaning.proofs.RenamedObjects.{cost_renamed, renamed, renamed_body, with_body_renamed, words_renamed}
use Rattle.s80_meaning.proofs.RenamedWorld.{AreRenamed, PairAlike, WorldAlike, alive_same, renamed_activation, renamed_world}

module _ (r : ℕ → ℕ) where
  -- the same under the other numbers
  pub data Alike {A : Type 0} (over : A → A) : Out A → Out A → Type 0 where
    gives : (v : A) (w : World) (f : Activation) (vs : Variable → Value) → AreRenamed r w.variables vs → Alike over (Gives v w f) (Gives (over v) (renamed_world r w vs) (renamed_activation r f))
    answers : (v : Value) (w : World) (vs : Variable → Value) → AreRenamed r w.variables vs → Alike over (Answers v w) (Answers (renamed r v) (renamed_world r w vs))
    returns : (h : ℕ) (v : Value) (w : World) (vs : Variable → Value) → AreRenamed r w.variables vs → Alike over (Returns h v w) (Returns h (renamed r v) (renamed_world r w vs))
    stopped : (stop : Stop) (w : World) (vs : Variable → Value) → AreRenamed r w.variables vs → Alike over (Stopped stop w) (Stopped stop (renamed_world r w vs))
    unfinished : Alike over Unfinished Unfinished

  -- what goes on alike from a value
  abbrev pub GoesAlike : {A B : Type 0} (over : A → A) (overs : B → B) → (A → World → Activation → Out B) → (A → World → Activation → Out B) → Type 0
  GoesAlike {A = A} over overs go goes =
      (v : A) (w : World) (f : Activation) (vs : Variable → Value) → AreRenamed r w.variables vs → Alike overs (go v w f) (goes (over v) (renamed_world r w vs) (renamed_activation r f))

  pub then_alike : {A B : Type 0} (over : A → A) (overs : B → B) (go goes : A → World → Activation → Out B) (o p : Out A) → GoesAlike over overs go goes → Alike over o p → Alike overs (and_then o go) (and_then p goes)
  then_alike over overs go goes o p on (gives v w f vs k) = on v w f vs k
  then_alike over overs go goes o p on (answers v w vs k) = answers v w vs k
  then_alike over overs go goes o p on (returns h v w vs k) = returns h v w vs k
  then_alike over overs go goes o p on (stopped stop w vs k) = stopped stop w vs k
  then_alike over overs go goes o p on unfinished = unfinished

  pub part_alike : {A B : Type 0} (over : A → A) (overs : B → B) (go goes : A → Out B) (o p : Option A) → p ≡ option_map over o → ((a : A) → Alike overs (go a) (goes (over a))) → Alike overs (with_part o go) (with_part p goes)
  part_alike over overs go goes o p e h = subst (λ q. Alike overs (with_part o go) (with_part q goes)) (sym e) (of o)
    where
      of : (o : Option _) → Alike overs (with_part o go) (with_part (option_map over o) goes)
      of None = unfinished
      of (Some a) = h a

  pub same_part_alike : {A B : Type 0} (overs : B → B) (go goes : A → Out B) (o p : Option A) → p ≡ o → ((a : A) → Alike overs (go a) (goes a)) → Alike overs (with_part o go) (with_part p goes)
  same_part_alike overs go goes o p e h = subst (λ q. Alike overs (with_part o go) (with_part q goes)) (sym e) (of o)
    where
      of : (o : Option _) → Alike overs (with_part o go) (with_part o goes)
      of None = unfinished
      of (Some a) = h a

  pub world_alike : {B : Type 0} (overs : B → B) (go goes : World → Out B) (o p : Option World) → WorldAlike r o p
      → ((w : World) (vs : Variable → Value) → AreRenamed r w.variables vs → Alike overs (go w) (goes (renamed_world r w vs))) → Alike overs (with_part o go) (with_part p goes)
  world_alike overs go goes None p h on = subst (λ q. Alike overs Unfinished (with_part q goes)) (sym h) unfinished
  world_alike overs go goes (Some w) p h on = subst (λ q. Alike overs (go w) (with_part q goes)) (sym h.2) (on w h.0 h.1)

  pub pair_alike : {B : Type 0} (overs : B → B) (go goes : World × Activation → Out B) (o p : Option (World × Activation)) → PairAlike r o p
      → ((w : World) (f : Activation) (vs : Variable → Value) → AreRenamed r w.variables vs → Alike overs (go (w, f)) (goes (renamed_world r w vs, renamed_activation r f)))
      → Alike overs (with_part o go) (with_part p goes)
  pair_alike overs go goes None p h on = subst (λ q. Alike overs Unfinished (with_part q goes)) (sym h) unfinished
  pair_alike overs go goes (Some q) p h on = subst (λ q1. Alike overs (go q) (with_part q1 goes)) (sym h.2) (on q.0 q.1 h.0 h.1)

  -- a part that is the same, or else something that goes on alike
  pub or_alike : {A B : Type 0} (over : A → A) (overs : B → B) (go goes : A → Out B) (o p : Option A) (none nones : Out B) → p ≡ option_map over o → ((a : A) → Alike overs (go a) (goes (over a)))
      → Alike overs none nones → Alike overs (option_map_or go o none) (option_map_or goes p nones)
  or_alike over overs go goes o p none nones e h g = subst (λ q. Alike overs (option_map_or go o none) (option_map_or goes q nones)) (sym e) (of o)
    where
      of : (o : Option _) → Alike overs (option_map_or go o none) (option_map_or goes (option_map over o) nones)
      of None = g
      of (Some a) = h a

  pub if_alike : {A : Type 0} (over : A → A) (test : Bool) (a b c d : Out A) → Alike over a c → Alike over b d → Alike over (if test then a else b) (if test then c else d)
  if_alike over true a b c d h g = h
  if_alike over false a b c d h g = g

  -- ---- ticks, depth and room

  pub ticked_alike : {A : Type 0} (over : A → A) (budget : ℕ) (w : World) (vs : Variable → Value) (go goes : World → Out A) → AreRenamed r w.variables vs
      → Alike over (go (one_tick w)) (goes (renamed_world r (one_tick w) vs)) → Alike over (ticked budget w go) (ticked budget (renamed_world r w vs) goes)
  ticked_alike over budget w vs go goes k h =
      if_alike over (nat_lt w.ticks budget) (go (one_tick w)) (Stopped (Budget budget) w) (goes (renamed_world r (one_tick w) vs)) (Stopped (Budget budget) (renamed_world r w vs)) h (stopped (Budget budget) w vs k)

  pub deeper_alike : {A : Type 0} (over : A → A) (alive : List Activation) (w : World) (vs : Variable → Value) (o p : Out A) → AreRenamed r w.variables vs → Alike over o p
      → Alike over (deeper alive w o) (deeper (map (renamed_activation r) alive) (renamed_world r w vs) p)
  deeper_alike over alive w vs o p k h =
      subst (λ n. Alike over (deeper alive w o) (if nat_lt n depth_limit then p else Stopped Deep (renamed_world r w vs))) (sym (length-map alive (renamed_activation r)))
      (if_alike over (nat_lt (length alive) depth_limit) o (Stopped Deep w) p (Stopped Deep (renamed_world r w vs)) h (stopped Deep w vs k))

  abbrev roomed : {A : Type 0} → World → ℕ → ℕ → Out A → Out A
  roomed w n size go = if nat_le (n + size) word_limit then go else Stopped (ObjectsFull n) w

  pub room_alike : {A : Type 0} (over : A → A) (w : World) (vs : Variable → Value) (b : BodyTree) (go goes : World → Out A) → AreRenamed r w.variables vs
      → Alike over (go (with_objects w (with_body w.objects b))) (goes (renamed_world r (with_objects w (with_body w.objects b)) vs))
      → Alike over (with_room w b go) (with_room (renamed_world r w vs) (renamed_body r b) goes)
  room_alike over w vs b go goes k h =
      let other : World = renamed_world r w vs in
      let made : World = with_objects w (with_body w.objects b) in
      let n : ℕ = words_of w.objects.bodies in
      let is : roomed other (words_of other.objects.bodies) (cost (renamed_body r b)) (goes (with_objects other (with_body other.objects (renamed_body r b)))) ≡ roomed other n (cost b) (goes (renamed_world r made vs)) =
      ap (λ s. roomed other (words_of other.objects.bodies) (cost (renamed_body r b)) (goes (with_objects other s))) (sym (with_body_renamed r w.objects b))
      ∙ ap (λ m. roomed other m (cost (renamed_body r b)) (goes (renamed_world r made vs))) (words_renamed r w.objects.bodies)
      ∙ ap (λ m. roomed other n m (goes (renamed_world r made vs))) (cost_renamed r b) in
      subst (Alike over (with_room w b go)) (sym is)
      (if_alike over (nat_le (n + cost b) word_limit) (go made) (Stopped (ObjectsFull n) w) (goes (renamed_world r made vs)) (Stopped (ObjectsFull n) other) h (stopped (ObjectsFull n) w vs k))

  -- ---- ends of activations

  ends_home_alike : (f : Activation) (h : ℕ) (v : Value) (w : World) (vs : Variable → Value) (mine : Option ℕ) → AreRenamed r w.variables vs
      → Alike (renamed r) (ends_home f h v w mine) (ends_home (renamed_activation r f) h (renamed r v) (renamed_world r w vs) mine)
  ends_home_alike f h v w vs None k = returns h v w vs k
  ends_home_alike f h v w vs (Some own_home) k =
      if_alike (renamed r) (h == own_home) (Gives v w f) (Returns h v w) (Gives (renamed r v) (renamed_world r w vs) (renamed_activation r f)) (Returns h (renamed r v) (renamed_world r w vs))
      (gives v w f vs k) (returns h v w vs k)

  pub awaited_alike : (f : Activation) (mine : Option ℕ) (o p : Out Value) → Alike (renamed r) o p → Alike (renamed r) (awaited f mine o) (awaited (renamed_activation r f) mine p)
  awaited_alike f mine o p (gives v w g vs k) = unfinished
  awaited_alike f mine o p (answers v w vs k) = gives v w f vs k
  awaited_alike f mine o p (returns h v w vs k) = ends_home_alike f h v w vs mine k
  awaited_alike f mine o p (stopped stop w vs k) = stopped stop w vs k
  awaited_alike f mine o p unfinished = unfinished

  pub returned_alike : (f : Activation) (alive : List Activation) (v : Value) (w : World) (vs : Variable → Value) → AreRenamed r w.variables vs
      → Alike (renamed r) (returned f alive v w) (returned (renamed_activation r f) (map (renamed_activation r) alive) (renamed r v) (renamed_world r w vs))
  returned_alike (own temporaries) alive v w vs k = answers v w vs k
  returned_alike (home h) alive v w vs k = answers v w vs k
  returned_alike (world.block b h) alive v w vs k =
      subst (λ test. Alike (renamed r) (returned (world.block b h) alive v w) (if test then Returns h (renamed r v) (renamed_world r w vs) else Stopped CannotReturn (renamed_world r w vs))) (sym (alive_same r h alive))
      (if_alike (renamed r) (is_alive h alive) (Returns h v w) (Stopped CannotReturn w) (Returns h (renamed r v) (renamed_world r w vs)) (Stopped CannotReturn (renamed_world r w vs))
      (returns h v w vs k) (stopped CannotReturn w vs k))

  -- ---- choices

  decided_alike : (v : Value) (a b c d : Out Value) (w : World) (vs : Variable → Value) → AreRenamed r w.variables vs → Alike (renamed r) a c → Alike (renamed r) b d
      → Alike (renamed r) (decided v a b (Stopped NonBoolean w)) (decided (renamed r v) c d (Stopped NonBoolean (renamed_world r w vs)))
  decided_alike value.True a b c d w vs k h g = h
  decided_alike value.False a b c d w vs k h g = g
  decided_alike _ a b c d w vs k h g = stopped NonBoolean w vs k

  pub chosen_alike : (on : Bool) (v : Value) (a b c d : Out Value) (w : World) (vs : Variable → Value) → AreRenamed r w.variables vs → Alike (renamed r) a c → Alike (renamed r) b d
      → Alike (renamed r) (chosen on v a b w) (chosen on (renamed r v) c d (renamed_world r w vs))
  chosen_alike true v a b c d w vs k h g = decided_alike v a b c d w vs k h g
  chosen_alike false v a b c d w vs k h g = decided_alike v b a d c w vs k g h
