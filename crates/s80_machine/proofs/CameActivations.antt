-- What a machine comes to where a method or a block is activated.
use Rattle.std.proofs.Common.{◌≡◌, ◌∙◌, ap, sym, subst, refl, ℕ, zero, suc, ◌-◌, ◌≤◌, List, [], ◌∷◌, ◌++◌, true, false, map, length, replicate, slice_get, Option, Some, None, option_map, option_and_then, Result, Ok, Err, reverse, if◌then◌else◌}
use mathlib.Core.List.{reverse_aux}
use Rattle.std.specs.Option.{MatchOption}
use Rattle.s80_code.specs.declared.code.Code.{Code}
use Rattle.s80_object.specs.Body as body
use Rattle.s80_object.specs.Objects.{State as Objects, Makes, body_at, home_parts_of, with_body}
use Rattle.s80_object.specs.declared.value.ObjectFault.{ObjectFault}
use Rattle.s80_object.specs.declared.value.Value.{Value}
use Rattle.s80_object.specs.declared.value.Value.TheVariants.{Nil, Object}
use Rattle.s80_prims.specs.declared.stop.Stop.TheVariants.{BlockActive}
use Rattle.s80_machine.specs.declared.halt.Halt.{Halt}
use Rattle.s80_machine.specs.declared.machine.Machine.{Machine}
use Rattle.s80_machine.specs.declared.methods.Activated.{Activated}
use Rattle.s80_machine.specs.World.{World, Activation, Key, block, home, number_in, own, with_objects}
use Rattle.s80_machine.specs.Turn.{Context, is_active, State, Turn, Goes, deeper, given, holds_block, pushed_all, stops}
use Rattle.s80_machine.specs.Shared.{Block}
use Rattle.s80_machine.specs.Step.{at_home, block_started, code_for, started, with_room}
use Rattle.s80_machine.specs.Seen.{Given, IsActivated, Method}
use Rattle.s80_machine.specs.Came.{Came, IsGiven, IsMade, ShowsWorld}
use Rattle.s80_machine.proofs.lemmas.SoundLists.{all_got}
use Rattle.s80_machine.proofs.CameParts.{made_on, made_world, not_made, when_false, when_true}

some_same : {A : Type 0} {x y : A} → Some x ≡ Some y → x ≡ y
some_same e = cc e

-- ---- methods by number

abbrev IsThere : Code → Option Activated → Type 0
IsThere code None = ⊥
IsThere code (Some a) = (a.code.now ≡ code) × (a.holds_block ≡ holds_block code)

keyed : (ms : List Method) (i : ℕ) → slice_get (map (λ x. x.key) ms) i ≡ option_map (λ x. x.key) (slice_get ms i)
keyed [] i = refl
keyed (m ∷ ms) zero = refl
keyed (m ∷ ms) (suc i) = keyed ms i

module _ (on : Given) (old : Machine) (w : World) (shows : ShowsWorld on old w) (method : ℕ) (key : Key) (code : Code) (at : slice_get w.keys method ≡ Some key) (is : code_for on.methods on.code key ≡ Some code) where
  key_at : option_map (λ x. x.key) (slice_get old.methods method) ≡ Some key
  key_at = sym (keyed old.methods method) ∙ ap (λ keys. slice_get keys method) shows.keys ∙ at

  method_there : (r : Option Activated) → MatchOption r (slice_get old.methods method ≡ None) (IsActivated (slice_get old.methods method)) → IsThere code r
  method_there r found = by_place (slice_get old.methods method) refl r found
    where
      by_place : (o : Option Method) → slice_get old.methods method ≡ o → (r : Option Activated) → MatchOption r (o ≡ None) (IsActivated o) → IsThere code r
      by_place None e r h = absurd (let none : None ≡ Some key = sym (ap (λ o. option_map (λ x. x.key) o) e) ∙ key_at in let f : ⊥ = cc none in f)
      by_place (Some m) e None h = absurd (let f : ⊥ = cc h in f)
      by_place (Some m) e (Some a) h =
          let key_is : m.key ≡ key = some_same (sym (ap (λ o. option_map (λ x. x.key) o) e) ∙ key_at) in
          let given : code_for on.methods on.code m.key ≡ Some m.code = all_got (IsGiven on) old.methods method m shows.given e in
          let same : a.code.now ≡ code = h.0 ∙ some_same (sym given ∙ ap (code_for on.methods on.code) key_is ∙ is) in
          (same, h.1.holds ∙ ap holds_block same)

  -- the method of this number has its code
  pub method_found : (r : Option Activated) → MatchOption r (slice_get old.methods method ≡ None) (IsActivated (slice_get old.methods method)) → (a : Activated) → r ≡ Some a
      → (a.code.now ≡ code) × (a.holds_block ≡ holds_block code)
  method_found r found a there = subst (IsThere code) there (method_there r found)

-- ---- activations of methods

-- the arguments, and nil for each further temporary of a code
abbrev pub temporaries_of : Code → List Value → List Value
temporaries_of code arguments = arguments ++ replicate (code.temporaries - length arguments) Nil

-- a home for the same arguments and the same code
pub same_home : (old new : Objects) (method : ℕ) (r : Value) (made : Result Value ObjectFault) (xs ys : List Value) (of code : Code) → xs ≡ ys → of ≡ code
    → (length xs ≤ of.temporaries → Makes old (body.home method r (temporaries_of of xs)) new made) → length ys ≤ code.temporaries → Makes old (body.home method r (temporaries_of code ys)) new made
same_home old new method r made xs ys of code same is makes =
    subst (λ (zs : List Value). length zs ≤ code.temporaries → Makes old (body.home method r (temporaries_of code zs)) new made) same
    (subst (λ (of : Code). length xs ≤ of.temporaries → Makes old (body.home method r (temporaries_of of xs)) new made) is makes)

module _ (on : Given) (s : State) (key : Key) (code : Code) (r : Value) (temporaries : List Value) (method : ℕ) (number : number_in s.world key ≡ method) where
  abbrev start : Turn
  start = started on.table on.methods on.code on.budget key code r temporaries s.contexts s.world

  abbrev begun : ℕ → Activation → List Value → World → Turn
  begun n activation stack w = Goes (record { contexts = record { method = n; receiver = r; activation = activation; place = 0; stack = stack } ∷ s.contexts; world = w })

  abbrev alone : ℕ → Turn
  alone n = begun n (own temporaries) [] s.world

  abbrev in_home : ℕ → Turn
  in_home n = with_room s.world (body.home n r temporaries) (begun n (home (length s.world.objects.bodies)) [])

  -- its temporaries are its own
  pub begun_alone : holds_block code ≡ false → (ts stack : List Value) → ts ≡ temporaries → stack ≡ [] → (new : Machine) (result : Result (Unit {0}) Halt)
      → Came on (begun method (own ts) (reverse stack) s.world) new result → Came on start new result
  begun_alone none ts stack is empty new result came =
      when_false on (holds_block code) (in_home (number_in s.world key)) (alone (number_in s.world key)) new result none
      (subst (λ n. Came on (alone n) new result) (sym number)
      (subst (λ (ts : List Value). Came on (begun method (own ts) [] s.world) new result) is
      (subst (λ (stack : List Value). Came on (begun method (own ts) (reverse stack) s.world) new result) empty came)))

  -- its home is an object
  module _ (holds : holds_block code ≡ true) (old : Machine) (shows : ShowsWorld on old s.world) (objects : Objects) (v : Value) (makes : Makes old.objects (body.home method r temporaries) objects (Ok v)) where
    abbrev pub with_home : World
    with_home = with_objects s.world (with_body s.world.objects (body.home method r temporaries))

    pub home_shown : ShowsWorld on (record old { objects = objects }) with_home
    home_shown = made_world on old s.world shows (body.home method r temporaries) objects v makes

    pub begun_in_home : (h : ℕ) → v ≡ Object h → (stack : List Value) → stack ≡ [] → (new : Machine) (result : Result (Unit {0}) Halt)
        → Came on (begun method (home h) (reverse stack) with_home) new result → Came on start new result
    begun_in_home h is stack empty new result came =
        let same : Object h ≡ Object (length s.world.objects.bodies) = sym is ∙ makes.0 ∙ ap (λ (s : Objects). Object (length s.bodies)) shows.objects in
        let place : h ≡ length s.world.objects.bodies = cc same in
        when_true on (holds_block code) (in_home (number_in s.world key)) (alone (number_in s.world key)) new result holds
        (subst (λ n. Came on (in_home n) new result) (sym number)
        (made_on on old s.world shows (body.home method r temporaries) objects v makes (begun method (home (length s.world.objects.bodies)) []) new result
        (subst (λ n. Came on (begun method (home n) [] with_home) new result) place
        (subst (λ (stack : List Value). Came on (begun method (home h) (reverse stack) with_home) new result) empty came))))

  -- its home isn't made
  pub home_missing : holds_block code ≡ true → (old : Machine) → ShowsWorld on old s.world → (objects : Objects) (made : Result Value ObjectFault) (h : Halt) → Makes old.objects (body.home method r temporaries) objects made
      → IsMade made (Err h) → Came on start (record old { objects = objects }) (Err h)
  home_missing holds old shows objects made h makes is =
      let new : Machine = record old { objects = objects } in
      when_true on (holds_block code) (in_home (number_in s.world key)) (alone (number_in s.world key)) new (Err h) holds
      (subst (λ n. Came on (in_home n) new (Err h)) (sym number)
      (not_made on old s.world shows (body.home method r temporaries) objects (begun method (home (length s.world.objects.bodies)) []) made h makes is))

-- ---- activations of blocks

onto : (xs ys : List Value) → reverse_aux xs ys ≡ pushed_all xs ys
onto [] ys = refl
onto (x ∷ xs) ys = onto xs (x ∷ ys)

module _ (on : Given) (b : Block) (arguments : List Value) (below : List Context) where
  abbrev pub in_its_home : World → Turn
  in_its_home w = at_home on.table on.methods on.code on.budget b arguments below w b.home

  -- what comes behind the tick
  abbrev pub if_idle : World → Turn
  if_idle w = if is_active b.object below then stops BlockActive w else deeper below w (in_its_home w)

module _ (on : Given) (b : Block) (arguments : List Value) (below : List Context) (w : World) where
  pub not_active : is_active b.object below ≡ false → (new : Machine) (result : Result (Unit {0}) Halt) → Came on (deeper below w (in_its_home on b arguments below w)) new result
      → Came on (if_idle on b arguments below w) new result
  not_active is new result came = when_false on (is_active b.object below) (stops BlockActive w) (deeper below w (in_its_home on b arguments below w)) new result is came

  pub block_begun : (h method : ℕ) (r : Value) → b.home ≡ Object h → option_and_then home_parts_of (body_at w.objects b.home) ≡ Some (method, r) → (new : Machine) (result : Result (Unit {0}) Halt)
      → Came on (Goes (record { contexts = record { method = method; receiver = r; activation = block b.object h; place = b.start; stack = reverse arguments } ∷ below; world = w })) new result
      → Came on (in_its_home on b arguments below w) new result
  block_begun h method r is parts new result came =
      subst (λ v. Came on (at_home on.table on.methods on.code on.budget b arguments below w v) new result) (sym is)
      (subst (λ (o : Option (ℕ × Value)). Came on (given o (block_started on.table on.methods on.code on.budget b arguments below w h)) new result)
      (sym (ap (λ v. option_and_then home_parts_of (body_at w.objects v)) (sym is) ∙ parts))
      (subst
      (λ (stack : List Value). Came on (Goes (record { contexts = record { method = method; receiver = r; activation = block b.object h; place = b.start; stack = stack } ∷ below; world = w })) new result)
      (onto arguments []) came))
