-- Stretches of instructions are steps of the machine.
use Rattle.std.proofs.Common.{◌≡◌, ◌∙◌, ap, sym, subst, refl, ℕ, zero, suc, List, [], ◌∷◌, slice_get, Option, Some, None, option_and_then}
use Rattle.std.specs.Option.{option_map}
use Rattle.std.proofs.lemmas.Option.{slice_get-map}
use Rattle.s80_code.specs.declared.code.Code.{Code}
use Rattle.s80_code.specs.declared.instruction.Instruction.{Instruction}
use Rattle.s80_code.proofs.lemmas.TableLemmas.{value}
use Rattle.s80_object.specs.Objects.{State as Objects}
use Rattle.s80_machine.specs.declared.machine.Machine.{Machine}
use Rattle.s80_machine.specs.World.{World, Key}
use Rattle.s80_machine.specs.Turn.{Context, State}
use Rattle.s80_machine.specs.Step.{code_at, code_for, turn_of}
use Rattle.s80_machine.specs.Seen.{Given, Method, listing}
use Rattle.s80_machine.specs.Came.{IsGiven, Shows}
use Rattle.s80_machine.specs.Stretch.{LeadsFar, Local, Reaches, local, state_of, world_of}
use Rattle.s80_machine.proofs.lemmas.SoundLists.{all_got}

module _ (on : Given) (code : Code) (rest : List Context) (w : World) (key : Key) (code_is : code_for on.methods on.code key ≡ Some code) where
  -- the method of an activation stays its method
  method_stays : (n : ℕ) (old new : Local) → LeadsFar on code n old new → new.context.method ≡ old.context.method
  method_stays zero old new is = ap (λ (l : Local). l.context.method) is
  method_stays (suc n) old new (mid, far, leads) = leads.method ∙ method_stays n old mid far

  pub reaches_far : (n : ℕ) (old new : Local) → slice_get w.keys old.context.method ≡ Some key → LeadsFar on code n old new → Reaches on n (state_of old rest w) (state_of new rest w)
  reaches_far zero old new key_is is = ap (λ l. state_of l rest w) is
  reaches_far (suc n) old new key_is (mid, far, leads) =
      let same : code_at on.methods on.code (world_of mid w) mid.context.method ≡ Some code =
      ap (λ number. option_and_then (code_for on.methods on.code) (slice_get w.keys number)) (method_stays n old mid far)
      ∙ ap (option_and_then (code_for on.methods on.code)) key_is ∙ code_is in
      (state_of mid rest w, reaches_far n old mid key_is far, ap (turn_of on.table on.methods on.code on.budget mid.context rest (world_of mid w)) same ∙ leads.step rest w)

-- a machine whose active context went on
abbrev pub gone_on : Machine → List Context → Objects → ℕ → Machine
gone_on m contexts objects ticks = record m { contexts = contexts; objects = objects; ticks = ticks }

module _ (on : Given) (m : Machine) (s : State) (shows : Shows on m s) (contexts : List Context) (objects : Objects) (ticks : ℕ) where
  -- it shows a state that comes some steps behind
  abbrev pub IsBehind : Type 0
  IsBehind = (t : State) × ((n : ℕ) × Reaches on n s t) × Shows on (gone_on m contexts objects ticks) t

  module _ (c : Context) (rest : List Context) (there : m.contexts ≡ c ∷ rest) (x : Method) (is_method : slice_get m.methods c.method ≡ Some x) where
    same : s ≡ state_of (local c m.objects m.ticks) rest s.world
    same = λ i. record { contexts = (sym shows.contexts ∙ there) i; world = record s.world { objects = sym shows.world.objects i; ticks = sym shows.world.ticks i } }

    key_is : slice_get s.world.keys c.method ≡ Some x.key
    key_is = ap (λ keys. slice_get keys c.method) (sym shows.world.keys) ∙ slice_get-map (λ (x : Method). x.key) m.methods c.method ∙ ap (option_map (λ (x : Method). x.key)) is_method

    is_given : code_for on.methods on.code x.key ≡ Some x.code
    is_given = all_got (IsGiven on) m.methods c.method x shows.world.given is_method

    behind : (new : Context) → contexts ≡ new ∷ rest → (n : ℕ) → LeadsFar on x.code n (local c m.objects m.ticks) (local new objects ticks) → IsBehind
    behind new are n far =
        let t = state_of (local new objects ticks) rest s.world in
        let far_on = reaches_far on x.code rest s.world x.key is_given n (local c m.objects m.ticks) (local new objects ticks) key_is far in
        let world = shows.world in (
          t,
          (n, subst (λ z. Reaches on n z t) (sym same) far_on),
          record {
            contexts = are;
            world = record { objects = refl; transcript = world.transcript; ticks = refl; keys = world.keys; given = world.given; variables = world.variables; sites = world.sites };
          },
        )

  -- by what is listed of its method
  pub is_behind : (c : Context) (entries : List (Option (Instruction × ℕ))) → Some c ≡ slice_get m.contexts 0 → Some entries ≡ option_map (λ (x : Method). listing x.code.bytes) (slice_get m.methods c.method)
      → ((code : Code) (rest : List Context) → entries ≡ listing code.bytes → m.contexts ≡ c ∷ rest
      → (new : Context) × (contexts ≡ new ∷ rest) × ((n : ℕ) × LeadsFar on code n (local c m.objects m.ticks) (local new objects ticks)))
      → IsBehind
  is_behind c entries top listed goes = by_contexts m.contexts refl top
    where
      by_method : (rest : List Context) → m.contexts ≡ c ∷ rest → (o : Option Method) → slice_get m.methods c.method ≡ o → Some entries ≡ option_map (λ (x : Method). listing x.code.bytes) o → IsBehind
      by_method rest there None e is = cc
      by_method rest there (Some x) e is = let g = goes x.code rest (value is) there in behind c rest there x e g.0 g.1 g.2.0 g.2.1

      by_contexts : (l : List Context) → m.contexts ≡ l → Some c ≡ slice_get l 0 → IsBehind
      by_contexts [] e first = cc
      by_contexts (d ∷ rest) e first = by_method rest (e ∙ ap (λ k. k ∷ rest) (sym (value first))) (slice_get m.methods c.method) refl listed
