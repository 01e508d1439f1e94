-- What a literal's push comes to, where its value is there.
use Rattle.std.proofs.Common.{◌≡◌, ◌∙◌, ap, ap₂, sym, subst, refl, ℕ, ◌≤◌, nat_le, cond, List, ◌∷◌, true, Option, Some, None, Result, Ok, Err, codes, arith}
use Rattle.std.specs.Option.{option_map_or}
use Rattle.std.proofs.lemmas.Bool.Decides.{nat_tests}
use Rattle.s80_base.specs.Literal.{LiteralTree}
use Rattle.s80_object.specs.Body.{word_limit, words_of}
use Rattle.s80_object.specs.Literal.{Built, PushesLiteral, built, is_object, made_before, noted}
use Rattle.s80_object.specs.Objects.{State as Objects}
use Rattle.s80_object.specs.declared.value.ObjectFault.{ObjectFault}
use Rattle.s80_object.specs.declared.value.ObjectFault.TheVariants as fault
use Rattle.s80_object.specs.declared.value.Value.{Value}
use Rattle.s80_prims.specs.declared.stop.Stop.TheVariants.{ObjectsFull}
use Rattle.s80_machine.specs.declared.halt.Halt.{Halt}
use Rattle.s80_machine.specs.declared.machine.Machine.{Machine}
use Rattle.s80_machine.specs.World.{World, with_objects}
use Rattle.s80_machine.specs.Turn.{Context, Turn, goes_on, stops}
use Rattle.s80_class.specs.Lookup.{number}
use Rattle.s80_machine.specs.Step.{first_pushed, literal_pushed}
use Rattle.s80_machine.specs.Seen.{Does, Given, pushed}
use Rattle.s80_machine.specs.Came.{Came, IsMade, Shows, ShowsWorld, at_place}
use Rattle.s80_machine.proofs.CameStores.{comes_so}

-- ---- a value on top

pub push_comes : (on : Given) (m : Machine) (c : Context) (rest : List Context) (w : World) (next : ℕ) (v : Value) (contexts : List Context) (r : Result (Unit {0}) Halt)
    → m.contexts ≡ record c { place = next } ∷ rest → ShowsWorld on (record m { contexts = contexts }) w → Does (λ (done : Unit {0}). done) (pushed v) m.contexts contexts r
    → Came on (goes_on c next (v ∷ c.stack) rest w) (record m { contexts = contexts }) r
push_comes on m c rest w next v contexts r active shows does = on_top r (subst (λ cs. Does (λ (done : Unit {0}). done) (pushed v) cs contexts r) active does)
  where
    on_top : (r : Result (Unit {0}) Halt) → Does (λ (done : Unit {0}). done) (pushed v) (record c { place = next } ∷ rest) contexts r → Came on (goes_on c next (v ∷ c.stack) rest w) (record m { contexts = contexts }) r
    on_top (Ok done) is = record { contexts = is.1; world = shows }
    on_top (Err h) is = subst (λ h. Came on (goes_on c next (v ∷ c.stack) rest w) (record m { contexts = contexts }) (Err h)) (sym is) tt

-- ---- the value of a literal

module _ (on : Given) (c : Context) (rest : List Context) (w : World) (next k : ℕ) (l : LiteralTree) (objects : Objects) (v : Value) where
  abbrev first : Built
  first = built (number on.table (codes "String")) (number on.table (codes "Array")) l w.objects

  -- it goes on with the value, and with these objects
  abbrev GoesOn : Turn → Type 0
  GoesOn turn = turn ≡ goes_on c next (v ∷ c.stack) rest (with_objects w objects)

  abbrev turn_by : Option Value → Turn
  turn_by o = option_map_or (λ v. goes_on c next (v ∷ c.stack) rest w) o (first_pushed on.table on.methods on.code on.budget c next rest w k l first)

  value_at_first : v ≡ first.1 → objects ≡ noted c.method k (is_object l) first → words_of first.0.bodies ≤ word_limit → GoesOn (turn_by None)
  value_at_first value objects_are room =
      ap (λ b. cond b (goes_on c next (first.1 ∷ c.stack) rest (with_objects w (noted c.method k (is_object l) first))) (stops (ObjectsFull (words_of w.objects.bodies)) w)) within
      ∙ ap₂ (λ x o. goes_on c next (x ∷ c.stack) rest (with_objects w o)) (sym value) (sym objects_are)
    where
      within : nat_le (words_of first.0.bodies) word_limit ≡ true
      within = grind (arith, nat_tests)

  value_by : (o : Option Value) → PushesLiteral o w.objects c.method k (number on.table (codes "String")) (number on.table (codes "Array")) l objects (Ok v) → GoesOn (turn_by o)
  value_by (Some before) is = let same : Ok v ≡ Ok before = is.0 in ap₂ (λ x o. goes_on c next (x ∷ c.stack) rest (with_objects w o)) (cc) (sym is.1)
  value_by None is = value_at_first is.0 is.1.0 is.1.1

  module _ (m : Machine) (shows : Shows on m (at_place c next rest w)) (strings arrays method : ℕ) (string_is : strings ≡ number on.table (codes "String")) (array_is : arrays ≡ number on.table (codes "Array")) (method_is : method ≡ c.method) where
    is_made : (made : Result Value ObjectFault) → IsMade made (Ok v) → made ≡ Ok v
    is_made (Ok x) is = let same : x ≡ v = cc in ap Ok same
    is_made (Err fault.Memory) is = cc
    is_made (Err (fault.Full held)) is = absurd is
    is_made (Err fault.Range) is = cc
    is_made (Err fault.Kind) is = cc

    value_goes : PushesLiteral (made_before method k m.objects) m.objects method k strings arrays l objects (Ok v) → GoesOn (literal_pushed on.table on.methods on.code on.budget c next rest w k l)
    value_goes is =
        value_by (made_before c.method k w.objects)
        (subst (λ s. PushesLiteral (made_before c.method k w.objects) w.objects c.method k s (number on.table (codes "Array")) l objects (Ok v)) string_is
        (subst (λ a. PushesLiteral (made_before c.method k w.objects) w.objects c.method k strings a l objects (Ok v)) array_is
        (subst (λ n. PushesLiteral (made_before n k w.objects) w.objects n k strings arrays l objects (Ok v)) method_is
        (subst (λ o. PushesLiteral (made_before method k o) o method k strings arrays l objects (Ok v)) shows.world.objects is))))

    world_after : (contexts : List Context) → ShowsWorld on (record m { contexts = contexts; objects = objects }) (with_objects w objects)
    world_after contexts = record {
      objects = refl;
      transcript = shows.world.transcript;
      ticks = shows.world.ticks;
      keys = shows.world.keys;
      given = shows.world.given;
      variables = shows.world.variables;
      sites = shows.world.sites;
    }

    pub literal_comes : (made : Result Value ObjectFault) (contexts : List Context) (r : Result (Unit {0}) Halt) → PushesLiteral (made_before method k m.objects) m.objects method k strings arrays l objects made
        → IsMade made (Ok v) → Does (λ (done : Unit {0}). done) (pushed v) m.contexts contexts r
        → Came on (literal_pushed on.table on.methods on.code on.budget c next rest w k l) (record m { contexts = contexts; objects = objects }) r
    literal_comes made contexts r is value does =
        comes_so on _ _ (record m { contexts = contexts; objects = objects }) r
        (value_goes (subst (PushesLiteral (made_before method k m.objects) m.objects method k strings arrays l objects) (is_made made value) is))
        (push_comes on (record m { objects = objects }) c rest (with_objects w objects) next v contexts r shows.contexts (world_after contexts) does)
