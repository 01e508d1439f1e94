-- What pushes and stores come to.
use Rattle.std.proofs.Common.{◌≡◌, ◌∙◌, ap, sym, subst, refl, ℕ, List, ◌∷◌, slice_get, Option, Some, None, Result, Ok, Err}
use Rattle.std.specs.Option.{option_map}
use Rattle.s80_class.specs.Classes.{Name}
use Rattle.s80_class.specs.Table.{IsNumberOf, number_of}
use Rattle.s80_code.proofs.lemmas.TableLemmas.{value}
use Rattle.s80_object.specs.declared.value.Value.{Value}
use Rattle.s80_object.specs.declared.value.Value.TheVariants.{Object}
use Rattle.s80_machine.specs.declared.halt.Halt.{Halt}
use Rattle.s80_machine.specs.declared.halt.Halt.TheVariants as halt
use Rattle.s80_machine.specs.declared.machine.Machine.{Machine}
use Rattle.s80_machine.specs.World.{World, Activation, own, home, block, field_set, home_in, in_activation, with_receiver_variable, with_temporary}
use Rattle.s80_machine.specs.Turn.{Context, waiting, Turn, given, goes_on}
use Rattle.s80_machine.specs.Seen.{Given}
use Rattle.s80_machine.specs.Came.{Came, Stores}
use Rattle.s80_class.proofs.lemmas.Numbers.{has_number, number_names}

-- ---- turns

-- what comes to a turn comes to what the turn is
pub comes_so : (on : Given) (turn as_well : Turn) (new : Machine) (r : Result (Unit {0}) Halt) → turn ≡ as_well → Came on as_well new r → Came on turn new r
comes_so on turn as_well new r is came = subst (λ t. Came on t new r) (sym is) came

pub given_mapped : {A B : Type 0} (f : A → B) (o : Option A) (go : B → Turn) → given (option_map f o) go ≡ given o (λ a. go (f a))
given_mapped f None go = refl
given_mapped f (Some a) go = refl

-- ---- the active context

pub active_is : (contexts rest : List Context) (c active : Context) → contexts ≡ c ∷ rest → Some active ≡ slice_get contexts 0 → active ≡ c
active_is contexts rest c active is there = value (there ∙ ap (λ cs. slice_get cs 0) is)

-- ---- a world that was changed

module _ (on : Given) (c : Context) (next : ℕ) (stack : List Value) (rest : List Context) (old new : Machine) (active : old.contexts ≡ waiting c next stack ∷ rest) where
  pub stored_comes : (o : Option World) (r : Result (Unit {0}) Halt) → Stores on o old new r → Came on (given o (goes_on c next stack rest)) new r
  stored_comes (Some w) (Ok done) stores = record { contexts = stores.0 ∙ active; world = stores.1 }
  stored_comes None (Ok done) stores = stores
  stored_comes o (Err halt.Memory) stores = tt
  stored_comes (Some w) (Err (halt.Ended end)) stores = stores
  stored_comes None (Err (halt.Ended end)) stores = stores
  stored_comes (Some w) (Err halt.Stuck) stores = stores
  stored_comes None (Err halt.Stuck) stores = tt

  -- a field of the receiver
  pub field_comes : (w : World) (n i : ℕ) (x : Value) (r : Result (Unit {0}) Halt) → c.receiver ≡ Object n → Stores on (field_set w n i x) old new r
      → Came on (given (with_receiver_variable w c.receiver i x) (goes_on c next stack rest)) new r
  field_comes w n i x r is stores =
      comes_so on _ _ new r (ap (λ v. given (with_receiver_variable w v i x) (goes_on c next stack rest)) is) (stored_comes (field_set w n i x) r stores)

  -- a temporary of a home
  abbrev goes_in : World × Activation → Turn
  goes_in p = goes_on (record c { activation = p.1 }) next stack rest p.0

  in_own_activation : (o : Option World) → given (option_map (in_activation c.activation) o) goes_in ≡ given o (goes_on c next stack rest)
  in_own_activation None = refl
  in_own_activation (Some w) = refl

  at_home : (w : World) (f : Activation) (h i : ℕ) (x : Value) → home_in f ≡ Some h → with_temporary w f i x ≡ option_map (in_activation f) (field_set w h i x)
  at_home w (own temporaries) h i x is = cc
  at_home w (home k) h i x is = ap (λ n. option_map (in_activation (home k)) (field_set w n i x)) (value is)
  at_home w (block b k) h i x is = ap (λ n. option_map (in_activation (block b k)) (field_set w n i x)) (value is)

  pub home_comes : (w : World) (h i : ℕ) (x : Value) (r : Result (Unit {0}) Halt) → home_in c.activation ≡ Some h → Stores on (field_set w h i x) old new r → Came on (given (with_temporary w c.activation i x) goes_in) new r
  home_comes w h i x r is stores =
      comes_so on _ _ new r (ap (λ o. given o goes_in) (at_home w c.activation h i x is) ∙ in_own_activation (field_set w h i x)) (stored_comes (field_set w h i x) r stores)

-- ---- outer names

pub names_class : (names : List (Option Name)) (name : Name) (c : ℕ) → IsNumberOf names c name → ((k : ℕ) → IsNumberOf names k name → Some c ≡ Some k) → number_of names name ≡ Some c
names_class names name c is only = let r = has_number names name c is in r.1 ∙ sym (only r.0 (number_names names name r.0 r.1))

pub names_none : (names : List (Option Name)) (name : Name) → ((k : ℕ) → IsNumberOf names k name → None ≡ Some k) → number_of names name ≡ None
names_none names name only = by_number (number_of names name) refl
  where
    by_number : (o : Option ℕ) → number_of names name ≡ o → o ≡ None
    by_number None is = refl
    by_number (Some k) is = let bad : None ≡ Some k = only k (number_names names name k is) in cc
