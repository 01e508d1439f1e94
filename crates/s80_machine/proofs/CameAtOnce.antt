-- `value` and `value:` are never answered at once.
use Rattle.std.proofs.Common.{◌≡◌, ◌∙◌, ◌==◌, ◌||◌, ap, subst, sym, refl, ℕ, Bool, true, false, List, [], ◌∷◌, get_or, None}
use Rattle.s80_class.specs.Table.{Table}
use Rattle.s80_object.specs.Objects.{State as Objects}
use Rattle.s80_object.specs.declared.value.Value.{Value}
use Rattle.s80_object.specs.declared.value.Value.TheVariants.{Small}
use Rattle.s80_prims.specs.Arithmetic.{arithmetic}
use Rattle.s80_machine.specs.Shared.{at_once, integer_primitives, is_value, of_integers}
use Rattle.s80_machine.proofs.lemmas.SoundLists.{same_number}

pub no_integers : (n : ℕ) → get_or integer_primitives n 0 ≡ 0 → (r a : Value) → None ≡ of_integers n r a
no_integers n none (Small r) (Small a) = sym (ap (λ k. arithmetic k r a) none)
no_integers n none _ a = refl

module _ (t : Table) (s : Objects) (r : Value) where
  alone : (arguments : List Value) → None ≡ at_once t s 25 r arguments
  alone [] = refl
  alone (a ∷ []) = no_integers 25 refl r a
  alone (a ∷ b ∷ rest) = refl

  with_one : (arguments : List Value) → None ≡ at_once t s 26 r arguments
  with_one [] = refl
  with_one (a ∷ []) = no_integers 26 refl r a
  with_one (a ∷ b ∷ rest) = refl

  pub values_wait : (n : ℕ) (arguments : List Value) → is_value n ≡ true → None ≡ at_once t s n r arguments
  values_wait n arguments is = by_test (n == 25) refl
    where
      by_test : (b : Bool) → (n == 25) ≡ b → None ≡ at_once t s n r arguments
      by_test true e = subst (λ k. None ≡ at_once t s k r arguments) (sym (same_number n 25 e)) (alone arguments)
      by_test false e = subst (λ k. None ≡ at_once t s k r arguments) (sym (same_number n 26 (sym (ap (λ b. b || (n == 26)) e) ∙ is))) (with_one arguments)
