-- A home whose first temporaries are set one after the other.
use Rattle.std.proofs.Common.{◌≡◌, ◌∙◌, ap, sym, subst, refl, ℕ, zero, suc, ◌+◌, ◌-◌, ◌<◌, ◌≤◌, List, [], ◌∷◌, ◌++◌, Bool, true, length, get_or, slice_get, slice_set, take, replicate, nat_lt, Option, Some, Result, Ok, Err, arith, append_assoc, length-append, if◌then◌else◌}
use Rattle.std.specs.Option.{option_map_or}
use Rattle.std.proofs.lemmas.Bool.Decides.{nat_tests}
use Rattle.std.proofs.lemmas.List.{length-replicate, length-take}
use Rattle.s80_object.specs.Body.{BodyTree, home}
use Rattle.s80_object.specs.Objects.{State, IsPut, body_at, field_put, put_with, with_body, with_body_at}
use Rattle.s80_object.specs.declared.value.ObjectFault.{ObjectFault}
use Rattle.s80_object.specs.declared.value.ObjectFault.TheVariants as fault
use Rattle.s80_object.specs.declared.value.Value.{Value}
use Rattle.s80_object.specs.declared.value.Value.TheVariants.{Nil, Object}
use Rattle.s80_machine.proofs.SeenStacks.{one_more}

got_behind : {A : Type 0} (xs ys : List A) (x : A) → slice_get (xs ++ x ∷ ys) (length xs) ≡ Some x
got_behind [] ys x = refl
got_behind (z ∷ xs) ys x = got_behind xs ys x

set_behind : {A : Type 0} (xs ys : List A) (x y : A) → slice_set (xs ++ x ∷ ys) (length xs) y ≡ xs ++ y ∷ ys
set_behind [] ys x y = refl
set_behind (z ∷ xs) ys x y = ap (λ zs. z ∷ zs) (set_behind xs ys x y)

same_read : {A : Type 0} (xs : List A) (i : ℕ) (d e : A) → i < length xs → get_or xs i d ≡ get_or xs i e
same_read [] i d e within = absurd (omega (arith, within))
same_read (x ∷ xs) zero d e within = refl
same_read (x ∷ xs) (suc i) d e within = same_read xs i d e (omega (arith, within))

module _ (old : State) (method : ℕ) (r : Value) (arguments : List Value) (count : ℕ) where
  -- so many of the arguments, and nil for each further temporary
  abbrev pub filled : ℕ → List Value
  filled i = take i arguments ++ replicate (count - i) Nil

  abbrev pub with_filled : ℕ → State
  with_filled i = with_body old (home method r (filled i))

  module _ (i : ℕ) (default : Value) (within : i < length arguments) (few : length arguments ≤ count) where
    abbrev x : Value
    x = get_or arguments i default

    front : length (take i arguments) ≡ i
    front = omega (arith, length-take i arguments, within)

    more : count - i ≡ suc (count - (i + 1))
    more = omega (arith, within, few)

    parted : filled i ≡ take i arguments ++ Nil ∷ replicate (count - (i + 1)) Nil
    parted = ap (λ n. take i arguments ++ replicate n Nil) more

    long : nat_lt i (length (filled i)) ≡ true
    long =
        let enough : i < length (filled i) = omega (arith, length-append (take i arguments) (replicate (count - i) Nil), length-replicate (count - i) Nil, front, within, few) in
        grind (arith, nat_tests)

    next_filled : slice_set (filled i) i x ≡ filled (i + 1)
    next_filled =
        let rest : List Value = replicate (count - (i + 1)) Nil in
        ap (λ xs. slice_set xs i x) parted ∙ ap (λ n. slice_set (take i arguments ++ Nil ∷ rest) n x) (sym front) ∙ set_behind (take i arguments) rest Nil x
        ∙ sym (append_assoc (take i arguments) (x ∷ []) rest) ∙ ap (λ xs. xs ++ rest) (sym (one_more arguments i x within (same_read arguments i default x within)))

    there : body_at (with_filled i) (Object (length old.bodies)) ≡ Some (home method r (filled i))
    there = got_behind old.bodies [] (home method r (filled i))

    abbrev put_in : Option BodyTree → Result BodyTree ObjectFault
    put_in o = option_map_or (λ b. field_put b i x) o (Err fault.Kind)

    put : put_with (λ b. field_put b i x) (with_filled i) (Object (length old.bodies)) ≡ Ok (home method r (filled (i + 1)))
    put =
        ap (λ o. put_in o) there ∙ ap (λ (b : Bool). if b then Ok (home method r (slice_set (filled i) i x)) else Err fault.Range) long ∙ ap (λ xs. Ok (home method r xs)) next_filled

    module _ (objects : State) (v : Value) (j : ℕ) (so_far : objects ≡ with_filled i) (seat : v ≡ Object (length old.bodies)) (at : j ≡ i) where
      put_now : put_with (λ b. field_put b j x) objects v ≡ Ok (home method r (filled (i + 1)))
      put_now = ap (λ j. put_with (λ b. field_put b j x) objects v) at ∙ ap (λ s. put_with (λ b. field_put b i x) s v) so_far ∙ ap (λ v. put_with (λ b. field_put b i x) (with_filled i) v) seat ∙ put

      pub one_set : (new : State) → IsPut (put_with (λ b. field_put b j x) objects v) objects v new (Ok tt) → new ≡ with_filled (i + 1)
      one_set new h =
          let is : new ≡ with_body_at objects v (home method r (filled (i + 1))) = subst (λ p. IsPut p objects v new (Ok tt)) put_now h in
          is ∙ ap (λ s. with_body_at s v (home method r (filled (i + 1)))) so_far ∙ ap (λ v. with_body_at (with_filled i) v (home method r (filled (i + 1)))) seat
          ∙ ap (λ bodies. record old { bodies = bodies }) (set_behind old.bodies [] (home method r (filled i)) (home method r (filled (i + 1))))
