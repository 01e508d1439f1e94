-- Members that a loop reads one behind the other.
use Rattle.std.proofs.Common.{◌≡◌, ℕ, suc, ◌+◌, ◌-◌, ◌<◌, ◌≤◌, List, [], ◌∷◌, ◌++◌, length, map, Option, Ok, Err, refl, sym, ap, ◌∙◌, arith, Bor}
use Rattle.std.specs.Prelude.{option_copied, option_map, slice_get, Some, None}
use Rattle.std.proofs.lemmas.Option.{slice_get-map}
use Rattle.s80_image.specs.declared.fault.ReadError.{ReadError}
use Rattle.s80_image.specs.declared.fault.ReadError.TheVariants as errors
use Rattle.s80_image.specs.Format.{Fails, Format, Reading, members}
use Rattle.s80_image.specs.Parts.{last_of}

module _ {A : Type 0} (member : List A → Format A) (count i : ℕ) (before : List A) (bytes : List ℕ) (total : Reading (List A)) where
  pub member_fails : (e : ReadError) (f : Format A) → f ≡ member before → i < count → Fails e (f.read bytes) → members member before (count - i) bytes ≡ total → Fails e total
  unfolding members
  member_fails errors.Memory g is lt f so_far = tt
  member_fails (errors.Fault d) g is lt f so_far =
      let k : count - i ≡ suc (count - (i + 1)) = omega arith in
      let one : members member before (count - i) bytes ≡ Err d = rw (k, ← is) (rw f refl) in
      sym so_far ∙ one

  pub member_read : (new : List A) (x : A) (rest : List ℕ) (f : Format A) → f ≡ member before → i < count → f.read bytes ≡ Ok (x, rest) → new ≡ before ++ x ∷ []
      → members member before (count - i) bytes ≡ total → members member new (count - (i + 1)) rest ≡ total
  unfolding members
  member_read new x rest g is lt f e so_far =
      let k : count - i ≡ suc (count - (i + 1)) = omega arith in
      let one : members member before (count - i) bytes ≡ members member new (count - (i + 1)) rest = rw (k, ← is) (rw f (ap (λ b. members member b (count - (i + 1)) rest) (sym e))) in
      sym one ∙ so_far

  pub members_end : count ≤ i → members member before (count - i) bytes ≡ total → total ≡ Ok (before, bytes)
  unfolding members
  members_end le so_far =
      let k : count - i ≡ 0 = omega arith in
      let one : members member before (count - i) bytes ≡ Ok (before, bytes) = rw k refl in
      sym so_far ∙ one

pub map_push : {A B : Type 0} (f : A → B) (xs : List A) (x : A) → map f (xs ++ x ∷ []) ≡ map f xs ++ f x ∷ []
map_push f [] x = refl
map_push f (y ∷ ys) x = ap (λ l. f y ∷ l) (map_push f ys x)

length_map : {A B : Type 0} (f : A → B) (xs : List A) → length (map f xs) ≡ length xs
length_map f [] = refl
length_map f (x ∷ xs) = ap suc (length_map f xs)

pub last_mapped : {A B : Type 0} (f : A → B) (xs : List A) → option_map f (slice_get xs (length xs - 1)) ≡ last_of (map f xs)
last_mapped f xs = sym (slice_get-map f xs (length xs - 1)) ∙ ap (λ n. slice_get (map f xs) (n - 1)) (sym (length_map f xs))

pub last_key : {A B K : Type 0} (view : A → B) (key : B → K) (o : Option (Bor A)) (xs : List A) → option_copied o ≡ slice_get xs (length xs - 1) → option_map (λ v. key (view v.now)) o ≡ option_map key (last_of (map view xs))
last_key view key o xs e = seen o ∙ ap (λ p. option_map key (option_map view p)) e ∙ ap (option_map key) (last_mapped view xs)
  where
    seen : (p : Option (Bor _)) → option_map (λ v. key (view v.now)) p ≡ option_map key (option_map view (option_copied p))
    seen None = refl
    seen (Some v) = refl
