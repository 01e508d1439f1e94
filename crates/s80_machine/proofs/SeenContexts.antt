-- The activations that are alive, the active one first, and what changes of them come to.
use Rattle.std.proofs.Common.{◌≡◌, ◌∙◌, ap, sym, subst, refl, ℕ, ◌-◌, ◌<◌, ◌||◌, Bool, true, false, List, [], ◌∷◌, length, get_or, set, reverse, take, Option, Some, None, Result, Ok, Err}
use Rattle.std.specs.List.{list_any}
use mathlib.Core.List.{reverse_aux}
use Rattle.s80_machine.specs.declared.halt.Halt.{Halt}
use Rattle.s80_machine.specs.Turn.{Context}
use Rattle.s80_machine.specs.Seen.{Does, DoesOne, DoesIn}
use Rattle.s80_machine.proofs.SeenStacks.{seen_first, set_first}

-- ---- changes of the active context

module _ {A B : Type 0} (seen : B → A) where
  on_one : (o : Option (Context × A)) (new : Context) (rest : List Context) (r : Result B Halt) → DoesIn seen o new r → DoesOne seen o rest (new ∷ rest) r
  on_one None new rest r h = h
  on_one (Some p) new rest (Ok b) h = (h.0, ap (λ c. c ∷ rest) h.1)
  on_one (Some p) new rest (Err fault) h = h

  module _ (change : Context → Option (Context × A)) (xs old : List Context) (shows : reverse xs ≡ old) (a b : Context) (r : Result B Halt) where
    at_last : 0 < length xs → a ≡ get_or xs (length xs - 1) a → DoesIn seen (change a) b r → Does seen change old (reverse (set xs (length xs - 1) b)) r
    at_last some is does =
        let rest = reverse (take (length xs - 1) xs) in
        subst (λ old. Does seen change old (reverse (set xs (length xs - 1) b)) r) (sym (seen_first xs a some is) ∙ shows)
        (subst (λ new. Does seen change (a ∷ rest) new r) (sym (set_first xs b some)) (on_one (change a) b rest r does))

    -- the last of a vector of n contexts is changed
    pub active_does : (n : ℕ) → n ≡ length xs → 0 < length xs → a ≡ get_or xs (n - 1) a → DoesIn seen (change a) b r → Does seen change old (reverse (set xs (n - 1) b)) r
    active_does n size some is does = subst (λ m. Does seen change old (reverse (set xs (m - 1) b)) r) (sym size) (at_last some (subst (λ m. a ≡ get_or xs (m - 1) a) size is) does)

-- the last of a vector of n contexts is the active one, and becomes another
module _ (xs old : List Context) (shows : reverse xs ≡ old) (a : Context) (n : ℕ) (size : n ≡ length xs) (some : 0 < length xs) (is : a ≡ get_or xs (n - 1) a) (c : Context) (rest : List Context) (active : old ≡ c ∷ rest) where
  last_is : a ≡ get_or xs (length xs - 1) a
  last_is = subst (λ m. a ≡ get_or xs (m - 1) a) size is

  both : a ∷ reverse (take (length xs - 1) xs) ≡ c ∷ rest
  both = sym (seen_first xs a some last_is) ∙ shows ∙ active

  pub is_active_one : a ≡ c
  is_active_one = let h = both in cc

  waiting_are : reverse (take (length xs - 1) xs) ≡ rest
  waiting_are = let h = both in cc

  pub becomes_active : (b : Context) → reverse (set xs (n - 1) b) ≡ b ∷ rest
  becomes_active b = subst (λ m. reverse (set xs (m - 1) b) ≡ b ∷ rest) (sym size) (set_first xs b some ∙ ap (λ l. b ∷ l) waiting_are)

-- ---- any of them

module _ {A : Type 0} (test : A → Bool) where
  either_way : (a b c : Bool) → (a || (b || c)) ≡ ((b || a) || c)
  either_way true true c = refl
  either_way true false c = refl
  either_way false true c = refl
  either_way false false c = refl

  any_onto : (xs ys : List A) → list_any test (reverse_aux xs ys) ≡ (list_any test xs || list_any test ys)
  any_onto [] ys = refl
  any_onto (x ∷ xs) ys = any_onto xs (x ∷ ys) ∙ either_way (list_any test xs) (test x) (list_any test ys)

  or_false : (b : Bool) → (b || false) ≡ b
  or_false true = refl
  or_false false = refl

  pub any_reversed : (xs : List A) → list_any test (reverse xs) ≡ list_any test xs
  any_reversed xs = any_onto xs [] ∙ or_false (list_any test xs)
