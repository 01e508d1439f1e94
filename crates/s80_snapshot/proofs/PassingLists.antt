-- Lists whose members rise, each of which passes behind the one before.
use Rattle.std.proofs.Common.{◌≡◌, ◌-◌, ◌∙◌, ◌++◌, true, T, refl, sym, ap, subst, List, [], ◌∷◌, length, length-append, Option, Some, None, option_map, slice_get, map as list_map, arith}
use Rattle.std.specs.List.{AllByRecursion}
use Rattle.std.specs.Ordering.{is_lt}
use Rattle.std.specs.FinMap.Entries.{below_all, is_sorted}
use Rattle.s80_image.specs.Format.{Format}
use Rattle.s80_image.specs.Parts.{is_above, last_of}
use Rattle.s80_snapshot.proofs.lemmas.NamedMaps.{Text, by_text, first_of_two, second_of_two, true_is}
use Rattle.s80_snapshot.proofs.PassingFormats.{AllPass, Passes}

module _ {A : Type 0} where
  got_last : (before : List A) (x : A) → slice_get (before ++ x ∷ []) (length before) ≡ Some x
  got_last [] x = refl
  got_last (y ∷ before) x = got_last before x

  last_is : (before : List A) (x : A) → last_of (before ++ x ∷ []) ≡ Some x
  last_is before x =
      let at : length (before ++ x ∷ []) - 1 ≡ length before = omega (arith, length-append before (x ∷ [])) in
      ap (slice_get (before ++ x ∷ [])) at ∙ got_last before x

  -- each passes behind the one before
  abbrev pub Chain : (Option A → Format A) → Option A → List A → Type 0
  Chain format last [] = Unit {0}
  Chain format last (x ∷ xs) = Passes (format last) x × Chain format (Some x) xs

  chain_from : (format : Option A → Format A) (before xs : List A) (last : Option A) → last_of before ≡ last → Chain format last xs
      → AllPass (λ b. format (last_of b)) before xs
  chain_from format before [] last is chain = tt
  chain_from format before (x ∷ xs) last is chain = (subst (λ o. Passes (format o) x) (sym is) chain.0, chain_from format (before ++ x ∷ []) xs (Some x) (last_is before x) chain.1)

  pub chain_pass : (format : Option A → Format A) (xs : List A) → Chain format None xs → AllPass (λ b. format (last_of b)) [] xs
  chain_pass format xs chain = chain_from format [] xs None refl chain

-- ---- the entries of a map

module _ {V A : Type 0} (view : Text × V → A) (key : A → Text) (keyed : (e : Text × V) → key (view e) ≡ e.0) (format : Option Text → Format A) where
  abbrev IsFirstAbove : Option Text → List (Text × V) → Type 0
  IsFirstAbove last [] = Unit {0}
  IsFirstAbove last (e ∷ es) = is_above last e.0 ≡ true

  -- it passes behind each that it comes after
  abbrev pub PassesAbove : Text × V → Type 0
  PassesAbove e = (last : Option Text) → is_above last e.0 ≡ true → Passes (format last) (view e)

  next_above : (e : Text × V) (es : List (Text × V)) → T (below_all by_text e.0 es) → IsFirstAbove (Some e.0) es
  next_above e [] below = tt
  next_above e (f ∷ es) below = true_is (is_lt (by_text e.0 f.0)) (first_of_two (is_lt (by_text e.0 f.0)) (below_all by_text e.0 es) below)

  sorted_chain : (last : Option A) (es : List (Text × V)) → T (is_sorted by_text es) → IsFirstAbove (option_map key last) es → AllByRecursion PassesAbove es
      → Chain (λ o. format (option_map key o)) last (list_map view es)
  sorted_chain last [] sorted first all = tt
  sorted_chain last (e ∷ es) sorted first all = (
    all.0 (option_map key last) first,
    sorted_chain (Some (view e)) es (second_of_two (below_all by_text e.0 es) (is_sorted by_text es) sorted)
        (subst (λ k. IsFirstAbove (Some k) es) (sym (keyed e)) (next_above e es (first_of_two (below_all by_text e.0 es) (is_sorted by_text es) sorted))) all.1,
  )

  none_first : (es : List (Text × V)) → IsFirstAbove None es
  none_first [] = tt
  none_first (e ∷ es) = refl

  pub sorted_pass : (es : List (Text × V)) → T (is_sorted by_text es) → AllByRecursion PassesAbove es
      → AllPass (λ b. format (option_map key (last_of b))) [] (list_map view es)
  sorted_pass es sorted all = chain_pass (λ o. format (option_map key o)) (list_map view es) (sorted_chain None es sorted (none_first es) all)
