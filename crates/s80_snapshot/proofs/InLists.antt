-- Elements of lists, and the entries of maps.
use Rattle.std.proofs.Common.{◌≡◌, ◌⊎◌, inl, inr, ◌∙◌, ◌++◌, Bool, cond, true, false, refl, sym, ap, subst, List, [], ◌∷◌, Option, Some, None, is_some, map as list_map, filter, true≢false}
use Rattle.std.specs.List.{All, AllByRecursion, flat_map}
use Rattle.std.specs.Ordering.{eq_by_cmp}
use Rattle.std.specs.Cmp.Lexicographic.{bytes_decides, nat_list_cmp_total, texts_ties}
use Rattle.std.specs.FinMap as map
use Rattle.std.specs.FinMap.Entries.{find}
use Rattle.std.specs.Str.{bytes_eq}
use Rattle.std.proofs.lemmas.List.Elements.{All-head, All-tail}
use Rattle.s80_snapshot.proofs.lemmas.NamedMaps.{Named, Text, by_text}

abbrev pub IsIn : {X : Type 0} → X → List X → Type 0
IsIn x [] = ⊥
IsIn x (y ∷ ys) = (x ≡ y) ⊎ IsIn x ys

module _ {X : Type 0} where
  pub in_front : (x : X) (xs ys : List X) → IsIn x xs → IsIn x (xs ++ ys)
  in_front x [] ys at = absurd at
  in_front x (y ∷ xs) ys (inl same) = inl same
  in_front x (y ∷ xs) ys (inr more) = inr (in_front x xs ys more)

  pub in_back : (x : X) (xs ys : List X) → IsIn x ys → IsIn x (xs ++ ys)
  in_back x [] ys at = at
  in_back x (y ∷ xs) ys at = inr (in_back x xs ys at)

  keeps : (x y : X) (xs : List X) (b : Bool) → IsIn x xs → IsIn x (cond b (y ∷ xs) xs)
  keeps x y xs true at = inr at
  keeps x y xs false at = at

  pub in_filtered : (p : X → Bool) (x : X) (xs : List X) → p x ≡ true → IsIn x xs → IsIn x (filter p xs)
  in_filtered p x [] passes at = at
  in_filtered p x (y ∷ xs) passes (inl same) = subst (λ b. IsIn x (cond b (y ∷ filter p xs) (filter p xs))) (sym (ap p (sym same) ∙ passes)) (inl same)
  in_filtered p x (y ∷ xs) passes (inr more) = keeps x y (filter p xs) (p y) (in_filtered p x xs passes more)

  pub all_in : (P : X → Type 0) (xs : List X) → All P xs → (x : X) → IsIn x xs → P x
  all_in P [] all x at = absurd at
  all_in P (y ∷ xs) all x (inl same) = subst P (sym same) (All-head P y xs all)
  all_in P (y ∷ xs) all x (inr more) = all_in P xs (All-tail P y xs all) x more

  -- ---- what holds of each of two lists

  pub all_front : (P : X → Type 0) (xs ys : List X) → AllByRecursion P (xs ++ ys) → AllByRecursion P xs
  all_front P [] ys all = tt
  all_front P (x ∷ xs) ys all = (all.0, all_front P xs ys all.1)

  pub all_back : (P : X → Type 0) (xs ys : List X) → AllByRecursion P (xs ++ ys) → AllByRecursion P ys
  all_back P [] ys all = all
  all_back P (x ∷ xs) ys all = all_back P xs ys all.1

  pub all_both : (P : X → Type 0) (xs ys : List X) → AllByRecursion P xs → AllByRecursion P ys → AllByRecursion P (xs ++ ys)
  all_both P [] ys first second = second
  all_both P (x ∷ xs) ys first second = (first.0, all_both P xs ys first.1 second)

module _ {X Y : Type 0} where
  pub in_mapped : (f : X → Y) (x : X) (xs : List X) → IsIn x xs → IsIn (f x) (list_map f xs)
  in_mapped f x [] at = absurd at
  in_mapped f x (y ∷ xs) (inl same) = inl (ap f same)
  in_mapped f x (y ∷ xs) (inr more) = inr (in_mapped f x xs more)

  pub in_flat : (f : X → List Y) (x : X) (y : Y) (xs : List X) → IsIn x xs → IsIn y (f x) → IsIn y (flat_map f xs)
  in_flat f x y [] at here = absurd at
  in_flat f x y (z ∷ xs) (inl same) here = in_front y (f z) (flat_map f xs) (subst (λ k. IsIn y (f k)) same here)
  in_flat f x y (z ∷ xs) (inr more) here = in_back y (f z) (flat_map f xs) (in_flat f x y xs more here)

module _ {V : Type 0} where
  in_found : (es : List (Text × V)) (q : Text) (v : V) → find by_text q es ≡ Some v → IsIn (q, v) es
  in_found [] q v is = absurd (let bad : None ≡ Some v = is in cc)
  in_found (e ∷ es) q v is = by_key (in_found es q v) (bytes_eq q e.0) refl (ap (λ b. cond b (Some e.1) (find by_text q es)) (texts_ties q e.0) ∙ is)
    where
      by_key : (find by_text q es ≡ Some v → IsIn (q, v) es) → (b : Bool) → bytes_eq q e.0 ≡ b → cond b (Some e.1) (find by_text q es) ≡ Some v
          → IsIn (q, v) (e ∷ es)
      by_key rest true at here = let keys : q ≡ e.0 = (bytes_decides q e.0).0 at in let values : v ≡ e.1 = cc in inl (λ i. (keys i, values i))
      by_key rest false at more = inr (rest more)

  pub in_entries : (m : Named V) (q : Text) (v : V) → map.get m q ≡ Some v → IsIn (q, v) (map.entries m)
  in_entries m q v is = in_found (map.entries m) q v (sym (map.get-entries m q) ∙ is)

  pub in_keys : (m : Named V) (q : Text) (v : V) → map.get m q ≡ Some v → IsIn q (map.keys m)
  in_keys m q v is = in_mapped (λ e. e.0) (q, v) (map.entries m) (in_entries m q v is)

  -- a key of a list is one of the map of that list
  pub in_keys_of : (es : List (Text × V)) (e : Text × V) → IsIn e es → IsIn e.0 (map.keys (map.from_entries {R = by_text} es))
  in_keys_of es e at = go (find by_text e.0 es) refl (there es at)
    where
      there : (es : List (Text × V)) → IsIn e es → is_some (find by_text e.0 es) ≡ true
      there [] at = absurd at
      there (f ∷ es) (inl same) = ap (λ b. is_some (cond b (Some f.1) (find by_text e.0 es))) (sym (texts_ties e.0 f.0) ∙ (bytes_decides e.0 f.0).1 (ap (λ x. x.0) same))
      there (f ∷ es) (inr more) = either (eq_by_cmp by_text e.0 f.0) (there es more)
        where
          either : (b : Bool) → is_some (find by_text e.0 es) ≡ true → is_some (cond b (Some f.1) (find by_text e.0 es)) ≡ true
          either true h = refl
          either false h = h

      go : (o : Option V) → find by_text e.0 es ≡ o → is_some (find by_text e.0 es) ≡ true → IsIn e.0 (map.keys (map.from_entries {R = by_text} es))
      go None is some = absurd (true≢false (sym some ∙ ap is_some is))
      go (Some v) is some = in_keys (map.from_entries {R = by_text} es) e.0 v (map.get-from_entries nat_list_cmp_total es e.0 ∙ is)
