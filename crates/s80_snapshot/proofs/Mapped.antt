-- Methods of which less is seen: the entries of their maps.
use Rattle.std.proofs.Common.{◌≡◌, ◌∙◌, ◌&&◌, T, cond, true, false, refl, sym, ap, subst, List, [], ◌∷◌, Some, option_map, map as list_map}
use Rattle.std.specs.Ordering.{nat_cmp, eq_by_cmp, is_lt}
use Rattle.std.specs.declared.cmp.Ordering.{Ordering}
use Rattle.std.specs.Cmp.Lexicographic.{slice_cmp, nat_list_cmp_total}
use Rattle.std.specs.FinMap as map
use Rattle.std.specs.FinMap.Entries.{below_all, find, is_sorted}
use Rattle.s80_dict.specs.Dict.{Methods}
use Rattle.s80_class.specs.Classes.{Name}
use Rattle.s80_apply.specs.Seen.{AreSeen}

abbrev order : Name → Name → Ordering
order = slice_cmp nat_cmp

abbrev firsts : {X : Type 0} → List (Name × X) → List Name
firsts es = list_map (λ e. e.0) es

module _ {X M : Type 0} (f : X → M) where
  -- the entries of what is seen
  abbrev pub seen_in : List (Name × X) → List (Name × M)
  seen_in es = list_map (λ e. (e.0, f e.1)) es

  same_firsts : (es : List (Name × X)) → firsts es ≡ firsts (seen_in es)
  same_firsts [] = refl
  same_firsts (e ∷ es) = ap (λ (names : List Name). e.0 ∷ names) (same_firsts es)

  same_below : (x : Name) (es : List (Name × X)) → below_all order x (seen_in es) ≡ below_all order x es
  same_below x [] = refl
  same_below x (e ∷ es) = ap (λ b. is_lt (order x e.0) && b) (same_below x es)

  same_order : (es : List (Name × X)) → is_sorted order (seen_in es) ≡ is_sorted order es
  same_order [] = refl
  same_order (e ∷ es) = λ i. same_below e.0 es i && same_order es i

  found_in : (q : Name) (es : List (Name × X)) → find order q (seen_in es) ≡ option_map f (find order q es)
  found_in q [] = refl
  found_in q (e ∷ es) = elim (eq_by_cmp order q e.0) as (λ b. cond b (Some (f e.1)) (find order q (seen_in es)) ≡ option_map f (cond b (Some e.1) (find order q es))) [
    | true ↦ refl
    | false ↦ found_in q es
  ]

  -- the map of them
  abbrev pub seen_map : Methods X → Methods M
  seen_map m = map.from_sorted (seen_in (map.entries m))

  in_order : (m : Methods X) → T (is_sorted order (seen_in (map.entries m)))
  in_order m = subst T (sym (same_order (map.entries m))) (map.entries_sorted m)

  entries_are : (m : Methods X) → map.entries (seen_map m) ≡ seen_in (map.entries m)
  entries_are m = map.entries-from_sorted order (seen_in (map.entries m)) (in_order m)

  seen_get : (m : Methods X) (q : Name) → option_map f (map.get m q) ≡ map.get (seen_map m) q
  seen_get m q = ap (option_map f) (map.get-entries m q) ∙ sym (map.get-from_sorted order (seen_in (map.entries m)) q (in_order m) ∙ found_in q (map.entries m))

  pub map_is_seen : (m : Methods X) → AreSeen f m (seen_map m)
  map_is_seen m = record { keys = same_firsts (map.entries m) ∙ ap firsts (sym (entries_are m)); each = seen_get m }

  -- whatever shows the same of them has these entries
  pub entries_seen : (m : Methods X) (n : Methods M) → AreSeen f m n → map.entries n ≡ seen_in (map.entries m)
  entries_seen m n are =
      ap (λ (o : Methods M). map.entries o) (map.same_map nat_list_cmp_total (map.slice_cmp-IsAntisymmetric map.nat_cmp-IsAntisymmetric) n (seen_map m) (λ q. sym (are.each q) ∙ seen_get m q))
      ∙ entries_are m
