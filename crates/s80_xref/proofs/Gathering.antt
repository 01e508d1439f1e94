-- Words that are gathered from methods.
use Rattle.std.proofs.Common.{◌≡◌, ◌⊎◌, ◌∙◌, ◌++◌, ◌↔◌, ◌||◌, ◌+◌, ◌≤◌, inl, inr, ℕ, true, sym, ap, subst, List, [], ◌∷◌, Some, length, take, map, append-nil}
use Rattle.std.specs.Prelude.{slice_get}
use Rattle.std.specs.FinMap as finmap
use Rattle.std.specs.List.{Contains, flat_map, list_any}
use Rattle.std.specs.Str.{bytes_eq}
use Rattle.std.proofs.lemmas.List.{take_all}
use Rattle.std.proofs.lemmas.List.Concat.{flat_map-append}
use Rattle.std.proofs.lemmas.List.Elements.{Contains-append_cases, Contains-append_left, Contains-append_right}
use Rattle.s80_base.specs.declared.names.Side.{Side}
use Rattle.s80_dict.specs.Dict.{Methods}
use Rattle.s80_class.specs.Classes.{Name}
use Rattle.s80_apply.specs.Entries.{Entry}
use Rattle.s80_apply.specs.State.{State}
use Rattle.s80_xref.specs.declared.link.Link.{Link}
use Rattle.s80_xref.specs.declared.places.MethodPlace.{MethodPlace}
use Rattle.s80_xref.specs.Found.{Gathers, IsOfSome}
use Rattle.s80_xref.specs.Links.{AreLinked, IsLink, is_linked}
use Rattle.s80_xref.specs.Places.{place, places_on}
use Rattle.s80_xref.proofs.Linking.{among, no_keys, tells, tells_among}
use Rattle.s80_xref.proofs.Members.{any_found, any_there, in_none, made_of, of_each, or_case, or_true}
use Rattle.s80_xref.proofs.Taking.{take_next}
use Rattle.s80_xref.proofs.Those.{decided, decides_true}

abbrev Text : Type 0
Text = List ℕ

abbrev Relation : Type 1
Relation = Text → MethodPlace → Type 0

-- ---- of several lists

module _ (P : Relation) (word : Text) where
  of_none : IsOfSome P [] word → ⊥
  of_none (at, has, holds) = in_none at has

  of_both : (xs ys : List MethodPlace) → IsOfSome P xs word ⊎ IsOfSome P ys word → IsOfSome P (xs ++ ys) word
  of_both xs ys (inl (at, has, holds)) = (at, Contains-append_left xs ys at has, holds)
  of_both xs ys (inr (at, has, holds)) = (at, Contains-append_right xs ys at has, holds)

  of_either : (xs ys : List MethodPlace) → IsOfSome P (xs ++ ys) word → IsOfSome P xs word ⊎ IsOfSome P ys word
  of_either xs ys (at, has, holds) = by_case (Contains-append_cases xs ys at has)
    where
      by_case : Contains xs at ⊎ Contains ys at → IsOfSome P xs word ⊎ IsOfSome P ys word
      by_case (inl first) = inl (at, first, holds)
      by_case (inr second) = inr (at, second, holds)

-- ---- a loop

pub nothing_gathered : (P : Relation) (words : List Text) → words ≡ [] → (word : Text) → Contains words word ↔ IsOfSome P [] word
nothing_gathered P words none word = (λ has. absurd (in_none word (subst (λ l. Contains l word) none has)), λ of. absurd (of_none P word of))

module _ {X : Type 0} (P : Relation) (f : X → List MethodPlace) (xs : List X) where
  module _ (i : ℕ) (x : X) (one other : List MethodPlace) (now then_now new : List Text) (at : slice_get xs i ≡ Some x) (is : f x ≡ one ++ (other ++ []))
      (so_far : (word : Text) → Contains now word ↔ IsOfSome P (flat_map f (take i xs)) word) (first : Gathers P one now then_now) (second : Gathers P other then_now new) where
    both : flat_map f (take i xs) ++ (one ++ other) ≡ flat_map f (take (i + 1) xs)
    both = ap (λ l. flat_map f (take i xs) ++ l) (ap (λ l. one ++ l) (sym (append-nil other)) ∙ sym is ∙ sym (append-nil (f x))) ∙ sym (flat_map-append f (take i xs) (x ∷ [])) ∙ ap (flat_map f) (sym (take_next xs i x at))

    module _ (word : Text) where
      gathered_parts : Contains new word ↔ (IsOfSome P (flat_map f (take i xs)) word ⊎ (IsOfSome P one word ⊎ IsOfSome P other word))
      gathered_parts = (λ has. from_new ((second word).0 has), λ of. to_new of)
        where
          from_then : Contains now word ⊎ IsOfSome P one word → IsOfSome P (flat_map f (take i xs)) word ⊎ (IsOfSome P one word ⊎ IsOfSome P other word)
          from_then (inl before) = inl ((so_far word).0 before)
          from_then (inr of) = inr (inl of)

          from_new : Contains then_now word ⊎ IsOfSome P other word → IsOfSome P (flat_map f (take i xs)) word ⊎ (IsOfSome P one word ⊎ IsOfSome P other word)
          from_new (inl before) = from_then ((first word).0 before)
          from_new (inr of) = inr (inr of)

          to_new : IsOfSome P (flat_map f (take i xs)) word ⊎ (IsOfSome P one word ⊎ IsOfSome P other word) → Contains new word
          to_new (inl of) = (second word).1 (inl ((first word).1 (inl ((so_far word).1 of))))
          to_new (inr (inl of)) = (second word).1 (inl ((first word).1 (inr of)))
          to_new (inr (inr of)) = (second word).1 (inr of)

      pub gathered_next : Contains new word ↔ IsOfSome P (flat_map f (take (i + 1) xs)) word
      gathered_next = (λ has. subst (λ l. IsOfSome P l word) both (join (gathered_parts.0 has)), λ of. gathered_parts.1 (part (subst (λ l. IsOfSome P l word) (sym both) of)))
        where
          join : IsOfSome P (flat_map f (take i xs)) word ⊎ (IsOfSome P one word ⊎ IsOfSome P other word) → IsOfSome P (flat_map f (take i xs) ++ (one ++ other)) word
          join (inl of) = of_both P word (flat_map f (take i xs)) (one ++ other) (inl of)
          join (inr of) = of_both P word (flat_map f (take i xs)) (one ++ other) (inr (of_both P word one other of))

          part_rest : IsOfSome P (flat_map f (take i xs)) word ⊎ IsOfSome P (one ++ other) word → IsOfSome P (flat_map f (take i xs)) word ⊎ (IsOfSome P one word ⊎ IsOfSome P other word)
          part_rest (inl of) = inl of
          part_rest (inr of) = inr (of_either P word one other of)

          part : IsOfSome P (flat_map f (take i xs) ++ (one ++ other)) word → IsOfSome P (flat_map f (take i xs)) word ⊎ (IsOfSome P one word ⊎ IsOfSome P other word)
          part of = part_rest (of_either P word (flat_map f (take i xs)) (one ++ other) of)

  pub gathered_all : (i : ℕ) (now : List Text) → length xs ≤ i → ((word : Text) → Contains now word ↔ IsOfSome P (flat_map f (take i xs)) word) → (word : Text) → Contains now word ↔ IsOfSome P (flat_map f xs) word
  gathered_all i now past so_far word = subst (λ l. Contains now word ↔ IsOfSome P (flat_map f l) word) (take_all i xs past) (so_far word)

-- ---- those of a dictionary

pub gathers_none : (state : State) (class : Name) (side : Side) (P : Relation) (words : List Text) → state.methods class side ≡ finmap.empty → Gathers P (places_on state class side) words words
gathers_none state class side P words none word = (λ has. inl has, back)
  where
    back : Contains words word ⊎ IsOfSome P (places_on state class side) word → Contains words word
    back (inl has) = has
    back (inr of) = absurd (of_none P word (subst (λ ks. IsOfSome P (map (place class side) ks) word) (no_keys (state.methods class side) none) of))

module _ (state : State) (class : Name) (side : Side) (methods : Methods Entry) (link : Link) (has : AreLinked state class side methods) (old new : List Text)
    (grown : (word : Text) → list_any (bytes_eq word) new ≡ (list_any (bytes_eq word) old || list_any (is_linked methods link word) (finmap.keys methods))) where
  pub gathers_linked : Gathers (IsLink link state) (places_on state class side) old new
  gathers_linked word = (λ in_new. from_new (or_case _ _ (sym (grown word) ∙ tells_among word new in_new)), to_new)
    where
      from_new : (list_any (bytes_eq word) old ≡ true) ⊎ (list_any (is_linked methods link word) (finmap.keys methods) ≡ true) → Contains old word ⊎ IsOfSome (IsLink link state) (places_on state class side) word
      from_new (inl before) = inl (among word old before)
      from_new (inr some) =
          let found = any_found (is_linked methods link word) (finmap.keys methods) some in
          inr (
            place class side found.0,
            of_each (place class side) (finmap.keys (state.methods class side)) found.0 (subst (λ ks. Contains ks found.0) has.keys found.1),
            decides_true (is_linked methods link word found.0) (IsLink link state word (place class side found.0)) found.2 (tells state class side methods link word has found.0 found.1),
          )

      linked_there : (at : MethodPlace) → Contains (places_on state class side) at → IsLink link state word at → list_any (is_linked methods link word) (finmap.keys methods) ≡ true
      linked_there at there holds =
          let from = made_of (place class side) (finmap.keys (state.methods class side)) at there in
          let key : Contains (finmap.keys methods) from.0 = subst (λ ks. Contains ks from.0) (sym has.keys) from.1 in
          any_there (is_linked methods link word) (finmap.keys methods) from.0 key
          (decided (is_linked methods link word from.0) (IsLink link state word (place class side from.0)) (tells state class side methods link word has from.0 key) (subst (IsLink link state word) (sym from.2) holds))

      to_new : Contains old word ⊎ IsOfSome (IsLink link state) (places_on state class side) word → Contains new word
      to_new (inl before) = among word new (grown word ∙ ap (λ b. b || list_any (is_linked methods link word) (finmap.keys methods)) (tells_among word old before))
      to_new (inr (at, there, holds)) = among word new (grown word ∙ ap (λ b. list_any (bytes_eq word) old || b) (linked_there at there holds) ∙ or_true (list_any (bytes_eq word) old))
