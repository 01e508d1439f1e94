-- The greatest count over the classes that pass a test.
use Rattle.std.proofs.Common.{◌≡◌, ◌≤◌, ◌∙◌, ◌||◌, ℕ, Bool, cond, true, false, refl, sym, ap, subst, List, [], ◌∷◌, Option, Some, None, is_some, max, fold, map as list_map, true≢false, arith}
use Rattle.std.specs.List.{list_any, filter}
use Rattle.std.specs.Str.{bytes_eq}
use Rattle.std.specs.Cmp.Lexicographic.{bytes_decides, texts_ties}
use Rattle.std.specs.FinMap as map
use Rattle.s80_class.specs.Classes.{Name, ClassRow, Classes, Inherited}

-- it isn't below what it begins with
begins : (count : Inherited → ℕ) (m : ℕ) (ts : List Inherited) → m ≤ fold (λ most t. max most (count t)) m ts
begins count m [] = omega arith
begins count m (t ∷ ts) = let more : max m (count t) ≤ fold (λ most t. max most (count t)) (max m (count t)) ts = begins count (max m (count t)) ts in omega (arith, more)

module _ (count : Inherited → ℕ) (inh : Name → Inherited) (test : Name → Bool) where
  abbrev pub most_of : ℕ → List Name → ℕ
  most_of m ns = fold (λ most t. max most (count t)) m (list_map inh (filter test ns))

  pub at_least : (q : Name) (ns : List Name) (m : ℕ) → test q ≡ true → list_any (bytes_eq q) ns ≡ true → count (inh q) ≤ most_of m ns
  at_least q [] m t h = absurd (true≢false (sym h))
  at_least q (n ∷ ns) m t h =
      elim (bytes_eq q n) as (λ b. bytes_eq q n ≡ b → (b || list_any (bytes_eq q) ns) ≡ true → count (inh q) ≤ most_of m (n ∷ ns)) [
        | true ↦ λ is _.
            let same : q ≡ n = (bytes_decides q n).0 is in
            let passes : test n ≡ true = ap test (sym same) ∙ t in
            let here : count (inh q) ≡ count (inh n) = ap (λ x. count (inh x)) same in
            let from : max m (count (inh n)) ≤ most_of (max m (count (inh n))) ns = begins count (max m (count (inh n))) (list_map inh (filter test ns)) in
            let P : Bool → Type 0 = λ b. count (inh q) ≤ fold (λ most t. max most (count t)) m (list_map inh (cond b (n ∷ filter test ns) (filter test ns))) in
            subst P (sym passes) (omega (arith, here, from))
        | false ↦ λ is h'.
            elim (test n) as (λ b. count (inh q) ≤ fold (λ most t. max most (count t)) m (list_map inh (cond b (n ∷ filter test ns) (filter test ns)))) [
              | true ↦ at_least q ns (max m (count (inh n))) t h'
              | false ↦ at_least q ns m t h'
            ]
      ] refl h

  pub at_most : (b : ℕ) (ns : List Name) (m : ℕ) → m ≤ b → ((q : Name) → list_any (bytes_eq q) ns ≡ true → test q ≡ true → count (inh q) ≤ b) → most_of m ns ≤ b
  at_most b [] m le each = le
  at_most b (n ∷ ns) m le each =
      let rest : (q : Name) → list_any (bytes_eq q) ns ≡ true → test q ≡ true → count (inh q) ≤ b = λ q h t. each q (or_right (bytes_eq q n) (list_any (bytes_eq q) ns) h) t in
      elim (test n) as (λ v. test n ≡ v → fold (λ most t. max most (count t)) m (list_map inh (cond v (n ∷ filter test ns) (filter test ns))) ≤ b) [
        | true ↦ λ t.
            let here : count (inh n) ≤ b = each n (ap (λ v. v || list_any (bytes_eq n) ns) ((bytes_decides n n).1 refl)) t in
            at_most b ns (max m (count (inh n))) (omega (arith, here)) rest
        | false ↦ λ t. at_most b ns m le rest
      ] refl
    where
      or_right : (x y : Bool) → y ≡ true → (x || y) ≡ true
      or_right true y h = refl
      or_right false y h = h

-- ---- the classes of a map

some_of : (classes : Classes) (q : Name) (o : Option ClassRow) → map.get classes q ≡ o → is_some o ≡ true → (row : ClassRow) × (map.get classes q ≡ Some row)
some_of classes q None is h = absurd (true≢false (sym h))
some_of classes q (Some row) is h = (row, is)

pub some_row : (classes : Classes) (q : Name) → map.contains_key classes q ≡ true → (row : ClassRow) × (map.get classes q ≡ Some row)
some_row classes q h = some_of classes q (map.get classes q) refl h

pub listed : (classes : Classes) (q : Name) → list_any (bytes_eq q) (map.keys classes) ≡ map.contains_key classes q
listed classes q = (λ i. list_any (λ n. texts_ties q n i) (map.keys classes)) ∙ sym (map.contains_key-keys classes q)
