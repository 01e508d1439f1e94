-- The numbers of a class and its descendants, by those that were found with the totals that it has.
use Rattle.std.proofs.Common.{◌≡◌, ◌<◌, ◌+◌, ◌++◌, ◌∙◌, ℕ, true, false, refl, sym, ap, subst, List, [], ◌∷◌, length, get_or, take, map as list_map, cond, Option, Some, None, is_some, slice_get}
use Rattle.std.specs.Option.{option_map}
use Rattle.std.specs.Str.{bytes_eq}
use Rattle.std.specs.Cmp.Lexicographic.{bytes_decides, nat_list_cmp_total}
use Rattle.std.specs.FinMap as map
use Rattle.std.proofs.lemmas.List.{map-append, take_more}
use Rattle.std.proofs.lemmas.Option.{slice_get-map}
use Rattle.s80_class.specs.declared.inherited.Totals.{Totals}
use Rattle.s80_class.specs.Classes.{Name, ClassRow, Classes, IsValid, inherited_of, is_under}
use Rattle.s80_class.specs.Counted.{totals}
use Rattle.s80_class.specs.Table.{Table, IsNumberOf}
use Rattle.s80_class.specs.Family.{Found, IsFamily, FindsFamily, AreFamily}
use Rattle.s80_class.specs.Known.{IsKnown}
use Rattle.s80_class.proofs.lemmas.Lines.{get-inserted}

abbrev pub numbers_of : List Found → List ℕ
numbers_of found = list_map (λ p. p.0) found

-- one more of them
pub numbers_more : (numbers : List ℕ) (found : List Found) (index number : ℕ) (d : Found) → index < length found → number ≡ (get_or found index d).0 → numbers ≡ numbers_of (take index found)
    → numbers ++ number ∷ [] ≡ numbers_of (take (index + 1) found)
numbers_more numbers found index number d lt is so_far =
    ap (λ n. numbers ++ n ∷ []) is
    ∙ ap (λ ns. ns ++ (get_or found index d).0 ∷ []) so_far
    ∙ sym (map-append (λ (p : Found). p.0) (take index found) (get_or found index d ∷ []))
    ∙ ap numbers_of (sym (take_more found index d lt))

-- its own row changes nothing
own_row : (m : Classes) (k : Name) (row : ClassRow) → map.get m k ≡ Some row → map.insert m k row ≡ m
own_row m k row is = map.same_map nat_list_cmp_total (map.slice_cmp-IsAntisymmetric map.nat_cmp-IsAntisymmetric) _ _ (λ q.
    elim (bytes_eq q k) as (λ b. bytes_eq q k ≡ b → map.get (map.insert m k row) q ≡ map.get m q) [
      | true ↦ λ t. let same : q ≡ k = (bytes_decides q k).0 t in
          get-inserted m k row q ∙ ap (λ b. cond b (Some row) (map.get m q)) t ∙ sym is ∙ ap (map.get m) (sym same)
      | false ↦ λ t. get-inserted m k row q ∙ ap (λ b. cond b (Some row) (map.get m q)) t
    ] refl)

-- one that was found with a number
with_number : (found : List Found) (k number : ℕ) → slice_get (numbers_of found) k ≡ Some number → (p : Found) × (slice_get found k ≡ Some p) × (p.0 ≡ number)
with_number found k number h = go (slice_get found k) refl (sym (slice_get-map (λ (p : Found). p.0) found k) ∙ h)
  where
    go : (o : Option Found) → slice_get found k ≡ o → option_map (λ (p : Found). p.0) o ≡ Some number → (p : Found) × (slice_get found k ≡ Some p) × (p.0 ≡ number)
    go None at h = absurd (let bad : None ≡ Some number = h in cc)
    go (Some p) at h = (p, at, (let e : Some p.0 ≡ Some number = h in cc))

module _ (table : Table) (is : IsKnown table) (c : ℕ) (top : Totals) (found : List Found) (finds : FindsFamily table c top found) (name : Name) (named : IsNumberOf table.names c name)
    (is_top : top ≡ totals (inherited_of table.classes name)) where
  family_now : IsFamily table.names table.classes name found
  family_now =
      let row = is.known c name named in
      let same : map.insert table.classes name row.0 ≡ table.classes = own_row table.classes name row.0 row.1 in
      subst (λ (m : Classes). IsFamily table.names m name found) same
      (finds name row.0 named (subst IsValid (sym same) is.valid) (is_top ∙ ap (λ (m : Classes). totals (inherited_of m name)) (sym same)))

  pub are_members : (numbers : List ℕ) → numbers ≡ numbers_of found → AreFamily table name numbers
  are_members numbers are = subst (AreFamily table name) (sym are) (record { distinct = distinct; each = each; all = all })
    where
      distinct : (j k number : ℕ) → slice_get (numbers_of found) j ≡ Some number → slice_get (numbers_of found) k ≡ Some number → j ≡ k
      distinct j k number a b =
          let p = with_number found j number a in
          let q = with_number found k number b in
          family_now.distinct j k p.0 q.0 p.1 q.1 (p.2 ∙ sym q.2)

      each : (k number : ℕ) → slice_get (numbers_of found) k ≡ Some number → (q : Name) × IsNumberOf table.names number q × (is_under table.classes q name ≡ true)
      each k number at =
          let p = with_number found k number at in
          let q = family_now.each k p.0 p.1 in
          (q.0, subst (λ n. IsNumberOf table.names n q.0) p.2 q.1, q.3)

      all : (number : ℕ) (q : Name) → IsNumberOf table.names number q → is_under table.classes q name ≡ true → (k : ℕ) × (slice_get (numbers_of found) k ≡ Some number)
      all number q is_q under =
          let row = is.known number q is_q in
          let p = family_now.all q (ap is_some row.1) under in
          (p.0, slice_get-map (λ (p : Found). p.0) found p.0 ∙ ap (option_map (λ (p : Found). p.0)) p.2 ∙ ap Some (is.one_number p.1.0 number q p.3 is_q))
