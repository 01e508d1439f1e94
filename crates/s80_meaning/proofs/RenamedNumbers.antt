-- Two tables of the same classes: each class's number in the one gives its number in the other.
use Rattle.std.proofs.Common.{◌≡◌, ◌∙◌, ◌+◌, ◌<◌, ℕ, refl, sym, ap, List, length, Option, Some, None, true, unwrap_or, option_and_then, slice_get, arith}
use Rattle.std.specs.Option.{option_map}
use Rattle.std.specs.FinMap as map_of
use Rattle.std.proofs.lemmas.Option.{slice_get_within}
use Rattle.s80_kernel.specs.Rows.{is_kernel_class}
use Rattle.s80_class.specs.Classes.{Name, ClassRow}
use Rattle.s80_class.specs.Known.{IsKnown}
use Rattle.s80_class.specs.Lookup.{number}
use Rattle.s80_class.specs.Table.{Table, IsNumberOf, name_of, number_of}
use Rattle.s80_class.proofs.lemmas.Numbers.{has_number, number_is, number_names}

-- the other number of a class by its name, and past all classes what is none
abbrev pub number_by : Table → ℕ → Option Name → ℕ
number_by u c None = length u.names + c
number_by u c (Some name) = number u name

abbrev pub renumbered : Table → Table → ℕ → ℕ
renumbered t u c = number_by u c (name_of t.names c)

-- what the other numbers keep
pub record IsRenumbering (t u : Table) (r : ℕ → ℕ) : Type 0 where
  pub classes : u.classes ≡ t.classes
  pub injective : (c d : ℕ) → r c ≡ r d → c ≡ d
  pub named : (c : ℕ) → name_of u.names (r c) ≡ name_of t.names c
  pub numbers : (name : Name) → number_of u.names name ≡ option_map r (number_of t.names name)
  pub there : (name : Name) (row : ClassRow) → map_of.get t.classes name ≡ Some row → number u name ≡ r (number t name)
  pub kernel : (name : Name) → is_kernel_class name ≡ true → number u name ≡ r (number t name)

-- ---- lists of names

pub named_so : (names : List (Option Name)) (c : ℕ) (name : Name) → name_of names c ≡ Some name → IsNumberOf names c name
named_so names c name is = of (slice_get names c) is
  where
    of : (o : Option (Option Name)) → option_and_then (λ n. n) o ≡ Some name → o ≡ Some (Some name)
    of None is = cc
    of (Some n) is = ap (λ m. Some m) is

name_there : (names : List (Option Name)) (c : ℕ) (name : Name) → IsNumberOf names c name → name_of names c ≡ Some name
name_there names c name is = ap (option_and_then (λ n. n)) is

past_end : (names : List (Option Name)) (c : ℕ) → name_of names (length names + c) ≡ None
past_end names c = of (slice_get names (length names + c)) refl
  where
    of : (o : Option (Option Name)) → slice_get names (length names + c) ≡ o → option_and_then (λ n. n) o ≡ None
    of None is = refl
    of (Some n) is = let within : length names + c < length names = slice_get_within names (length names + c) n is in absurd (omega arith)

module _ (t u : Table) (known : IsKnown t) (other : IsKnown u) (same : u.classes ≡ t.classes) (kernel_there : (name : Name) → is_kernel_class name ≡ true → (row : ClassRow) × (map_of.get t.classes name ≡ Some row)) where
  -- a class of the one is one of the other
  there_too : (name : Name) (row : ClassRow) → map_of.get t.classes name ≡ Some row → IsNumberOf u.names (number u name) name
  there_too name row is = let n = other.numbered name row (ap (λ m. map_of.get m name) same ∙ is) in number_is u name n.0 n.1

  number_there : (name : Name) (row : ClassRow) → map_of.get t.classes name ≡ Some row → IsNumberOf t.names (number t name) name
  number_there name row is = let n = known.numbered name row is in number_is t name n.0 n.1

  is_named : (c : ℕ) → name_of u.names (renumbered t u c) ≡ name_of t.names c
  is_named c = of (name_of t.names c) refl
    where
      of : (o : Option Name) → name_of t.names c ≡ o → name_of u.names (number_by u c o) ≡ o
      of None is = past_end u.names c
      of (Some name) is = let row = known.known c name (named_so t.names c name is) in name_there u.names (number u name) name (there_too name row.0 row.1)

  is_injective : (c d : ℕ) → renumbered t u c ≡ renumbered t u d → c ≡ d
  is_injective c d e = of (name_of t.names c) refl (name_of t.names d) refl (sym (is_named c) ∙ ap (name_of u.names) e ∙ is_named d)
    where
      of : (o : Option Name) → name_of t.names c ≡ o → (p : Option Name) → name_of t.names d ≡ p → name_of t.names c ≡ name_of t.names d → c ≡ d
      of None is None both alike =
          let past : length u.names + c ≡ length u.names + d = ap (number_by u c) (sym is) ∙ e ∙ ap (number_by u d) both in omega arith
      of None is (Some name) both alike = cc
      of (Some name) is None both alike = cc
      of (Some name) is (Some word) both alike = known.one_number c d name (named_so t.names c name is) (named_so t.names d name (sym alike ∙ is))

  of_number : (name : Name) (row : ClassRow) → map_of.get t.classes name ≡ Some row → number u name ≡ renumbered t u (number t name)
  of_number name row is = sym (ap (number_by u (number t name)) (name_there t.names (number t name) name (number_there name row is)))

  is_numbers : (name : Name) → number_of u.names name ≡ option_map (renumbered t u) (number_of t.names name)
  is_numbers name = of (number_of t.names name) refl
    where
      none : number_of t.names name ≡ None → (o : Option ℕ) → number_of u.names name ≡ o → o ≡ None
      none missing None is = refl
      none missing (Some d) is =
          let row = other.known d name (number_names u.names name d is) in
          let n = known.numbered name row.0 (ap (λ m. map_of.get m name) (sym same) ∙ row.1) in
          let k = has_number t.names name n.0 n.1 in
          let bad : None ≡ Some k.0 = sym missing ∙ k.1 in
          cc

      of : (o : Option ℕ) → number_of t.names name ≡ o → number_of u.names name ≡ option_map (renumbered t u) o
      of None is = none is (number_of u.names name) refl
      of (Some c) is =
          let own : IsNumberOf t.names c name = number_names t.names name c is in
          let row = known.known c name own in
          let k = has_number u.names name (number u name) (there_too name row.0 row.1) in
          let here : k.0 ≡ number u name = sym (ap (λ o. unwrap_or o 0) k.1) in
          let by : renumbered t u c ≡ number u name = ap (number_by u c) (name_there t.names c name own) in
          k.1 ∙ ap (λ n. Some n) (here ∙ sym by)

  pub is_renumbering : IsRenumbering t u (renumbered t u)
  is_renumbering = record {
    classes = same;
    injective = is_injective;
    named = is_named;
    numbers = is_numbers;
    there = of_number;
    kernel = λ name is. let row = kernel_there name is in of_number name row.0 row.1;
  }
