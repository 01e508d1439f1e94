-- Whether a class has subclasses, by the pair that stands where the first of them would.
use Rattle.std.proofs.Common.{◌≡◌, ◌≢◌, ◌≤◌, ◌∙◌, ℕ, Bool, true, false, not, refl, sym, ap, List, [], length, Some, slice_get, arith}
use Rattle.std.specs.Option.{option_eq}
use Rattle.std.proofs.Math.Dec.{eqb}
use Rattle.std.proofs.lemmas.Option.{slice_get_within}
use Rattle.s80_class.specs.Classes.{Name, has_subclass}
use Rattle.s80_class.specs.Table.{Table, IsNumberOf, row_of}
use Rattle.s80_class.specs.Kept.{IsKept}
use Rattle.s80_class.specs.Below.{Pair, IsPlaceOf, IsIndexed}
use Rattle.s80_class.specs.Counted.{nothing}
use Rattle.s80_class.specs.Family.{IsBelow}
use Rattle.s80_class.proofs.lemmas.Numbers.{value}
use Rattle.s80_class.proofs.lemmas.Rows.{Entries}
use Rattle.s80_class.proofs.lemmas.Subclasses.{has_one, has_none}
use Rattle.s80_class.proofs.lemmas.Walks.{same_name}
use Rattle.s80_class.proofs.Calls.{shown}
use Rattle.s80_class.proofs.Families.{known_table}
use Rattle.s80_class.proofs.Indexed.{none_there, below_entry, entry_of_pair, nothing_read, are_subclasses, differs, same_number_of}

module _ (es : Entries) (order : List ℕ) (kept : IsKept es order) (pairs : List Pair) (indexed : IsIndexed es pairs) (spare : ℕ) (table : Table) (shows : shown es spare ≡ table)
    (c first : ℕ) (place : IsPlaceOf pairs (Some c, 0) first) (name : Name) (named : IsNumberOf table.names c name) where
  one_below : (x : ℕ) → slice_get pairs first ≡ Some (Some c, x) → has_subclass table.classes name ≡ true
  one_below x here =
      let e = entry_of_pair es order kept pairs indexed spare table shows (Some c, x) (first, here) in
      let below = below_entry table x c e.0 e.1 e.2 in
      has_one table.classes name below.name (row_of table.names e.0) below.here (below.superclass_is ∙ ap Some (same_name table c below.above name below.named_above named))

  none_below : ((p : Pair) → slice_get pairs first ≡ Some p → p.0 ≢ Some c) → has_subclass table.classes name ≡ false
  none_below last = has_none table.classes name (λ q row is above.
      let x = (known_table es order kept spare table shows).numbered q row is in
      let below : IsBelow table x.0 row c = record { name = q; above = name; named = x.1; here = is; superclass_is = above; named_above = named } in
      let found = (are_subclasses es order kept pairs indexed spare table shows c nothing first first [] (nothing_read table c nothing pairs first) place last).all x.0 row below in
      none_there found.0 (x.0, found.1) found.2)

  pub told_by_pair : (p : Pair) (same : Bool) → slice_get pairs first ≡ Some p → same ≡ option_eq eqb p.0 (Some c) → same ≡ has_subclass table.classes name
  told_by_pair p true here is = let of : p.0 ≡ Some c = same_number_of p.0 c false (ap not is) refl in sym (one_below p.1 (here ∙ (λ i. Some (of i, p.1))))
  told_by_pair p false here is =
      sym (none_below (λ q at same. differs p.0 c true (ap not is) refl (ap (λ (r : Pair). r.0) (value (here_is q at)) ∙ same)))
    where
      here_is : (q : Pair) → slice_get pairs first ≡ Some q → Some p ≡ Some q
      here_is q at = sym here ∙ at

  pub told_by_end : length pairs ≤ first → false ≡ has_subclass table.classes name
  told_by_end le = sym (none_below (λ p at same. let lt = slice_get_within pairs first p at in absurd (omega arith)))
