-- The subclasses of each class, as they are kept: pairs of a superclass and the number of a class.
use Rattle.std.specs.Prelude.{◌≡◌, ◌≢◌, ◌<◌, ◌≤◌, ℕ, Bool, true, false, List, length, Option, Some, slice_get, ◌⊎◌}
use Rattle.std.specs.Option.{option_cmp}
use Rattle.std.specs.Ordering.{nat_cmp, is_lt, ordering_then}
use Rattle.std.specs.declared.cmp.Ordering.{Ordering}
use Rattle.s80_class.specs.declared.entry.ClassEntry.{ClassEntry}

-- none is the superclass of a class that has none
abbrev pub Pair : Type 0
Pair = Option ℕ × ℕ

abbrev pub compared : Pair → Pair → Ordering
compared p q = ordering_then (option_cmp nat_cmp p.0 q.0) (nat_cmp p.1 q.1)

abbrev pub comes_before : Pair → Pair → Bool
comes_before p q = is_lt (compared p q)

abbrev pub Has : List Pair → Pair → Type 0
Has pairs pair = (k : ℕ) × (slice_get pairs k ≡ Some pair)

abbrev pub IsOrdered : List Pair → Type 0
IsOrdered pairs = (i j : ℕ) (p q : Pair) → i < j → slice_get pairs i ≡ Some p → slice_get pairs j ≡ Some q → comes_before p q ≡ true

-- so many of the pairs come before this one
pub record IsPlaceOf (pairs : List Pair) (pair : Pair) (place : ℕ) : Type 0 where
  pub within : place ≤ length pairs
  pub before : (k : ℕ) (p : Pair) → k < place → slice_get pairs k ≡ Some p → comes_before p pair ≡ true
  pub behind : (k : ℕ) (p : Pair) → place ≤ k → slice_get pairs k ≡ Some p → comes_before p pair ≡ false

-- ---- changes

pub record IsWith (old : List Pair) (pair : Pair) (new : List Pair) : Type 0 where
  pub ordered : IsOrdered new
  pub there : Has new pair
  pub kept : (q : Pair) → Has old q → Has new q
  pub only : (q : Pair) → Has new q → Has old q ⊎ (q ≡ pair)

pub record IsWithout (old : List Pair) (pair : Pair) (new : List Pair) : Type 0 where
  pub ordered : IsOrdered new
  pub kept : (q : Pair) → Has old q → q ≢ pair → Has new q
  pub only : (q : Pair) → Has new q → Has old q × (q ≢ pair)

-- this class has another superclass, and the others have theirs
pub record IsMoved (old : List Pair) (number : ℕ) (superclass : Option ℕ) (new : List Pair) : Type 0 where
  pub ordered : IsOrdered new
  pub there : Has new (superclass, number)
  pub kept : (q : Pair) → Has old q → q.1 ≢ number → Has new q
  pub only : (q : Pair) → Has new q → (Has old q × (q.1 ≢ number)) ⊎ (q ≡ (superclass, number))

-- ---- the pairs of a table

-- they are those of its entries
pub record IsIndexed (entries : List (Option ClassEntry)) (pairs : List Pair) : Type 0 where
  pub ordered : IsOrdered pairs
  pub listed : (i : ℕ) (e : ClassEntry) → slice_get entries i ≡ Some (Some e) → Has pairs (e.superclass, i)
  pub only : (p : Pair) → Has pairs p → (e : ClassEntry) × (slice_get entries p.1 ≡ Some (Some e)) × (e.superclass ≡ p.0)
