-- The methods that have versions, in order.
use Rattle.std.specs.Prelude.{◌≡◌, ℕ, Bool, nat_lt, List, length}
use Rattle.std.specs.List.{list_any}
use Rattle.std.specs.List.Sorted.{IsStrictlySortedBy}
use Rattle.std.specs.declared.cmp.Ordering.{Ordering}
use Rattle.std.specs.Ordering.{nat_cmp, ordering_then}
use Rattle.std.specs.Cmp.Lexicographic.{slice_cmp}
use Rattle.s80_base.specs.declared.names.Side.{Side}
use Rattle.s80_base.specs.declared.names.Side.TheVariants.{Instance, Class}
use Rattle.s80_history.specs.History.{HistoryState, version_places}
use Rattle.s80_history.specs.Lists.{MethodName, is_same}

abbrev pub rank : Side → ℕ
rank Instance = 0
rank Class = 1

-- by the bytes of their classes, then the instance side before the class side, then by the bytes of their selectors
abbrev pub name_cmp : MethodName → MethodName → Ordering
name_cmp one other =
    ordering_then (ordering_then (slice_cmp nat_cmp one.class_name other.class_name) (nat_cmp (rank one.side) (rank other.side))) (slice_cmp nat_cmp one.selector other.selector)

abbrev pub is_among : MethodName → List MethodName → Bool
is_among name names = list_any (is_same name) names

abbrev pub has_versions : HistoryState → MethodName → Bool
has_versions h name = nat_lt 0 (length (version_places h name))

-- these are the methods that have versions, whether or not they are there any more, each before the next
pub record AreMethodsOf (h : HistoryState) (names : List MethodName) : Type 0 where
  pub sorted : IsStrictlySortedBy name_cmp names
  pub those : (name : MethodName) → is_among name names ≡ has_versions h name
