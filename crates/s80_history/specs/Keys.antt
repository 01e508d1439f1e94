-- The names of the methods that have versions, kept in order.
use Rattle.std.specs.Prelude.{◌≡◌, ◌<◌, nat_lt, List, [], ◌∷◌, length, map as list_map, Option, Some, None, option_map, IsSome, Vec, vec_len, vec_capacity}
use Rattle.std.specs.Global.{Global}
use Rattle.std.specs.List.Sorted.{IsStrictlySortedBy}
use Rattle.std.specs.declared.cmp.Ordering.{Ordering}
use Rattle.std.specs.declared.cmp.Ordering.TheVariants.{Less, Equal, Greater}
use Rattle.s80_history.specs.declared.keys.MethodKey.{MethodKey}
use Rattle.s80_history.specs.declared.noted.Noted.{Noted}
use Rattle.s80_history.specs.declared.noted.NotedKind.{NotedKind}
use Rattle.s80_history.specs.declared.noted.NotedKind.TheVariants as kinds
use Rattle.s80_history.specs.Lists.{MethodName}
use Rattle.s80_history.specs.Order.{is_among, name_cmp}
use Rattle.s80_history.specs.Topics.{name_of}
use Rattle.s80_history.specs.Traces.{Classes, versions_in}

abbrev pub key_name : MethodKey → MethodName
key_name key = record { class_name = key.class_name; side = key.side; selector = key.selector }

abbrev pub names_in : List MethodKey → List MethodName
names_in keys = list_map key_name keys

-- a name put among names that are in order, at its place before a name or behind it; or that name is its own
abbrev pub put_by : Ordering → MethodName → MethodName → List MethodName → List MethodName → List MethodName
put_by Less name n names more = n ∷ more
put_by Equal name n names more = n ∷ names
put_by Greater name n names more = name ∷ n ∷ names

abbrev pub with_name : MethodName → List MethodName → List MethodName
with_name name [] = name ∷ []
with_name name (n ∷ names) = put_by (name_cmp n name) name n names (with_name name names)

abbrev pub with_names : Option MethodName → List MethodName → List MethodName
with_names None names = names
with_names (Some name) names = with_name name names

-- the method that a member of this kind puts
abbrev pub name_put : NotedKind → MethodName → Option MethodName
name_put kinds.Method name = Some name
name_put _ name = None

abbrev pub name_ready : Option Noted → Option MethodName
name_ready None = None
name_ready (Some m) = name_put m.kind (name_of m)

-- the names of all methods that have versions, and room for that of the member which is ready
pub record AreKept (classes : Classes) (keys : Vec MethodKey Global) (next : Option Noted) (key : Option MethodKey) : Type 0 where
  pub sorted : IsStrictlySortedBy name_cmp (names_in keys.items)
  pub those : (name : MethodName) → is_among name (names_in keys.items) ≡ nat_lt 0 (length (versions_in classes name))
  pub ready : option_map key_name key ≡ name_ready next
  pub room : IsSome key → vec_len keys < vec_capacity keys
