-- The order of keys: by their kinds, then by the names of their classes, then by their sides, then by their selectors.
use Rattle.std.specs.Prelude.{ℕ, List, [], Bool, false, refl, Some}
use Rattle.std.specs.Ordering.{bool_cmp, eq_by_cmp, nat_cmp, on, then_cmp}
use Rattle.std.specs.Cmp.{IsEquivalence, IsPartialEquivalence, IsPartialOrder, IsTotalOrder, bool_cmp_total, eq_by_cmp_equiv, nat_cmp_total, on_total, partial_equiv_from_equiv, partial_order_from_agreeing_total, then_total}
use Rattle.std.specs.Cmp.Lexicographic.{nat_list_cmp_total, slice_cmp}
use Rattle.std.specs.declared.cmp.Ordering.{Ordering}
use Rattle.std.specs.List.{list_any}
use Rattle.s80_class.specs.Classes.{Name}
use Rattle.s80_apply.specs.State.{on_class_side}
use Rattle.s80_merge.specs.declared.key.Key.{Key}
use Rattle.s80_merge.specs.declared.key.Key.TheVariants.{ClassKey, DefinitionKey, ClassVarsKey, CommentKey, MethodKey}

abbrev pub kind_of : Key → ℕ
kind_of (ClassKey name) = 0
kind_of (DefinitionKey name) = 1
kind_of (ClassVarsKey name) = 2
kind_of (CommentKey name) = 3
kind_of (MethodKey name side selector) = 4

abbrev pub class_of : Key → Name
class_of (ClassKey name) = name
class_of (DefinitionKey name) = name
class_of (ClassVarsKey name) = name
class_of (CommentKey name) = name
class_of (MethodKey name side selector) = name

abbrev pub is_of_class_side : Key → Bool
is_of_class_side (MethodKey name side selector) = on_class_side side
is_of_class_side _ = false

abbrev pub selector_of : Key → List ℕ
selector_of (MethodKey name side selector) = selector
selector_of _ = []

abbrev pub key_cmp : Key → Key → Ordering
key_cmp = then_cmp (then_cmp (then_cmp (on kind_of nat_cmp) (on class_of (slice_cmp nat_cmp))) (on is_of_class_side bool_cmp)) (on selector_of (slice_cmp nat_cmp))

abbrev pub same_key : Key → Key → Bool
same_key one other = eq_by_cmp key_cmp one other

-- whether the key is among these
abbrev pub has : Key → List Key → Bool
has key keys = list_any (same_key key) keys

-- ---- its laws

pub key_total : IsTotalOrder key_cmp
key_total = then_total (then_total (then_total (on_total kind_of nat_cmp_total) (on_total class_of nat_list_cmp_total)) (on_total is_of_class_side bool_cmp_total)) (on_total selector_of nat_list_cmp_total)

pub key_equiv : IsEquivalence same_key
key_equiv = eq_by_cmp_equiv key_total

pub key_per : IsPartialEquivalence same_key
key_per = partial_equiv_from_equiv key_equiv

pub key_po : IsPartialOrder same_key (λ one other. Some (key_cmp one other))
key_po = partial_order_from_agreeing_total key_cmp key_total (λ one other. refl) (λ one other. refl)
