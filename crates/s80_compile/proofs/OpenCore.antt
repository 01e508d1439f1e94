-- Core trees in memory, opened by one layer.
use Rattle.std.proofs.Common.{◌≡◌, ℕ, ◌+◌, ◌<◌, ◌≤◌, List, ◌∷◌, map, length, drop, get_or, ap, sym, ◌∙◌}
use Rattle.std.proofs.lemmas.List.{drop_all, drop_more}
use Rattle.s80_core.specs.declared.core_tree.Leaf.{Leaf}
use Rattle.s80_core.specs.declared.core_tree.Core.{Core, roll-Core, map-Core, fold-roll-Core}
use Rattle.s80_core.specs.declared.core_tree.Core.TheVariants as kind
use Rattle.s80_core.specs.declared.core_tree.Core.TheOpen as layer
use Rattle.s80_core.specs.declared.core_tree.Cores.{Cores, out-Cores, fold_out-Cores}
use Rattle.s80_core.specs.declared.core_tree.CoreMessage.{CoreMessage, out-CoreMessage, fold_out-CoreMessage}
use Rattle.s80_core.specs.declared.core_tree.CoreMessages.{CoreMessages, out-CoreMessages, fold_out-CoreMessages}
use Rattle.s80_core.specs.Core.{CoreTree, CoreTrees, SendTree, SendTrees, leaf, cores, cores_from, cores_of, core_of, no_cores, sends_from, sends_of, send_of, leaf_of, core_layer, send_layer, sends_layer, cores_layer}

core_roll : (o : _) → core_of (roll-Core o) ≡ core_layer (map-Core _ _ _ _ _ _ _ _ core_of send_of sends_of cores_of o)
core_roll o = fold-roll-Core CoreTree SendTree SendTrees CoreTrees core_layer send_layer sends_layer cores_layer o

pub leaf_open : (l : Leaf) → core_of (kind.Leaf l) ≡ leaf (leaf_of l)
leaf_open l = ap core_of (sym (kind.rolls-Leaf l)) ∙ core_roll (layer.Leaf l)

pub cores_open : (cs : Cores) → cores_of cs ≡ cores_from (map core_of (out-Cores cs).items.items)
cores_open cs = fold_out-Cores CoreTree SendTree SendTrees CoreTrees core_layer send_layer sends_layer cores_layer cs

pub message_open : (m : CoreMessage) → send_of m ≡ ((out-CoreMessage m).selector, cores_of (out-CoreMessage m).arguments)
message_open m = fold_out-CoreMessage CoreTree SendTree SendTrees CoreTrees core_layer send_layer sends_layer cores_layer m

pub sends_open : (ms : CoreMessages) → sends_of ms ≡ sends_from (map send_of (out-CoreMessages ms).items.items)
sends_open ms = fold_out-CoreMessages CoreTree SendTree SendTrees CoreTrees core_layer send_layer sends_layer cores_layer ms

left_at : {X : Type 0} (xs : List X) (i : ℕ) (x : X) → i < length xs → x ≡ get_or xs i x → drop i xs ≡ x ∷ drop (i + 1) xs
left_at xs i x within is = drop_more xs i x within ∙ ap (λ y. y ∷ drop (i + 1) xs) (sym is)

abbrev pub cores_left : List Core → ℕ → CoreTrees
cores_left xs i = cores_from (map core_of (drop i xs))

pub cores_next : (xs : List Core) (i : ℕ) (x : Core) → i < length xs → x ≡ get_or xs i x → cores_left xs i ≡ cores (core_of x) (cores_left xs (i + 1))
cores_next xs i x within is = ap (λ l. cores_from (map core_of l)) (left_at xs i x within is)

pub cores_done : (xs : List Core) (i : ℕ) → length xs ≤ i → cores_left xs i ≡ no_cores
cores_done xs i past = ap (λ l. cores_from (map core_of l)) (drop_all i xs past)
