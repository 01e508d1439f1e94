-- Lists of core trees in memory, opened by one layer.
use Rattle.std.proofs.Common.{◌≡◌, List, [], ◌∷◌, ◌++◌, map, refl, ap}
use Rattle.s80_tree.proofs.lemmas.Lists.{map_append}
use Rattle.s80_core.specs.declared.core_tree.Cores.{Cores, out-Cores, fold_out-Cores, out-roll-Cores}
use Rattle.s80_core.specs.declared.core_tree.CoreMessages.{CoreMessages, out-CoreMessages, fold_out-CoreMessages, out-roll-CoreMessages}
use Rattle.s80_core.specs.Core.{CoreTree, CoreTrees, SendTree, SendTrees, cores, cores_from, cores_of, core_of, no_cores, no_sends, sends, sends_from, sends_of, send_of, core_layer, send_layer, sends_layer, cores_layer}
use Rattle.s80_core.specs.Walk.{cores_append, sends_append}

pub cores_open : (cs : Cores) → cores_of cs ≡ cores_from (map core_of (out-Cores cs).items.items)
cores_open cs = fold_out-Cores CoreTree SendTree SendTrees CoreTrees core_layer send_layer sends_layer cores_layer cs

pub sends_open : (ms : CoreMessages) → sends_of ms ≡ sends_from (map send_of (out-CoreMessages ms).items.items)
sends_open ms = fold_out-CoreMessages CoreTree SendTree SendTrees CoreTrees core_layer send_layer sends_layer cores_layer ms

pub cores_from_push : (cs : List CoreTree) (c : CoreTree) → cores_from (cs ++ c ∷ []) ≡ cores_append (cores_from cs) (cores c no_cores)
cores_from_push [] c = refl
cores_from_push (d ∷ cs) c = ap (cores d) (cores_from_push cs c)

pub sends_from_push : (ms : List SendTree) (m : SendTree) → sends_from (ms ++ m ∷ []) ≡ sends_append (sends_from ms) (sends m.0 m.1 no_sends)
sends_from_push [] m = refl
sends_from_push (n ∷ ms) m = ap (sends n.0 n.1) (sends_from_push ms m)

pub ruleset cores_added = (cores_open, map_append, out-roll-Cores, cores_from_push)

pub ruleset sends_added = (sends_open, map_append, out-roll-CoreMessages, sends_from_push)
