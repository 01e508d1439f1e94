-- How heavy a core tree is: each call of the emitter is for something lighter.
use Rattle.std.proofs.Common.{◌≡◌, ℕ, zero, suc, ◌+◌, ◌<◌, ◌≤◌, List, [], ◌∷◌, map, length, drop, get_or, ap, arith}
use Rattle.s80_core.specs.declared.core_tree.Core.{Core}
use Rattle.s80_core.specs.declared.core_tree.Cores.{Cores, out-Cores}
use Rattle.s80_core.specs.declared.core_tree.CoreMessage.{CoreMessage, out-CoreMessage}
use Rattle.s80_core.specs.Core.{CoreTree, CoreTrees, SendTrees, leaf, assign, value, send, cascade, real_block, two_arms, one_arm, shortcut, repeat, nothing, before, answer, answer_fixed, leave, no_cores, cores, no_sends, sends, core_of, cores_of, cores_from, send_of}
use Rattle.s80_compile.proofs.OpenCore.{cores_open, message_open, cores_left, cores_next}

abbrev mutual
  pub weight : CoreTree → ℕ
  weight (leaf l) = 3
  weight (assign v e) = 3 + weight e
  weight (value e) = 3 + weight e
  weight (send r to_super s es) = 4 + weight r + weight_all es
  weight (cascade r to_super ms) = 4 + weight r + weight_sends ms
  weight (real_block first n e) = 3 + weight e
  weight (two_arms on c a b) = 4 + weight c + weight a + weight b
  weight (one_arm on c a) = 4 + weight c + weight a
  weight (shortcut on c a) = 4 + weight c + weight a
  weight (repeat on c e) = 4 + weight c + weight e
  weight nothing = 3
  weight (before a b) = 3 + weight a + weight b
  weight (answer e) = 3 + weight e
  weight (answer_fixed n) = 3
  weight (leave e) = 3 + weight e

  pub weight_all : CoreTrees → ℕ
  weight_all no_cores = 0
  weight_all (cores c cs) = 1 + weight c + weight_all cs

  pub weight_sends : SendTrees → ℕ
  weight_sends no_sends = 0
  weight_sends (sends s es ms) = 2 + weight_all es + weight_sends ms

-- a message weighs what its arguments weigh
pub message_weight : (m : CoreMessage) → weight_all (send_of m).1 ≡ weight_all (cores_of (out-CoreMessage m).arguments)
message_weight m = ap (λ x. weight_all x.1) (message_open m)

left_weight : (xs : List Core) (i : ℕ) → weight_all (cores_from (map core_of (drop i xs))) ≤ weight_all (cores_from (map core_of xs))
left_weight xs zero = omega arith
left_weight [] (suc i) = omega arith
left_weight (x ∷ xs) (suc i) = let less = left_weight xs i in omega (arith, less)

-- each argument is lighter than all
pub argument_lighter : (es : Cores) (i : ℕ) (x : Core) → i < length (out-Cores es).items.items → x ≡ get_or (out-Cores es).items.items i x → weight (core_of x) < weight_all (cores_of es)
argument_lighter es i x within is =
    let xs = (out-Cores es).items.items in
    let all : weight_all (cores_of es) ≡ weight_all (cores_from (map core_of xs)) = ap weight_all (cores_open es) in
    let next : weight_all (cores_left xs i) ≡ weight_all (cores (core_of x) (cores_left xs (i + 1))) = ap weight_all (cores_next xs i x within is) in
    let less = left_weight xs i in
    omega (arith, all, next, less)
