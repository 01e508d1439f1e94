-- Messages have few arguments where the stack is small: each stands on it.
use Rattle.std.proofs.Common.{ℕ, ◌+◌, ◌≤◌, max, arith}
use Rattle.s80_scope.specs.FitStack.{Needs, at_least, greatest, above}
use Rattle.s80_scope.specs.FitStack as stack
use Rattle.s80_core.specs.Core.{CoreTree, CoreTrees, SendTrees, leaf, assign, value, send, cascade, real_block, two_arms, one_arm, shortcut, repeat, nothing, before, answer, answer_fixed, leave, no_cores, cores, no_sends, sends, count}
use Rattle.s80_core.specs.Measures.{needs, needs_all, needs_sends, HasFewArguments, AllHaveFewArguments, SendsHaveFewArguments}

abbrev pub IsLow : Needs → Type 0
IsLow n = (n.here ≤ 32) × (n.inside ≤ 32)

first_low : (a b : Needs) → IsLow (greatest a b) → IsLow a
first_low a b h = let here : max a.here b.here ≤ 32 = h.0 in let inside : max a.inside b.inside ≤ 32 = h.1 in (omega arith, omega arith)

second_low : (a b : Needs) → IsLow (greatest a b) → IsLow b
second_low a b h = let here : max a.here b.here ≤ 32 = h.0 in let inside : max a.inside b.inside ≤ 32 = h.1 in (omega arith, omega arith)

low_above : (n : ℕ) (a : Needs) → IsLow (above n a) → IsLow a
low_above n a h = let here : n + a.here ≤ 32 = h.0 in (omega arith, h.1)

-- what is reached by a jump, where a value may be missing
low_arm : (a b : Needs) → IsLow (greatest a (greatest b (at_least 1))) → IsLow b
low_arm a b h = first_low b (at_least 1) (second_low a (greatest b (at_least 1)) h)

low_body : (n : ℕ) (a : Needs) → IsLow (stack.real_block n a) → IsLow a
low_body n a h = let inside : max (max a.here (max n 1)) a.inside ≤ 32 = h.1 in (omega arith, omega arith)

-- each argument stands above those before it
counted : (n : ℕ) (es : CoreTrees) → n + count es ≤ (needs_all n es).here
counted n no_cores = omega arith
counted n (cores c cs) = let rest : (n + 1) + count cs ≤ (needs_all (n + 1) cs).here = counted (n + 1) cs in omega arith

few_counted : (n : ℕ) (es : CoreTrees) → 1 ≤ n → IsLow (needs_all n es) → count es ≤ 31
few_counted n es one low = let here : (needs_all n es).here ≤ 32 = low.0 in omega (arith, counted n es)

mutual
  pub has_few : (c : CoreTree) → IsLow (needs c) → HasFewArguments c
  has_few (leaf l) low = tt
  has_few (assign v e) low = has_few e low
  has_few (value e) low = has_few e low
  has_few (send r to_super s es) low =
      let all : IsLow (needs_all 1 es) = second_low (needs r) (needs_all 1 es) low in
      (has_few r (first_low (needs r) (needs_all 1 es) low), (all_have_few 1 es all, few_counted 1 es (omega arith) all))
  has_few (cascade r to_super ms) low = (has_few r (first_low (needs r) (needs_sends ms) low), sends_have_few ms (second_low (needs r) (needs_sends ms) low))
  has_few (real_block first n e) low = has_few e (low_body n (needs e) low)
  has_few (two_arms on c a b) low =
      let arms : IsLow (greatest (needs a) (needs b)) = second_low (needs c) (greatest (needs a) (needs b)) low in
      (has_few c (first_low (needs c) (greatest (needs a) (needs b)) low), (has_few a (first_low (needs a) (needs b) arms), has_few b (second_low (needs a) (needs b) arms)))
  has_few (one_arm on c a) low = (has_few c (first_low (needs c) (greatest (needs a) (at_least 1)) low), has_few a (low_arm (needs c) (needs a) low))
  has_few (shortcut on c a) low = (has_few c (first_low (needs c) (greatest (needs a) (at_least 1)) low), has_few a (low_arm (needs c) (needs a) low))
  has_few (repeat on c e) low = (has_few c (first_low (needs c) (greatest (needs e) (at_least 1)) low), has_few e (low_arm (needs c) (needs e) low))
  has_few nothing low = tt
  has_few (before a b) low = (has_few a (first_low (needs a) (needs b) low), has_few b (second_low (needs a) (needs b) low))
  has_few (answer e) low = has_few e low
  has_few (answer_fixed n) low = tt
  has_few (leave e) low = has_few e low

  all_have_few : (n : ℕ) (es : CoreTrees) → IsLow (needs_all n es) → AllHaveFewArguments es
  all_have_few n no_cores low = tt
  all_have_few n (cores c cs) low =
      (has_few c (low_above n (needs c) (first_low (above n (needs c)) (needs_all (n + 1) cs) low)), all_have_few (n + 1) cs (second_low (above n (needs c)) (needs_all (n + 1) cs) low))

  sends_have_few : (ms : SendTrees) → IsLow (needs_sends ms) → SendsHaveFewArguments ms
  sends_have_few no_sends low = tt
  sends_have_few (sends s es no_sends) low = ((all_have_few 1 es low, few_counted 1 es (omega arith) low), tt)
  sends_have_few (sends s es (sends t fs ms)) low =
      let all : IsLow (needs_all 2 es) = first_low (needs_all 2 es) (needs_sends (sends t fs ms)) low in
      ((all_have_few 2 es all, few_counted 2 es (omega arith) all), sends_have_few (sends t fs ms) (second_low (needs_all 2 es) (needs_sends (sends t fs ms)) low))
