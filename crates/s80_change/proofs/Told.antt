-- Each measure of what a short text means can be told.
use Rattle.std.proofs.Common.{◌≡◌, ℕ, ◌^◌, ◌<◌, ◌≤◌, List, length, ap, arith}
use Rattle.s80_tree.specs.Tree.{MethodParts, DoItParts}
use Rattle.s80_syntax.specs.Text.{IsMethodOf, IsDoItOf}
use Rattle.s80_scope.specs.Fit.{AreTold, fit, measures, cut_measures}
use Rattle.s80_scope.specs.Walk.{cut}
use Rattle.s80_change.specs.Check.{as_method, size_refusal, too_large}
use Rattle.s80_change.proofs.TreeSizes.{method_size, method_within, doit_within}
use Rattle.s80_change.proofs.TreeEntries.{literals_most}
use Rattle.s80_change.proofs.TreeNeeds.{temporaries_most, stack_most}
use Rattle.s80_change.proofs.TreeWeights.{weight_most}

small_told : (m : MethodParts) → method_size m ≤ 65535 → AreTold (measures m)
small_told m small = record {
  literals = omega (arith, literals_most m);
  temporaries = omega (arith, temporaries_most m);
  stack = omega (arith, stack_most m);
  weight = omega (arith, weight_most m);
}

pub method_told : (text : List ℕ) (m : MethodParts) → length text ≤ 65535 → IsMethodOf text m → AreTold (measures m)
method_told text m short is = small_told m (omega (arith, method_within text m is))

pub doit_told : (text : List ℕ) (d : DoItParts) → length text ≤ 65535 → IsDoItOf text d → AreTold (measures (as_method d))
doit_told text d short is = small_told (as_method d) (omega (arith, doit_within text d is))

cut_none : (n : ℕ) → n < 2 ^ 32 → cut n ≡ n
cut_none n less = omega arith

uncut : (m : MethodParts) → AreTold (measures m) → cut_measures (measures m) ≡ measures m
uncut m told =
    let p = cut_none (measures m).literals told.literals in
    let q = cut_none (measures m).temporaries told.temporaries in
    let r = cut_none (measures m).stack told.stack in
    let s = cut_none (measures m).weight told.weight in
    λ i. record { literals = p i; temporaries = q i; stack = r i; weight = s i }

pub refusal_exact : (m : MethodParts) → AreTold (measures m) → size_refusal m ≡ too_large (fit (measures m))
refusal_exact m told = ap (λ x. too_large (fit x)) (uncut m told)
