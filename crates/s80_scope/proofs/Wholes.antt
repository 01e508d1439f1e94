-- Whole methods.
use Rattle.std.proofs.Common.{◌≡◌, ℕ, ◌+◌, max, false, List, length, ap, ◌∙◌, arith}
use Rattle.std.specs.FinSet as set
use Rattle.s80_tree.specs.declared.name.NameAt.{NameAt}
use Rattle.s80_tree.specs.Tree.{MethodParts}
use Rattle.s80_scope.specs.declared.fit.Measures.{Measures}
use Rattle.s80_scope.specs.declared.fit.counts.Counts.{Counts}
use Rattle.s80_scope.specs.declared.fit.position.Leaves.{Leaves}
use Rattle.s80_scope.specs.Fit.{AreTold, cut_measures, measures}
use Rattle.s80_scope.specs.FitLiterals.{Keys, body_entries, declares, entries}
use Rattle.s80_scope.specs.FitWeight.{method_leaves}
use Rattle.s80_scope.specs.Walk.{IsMethodCount, body_counts, cut, cut_off, declaring, with_entries}
use Rattle.s80_scope.proofs.Cut.{declared}
use Rattle.s80_scope.proofs.KeySets.{all_entries}

pub method_count : (m : MethodParts) (k : ℕ) (start after : Keys) (l : Leaves) (found more out : Counts) (p t : ℕ) (ps ts : List NameAt) → ps ≡ m.parameters → ts ≡ m.temporaries → k ≡ set.len after → start ≡ set.empty
    → after ≡ with_entries start (body_entries (declares ts (declares ps (λ word. false))) m.body) → l ≡ method_leaves m.selector → found ≡ cut_off (body_counts l m.body)
    → p ≡ length m.parameters → t ≡ length m.temporaries → more ≡ cut_off (declaring p found) → out ≡ cut_off (declaring t more) → IsMethodCount m (k, out)
method_count m k start after l found more out p t ps ts parameters temporaries count none all leaves is p_is t_is first whole = (
  count ∙ ap set.len (all ∙ (λ i. with_entries (none i) (body_entries (declares (temporaries i) (declares (parameters i) (λ word. false))) m.body)) ∙ all_entries (entries m)),
  whole ∙ declared t (declaring p (body_counts l m.body)) (first ∙ declared p (body_counts l m.body) is)
      ∙ (λ i. cut_off (declaring (t_is i) (declaring (p_is i) (body_counts (leaves i) m.body)))),
)

cut_stack : (here parameters inside : ℕ) → cut (max (cut here + cut parameters) (cut inside)) ≡ cut (max (here + parameters) inside)
cut_stack here parameters inside = omega arith

pub measured_is : (m : MethodParts) (k l s : ℕ) (c : Counts) → IsMethodCount m (k, c) → l ≡ cut k → s ≡ cut (max (c.here + c.parameters) c.inside)
    → record { literals = l; temporaries = c.parameters; stack = s; weight = c.weight } ≡ cut_measures (measures m)
measured_is m k l s c found literals stack =
    (λ i. record {
      literals = (literals ∙ ap cut found.0) i;
      temporaries = (found.1 i).parameters;
      stack = (stack ∙ ap (λ (x : Counts). cut (max (x.here + x.parameters) x.inside)) found.1 ∙ cut_stack _ _ _) i;
      weight = (found.1 i).weight;
    })

pub told_is : (m : Measures) → AreTold m → cut_measures m ≡ m
told_is m told =
    let p : cut m.literals ≡ m.literals = omega (arith, told.literals) in
    let q : cut m.temporaries ≡ m.temporaries = omega (arith, told.temporaries) in
    let r : cut m.stack ≡ m.stack = omega (arith, told.stack) in
    let s : cut m.weight ≡ m.weight = omega (arith, told.weight) in
    (λ i. record { literals = p i; temporaries = q i; stack = r i; weight = s i })
