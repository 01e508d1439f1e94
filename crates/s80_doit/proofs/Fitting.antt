-- A doIt that fits has a tree that fits, and code of that tree is its code.
use Rattle.std.proofs.Common.{◌≡◌, ◌∙◌, ◌<◌, ◌-◌, ◌^◌, ℕ, Bool, cond, true, false, nat_lt, refl, ap, subst, List, [], codes, None, arith}
use Rattle.std.proofs.lemmas.Bool.Decides.{nat_tests}
use Rattle.s80_base.specs.declared.names.Side.TheVariants.{Instance}
use Rattle.s80_tree.specs.Tree.{DoItParts, MethodParts}
use Rattle.s80_syntax.specs.Text.{IsDoItOf}
use Rattle.s80_scope.specs.declared.fit.Fit.{Fit}
use Rattle.s80_scope.specs.declared.fit.Fit.TheVariants as fits
use Rattle.s80_scope.specs.declared.fit.FitKind.{FitKind}
use Rattle.s80_scope.specs.declared.fit.FitKind.TheVariants as kind
use Rattle.s80_scope.specs.declared.fit.Measures.{Measures}
use Rattle.s80_scope.specs.Fit.{fit, measures, cut_measures}
use Rattle.s80_scope.specs.Walk.{cut}
use Rattle.s80_code.specs.declared.code.Code.{Code}
use Rattle.s80_compile.specs.Compiles.{Compiles}
use Rattle.s80_change.specs.Check.{as_method, size_refusal, too_large}
use Rattle.s80_doit.specs.DoIt.{IsDoItCode}

-- ---- measures that fit where their cuts do

above_cut : (limit n : ℕ) → limit < 2 ^ 32 - 1 → nat_lt limit (cut n) ≡ false → nat_lt limit n ≡ false
above_cut limit n small is = grind (arith, nat_tests)

passed : (b : Bool) (k : FitKind) (n : ℕ) (rest : Fit) → cond b (fits.TooMuch k n) rest ≡ fits.Fits → (b ≡ false) × (rest ≡ fits.Fits)
passed true k n rest h = absurd (let bad : fits.TooMuch k n ≡ fits.Fits = h in cc)
passed false k n rest h = (refl, h)

passes : (b : Bool) (k : FitKind) (n : ℕ) (rest : Fit) → b ≡ false → rest ≡ fits.Fits → cond b (fits.TooMuch k n) rest ≡ fits.Fits
passes b k n rest is h = ap (λ c. cond c (fits.TooMuch k n) rest) is ∙ h

uncut : (m : Measures) → fit (cut_measures m) ≡ fits.Fits → fit m ≡ fits.Fits
uncut m h =
    let a = passed (nat_lt 60 (cut m.literals)) kind.Literals (cut m.literals) _ h in
    let b = passed (nat_lt 31 (cut m.temporaries)) kind.Temporaries (cut m.temporaries) _ a.1 in
    let c = passed (nat_lt 32 (cut m.stack)) kind.Stack (cut m.stack) _ b.1 in
    let d = passed (nat_lt 1000 (cut m.weight)) kind.Weight (cut m.weight) _ c.1 in
    passes (nat_lt 60 m.literals) kind.Literals m.literals _ (above_cut 60 m.literals (omega arith) a.0)
    (passes (nat_lt 31 m.temporaries) kind.Temporaries m.temporaries _ (above_cut 31 m.temporaries (omega arith) b.0)
    (passes (nat_lt 32 m.stack) kind.Stack m.stack _ (above_cut 32 m.stack (omega arith) c.0)
    (passes (nat_lt 1000 m.weight) kind.Weight m.weight fits.Fits (above_cut 1000 m.weight (omega arith) d.0) refl)))

not_refused : (f : Fit) → too_large f ≡ None → f ≡ fits.Fits
not_refused fits.Fits h = refl
not_refused (fits.TooMuch k n) h = absurd (cc h)

-- ---- the tree

pub tree_fits : (tree : DoItParts) → size_refusal (as_method tree) ≡ None → fit (measures (as_method tree)) ≡ fits.Fits
tree_fits tree none = uncut (measures (as_method tree)) (not_refused (fit (cut_measures (measures (as_method tree)))) none)

pub is_code : (text : List ℕ) (tree : DoItParts) (m : MethodParts) (code : Code) → IsDoItOf text tree → size_refusal (as_method tree) ≡ None → m ≡ as_method tree
    → Compiles m (record { inst_vars = []; class_vars = [] }) (codes "UndefinedObject") Instance code → IsDoItCode text code
is_code text tree m code is none same compiled = record {
  tree = tree;
  tree_is = is;
  fits = none;
  compiles = subst (λ (n : MethodParts). Compiles n (record { inst_vars = []; class_vars = [] }) (codes "UndefinedObject") Instance code) same compiled;
}
