-- A source that fits has a tree that fits, and code of that tree is its code.
use Rattle.std.proofs.Common.{◌≡◌, ◌<◌, ◌-◌, ◌^◌, ◌∙◌, ℕ, Bool, cond, true, false, nat_lt, refl, sym, ap, subst, List, None, Ok, arith}
use Rattle.std.proofs.lemmas.Bool.Decides.{nat_tests}
use Rattle.s80_base.specs.declared.names.Side.{Side}
use Rattle.s80_tree.specs.Tree.{MethodParts}
use Rattle.s80_syntax.specs.Text.{IsMethodOf}
use Rattle.s80_syntax.proofs.lemmas.OneReading.{one_method_of}
use Rattle.s80_scope.specs.declared.fit.Fit.{Fit}
use Rattle.s80_scope.specs.declared.fit.Fit.TheVariants as fits
use Rattle.s80_scope.specs.declared.fit.FitKind.{FitKind}
use Rattle.s80_scope.specs.declared.fit.FitKind.TheVariants as kind
use Rattle.s80_scope.specs.declared.fit.Measures.{Measures}
use Rattle.s80_scope.specs.Fit.{fit, measures, cut_measures}
use Rattle.s80_scope.specs.Walk.{cut}
use Rattle.s80_scope.specs.declared.shape.Shape.{Shape}
use Rattle.s80_code.specs.declared.code.Code.{Code}
use Rattle.s80_compile.specs.Compiles.{Compiles}
use Rattle.s80_class.specs.Classes.{Name, Classes}
use Rattle.s80_change.specs.Check.{IsCheckOf, too_large, size_refusal}
use Rattle.s80_method.specs.Shape.{shape_of}
use Rattle.s80_method.specs.Code.{IsMethodCode}

-- ---- measures that fit where their cuts do

above_cut : (limit n : ℕ) → limit < 2 ^ 32 - 1 → nat_lt limit (cut n) ≡ false → nat_lt limit n ≡ false
above_cut limit n small is = grind (arith, nat_tests)

passed : (b : Bool) (k : FitKind) (n : ℕ) (rest : Fit) → cond b (fits.TooMuch k n) rest ≡ fits.Fits → (b ≡ false) × (rest ≡ fits.Fits)
passed true k n rest h = absurd (let bad : fits.TooMuch k n ≡ fits.Fits = h in cc)
passed false k n rest h = (refl, h)

passes : (b : Bool) (k : FitKind) (n : ℕ) (rest : Fit) → b ≡ false → rest ≡ fits.Fits → cond b (fits.TooMuch k n) rest ≡ fits.Fits
passes b k n rest is h = ap (λ c. cond c (fits.TooMuch k n) rest) is ∙ h

uncut : (m : Measures) → fit (cut_measures m) ≡ fits.Fits → fit m ≡ fits.Fits
uncut m h =
    let a = passed (nat_lt 60 (cut m.literals)) kind.Literals (cut m.literals) _ h in
    let b = passed (nat_lt 31 (cut m.temporaries)) kind.Temporaries (cut m.temporaries) _ a.1 in
    let c = passed (nat_lt 32 (cut m.stack)) kind.Stack (cut m.stack) _ b.1 in
    let d = passed (nat_lt 1000 (cut m.weight)) kind.Weight (cut m.weight) _ c.1 in
    passes (nat_lt 60 m.literals) kind.Literals m.literals _ (above_cut 60 m.literals (omega arith) a.0)
    (passes (nat_lt 31 m.temporaries) kind.Temporaries m.temporaries _ (above_cut 31 m.temporaries (omega arith) b.0)
    (passes (nat_lt 32 m.stack) kind.Stack m.stack _ (above_cut 32 m.stack (omega arith) c.0)
    (passes (nat_lt 1000 m.weight) kind.Weight m.weight fits.Fits (above_cut 1000 m.weight (omega arith) d.0) refl)))

not_refused : (f : Fit) → too_large f ≡ None → f ≡ fits.Fits
not_refused fits.Fits h = refl
not_refused (fits.TooMuch k n) h = absurd (cc h)

-- ---- the tree

pub size_fits : (m : MethodParts) → size_refusal m ≡ None → fit (measures m) ≡ fits.Fits
size_fits m none = uncut (measures m) (not_refused (fit (cut_measures (measures m))) none)

pub no_refusal : (source selector : List ℕ) (m : MethodParts) → IsMethodOf source m → IsCheckOf source (Ok selector) → size_refusal m ≡ None
no_refusal source selector m is (n, also, none, same) = subst (λ (x : MethodParts). size_refusal x ≡ None) (one_method_of source n m also is) none

pub tree_fits : (source selector : List ℕ) (m : MethodParts) → IsMethodOf source m → IsCheckOf source (Ok selector) → fit (measures m) ≡ fits.Fits
tree_fits source selector m is check = size_fits m (no_refusal source selector m is check)

pub selector_is : (source selector : List ℕ) (m : MethodParts) → IsMethodOf source m → IsCheckOf source (Ok selector) → m.selector ≡ selector
selector_is source selector m is (n, also, none, same) = sym (same ∙ ap (λ (x : MethodParts). x.selector) (one_method_of source n m also is))

pub is_code : (classes : Classes) (name owner : Name) (side : Side) (source : List ℕ) (m : MethodParts) (shape : Shape) (code : Code) → IsMethodOf source m
    → shape ≡ shape_of classes name side → owner ≡ name → Compiles m shape owner side code → IsMethodCode classes name side m.selector source code
is_code classes name owner side source m shape code is sees own compiled = record {
  tree = m;
  tree_is = is;
  selector_is = refl;
  compiles = subst (λ (s : Shape). Compiles m s name side code) sees (subst (λ (n : Name). Compiles m shape n side code) own compiled);
}
