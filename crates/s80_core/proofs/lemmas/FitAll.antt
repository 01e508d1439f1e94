-- A tree that fits has a core tree that fits.
use Rattle.std.proofs.Common.{◌≡◌, ℕ, ◌+◌, ◌≤◌, max, Bool, true, false, length, nat_lt, refl, arith, if◌then◌else◌}
use Rattle.std.proofs.lemmas.Bool.Decides.{nat_tests}
use Rattle.s80_tree.specs.Tree.{MethodParts}
use Rattle.s80_scope.specs.Fit.{fit, measures}
use Rattle.s80_scope.specs.FitStack.{body_needs, body_parameters, stack, temporaries}
use Rattle.s80_scope.specs.FitWeight.{weight}
use Rattle.s80_scope.specs.Names.{AreInOrder, uses_of}
use Rattle.s80_scope.specs.declared.fit.Fit.TheVariants.{Fits, TooMuch}
use Rattle.s80_scope.specs.declared.fit.FitKind.TheVariants as kind
use Rattle.s80_scope.specs.declared.fit.Measures.{Measures}
use Rattle.s80_scope.specs.declared.shape.Shape.{Shape}
use Rattle.s80_core.specs.Arms.{HaveArms}
use Rattle.s80_core.specs.Elaborate.{elaborated}
use Rattle.s80_core.specs.Measures.{CoreFits, needs}
use Rattle.s80_core.proofs.CoverKeys.{covered}
use Rattle.s80_core.proofs.FitFew.{IsLow, has_few}
use Rattle.s80_core.proofs.FitFinishes.{finished}
use Rattle.s80_core.proofs.FitNeeds.{home_needs, blocks_need}
use Rattle.s80_core.proofs.FitRange.{in_range}
use Rattle.s80_core.proofs.FitSize.{method_size}

-- what a method has that fits
pub record IsSmall (m : Measures) : Type 0 where
  pub literals : m.literals ≤ 60
  pub temporaries : m.temporaries ≤ 31
  pub stack : m.stack ≤ 32
  pub weight : m.weight ≤ 1000

not_above : (most n : ℕ) (b : Bool) → nat_lt most n ≡ b → b ≡ false → n ≤ most
not_above most n b is no_more = grind (arith, nat_tests)

pub fits_small : (m : Measures) → fit m ≡ Fits → IsSmall m
fits_small m h =
    by_tests (nat_lt 60 m.literals) (nat_lt 31 m.temporaries) (nat_lt 32 m.stack) (nat_lt 1000 m.weight) refl refl refl refl h
  where
    by_tests : (a b c d : Bool) → nat_lt 60 m.literals ≡ a → nat_lt 31 m.temporaries ≡ b → nat_lt 32 m.stack ≡ c → nat_lt 1000 m.weight ≡ d
        → (if a then TooMuch kind.Literals m.literals else (if b then TooMuch kind.Temporaries m.temporaries else (if c then TooMuch kind.Stack m.stack else (if d then TooMuch kind.Weight m.weight else Fits)))) ≡ Fits
        → IsSmall m
    by_tests false false false false a b c d e = record { literals = not_above 60 m.literals false a refl; temporaries = not_above 31 m.temporaries false b refl; stack = not_above 32 m.stack false c refl; weight = not_above 1000 m.weight false d refl }
    by_tests true p q r a b c d e = absurd (cc)
    by_tests false true q r a b c d e = absurd (cc)
    by_tests false false true r a b c d e = absurd (cc)
    by_tests false false false true a b c d e = absurd (cc)

pub core_fits : (m : MethodParts) (shape : Shape) → fit (measures m) ≡ Fits → AreInOrder (uses_of m) → HaveArms m → length shape.inst_vars ≤ 64
    → CoreFits (temporaries m) (stack m) (elaborated m shape)
core_fits m shape fitting in_order arms few =
    let fits : IsSmall (measures m) = fits_small (measures m) fitting in
    let heavy : weight m ≤ 1000 = fits.weight in
    let many : temporaries m ≤ 31 = fits.temporaries in
    let high : max ((body_needs m.body).here + temporaries m) (body_needs m.body).inside ≤ 32 = fits.stack in
    let here : (needs (elaborated m shape)).here ≤ (body_needs m.body).here = home_needs m shape in
    let inside : (needs (elaborated m shape)).inside ≤ (body_needs m.body).inside = blocks_need m shape in
    let low : IsLow (needs (elaborated m shape)) = (omega (arith, here, high), omega (arith, inside, high)) in
    let all : temporaries m ≡ body_parameters m.body + length m.parameters + length m.temporaries = refl in
    record {
      size = omega (arith, method_size m shape arms, heavy, many, all);
      home = omega (arith, here);
      blocks = omega (arith, inside);
      entries = covered m shape fits.literals in_order;
      range = in_range m shape few;
      few = has_few (elaborated m shape) low;
      finishes = finished m shape;
    }
