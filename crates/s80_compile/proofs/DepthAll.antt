-- The points of related code.
use Rattle.std.proofs.Common.{◌≡◌, refl, ℕ, ◌≤◌, inl, inr, true, false, length, arith}
use Rattle.std.proofs.lemmas.Bool.{cases_lt}
use Rattle.s80_code.specs.declared.code.Code.{Code}
use Rattle.s80_code.specs.Entries.{entries_of}
use Rattle.s80_scope.specs.declared.fit.position.Position.TheVariants.{Effect}
use Rattle.s80_core.specs.Core.{CoreTree}
use Rattle.s80_core.specs.Measures.{needs, AreInRange, Finishes}
use Rattle.s80_verify.specs.declared.stack.Stack.{Stack}
use Rattle.s80_verify.specs.declared.stack.Stack.TheVariants.{OfHome}
use Rattle.s80_verify.specs.Operands.{HasOwner}
use Rattle.s80_compile.specs.Compiles.{goes_to_super}
use Rattle.s80_compile.specs.Rows.{At}
use Rattle.s80_compile.specs.Sent.{IsWellSent}
use Rattle.s80_compile.proofs.Points.{AreDone, asked}
use Rattle.s80_compile.proofs.PointsSound.{free, Sound, stops, meets_of}
use Rattle.s80_compile.proofs.DepthCore.{finish_part}
use Rattle.s80_compile.proofs.DepthSelector.{special_fits}
use Rattle.s80_compile.proofs.DepthFirst.{BeginsFixed, begins_fixed}

-- a part that needs nothing is all there is
done_by : (code : Code) (room : Stack → ℕ) (end : ℕ) → Sound code room OfHome 0 free free 0 end → AreDone code room
done_by code room end s = record {
  points = s.points;
  end = end;
  chain = s.chain;
  begins = meets_of s.points 0 0 OfHome 0 0 (s.begins s.points (λ point h. h) tt) refl refl;
  done = s.done s.points (λ point h. h) tt;
}

pub all_done : (code : Code) (core : CoreTree) → AreInRange code.temporaries core → code.temporaries ≤ 31 → IsWellSent core
    → (goes_to_super core ≡ true → HasOwner code) → Finishes false core
    → At code.bytes (entries_of code.literals) core Effect 0 (length code.bytes) → AreDone code (asked core)
all_done code core range few sent owner ended at =
    elim (cases_lt 0 (needs core).here) [
      | inl some ↦ done_by code (asked core) (length code.bytes)
          (finish_part code (asked core) special_fits few false core 0 (length code.bytes) OfHome 0 (λ h. absurd cc)
          (record { here = omega arith; inside = omega arith; one = omega (arith, some) }) range sent owner ended at)
      | inr no_room ↦ only (begins_fixed code.bytes (entries_of code.literals) core Effect 0 (length code.bytes) at (omega (arith, no_room)))
    ]
  where
    only : BeginsFixed code.bytes 0 → AreDone code (asked core)
    only f = done_by code (asked core) f.behind
        (stops code (asked core) (record { stands = f.stands; enough = omega arith; fits = omega arith; differs = λ e. cc; suits = tt }) refl refl)
