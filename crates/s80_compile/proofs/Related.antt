-- Code that stands for a core tree that fits has a depth for each of its places.
use Rattle.std.proofs.Common.{ℕ, ◌≤◌, List, sym, subst, arith}
use Rattle.s80_base.specs.declared.names.Side.{Side}
use Rattle.s80_code.specs.declared.code.Code.{Code}
use Rattle.s80_verify.specs.Record.{HasDepths}
use Rattle.s80_tree.specs.Tree.{MethodParts}
use Rattle.s80_scope.specs.FitStack.{stack, temporaries}
use Rattle.s80_core.specs.Core.{CoreTree}
use Rattle.s80_core.specs.Measures.{AreInRange, CoreFits}
use Rattle.s80_compile.specs.Compiles.{IsCodeOf}
use Rattle.s80_compile.specs.Sent.{IsWellSent}
use Rattle.s80_compile.proofs.DepthAll.{all_done}
use Rattle.s80_compile.proofs.FrameHeader.{super_has_owner}
use Rattle.s80_compile.proofs.FrameLaw.{has_depths}

pub related : (m : MethodParts) (core : CoreTree) (class : List ℕ) (side : Side) (code : Code)
    → CoreFits (temporaries m) (stack m) core → stack m ≤ 32 → temporaries m ≤ 31 → IsWellSent core
    → IsCodeOf m core class side code → HasDepths code
related m core class side code fits room few sent is =
    has_depths m core class side code fits room few is
    (all_done code core (subst (λ (n : ℕ). AreInRange n core) (sym is.temporaries) fits.range) (omega (arith, is.temporaries)) sent
    (super_has_owner m core class side code is) fits.finishes is.body)
