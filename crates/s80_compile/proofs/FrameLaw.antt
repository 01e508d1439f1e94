-- Related code has depths.
use Rattle.std.proofs.Common.{◌≡◌, ℕ, ◌≤◌, Bool, true, false, cond, nat_lt, List, length, arith}
use Rattle.std.proofs.lemmas.Bool.Decides.{nat_tests}
use Rattle.s80_base.specs.declared.names.Side.{Side}
use Rattle.s80_code.specs.declared.code.Code.{Code}
use Rattle.s80_code.specs.Entries.{entries_of}
use Rattle.s80_tree.specs.Tree.{MethodParts}
use Rattle.s80_scope.specs.declared.fit.position.Position.TheVariants.{Effect}
use Rattle.s80_scope.specs.FitStack.{stack, temporaries}
use Rattle.s80_verify.specs.declared.stack.Stack.{Stack}
use Rattle.s80_verify.specs.declared.stack.Stack.TheVariants.{OfHome, OfBlock}
use Rattle.s80_verify.specs.Fault.{room_of, taken}
use Rattle.s80_verify.specs.Record.{HasDepths}
use Rattle.s80_core.specs.Core.{CoreTree}
use Rattle.s80_core.specs.Measures.{CoreFits}
use Rattle.s80_compile.specs.Compiles.{IsCodeOf}
use Rattle.s80_compile.proofs.Points.{AreDone, asked}
use Rattle.s80_compile.proofs.ClearDepths.{depth_of, depths_hold, clear_holds}
use Rattle.s80_compile.proofs.FrameHeader.{header_fits}
use Rattle.s80_compile.proofs.WidthCore.{width}

-- a context of the size that a method asks for has room for it
has_room : (large : Bool) (n : ℕ) → large ≡ nat_lt 12 n → n ≤ 32 → n ≤ cond large 32 12
has_room true n e h = h
has_room false n e h = grind (arith, nat_tests)

within_room : (m : MethodParts) (core : CoreTree) (code : Code) → CoreFits (temporaries m) (stack m) core → code.temporaries ≡ temporaries m → stack m ≤ room_of code
    → (s : Stack) (depth : ℕ) → depth ≤ asked core s → taken code s depth ≤ room_of code
within_room m core code fits e room OfHome depth h = omega (arith, fits.home, e, room, h)
within_room m core code fits e room OfBlock depth h = omega (arith, fits.blocks, room, h)

pub has_depths : (m : MethodParts) (core : CoreTree) (class : List ℕ) (side : Side) (code : Code)
    → CoreFits (temporaries m) (stack m) core → stack m ≤ 32 → temporaries m ≤ 31
    → IsCodeOf m core class side code → AreDone code (asked core) → HasDepths code
has_depths m core class side code fits room few is done =
    record {
      header = header_fits m core class side code few is;
      short = omega (arith, fits.size, width code.bytes (entries_of code.literals) core Effect 0 (length code.bytes) is.body);
      depth_at = depth_of code (asked core) done;
      depths = depths_hold code (asked core) done (within_room m core code fits is.temporaries (has_room code.large (stack m) is.large room));
      clear = clear_holds code (asked core) done;
    }
