use Rattle.std.proofs.Common.{◌∙◌, sym, [], ◌∷◌}
use Rattle.s80_lex.specs.Spelling.{doubled}
use Rattle.s80_prims.proofs.PrintFront.{parts_past}
use Rattle.s80_prims.proofs.front.Front.write_quoted.Goals as goal

pub returns-then-is_past : goal.returns-then-is_past
returns-then-is_past c =
    parts_past c.args.self.now c.loop-byte.self 39 (doubled 39) c.args.bytes.now c.loop-byte.byte-index (39 ∷ []) c.loop-byte.invariant (sym c.is_past.ensures ∙ c.if-is_past.true)
