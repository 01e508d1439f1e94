use Rattle.std.proofs.Common.{refl}
use Rattle.s80_change.proofs.HeadFinding.{parts_are}
use Rattle.s80_change.proofs.head_parts.parts.Goals as goal

pub returns : goal.returns
returns c =
    parts_are c.args.text.now c.word.result.0.now c.word.result.1.now c.side-side.result.1.now c.after.result.now c.in_ok-category.category c.in_ok-category.field-0-1.now c.side-side.result.0 _
    c.word.ensures.word c.word.ensures.rest c.side-side.ensures c.after.ensures c.in_ok-category.ensures c.in_ok-from_bytes.ensures refl refl
