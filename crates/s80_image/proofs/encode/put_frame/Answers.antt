use Rattle.std.proofs.Common.{◌++◌, ◌∙◌, ap, length, map}
use Rattle.std.specs.Int.{w32, to_be_bytes}
use Rattle.std.specs.List.{flat_map}
use Rattle.s80_code.specs.Entries.{entry_of}
use Rattle.s80_image.specs.Literals.{entry_bytes}
use Rattle.s80_image.specs.Methods.{frame}
use Rattle.s80_image.proofs.Spelled.{whole, frame_spelled}
use Rattle.s80_image.proofs.encode.put_frame.Goals as goal

pub returns : goal.returns
returns c =
    let es = c.deref-entry-items.result.now in
    whole (λ l. flat_map entry_bytes (map entry_of l)) c.loop-entry.out.items c.args.out.now.items (to_be_bytes w32 (length es)) es c.loop-entry.entry-index (frame.spell (map entry_of es)) c.loop-entry-test.false c.loop-entry.invariant (frame_spelled es)
    ∙ ap (λ l. c.args.out.now.items ++ frame.spell (map entry_of l)) c.deref-entry-items.ensures.value
