use Rattle.std.proofs.Common.{◌∙◌}
use Rattle.s80_prims.proofs.ApplyLemmas.{symbol_items}
use Rattle.s80_prims.proofs.applied.items.item.Goals as goal

pub returns-in-Symbol : goal.returns-in-Symbol
returns-in-Symbol c = c.byte_as_number.ensures ∙ symbol_items c.args.objects.now c.args.r c.args.place c.in-Symbol.field-0 c.in-Symbol.is
