use Rattle.s80_prims.proofs.PrintBodies.{item_ok}
use Rattle.s80_prims.proofs.print.item_at.Goals as goal

pub unwrap-requires : goal.unwrap-requires
unwrap-requires c = item_ok c.args.objects.now c.args.v c.args.i c.item.result c.requires.there c.item.ensures
