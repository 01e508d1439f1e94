use Rattle.std.proofs.lemmas.Result.{IfOk-weaker}
use Rattle.s80_make.proofs.lemmas.Made.{made_at}
use Rattle.s80_make.proofs.items.made_item.Goals as goal

pub returns-clause-item : goal.returns-clause-item
returns-clause-item c = IfOk-weaker c.class_item.result _ _ (λ item is count few. made_at count c.args.number item is few) c.class_item.ensures.item
