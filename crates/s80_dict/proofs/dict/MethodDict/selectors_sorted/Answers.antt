use Rattle.std.proofs.Common.{◌∙◌, ap}
use Rattle.std.proofs.lemmas.Result.{IfOk-weaker}
use Rattle.s80_dict.proofs.Sorting.{keys_are, shown}
use Rattle.s80_dict.proofs.dict.MethodDict.selectors_sorted.Goals as goal

pub returns : goal.returns
returns g c =
    IfOk-weaker c.named.result _ _
    (λ names is. is ∙ ap shown c.deref.ensures.value
    ∙ keys_are c.self.inside.slots.entries c.args.self.now c.self.view_is c.in_ok-selectors.selectors.items c.sort_unstable.new.self.items c.self.invariant.distinct
    c.in_ok-selectors.ensures c.sort_unstable.ensures.permutation c.sort_unstable.ensures.sorted)
    c.named.ensures
