use Rattle.std.proofs.Common.{◌∙◌, ◌++◌, ap}
use Rattle.std.specs.List.{flat_map}
use Rattle.std.proofs.lemmas.Result.{on_ok_weaker}
use Rattle.s80_fileout.specs.Order.{made_by}
use Rattle.s80_fileout.proofs.methods.add_methods_in.Goals as goal

pub returns : goal.returns
returns c = λ state is.
    on_ok_weaker c.add_each.result
    (λ more. more ∙ ap (λ ms. c.args.changes.now ++ flat_map made_by ms) (c.in_ok-methods.ensures state is))
    c.add_each.ensures
