use Rattle.std.proofs.Common.{◌∙◌, ◌-◌, ap, arith, sym}
use Rattle.std.specs.Prelude.{slice_get}
use Rattle.std.proofs.lemmas.Result.{IfOk-weaker}
use Rattle.s80_keeper.proofs.Versions.{last_is_put, none_put}
use Rattle.s80_keeper.proofs.condense.last_put.Goals as goal

pub returns-then-count-from : goal.returns-then-count-from
returns-then-count-from c = λ before newest is here.
    IfOk-weaker c.from_bytes.result _ _ (λ text e. e ∙ none_put c.args.changes.now before newest c.args.from is here (omega (arith, c.count.ensures, c.if-count-from.true))) c.from_bytes.ensures

pub returns : goal.returns
returns c = λ before newest is here.
    let there = ap (λ n. slice_get c.args.changes.now (n - 1)) (sym c.count-2.ensures) ∙ c.at.ensures in
    IfOk-weaker c.put_category.result _ _ (λ text e. e ∙ last_is_put c.args.changes.now before newest c.args.from c.at.result.now is here (omega (arith, c.count.ensures, c.if-count-from.false)) there) c.put_category.ensures
