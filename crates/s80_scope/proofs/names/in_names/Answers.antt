use Rattle.s80_scope.specs.Names.{is_at}
use Rattle.s80_scope.proofs.lemmas.Places.{none_more}
use Rattle.s80_scope.proofs.Loops.{name_found}
use Rattle.s80_scope.proofs.names.in_names.Goals as goal

pub returns-in_err-in_name : goal.returns-in_err-in_name
returns-in_err-in_name c =
    name_found c.args.at c.args.first c.args.names.now c.loop-name.name-index c.name-item.result c.in_err-in_name.field-0.0 c.from_residual.result
    c.loop-name.invariant c.loop-name-test.true c.name-item.is c.in_err-in_name.ensures c.from_residual.ensures

pub loop-name-preserved : goal.loop-name-preserved
loop-name-preserved c = none_more (is_at c.args.at) c.args.names.now c.loop-name.name-index c.name-item.result c.loop-name-test.true c.name-item.is c.loop-name.invariant c.in_ok-in_name.ensures.1
