use Rattle.std.proofs.lemmas.Result.{IfOk-weaker}
use Rattle.s80_meaning.proofs.execution.run.Goals as goal

pub returns-clause-meant : goal.returns-clause-meant
returns-clause-meant c =
    IfOk-weaker c.run.result _ _ (λ ran runs. c.code_means_its_trees.ensures c.args.classes.now c.args.methods.now c.args.code.now c.args.budget ran.outcome runs) c.run.ensures.runs
