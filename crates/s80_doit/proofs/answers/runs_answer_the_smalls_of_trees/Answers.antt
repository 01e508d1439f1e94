use Rattle.std.proofs.Common.{codes}
use Rattle.s80_base.specs.declared.names.Side.TheVariants.{Instance}
use Rattle.s80_doit.specs.Answer.{doit_meant}
use Rattle.s80_doit.proofs.Evaluated.{codes_agree, doit_code_for, smalls_alike, stopped_alike, trees, trees_of_state}
use Rattle.s80_doit.proofs.answers.runs_answer_the_smalls_of_trees.Goals as goal

pub returns : goal.returns
returns c = λ system state text budget ran given is_of run.
    let methods = trees system given in
    let meant = doit_meant run.code_is.tree in
    let agree = codes_agree system given c.trees_are_well_sent.ensures.method in
    let code = doit_code_for system given text run.code run.code_is c.trees_are_well_sent.ensures.doit in
    let means = c.code_means_its_trees.ensures system.table system.methods run.code budget ran.outcome run.runs methods meant (codes "UndefinedObject") Instance agree code in
    let told = c.trees_are_told_alike.ensures system.table system.methods run.code budget methods meant ran.outcome means in
    record {
      evaluation = record {
        tree = run.code_is.tree;
        tree_is = run.code_is.tree_is;
        table = system.table;
        methods = methods;
        are = trees_of_state system given state is_of;
        outcome = told.0;
        evaluates = told.1;
        told_is = told.2.text;
        stopped_is = stopped_alike told.0.end ran.outcome.end told.2.end;
      };
      small_is = smalls_alike told.0.end ran.outcome.end told.2.end;
    }
