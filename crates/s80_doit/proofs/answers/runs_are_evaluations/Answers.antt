use Rattle.s80_doit.proofs.answers.runs_are_evaluations.Goals as goal

pub returns : goal.returns
returns c = λ system state text budget ran given is_of run. (c.runs_answer_the_smalls_of_trees.ensures system state text budget ran given is_of run).evaluation
