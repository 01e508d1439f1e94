use Rattle.s80_apply.proofs.Few.{few_variables}
use Rattle.s80_apply.proofs.code.code_of_tree.Goals as goal

pub compile_tree-requires-clause-few : goal.compile_tree-requires-clause-few
compile_tree-requires-clause-few c = few_variables c.args.classes.now c.args.class c.args.side c.requires.within c.shapes_have_as_many_variables.ensures.instance c.shapes_have_as_many_variables.ensures.class
