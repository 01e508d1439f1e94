use Rattle.std.proofs.Common.{◌∙◌, ap, sym, length}
use Rattle.s80_class.specs.Table.{Table}
use Rattle.s80_dict.specs.Table.{MethodsValue}
use Rattle.s80_apply.specs.Entries.{Entry}
use Rattle.s80_doit.proofs.Ran.{is_run, run_evaluates}
use Rattle.s80_doit.proofs.evaluation.evaluate.Goals as goal

pub run-requires-clause-setting : goal.run-requires-clause-setting
run-requires-clause-setting c = rw (c.classes.ensures.table, c.methods.ensures.methods) (c.doits_are_given.ensures.setting c.requires.0 c.args.code.now c.requires.1)

pub run-requires-clause-sides : goal.run-requires-clause-sides
run-requires-clause-sides c =
    ap (λ (m : MethodsValue Entry). length m.sides) c.methods.ensures.methods ∙ c.methods.ensures.dictionaries ∙ ap (λ (t : Table). length t.names) (sym c.classes.ensures.table)

pub returns-clause-run : goal.returns-clause-run
returns-clause-run c =
    is_run c.args.system.now c.classes.result.now c.methods.result.now c.args.code.now c.args.budget c.run.result c.classes.ensures.table c.methods.ensures.methods c.run.ensures.runs c.run.ensures.budget

pub returns-clause-evaluates : goal.returns-clause-evaluates
returns-clause-evaluates c =
    run_evaluates c.runs_are_evaluations.ensures c.args.system.now c.args.code.now c.args.budget c.run.result c.doits_are_given.ensures.given
    (is_run c.args.system.now c.classes.result.now c.methods.result.now c.args.code.now c.args.budget c.run.result c.classes.ensures.table c.methods.ensures.methods c.run.ensures.runs c.run.ensures.budget)
