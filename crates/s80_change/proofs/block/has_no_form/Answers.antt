use Rattle.std.proofs.Common.{rules}
use Rattle.std.proofs.lemmas.Result.{IfOk-weaker}
use Rattle.s80_tree.specs.Tree.{doit_of}
use Rattle.s80_change.proofs.lemmas.TextOf.{form_of_text, fault_in_text}
use Rattle.s80_change.proofs.block.has_no_form.Goals as goal

pub returns-in-Ok : goal.returns-in-Ok
returns-in-Ok c = IfOk-weaker c.is_kept.result _ _ (λ none form. form_of_text c.args.text.now (doit_of c.in-Ok.tree) c.in-Ok.ensures.tree none form) c.is_kept.ensures

pub returns-in-Err : goal.returns-in-Err
returns-in-Err c = fault_in_text c.args.text.now c.in-Err.field-0 c.in-Err.ensures.fault (search rules)
