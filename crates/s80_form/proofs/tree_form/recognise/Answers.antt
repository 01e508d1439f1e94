use Rattle.std.proofs.Common.{rules, tests}
use Rattle.s80_tree.specs.Tree.{doit_of}
use Rattle.s80_form.specs.Shown.{recognised_as}
use Rattle.s80_form.proofs.Shapes.{none_has, recognised_so, not_brief}
use Rattle.s80_form.proofs.tree_form.recognise.Goals as goal

pub returns-in_default : goal.returns-in_default
returns-in_default c = none_has (doit_of c.args.tree.now) c.in_default.ensures

pub returns-then-not-is_brief_recognised : goal.returns-then-not-is_brief_recognised
returns-then-not-is_brief_recognised c =
    not_brief (doit_of c.args.tree.now) (recognised_as c.in-Some.shown) c.in_ok-recognised.recognised c.is_brief_recognised.result c.in-Some.ensures c.in_ok-recognised.ensures
    c.is_brief_recognised.ensures (search (rules, tests))

pub returns : goal.returns
returns c =
    recognised_so (doit_of c.args.tree.now) (recognised_as c.in-Some.shown) c.in_ok-recognised.recognised c.in-Some.ensures c.in_ok-recognised.ensures (c.is_brief_recognised.ensures.0 (search rules))
