use Rattle.std.proofs.Common.{rules, tests}
use Rattle.s80_tree.specs.Tree.{doit_of}
use Rattle.s80_change.proofs.Heads.{not_brief}
use Rattle.s80_change.proofs.head_form.recognise_head.Goals as goal

pub returns-then-not-is_brief_head : goal.returns-then-not-is_brief_head
returns-then-not-is_brief_head c =
    not_brief (doit_of c.args.tree.now) _ c.in-Some.form c.is_brief_head.result c.is_brief_head.ensures (search (rules, tests)) c.in-Some.ensures c.in_ok-copy.ensures c.in_ok-copy-2.ensures
