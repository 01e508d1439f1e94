use Rattle.std.proofs.Common.{rules}
use Rattle.s80_apply.proofs.Looked.{under_absent, under_same, under_other}
use Rattle.s80_apply.proofs.checks.is_under.Goals as goal

pub returns-in_default-class_named : goal.returns-in_default-class_named
returns-in_default-class_named c = under_absent c.args.classes.now.classes c.args.name.now c.args.other.now _ c.class_named.ensures.valid c.in-Some.ensures.found.row (search rules)

pub returns-then-eq : goal.returns-then-eq
returns-then-eq c = under_same c.args.classes.now.classes c.args.name.now c.args.other.now _ _ c.class_named.ensures.valid c.in-Some.ensures.found.row (search rules) c.if-eq.true

pub returns-else-eq : goal.returns-else-eq
returns-else-eq c = under_other c.args.classes.now.classes c.args.name.now c.args.other.now _ _ _ c.class_named.ensures.valid c.in-Some.ensures.found.row (search rules) c.if-eq.false (c.is_descendant.ensures _ _ c.in-Some.ensures.found.named c.in-Some-class_named.ensures.found.named)
