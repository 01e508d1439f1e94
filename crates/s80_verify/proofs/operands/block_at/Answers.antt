use Rattle.std.proofs.Common.{sym, ◌∙◌, refl}
use Rattle.s80_verify.proofs.BlockLemmas.{no_push, no_count, no_context, not_context, no_copy, no_start, begins_at, differ}
use Rattle.s80_lex.proofs.lemmas.SelectorLemmas.{not_true}
use Rattle.s80_verify.proofs.operands.block_at.Goals as goal

pub returns-in_default : goal.returns-in_default
returns-in_default c = no_push c.args.code.now c.args.places.now.before c.args.at c.requires.places (sym c.in_default.ensures)

pub returns-in_default-count_at : goal.returns-in_default-count_at
returns-in_default-count_at c =
    no_count c.args.code.now c.args.places.now.before c.args.at c.in-Some.push c.requires.places (sym c.in-Some.ensures)
    (λ n h. differ _ n refl ((c.in_default-count_at.ensures n).1 h))

pub returns-in_default-before : goal.returns-in_default-before
returns-in_default-before c =
    no_context c.args.code.now c.args.places.now.before c.args.at c.in-Some.push c.requires.places (sym c.in-Some.ensures) (sym c.in_default-before.ensures)

pub returns-then-not-is_context : goal.returns-then-not-is_context
returns-then-not-is_context c =
    not_context c.args.code.now c.args.places.now.before c.args.at c.in-Some.push c.in-Some-before.context c.requires.places (sym c.in-Some.ensures) (sym c.in-Some-before.ensures)
    (λ x. not_true c.is_context.result _ c.if-not-is_context.true c.is_context.ensures.1 x)

pub returns-in_default-behind_copy : goal.returns-in_default-behind_copy
returns-in_default-behind_copy c = no_copy c.args.code.now c.args.at (λ n s. differ _ n refl ((c.in_default-behind_copy.ensures n).1 s))

pub returns-in_default-long_jump : goal.returns-in_default-long_jump
returns-in_default-long_jump c =
    no_start c.args.code.now c.args.at c.in-Some-behind_copy.jump ((c.in-Some-behind_copy.ensures c.in-Some-behind_copy.jump).0 refl) c.in_default-long_jump.ensures

pub returns : goal.returns
returns c =
    begins_at c.args.code.now c.args.places.now.before c.args.at c.in-Some.push c.in-Some-before.context c.in-Some-behind_copy.jump c.in-Some-long_jump.start c.in-Some-count_at.arguments c.requires.places
    (sym c.in-Some.ensures) ((c.in-Some-count_at.ensures c.in-Some-count_at.arguments).0 refl) (sym c.in-Some-before.ensures)
    (c.is_context.ensures.0 c.if-not-is_context.false) ((c.in-Some-behind_copy.ensures c.in-Some-behind_copy.jump).0 refl) c.in-Some-long_jump.ensures
