use Rattle.std.proofs.Common.{sym, ◌∙◌}
use Rattle.s80_verify.proofs.HeaderLemmas.{without_owner, without_extension, with_extension}
use Rattle.s80_verify.proofs.header.is_extended.Goals as goal

pub returns-in_default : goal.returns-in_default
returns-in_default c = (
  λ r. cc,
  λ x. absurd (without_owner c.args.code.now c.as_slice.result.now c.as_slice.ensures.value c.in_default.ensures x),
)

pub returns-in_default-before_extension : goal.returns-in_default-before_extension
returns-in_default-before_extension c = (
  λ r. cc,
  λ x. absurd (without_extension c.args.code.now c.as_slice.result.now c.in-Some.rest.now c.extension.result c.as_slice.ensures.value c.extension.ensures c.in-Some.ensures c.in_default-before_extension.ensures x),
)

pub returns-then-is_flagged : goal.returns-then-is_flagged
returns-then-is_flagged c =
    with_extension c.args.code.now c.as_slice.result.now c.in-Some.rest.now c.in-Some-before_extension.plain.now c.extension.result c.are_plain.result c.as_slice.ensures.value c.extension.ensures c.in-Some.ensures c.in-Some-before_extension.ensures
    (c.is_flagged.ensures.0 c.if-is_flagged.true) c.are_plain.ensures
