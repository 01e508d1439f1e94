use Rattle.std.proofs.Common.{◌∙◌, sym, None, Some}
use Rattle.s80_code.proofs.lemmas.SpecialLemmas.{copy_dropped, other_kept, special_from}
use Rattle.s80_code.proofs.special.special_number.Goals as goal

pub returns-in_err-number-clause-is : goal.returns-in_err-number-clause-is
returns-in_err-number-clause-is c = c.from_residual.ensures ∙ special_from c.special_messages.result.now c.args.selector.now None c.special_messages.ensures.rows c.in_err-number.ensures.is

pub returns-then-number-eq-BLOCK_COPY-clause-is : goal.returns-then-number-eq-BLOCK_COPY-clause-is
returns-then-number-eq-BLOCK_COPY-clause-is c =
    sym (copy_dropped c.in_ok-number.field-0 c.if-number-eq-BLOCK_COPY.true)
    ∙ special_from c.special_messages.result.now c.args.selector.now (Some c.in_ok-number.field-0) c.special_messages.ensures.rows c.in_ok-number.ensures.is

pub returns-else-number-eq-BLOCK_COPY-clause-is : goal.returns-else-number-eq-BLOCK_COPY-clause-is
returns-else-number-eq-BLOCK_COPY-clause-is c =
    sym (other_kept c.in_ok-number.field-0 c.if-number-eq-BLOCK_COPY.false)
    ∙ special_from c.special_messages.result.now c.args.selector.now (Some c.in_ok-number.field-0) c.special_messages.ensures.rows c.in_ok-number.ensures.is
