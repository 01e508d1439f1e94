use Rattle.std.proofs.Common.{rules, subst}
use Rattle.std.proofs.lemmas.Result.{IfOk-weaker}
use Rattle.s80_chunk.specs.Chunks.{IsPlainText}
use Rattle.s80_change.proofs.lemmas.TextOf.{doit_of_text}
use Rattle.s80_change.proofs.block.is_doit.Goals as goal

pub returns : goal.returns
returns c =
    IfOk-weaker c.has_no_form.result _ _
    (λ none h. doit_of_text c.args.text.now (subst IsPlainText c.bytes.ensures (c.is_plain_text.ensures.0 (search rules))) none h) c.has_no_form.ensures
