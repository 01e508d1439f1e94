use Rattle.std.proofs.lemmas.Result.{IfOk-weaker}
use Rattle.s80_form.specs.TextParts.{FindsString}
use Rattle.s80_form.specs.Read.{FindsLine}
use Rattle.s80_form.proofs.Reading.{line_found}
use Rattle.s80_form.proofs.read.line.Goals as goal

pub returns : goal.returns
returns c =
    IfOk-weaker c.string.result (λ p. FindsString c.after-2.result.now p.0 p.1.now) (λ p. FindsLine c.args.word.now c.args.bytes.now p.0 p.1.now)
    (λ p h. line_found c.args.word.now c.args.bytes.now c.after.result.now c.after-2.result.now p.0 p.1.now c.after.ensures c.after-2.ensures h) c.string.ensures
