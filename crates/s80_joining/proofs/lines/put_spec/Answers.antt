use Rattle.std.proofs.Common.{◌∙◌, ◌++◌, ap}
use Rattle.std.proofs.lemmas.Result.{on_ok_weaker}
use Rattle.s80_joining.proofs.KeyLines.{name_put}
use Rattle.s80_joining.proofs.lines.put_spec.Goals as goal

pub returns : goal.returns
returns c =
    on_ok_weaker c.append-2.result
    (name_put c.args.name.now c.args.side c.args.text.now c.append.new.self c.append-2.new.self c.side_text.result.now (c.in_ok-append.ensures.ok ∙ ap (λ l. c.args.text.now ++ l) c.bytes.ensures) c.side_text.ensures)
    c.append-2.ensures.ok
