use Rattle.std.proofs.Common.{ap, ◌∙◌, ◌++◌}
use Rattle.s80_lex.specs.Spelling.{quoted}
use Rattle.s80_change.proofs.HeadFinding.{text_is}
use Rattle.s80_change.proofs.logged_head.head_text.Goals as goal

pub returns : goal.returns
returns c =
    text_is c.args.head.now c.in_ok-text.text c.append.new.self c.append-2.new.self c.add_quoted.new.text c.in_ok-text.ensures
    (c.in_ok-append.ensures.ok ∙ ap (λ l. c.in_ok-text.text ++ l) c.side_text.ensures) c.in_ok-append-2.ensures.ok
    (c.in_ok-add_quoted.ensures.ok ∙ ap (λ l. c.append-2.new.self ++ quoted 39 l) c.bytes.ensures)
