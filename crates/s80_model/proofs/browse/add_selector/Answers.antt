use Rattle.std.proofs.Common.{◌∙◌, ◌++◌, ap}
use Rattle.std.proofs.lemmas.Result.{on_ok_weaker}
use Rattle.s80_model.proofs.Categories.{line_written, lost_line}
use Rattle.s80_model.proofs.browse.add_selector.Goals as goal

pub returns-in_default : goal.returns-in_default
returns-in_default c = λ held are there. absurd (lost_line c.args.category.now c.args.lines.now.entries held are c.in_default.ensures.value there)

pub returns : goal.returns
returns c = λ held are there. on_ok_weaker c.append-2.result (λ written. line_written c.args.category.now c.args.lines.now.entries (c.get_mut.follows.lender c.append-2.new.self).entries held
    c.in-Some.line.now c.append.new.self c.append-2.new.self c.args.selector.now are c.in-Some.ensures.value (c.get_mut.follows.holds c.append-2.new.self).0
    c.in_ok-append.ensures.ok (written ∙ ap (λ l. c.append.new.self ++ l) c.bytes.ensures)) c.append-2.ensures.ok
