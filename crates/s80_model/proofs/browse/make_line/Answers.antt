use Rattle.std.proofs.Common.{◌∙◌, rules}
use Rattle.s80_model.proofs.Categories.{line_kept, line_made}
use Rattle.s80_model.proofs.browse.make_line.Goals as goal

pub returns-else-not-contains_key : goal.returns-else-not-contains_key
returns-else-not-contains_key c = λ held are. line_kept c.args.category.now c.args.lines.now.entries held c.contains_key.result are c.contains_key.ensures c.if-not-contains_key.false

pub returns-in_ok-insert : goal.returns-in_ok-insert
returns-in_ok-insert c = λ held are. line_made c.in_ok-to_vec.field-0 c.args.category.now c.args.lines.now.entries c.insert.new.self.entries held c.contains_key.result are
    c.contains_key.ensures c.if-not-contains_key.true (search rules) (c.in_ok-insert.ensures.entries ∙ search rules)
