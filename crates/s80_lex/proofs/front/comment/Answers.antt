use Rattle.s80_lex.proofs.lemmas.Standing.{comment_stands, comment_wrong, double_quote_next}
use Rattle.s80_lex.proofs.front.comment.Goals as goal

pub quoted_len-requires : goal.quoted_len-requires
quoted_len-requires c = double_quote_next c.args.bytes.now c.requires

pub returns-in-Some : goal.returns-in-Some
returns-in-Some c = comment_stands c.in-Some.length c.args.bytes.now c.in-Some.ensures

pub returns-in-None : goal.returns-in-None
returns-in-None c = comment_wrong c.args.bytes.now c.in-None.ensures
