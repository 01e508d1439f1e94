use Rattle.s80_lex.proofs.lemmas.Selectors.{keywords_select, name_selects}
use Rattle.s80_lex.proofs.word.selector_len.Goals as goal

pub returns-in-Some : goal.returns-in-Some
returns-in-Some c = keywords_select c.in-Some.length c.args.bytes.now c.in-Some.ensures

pub returns-in-Some-name_len : goal.returns-in-Some-name_len
returns-in-Some-name_len c = name_selects c.in-Some-name_len.length c.args.bytes.now c.in_default.ensures c.in-Some-name_len.ensures
