use Rattle.s80_syntax.proofs.Heads.{word_missing, number_missing, number_found, end_missing, primitive_done}
use Rattle.s80_syntax.proofs.head.primitive.Goals as goal

pub returns-in_default : goal.returns-in_default
returns-in_default c = λ k. word_missing _ _ _ k c.in_default.ensures c.place_of.ensures

pub returns-in_default-2 : goal.returns-in_default-2
returns-in_default-2 c = λ k. number_missing _ _ _ _ _ k c.in-Some.ensures c.in_ok-number.ensures c.in_default-2.is c.place_of-in_default-2.ensures

pub returns-in_default-after_sign : goal.returns-in_default-after_sign
returns-in_default-after_sign c = λ k. end_missing _ _ _ _ _ _ k c.in-Some.ensures (number_found _ _ _ _ c.in_ok-number.ensures c.in-Some-2.is) c.in_default-after_sign.ensures c.place_of-in_default-after_sign.ensures

pub returns : goal.returns
returns c = λ k. primitive_done _ _ _ _ _ _ k c.in-Some.ensures (number_found _ _ _ _ c.in_ok-number.ensures c.in-Some-2.is) c.in-Some-after_sign.ensures
