use Rattle.std.proofs.Common.{[], true}
use Rattle.std.proofs.lemmas.Result.{err_from_is_err_and}
use Rattle.s80_syntax.proofs.NextToken.{tail_slices}
use Rattle.s80_syntax.proofs.Heads.{first_primitive_fails, behind_primitive_fails, primitive_first, no_head, first_temporaries_fail, temporaries_alone, last_primitive_fails, primitive_last}
use Rattle.s80_syntax.proofs.head.head.Goals as goal

pub returns-in_err-number : goal.returns-in_err-number
returns-in_err-number c =
    let p = err_from_is_err_and c.from_residual.result c.from_residual.ensures.1 in
    rw (p.1, p.2) (first_primitive_fails _ _ _ _ c.in-Some.ensures c.in_err-number.ensures)

pub optional_temporaries-requires-clause-slices : goal.optional_temporaries-requires-clause-slices
optional_temporaries-requires-clause-slices c = (c.in_ok-number.ensures []).slices

pub returns-in_err-temporaries : goal.returns-in_err-temporaries
returns-in_err-temporaries c =
    let p = err_from_is_err_and c.from_residual-in_err-temporaries.result c.from_residual-in_err-temporaries.ensures.1 in
    rw (p.1, p.2) (behind_primitive_fails _ _ _ _ _ _ c.in-Some.ensures c.in_ok-number.ensures c.in_err-temporaries.ensures)

pub returns-in-Some : goal.returns-in-Some
returns-in-Some c = primitive_first _ _ _ _ _ _ _ c.in-Some.ensures c.in_ok-number.ensures c.in_ok-temporaries.ensures

pub returns-in_default-after_sign : goal.returns-in_default-after_sign
returns-in_default-after_sign c = no_head _ _ _ c.in_default.ensures c.in_default-after_sign.ensures c.empty.ensures c.requires.slices

pub returns-in_err-temporaries-2 : goal.returns-in_err-temporaries-2
returns-in_err-temporaries-2 c =
    let p = err_from_is_err_and c.from_residual-in_err-temporaries-2.result c.from_residual-in_err-temporaries-2.ensures.1 in
    rw (p.1, p.2) (first_temporaries_fail _ _ _ _ c.in-Some-after_sign.ensures c.in_err-temporaries-2.ensures)

pub after_sign-requires-3 : goal.after_sign-requires-3
after_sign-requires-3 c = (c.in_ok-temporaries-2.ensures [] true).slices

pub returns-in_default-after_sign-2 : goal.returns-in_default-after_sign-2
returns-in_default-after_sign-2 c = temporaries_alone _ _ _ _ _ c.in-Some-after_sign.ensures c.in_ok-temporaries-2.ensures c.in_default-after_sign-2.ensures

pub primitive-requires-2-clause-slices : goal.primitive-requires-2-clause-slices
primitive-requires-2-clause-slices c = tail_slices _ _ _ c.in-Some-after_sign-2.ensures.0 c.in-Some-after_sign-2.ensures.1 (c.in_ok-temporaries-2.ensures [] true).slices

pub returns-in_err-number-2 : goal.returns-in_err-number-2
returns-in_err-number-2 c =
    let p = err_from_is_err_and c.from_residual-in_err-number-2.result c.from_residual-in_err-number-2.ensures.1 in
    rw (p.1, p.2) (last_primitive_fails _ _ _ _ _ _ _ c.in-Some-after_sign.ensures c.in_ok-temporaries-2.ensures c.in-Some-after_sign-2.ensures c.in_err-number-2.ensures)

pub returns : goal.returns
returns c = primitive_last _ _ _ _ _ _ _ _ c.in-Some-after_sign.ensures c.in_ok-temporaries-2.ensures c.in-Some-after_sign-2.ensures c.in_ok-number-2.ensures
