use Rattle.std.proofs.Common.{arith}
use Rattle.std.proofs.lemmas.Result.{err_from_is_err_and}
use Rattle.s80_syntax.proofs.Operands.{literal_nested, literal_inner, literal_array, negative_found, literal_token, literal_none, literal_end}
use Rattle.s80_syntax.proofs.literal.literal.Goals as goal

pub returns-then-depth-eq-DEPTH : goal.returns-then-depth-eq-DEPTH
returns-then-depth-eq-DEPTH c = λ names. literal_nested _ _ names _ _ _ _ c.in-Some.ensures.0 c.in-Some.ensures.1 c.if-depth-eq-DEPTH.true c.place_of.ensures

pub returns-in_err-items : goal.returns-in_err-items
returns-in_err-items c =
    let p = err_from_is_err_and c.from_residual.result c.from_residual.ensures.1 in
    rw (p.1, p.2) (λ names. literal_inner _ _ names _ _ _ _ c.in-Some.ensures.0 c.in-Some.ensures.1 (omega arith) (c.in_err-items.ensures names))

pub returns-in-Some : goal.returns-in-Some
returns-in-Some c = λ names. literal_array _ _ names _ _ _ _ _ _ c.in-Some.ensures.0 c.in-Some.ensures.1 (omega arith) (c.in_ok-items.ensures names) c.array_of.ensures

pub returns-in-Some-2 : goal.returns-in-Some-2
returns-in-Some-2 c = λ names. negative_found _ _ names _ _ _ c.in_ok-found.ensures c.in-Some-2.is

pub returns-in_default-next : goal.returns-in_default-next
returns-in_default-next c = λ names. literal_end _ _ names _ _ c.in_default-next.ensures c.place_of-in_default-next.ensures

pub returns-in-Some-3 : goal.returns-in-Some-3
returns-in-Some-3 c = λ names. literal_token _ _ names _ _ _ _ c.in-Some-next.token c.requires.slices c.in-Some-next.ensures c.in_ok-found-2.ensures c.in-Some-3.is

pub returns-in-None : goal.returns-in-None
returns-in-None c = λ names. literal_none _ _ names _ _ _ _ c.in-Some-next.token _ c.in-Some-next.ensures c.requires.other c.in_default.ensures c.in_ok-found.ensures c.in_default-2.is c.in_ok-found-2.ensures c.in-None.is c.place_of-in-None.ensures
