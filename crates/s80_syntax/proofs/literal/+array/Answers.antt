use Rattle.std.proofs.Common.{refl, sym, ◌∙◌, arith}
use Rattle.std.proofs.lemmas.Result.{err_from_is_err_and}
use Rattle.s80_syntax.proofs.Arrays.{element_array, element_end, element_found, element_none, element_inner, element_nested, elements_done, elements_fail, elements_more, rest_done, rest_fails, rest_unclosed, simple_next}
use Rattle.s80_syntax.proofs.literal.+array.Goals as goal

pub array_rest-returns-in_err-items : goal.array_rest-returns-in_err-items
array_rest-returns-in_err-items t c =
    let p = err_from_is_err_and c.from_residual.result c.from_residual.ensures.1 in
    rw (p.1, p.2) (λ names. rest_fails _ _ _ names _ _ refl (c.in_err-items.ensures names))

pub array_rest-returns-in_default : goal.array_rest-returns-in_default
array_rest-returns-in_default t c = λ names. rest_unclosed _ _ _ names _ _ _ _ refl (c.in_ok-items.ensures names) c.in_default.ensures c.place_of.ensures

pub array_rest-returns : goal.array_rest-returns
array_rest-returns t c = λ names. rest_done _ _ _ names _ _ _ _ c.in-Some.field-0-0 refl (c.in_ok-items.ensures names) c.in-Some.ensures.0 c.in-Some.ensures.1

pub element-returns-in_default : goal.element-returns-in_default
element-returns-in_default t c = λ names. element_end _ _ c.in_default.ensures

pub element-returns-then-not-opens_array : goal.element-returns-then-not-opens_array
element-returns-then-not-opens_array t c = λ names. simple_next _ _ names _ _ c.in-Some.token _ c.in-Some.ensures (sym c.if-not-opens_array.ensures) c.in_ok-simple_element.ensures

pub element-returns-then-depth-eq-DEPTH : goal.element-returns-then-depth-eq-DEPTH
element-returns-then-depth-eq-DEPTH t c = λ names. element_nested _ _ names _ _ c.in-Some.token _ c.in-Some.ensures (sym c.if-not-opens_array.ensures) c.if-depth-eq-DEPTH.true c.place_of.ensures

pub element-returns-in_err-items : goal.element-returns-in_err-items
element-returns-in_err-items t c =
    let p = err_from_is_err_and c.from_residual-in_err-items.result c.from_residual-in_err-items.ensures.1 in
    rw (p.1, p.2) (λ names. element_inner _ _ names _ _ c.in-Some.token _ c.in-Some.ensures (sym c.if-not-opens_array.ensures) (omega arith) (c.in_err-items.ensures names))

pub element-returns : goal.element-returns
element-returns t c = λ names. element_array _ _ _ _ _ _ _ c.in-Some.token c.in-Some.ensures (sym c.if-not-opens_array.ensures) (omega arith) c.in_ok-items.ensures c.array_of.ensures

pub elements-returns-in_err-literal : goal.elements-returns-in_err-literal
elements-returns-in_err-literal t c =
    let p = err_from_is_err_and c.from_residual.result c.from_residual.ensures.1 in
    rw (p.1, p.2) (λ names. elements_fail _ _ names _ _ _ c.loop-items.invariant.same (c.in_err-literal.ensures names))

pub elements-loop-items-smaller : goal.elements-loop-items-smaller
elements-loop-items-smaller t c = (element_found _ _ _ _ _ c.in_ok-literal.ensures c.in-Some.is).shorter

pub elements-loop-items-preserved : goal.elements-loop-items-preserved
elements-loop-items-preserved t c =
    let x = element_found _ _ _ _ _ c.in_ok-literal.ensures c.in-Some.is in
    record {
      read = elements_more _ _ _ _ _ _ _ _ c.loop-items.invariant.read x c.in_ok-push.ensures.ok;
      same = λ k g. c.loop-items.invariant.same k g ∙ x.same k g;
      slices = x.slices;
      shorter = (let s = x.shorter in let q = c.loop-items.invariant.shorter in omega arith);
    }

pub elements-returns : goal.elements-returns
elements-returns t c = λ names.
    elements_done _ _ names _ _ _ c.loop-items.invariant.read c.loop-items.invariant.same (element_none _ _ _ _ c.in_ok-literal.ensures c.in_default.is) c.loop-items.invariant.slices c.loop-items.invariant.shorter
