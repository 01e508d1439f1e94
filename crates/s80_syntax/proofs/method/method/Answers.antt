use Rattle.std.proofs.Common.{refl}
use Rattle.std.proofs.lemmas.Result.{err_from_is_err_and}
use Rattle.s80_tree.specs.Tree.{method_of}
use Rattle.s80_syntax.proofs.Wholes.{no_tokens, some_tokens, method_head_fails, method_body_fails, method_goes_on, method_done}
use Rattle.s80_syntax.proofs.method.method.Goals as goal

pub returns-in_err-primitive : goal.returns-in_err-primitive
returns-in_err-primitive c =
    let p = err_from_is_err_and c.from_residual-in_err-primitive.result c.from_residual-in_err-primitive.ensures.1 in
    rw (p.1, p.2) (method_head_fails _ _ _ _ _ _ c.in_ok-selector.ensures c.in_err-primitive.ensures)

pub returns-in_err-body : goal.returns-in_err-body
returns-in_err-body c =
    let p = err_from_is_err_and c.from_residual-in_err-body.result c.from_residual-in_err-body.ensures.1 in
    rw (p.1, p.2) (method_body_fails _ _ _ _ _ _ _ _ _ _ _ _ c.deref.ensures.value c.deref-2.ensures.value refl c.in_ok-selector.ensures c.in_ok-primitive.ensures c.in_err-body.ensures)

pub returns-then-not-is_empty : goal.returns-then-not-is_empty
returns-then-not-is_empty c = method_goes_on _ _ _ _ _ _ _ _ _ _ _ _ _ _ c.deref.ensures.value c.deref-2.ensures.value refl c.in_ok-selector.ensures c.in_ok-primitive.ensures c.in_ok-body.ensures (some_tokens _ c.if-not-is_empty.ensures) c.place_of.ensures

pub returns : goal.returns
returns c = method_done _ _ _ _ _ _ _ _ _ (method_of c.new.result) _ _ _ _ c.deref.ensures.value c.deref-2.ensures.value refl c.in_ok-selector.ensures c.in_ok-primitive.ensures c.in_ok-body.ensures (no_tokens _ c.if-not-is_empty.ensures) c.new.ensures
