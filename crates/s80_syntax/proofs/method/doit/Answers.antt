use Rattle.std.proofs.Common.{[], refl}
use Rattle.std.proofs.lemmas.Result.{err_from_is_err_and}
use Rattle.s80_tree.specs.Tree.{doit_of}
use Rattle.s80_syntax.proofs.Wholes.{no_tokens, some_tokens, doit_goes_on, doit_done}
use Rattle.s80_syntax.proofs.method.doit.Goals as goal

pub returns-in_err-temporaries : goal.returns-in_err-temporaries
returns-in_err-temporaries c =
    let p = err_from_is_err_and c.from_residual.result c.from_residual.ensures.1 in
    rw (p.1, p.2) (c.in_err-temporaries.ensures [])

pub home_body-requires-clause-slices : goal.home_body-requires-clause-slices
home_body-requires-clause-slices c = (c.in_ok-temporaries.ensures []).slices

pub returns-then-not-is_empty : goal.returns-then-not-is_empty
returns-then-not-is_empty c = doit_goes_on _ _ _ _ _ _ _ _ _ c.deref.ensures.value refl c.in_ok-temporaries.ensures c.in_ok-body.ensures (some_tokens _ c.if-not-is_empty.ensures) c.place_of.ensures

pub returns : goal.returns
returns c = doit_done _ _ _ _ _ (doit_of c.new.result) _ _ _ c.deref.ensures.value refl c.in_ok-temporaries.ensures c.in_ok-body.ensures (no_tokens _ c.if-not-is_empty.ensures) c.new.ensures
