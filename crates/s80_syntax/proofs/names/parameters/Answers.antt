use Rattle.std.proofs.Common.{◌∙◌, arith}
use Rattle.s80_syntax.proofs.NextToken.{tail_smaller}
use Rattle.s80_syntax.proofs.Parameters.{parameter_read, parameter_taken, parameter_missing, name_found, name_missing}
use Rattle.s80_syntax.proofs.names.parameters.Goals as goal

pub returns-in_default-2 : goal.returns-in_default-2
returns-in_default-2 c = λ depth names. parameter_missing _ depth names _ _ _ _ _ _ c.loop-tail.invariant.same c.in-Some.ensures.0 c.in-Some.ensures.1 (name_missing _ _ _ c.in_ok-name.ensures c.in_default-2.is) c.place_of.ensures

pub loop-tail-preserved : goal.loop-tail-preserved
loop-tail-preserved c =
    let x = name_found _ _ _ _ c.in_ok-name.ensures c.in-Some-2.is in
    record {
      read = parameter_read _ _ _ _ _ _ _ _ _ c.loop-tail.invariant.read c.in-Some.ensures.0 c.in-Some.ensures.1 x c.in_ok-push.ensures.ok;
      same = λ k. c.loop-tail.invariant.same k ∙ parameter_taken _ _ _ _ _ _ _ _ c.in-Some.ensures.0 c.in-Some.ensures.1 x c.in_ok-push.ensures.ok k;
      slices = x.slices;
      shorter = (let s = x.shorter in let r = tail_smaller _ _ _ c.in-Some.ensures.0 in let q = c.loop-tail.invariant.shorter in omega arith);
    }
