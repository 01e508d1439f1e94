use Rattle.std.proofs.Common.{◌∙◌, arith}
use Rattle.s80_syntax.proofs.Chains.{message_added, unary_read, unary_taken, unaries_done}
use Rattle.s80_syntax.proofs.NextToken.{tail_slices, tail_smaller}
use Rattle.s80_syntax.proofs.messages.unary_messages.Goals as goal

pub loop-token-preserved : goal.loop-token-preserved
loop-token-preserved c = record {
  read = unary_read _ _ _ _ _ _ c.in-Some.token c.loop-token.invariant.read c.in-Some.ensures.0 c.in-Some.ensures.1 (message_added _ _ _ _ _ _ _ c.in_ok-push.ensures.ok c.new.ensures c.in_ok-selector.ensures c.empty.ensures);
  same = λ k. c.loop-token.invariant.same k ∙ unary_taken _ _ _ c.in-Some.token c.in-Some.ensures.0 c.in-Some.ensures.1 k;
  slices = tail_slices _ _ _ c.in-Some.token c.in-Some.ensures.0 c.loop-token.invariant.slices;
  shorter = (let s = tail_smaller _ _ c.in-Some.token c.in-Some.ensures.0 in let q = c.loop-token.invariant.shorter in omega arith);
}

pub returns : goal.returns
returns c = unaries_done _ _ _ _ c.loop-token.invariant.read c.loop-token.invariant.same c.in_default.ensures c.loop-token.invariant.slices c.loop-token.invariant.shorter
