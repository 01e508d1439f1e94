use Rattle.std.proofs.Common.{sym, ap, ◌∙◌, arith}
use Rattle.s80_syntax.specs.Scope.{assigns_in}
use Rattle.s80_syntax.proofs.Targets.{target_read, target_taken, target_refused, two_slices, two_smaller}
use Rattle.s80_syntax.proofs.names.targets.Goals as goal

pub returns-then-not-may_assign : goal.returns-then-not-may_assign
returns-then-not-may_assign c = λ depth. target_refused _ depth _ _ _ _ _ c.in-Some.token _ c.loop-token.invariant.same c.in-Some.ensures.0 c.in-Some.ensures.1 c.in-Some-next_of.ensures.0 c.in-Some-next_of.ensures.1 (ap (assigns_in c.args.scope.now) (sym c.bytes.ensures) ∙ sym c.if-not-may_assign.ensures)

pub loop-token-preserved : goal.loop-token-preserved
loop-token-preserved c = record {
  read = target_read _ _ _ _ _ _ _ _ c.in-Some.token _ c.loop-token.invariant.read c.in-Some.ensures.0 c.in-Some.ensures.1 c.in-Some-next_of.ensures.0 c.in-Some-next_of.ensures.1 c.in_ok-name_at.ensures c.in_ok-push.ensures.ok;
  same = λ k g.
      c.loop-token.invariant.same k g
      ∙ target_taken _ _ _ _ _ c.in-Some.token _ c.in-Some.ensures.0 c.in-Some.ensures.1 c.in-Some-next_of.ensures.0 c.in-Some-next_of.ensures.1 (ap (assigns_in c.args.scope.now) (sym c.bytes.ensures) ∙ sym c.if-not-may_assign.ensures) k g;
  slices = two_slices _ _ _ _ _ _ c.in-Some.ensures.0 c.in-Some-next_of.ensures.0 c.loop-token.invariant.slices;
  shorter = (let s = two_smaller _ _ _ _ _ c.in-Some.ensures.0 c.in-Some-next_of.ensures.0 in let q = c.loop-token.invariant.shorter in omega arith);
}
