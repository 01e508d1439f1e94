use Rattle.std.proofs.Common.{rules}
use Rattle.s80_apply.proofs.Seen.{found_again, seen_more}
use Rattle.s80_apply.proofs.checks.first_again.Goals as goal

pub returns-then-not-branch-clause-again : goal.returns-then-not-branch-clause-again
returns-then-not-branch-clause-again c = found_again c.args.names.now _ c.at-name.result.now c.loop-alloc.before c.in_ok-to_vec.field-0 c.loop-alloc.invariant c.len-in-loop-alloc.ensures.len c.at-name.ensures (search rules) (search rules)

pub loop-alloc-preserved : goal.loop-alloc-preserved
loop-alloc-preserved c = seen_more c.args.names.now _ c.at-name.result.now c.loop-alloc.before _ c.in_ok-to_vec.field-0 c.loop-alloc.invariant c.len-in-loop-alloc.ensures.len c.at-name.ensures (search rules) (search rules) c.in_ok-insert.ensures.updates (search rules)
