use Rattle.std.proofs.Common.{◌≡◌, ◌+◌, true, length}
use Rattle.s80_tree.specs.Tree.{body_of, exprs_of, messages_of}
use Rattle.s80_scope.specs.FitLiterals.{body_entries, exprs_entries, messages_entries}
use Rattle.s80_scope.specs.Inlined.{are_arms, is_inlined}
use Rattle.s80_scope.specs.Scope.{declared_in}
use Rattle.s80_scope.specs.Walk.{arguments_counts, arms_counts, cut, messages_counts, last_has_arms, with_entries}
use Rattle.s80_scope.proofs.lemmas.Opens.{exprs_left, messages_left, stmts_left}
use Rattle.s80_scope.proofs.lemmas.Counted.{Goes, rest_counts}
use Rattle.s80_scope.proofs.fit.walk.+walk.Given as goal

abbrev pub invariant-arguments-loop-argument : goal.invariant-arguments-loop-argument
invariant-arguments-loop-argument l = record {
  below : l.below ≡ cut (l.values + l.argument-index);
  counts : Goes (arguments_counts (l.values + l.argument-index) (exprs_left l.argument-items l.argument-index)) (arguments_counts l.values (exprs_of l.arguments)) l.counts;
  entries : with_entries l.entries (exprs_entries (declared_in l.scope) (exprs_left l.argument-items l.argument-index)) ≡ with_entries l.fn.entries (exprs_entries (declared_in l.scope) (exprs_of l.arguments));
}

abbrev pub invariant-arms-loop-argument : goal.invariant-arms-loop-argument
invariant-arms-loop-argument l = record {
  arms : are_arms (exprs_left l.argument-items l.argument-index) ≡ true;
  counts : Goes (arms_counts l.position (exprs_left l.argument-items l.argument-index)) (arms_counts l.position (exprs_of l.arguments)) l.counts;
  entries : with_entries l.entries (exprs_entries (declared_in l.scope) (exprs_left l.argument-items l.argument-index)) ≡ with_entries l.fn.entries (exprs_entries (declared_in l.scope) (exprs_of l.arguments));
}

abbrev pub invariant-messages-loop-message : goal.invariant-messages-loop-message
invariant-messages-loop-message l = record {
  after : l.after + l.message-index ≡ length l.message-items;
  arms : is_inlined l.chain.last ≡ true → last_has_arms (messages_left l.message-items l.message-index) ≡ true;
  counts : Goes (messages_counts l.position l.chain.before l.chain.last (messages_left l.message-items l.message-index)) (messages_counts l.position l.chain.before l.chain.last (messages_of l.messages)) l.counts;
  entries : with_entries l.entries (messages_entries (declared_in l.scope) l.to_super l.chain.others_to_super (is_inlined l.chain.last) (messages_left l.message-items l.message-index)) ≡ with_entries l.fn.entries (messages_entries (declared_in l.scope) l.chain.first_to_super l.chain.others_to_super (is_inlined l.chain.last) (messages_of l.messages));
}

abbrev pub invariant-body-loop-one : goal.invariant-body-loop-one
invariant-body-loop-one l = record {
  after : l.after + l.one-index ≡ length l.one-items;
  counts : Goes (rest_counts l.leaves (stmts_left l.one-items l.one-index)) (rest_counts l.leaves (body_of l.statements)) l.counts;
  entries : with_entries l.entries (body_entries (declared_in l.scope) (stmts_left l.one-items l.one-index)) ≡ with_entries l.fn.entries (body_entries (declared_in l.scope) (body_of l.statements));
}
