-- What is left of a list, behind what was printed, is printed as all of it.
use Rattle.std.proofs.Common.{drop}
use Rattle.s80_tree.specs.Tree.{body_of, exprs_of, messages_of}
use Rattle.s80_decompile.specs.TreeTokens.{body_tokens, cascade_tokens, messages_tokens, parts_tokens}
use Rattle.s80_decompile.proofs.Printing.{Still, exprs_in, following, messages_in, stmts_in}
use Rattle.s80_decompile.proofs.walk.+walk.Given as goal

abbrev pub invariant-arguments-loop-argument : goal.invariant-arguments-loop-argument
invariant-arguments-loop-argument l = Still l.fn.printer l.printer (parts_tokens (exprs_in (drop l.argument-index l.argument-items)) l.rest) (parts_tokens (exprs_of l.arguments) l.fn.selector)

abbrev pub invariant-body-loop-one : goal.invariant-body-loop-one
invariant-body-loop-one l = Still l.fn.printer l.printer (following l.follows (stmts_in (drop l.one-index l.one-items))) (body_tokens (body_of l.body))

abbrev pub invariant-cascade-loop-one : goal.invariant-cascade-loop-one
invariant-cascade-loop-one l = Still l.fn.printer l.printer (cascade_tokens (messages_in (drop l.one-index l.one-items))) (cascade_tokens (messages_of l.messages))

abbrev pub invariant-messages-loop-one : goal.invariant-messages-loop-one
invariant-messages-loop-one l = Still l.fn.printer l.printer (messages_tokens (messages_in (drop l.one-index l.one-items))) (messages_tokens (messages_of l.messages))
