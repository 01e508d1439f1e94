-- How messages end.
use Rattle.std.proofs.Common.{◌≡◌, Bool, true, false, refl, sym, true≢false, if◌then◌else◌}
use Rattle.s80_tree.specs.Tree.{PrimaryTree, MessageTrees, ExprTrees, no_messages, messages, is_super}
use Rattle.s80_scope.specs.declared.fit.ending.Ending.TheVariants.{Sent}
use Rattle.s80_scope.specs.Inlined.{are_arms, with_arms, message_ending, chain_ending, ending, is_inlined, is_plain_block}
use Rattle.s80_scope.specs.Walk.{last_has_arms}

message_arms : (a b : Bool) (s : _) (es : ExprTrees) → is_inlined (message_ending a b s es) ≡ true → are_arms es ≡ true
message_arms a b s es inlined = by_test (are_arms es) inlined
  where
    by_test : (t : Bool) → is_inlined (if t then with_arms a b s else Sent) ≡ true → t ≡ true
    by_test true e = refl
    by_test false e = e

chain_arms : (a b : Bool) (ms : MessageTrees) → is_inlined (chain_ending a b ms) ≡ true → last_has_arms ms ≡ true
chain_arms a b no_messages e = refl
chain_arms a b (messages s es no_messages) e = message_arms a b s es e
chain_arms a b (messages s es (messages t fs ms)) e = chain_arms false false (messages t fs ms) e

-- the last message of what is inlined has arms
pub ending_arms : (p : PrimaryTree) (ms cs : MessageTrees) → is_inlined (ending p ms cs) ≡ true → last_has_arms ms ≡ true
ending_arms p ms no_messages e = chain_arms (is_super p) (is_plain_block p) ms e
ending_arms p ms (messages s es cs) e = absurd (true≢false (sym e))
