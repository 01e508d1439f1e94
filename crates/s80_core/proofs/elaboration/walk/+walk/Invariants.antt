use Rattle.std.proofs.Common.{◌≡◌, ◌+◌, [], ◌∷◌, ◌++◌, true, map, drop}
use Rattle.s80_tree.specs.Tree.{BodyTree, MessageTrees, body_from, body_of, exprs_of, message_of, messages_from, messages_of, stmt_of}
use Rattle.s80_scope.specs.FitStack.{body_parameters, exprs_parameters, messages_parameters}
use Rattle.s80_scope.specs.Inlined.{are_arms, is_inlined}
use Rattle.s80_scope.specs.Names.{body_uses, exprs_uses, messages_uses}
use Rattle.s80_scope.specs.Walk.{last_has_arms}
use Rattle.s80_scope.proofs.lemmas.Opens.{exprs_left, messages_left}
use Rattle.s80_core.specs.Core.{SendTrees, core_of, cores_of, sends_of}
use Rattle.s80_core.specs.Elaborate.{arms_core, body_core, chain_core, exprs_core, sends_core}
use Rattle.s80_core.specs.Walk.{IsPart, cores_append, joined, meaning_in, sends_append}
use Rattle.s80_core.proofs.elaboration.walk.+walk.Given as goal

abbrev pub invariant-messages-loop-message : goal.invariant-messages-loop-message
invariant-messages-loop-message l =
    let left : MessageTrees = messages_from (map message_of (drop l.message-index l.before ++ l.last ∷ [])) in
    record {
      chain : (more : SendTrees) → chain_core (meaning_in l.home) (core_of l.made) l.passed l.ending l.number more left ≡ chain_core (meaning_in l.home) (core_of l.fn.receiver) l.fn.to_super l.ending l.fn.number more (messages_of l.messages);
      count : l.number + messages_parameters left ≡ l.fn.number + messages_parameters (messages_of l.messages);
      part : IsPart l.home l.number (messages_uses left) (messages_parameters left);
      arms : is_inlined l.ending ≡ true → last_has_arms left ≡ true;
    }

abbrev pub invariant-sends-loop-message : goal.invariant-sends-loop-message
invariant-sends-loop-message l =
    let left : MessageTrees = messages_left l.message-items l.message-index in
    record {
      sends : sends_append (sends_of l.made) (sends_core (meaning_in l.home) l.number left) ≡ sends_core (meaning_in l.home) l.fn.number (messages_of l.messages);
      count : l.number + messages_parameters left ≡ l.fn.number + messages_parameters (messages_of l.messages);
      part : IsPart l.home l.number (messages_uses left) (messages_parameters left);
    }

abbrev pub invariant-exprs-loop-one : goal.invariant-exprs-loop-one
invariant-exprs-loop-one l =
    let left = exprs_left l.one-items l.one-index in
    record {
      cores : cores_append (cores_of l.made) (exprs_core (meaning_in l.home) l.number left) ≡ exprs_core (meaning_in l.home) l.fn.number (exprs_of l.exprs);
      count : l.number + exprs_parameters left ≡ l.fn.number + exprs_parameters (exprs_of l.exprs);
      part : IsPart l.home l.number (exprs_uses left) (exprs_parameters left);
    }

abbrev pub invariant-arms-loop-one : goal.invariant-arms-loop-one
invariant-arms-loop-one l =
    let left = exprs_left l.one-items l.one-index in
    record {
      cores : cores_append (cores_of l.made) (arms_core (meaning_in l.home) l.number left) ≡ arms_core (meaning_in l.home) l.fn.number (exprs_of l.exprs);
      count : l.number + exprs_parameters left ≡ l.fn.number + exprs_parameters (exprs_of l.exprs);
      part : IsPart l.home l.number (exprs_uses left) (exprs_parameters left);
      arms : are_arms left ≡ true;
    }

abbrev pub invariant-body-loop-one : goal.invariant-body-loop-one
invariant-body-loop-one l =
    let left : BodyTree = body_from (map stmt_of (drop l.one-index l.before ++ l.last ∷ [])) in
    record {
      body : joined (map core_of l.made.items) (body_core (meaning_in l.home) l.within l.number left) ≡ body_core (meaning_in l.home) l.within l.fn.number (body_of l.statements);
      count : l.number + body_parameters left ≡ l.fn.number + body_parameters (body_of l.statements);
      part : IsPart l.home l.number (body_uses left) (body_parameters left);
    }
