use Rattle.std.proofs.Common.{[]}
use Rattle.std.proofs.lemmas.List.Elements.{Contains-push}
use Rattle.s80_tree.specs.Tree.{method_of}
use Rattle.s80_scope.specs.Names.{uses_of}
use Rattle.s80_scope.proofs.lemmas.Apart.{used_once}
use Rattle.s80_core.proofs.elaboration.names.meaning.Goals as goal

pub bind-requires-clause-once : goal.bind-requires-clause-once
bind-requires-clause-once c =
    used_once (uses_of (method_of c.args.home.now.tree.now)) c.args.used.now c.requires.home.in_order
    (c.requires.used c.args.used.now (Contains-push [] c.args.used.now))
