use Rattle.std.proofs.Common.{codes, subst, sym}
use Rattle.s80_class.specs.Table.{IsSuperclass}
use Rattle.s80_class.proofs.lemmas.Lookups.{found_here, found_later, found_nowhere}
use Rattle.s80_class.proofs.lemmas.Numbers.{is_superclass}
use Rattle.s80_class.proofs.found.lookup_from.Goals as goal

pub returns-then-is_some : goal.returns-then-is_some
returns-then-is_some g c =
    found_here c.args.classes.now c.args.methods.now c.args.selector.now c.args.from c.args.side c.find_up-found.result (sym c.if-is_some.ensures) c.find_up-found.ensures

pub returns-in-Instance : goal.returns-in-Instance
returns-in-Instance g c =
    found_nowhere c.args.classes.now c.args.methods.now c.args.selector.now c.args.from c.args.side c.find_up-found.result c.in-Instance.is (sym c.if-is_some.ensures) c.find_up-found.ensures

pub find_up-requires-clause-class : goal.find_up-requires-clause-class
find_up-requires-clause-class g c = subst (IsSuperclass c.args.classes.now.names) (sym c.requires.behind) (is_superclass c.args.classes.now.names (codes "Class"))

pub returns-in-Class : goal.returns-in-Class
returns-in-Class g c =
    found_later c.args.classes.now c.args.methods.now c.args.selector.now c.args.from c.args.side c.find_up-found.result c.args.behind c.in-Class.is c.requires.behind (sym c.if-is_some.ensures)
    c.find_up-found.ensures c.find_up.result c.find_up.ensures
