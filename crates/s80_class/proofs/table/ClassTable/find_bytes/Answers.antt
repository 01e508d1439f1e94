use Rattle.std.proofs.Common.{◌≡◌, subst}
use Rattle.s80_class.specs.Table.{Table, number_of}
use Rattle.s80_class.proofs.lemmas.Numbers.{number_found}
use Rattle.s80_class.proofs.table.ClassTable.find_bytes.Goals as goal

pub returns : goal.returns
returns c =
    subst (λ (t : Table). c.find.result ≡ number_of t.names c.args.name.now) c.self.view_is
    (number_found _ c.self.inside.tree.names c.args.name.now c.find.result c.find.ensures.found c.find.ensures.only)
