use Rattle.std.proofs.Common.{subst, sym}
use Rattle.s80_class.specs.Table.{IsNumberOf}
use Rattle.s80_apply.specs.System.{SystemState}
use Rattle.s80_apply.proofs.system.System.refusal_of_class_vars.Goals as goal

pub too_many_class_side-requires-clause-class : goal.too_many_class_side-requires-clause-class
too_many_class_side-requires-clause-class c =
    let name = c.args.class_name.now in
    (name, subst (λ (s : SystemState). IsNumberOf s.table.names c.args.number name) (sym c.self.view_is) c.requires.class.named)
