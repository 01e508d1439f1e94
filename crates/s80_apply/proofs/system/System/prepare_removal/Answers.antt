use Rattle.std.proofs.Common.{◌∙◌, ap, subst, sym}
use Rattle.s80_class.specs.Table.{IsNumberOf}
use Rattle.s80_apply.specs.Accept.{has_subclasses}
use Rattle.s80_apply.specs.System.{HasNumber, SystemState}
use Rattle.s80_apply.proofs.Preparing.{removal_prepared}
use Rattle.s80_apply.proofs.system.System.prepare_removal.Goals as goal

pub has_subclasses-requires : goal.has_subclasses-requires
has_subclasses-requires c =
    let name = c.args.class_name.now in
    let has : HasNumber c.args.self.now name c.in_ok-number.number = c.in_ok-number.ensures in
    subst (λ (s : SystemState). IsNumberOf s.table.names c.in_ok-number.number name) (sym c.self.view_is) has.named

pub returns : goal.returns
returns c =
    let name = c.args.class_name.now in
    removal_prepared c.args.self.now name c.in_ok-number.number c.in_ok-number.ensures (sym c.in_ok-refusal.ensures ∙ c.in_default.is)
    (ap (λ (s : SystemState). has_subclasses name s.table.classes) (sym c.self.view_is) ∙ sym c.in_ok-refusal-2.ensures ∙ c.in_default-2.is)
