use Rattle.std.proofs.Common.{◌≡◌, ◌∙◌, None, ap, subst, sym}
use Rattle.s80_class.specs.Table.{IsNumberOf}
use Rattle.s80_apply.specs.Accept.{refusal_of_class_vars}
use Rattle.s80_apply.specs.System.{HasNumber, SystemState}
use Rattle.s80_apply.proofs.Codes.{codes_have_sources}
use Rattle.s80_apply.proofs.Vars.{vars_above, vars_within}
use Rattle.s80_apply.proofs.system.System.place_class_vars.Goals as goal

pub at-requires : goal.at-requires
at-requires c =
    let name = c.args.class_name.now in
    let has : HasNumber c.args.self.now name c.in_ok-number.number = c.in_ok-number.ensures in
    (name, subst (λ (s : SystemState). IsNumberOf s.table.names c.in_ok-number.number name) (sym c.self.view_is) has.named)

pub placed_again-requires-clause-superclass : goal.placed_again-requires-clause-superclass
placed_again-requires-clause-superclass c =
    let name = c.args.class_name.now in
    let has : HasNumber c.args.self.now name c.in_ok-number.number = c.in_ok-number.ensures in
    let named = subst (λ (s : SystemState). IsNumberOf s.table.names c.in_ok-number.number name) (sym c.self.view_is) has.named in
    vars_above c.self.inside.classes c.in_ok-number.number name c.args.names.now c.at.result.now c.in_ok-entry.entry named c.at.ensures c.in_ok-entry.ensures.row c.in_ok-entry.ensures.class_name c.in_ok-entry.ensures.superclass c.self.invariant.valid

pub placed_again-requires-clause-within : goal.placed_again-requires-clause-within
placed_again-requires-clause-within c =
    let name = c.args.class_name.now in
    let vars = c.args.names.now in
    let has : HasNumber c.args.self.now name c.in_ok-number.number = c.in_ok-number.ensures in
    let named = subst (λ (s : SystemState). IsNumberOf s.table.names c.in_ok-number.number name) (sym c.self.view_is) has.named in
    let accepted : refusal_of_class_vars name vars c.self.inside.classes.classes ≡ None = ap (λ (s : SystemState). refusal_of_class_vars name vars s.table.classes) c.self.view_is ∙ (sym c.in_ok-refusal-2.ensures ∙ c.in_default-2.is) in
    vars_within c.self.inside.classes c.in_ok-number.number name vars c.at.result.now c.in_ok-entry.entry named c.at.ensures c.in_ok-entry.ensures.row c.in_ok-entry.ensures.class_name c.in_ok-entry.ensures.superclass accepted c.self.invariant.valid c.self.invariant.within

pub placed_again-requires-clause-sources : goal.placed_again-requires-clause-sources
placed_again-requires-clause-sources c = codes_have_sources c.self.inside.classes c.self.inside.methods c.self.invariant.codes
