use Rattle.std.proofs.Common.{◌∙◌, ap, refl, subst, sym}
use Rattle.std.specs.FinMap as map
use Rattle.std.specs.Option.{IsSome}
use Rattle.s80_dict.specs.Dict.{HasRoom}
use Rattle.s80_apply.specs.System.{HasMethodAt, HasNumber, SystemState}
use Rattle.s80_apply.proofs.system.System.number_with_method.Goals as goal

pub returns-in-Some : goal.returns-in-Some
returns-in-Some c =
    let here : SystemState = record { table = c.self.inside.classes; methods = c.self.inside.methods } in
    let number = c.in_ok-number.number in
    let selector = c.args.selector.now in
    let has : HasNumber c.args.self.now c.args.name.now number = c.in_ok-number.ensures in
    let inside : HasNumber here c.args.name.now number = subst (λ s. HasNumber s c.args.name.now number) (sym c.self.view_is) has in
    let at : HasMethodAt here number c.args.side selector = record {
      within = inside.dictionaries;
      room = subst (λ d. HasRoom d.room selector) c.dict.ensures (c.get.ensures.room selector (subst IsSome c.in-Some.ensures.value refl));
      entry = c.in-Some.field-0.now;
      there = sym (c.in-Some.ensures.value ∙ ap (λ d. map.get d.methods selector) c.dict.ensures);
    } in
    (has, subst (λ s. HasMethodAt s number c.args.side selector) c.self.view_is at)
