use Rattle.std.proofs.Common.{◌≡◌, None, ◌∙◌, ap, inl, inr, refl, subst, sym}
use Rattle.std.specs.FinMap as map
use Rattle.std.specs.Option.{IsSome}
use Rattle.s80_dict.specs.Dict.{HasRoom}
use Rattle.s80_dict.specs.Table.{methods_at}
use Rattle.s80_apply.specs.System.{HasMethodAt, HasNumber, SystemState}
use Rattle.s80_apply.proofs.system.System.with_method.Goals as goal

pub returns-in-Some : goal.returns-in-Some
returns-in-Some c =
    let here : SystemState = record { table = c.self.inside.classes; methods = c.self.inside.methods } in
    let number = c.args.number in
    let selector = c.args.selector.now in
    let inside : HasNumber here c.args.name.now number = subst (λ s. HasNumber s c.args.name.now number) (sym c.self.view_is) c.requires in
    let at : HasMethodAt here number c.args.side selector = record {
      within = inside.dictionaries;
      room = subst (λ d. HasRoom d.room selector) c.dict.ensures (c.get.ensures.room selector (subst IsSome c.in-Some.ensures.value refl));
      entry = c.in-Some.field-0.now;
      there = sym (c.in-Some.ensures.value ∙ ap (λ d. map.get d.methods selector) c.dict.ensures);
    } in
    (c.requires, subst (λ s. HasMethodAt s number c.args.side selector) c.self.view_is at)

pub returns-in-None : goal.returns-in-None
returns-in-None c =
    let here : SystemState = record { table = c.self.inside.classes; methods = c.self.inside.methods } in
    inr (
      c.args.number,
      c.requires,
      subst (λ (s : SystemState). map.get (methods_at s.methods c.args.number c.args.side) c.args.selector.now ≡ None) c.self.view_is
          (ap (λ d. map.get d.methods c.args.selector.now) (sym c.dict.ensures) ∙ sym c.in-None.ensures.value),
    )
