use Rattle.std.proofs.Common.{◌∙◌, subst, sym}
use Rattle.s80_dict.specs.Dict.{HasRoom}
use Rattle.s80_apply.specs.System.{ClassifiesMethod, HasMethodAt, SystemState}
use Rattle.s80_apply.proofs.Sound.{method_is_classified, sound_classified}
use Rattle.s80_apply.proofs.system.System.classify.Goals as goal
use Rattle.s80_apply.proofs.system.System.classify.Goals.{in-Some-1, in-None-1}

pub insert-requires-clause-room : goal.insert-requires-clause-room
insert-requires-clause-room c =
    let at = subst (λ s. HasMethodAt s c.args.number c.args.side c.args.selector.now) (sym c.self.view_is) c.requires in
    subst (λ r. HasRoom r c.args.selector.now) (sym (c.remove.ensures.room c.args.number c.args.side)) at.room

-- ---- the system that comes of it

pub invariant_of-self : goal.invariant_of-self
invariant_of-self c =
    let before : SystemState = record { table = c.self.inside.classes; methods = c.self.inside.methods } in
    let now : SystemState = record { table = c.self.inside.classes; methods = c.insert.new.self } in
    sound_classified before now c.args.number c.args.side c.args.selector.now c.args.category (subst (λ s. HasMethodAt s c.args.number c.args.side c.args.selector.now) (sym c.self.view_is) c.requires) c.self.invariant
    (method_is_classified before c.args.number c.args.side c.args.selector.now c.args.category c.in-Some.entry c.remove.new.self c.insert.new.self (sym c.remove.ensures.old ∙ c.in-Some.is) c.remove.ensures.methods c.remove.ensures.count c.insert.ensures.methods c.insert.ensures.count)

pub invariant_of-self-in-Some-2 : goal.invariant_of-self-in-Some-2
invariant_of-self-in-Some-2 c =
    let before : SystemState = record { table = c.self.inside.classes; methods = c.self.inside.methods } in
    let now : SystemState = record { table = c.self.inside.classes; methods = c.insert.new.self } in
    sound_classified before now c.args.number c.args.side c.args.selector.now c.args.category (subst (λ s. HasMethodAt s c.args.number c.args.side c.args.selector.now) (sym c.self.view_is) c.requires) c.self.invariant
    (method_is_classified before c.args.number c.args.side c.args.selector.now c.args.category c.in-Some.entry c.remove.new.self c.insert.new.self (sym c.remove.ensures.old ∙ c.in-Some.is) c.remove.ensures.methods c.remove.ensures.count c.insert.ensures.methods c.insert.ensures.count)

pub returns-in-Some : goal.returns-in-Some
returns-in-Some c =
    let before : SystemState = record { table = c.self.inside.classes; methods = c.self.inside.methods } in
    let now : SystemState = record { table = c.self.inside.classes; methods = c.insert.new.self } in
    let classified : ClassifiesMethod c.args.self.now c.args.number c.args.side c.args.selector.now c.args.category now =
    subst (λ s. ClassifiesMethod s c.args.number c.args.side c.args.selector.now c.args.category now) c.self.view_is
    (method_is_classified before c.args.number c.args.side c.args.selector.now c.args.category c.in-Some.entry c.remove.new.self c.insert.new.self (sym c.remove.ensures.old ∙ c.in-Some.is) c.remove.ensures.methods c.remove.ensures.count c.insert.ensures.methods c.insert.ensures.count) in
    elim c.match-insert.branch [
      | in-Some-1 w ↦ subst (ClassifiesMethod c.args.self.now c.args.number c.args.side c.args.selector.now c.args.category) (sym w.self-is) classified
      | in-None-1 w ↦ subst (ClassifiesMethod c.args.self.now c.args.number c.args.side c.args.selector.now c.args.category) (sym w.self-is) classified
    ]
