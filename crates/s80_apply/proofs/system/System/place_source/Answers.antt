use Rattle.std.proofs.Common.{◌∙◌, subst, sym}
use Rattle.s80_dict.specs.Dict.{HasRoom}
use Rattle.s80_apply.specs.System.{HasSourceAt, HasMethodAt, SystemState}
use Rattle.s80_apply.proofs.Sound.{source_is_placed, sound_placed}
use Rattle.s80_apply.proofs.system.System.place_source.Goals as goal
use Rattle.s80_apply.proofs.system.System.place_source.Goals.{in-Some-1, in-None-1}

pub insert-requires-clause-room : goal.insert-requires-clause-room
insert-requires-clause-room c =
    let at = subst (λ s. HasMethodAt s c.args.number c.args.side c.args.selector.now) (sym c.self.view_is) c.requires in
    subst (λ r. HasRoom r c.args.selector.now) (sym (c.remove.ensures.room c.args.number c.args.side)) at.room

-- ---- the system that comes of it

pub invariant_of-self : goal.invariant_of-self
invariant_of-self c =
    let before : SystemState = record { table = c.self.inside.classes; methods = c.self.inside.methods } in
    let now : SystemState = record { table = c.self.inside.classes; methods = c.insert.new.self } in
    sound_placed before now c.args.number c.args.side c.args.selector.now c.args.place (subst (λ s. HasMethodAt s c.args.number c.args.side c.args.selector.now) (sym c.self.view_is) c.requires) c.self.invariant
    (source_is_placed before c.args.number c.args.side c.args.selector.now c.args.place c.in-Some.entry c.remove.new.self c.insert.new.self (sym c.remove.ensures.old ∙ c.in-Some.is) c.remove.ensures.methods c.remove.ensures.count c.insert.ensures.methods c.insert.ensures.count)

pub invariant_of-self-in-Some-2 : goal.invariant_of-self-in-Some-2
invariant_of-self-in-Some-2 c =
    let before : SystemState = record { table = c.self.inside.classes; methods = c.self.inside.methods } in
    let now : SystemState = record { table = c.self.inside.classes; methods = c.insert.new.self } in
    sound_placed before now c.args.number c.args.side c.args.selector.now c.args.place (subst (λ s. HasMethodAt s c.args.number c.args.side c.args.selector.now) (sym c.self.view_is) c.requires) c.self.invariant
    (source_is_placed before c.args.number c.args.side c.args.selector.now c.args.place c.in-Some.entry c.remove.new.self c.insert.new.self (sym c.remove.ensures.old ∙ c.in-Some.is) c.remove.ensures.methods c.remove.ensures.count c.insert.ensures.methods c.insert.ensures.count)

pub returns-in-Some : goal.returns-in-Some
returns-in-Some c =
    let before : SystemState = record { table = c.self.inside.classes; methods = c.self.inside.methods } in
    let now : SystemState = record { table = c.self.inside.classes; methods = c.insert.new.self } in
    let placed : HasSourceAt c.args.self.now c.args.number c.args.side c.args.selector.now c.args.place now =
    subst (λ s. HasSourceAt s c.args.number c.args.side c.args.selector.now c.args.place now) c.self.view_is
    (source_is_placed before c.args.number c.args.side c.args.selector.now c.args.place c.in-Some.entry c.remove.new.self c.insert.new.self (sym c.remove.ensures.old ∙ c.in-Some.is) c.remove.ensures.methods c.remove.ensures.count c.insert.ensures.methods c.insert.ensures.count) in
    elim c.match-insert.branch [
      | in-Some-1 w ↦ subst (HasSourceAt c.args.self.now c.args.number c.args.side c.args.selector.now c.args.place) (sym w.self-is) placed
      | in-None-1 w ↦ subst (HasSourceAt c.args.self.now c.args.number c.args.side c.args.selector.now c.args.place) (sym w.self-is) placed
    ]
