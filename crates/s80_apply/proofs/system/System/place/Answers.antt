use Rattle.std.proofs.Common.{◌≡◌, ◌∙◌, ℕ, sym, ap, subst, None, Ok, Some, refl, arith}
use Rattle.s80_class.specs.Classes.{Name, IsValid}
use Rattle.s80_class.specs.Table.{Table, IsNumberOf}
use Rattle.s80_apply.specs.Accept.{define, refusal_of}
use Rattle.s80_apply.specs.System.{CanPut, IsSoundSystem, Places, Stays, SystemState, with_entry}
use Rattle.s80_apply.proofs.Codes.{codes_have_sources}
use Rattle.s80_apply.proofs.Refusing.{new_can_put, none_numbered, prepared}
use Rattle.s80_apply.proofs.Sound.{sound_reserved, sources_stay}
use Rattle.s80_apply.proofs.Standing.{only_room}
use Rattle.s80_apply.proofs.system.System.place.Goals as goal

pub returns-in_err-reserve-clause-stays : goal.returns-in_err-reserve-clause-stays
returns-in_err-reserve-clause-stays c =
    let here : SystemState = record { table = c.self.inside.classes; methods = c.self.inside.methods } in
    let now : SystemState = record { table = c.reserve.new.self; methods = c.self.inside.methods } in
    subst (λ s. Stays s now) c.self.view_is (only_room here now c.reserve.ensures.classes c.reserve.ensures.names (λ n s. refl))

-- ---- with room the system is sound yet

pub invariant_of-self : goal.invariant_of-self
invariant_of-self c = sound_reserved c.self.inside.classes c.reserve.new.self c.self.inside.methods c.self.inside.methods c.reserve.ensures.classes c.reserve.ensures.names refl c.self.invariant

pub invariant_of-self-in_err-reserve-2 : goal.invariant_of-self-in_err-reserve-2
invariant_of-self-in_err-reserve-2 c = sound_reserved c.self.inside.classes c.reserve.new.self c.self.inside.methods c.reserve-2.new.self c.reserve.ensures.classes c.reserve.ensures.names c.reserve-2.ensures.sides c.self.invariant

pub invariant_of-self-in_err-placed_again-in-Some-number : goal.invariant_of-self-in_err-placed_again-in-Some-number
invariant_of-self-in_err-placed_again-in-Some-number c =
    subst (λ (t : Table). IsSoundSystem (record { table = t; methods = c.reserve-2.new.self })) (sym c.placed_again.ensures.same)
    (sound_reserved c.self.inside.classes c.reserve.new.self c.self.inside.methods c.reserve-2.new.self c.reserve.ensures.classes c.reserve.ensures.names c.reserve-2.ensures.sides c.self.invariant)

pub invariant_of-self-in-Some-number : goal.invariant_of-self-in-Some-number
invariant_of-self-in-Some-number c =
    subst (λ (t : Table). IsSoundSystem (record { table = t; methods = c.reserve-2.new.self })) (sym c.placed_again.ensures.same)
    (sound_reserved c.self.inside.classes c.reserve.new.self c.self.inside.methods c.reserve-2.new.self c.reserve.ensures.classes c.reserve.ensures.names c.reserve-2.ensures.sides c.self.invariant)

pub invariant_of-self-in-None : goal.invariant_of-self-in-None
invariant_of-self-in-None c = sound_reserved c.self.inside.classes c.reserve.new.self c.self.inside.methods c.reserve-2.new.self c.reserve.ensures.classes c.reserve.ensures.names c.reserve-2.ensures.sides c.self.invariant

pub returns-in_ok-placed_again-in-Some-number-clause-sound : goal.returns-in_ok-placed_again-in-Some-number-clause-sound
returns-in_ok-placed_again-in-Some-number-clause-sound c =
    subst (λ (t : Table). IsSoundSystem (record { table = t; methods = c.reserve-2.new.self })) (sym c.placed_again.ensures.same)
    (sound_reserved c.self.inside.classes c.reserve.new.self c.self.inside.methods c.reserve-2.new.self c.reserve.ensures.classes c.reserve.ensures.names c.reserve-2.ensures.sides c.self.invariant)

pub returns-in-None-clause-sound : goal.returns-in-None-clause-sound
returns-in-None-clause-sound c = sound_reserved c.self.inside.classes c.reserve.new.self c.self.inside.methods c.reserve-2.new.self c.reserve.ensures.classes c.reserve.ensures.names c.reserve-2.ensures.sides c.self.invariant

-- ---- a class that is there

pub placed_again-requires-clause-superclass : goal.placed_again-requires-clause-superclass
placed_again-requires-clause-superclass c =
    let d = c.args.definition.now in
    let accepted : refusal_of d c.self.inside.classes.classes ≡ None = ap (λ (s : SystemState). refusal_of d s.table.classes) c.self.view_is ∙ (sym c.in_ok-refusal.ensures ∙ c.in_default.is) in
    let placed =
    prepared d c.self.inside.classes c.reserve.new.self c.in_ok-entry.entry (Some c.in-Some-number.number) c.reserve.ensures.classes c.reserve.ensures.names (omega (arith, c.in_ok-reserve.ensures.room)) c.find-number.ensures.valid
    c.self.invariant.within accepted c.in_ok-entry.ensures c.in-Some-number.ensures.found in
    placed.may_put.1

pub placed_again-requires-clause-within : goal.placed_again-requires-clause-within
placed_again-requires-clause-within c =
    let d = c.args.definition.now in
    let accepted : refusal_of d c.self.inside.classes.classes ≡ None = ap (λ (s : SystemState). refusal_of d s.table.classes) c.self.view_is ∙ (sym c.in_ok-refusal.ensures ∙ c.in_default.is) in
    let placed =
    prepared d c.self.inside.classes c.reserve.new.self c.in_ok-entry.entry (Some c.in-Some-number.number) c.reserve.ensures.classes c.reserve.ensures.names (omega (arith, c.in_ok-reserve.ensures.room)) c.find-number.ensures.valid
    c.self.invariant.within accepted c.in_ok-entry.ensures c.in-Some-number.ensures.found in
    placed.within

pub placed_again-requires-clause-sources : goal.placed_again-requires-clause-sources
placed_again-requires-clause-sources c = sources_stay c.self.inside.methods c.reserve-2.new.self c.reserve-2.ensures.sides (codes_have_sources c.self.inside.classes c.self.inside.methods c.self.invariant.codes)

pub returns-in_ok-placed_again-in-Some-number-clause-answer : goal.returns-in_ok-placed_again-in-Some-number-clause-answer
returns-in_ok-placed_again-in-Some-number-clause-answer c =
    let d = c.args.definition.now in
    let accepted : refusal_of d c.self.inside.classes.classes ≡ None = ap (λ (s : SystemState). refusal_of d s.table.classes) c.self.view_is ∙ (sym c.in_ok-refusal.ensures ∙ c.in_default.is) in
    let placed =
    prepared d c.self.inside.classes c.reserve.new.self c.in_ok-entry.entry (Some c.in-Some-number.number) c.reserve.ensures.classes c.reserve.ensures.names (omega (arith, c.in_ok-reserve.ensures.room)) c.find-number.ensures.valid
    c.self.invariant.within accepted c.in_ok-entry.ensures c.in-Some-number.ensures.found in
    let now : SystemState = record { table = c.placed_again.new.classes; methods = c.reserve-2.new.self } in
    let again = c.in_ok-placed_again-in-Some-number.field-0 in
    subst (λ (s : SystemState). Places (refusal_of d s.table.classes) (define d s.table.classes) now (Ok again)) c.self.view_is (
      accepted,
      subst (λ (t : Table). CanPut (record { table = t; methods = c.reserve-2.new.self }) again) (sym c.placed_again.ensures.same) c.in_ok-placed_again-in-Some-number.ensures.can_put,
      ap (λ (t : Table). with_entry t again.entry) c.placed_again.ensures.same ∙ c.in_ok-placed_again-in-Some-number.ensures.classes ∙ placed.makes ∙ ap (define d) c.reserve.ensures.classes,
    )

-- ---- a new class

pub returns-in-None-clause-answer : goal.returns-in-None-clause-answer
returns-in-None-clause-answer c =
    let d = c.args.definition.now in
    let entry = c.in_ok-entry.entry in
    let accepted : refusal_of d c.self.inside.classes.classes ≡ None = ap (λ (s : SystemState). refusal_of d s.table.classes) c.self.view_is ∙ (sym c.in_ok-refusal.ensures ∙ c.in_default.is) in
    let placed =
    prepared d c.self.inside.classes c.reserve.new.self entry None c.reserve.ensures.classes c.reserve.ensures.names (omega (arith, c.in_ok-reserve.ensures.room)) c.find-number.ensures.valid
    c.self.invariant.within accepted c.in_ok-entry.ensures c.in-None.ensures.found in
    let now : SystemState = record { table = c.reserve.new.self; methods = c.reserve-2.new.self } in
    let unnumbered : (n : ℕ) → IsNumberOf c.reserve.new.self.names n entry.class_name → ⊥ =
    λ n named.
    none_numbered n (c.in-None.ensures.only n (subst (λ ns. IsNumberOf ns n d.class_name) c.reserve.ensures.names (subst (λ (name : Name). IsNumberOf c.reserve.new.self.names n name) c.in_ok-entry.ensures.class_name named))) in
    let can =
    new_can_put now d c.find-number.result entry c.new.result c.in-None.is c.new.ensures.items placed (omega (arith, c.in_ok-reserve-2.ensures.ok)) (subst IsValid (sym c.reserve.ensures.classes) c.find-number.ensures.valid) placed.may_put.1 unnumbered in
    subst (λ (s : SystemState). Places (refusal_of d s.table.classes) (define d s.table.classes) now (Ok (record { number = c.find-number.result; entry = entry; recompiled = c.new.result }))) c.self.view_is (accepted, can, placed.makes ∙ ap (define d) c.reserve.ensures.classes)
