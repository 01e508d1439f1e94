use Rattle.std.proofs.Common.{◌∙◌, Some, None, ap, sym}
use Rattle.std.specs.Option.{option_copied_mut}
use Rattle.std.specs.Map.{set_value}
use Rattle.s80_dict.proofs.SlotLemmas.{at_key}
use Rattle.s80_dict.proofs.Shown.{get_is, taken_is, absent_is, room_is, sound_taken, some_filled}
use Rattle.s80_dict.proofs.dict.MethodDict.remove.Goals as goal

pub returns-in_err-get_mut-clause-old : goal.returns-in_err-get_mut-clause-old
returns-in_err-get_mut-clause-old g c =
    c.from_residual.ensures
    ∙ get_is c.self.inside.slots.entries c.args.self.now c.self.view_is c.args.selector.now c.bytes.result.now None c.bytes.ensures c.self.invariant.distinct
    (sym (ap option_copied_mut c.in_err-get_mut.was) ∙ c.get_mut.ensures.value)

pub returns-in_err-get_mut-clause-methods : goal.returns-in_err-get_mut-clause-methods
returns-in_err-get_mut-clause-methods g c =
    rw c.get_mut.follows.holds-at-none
    (absent_is c.self.inside.slots.entries c.args.self.now c.self.view_is c.args.selector.now c.bytes.result.now c.bytes.ensures c.self.invariant.distinct
    (sym (ap option_copied_mut c.in_err-get_mut.was) ∙ c.get_mut.ensures.value))

pub returns-in_err-entry-clause-old : goal.returns-in_err-entry-clause-old
returns-in_err-entry-clause-old g c =
    c.from_residual-in_err-entry.ensures ∙ sym c.in_err-entry.was ∙ c.take.ensures.value
    ∙ get_is c.self.inside.slots.entries c.args.self.now c.self.view_is c.args.selector.now c.bytes.result.now (Some c.in_ok-get_mut.field-0.now) c.bytes.ensures c.self.invariant.distinct
    (sym (ap option_copied_mut c.in_ok-get_mut.was) ∙ c.get_mut.ensures.value)

pub returns-in_err-entry-clause-methods : goal.returns-in_err-entry-clause-methods
returns-in_err-entry-clause-methods g c =
    let es = c.self.inside.slots.entries in
    let q = c.bytes.result.now in
    taken_is es c.args.self.now c.self.view_is c.args.selector.now q (c.get_mut.follows.lender c.take.new.self).entries c.bytes.ensures c.self.invariant.distinct
    ((c.get_mut.follows.holds c.take.new.self).0 ∙ ap (set_value (at_key q) es) c.take.ensures.after)

pub returns-in_err-entry-clause-room : goal.returns-in_err-entry-clause-room
returns-in_err-entry-clause-room g c =
    room_is c.self.inside.slots.entries c.args.self.now c.self.view_is c.bytes.result.now c.take.new.self (c.get_mut.follows.lender c.take.new.self).entries (c.get_mut.follows.holds c.take.new.self).0

pub returns-clause-old : goal.returns-clause-old
returns-clause-old g c =
    sym c.in_ok-entry.was ∙ c.take.ensures.value
    ∙ get_is c.self.inside.slots.entries c.args.self.now c.self.view_is c.args.selector.now c.bytes.result.now (Some c.in_ok-get_mut.field-0.now) c.bytes.ensures c.self.invariant.distinct
    (sym (ap option_copied_mut c.in_ok-get_mut.was) ∙ c.get_mut.ensures.value)

pub returns-clause-methods : goal.returns-clause-methods
returns-clause-methods g c =
    let es = c.self.inside.slots.entries in
    let q = c.bytes.result.now in
    taken_is es c.args.self.now c.self.view_is c.args.selector.now q (c.get_mut.follows.lender c.take.new.self).entries c.bytes.ensures c.self.invariant.distinct
    ((c.get_mut.follows.holds c.take.new.self).0 ∙ ap (set_value (at_key q) es) c.take.ensures.after)

pub returns-clause-room : goal.returns-clause-room
returns-clause-room g c =
    room_is c.self.inside.slots.entries c.args.self.now c.self.view_is c.bytes.result.now c.take.new.self (c.get_mut.follows.lender c.take.new.self).entries (c.get_mut.follows.holds c.take.new.self).0

pub invariant_of-self-in_err-entry : goal.invariant_of-self-in_err-entry
invariant_of-self-in_err-entry g c =
    sound_taken c.self.inside.slots.entries c.args.self.now c.self.view_is c.args.selector.now (c.get_mut.follows.lender c.take.new.self).entries
    None c.self.inside.filled c.self.invariant (sym c.from_residual-in_err-entry.ensures ∙ returns-in_err-entry-clause-old g c) (returns-in_err-entry-clause-methods g c)
    (c.get_mut.follows.holds c.take.new.self).4

pub overflow_sub-self : goal.overflow_sub-self
overflow_sub-self g c = some_filled c.self.inside.slots.entries c.args.self.now c.self.view_is c.args.selector.now c.in_ok-entry.entry c.self.inside.filled c.self.invariant
    (sym c.in_ok-entry.was ∙ c.take.ensures.value
    ∙ get_is c.self.inside.slots.entries c.args.self.now c.self.view_is c.args.selector.now c.bytes.result.now (Some c.in_ok-get_mut.field-0.now) c.bytes.ensures c.self.invariant.distinct
    (sym (ap option_copied_mut c.in_ok-get_mut.was) ∙ c.get_mut.ensures.value))

pub invariant_of-self-2 : goal.invariant_of-self-2
invariant_of-self-2 g c =
    sound_taken c.self.inside.slots.entries c.args.self.now c.self.view_is c.args.selector.now (c.get_mut.follows.lender c.take.new.self).entries
    (Some c.in_ok-entry.entry) c.self.inside.filled c.self.invariant (returns-clause-old g c) (returns-clause-methods g c)
    (c.get_mut.follows.holds c.take.new.self).4
