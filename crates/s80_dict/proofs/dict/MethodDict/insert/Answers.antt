use Rattle.std.proofs.Common.{◌∙◌, Some, ap, sym, is_some, arith}
use Rattle.std.specs.Option.{option_copied_mut}
use Rattle.std.specs.Map.{set_value}
use Rattle.s80_dict.proofs.SlotLemmas.{at_key, some_mut, len_filled}
use Rattle.s80_dict.proofs.Shown.{get_is, there_is, put_is, room_is, sound_put}
use Rattle.s80_dict.proofs.dict.MethodDict.insert.Goals as goal

pub unwrap-slot-requires : goal.unwrap-slot-requires
unwrap-slot-requires g c =
    some_mut c.get_mut.result (ap is_some c.get_mut.ensures.value
    ∙ there_is c.self.inside.slots.entries c.args.self.now c.self.view_is c.args.selector.now c.bytes.result.now c.bytes.ensures c.requires)

pub returns-clause-old : goal.returns-clause-old
returns-clause-old g c =
    c.replace-before.ensures.value
    ∙ get_is c.self.inside.slots.entries c.args.self.now c.self.view_is c.args.selector.now c.bytes.result.now (Some c.unwrap-slot.result.now) c.bytes.ensures c.self.invariant.distinct
    (ap option_copied_mut (sym c.unwrap-slot.ensures) ∙ c.get_mut.ensures.value)

pub returns-clause-methods : goal.returns-clause-methods
returns-clause-methods g c =
    let es = c.self.inside.slots.entries in
    let q = c.bytes.result.now in
    put_is es c.args.self.now c.self.view_is c.args.selector.now q c.args.entry (c.get_mut.follows.lender c.replace-before.new.self).entries c.bytes.ensures
    (there_is es c.args.self.now c.self.view_is c.args.selector.now q c.bytes.ensures c.requires)
    ((c.get_mut.follows.holds c.replace-before.new.self).0 ∙ ap (set_value (at_key q) es) c.replace-before.ensures.after)

pub returns-clause-room : goal.returns-clause-room
returns-clause-room g c =
    room_is c.self.inside.slots.entries c.args.self.now c.self.view_is c.bytes.result.now c.replace-before.new.self (c.get_mut.follows.lender c.replace-before.new.self).entries
    (c.get_mut.follows.holds c.replace-before.new.self).0

pub prove-unreachable-requires : goal.prove-unreachable-requires
prove-unreachable-requires g c = omega (arith, len_filled c.self.inside.slots.entries)

pub invariant_of-self : goal.invariant_of-self
invariant_of-self g c =
    rw c.from.ensures
    (sound_put c.self.inside.slots.entries c.args.self.now c.self.view_is c.args.selector.now c.args.entry (c.get_mut.follows.lender c.replace-before.new.self).entries
    c.replace-before.result c.is_none.result c.self.inside.filled c.self.invariant (returns-clause-old g c) c.is_none.ensures (returns-clause-methods g c)
    (c.get_mut.follows.holds c.replace-before.new.self).4)
