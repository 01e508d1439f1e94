use Rattle.std.proofs.Common.{◌∙◌, sym}
use Rattle.s80_dict.proofs.Shown.{has_is, added_methods, added_room, kept_room, sound_same}
use Rattle.s80_dict.proofs.dict.MethodDict.make_room.Goals as goal

pub returns-then-contains_key-clause-ok : goal.returns-then-contains_key-clause-ok
returns-then-contains_key-clause-ok g c =
    has_is c.self.inside.slots.entries c.args.self.now c.self.view_is c.args.selector c.bytes.result.now c.bytes.ensures c.if-contains_key.ensures

pub returns-clause-methods : goal.returns-clause-methods
returns-clause-methods g c =
    added_methods c.self.inside.slots.entries c.args.self.now c.self.view_is c.into_vec.result c.insert.new.self.entries c.in_ok-insert.ensures.entries c.bytes.result.now
    (c.bytes.ensures ∙ sym c.into_vec.ensures) c.if-contains_key.ensures

pub returns-clause-ok : goal.returns-clause-ok
returns-clause-ok g c =
    added_room c.self.inside.slots.entries c.args.self.now c.self.view_is c.into_vec.result c.insert.new.self.entries c.in_ok-insert.ensures.entries c.args.selector c.into_vec.ensures

pub returns-clause-kept : goal.returns-clause-kept
returns-clause-kept g c = λ k h.
    kept_room c.self.inside.slots.entries c.args.self.now c.self.view_is c.into_vec.result c.insert.new.self.entries c.in_ok-insert.ensures.entries k h

pub invariant_of-self-2 : goal.invariant_of-self-2
invariant_of-self-2 g c = sound_same c.self.inside.slots.entries c.args.self.now c.self.view_is c.insert.new.self.entries c.self.inside.filled c.self.invariant
    (returns-clause-methods g c) c.insert.ensures.unique
