use Rattle.std.proofs.Common.{◌∙◌, None}
use Rattle.s80_dict.proofs.Shown.{get_is, has_room_is}
use Rattle.s80_dict.proofs.dict.MethodDict.get.Goals as goal

pub returns-in-Some-clause-value : goal.returns-in-Some-clause-value
returns-in-Some-clause-value g c =
    c.as_ref.ensures.value
    ∙ get_is c.self.inside.slots.entries c.args.self.now c.self.view_is c.args.selector.now c.bytes.result.now _ c.bytes.ensures c.self.invariant.distinct c.in-Some.ensures.value

pub returns-in-None-clause-value : goal.returns-in-None-clause-value
returns-in-None-clause-value g c =
    get_is c.self.inside.slots.entries c.args.self.now c.self.view_is c.args.selector.now c.bytes.result.now None c.bytes.ensures c.self.invariant.distinct c.in-None.ensures.value

pub returns-in-Some-clause-room : goal.returns-in-Some-clause-room
returns-in-Some-clause-room g c = λ k there. has_room_is c.self.inside.slots.entries c.args.self.now c.self.view_is c.self.invariant.distinct k there

pub returns-in-None-clause-room : goal.returns-in-None-clause-room
returns-in-None-clause-room g c = λ k there. has_room_is c.self.inside.slots.entries c.args.self.now c.self.view_is c.self.invariant.distinct k there
