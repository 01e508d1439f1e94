use Rattle.std.proofs.Common.{subst, sym}
use Rattle.s80_apply.specs.List.{AreOfList}
use Rattle.s80_apply.specs.System.{CanPut, HasClass, SystemState, with_entry}
use Rattle.s80_apply.proofs.Sound.{class_is_put, room_again, sound_with_class, valid_put}
use Rattle.s80_apply.proofs.system.System.put.Goals as goal

pub put_entry-requires-clause-may_put : goal.put_entry-requires-clause-may_put
put_entry-requires-clause-may_put c = (subst (λ s. CanPut s c.args.placed) (sym c.self.view_is) c.requires.can_put).may_put

pub put_entry-requires-clause-room : goal.put_entry-requires-clause-room
put_entry-requires-clause-room c = (subst (λ s. CanPut s c.args.placed) (sym c.self.view_is) c.requires.can_put).room

pub put_all-requires : goal.put_all-requires
put_all-requires c =
    let before : SystemState = record { table = c.self.inside.classes; methods = c.self.inside.methods } in
    room_again before c.args.placed c.put_entry.new.methods (subst (λ s. CanPut s c.args.placed) (sym c.self.view_is) c.requires.can_put) c.put_entry.ensures.count c.put_entry.ensures.room

pub returns : goal.returns
returns c =
    let before : SystemState = record { table = c.self.inside.classes; methods = c.self.inside.methods } in
    let now : SystemState = record { table = c.put_entry.new.classes; methods = c.put_all.new.methods } in
    subst (λ s. HasClass s c.args.placed now) c.self.view_is
    (class_is_put before c.args.placed c.put_entry.new.classes c.put_entry.new.methods c.put_all.new.methods c.put_entry.ensures.table c.put_entry.ensures.methods c.put_entry.ensures.count c.put_all.ensures.methods c.put_all.ensures.count)

pub invariant_of-self : goal.invariant_of-self
invariant_of-self c =
    let before : SystemState = record { table = c.self.inside.classes; methods = c.self.inside.methods } in
    let now : SystemState = record { table = c.put_entry.new.classes; methods = c.put_all.new.methods } in
    let can : CanPut before c.args.placed = subst (λ s. CanPut s c.args.placed) (sym c.self.view_is) c.requires.can_put in
    let has : HasClass before c.args.placed now =
    class_is_put before c.args.placed c.put_entry.new.classes c.put_entry.new.methods c.put_all.new.methods c.put_entry.ensures.table c.put_entry.ensures.methods c.put_entry.ensures.count c.put_all.ensures.methods c.put_all.ensures.count in
    sound_with_class before now c.args.placed can (subst (λ (s : SystemState). AreOfList (with_entry s.table c.args.placed.entry)) (sym c.self.view_is) c.requires.of_list) c.self.invariant (valid_put before c.args.placed c.put_entry.new.classes c.put_entry.ensures.table c.put_entry.ensures.valid) has
