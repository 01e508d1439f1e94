use Rattle.std.proofs.Common.{◌∙◌, None, ap, refl}
use Rattle.std.proofs.lemmas.Result.{err_from_is_err_and}
use Rattle.s80_history.specs.Keys.{key_name, names_in, with_name}
use Rattle.s80_history.specs.Lists.{MethodName}
use Rattle.s80_history.proofs.Continuing.{places_still}
use Rattle.s80_history.proofs.Kept.{kept_more, kept_roomy, kept_unready}
use Rattle.s80_history.proofs.Restoring.{places_more, sound_more}
use Rattle.s80_history.proofs.Stepping.{alike_itself, none_made}
use Rattle.s80_history.proofs.history.History.restore_version.Goals as goal

-- ---- out of memory

pub invariant_of-self : goal.invariant_of-self
invariant_of-self c =
    let inside = c.self.inside in
    let classes = inside.classes.entries in (
      none_made inside.members inside.members inside.begun classes classes inside.next refl (alike_itself classes) c.self.invariant.0,
      kept_roomy classes inside.keys c.reserve.new.self inside.next inside.next_key c.self.invariant.1 c.reserve.ensures.items,
    )

pub invariant_of-self-in_err-key : goal.invariant_of-self-in_err-key
invariant_of-self-in_err-key c =
    let inside = c.self.inside in
    let classes = inside.classes.entries in (
      none_made inside.members inside.members inside.begun classes classes inside.next refl (alike_itself classes) c.self.invariant.0,
      kept_roomy classes inside.keys c.reserve.new.self inside.next inside.next_key c.self.invariant.1 c.reserve.ensures.items,
    )

pub invariant_of-self-in_err-make_method_room : goal.invariant_of-self-in_err-make_method_room
invariant_of-self-in_err-make_method_room c =
    let inside = c.self.inside in (
      none_made inside.members inside.members inside.begun inside.classes.entries c.make_method_room.new.classes.entries inside.next refl c.make_method_room.ensures.same c.self.invariant.0,
      kept_unready inside.classes.entries c.make_method_room.new.classes.entries inside.keys c.reserve.new.self inside.next inside.next_key c.self.invariant.1 c.reserve.ensures.items c.make_method_room.ensures.same.versions,
    )

pub returns-in_err-make_method_room-clause-err : goal.returns-in_err-make_method_room-clause-err
returns-in_err-make_method_room-clause-err c =
    let inside = c.self.inside in
    let p = err_from_is_err_and c.from_residual-in_err-make_method_room.result c.from_residual-in_err-make_method_room.ensures.1 in
    rw p.1
    (λ name. places_still inside.members.items inside.members.items inside.classes.entries c.make_method_room.new.classes.entries inside.next None c.args.self.now name c.self.view_is
    (c.make_method_room.ensures.same.versions name))

-- ---- one version more

pub put-requires-clause-sorted : goal.put-requires-clause-sorted
put-requires-clause-sorted c =
    (kept_roomy c.self.inside.classes.entries c.self.inside.keys c.reserve.new.self c.self.inside.next c.self.inside.next_key c.self.invariant.1 c.reserve.ensures.items).sorted

pub invariant_of-self-2 : goal.invariant_of-self-2
invariant_of-self-2 c =
    let inside = c.self.inside in
    let own : MethodName = record { class_name = c.args.class_name.now; side = c.args.side; selector = c.args.selector.now } in
    let mid = c.make_method_room.new.classes.entries in
    let now = c.add_version.new.classes.entries in (
      sound_more inside.members inside.begun inside.classes.entries mid now inside.next own c.args.at c.make_method_room.ensures.same c.add_version.ensures c.self.invariant.0,
      kept_more mid now c.reserve.new.self c.put.new.keys None None
          (kept_unready inside.classes.entries mid inside.keys c.reserve.new.self inside.next inside.next_key c.self.invariant.1 c.reserve.ensures.items c.make_method_room.ensures.same.versions)
          own c.args.at (c.put.ensures ∙ ap (λ k. with_name (key_name k) (names_in c.reserve.new.self.items)) c.in_ok-key.ensures) c.add_version.ensures.versions,
    )

pub returns-clause-ok : goal.returns-clause-ok
returns-clause-ok c = λ name.
    let inside = c.self.inside in
    let own : MethodName = record { class_name = c.args.class_name.now; side = c.args.side; selector = c.args.selector.now } in
    places_more inside.members inside.begun inside.classes.entries c.make_method_room.new.classes.entries c.add_version.new.classes.entries inside.next own c.args.at c.make_method_room.ensures.same
    c.add_version.ensures c.args.self.now name c.self.view_is
