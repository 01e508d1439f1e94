use Rattle.std.proofs.Common.{subst, arith, refl, Ok, Err}
use Rattle.std.proofs.lemmas.Result.{err_from_is_err_and}
use Rattle.s80_dict.specs.Dict.{HasRoom}
use Rattle.s80_dict.specs.Table.{room_at}
use Rattle.s80_change.specs.declared.change.Change.TheVariants as changes
use Rattle.s80_apply.specs.declared.step.Step.TheVariants as steps
use Rattle.s80_apply.specs.System.{CanPutMethod, IsPrepared, Stays, SystemState}
use Rattle.s80_apply.proofs.Codes.{takes_code}
use Rattle.s80_apply.proofs.Preparing.{fits_where, method_prepared, method_refused}
use Rattle.s80_apply.proofs.Sound.{number_there}
use Rattle.s80_apply.proofs.Standing.{only_room}
use Rattle.s80_apply.proofs.system.System.prepare_method.Goals as goal

pub returns-in_err-placed-clause-prepared : goal.returns-in_err-placed-clause-prepared
returns-in_err-placed-clause-prepared c =
    let here : SystemState = record { table = c.self.inside.classes; methods = c.self.inside.methods } in
    let m = c.args.method.now in
    let p = err_from_is_err_and c.from_residual.result c.from_residual.ensures.1 in
    rw (p.1, p.2) (subst (λ s. IsPrepared s (changes.Method m) s (Err c.in_err-placed.field-0.0)) c.self.view_is (method_refused here here m c.in_err-placed.field-0.0 c.in_err-placed.ensures))

pub make_room-requires : goal.make_room-requires
make_room-requires c =
    let here : SystemState = record { table = c.self.inside.classes; methods = c.self.inside.methods } in
    let f = fits_where here c.args.method.now c.in_ok-placed.placed c.in_ok-placed.ensures in
    let there = number_there here c.in_ok-placed.placed.number c.args.method.now.class_name c.self.invariant f.2.number in
    omega (arith, there)

pub returns-clause-prepared : goal.returns-clause-prepared
returns-clause-prepared c =
    let here : SystemState = record { table = c.self.inside.classes; methods = c.self.inside.methods } in
    let now : SystemState = record { table = c.self.inside.classes; methods = c.make_room.new.self } in
    let m = c.args.method.now in
    let placed = c.in_ok-placed.placed in
    let f = fits_where here m placed c.in_ok-placed.ensures in
    let there = number_there here placed.number m.class_name c.self.invariant f.2.number in
    let can : CanPutMethod now placed = record {
      number = omega (arith, there, c.in_ok-make_room.ensures.count);
      room = subst (λ k. HasRoom (room_at c.make_room.new.self placed.number placed.side) k) c.in_ok-copy.ensures c.in_ok-make_room.ensures.ok;
      code = takes_code here m f.0 placed f.2;
    } in
    subst (λ s. IsPrepared s (changes.Method m) now (Ok (steps.Method placed))) c.self.view_is (method_prepared here now m f.0 placed f.1 f.2 (only_room here now refl refl c.in_ok-make_room.ensures.methods) refl can)

pub returns-clause-stays : goal.returns-clause-stays
returns-clause-stays c =
    let here : SystemState = record { table = c.self.inside.classes; methods = c.self.inside.methods } in
    let now : SystemState = record { table = c.self.inside.classes; methods = c.make_room.new.self } in
    subst (λ s. Stays s now) c.self.view_is (only_room here now refl refl c.in_ok-make_room.ensures.methods)
