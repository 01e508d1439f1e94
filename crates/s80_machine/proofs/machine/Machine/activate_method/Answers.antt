use Rattle.std.proofs.Common.{◌≡◌, ◌∙◌, ◌≤◌, length, subst, sym}
use Rattle.std.proofs.lemmas.Result.{err_from_is_err_and}
use Rattle.s80_object.specs.Body as body
use Rattle.s80_machine.specs.Came.{given_of}
use Rattle.s80_machine.proofs.CameActivations.{begun_alone, begun_in_home, home_missing, home_shown, method_found, same_home, temporaries_of, with_home}
use Rattle.s80_machine.proofs.CameParts.{aside, made_is}
use Rattle.s80_machine.proofs.machine.Machine.activate_method.Goals as goal

pub returns-in_err-home : goal.returns-in_err-home
returns-in_err-home c = λ s key code shows at number is few.
    let on = given_of c.args.on.now in
    let old = c.args.self.now in
    let method = c.args.method in
    let r = c.args.receiver in
    let a = c.in_ok-activated.activated in
    let arguments = c.args.arguments.items in
    let objects = c.make_home-home.new.objects in
    let made = c.make_home-home.result in
    let there = method_found on old s.world shows.world method key code at is c.get.result c.get.ensures a c.in_ok-activated.ensures.ok_part in
    let makes = same_home old.objects objects method r made c.deref.result.now arguments a.code.now code c.deref.ensures.value there.0 c.make_home-home.ensures few in
    let p = err_from_is_err_and c.from_residual-in_err-home.result c.from_residual-in_err-home.ensures.1 in
    let holds = sym there.1 ∙ c.if-activated.true in
    rw (p.1, p.2) (home_missing on s key code r (temporaries_of code arguments) method number holds old shows.world objects made c.in_err-home.field-0.0 makes c.in_err-home.ensures)

pub returns-in_default : goal.returns-in_default
returns-in_default c = λ s key code shows at number is few.
    let on = given_of c.args.on.now in
    let old = c.args.self.now in
    let method = c.args.method in
    let r = c.args.receiver in
    let a = c.in_ok-activated.activated in
    let arguments = c.args.arguments.items in
    let objects = c.make_home-home.new.objects in
    let made = c.make_home-home.result in
    let there = method_found on old s.world shows.world method key code at is c.get.result c.get.ensures a c.in_ok-activated.ensures.ok_part in
    let makes = same_home old.objects objects method r made c.deref.result.now arguments a.code.now code c.deref.ensures.value there.0 c.make_home-home.ensures few in
    let home = made_is old.objects objects (body.home method r (temporaries_of code arguments)) made c.in_ok-home.field-0 makes c.in_ok-home.ensures in
    absurd (c.in_default.not-Object (length old.objects.bodies) home.0)

pub returns-in-Object : goal.returns-in-Object
returns-in-Object c = λ s key code shows at number is few.
    let on = given_of c.args.on.now in
    let old = c.args.self.now in
    let method = c.args.method in
    let r = c.args.receiver in
    let a = c.in_ok-activated.activated in
    let arguments = c.args.arguments.items in
    let temporaries = temporaries_of code arguments in
    let objects = c.make_home-home.new.objects in
    let made = c.make_home-home.result in
    let v = c.in_ok-home.field-0 in
    let there = method_found on old s.world shows.world method key code at is c.get.result c.get.ensures a c.in_ok-activated.ensures.ok_part in
    let makes = same_home old.objects objects method r made c.deref.result.now arguments a.code.now code c.deref.ensures.value there.0 c.make_home-home.ensures few in
    let home = made_is old.objects objects (body.home method r temporaries) made v makes c.in_ok-home.ensures in
    let holds = sym there.1 ∙ c.if-activated.true in
    begun_in_home on s key code r temporaries method number holds old shows.world objects v home c.in-Object.home c.in-Object.is c.emptied.result.items c.emptied.ensures c.begin.new.self c.begin.result
    (c.begin.ensures on (record { contexts = s.contexts; world = with_home on s key code r temporaries method number holds old shows.world objects v home })
    (record { contexts = shows.contexts; world = home_shown on s key code r temporaries method number holds old shows.world objects v home }))

pub returns-in_ok-temporaries : goal.returns-in_ok-temporaries
returns-in_ok-temporaries c = λ s key code shows at number is few.
    let on = given_of c.args.on.now in
    let arguments = c.args.arguments.items in
    let items = c.in_ok-temporaries.temporaries.items in
    let there = method_found on c.args.self.now s.world shows.world c.args.method key code at is c.get.result c.get.ensures c.in_ok-activated.activated c.in_ok-activated.ensures.ok_part in
    let same = subst (λ code. length arguments ≤ code.temporaries → items ≡ temporaries_of code arguments) there.0 c.in_ok-temporaries.ensures few in
    begun_alone on s key code c.args.receiver (temporaries_of code arguments) c.args.method number (sym there.1 ∙ c.if-activated.false) items c.take_room-stack.result.items same c.take_room-stack.ensures.empty
    c.begin-else-activated.new.self c.begin-else-activated.result
    (c.begin-else-activated.ensures on s (record { contexts = c.take_room-stack.ensures.same ∙ shows.contexts; world = aside on c.args.self.now s.world c.take_room-stack.new.self shows.world }))
