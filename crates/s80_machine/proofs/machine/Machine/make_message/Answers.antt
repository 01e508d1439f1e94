use Rattle.std.proofs.Common.{◌≡◌, subst}
use Rattle.std.proofs.lemmas.Result.{err_from_is_err_and}
use Rattle.s80_object.specs.Objects.{Makes}
use Rattle.s80_machine.specs.Came.{given_of}
use Rattle.s80_machine.proofs.CameMessages.{array_body, array_missing, body_of_message, known_message, message_comes}
use Rattle.s80_machine.proofs.CameParts.{made_is}
use Rattle.s80_machine.proofs.machine.Machine.make_message.Goals as goal

pub returns-in_err-array-clause-makes : goal.returns-in_err-array-clause-makes
returns-in_err-array-clause-makes c = λ w shows.
    let on = given_of c.args.on.now in
    let old = c.args.self.now in
    let values = c.args.arguments.items in
    let body = array_body on.table c.args.on.now.kernel.array c.new.result.items values c.requires.ready.numbers.array c.new.ensures.items in
    let first = c.make_pointers-array.new.self in
    let p = err_from_is_err_and c.from_residual.result c.from_residual.ensures.1 in
    let same : p.0 ≡ c.in_err-array.field-0.0 = p.2 in
    rw (p.1, same) (array_missing on c.args.selector.now values w old shows first c.make_pointers-array.result c.in_err-array.field-0.0
    (subst (λ b. Makes old.objects b first c.make_pointers-array.result) body c.make_pointers-array.ensures) c.in_err-array.ensures)

pub returns-clause-makes : goal.returns-clause-makes
returns-clause-makes c = λ w shows.
    let on = given_of c.args.on.now in
    let old = c.args.self.now in
    let values = c.args.arguments.items in
    let v = c.in_ok-array.array in
    let body = array_body on.table c.args.on.now.kernel.array c.new.result.items values c.requires.ready.numbers.array c.new.ensures.items in
    let first = c.make_pointers-array.new.self in
    let there = made_is old.objects first _ c.make_pointers-array.result v (subst (λ b. Makes old.objects b first c.make_pointers-array.result) body c.make_pointers-array.ensures) c.in_ok-array.ensures in
    let message = body_of_message on.table c.args.on.now.kernel.message c.in_ok-fields.fields.items c.new-2.result.items c.in_ok-symbol.symbol v c.requires.ready.numbers.message c.in_ok-fields.ensures.items c.new-2.ensures.items in
    let second = c.symbol.new.self in
    let third = c.make_pointers-message.new.self in
    message_comes on c.args.selector.now values w old shows first v there second c.in_ok-symbol.symbol c.in_ok-symbol.ensures.ok third c.make_pointers-message.result c.made-2.result
    (subst (λ b. Makes second b third c.make_pointers-message.result) message c.make_pointers-message.ensures) c.made-2.ensures

pub returns-clause-known : goal.returns-clause-known
returns-clause-known c =
    let on = given_of c.args.on.now in
    let old = c.args.self.now in
    let values = c.args.arguments.items in
    let v = c.in_ok-array.array in
    let body = array_body on.table c.args.on.now.kernel.array c.new.result.items values c.requires.ready.numbers.array c.new.ensures.items in
    let first = c.make_pointers-array.new.self in
    let there = made_is old.objects first _ c.make_pointers-array.result v (subst (λ b. Makes old.objects b first c.make_pointers-array.result) body c.make_pointers-array.ensures) c.in_ok-array.ensures in
    let message = body_of_message on.table c.args.on.now.kernel.message c.in_ok-fields.fields.items c.new-2.result.items c.in_ok-symbol.symbol v c.requires.ready.numbers.message c.in_ok-fields.ensures.items c.new-2.ensures.items in
    let second = c.symbol.new.self in
    let third = c.make_pointers-message.new.self in
    known_message on c.requires.setting c.args.selector.now values old.objects first second third v c.in_ok-symbol.symbol c.requires.objects c.requires.arguments there c.in_ok-symbol.ensures.ok c.make_pointers-message.result c.made-2.result
    (subst (λ b. Makes second b third c.make_pointers-message.result) message c.make_pointers-message.ensures) c.made-2.ensures
