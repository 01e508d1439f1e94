use Rattle.std.proofs.Common.{◌≡◌, [], ap, subst, rules, Ok, ◌-◌, arith}
use Rattle.std.specs.Prelude.{Option, option_copied, option_map}
use Rattle.std.proofs.lemmas.Result.{err_from_is_err_and}
use Rattle.s80_image.specs.Parts.{Name, last_of}
use Rattle.s80_image.specs.Format.{members}
use Rattle.s80_image.specs.Methods.{method, method_behind, method_of, methods_of}
use Rattle.s80_image.specs.Answers.{AllPass, Ends, members_met, method_met, method_met_behind}
use Rattle.s80_image.proofs.Loops.{map_push}
use Rattle.s80_image.proofs.Verifying.{begins, loop_fails, loop_read, loop_ends}
use Rattle.s80_image.proofs.decode.methods_from.Goals as goal

pub loop-init : goal.loop-init
loop-init c = begins method_behind (method_met_behind c.args.class.now) (methods_of c.new-methods.result.items) (c.args.count - 0) c.args.count c.args.bytes.now (ap methods_of c.new-methods.ensures.items) (omega arith)

pub returns-in_err-method : goal.returns-in_err-method
returns-in_err-method c =
    let e : option_copied c.last_selector.result ≡ option_map (λ m. m.heading.selector) (last_of (methods_of c.loop.methods.items)) = search rules in
    let p = err_from_is_err_and c.from_residual.result c.from_residual.ensures.1 in
    rw (p.1, p.2) (loop_fails method_behind (method_met_behind c.args.class.now) c.args.count c.loop.counter (methods_of c.loop.methods.items) c.loop.rest.now
    (members method_behind [] c.args.count c.args.bytes.now) (members_met method_behind (method_met_behind c.args.class.now) [] c.args.count c.args.bytes.now) c.in_err-method.field-0.0 c.loop-test.true
    (subst (λ o. Ends c.in_err-method.field-0.0 ((method o).read c.loop.rest.now) (method_met c.args.class.now o c.loop.rest.now)) e c.in_err-method.ensures) c.loop.invariant)

pub loop-preserved : goal.loop-preserved
loop-preserved c =
    let e : option_copied c.last_selector.result ≡ option_map (λ m. m.heading.selector) (last_of (methods_of c.loop.methods.items)) = search rules in
    let P : Option Name → Type 0 = λ o. ((method o).read c.loop.rest.now ≡ Ok (method_of c.in_ok-method.method, c.in_ok-method.after.now)) × AllPass (method_met c.args.class.now o c.loop.rest.now) in
    let h = subst P e c.in_ok-method.ensures in
    loop_read method_behind (method_met_behind c.args.class.now) c.args.count c.loop.counter (methods_of c.loop.methods.items) c.loop.rest.now
    (members method_behind [] c.args.count c.args.bytes.now) (members_met method_behind (method_met_behind c.args.class.now) [] c.args.count c.args.bytes.now)
    (methods_of c.push.new.self.items) (method_of c.in_ok-method.method) c.in_ok-method.after.now c.loop-test.true h.0 h.1 (rw c.in_ok-push.ensures.items (map_push method_of c.loop.methods.items c.in_ok-method.method)) c.loop.invariant

pub returns : goal.returns
returns c = loop_ends method_behind (method_met_behind c.args.class.now) c.args.count c.loop.counter (methods_of c.loop.methods.items) c.loop.rest.now
    (members method_behind [] c.args.count c.args.bytes.now) (members_met method_behind (method_met_behind c.args.class.now) [] c.args.count c.args.bytes.now) c.loop-test.false c.loop.invariant
