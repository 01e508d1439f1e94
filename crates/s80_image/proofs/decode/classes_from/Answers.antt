use Rattle.std.proofs.Common.{◌≡◌, [], ap, subst, rules, Ok, ◌-◌, arith}
use Rattle.std.specs.Prelude.{Option, option_copied, option_map}
use Rattle.std.proofs.lemmas.Result.{err_from_is_err_and}
use Rattle.s80_image.specs.Parts.{Name, last_of}
use Rattle.s80_image.specs.Format.{members}
use Rattle.s80_image.specs.Classes.{class, class_behind, class_of, classes_of}
use Rattle.s80_image.specs.Answers.{AllPass, Ends, class_met, class_met_behind, members_met}
use Rattle.s80_image.proofs.Loops.{map_push}
use Rattle.s80_image.proofs.Verifying.{begins, loop_fails, loop_read, loop_ends}
use Rattle.s80_image.proofs.decode.classes_from.Goals as goal

pub loop-init : goal.loop-init
loop-init c = begins class_behind class_met_behind (classes_of c.new-classes.result.items) (c.args.count - 0) c.args.count c.args.bytes.now (ap classes_of c.new-classes.ensures.items) (omega arith)

pub returns-in_err-class : goal.returns-in_err-class
returns-in_err-class c =
    let e : option_copied c.last_name.result ≡ option_map (λ m. m.heading.name) (last_of (classes_of c.loop.classes.items)) = search rules in
    let p = err_from_is_err_and c.from_residual.result c.from_residual.ensures.1 in
    rw (p.1, p.2) (loop_fails class_behind class_met_behind c.args.count c.loop.counter (classes_of c.loop.classes.items) c.loop.rest.now
    (members class_behind [] c.args.count c.args.bytes.now) (members_met class_behind class_met_behind [] c.args.count c.args.bytes.now) c.in_err-class.field-0.0 c.loop-test.true
    (subst (λ o. Ends c.in_err-class.field-0.0 ((class o).read c.loop.rest.now) (class_met o c.loop.rest.now)) e c.in_err-class.ensures) c.loop.invariant)

pub loop-preserved : goal.loop-preserved
loop-preserved c =
    let e : option_copied c.last_name.result ≡ option_map (λ m. m.heading.name) (last_of (classes_of c.loop.classes.items)) = search rules in
    let P : Option Name → Type 0 = λ o. ((class o).read c.loop.rest.now ≡ Ok (class_of c.in_ok-class.class, c.in_ok-class.after.now)) × AllPass (class_met o c.loop.rest.now) in
    let h = subst P e c.in_ok-class.ensures in
    loop_read class_behind class_met_behind c.args.count c.loop.counter (classes_of c.loop.classes.items) c.loop.rest.now
    (members class_behind [] c.args.count c.args.bytes.now) (members_met class_behind class_met_behind [] c.args.count c.args.bytes.now)
    (classes_of c.push.new.self.items) (class_of c.in_ok-class.class) c.in_ok-class.after.now c.loop-test.true h.0 h.1 (rw c.in_ok-push.ensures.items (map_push class_of c.loop.classes.items c.in_ok-class.class)) c.loop.invariant

pub returns : goal.returns
returns c = loop_ends class_behind class_met_behind c.args.count c.loop.counter (classes_of c.loop.classes.items) c.loop.rest.now
    (members class_behind [] c.args.count c.args.bytes.now) (members_met class_behind class_met_behind [] c.args.count c.args.bytes.now) c.loop-test.false c.loop.invariant
