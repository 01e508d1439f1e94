use Rattle.std.proofs.Common.{◌∙◌, ap, option_copied, sym, unwrap_or}
use Rattle.std.specs.Option.{option_map}
use Rattle.s80_base.specs.Literal.{literal_of}
use Rattle.s80_machine.specs.Turn.{given}
use Rattle.s80_machine.specs.Step.{literal_pushed}
use Rattle.s80_machine.specs.Came.{given_of}
use Rattle.s80_machine.proofs.CameStores.{active_is, comes_so}
use Rattle.s80_machine.proofs.CameLiterals.{literal_comes}
use Rattle.s80_machine.proofs.machine.Machine.push_literal.Goals as goal

pub returns : goal.returns
returns c = λ d rest w next shows.
    let on = given_of c.args.on.now in
    let is = active_is c.args.self.now.contexts rest (record d { place = next }) c.in_ok-method.field-0.now shows.contexts (ap option_copied (sym c.in_ok-method.ensures.ok_part) ∙ c.active.ensures) in
    let there = sym c.constant.ensures ∙ ap (λ o. option_map literal_of (option_copied o)) c.in_ok-literal.ensures.ok_part in
    comes_so on _ _ _ c.push.result (ap (λ o. given o (literal_pushed on.table on.methods on.code on.budget d next rest w c.args.k)) there)
    (literal_comes on d rest w next c.args.k (literal_of c.in_ok-literal.literal.now) c.literal.new.self c.in_ok-value.value c.args.self.now shows
    c.args.on.now.kernel.string c.args.on.now.kernel.array c.branch.inside.method
    (sym (ap (λ o. unwrap_or o 0) c.requires.numbers.string)) (sym (ap (λ o. unwrap_or o 0) c.requires.numbers.array)) (ap (λ a. a.method) (c.branch.view_is ∙ is))
    c.literal.result c.push.new.self c.push.result c.literal.ensures c.in_ok-value.ensures c.push.ensures)
