use Rattle.std.proofs.Common.{◌∙◌, None, Some, option_and_then}
use Rattle.s80_machine.specs.Seen.{held_by_name}
use Rattle.s80_machine.proofs.KeptVariables.{found_by_name}
use Rattle.s80_machine.proofs.variables.Variables.of_class.Goals as goal

pub returns-in_err-get : goal.returns-in_err-get
returns-in_err-get c =
    let none = found_by_name c.args.self.now.of_classes.entries c.bytes.result.now c.args.class.now None c.bytes.ensures c.in_err-get.ensures.value in
    c.from_residual.ensures ∙ (λ j. option_and_then (λ named. held_by_name named.entries c.args.name.now) (none j))

pub returns : goal.returns
returns c =
    let there = found_by_name c.args.self.now.of_classes.entries c.bytes.result.now c.args.class.now (Some c.in_ok-get.field-0.now) c.bytes.ensures c.in_ok-get.ensures.value in
    found_by_name c.in_ok-get.field-0.now.entries c.bytes-2.result.now c.args.name.now c.copied.result c.bytes-2.ensures (c.copied.ensures ∙ c.get-2.ensures.value)
    ∙ (λ j. option_and_then (λ named. held_by_name named.entries c.args.name.now) (there j))
