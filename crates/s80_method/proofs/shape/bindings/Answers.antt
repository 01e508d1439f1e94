use Rattle.std.proofs.Common.{◌≡◌, ◌∙◌, ap, take}
use Rattle.std.specs.List.{flat_map}
use Rattle.std.proofs.lemmas.List.{take_all}
use Rattle.s80_method.specs.Shape.{bindings_of}
use Rattle.s80_method.proofs.Numbered.{Class, at_number, all_of, goes_down}
use Rattle.s80_method.proofs.shape.bindings.Goals as goal

pub loop-number-preserved : goal.loop-number-preserved
loop-number-preserved c =
    goes_down (λ (e : Class). bindings_of e.0 e.1.class_vars) c.args.classes.now c.args.line.now c.loop-number.number-index _ c.at-entry.result.now c.loop-number.bindings c.add_bindings.new.bindings
    c.loop-number-test.true c.at-entry.ensures c.in_ok-add_bindings.ensures c.loop-number.invariant

pub returns : goal.returns
returns c = λ es are.
    let F = at_number (λ (e : Class). bindings_of e.0 e.1.class_vars) c.args.classes.now in
    let whole : take c.loop-number.number-index c.args.line.now ≡ c.args.line.now = take_all c.loop-number.number-index c.args.line.now c.loop-number-test.false in
    c.loop-number.invariant ∙ ap (flat_map F) whole ∙ all_of (λ (e : Class). bindings_of e.0 e.1.class_vars) c.args.classes.now es c.args.line.now are
