use Rattle.std.proofs.Common.{◌≡◌, ◌<◌, ◌+◌, ◌-◌, ◌++◌, ◌∙◌, ap, arith, drop, length, reverse}
use Rattle.std.specs.List.{flat_map}
use Rattle.s80_method.specs.Shape.{own_variables}
use Rattle.s80_method.proofs.Numbered.{Class, at_number, all_reversed, goes_back}
use Rattle.s80_method.proofs.shape.variables.Goals as goal

pub loop-i-preserved : goal.loop-i-preserved
loop-i-preserved c =
    let own = λ (e : Class). own_variables c.args.side e.1 in
    let table = c.args.classes.now in
    let line = c.args.line.now in
    let more : c.loop-i.i ≡ (c.loop-i.i - 1) + 1 = omega (arith, c.loop-i-test.true) in
    let within : c.loop-i.i - 1 < length c.args.line.now = omega (arith, c.loop-i-test.true, c.loop-i.auto.i) in
    goes_back own table line (c.loop-i.i - 1) _ c.at.result.now c.loop-i.names c.add_names.new.names within c.at.ensures
    (c.in_ok-add_names.ensures ∙ ap (λ xs. c.loop-i.names ++ xs) (c.own_variables-own.ensures table.names))
    (c.loop-i.invariant ∙ ap (λ n. flat_map (at_number own table) (reverse (drop n line))) more)

pub returns : goal.returns
returns c = λ es are.
    let own = λ (e : Class). own_variables c.args.side e.1 in
    let none : c.loop-i.i ≡ 0 = omega arith in
    c.loop-i.invariant ∙ ap (λ n. flat_map (at_number own c.args.classes.now) (reverse (drop n c.args.line.now))) none ∙ all_reversed own c.args.classes.now es c.args.line.now are
