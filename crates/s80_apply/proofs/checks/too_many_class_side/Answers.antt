use Rattle.std.proofs.Common.{◌∙◌, ap, sym}
use Rattle.s80_form.specs.declared.refusal.ManyKind.TheVariants.{ClassSideVariables}
use Rattle.s80_class.specs.Classes.{with_class_side_vars}
use Rattle.s80_apply.specs.Accept.{above}
use Rattle.s80_apply.proofs.Vars.{given_extent, valid_given}
use Rattle.s80_apply.proofs.checks.too_many_class_side.Goals as goal

pub returns : goal.returns
returns c = λ name row named there.
    let classes = c.args.classes.now.classes in
    let names = c.args.names.now in
    let top = c.totals_with_side-top.ensures name row names named there (sym c.count.ensures) in
    let most = c.in_ok-greatest.ensures name (with_class_side_vars names row) named (valid_given classes name row c.requires.valid there names) top in
    c.above.ensures ∙ ap (above 64 ClassSideVariables) (given_extent classes name row c.requires.valid there names c.requires.within c.requires.small c.in_ok-greatest.greatest most)
