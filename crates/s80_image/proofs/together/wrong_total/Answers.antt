use Rattle.std.proofs.Common.{◌∙◌, length, refl, sym, rules}
use Rattle.std.proofs.lemmas.Option.{slice_get_read}
use Rattle.s80_image.specs.Classes.{class_of, classes_of}
use Rattle.s80_image.specs.Together.{class_side_field, classes_by_name, instance_field, wrong_total}
use Rattle.s80_image.proofs.ByName.{class_at}
use Rattle.s80_image.proofs.FirstWrong.{all_passed, one_passed, told}
use Rattle.s80_image.proofs.Linked.{class_there}
use Rattle.s80_image.proofs.Wrongs.{crowded, side_crowded, uncrowded}
use Rattle.s80_image.proofs.together.wrong_total.Goals as goal

pub returns-then-has_many_variables : goal.returns-then-has_many_variables
returns-then-has_many_variables c =
    let xs = c.args.classes.now in
    let x = c.index-classes-i.result in
    let i = c.loop-i.i in
    let by = classes_by_name (classes_of xs) in
    let here = slice_get_read xs (length xs) i x refl c.loop-i-test.true c.index-classes-i.is in
    let counted = c.totals-totals.ensures (class_of x) (class_at xs i x here) in
    told (wrong_total by) xs i x _ (instance_field x.heading) here c.loop-i.invariant
    (crowded by x.heading c.totals-totals.result counted (sym c.has_many_variables.ensures ∙ c.if-has_many_variables.true)) (search rules)

pub returns-then-has_many_class_side_variables : goal.returns-then-has_many_class_side_variables
returns-then-has_many_class_side_variables c =
    let xs = c.args.classes.now in
    let x = c.index-classes-i-then-has_many_class_side_variables.result in
    let i = c.loop-i.i in
    let by = classes_by_name (classes_of xs) in
    let here = slice_get_read xs (length xs) i x refl c.loop-i-test.true c.index-classes-i-then-has_many_class_side_variables.is in
    let counted = c.totals-totals.ensures (class_of x) (class_at xs i x here) in
    told (wrong_total by) xs i x _ (class_side_field x.heading) here c.loop-i.invariant
    (side_crowded by x.heading c.totals-totals.result counted (sym c.has_many_variables.ensures ∙ c.if-has_many_variables.false) (sym c.has_many_class_side_variables.ensures ∙ c.if-has_many_class_side_variables.true))
    (search rules)

pub loop-i-preserved : goal.loop-i-preserved
loop-i-preserved c =
    let by = classes_by_name (classes_of c.args.classes.now) in
    let there = class_there c.args.classes.now c.loop-i.i c.loop-i-test.true in
    one_passed (wrong_total by) (classes_of c.args.classes.now) c.loop-i.i there.0 there.1
    (uncrowded by there.0.heading c.totals-totals.result (c.totals-totals.ensures there.0 there.1) (sym c.has_many_variables.ensures ∙ c.if-has_many_variables.false)
    (sym c.has_many_class_side_variables.ensures ∙ c.if-has_many_class_side_variables.false)) c.loop-i.invariant

pub returns : goal.returns
returns c = all_passed (wrong_total (classes_by_name (classes_of c.args.classes.now))) c.args.classes.now c.loop-i.i c.loop-i-test.false c.loop-i.invariant
