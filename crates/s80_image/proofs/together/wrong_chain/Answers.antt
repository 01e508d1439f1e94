use Rattle.std.proofs.Common.{◌∙◌, length, refl, sym, rules}
use Rattle.std.proofs.lemmas.Option.{slice_get_read}
use Rattle.s80_image.specs.Classes.{class_of, classes_of}
use Rattle.s80_image.specs.Together.{classes_by_name, superclass_field, wrong_chain}
use Rattle.s80_image.proofs.ByName.{class_at}
use Rattle.s80_image.proofs.FirstWrong.{all_passed, one_passed, told}
use Rattle.s80_image.proofs.Linked.{class_there}
use Rattle.s80_image.proofs.Wrongs.{ending, endless}
use Rattle.s80_image.proofs.together.wrong_chain.Goals as goal

pub returns-then-not-has_end : goal.returns-then-not-has_end
returns-then-not-has_end c =
    let xs = c.args.classes.now in
    let x = c.index-classes-i.result in
    let i = c.loop-i.i in
    let by = classes_by_name (classes_of xs) in
    let here = slice_get_read xs (length xs) i x refl c.loop-i-test.true c.index-classes-i.is in
    told (wrong_chain by) xs i x _ (superclass_field x.heading) here c.loop-i.invariant (endless by x.heading (sym (c.has_end.ensures (class_of x) (class_at xs i x here)) ∙ c.if-not-has_end.true)) (search rules)

pub loop-i-preserved : goal.loop-i-preserved
loop-i-preserved c =
    let by = classes_by_name (classes_of c.args.classes.now) in
    let there = class_there c.args.classes.now c.loop-i.i c.loop-i-test.true in
    one_passed (wrong_chain by) (classes_of c.args.classes.now) c.loop-i.i there.0 there.1 (ending by there.0.heading (sym (c.has_end.ensures there.0 there.1) ∙ c.if-not-has_end.false)) c.loop-i.invariant

pub returns : goal.returns
returns c = all_passed (wrong_chain (classes_by_name (classes_of c.args.classes.now))) c.args.classes.now c.loop-i.i c.loop-i-test.false c.loop-i.invariant
