use Rattle.std.proofs.Common.{◌∙◌, length, refl, sym, rules}
use Rattle.std.proofs.lemmas.Option.{slice_get_read}
use Rattle.s80_image.specs.Classes.{classes_of}
use Rattle.s80_image.specs.Together.{classes_by_name, superclass_field, wrong_superclass}
use Rattle.s80_image.proofs.FirstWrong.{all_passed, more_passed, told}
use Rattle.s80_image.proofs.Wrongs.{having, lack_at, lacking}
use Rattle.s80_image.proofs.together.wrong_superclass.Goals as goal

pub returns-then-lacks_superclass : goal.returns-then-lacks_superclass
returns-then-lacks_superclass c =
    let xs = c.args.classes.now in
    let x = c.index-classes-i.result in
    let i = c.loop-i.i in
    let by = classes_by_name (classes_of xs) in
    let here = slice_get_read xs (length xs) i x refl c.loop-i-test.true c.index-classes-i.is in
    let lacks = lack_at xs c.args.superclasses.now c.requires.lawful c.requires.superclasses i x c.lacks_superclass.result here (search rules) in
    told (wrong_superclass by) xs i x _ (superclass_field x.heading) here c.loop-i.invariant (lacking by x.heading (sym lacks ∙ c.if-lacks_superclass.true)) (search rules)

pub loop-i-preserved : goal.loop-i-preserved
loop-i-preserved c =
    let xs = c.args.classes.now in
    let x = c.index-classes-i.result in
    let i = c.loop-i.i in
    let by = classes_by_name (classes_of xs) in
    let here = slice_get_read xs (length xs) i x refl c.loop-i-test.true c.index-classes-i.is in
    let lacks = lack_at xs c.args.superclasses.now c.requires.lawful c.requires.superclasses i x c.lacks_superclass.result here (search rules) in
    more_passed (wrong_superclass by) xs i x here (having by x.heading (sym lacks ∙ c.if-lacks_superclass.false)) c.loop-i.invariant

pub returns : goal.returns
returns c = all_passed (wrong_superclass (classes_by_name (classes_of c.args.classes.now))) c.args.classes.now c.loop-i.i c.loop-i-test.false c.loop-i.invariant
