use Rattle.std.proofs.Common.{refl}
use Rattle.s80_form.proofs.Reading.{front_is}
use Rattle.s80_form.proofs.read.beginning.Goals as goal

pub returns : goal.returns
returns c =
    front_is c.args.text.now c.word.result.0.now c.word.result.1.now c.side-side.result.1.now c.after.result.now c.word-2.result.0.now c.word-2.result.1.now c.side-side.result.0 _
    c.word.ensures.word c.word.ensures.rest c.side-side.ensures c.after.ensures c.word-2.ensures.word c.word-2.ensures.rest refl refl refl refl
