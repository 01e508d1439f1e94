use Rattle.std.proofs.Common.{◌++◌, refl}
use Rattle.std.proofs.lemmas.Result.{on_ok_weaker}
use Rattle.s80_image.specs.Format.{word64}
use Rattle.s80_image.proofs.Spelled.{two}
use Rattle.s80_image.proofs.encode.put_range.Goals as goal

pub returns : goal.returns
returns c =
    let position = word64.spell c.args.position in
    let length = word64.spell c.args.length in
    on_ok_weaker c.put_word64-2.result (λ put. two c.args.out.now.items c.put_word64.new.out.items c.put_word64-2.new.out.items position length (position ++ length) c.in_ok-put_word64.ensures put refl) c.put_word64-2.ensures
