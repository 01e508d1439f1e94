use Rattle.std.proofs.Common.{refl, rules}
use Rattle.std.proofs.lemmas.Result.{on_ok_weaker}
use Rattle.s80_image.specs.Format.{word64}
use Rattle.s80_image.specs.Image.{signature_bytes}
use Rattle.s80_image.specs.Spelling.{head_bytes}
use Rattle.s80_image.proofs.Spelled.{two}
use Rattle.s80_image.proofs.encode.put_head.Goals as goal

pub returns : goal.returns
returns c = on_ok_weaker c.put_word64.result (λ put. two c.args.out.now.items c.extend_from_slice.new.self.items c.put_word64.new.out.items signature_bytes (word64.spell c.args.count) (head_bytes c.args.count) (search rules) put refl) c.put_word64.ensures
