use Rattle.std.proofs.Common.{◌∷◌, [], ap, ◌∙◌, sym, rules}
use Rattle.std.specs.Int.{w32, to_be_bytes}
use Rattle.s80_base.specs.Literal.{literals_of}
use Rattle.s80_image.specs.Literals.{count_of}
use Rattle.s80_image.proofs.Spelled.{two, counts_list}
use Rattle.s80_image.proofs.encode.put_array.Goals as goal

pub returns : goal.returns
returns c = two c.args.out.now.items c.push.new.self.items c.put_count.new.out.items (4 ∷ []) (to_be_bytes w32 c.count.result) (4 ∷ to_be_bytes w32 (count_of (literals_of c.args.elements.now))) (search rules) c.in_ok-put_count.ensures.bytes (ap (λ n. 4 ∷ to_be_bytes w32 n) (counts_list (literals_of c.args.elements.now) ∙ sym c.count.ensures))
