use Rattle.std.proofs.Common.{◌∙◌}
use Rattle.std.specs.List.{list_any}
use Rattle.std.specs.Str.{bytes_eq}
use Rattle.s80_xref.proofs.WordSets.{word_found}
use Rattle.s80_xref.proofs.word_set.WordSet.contains.Goals as goal

pub returns : goal.returns
returns c =
    c.contains.ensures ∙ word_found c.bytes.result.now c.self.inside.words.keys
    ∙ (λ i. list_any (bytes_eq (c.bytes.ensures i)) (c.self.view_is i))
