use Rattle.std.proofs.Common.{◌∙◌, ◌||◌, ap}
use Rattle.std.specs.List.{list_any}
use Rattle.std.specs.Str.{bytes_eq}
use Rattle.s80_xref.proofs.WordSets.{inserted, words_of}
use Rattle.s80_xref.proofs.word_set.WordSet.insert.Goals as goal

pub returns : goal.returns
returns c = λ other.
    ap (λ keys. list_any (bytes_eq other) (words_of keys)) c.in_ok-insert.ensures.keys ∙ inserted other c.self.inside.words.keys c.args.word
    ∙ ap (λ words. bytes_eq other c.args.word.items || list_any (bytes_eq other) words) c.self.view_is
