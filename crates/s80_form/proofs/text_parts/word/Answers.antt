use Rattle.std.proofs.Common.{◌≡◌, ap, ◌∙◌, take, drop, rules, tests}
use Rattle.std.specs.Slice.Iter.{iter_rest}
use Rattle.std.proofs.lemmas.Iterator.{YieldsList-from_slice}
use Rattle.std.proofs.lemmas.Iterator.Consumers.{count_from_yields_List}
use Rattle.std.proofs.lemmas.Iterator.Search.{YieldsList-from_take_while}
use Rattle.std.proofs.lemmas.List.Folds.{length-prefix_len}
use Rattle.s80_form.specs.TextParts.{is_inner, word_len}
use Rattle.s80_form.proofs.text_parts.word.Goals as goal
use Rattle.s80_form.proofs.text_parts.word.Goals.{After-split_at}

counted : (c : After-split_at) → c.count-length.result ≡ word_len c.args.bytes.now
counted c =
    count_from_yields_List c.take_while.result c.count-length.result c.count-length.ensures.ran
    (YieldsList-from_take_while _ is_inner (YieldsList-from_slice c.args.bytes.now (ap iter_rest c.take_while.ensures.source ∙ c.iter.ensures.rest)) c.take_while.ensures.closure c.take_while.ensures.done (λ x b q k. (search rules, search (rules, tests))))
    ∙ length-prefix_len is_inner c.args.bytes.now

pub returns : goal.returns
returns c = record {
  word = c.split_at.ensures.front ∙ ap (λ n. take n c.args.bytes.now) (counted c);
  rest = c.split_at.ensures.back ∙ ap (λ n. drop n c.args.bytes.now) (counted c);
}
