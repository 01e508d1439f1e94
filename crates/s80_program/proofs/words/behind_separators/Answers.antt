use Rattle.std.proofs.Common.{◌≡◌, ap, ◌∙◌, drop, rules, tests}
use Rattle.std.specs.List.{prefix_len}
use Rattle.std.specs.Slice.Iter.{iter_rest}
use Rattle.std.proofs.lemmas.Iterator.{YieldsList-from_slice}
use Rattle.std.proofs.lemmas.Iterator.Consumers.{count_from_yields_List}
use Rattle.std.proofs.lemmas.Iterator.Search.{YieldsList-from_take_while}
use Rattle.std.proofs.lemmas.List.{take_rest}
use Rattle.std.proofs.lemmas.List.Folds.{length-prefix_len}
use Rattle.s80_base.specs.Byte.{is_separator}
use Rattle.s80_program.specs.Command.{behind_separators}
use Rattle.s80_program.proofs.words.behind_separators.Goals as goal
use Rattle.s80_program.proofs.words.behind_separators.Goals.{After-count-count}

counted : (c : After-count-count) → c.count-count.result ≡ prefix_len is_separator c.bytes-bytes.result.now
counted c =
    count_from_yields_List c.take_while.result c.count-count.result c.count-count.ensures.ran
    (YieldsList-from_take_while _ is_separator (YieldsList-from_slice c.bytes-bytes.result.now (ap iter_rest c.take_while.ensures.source ∙ c.iter.ensures.rest)) c.take_while.ensures.closure c.take_while.ensures.done (λ x b q k. (search rules, search (rules, tests))))
    ∙ length-prefix_len is_separator c.bytes-bytes.result.now

pub returns : goal.returns
returns c =
    take_rest c.bytes-bytes.result.now c.count-count.result
    ∙ ap (λ n. drop n c.bytes-bytes.result.now) (counted (goal.at.returns c).After-count-count)
    ∙ ap behind_separators c.bytes-bytes.ensures
