use Rattle.std.proofs.Common.{◌∙◌, ◌++◌, map, sym, ap}
use Rattle.std.specs.Map.Iter.{deref_pair}
use Rattle.std.proofs.lemmas.List.{append-nil}
use Rattle.std.proofs.lemmas.Map.Iter.{rest_so_far}
use Rattle.s80_model.specs.Entries.{shown}
use Rattle.s80_model.proofs.Categories.{added, lines_are}
use Rattle.s80_model.proofs.browse.add_category_lines.Goals as goal

pub returns : goal.returns
returns c = λ rows are.
    let all =
    sym (append-nil (map deref_pair c.loop-category.yielded)) ∙ ap (λ rest. map deref_pair c.loop-category.yielded ++ rest) (sym c.in-None.ensures.steps.0)
    ∙ sym (rest_so_far deref_pair c.loop-category.yielded c.into_iter-category-iterator.result c.loop-category.category-iterator c.loop-category.yielded_by)
    ∙ c.into_iter-category-iterator.ensures.into_iter_gives.0 in
    c.loop-category.invariant ∙ ap (λ l. c.args.text.now ++ added c.args.word.now (shown l)) all
    ∙ ap (λ l. c.args.text.now ++ l) (lines_are c.args.word.now rows (shown c.in_ok-items.field-0.entries) (c.in_ok-items.ensures rows are))
