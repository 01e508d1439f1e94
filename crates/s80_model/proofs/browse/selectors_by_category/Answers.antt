use Rattle.std.proofs.Common.{◌∙◌, ◌++◌, ◌∷◌, [], sym, ap, subst, take, length, arith}
use Rattle.std.specs.List.{slice_get}
use Rattle.s80_model.specs.Entries.{category_in}
use Rattle.s80_model.proofs.Categories.{HasLines, all_lines, found_category, never_lost, next_lines, no_lines, seen_all, seen_more}
use Rattle.s80_model.proofs.browse.selectors_by_category.Goals as goal
use Rattle.s80_model.proofs.browse.selectors_by_category.Goals.{in-Some+in_ok-make_line+in_ok-add_selector, in_default}

pub loop-i-init : goal.loop-i-init
loop-i-init c = no_lines (category_in c.args.methods.now.methods) c.new-lines.result.entries c.new-lines.ensures.empty

pub loop-i-preserved : goal.loop-i-preserved
loop-i-preserved c =
    let names = c.selectors.inside.names.items in
    let at = ap (λ l. slice_get l c.loop-i.i) c.selectors.view_is ∙ c.at-selector.ensures in
    elim c.match-get.branch [
      | in-Some+in_ok-make_line+in_ok-add_selector w ↦ seen_more (category_in c.args.methods.now.methods) c.selectors.inside.names.items c.loop-i.i c.at-selector.result.now c.match-get.lines.entries at
          (subst (λ m. HasLines (category_in c.args.methods.now.methods) (take c.loop-i.i c.selectors.inside.names.items ++ c.at-selector.result.now ∷ []) m.entries) (sym w.lines-is)
          (next_lines (category_in c.args.methods.now.methods) (take c.loop-i.i c.selectors.inside.names.items) c.at-selector.result.now w.bytes-category.result.now c.loop-i.lines.entries
          w.make_line.new.lines.entries w.add_selector.new.lines.entries c.loop-i.invariant
          (found_category c.args.methods.now.methods c.at-selector.result.now w.bytes-category.result.now w.in-Some.entry.now w.in-Some.ensures.value w.bytes-category.ensures)
          w.in_ok-make_line.ensures w.in_ok-add_selector.ensures))
      | in_default w ↦ absurd (never_lost c.args.methods.now.methods c.selectors.inside.names.items c.loop-i.i c.at-selector.result.now (c.selectors.view_is ∙ c.in_ok-selectors.ensures) at w.in_default.ensures.value)
    ]

pub returns : goal.returns
returns c = λ rows are. all_lines c.args.methods.now.methods rows c.selectors.inside.names.items c.loop-i.lines.entries are (c.selectors.view_is ∙ c.in_ok-selectors.ensures)
    (seen_all (category_in c.args.methods.now.methods) c.selectors.inside.names.items c.loop-i.i c.loop-i.lines.entries
    (let same = ap length c.selectors.view_is in omega (arith, same, c.loop-i-test.false, c.count-i-end.ensures)) c.loop-i.invariant)
