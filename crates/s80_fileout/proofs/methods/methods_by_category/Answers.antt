use Rattle.std.proofs.Common.{rules}
use Rattle.std.specs.Cmp.Lexicographic.{nat_list_cmp_total}
use Rattle.std.proofs.lemmas.List.Sorted.{answers_always, ranks_by}
use Rattle.s80_fileout.proofs.Categories.{before_in_category, category_of, category_sorted}
use Rattle.s80_fileout.proofs.methods.methods_by_category.Goals as goal

pub returns : goal.returns
returns c = λ state is.
    category_sorted (state.methods c.args.class_name.now c.args.side) c.args.class_name.now c.args.side c.in_ok-methods.methods.items c.sort_by.new.self.items (c.in_ok-methods.ensures state is)
    (c.in_ok-sort_by.ensures.sorted before_in_category (ranks_by nat_list_cmp_total category_of) (answers_always _ _ _ (λ f a r g h. search rules)))
    (c.sort_by.ensures.stable before_in_category (ranks_by nat_list_cmp_total category_of) (answers_always _ _ _ (λ f a r g h. search rules)))
    c.sort_by.ensures.permutation
