use Rattle.std.proofs.Common.{◌≡◌, ◌∙◌, refl, ap, subst, sym, Some, length}
use Rattle.std.specs.Option.{option_copied}
use Rattle.std.proofs.lemmas.Option.{slice_get_read}
use Rattle.s80_class.specs.Table.{Table, IsClass, IsEntryOf}
use Rattle.s80_class.proofs.Keeping.{is_entry, class_within}
use Rattle.s80_class.proofs.tree.ClassTree.at.Goals as goal

pub returns : goal.returns
returns c =
    let es = c.self.inside.entries.items in
    let kept = c.self.invariant.kept in
    let class = subst (λ (t : Table). IsClass t.names c.args.c) (sym c.self.view_is) c.requires in
    let some : c.index.result.now ≡ Some c.unwrap.result.now = sym c.as_ref.ensures.value ∙ ap option_copied c.unwrap.ensures in
    let read = slice_get_read es (length es) c.args.c c.index.result.now refl (class_within es c.self.inside.order.items kept c.args.c class) c.index.ensures in
    subst (λ t. IsEntryOf t c.args.c c.unwrap.result.now) c.self.view_is
    (is_entry es c.self.inside.order.items kept c.self.inside.spare c.args.c c.unwrap.result.now (read ∙ ap Some some))
