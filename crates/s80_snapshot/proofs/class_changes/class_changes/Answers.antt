use Rattle.std.proofs.Common.{◌∙◌, ◌++◌, [], List, ap, sym}
use Rattle.std.specs.List.{flat_map}
use Rattle.s80_change.specs.declared.change.Change.{Change}
use Rattle.s80_fileout.specs.Condensed.{kernel_part, own_part}
use Rattle.s80_image.specs.Classes.{classes_of}
use Rattle.s80_snapshot.specs.Resuming.{kernel_class, outline}
use Rattle.s80_snapshot.proofs.MadeInOrder.{kernel_in_order}
use Rattle.s80_snapshot.proofs.PiecesAdded.{two_added}
use Rattle.s80_snapshot.proofs.class_changes.class_changes.Goals as goal

pub returns : goal.returns
returns c =
    let cs = classes_of c.args.classes.now in
    let state = outline cs in
    let first = c.add_kernel_classes.new.changes in
    two_added [] (kernel_part state) (own_part state) first c.add_own_classes.new.changes
    (c.in_ok-add_kernel_classes.ensures ∙ ap (λ (l : List Change). l ++ flat_map kernel_class cs) c.empty-changes.ensures ∙ kernel_in_order cs c.requires.sorted ∙ sym (c.classes_are_made_in_order.ensures.kernel state))
    (c.in_ok-add_own_classes.ensures ∙ ap (λ l. first ++ l) (sym (c.classes_are_made_in_order.ensures.own state)))
