use Rattle.std.proofs.Common.{◌∙◌, ◌++◌, [], List, sym, ap}
use Rattle.std.specs.Prelude.{if◌then◌else◌}
use Rattle.std.proofs.lemmas.Result.{on_ok_weaker}
use Rattle.s80_base.specs.declared.names.Side.TheVariants.{Instance, Class}
use Rattle.s80_kernel.specs.Rows.{is_kernel_class}
use Rattle.s80_fileout.specs.Condensed.{comment_of}
use Rattle.s80_image.specs.declared.image.ImageMethod.{ImageMethod}
use Rattle.s80_image.specs.Classes.{class_of}
use Rattle.s80_image.specs.Methods.{methods_of}
use Rattle.s80_snapshot.specs.Resuming.{of_kernel_class, removals_from}
use Rattle.s80_snapshot.proofs.PiecesAdded.{three_added}
use Rattle.s80_snapshot.proofs.class_changes.add_kernel_class.Goals as goal

pub returns : goal.returns
returns c =
    let class = c.args.class.now in
    let name = class.heading.name in
    let before = c.args.changes.now in
    let known = ap is_kernel_class (sym c.bytes.ensures) ∙ sym c.is_kernel_class.ensures ∙ c.if-not-is_kernel_class.false in
    on_ok_weaker c.add_removals-2.result
    (λ last. three_added before (comment_of name class.heading.comment) (removals_from name Instance (methods_of class.instance_methods.items)) (removals_from name Class (methods_of class.class_methods.items))
    c.add_comment.new.changes c.add_removals.new.changes c.add_removals-2.new.changes c.in_ok-add_comment.ensures
    (c.in_ok-add_removals.ensures ∙ ap (λ (ms : List ImageMethod). c.add_comment.new.changes ++ removals_from name Instance (methods_of ms)) c.deref.ensures.value)
    (last ∙ ap (λ (ms : List ImageMethod). c.add_removals.new.changes ++ removals_from name Class (methods_of ms)) c.deref-2.ensures.value)
    ∙ ap (λ b. before ++ (if b then of_kernel_class (class_of class) else [])) (sym known))
    c.add_removals-2.ensures
