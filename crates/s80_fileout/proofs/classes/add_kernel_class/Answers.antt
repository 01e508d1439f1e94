use Rattle.std.proofs.Common.{◌∙◌, ◌++◌, sym, ap}
use Rattle.std.specs.FinMap as finmap
use Rattle.std.proofs.lemmas.Result.{on_ok_weaker}
use Rattle.s80_base.specs.declared.names.Side.TheVariants.{Instance, Class}
use Rattle.s80_kernel.specs.Rows.{is_kernel_class}
use Rattle.s80_class.specs.Table.{Table, row_of}
use Rattle.s80_fileout.specs.Condensed.{comment_of, removals}
use Rattle.s80_fileout.proofs.Made.{kernel_class_is, three_added}
use Rattle.s80_fileout.proofs.Systems.{class_row}
use Rattle.s80_fileout.proofs.classes.add_kernel_class.Goals as goal

pub returns : goal.returns
returns c = λ state is.
    let name = c.args.class_name.now in
    let entry = c.in-Some.entry.now in
    let row = row_of c.classes.result.now.names entry in
    let named = ap (λ (t : Table). finmap.get t.classes name) (sym c.classes.ensures.table) ∙ c.in-Some.ensures.row in
    let known = ap is_kernel_class (sym c.bytes.ensures) ∙ sym c.is_kernel_class.ensures ∙ c.if-not-is_kernel_class.false in
    let whole = kernel_class_is state name row (class_row c.args.system.now state name row is named) known in
    on_ok_weaker c.add_removals-2.result
    (λ last. three_added c.args.changes.now (comment_of name entry.comment) (removals state name Instance) (removals state name Class) c.add_comment.new.changes c.add_removals.new.changes c.add_removals-2.new.changes c.in_ok-add_comment.ensures (c.in_ok-add_removals.ensures state is) last
    ∙ ap (λ l. c.args.changes.now ++ l) (sym whole))
    (c.add_removals-2.ensures state is)
