use Rattle.std.proofs.Common.{◌∙◌, ◌++◌, [], ap}
use Rattle.std.specs.List.{flat_map}
use Rattle.std.proofs.lemmas.Result.{on_ok_weaker}
use Rattle.s80_class.specs.Classes.{Classes}
use Rattle.s80_class.specs.Table.{Table}
use Rattle.s80_fileout.specs.Condensed.{kernel_part, own_part}
use Rattle.s80_fileout.specs.Order.{own_class, own_names}
use Rattle.s80_fileout.proofs.Made.{own_pieces, two_added}
use Rattle.s80_fileout.proofs.classes.add_classes.Goals as goal

pub returns : goal.returns
returns c = λ state is.
    let own = ap (λ (t : Table). flat_map (own_class t.classes) (own_names t.classes)) c.classes.ensures.table ∙ ap (λ (cs : Classes). flat_map (own_class cs) (own_names cs)) is.classes ∙ own_pieces state in
    on_ok_weaker c.add_own_classes.result
    (λ more. two_added c.args.changes.now (kernel_part state) (own_part state) [] c.add_kernel_classes.new.changes c.add_own_classes.new.changes (c.in_ok-add_kernel_classes.ensures state is)
    (more ∙ ap (λ l. c.add_kernel_classes.new.changes ++ l) own))
    c.add_own_classes.ensures
