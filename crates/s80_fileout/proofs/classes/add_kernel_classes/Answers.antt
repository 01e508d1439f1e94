use Rattle.std.proofs.Common.{◌≡◌, ◌≤◌, ◌∙◌, ◌++◌, length, Some, ap, arith}
use Rattle.std.specs.Prelude.{slice_get}
use Rattle.std.specs.FinMap as finmap
use Rattle.s80_class.specs.Classes.{Classes}
use Rattle.s80_class.specs.Table.{Table}
use Rattle.s80_fileout.specs.Order.{kernel_class}
use Rattle.s80_fileout.proofs.Made.{kernel_pieces}
use Rattle.s80_fileout.proofs.Pieces.{piece_added, pieces_added}
use Rattle.s80_fileout.proofs.classes.add_kernel_classes.Goals as goal

pub loop-i-preserved : goal.loop-i-preserved
loop-i-preserved c = λ state is.
    let name = c.at.result.now in
    let read : slice_get (finmap.keys state.classes) c.loop-i.i ≡ Some name = cc (c.at.ensures, c.in_ok-names.ensures, c.classes.ensures.table, is.classes) in
    piece_added (kernel_class state) (finmap.keys state.classes) c.args.changes.now c.loop-i.i name c.loop-i.changes c.add_kernel_class.new.changes read (c.loop-i.invariant state is) (c.in_ok-add_kernel_class.ensures state is)

pub returns : goal.returns
returns c = λ state is.
    let past : length (finmap.keys state.classes) ≤ c.loop-i.i = omega (arith, c.loop-i-test.false, c.count-i-end.ensures, ap length c.in_ok-names.ensures, ap (λ (t : Table). length (finmap.keys t.classes)) c.classes.ensures.table, ap (λ (cs : Classes). length (finmap.keys cs)) is.classes) in
    pieces_added (kernel_class state) (finmap.keys state.classes) c.args.changes.now c.loop-i.i c.loop-i.changes past (c.loop-i.invariant state is) ∙ ap (λ l. c.args.changes.now ++ l) (kernel_pieces state)
