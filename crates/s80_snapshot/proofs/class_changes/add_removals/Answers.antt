use Rattle.std.proofs.Common.{◌≡◌, ◌≤◌, ◌∙◌, ◌++◌, length, Some, ap, arith}
use Rattle.std.specs.Prelude.{slice_get}
use Rattle.std.specs.FinMap as finmap
use Rattle.s80_apply.specs.State.{kernel_state}
use Rattle.s80_image.specs.Methods.{methods_of}
use Rattle.s80_snapshot.specs.Resuming.{removal_from}
use Rattle.s80_snapshot.proofs.MadeInOrder.{removal_pieces}
use Rattle.s80_snapshot.proofs.PiecesAdded.{piece_added, pieces_added}
use Rattle.s80_snapshot.proofs.class_changes.add_removals.Goals as goal

pub loop-i-preserved : goal.loop-i-preserved
loop-i-preserved c =
    let keys = finmap.keys (kernel_state.methods c.args.class_name.now c.args.side) in
    let selector = c.at.result.now in
    let read : slice_get keys c.loop-i.i ≡ Some selector = cc (c.at.ensures, c.in_ok-selectors.ensures) in
    piece_added (removal_from c.args.class_name.now c.args.side (methods_of c.args.methods.now)) keys c.args.changes.now c.loop-i.i selector c.loop-i.changes c.add_removal.new.changes read c.loop-i.invariant c.in_ok-add_removal.ensures

pub returns : goal.returns
returns c =
    let name = c.args.class_name.now in
    let methods = methods_of c.args.methods.now in
    let keys = finmap.keys (kernel_state.methods name c.args.side) in
    let past : length keys ≤ c.loop-i.i = omega (arith, c.loop-i-test.false, c.count-i-end.ensures, ap length c.in_ok-selectors.ensures) in
    pieces_added (removal_from name c.args.side methods) keys c.args.changes.now c.loop-i.i c.loop-i.changes past c.loop-i.invariant ∙ ap (λ l. c.args.changes.now ++ l) (removal_pieces name c.args.side methods)
