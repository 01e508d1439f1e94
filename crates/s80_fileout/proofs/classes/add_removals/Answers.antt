use Rattle.std.proofs.Common.{◌≡◌, ◌≤◌, ◌∙◌, ◌++◌, [], ◌∷◌, not, length, Some, ap, arith}
use Rattle.std.specs.Prelude.{slice_get}
use Rattle.std.specs.FinMap as finmap
use Rattle.s80_form.specs.declared.form.Form.TheVariants.{RemoveMethod}
use Rattle.s80_change.specs.declared.change.Change.{Change}
use Rattle.s80_change.specs.declared.change.Change.TheVariants.{Form}
use Rattle.s80_apply.specs.State.{kernel_state}
use Rattle.s80_fileout.proofs.Made.{removal_piece, removal_pieces}
use Rattle.s80_fileout.proofs.Pieces.{none_passes, one_passes, piece_added, pieces_added}
use Rattle.s80_fileout.proofs.Systems.{lacks}
use Rattle.s80_fileout.proofs.classes.add_removals.Goals as goal
use Rattle.s80_fileout.proofs.classes.add_removals.Goals.{then-is_none+in_ok-removal+in_ok-push, else-is_none}

pub loop-i-preserved : goal.loop-i-preserved
loop-i-preserved c = λ state is.
    let name = c.args.class_name.now in
    let side = c.args.side in
    let selector = c.at-selector.result.now in
    let keys = finmap.keys (kernel_state.methods name side) in
    let made = Form (RemoveMethod name side selector) in
    let now = c.loop-i.changes in
    let new = c.if-is_none.changes in
    let read : slice_get keys c.loop-i.i ≡ Some selector = cc (c.at-selector.ensures, c.in_ok-selectors.ensures kernel_state c.requires) in
    let missing = lacks c.method_of.result (finmap.get (state.methods name side) selector) c.is_none.result (c.method_of.ensures.row state is) c.is_none.ensures in
    piece_added (removal_piece state name side) keys c.args.changes.now c.loop-i.i selector now new read (c.loop-i.invariant state is)
    (elim c.if-is_none.branch [
      | then-is_none+in_ok-removal+in_ok-push w ↦
          one_passes (not (finmap.contains_key (state.methods name side) selector)) made now new (missing ∙ w.if-is_none.true) (w.changes-is ∙ w.in_ok-push.ensures.ok ∙ ap (λ (x : Change). now ++ x ∷ []) w.in_ok-removal.ensures)
      | else-is_none w ↦ none_passes (not (finmap.contains_key (state.methods name side) selector)) made now new (missing ∙ w.if-is_none.false) w.changes-is
    ])

pub returns : goal.returns
returns c = λ state is.
    let name = c.args.class_name.now in
    let side = c.args.side in
    let keys = finmap.keys (kernel_state.methods name side) in
    let past : length keys ≤ c.loop-i.i = omega (arith, c.loop-i-test.false, c.count-i-end.ensures, ap length (c.in_ok-selectors.ensures kernel_state c.requires)) in
    pieces_added (removal_piece state name side) keys c.args.changes.now c.loop-i.i c.loop-i.changes past (c.loop-i.invariant state is) ∙ ap (λ l. c.args.changes.now ++ l) (removal_pieces state name side)
