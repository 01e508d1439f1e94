use Rattle.std.proofs.Common.{◌≡◌, ◌≤◌, ◌∙◌, ◌++◌, [], ◌∷◌, length, Some, Vec, Global, sym, ap, append-nil, arith}
use Rattle.std.specs.Prelude.{slice_get}
use Rattle.std.specs.FinMap as finmap
use Rattle.s80_fileout.specs.declared.methods.ListedMethod.{ListedMethod}
use Rattle.s80_fileout.proofs.Categories.{method_piece, method_pieces}
use Rattle.s80_fileout.proofs.Pieces.{piece_added, pieces_added}
use Rattle.s80_fileout.proofs.Systems.{row_none}
use Rattle.s80_fileout.proofs.methods.methods_by_selector.Goals as goal
use Rattle.s80_fileout.proofs.methods.methods_by_selector.Goals.{in-Some+in_ok-listed+in_ok-push, in_default}

pub loop-i-preserved : goal.loop-i-preserved
loop-i-preserved c = λ state is.
    let name = c.args.class_name.now in
    let side = c.args.side in
    let selector = c.at-selector.result.now in
    let methods = state.methods name side in
    let now = c.loop-i.methods.items in
    let read : slice_get (finmap.keys methods) c.loop-i.i ≡ Some selector = cc (c.at-selector.ensures, c.in_ok-selectors.ensures state is) in
    piece_added (λ selector. method_piece name side selector (finmap.get methods selector)) (finmap.keys methods) [] c.loop-i.i selector now c.match-method_of.methods.items read (c.loop-i.invariant state is)
    (elim c.match-method_of.branch [
      | in-Some+in_ok-listed+in_ok-push w ↦
          ap (λ (v : Vec ListedMethod Global). v.items) w.methods-is ∙ w.in_ok-push.ensures.items ∙ ap (λ (m : ListedMethod). now ++ m ∷ []) w.in_ok-listed.ensures
          ∙ ap (λ row. now ++ method_piece name side selector row) (w.in-Some.ensures.row state is)
      | in_default w ↦
          ap (λ (v : Vec ListedMethod Global). v.items) w.methods-is ∙ sym (append-nil now)
          ∙ ap (λ row. now ++ method_piece name side selector row) (sym (row_none c.method_of.result (finmap.get methods selector) (c.method_of.ensures.row state is) w.in_default.is))
    ])

pub returns : goal.returns
returns c = λ state is.
    let name = c.args.class_name.now in
    let side = c.args.side in
    let methods = state.methods name side in
    let past : length (finmap.keys methods) ≤ c.loop-i.i = omega (arith, c.loop-i-test.false, c.count-i-end.ensures, ap length (c.in_ok-selectors.ensures state is)) in
    pieces_added (λ selector. method_piece name side selector (finmap.get methods selector)) (finmap.keys methods) [] c.loop-i.i c.loop-i.methods.items past (c.loop-i.invariant state is) ∙ method_pieces methods name side
