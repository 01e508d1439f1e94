use Rattle.std.proofs.Common.{◌≡◌, ◌∙◌, ◌≤◌, ◌++◌, [], ◌∷◌, length, Some, Vec, Global, not, sym, ap, arith}
use Rattle.std.specs.Prelude.{slice_get}
use Rattle.std.specs.FinMap as finmap
use Rattle.s80_kernel.specs.Rows.{is_kernel_class}
use Rattle.s80_fileout.specs.declared.order.RankedClass.{RankedClass}
use Rattle.s80_fileout.specs.Order.{ranked_class}
use Rattle.s80_fileout.proofs.Owned.{class_added, class_piece, class_pieces, is_own}
use Rattle.s80_fileout.proofs.Pieces.{none_passes, one_passes, pieces_added}
use Rattle.s80_fileout.proofs.order.named_classes.Goals as goal
use Rattle.s80_fileout.proofs.order.named_classes.Goals.{then-not-is_kernel_class+in_ok-ranked_class+in_ok-push, else-not-is_kernel_class}

pub loop-i-preserved : goal.loop-i-preserved
loop-i-preserved c =
    let classes = c.args.classes.now.classes in
    let name = c.at-class_name.result.now in
    let made = ranked_class classes name in
    let now = c.loop-i.own.items in
    let new = c.if-not-is_kernel_class.own.items in
    let read : slice_get (finmap.keys classes) c.loop-i.i ≡ Some name = cc (c.at-class_name.ensures, c.in_ok-names.ensures) in
    let tested : is_kernel_class name ≡ c.is_kernel_class.result = ap is_kernel_class (sym c.bytes.ensures) ∙ sym c.is_kernel_class.ensures in
    class_added classes c.loop-i.i name now new read c.loop-i.invariant
    (elim c.if-not-is_kernel_class.branch [
      | then-not-is_kernel_class+in_ok-ranked_class+in_ok-push w ↦
          one_passes (is_own name) made now new (ap not (tested ∙ w.if-not-is_kernel_class.true))
          (ap (λ (v : Vec RankedClass Global). v.items) w.own-is ∙ w.in_ok-push.ensures.items ∙ ap (λ (x : RankedClass). now ++ x ∷ []) w.in_ok-ranked_class.ensures)
      | else-not-is_kernel_class w ↦ none_passes (is_own name) made now new (ap not (tested ∙ w.if-not-is_kernel_class.false)) (ap (λ (v : Vec RankedClass Global). v.items) w.own-is)
    ])

pub returns : goal.returns
returns c =
    let classes = c.args.classes.now.classes in
    let past : length (finmap.keys classes) ≤ c.loop-i.i = omega (arith, c.loop-i-test.false, c.count-i-end.ensures, ap length c.in_ok-names.ensures) in
    pieces_added (class_piece classes) (finmap.keys classes) [] c.loop-i.i c.loop-i.own.items past c.loop-i.invariant ∙ class_pieces classes
