use Rattle.std.proofs.Common.{◌≡◌, ◌∙◌, ◌++◌, [], Some, ap}
use Rattle.std.specs.Prelude.{slice_get}
use Rattle.std.specs.FinMap as finmap
use Rattle.s80_fileout.specs.Order.{methods_in}
use Rattle.s80_fileout.proofs.Pieces.{piece_added}
use Rattle.s80_fileout.proofs.methods.all_methods.Goals as goal

pub loop-i-preserved : goal.loop-i-preserved
loop-i-preserved c = λ state is.
    let name = c.at.result.now in
    let before = c.loop-i.methods.items in
    let read : slice_get (finmap.keys state.classes) c.loop-i.i ≡ Some name = cc (c.at.ensures, c.in_ok-names.ensures, c.classes.ensures.table, is.classes) in
    piece_added (methods_in state) (finmap.keys state.classes) [] c.loop-i.i name before c.append.new.self.items read (c.loop-i.invariant state is)
    (c.in_ok-append.ensures.items ∙ ap (λ more. before ++ more) (c.in_ok-more.ensures state is))
