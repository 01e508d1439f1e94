use Rattle.std.proofs.Common.{◌∙◌, ℕ, [], List, Option, Some, ap, length}
use Rattle.s80_image.specs.Classes.{class_of, classes_of}
use Rattle.s80_snapshot.specs.Resuming.{climbed}
use Rattle.s80_snapshot.proofs.ClassPlaces.{depth_is}
use Rattle.s80_snapshot.proofs.MadeInOrder.{rank_added, rank_piece, ranks_are}
use Rattle.s80_snapshot.proofs.PiecesAdded.{all_seen, get_of_map, item_at}
use Rattle.s80_snapshot.proofs.ranks.named_classes.Goals as goal

pub loop-place-preserved : goal.loop-place-preserved
loop-place-preserved c =
    let xs = c.args.classes.now in
    let i = c.loop-place.place in
    let class = c.index-classes-place.result in
    let at = get_of_map class_of xs i class (item_at xs i class c.loop-place-test.true c.index-classes-place.is) in
    rank_added (classes_of xs) c.requires.sorted i c.depth.result (class_of class) c.loop-place.own.items c.add_ranked.new.own.items at
    (c.depth.ensures ∙ ap (λ (above : List (Option ℕ)). climbed (length above) above (Some i)) (c.deref.ensures.value ∙ c.in_ok-above.ensures) ∙ depth_is (classes_of xs) c.requires.sorted i (class_of class) at)
    c.loop-place.invariant c.in_ok-add_ranked.ensures

pub returns : goal.returns
returns c =
    let xs = c.args.classes.now in
    all_seen (rank_piece (classes_of xs)) class_of xs [] c.loop-place.place c.loop-place.own.items c.loop-place-test.false c.loop-place.invariant ∙ ranks_are (classes_of xs) c.requires.sorted
