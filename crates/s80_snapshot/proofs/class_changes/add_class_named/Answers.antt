use Rattle.std.proofs.Common.{◌∙◌, ◌++◌, sym, ap, append-nil, get_or}
use Rattle.std.proofs.lemmas.Option.{slice_get-get_or}
use Rattle.std.proofs.lemmas.Result.{on_ok_weaker}
use Rattle.s80_image.specs.Classes.{class_of, classes_of}
use Rattle.s80_snapshot.proofs.ClassPlaces.{place_within}
use Rattle.s80_snapshot.proofs.MadeInOrder.{own_absent, own_there}
use Rattle.s80_snapshot.proofs.PiecesAdded.{get_of_map}
use Rattle.s80_snapshot.proofs.class_changes.add_class_named.Goals as goal

pub returns-in_default : goal.returns-in_default
returns-in_default c =
    let cs = classes_of c.args.classes.now in
    sym (append-nil c.args.changes.now) ∙ ap (λ l. c.args.changes.now ++ l) (sym (own_absent cs c.requires.sorted c.args.class_name.now (sym c.find_class.ensures.place ∙ c.in_default.is)))

pub returns : goal.returns
returns c =
    let xs = c.args.classes.now in
    let name = c.args.class_name.now in
    let place = c.in-Some.place in
    let class = get_or xs place c.index-classes-place.result in
    let found = sym c.find_class.ensures.place ∙ c.in-Some.is in
    let at = get_of_map class_of xs place class (slice_get-get_or xs place c.index-classes-place.result (place_within xs name place found)) in
    on_ok_weaker c.add_own_class.result
    (λ more. more ∙ ap (λ l. c.args.changes.now ++ l) (own_there (classes_of xs) c.requires.sorted name place (class_of class) found at))
    c.add_own_class.ensures
