use Rattle.std.proofs.Common.{◌∙◌, ◌++◌, List, map, ap}
use Rattle.std.proofs.lemmas.Result.{on_ok_weaker}
use Rattle.s80_base.specs.declared.names.Side.TheVariants.{Instance, Class}
use Rattle.s80_image.specs.declared.image.ImageMethod.{ImageMethod}
use Rattle.s80_image.specs.Classes.{class_of}
use Rattle.s80_image.specs.Methods.{methods_of}
use Rattle.s80_snapshot.specs.Resuming.{listed_of}
use Rattle.s80_snapshot.specs.Sources.{methods_on}
use Rattle.s80_snapshot.proofs.ListingMethods.{imaged_on}
use Rattle.s80_snapshot.proofs.PiecesAdded.{two_added}
use Rattle.s80_snapshot.proofs.resumed_methods.list_class.Goals as goal

pub returns : goal.returns
returns c =
    let class = c.args.class.now in
    let name = class.heading.name in
    let before = map listed_of c.args.methods.now.items in
    let first = map listed_of c.list_side.new.methods.items in
    on_ok_weaker c.list_side-2.result
    (λ more. two_added before (methods_on (class_of class) Instance (methods_of class.instance_methods.items)) (methods_on (class_of class) Class (methods_of class.class_methods.items)) first (map listed_of c.list_side-2.new.methods.items)
    (c.in_ok-list_side.ensures ∙ ap (λ (ms : List ImageMethod). before ++ map (imaged_on name Instance) (methods_of ms)) c.deref.ensures.value)
    (more ∙ ap (λ (ms : List ImageMethod). first ++ map (imaged_on name Class) (methods_of ms)) c.deref-2.ensures.value))
    c.list_side-2.ensures
