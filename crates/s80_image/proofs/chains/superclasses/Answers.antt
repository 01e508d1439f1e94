use Rattle.std.proofs.Common.{length, refl, subst, rules}
use Rattle.std.proofs.lemmas.Option.{slice_get_read}
use Rattle.s80_image.specs.Classes.{classes_of}
use Rattle.s80_image.specs.Superclasses.{IsPlaceOf}
use Rattle.s80_image.proofs.Linked.{one_placed}
use Rattle.s80_image.proofs.chains.superclasses.Goals as goal

pub loop-class-preserved : goal.loop-class-preserved
loop-class-preserved c =
    one_placed c.args.classes.now c.loop-class.class-index c.loop-class.places.items c.push.new.self.items c.class-item.result c.place_of.result
    (slice_get_read c.args.classes.now (length c.args.classes.now) c.loop-class.class-index c.class-item.result refl c.loop-class-test.true c.class-item.is)
    (subst (λ name. IsPlaceOf (classes_of c.args.classes.now) name c.place_of.result) (search rules) c.place_of.ensures) c.in_ok-push.ensures.items c.loop-class.invariant
