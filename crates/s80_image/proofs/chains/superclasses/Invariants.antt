use Rattle.s80_image.specs.Classes.{classes_of}
use Rattle.s80_image.specs.Superclasses.{AreSuperclasses}
use Rattle.s80_image.proofs.chains.superclasses.Given as goal

abbrev pub invariant-loop-class : goal.invariant-loop-class
invariant-loop-class l = AreSuperclasses (classes_of l.classes) l.class-index l.places.items
