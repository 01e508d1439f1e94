-- The methods so far.
use Rattle.std.proofs.Common.{◌≡◌, ◌++◌, take, map}
use Rattle.s80_image.specs.Methods.{methods_of}
use Rattle.s80_snapshot.specs.Resuming.{listed_of}
use Rattle.s80_snapshot.proofs.ListingMethods.{imaged_on}
use Rattle.s80_snapshot.proofs.resumed_methods.list_side.Given as goal

abbrev pub invariant-loop-method : goal.invariant-loop-method
invariant-loop-method l = map listed_of l.methods.items ≡ map listed_of l.fn.methods.items ++ map (imaged_on l.class_name l.side) (take l.method-index (methods_of l.on_side))
