-- Those of the selectors so far.
use Rattle.std.proofs.Common.{◌≡◌, ◌++◌, take, map as list_map}
use Rattle.std.specs.FinMap as map
use Rattle.std.specs.List.{filter}
use Rattle.s80_xref.specs.Links.{is_linked}
use Rattle.s80_xref.specs.Places.{place}
use Rattle.s80_xref.proofs.places.add_found.Given as goal

abbrev pub invariant-loop-i : goal.invariant-loop-i
invariant-loop-i l = l.places ≡ l.fn.places ++ list_map (place l.class_name l.side) (filter (is_linked l.methods.methods l.link l.word) (take l.i (map.keys l.methods.methods)))
