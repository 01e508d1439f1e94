-- What the header of a code says of its method.
use Rattle.std.specs.Prelude.{◌≡◌, ℕ, ◌≤◌, Bool, length, nat_lt}
use Rattle.s80_tree.specs.Tree.{MethodParts}
use Rattle.s80_scope.specs.FitStack.{stack, temporaries}

-- at most as many parameters as there are temporaries in what fits
abbrev pub FewParameters : MethodParts → Type 0
FewParameters m = length m.parameters ≤ 31

-- how many temporaries, and whether a context has the larger room
abbrev pub AreSizes : MethodParts → ℕ × Bool → Type 0
AreSizes m sizes = (sizes.0 ≡ temporaries m) × (sizes.1 ≡ nat_lt 12 (stack m))
