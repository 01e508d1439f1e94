-- What the use that was found means.
use Rattle.std.proofs.Common.{◌≡◌, ℕ, ◌+◌, ◌≤◌, Some, None, Option, find, true, refl, ap, sym, ◌∙◌, arith}
use Rattle.std.specs.List.{Contains, count_by}
use Rattle.std.specs.Option.{option_map}
use Rattle.std.specs.Result.{IfOk}
use Rattle.std.specs.declared.result.Result.{Result}
use Rattle.std.proofs.lemmas.Bool.Decides.{nat_tests}
use Rattle.std.proofs.lemmas.Result.{IfOk-weaker}
use Rattle.s80_tree.specs.Tree.{MethodParts}
use Rattle.s80_tree.specs.declared.name.NameAt.{NameAt}
use Rattle.s80_scope.specs.declared.names.Found.{Found}
use Rattle.s80_scope.specs.declared.shape.Shape.{Shape}
use Rattle.s80_scope.specs.declared.shape.Where.{Where}
use Rattle.s80_scope.specs.Names.{is_at, declares, last_place, means, word_means, uses_of, declarations_of, IsFound, IsUsedOnce}
use Rattle.s80_scope.specs.Shape.{where_of}
use Rattle.s80_scope.proofs.lemmas.Places.{only_found}

from_first : (r : Option ℕ) → option_map (λ i. 0 + i) r ≡ r
from_first None = refl
from_first (Some i) = let same : 0 + i ≡ i = omega arith in ap (λ k. Some k) same

here : (n : NameAt) (at : ℕ) → n.at ≡ at → is_at at n ≡ true
here n at is = grind (arith, nat_tests)

pub found_means : {E : Type 0} (m : MethodParts) (at : ℕ) (shape : Shape) (f : Found) (r : Result Where E) → IsUsedOnce at (uses_of m) → IsFound at 0 (uses_of m) (declarations_of m) f
    → IfOk r (λ found. where_of found ≡ word_means f.name.now.name f.number shape) → IfOk r (λ found. (name : NameAt) → Contains (uses_of m) name → name.at ≡ at → where_of found ≡ means m shape name)
found_means m at shape f r once found meant =
    IfOk-weaker r (λ found. where_of found ≡ word_means f.name.now.name f.number shape) (λ found. (name : NameAt) → Contains (uses_of m) name → name.at ≡ at → where_of found ≡ means m shape name)
    (λ w is name used there.
    let first : find (is_at at) (uses_of m) ≡ Some name = only_found (is_at at) (uses_of m) name once used (here name at there) in
    let it : Some f.name.now ≡ Some name = sym found.here ∙ first in
    let same : f.name.now ≡ name = cc in
    let few : count_by (is_at at) (uses_of m) ≤ 1 = omega (arith, once) in
    is ∙ ap (λ k. word_means f.name.now.name k shape) (found.number few ∙ from_first (last_place (declares f.name.now) (declarations_of m)))
    ∙ ap (λ n. means m shape n) same)
    meant
