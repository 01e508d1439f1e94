use Rattle.std.proofs.Common.{rules}
use Rattle.std.proofs.lemmas.Fn.{always_returns_same}
use Rattle.s80_image.proofs.ByName.{sought}
use Rattle.s80_image.proofs.Linked.{place_found}
use Rattle.s80_image.proofs.chains.place_of.Goals as goal

pub returns : goal.returns
returns c =
    place_found c.args.classes.now c.args.name.now c.binary_search_by-sought.result c.ok.result c.ok.ensures.value c.binary_search_by-sought.ensures.bound
    (c.binary_search_by-sought.ensures.position (sought c.args.name.now) (always_returns_same _ _ _ (λ a r g called. (search rules, search rules)))) c.requires
