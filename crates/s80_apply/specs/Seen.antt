-- Methods seen by less than is kept of them.
use Rattle.std.specs.Prelude.{◌≡◌, ℕ, List, option_map}
use Rattle.std.specs.FinMap as map
use Rattle.s80_dict.specs.Dict.{Methods}

-- these have the selectors of those, and show of each method what those have
pub record AreSeen {X M : Type 0} (view : X → M) (these : Methods X) (those : Methods M) : Type 0 where
  pub keys : map.keys these ≡ map.keys those
  pub each : (selector : List ℕ) → option_map view (map.get these selector) ≡ map.get those selector
