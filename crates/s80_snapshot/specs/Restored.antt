-- A history as an image has it.
use Rattle.std.specs.Prelude.{◌≡◌, ℕ, List, [], find, reverse}
use Rattle.std.specs.Option.{option_map_or}
use Rattle.s80_history.specs.History.{HistoryState, version_places}
use Rattle.s80_history.specs.Lists.{MethodName, is_same}
use Rattle.s80_image.specs.History.{VersionsView}
use Rattle.s80_image.specs.Image.{ImageView}

-- the places of a method's versions, the oldest first; none where the image names no such method
abbrev pub places_of : List VersionsView → MethodName → List ℕ
places_of all name = option_map_or (λ v. v.places) (find (λ v. is_same name v.name) all) []

-- the history has the change set and the versions of the image
pub record IsHistoryIn (image : ImageView) (history : HistoryState) : Type 0 where
  pub members : history.members ≡ image.change_set
  pub versions : (name : MethodName) → version_places history name ≡ reverse (places_of image.versions name)
