-- How the versions of an image are restored, one method after another.
use Rattle.std.specs.Prelude.{◌≡◌, ℕ, List, ◌++◌, find, reverse, slice_get, take, Some, None, if◌then◌else◌}
use Rattle.s80_history.specs.Lists.{MethodName, is_same}
use Rattle.s80_image.specs.History.{VersionsView}

-- each is of another method than those before it
abbrev pub AreDifferent : List VersionsView → Type 0
AreDifferent all = (i : ℕ) (v : VersionsView) → slice_get all i ≡ Some v → find (λ u. is_same v.name u.name) (take i all) ≡ None

-- the places of the versions of any method, the newest first, where one has these more
abbrev pub with_versions : VersionsView → MethodName → List ℕ → List ℕ
with_versions v name places = if is_same name v.name then reverse v.places ++ places else places
