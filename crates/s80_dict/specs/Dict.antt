-- A dictionary of methods as a contract sees it.
use Rattle.std.specs.Prelude.{◌≡◌, ℕ, Bool, true, List}
use Rattle.std.specs.List.{list_any}
use Rattle.std.specs.Str.{bytes_eq}
use Rattle.std.specs.Ordering.{nat_cmp}
use Rattle.std.specs.Cmp.Lexicographic.{slice_cmp}
use Rattle.std.specs.FinMap as map

abbrev pub Bytes : Type 0
Bytes = List ℕ

-- the methods by their selectors
abbrev pub Methods : Type 0 → Type 0
Methods X = map.FinMap {K = Bytes} (slice_cmp nat_cmp) X

-- whether the selector has room
abbrev pub has_room : List Bytes → Bytes → Bool
has_room room k = list_any (bytes_eq k) room

abbrev pub HasRoom : List Bytes → Bytes → Type 0
HasRoom room k = has_room room k ≡ true
