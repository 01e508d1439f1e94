-- Names of classes, and of the two objects of the system.
use Rattle.std.specs.Prelude.{ℕ, List, Bool, ◌||◌, codes, is_some}
use Rattle.std.specs.FinMap as map
use Rattle.std.specs.Str.{bytes_eq}
use Rattle.s80_class.specs.Classes.{Classes}

abbrev pub is_declared : Classes → List ℕ → Bool
is_declared classes name = is_some (map.get classes name) || (bytes_eq name (codes "Smalltalk") || bytes_eq name (codes "Transcript"))
