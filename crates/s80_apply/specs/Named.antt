-- Lawful names of classes.
use Rattle.std.specs.Prelude.{◌≡◌, Some}
use Rattle.std.specs.FinMap as map
use Rattle.s80_form.specs.Name.{IsName}
use Rattle.s80_class.specs.Classes.{Name, ClassRow, Classes}

-- every class has a lawful name
abbrev pub AreNamed : Classes → Type 0
AreNamed classes = (name : Name) (row : ClassRow) → map.get classes name ≡ Some row → IsName name
