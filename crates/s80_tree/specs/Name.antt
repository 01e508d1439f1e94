-- Lists of names.
use Rattle.std.specs.Prelude.{List}
use Rattle.s80_tree.specs.declared.name.NameAt.{NameAt}
use Rattle.s80_tree.specs.declared.name.NamesAt.{NamesAt}

-- the names in a list
abbrev pub names_of : NamesAt → List NameAt
names_of names = names.items.items
