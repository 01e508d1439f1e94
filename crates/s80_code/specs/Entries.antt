-- The entries of a literal frame without where they lie in memory.
use Rattle.std.specs.Prelude.{ℕ, List, map}
use Rattle.s80_base.specs.Literal.{LiteralTree, literal_of}
use Rattle.s80_base.specs.declared.names.Side.{Side}
use Rattle.s80_code.specs.declared.code.Entry.{Entry}
use Rattle.s80_code.specs.declared.code.Entry.TheVariants as entry
use Rattle.s80_code.specs.declared.code.Frame.{Frame}

pub data EntryTree : Type 0 where
  constant : LiteralTree → EntryTree
  class_variable : List ℕ → List ℕ → EntryTree
  outer : List ℕ → EntryTree
  owner : List ℕ → Side → EntryTree
  extension : ℕ → EntryTree

abbrev pub entry_of : Entry → EntryTree
entry_of (entry.Const l) = constant (literal_of l)
entry_of (entry.ClassVar class name) = class_variable class name
entry_of (entry.Outer name) = outer name
entry_of (entry.Owner class side) = owner class side
entry_of (entry.Extension number) = extension number

abbrev pub entries_of : Frame → List EntryTree
entries_of frame = map entry_of frame.items.items
