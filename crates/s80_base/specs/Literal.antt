-- Literals without where they lie in memory.
use Rattle.std.specs.Prelude.{ℕ, ℤ, List, [], ◌∷◌}
use Rattle.s80_base.specs.declared.literal.NumberKind.{NumberKind}
use Rattle.s80_base.specs.declared.literal.NumberKind.TheVariants.{LargePositive, LargeNegative, Float}
use Rattle.s80_base.specs.declared.literal.Literal.{Literal}
use Rattle.s80_base.specs.declared.literal.Literals.{Literals}
use Rattle.s80_base.specs.declared.literal.Literal.TheOpen.{Literal-F, Literals-F}
use Rattle.s80_base.specs.declared.literal.Literal.TheOpen as layer
use Rattle.s80_base.specs.declared.literal.Literal.TheFolds.{fold-Literal, fold-Literals}

-- the kinds of number, by numbers
abbrev pub kind_number : NumberKind → ℕ
kind_number LargePositive = 0
kind_number LargeNegative = 1
kind_number Float = 2

mutual
  pub data LiteralTree : Type 0 where
    small : ℤ → LiteralTree
    character : ℕ → LiteralTree
    str : List ℕ → LiteralTree
    symbol : List ℕ → LiteralTree
    array : LiteralTrees → LiteralTree
    true_literal : LiteralTree
    false_literal : LiteralTree
    nil_literal : LiteralTree
    number : NumberKind → List ℕ → LiteralTree

  pub data LiteralTrees : Type 0 where
    no_literals : LiteralTrees
    literals : LiteralTree → LiteralTrees → LiteralTrees

abbrev pub literals_from : List LiteralTree → LiteralTrees
literals_from [] = no_literals
literals_from (l ∷ ls) = literals l (literals_from ls)

-- the literals in a list
abbrev pub literals_list : LiteralTrees → List LiteralTree
literals_list no_literals = []
literals_list (literals l ls) = l ∷ literals_list ls

-- one list behind another
abbrev pub literals_append : LiteralTrees → LiteralTrees → LiteralTrees
literals_append no_literals more = more
literals_append (literals l ls) more = literals l (literals_append ls more)

-- one layer of each type, with the trees of its parts
abbrev pub literal_layer : Literal-F LiteralTree LiteralTrees → LiteralTree
literal_layer (layer.Small n) = small n
literal_layer (layer.Character c) = character c
literal_layer (layer.Str t) = str t
literal_layer (layer.Symbol t) = symbol t
literal_layer (layer.Array ls) = array ls
literal_layer layer.True = true_literal
literal_layer layer.False = false_literal
literal_layer layer.Nil = nil_literal
literal_layer (layer.Number kind t) = number kind t

abbrev pub literals_layer : Literals-F LiteralTree LiteralTrees → LiteralTrees
literals_layer ls = literals_from ls.items.items

abbrev pub literal_of : Literal → LiteralTree
literal_of = fold-Literal LiteralTree LiteralTrees literal_layer literals_layer

abbrev pub literals_of : Literals → LiteralTrees
literals_of = fold-Literals LiteralTree LiteralTrees literal_layer literals_layer
