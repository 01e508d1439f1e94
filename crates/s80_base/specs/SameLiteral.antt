-- Whether two literals are equal.
use Rattle.std.specs.Prelude.{ℤ, pos, negsuc, ◌==◌, Bool, true, false, ◌&&◌}
use Rattle.std.specs.Str.{bytes_eq}
use Rattle.s80_base.specs.Literal.{LiteralTree, LiteralTrees, small, character, str, symbol, array, true_literal, false_literal, nil_literal, number, no_literals, literals, kind_number}

abbrev pub same_number : ℤ → ℤ → Bool
same_number (pos m) (pos n) = m == n
same_number (negsuc m) (negsuc n) = m == n
same_number _ _ = false

abbrev mutual
  pub same_literal : LiteralTree → LiteralTree → Bool
  same_literal (small m) (small n) = same_number m n
  same_literal (character m) (character n) = m == n
  same_literal (str a) (str b) = bytes_eq a b
  same_literal (symbol a) (symbol b) = bytes_eq a b
  same_literal (array a) (array b) = same_literals a b
  same_literal true_literal true_literal = true
  same_literal false_literal false_literal = true
  same_literal nil_literal nil_literal = true
  same_literal (number k a) (number l b) = kind_number k == kind_number l && bytes_eq a b
  same_literal _ _ = false

  pub same_literals : LiteralTrees → LiteralTrees → Bool
  same_literals no_literals no_literals = true
  same_literals (literals v vs) (literals w ws) = same_literal v w && same_literals vs ws
  same_literals _ _ = false
