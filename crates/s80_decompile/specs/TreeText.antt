-- The text of a method's tree, and when a text has a tree.
use Rattle.std.specs.Prelude.{◌≡◌, ℕ, List}
use Rattle.s80_syntax.specs.Text.{IsMethodOf}
use Rattle.s80_tree.specs.Tree.{MethodParts}
use Rattle.s80_decompile.specs.Places.{unplaced}
use Rattle.s80_decompile.specs.Spelled.{text_of_tokens}
use Rattle.s80_decompile.specs.TreeTokens.{method_tokens}

abbrev pub method_text : MethodParts → List ℕ
method_text m = text_of_tokens (method_tokens m)

-- the text has this tree, but for the places of names
pub record HasTree (text : List ℕ) (m : MethodParts) : Type 0 where
  pub tree : MethodParts
  pub same : unplaced tree ≡ unplaced m
  pub is_tree : IsMethodOf text tree
