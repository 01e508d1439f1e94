-- The code of a method in its class.
use Rattle.std.specs.Prelude.{◌≡◌, ◌≤◌, ℕ, List, length}
use Rattle.s80_base.specs.declared.names.Side.{Side}
use Rattle.s80_tree.specs.Tree.{MethodParts}
use Rattle.s80_syntax.specs.Text.{IsMethodOf}
use Rattle.s80_code.specs.declared.code.Code.{Code}
use Rattle.s80_compile.specs.Compiles.{Compiles}
use Rattle.s80_class.specs.Classes.{Name, Classes}
use Rattle.s80_class.specs.Table.{Table, IsNumberOf}
use Rattle.s80_method.specs.Shape.{shape_of}

-- the code is that of the source's tree in this class, on this side, and the tree has this selector
pub record IsMethodCode (classes : Classes) (class : Name) (side : Side) (selector source : List ℕ) (code : Code) : Type 0 where
  pub tree : MethodParts
  pub tree_is : IsMethodOf source tree
  pub selector_is : tree.selector ≡ selector
  pub compiles : Compiles tree (shape_of classes class side) class side code

-- no more variables than code can name
abbrev pub HasFewVariables : Table → ℕ → Side → Type 0
HasFewVariables table c side = (name : Name) → IsNumberOf table.names c name → length (shape_of table.classes name side).inst_vars ≤ 64
