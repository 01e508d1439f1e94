-- What a name means, without where it lies in memory.
use Rattle.std.specs.Prelude.{ℕ, List}
use Rattle.s80_base.specs.Literal.{LiteralTree, literal_of}
use Rattle.s80_scope.specs.declared.shape.Where.{Where}
use Rattle.s80_scope.specs.declared.shape.Where.TheVariants as variant

pub data WhereTree : Type 0 where
  temp : ℕ → WhereTree
  inst : ℕ → WhereTree
  class_var : List ℕ → List ℕ → WhereTree
  outer : List ℕ → WhereTree
  self_ref : WhereTree
  super_ref : WhereTree
  context : WhereTree
  constant : LiteralTree → WhereTree

abbrev pub where_of : Where → WhereTree
where_of (variant.Temp number) = temp number
where_of (variant.Inst place) = inst place
where_of (variant.ClassVar owner word) = class_var owner word
where_of (variant.Outer word) = outer word
where_of variant.SelfRef = self_ref
where_of variant.SuperRef = super_ref
where_of variant.Context = context
where_of (variant.Constant l) = constant (literal_of l)
