-- The variables that a class's methods see.
use Rattle.std.specs.Prelude.{List, map, reverse}
use Rattle.std.specs.List.{flat_map}
use Rattle.s80_base.specs.declared.names.Side.{Side}
use Rattle.s80_base.specs.declared.names.Side.TheVariants.{Instance, Class}
use Rattle.s80_class.specs.Classes.{Name, ClassRow, Classes, lineage}
use Rattle.s80_scope.specs.declared.shape.Binding.{Binding}
use Rattle.s80_scope.specs.declared.shape.Shape.{Shape}

-- those of a class's instances, and on the class side those of the class itself
abbrev pub own_variables : Side → ClassRow → List Name
own_variables Instance row = row.inst_vars
own_variables Class row = row.class_side_vars

-- class variables with the class that declares them
abbrev pub bindings_of : Name → List Name → List Binding
bindings_of class words = map (λ word. record { owner = class; name = word }) words

-- from the topmost class down
abbrev pub variables_in : Side → List (Name × ClassRow) → List Name
variables_in side es = flat_map (λ e. own_variables side e.1) (reverse es)

-- from the nearest class up
abbrev pub bindings_in : List (Name × ClassRow) → List Binding
bindings_in es = flat_map (λ e. bindings_of e.0 e.1.class_vars) es

abbrev pub shape_of : Classes → Name → Side → Shape
shape_of classes name side = record { inst_vars = variables_in side (lineage classes name); class_vars = bindings_in (lineage classes name) }
