-- The classes that are there before any change.
use Rattle.std.specs.Prelude.{ℕ, List, [], ◌∷◌, Option, Some, None, codes, ◌==◌, if◌then◌else◌, map as list_map}
use Rattle.std.specs.FinMap as map
use Rattle.s80_kernel.specs.Rows.{KernelRow, kernel_rows}
use Rattle.s80_form.specs.declared.definition.Kind.{Kind}
use Rattle.s80_form.specs.declared.definition.Kind.TheVariants.{Plain, Pointers, Bytes, Words}
use Rattle.s80_form.specs.Definition.{split_names}
use Rattle.s80_class.specs.Classes.{Name, ClassRow, Classes}

abbrev pub kind_of : ℕ → Kind
kind_of number = if number == 0 then Plain else (if number == 1 then Pointers else (if number == 2 then Bytes else Words))

-- Object has no superclass
abbrev pub superclass_of : List ℕ → Option Name
superclass_of [] = None
superclass_of (b ∷ bytes) = Some (b ∷ bytes)

-- a class of the kernel: of the category Kernel, with no comment, no class variables, no pools and no class-side variables
abbrev pub kernel_row : KernelRow → ClassRow
kernel_row row = record {
  superclass = superclass_of row.superclass;
  kind = kind_of row.kind;
  inst_vars = split_names row.inst_vars;
  class_vars = [];
  pools = [];
  category = codes "Kernel";
  comment = [];
  class_side_vars = [];
}

unfoldable pub kernel_classes : Classes
kernel_classes = map.from_entries (list_map (λ row. (row.name, kernel_row row)) kernel_rows)
