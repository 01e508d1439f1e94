-- What the classes of a lawful image have.
use Rattle.std.specs.Prelude.{◌≡◌, ◌≤◌, ℕ, ◌&&◌, not, Bool, true, List, [], ◌∷◌, ◌++◌, length, codes, Some, None}
use Rattle.std.specs.List.{list_any}
use Rattle.std.specs.Str.{bytes_eq}
use Rattle.std.specs.FinMap as map
use Rattle.s80_kernel.specs.Rows.{KernelRow}
use Rattle.s80_form.specs.Definition.{split_names}
use Rattle.s80_form.specs.Name.{is_class_name, is_name}
use Rattle.s80_class.specs.Classes.{ClassRow, Classes, IsValid, bits_variables_of, inherited_of, with_comment}
use Rattle.s80_image.specs.Parts.{Name}
use Rattle.s80_image.specs.Classes.{kernel_row, kind_of}
use Rattle.s80_image.specs.Together.{superclass_of}

-- names of variables, none of which stands before
abbrev pub are_new : List Name → List Name → Bool
are_new before [] = true
are_new before (name ∷ names) = (is_name name && not (list_any (bytes_eq name) before)) && are_new (before ++ name ∷ []) names

-- a class that could be defined
pub record IsDefinable (name : Name) (row : ClassRow) : Type 0 where
  pub named : is_class_name name ≡ true
  pub superclass : Name
  pub above : row.superclass ≡ Some superclass
  pub inst_vars : are_new [] row.inst_vars ≡ true
  pub class_vars : are_new [] row.class_vars ≡ true
  pub pools : are_new [] row.pools ≡ true
  pub class_side_vars : are_new [] row.class_side_vars ≡ true
  pub few_class_vars : length row.class_vars ≤ 256
  pub few_pools : length row.pools ≤ 256

-- a class of the kernel, but for its comment
abbrev pub row_of_kernel : KernelRow → ClassRow
row_of_kernel k = record {
  superclass = superclass_of k.superclass;
  kind = kind_of k.kind;
  inst_vars = split_names k.inst_vars;
  class_vars = [];
  pools = [];
  category = codes "Kernel";
  comment = [];
  class_side_vars = [];
}

-- each class has its line of superclasses, and no more variables than a class may have; those of the kernel are there, and the others could be defined
pub record AreInOrder (classes : Classes) : Type 0 where
  pub count : map.len classes ≤ 65536
  pub valid : IsValid classes
  pub inst_vars : (name : Name) (row : ClassRow) → map.get classes name ≡ Some row → (inherited_of classes name).inst_vars ≤ 64
  pub class_side_vars : (name : Name) (row : ClassRow) → map.get classes name ≡ Some row → (inherited_of classes name).class_side_vars ≤ 64
  pub bits_variables : (name : Name) (row : ClassRow) → map.get classes name ≡ Some row → bits_variables_of (inherited_of classes name) ≤ 0
  pub own : (name : Name) (row : ClassRow) → map.get classes name ≡ Some row → kernel_row name ≡ None → IsDefinable name row
  pub kernel : (name : Name) (k : KernelRow) → kernel_row name ≡ Some k → (comment : List ℕ) × (map.get classes name ≡ Some (with_comment comment (row_of_kernel k)))
