-- Classes and methods in the order in which a condensed list has them, and what makes each.
use Rattle.std.specs.Prelude.{◌≡◌, ◌≤◌, ℕ, List, [], ◌∷◌, ◌++◌, not, Bool, false, Option, Some, None, Ok, length, map as list_map, if◌then◌else◌}
use Rattle.std.specs.List.{filter, flat_map}
use Rattle.std.specs.Str.{bytes_eq}
use Rattle.std.specs.FinMap as map
use Rattle.s80_base.specs.declared.names.Side.{Side}
use Rattle.s80_base.specs.declared.names.Side.TheVariants.{Instance, Class}
use Rattle.s80_kernel.specs.Methods.{KernelMethodRow, found_method}
use Rattle.s80_kernel.specs.Rows.{is_kernel_class}
use Rattle.s80_change.specs.Check.{IsCheckOf}
use Rattle.s80_change.specs.declared.change.Change.{Change}
use Rattle.s80_change.specs.declared.change.Change.TheVariants.{Method}
use Rattle.s80_class.specs.declared.entry.ClassEntry.{ClassEntry}
use Rattle.s80_class.specs.Classes.{Name, Classes, ClassRow, lineage}
use Rattle.s80_class.specs.Table.{Table, IsSuperclass, row_of}
use Rattle.s80_history.specs.Lists.{MethodName}
use Rattle.s80_apply.specs.Entries.{Entry}
use Rattle.s80_apply.specs.State.{MethodRow, State, on_class_side}
use Rattle.s80_fileout.specs.declared.order.RankedClass.{RankedClass}
use Rattle.s80_fileout.specs.declared.methods.ListedMethod.{ListedMethod}
use Rattle.s80_fileout.specs.Condensed.{by_category, classified, is_own_at, kernel_category, last_category, newest, of_kernel_class, of_own_class, up_to}

-- ---- classes

-- what makes a class that is there
abbrev pub by_row : (Name → ClassRow → List Change) → Name → Option ClassRow → List Change
by_row changes name None = []
by_row changes name (Some row) = changes name row

-- a class, if it is one of the kernel's
abbrev pub kernel_class : State → Name → List Change
kernel_class state name = by_row (λ n row. if is_kernel_class n then of_kernel_class state n row else []) name (map.get state.classes name)

-- a class of one's own
abbrev pub own_class : Classes → Name → List Change
own_class classes name = by_row of_own_class name (map.get classes name)

-- what makes one class
abbrev pub class_made : State → Name → List Change
class_made state name = if is_kernel_class name then kernel_class state name else own_class state.classes name

-- a class with its depth
abbrev pub ranked_class : Classes → Name → RankedClass
ranked_class classes name = record { depth = length (lineage classes name); class_name = name }

-- those of one's own in byte order of their names
abbrev pub own_in_order : Classes → List RankedClass
own_in_order classes = list_map (ranked_class classes) (filter (λ name. not (is_kernel_class name)) (map.keys classes))

-- and in the order in which they are made
abbrev pub own_names : Classes → List Name
own_names classes = flat_map (λ depth. filter (is_own_at classes depth) (map.keys classes)) (up_to (map.len classes))

-- the entry of the class of this name
pub record IsNamed (table : Table) (name : Name) (entry : ClassEntry) : Type 0 where
  pub same : entry.class_name ≡ name
  pub row : map.get table.classes name ≡ Some (row_of table.names entry)
  pub superclass : IsSuperclass table.names entry.superclass

-- ---- methods

-- a method whose source is one of this selector, and fits
pub record IsSound (selector : List ℕ) (entry : Entry) : Type 0 where
  pub short : length entry.source ≤ 65535
  pub check : IsCheckOf entry.source (Ok selector)

-- a method with its selector as it is listed
abbrev pub listed : Name → Side → List ℕ × MethodRow → ListedMethod
listed name side e = record {
  selector = e.0;
  method = record { class_name = name; side = side; category = e.1.category; source = record { text = e.1.source; selector = Ok e.0 } };
}

-- the methods on one side of a class, those of a class, and all methods, in their order
abbrev pub methods_on : State → Name → Side → List ListedMethod
methods_on state name side = list_map (listed name side) (by_category (state.methods name side))

abbrev pub methods_in : State → Name → List ListedMethod
methods_in state name = methods_on state name Instance ++ methods_on state name Class

abbrev pub all_methods : State → List ListedMethod
all_methods state = flat_map (methods_in state) (map.keys state.classes)

-- whether the kernel's method has this source
abbrev pub has_source : List ℕ → Option KernelMethodRow → Bool
has_source source None = false
has_source source (Some k) = bytes_eq source k.source

-- what makes a method that is listed
abbrev pub made_by : ListedMethod → List Change
made_by m =
    if has_source m.method.source.text (found_method m.method.class_name (on_class_side m.method.side) m.selector)
    then classified m.method.class_name m.method.side m.selector kernel_category m.method.category
    else (Method m.method ∷ [])

-- the name of a method that is listed
abbrev pub name_listed : ListedMethod → MethodName
name_listed m = record { class_name = m.method.class_name; side = m.method.side; selector = m.selector }

-- the newest versions of a method that is listed, at most so many, and its category
abbrev pub of_listed : ℕ → List Change → ListedMethod → List Change
of_listed count changes m =
    newest count changes (name_listed m) ++ classified m.method.class_name m.method.side m.selector (last_category changes (name_listed m)) m.method.category
