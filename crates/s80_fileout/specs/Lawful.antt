-- Classes that definitions, comments and class-side variables could have made of the kernel's, and what makes them.
use Rattle.std.specs.Prelude.{◌≡◌, ◌≤◌, ℕ, false, not, find, List, [], ◌++◌, length, Option, Some, None, option_map, if◌then◌else◌}
use Rattle.std.specs.FinMap as map
use Rattle.s80_base.specs.declared.names.Side.{Side}
use Rattle.s80_kernel.specs.Rows.{is_kernel_class}
use Rattle.s80_form.specs.Name.{is_name}
use Rattle.s80_form.specs.declared.refusal.Refusal.TheVariants.{BadName, Duplicate}
use Rattle.s80_change.specs.declared.change.Change.{Change}
use Rattle.s80_class.specs.Classes.{Name, ClassRow, Classes, IsValid, bits_variables_of, inherited_of, with_comment}
use Rattle.s80_apply.specs.Accept.{bad_name, duplicate, first_again}
use Rattle.s80_apply.specs.Kernel.{kernel_classes}
use Rattle.s80_apply.specs.List.{AreAccepted, state_from}
use Rattle.s80_apply.specs.State.{State, kernel_state}
use Rattle.s80_fileout.specs.Condensed.{definition_of, kernel_part, own_part}

-- its names are lawful, none stands twice in a list, and its lists aren't too long
pub record IsOwnRow (name : Name) (row : ClassRow) : Type 0 where
  pub superclass : Name
  pub above : row.superclass ≡ Some superclass
  pub named : bad_name (definition_of name row superclass) ≡ None
  pub single : duplicate (definition_of name row superclass) ≡ None
  pub class_vars : length row.class_vars ≤ 256
  pub pools : length row.pools ≤ 256
  pub side_named : option_map BadName (find (λ word. not (is_name word)) row.class_side_vars) ≡ None
  pub side_single : option_map Duplicate (first_again [] row.class_side_vars) ≡ None

abbrev pub AreOwn : Classes → Type 0
AreOwn classes = (name : Name) (row : ClassRow) → map.get classes name ≡ Some row → is_kernel_class name ≡ false → IsOwnRow name row

-- each class has its line of superclasses, and no more variables than it may have; those of the kernel are there, each with some comment
pub record AreLawfulClasses (classes : Classes) : Type 0 where
  pub count : map.len classes ≤ 65536
  pub valid : IsValid classes
  pub inst_vars : (name : Name) (row : ClassRow) → map.get classes name ≡ Some row → (inherited_of classes name).inst_vars ≤ 64
  pub class_side_vars : (name : Name) (row : ClassRow) → map.get classes name ≡ Some row → (inherited_of classes name).class_side_vars ≤ 64
  pub bits_variables : (name : Name) (row : ClassRow) → map.get classes name ≡ Some row → bits_variables_of (inherited_of classes name) ≤ 0
  pub own : AreOwn classes
  pub kernel : (name : Name) (row : ClassRow) → map.get kernel_classes name ≡ Some row → (comment : List ℕ) × (map.get classes name ≡ Some (with_comment comment row))

-- ---- what makes the classes of a state

abbrev pub class_part : State → List Change
class_part state = kernel_part state ++ own_part state

-- It is accepted, change by change, and makes the classes of the state; of the kernel's methods it leaves those at whose places the state has some.
pub record MakesClasses (state : State) : Type 0 where
  pub accepted : AreAccepted kernel_state (class_part state)
  pub classes : (state_from kernel_state (class_part state)).classes ≡ state.classes
  pub methods : (name : Name) (side : Side) (selector : List ℕ)
      → map.get ((state_from kernel_state (class_part state)).methods name side) selector
      ≡ (if map.contains_key (state.methods name side) selector then map.get (kernel_state.methods name side) selector else None)
