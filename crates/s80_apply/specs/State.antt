-- The state of a system: its classes, and the methods that each has on either side.
use Rattle.std.specs.Prelude.{ℕ, List, [], ◌∷◌, Bool, true, false, ◌&&◌, Option, Some, None, cond, codes}
use Rattle.std.specs.FinMap as map
use Rattle.std.specs.Str.{bytes_eq}
use Rattle.s80_base.specs.declared.names.Side.{Side}
use Rattle.s80_base.specs.declared.names.Side.TheVariants.{Instance, Class}
use Rattle.s80_dict.specs.Dict.{Methods}
use Rattle.s80_dict.specs.Table.{same_side}
use Rattle.s80_kernel.specs.Methods.{KernelMethodRow, found_method, kernel_methods}
use Rattle.s80_class.specs.Classes.{Name, Classes}
use Rattle.s80_apply.specs.Kernel.{kernel_classes}

-- a method by its category and its source
pub record MethodRow : Type 0 where
  pub category : List ℕ
  pub source : List ℕ

-- the classes, and the methods of each on either side by their selectors, of each of which this much is kept
pub record StateOf (M : Type 0) : Type 0 where
  pub classes : Classes
  pub methods : Name → Side → Methods M

abbrev pub State : Type 0
State = StateOf MethodRow

-- a method put at its selector on one side of a class, in place of the one that was there
abbrev pub put_method : {M : Type 0} → Name → Side → List ℕ → M → StateOf M → StateOf M
put_method class side selector row state = record state {
  methods = λ name s. cond (bytes_eq name class && same_side s side) (map.insert (state.methods name s) selector row) (state.methods name s);
}

-- the method of a selector taken away on one side of a class
abbrev pub take_method : {M : Type 0} → Name → Side → List ℕ → StateOf M → StateOf M
take_method class side selector state = record state {
  methods = λ name s. cond (bytes_eq name class && same_side s side) (map.remove (state.methods name s) selector) (state.methods name s);
}

-- a class taken away, with its methods on both sides
abbrev pub take_class : {M : Type 0} → Name → StateOf M → StateOf M
take_class class state = record {
  classes = map.remove state.classes class;
  methods = λ name s. cond (bytes_eq name class) map.empty (state.methods name s);
}

-- ---- the kernel's state

abbrev pub side_of : Bool → Side
side_of true = Class
side_of false = Instance

abbrev pub on_class_side : Side → Bool
on_class_side Instance = false
on_class_side Class = true

abbrev pub kernel_method : KernelMethodRow → MethodRow
kernel_method k = record { category = codes "kernel"; source = k.source }

abbrev pub put_kernel_methods : {M : Type 0} → (KernelMethodRow → M) → List KernelMethodRow → StateOf M → StateOf M
put_kernel_methods row [] state = state
put_kernel_methods row (k ∷ ks) state = put_kernel_methods row ks (put_method k.class (side_of k.on_class_side) k.selector (row k) state)

abbrev pub no_methods : {M : Type 0} → Name → Side → Methods M
no_methods name side = map.empty

unfoldable pub kernel_state : State
kernel_state = put_kernel_methods kernel_method kernel_methods (record { classes = kernel_classes; methods = no_methods })

-- ---- the kernel's own methods

-- whether a category and a source are those of a method of the kernel
abbrev pub is_same : List ℕ → List ℕ → KernelMethodRow → Bool
is_same category source k = bytes_eq category (codes "kernel") && bytes_eq source k.source

abbrev pub is_kernels : MethodRow → Option KernelMethodRow → Bool
is_kernels row None = false
is_kernels row (Some k) = is_same row.category row.source k

-- whether a method of this selector on one side of a class is the kernel's own: the kernel has it there in this category and with this very source
abbrev pub is_kernel_method : Name → Side → List ℕ → MethodRow → Bool
is_kernel_method class side selector row = is_kernels row (found_method class (on_class_side side) selector)
