-- The entries of the kernel's classes and of its methods.
use Rattle.std.specs.Prelude.{◌≡◌, ◌+◌, ℕ, [], ◌∷◌, length, slice_range, true, Option, None, MatchOption, codes}
use Rattle.std.specs.FinMap as map
use Rattle.s80_kernel.specs.declared.rows.KernelClass.{KernelClass}
use Rattle.s80_kernel.specs.Text.{kernel_text}
use Rattle.s80_form.specs.Definition.{split_names}
use Rattle.s80_class.specs.declared.entry.ClassEntry.{ClassEntry}
use Rattle.s80_class.specs.Classes.{Name, IsValid}
use Rattle.s80_class.specs.Table.{Table, IsNumberOf}
use Rattle.s80_base.specs.declared.names.Side.{Side}
use Rattle.s80_dict.specs.Table.{MethodsValue, methods_at, put_at}
use Rattle.s80_kernel.specs.declared.methods.KernelMethod.{KernelMethod}
use Rattle.s80_apply.specs.Kernel.{kind_of, kernel_classes}
use Rattle.s80_apply.specs.Limits.{IsWithin}
use Rattle.s80_apply.specs.State.{side_of}
use Rattle.s80_apply.specs.Placed.{PlacedRow}
use Rattle.s80_apply.specs.Entries.{Entry, row_in}
use Rattle.s80_apply.specs.Codes.{HasCode}

-- the number of the class of this name, if it is there; no name stands for none
abbrev pub IsFoundAbove : Table → Name → Option ℕ → Type 0
IsFoundAbove table [] number = number ≡ None
IsFoundAbove table (b ∷ bytes) number = MatchOption number (map.get table.classes (b ∷ bytes) ≡ None) (λ c. IsNumberOf table.names c (b ∷ bytes))

-- the entry says what the kernel says of this class
pub record IsKernelEntry (table : Table) (class : KernelClass) (entry : ClassEntry) : Type 0 where
  pub class_name : entry.class_name ≡ class.name.now
  pub superclass : IsFoundAbove table class.superclass.now entry.superclass
  pub kind : entry.kind ≡ kind_of class.kind
  pub inst_vars : entry.inst_vars ≡ split_names class.inst_vars.now
  pub class_vars : entry.class_vars ≡ []
  pub pools : entry.pools ≡ []
  pub category : entry.category ≡ codes "Kernel"
  pub comment : entry.comment ≡ []
  pub class_side_vars : entry.class_side_vars ≡ []

-- the classes of the kernel, each with dictionaries without methods
pub record HasClassesAlone (table : Table) (methods : MethodsValue Entry) : Type 0 where
  pub classes : table.classes ≡ kernel_classes
  pub valid : IsValid table.classes
  pub within : IsWithin table.classes
  pub count : length methods.sides ≡ length table.names
  pub none : (n : ℕ) (s : Side) → methods_at methods n s ≡ map.empty

-- a method with the place of its source
abbrev pub row_held : KernelMethod → PlacedRow
row_held m = record { category = codes "kernel"; source = slice_range kernel_text m.position (m.position + m.length); from_kernel = true; position = m.position; length = m.length }

-- the dictionary of the method's class and side takes it with its code, and the others are as before
pub record TakesMethod (table : Table) (m : KernelMethod) (before now : MethodsValue Entry) : Type 0 where
  pub number : ℕ
  pub named : IsNumberOf table.names number m.class_name.now
  pub only : (c : ℕ) → IsNumberOf table.names c m.class_name.now → c ≡ number
  pub entry : Entry
  pub row : row_in entry ≡ row_held m
  pub code : HasCode table.classes m.class_name.now (side_of m.on_class_side) m.selector.now entry
  pub methods : (n : ℕ) (s : Side) → methods_at now n s ≡ put_at (methods_at before) number (side_of m.on_class_side) m.selector.now entry n s
