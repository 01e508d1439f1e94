-- What primitives may be applied to: values of a table of classes and of objects.
use Rattle.std.specs.Prelude.{◌≡◌, ℕ, ◌<◌, length, slice_get, All, true, Some, IsSome}
use Rattle.std.specs.FinMap as map
use Rattle.s80_kernel.specs.Rows.{is_kernel_class}
use Rattle.s80_class.specs.Classes.{Name}
use Rattle.s80_class.specs.Table.{Table, IsClass}
use Rattle.s80_object.specs.Body.{BodyTree, pointers, bytes, words, home, block}
use Rattle.s80_object.specs.Objects.{State}
use Rattle.s80_object.specs.declared.value.Value.{Value}
use Rattle.s80_object.specs.declared.value.Value.TheVariants.{Symbol, Number, ClassRef, Object}

-- the classes of the kernel are there
abbrev pub HasKernel : Table → Type 0
HasKernel t = (word : Name) → is_kernel_class word ≡ true → IsSome (map.get t.classes word)

-- a value names a class of the table, a symbol, a number or an object that is there
abbrev pub IsKnown : Table → State → Value → Type 0
IsKnown t s (Symbol n) = n < length s.symbols
IsKnown t s (Number n) = n < length s.numbers
IsKnown t s (ClassRef c side) = IsClass t.names c
IsKnown t s (Object n) = n < length s.bodies
IsKnown t s v = Unit {0}

abbrev pub BodyIsKnown : Table → State → BodyTree → Type 0
BodyIsKnown t s (pointers class fields items) = IsClass t.names class × (All (IsKnown t s) fields × All (IsKnown t s) items)
BodyIsKnown t s (bytes class items) = IsClass t.names class
BodyIsKnown t s (words class items) = IsClass t.names class
BodyIsKnown t s (home method receiver temporaries) = IsKnown t s receiver × All (IsKnown t s) temporaries
BodyIsKnown t s (block whole start arguments) = IsKnown t s whole

-- and so do all that objects hold
abbrev pub AreKnown : Table → State → Type 0
AreKnown t s = (n : ℕ) (b : BodyTree) → slice_get s.bodies n ≡ Some b → BodyIsKnown t s b
