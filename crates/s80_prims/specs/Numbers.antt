-- The classes of the kernel that are asked for by their numbers.
use Rattle.std.specs.Prelude.{◌≡◌, ℕ, List, codes, Option, Some, None}
use Rattle.s80_class.specs.Lookup.{Place}
use Rattle.s80_class.specs.Table.{Table, number_of}
use Rattle.s80_object.specs.declared.value.Value.{Value}
use Rattle.s80_object.specs.declared.value.Value.TheVariants as value
use Rattle.s80_prims.specs.declared.kernel.Kernel.{Kernel}

-- the place of a class
abbrev pub class_place : Value → Option Place
class_place (value.ClassRef c side) = Some (c, side)
class_place _ = None

abbrev pub IsNumber : Table → List ℕ → ℕ → Type 0
IsNumber t name c = number_of t.names name ≡ Some c

-- the numbers of the kernel's classes in this table
pub record AreNumbers (t : Table) (k : Kernel) : Type 0 where
  pub small_integer : IsNumber t (codes "SmallInteger") k.small_integer
  pub character : IsNumber t (codes "Character") k.character
  pub undefined_object : IsNumber t (codes "UndefinedObject") k.undefined_object
  pub true_class : IsNumber t (codes "True") k.true_class
  pub false_class : IsNumber t (codes "False") k.false_class
  pub symbol : IsNumber t (codes "Symbol") k.symbol
  pub large_positive : IsNumber t (codes "LargePositiveInteger") k.large_positive
  pub large_negative : IsNumber t (codes "LargeNegativeInteger") k.large_negative
  pub float : IsNumber t (codes "Float") k.float
  pub metaclass : IsNumber t (codes "Metaclass") k.metaclass
  pub method_context : IsNumber t (codes "MethodContext") k.method_context
  pub block_context : IsNumber t (codes "BlockContext") k.block_context
  pub text_collector : IsNumber t (codes "TextCollector") k.text_collector
  pub system_dictionary : IsNumber t (codes "SystemDictionary") k.system_dictionary
  pub class : IsNumber t (codes "Class") k.class
  pub string : IsNumber t (codes "String") k.string
  pub array : IsNumber t (codes "Array") k.array
  pub message : IsNumber t (codes "Message") k.message
  pub behavior : IsNumber t (codes "Behavior") k.behavior
  pub boolean : IsNumber t (codes "Boolean") k.boolean
  pub number : IsNumber t (codes "Number") k.number
  pub context_part : IsNumber t (codes "ContextPart") k.context_part
