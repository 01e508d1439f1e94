-- Classes as values are seen with: by their numbers in the table.
use Rattle.std.specs.Prelude.{ℕ, List, [], ◌∷◌, Bool, not, codes, Option, Some, None, unwrap_or}
use Rattle.std.specs.List.{list_any}
use Rattle.std.specs.Option.{option_map_or}
use Rattle.s80_base.specs.declared.literal.NumberKind.{NumberKind}
use Rattle.s80_base.specs.declared.literal.NumberKind.TheVariants.{LargePositive, LargeNegative, Float}
use Rattle.s80_base.specs.declared.names.Side.TheVariants as side
use Rattle.s80_form.specs.declared.definition.Kind.{Kind}
use Rattle.s80_class.specs.Classes.{Name, inherited_of, is_under}
use Rattle.s80_class.specs.Table.{Table, class_name, number_of}
use Rattle.s80_object.specs.Body.{BodyTree, pointers, bytes, words, home, block}
use Rattle.s80_object.specs.Objects.{State, body_at, number_kind_of}
use Rattle.s80_object.specs.declared.value.Value.{Value}
use Rattle.s80_object.specs.declared.value.Value.TheVariants as value

-- a class of the kernel as a value
abbrev pub kernel_class : Table → Name → Value
kernel_class t word = value.ClassRef (unwrap_or (number_of t.names word) 0) side.Instance

-- the class of this number is one of that name or descends from it
abbrev pub is_kind_of : Table → ℕ → Name → Bool
is_kind_of t c word = is_under t.classes (class_name t c) word

abbrev pub kind_of_class : Table → ℕ → Kind
kind_of_class t c = (inherited_of t.classes (class_name t c)).kind

abbrev pub variables_of : Table → ℕ → ℕ
variables_of t c = (inherited_of t.classes (class_name t c)).inst_vars

-- the number of an object's class; homes and blocks have none of their own
abbrev pub class_number : BodyTree → Option ℕ
class_number (pointers class fields items) = Some class
class_number (bytes class items) = Some class
class_number (words class items) = Some class
class_number _ = None

abbrev pub number_class : NumberKind → Name
number_class LargePositive = codes "LargePositiveInteger"
number_class LargeNegative = codes "LargeNegativeInteger"
number_class Float = codes "Float"

-- the class of what isn't made of a class
abbrev pub body_class : Table → BodyTree → Value
body_class t (pointers class fields items) = value.ClassRef class side.Instance
body_class t (bytes class items) = value.ClassRef class side.Instance
body_class t (words class items) = value.ClassRef class side.Instance
body_class t (home method receiver temporaries) = kernel_class t (codes "MethodContext")
body_class t (block whole start arguments) = kernel_class t (codes "BlockContext")

-- the class of a value
abbrev pub class_of : Table → State → Value → Value
class_of t s (value.Small n) = kernel_class t (codes "SmallInteger")
class_of t s (value.Character c) = kernel_class t (codes "Character")
class_of t s value.Nil = kernel_class t (codes "UndefinedObject")
class_of t s value.True = kernel_class t (codes "True")
class_of t s value.False = kernel_class t (codes "False")
class_of t s (value.Symbol n) = kernel_class t (codes "Symbol")
class_of t s (value.Number n) = option_map_or (λ kind. kernel_class t (number_class kind)) (number_kind_of s (value.Number n)) value.Nil
class_of t s (value.ClassRef c side.Instance) = value.ClassRef c side.Class
class_of t s (value.ClassRef c side.Class) = kernel_class t (codes "Metaclass")
class_of t s (value.Object n) = option_map_or (body_class t) (body_at s (value.Object n)) value.Nil
class_of t s value.Context = kernel_class t (codes "MethodContext")
class_of t s value.Transcript = kernel_class t (codes "TextCollector")
class_of t s value.Smalltalk = kernel_class t (codes "SystemDictionary")

-- classes whose instances aren't made by `new`, nor those of their descendants
abbrev pub made_otherwise : List Name
made_otherwise =
    codes "Behavior" ∷ codes "UndefinedObject" ∷ codes "Boolean" ∷ codes "Character" ∷ codes "Number" ∷ codes "Symbol"
    ∷ codes "ContextPart" ∷ codes "TextCollector" ∷ codes "SystemDictionary" ∷ []

abbrev pub can_be_new : Table → ℕ → Bool
can_be_new t c = not (list_any (is_kind_of t c) made_otherwise)
