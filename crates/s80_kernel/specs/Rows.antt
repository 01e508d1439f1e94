-- The classes that are there from the start.
use Rattle.std.specs.Prelude.{ℕ, Bool, List, [], ◌∷◌, ◌++◌, codes, map}
use Rattle.std.specs.List.{list_any}
use Rattle.std.specs.Str.{bytes_eq}
use Rattle.s80_kernel.specs.declared.rows.KernelClass.{KernelClass}

-- a class: its name, that of its superclass (empty for Object), its kind and its instance variables in one line
pub record KernelRow : Type 0 where
  pub name : List ℕ
  pub superclass : List ℕ
  pub kind : ℕ
  pub inst_vars : List ℕ

abbrev pub plain : ℕ
plain = 0

abbrev pub pointers : ℕ
pointers = 1

abbrev pub bytes : ℕ
bytes = 2

abbrev pub words : ℕ
words = 3

abbrev pub class_under : List ℕ → ℕ → List ℕ → List ℕ → KernelRow
class_under superclass kind inst_vars name = record { name = name; superclass = superclass; kind = kind; inst_vars = inst_vars }

-- plain classes without variables
abbrev pub under : List ℕ → List (List ℕ) → List KernelRow
under superclass names = map (class_under superclass plain []) names

-- the 28 classes, each behind its superclass
abbrev pub kernel_rows : List KernelRow
kernel_rows =
    (under [] (codes "Object" ∷ []))
    ++ ((under (codes "Object") (codes "Behavior" ∷ codes "UndefinedObject" ∷ codes "Boolean" ∷ codes "Magnitude" ∷ codes "Collection" ∷ codes "ContextPart" ∷ codes "TextCollector" ∷ codes "SystemDictionary" ∷ []))
    ++ ((class_under (codes "Object") plain (codes "selector args") (codes "Message") ∷ [])
    ++ ((under (codes "Behavior") (codes "Class" ∷ codes "Metaclass" ∷ []))
    ++ ((under (codes "Boolean") (codes "True" ∷ codes "False" ∷ []))
    ++ ((under (codes "Magnitude") (codes "Character" ∷ codes "Number" ∷ []))
    ++ ((under (codes "Number") (codes "Integer" ∷ codes "Float" ∷ []))
    ++ ((under (codes "Integer") (codes "SmallInteger" ∷ codes "LargePositiveInteger" ∷ codes "LargeNegativeInteger" ∷ []))
    ++ ((under (codes "Collection") (codes "SequenceableCollection" ∷ []))
    ++ ((under (codes "SequenceableCollection") (codes "ArrayedCollection" ∷ []))
    ++ ((class_under (codes "ArrayedCollection") pointers [] (codes "Array") ∷ class_under (codes "ArrayedCollection") bytes [] (codes "String") ∷ [])
    ++ ((under (codes "String") (codes "Symbol" ∷ []))
    ++ (under (codes "ContextPart") (codes "MethodContext" ∷ codes "BlockContext" ∷ [])))))))))))))

-- a row as the code has it
abbrev pub row_of : KernelClass → KernelRow
row_of c = record { name = c.name.now; superclass = c.superclass.now; kind = c.kind; inst_vars = c.inst_vars.now }

abbrev pub has_name : List KernelRow → List ℕ → Bool
has_name rows name = list_any (λ row. bytes_eq row.name name) rows

unfoldable pub is_kernel_class : List ℕ → Bool
is_kernel_class name = has_name kernel_rows name
