-- What is asked of all classes of an image together: superclasses, their chains, how many variables there are with those that are inherited, and the
-- kernel's classes.
use Rattle.std.specs.Prelude.{◌≡◌, ℕ, zero, suc, ◌+◌, ◌&&◌, ◌||◌, not, Bool, true, false, nat_le, List, [], ◌∷◌, length, codes, map as list_map, Option, Some, None, option_map, Result, Ok, Err, if◌then◌else◌}
use Rattle.std.specs.List.{list_any}
use Rattle.std.specs.Option.{option_map_or}
use Rattle.std.specs.Str.{bytes_eq}
use Rattle.std.specs.FinMap as map
use Rattle.s80_kernel.specs.Rows.{kernel_rows}
use Rattle.s80_class.specs.Classes.{ClassRow, Classes, Inherited, bits_variables_of, inherited_of}
use Rattle.s80_image.specs.declared.fault.Fault.{Fault}
use Rattle.s80_image.specs.declared.fault.Fault.TheVariants.{Field}
use Rattle.s80_image.specs.declared.image.ClassHeading.{ClassHeading}
use Rattle.s80_image.specs.Format.{◌>>=◌, text}
use Rattle.s80_image.specs.Parts.{Name}
use Rattle.s80_image.specs.Classes.{ClassView, class, names}
use Rattle.s80_image.specs.Image.{HasLawfulFields, ImageView, decoded}

-- ---- classes by their names

-- no name stands for no superclass
abbrev pub superclass_of : Name → Option Name
superclass_of [] = None
superclass_of (b ∷ bytes) = Some (b ∷ bytes)

abbrev pub row_of : ClassHeading → ClassRow
row_of h = record {
  superclass = superclass_of h.superclass;
  kind = h.kind;
  inst_vars = h.variables.instance;
  class_vars = h.variables.class;
  pools = h.variables.pools;
  category = h.category;
  comment = h.comment;
  class_side_vars = h.variables.class_side;
}

unfoldable pub classes_by_name : List ClassView → Classes
classes_by_name cs = map.from_entries (list_map (λ c. (c.heading.name, row_of c.heading)) cs)

-- ---- what may be wrong with one of them

-- its superclass is none of the classes; Object has none
abbrev pub lacks_superclass : Classes → ClassHeading → Bool
lacks_superclass classes h = not (bytes_eq h.name (codes "Object")) && not (map.contains_key classes h.superclass)

-- the chain of superclasses from this class on ends within so many steps
abbrev pub ends_within : ℕ → Classes → Option Name → Bool
ends_within steps classes None = true
ends_within zero classes (Some name) = false
ends_within (suc steps) classes (Some name) = option_map_or (λ row. ends_within steps classes row.superclass) (map.get classes name) false

abbrev pub is_endless : Classes → ClassHeading → Bool
is_endless classes h = not (ends_within (map.len classes) classes (Some h.name))

-- more than 64 variables of instances with those that are inherited, or any in a class of bytes or words
abbrev pub has_many_variables : Inherited → Bool
has_many_variables t = not (nat_le t.inst_vars 64) || not (nat_le (bits_variables_of t) 0)

abbrev pub has_many_class_side_variables : Inherited → Bool
has_many_class_side_variables t = not (nat_le t.class_side_vars 64)

-- ---- where it is wrong

-- a field: its place, and its value
abbrev pub Spot : Type 0
Spot = ℕ × ℕ

-- fields of a class, by how many of its bytes stand before them: the superclass, and the lists of variables
abbrev pub superclass_field : ClassHeading → Spot
superclass_field h = (length (text.spell h.name), length h.superclass)

abbrev pub instance_field : ClassHeading → Spot
instance_field h = (length (text.spell h.name) + length (text.spell h.superclass) + 1, length h.variables.instance)

abbrev pub size_of : List Name → ℕ
size_of ns = length ((names 0 None).spell ns)

abbrev pub class_side_field : ClassHeading → Spot
class_side_field h =
    ((instance_field h).0 + size_of h.variables.instance + size_of h.variables.class + size_of h.variables.pools, length h.variables.class_side)

abbrev pub wrong_superclass : Classes → ClassHeading → Option Spot
wrong_superclass classes h = if lacks_superclass classes h then Some (superclass_field h) else None

abbrev pub wrong_chain : Classes → ClassHeading → Option Spot
wrong_chain classes h = if is_endless classes h then Some (superclass_field h) else None

abbrev pub wrong_total_in : Inherited → ClassHeading → Option Spot
wrong_total_in t h = if has_many_variables t then Some (instance_field h) else (if has_many_class_side_variables t then Some (class_side_field h) else None)

abbrev pub wrong_total : Classes → ClassHeading → Option Spot
wrong_total classes h = wrong_total_in (inherited_of classes h.name) h

abbrev pub or_else : {A : Type 0} → Option A → Option A → Option A
or_else None other = other
or_else (Some value) other = Some value

-- the first field of classes in their order that is wrong, where the bytes of the first class begin at this place
abbrev pub first_wrong : (ClassHeading → Option Spot) → ℕ → List ClassView → Option Spot
first_wrong wrong at [] = None
first_wrong wrong at (c ∷ cs) = or_else (option_map (λ spot. (at + spot.0, spot.1)) (wrong c.heading)) (first_wrong wrong (at + length ((class None).spell c)) cs)

-- ---- all of them

-- the list of classes stands behind the signature and the number of changes, and the first class behind its length
abbrev pub classes_place : ℕ
classes_place = 13

abbrev pub first_class_place : ℕ
first_class_place = 17

abbrev pub lacks_kernel_class : Classes → Bool
lacks_kernel_class classes = list_any (λ row. not (map.contains_key classes row.name)) kernel_rows

abbrev pub missing : Classes → List ClassView → Option Spot
missing classes cs = if lacks_kernel_class classes then Some (classes_place, length cs) else None

abbrev pub wrong_in : Classes → List ClassView → Option Spot
wrong_in classes cs =
    or_else (first_wrong (wrong_superclass classes) first_class_place cs)
    (or_else (first_wrong (wrong_chain classes) first_class_place cs)
    (or_else (first_wrong (wrong_total classes) first_class_place cs)
    (missing classes cs)))

-- the first field that is wrong: a superclass that isn't there, then one whose chain doesn't end, then a list of too many variables; last, that a class
-- of the kernel is missing
unfoldable pub wrong_together : List ClassView → Option Spot
wrong_together cs = wrong_in (classes_by_name cs) cs

-- ---- images

abbrev pub unless_wrong : {A : Type 0} → Option Spot → A → Result A Fault
unless_wrong None x = Ok x
unless_wrong (Some spot) x = Err (Field spot.0 spot.1)

-- the image that bytes spell, or the first field that isn't lawful by itself, or then of all classes together
abbrev pub decoded_image : List ℕ → Result ImageView Fault
decoded_image bytes = decoded bytes >>= λ image. unless_wrong (wrong_together image.classes) image

-- its fields are lawful, and so are its classes together
pub record IsLawfulImage (image : ImageView) : Type 0 where
  pub fields : HasLawfulFields image
  pub together : wrong_together image.classes ≡ None
