-- Superclasses by where they stand among the classes, and where the fields of a class are.
use Rattle.std.specs.Prelude.{◌≡◌, ℕ, ◌+◌, List, length, Option, Some, None, slice_get}
use Rattle.std.specs.FinMap as map
use Rattle.s80_class.specs.Classes.{Inherited}
use Rattle.s80_class.specs.declared.inherited.Totals.{Totals}
use Rattle.s80_image.specs.Parts.{Name}
use Rattle.s80_image.specs.Classes.{ClassView, classes}
use Rattle.s80_image.specs.Together.{Spot, classes_by_name, classes_place, row_of, superclass_of}

-- ---- places

-- the class of this name stands there, or there is none
abbrev pub IsPlaceOf : List ClassView → Name → Option ℕ → Type 0
IsPlaceOf cs name None = map.get (classes_by_name cs) name ≡ None
IsPlaceOf cs name (Some i) = (c : ClassView) × (slice_get cs i ≡ Some c) × (c.heading.name ≡ name)

-- where the superclasses of the first so many classes stand
pub record AreSuperclasses (cs : List ClassView) (count : ℕ) (places : List (Option ℕ)) : Type 0 where
  pub size : length places ≡ count
  pub each : (i : ℕ) (c : ClassView) (place : Option ℕ) → slice_get cs i ≡ Some c → slice_get places i ≡ Some place → IsPlaceOf cs c.heading.superclass place

-- ---- chains

-- a chain goes on with the class that stands there
abbrev pub GoesOn : List ClassView → Option ℕ → Option Name → Type 0
GoesOn cs None name = name ≡ None
GoesOn cs (Some i) name = (c : ClassView) × (slice_get cs i ≡ Some c) × (name ≡ Some c.heading.name)

-- each class but Object has its superclass, and is found by its name
pub record AreLinked (cs : List ClassView) (places : List (Option ℕ)) : Type 0 where
  pub size : length places ≡ length cs
  pub count : map.len (classes_by_name cs) ≡ length cs
  pub found : (i : ℕ) (c : ClassView) → slice_get cs i ≡ Some c → map.get (classes_by_name cs) c.heading.name ≡ Some (row_of c.heading)
  pub each : (i : ℕ) (c : ClassView) (place : Option ℕ) → slice_get cs i ≡ Some c → slice_get places i ≡ Some place → GoesOn cs place (superclass_of c.heading.superclass)

abbrev pub as_inherited : Totals → Inherited
as_inherited t = record { inst_vars = t.inst_vars; class_side_vars = t.class_side_vars; kind = t.kind }

-- ---- fields

-- a field of the class behind these, by its place in the image
abbrev pub field_behind : List ClassView → Spot → Spot
field_behind cs field = (classes_place + length (classes.spell cs) + field.0, field.1)
