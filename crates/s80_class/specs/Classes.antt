-- The classes as a finite map from their names, and what a class has from its superclasses.
use Rattle.std.specs.Prelude.{◌≡◌, ℕ, suc, zero, List, [], ◌∷◌, Bool, true, false, Option, Some, None, length, fold, map as list_map, max, if◌then◌else◌, drop, filter, option_map, unwrap_or}
use Rattle.std.specs.List.{list_any, sum_by}
use Rattle.std.specs.Option.{option_map_or}
use Rattle.std.specs.Str.{bytes_eq}
use Rattle.std.specs.Ordering.{nat_cmp}
use Rattle.std.specs.Cmp.Lexicographic.{slice_cmp}
use Rattle.std.specs.FinMap as map
use Rattle.s80_form.specs.declared.definition.Kind.{Kind}
use Rattle.s80_form.specs.declared.definition.Kind.TheVariants.{Plain, Pointers, Bytes, Words}

abbrev pub Name : Type 0
Name = List ℕ

-- what is known of a class, beside its name
pub record ClassRow : Type 0 where
  pub superclass : Option Name
  pub kind : Kind
  pub inst_vars : List Name
  pub class_vars : List Name
  pub pools : List Name
  pub category : List ℕ
  pub comment : List ℕ
  pub class_side_vars : List Name

-- the classes by their names, in byte order
abbrev pub Classes : Type 0
Classes = map.FinMap {K = Name} (slice_cmp nat_cmp) ClassRow

-- ---- a class and its superclasses

-- These are the class of that name, its superclass and so on, up to one that has none.
abbrev pub IsLine : Classes → Option Name → List (Name × ClassRow) → Type 0
IsLine classes None [] = Unit {0}
IsLine classes None (e ∷ es) = ⊥
IsLine classes (Some name) [] = ⊥
IsLine classes (Some name) (e ∷ es) = (e.0 ≡ name) × (map.get classes name ≡ Some e.1) × IsLine classes e.1.superclass es

-- every class has such a line: its superclass is there, and no class is above itself
abbrev pub IsValid : Classes → Type 0
IsValid classes = (name : Name) (row : ClassRow) → map.get classes name ≡ Some row → (es : List (Name × ClassRow)) × IsLine classes (Some name) es

-- the line as it is read, up to so many classes
abbrev pub then_up : Name → Option ClassRow → (ClassRow → List (Name × ClassRow)) → List (Name × ClassRow)
then_up name None up = []
then_up name (Some row) up = (name, row) ∷ up row

abbrev pub upwards : ℕ → Classes → Option Name → List (Name × ClassRow)
upwards zero classes name = []
upwards (suc count) classes None = []
upwards (suc count) classes (Some name) = then_up name (map.get classes name) (λ row. upwards count classes row.superclass)

-- a class and its superclasses, the nearest first
abbrev pub lineage : Classes → Name → List (Name × ClassRow)
lineage classes name = upwards (map.len classes) classes (Some name)

-- the class is this one or descends from it
abbrev pub is_under : Classes → Name → Name → Bool
is_under classes name other = list_any (λ e. bytes_eq e.0 other) (lineage classes name)

-- the class descends from this one
abbrev pub descends : Classes → Name → Name → Bool
descends classes name other = list_any (λ e. bytes_eq e.0 other) (drop 1 (lineage classes name))

-- the class of this name is its superclass
abbrev pub is_right_below : Name → Option ClassRow → Bool
is_right_below name None = false
is_right_below name (Some row) = option_map_or (bytes_eq name) row.superclass false

-- some class has it as its superclass
abbrev pub has_subclass : Classes → Name → Bool
has_subclass classes name = list_any (λ other. is_right_below name (map.get classes other)) (map.keys classes)

-- ---- one class changed

-- a class with its row changed so, where it is there
abbrev pub change_row : (ClassRow → ClassRow) → Name → Classes → Classes
change_row change name classes = unwrap_or (option_map (λ row. map.insert classes name (change row)) (map.get classes name)) classes

abbrev pub with_comment : List ℕ → ClassRow → ClassRow
with_comment text row = record row { comment = text }

abbrev pub with_class_side_vars : List Name → ClassRow → ClassRow
with_class_side_vars names row = record row { class_side_vars = names }

-- ---- what a class has with all that it inherits

abbrev pub own_or : Kind → Kind → Kind
own_or Plain inherited = inherited
own_or kind inherited = kind

-- the kind of the nearest class that isn't plain
abbrev pub effective_kind : List (Name × ClassRow) → Kind
effective_kind [] = Plain
effective_kind (e ∷ es) = own_or e.1.kind (effective_kind es)

abbrev pub is_bits : Kind → Bool
is_bits Plain = false
is_bits Pointers = false
is_bits Bytes = true
is_bits Words = true

-- how many variables a class has, and its effective kind
pub record Inherited : Type 0 where
  pub inst_vars : ℕ
  pub class_side_vars : ℕ
  pub kind : Kind

abbrev pub inherited_in : List (Name × ClassRow) → Inherited
inherited_in es = record {
  inst_vars = sum_by (λ e. length e.1.inst_vars) es;
  class_side_vars = sum_by (λ e. length e.1.class_side_vars) es;
  kind = effective_kind es;
}

abbrev pub inherited_of : Classes → Name → Inherited
inherited_of classes name = inherited_in (lineage classes name)

-- ---- the greatest among a class and its descendants

pub record Extent : Type 0 where
  pub inst_vars : ℕ
  pub class_side_vars : ℕ
  -- instance variables of a class of bytes or words
  pub bits_variables : ℕ

abbrev pub bits_variables_of : Inherited → ℕ
bits_variables_of t = if is_bits t.kind then t.inst_vars else 0

abbrev pub greatest : (Inherited → ℕ) → List Inherited → ℕ
greatest count ts = fold (λ most t. max most (count t)) 0 ts

abbrev pub extent_in : List Inherited → Extent
extent_in ts = record {
  inst_vars = greatest (λ t. t.inst_vars) ts;
  class_side_vars = greatest (λ t. t.class_side_vars) ts;
  bits_variables = greatest bits_variables_of ts;
}

-- the class and its descendants
abbrev pub family : Classes → Name → List Name
family classes name = filter (λ other. is_under classes other name) (map.keys classes)

abbrev pub extent_of : Classes → Name → Extent
extent_of classes name = extent_in (list_map (inherited_of classes) (family classes name))
