-- How a table is kept: what its entries show, and what they owe.
use Rattle.std.specs.Prelude.{◌≡◌, ◌<◌, ◌≤◌, ℕ, zero, suc, Bool, true, false, List, [], ◌∷◌, Option, Some, None, map as list_map, length, slice_get, slice_index, slice_index_or, unwrap_or, refl}
use Rattle.std.specs.Option.{option_map}
use Rattle.std.specs.Ordering.{nat_cmp, is_lt}
use Rattle.std.specs.Cmp.Lexicographic.{slice_cmp}
use Rattle.std.specs.FinMap as map
use Rattle.std.specs.Coded.{Coded, code_by, coded×, coded_ℕ, coded_list, coded_option}
use Rattle.s80_form.specs.declared.definition.Kind.{Kind}
use Rattle.s80_form.specs.declared.definition.Kind.TheVariants.{Plain, Pointers, Bytes, Words}
use Rattle.s80_class.specs.declared.entry.ClassEntry.{ClassEntry}
use Rattle.s80_class.specs.Classes.{Name, ClassRow, Classes, IsValid}
use Rattle.s80_class.specs.Table.{Table, name_of, IsNumberOf, IsClass, IsSuperclass, row_of}

-- ---- the code of a table

abbrev pub kind_number : Kind → ℕ
kind_number Plain = 0
kind_number Pointers = 1
kind_number Bytes = 2
kind_number Words = 3

abbrev pub number_kind : ℕ → Kind
number_kind zero = Plain
number_kind (suc zero) = Pointers
number_kind (suc (suc zero)) = Bytes
number_kind (suc (suc (suc n))) = Words

pub kind_back : (kind : Kind) → number_kind (kind_number kind) ≡ kind
kind_back Plain = refl
kind_back Pointers = refl
kind_back Bytes = refl
kind_back Words = refl

abbrev pub kind_code : Coded Kind
kind_code = code_by ℕ coded_ℕ kind_number number_kind kind_back

abbrev pub name_code : Coded Name
name_code = coded_list coded_ℕ

abbrev pub row_code : Coded ClassRow
row_code = code_by (Option Name × (Kind × (List Name × (List Name × (List Name × (Name × (Name × List Name)))))))
    (coded× (coded_option name_code) (coded× kind_code (coded× (coded_list name_code) (coded× (coded_list name_code) (coded× (coded_list name_code) (coded× name_code (coded× name_code (coded_list name_code))))))))
    (λ r. (r.superclass, (r.kind, (r.inst_vars, (r.class_vars, (r.pools, (r.category, (r.comment, r.class_side_vars))))))))
    (λ p. record { superclass = p.0; kind = p.1.0; inst_vars = p.1.1.0; class_vars = p.1.1.1.0; pools = p.1.1.1.1.0; category = p.1.1.1.1.1.0; comment = p.1.1.1.1.1.1.0; class_side_vars = p.1.1.1.1.1.1.1 })
    (λ _. refl)

abbrev pub table_code : Coded Table
table_code = code_by (Classes × (List (Option Name) × ℕ)) (coded× (map.code name_code row_code) (coded× (coded_list (coded_option name_code)) coded_ℕ))
    (λ t. (t.classes, (t.names, t.spare))) (λ p. record { classes = p.0; names = p.1.0; spare = p.1.1 }) (λ _. refl)

-- ---- what the entries show

abbrev pub names_of : List (Option ClassEntry) → List (Option Name)
names_of entries = list_map (option_map (λ e. e.class_name)) entries

abbrev pub with_row : List (Option Name) → Option ClassEntry → List (Name × ClassRow) → List (Name × ClassRow)
with_row names None rest = rest
with_row names (Some e) rest = (e.class_name, row_of names e) ∷ rest

abbrev pub rows : List (Option Name) → List (Option ClassEntry) → List (Name × ClassRow)
rows names [] = []
rows names (e ∷ es) = with_row names e (rows names es)

abbrev pub classes_of : List (Option ClassEntry) → Classes
classes_of entries = map.from_entries (rows (names_of entries) entries)

-- the name of the class of this number, and no byte where there is none
abbrev pub name_at : List (Option Name) → ℕ → Name
name_at names number = unwrap_or (name_of names number) []

-- no two classes have one name, each superclass is there and no class is above itself, and the numbers stand in order of the names
pub record IsKept (entries : List (Option ClassEntry)) (order : List ℕ) : Type 0 where
  pub one_number : (i j : ℕ) (name : Name) → IsNumberOf (names_of entries) i name → IsNumberOf (names_of entries) j name → i ≡ j
  pub superclasses : (i : ℕ) (e : ClassEntry) → slice_get entries i ≡ Some (Some e) → IsSuperclass (names_of entries) e.superclass
  pub valid : IsValid (classes_of entries)
  pub are_classes : (k : ℕ) → k < length order → IsClass (names_of entries) (slice_index order k)
  pub in_order : list_map (name_at (names_of entries)) order ≡ map.keys (classes_of entries)

-- ---- a place among names that rise

abbrev pub is_below : Name → Name → Bool
is_below a b = is_lt (slice_cmp nat_cmp a b)

abbrev pub IsRising : List Name → Type 0
IsRising names = (i j : ℕ) → i < j → j < length names → is_below (slice_index_or names i []) (slice_index_or names j []) ≡ true

-- so many of the names are below this one
pub record IsPlace (names : List Name) (name : Name) (place : ℕ) : Type 0 where
  pub within : place ≤ length names
  pub below : (k : ℕ) → k < place → is_below (slice_index_or names k []) name ≡ true
  pub above : (k : ℕ) → place ≤ k → k < length names → is_below (slice_index_or names k []) name ≡ false
