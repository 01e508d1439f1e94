-- Where a message finds its method (Blue Book, part four).
use Rattle.std.specs.Prelude.{◌≡◌, ℕ, List, [], ◌∷◌, ◌++◌, map, codes, Option, Some, None, unwrap_or}
use Rattle.std.specs.FinMap as map_of
use Rattle.s80_base.specs.declared.names.Side.{Side}
use Rattle.s80_base.specs.declared.names.Side.TheVariants.{Instance, Class}
use Rattle.s80_dict.specs.Table.{MethodsValue, methods_at}
use Rattle.s80_dict.specs.declared.dict.MethodEntry.{MethodEntry}
use Rattle.s80_class.specs.declared.found.Found.{Found as FoundEntry}
use Rattle.s80_class.specs.Classes.{Name, lineage}
use Rattle.s80_class.specs.Table.{Table, class_name, number_of}

-- a side of a class, by the class's number
abbrev pub Place : Type 0
Place = ℕ × Side

-- the number of a class that is there
abbrev pub number : Table → Name → ℕ
number t name = unwrap_or (number_of t.names name) 0

-- a class and its superclasses, the nearest first
abbrev pub numbers_up : Table → ℕ → List ℕ
numbers_up t c = map (λ e. number t e.0) (lineage t.classes (class_name t c))

-- none of no class
abbrev pub numbers_from : Table → Option ℕ → List ℕ
numbers_from t None = []
numbers_from t (Some c) = numbers_up t c

abbrev pub on_side : Side → List ℕ → List Place
on_side side numbers = map (λ n. (n, side)) numbers

-- the class Class with its superclasses, where it is there
abbrev pub places_behind : Table → List Place
places_behind t = on_side Instance (numbers_from t (number_of t.names (codes "Class")))

-- on the class side the class sides of all superclasses, and behind them the class Class with its superclasses
abbrev pub places_up : Table → ℕ → Side → List Place
places_up t c Instance = on_side Instance (numbers_up t c)
places_up t c Class = on_side Class (numbers_up t c) ++ places_behind t

-- the same of a class that may be none
abbrev pub places_from : Table → Option ℕ → Side → List Place
places_from t from Instance = on_side Instance (numbers_from t from)
places_from t from Class = on_side Class (numbers_from t from) ++ places_behind t

-- a method, and where it was found
pub record Found (X : Type 0) : Type 0 where
  pub class : ℕ
  pub side : Side
  pub entry : X

abbrev pub found_or : {X : Type 0} → Place → Option X → Option (Found X) → Option (Found X)
found_or place None rest = rest
found_or place (Some e) rest = Some (record { class = place.0; side = place.1; entry = e })

-- the first of these places at which there is a method of this selector
abbrev pub first_found : {X : Type 0} → MethodsValue X → List ℕ → List Place → Option (Found X)
first_found methods selector [] = None
first_found methods selector (place ∷ places) =
    found_or place (map_of.get (methods_at methods place.0 place.1) selector) (first_found methods selector places)

-- what a look-up answers: the method that is found, or none
abbrev pub IsFound : {C : Type 0} → Option (Found (MethodEntry C)) → Option (FoundEntry C) → Type 0
IsFound None None = Unit {0}
IsFound (Some f) (Some g) = (g.class ≡ f.class) × (g.side ≡ f.side) × (g.entry.now ≡ f.entry)
IsFound _ _ = ⊥
