-- The value of a dictionary.
use Rattle.std.specs.Prelude.{◌≡◌, ℕ, List, [], ◌∷◌, map as list_map, Option, Some, None, Vec, Bool, refl}
use Rattle.std.specs.List.{IsDistinct}
use Rattle.std.specs.Map.{keys_of}
use Rattle.std.specs.Str.{bytes_eq}
use Rattle.std.specs.FinMap as map
use Rattle.std.specs.Coded.{Coded, code_by, coded×, coded_ℕ, coded_list, coded_bool}
use Rattle.s80_dict.specs.Dict.{Bytes, Methods}
use Rattle.s80_dict.specs.declared.dict.MethodEntry.{MethodEntry}

-- the methods, and the selectors that have room
pub record DictValue (X : Type 0) : Type 0 where
  pub methods : Methods X
  pub room : List Bytes

-- what a model's value has: a code for its entries, and one for the whole
abbrev pub entry_code : {C : Type 0} → Coded C → Coded (MethodEntry C)
entry_code {C} code = code_by (Bytes × (Bytes × (Bool × (ℕ × (ℕ × C))))) (coded× (coded_list coded_ℕ) (coded× (coded_list coded_ℕ) (coded× coded_bool (coded× coded_ℕ (coded× coded_ℕ code)))))
    (λ e. (e.category, (e.source, (e.from_kernel, (e.position, (e.length, e.code))))))
    (λ p. record { category = p.0; source = p.1.0; from_kernel = p.1.1.0; position = p.1.1.1.0; length = p.1.1.1.1.0; code = p.1.1.1.1.1 }) (λ _. refl)

abbrev pub dict_code : {C : Type 0} → Coded C → Coded (DictValue (MethodEntry C))
dict_code {C} code = code_by (Methods (MethodEntry C) × List Bytes) (coded× (map.code (coded_list coded_ℕ) (entry_code code)) (coded_list (coded_list coded_ℕ)))
    (λ d. (d.methods, d.room)) (λ p. record { methods = p.0; room = p.1 }) (λ _. refl)

-- how the slots' keys are compared
abbrev pub same_bytes : {Z : Type 0} → Vec ℕ Z → Vec ℕ Z → Bool
same_bytes a b = bytes_eq a.items b.items

-- a slot before the methods of the slots behind it
abbrev pub filled_with : {X : Type 0} → Bytes → Option X → List (Bytes × X) → List (Bytes × X)
filled_with k None rest = rest
filled_with k (Some v) rest = (k, v) ∷ rest

module _ {X Z : Type 0} where
  -- the slots that hold a method
  abbrev pub filled : List (Vec ℕ Z × Option X) → List (Bytes × X)
  filled [] = []
  filled (e ∷ es) = filled_with e.0.items e.1 (filled es)

  abbrev pub methods_of : List (Vec ℕ Z × Option X) → Methods X
  methods_of es = map.from_entries (filled es)

  abbrev pub selectors_of : List (Vec ℕ Z × Option X) → List Bytes
  selectors_of es = list_map (λ e. e.0) (filled es)

  abbrev pub room_of : List (Vec ℕ Z × Option X) → List Bytes
  room_of es = list_map (λ e. e.0.items) es

  -- no selector has two slots, and as many are filled as is said
  pub record IsSound (es : List (Vec ℕ Z × Option X)) (count : ℕ) : Type 0 where
    pub distinct : IsDistinct same_bytes (keys_of es)
    pub counted : count ≡ map.len (methods_of es)
