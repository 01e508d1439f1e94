-- The value of a table of dictionaries by class number, and how it is read.
use Rattle.std.specs.Prelude.{ℕ, Bool, true, false, cond, ◌&&◌, List, [], get_or, nat_eq, refl}
use Rattle.std.specs.FinMap as map
use Rattle.std.specs.Coded.{Coded, code_by, coded×, coded_ℕ, coded_list}
use Rattle.s80_base.specs.declared.names.Side.{Side}
use Rattle.s80_base.specs.declared.names.Side.TheVariants.{Instance, Class}
use Rattle.s80_dict.specs.Dict.{Bytes, Methods}
use Rattle.s80_dict.specs.Slots.{DictValue, dict_code}
use Rattle.s80_dict.specs.declared.dict.MethodEntry.{MethodEntry}

-- the two dictionaries of a class
pub record SidesValue (X : Type 0) : Type 0 where
  pub instance : DictValue X
  pub class : DictValue X

-- the classes by number from 0, and for how many more there is room
pub record MethodsValue (X : Type 0) : Type 0 where
  pub sides : List (SidesValue X)
  pub spare : ℕ

abbrev pub sides_code : {C : Type 0} → Coded C → Coded (SidesValue (MethodEntry C))
sides_code {C} code = code_by (DictValue (MethodEntry C) × DictValue (MethodEntry C)) (coded× (dict_code code) (dict_code code))
    (λ s. (s.instance, s.class)) (λ p. record { instance = p.0; class = p.1 }) (λ _. refl)

abbrev pub table_code : {C : Type 0} → Coded C → Coded (MethodsValue (MethodEntry C))
table_code {C} code = code_by (List (SidesValue (MethodEntry C)) × ℕ) (coded× (coded_list (sides_code code)) coded_ℕ)
    (λ t. (t.sides, t.spare)) (λ p. record { sides = p.0; spare = p.1 }) (λ _. refl)

abbrev pub same_side : Side → Side → Bool
same_side Instance Instance = true
same_side Class Class = true
same_side _ _ = false

-- whether a side of a class, told last, is the one told first
abbrev pub is_place : ℕ → Side → ℕ → Side → Bool
is_place number side n s = nat_eq n number && same_side s side

module _ {X : Type 0} where
  -- no methods, and no selector has room
  abbrev pub no_dict : DictValue X
  no_dict = record { methods = map.empty; room = [] }

  abbrev pub no_sides : SidesValue X
  no_sides = record { instance = no_dict; class = no_dict }

  abbrev pub on_side : SidesValue X → Side → DictValue X
  on_side sides Instance = sides.instance
  on_side sides Class = sides.class

  abbrev pub with_side : SidesValue X → Side → DictValue X → SidesValue X
  with_side sides Instance dict = record { instance = dict; class = sides.class }
  with_side sides Class dict = record { instance = sides.instance; class = dict }

  -- ---- reading: nothing is past the last class

  abbrev pub dict_at : MethodsValue X → ℕ → Side → DictValue X
  dict_at table n s = on_side (get_or table.sides n no_sides) s

  abbrev pub methods_at : MethodsValue X → ℕ → Side → Methods X
  methods_at table n s = (dict_at table n s).methods

  abbrev pub room_at : MethodsValue X → ℕ → Side → List Bytes
  room_at table n s = (dict_at table n s).room

  -- ---- one method put, one taken away, and all of a class: all others stay

  abbrev pub put_at : (ℕ → Side → Methods X) → ℕ → Side → Bytes → X → ℕ → Side → Methods X
  put_at at number side selector entry n s = cond (is_place number side n s) (map.insert (at n s) selector entry) (at n s)

  abbrev pub taken_at : (ℕ → Side → Methods X) → ℕ → Side → Bytes → ℕ → Side → Methods X
  taken_at at number side selector n s = cond (is_place number side n s) (map.remove (at n s) selector) (at n s)

  -- both dictionaries of one class emptied: no method, and no selector with room
  abbrev pub cleared_at : (ℕ → Side → DictValue X) → ℕ → ℕ → Side → DictValue X
  cleared_at at number n s = cond (nat_eq n number) no_dict (at n s)

  abbrev pub put_in : DictValue X → Bytes → X → DictValue X
  put_in dict selector entry = record { methods = map.insert dict.methods selector entry; room = dict.room }

  abbrev pub taken_in : DictValue X → Bytes → DictValue X
  taken_in dict selector = record { methods = map.remove dict.methods selector; room = dict.room }
