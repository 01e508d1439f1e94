-- What a run reads and changes, and the activations that are alive.
use Rattle.std.specs.Prelude.{ℕ, suc, List, [], ◌==◌, ◌&&◌, Bool, true, false, length, slice_get, slice_set, nat_lt, codes, Option, Some, None, Result, Ok, Err, option_and_then, if◌then◌else◌}
use Rattle.std.specs.Option.{option_map}
use Rattle.std.specs.List.{position_or_len}
use Rattle.std.specs.Str.{bytes_eq}
use Rattle.s80_base.specs.declared.names.Side.{Side}
use Rattle.s80_base.specs.declared.names.Side.TheVariants.{Instance}
use Rattle.s80_class.specs.Table.{Table, number_of}
use Rattle.s80_code.specs.Entries.{EntryTree}
use Rattle.s80_code.specs.Entries as entry
use Rattle.s80_object.specs.Body.{BodyTree}
use Rattle.s80_object.specs.Literal.{added_once}
use Rattle.s80_object.specs.Objects.{State as Objects, fields_at, field_put, no_objects, put_with, with_body_at}
use Rattle.s80_object.specs.declared.value.ObjectFault.{ObjectFault}
use Rattle.s80_object.specs.declared.value.Value.{Value}
use Rattle.s80_object.specs.declared.value.Value.TheVariants as value
use Rattle.s80_prims.specs.Primitives.{World as Reached, same_side}

-- ---- methods and variables by name

-- where a method stands: its class by number, its side and its selector
pub data Key : Type 0 where
  doit : Key
  method : ℕ → Side → List ℕ → Key

abbrev pub same_key : Key → Key → Bool
same_key doit doit = true
same_key (method c s selector) (method d side other) = c == d && (same_side s side && bytes_eq selector other)
same_key _ _ = false

-- a variable outside activations and objects: a class variable by its class and its name, an outer name, and a variable of a class itself by the
-- class's number and the variable's place
pub data Variable : Type 0 where
  class_variable : List ℕ → List ℕ → Variable
  outer : List ℕ → Variable
  class_side : ℕ → ℕ → Variable

abbrev pub same_variable : Variable → Variable → Bool
same_variable (class_variable class name) (class_variable other word) = bytes_eq class other && bytes_eq name word
same_variable (outer name) (outer word) = bytes_eq name word
same_variable (class_side c i) (class_side d j) = c == d && i == j
same_variable _ _ = false

-- an outer name is a class, or one of two objects of the system, or else a variable that begins as nil
abbrev pub outer_value : Table → List ℕ → Option ℕ → Value
outer_value t name (Some c) = value.ClassRef c Instance
outer_value t name None =
    if bytes_eq name (codes "Smalltalk") then value.Smalltalk else (if bytes_eq name (codes "Transcript") then value.Transcript else value.Nil)

abbrev pub first_value : Table → Variable → Value
first_value t (outer name) = outer_value t name (number_of t.names name)
first_value t _ = value.Nil

-- ---- the world

-- The objects, what was written, the ticks so far, the methods that were activated, by number, and the variables.
pub record World : Type 0 where
  pub objects : Objects
  pub transcript : List ℕ
  pub ticks : ℕ
  pub keys : List Key
  pub variables : Variable → Value

abbrev pub first_world : Table → World
first_world t = record { objects = no_objects; transcript = []; ticks = 0; keys = []; variables = first_value t }

abbrev pub one_tick : World → World
one_tick w = record w { ticks = suc w.ticks }

abbrev pub with_objects : World → Objects → World
with_objects w objects = record w { objects = objects }

abbrev pub with_variable : World → Variable → Value → World
with_variable w v x = record w { variables = λ u. if same_variable u v then x else w.variables u }

-- a method has a number from its first activation on
abbrev pub numbered : World → Key → World
numbered w key = record w { keys = added_once (same_key key) key w.keys }

abbrev pub number_in : World → Key → ℕ
number_in w key = position_or_len (same_key key) w.keys

-- what a primitive reads and changes of it
abbrev pub reached : World → Reached
reached w = record { objects = w.objects; transcript = w.transcript }

abbrev pub changed : World → Reached → World
changed w r = record w { objects = r.objects; transcript = r.transcript }

-- ---- activations

-- whose activation: that of a method which keeps its temporaries itself; that of a method whose home is an object; that of a block, by its
-- object and by its home's
pub data Activation : Type 0 where
  own : List Value → Activation
  home : ℕ → Activation
  block : ℕ → ℕ → Activation

abbrev pub is_home_activation : ℕ → Activation → Bool
is_home_activation h (own temporaries) = false
is_home_activation h (home k) = h == k
is_home_activation h (block b k) = false

abbrev pub is_activation_of_block : ℕ → Activation → Bool
is_activation_of_block b (own temporaries) = false
is_activation_of_block b (home h) = false
is_activation_of_block b (block d h) = b == d

-- the home's object, where it is one
abbrev pub home_in : Activation → Option ℕ
home_in (own temporaries) = None
home_in (home h) = Some h
home_in (block b h) = Some h

-- ---- temporaries, and the variables of a receiver

abbrev pub ok_of : Result BodyTree ObjectFault → Option BodyTree
ok_of (Ok b) = Some b
ok_of (Err fault) = None

-- a field of an object set, or nothing
abbrev pub field_set : World → ℕ → ℕ → Value → Option World
field_set w n i x =
    option_map (λ b. with_objects w (with_body_at w.objects (value.Object n) b)) (ok_of (put_with (λ b. field_put b i x) w.objects (value.Object n)))

abbrev pub field_read : World → ℕ → ℕ → Option Value
field_read w n i = option_and_then (λ fields. slice_get fields i) (fields_at w.objects (value.Object n))

abbrev pub temporary : World → Activation → ℕ → Option Value
temporary w (own temporaries) i = slice_get temporaries i
temporary w (home h) i = field_read w h i
temporary w (block b h) i = field_read w h i

abbrev pub in_activation : Activation → World → World × Activation
in_activation activation w = (w, activation)

abbrev pub with_temporary : World → Activation → ℕ → Value → Option (World × Activation)
with_temporary w (own temporaries) i x = if nat_lt i (length temporaries) then Some (w, own (slice_set temporaries i x)) else None
with_temporary w (home h) i x = option_map (in_activation (home h)) (field_set w h i x)
with_temporary w (block b h) i x = option_map (in_activation (block b h)) (field_set w h i x)

-- a class's own variables are on the class side
abbrev pub receiver_variable : World → Value → ℕ → Option Value
receiver_variable w (value.Object n) i = field_read w n i
receiver_variable w (value.ClassRef c Instance) i = Some (w.variables (class_side c i))
receiver_variable w _ i = None

abbrev pub with_receiver_variable : World → Value → ℕ → Value → Option World
with_receiver_variable w (value.Object n) i x = field_set w n i x
with_receiver_variable w (value.ClassRef c Instance) i x = Some (with_variable w (class_side c i) x)
with_receiver_variable w _ i x = None

-- the variable that an entry of a literal frame names
abbrev pub variable_named : EntryTree → Option Variable
variable_named (entry.class_variable class name) = Some (class_variable class name)
variable_named (entry.outer name) = Some (outer name)
variable_named _ = None
