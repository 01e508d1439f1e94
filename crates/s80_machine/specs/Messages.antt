-- What messages rest on, and the parts of what they come to.
use Rattle.std.specs.Prelude.{◌≡◌, ℕ, ◌≤◌, List, ◌∷◌, length, codes, map, slice_get, All, Option, Some, None, Result, Ok, Err}
use Rattle.s80_base.specs.declared.names.Side.TheVariants.{Instance}
use Rattle.s80_class.specs.Table.{Table}
use Rattle.s80_code.specs.declared.code.Code.{Code}
use Rattle.s80_dict.specs.declared.dict.MethodEntry.{MethodEntry}
use Rattle.s80_object.specs.Objects.{State as Objects}
use Rattle.s80_object.specs.declared.value.Value.{Value}
use Rattle.s80_prims.specs.Classes.{class_of}
use Rattle.s80_prims.specs.Known.{AreKnown, IsKnown}
use Rattle.s80_machine.specs.declared.machine.Machine.{Machine}
use Rattle.s80_machine.specs.World.{World, Key, doit, method}
use Rattle.s80_machine.specs.Turn.{Context, Turn}
use Rattle.s80_class.specs.Lookup.{Found, Place, first_found, number, places_from}
use Rattle.s80_machine.specs.declared.setting.Line.{Line}
use Rattle.s80_machine.specs.Shared.{does_not_understand}
use Rattle.s80_machine.specs.Step.{activated, by_primitive, code_for, found_turn, message_made, method_turn, not_understood, performed, places_of, sent_on}
use Rattle.s80_machine.specs.Seen.{Given, FoundCode}
use Rattle.s80_machine.specs.Came.{Came, ShowsWorld}
use Rattle.s80_machine.specs.declared.halt.Halt.{Halt}
use Rattle.s80_machine.specs.Sites.{IsLiteralOf}

-- the receiver and the arguments of a message are known, and so is all that objects hold
pub record IsKnownMessage (t : Table) (s : Objects) (r : Value) (vs : List Value) : Type 0 where
  pub objects : AreKnown t s
  pub receiver : IsKnown t s r
  pub arguments : All (IsKnown t s) vs

-- the receiver of the active context is known
abbrev pub ReceiverIsKnown : Table → Machine → Type 0
ReceiverIsKnown t m = (c : Context) (rest : List Context) → m.contexts ≡ c ∷ rest → IsKnown t m.objects c.receiver

-- the active context runs this code
abbrev pub TopRuns : Given → Code → Machine → Type 0
TopRuns on code m =
    (c : Context) (rest : List Context) → m.contexts ≡ c ∷ rest
    → (key : Key) × ((slice_get (map (λ x. x.key) m.methods) c.method ≡ Some key) × (code_for on.methods on.code key ≡ Some code))

-- this literal of its code has this selector
abbrev pub TopSends : Given → ℕ → List ℕ → Machine → Type 0
TopSends on k selector m =
    (c : Context) (rest : List Context) → m.contexts ≡ c ∷ rest → IsLiteralOf on (map (λ x. x.key) m.methods) c.method k selector

-- what was found is a method without a primitive
abbrev pub IsPlain : Option FoundCode → Option FoundCode → Type 0
IsPlain found (Some plain) = (found ≡ Some plain) × (plain.entry.now.code.primitive ≡ 0)
IsPlain found None = Unit {0}

-- this is a method's code, which has room for these arguments
pub record Takes (on : Given) (key : Key) (code : Code) (arguments : List Value) : Type 0 where
  pub code_is : code_for on.methods on.code key ≡ Some code
  pub few : length arguments ≤ code.temporaries

-- where a method stands; a doIt is one of nil's class
abbrev pub own_place : Table → Key → Place
own_place t doit = (number t (codes "UndefinedObject"), Instance)
own_place t (method c side selector) = (c, side)

-- ---- of what is given

abbrev pub places_in : Given → Objects → Value → List Place
places_in on s r = places_of on.table on.methods on.code on.budget (class_of on.table s r)

abbrev pub finds : Given → List ℕ → List Place → Option (Found (MethodEntry Code))
finds on selector places = first_found on.methods selector places

-- the method that is found, which may send a message by its primitive
abbrev pub runs : Given → (World → Option Turn) → List Place → List ℕ → Value → List Value → List Context → World → Turn
runs on sent places selector = found_turn on.table on.methods on.code on.budget (finds on selector places) (finds on does_not_understand places) sent selector

abbrev pub performs : Given → Value → List Value → List Context → World → Option Turn
performs on = performed on.table on.methods on.code on.budget

-- a message that isn't understood along these places
abbrev pub sends_on : Given → List Place → List ℕ → Value → List Value → List Context → World → Turn
sends_on on places = sent_on on.table on.methods on.code on.budget (finds on does_not_understand places)

-- a method that sends no message by its primitive
abbrev pub runs_method : Given → Key → Code → Value → List Value → List Context → World → Turn
runs_method on = method_turn on.table on.methods on.code on.budget None

abbrev pub activates : Given → Key → Code → Value → List Value → List Context → World → Turn
activates on = activated on.table on.methods on.code on.budget

-- the primitive, or where it fails the body
abbrev pub runs_primitive : Given → Key → Code → Value → List Value → List Context → World → Turn
runs_primitive on key code r arguments below w =
    by_primitive on.table on.methods on.code on.budget code.primitive r arguments (activates on key code r arguments below w) below w

abbrev pub refuses : Given → Value → List ℕ → World → Turn
refuses on = not_understood on.table on.methods on.code on.budget

-- a message as an object
abbrev pub makes_message : Given → List ℕ → List Value → World → (Value → World → Turn) → Turn
makes_message on = message_made on.table on.methods on.code on.budget

-- the place of a look-up's beginning has these behind it
abbrev pub along : Given → Line → List Place
along on line = places_from on.table line.class line.side

-- the machine goes on with a Message in its world, or the run ends where it is made
abbrev pub MakesMessage : Given → List ℕ → List Value → World → Machine → Machine → Result Value Halt → Type 0
MakesMessage on selector arguments w old new (Ok m) =
    (new.contexts ≡ old.contexts)
    × ((w1 : World) × (ShowsWorld on new w1) × ((go : Value → World → Turn) → makes_message on selector arguments w go ≡ go m w1))
MakesMessage on selector arguments w old new (Err h) = (go : Value → World → Turn) → Came on (makes_message on selector arguments w go) new (Err h)
