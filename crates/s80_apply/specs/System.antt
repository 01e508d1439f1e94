-- A system at work: what a step does to it.
use Rattle.std.specs.Prelude.{◌≡◌, ◌⊎◌, Bool, true, false, ◌<◌, ◌≤◌, ◌-◌, ◌+◌, ◌++◌, ℕ, List, [], ◌∷◌, length, slice_get, slice_set, nat_eq, cond, Option, Some, None, Result, Ok, Err, IfOk, ⊤}
use Rattle.std.specs.FinMap as map
use Rattle.s80_base.specs.declared.names.Side.{Side}
use Rattle.s80_dict.specs.Dict.{Methods, HasRoom}
use Rattle.s80_dict.specs.Table.{MethodsValue, methods_at, room_at, put_at, taken_at, no_sides}
use Rattle.s80_change.specs.declared.change.Change.{Change}
use Rattle.s80_form.specs.declared.refusal.Refusal.{Refusal}
use Rattle.s80_form.specs.declared.refusal.Refusal.TheVariants.{NoSelector}
use Rattle.s80_form.specs.declared.refusal.Refused.{Refused}
use Rattle.s80_form.specs.declared.refusal.Refused.TheVariants as refused
use Rattle.s80_class.specs.declared.entry.ClassEntry.{ClassEntry}
use Rattle.s80_class.specs.Classes.{Name, ClassRow, Classes, IsValid, change_row, is_under, with_comment}
use Rattle.s80_class.specs.Table.{Table, IsNumberOf, IsSuperclass, IsAbove, row_of}
use Rattle.s80_apply.specs.declared.step.Placed.{Placed}
use Rattle.s80_apply.specs.declared.step.PlacedMethod.{PlacedMethod}
use Rattle.s80_apply.specs.declared.step.SourcePlace.{SourcePlace}
use Rattle.s80_apply.specs.declared.step.Step.{Step}
use Rattle.s80_apply.specs.declared.step.Step.TheVariants as steps
use Rattle.s80_apply.specs.State.{State, StateOf}
use Rattle.s80_apply.specs.Placed.{PlacedState, accept_placed}
use Rattle.s80_apply.specs.Seen.{AreSeen}
use Rattle.s80_apply.specs.Accept.{refusal_of_removal, unknown_name, accept}
use Rattle.s80_change.specs.Block.{block}
use Rattle.s80_apply.specs.Limits.{IsWithin}
use Rattle.s80_apply.specs.List.{AreOfList}
use Rattle.s80_apply.specs.Entries.{Entry, row_in, state_row}
use Rattle.s80_apply.specs.Codes.{AreCodes, HasCode, HasCodeAt}

-- the table of classes, and by their numbers the dictionaries
pub record SystemState : Type 0 where
  pub table : Table
  pub methods : MethodsValue Entry

-- ---- what it stands for

-- the system has the classes of this state, and by their numbers the methods, of whose entries so much is seen
pub record IsSystemBy {M : Type 0} (view : Entry → M) (system : SystemState) (state : StateOf M) : Type 0 where
  pub classes : system.table.classes ≡ state.classes
  pub methods : (number : ℕ) (name : Name) (side : Side) → IsNumberOf system.table.names number name → AreSeen view (methods_at system.methods number side) (state.methods name side)
  -- a name that no class has, has no methods
  pub others : (name : Name) (side : Side) → map.get state.classes name ≡ None → state.methods name side ≡ map.empty

-- it has the classes and methods of this state
abbrev pub IsSystemOf : SystemState → State → Type 0
IsSystemOf system state = IsSystemBy state_row system state

-- and the places of their sources
abbrev pub HasPlaces : SystemState → PlacedState → Type 0
HasPlaces system placed = IsSystemBy row_in system placed

-- the classes are those of a list, each with its line of superclasses, and within the limits; each has dictionaries, and each method has the code of its source
pub record IsSoundSystem (system : SystemState) : Type 0 where
  pub of_list : AreOfList system.table.classes
  pub valid : IsValid system.table.classes
  pub within : IsWithin system.table.classes
  pub dictionaries : length system.methods.sides ≡ length system.table.names
  pub codes : AreCodes system.table system.methods

-- the class of this name has this number alone, and by it dictionaries
pub record HasNumber (system : SystemState) (name : Name) (number : ℕ) : Type 0 where
  pub named : IsNumberOf system.table.names number name
  pub only : (c : ℕ) → IsNumberOf system.table.names c name → c ≡ number
  pub dictionaries : number < length system.methods.sides
  pub there : (row : ClassRow) × (map.get system.table.classes name ≡ Some row)

-- ---- an entry that is put

-- the entry may be put in place of that of a class, or as a new class, for which there is room
abbrev pub MayPut : Table → Option ℕ → ClassEntry → Type 0
MayPut table (Some number) entry = IsNumberOf table.names number entry.class_name × IsAbove table entry.superclass entry.class_name
MayPut table None entry = (0 < table.spare) × (map.get table.classes entry.class_name ≡ None) × IsSuperclass table.names entry.superclass

-- the classes with an entry
abbrev pub with_entry : Table → ClassEntry → Classes
with_entry table entry = map.insert table.classes entry.class_name (row_of table.names entry)

-- the table with an entry: the numbers of the other classes stay, and a new class takes room
abbrev pub put_at_number : Table → Option ℕ → ClassEntry → Table
put_at_number table (Some number) entry = record table { classes = with_entry table entry }
put_at_number table None entry = record { classes = with_entry table entry; names = table.names ++ Some entry.class_name ∷ []; spare = table.spare - 1 }

abbrev pub put : Table → Placed → Table
put table placed = put_at_number table placed.number placed.entry

-- a new class takes dictionaries without methods
abbrev pub HasDictionaryRoom : Option ℕ → MethodsValue Entry → Type 0
HasDictionaryRoom (Some number) methods = ⊤
HasDictionaryRoom None methods = 0 < methods.spare

abbrev pub with_dictionaries : Option ℕ → MethodsValue Entry → MethodsValue Entry
with_dictionaries (Some number) methods = methods
with_dictionaries None methods = record { sides = methods.sides ++ no_sides ∷ []; spare = methods.spare - 1 }

-- a method that is there, with its code for these classes
pub record IsRecompiled (system : SystemState) (classes : Classes) (p : PlacedMethod) : Type 0 where
  pub number : p.number < length system.methods.sides
  pub room : HasRoom (room_at system.methods p.number p.side) p.selector
  pub before : Entry
  pub there : map.get (methods_at system.methods p.number p.side) p.selector ≡ Some before
  pub row : row_in p.entry ≡ row_in before
  pub class : Name
  pub named : IsNumberOf system.table.names p.number class
  pub has_code : HasCode classes class p.side p.selector p.entry

-- these are the methods of the class of this name and of its descendants, each once
pub record AreRecompiled (system : SystemState) (classes : Classes) (name : Name) (methods : List PlacedMethod) : Type 0 where
  pub each : (k : ℕ) (p : PlacedMethod) → slice_get methods k ≡ Some p → IsRecompiled system classes p
  pub all : (number : ℕ) (class : Name) (side : Side) (selector : List ℕ) (entry : Entry) → IsNumberOf system.table.names number class → is_under classes class name ≡ true
      → map.get (methods_at system.methods number side) selector ≡ Some entry
      → (k : ℕ) × (p : PlacedMethod) × (slice_get methods k ≡ Some p) × (p.number ≡ number) × (p.side ≡ side) × (p.selector ≡ selector)
  pub apart : (j k : ℕ) (p q : PlacedMethod) → slice_get methods j ≡ Some p → slice_get methods k ≡ Some q
      → p.number ≡ q.number → p.side ≡ q.side → p.selector ≡ q.selector → j ≡ k

-- the methods of one side of a class, each once, with their code for the classes as they are, behind others
pub record Adds (system : SystemState) (number : ℕ) (side : Side) (before now : List PlacedMethod) : Type 0 where
  pub more : List PlacedMethod
  pub behind : now ≡ before ++ more
  pub each : (k : ℕ) (p : PlacedMethod) → slice_get more k ≡ Some p → IsRecompiled system system.table.classes p
  pub on : (k : ℕ) (p : PlacedMethod) → slice_get more k ≡ Some p → (p.number ≡ number) × (p.side ≡ side)
  pub all : (selector : List ℕ) (entry : Entry) → map.get (methods_at system.methods number side) selector ≡ Some entry
      → (k : ℕ) × (p : PlacedMethod) × (slice_get more k ≡ Some p) × (p.number ≡ number) × (p.side ≡ side) × (p.selector ≡ selector)
  pub apart : (j k : ℕ) (p q : PlacedMethod) → slice_get more j ≡ Some p → slice_get more k ≡ Some q → p.selector ≡ q.selector → j ≡ k

-- the entry may be put: then the classes are within the limits yet, and all methods whose classes it changes have their new code
pub record CanPut (system : SystemState) (placed : Placed) : Type 0 where
  pub may_put : MayPut system.table placed.number placed.entry
  pub within : IsWithin (with_entry system.table placed.entry)
  pub room : HasDictionaryRoom placed.number system.methods
  pub recompiled : AreRecompiled system (with_entry system.table placed.entry) placed.entry.class_name placed.recompiled.items

-- each of these methods has room
abbrev pub HaveRoom : List PlacedMethod → MethodsValue Entry → Type 0
HaveRoom ps methods = (k : ℕ) (p : PlacedMethod) → slice_get ps k ≡ Some p → (p.number < length methods.sides) × HasRoom (room_at methods p.number p.side) p.selector

-- dictionaries with these methods put, one after the other
abbrev pub put_all : List PlacedMethod → (ℕ → Side → Methods Entry) → ℕ → Side → Methods Entry
put_all [] dictionaries = dictionaries
put_all (p ∷ ps) dictionaries = put_all ps (put_at dictionaries p.number p.side p.selector p.entry)

-- this is the system with the entry, and with the methods that were compiled again
pub record HasClass (before : SystemState) (placed : Placed) (now : SystemState) : Type 0 where
  pub table : now.table ≡ put before.table placed
  pub methods : (n : ℕ) (s : Side) → methods_at now.methods n s ≡ put_all placed.recompiled.items (methods_at (with_dictionaries placed.number before.methods)) n s
  pub count : length now.methods.sides ≡ length (with_dictionaries placed.number before.methods).sides

-- what preparing an entry answers that makes these classes: the first reason to refuse it, or the entry
abbrev pub Places : Option Refusal → Classes → SystemState → Result Placed Refused → Type 0
Places refusal classes now (Ok placed) = (refusal ≡ None) × CanPut now placed × (with_entry now.table placed.entry ≡ classes)
Places refusal classes now (Err (refused.Refusal why)) = refusal ≡ Some why
Places refusal classes now (Err refused.Memory) = ⊤

-- ---- a method that is put

-- its class is there, its selector has room on that side, and its code is that of its source
pub record CanPutMethod (system : SystemState) (placed : PlacedMethod) : Type 0 where
  pub number : placed.number < length system.methods.sides
  pub room : HasRoom (room_at system.methods placed.number placed.side) placed.selector
  pub code : HasCodeAt system.table placed.number placed.side placed.selector placed.entry

-- a source stands behind the beginning of its block
abbrev pub moved : ℕ → Entry → Entry
moved at entry = record entry { position = at + entry.position }

-- this is the system with the method of a block that begins at this place: but for that all is as before
pub record HasMethod (before : SystemState) (placed : PlacedMethod) (at : ℕ) (now : SystemState) : Type 0 where
  pub table : now.table ≡ before.table
  pub methods : (n : ℕ) (s : Side) → methods_at now.methods n s ≡ put_at (methods_at before.methods) placed.number placed.side placed.selector (moved at placed.entry) n s
  pub count : length now.methods.sides ≡ length before.methods.sides

-- ---- what is taken away, or gets another category or comment

-- a method that is there, and so its selector has room
pub record HasMethodAt (system : SystemState) (number : ℕ) (side : Side) (selector : List ℕ) : Type 0 where
  pub within : number < length system.methods.sides
  pub room : HasRoom (room_at system.methods number side) selector
  pub entry : Entry
  pub there : map.get (methods_at system.methods number side) selector ≡ Some entry

-- this is the system without the method
pub record LosesMethod (before : SystemState) (number : ℕ) (side : Side) (selector : List ℕ) (now : SystemState) : Type 0 where
  pub table : now.table ≡ before.table
  pub methods : (n : ℕ) (s : Side) → methods_at now.methods n s ≡ taken_at (methods_at before.methods) number side selector n s
  pub count : length now.methods.sides ≡ length before.methods.sides

-- this is the system with the method under this category
pub record ClassifiesMethod (before : SystemState) (number : ℕ) (side : Side) (selector category : List ℕ) (now : SystemState) : Type 0 where
  pub table : now.table ≡ before.table
  pub methods : (entry : Entry) → map.get (methods_at before.methods number side) selector ≡ Some entry
      → (n : ℕ) (s : Side) → methods_at now.methods n s ≡ put_at (methods_at before.methods) number side selector (record entry { category = category }) n s
  pub count : length now.methods.sides ≡ length before.methods.sides

-- a method whose source stands at this place
abbrev pub at_place : SourcePlace → Entry → Entry
at_place place entry = record entry { from_kernel = place.from_kernel; position = place.position; length = place.length }

-- this is the system with the source of the method at this place
pub record HasSourceAt (before : SystemState) (number : ℕ) (side : Side) (selector : List ℕ) (place : SourcePlace) (now : SystemState) : Type 0 where
  pub table : now.table ≡ before.table
  pub methods : (entry : Entry) → map.get (methods_at before.methods number side) selector ≡ Some entry
      → (n : ℕ) (s : Side) → methods_at now.methods n s ≡ put_at (methods_at before.methods) number side selector (at_place place entry) n s
  pub count : length now.methods.sides ≡ length before.methods.sides

-- there is no class of this name, or it has no method of this selector on this side
abbrev pub LacksMethod : SystemState → Name → Side → List ℕ → Type 0
LacksMethod system name side selector =
    (map.get system.table.classes name ≡ None) ⊎ ((number : ℕ) × HasNumber system name number × (map.get (methods_at system.methods number side) selector ≡ None))

-- the method is there, and its source stands at this place now; or it isn't there, and nothing is changed
abbrev pub SetsSourcePlace : SystemState → Name → Side → List ℕ → SourcePlace → SystemState → Bool → Type 0
SetsSourcePlace before name side selector place now true =
    (number : ℕ) × HasNumber before name number × HasMethodAt before number side selector × HasSourceAt before number side selector place now
SetsSourcePlace before name side selector place now false = LacksMethod before name side selector × (now ≡ before)

-- a class that is there and may be removed
pub record CanTakeClass (system : SystemState) (number : ℕ) : Type 0 where
  pub class : Name
  pub number_is : HasNumber system class number
  pub removable : refusal_of_removal class system.table.classes ≡ None

-- this is the system without the class and its methods
pub record LosesClass (before : SystemState) (number : ℕ) (now : SystemState) : Type 0 where
  pub classes : (class : Name) → IsNumberOf before.table.names number class → now.table.classes ≡ map.remove before.table.classes class
  pub names : now.table.names ≡ slice_set before.table.names number None
  pub methods : (n : ℕ) (s : Side) → methods_at now.methods n s ≡ cond (nat_eq n number) map.empty (methods_at before.methods n s)
  pub count : length now.methods.sides ≡ length before.methods.sides

-- a class that is there
pub record HasClassAt (system : SystemState) (number : ℕ) : Type 0 where
  pub class : Name
  pub number_is : HasNumber system class number

-- this is the system with the comment
pub record HasComment (before : SystemState) (number : ℕ) (text : List ℕ) (now : SystemState) : Type 0 where
  pub classes : (class : Name) → IsNumberOf before.table.names number class → now.table.classes ≡ change_row (with_comment text) class before.table.classes
  pub names : now.table.names ≡ before.table.names
  pub methods : (n : ℕ) (s : Side) → methods_at now.methods n s ≡ methods_at before.methods n s
  pub count : length now.methods.sides ≡ length before.methods.sides

-- ---- a step

-- the step may be installed
abbrev pub IsReady : SystemState → Step → Type 0
IsReady system steps.Nothing = ⊤
IsReady system (steps.Class placed) = CanPut system placed × AreOfList (with_entry system.table placed.entry)
IsReady system (steps.Comment number text) = HasClassAt system number
IsReady system (steps.RemoveClass number) = CanTakeClass system number
IsReady system (steps.Method placed) = CanPutMethod system placed
IsReady system (steps.RemoveMethod number side selector) = HasMethodAt system number side selector
IsReady system (steps.Classify number side selector category) = HasMethodAt system number side selector

-- so many bytes of a block stand before what the step tells the place of
abbrev pub offset_of : Step → ℕ
offset_of (steps.Method placed) = placed.entry.position
offset_of _ = 0

-- this is the system after a step whose block begins at this place
abbrev pub IsInstalled : SystemState → Step → ℕ → SystemState → Type 0
IsInstalled before steps.Nothing at now = now ≡ before
IsInstalled before (steps.Class placed) at now = HasClass before placed now
IsInstalled before (steps.Comment number text) at now = HasComment before number text now
IsInstalled before (steps.RemoveClass number) at now = LosesClass before number now
IsInstalled before (steps.Method placed) at now = HasMethod before placed at now
IsInstalled before (steps.RemoveMethod number side selector) at now = LosesMethod before number side selector now
IsInstalled before (steps.Classify number side selector category) at now = ClassifiesMethod before number side selector category now

-- Whatever a step makes of the system, wherever its block begins, it is what accepting the change makes of the state.
abbrev pub Makes : SystemState → Step → Change → State → Type 0
Makes system step change state = (after : State) × (accept change state ≡ Ok after) × ((at : ℕ) (now : SystemState) → IsInstalled system step at now → IsSystemOf now after)

-- and its sources stand where those of the change do
abbrev pub MakesPlaces : SystemState → Step → Change → PlacedState → Type 0
MakesPlaces system step change placed =
    (at : ℕ) → (after : PlacedState) × (accept_placed change at placed ≡ Ok after) × ((now : SystemState) → IsInstalled system step at now → HasPlaces now after)

-- what preparing a change answers in this state: a step that makes what accepting it makes, or the first reason to refuse it
abbrev pub Prepares : State → Change → SystemState → Result Step Refused → Type 0
Prepares state change now (Ok step) = Makes now step change state
Prepares state change now (Err (refused.Refusal refusal)) = accept change state ≡ Err refusal
Prepares state change now (Err refused.Memory) = ⊤

-- the number of the class of this name; or there is none
abbrev pub FindsClass : SystemState → Name → Result ℕ Refused → Type 0
FindsClass system name (Ok number) = HasNumber system name number
FindsClass system name (Err (refused.Refusal refusal)) = unknown_name name system.table.classes ≡ Some refusal
FindsClass system name (Err refused.Memory) = ⊤

-- there is no method of this selector on that side of the class of this name, and so it is refused
abbrev pub HasNoMethod : SystemState → Name → Side → List ℕ → Refusal → Type 0
HasNoMethod system name side selector refusal =
    (unknown_name name system.table.classes ≡ Some refusal)
    ⊎ ((number : ℕ) × HasNumber system name number × (map.get (methods_at system.methods number side) selector ≡ None) × (refusal ≡ NoSelector name side selector))

-- the number of the class which has that method; or there is none
abbrev pub FindsMethod : SystemState → Name → Side → List ℕ → Result ℕ Refused → Type 0
FindsMethod system name side selector (Ok number) = HasNumber system name number × HasMethodAt system number side selector
FindsMethod system name side selector (Err (refused.Refusal refusal)) = HasNoMethod system name side selector refusal
FindsMethod system name side selector (Err refused.Memory) = ⊤

-- What preparing a change answers, and what the step is fit for; of the system before by what it stands for.
pub record IsPrepared (before : SystemState) (change : Change) (now : SystemState) (result : Result Step Refused) : Type 0 where
  pub answer : (state : State) → IsSystemOf before state → Prepares state change now result
  pub places : (placed : PlacedState) → HasPlaces before placed → IfOk result (λ step. MakesPlaces now step change placed)
  pub ready : IfOk result (λ step. IsReady now step × (offset_of step ≤ length (block change)))

-- Preparing makes room alone.
pub record Stays (before now : SystemState) : Type 0 where
  pub same : (state : State) → IsSystemOf before state → IsSystemOf now state
  pub same_places : (placed : PlacedState) → HasPlaces before placed → HasPlaces now placed
  pub names : now.table.names ≡ before.table.names
  pub classes : now.table.classes ≡ before.table.classes
