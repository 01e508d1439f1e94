-- What the machine's parts are seen as, and what their calls promise.
use Rattle.std.specs.Prelude.{◌≡◌, ℕ, Bool, zero, suc, ◌+◌, ◌*◌, ◌<◌, ◌≤◌, ◌^◌, ◌==◌, List, [], ◌∷◌, ◌++◌, length, nat_lt, slice_get, slice_set, take, drop, map, find, All, Vec, Option, Some, None, Result, Ok, Err, option_and_then, unwrap_or, if◌then◌else◌}
use Rattle.std.specs.Int.{w32, to_be_bytes, from_be_bytes}
use Rattle.std.specs.List.{position_or_len}
use Rattle.std.specs.Option.{option_map}
use Rattle.std.specs.Str.{bytes_eq}
use Rattle.s80_base.specs.declared.names.Side.{Side}
use Rattle.s80_base.specs.declared.names.Side.TheVariants.{Instance, Class}
use Rattle.s80_class.specs.declared.found.Found.{Found as FoundEntry}
use Rattle.s80_class.specs.Lookup.{Place}
use Rattle.s80_class.specs.Table.{Table}
use Rattle.s80_code.specs.declared.code.Code.{Code}
use Rattle.s80_code.specs.declared.instruction.Instruction.{Instruction}
use Rattle.s80_code.specs.Table.{decoded}
use Rattle.s80_dict.specs.Table.{MethodsValue}
use Rattle.s80_dict.specs.declared.dict.MethodEntry.{MethodEntry}
use Rattle.s80_object.specs.Literal.{added_once}
use Rattle.s80_object.specs.declared.value.Value.{Value}
use Rattle.s80_prims.specs.declared.stop.End.{End}
use Rattle.s80_prims.specs.declared.stop.End.TheVariants.{Stopped}
use Rattle.s80_prims.specs.declared.stop.Stop.TheVariants.{CannotReturn}
use Rattle.s80_machine.specs.declared.context.Activation.{Activation as Kept}
use Rattle.s80_machine.specs.declared.context.Activation.TheVariants as kept
use Rattle.s80_machine.specs.declared.halt.Halt.{Halt}
use Rattle.s80_machine.specs.declared.halt.Halt.TheVariants as halt
use Rattle.s80_machine.specs.declared.methods.Activated.{Activated}
use Rattle.s80_machine.specs.declared.variables.Variables.{Variables}
use Rattle.s80_machine.specs.declared.activations.Block.{Block as KeptBlock}
use Rattle.s80_machine.specs.World.{Key, doit, method, same_key, Variable, class_variable, outer, class_side, same_variable, first_value, Activation, own, home, block}
use Rattle.s80_machine.specs.Turn.{Context, is_home, holds_block}
use Rattle.s80_machine.specs.Shared.{Block}

abbrev pub activation_of : Kept → Activation
activation_of (kept.Own temporaries) = own temporaries.items
activation_of (kept.Home h) = home h
activation_of (kept.Block b h) = block b h

-- ---- a change of the active context, which is there and has what is wanted, with an answer

module _ {A B : Type 0} (seen : B → A) where
  abbrev pub DoesOne : Option (Context × A) → List Context → List Context → Result B Halt → Type 0
  DoesOne None rest new result = result ≡ Err halt.Stuck
  DoesOne (Some p) rest new (Ok b) = (seen b ≡ p.1) × (new ≡ p.0 ∷ rest)
  DoesOne (Some p) rest new (Err fault) = fault ≡ halt.Memory

  abbrev pub Does : (Context → Option (Context × A)) → List Context → List Context → Result B Halt → Type 0
  Does change [] new result = result ≡ Err halt.Stuck
  Does change (c ∷ rest) new result = DoesOne (change c) rest new result

  -- the same of one context
  abbrev pub DoesIn : Option (Context × A) → Context → Result B Halt → Type 0
  DoesIn None new result = result ≡ Err halt.Stuck
  DoesIn (Some p) new (Ok b) = (seen b ≡ p.1) × (new ≡ p.0)
  DoesIn (Some p) new (Err fault) = fault ≡ halt.Memory

-- ---- changes of a context

abbrev pub with_stack : Context → List Value → Context
with_stack c stack = record c { stack = stack }

abbrev pub pushed : Value → Context → Option (Context × Unit {0})
pushed v c = Some (with_stack c (v ∷ c.stack), tt)

abbrev pub popped_from : Context → List Value → Option (Context × Value)
popped_from c [] = None
popped_from c (v ∷ stack) = Some (with_stack c stack, v)

abbrev pub popped : Context → Option (Context × Value)
popped c = popped_from c c.stack

abbrev pub topped_in : Context → List Value → Option (Context × Value)
topped_in c [] = None
topped_in c (v ∷ stack) = Some (c, v)

abbrev pub topped : Context → Option (Context × Value)
topped c = topped_in c c.stack

-- a receiver below so many arguments, of which the last is on top
abbrev pub message_in : ℕ → List Value → List Value → Option (List Value × (Value × List Value))
message_in zero arguments [] = None
message_in zero arguments (r ∷ stack) = Some (stack, (r, arguments))
message_in (suc n) arguments [] = None
message_in (suc n) arguments (v ∷ stack) = message_in n (v ∷ arguments) stack

abbrev pub message_taken : ℕ → Context → Option (Context × (Value × List Value))
message_taken count c = option_map (λ p. (with_stack c p.0, p.1)) (message_in count [] c.stack)

abbrev pub moved : ℕ → Context → Option (Context × Unit {0})
moved place c = Some (record c { place = place }, tt)

abbrev pub own_set : Context → Activation → ℕ → Value → Option (Context × Unit {0})
own_set c (own temporaries) i v = if nat_lt i (length temporaries) then Some (record c { activation = own (slice_set temporaries i v) }, tt) else None
own_set c (home h) i v = None
own_set c (block b h) i v = None

abbrev pub temporary_set : ℕ → Value → Context → Option (Context × Unit {0})
temporary_set i v c = own_set c c.activation i v

-- one of the temporaries that an activation keeps has another value
abbrev pub IsOwnSet : List Value → ℕ → Value → List Value → Result (Unit {0}) Halt → Type 0
IsOwnSet old i v new (Ok done) = (i < length old) × (new ≡ slice_set old i v)
IsOwnSet old i v new (Err fault) = (length old ≤ i) × (fault ≡ halt.Stuck)

abbrev pub IsTemporarySet : Activation → ℕ → Value → Activation → Result (Unit {0}) Halt → Type 0
IsTemporarySet (own old) i v (own new) result = IsOwnSet old i v new result
IsTemporarySet (own old) i v _ result = ⊥
IsTemporarySet (home h) i v new result = result ≡ Err halt.Stuck
IsTemporarySet (block b h) i v new result = result ≡ Err halt.Stuck

-- ---- ends of runs

-- a run has ended so; how it ended is kept outside, which allocates
abbrev pub EndsRun : End → Halt → Type 0
EndsRun end halt.Memory = Unit {0}
EndsRun end (halt.Ended told) = told ≡ end
EndsRun end halt.Stuck = ⊥

-- ---- ends of activations

-- the active context is ended
abbrev pub IsEnded : List Context → List Context → Result (Unit {0}) Halt → Type 0
IsEnded [] new result = result ≡ Err halt.Stuck
IsEnded (c ∷ rest) new result = (result ≡ Ok tt) × (new ≡ rest)

-- those below the activation that has this home
abbrev pub below_home : ℕ → List Context → Option (List Context)
below_home h [] = None
below_home h (c ∷ rest) = if is_home h c then Some rest else below_home h rest

abbrev pub IsUnwound : Option (List Context) → List Context → List Context → Result (Unit {0}) Halt → Type 0
IsUnwound (Some rest) old new result = (result ≡ Ok tt) × (new ≡ rest)
IsUnwound None old new (Ok done) = ⊥
IsUnwound None old new (Err h) = EndsRun (Stopped CannotReturn) h × (new ≡ old)

-- ---- what a run is given

-- a method that was found
abbrev pub FoundCode : Type 0
FoundCode = FoundEntry Code

-- what a run is given
pub record Given : Type 0 where
  pub table : Table
  pub methods : MethodsValue (MethodEntry Code)
  pub code : Code
  pub budget : ℕ

-- ---- methods that were activated

pub record Method : Type 0 where
  pub key : Key
  pub code : Code

-- a doIt has no class
abbrev pub place_in : Key → Option Place
place_in doit = None
place_in (method c side selector) = Some (c, side)

abbrev pub side_byte : Side → ℕ
side_byte Instance = 0
side_byte Class = 1

-- one to one
abbrev pub key_bytes : Key → List ℕ
key_bytes doit = []
key_bytes (method c side selector) = side_byte side ∷ (to_be_bytes w32 c ++ selector)

abbrev pub side_of_byte : ℕ → Side
side_of_byte zero = Instance
side_of_byte (suc n) = Class

abbrev pub key_in : List ℕ → Key
key_in [] = doit
key_in (b ∷ bytes) = method (from_be_bytes w32 (take 4 bytes)) (side_of_byte b) (drop 4 bytes)

abbrev pub methods_of : List (List ℕ) → List Activated → List Method
methods_of [] rest = []
methods_of (k ∷ ks) [] = []
methods_of (k ∷ ks) (a ∷ rest) = record { key = key_in k; code = a.code.now } ∷ methods_of ks rest

-- a method is kept as what it is
pub record IsKept (key : Key) (a : Activated) : Type 0 where
  pub place : a.place ≡ place_in key
  pub holds : a.holds_block ≡ holds_block a.code.now

pub record AreActivated (keys : List (List ℕ)) (activated : List Activated) : Type 0 where
  pub count : length activated ≡ length keys
  pub few : length keys ≤ 2 ^ 32
  pub bytes : All (λ k. key_bytes (key_in k) ≡ k) keys
  pub kept : (i : ℕ) (k : List ℕ) (a : Activated) → slice_get keys i ≡ Some k → slice_get activated i ≡ Some a → IsKept (key_in k) a

-- what stands at each place of a code
abbrev pub listing : List ℕ → List (Option (Instruction × ℕ))
listing [] = []
listing (b ∷ more) = decoded (b ∷ more) ∷ listing more

-- each method has the listing of its code
abbrev pub AreListed : List Activated → List (List (Option (Instruction × ℕ))) → Type 0
AreListed activated listings = listings ≡ map (λ a. listing a.code.now.bytes) activated

-- the method of this number
abbrev pub IsActivated : Option Method → Activated → Type 0
IsActivated None a = ⊥
IsActivated (Some m) a = (a.code.now ≡ m.code) × IsKept m.key a

abbrev pub is_method : Key → Method → Bool
is_method key m = same_key key m.key

-- the number of a method, which has its number from then on
pub record Numbers (key : Key) (code : Code) (old new : List Method) (number : ℕ) : Type 0 where
  pub is : number ≡ position_or_len (is_method key) old
  pub added : new ≡ added_once (is_method key) (record { key = key; code = code }) old

-- ---- variables that were assigned

abbrev pub held_by_name : {V : Type 0} {Z : Type 0} → List (Vec ℕ Z × V) → List ℕ → Option V
held_by_name entries name = option_map (λ e. e.1) (find (λ e. bytes_eq name e.0.items) entries)

abbrev pub held_by_number : List (ℕ × Value) → ℕ → Option Value
held_by_number entries n = option_map (λ e. e.1) (find (λ e. n == e.0) entries)

-- one name has another value, and the others have theirs
abbrev pub IsNamed : {V : Type 0} {Z : Type 0} → List (Vec ℕ Z × V) → List ℕ → V → List (Vec ℕ Z × V) → Type 0
IsNamed old name x new = (u : List ℕ) → held_by_name new u ≡ (if bytes_eq u name then Some x else held_by_name old u)

-- the value of a variable that was assigned
abbrev pub value_in : Variables → Variable → Option Value
value_in vs (class_variable class name) = option_and_then (λ named. held_by_name named.entries name) (held_by_name vs.of_classes.entries class)
value_in vs (outer name) = held_by_name vs.outer.entries name
value_in vs (class_side c i) = if nat_lt i 256 then held_by_number vs.of_class_sides.entries (c * 256 + i) else None

-- one variable has another value, and the others have theirs
abbrev pub IsSet : Variables → Variable → Value → Variables → Type 0
IsSet old v x new = (u : Variable) → value_in new u ≡ (if same_variable u v then Some x else value_in old u)

abbrev pub value_of : Table → Variables → Variable → Value
value_of t vs v = unwrap_or (value_in vs v) (first_value t v)

-- ---- blocks

abbrev pub IsBlock : Option Block → Option KeptBlock → Type 0
IsBlock None None = Unit {0}
IsBlock (Some b) (Some k) = (k.object ≡ b.object) × ((k.home ≡ b.home) × (k.start ≡ b.start))
IsBlock _ _ = ⊥

-- how many arguments it takes is known by those that are there
abbrev pub block_of : KeptBlock → ℕ → Block
block_of k count = record { object = k.object; home = k.home; start = k.start; arguments = count }
