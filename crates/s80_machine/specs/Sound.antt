-- What a run of verified code keeps: each activation stands at a place that its code comes to, with as many values as that place has, and
-- whatever is named is there.
use Rattle.std.specs.Prelude.{◌≡◌, ◌≢◌, ℕ, pos, ◌+◌, ◌<◌, List, [], ◌∷◌, true, false, length, slice_get, codes, Option, Some, None, IsSome, All}
use Rattle.std.specs.FinMap as map_of
use Rattle.s80_base.specs.Literal.{LiteralTree}
use Rattle.s80_base.specs.declared.names.Side.{Side}
use Rattle.s80_base.specs.declared.names.Side.TheVariants.{Instance, Class}
use Rattle.s80_kernel.specs.Rows.{is_kernel_class}
use Rattle.s80_class.specs.Classes.{Name, inherited_of, is_bits}
use Rattle.s80_class.specs.Known.{IsKnown as IsKnownTable}
use Rattle.s80_class.specs.Table.{Table, IsClass, class_name}
use Rattle.s80_code.specs.Entries.{constant, entries_of}
use Rattle.s80_code.specs.declared.code.Code.{Code}
use Rattle.s80_code.specs.declared.instruction.Instruction.{Instruction}
use Rattle.s80_code.specs.declared.instruction.Instruction.TheVariants.{Push, Store, PopInto}
use Rattle.s80_code.specs.declared.instruction.Storage.{Storage}
use Rattle.s80_code.specs.declared.instruction.Storage.TheVariants.{Receiver}
use Rattle.s80_dict.specs.Table.{MethodsValue, methods_at}
use Rattle.s80_dict.specs.declared.dict.MethodEntry.{MethodEntry}
use Rattle.s80_object.specs.Body.{BodyTree, pointers, bytes, words, home as home_body, block as block_body}
use Rattle.s80_object.specs.Literal.{is_object}
use Rattle.s80_object.specs.Objects.{Made}
use Rattle.s80_object.specs.declared.value.Value.{Value}
use Rattle.s80_object.specs.declared.value.Value.TheVariants.{Object, Small}
use Rattle.s80_prims.specs.Classes.{kind_of_class, variables_of}
use Rattle.s80_prims.specs.Kept.{HasNumbers}
use Rattle.s80_prims.specs.Known.{AreKnown, HasKernel, IsKnown}
use Rattle.s80_prims.specs.declared.stop.End.{End}
use Rattle.s80_prims.specs.declared.stop.End.TheVariants.{Answer, Stopped}
use Rattle.s80_verify.specs.declared.stack.Stack.{Stack}
use Rattle.s80_verify.specs.declared.stack.Stack.TheVariants.{OfHome, OfBlock}
use Rattle.s80_verify.specs.Fault.{RunsAt}
use Rattle.s80_verify.specs.Reach.{Begins, Reached}
use Rattle.s80_verify.specs.Record.{HasDepths}
use Rattle.s80_lex.specs.Selector.{IsSelectorOf}
use Rattle.s80_machine.specs.World.{World, Key, doit, method, Variable, Activation, own, home, block, receiver_variable}
use Rattle.s80_machine.specs.Turn.{Context, State, Turn, Goes, Ends, Stuck, holds_block}
use Rattle.s80_machine.specs.Step.{code_for}

-- ---- what a run is given

-- how many variables a class has on a side with all that it inherits
abbrev pub variables_on : Table → ℕ → Side → ℕ
variables_on t c Instance = (inherited_of t.classes (class_name t c)).inst_vars
variables_on t c Class = (inherited_of t.classes (class_name t c)).class_side_vars

-- the variable of the receiver that an instruction names
abbrev pub of_receiver : Storage → Option ℕ
of_receiver (Receiver i) = Some i
of_receiver _ = None

abbrev pub receiver_variable_in : Instruction → Option ℕ
receiver_variable_in (Push storage) = of_receiver storage
receiver_variable_in (Store storage) = of_receiver storage
receiver_variable_in (PopInto storage) = of_receiver storage
receiver_variable_in _ = None

-- verified code that names no more variables of the receiver than these
pub record Suits (variables : ℕ) (code : Code) : Type 0 where
  pub depths : HasDepths code
  pub named : (at i : ℕ) (run : RunsAt code at) → receiver_variable_in run.instruction ≡ Some i → i < variables

-- a method's code names variables of its class, and has as many arguments as its selector has parameters
pub record SuitsMethod (t : Table) (c : ℕ) (side : Side) (selector : List ℕ) (code : Code) : Type 0 where
  pub class : IsClass t.names c
  pub suits : Suits (variables_on t c side) code
  pub selector_is : IsSelectorOf code.arguments selector

-- The classes are those of a table, with a number each. The classes of the kernel are there; Message has two variables, and none of the others
-- any. No class of bytes or words has any. The code of each method is that of one of its class and selector, and the doIt's is that of a method without
-- arguments of a class without variables.
pub record IsSetting (t : Table) (methods : MethodsValue (MethodEntry Code)) (code : Code) : Type 0 where
  pub classes : IsKnownTable t
  pub kernel : HasKernel t
  pub numbers : HasNumbers t
  pub plain : (word : Name) → is_kernel_class word ≡ true → word ≢ codes "Message" → (inherited_of t.classes word).inst_vars ≡ 0
  pub message : (inherited_of t.classes (codes "Message")).inst_vars ≡ 2
  pub bits : (c : ℕ) → IsClass t.names c → is_bits (kind_of_class t c) ≡ true → variables_of t c ≡ 0
  pub methods_suit : (c : ℕ) (side : Side) (selector : List ℕ) (entry : MethodEntry Code)
      → map_of.get (methods_at methods c side) selector ≡ Some entry → SuitsMethod t c side selector entry.code
  pub doit_suits : Suits 0 code
  pub no_arguments : code.arguments ≡ 0
  pub no_primitive : code.primitive ≡ 0

-- ---- what it keeps

abbrev pub stack_kind : Activation → Stack
stack_kind (own temporaries) = OfHome
stack_kind (home h) = OfHome
stack_kind (block b h) = OfBlock

-- how many variables the methods of a key may name
abbrev pub variables_for : Table → Key → ℕ
variables_for t doit = 0
variables_for t (method c side selector) = variables_on t c side

-- this number is on top
abbrev pub HasCount : ℕ → List Value → Type 0
HasCount n (Small (pos m) ∷ stack) = m ≡ n
HasCount n _ = ⊥

-- no 200 of a block's beginning stands at a place
abbrev pub IsNoCopy : Code → ℕ → Type 0
IsNoCopy of at = (arguments start : ℕ) → Begins of at arguments start → ⊥

module _ (t : Table) (methods : MethodsValue (MethodEntry Code)) (code : Code) where
  -- a method that was activated, with its code
  pub record IsMethod (w : World) (m : ℕ) (r : Value) (of : Code) : Type 0 where
    pub key : Key
    pub key_is : slice_get w.keys m ≡ Some key
    pub code_is : code_for methods code key ≡ Some of
    pub suits : Suits (variables_for t key) of
    -- the receiver is known, and has the variables that the method may name
    pub known : IsKnown t w.objects r
    pub variables : (i : ℕ) → i < variables_for t key → IsSome (receiver_variable w r i)

  -- an object that is the home of a method
  pub record IsHomeOf (w : World) (h m : ℕ) (r : Value) (of : Code) : Type 0 where
    pub temporaries : List Value
    pub there : slice_get w.objects.bodies h ≡ Some (home_body m r temporaries)
    pub count : length temporaries ≡ of.temporaries

  -- where an activation has its temporaries
  abbrev pub IsActivationOf : World → Activation → ℕ → Value → Code → Type 0
  IsActivationOf w (own temporaries) m r of = (length temporaries ≡ of.temporaries) × (All (IsKnown t w.objects) temporaries × (holds_block of ≡ false))
  IsActivationOf w (home h) m r of = IsHomeOf w h m r of
  IsActivationOf w (block b h) m r of =
      IsHomeOf w h m r of × ((start : ℕ) × (count : ℕ) × (slice_get w.objects.bodies b ≡ Some (block_body (Object h) start count)))

  -- an activation that waits for so many values; at a 200 it waits for none, and the number that the push before it left is on top
  pub record IsSoundContext (w : World) (awaited : ℕ) (c : Context) : Type 0 where
    pub of : Code
    pub method : IsMethod w c.method c.receiver of
    pub activation : IsActivationOf w c.activation c.method c.receiver of
    pub reached : Reached of c.place (stack_kind c.activation) (length c.stack + awaited)
    pub counted : (arguments start : ℕ) → Begins of c.place arguments start → (awaited ≡ 0) × HasCount arguments c.stack
    pub values : All (IsKnown t w.objects) c.stack

  -- a block, whose home is the object of a method's home, begins where its code comes to
  pub record IsBlockOf (w : World) (whole : Value) (start count : ℕ) : Type 0 where
    pub home : ℕ
    pub number : ℕ
    pub receiver : Value
    pub of : Code
    pub whole_is : whole ≡ Object home
    pub method : IsMethod w number receiver of
    pub is_home : IsHomeOf w home number receiver of
    pub reached : Reached of start OfBlock count
    pub plain : IsNoCopy of start

  -- an object has as many fields as its class has variables, and a home as many temporaries as its method
  abbrev pub IsSoundBody : World → BodyTree → Type 0
  IsSoundBody w (pointers class fields items) = length fields ≡ variables_of t class
  IsSoundBody w (bytes class items) = variables_of t class ≡ 0
  IsSoundBody w (words class items) = variables_of t class ≡ 0
  IsSoundBody w (home_body m r temporaries) = (of : Code) × IsMethod w m r of × (length temporaries ≡ of.temporaries)
  IsSoundBody w (block_body whole start count) = IsBlockOf w whole start count

  -- a literal that was made: an object, of its entry in the code of its method
  pub record IsSoundLiteral (w : World) (made : Made) : Type 0 where
    pub known : IsKnown t w.objects made.value
    pub key : Key
    pub of : Code
    pub literal : LiteralTree
    pub key_is : slice_get w.keys made.method ≡ Some key
    pub code_is : code_for methods code key ≡ Some of
    pub entry_is : slice_get (entries_of of.literals) made.entry ≡ Some (constant literal)
    pub object : is_object literal ≡ true

  pub record IsSoundWorld (w : World) : Type 0 where
    pub known : AreKnown t w.objects
    pub bodies : (n : ℕ) (b : BodyTree) → slice_get w.objects.bodies n ≡ Some b → IsSoundBody w b
    pub literals : (i : ℕ) (made : Made) → slice_get w.objects.literals i ≡ Some made → IsSoundLiteral w made
    pub variables : (v : Variable) → IsKnown t w.objects (w.variables v)

  -- the active context waits for nothing, and each other for an answer
  abbrev pub AreSound : World → List Context → Type 0
  AreSound w [] = ⊥
  AreSound w (c ∷ rest) = IsSoundContext w 0 c × All (IsSoundContext w 1) rest

  pub record IsSound (s : State) : Type 0 where
    pub world : IsSoundWorld s.world
    pub contexts : AreSound s.world s.contexts

  -- an answer is known
  abbrev pub IsKnownEnd : World → End → Type 0
  IsKnownEnd w (Answer v) = IsKnown t w.objects v
  IsKnownEnd w (Stopped stop) = Unit {0}

  -- a step is never stuck, keeps this, and ends with a value that is known, among objects that are
  abbrev pub IsSoundTurn : Turn → Type 0
  IsSoundTurn (Goes s) = IsSound s
  IsSoundTurn (Ends end w) = IsKnownEnd w end × AreKnown t w.objects
  IsSoundTurn Stuck = ⊥
