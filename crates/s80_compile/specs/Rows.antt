-- The compiling table: which code stands for a core tree, each instruction in its shortest spelling (Blue Book, part four; Krasner).
use Rattle.std.specs.Prelude.{◌≡◌, ◌<◌, ℕ, zero, suc, ◌+◌, ℤ, pos, ◌+ℤ◌, List, Bool, true, false, slice_get, slice_range, Option, Some, None}
use Rattle.s80_base.specs.Literal.{LiteralTree, small, symbol}
use Rattle.s80_code.specs.declared.instruction.Storage.{Storage}
use Rattle.s80_code.specs.declared.instruction.Storage.TheVariants.{Receiver, Temporary, Constant, Variable}
use Rattle.s80_code.specs.declared.instruction.Instruction.{Instruction}
use Rattle.s80_code.specs.declared.instruction.Instruction.TheVariants.{Push, Store, PopInto, PushFixed, ReturnFixed, ReturnTop, ReturnFromBlock, Send, SendSuper, SendSpecial, Pop, Duplicate, PushContext, Jump, JumpOnTrue, JumpOnFalse}
use Rattle.s80_code.specs.Entries as frame
use Rattle.s80_code.specs.Entries.{EntryTree}
use Rattle.s80_code.specs.Special.{block_copy}
use Rattle.s80_code.specs.Table.{Stands}
use Rattle.s80_code.specs.Spelling.{Written, far}
use Rattle.s80_scope.specs.declared.fit.position.Position.{Position}
use Rattle.s80_scope.specs.declared.fit.position.Position.TheVariants.{Value, Effect}
use Rattle.s80_core.specs.Core.{VariableTree, temporary, instance, class_variable, outer, LeafTree, variable, constant, receiver, context, CoreTree, CoreTrees, SendTrees, leaf, assign, value, send, cascade, real_block, two_arms, one_arm, shortcut, repeat, nothing, before, answer, answer_fixed, leave, no_cores, cores, no_sends, sends, count}
use Rattle.s80_core.specs.Measures.{fixed_number, sent_number}

-- code that stands from one place to another
abbrev pub Part : Type 1
Part = ℕ → ℕ → Type 0

-- ---- what an instruction names

-- a storage is that of a variable
abbrev pub Holds : List EntryTree → VariableTree → Storage → Type 0
Holds entries (temporary number) s = s ≡ Temporary number
Holds entries (instance place) s = s ≡ Receiver place
Holds entries (class_variable owner word) s = (n : ℕ) × (s ≡ Variable n) × (slice_get entries n ≡ Some (frame.class_variable owner word))
Holds entries (outer word) s = (n : ℕ) × (s ≡ Variable n) × (slice_get entries n ≡ Some (frame.outer word))

-- the push of a constant: by its own instruction where it has one
abbrev pub PushesConstant : List EntryTree → LiteralTree → Option ℕ → Instruction → Type 0
PushesConstant entries v (Some number) i = i ≡ PushFixed number
PushesConstant entries v None i = (n : ℕ) × (i ≡ Push (Constant n)) × (slice_get entries n ≡ Some (frame.constant v))

abbrev pub Pushes : List EntryTree → LeafTree → Instruction → Type 0
Pushes entries (variable v) i = (s : Storage) × (i ≡ Push s) × Holds entries v s
Pushes entries (constant v) i = PushesConstant entries v (fixed_number v) i
Pushes entries receiver i = i ≡ PushFixed 0
Pushes entries context i = i ≡ PushContext

-- a store leaves the value that is wanted
abbrev pub stored : Position → Storage → Instruction
stored Value s = Store s
stored Effect s = PopInto s

abbrev pub Stores : List EntryTree → VariableTree → Position → Instruction → Type 0
Stores entries v position i = (s : Storage) × (i ≡ stored position s) × Holds entries v s

-- a send by the selector's number in the frame
abbrev pub send_of : Bool → ℕ → ℕ → Instruction
send_of true n number = SendSuper n number
send_of false n number = Send n number

-- a send with so many arguments: by its own instruction where it has one
abbrev pub SendsBy : List EntryTree → Bool → List ℕ → ℕ → Option ℕ → Instruction → Type 0
SendsBy entries to_super s n (Some number) i = i ≡ SendSpecial number
SendsBy entries to_super s n None i =
    (number : ℕ) × (i ≡ send_of to_super n number) × (slice_get entries number ≡ Some (frame.constant (symbol s)))

abbrev pub SendsTo : List EntryTree → Bool → List ℕ → ℕ → Instruction → Type 0
SendsTo entries to_super s n i = SendsBy entries to_super s n (sent_number to_super s) i

-- the jump that is taken where a value isn't the Boolean wanted
abbrev pub jump_unless : Bool → ℤ → Instruction
jump_unless true distance = JumpOnFalse distance
jump_unless false distance = JumpOnTrue distance

-- ---- rows

-- one instruction with this property
pub record One (bytes : List ℕ) (Is : Instruction → Type 0) (p q : ℕ) : Type 0 where
  pub instruction : Instruction
  pub is : Is instruction
  pub stands : Written bytes p instruction q

-- one part after another
pub record Both (First Second : Part) (p q : ℕ) : Type 0 where
  pub mid : ℕ
  pub first : First p mid
  pub second : Second mid q

-- the same place
abbrev pub Empty : Part
Empty p q = p ≡ q

-- after a value: nothing, or a pop
abbrev pub Ends : List ℕ → Position → Part
Ends bytes Value p q = p ≡ q
Ends bytes Effect p q = Written bytes p Pop q

-- nil, where a value is wanted
abbrev pub NilFor : List ℕ → Position → Part
NilFor bytes Value p q = Written bytes p (PushFixed 3) q
NilFor bytes Effect p q = p ≡ q

-- a jump of this kind to a place
pub record JumpsTo (bytes : List ℕ) (jump : ℤ → Instruction) (to p q : ℕ) : Type 0 where
  pub distance : ℤ
  pub stands : Written bytes p (jump distance) q
  pub lands : pos to ≡ pos q +ℤ distance

-- a jump ahead to a place by two bytes, however near that is
pub record JumpsOver (bytes : List ℕ) (to p q : ℕ) : Type 0 where
  pub distance : ℕ
  pub reach : distance < 1024
  pub stands : Stands bytes p (Jump (pos distance)) q
  pub here : slice_range bytes p q ≡ far 164 distance
  pub lands : to ≡ q + distance

-- two arms: the condition, a jump to the second, the first, a jump past the second, the second
pub record Chooses (bytes : List ℕ) (on : Bool) (Condition First Second : Part) (p q : ℕ) : Type 0 where
  pub test : ℕ
  pub first_at : ℕ
  pub over : ℕ
  pub second_at : ℕ
  pub condition : Condition p test
  pub unless : JumpsTo bytes (jump_unless on) second_at test first_at
  pub first : First first_at over
  pub past : JumpsTo bytes Jump q over second_at
  pub second : Second second_at q

-- one arm whose value isn't wanted: the condition, a jump past the arm, the arm
pub record Skips (bytes : List ℕ) (on : Bool) (Condition Arm : Part) (p q : ℕ) : Type 0 where
  pub test : ℕ
  pub arm_at : ℕ
  pub condition : Condition p test
  pub unless : JumpsTo bytes (jump_unless on) q test arm_at
  pub arm : Arm arm_at q

-- a loop: the condition, a jump to the end, the body, a jump back to the condition
pub record Loops (bytes : List ℕ) (on : Bool) (Condition Body : Part) (position : Position) (p q : ℕ) : Type 0 where
  pub test : ℕ
  pub body_at : ℕ
  pub over : ℕ
  pub done : ℕ
  pub condition : Condition p test
  pub unless : JumpsTo bytes (jump_unless on) done test body_at
  pub body : Body body_at over
  pub back : JumpsTo bytes Jump p over done
  pub leaves : NilFor bytes position done q

-- pops into the parameters, the last of them first
abbrev pub Takes : List ℕ → ℕ → ℕ → Part
Takes bytes first zero p q = p ≡ q
Takes bytes first (suc n) p q = Both (Takes bytes (suc first) n) (λ m r. Written bytes m (PopInto (Temporary first)) r) p q

-- a real block: the context, the number of parameters, 200, a jump of two bytes over the block, its parameters, and its
-- body, which ends itself
pub record Makes (bytes : List ℕ) (entries : List EntryTree) (first n : ℕ) (Body : Part) (position : Position) (p q : ℕ) : Type 0 where
  pub push : ℕ
  pub copy : ℕ
  pub jump : ℕ
  pub start : ℕ
  pub body_at : ℕ
  pub after : ℕ
  pub context : Written bytes p PushContext push
  pub parameters : One bytes (Pushes entries (constant (small (pos n)))) push copy
  pub copies : Written bytes copy (SendSpecial block_copy) jump
  pub over : JumpsOver bytes after jump start
  pub takes : Takes bytes first n start body_at
  pub body : Body body_at after
  pub ending : Ends bytes position after q

-- the value of `and:` and `or:` where the arm isn't taken: false, and true
abbrev pub shortcut_number : Bool → ℕ
shortcut_number true = 2
shortcut_number false = 1

-- ---- the table

module _ (bytes : List ℕ) (entries : List EntryTree) where
  abbrev mutual
    pub At : CoreTree → Position → ℕ → ℕ → Type 0
    At (leaf l) position p q = Both (One bytes (Pushes entries l)) (Ends bytes position) p q
    At (assign v e) position p q = Both (At e Value) (One bytes (Stores entries v position)) p q
    At (value e) position p q = Both (At e Value) (Ends bytes position) p q
    At (send r to_super s es) position p q =
        Both (At r Value) (Both (AllAt es) (Both (One bytes (SendsTo entries to_super s (count es))) (Ends bytes position))) p q
    At (cascade r to_super ms) position p q = Both (At r Value) (Both (SendsAt to_super ms) (Ends bytes position)) p q
    At (real_block first n e) position p q = Makes bytes entries first n (At e Effect) position p q
    At (two_arms on c a b) position p q = Chooses bytes on (At c Value) (At a position) (At b position) p q
    At (one_arm on c a) Value p q = Chooses bytes on (At c Value) (At a Value) (NilFor bytes Value) p q
    At (one_arm on c a) Effect p q = Skips bytes on (At c Value) (At a Effect) p q
    At (shortcut on c a) position p q =
        Both (Chooses bytes on (At c Value) (At a Value) (λ m r. Written bytes m (PushFixed (shortcut_number on)) r)) (Ends bytes position) p q
    At (repeat on c e) position p q = Loops bytes on (At c Value) (At e Effect) position p q
    At nothing position p q = NilFor bytes position p q
    At (before a b) position p q = Both (At a Effect) (At b position) p q
    At (answer e) position p q = Both (At e Value) (λ m r. Written bytes m ReturnTop r) p q
    At (answer_fixed n) position p q = Written bytes p (ReturnFixed n) q
    At (leave e) position p q = Both (At e Value) (λ m r. Written bytes m ReturnFromBlock r) p q

    -- arguments
    pub AllAt : CoreTrees → ℕ → ℕ → Type 0
    AllAt no_cores p q = p ≡ q
    AllAt (cores c cs) p q = Both (At c Value) (AllAt cs) p q

    -- messages to the receiver on top: each but the last to a duplicate, with its value popped
    pub SendsAt : Bool → SendTrees → ℕ → ℕ → Type 0
    SendsAt to_super no_sends p q = p ≡ q
    SendsAt to_super (sends s es no_sends) p q = Both (AllAt es) (One bytes (SendsTo entries to_super s (count es))) p q
    SendsAt to_super (sends s es ms) p q =
        Both (λ m r. Written bytes m Duplicate r)
        (Both (AllAt es) (Both (One bytes (SendsTo entries to_super s (count es))) (Both (λ m r. Written bytes m Pop r) (SendsAt to_super ms)))) p q
