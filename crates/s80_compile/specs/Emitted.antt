-- What emitting a part gives: its code, and what the frame gains.
use Rattle.std.specs.Prelude.{◌≡◌, ℕ, ◌+◌, ◌*◌, ◌<◌, ◌≤◌, pos, negsuc, List, [], ◌∷◌, ◌++◌, Bool, length, slice_get, Some}
use Rattle.std.specs.List.{Contains}
use Rattle.s80_code.specs.Entries.{EntryTree}
use Rattle.s80_code.specs.declared.instruction.Storage.{Storage}
use Rattle.s80_code.specs.declared.instruction.Instruction.{Instruction}
use Rattle.s80_code.specs.declared.instruction.Instruction.TheVariants.{Jump}
use Rattle.s80_code.specs.Spelling.{Written, far, IsSmall}
use Rattle.s80_scope.specs.declared.fit.position.Position.{Position}
use Rattle.s80_core.specs.Core.{VariableTree, LeafTree, variable, CoreTree, CoreTrees, SendTree, SendTrees, count}
use Rattle.std.specs.Option.{option_map_or}
use Rattle.s80_base.specs.Literal.{LiteralTree}
use Rattle.s80_core.specs.Measures.{fixed_number, popped, nil_width, variable_entries, selector_entries, InRange, entries, entries_all, entries_sends, size, size_all, size_sends, AreInRange, AllInRange, SendsInRange, HasFewArguments, AllHaveFewArguments, SendsHaveFewArguments}
use Rattle.s80_compile.specs.Rows.{At, AllAt, SendsAt, SendsTo, One, Both, Holds, Takes, Ends, NilFor, jump_unless}
use Rattle.s80_compile.specs.Compiles.{AreFirsts}

-- ---- instructions

-- the spelling of one instruction, of at most so many bytes, is added behind others
pub record Adds (instruction : Instruction) (most : ℕ) (old new : List ℕ) : Type 0 where
  pub part : List ℕ
  pub is : new ≡ old ++ part
  pub stands : Written part 0 instruction (length part)
  pub short : length part ≤ most

-- a jump ahead over so many bytes by two, however few they are
pub record AddsFar (distance : ℕ) (old new : List ℕ) : Type 0 where
  pub reach : distance < 1024
  pub is : new ≡ old ++ far 164 distance

-- and a jump back, by two bytes as each is
pub record AddsBack (distance : ℕ) (old new : List ℕ) : Type 0 where
  pub adds : Adds (Jump (negsuc distance)) 2 old new
  pub width : length adds.part ≡ 2

-- ---- entries of the frame

-- an entry has this number in the frame, to whose end it is added where it is missing
pub record Finds (entry : EntryTree) (old new : List EntryTree) (number : ℕ) : Type 0 where
  pub added : List EntryTree
  pub is : new ≡ old ++ added
  pub firsts : AreFirsts old (entry ∷ []) added
  pub here : slice_get new number ≡ Some entry
  pub low : number < 60

-- a frame of different entries has room for more
pub record HasRoom (frame wanted : List EntryTree) : Type 0 where
  pub allowed : List EntryTree
  pub few : length allowed ≤ 60
  -- of these the frame has each once
  pub before : List EntryTree
  pub once : AreFirsts [] before frame
  pub old : (y : EntryTree) → Contains before y → Contains allowed y
  pub new : (y : EntryTree) → Contains wanted y → Contains allowed y

-- ---- parts

-- code that stands between two places, over bytes and entries
abbrev pub Row : Type 1
Row = List ℕ → List EntryTree → ℕ → ℕ → Type 0

-- code of this form is added behind other code, and the entries that it wants to the frame
pub record Emitted (Is : Row) (wanted : List EntryTree) (most : ℕ) (frame new_frame : List EntryTree) (code new_code : List ℕ) : Type 0 where
  pub part : List ℕ
  pub added : List EntryTree
  pub is_code : new_code ≡ code ++ part
  pub is_frame : new_frame ≡ frame ++ added
  pub firsts : AreFirsts frame wanted added
  pub stands : Is part new_frame 0 (length part)
  pub short : length part ≤ most

abbrev pub CoreRow : CoreTree → Position → Row
CoreRow core position bytes entries p q = At bytes entries core position p q

abbrev pub CoresRow : CoreTrees → Row
CoresRow es bytes entries p q = AllAt bytes entries es p q

abbrev pub SendsRow : Bool → SendTrees → Row
SendsRow to_super ms bytes entries p q = SendsAt bytes entries to_super ms p q

-- a core tree's code
abbrev pub IsEmitted : CoreTree → Position → List EntryTree → List EntryTree → List ℕ → List ℕ → Type 0
IsEmitted core position = Emitted (CoreRow core position) (entries core) (size position core)

-- arguments
abbrev pub AreEmitted : CoreTrees → List EntryTree → List EntryTree → List ℕ → List ℕ → Type 0
AreEmitted es = Emitted (CoresRow es) (entries_all es) (size_all es)

-- messages to the receiver on top
abbrev pub AreSent : Bool → SendTrees → List EntryTree → List EntryTree → List ℕ → List ℕ → Type 0
AreSent to_super ms = Emitted (SendsRow to_super ms) (entries_sends to_super ms) (size_sends ms)

-- one instruction of this kind
abbrev pub OneRow : (List EntryTree → Instruction → Type 0) → Row
OneRow Is bytes entries p q = One bytes (Is entries) p q

-- the storage of a variable, whose name may be added to the frame
pub record HasStorage (v : VariableTree) (old new : List EntryTree) (s : Storage) : Type 0 where
  pub added : List EntryTree
  pub is : new ≡ old ++ added
  pub firsts : AreFirsts old (variable_entries v) added
  pub holds : Holds new v s
  pub small : IsSmall s

-- a pop where a value isn't wanted, or nothing
pub record AddsEnd (position : Position) (old new : List ℕ) : Type 0 where
  pub part : List ℕ
  pub is : new ≡ old ++ part
  pub stands : Ends part position 0 (length part)
  pub short : length part ≤ popped position

-- nil where a value is wanted, or nothing
pub record AddsNil (position : Position) (old new : List ℕ) : Type 0 where
  pub part : List ℕ
  pub is : new ≡ old ++ part
  pub stands : NilFor part position 0 (length part)
  pub short : length part ≤ nil_width position

-- pops into so many parameters from this one on
pub record AddsTakes (first n : ℕ) (old new : List ℕ) : Type 0 where
  pub part : List ℕ
  pub is : new ≡ old ++ part
  pub stands : Takes part first n 0 (length part)
  pub short : length part ≤ 2 * n

-- a jump to the second arm, the first, a jump past the second, and the second
pub record AddsChoice (on : Bool) (first second old new : List ℕ) : Type 0 where
  pub longer : List ℕ
  pub past : Adds (Jump (pos (length second))) 2 first longer
  pub mid : List ℕ
  pub unless : Adds (jump_unless on (pos (length longer))) 2 old mid
  pub is : new ≡ (mid ++ longer) ++ second

-- what one instruction pushes is in range
abbrev pub LeafInRange : ℕ → LeafTree → Type 0
LeafInRange t (variable v) = InRange t v
LeafInRange t _ = Unit {0}

-- what a core tree's code needs fits
pub record Fits (frame : List EntryTree) (core : CoreTree) (position : Position) : Type 0 where
  pub room : HasRoom frame (entries core)
  pub size : size position core ≤ 1023
  pub temporaries : ℕ
  pub low : temporaries ≤ 31
  pub range : AreInRange temporaries core
  pub few : HasFewArguments core

pub record AllFit (frame : List EntryTree) (es : CoreTrees) : Type 0 where
  pub room : HasRoom frame (entries_all es)
  pub size : size_all es ≤ 1023
  pub temporaries : ℕ
  pub low : temporaries ≤ 31
  pub range : AllInRange temporaries es
  pub few : AllHaveFewArguments es

pub record SendsFit (frame : List EntryTree) (to_super : Bool) (ms : SendTrees) : Type 0 where
  pub room : HasRoom frame (entries_sends to_super ms)
  pub size : size_sends ms ≤ 1023
  pub temporaries : ℕ
  pub low : temporaries ≤ 31
  pub range : SendsInRange temporaries ms
  pub few : SendsHaveFewArguments ms

-- a message: its arguments, and its send
abbrev pub MessageRow : Bool → SendTree → Row
MessageRow to_super m bytes entries p q = Both (AllAt bytes entries m.1) (One bytes (SendsTo entries to_super m.0 (count m.1))) p q

abbrev pub message_entries : Bool → SendTree → List EntryTree
message_entries to_super m = entries_all m.1 ++ selector_entries to_super m.0

abbrev pub IsMessageEmitted : Bool → SendTree → List EntryTree → List EntryTree → List ℕ → List ℕ → Type 0
IsMessageEmitted to_super m = Emitted (MessageRow to_super m) (message_entries to_super m) (size_all m.1 + 3)

pub record MessageFits (frame : List EntryTree) (to_super : Bool) (m : SendTree) : Type 0 where
  pub room : HasRoom frame (message_entries to_super m)
  pub size : size_all m.1 + 3 ≤ 1023
  pub temporaries : ℕ
  pub low : temporaries ≤ 31
  pub range : AllInRange temporaries m.1
  pub few : AllHaveFewArguments m.1
  pub count : count m.1 ≤ 31

-- all that is left goes on from here to all
pub record AllGoOn (all left : CoreTrees) (start frame : List EntryTree) (old code : List ℕ) : Type 0 where
  pub fits : AllFit frame left
  pub goes_on : (f : List EntryTree) (c : List ℕ) → AreEmitted left frame f code c → AreEmitted all start f old c

pub record SendsGoOn (to_super : Bool) (all left : SendTrees) (start frame : List EntryTree) (old code : List ℕ) : Type 0 where
  pub fits : SendsFit frame to_super left
  pub goes_on : (f : List EntryTree) (c : List ℕ) → AreSent to_super left frame f code c → AreSent to_super all start f old c

-- the condition of a loop, a jump to the end, the body and a jump back
pub record ClosesLoop (on : Bool) (body old new : List ℕ) : Type 0 where
  pub test : List ℕ
  pub unless : Adds (jump_unless on (pos (length body + 2))) 2 old test
  pub back : AddsBack (length (test ++ body) + 1) (test ++ body) new

-- the push of a constant takes one byte where it has an instruction of its own
abbrev pub constant_width : LiteralTree → ℕ
constant_width v = option_map_or (λ n. 1) (fixed_number v) 2
