-- Operands that are in range and of the right kind.
use Rattle.std.specs.Prelude.{◌≡◌, ℕ, ◌+◌, ◌<◌, ◌⊎◌, List, length, slice_get, Some}
use Rattle.s80_base.specs.Literal.{LiteralTree, symbol}
use Rattle.s80_base.specs.declared.names.Side.{Side}
use Rattle.s80_code.specs.declared.code.Code.{Code}
use Rattle.s80_code.specs.declared.instruction.Storage.{Storage}
use Rattle.s80_code.specs.declared.instruction.Storage.TheVariants.{Receiver, Temporary, Constant, Variable}
use Rattle.s80_code.specs.declared.instruction.Instruction.{Instruction}
use Rattle.s80_code.specs.declared.instruction.Instruction.TheVariants.{Push, Store, PopInto, ReturnFromBlock, Send, SendSuper, SendSpecial}
use Rattle.s80_code.specs.Entries.{EntryTree, constant, class_variable, outer, owner, entries_of}
use Rattle.s80_code.specs.Special.{block_copy}
use Rattle.s80_verify.specs.declared.stack.Stack.{Stack}
use Rattle.s80_verify.specs.declared.stack.Stack.TheVariants.{OfBlock}
use Rattle.s80_verify.specs.Effect.{Jumps}
use Rattle.s80_verify.specs.Reach.{Begins, IsReached}
use Rattle.s80_lex.specs.Selector.{IsSelectorOf}

abbrev pub HasConstant : Code → ℕ → Type 0
HasConstant code number = (value : LiteralTree) × (slice_get (entries_of code.literals) number ≡ Some (constant value))

-- a class variable or an outer one
abbrev pub HasVariable : Code → ℕ → Type 0
HasVariable code number =
    ((class name : List ℕ) × (slice_get (entries_of code.literals) number ≡ Some (class_variable class name)))
    ⊎ ((name : List ℕ) × (slice_get (entries_of code.literals) number ≡ Some (outer name)))

-- what can be pushed; a variable of the receiver isn't judged
abbrev pub IsReadable : Code → Storage → Type 0
IsReadable code (Receiver number) = Unit {0}
IsReadable code (Temporary number) = number < code.temporaries
IsReadable code (Constant number) = HasConstant code number
IsReadable code (Variable number) = HasVariable code number

-- what can be stored into
abbrev pub IsWritable : Code → Storage → Type 0
IsWritable code (Receiver number) = Unit {0}
IsWritable code (Temporary number) = number < code.temporaries
IsWritable code (Constant number) = ⊥
IsWritable code (Variable number) = HasVariable code number

-- a symbol that is a selector with so many parameters
abbrev pub Sends : Code → ℕ → ℕ → Type 0
Sends code arguments number =
    (word : List ℕ) × (slice_get (entries_of code.literals) number ≡ Some (constant (symbol word))) × IsSelectorOf arguments word

-- the last entry is an owner
abbrev pub HasOwner : Code → Type 0
HasOwner code =
    (last : ℕ) × (class : List ℕ) × (side : Side) × (length (entries_of code.literals) ≡ last + 1)
    × (slice_get (entries_of code.literals) last ≡ Some (owner class side))

-- the rules of an instruction at a place, on this stack: 200 stands only in a block's beginning, and 125 is reached
-- only on a block's stack
abbrev pub Suits : Code → ℕ → Stack → Instruction → Type 0
Suits code at stack (Push storage) = IsReadable code storage
Suits code at stack (Store storage) = IsWritable code storage
Suits code at stack (PopInto storage) = IsWritable code storage
Suits code at stack (Send arguments selector) = Sends code arguments selector
Suits code at stack (SendSuper arguments selector) = Sends code arguments selector × HasOwner code
Suits code at stack (SendSpecial number) = number ≡ block_copy → (arguments start : ℕ) × Begins code at arguments start
Suits code at stack ReturnFromBlock = stack ≡ OfBlock
Suits code at stack _ = Unit {0}

-- a jump that lands between the four instructions of a reached block's beginning: on the push, the 200 or the jump
pub record LandsBetween (code : Code) (i : Instruction) (next : ℕ) : Type 0 where
  pub to : ℕ
  pub jumps : Jumps i next to
  pub at : ℕ
  pub arguments : ℕ
  pub start : ℕ
  pub begins : Begins code at arguments start
  pub reached : IsReached code at
  pub landed : (to ≡ begins.push) ⊎ ((to ≡ at) ⊎ (to ≡ begins.jump))
