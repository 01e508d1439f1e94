-- What trees and codes send and refer to.
use Rattle.std.specs.Prelude.{ℕ, zero, suc, ◌==◌, List, [], ◌∷◌, ◌++◌, drop, flat_map, length, slice_get, Option, Some, None, option_and_then, if◌then◌else◌}
use Rattle.std.specs.Option.{option_map_or}
use Rattle.s80_base.specs.Literal.{symbol}
use Rattle.s80_code.specs.declared.code.Code.{Code}
use Rattle.s80_code.specs.declared.instruction.Instruction.{Instruction}
use Rattle.s80_code.specs.declared.instruction.Instruction.TheVariants.{Send, SendSuper, SendSpecial}
use Rattle.s80_code.specs.Entries.{EntryTree, constant, entries_of, outer}
use Rattle.s80_code.specs.Special.{block_copy, special_selectors}
use Rattle.s80_code.specs.Table.{decoded}
use Rattle.s80_core.specs.Core.{CoreTree, CoreTrees, SendTrees, leaf, assign, value, send, cascade, real_block, two_arms, one_arm, shortcut, repeat, nothing, before, answer, answer_fixed, leave, no_cores, cores, no_sends, sends}

-- ---- trees

-- the selectors of the messages of a tree, to super and in cascades too; those that are inlined are no messages of it any more
abbrev mutual
  pub messages : CoreTree → List (List ℕ)
  messages (leaf l) = []
  messages (assign v e) = messages e
  messages (value e) = messages e
  messages (send r to_super s es) = messages r ++ (messages_all es ++ s ∷ [])
  messages (cascade r to_super ms) = messages r ++ messages_sent ms
  messages (real_block first n e) = messages e
  messages (two_arms on c a b) = messages c ++ (messages a ++ messages b)
  messages (one_arm on c a) = messages c ++ messages a
  messages (shortcut on c a) = messages c ++ messages a
  messages (repeat on c e) = messages c ++ messages e
  messages nothing = []
  messages (before a b) = messages a ++ messages b
  messages (answer e) = messages e
  messages (answer_fixed n) = []
  messages (leave e) = messages e

  pub messages_all : CoreTrees → List (List ℕ)
  messages_all no_cores = []
  messages_all (cores c cs) = messages c ++ messages_all cs

  pub messages_sent : SendTrees → List (List ℕ)
  messages_sent no_sends = []
  messages_sent (sends s es ms) = messages_all es ++ s ∷ messages_sent ms

-- ---- codes

abbrev pub symbol_in : EntryTree → Option (List ℕ)
symbol_in (constant (symbol word)) = Some word
symbol_in _ = None

-- the selector that an instruction sends; 200 begins a real block, and sends nothing
abbrev pub sent_by : List EntryTree → Instruction → Option (List ℕ)
sent_by entries (Send n k) = option_and_then symbol_in (slice_get entries k)
sent_by entries (SendSuper n k) = option_and_then symbol_in (slice_get entries k)
sent_by entries (SendSpecial n) = if n == block_copy then None else slice_get special_selectors n
sent_by entries _ = None

abbrev pub some : {X : Type 0} → Option X → List X
some o = option_map_or (λ x. x ∷ []) o []

-- the instructions of a code, one behind another, from these bytes on
abbrev pub instructions : ℕ → List ℕ → List Instruction
instructions zero bytes = []
instructions (suc count) bytes = option_map_or (λ p. p.0 ∷ instructions count (drop p.1 bytes)) (decoded bytes) []

-- the selectors that a code sends, in the order of its instructions
abbrev pub sent_in : Code → List (List ℕ)
sent_in code = flat_map (λ i. some (sent_by (entries_of code.literals) i)) (instructions (length code.bytes) code.bytes)

abbrev pub outer_in : EntryTree → Option (List ℕ)
outer_in (outer name) = Some name
outer_in _ = None

-- the outer names that a code reads or assigns, in the order of its frame
abbrev pub outers_in : Code → List (List ℕ)
outers_in code = flat_map (λ e. some (outer_in e)) (entries_of code.literals)
