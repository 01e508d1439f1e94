-- The messages that have bytes of their own, 176 to 207.
use Rattle.std.specs.Prelude.{ℕ, ◌==◌, List, [], ◌∷◌, map, codes, Option, Some, None, option_and_then, if◌then◌else◌}
use Rattle.std.specs.List.{position_from}
use Rattle.std.specs.Str.{bytes_eq}
use Rattle.s80_code.specs.declared.special.SpecialMessage.{SpecialMessage as Held}

pub record SpecialMessage : Type 0 where
  pub selector : List ℕ
  pub arguments : ℕ

abbrev pub special : List ℕ → ℕ → SpecialMessage
special selector arguments = record { selector = selector; arguments = arguments }

-- the 32 messages, in the order of their bytes
abbrev pub special_messages : List SpecialMessage
special_messages =
    special (codes "+") 1
    ∷ special (codes "-") 1
    ∷ special (codes "<") 1
    ∷ special (codes ">") 1
    ∷ special (codes "<=") 1
    ∷ special (codes ">=") 1
    ∷ special (codes "=") 1
    ∷ special (codes "~=") 1
    ∷ special (codes "*") 1
    ∷ special (codes "/") 1
    ∷ special (codes "\\\\") 1
    ∷ special (codes "@") 1
    ∷ special (codes "bitShift:") 1
    ∷ special (codes "//") 1
    ∷ special (codes "bitAnd:") 1
    ∷ special (codes "bitOr:") 1
    ∷ special (codes "at:") 1
    ∷ special (codes "at:put:") 2
    ∷ special (codes "size") 0
    ∷ special (codes "next") 0
    ∷ special (codes "nextPut:") 1
    ∷ special (codes "atEnd") 0
    ∷ special (codes "==") 1
    ∷ special (codes "class") 0
    ∷ special (codes "blockCopy:") 1
    ∷ special (codes "value") 0
    ∷ special (codes "value:") 1
    ∷ special (codes "do:") 1
    ∷ special (codes "new") 0
    ∷ special (codes "new:") 1
    ∷ special (codes "x") 0
    ∷ special (codes "y") 0
    ∷ []

-- the table's columns
abbrev pub special_selectors : List (List ℕ)
special_selectors = map (λ (m : SpecialMessage). m.selector) special_messages

abbrev pub special_arguments : List ℕ
special_arguments = map (λ (m : SpecialMessage). m.arguments) special_messages

-- the number of `blockCopy:`, whose byte, 200, begins a real block
abbrev pub block_copy : ℕ
block_copy = 24

-- the number of the message with this selector
abbrev pub number_of : List ℕ → Option ℕ
number_of s = position_from (λ (m : SpecialMessage). bytes_eq m.selector s) 0 special_messages

abbrev pub unless_copy : ℕ → Option ℕ
unless_copy n = if n == block_copy then None else Some n

-- the number by which this selector is sent: none for `blockCopy:`, whose byte sends nothing that a method says
abbrev pub special_number : List ℕ → Option ℕ
special_number s = option_and_then unless_copy (number_of s)

-- a message as the code holds it
abbrev pub message_of : Held → SpecialMessage
message_of m = record { selector = m.selector.now; arguments = m.arguments }
