-- What the run of code and the evaluation of trees share beside the world: what is decided or answered at once, blocks, the depth of
-- activations, a message as an object, and the outcome.
use Rattle.std.specs.Prelude.{ℕ, pos, negsuc, ◌==◌, ◌||◌, List, [], ◌∷◌, Bool, codes, false, length, slice_get, get_or, Option, Some, None, option_and_then, if◌then◌else◌}
use Rattle.std.specs.Option.{option_map_or}
use Rattle.s80_class.specs.Lookup.{number}
use Rattle.s80_class.specs.Table.{Table}
use Rattle.s80_object.specs.Body.{BodyTree, block, pointers, words_of}
use Rattle.s80_object.specs.Objects.{State as Objects, text_of}
use Rattle.s80_object.specs.declared.value.Value.{Value}
use Rattle.s80_object.specs.declared.value.Value.TheVariants.{Small, Nil, True, False, Symbol, Object}
use Rattle.s80_prims.specs.Arithmetic.{arithmetic, truth}
use Rattle.s80_prims.specs.Classes.{class_of}
use Rattle.s80_prims.specs.Primitives.{same}
use Rattle.s80_prims.specs.declared.stop.End.{End}
use Rattle.s80_lex.specs.Selector.{is_binary, is_name, keywords_of}
use Rattle.s80_machine.specs.World.{World}
use Rattle.s80_prims.specs.declared.stop.Outcome.{Outcome}

abbrev pub depth_limit : ℕ
depth_limit = 10000

-- true and false decide, and nothing else does
abbrev pub decided : {A : Type 0} → Value → A → A → A → A
decided True on_true on_false neither = on_true
decided False on_true on_false neither = on_false
decided _ on_true on_false neither = neither

-- the receiver, true, false, nil, -1, 0, 1, 2
abbrev pub fixed : Value → List Value
fixed receiver = receiver ∷ True ∷ False ∷ Nil ∷ Small (negsuc 0) ∷ Small (pos 0) ∷ Small (pos 1) ∷ Small (pos 2) ∷ []

-- the integer primitives of + - < > <= >= = ~= * / \\ @ bitShift: // bitAnd: bitOr:, where @ has none
abbrev pub integer_primitives : List ℕ
integer_primitives = 1 ∷ 2 ∷ 3 ∷ 4 ∷ 5 ∷ 6 ∷ 7 ∷ 8 ∷ 9 ∷ 10 ∷ 11 ∷ 0 ∷ 17 ∷ 12 ∷ 14 ∷ 15 ∷ []

abbrev pub of_integers : ℕ → Value → Value → Option Value
of_integers n (Small a) (Small b) = arithmetic (get_or integer_primitives n 0) a b
of_integers n r a = None

-- == is 22 and class 23 of the special messages
abbrev pub at_once : Table → Objects → ℕ → Value → List Value → Option Value
at_once t s n r [] = if n == 23 then Some (class_of t s r) else None
at_once t s n r (a ∷ []) = if n == 22 then Some (truth (same r a)) else of_integers n r a
at_once t s n r _ = None

-- a block's object, its home, its start and how many arguments it takes
pub record Block : Type 0 where
  pub object : ℕ
  pub home : Value
  pub start : ℕ
  pub arguments : ℕ

abbrev pub block_in : ℕ → BodyTree → Option Block
block_in n (block whole start arguments) = Some (record { object = n; home = whole; start = start; arguments = arguments })
block_in n _ = None

abbrev pub block_at : Objects → Value → Option Block
block_at s (Object n) = option_and_then (block_in n) (slice_get s.bodies n)
block_at s _ = None

abbrev pub if_takes : ℕ → Block → Option Block
if_takes count b = if b.arguments == count then Some b else None

-- a block that takes so many
abbrev pub block_with : Objects → Value → ℕ → Option Block
block_with s r count = option_and_then (if_takes count) (block_at s r)

-- value is 25 and value: 26 of the special messages
abbrev pub is_value : ℕ → Bool
is_value n = n == 25 || n == 26

-- how many parameters a selector has
abbrev pub parameters : List ℕ → Option ℕ
parameters text = if is_name text then Some 0 else (if is_binary text then Some 1 else keywords_of text)

-- a selector of so many parameters
abbrev pub if_selector : ℕ → List ℕ → Option (List ℕ)
if_selector count text = if option_map_or (λ n. n == count) (parameters text) false then Some text else None

-- the selector of so many parameters that a symbol is
abbrev pub selector_of : Objects → Value → ℕ → Option (List ℕ)
selector_of s (Symbol n) count = option_and_then (if_selector count) (text_of s (Symbol n))
selector_of s _ count = None

-- the selector of the message that a primitive sends: it is the first argument, and takes the further ones
abbrev pub sent_in : Objects → List Value → Option (List ℕ)
sent_in s [] = None
sent_in s (a ∷ arguments) = selector_of s a (length arguments)

-- a message as an object, whose class has two variables: its selector, and an Array of its arguments
abbrev pub arguments_body : Table → List Value → BodyTree
arguments_body t arguments = pointers (number t (codes "Array")) [] arguments

abbrev pub message_body : Table → Value → Value → BodyTree
message_body t selector arguments = pointers (number t (codes "Message")) (selector ∷ arguments ∷ []) []

-- the message that a receiver is sent with a Message which it doesn't understand
abbrev pub does_not_understand : List ℕ
does_not_understand = codes "doesNotUnderstand:"

abbrev pub outcome_of : End → World → Outcome
outcome_of end w = record { end = end; transcript = w.transcript; ticks = w.ticks; words = words_of w.objects.bodies; objects = w.objects }
