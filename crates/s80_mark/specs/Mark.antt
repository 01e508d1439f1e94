-- What a mark file stands for.
use Rattle.std.specs.Prelude.{ℕ, ◌+◌, ◌-◌, ◌%◌, ◌^◌, Bool, ◌&&◌, nat_le, nat_lt, ◌==◌, List, length, slice_index, slice_range, Option, Some, None, if◌then◌else◌}
use Rattle.std.specs.Int.{w64, from_be_bytes}
use Rattle.s80_mark.specs.declared.mark.MarkState.{MarkState}

-- eight bytes as a number, the highest first
abbrev pub word_at : List ℕ → ℕ → ℕ
word_at bytes at = from_be_bytes w64 (slice_range bytes at (at + 8))

-- the format of marks that have a count of the changes; older ones have format 0
abbrev pub format_two : ℕ
format_two = 2

-- the count of changes behind the format: a mark of the older format has none, whatever stands there
abbrev pub count_in : ℕ → List ℕ → ℕ
count_in format bytes = if format == 0 then 0 else word_at bytes 35

-- the mark that 43 bytes spell
abbrev pub mark_of : List ℕ → MarkState
mark_of bytes =
    record {
      sequence = word_at bytes 0;
      log = slice_index bytes 8;
      log_length = word_at bytes 9;
      image = slice_index bytes 17;
      image_length = word_at bytes 18;
      image_position = word_at bytes 26;
      format = slice_index bytes 34;
      count = count_in (slice_index bytes 34) bytes;
    }

-- whether the gate at a place is open: in a mark file of fewer than 128 bytes none is
abbrev pub is_open : List ℕ → ℕ → Bool
is_open file at = nat_le 128 (length file) && (slice_index file at == 0x21)

-- the mark behind the gate at a place
abbrev pub mark_behind : List ℕ → ℕ → MarkState
mark_behind file at = mark_of (slice_range file (at + 1) (at + 44))

-- the mark of the slot at a place, where its gate is open
abbrev pub open_mark : List ℕ → ℕ → Option MarkState
open_mark file at = if is_open file at then Some (mark_behind file at) else None

-- whether the second sequence is the later one: how far it is ahead, going round at 2^64, is above 0 and below 2^63
abbrev pub is_later : ℕ → ℕ → Bool
is_later first second = let ahead = (second + 2 ^ 64 - first % 2 ^ 64) % 2 ^ 64 in nat_lt 0 ahead && nat_lt ahead (2 ^ 63)

-- the mark of the open slot; of two open ones the later, and the first where neither is later
abbrev pub later_open : Option MarkState → Option MarkState → Option MarkState
later_open (Some first) (Some second) = if is_later first.sequence second.sequence then Some second else Some first
later_open (Some first) None = Some first
later_open None second = second

-- the valid mark of a mark file, whose slots stand at 0 and 64
abbrev pub valid_mark : List ℕ → Option MarkState
valid_mark file = later_open (open_mark file 0) (open_mark file 64)
