-- What the objects in memory hold, and which of their calls fail.
use Rattle.std.specs.Prelude.{◌≡◌, ℕ, ◌+◌, ◌-◌, ◌^◌, ◌<◌, ◌⊎◌, min, List, Contains, length, drop, replicate}
use Rattle.s80_base.specs.declared.memory.MemSink.{MemSink}
use Rattle.s80_base.specs.declared.memory.MemSource.{MemSource}
use Rattle.s80_base.specs.declared.memory.RepeatSource.{RepeatSource}

-- the number of the next call, which stands still at the end of its type
abbrev pub next_call : ℕ → ℕ
next_call calls = min (calls + 1) (2 ^ 64 - 1)

-- the numbers of the calls of a source in memory that fail, how many bytes a call gives at most, how many calls it had, and how many failed
abbrev pub failing_takes : MemSource → List ℕ
failing_takes source = source.failing.items

abbrev pub piece_of : MemSource → ℕ
piece_of source = source.piece

abbrev pub takes_made : MemSource → ℕ
takes_made source = source.calls

abbrev pub takes_failed : MemSource → ℕ
takes_failed source = source.faults

-- what a source in memory has left
abbrev pub left_in_memory : MemSource → List ℕ
left_in_memory source = drop source.place source.bytes.items

-- its next call is one of those that fail
abbrev pub FailsNext : MemSource → Type 0
FailsNext source = Contains (failing_takes source) (next_call (takes_made source))

-- the same plan and the same piece
pub record SameTakes (old new : MemSource) : Type 0 where
  pub plan_same : failing_takes new ≡ failing_takes old
  pub piece_same : piece_of new ≡ piece_of old

-- the byte of a source of one byte again and again
abbrev pub byte_of : RepeatSource → ℕ
byte_of source = source.byte

-- what a source of one byte again and again has left
abbrev pub repeated : RepeatSource → List ℕ
repeated source = replicate source.left source.byte

-- the bytes that a sink in memory took
abbrev pub bytes_of : MemSink → List ℕ
bytes_of sink = sink.bytes.items

-- the numbers of the calls of a sink in memory that fail, how many it had, how many failed, and how many bytes it takes in all
abbrev pub failing_puts : MemSink → List ℕ
failing_puts sink = sink.failing.items

abbrev pub puts_made : MemSink → ℕ
puts_made sink = sink.calls

abbrev pub puts_failed : MemSink → ℕ
puts_failed sink = sink.faults

abbrev pub room_of : MemSink → ℕ
room_of sink = sink.room

-- the same plan and the same room
pub record SamePuts (old new : MemSink) : Type 0 where
  pub plan_same : failing_puts new ≡ failing_puts old
  pub room_same : room_of new ≡ room_of old

-- its next call is one of those that fail, or the piece passes its room
abbrev pub RefusesNext : MemSink → List ℕ → Type 0
RefusesNext sink piece = Contains (failing_puts sink) (next_call (puts_made sink)) ⊎ (room_of sink - length (bytes_of sink) < length piece)
