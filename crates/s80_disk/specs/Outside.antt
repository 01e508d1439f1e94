-- What an outside in memory is made of.
use Rattle.std.specs.Prelude.{◌≡◌, ℕ, ◌+◌, List, Option, Some}
use Rattle.s80_base.specs.Memory.{bytes_of, puts_failed}
use Rattle.s80_base.specs.declared.memory.MemSink.{MemSink}
use Rattle.s80_base.specs.declared.memory.FixedClock.{FixedClock}
use Rattle.s80_disk.specs.Moments.{Beside}
use Rattle.s80_disk.specs.Memory.{told_by}
use Rattle.s80_disk.specs.declared.memory.MemDisk.{MemDisk}
use Rattle.s80_disk.specs.declared.memory_outside.MemOutside.{MemOutside}

module _ {S : Type 0} where
  abbrev pub disk_of : MemOutside S → MemDisk
  disk_of o = o.disk

  abbrev pub source_of : MemOutside S → S
  source_of o = o.source

  abbrev pub sink_of : MemOutside S → MemSink
  sink_of o = o.sink

  abbrev pub clock_of : MemOutside S → FixedClock
  clock_of o = o.clock

  -- how often a put was refused since the disk's record was full
  abbrev pub puts_refused : MemOutside S → ℕ
  puts_refused o = o.refused

  -- what it holds beside its files, by what its source has left and how often that failed
  abbrev pub all_beside : (S → Option (List ℕ)) → (S → ℕ) → MemOutside S → Beside
  all_beside left read_faults o = record {
    left = left o.source;
    taken = Some (bytes_of o.sink);
    told = told_by o.disk;
    read_faults = read_faults o.source;
    write_faults = puts_failed o.sink + o.refused;
    seconds = Some o.clock.seconds;
  }

  -- the parts but the disk stay
  pub record SameRest (old new : MemOutside S) : Type 0 where
    pub source : source_of new ≡ source_of old
    pub sink : sink_of new ≡ sink_of old
    pub clock : clock_of new ≡ clock_of old
    pub refused : puts_refused new ≡ puts_refused old
