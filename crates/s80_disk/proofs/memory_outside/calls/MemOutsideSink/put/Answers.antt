use Rattle.std.proofs.Common.{inr, refl}
use Rattle.s80_disk.proofs.memory_outside.calls.MemOutsideSink.put.Goals as goal

pub returns-clause-keeps : goal.returns-clause-keeps
returns-clause-keeps g c =
    let note = c.note_told.ensures in (
      record { first = note.uncounted.settings.first_files_same; current = note.current; faults = note.uncounted.failed; events = inr (_, note.events) },
      refl,
      refl,
      c.put.ensures.keeps,
    )
