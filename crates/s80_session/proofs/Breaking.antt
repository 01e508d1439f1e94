-- How the work on an item breaks off, and what is counted then.
use Rattle.std.proofs.Common.{◌≡◌, inl, inr, sym, subst, Result, Ok, Err, arith}
use Rattle.std.specs.Prelude.{IfErr, OnOk}
use Rattle.s80_chunk.specs.declared.item.Item.TheVariants as items
use Rattle.s80_disk.specs.Shown.{Faults}
use Rattle.s80_model.specs.declared.item.Filed.TheVariants as contents
use Rattle.s80_model.specs.declared.item.Query.TheVariants as queries
use Rattle.s80_model.specs.declared.item.SessionItem.{SessionItem}
use Rattle.s80_model.specs.declared.item.SessionItem.TheVariants.{Chunk, Unended, Query}
use Rattle.s80_session.specs.declared.end.SessionEnd.{SessionEnd}
use Rattle.s80_session.specs.declared.end.SessionEnd.TheVariants as ends
use Rattle.s80_session.specs.declared.session.Session.{Session}
use Rattle.s80_session.specs.Ending.{Counts, CountsFor, IsFlushEnd, IsKeepEnd, IsWorkEnd, MeetsNoDamage, NoFewer, OnOkOrMemory, SourceCounts}
use Rattle.s80_session.specs.Session.{IsFaultless, IsResting}

-- by a fault of the keeping
pub keep_end_works : {T : Type 0} (r : Result T SessionEnd) → IfErr r IsKeepEnd → IfErr r IsWorkEnd
keep_end_works (Ok value) is = is
keep_end_works (Err ends.Memory) is = tt
keep_end_works (Err (ends.Disk failed)) is = tt
keep_end_works (Err (ends.Damaged damage)) is = tt
keep_end_works (Err (ends.Read failed)) is = absurd is
keep_end_works (Err (ends.Write failed)) is = absurd is
keep_end_works (Err ends.TooLong) is = absurd is

-- or by one of a flush
pub flush_end_works : (end : SessionEnd) → IsFlushEnd end → IsWorkEnd end
flush_end_works ends.Memory is = absurd is
flush_end_works (ends.Disk failed) is = tt
flush_end_works (ends.Write failed) is = tt
flush_end_works (ends.Read failed) is = absurd is
flush_end_works (ends.Damaged damage) is = absurd is
flush_end_works ends.TooLong is = absurd is

pub flush_end_calm : (T P : Type 0) (end : SessionEnd) → IsFlushEnd end → OnOkOrMemory {T = T} (Err end) P
flush_end_calm T P ends.Memory is = absurd is
flush_end_calm T P (ends.Disk failed) is = tt
flush_end_calm T P (ends.Write failed) is = tt
flush_end_calm T P (ends.Read failed) is = tt
flush_end_calm T P (ends.Damaged damage) is = tt
flush_end_calm T P ends.TooLong is = tt

pub flush_calm : (r : Result (Unit {0}) SessionEnd) (session : Session) → OnOk r (IsResting session) → IfErr r IsFlushEnd → OnOkOrMemory r (IsFaultless session)
flush_calm (Ok done) session resting is = resting.faultless
flush_calm (Err end) session resting is = flush_end_calm (Unit {0}) (IsFaultless session) end is

-- what meets no fault, behind what met none
pub done_on : {T U : Type 0} (item : SessionItem) (a m b : Faults) (value : T) (other : U) → m ≡ a → CountsFor {T = T} item m b (Ok value) → CountsFor {T = U} item a b (Ok other)
done_on {T} {U} item a m b value other same h =
    let P : Faults → Type 0 = λ f. CountsFor {T = U} item f b (Ok other) in
    subst P same (by_item item h)
  where
    by_item : (item : SessionItem) → CountsFor {T = T} item m b (Ok value) → CountsFor {T = U} item m b (Ok other)
    by_item (Chunk (items.Plain text)) (inl h) = inl (record { later = h.later; reason = h.reason })
    by_item (Chunk (items.Plain text)) (inr (asks, h)) = inr (asks, record { later = h.later; reason = h.reason })
    by_item (Chunk (items.Head text)) h = record { later = h.later; reason = h.reason }
    by_item (Chunk (items.Method text)) h = record { later = h.later; reason = h.reason }
    by_item (Chunk items.SectionEnd) h = record { later = h.later; reason = h.reason }
    by_item (Chunk (items.TooLong role length)) h = record { later = h.later; reason = h.reason }
    by_item Unended h = record { later = h.later; reason = h.reason }
    by_item (Query queries.Recover) h = record { later = h.later; reason = h.reason }
    by_item (Query queries.Classes) h = record { later = h.later; reason = h.reason }
    by_item (Query (queries.Browse name)) h = record { later = h.later; reason = h.reason }
    by_item (Query (queries.Source spec selector)) h = record { later = h.later; reason = h.reason }
    by_item (Query (queries.Versions spec selector)) h = record { later = h.later; reason = h.reason }
    by_item (Query queries.Changes) h = record { later = h.later; reason = h.reason }
    by_item (Query (queries.FileOut contents.All)) h = record { later = h.later; reason = h.reason }
    by_item (Query (queries.FileOut (contents.Class name))) h = record { later = h.later; reason = h.reason }
    by_item (Query (queries.FileOut contents.Set)) h = record { later = h.later; reason = h.reason }
    by_item (Query (queries.Senders selector)) h = record { later = h.later; reason = h.reason }
    by_item (Query (queries.Implementors selector)) h = record { later = h.later; reason = h.reason }
    by_item (Query (queries.References name)) h = record { later = h.later; reason = h.reason }
    by_item (Query queries.Undeclared) h = record { later = h.later; reason = h.reason }
    by_item (Query queries.Unimplemented) h = record { later = h.later; reason = h.reason }
    by_item (Query queries.Unsent) h = record { later = h.later; reason = h.reason }
    by_item (Query queries.Snapshot) h = record { later = h.later; reason = h.reason }
    by_item (Query queries.Condense) h = record { later = h.later; reason = h.reason }

-- the same where damage may be met
source_broke : (T U : Type 0) (a b : Faults) (end : SessionEnd) → SourceCounts {T = T} a b (Err end) → SourceCounts {T = U} a b (Err end)
source_broke T U a b ends.Memory h = record { later = h.later; reason = h.reason }
source_broke T U a b (ends.Read failed) h = record { later = h.later; reason = h.reason }
source_broke T U a b (ends.Write failed) h = record { later = h.later; reason = h.reason }
source_broke T U a b (ends.Disk failed) h = record { later = h.later; reason = h.reason }
source_broke T U a b (ends.Damaged damage) h = record { later = h.later; reason = h.reason }
source_broke T U a b ends.TooLong h = record { later = h.later; reason = h.reason }

-- and what breaks off
pub broke_on : (T U : Type 0) (item : SessionItem) (a m b : Faults) (end : SessionEnd) → m ≡ a → CountsFor {T = T} item m b (Err end) → CountsFor {T = U} item a b (Err end)
broke_on T U item a m b end same h =
    let P : Faults → Type 0 = λ f. CountsFor {T = U} item f b (Err end) in
    subst P same (by_item item h)
  where
    by_item : (item : SessionItem) → CountsFor {T = T} item m b (Err end) → CountsFor {T = U} item m b (Err end)
    by_item (Chunk (items.Plain text)) (inl h) = inl (record { later = h.later; reason = h.reason })
    by_item (Chunk (items.Plain text)) (inr (asks, h)) = inr (asks, source_broke T U m b end h)
    by_item (Chunk (items.Head text)) h = record { later = h.later; reason = h.reason }
    by_item (Chunk (items.Method text)) h = record { later = h.later; reason = h.reason }
    by_item (Chunk items.SectionEnd) h = record { later = h.later; reason = h.reason }
    by_item (Chunk (items.TooLong role length)) h = record { later = h.later; reason = h.reason }
    by_item Unended h = record { later = h.later; reason = h.reason }
    by_item (Query queries.Recover) h = record { later = h.later; reason = h.reason }
    by_item (Query queries.Classes) h = record { later = h.later; reason = h.reason }
    by_item (Query (queries.Browse name)) h = record { later = h.later; reason = h.reason }
    by_item (Query (queries.Source spec selector)) h = source_broke T U m b end h
    by_item (Query (queries.Versions spec selector)) h = source_broke T U m b end h
    by_item (Query queries.Changes) h = source_broke T U m b end h
    by_item (Query (queries.FileOut contents.All)) h = record { later = h.later; reason = h.reason }
    by_item (Query (queries.FileOut (contents.Class name))) h = record { later = h.later; reason = h.reason }
    by_item (Query (queries.FileOut contents.Set)) h = source_broke T U m b end h
    by_item (Query (queries.Senders selector)) h = record { later = h.later; reason = h.reason }
    by_item (Query (queries.Implementors selector)) h = record { later = h.later; reason = h.reason }
    by_item (Query (queries.References name)) h = record { later = h.later; reason = h.reason }
    by_item (Query queries.Undeclared) h = record { later = h.later; reason = h.reason }
    by_item (Query queries.Unimplemented) h = record { later = h.later; reason = h.reason }
    by_item (Query queries.Unsent) h = record { later = h.later; reason = h.reason }
    by_item (Query queries.Snapshot) h = record { later = h.later; reason = h.reason }
    by_item (Query queries.Condense) h = source_broke T U m b end h

pub err_counts : (T U : Type 0) (a b : Faults) (end : SessionEnd) → Counts {T = T} a b (Err end) → Counts {T = U} a b (Err end)
err_counts T U a b end h = record { later = h.later; reason = h.reason }

-- behind what met no fault
pub err_counts_on : (T U : Type 0) (a m b : Faults) (end : SessionEnd) → m ≡ a → Counts {T = T} m b (Err end) → Counts {T = U} a b (Err end)
err_counts_on T U a m b end same h = let P : Faults → Type 0 = λ f. Counts {T = U} f b (Err end) in subst P same (err_counts T U m b end h)

pub err_sources_on : (T U : Type 0) (a m b : Faults) (end : SessionEnd) → m ≡ a → SourceCounts {T = T} m b (Err end) → SourceCounts {T = U} a b (Err end)
err_sources_on T U a m b end same h = let P : Faults → Type 0 = λ f. SourceCounts {T = U} f b (Err end) in subst P same (source_broke T U m b end h)

pub no_fewer : (a b : Faults) → b ≡ a → NoFewer a b
no_fewer a b same = let P : Faults → Type 0 = λ f. NoFewer a f in subst P (sym same) (record { read = omega arith; write = omega arith; disk = omega arith })

pub done_counts : {T : Type 0} (a b : Faults) (value : T) → b ≡ a → Counts {T = T} a b (Ok value)
done_counts a b value same = record { later = no_fewer a b same; reason = same }

pub memory_counts : (T : Type 0) (a b : Faults) → b ≡ a → Counts {T = T} a b (Err ends.Memory)
memory_counts T a b same = record { later = no_fewer a b same; reason = same }

-- what holds anyway
pub calm_anyway : (T P : Type 0) (end : SessionEnd) → P → OnOkOrMemory {T = T} (Err end) P
calm_anyway T P ends.Memory h = h
calm_anyway T P (ends.Disk failed) h = tt
calm_anyway T P (ends.Write failed) h = tt
calm_anyway T P (ends.Read failed) h = tt
calm_anyway T P (ends.Damaged damage) h = tt
calm_anyway T P ends.TooLong h = tt

-- what is counted says that no damage is met
pub counts_whole : (T U : Type 0) (a b : Faults) (end : SessionEnd) → Counts {T = T} a b (Err end) → MeetsNoDamage {T = U} (Err end)
counts_whole T U a b ends.Memory h = tt
counts_whole T U a b (ends.Disk failed) h = tt
counts_whole T U a b (ends.Write failed) h = tt
counts_whole T U a b (ends.Read failed) h = tt
counts_whole T U a b (ends.Damaged damage) h = absurd h.reason
counts_whole T U a b ends.TooLong h = tt

pub counts_meet : {T : Type 0} (a b : Faults) (r : Result T SessionEnd) → Counts a b r → MeetsNoDamage r
counts_meet a b (Ok value) h = tt
counts_meet {T} a b (Err end) h = counts_whole T T a b end h

-- and that no call failed where memory is wanting
pub counts_memory : (T : Type 0) (item : SessionItem) (a b : Faults) → CountsFor {T = T} item a b (Err ends.Memory) → b ≡ a
counts_memory T (Chunk (items.Plain text)) a b (inl h) = h.reason
counts_memory T (Chunk (items.Plain text)) a b (inr (asks, h)) = h.reason
counts_memory T (Chunk (items.Head text)) a b h = h.reason
counts_memory T (Chunk (items.Method text)) a b h = h.reason
counts_memory T (Chunk items.SectionEnd) a b h = h.reason
counts_memory T (Chunk (items.TooLong role length)) a b h = h.reason
counts_memory T Unended a b h = h.reason
counts_memory T (Query queries.Recover) a b h = h.reason
counts_memory T (Query queries.Classes) a b h = h.reason
counts_memory T (Query (queries.Browse name)) a b h = h.reason
counts_memory T (Query (queries.Source spec selector)) a b h = h.reason
counts_memory T (Query (queries.Versions spec selector)) a b h = h.reason
counts_memory T (Query queries.Changes) a b h = h.reason
counts_memory T (Query (queries.FileOut contents.All)) a b h = h.reason
counts_memory T (Query (queries.FileOut (contents.Class name))) a b h = h.reason
counts_memory T (Query (queries.FileOut contents.Set)) a b h = h.reason
counts_memory T (Query (queries.Senders selector)) a b h = h.reason
counts_memory T (Query (queries.Implementors selector)) a b h = h.reason
counts_memory T (Query (queries.References name)) a b h = h.reason
counts_memory T (Query queries.Undeclared) a b h = h.reason
counts_memory T (Query queries.Unimplemented) a b h = h.reason
counts_memory T (Query queries.Unsent) a b h = h.reason
counts_memory T (Query queries.Snapshot) a b h = h.reason
counts_memory T (Query queries.Condense) a b h = h.reason

pub memory_only : (T U P : Type 0) (end : SessionEnd) → OnOkOrMemory {T = U} (Err end) P → OnOkOrMemory {T = T} (Err end) P
memory_only T U P ends.Memory h = h
memory_only T U P (ends.Disk failed) h = tt
memory_only T U P (ends.Write failed) h = tt
memory_only T U P (ends.Read failed) h = tt
memory_only T U P (ends.Damaged damage) h = tt
memory_only T U P ends.TooLong h = tt
