-- What a keeper that is made beside the one at work has written, whatever a crash may leave.
use Rattle.std.proofs.Common.{◌≡◌, ◌≢◌, ℕ, ◌+◌, min, Bool, true, false, IsTrue, List, [], ◌∷◌, ◌++◌, length, take, drop, Ok, Err, Result, sym, ap, ◌∙◌, subst, arith, length-append, length-take, if◌then◌else◌}
use Rattle.std.specs.Prelude.{⊤}
use Rattle.std.proofs.lemmas.List.Elements.{All-nil, All-push}
use Rattle.std.proofs.Math.Seq.{take-add}
use Rattle.s80_change.specs.declared.change.Change.{Change}
use Rattle.s80_change.specs.Block.{block, blocks, IsLawful, IsList}
use Rattle.s80_disk.specs.declared.disk.FileId.{FileId}
use Rattle.s80_disk.specs.declared.disk.FileId.TheVariants.{Mark, Log0, Log1}
use Rattle.s80_disk.specs.Image.{Image, Wrote}
use Rattle.s80_mark.specs.declared.mark.MarkState.{MarkState}
use Rattle.s80_apply.proofs.lemmas.Lists.{blocks_more}
use Rattle.s80_log.specs.Log.{LogEnd, held_in, log_file}
use Rattle.s80_keeper.specs.declared.keep.KeepFault.{KeepFault}
use Rattle.s80_keeper.specs.declared.keep.KeepFault.TheVariants as faults
use Rattle.s80_keeper.specs.Condensing.{IfReplaced, IsMeasured}
use Rattle.s80_keeper.specs.Keeper.{KeeperState}
use Rattle.s80_keeper.specs.Renewing.{ByAnswer, HasMade, HasWritten, MayFollow, grown}
use Rattle.s80_keeper.specs.Source.{IsThis}
use Rattle.s80_keeper.proofs.Renewed.{answered_so, failed_so}

-- ---- a block behind those that are there

pub wrote_more : (at : ℕ) (done : List Change) (change : Change) (piece old new : List ℕ) → Wrote at piece old new → take at old ≡ blocks done → at ≡ length (blocks done) → piece ≡ block change → take (at + length piece) new ≡ blocks (done ++ change ∷ [])
wrote_more at done change piece old new wrote held whole is =
    let there : min at (length old) ≡ at = sym (length-take at old) ∙ ap length held ∙ sym whole in
    let front : take at new ≡ take at old = rw there at wrote.before in
    take-add at (length piece) new ∙ ap (λ l. l ++ take (length piece) (drop at new)) front ∙ ap (λ l. take at old ++ l) wrote.here ∙ ap (λ l. l ++ piece) held ∙ ap (λ l. blocks done ++ l) is ∙ sym (blocks_more done change)

-- the list with a change that may follow
pub list_with : (done : List Change) (change : Change) → IsList done → MayFollow done change → IsList (done ++ change ∷ [])
list_with done change list may = record {
  lawful = All-push IsLawful done change list.lawful may.lawful;
  within = rw (blocks_more done change, length-append) may.within;
}

-- the keeper beside, after its block was written and its change was taken in
pub written_more : {T : Type 0} (tells old_tells : Bool) (reads old_reads : Image) (before mid now : KeeperState) (done : List Change) (change : Change) (piece : List ℕ) (result : Result T KeepFault) → HasWritten old_tells old_reads before done → MayFollow done change → piece ≡ block change → mid.log.end ≡ before.log.end + length piece → now ≡ record (grown mid now) { log = mid.log } → (IsTrue tells → held_in reads mid.log ≡ blocks (done ++ change ∷ [])) → ByAnswer result (λ value. HasMade now (done ++ change ∷ [])) ⊤ ⊥ → ByAnswer result (λ value. HasWritten tells reads now (done ++ change ∷ [])) ⊤ ⊤
written_more tells old_tells reads old_reads before mid now done change piece result written may is end taken held =
    let all = done ++ change ∷ [] in
    let log : now.log ≡ mid.log = ap (λ (k : KeeperState). k.log) taken in
    let Held : LogEnd → Type 0 = λ l. IsTrue tells → held_in reads l ≡ blocks all in
    let size : length (blocks all) ≡ length (blocks done) + length (block change) = ap length (blocks_more done change) ∙ length-append (blocks done) (block change) in
    answered_so result (λ value. HasMade now all) (λ value. HasWritten tells reads now all) ⊤ ⊥ ⊤ ⊤
    (λ value made. record {
      made = made;
      list = list_with done change written.list may;
      whole = ap (λ (l : LogEnd). l.end) log ∙ omega (arith, end, written.whole, ap length is, size);
      bytes = subst Held (sym log) held;
    })
    (λ any. any) (λ none. absurd none)

-- ---- a log alone

log_or_log : (b : Bool) → (if b then Log0 else Log1) ≡ Mark → ⊥
log_or_log true e = cc
log_or_log false e = cc

-- a log isn't the mark's file
pub log_is_no_mark : (number : ℕ) → log_file number ≢ Mark
log_is_no_mark number = log_or_log _

-- the emptied log of a keeper that has made nothing yet
pub written_none : (tells : Bool) (reads : Image) (keeper : KeeperState) → HasMade keeper [] → keeper.log.end ≡ 0 → HasWritten tells reads keeper []
written_none tells reads keeper made end = record {
  made = made;
  list = record { lawful = All-nil IsLawful; within = omega arith };
  whole = end;
  bytes = λ told. ap (λ n. take n (reads (log_file keeper.log.number))) end;
}

-- what was written stays when only the mark is
pub written_alone : (tells old_tells : Bool) (reads old_reads : Image) (keeper : KeeperState) (all : List Change) (log : LogEnd) (mark : MarkState) → tells ≡ old_tells → ((other : FileId) → other ≢ Mark → reads other ≡ old_reads other) → log ≡ keeper.log → HasWritten old_tells old_reads keeper all → HasWritten tells reads (record keeper { log = log; mark = mark }) all
written_alone tells old_tells reads old_reads keeper all log mark telling same here written =
    let made = written.made in
    let file = log_file keeper.log.number in
    let Held : LogEnd → Type 0 = λ l. held_in reads l ≡ blocks all in
    record {
      made = record { built = made.built; system = made.system; places = made.places; history = made.history; count = made.count };
      list = written.list;
      whole = ap (λ (l : LogEnd). l.end) here ∙ written.whole;
      bytes = λ told. subst Held (sym here) (ap (λ bytes. take keeper.log.end bytes) (same file (log_is_no_mark keeper.log.number)) ∙ written.bytes (subst IsTrue telling told));
    }

-- ---- what is answered

-- the same fault of another call, of which nothing is said but which it is
pub unwritten : (T U : Type 0) (fault : KeepFault) (done : T → Type 0) (made : U → Type 0) → ByAnswer {T = T} (Err fault) done ⊤ ⊤ → ByAnswer {T = U} (Err fault) made ⊤ ⊤
unwritten T U fault done made = failed_so T U fault done made ⊤ ⊤ ⊤ ⊤ (λ any. any) (λ any. any)

-- the new list isn't made
pub unread_replaced : (T U : Type 0) (fault : KeepFault) (wanted : T) (P : Type 0) → IsThis {T = T} wanted (Err fault) → IfReplaced {T = U} (Err fault) P
unread_replaced T U faults.Memory wanted P read = tt
unread_replaced T U (faults.Disk failed) wanted P read = tt
unread_replaced T U (faults.Closed failed) wanted P read = tt
unread_replaced T U (faults.Full count) wanted P read = tt
unread_replaced T U (faults.Damaged damage) wanted P read = absurd read

-- it is too long, or isn't measured
pub unfit_replaced : (fault : KeepFault) (short : List Change) (P : Type 0) → IsMeasured {T = Unit {0}} short (Err fault) → IfReplaced {T = Unit {0}} (Err fault) P
unfit_replaced faults.Memory short P measured = tt
unfit_replaced (faults.Disk failed) short P measured = tt
unfit_replaced (faults.Closed failed) short P measured = tt
unfit_replaced (faults.Full count) short P measured = tt
unfit_replaced (faults.Damaged damage) short P measured = absurd measured

-- it was to be written
pub written_replaced : {T : Type 0} (result : Result T KeepFault) (P : Type 0) → ByAnswer result (λ value. P) ⊤ ⊤ → IfReplaced result P
written_replaced (Ok value) P holds = holds
written_replaced (Err faults.Memory) P holds = tt
written_replaced (Err (faults.Disk failed)) P holds = tt
written_replaced (Err (faults.Closed failed)) P holds = tt
written_replaced (Err (faults.Full count)) P holds = tt
written_replaced (Err (faults.Damaged damage)) P holds = absurd holds
