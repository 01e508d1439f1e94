-- Changes that are kept, whatever a crash may leave: what the keeper has of them, and what its log reads.
use Rattle.std.proofs.Common.{◌≡◌, ◌≢◌, ℕ, ◌+◌, ◌≤◌, min, Bool, true, false, IsTrue, List, [], ◌∷◌, ◌++◌, length, take, drop, if◌then◌else◌, sym, ap, ◌∙◌, arith, length-append, length-take}
use Rattle.std.proofs.Math.Seq.{take-add}
use Rattle.std.proofs.lemmas.List.Elements.{All-push}
use Rattle.s80_change.specs.declared.change.Change.{Change}
use Rattle.s80_change.specs.Block.{block, blocks, log_limit, IsLawful}
use Rattle.s80_disk.specs.declared.disk.FileId.{FileId}
use Rattle.s80_disk.specs.declared.disk.FileId.TheVariants.{Mark, Log0, Log1}
use Rattle.s80_disk.specs.Image.{Image, Wrote}
use Rattle.s80_mark.specs.declared.mark.MarkState.{MarkState}
use Rattle.s80_apply.specs.List.{state_of}
use Rattle.s80_apply.specs.Placed.{placed_of}
use Rattle.s80_apply.proofs.lemmas.Lists.{blocks_more}
use Rattle.s80_history.specs.History.{IsHistoryOf}
use Rattle.s80_log.specs.Log.{LogEnd, held_in, log_file}
use Rattle.s80_keeper.specs.Keeper.{KeeperState}
use Rattle.s80_keeper.specs.Renewing.{HasWritten}
use Rattle.s80_keeper.specs.Answers.{PreparedChange, IsFor, PlacesFor, HasTakenIn, longer}
use Rattle.s80_keeper.proofs.Counting.{counts_more}
use Rattle.s80_keeper.proofs.Keeping.{built_kept, installed_kept, places_kept}

-- a log isn't the mark file
either_is_no_mark : (b : Bool) → (if b then Log0 else Log1) ≢ Mark
either_is_no_mark true e = cc
either_is_no_mark false e = cc

-- what is written at the end of a log stands behind what it held
held_more : (log : LogEnd) (piece held : List ℕ) (old new : Image) → held_in old log ≡ held → log.end ≡ length held → Wrote log.end piece (old (log_file log.number)) (new (log_file log.number)) → held_in new (longer log (length piece)) ≡ held ++ piece
held_more log piece held old new bytes whole wrote =
    let file = log_file log.number in
    let size = simp length-take at (ap length bytes) in
    let reached : min log.end (length (old file)) ≡ log.end = omega (arith, size, whole) in
    let front : take log.end (new file) ≡ take log.end (old file) = rw reached at wrote.before in
    take-add log.end (length piece) (new file) ∙ ap (λ l. l ++ take (length piece) (drop log.end (new file))) (front ∙ bytes) ∙ ap (λ l. held ++ l) wrote.here

-- the keeper after one change more was taken in
pub written_later : (tells new_tells : Bool) (reads new_reads : Image) (keeper now : KeeperState) (done : List Change) (prepared : PreparedChange) → HasWritten tells reads keeper done → IsLawful prepared.change → IsFor (state_of done) keeper.system prepared → PlacesFor (placed_of done) keeper.system prepared → HasTakenIn prepared keeper now → now.log.end ≤ log_limit → new_tells ≡ tells → (IsTrue tells → Wrote keeper.log.end (block prepared.change) (reads (log_file keeper.log.number)) (new_reads (log_file keeper.log.number))) → IsHistoryOf now.history (done ++ prepared.change ∷ []) → HasWritten new_tells new_reads now (done ++ prepared.change ∷ [])
written_later tells new_tells reads new_reads keeper now done prepared was lawful ready places after within same_tells wrote noted =
    let piece = block prepared.change in
    let log : now.log ≡ longer keeper.log (length piece) = ap (λ (k : KeeperState). k.log) after.1 in
    let more : blocks (done ++ prepared.change ∷ []) ≡ blocks done ++ piece = blocks_more done prepared.change in
    let whole : now.log.end ≡ length (blocks (done ++ prepared.change ∷ [])) = ap (λ (l : LogEnd). l.end) log ∙ ap (λ n. n + length piece) was.whole ∙ sym (ap length more ∙ length-append (blocks done) piece) in
    record {
      made = record {
        built = built_kept done keeper.system prepared ready was.made.built;
        system = installed_kept done keeper.system prepared ready keeper.log.end now.system after.0;
        places = places_kept done keeper.system prepared ready places keeper.log.end now.system was.whole after.0;
        history = noted;
        count = ap (λ (k : KeeperState). k.count) after.1 ∙ counts_more done keeper.count was.list was.made.count ∙ sym (length-append done (prepared.change ∷ []));
      };
      list = record { lawful = All-push IsLawful done prepared.change was.list.lawful lawful; within = omega (arith, whole, within) };
      whole = whole;
      bytes = λ told.
          let before : IsTrue tells = sym same_tells ∙ told in
          ap (held_in new_reads) log ∙ held_more keeper.log piece (blocks done) reads new_reads (was.bytes before) was.whole (wrote before) ∙ sym more;
    }

-- the keeper after only its mark was written
pub written_marked : (tells new_tells : Bool) (reads new_reads : Image) (keeper : KeeperState) (log : LogEnd) (mark : MarkState) (done : List Change) → HasWritten tells reads keeper done → log ≡ keeper.log → new_tells ≡ tells → ((other : FileId) → other ≢ Mark → new_reads other ≡ reads other) → HasWritten new_tells new_reads (record keeper { log = log; mark = mark }) done
written_marked tells new_tells reads new_reads keeper log mark done was same same_tells others = record {
  made = record { built = was.made.built; system = was.made.system; places = was.made.places; history = was.made.history; count = was.made.count };
  list = was.list;
  whole = ap (λ (l : LogEnd). l.end) same ∙ was.whole;
  bytes = λ told. ap (held_in new_reads) same ∙ ap (take keeper.log.end) (others (log_file keeper.log.number) (either_is_no_mark _)) ∙ was.bytes (sym same_tells ∙ told);
}
