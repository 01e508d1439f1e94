-- A disk that stands for a list, while blocks are appended.
use Rattle.std.proofs.Common.{◌≡◌, ℕ, ◌+◌, ◌≤◌, Bool, List, [], ◌∷◌, ◌++◌, length, take, sym, ap, ◌∙◌, subst, arith, length-append}
use Rattle.s80_change.specs.declared.change.Change.{Change}
use Rattle.s80_change.specs.Block.{block, blocks, log_limit, IsLawful}
use Rattle.s80_disk.specs.declared.disk.FileId.{FileId}
use Rattle.s80_disk.specs.Image.{Image, Wrote, Torn, OnFile, Follows}
use Rattle.s80_mark.specs.declared.mark.MarkState.{MarkState}
use Rattle.s80_log.specs.Log.{LogEnd, log_file}
use Rattle.s80_log.specs.Standing.{marked_part, FilesStandFor}
use Rattle.s80_log.specs.Commit.{Holds, HoldsBeside, Carries}
use Rattle.s80_log.proofs.Files.{log_is_no_mark, logs_differ, part_elsewhere, torn_front, has_all, wrote_behind, blocks_more, list_more}
use Rattle.s80_log.proofs.Staying.{carried, carried_beside, disk_stands}

-- what is said of a file and a log, where they are these
pub step_on : (log inside : LogEnd) (file : FileId) (n : ℕ) (old new : Image) → inside ≡ log → file ≡ log_file log.number → OnFile file (Torn inside.end n) old new → OnFile (log_file log.number) (Torn log.end n) old new
step_on log inside file n old new same_log same_file step =
    let P : LogEnd → Type 0 = λ l. OnFile file (Torn l.end n) old new in
    let Q : FileId → Type 0 = λ f. OnFile f (Torn log.end n) old new in
    subst Q same_file (subst P same_log step)

pub follows_on : (log inside : LogEnd) (file : FileId) (n : ℕ) (before now : Image → Type 0) → inside ≡ log → file ≡ log_file log.number → Follows file (Torn inside.end n) before now → Follows (log_file log.number) (Torn log.end n) before now
follows_on log inside file n before now same_log same_file follows c left =
    let from = follows c left in
    (from.0, from.1, step_on log inside file n from.0 c same_log same_file from.2)

pub wrote_on : (log inside : LogEnd) (file : FileId) (piece : List ℕ) (old new : Image) → inside ≡ log → file ≡ log_file log.number → Wrote inside.end piece (old file) (new file) → Wrote log.end piece (old (log_file log.number)) (new (log_file log.number))
wrote_on log inside file piece old new same_log same_file wrote =
    let P : LogEnd → Type 0 = λ l. Wrote l.end piece (old file) (new file) in
    let Q : FileId → Type 0 = λ f. Wrote log.end piece (old f) (new f) in
    subst Q same_file (subst P same_log wrote)

-- where a torn write leaves the marked part, whichever log the mark names
module _ (tells : Bool) (reads : Image) (may_leave : Image → Type 0) (log : LogEnd) (mark : MarkState) (kept all : List Change) (n : ℕ) (carries : Carries tells reads may_leave log mark kept all) (part_stays : (d c : Image) → FilesStandFor d mark kept → OnFile (log_file log.number) (Torn log.end n) d c → marked_part mark c ≡ marked_part mark d) where
  within : log.end ≤ length (reads (log_file log.number))
  within = has_all log.end _ _ carries.bytes carries.whole

  -- after a write that failed nothing was appended
  carries_still : (new_tells : Bool) (new_reads : Image) (new_leaves : Image → Type 0) → new_tells ≡ tells → OnFile (log_file log.number) (Torn log.end n) reads new_reads → Follows (log_file log.number) (Torn log.end n) may_leave new_leaves → Carries new_tells new_reads new_leaves log mark kept all
  carries_still new_tells new_reads new_leaves same step follows = record {
    stands = disk_stands tells reads may_leave mark kept (log_file log.number) carries.stands (Torn log.end n) (log_is_no_mark log.number) part_stays new_tells new_reads new_leaves same step follows;
    list = carries.list;
    whole = carries.whole;
    bytes = torn_front log.end log.end n _ _ step.here (omega arith) within ∙ carries.bytes;
  }

  -- after one that succeeded its block stands behind the others
  carries_more : (change : Change) (piece : List ℕ) (new_tells : Bool) (new_reads : Image) (new_leaves : Image → Type 0) → IsLawful change → piece ≡ block change → n ≡ length piece → log.end + n ≤ log_limit → new_tells ≡ tells → OnFile (log_file log.number) (Torn log.end n) reads new_reads → Wrote log.end piece (reads (log_file log.number)) (new_reads (log_file log.number)) → Follows (log_file log.number) (Torn log.end n) may_leave new_leaves → Carries new_tells new_reads new_leaves (record log { end = log.end + n }) mark kept (all ++ change ∷ [])
  carries_more change piece new_tells new_reads new_leaves lawful is size limit same step wrote follows =
      let long : n ≡ length (block change) = size ∙ ap length is in
      record {
        stands = disk_stands tells reads may_leave mark kept (log_file log.number) carries.stands (Torn log.end n) (log_is_no_mark log.number) part_stays new_tells new_reads new_leaves same step follows;
        list = list_more all change log.end n carries.list lawful carries.whole long limit;
        whole = rw (blocks_more all change, length-append) (omega (arith, carries.whole, long));
        bytes = ap (λ k. take (log.end + k) (new_reads (log_file log.number))) size ∙ wrote_behind log.end piece _ _ wrote within ∙ ap (λ l. l ++ piece) carries.bytes ∙ ap (λ l. blocks all ++ l) is ∙ sym (blocks_more all change);
      }

-- where the log counts
module _ (tells : Bool) (reads : Image) (may_leave : Image → Type 0) (log : LogEnd) (mark : MarkState) (kept all : List Change) (n : ℕ) (holds : Holds tells reads may_leave log mark kept all) where
  -- a torn write past the marked part leaves it
  pub part_stays : (d c : Image) → FilesStandFor d mark kept → OnFile (log_file log.number) (Torn log.end n) d c → marked_part mark c ≡ marked_part mark d
  part_stays d c stands step =
      let P : FileId → Type 0 = λ f. Torn log.end n (d f) (c f) in
      torn_front mark.log_length log.end n (d (log_file mark.log)) (c (log_file mark.log)) (subst P (sym (ap log_file holds.named)) step.here) holds.ahead (has_all mark.log_length _ _ stands.bytes stands.whole)

  pub holds_still : (new_tells : Bool) (new_reads : Image) (new_leaves : Image → Type 0) → new_tells ≡ tells → OnFile (log_file log.number) (Torn log.end n) reads new_reads → Follows (log_file log.number) (Torn log.end n) may_leave new_leaves → Holds new_tells new_reads new_leaves log mark kept all
  holds_still new_tells new_reads new_leaves same step follows =
      let now = carries_still tells reads may_leave log mark kept all n (carried holds) part_stays new_tells new_reads new_leaves same step follows in
      record { stands = now.stands; named = holds.named; ahead = holds.ahead; list = now.list; whole = now.whole; bytes = now.bytes }

  pub holds_more : (change : Change) (piece : List ℕ) (new_log : LogEnd) (new_tells : Bool) (new_reads : Image) (new_leaves : Image → Type 0) → new_log ≡ record log { end = log.end + n } → IsLawful change → piece ≡ block change → n ≡ length piece → log.end + n ≤ log_limit → new_tells ≡ tells → OnFile (log_file log.number) (Torn log.end n) reads new_reads → Wrote log.end piece (reads (log_file log.number)) (new_reads (log_file log.number)) → Follows (log_file log.number) (Torn log.end n) may_leave new_leaves → Holds new_tells new_reads new_leaves new_log mark kept (all ++ change ∷ [])
  holds_more change piece new_log new_tells new_reads new_leaves new lawful is size limit same step wrote follows =
      let now = carries_more tells reads may_leave log mark kept all n (carried holds) part_stays change piece new_tells new_reads new_leaves lawful is size limit same step wrote follows in
      let P : LogEnd → Type 0 = λ l. Holds new_tells new_reads new_leaves l mark kept (all ++ change ∷ []) in
      subst P (sym new) record { stands = now.stands; named = holds.named; ahead = omega (arith, holds.ahead); list = now.list; whole = now.whole; bytes = now.bytes }

-- where the other log counts
module _ (tells : Bool) (reads : Image) (may_leave : Image → Type 0) (log : LogEnd) (mark : MarkState) (kept all : List Change) (n : ℕ) (holds : HoldsBeside tells reads may_leave log mark kept all) where
  -- a write leaves the marked part, which stands in the other file
  pub part_stays_beside : (d c : Image) → FilesStandFor d mark kept → OnFile (log_file log.number) (Torn log.end n) d c → marked_part mark c ≡ marked_part mark d
  part_stays_beside d c stands step = part_elsewhere mark (log_file log.number) (Torn log.end n) d c (λ e. logs_differ log.number holds.number (sym e ∙ ap log_file holds.named)) step

  pub beside_still : (new_tells : Bool) (new_reads : Image) (new_leaves : Image → Type 0) → new_tells ≡ tells → OnFile (log_file log.number) (Torn log.end n) reads new_reads → Follows (log_file log.number) (Torn log.end n) may_leave new_leaves → HoldsBeside new_tells new_reads new_leaves log mark kept all
  beside_still new_tells new_reads new_leaves same step follows =
      let now = carries_still tells reads may_leave log mark kept all n (carried_beside holds) part_stays_beside new_tells new_reads new_leaves same step follows in
      record { stands = now.stands; named = holds.named; number = holds.number; list = now.list; whole = now.whole; bytes = now.bytes }

  pub beside_more : (change : Change) (piece : List ℕ) (new_log : LogEnd) (new_tells : Bool) (new_reads : Image) (new_leaves : Image → Type 0) → new_log ≡ record log { end = log.end + n } → IsLawful change → piece ≡ block change → n ≡ length piece → log.end + n ≤ log_limit → new_tells ≡ tells → OnFile (log_file log.number) (Torn log.end n) reads new_reads → Wrote log.end piece (reads (log_file log.number)) (new_reads (log_file log.number)) → Follows (log_file log.number) (Torn log.end n) may_leave new_leaves → HoldsBeside new_tells new_reads new_leaves new_log mark kept (all ++ change ∷ [])
  beside_more change piece new_log new_tells new_reads new_leaves new lawful is size limit same step wrote follows =
      let now = carries_more tells reads may_leave log mark kept all n (carried_beside holds) part_stays_beside change piece new_tells new_reads new_leaves lawful is size limit same step wrote follows in
      let P : LogEnd → Type 0 = λ l. HoldsBeside new_tells new_reads new_leaves l mark kept (all ++ change ∷ []) in
      subst P (sym new) record { stands = now.stands; named = holds.named; number = holds.number; list = now.list; whole = now.whole; bytes = now.bytes }
