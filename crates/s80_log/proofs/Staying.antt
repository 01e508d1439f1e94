-- A disk that stands for a list, while one file changes of which no marked part is touched.
use Rattle.std.proofs.Common.{◌≡◌, ◌≢◌, ℕ, Bool, List, refl, sym, ◌∙◌}
use Rattle.s80_change.specs.declared.change.Change.{Change}
use Rattle.s80_disk.specs.declared.disk.FileId.{FileId}
use Rattle.s80_disk.specs.declared.disk.FileId.TheVariants.{Mark}
use Rattle.s80_disk.specs.Image.{Image, OnFile, Follows}
use Rattle.s80_disk.specs.Moments.{ComesFrom}
use Rattle.s80_mark.specs.declared.mark.MarkState.{MarkState}
use Rattle.s80_log.specs.Log.{LogEnd}
use Rattle.s80_log.specs.Standing.{marked_part, FilesStandFor, StandsFor}
use Rattle.s80_log.specs.Commit.{Holds, HoldsBeside, Carries, LeavesBeside}
use Rattle.s80_log.proofs.Files.{stands_on}

-- a log that holds all changes carries them, whether it counts or the other
pub carried : {tells : Bool} {reads : Image} {may_leave : Image → Type 0} {log : LogEnd} {mark : MarkState} {kept all : List Change} → Holds tells reads may_leave log mark kept all → Carries tells reads may_leave log mark kept all
carried holds = record { stands = holds.stands; list = holds.list; whole = holds.whole; bytes = holds.bytes }

pub carried_beside : {tells : Bool} {reads : Image} {may_leave : Image → Type 0} {log : LogEnd} {mark : MarkState} {kept all : List Change} → HoldsBeside tells reads may_leave log mark kept all → Carries tells reads may_leave log mark kept all
carried_beside holds = record { stands = holds.stands; list = holds.list; whole = holds.whole; bytes = holds.bytes }

module _ (tells : Bool) (reads : Image) (may_leave : Image → Type 0) (mark : MarkState) (kept : List Change) (file : FileId) (stands : StandsFor tells reads may_leave mark kept) where
  -- a crash now leaves files that stand for what is kept
  image_stands : (d : Image) → may_leave d → FilesStandFor d mark kept
  image_stands d left = stands_on reads d mark kept stands.files (stands.mark_stays d left) (stands.log_stays d left)

  pub still_stands : (told_before told : ℕ) (c : Image) → may_leave c × (told ≡ told_before) → LeavesBeside may_leave told_before file (λ d. FilesStandFor d mark kept) told c
  still_stands told_before told c left = record { told_is = left.1; here = image_stands c left.0; image = c; was = left.0; others = λ other no_mark no_log. refl }

  module _ (change : List ℕ → List ℕ → Type 0) (no_mark : Mark ≢ file) (part_stays : (d c : Image) → FilesStandFor d mark kept → OnFile file change d c → marked_part mark c ≡ marked_part mark d) where
    change_stands : (d c : Image) → FilesStandFor d mark kept → OnFile file change d c → FilesStandFor c mark kept
    change_stands d c before step = stands_on d c mark kept before (step.others Mark no_mark) (part_stays d c before step)

    -- so does each moment of the change
    pub moment_stands : (told_before told : ℕ) (c : Image) → ComesFrom may_leave told_before file change told c → LeavesBeside may_leave told_before file (λ d. FilesStandFor d mark kept) told c
    moment_stands told_before told c from = record {
      told_is = from.told_is;
      here = change_stands from.image c (image_stands from.image from.was) from.step;
      image = from.image;
      was = from.was;
      others = λ other no_mark no_log. from.step.others other no_log;
    }

    -- the disk stands for what is kept after the change, also where that failed
    pub disk_stands : (new_tells : Bool) (new_reads : Image) (new_leaves : Image → Type 0) → new_tells ≡ tells → OnFile file change reads new_reads → Follows file change may_leave new_leaves → StandsFor new_tells new_reads new_leaves mark kept
    disk_stands new_tells new_reads new_leaves same step follows = record {
      told = same ∙ stands.told;
      files = change_stands reads new_reads stands.files step;
      mark_stays = λ c left.
          let from = follows c left in
          from.2.others Mark no_mark ∙ stands.mark_stays from.0 from.1 ∙ sym (step.others Mark no_mark);
      log_stays = λ c left.
          let from = follows c left in
          part_stays from.0 c (image_stands from.0 from.1) from.2 ∙ stands.log_stays from.0 from.1 ∙ sym (part_stays reads new_reads stands.files step);
    }
