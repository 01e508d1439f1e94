-- Disks that stand for a list, and what a crash leaves of them; keepers that know what they wrote.
use Rattle.std.proofs.Common.{◌≡◌, inl, inr, ⊎_elim, List, Bool, sym, ap, ◌∙◌, subst}
use Rattle.std.specs.Prelude.{IsTrue}
use Rattle.s80_change.specs.declared.change.Change.{Change}
use Rattle.s80_disk.specs.declared.disk.FileId.{FileId}
use Rattle.s80_disk.specs.Image.{Image}
use Rattle.s80_mark.specs.declared.mark.MarkState.{MarkState}
use Rattle.s80_mark.specs.Mark.{valid_mark}
use Rattle.s80_log.specs.Standing.{FilesStandFor as StandByMark, StandsFor as StandsByMark}
use Rattle.s80_keeper.specs.Keeper.{KeeperState, Knows}
use Rattle.s80_keeper.specs.Renewing.{HasWritten}
use Rattle.s80_keeper.specs.Standing.{FilesStandFor, StandsFor, ReadsFor}
use Rattle.s80_keeper.proofs.lemmas.Images.{image_left, keeps_fewer}

-- where the mark file and the marked part of its log stay, every crash now leaves files that stand for the list by this mark
stays_by_mark : (tells : Bool) (reads : Image) (may_leave : Image → Type 0) (mark : MarkState) (changes : List Change) → StandsByMark tells reads may_leave mark changes → (c : Image) → may_leave c → StandByMark c mark changes
stays_by_mark tells reads may_leave mark changes h c left = record {
  valid = ap valid_mark (h.mark_stays c left) ∙ h.files.valid;
  numbers = h.files.numbers;
  list = h.files.list;
  whole = h.files.whole;
  bytes = h.log_stays c left ∙ h.files.bytes;
  counted = h.files.counted;
}

module _ (tells : Bool) (reads : Image) (may_leave : Image → Type 0) (changes : List Change) (h : StandsFor tells reads may_leave changes) where
  -- every crash now leaves files that stand for the list
  pub stands_leaves : (c : Image) → may_leave c → FilesStandFor c changes
  stands_leaves c left =
      ⊎_elim (λ empty. inl ((empty.1.log0 c left, empty.1.log1 c left), empty.2)) (λ marked. inr (marked.0, stays_by_mark tells reads may_leave marked.0 changes marked.1 c left, image_left reads may_leave marked.0 changes marked.2 c left, marked.3)) h.stands

  -- what it reads stands for the list
  pub reads_so : ReadsFor tells reads may_leave changes
  reads_so = record {
    told = h.told;
    stands = ⊎_elim (λ empty. inl (empty.0, empty.2)) (λ marked. inr (marked.0, marked.1.files, marked.2, marked.3, marked.1.log_stays)) h.stands;
  }

-- a disk that tells and reads the same, and of which a crash leaves no more, reads for the list
pub reads_on : (tells new_tells : Bool) (reads new_reads : Image) (before now : Image → Type 0) (changes : List Change) → new_tells ≡ tells → ((file : FileId) → new_reads file ≡ reads file) → ((c : Image) → now c → before c) → ReadsFor tells reads before changes → ReadsFor new_tells new_reads now changes
reads_on tells new_tells reads new_reads before now changes same_tells same still h =
    let same_reads : reads ≡ new_reads = λ i file. sym (same file) i in
    let P : Bool → Image → Type 0 = λ t r. ReadsFor t r now changes in
    let kept : ReadsFor tells reads now changes = record { told = h.told; stands = ⊎_elim (λ empty. inl empty) (λ marked. inr (marked.0, marked.1, keeps_fewer reads before marked.0 changes marked.2 now still, marked.3, λ c left. marked.4 c (still c left))) h.stands } in
    subst (P new_tells) same_reads (subst (λ t. P t reads) (sym same_tells) kept)

-- what is written is known, where the disk tells it
pub knows_written : (tells : Bool) (files : Image) (keeper : KeeperState) (changes : List Change) → IsTrue tells → HasWritten tells files keeper changes → Knows files keeper changes
knows_written tells files keeper changes told h = record {
  log = h.bytes told;
  lawful = h.list.lawful;
  system = h.made.system;
  places = h.made.places;
  history = h.made.history;
  count = h.made.count;
}
