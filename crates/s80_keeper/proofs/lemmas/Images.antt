-- The image that a mark names, as calls that write the mark or a log leave it.
use Rattle.std.proofs.Common.{◌≡◌, ◌≢◌, ◌⊎◌, inl, inr, ⊎_elim, ℕ, ◌≤◌, Bool, true, false, List, ◌++◌, take, refl, sym, ap, ◌∙◌, append_assoc, subst, if◌then◌else◌}
use Rattle.std.specs.Prelude.{⊤}
use Rattle.std.proofs.lemmas.Bool.Decides.{eqb_tells}
use Rattle.s80_change.specs.declared.change.Change.{Change}
use Rattle.s80_disk.specs.declared.disk.FileId.{FileId}
use Rattle.s80_disk.specs.declared.disk.FileId.TheVariants.{Mark, Image0, Image1, Log0, Log1}
use Rattle.s80_disk.specs.Image.{Image}
use Rattle.s80_disk.specs.Moments.{Beside, LeavesOnly}
use Rattle.s80_mark.specs.declared.mark.MarkState.{MarkState}
use Rattle.s80_log.specs.Commit.{LeavesBeside, fresh_mark, next_mark}
use Rattle.s80_log.specs.Log.{LogEnd, log_file}
use Rattle.s80_keeper.specs.Imaged.{HasImage, KeepsImage, image_file, image_part}
use Rattle.s80_keeper.specs.Renewing.{IsElsewhere}

-- ---- where images stand

either_is_no_log : (first other : Bool) → (if first then Image0 else Image1) ≢ (if other then Log0 else Log1)
either_is_no_log true true e = cc
either_is_no_log true false e = cc
either_is_no_log false true e = cc
either_is_no_log false false e = cc

either_is_no_mark : (first : Bool) → (if first then Image0 else Image1) ≢ Mark
either_is_no_mark true e = cc
either_is_no_mark false e = cc

-- an image's file isn't a log's
pub image_is_no_log : (image log : ℕ) → image_file image ≢ log_file log
image_is_no_log image log = either_is_no_log _ _

-- nor the mark's
pub image_is_no_mark : (image : ℕ) → image_file image ≢ Mark
image_is_no_mark image = either_is_no_mark _

-- ---- of files

-- a mark names an image or none
pub names_or_not : (mark : MarkState) → (mark.image ≡ 255) ⊎ (mark.image ≢ 255)
names_or_not mark = ⊎_elim (λ yes. inl yes.1) (λ no. inr no.1) (eqb_tells mark.image 255)

same_bytes : (files other : Image) (mark : MarkState) (changes : List Change) → image_part mark other ≡ image_part mark files → HasImage files mark changes → HasImage other mark changes
same_bytes files other mark changes same (inl none) = inl none
same_bytes files other mark changes same (inr h) =
    inr (record { front = h.front; behind = h.behind; parts = h.parts; position = h.position; image = h.image; lawful = h.lawful; of_front = h.of_front; whole = h.whole; bytes = same ∙ h.bytes })

-- files in which the marked part of the image is the same have it too
pub image_same : (files other : Image) (mark : MarkState) (changes : List Change) → (mark.image ≢ 255 → image_part mark other ≡ image_part mark files) → HasImage files mark changes → HasImage other mark changes
image_same files other mark changes same has = ⊎_elim (λ none. inl none) (λ named. same_bytes files other mark changes (same named) has) (names_or_not mark)

-- a list that goes on has the image of the list so far
pub image_longer : (files : Image) (mark : MarkState) (changes more : List Change) → HasImage files mark changes → HasImage files mark (changes ++ more)
image_longer files mark changes more (inl none) = inl none
image_longer files mark changes more (inr h) = inr (record {
  front = h.front;
  behind = h.behind ++ more;
  parts = ap (λ l. l ++ more) h.parts ∙ append_assoc h.front h.behind more;
  position = h.position;
  image = h.image;
  lawful = h.lawful;
  of_front = h.of_front;
  whole = h.whole;
  bytes = h.bytes;
})

-- the next mark says the same of it
pub image_next : (files : Image) (mark : MarkState) (log : LogEnd) (count : ℕ) (changes : List Change) → HasImage files mark changes → HasImage files (next_mark mark log count) changes
image_next files mark log count changes (inl none) = inl none
image_next files mark log count changes (inr h) =
    inr (record { front = h.front; behind = h.behind; parts = h.parts; position = h.position; image = h.image; lawful = h.lawful; of_front = h.of_front; whole = h.whole; bytes = h.bytes })

-- ---- of disks

module _ (reads : Image) (may_leave : Image → Type 0) (mark : MarkState) (changes : List Change) where
  -- a fresh mark names none
  pub keeps_fresh : (log : LogEnd) (count : ℕ) → KeepsImage reads may_leave (fresh_mark mark log count) changes
  keeps_fresh log count = record { has = inl refl; stays = λ named. absurd (named refl) }

  module _ (keeps : KeepsImage reads may_leave mark changes) where
    -- each image that a crash now leaves has it
    pub image_left : (c : Image) → may_leave c → HasImage c mark changes
    image_left c left = image_same reads c mark changes (λ named. keeps.stays named c left) keeps.has

    -- a crash that leaves no more leaves it
    pub keeps_fewer : (now : Image → Type 0) → ((c : Image) → now c → may_leave c) → KeepsImage reads now mark changes
    keeps_fewer now still = record { has = keeps.has; stays = λ named c left. keeps.stays named c (still c left) }

    pub keeps_longer : (more : List Change) → KeepsImage reads may_leave mark (changes ++ more)
    keeps_longer more = record { has = image_longer reads mark changes more keeps.has; stays = keeps.stays }

    pub keeps_next : (log : LogEnd) (count : ℕ) → KeepsImage reads may_leave (next_mark mark log count) changes
    keeps_next log count = record { has = image_next reads mark log count changes keeps.has; stays = keeps.stays }

-- by the mark after this one, with all that is pending
pub keeps_committed : (reads : Image) (may_leave : Image → Type 0) (mark : MarkState) (log : LogEnd) (count : ℕ) (kept pending all : List Change) → all ≡ kept ++ pending → KeepsImage reads may_leave mark kept → KeepsImage reads may_leave (next_mark mark log count) all
keeps_committed reads may_leave mark log count kept pending all parts keeps =
    let P : List Change → Type 0 = λ l. KeepsImage reads may_leave (next_mark mark log count) l in
    subst P (sym parts) (keeps_next reads may_leave mark (kept ++ pending) (keeps_longer reads may_leave mark kept keeps pending) log count)

-- ---- where other files are written

module _ (reads : Image) (before : Image → Type 0) (mark : MarkState) (changes : List Change) (keeps : KeepsImage reads before mark changes) where
  -- an image of files that comes from one of before has it, where its file stays
  pub image_where : (c left : Image) → before left → (mark.image ≢ 255 → c (image_file mark.image) ≡ left (image_file mark.image)) → HasImage c mark changes
  image_where c left was same = image_same reads c mark changes (λ named. ap (take mark.image_length) (same named) ∙ keeps.stays named left was) keeps.has

  -- and so does a disk on which its file stays
  pub keeps_where : (new_reads : Image) (now : Image → Type 0) → (mark.image ≢ 255 → new_reads (image_file mark.image) ≡ reads (image_file mark.image))
      → ((c : Image) → now c → (left : Image) × before left × (mark.image ≢ 255 → c (image_file mark.image) ≡ left (image_file mark.image))) → KeepsImage new_reads now mark changes
  keeps_where new_reads now same from = record {
    has = image_same reads new_reads mark changes (λ named. ap (take mark.image_length) (same named)) keeps.has;
    stays = λ named c leaves.
        let h = from c leaves in
        ap (take mark.image_length) (h.2 named) ∙ keeps.stays named h.0 h.1 ∙ sym (ap (take mark.image_length) (same named));
  }

-- the mark, or one log
module _ (reads : Image) (before : Image → Type 0) (number : ℕ) (mark : MarkState) (changes : List Change) (keeps : KeepsImage reads before mark changes) (told_before told : ℕ) (P : Image → Type 0) where
  file_stays : (one other : Image) → ((file : FileId) → file ≢ Mark → file ≢ log_file number → one file ≡ other file) → one (image_file mark.image) ≡ other (image_file mark.image)
  file_stays one other others = others (image_file mark.image) (image_is_no_mark mark.image) (image_is_no_log mark.image number)

  pub image_beside : (c : Image) → LeavesBeside before told_before (log_file number) P told c → HasImage c mark changes
  image_beside c leaves = image_where reads before mark changes keeps c leaves.image leaves.was (λ named. file_stays c leaves.image leaves.others)

  pub keeps_beside : (new_reads : Image) (now : Image → Type 0) → ((other : FileId) → other ≢ Mark → other ≢ log_file number → new_reads other ≡ reads other) → ((c : Image) → now c → LeavesBeside before told_before (log_file number) P told c) → KeepsImage new_reads now mark changes
  keeps_beside new_reads now others left =
      keeps_where reads before mark changes keeps new_reads now (λ named. file_stays new_reads reads others) (λ c leaves. let h = left c leaves in (h.image, h.was, λ named. file_stays c h.image h.others))

module _ {D : Type 0} (reads : D → Image) (may_leave : D → Image → Type 0) (moment : D → ℕ) (left_since : D → ℕ → ℕ → Image → Type 0) (beside : D → Beside) (old new : D) (number : ℕ) (counts : (t : ℕ) (c : Image) → t ≤ moment new → may_leave new c → left_since new t (beside new).told c) (mark : MarkState) (changes : List Change) where
  -- behind a run that leaves the other files
  pub keeps_behind : (P : Image → Type 0) → ((other : FileId) → other ≢ Mark → other ≢ log_file number → reads new other ≡ reads old other) → LeavesOnly moment left_since old new (LeavesBeside (may_leave old) (beside old).told (log_file number) P) → KeepsImage (reads old) (may_leave old) mark changes → KeepsImage (reads new) (may_leave new) mark changes
  keeps_behind P others run keeps =
      keeps_beside (reads old) (may_leave old) number mark changes keeps (beside old).told (beside new).told P (reads new) (may_leave new) others (λ c left. run.each (beside new).told c (counts (moment old) c run.later left))

  pub keeps_elsewhere : (tells : D → Bool) (disk_faults : D → ℕ) → IsElsewhere tells reads may_leave moment left_since beside disk_faults (log_file number) old new → KeepsImage (reads old) (may_leave old) mark changes → KeepsImage (reads new) (may_leave new) mark changes
  keeps_elsewhere tells disk_faults run keeps = keeps_behind (λ c. ⊤) run.others run.any_moment keeps
