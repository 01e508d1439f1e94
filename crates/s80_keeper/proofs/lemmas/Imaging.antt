-- An image that is written into the file that isn't in use, and a mark that names it.
use Rattle.std.proofs.Common.{◌≡◌, ◌≢◌, ◌⊎◌, inl, inr, ⊎_elim, ℕ, ◌≤◌, Bool, true, false, List, [], ◌∷◌, ◌++◌, length, take, refl, sym, ap, ◌∙◌, subst, arith, append-nil, if◌then◌else◌}
use Rattle.std.specs.Prelude.{⊤}
use Rattle.std.proofs.Math.Seq.{take-length}
use Rattle.s80_change.specs.declared.change.Change.{Change}
use Rattle.s80_disk.specs.declared.disk.FileId.{FileId}
use Rattle.s80_disk.specs.declared.disk.FileId.TheVariants.{Mark, Log0, Log1, Image0, Image1}
use Rattle.s80_disk.specs.Image.{Image, Follows, Only}
use Rattle.s80_disk.specs.Moments.{Beside, ComesFrom, LeavesOnly}
use Rattle.s80_disk.proofs.lemmas.Run.{joined, started, weaker}
use Rattle.s80_mark.specs.declared.mark.MarkState.{MarkState}
use Rattle.s80_mark.specs.Mark.{valid_mark}
use Rattle.s80_mark.specs.Commit.{HasEither}
use Rattle.s80_mark.specs.Stays.{Anything}
use Rattle.s80_apply.specs.State.{State, kernel_state}
use Rattle.s80_apply.specs.List.{AreAccepted, IsBuilt, state_after}
use Rattle.s80_log.specs.Log.{LogEnd, log_file}
use Rattle.s80_log.specs.Standing.{FilesStandFor as StandByMark, StandsFor as StandsByMark, marked_part}
use Rattle.s80_log.specs.Commit.{Holds, LeavesBeside, ReadForEither, StandForEither, imaged_mark}
use Rattle.s80_keeper.specs.Imaged.{HasImage, KeepsImage, image_file, image_part}
use Rattle.s80_keeper.specs.Keeper.{KeeperState, Keeps}
use Rattle.s80_keeper.specs.Snapshot.{IsImageText, LeavesApart, imaged, other_image}
use Rattle.s80_keeper.specs.Standing.{FilesStandFor, LeavesEither, LeavesFor, ReadsFor, ReadsForEither}

-- ---- the files of images

either_is_no_mark : (b : Bool) → Mark ≡ (if b then Image0 else Image1) → ⊥
either_is_no_mark true e = cc
either_is_no_mark false e = cc

-- none is the mark file
pub image_is_no_mark : (number : ℕ) → Mark ≡ image_file number → ⊥
image_is_no_mark number e = either_is_no_mark _ e

either_is_no_log : (a b : Bool) → (if a then Log0 else Log1) ≡ (if b then Image0 else Image1) → ⊥
either_is_no_log true true e = cc
either_is_no_log true false e = cc
either_is_no_log false true e = cc
either_is_no_log false false e = cc

-- nor a log
pub image_is_no_log : (log number : ℕ) → log_file log ≡ image_file number → ⊥
image_is_no_log log number e = either_is_no_log _ _ e

either_differs : (b : Bool) → (if b then Image0 else Image1) ≡ image_file (if b then 1 else 0) → ⊥
either_differs true e = cc
either_differs false e = cc

-- and the one that isn't in use is another than the one that is
pub images_differ : (image : ℕ) → image_file image ≡ image_file (other_image image) → ⊥
images_differ image e = either_differs _ e

-- ---- the image in use

-- the front of a list that is built is so
accepted_front : (state : State) (kept pending : List Change) → AreAccepted state (kept ++ pending) → AreAccepted state kept
accepted_front state [] pending accepted = tt
accepted_front state (change ∷ kept) pending accepted = (accepted.0, accepted_front (state_after change state) kept pending accepted.1)

pub front_built : (tells : Bool) (reads : Image) (may_leave : Image → Type 0) (keeper : KeeperState) (kept all : List Change) → Keeps tells reads may_leave keeper kept all → IsBuilt kept
front_built tells reads may_leave keeper kept all keeps = accepted_front kernel_state kept keeps.front.0 (subst IsBuilt keeps.front.1 keeps.built)

-- files whose mark and marked part read as those of others stand for the same list
pub stands_on : (files c : Image) (mark : MarkState) (changes : List Change) → c Mark ≡ files Mark → marked_part mark c ≡ marked_part mark files → StandByMark files mark changes → StandByMark c mark changes
stands_on files c mark changes same_mark same_part h = record {
  valid = ap valid_mark same_mark ∙ h.valid;
  numbers = h.numbers;
  list = h.list;
  whole = h.whole;
  bytes = same_part ∙ h.bytes;
  counted = h.counted;
}

-- files whose image reads as that of others have it
has_on : (files c : Image) (mark : MarkState) (changes : List Change) → image_part mark c ≡ image_part mark files → HasImage files mark changes → HasImage c mark changes
has_on files c mark changes same = ⊎_elim (λ none. inl none) (λ h. inr (record {
  front = h.front;
  behind = h.behind;
  parts = h.parts;
  position = h.position;
  image = h.image;
  lawful = h.lawful;
  of_front = h.of_front;
  whole = h.whole;
  bytes = same ∙ h.bytes;
}))

-- a crash now leaves the image that is kept
pub has_left : (reads : Image) (may_leave : Image → Type 0) (mark : MarkState) (changes : List Change) → (mark.image ≤ 1) ⊎ (mark.image ≡ 255) → KeepsImage reads may_leave mark changes → (c : Image) → may_leave c → HasImage c mark changes
has_left reads may_leave mark changes number keeps c left = ⊎_elim
    (λ few. has_on reads c mark changes (keeps.stays (λ e. omega (arith, few, e)) c left) keeps.has)
    (λ none. inl none)
    number

-- another file changes
module _ (reads new_reads : Image) (may_leave new_leaves : Image → Type 0) (file : FileId) (others : (other : FileId) → other ≢ file → new_reads other ≡ reads other) (follows : Follows file Anything may_leave new_leaves) where
  pub image_stays : (mark : MarkState) (changes : List Change) → image_file mark.image ≢ file → KeepsImage reads may_leave mark changes → KeepsImage new_reads new_leaves mark changes
  image_stays mark changes apart keeps =
      let same : image_part mark new_reads ≡ image_part mark reads = ap (take mark.image_length) (others (image_file mark.image) apart) in
      record {
        has = has_on reads new_reads mark changes same keeps.has;
        stays = λ named c left.
            let from = follows c left in
            ap (take mark.image_length) (from.2.others (image_file mark.image) apart) ∙ keeps.stays named from.0 from.1 ∙ sym same;
      }

  -- the disk stands for what is kept by the same mark
  stands_still : (tells new_tells : Bool) (mark : MarkState) (changes : List Change) → new_tells ≡ tells → Mark ≢ file → log_file mark.log ≢ file → StandsByMark tells reads may_leave mark changes → StandsByMark new_tells new_reads new_leaves mark changes
  stands_still tells new_tells mark changes same no_mark no_log stands =
      let part = ap (take mark.log_length) (others (log_file mark.log) no_log) in
      record {
        told = same ∙ stands.told;
        files = stands_on reads new_reads mark changes (others Mark no_mark) part stands.files;
        mark_stays = λ c left.
            let from = follows c left in
            from.2.others Mark no_mark ∙ stands.mark_stays from.0 from.1 ∙ sym (others Mark no_mark);
        log_stays = λ c left.
            let from = follows c left in
            ap (take mark.log_length) (from.2.others (log_file mark.log) no_log) ∙ stands.log_stays from.0 from.1 ∙ sym part;
      }

  -- and all of the keeper's list is there
  pub keeps_beside : (tells new_tells : Bool) (keeper : KeeperState) (kept all : List Change) → new_tells ≡ tells → Mark ≢ file → ((log : ℕ) → log_file log ≢ file) → image_file keeper.mark.image ≢ file → Keeps tells reads may_leave keeper kept all → Keeps new_tells new_reads new_leaves keeper kept all
  keeps_beside tells new_tells keeper kept all same no_mark no_log apart keeps = record {
    holds = record {
      stands = stands_still tells new_tells keeper.mark kept same no_mark (no_log keeper.mark.log) keeps.holds.stands;
      named = keeps.holds.named;
      ahead = keeps.holds.ahead;
      list = keeps.holds.list;
      whole = keeps.holds.whole;
      bytes = ap (take keeper.log.end) (others (log_file keeper.log.number) (no_log keeper.log.number)) ∙ keeps.holds.bytes;
    };
    front = keeps.front;
    image = image_stays keeper.mark kept apart keeps.image;
    built = keeps.built;
    system = keeps.system;
    places = keeps.places;
    history = keeps.history;
    count = keeps.count;
    faultless = keeps.faultless;
  }

-- ---- a disk that keeps a list, before the mark

module _ (tells : Bool) (reads : Image) (may_leave : Image → Type 0) (keeper : KeeperState) (kept all : List Change) (keeps : Keeps tells reads may_leave keeper kept all) where
  abbrev old : MarkState
  old = keeper.mark

  -- a crash now leaves files that stand for what is kept
  pub keeps_left : (c : Image) → may_leave c → FilesStandFor c kept
  keeps_left c left =
      let stands = keeps.holds.stands in
      inr (
        old,
        stands_on reads c old kept (stands.mark_stays c left) (stands.log_stays c left) stands.files,
        has_left reads may_leave old kept stands.files.numbers.image keeps.image c left,
        front_built tells reads may_leave keeper kept all keeps,
      )

  -- so one that breaks off now reads for that
  pub keeps_either : (other : List Change) → ReadsForEither tells reads may_leave kept other
  keeps_either other = record {
    stands = inl (record { told = keeps.holds.stands.told; stands = inr (old, keeps.holds.stands.files, keeps.image, front_built tells reads may_leave keeper kept all keeps, keeps.holds.stands.log_stays) });
    images = λ c left. inl (keeps_left c left);
  }

  -- while another file is written, which neither is the mark, nor a log, nor the image in use
  pub moment_beside : (file : FileId) (other : List Change) (told_before told : ℕ) (c : Image) → Mark ≢ file → ((log : ℕ) → log_file log ≢ file) → image_file old.image ≢ file → ComesFrom may_leave told_before file Anything told c → LeavesEither told_before kept other told c
  moment_beside file other told_before told c no_mark no_log apart from =
      let d = from.image in
      let was = from.was in
      let stands = keeps.holds.stands in
      let log = from.step.others (log_file old.log) (no_log old.log) in
      let image = from.step.others (image_file old.image) apart in
      let has : HasImage d old kept = has_left reads may_leave old kept stands.files.numbers.image keeps.image d was in
      record {
        told_is = from.told_is;
        files = inl (inr (
          old,
          stands_on reads c old kept (from.step.others Mark no_mark ∙ stands.mark_stays d was) (ap (take old.log_length) log ∙ stands.log_stays d was) stands.files,
          has_on d c old kept (ap (take old.image_length) image) has,
          front_built tells reads may_leave keeper kept all keeps,
        ));
      }

  -- ---- the mark that names the new image

  module _ (bytes : List ℕ) (is : IsImageText all bytes) (here : reads (image_file (other_image old.image)) ≡ bytes) (stays : Only (image_file (other_image old.image)) (reads (image_file (other_image old.image))) may_leave) where
    abbrev file : FileId
    file = image_file (other_image old.image)

    abbrev next : MarkState
    next = imaged_mark old keeper.log keeper.count (other_image old.image) (length bytes)

    -- files that hold its bytes have the image of the whole list
    begins : (c : Image) → c file ≡ bytes → HasImage c next all
    begins c same = inr (record {
      front = all;
      behind = [];
      parts = sym (append-nil all);
      position = keeps.holds.whole;
      image = is.image;
      lawful = is.lawful;
      of_front = is.of_list;
      whole = ap length is.spelled;
      bytes = ap (take (length bytes)) same ∙ take-length bytes ∙ is.spelled;
    })

    -- by the one mark or by the other
    pub either_imaged : (c d : Image) → may_leave d → ((other : FileId) → other ≢ Mark → other ≢ log_file keeper.log.number → c other ≡ d other) → StandForEither old kept next all c → FilesStandFor c kept ⊎ FilesStandFor c all
    either_imaged c d left same =
        let has : HasImage d old kept = has_left reads may_leave old kept keeps.holds.stands.files.numbers.image keeps.image d left in
        let in_use : c (image_file old.image) ≡ d (image_file old.image) = same (image_file old.image) (λ e. image_is_no_mark old.image (sym e)) (λ e. image_is_no_log keeper.log.number old.image (sym e)) in
        let filled_now : c file ≡ d file = same file (λ e. image_is_no_mark (other_image old.image) (sym e)) (λ e. image_is_no_log keeper.log.number (other_image old.image) (sym e)) in
        ⊎_elim
        (λ h. inl (inr (old, h, has_on d c old kept (ap (take old.image_length) in_use) has, front_built tells reads may_leave keeper kept all keeps)))
        (λ h. inr (inr (next, h, begins c (filled_now ∙ stays d left ∙ here), keeps.built)))

    pub leaves_imaged : (told_before told : ℕ) (c : Image) → LeavesBeside may_leave told_before (log_file keeper.log.number) (StandForEither old kept next all) told c → LeavesEither told_before kept all told c
    leaves_imaged told_before told c leaves = record { told_is = leaves.told_is; files = either_imaged c leaves.image leaves.was leaves.others leaves.here }

    -- after the commit, whether or not it succeeded
    module _ (new_tells : Bool) (new_reads : Image) (new_leaves : Image → Type 0) (others : (other : FileId) → other ≢ Mark → new_reads other ≡ reads other) (follows : Follows Mark Anything may_leave new_leaves) where
      no_mark : file ≢ Mark
      no_mark e = image_is_no_mark (other_image old.image) (sym e)

      keeps_new : KeepsImage new_reads new_leaves next all
      keeps_new =
          let reads_now : new_reads file ≡ bytes = others file no_mark ∙ here in
          record {
            has = begins new_reads reads_now;
            stays = λ named c left.
                let from = follows c left in
                ap (take (length bytes)) (from.2.others file no_mark ∙ stays from.0 from.1 ∙ here ∙ sym reads_now);
          }

      keeps_old : KeepsImage new_reads new_leaves old kept
      keeps_old = image_stays reads new_reads may_leave new_leaves Mark others follows old kept (λ e. image_is_no_mark old.image (sym e)) keeps.image

      reads_imaged : ReadForEither new_tells new_reads new_leaves old kept next all → ReadsFor new_tells new_reads new_leaves kept ⊎ ReadsFor new_tells new_reads new_leaves all
      reads_imaged = ⊎_elim
          (λ h. inl (record { told = h.told; stands = inr (old, h.files, keeps_old, front_built tells reads may_leave keeper kept all keeps, h.log_stays) }))
          (λ h. inr (record { told = h.told; stands = inr (next, h.files, keeps_new, keeps.built, h.log_stays) }))

      pub broke_off : ReadForEither new_tells new_reads new_leaves old kept next all → ((c : Image) → new_leaves c → (told : ℕ) × (told_before : ℕ) × LeavesBeside may_leave told_before (log_file keeper.log.number) (StandForEither old kept next all) told c) → ReadsForEither new_tells new_reads new_leaves kept all
      broke_off reading leaving = record {
        stands = reads_imaged reading;
        images = λ c left.
            let leaves = (leaving c left).2 in
            either_imaged c leaves.image leaves.was leaves.others leaves.here;
      }

      pub keeps_imaged : (log : LogEnd) (mark : MarkState) → mark ≡ next → Holds new_tells new_reads new_leaves log mark all all → Keeps new_tells new_reads new_leaves (record keeper { log = log; mark = mark }) all all
      keeps_imaged log mark is_next holds =
          let Image_of : MarkState → Type 0 = λ m. KeepsImage new_reads new_leaves m all in
          record {
            holds = holds;
            front = ([], sym (append-nil all));
            image = subst Image_of (sym is_next) keeps_new;
            built = keeps.built;
            system = keeps.system;
            places = keeps.places;
            history = keeps.history;
            count = keeps.count;
            faultless = keeps.faultless;
          }

-- ---- calls that change one file

-- but for one file each reads as before, and a crash leaves what it might have left before
pub record IsFilled {D : Type 0} (tells : D → Bool) (reads : D → Image) (may_leave : D → Image → Type 0) (moment : D → ℕ) (left_since : D → ℕ → ℕ → Image → Type 0) (beside : D → Beside) (file : FileId) (old new : D) : Type 0 where
  pub telling : tells new ≡ tells old
  pub others : (other : FileId) → other ≢ file → reads new other ≡ reads old other
  pub crash : Follows file Anything (may_leave old) (may_leave new)
  pub any_moment : LeavesOnly moment left_since old new (ComesFrom (may_leave old) (beside old).told file Anything)
  pub rest : beside new ≡ beside old

module _ {D : Type 0} (tells : D → Bool) (reads : D → Image) (may_leave : D → Image → Type 0) (moment : D → ℕ) (left_since : D → ℕ → ℕ → Image → Type 0) (beside : D → Beside) where
  abbrev Fills : FileId → D → D → Type 0
  Fills = IsFilled tells reads may_leave moment left_since beside

  abbrev KeepsOn : D → KeeperState → List Change → List Change → Type 0
  KeepsOn disk = Keeps (tells disk) (reads disk) (may_leave disk)

  -- a mark is committed
  pub marks : (mark next : MarkState) (old new : D) → tells new ≡ tells old → ((other : FileId) → other ≢ Mark → reads new other ≡ reads old other) → ((c : Image) → may_leave new c → HasEither (tells old) (reads old) (may_leave old) (beside old).told mark next (beside new).told c)
      → LeavesOnly moment left_since old new (HasEither (tells old) (reads old) (may_leave old) (beside old).told mark next) → beside new ≡ beside old → Fills Mark old new
  marks mark next old new telling others crash run rest = record {
    telling = telling;
    others = others;
    crash = λ c left.
        let from = (crash c left).from in
        (from.image, from.was, from.step);
    any_moment = weaker moment left_since old new (HasEither (tells old) (reads old) (may_leave old) (beside old).told mark next) (ComesFrom (may_leave old) (beside old).told Mark Anything) run (λ told c either. either.from);
    rest = rest;
  }

  -- as long as a change is pending the list stands
  pub for_either : (d mid : D) (told : ℕ) (changes other : List Change) → LeavesOnly moment left_since d mid (LeavesFor told changes) → LeavesOnly moment left_since d mid (LeavesEither told changes other)
  for_either d mid told changes other run = weaker moment left_since d mid (LeavesFor told changes) (LeavesEither told changes other) run (λ n c left. record { told_is = left.told_is; files = inl left.files })

  pub either_then : (d mid new : D) (changes other : List Change) → beside mid ≡ beside d → LeavesOnly moment left_since d mid (LeavesFor (beside d).told changes) → LeavesOnly moment left_since mid new (LeavesEither (beside mid).told changes other) → LeavesOnly moment left_since d new (LeavesEither (beside d).told changes other)
  either_then d mid new changes other same first second =
      joined moment left_since d mid new (LeavesEither (beside d).told changes other) (LeavesEither (beside mid).told changes other) (for_either d mid (beside d).told changes other first) second (λ n c left. record { told_is = left.told_is ∙ ap (λ (b : Beside). b.told) same; files = left.files })

  -- where no call is made
  pub either_still : (d : D) (keeper : KeeperState) (kept all other : List Change) → ((told : ℕ) (c : Image) → left_since d (moment d) told c → may_leave d c × (told ≡ (beside d).told)) → KeepsOn d keeper kept all → LeavesOnly moment left_since d d (LeavesEither (beside d).told kept other)
  either_still d keeper kept all other now keeps = started moment left_since d (LeavesEither (beside d).told kept other) (λ told c left.
      let h = now told c left in
      record { told_is = h.1; files = inl (keeps_left (tells d) (reads d) (may_leave d) keeper kept all keeps c h.0) })

  pub apart_still : (d : D) (log image : FileId) → ((told : ℕ) (c : Image) → left_since d (moment d) told c → may_leave d c × (told ≡ (beside d).told)) → LeavesOnly moment left_since d d (LeavesApart (may_leave d) (beside d).told log image)
  apart_still d log image now = started moment left_since d (LeavesApart (may_leave d) (beside d).told log image) (λ told c left.
      let h = now told c left in
      record { told_is = h.1; left = c; was = h.0; others = λ other no_mark no_log no_image. refl })

  -- the log alone is written
  pub apart_appended : (d mid : D) (log image : FileId) → LeavesOnly moment left_since d mid (LeavesBeside (may_leave d) (beside d).told log (λ e. ⊤)) → LeavesOnly moment left_since d mid (LeavesApart (may_leave d) (beside d).told log image)
  apart_appended d mid log image run = weaker moment left_since d mid (LeavesBeside (may_leave d) (beside d).told log (λ e. ⊤)) (LeavesApart (may_leave d) (beside d).told log image) run (λ told c left.
      record { told_is = left.told_is; left = left.image; was = left.was; others = λ other no_mark no_log no_image. left.others other no_mark no_log })

  pub apart_then : (d mid new : D) (log image : FileId) → beside mid ≡ beside d → ((t : ℕ) (c : Image) → t ≤ moment mid → may_leave mid c → left_since mid t (beside mid).told c)
      → LeavesOnly moment left_since d mid (LeavesBeside (may_leave d) (beside d).told log (λ e. ⊤)) → LeavesOnly moment left_since mid new (LeavesApart (may_leave mid) (beside mid).told log image) → LeavesOnly moment left_since d new (LeavesApart (may_leave d) (beside d).told log image)
  apart_then d mid new log image same counts first second =
      joined moment left_since d mid new (LeavesApart (may_leave d) (beside d).told log image) (LeavesApart (may_leave mid) (beside mid).told log image) (apart_appended d mid log image first) second (λ told c now.
      let h = first.each (beside mid).told now.left (counts (moment d) now.left first.later now.was) in
      record { told_is = now.told_is ∙ ap (λ (b : Beside). b.told) same; left = h.image; was = h.was; others = λ other no_mark no_log no_image. now.others other no_mark no_log no_image ∙ h.others other no_mark no_log })

  -- the image that isn't in use is written
  module _ (d mid : D) (keeper : KeeperState) (written : Fills (image_file (other_image keeper.mark.image)) d mid) where
    abbrev unused : FileId
    unused = image_file (other_image keeper.mark.image)

    abbrev log : FileId
    log = log_file keeper.log.number

    unused_is_no_mark : Mark ≢ unused
    unused_is_no_mark = image_is_no_mark (other_image keeper.mark.image)

    unused_is_no_log : (number : ℕ) → log_file number ≢ unused
    unused_is_no_log number = image_is_no_log number (other_image keeper.mark.image)

    pub apart_written : LeavesOnly moment left_since d mid (LeavesApart (may_leave d) (beside d).told log unused)
    apart_written = weaker moment left_since d mid (ComesFrom (may_leave d) (beside d).told unused Anything) (LeavesApart (may_leave d) (beside d).told log unused) written.any_moment (λ told c from.
        record { told_is = from.told_is; left = from.image; was = from.was; others = λ other no_mark no_log no_image. from.step.others other no_image })

    pub keeps_written : (kept all : List Change) → KeepsOn d keeper kept all → KeepsOn mid keeper kept all
    keeps_written kept all = keeps_beside (reads d) (reads mid) (may_leave d) (may_leave mid) unused written.others written.crash (tells d) (tells mid) keeper kept all written.telling unused_is_no_mark unused_is_no_log (images_differ keeper.mark.image)

    pub moments_written : (kept all other : List Change) → KeepsOn d keeper kept all → LeavesOnly moment left_since d mid (LeavesEither (beside d).told kept other)
    moments_written kept all other keeps = weaker moment left_since d mid (ComesFrom (may_leave d) (beside d).told unused Anything) (LeavesEither (beside d).told kept other) written.any_moment
        (λ told c from. moment_beside (tells d) (reads d) (may_leave d) keeper kept all keeps unused other (beside d).told told c unused_is_no_mark unused_is_no_log (images_differ keeper.mark.image) from)

    pub unwritten : (kept all : List Change) → KeepsOn d keeper kept all → ReadsForEither (tells mid) (reads mid) (may_leave mid) kept all
    unwritten kept all keeps = keeps_either (tells mid) (reads mid) (may_leave mid) keeper kept all (keeps_written kept all keeps) all

    -- and a mark is committed
    module _ (new : D) (marked : Fills Mark mid new) where
      same_told : (beside mid).told ≡ (beside d).told
      same_told = ap (λ (b : Beside). b.told) written.rest

      pub apart_marked : LeavesOnly moment left_since d new (LeavesApart (may_leave d) (beside d).told log unused)
      apart_marked = joined moment left_since d mid new (LeavesApart (may_leave d) (beside d).told log unused) (ComesFrom (may_leave mid) (beside mid).told Mark Anything) apart_written marked.any_moment (λ told c from.
          let earlier = written.crash from.image from.was in
          record {
            told_is = from.told_is ∙ same_told;
            left = earlier.0;
            was = earlier.1;
            others = λ other no_mark no_log no_image. from.step.others other no_mark ∙ earlier.2.others other no_image;
          })

      pub others_marked : (other : FileId) → other ≢ Mark → other ≢ unused → reads new other ≡ reads d other
      others_marked other no_mark no_image = marked.others other no_mark ∙ written.others other no_image

      -- by which the disk stands for the whole list
      module _ (kept all : List Change) (keeps : KeepsOn d keeper kept all) (bytes : List ℕ) (is : IsImageText all bytes) (here : reads mid unused ≡ bytes) (stays : Only unused (reads mid unused) (may_leave mid)) where
        abbrev fresh : MarkState
        fresh = imaged_mark keeper.mark keeper.log keeper.count (other_image keeper.mark.image) (length bytes)

        keeps_mid : KeepsOn mid keeper kept all
        keeps_mid = keeps_written kept all keeps

        abbrev Marks : ℕ → Image → Type 0
        Marks = LeavesBeside (may_leave mid) (beside mid).told log (StandForEither keeper.mark kept fresh all)

        pub moments_marked : LeavesOnly moment left_since mid new Marks → LeavesOnly moment left_since d new (LeavesEither (beside d).told kept all)
        moments_marked run = joined moment left_since d mid new (LeavesEither (beside d).told kept all) Marks (moments_written kept all all keeps) run (λ told c leaves.
            let either = leaves_imaged (tells mid) (reads mid) (may_leave mid) keeper kept all keeps_mid bytes is here stays (beside mid).told told c leaves in
            record { told_is = either.told_is ∙ same_told; files = either.files })

        pub unmarked : ReadForEither (tells new) (reads new) (may_leave new) keeper.mark kept fresh all → ((c : Image) → may_leave new c → Marks (beside new).told c) → ReadsForEither (tells new) (reads new) (may_leave new) kept all
        unmarked reading leaving = broke_off (tells mid) (reads mid) (may_leave mid) keeper kept all keeps_mid bytes is here stays (tells new) (reads new) (may_leave new) marked.others marked.crash reading (λ c left. ((beside new).told, (beside mid).told, leaving c left))

        pub keeps_marked : (end : LogEnd) (mark : MarkState) → mark ≡ fresh → Holds (tells new) (reads new) (may_leave new) end mark all all → KeepsOn new (record keeper { log = end; mark = mark }) all all
        keeps_marked end mark = keeps_imaged (tells mid) (reads mid) (may_leave mid) keeper kept all keeps_mid bytes is here stays (tells new) (reads new) (may_leave new) marked.others marked.crash end mark

-- ---- the keeper then

pub after_imaged : (inside before : KeeperState) (log : LogEnd) (mark : MarkState) (number n : ℕ) (bytes : List ℕ) → inside ≡ before → log ≡ inside.log → number ≡ other_image inside.mark.image → n ≡ length bytes → mark ≡ imaged_mark inside.mark inside.log inside.count number n
    → record { log = log; mark = mark; system = inside.system; history = inside.history; count = inside.count; fault = inside.fault } ≡ imaged before (length bytes)
after_imaged inside before log mark number n bytes same same_log is_number is_size is_mark =
    let log_now : log ≡ before.log = same_log ∙ ap (λ (k : KeeperState). k.log) same in
    let number_now : number ≡ other_image before.mark.image = is_number ∙ ap (λ (k : KeeperState). other_image k.mark.image) same in
    let mark_now : mark ≡ imaged_mark before.mark before.log before.count (other_image before.mark.image) (length bytes) = is_mark ∙ (λ i. imaged_mark (same i).mark (same i).log (same i).count (number_now i) (is_size i)) in
    λ i. record { log = log_now i; mark = mark_now i; system = (same i).system; history = (same i).history; count = (same i).count; fault = (same i).fault }
