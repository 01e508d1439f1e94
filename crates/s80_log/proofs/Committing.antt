-- A disk that stands for a list, while a commit is made of it.
use Rattle.std.proofs.Common.{◌≡◌, ◌≤◌, inl, inr, ⊎_elim, ℕ, Bool, List, length, take, Some, refl, sym, ap, ◌∙◌, arith}
use Rattle.s80_change.specs.declared.change.Change.{Change}
use Rattle.s80_disk.specs.declared.disk.FileId.{FileId}
use Rattle.s80_disk.specs.declared.disk.FileId.TheVariants.{Mark}
use Rattle.s80_disk.specs.Image.{Image, Only}
use Rattle.s80_disk.specs.Moments.{Beside, Elapses, LeavesOnly}
use Rattle.s80_disk.proofs.lemmas.Run.{started, goes_on, joined}
use Rattle.s80_mark.specs.declared.mark.MarkState.{MarkState}
use Rattle.s80_mark.specs.Mark.{valid_mark}
use Rattle.s80_mark.specs.Commit.{CanCommit, HasEither}
use Rattle.s80_log.specs.Log.{LogEnd, log_file}
use Rattle.s80_log.specs.Standing.{marked_part, FilesStandFor, ReadsFor}
use Rattle.s80_log.specs.Commit.{next_mark, imaged_mark, fresh_mark, Holds, HoldsBeside, Carries, Takes, LeavesBeside, ReadForEither, StandForEither}
use Rattle.s80_log.proofs.Files.{log_is_no_mark, stands_on}

-- from one disk, and another that reads the same and of which a crash leaves no more
module _ {D : Type 0} (moment : D → ℕ) (left_since : D → ℕ → ℕ → Image → Type 0) (may_leave : D → Image → Type 0) (tells : D → Bool) (reads : D → Image) (beside : D → Beside) (old next : MarkState) (d mid : D) (same_tells : tells mid ≡ tells d) (same_reads : (file : FileId) → reads mid file ≡ reads d file) (crash : (c : Image) → may_leave mid c → may_leave d c) (same_beside : beside mid ≡ beside d) where
  abbrev Either : D → ℕ → Image → Type 0
  Either e = HasEither (tells e) (reads e) (may_leave e) (beside e).told old next

  same_told : (beside mid).told ≡ (beside d).told
  same_told = ap (λ (b : Beside). b.told) same_beside

  pub can_on : CanCommit (tells d) (reads d) (may_leave d) old next → CanCommit (tells mid) (reads mid) (may_leave mid) old next
  can_on can = record {
    told = same_tells ∙ can.told;
    valid = ap valid_mark (same_reads Mark) ∙ can.valid;
    durable = λ c left. can.durable c (crash c left) ∙ sym (same_reads Mark);
    follows = can.follows;
  }

  pub either_still : (told : ℕ) (c : Image) → may_leave d c × (told ≡ (beside d).told) → Either d told c
  either_still told c left = record {
    from = record { told_is = left.1; image = c; was = left.0; step = record { here = tt; others = λ other ne. refl } };
    mark = λ can. inl (ap valid_mark (can.durable c left.0) ∙ can.valid);
  }

  pub either_mid : (c : Image) → may_leave mid c → Either d (beside mid).told c
  either_mid c left = either_still _ c (crash c left, same_told)

  pub either_on : (told : ℕ) (c : Image) → Either mid told c → Either d told c
  either_on told c either = record {
    from = record { told_is = either.from.told_is ∙ same_told; image = either.from.image; was = crash either.from.image either.from.was; step = either.from.step };
    mark = λ can. either.mark (can_on can);
  }

  pub either_synced : ((told : ℕ) (c : Image) → left_since d (moment d) told c → may_leave d c × (told ≡ (beside d).told)) → Elapses moment left_since may_leave beside d mid → LeavesOnly moment left_since d mid (Either d)
  either_synced only_now time = goes_on moment left_since may_leave beside d d mid (Either d) (started moment left_since d (Either d) (λ told c left. either_still told c (only_now told c left))) time either_mid

  pub either_run : (new : D) → ((told : ℕ) (c : Image) → left_since d (moment d) told c → may_leave d c × (told ≡ (beside d).told)) → Elapses moment left_since may_leave beside d mid → LeavesOnly moment left_since mid new (Either mid) → LeavesOnly moment left_since d new (Either d)
  either_run new only_now time more = joined moment left_since d mid new (Either d) (Either mid) (either_synced only_now time) more either_on

  -- where the disk stands for a list, the log carries all changes, and the next mark takes it to its end
  module _ (log : LogEnd) (kept all : List Change) (carries : Carries (tells d) (reads d) (may_leave d) log old kept all) where
    abbrev Lists : ℕ → Image → Type 0
    Lists = LeavesBeside (may_leave d) (beside d).told (log_file log.number) (StandForEither old kept next all)

    pub lists_still : (told : ℕ) (c : Image) → may_leave d c × (told ≡ (beside d).told) → Lists told c
    lists_still told c left = record {
      told_is = left.1;
      here = inl (stands_on (reads d) c old kept carries.stands.files (carries.stands.mark_stays c left.0) (carries.stands.log_stays c left.0));
      image = c;
      was = left.0;
      others = λ other no_mark no_log. refl;
    }

    pub lists_mid : (c : Image) → may_leave mid c → Lists (beside mid).told c
    lists_mid c left = lists_still _ c (crash c left, same_told)

    pub lists_synced : ((told : ℕ) (c : Image) → left_since d (moment d) told c → may_leave d c × (told ≡ (beside d).told)) → Elapses moment left_since may_leave beside d mid → LeavesOnly moment left_since d mid Lists
    lists_synced only_now time = goes_on moment left_since may_leave beside d d mid Lists (started moment left_since d Lists (λ told c left. lists_still told c (only_now told c left))) time lists_mid

    -- where no mark was written it reads for what is kept
    pub reads_kept : ReadsFor (tells mid) (reads mid) (may_leave mid) old kept
    reads_kept =
        let same_part : marked_part old (reads mid) ≡ marked_part old (reads d) = ap (take old.log_length) (same_reads (log_file old.log)) in
        record {
          told = same_tells ∙ carries.stands.told;
          files = stands_on (reads d) (reads mid) old kept carries.stands.files (same_reads Mark) same_part;
          log_stays = λ c left. carries.stands.log_stays c (crash c left) ∙ sym same_part;
        }

    module _ (takes : Takes log all old next) (durable : Only (log_file log.number) (reads d (log_file log.number)) (may_leave mid)) where
      pub can : CanCommit (tells d) (reads d) (may_leave d) old next
      can = record { told = carries.stands.told; valid = carries.stands.files.valid; durable = carries.stands.mark_stays; follows = takes.follows }

      -- the part that the next mark takes
      taken : (c : Image) → marked_part next c ≡ take log.end (c (log_file log.number))
      taken c = ap (λ n. take n (c (log_file next.log))) takes.reached ∙ ap (λ n. take log.end (c (log_file n))) takes.named

      -- the files stand for what is kept where they have the old mark
      stands_old : (c : Image) → valid_mark (c Mark) ≡ Some old → marked_part old c ≡ marked_part old (reads d) → FilesStandFor c old kept
      stands_old c valid part =
          let files = carries.stands.files in
          record { valid = valid; numbers = files.numbers; list = files.list; whole = files.whole; bytes = part ∙ files.bytes; counted = files.counted }

      -- and for all where they have the next
      stands_next : (c : Image) → valid_mark (c Mark) ≡ Some next → c (log_file log.number) ≡ reads d (log_file log.number) → FilesStandFor c next all
      stands_next c valid same_log = record {
        valid = valid;
        numbers = takes.numbers;
        list = carries.list;
        whole = takes.reached ∙ carries.whole;
        bytes = taken c ∙ ap (take log.end) same_log ∙ carries.bytes;
        counted = λ two. takes.counted;
      }

      -- a commit of the mark leaves the part that the old one takes, and all of the log
      old_part : (told : ℕ) (c : Image) → Either mid told c → marked_part old c ≡ marked_part old (reads d)
      old_part told c either =
          let from = either.from in
          ap (take old.log_length) (from.step.others (log_file old.log) (λ e. log_is_no_mark old.log (sym e))) ∙ carries.stands.log_stays from.image (crash from.image from.was)

      same_log : (told : ℕ) (c : Image) → Either mid told c → c (log_file log.number) ≡ reads d (log_file log.number)
      same_log told c either = either.from.step.others (log_file log.number) (λ e. log_is_no_mark log.number (sym e)) ∙ durable either.from.image either.from.was

      pub lists_on : (told : ℕ) (c : Image) → Either mid told c → Lists told c
      lists_on told c either = record {
        told_is = either.from.told_is ∙ same_told;
        here = ⊎_elim (λ e. inl (stands_old c e (old_part told c either))) (λ e. inr (stands_next c e (same_log told c either))) (either.mark (can_on can));
        image = either.from.image;
        was = crash either.from.image either.from.was;
        others = λ other no_mark no_log. either.from.step.others other no_mark;
      }

      pub lists_run : (new : D) → ((told : ℕ) (c : Image) → left_since d (moment d) told c → may_leave d c × (told ≡ (beside d).told)) → Elapses moment left_since may_leave beside d mid → LeavesOnly moment left_since mid new (Either mid) → LeavesOnly moment left_since d new Lists
      lists_run new only_now time more = joined moment left_since d mid new Lists (Either mid) (lists_synced only_now time) more lists_on

      -- when the commit is made the disk stands for all
      pub holds_all : (new : D) → tells new ≡ tells mid → valid_mark (reads new Mark) ≡ Some next → Only Mark (reads new Mark) (may_leave new) → reads new (log_file log.number) ≡ reads mid (log_file log.number) → ((c : Image) → may_leave new c → Either mid (beside new).told c) → Holds (tells new) (reads new) (may_leave new) log next all all
      holds_all new told valid mark_stays read left =
          let read_all : reads new (log_file log.number) ≡ reads d (log_file log.number) = read ∙ same_reads (log_file log.number) in
          record {
            stands = record {
              told = told ∙ same_tells ∙ carries.stands.told;
              files = stands_next (reads new) valid read_all;
              mark_stays = mark_stays;
              log_stays = λ c now. taken c ∙ ap (take log.end) (same_log _ c (left c now) ∙ sym read_all) ∙ sym (taken (reads new));
            };
            named = takes.named;
            ahead = omega (arith, takes.reached);
            list = carries.list;
            whole = carries.whole;
            bytes = ap (take log.end) read_all ∙ carries.bytes;
          }

      -- whatever became of the mark, it reads for the one list or for the other
      pub reads_either : (new : D) → tells new ≡ tells mid → may_leave new (reads new) → ((c : Image) → may_leave new c → Either mid (beside new).told c) → ReadForEither (tells new) (reads new) (may_leave new) old kept next all
      reads_either new told here left =
          let now = left (reads new) here in
          let tells_new = told ∙ same_tells ∙ carries.stands.told in
          let old_stays : (c : Image) → may_leave new c → marked_part old c ≡ marked_part old (reads new) = λ c still. old_part _ c (left c still) ∙ sym (old_part _ (reads new) now) in
          let next_stays : (c : Image) → may_leave new c → marked_part next c ≡ marked_part next (reads new) = λ c still. taken c ∙ ap (take log.end) (same_log _ c (left c still) ∙ sym (same_log _ (reads new) now)) ∙ sym (taken (reads new)) in
          ⊎_elim
          (λ h. inl (record { told = tells_new; files = h; log_stays = old_stays }))
          (λ h. inr (record { told = tells_new; files = h; log_stays = next_stays }))
          (lists_on _ (reads new) now).here

-- the next mark takes the log to its end
pub takes_next : (tells : Bool) (reads : Image) (may_leave : Image → Type 0) (log : LogEnd) (mark : MarkState) (kept all : List Change) (count : ℕ) → Holds tells reads may_leave log mark kept all → count ≡ length all → Takes log all mark (next_mark mark log count)
takes_next tells reads may_leave log mark kept all count holds counts =
    let numbers = holds.stands.files.numbers in
    record {
      follows = refl;
      numbers = record { log = omega (arith, holds.named, numbers.log); image = numbers.image; format = inr refl };
      named = refl;
      reached = refl;
      counted = counts;
    }

-- so does the one that names an image
pub takes_imaged : (tells : Bool) (reads : Image) (may_leave : Image → Type 0) (log : LogEnd) (mark : MarkState) (kept all : List Change) (count image size : ℕ) → image ≤ 1 → Holds tells reads may_leave log mark kept all → count ≡ length all
    → Takes log all mark (imaged_mark mark log count image size)
takes_imaged tells reads may_leave log mark kept all count image size number holds counts =
    let numbers = holds.stands.files.numbers in
    record {
      follows = refl;
      numbers = record { log = omega (arith, holds.named, numbers.log); image = inl number; format = inr refl };
      named = refl;
      reached = refl;
      counted = counts;
    }

-- so does the one by which it counts alone
pub takes_fresh : (tells : Bool) (reads : Image) (may_leave : Image → Type 0) (log : LogEnd) (mark : MarkState) (kept all : List Change) (count : ℕ) → HoldsBeside tells reads may_leave log mark kept all → count ≡ length all → Takes log all mark (fresh_mark mark log count)
takes_fresh tells reads may_leave log mark kept all count holds counts = record {
  follows = refl;
  numbers = record { log = holds.number; image = inr refl; format = inr refl };
  named = refl;
  reached = refl;
  counted = counts;
}
