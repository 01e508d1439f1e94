-- What a start leaves of the files, and the first mark that it makes.
use Rattle.std.proofs.Common.{◌≡◌, ◌≢◌, ◌⊎◌, ◌-◌, inl, inr, ⊎_elim, ℕ, Bool, IsTrue, List, [], length, ◌≤◌, Some, None, Ok, refl, sym, ap, ◌∙◌, subst, arith}
use Rattle.std.proofs.lemmas.List.Elements.{All-nil}
use Rattle.s80_change.specs.declared.change.Change.{Change}
use Rattle.s80_change.specs.Block.{IsLawful}
use Rattle.s80_disk.specs.declared.disk.FileId.{FileId}
use Rattle.s80_disk.specs.declared.disk.FileId.TheVariants.{Mark, Log0, Log1}
use Rattle.s80_disk.specs.Image.{Image, Only}
use Rattle.s80_disk.specs.Untouched.{StillLeft}
use Rattle.s80_mark.specs.declared.mark.MarkState.{MarkState}
use Rattle.s80_mark.specs.Mark.{format_two, valid_mark}
use Rattle.s80_mark.specs.Found.{AreLogsEmpty}
use Rattle.s80_mark.specs.Init.{SyncsFirst}
use Rattle.s80_apply.specs.State.{kernel_state}
use Rattle.s80_apply.specs.Placed.{placed_kernel_state}
use Rattle.s80_apply.specs.System.{SystemState, HasPlaces, IsSystemOf}
use Rattle.s80_history.specs.History.{HistoryState, IsHistoryOf}
use Rattle.s80_log.specs.Log.{LogEnd, held_in, log_file}
use Rattle.s80_log.specs.Standing.{StandsFor as StandsByMark}
use Rattle.s80_keeper.specs.Imaged.{KeepsImage}
use Rattle.s80_keeper.specs.Keeper.{KeeperState, Keeps, pending_of}
use Rattle.s80_keeper.specs.Standing.{FilesStandFor, ReadsFor, StandsFor, LeavesEither, LeavesFor}
use Rattle.s80_keeper.specs.Start.{IsStart, StartLeaves}
use Rattle.s80_keeper.proofs.Keeping.{all_kept, holds_all}
use Rattle.s80_keeper.proofs.OneList.{empty_list}
use Rattle.s80_keeper.proofs.lemmas.Standing.{stands_leaves, reads_so}

-- where the logs are empty, so is the list
pub none_kept : (tells : Bool) (reads : Image) (may_leave : Image → Type 0) (changes : List Change) → ReadsFor tells reads may_leave changes → AreLogsEmpty reads → changes ≡ []
none_kept tells reads may_leave changes stands empty = ⊎_elim (λ none. none.1) (λ by_mark. empty_list reads by_mark.0 changes empty by_mark.1) stands.stands

abbrev first_mark : MarkState
first_mark = record { sequence = 1; log = 0; log_length = 0; image = 255; image_length = 0; image_position = 0; format = format_two; count = 0 }

module _ (tells : Bool) (reads : Image) (may_leave : Image → Type 0) (changes : List Change) (told : IsTrue tells) (none : changes ≡ []) (durable : Only Mark (reads Mark) may_leave) where
  -- a disk whose mark is the first one stands for no change
  stands_none : valid_mark (reads Mark) ≡ Some first_mark → StandsByMark tells reads may_leave first_mark []
  stands_none valid = record {
    told = told;
    files = record {
      valid = valid;
      numbers = record { log = omega arith; image = inr refl; format = inr refl };
      list = record { lawful = All-nil IsLawful; within = omega arith };
      whole = refl;
      bytes = refl;
      counted = λ two. refl;
    };
    mark_stays = durable;
    log_stays = λ c left. refl;
  }

  no_image : KeepsImage reads may_leave first_mark []
  no_image = record { has = inl refl; stays = λ named. absurd (named refl) }

  -- also where there is no memory for the classes
  pub first_stands : (mark : MarkState) → mark ≡ first_mark → valid_mark (reads Mark) ≡ Some mark → StandsFor tells reads may_leave changes
  first_stands mark first valid =
      let P : List Change → Type 0 = StandsFor tells reads may_leave in
      subst P (sym none) record { told = told; stands = inr (first_mark, stands_none (valid ∙ ap Some first), no_image, tt) }

  keeps_none : (system : SystemState) (history : HistoryState) → IsSystemOf system kernel_state → HasPlaces system placed_kernel_state → IsHistoryOf history [] → valid_mark (reads Mark) ≡ Some first_mark → Keeps tells reads may_leave (record { log = record { number = 0; end = 0 }; mark = first_mark; system = system; history = history; count = 0; fault = None }) [] []
  keeps_none system history kernel places noted valid = record {
    holds = holds_all tells reads may_leave (record { number = 0; end = 0 }) first_mark [] (stands_none valid) refl refl;
    front = all_kept [];
    image = no_image;
    built = tt;
    system = kernel;
    places = places;
    history = noted;
    count = refl;
    faultless = refl;
  }

  pub first_keeps : (log : LogEnd) (mark : MarkState) (system : SystemState) (history : HistoryState) (keeper : KeeperState) → log ≡ record { number = 0; end = 0 } → mark ≡ first_mark → IsSystemOf system kernel_state → HasPlaces system placed_kernel_state → IsHistoryOf history [] → valid_mark (reads Mark) ≡ Some mark → keeper ≡ record { log = log; mark = mark; system = system; history = history; count = 0; fault = None } → Keeps tells reads may_leave keeper changes changes
  first_keeps log mark system history keeper log_is first kernel places noted valid is =
      let P : List Change → KeeperState → Type 0 = λ l k. Keeps tells reads may_leave k l l in
      let made : keeper ≡ record { log = record { number = 0; end = 0 }; mark = first_mark; system = system; history = history; count = 0; fault = None } = is ∙ (λ i. record { log = log_is i; mark = first i; system = system; history = history; count = 0; fault = None }) in
      subst (λ l. P l keeper) (sym none) (subst (P []) (sym made) (keeps_none system history kernel places noted (valid ∙ ap Some first)))

-- empty logs are those of no change
pub first_start : (reads : Image) (log : LogEnd) (mark : MarkState) (system : SystemState) (history : HistoryState) (keeper : KeeperState) → AreLogsEmpty reads → log ≡ record { number = 0; end = 0 } → IsSystemOf system kernel_state → HasPlaces system placed_kernel_state → IsHistoryOf history [] → keeper ≡ record { log = log; mark = mark; system = system; history = history; count = 0; fault = None } → IsStart reads (Ok keeper)
first_start reads log mark system history keeper empty first kernel places noted is = inl (
  [],
  inl (empty, refl),
  record {
    log = ap (λ (k : KeeperState). held_in reads k.log) is ∙ ap (held_in reads) first;
    lawful = All-nil IsLawful;
    system = subst (λ s. IsSystemOf s kernel_state) (sym (ap (λ (k : KeeperState). k.system) is)) kernel;
    places = subst (λ s. HasPlaces s placed_kernel_state) (sym (ap (λ (k : KeeperState). k.system) is)) places;
    history = subst (λ h. IsHistoryOf h []) (sym (ap (λ (k : KeeperState). k.history) is)) noted;
    count = ap (λ (k : KeeperState). k.count) is;
  },
)

module _ (reads : Image) (before : Image → Type 0) (told_before : ℕ) where
  pub still_left : (told : ℕ) (c : Image) → StillLeft before told_before told c → StartLeaves reads before told_before told c
  still_left told c left = record { told_is = left.told_is; files = inl left.was }

  -- from a disk that reads the same, and of which a crash leaves no more
  module _ (mid : Image → Type 0) (told_mid : ℕ) (same : told_mid ≡ told_before) (crash : (c : Image) → mid c → before c) where
    pub left_on : (told : ℕ) (c : Image) → StillLeft mid told_mid told c → StartLeaves reads before told_before told c
    left_on told c left = record { told_is = left.told_is ∙ same; files = inl (crash c left.was) }

    pub synced_on : (now : Image) → ((file : FileId) → now file ≡ reads file) → AreLogsEmpty reads → (told : ℕ) (c : Image) → SyncsFirst now mid told_mid told c → StartLeaves reads before told_before told c
    synced_on now read empty told c left = record {
      told_is = left.told_is ∙ same;
      files = ⊎_elim (λ was. inl (crash c was)) (λ logs. inr (empty, (logs.0 ∙ read Log0 ∙ empty.0, logs.1 ∙ read Log1 ∙ empty.1))) left.logs;
    }

-- a start from a disk that stands for a list leaves files that do
pub leaves_for : (tells : Bool) (reads : Image) (before : Image → Type 0) (changes : List Change) → StandsFor tells reads before changes → (told_before told : ℕ) (c : Image) → StartLeaves reads before told_before told c → LeavesFor told_before changes told c
leaves_for tells reads before changes stands told_before told c left = record {
  told_is = left.told_is;
  files = ⊎_elim (stands_leaves tells reads before changes stands c) (λ empty. inl (empty.1, none_kept tells reads before changes (reads_so tells reads before changes stands) empty.0)) left.files;
}

-- and one from a disk that reads for a list, of which a crash leaves that list or another
pub leaves_killed : (tells : Bool) (reads : Image) (before : Image → Type 0) (changes was : List Change) → ReadsFor tells reads before changes → ((c : Image) → before c → FilesStandFor c changes ⊎ FilesStandFor c was) → (told_before told : ℕ) (c : Image) → StartLeaves reads before told_before told c → LeavesEither told_before changes was told c
leaves_killed tells reads before changes was is images told_before told c left = record {
  told_is = left.told_is;
  files = ⊎_elim (images c) (λ empty. inl (inl (empty.1, none_kept tells reads before changes is empty.0))) left.files;
}

-- where the logs are empty, and only the mark may be written, the disk goes on to read for no change
pub still_empty : (tells : Bool) (reads mid now : Image) (may_leave : Image → Type 0) (changes : List Change) → IsTrue tells → AreLogsEmpty reads → changes ≡ [] → ((file : FileId) → mid file ≡ reads file) → ((file : FileId) → file ≢ Mark → now file ≡ mid file) → ReadsFor tells now may_leave changes
still_empty tells reads mid now may_leave changes told empty none same others = record {
  told = told;
  stands = inl ((others Log0 (λ e. absurd cc) ∙ same Log0 ∙ empty.0, others Log1 (λ e. absurd cc) ∙ same Log1 ∙ empty.1), none);
}

-- a log and a mark that begin at nothing
pub settled_first : (log : LogEnd) (mark : MarkState) (keeper : KeeperState) (system : SystemState) (history : HistoryState) → log ≡ record { number = 0; end = 0 } → keeper ≡ record { log = log; mark = mark; system = system; history = history; count = 0; fault = None } → pending_of keeper ≡ 0
settled_first log mark keeper system history first is = ap pending_of is ∙ ap (λ (l : LogEnd). l.end - mark.log_length) first ∙ omega arith

-- of which the log has all bytes
pub whole_first : (reads : Image) (log : LogEnd) (mark : MarkState) (keeper : KeeperState) (system : SystemState) (history : HistoryState) → log ≡ record { number = 0; end = 0 } → keeper ≡ record { log = log; mark = mark; system = system; history = history; count = 0; fault = None } → keeper.log.end ≤ length (reads (log_file keeper.log.number))
whole_first reads log mark keeper system history first is =
    let none : keeper.log.end ≡ 0 = ap (λ (k : KeeperState). k.log.end) is ∙ ap (λ (l : LogEnd). l.end) first in
    omega (arith, none)
