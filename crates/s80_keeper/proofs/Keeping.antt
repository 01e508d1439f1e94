-- Changes kept later, and their commit: what the log says of them, by the mark, as the keeper says it.
use Rattle.std.proofs.Common.{◌≡◌, ◌≢◌, ◌⊎◌, inl, inr, ⊎_elim, ℕ, ◌+◌, Bool, List, [], ◌∷◌, ◌++◌, length, take, refl, sym, ap, ◌∙◌, subst, arith, append_assoc, append-nil, length-append}
use Rattle.std.specs.Prelude.{⊤}
use Rattle.std.proofs.lemmas.Grind.{flat_map-append}
use Rattle.std.proofs.lemmas.List.{nil_from_length}
use Rattle.std.proofs.lemmas.List.Elements.{All-push}
use Rattle.std.specs.List.{All}
use Rattle.s80_change.specs.declared.change.Change.{Change}
use Rattle.s80_disk.specs.declared.disk.FileId.{FileId}
use Rattle.s80_disk.specs.declared.disk.FileId.TheVariants.{Mark}
use Rattle.s80_disk.specs.Image.{Image}
use Rattle.s80_disk.specs.Moments.{ComesFrom}
use Rattle.s80_mark.specs.declared.mark.MarkState.{MarkState}
use Rattle.s80_change.specs.Block.{block, blocks, IsLawful}
use Rattle.s80_apply.specs.declared.step.Step.{Step}
use Rattle.s80_apply.specs.Accept.{accept}
use Rattle.s80_apply.specs.Placed.{accept_placed, placed_of}
use Rattle.s80_apply.specs.State.{State, kernel_state}
use Rattle.s80_apply.specs.System.{SystemState, HasPlaces, IsSystemOf, IsInstalled}
use Rattle.s80_apply.specs.List.{AreAccepted, IsBuilt, state_after, state_of}
use Rattle.s80_apply.proofs.lemmas.Lists.{built_more, places_are_more, state_is_more, is_accepted, is_after}
use Rattle.s80_history.specs.History.{HistoryState, IsHistoryOf}
use Rattle.s80_log.specs.Log.{LogEnd, log_file}
use Rattle.s80_log.specs.Standing.{FilesStandFor as StandByMark, ReadsFor as ReadsByMark, StandsFor as StandsByMark}
use Rattle.s80_log.specs.Commit.{Holds, LeavesBeside, ReadForEither, StandForEither}
use Rattle.s80_keeper.specs.Imaged.{KeepsImage}
use Rattle.s80_keeper.specs.Standing.{FilesStandFor, LeavesEither, LeavesFor, ReadsFor, StandsFor}
use Rattle.s80_keeper.specs.Keeper.{KeeperState, Keeps, pending_of}
use Rattle.s80_keeper.specs.Answers.{PreparedChange, IsFor, PlacesFor, HasTakenIn, longer, one_more}
use Rattle.s80_keeper.proofs.Counting.{counts_more, no_more}
use Rattle.s80_keeper.proofs.lemmas.Images.{image_beside}
use Rattle.s80_keeper.proofs.lemmas.Standing.{stands_leaves}

-- a disk that stands for a list by a mark that takes the log to its end holds no more
pub holds_all : (tells : Bool) (reads : Image) (may_leave : Image → Type 0) (log : LogEnd) (mark : MarkState) (changes : List Change) → StandsByMark tells reads may_leave mark changes → mark.log ≡ log.number → mark.log_length ≡ log.end → Holds tells reads may_leave log mark changes changes
holds_all tells reads may_leave log mark changes stands named ends = record {
  stands = stands;
  named = named;
  ahead = omega (arith, ends);
  list = stands.files.list;
  whole = sym ends ∙ stands.files.whole;
  bytes = ap (λ n. take n (reads (log_file log.number))) (sym ends) ∙ ap (λ n. take mark.log_length (reads (log_file n))) (sym named) ∙ stands.files.bytes;
}

-- a list has all of itself
pub all_kept : (changes : List Change) → (pending : List Change) × (changes ≡ changes ++ pending)
all_kept changes = ([], sym (append-nil changes))

-- the front of a list that is built is so
accepted_front : (state : State) (kept pending : List Change) → AreAccepted state (kept ++ pending) → AreAccepted state kept
accepted_front state [] pending accepted = tt
accepted_front state (change ∷ kept) pending accepted = (accepted.0, accepted_front (state_after change state) kept pending accepted.1)

-- a mark whose image the disk keeps, of a list that is built
module _ (tells : Bool) (reads : Image) (may_leave : Image → Type 0) (mark : MarkState) (changes : List Change) (image : KeepsImage reads may_leave mark changes) (built : IsBuilt changes) where
  pub stands_by_mark : StandsByMark tells reads may_leave mark changes → StandsFor tells reads may_leave changes
  stands_by_mark h = record { told = h.told; stands = inr (mark, h, image, built) }

  reads_by_mark : ReadsByMark tells reads may_leave mark changes → ReadsFor tells reads may_leave changes
  reads_by_mark h = record { told = h.told; stands = inr (mark, h.files, image, built, h.log_stays) }

pub leaves_kept : (reads : Image) (before : Image → Type 0) (told_before number : ℕ) (mark : MarkState) (changes : List Change) → KeepsImage reads before mark changes → IsBuilt changes → (told : ℕ) (c : Image) → LeavesBeside before told_before (log_file number) (λ d. StandByMark d mark changes) told c → LeavesFor told_before changes told c
leaves_kept reads before told_before number mark changes image built told c leaves =
    record { told_is = leaves.told_is; files = inr (mark, leaves.here, image_beside reads before number mark changes image told_before told (λ d. StandByMark d mark changes) c leaves, built) }

-- two marks, of which the disk keeps the images
module _ (reads : Image) (before : Image → Type 0) (mark next : MarkState) (changes all : List Change) (image : KeepsImage reads before mark changes) (next_image : KeepsImage reads before next all) (built : IsBuilt changes) (all_built : IsBuilt all) (told_before number told : ℕ) (c : Image) where
  abbrev Either : Image → Type 0
  Either = StandForEither mark changes next all

  pub either_list : LeavesBeside before told_before (log_file number) Either told c → FilesStandFor c changes ⊎ FilesStandFor c all
  either_list leaves =
      ⊎_elim (λ h. inl (inr (mark, h, image_beside reads before number mark changes image told_before told Either c leaves, built))) (λ h. inr (inr (next, h, image_beside reads before number next all next_image told_before told Either c leaves, all_built))) leaves.here

  pub leaves_either : LeavesBeside before told_before (log_file number) Either told c → LeavesEither told_before changes all told c
  leaves_either leaves = record { told_is = leaves.told_is; files = either_list leaves }

pub reads_either : (tells : Bool) (reads : Image) (may_leave : Image → Type 0) (mark next : MarkState) (changes all : List Change) → KeepsImage reads may_leave mark changes → KeepsImage reads may_leave next all → IsBuilt changes → IsBuilt all → ReadForEither tells reads may_leave mark changes next all → ReadsFor tells reads may_leave changes ⊎ ReadsFor tells reads may_leave all
reads_either tells reads may_leave mark next changes all image next_image built all_built = ⊎_elim (λ h. inl (reads_by_mark tells reads may_leave mark changes image built h)) (λ h. inr (reads_by_mark tells reads may_leave next all next_image all_built h))

-- what comes from an image of before by a change of the mark or of the log
pub elsewhere : (before : Image → Type 0) (told_before : ℕ) (log file : FileId) (change : List ℕ → List ℕ → Type 0) → ((other : FileId) → other ≢ Mark → other ≢ log → other ≢ file) → (told : ℕ) (c : Image) → ComesFrom before told_before file change told c → LeavesBeside before told_before log (λ d. ⊤) told c
elsewhere before told_before log file change apart told c from =
    record { told_is = from.told_is; here = tt; image = from.image; was = from.was; others = λ other no_mark no_log. from.step.others other (apart other no_mark no_log) }

pub still_elsewhere : (before : Image → Type 0) (told_before : ℕ) (log : FileId) (told : ℕ) (c : Image) → before c × (told ≡ told_before) → LeavesBeside before told_before log (λ d. ⊤) told c
still_elsewhere before told_before log told c left = record { told_is = left.1; here = tt; image = c; was = left.0; others = λ other no_mark no_log. refl }

-- a list with a change that was prepared in the state that it makes
module _ (changes : List Change) (system : SystemState) (prepared : PreparedChange) (ready : IsFor (state_of changes) system prepared) where
  pub built_kept : IsBuilt changes → IsBuilt (changes ++ prepared.change ∷ [])
  built_kept built =
      let made = ready.makes in
      built_more changes prepared.change built (is_accepted (accept prepared.change (state_of changes)) made.0 made.1)

  -- the system once its step is installed at the end of their log
  pub installed_kept : (end : ℕ) (now : SystemState) → IsInstalled system prepared.step end now → IsSystemOf now (state_of (changes ++ prepared.change ∷ []))
  installed_kept end now installed =
      let made = ready.makes in
      let after = is_after (accept prepared.change (state_of changes)) (state_of changes) made.0 made.1 in
      subst (IsSystemOf now) (state_is_more changes prepared.change made.0 after) (made.2 end now installed)

  -- with the places of its sources
  pub places_kept : PlacesFor (placed_of changes) system prepared → (end : ℕ) (now : SystemState) → end ≡ length (blocks changes) → IsInstalled system prepared.step end now → HasPlaces now (placed_of (changes ++ prepared.change ∷ []))
  places_kept places end now here installed =
      let made = places end in
      let after = is_after (accept_placed prepared.change end (placed_of changes)) (placed_of changes) made.0 made.1 in
      subst (HasPlaces now) (places_are_more changes prepared.change end here made.0 after) (made.2 now installed)

-- what is noted at the end of their log
pub noted_kept : (changes : List Change) (change : Change) (end at : ℕ) (before now : HistoryState) → at ≡ end → end ≡ length (blocks changes) → All IsLawful changes → IsLawful change → IsHistoryOf before changes → ((list : List Change) → All IsLawful (list ++ change ∷ []) → at ≡ length (blocks list) → IsHistoryOf before list → IsHistoryOf now (list ++ change ∷ [])) → IsHistoryOf now (changes ++ change ∷ [])
noted_kept changes change end at before now here whole list lawful is notes = notes changes (All-push IsLawful changes change list lawful) (here ∙ whole) is

-- what is installed behind the code's own log is so behind the keeper's
pub installed_at : (inside before : KeeperState) (step : Step) (at : ℕ) (now : SystemState) → inside ≡ before → at ≡ inside.log.end → IsInstalled inside.system step at now → IsInstalled before.system step before.log.end now
installed_at inside before step at now same here is =
    let InSystem : KeeperState → Type 0 = λ k. IsInstalled k.system step at now in
    let AtPlace : ℕ → Type 0 = λ n. IsInstalled before.system step n now in
    subst AtPlace (here ∙ ap (λ (k : KeeperState). k.log.end) same) (subst InSystem same is)

-- what becomes of the keeper's parts, once a block of this size is appended and taken in
pub after_taken : (inside before : KeeperState) (log : LogEnd) (system : SystemState) (history : HistoryState) (count size : ℕ) (change : Change) → inside ≡ before → size ≡ length (block change) → log ≡ longer inside.log size → count ≡ one_more inside.count → record { log = log; mark = inside.mark; system = system; history = history; count = count; fault = inside.fault } ≡ record before {
  log = longer before.log (length (block change));
  system = system;
  history = history;
  count = one_more before.count;
}
after_taken inside before log system history count size change same size_is log_is count_is =
    let log_now : log ≡ longer before.log (length (block change)) = log_is ∙ (λ i. longer (same i).log (size_is i)) in
    let count_now : count ≡ one_more before.count = count_is ∙ ap (λ (k : KeeperState). one_more k.count) same in
    λ i. record { log = log_now i; mark = (same i).mark; system = system; history = history; count = count_now i; fault = (same i).fault }

module _ (tells : Bool) (reads : Image) (may_leave : Image → Type 0) (keeper : KeeperState) (kept all : List Change) (keeps : Keeps tells reads may_leave keeper kept all) where
  -- what is kept is the front of a list that is built
  pub kept_built : IsBuilt kept
  kept_built = accepted_front kernel_state kept keeps.front.0 (subst IsBuilt keeps.front.1 keeps.built)

  -- the keeper after one change more was taken in
  pub keeps_later : (new_tells : Bool) (new_reads : Image) (new_leaves : Image → Type 0) (now : KeeperState) (prepared : PreparedChange) → KeepsImage new_reads new_leaves keeper.mark kept → IsFor (state_of all) keeper.system prepared → PlacesFor (placed_of all) keeper.system prepared → HasTakenIn prepared keeper now → Holds new_tells new_reads new_leaves now.log now.mark kept (all ++ prepared.change ∷ []) → IsHistoryOf now.history (all ++ prepared.change ∷ []) → Keeps new_tells new_reads new_leaves now kept (all ++ prepared.change ∷ [])
  keeps_later new_tells new_reads new_leaves now prepared image ready places after holds noted =
      let made = after.1 in
      let Image_of : MarkState → Type 0 = λ m. KeepsImage new_reads new_leaves m kept in
      record {
        holds = holds;
        front = (keeps.front.0 ++ prepared.change ∷ [], ap (λ l. l ++ prepared.change ∷ []) keeps.front.1 ∙ append_assoc kept keeps.front.0 (prepared.change ∷ []));
        image = subst Image_of (sym (ap (λ (k : KeeperState). k.mark) made)) image;
        built = built_kept all keeper.system prepared ready keeps.built;
        system = installed_kept all keeper.system prepared ready keeper.log.end now.system after.0;
        places = places_kept all keeper.system prepared ready places keeper.log.end now.system keeps.holds.whole after.0;
        history = noted;
        count = ap (λ (k : KeeperState). k.count) made ∙ counts_more all keeper.count keeps.holds.list keeps.count ∙ sym (length-append all (prepared.change ∷ []));
        faultless = ap (λ (k : KeeperState). k.fault) made ∙ keeps.faultless;
      }

  -- the keeper after a commit
  pub keeps_all : (new_tells : Bool) (new_reads : Image) (new_leaves : Image → Type 0) (log : LogEnd) (mark : MarkState) → KeepsImage new_reads new_leaves mark all → Holds new_tells new_reads new_leaves log mark all all → Keeps new_tells new_reads new_leaves (record keeper { log = log; mark = mark }) all all
  keeps_all new_tells new_reads new_leaves log mark image holds = record {
    holds = holds;
    front = all_kept all;
    image = image;
    built = keeps.built;
    system = keeps.system;
    places = keeps.places;
    history = keeps.history;
    count = keeps.count;
    faultless = keeps.faultless;
  }

  -- how long the blocks are that are pending
  pub pending_is : (pending : List Change) → all ≡ kept ++ pending → pending_of keeper ≡ length (blocks pending)
  pending_is pending front =
      let log : length (blocks all) ≡ length (blocks kept) + length (blocks pending) = ap (λ l. length (blocks l)) front ∙ ap length (flat_map-append block kept pending) ∙ length-append (blocks kept) (blocks pending) in
      omega (arith, log, keeps.holds.whole, keeps.holds.stands.files.whole)

  -- with nothing pending all is kept
  pub none_pending : pending_of keeper ≡ 0 → all ≡ kept
  none_pending none =
      let pending = keeps.front.0 in
      let few : length pending ≡ 0 = omega (arith, no_more pending, pending_is pending keeps.front.1, none) in
      keeps.front.1 ∙ ap (λ l. kept ++ l) (nil_from_length pending few) ∙ append-nil kept

  pub keeps_unpending : pending_of keeper ≡ 0 → Keeps tells reads may_leave keeper all all
  keeps_unpending none = subst (λ k. Keeps tells reads may_leave keeper k all) (sym (none_pending none)) keeps

  -- a crash now leaves what is kept
  pub images_stand : (c : Image) → may_leave c → FilesStandFor c kept
  images_stand = stands_leaves tells reads may_leave kept (stands_by_mark tells reads may_leave keeper.mark kept keeps.image kept_built keeps.holds.stands)

-- a keeper of which nothing changes, nor of its disk
pub keeps_still : {D : Type 0} (tells : D → Bool) (reads : D → Image) (may_leave : D → Image → Type 0) (old new : D) (keeper : KeeperState) (log : LogEnd) (kept all : List Change) → new ≡ old → log ≡ keeper.log → Keeps (tells old) (reads old) (may_leave old) keeper kept all → Keeps (tells new) (reads new) (may_leave new) (record { log = log; mark = keeper.mark; system = keeper.system; history = keeper.history; count = keeper.count; fault = keeper.fault }) kept all
keeps_still {D} tells reads may_leave old new keeper log kept all same same_log keeps =
    let OnDisk : D → Type 0 = λ d. Keeps (tells d) (reads d) (may_leave d) keeper kept all in
    let OfLog : LogEnd → Type 0 = λ l. Keeps (tells new) (reads new) (may_leave new) (record { log = l; mark = keeper.mark; system = keeper.system; history = keeper.history; count = keeper.count; fault = keeper.fault }) kept all in
    subst OfLog (sym same_log) (subst OnDisk (sym same) keeps)
