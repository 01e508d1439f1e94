-- A keeper that is made beside the one at work: what it has, and what the disk stands for.
use Rattle.std.proofs.Common.{◌≡◌, inl, ℕ, ◌+◌, Bool, List, [], ◌∷◌, ◌++◌, length, take, drop, Some, None, Result, Ok, Err, refl, sym, ap, ◌∙◌, subst, arith, append_assoc, length-append, ◌-◌}
use Rattle.std.specs.Prelude.{slice_get, ⊤}
use Rattle.std.specs.List.{All}
use Rattle.std.proofs.lemmas.Grind.{flat_map-append}
use Rattle.std.proofs.lemmas.List.{take_more, take-append-drop}
use Rattle.std.proofs.lemmas.List.Elements.{All-push, All-get_or}
use Rattle.std.proofs.lemmas.Option.{get_or_from_slice_get, slice_get_within}
use Rattle.s80_base.specs.declared.outside.Failed.{Failed}
use Rattle.s80_change.specs.declared.change.Change.{Change}
use Rattle.s80_change.specs.Block.{block, blocks, IsLawful, IsList}
use Rattle.s80_form.specs.declared.refusal.Refusal.{Refusal}
use Rattle.s80_disk.specs.Image.{Image}
use Rattle.s80_disk.specs.Moments.{LeavesOnly}
use Rattle.s80_disk.proofs.lemmas.Run.{joined, started}
use Rattle.s80_apply.specs.Accept.{accept}
use Rattle.s80_apply.specs.List.{IsBuilt, refusal_to, state_after, state_of}
use Rattle.s80_apply.specs.Placed.{placed_after, placed_of}
use Rattle.s80_apply.specs.System.{SystemState, HasPlaces, IsSystemOf}
use Rattle.s80_apply.proofs.lemmas.Lists.{accepted_here, built_more, places_are_more, state_is_more}
use Rattle.s80_history.specs.History.{HistoryState, IsHistoryOf}
use Rattle.s80_log.specs.Commit.{Holds, HoldsBeside, fresh_mark}
use Rattle.s80_log.specs.Log.{LogEnd}
use Rattle.s80_log.specs.Standing.{StandsFor as StandsByMark}
use Rattle.s80_mark.specs.declared.mark.MarkState.{MarkState}
use Rattle.s80_keeper.specs.declared.keep.KeepFault.{KeepFault}
use Rattle.s80_keeper.specs.declared.keep.KeepFault.TheVariants as faults
use Rattle.s80_keeper.specs.declared.start.Damage.TheVariants.{NoMark, BadMark, LogShort, ImageShort, BadImage, BadBlock, Replay, CountDiffers}
use Rattle.s80_keeper.specs.declared.start.StartFault.{StartFault}
use Rattle.s80_keeper.specs.declared.start.StartFault.TheVariants as start_faults
use Rattle.s80_keeper.specs.Answers.{IfKeepDisk, UnlessKeepDisk, one_more}
use Rattle.s80_keeper.specs.Condensing.{HasMoved, IsOpen}
use Rattle.s80_keeper.specs.Imaged.{KeepsImage}
use Rattle.s80_keeper.specs.Keeper.{KeeperState, Keeps, pending_of}
use Rattle.s80_keeper.specs.Reading.{Accepts}
use Rattle.s80_keeper.specs.Renewing.{ByAnswer, CountsAlone, HasMade, IsBeside, MayFollow, fault_of_start, grown}
use Rattle.s80_keeper.specs.Standing.{LeavesFor, ReadsForEither, StandsFor}
use Rattle.s80_keeper.specs.Start.{IfStartDisk}
use Rattle.s80_keeper.proofs.Accepted.{unrefusing}
use Rattle.s80_keeper.proofs.Counting.{counts_more}
use Rattle.s80_keeper.proofs.Keeping.{all_kept, holds_all, stands_by_mark}
use Rattle.s80_keeper.proofs.lemmas.Standing.{reads_so, stands_leaves}

-- ---- by what is answered

-- the same fault of another call
pub failed_so : (T U : Type 0) (fault : KeepFault) (done : T → Type 0) (made : U → Type 0) (wanting broken other_wanting other_broken : Type 0) → (wanting → other_wanting) → (broken → other_broken) → ByAnswer {T = T} (Err fault) done wanting broken → ByAnswer {T = U} (Err fault) made other_wanting other_broken
failed_so T U faults.Memory done made wanting broken other_wanting other_broken wants breaks holds = wants holds
failed_so T U (faults.Disk failed) done made wanting broken other_wanting other_broken wants breaks holds = breaks holds
failed_so T U (faults.Closed failed) done made wanting broken other_wanting other_broken wants breaks holds = absurd holds
failed_so T U (faults.Full count) done made wanting broken other_wanting other_broken wants breaks holds = absurd holds
failed_so T U (faults.Damaged damage) done made wanting broken other_wanting other_broken wants breaks holds = absurd holds

-- the same answer
pub answered_so : {T : Type 0} (result : Result T KeepFault) (done made : T → Type 0) (wanting broken other_wanting other_broken : Type 0) → ((value : T) → done value → made value) → (wanting → other_wanting) → (broken → other_broken) → ByAnswer result done wanting broken → ByAnswer result made other_wanting other_broken
answered_so (Ok value) done made wanting broken other_wanting other_broken does wants breaks holds = does value holds
answered_so {T} (Err fault) done made wanting broken other_wanting other_broken does wants breaks holds = failed_so T T fault done made wanting broken other_wanting other_broken wants breaks holds

pub open_so : (T U : Type 0) (fault : KeepFault) → IsOpen {T = T} (Err fault) → IsOpen {T = U} (Err fault)
open_so T U faults.Memory is = tt
open_so T U (faults.Disk failed) is = tt
open_so T U (faults.Closed failed) is = absurd is
open_so T U (faults.Full count) is = absurd is
open_so T U (faults.Damaged damage) is = tt

pub if_disk_so : (T U : Type 0) (fault : KeepFault) (P : Failed → Type 0) → IfKeepDisk {T = T} (Err fault) P → IfKeepDisk {T = U} (Err fault) P
if_disk_so T U faults.Memory P is = tt
if_disk_so T U (faults.Disk failed) P is = is
if_disk_so T U (faults.Closed failed) P is = tt
if_disk_so T U (faults.Full count) P is = tt
if_disk_so T U (faults.Damaged damage) P is = tt

pub unless_disk_so : (T U : Type 0) (fault : KeepFault) (P : Type 0) → UnlessKeepDisk {T = T} (Err fault) P → UnlessKeepDisk {T = U} (Err fault) P
unless_disk_so T U faults.Memory P is = is
unless_disk_so T U (faults.Disk failed) P is = tt
unless_disk_so T U (faults.Closed failed) P is = is
unless_disk_so T U (faults.Full count) P is = is
unless_disk_so T U (faults.Damaged damage) P is = is

-- a call that asks no disk
pub offline_so : {T : Type 0} (P : Failed → Type 0) (result : Result T KeepFault) → IfKeepDisk result (λ failed. ⊥) → IfKeepDisk result P
offline_so P (Ok value) none = tt
offline_so P (Err faults.Memory) none = tt
offline_so P (Err (faults.Disk failed)) none = absurd none
offline_so P (Err (faults.Closed failed)) none = tt
offline_so P (Err (faults.Full count)) none = tt
offline_so P (Err (faults.Damaged damage)) none = tt

-- what holds at all
pub unless_all : {T : Type 0} (P : Type 0) (result : Result T KeepFault) → P → UnlessKeepDisk result P
unless_all P (Ok value) holds = holds
unless_all P (Err faults.Memory) holds = holds
unless_all P (Err (faults.Disk failed)) holds = tt
unless_all P (Err (faults.Closed failed)) holds = holds
unless_all P (Err (faults.Full count)) holds = holds
unless_all P (Err (faults.Damaged damage)) holds = holds

-- ---- what a crash leaves

module _ {D : Type 0} (moment : D → ℕ) (left_since : D → ℕ → ℕ → Image → Type 0) (kept : List Change) where
  -- where no call was made
  pub leaves_still : (tells : D → Bool) (reads : D → Image) (may_leave : D → Image → Type 0) (disk : D) (told : ℕ) → ((t : ℕ) (c : Image) → left_since disk (moment disk) t c → may_leave disk c × (t ≡ told)) → StandsFor (tells disk) (reads disk) (may_leave disk) kept → LeavesOnly moment left_since disk disk (LeavesFor told kept)
  leaves_still tells reads may_leave disk told now stands = started moment left_since disk (LeavesFor told kept) (λ t c left.
      let h = now t c left in
      record { told_is = h.1; files = stands_leaves (tells disk) (reads disk) (may_leave disk) kept stands c h.0 })

  -- one run behind another
  pub leaves_then : (old mid new : D) (told told_mid : ℕ) → told_mid ≡ told → LeavesOnly moment left_since old mid (LeavesFor told kept) → LeavesOnly moment left_since mid new (LeavesFor told_mid kept) → LeavesOnly moment left_since old new (LeavesFor told kept)
  leaves_then old mid new told told_mid same first second =
      joined moment left_since old mid new (LeavesFor told kept) (LeavesFor told_mid kept) first second (λ t c left. record { told_is = left.told_is ∙ same; files = left.files })

-- ---- the keeper at work

module _ (tells : Bool) (reads : Image) (may_leave : Image → Type 0) where
  -- a disk that stands for the list by a mark, whose image it keeps, has the one list or the other
  pub stands_for_either : (mark : MarkState) (kept other : List Change) → KeepsImage reads may_leave mark kept → IsBuilt kept → StandsByMark tells reads may_leave mark kept → ReadsForEither tells reads may_leave kept other
  stands_for_either mark kept other image built by_mark =
      let stands = stands_by_mark tells reads may_leave mark kept image built by_mark in
      record { stands = inl (reads_so tells reads may_leave kept stands); images = λ c left. inl (stands_leaves tells reads may_leave kept stands c left) }

  -- where nothing is pending the keeper at work keeps its list, as long as the disk stands for it by its mark
  pub still_keeps : (old_tells : Bool) (old_reads : Image) (old_leaves : Image → Type 0) (keeper : KeeperState) (kept : List Change) → Keeps old_tells old_reads old_leaves keeper kept kept → pending_of keeper ≡ 0 → KeepsImage reads may_leave keeper.mark kept → StandsByMark tells reads may_leave keeper.mark kept → Keeps tells reads may_leave keeper kept kept
  still_keeps old_tells old_reads old_leaves keeper kept keeps none image stands = record {
    holds = holds_all tells reads may_leave keeper.log keeper.mark kept stands keeps.holds.named (omega (arith, keeps.holds.ahead, none));
    front = keeps.front;
    image = image;
    built = keeps.built;
    system = keeps.system;
    places = keeps.places;
    history = keeps.history;
    count = keeps.count;
    faultless = keeps.faultless;
  }

  -- once its log counts alone the keeper beside keeps its list
  pub keeps_alone : (old_tells : Bool) (old_reads : Image) (old_leaves : Image → Type 0) (keeper : KeeperState) (kept all : List Change) (log : LogEnd) (mark : MarkState) → KeepsImage reads may_leave mark all → IsBeside old_tells old_reads old_leaves keeper kept all → Holds tells reads may_leave log mark all all → Keeps tells reads may_leave (record keeper { log = log; mark = mark }) all all
  keeps_alone old_tells old_reads old_leaves keeper kept all log mark image beside holds = record {
    holds = holds;
    front = all_kept all;
    image = image;
    built = beside.made.built;
    system = beside.made.system;
    places = beside.made.places;
    history = beside.made.history;
    count = beside.made.count;
    faultless = beside.faultless;
  }

-- ---- one change more

module _ (done : List Change) (change : Change) (may : MayFollow done change) where
  -- it isn't refused
  not_refused : (refusal : Refusal) (at : ℕ) → at ≡ length (blocks done) → refusal_to (state_of done) at change ≡ Some refusal → ⊥
  not_refused refusal at here is =
      let none : refusal_to (state_of done) at change ≡ None = unrefusing (accept change (state_of done)) at (length (block change)) may.accepted (omega (arith, here, may.within)) in
      absurd cc

  -- no fault but want of memory comes of it
  pub taken_fault : (T U : Type 0) (now : SystemState) (fault : StartFault) (made : U → Type 0) (at : ℕ) → at ≡ length (blocks done) → Accepts {T = T} (state_of done) now at change (Err fault) → ByAnswer {T = U} (Err (fault_of_start fault)) made ⊤ ⊥
  taken_fault T U now start_faults.Memory made at here is = tt
  taken_fault T U now (start_faults.Disk failed) made at here is = absurd is
  taken_fault T U now (start_faults.Damaged (NoMark size)) made at here is = absurd is
  taken_fault T U now (start_faults.Damaged (BadMark value)) made at here is = absurd is
  taken_fault T U now (start_faults.Damaged (LogShort marked found)) made at here is = absurd is
  taken_fault T U now (start_faults.Damaged (ImageShort marked found)) made at here is = absurd is
  taken_fault T U now (start_faults.Damaged (BadImage place)) made at here is = absurd is
  taken_fault T U now (start_faults.Damaged (BadBlock place)) made at here is = absurd is
  taken_fault T U now (start_faults.Damaged (CountDiffers marked found)) made at here is = absurd is
  taken_fault T U now (start_faults.Damaged (Replay place number)) made at here is = not_refused is.0 at here is.1

  -- the keeper has what it makes
  pub made_more : (before now : KeeperState) (at : ℕ) → HasMade before done → IsList done → at ≡ length (blocks done) → IsSystemOf now.system (state_after change (state_of done)) → HasPlaces now.system (placed_after change at (placed_of done)) → (All IsLawful (done ++ change ∷ []) → IsHistoryOf now.history (done ++ change ∷ [])) → now.count ≡ one_more before.count → HasMade now (done ++ change ∷ [])
  made_more before now at made list here system places history count = record {
    built = built_more done change made.built may.accepted;
    system = subst (IsSystemOf now.system) (state_is_more done change (state_after change (state_of done)) refl) system;
    places = subst (HasPlaces now.system) (places_are_more done change at here (placed_after change at (placed_of done)) refl) places;
    history = history (All-push IsLawful done change list.lawful may.lawful);
    count = count ∙ counts_more done before.count list made.count ∙ sym (length-append done (change ∷ []));
  }

-- a fault that isn't told by a disk
pub fault_offline : (T U : Type 0) (fault : StartFault) → IfStartDisk {T = T} (Err fault) (λ failed. ⊥) → IfKeepDisk {T = U} (Err (fault_of_start fault)) (λ failed. ⊥)
fault_offline T U start_faults.Memory none = tt
fault_offline T U (start_faults.Disk failed) none = absurd none
fault_offline T U (start_faults.Damaged damage) none = tt

pub fault_open : (U : Type 0) (fault : StartFault) → IsOpen {T = U} (Err (fault_of_start fault))
fault_open U start_faults.Memory = tt
fault_open U (start_faults.Disk failed) = tt
fault_open U (start_faults.Damaged damage) = tt

-- each change of a list that is built may follow those before it
pub may_follow : (changes : List Change) (i : ℕ) (change : Change) → IsList changes → IsBuilt changes → slice_get changes i ≡ Some change → MayFollow (take i changes) change
may_follow changes i change list built there =
    let within = slice_get_within changes i change there in
    let here = get_or_from_slice_get changes i change change there in
    let more : take (i + 1) changes ≡ take i changes ++ change ∷ [] = take_more changes i change within ∙ ap (λ x. take i changes ++ x ∷ []) here in
    let parted : changes ≡ take i changes ++ change ∷ drop (i + 1) changes = sym (take-append-drop (i + 1) changes) ∙ ap (λ l. l ++ drop (i + 1) changes) more ∙ append_assoc (take i changes) (change ∷ []) (drop (i + 1) changes) in
    let size : length (blocks changes) ≡ length (blocks (take i changes)) + (length (block change) + length (blocks (drop (i + 1) changes))) =
    ap (λ l. length (blocks l)) parted ∙ ap length (flat_map-append block (take i changes) (change ∷ drop (i + 1) changes)) ∙ length-append (blocks (take i changes)) (block change ++ blocks (drop (i + 1) changes))
    ∙ ap (λ n. length (blocks (take i changes)) + n) (length-append (block change) (blocks (drop (i + 1) changes))) in
    record {
      lawful = subst IsLawful here (All-get_or IsLawful changes i change within list.lawful);
      accepted = accepted_here (take i changes) change (drop (i + 1) changes) (subst IsBuilt parted built);
      within = omega (arith, size, list.within);
    }

-- one more of them
pub taken_more : (changes : List Change) (i : ℕ) (change : Change) → slice_get changes i ≡ Some change → take (i + 1) changes ≡ take i changes ++ change ∷ []
taken_more changes i change there =
    take_more changes i change (slice_get_within changes i change there) ∙ ap (λ x. take i changes ++ x ∷ []) (get_or_from_slice_get changes i change change there)

-- ---- what grows

pub grown_then : (before mid now : KeeperState) → mid ≡ grown before mid → now ≡ grown mid now → now ≡ grown before now
grown_then before mid now first second =
    let P : KeeperState → Type 0 = λ k. now ≡ grown k now in
    subst P first second

-- only its log
pub grown_log : (before now : KeeperState) → now ≡ record before { log = record before.log { end = now.log.end } } → now ≡ grown before now
grown_log before now is =
    let same = sym is in
    is ∙ (λ i. record { log = record before.log { end = now.log.end }; mark = before.mark; system = (same i).system; history = (same i).history; count = (same i).count; fault = before.fault })

-- then it has made what it had
pub made_written : (before now : KeeperState) (done : List Change) → now ≡ record before { log = record before.log { end = now.log.end } } → HasMade before done → HasMade now done
made_written before now done is made =
    let Made : KeeperState → Type 0 = λ k. HasMade k done in
    let written : HasMade (record before { log = record before.log { end = now.log.end } }) done = record { built = made.built; system = made.system; places = made.places; history = made.history; count = made.count } in
    subst Made (sym is) written

-- all but its log
pub grown_but_log : (before now : KeeperState) → now ≡ record (grown before now) { log = before.log } → now ≡ grown before now
grown_but_log before now is =
    let end : before.log.end ≡ now.log.end = sym (ap (λ (k : KeeperState). k.log.end) is) in
    is ∙ (λ i. record { log = record before.log { end = end i }; mark = before.mark; system = now.system; history = now.history; count = now.count; fault = before.fault })

-- the keeper beside, after its block was written and its change was taken in
pub beside_more : {T : Type 0} (tells old_tells : Bool) (reads old_reads : Image) (may_leave old_leaves : Image → Type 0) (before mid now : KeeperState) (kept done all : List Change) (result : Result T KeepFault) → IsBeside old_tells old_reads old_leaves before kept done → KeepsImage reads may_leave before.mark kept → mid ≡ record before { log = record before.log { end = mid.log.end } } → now ≡ record (grown mid now) { log = mid.log } → HoldsBeside tells reads may_leave mid.log before.mark kept all → ByAnswer result (λ value. HasMade now all) ⊤ ⊥ → ByAnswer result (λ value. IsBeside tells reads may_leave now kept all) (StandsByMark tells reads may_leave before.mark kept) (StandsByMark tells reads may_leave before.mark kept)
beside_more {T} tells old_tells reads old_reads may_leave old_leaves before mid now kept done all result beside image written taken holds =
    let mark : now.mark ≡ before.mark = ap (λ (k : KeeperState). k.mark) taken ∙ ap (λ (k : KeeperState). k.mark) written in
    let log : mid.log ≡ now.log = sym (ap (λ (k : KeeperState). k.log) taken) in
    let fault : now.fault ≡ before.fault = ap (λ (k : KeeperState). k.fault) taken ∙ ap (λ (k : KeeperState). k.fault) written in
    let Held : LogEnd → Type 0 = λ l. HoldsBeside tells reads may_leave l before.mark kept all in
    let Marked : MarkState → Type 0 = λ m. HoldsBeside tells reads may_leave now.log m kept all in
    let Imaged : MarkState → Type 0 = λ m. KeepsImage reads may_leave m kept in
    answered_so result (λ value. HasMade now all) (λ value. IsBeside tells reads may_leave now kept all) ⊤ ⊥ (StandsByMark tells reads may_leave before.mark kept) (StandsByMark tells reads may_leave before.mark kept)
    (λ value made. record { holds = subst Marked (sym mark) (subst Held log holds); image = subst Imaged (sym mark) image; kept_built = beside.kept_built; made = made; faultless = fault ∙ beside.faultless })
    (λ wanting. holds.stands) (λ none. absurd none)

-- ---- a keeper that took the place of another

-- after it grew, and then counted alone
pub alone_after : (before mid now : KeeperState) → mid ≡ grown before mid → CountsAlone mid now → CountsAlone before now
alone_after before mid now same alone = record {
  log = alone.log ∙ ap (λ (k : KeeperState). k.log.number) same;
  mark = alone.mark ∙ ap (λ (k : KeeperState). fresh_mark k.mark now.log now.count) same;
  fault = alone.fault ∙ ap (λ (k : KeeperState). k.fault) same;
}

-- which was made beside another
pub moved_after : (before mid now : KeeperState) → mid ≡ record { log = record { number = 1 - before.log.number; end = 0 }; mark = before.mark; system = mid.system; history = mid.history; count = 0; fault = None } → CountsAlone mid now → HasMoved before now
moved_after before mid now same alone = record {
  log = alone.log ∙ ap (λ (k : KeeperState). k.log.number) same;
  mark = alone.mark ∙ ap (λ (k : KeeperState). fresh_mark k.mark now.log now.count) same;
  faultless = alone.fault ∙ ap (λ (k : KeeperState). k.fault) same;
}

-- ---- as the code has it

-- a keeper that is made of an emptied log
pub begun_next : (inside before made : KeeperState) (log : LogEnd) (system : SystemState) (history : HistoryState) → inside ≡ before → log ≡ record { number = 1 - inside.log.number; end = 0 } → made ≡ record { log = log; mark = inside.mark; system = system; history = history; count = 0; fault = None } → made ≡ record { log = record { number = 1 - before.log.number; end = 0 }; mark = before.mark; system = made.system; history = made.history; count = 0; fault = None }
begun_next inside before made log system history same here is =
    let back = sym is in
    let there : log ≡ record { number = 1 - before.log.number; end = 0 } = here ∙ (λ i. record { number = 1 - (same i).log.number; end = 0 }) in
    is ∙ (λ i. record { log = there i; mark = (same i).mark; system = (back i).system; history = (back i).history; count = 0; fault = None })

-- one that has taken in a change
pub taken_same : (inside before : KeeperState) (system : SystemState) (history : HistoryState) (count : ℕ) → inside ≡ before → record { log = inside.log; mark = inside.mark; system = system; history = history; count = count; fault = inside.fault } ≡ record before { system = system; history = history; count = count }
taken_same inside before system history count same = λ i. record { log = (same i).log; mark = (same i).mark; system = system; history = history; count = count; fault = (same i).fault }
