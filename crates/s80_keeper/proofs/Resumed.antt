-- A start from a valid mark.
use Rattle.std.proofs.Common.{◌≡◌, ◌≢◌, inl, inr, ⊎_elim, ℕ, ◌+◌, ◌<◌, ◌≤◌, Bool, List, [], ◌∷◌, ◌++◌, length, drop, None, Result, Ok, Err, IfOk, refl, sym, ap, ◌∙◌, subst, arith, append-nil, length-append, length-take}
use Rattle.std.specs.List.{All}
use Rattle.std.proofs.lemmas.Bool.Decides.{leb_tells}
use Rattle.s80_change.specs.declared.change.Change.{Change}
use Rattle.s80_change.specs.Block.{block, blocks, log_limit, IsLawful}
use Rattle.s80_disk.specs.declared.disk.FileId.{FileId}
use Rattle.s80_disk.specs.declared.disk.FileId.TheVariants.{Mark}
use Rattle.s80_disk.specs.Image.{Image, Only}
use Rattle.s80_mark.specs.declared.mark.MarkState.{MarkState}
use Rattle.s80_mark.specs.declared.read.Found.{Found}
use Rattle.s80_mark.specs.declared.read.Found.TheVariants.{Fresh, Mark as Marked}
use Rattle.s80_mark.specs.declared.read.MarkFault.{MarkFault}
use Rattle.s80_mark.specs.declared.read.MarkFault.TheVariants as mark_faults
use Rattle.s80_mark.specs.Mark.{format_two}
use Rattle.s80_mark.specs.Found.{IsAnswer}
use Rattle.s80_apply.specs.System.{HasPlaces, IsSystemOf}
use Rattle.s80_apply.specs.State.{State, kernel_state}
use Rattle.s80_apply.specs.Placed.{PlacedState, placed_after, placed_from, placed_kernel_state, placed_of}
use Rattle.s80_apply.specs.List.{IsBuilt, state_after, state_from, state_of}
use Rattle.s80_history.specs.History.{IsHistoryOf}
use Rattle.s80_log.specs.Log.{LogEnd, held_in, log_file}
use Rattle.s80_log.specs.Standing.{FilesStandFor as StandByMark, StandsFor as StandsByMark, marked_part}
use Rattle.s80_keeper.specs.declared.begin.Begun.{Begun}
use Rattle.s80_keeper.specs.declared.start.Damage.{Damage}
use Rattle.s80_keeper.specs.declared.start.Damage.TheVariants.{NoMark, BadMark, LogShort, ImageShort, BadImage, BadBlock, Replay, CountDiffers}
use Rattle.s80_keeper.specs.declared.start.StartFault.{StartFault}
use Rattle.s80_keeper.specs.declared.start.StartFault.TheVariants as faults
use Rattle.s80_keeper.specs.Beginning.{Beginning, kernel_beginning}
use Rattle.s80_keeper.specs.Imaged.{HasImage, KeepsImage}
use Rattle.s80_keeper.specs.Keeper.{KeeperState, Keeps, Knows, pending_of}
use Rattle.s80_keeper.specs.Standing.{FilesStandFor, ReadsFor, StandsFor}
use Rattle.s80_keeper.specs.Start.{HasMark, IsDamage, IsStart, ReadsTo, Started, fault_of_mark, log_length}
use Rattle.s80_keeper.specs.Reading.{AreBehind, AreReplayed, BeginsSo, HasBegun, HasReached, IsBegun, IsCountChecked, IsFound, ListsBegin, beginning_of}
use Rattle.s80_keeper.proofs.Keeping.{all_kept, holds_all}
use Rattle.s80_keeper.proofs.OneBeginning.{one_beginning}
use Rattle.s80_keeper.proofs.OneList.{one_mark, one_standing, some_log}
use Rattle.s80_keeper.proofs.lemmas.Damages.{front_begun, list_reads, whole_same}
use Rattle.s80_keeper.proofs.lemmas.Images.{keeps_fewer}
use Rattle.s80_keeper.proofs.lemmas.Standing.{reads_on, reads_so}
use Rattle.s80_keeper.proofs.Replayed.{held_length}

-- why no mark is found
pub found_fault : (files : Image) (fault : MarkFault) → IsAnswer files (Err fault) → IsFound files (Err (fault_of_mark fault))
found_fault files (mark_faults.Disk failed) is = tt
found_fault files (mark_faults.NoGate count) is = is
found_fault files (mark_faults.BadField value) is = is

pub found_mark : (files : Image) (found : Found) → IsAnswer files (Ok found) → IsFound files (Ok found)
found_mark files Fresh is = is
found_mark files (Marked mark) is = record { some = is.0; valid = is.1; numbers = is.2 }

-- ---- what states changes make behind others

state_join : (state : State) (xs ys : List Change) → state_from state (xs ++ ys) ≡ state_from (state_from state xs) ys
state_join state [] ys = refl
state_join state (x ∷ xs) ys = state_join (state_after x state) xs ys

placed_join : (state : PlacedState) (at : ℕ) (xs ys : List Change) → placed_from state at (xs ++ ys) ≡ placed_from (placed_from state at xs) (at + length (blocks xs)) ys
placed_join state at [] ys = ap (λ n. placed_from state n ys) (omega arith)
placed_join state at (x ∷ xs) ys =
    let end : (at + length (block x)) + length (blocks xs) ≡ at + length (blocks (x ∷ xs)) = omega (arith, length-append (block x) (blocks xs)) in
    placed_join (placed_after x at state) (at + length (block x)) xs ys ∙ ap (λ n. placed_from (placed_from (placed_after x at state) (at + length (block x)) xs) n ys) end

-- ---- from a valid mark

module _ (files : Image) (mark : MarkState) (has : HasMark files mark) (long : mark.log_length ≤ log_length files mark) where
  abbrev log_of : LogEnd
  log_of = record { number = mark.log; end = mark.log_length }

  abbrev part : List ℕ
  part = marked_part mark files

  -- what is begun with isn't found
  pub unbegun_start : (fault : StartFault) → IsBegun files mark (Err fault) → IsStart files (Err fault)
  unbegun_start faults.Memory is = tt
  unbegun_start (faults.Disk failed) is = tt
  unbegun_start (faults.Damaged (NoMark count)) is = absurd is
  unbegun_start (faults.Damaged (BadMark value)) is = absurd is
  unbegun_start (faults.Damaged (LogShort marked found)) is = absurd is
  unbegun_start (faults.Damaged (ImageShort marked found)) is = (mark, record { has_mark = has; long = long; named = is.0 }, is.1, is.2, is.3)
  unbegun_start (faults.Damaged (BadImage place)) is = (mark, record { has_mark = has; long = long; named = is.0 }, is.1, is.2)
  unbegun_start (faults.Damaged (BadBlock place)) is = absurd is
  unbegun_start (faults.Damaged (Replay place number)) is = absurd is
  unbegun_start (faults.Damaged (CountDiffers marked found)) is = absurd is

  module _ (first : Begun) (so : BeginsSo files mark first) where
    abbrev begun : Beginning
    begun = so.begun

    -- it ends behind the marked part, and so it isn't the kernel's
    pub behind_start : (fault : StartFault) → mark.log_length < first.at → fault ≡ faults.Damaged (BadBlock first.at) → IsStart files (Err fault)
    behind_start fault over is =
        let beyond : mark.log_length < begun.position = omega (arith, so.has.at, over) in
        let named : mark.image ≢ 255 = λ none. ⊎_elim (λ kernel. omega (arith, beyond, ap (λ (b : Beginning). b.position) kernel.1)) (λ image. image.0 none) so.begins in
        subst (λ f. IsStart files (Err f)) (sym is)
        (inl (mark, begun, record { names = record { has_mark = has; long = long; named = named }; imaged = so.imaged named; begins = so.begins; over = beyond }, so.has.at))

    module _ (reached : begun.position ≤ mark.log_length) where
      reads : (changes : List Change) (rest : List ℕ) → AreBehind begun (drop begun.position part) changes rest → ReadsTo files mark begun changes rest
      reads changes rest is = record {
        has_mark = has;
        long = long;
        imaged = so.imaged;
        begins = so.begins;
        reached = reached;
        lawful = is.lawful;
        accepted = is.accepted;
        within = is.within;
        bytes = is.bytes_are;
      }

      -- a block is bad
      pub bad_start : (fault : StartFault) → AreReplayed begun first.history (drop begun.position part) (Err fault) → IsStart files (Err fault)
      bad_start faults.Memory is = tt
      bad_start (faults.Disk failed) is = tt
      bad_start (faults.Damaged (NoMark count)) is = absurd is
      bad_start (faults.Damaged (BadMark value)) is = absurd is
      bad_start (faults.Damaged (LogShort marked found)) is = absurd is
      bad_start (faults.Damaged (ImageShort marked found)) is = absurd is
      bad_start (faults.Damaged (BadImage place)) is = absurd is
      bad_start (faults.Damaged (BadBlock place)) is = inr (mark, begun, is.0, is.1, reads is.0 is.1 is.2, is.3, is.4, is.5)
      bad_start (faults.Damaged (Replay place number)) is = (mark, begun, is.0, is.1, is.2, is.3, reads is.0 (block is.1 ++ is.2) is.4, is.5, is.6, is.7, is.8)
      bad_start (faults.Damaged (CountDiffers marked found)) is = absurd is

      -- all are accepted, but the mark counts other than so many
      pub miscounted_start : (found : Begun) (fault : StartFault) → IsCountChecked {T = Begun} mark found.count (Err fault) → AreReplayed begun first.history (drop begun.position part) (Ok found) → IsStart files (Err fault)
      miscounted_start found faults.Memory checked is = absurd checked
      miscounted_start found (faults.Disk failed) checked is = absurd checked
      miscounted_start found (faults.Damaged (NoMark count)) checked is = absurd checked
      miscounted_start found (faults.Damaged (BadMark value)) checked is = absurd checked
      miscounted_start found (faults.Damaged (LogShort marked size)) checked is = absurd checked
      miscounted_start found (faults.Damaged (ImageShort marked size)) checked is = absurd checked
      miscounted_start found (faults.Damaged (BadImage place)) checked is = absurd checked
      miscounted_start found (faults.Damaged (BadBlock place)) checked is = absurd checked
      miscounted_start found (faults.Damaged (Replay place number)) checked is = absurd checked
      miscounted_start found (faults.Damaged (CountDiffers marked size)) checked is = (mark, begun, is.0, reads is.0 [] is.1, checked.0, checked.1, checked.2 ∙ is.2.count, checked.3)

      -- or it counts them
      module _ (found : Begun) (keeper : KeeperState) (same_log : keeper.log ≡ log_of) (same_system : keeper.system ≡ found.system) (same_history : keeper.history ≡ found.history) (same_count : keeper.count ≡ found.count) where
        -- behind a front of a list
        knows_front : (list front behind : List Change) → list ≡ front ++ behind → All IsLawful list → part ≡ blocks list → IsHistoryOf first.history front → HasReached (beginning_of front) first.history behind found → Knows files keeper list
        knows_front list front behind parts lawful bytes noted is =
            let all = subst (All IsLawful) parts lawful in
            record {
              log = ap (held_in files) same_log ∙ bytes;
              lawful = lawful;
              system = subst (IsSystemOf keeper.system) (sym (state_join kernel_state front behind) ∙ ap state_of (sym parts)) (subst (λ s. IsSystemOf s (state_from (state_of front) behind)) (sym same_system) is.system);
              places = subst (HasPlaces keeper.system) (sym (placed_join placed_kernel_state 0 front behind) ∙ ap placed_of (sym parts))
                  (subst (λ n. HasPlaces keeper.system (placed_from (placed_of front) n behind)) (omega arith) (subst (λ s. HasPlaces s (placed_from (placed_of front) (length (blocks front)) behind)) (sym same_system) is.places));
              history = subst (IsHistoryOf keeper.history) (sym parts) (subst (λ h. IsHistoryOf h (front ++ behind)) (sym same_history) (is.history front all refl noted));
              count = same_count ∙ is.count ∙ sym (length-append front behind) ∙ ap length (sym parts);
            }

        module _ (begin : ListsBegin) (changes : List Change) (whole : ReadsTo files mark begun changes []) (is : HasReached begun first.history changes found) where
          known_by_mark : (list : List Change) → StandByMark files mark list → HasImage files mark list → IsBuilt list → Knows files keeper list
          known_by_mark list stands image built =
              let lead = front_begun begin files mark list stands image built has.some in
              let same = one_beginning files mark begun (beginning_of lead.front) so.begins lead.begins in
              let theirs = list_reads begin files mark list stands image built has.some in
              let rest : changes ≡ lead.behind = whole_same files mark (beginning_of lead.front) lead.behind theirs changes (subst (λ b. ReadsTo files mark b changes []) same whole) in
              let reached_front = subst (λ cs. HasReached (beginning_of lead.front) first.history cs found) rest (subst (λ b. HasReached b first.history changes found) same is) in
              knows_front list lead.front lead.behind lead.parts stands.list.lawful stands.bytes (so.history lead.front lead.is_front) reached_front

          pub known : (list : List Change) → FilesStandFor files list → Knows files keeper list
          known list (inl empty) = absurd (some_log files empty.0 has.some)
          known list (inr by_mark) =
              let P : MarkState → Type 0 = λ m. StandByMark files m list × HasImage files m list in
              let both = subst P (one_mark files by_mark.0 mark by_mark.1.valid has.valid) (by_mark.1, by_mark.2) in
              known_by_mark list both.0 both.1 by_mark.3

          counted_so : (mark.format ≡ format_two → mark.count ≡ found.count) → mark.format ≡ format_two → mark.count ≡ begun.count + length changes
          counted_so counted two = counted two ∙ is.count

          -- the kernel's list
          kernel_stands : mark.image ≡ 255 → begun ≡ kernel_beginning → (mark.format ≡ format_two → mark.count ≡ found.count) → FilesStandFor files changes
          kernel_stands none kernel counted =
              let from = subst (λ b. ReadsTo files mark b changes []) kernel whole in
              let bytes : part ≡ blocks changes = from.bytes ∙ append-nil (blocks changes) in
              inr (
                mark,
                record {
                  valid = has.valid;
                  numbers = has.numbers;
                  list = record { lawful = whole.lawful; within = within_limit changes from.within };
                  whole = sym (held_length files log_of long) ∙ ap length bytes;
                  bytes = bytes;
                  counted = λ two. counted_so counted two ∙ ap (λ (b : Beginning). b.count + length changes) kernel ∙ omega arith;
                },
                inl none,
                from.accepted,
              )
            where
              within_limit : (cs : List Change) → (cs ≢ [] → 0 + length (blocks cs) ≤ log_limit) → length (blocks cs) ≤ log_limit
              within_limit [] within = omega arith
              within_limit (c ∷ cs) within = let end = within (λ none. let n = ap length none in omega (arith, n)) in omega (arith, end)

          pub whole_start : (mark.format ≡ format_two → mark.count ≡ found.count) → IsStart files (Ok keeper)
          whole_start counted =
              ⊎_elim (λ kernel. let stands = kernel_stands kernel.0 kernel.1 counted in inl (changes, stands, known changes stands))
              (λ image. inr (record { mark = mark; named = image.0; begun = begun; changes = changes; reads = whole; counted = counted_so counted; knows = known })) so.begins

        pub replayed_start : ListsBegin → (mark.format ≡ format_two → mark.count ≡ found.count) → AreReplayed begun first.history (drop begun.position part) (Ok found) → IsStart files (Ok keeper)
        replayed_start begin counted is = whole_start begin is.0 (reads is.0 [] is.1) is.2 counted

    -- ---- what the blocks behind it answer

    module _ (result : Result Begun StartFault) (past : mark.log_length < first.at → result ≡ Err (faults.Damaged (BadBlock first.at))) (answer : (from : Beginning) → HasBegun from first → from.position ≤ mark.log_length → AreReplayed from first.history (drop from.position part) result) where
      one_fault : (one other : StartFault) → result ≡ Err one → result ≡ Err other → one ≡ other
      one_fault one other a b = let both : ◌≡◌ {A = Result Begun StartFault} (Err one) (Err other) = sym a ∙ b in cc

      ok_or_fault : (found : Begun) (fault : StartFault) → result ≡ Ok found → result ≡ Err fault → ⊥
      ok_or_fault found fault a b = let both : Ok found ≡ Err fault = sym a ∙ b in cc

      -- a fault
      pub unreplayed_start : (fault : StartFault) → result ≡ Err fault → IsStart files (Err fault)
      unreplayed_start fault is =
          elim (leb_tells begun.position mark.log_length) [
            | inl h ↦ bad_start h.1 fault (subst (AreReplayed begun first.history (drop begun.position part)) is (answer begun so.has h.1))
            | inr h ↦ (
                let over : mark.log_length < first.at = omega (arith, h.1, so.has.at) in
                behind_start fault over (one_fault fault (faults.Damaged (BadBlock first.at)) is (past over))
                )
          ]

      -- or all of them
      pub reaches : (found : Begun) → result ≡ Ok found → begun.position ≤ mark.log_length
      reaches found is =
          elim (leb_tells begun.position mark.log_length) [
            | inl h ↦ h.1
            | inr h ↦ absurd (ok_or_fault found (faults.Damaged (BadBlock first.at)) is (past (omega (arith, h.1, so.has.at))))
          ]

      replayed_all : (found : Begun) → result ≡ Ok found → AreReplayed begun first.history (drop begun.position part) (Ok found)
      replayed_all found is = subst (AreReplayed begun first.history (drop begun.position part)) is (answer begun so.has (reaches found is))

      pub uncounted_start : (found : Begun) → result ≡ Ok found → (fault : StartFault) → IsCountChecked {T = Begun} mark found.count (Err fault) → IsStart files (Err fault)
      uncounted_start found is fault checked = miscounted_start (reaches found is) found fault checked (replayed_all found is)

      pub resumed_start : ListsBegin → (found : Begun) → result ≡ Ok found → (keeper : KeeperState) → keeper.log ≡ log_of → keeper.system ≡ found.system → keeper.history ≡ found.history → keeper.count ≡ found.count
          → (mark.format ≡ format_two → mark.count ≡ found.count) → IsStart files (Ok keeper)
      resumed_start begin found is keeper same_log same_system same_history same_count counted =
          replayed_start (reaches found is) found keeper same_log same_system same_history same_count begin counted (replayed_all found is)

-- what a start knows
pub start_knows : (files : Image) (keeper : KeeperState) → IsStart files (Ok keeper) → (list : List Change) → FilesStandFor files list → Knows files keeper list
start_knows files keeper (inl is) list stands = subst (Knows files keeper) (one_standing files is.0 list is.1 stands) is.2
start_knows files keeper (inr is) list stands = is.knows list stands

-- files with a damage stand for no list
abbrev pub NoneDamaged : Type 0
NoneDamaged = (files : Image) (damage : Damage) (changes : List Change) → IsDamage files damage → FilesStandFor files changes → ⊥

-- what a disk reads for a list stands for it
files_so : (tells : Bool) (reads : Image) (may_leave : Image → Type 0) (changes : List Change) → ReadsFor tells reads may_leave changes → FilesStandFor reads changes
files_so tells reads may_leave changes stands = ⊎_elim (λ none. inl none) (λ by_mark. inr (by_mark.0, by_mark.1, by_mark.2.has, by_mark.3)) stands.stands

-- no damage is found in files that a disk reads for a list, and where the disk fails it goes on to read for it
pub found_started : NoneDamaged → (tells told : Bool) (reads now_reads : Image) (before now : Image → Type 0) (changes : List Change) (fault : StartFault) → told ≡ tells → ((file : FileId) → now_reads file ≡ reads file) → ((c : Image) → now c → before c) → ReadsFor tells reads before changes → IsFound reads (Err fault) → Started (Err fault) told now_reads now changes
found_started whole tells told reads now_reads before now changes faults.Memory same_tells same still stands is = absurd is
found_started whole tells told reads now_reads before now changes (faults.Disk failed) same_tells same still stands is = reads_on tells told reads now_reads before now changes same_tells same still stands
found_started whole tells told reads now_reads before now changes (faults.Damaged damage) same_tells same still stands is = whole reads damage changes is (files_so tells reads before changes stands)

-- where the disk reads for a list, by the mark that is found
module _ (tells : Bool) (reads : Image) (before now : Image → Type 0) (mark : MarkState) (changes : List Change) (has : HasMark reads mark) (stands : ReadsFor tells reads before changes) (still : (c : Image) → now c → before c) (durable : Only Mark (reads Mark) now) where
  abbrev Standing : MarkState → Type 0
  Standing m = StandsByMark tells reads now m changes × KeepsImage reads now m changes × IsBuilt changes

  pub stands_by : Standing mark
  stands_by =
      ⊎_elim (λ empty. absurd (some_log reads empty.0 has.some))
      (λ by_mark.
      subst Standing (one_mark reads by_mark.0 mark by_mark.1.valid has.valid) (
        record { told = stands.told; files = by_mark.1; mark_stays = durable; log_stays = λ c left. by_mark.4 c (still c left) },
        keeps_fewer reads before by_mark.0 changes by_mark.2 now still,
        by_mark.3,
      )) stands.stands

  stands_still : StandsFor tells reads now changes
  stands_still = record { told = stands.told; stands = inr (mark, stands_by.0, stands_by.1, stands_by.2) }

  pub started_mark : NoneDamaged → (result : Result KeeperState StartFault) → IsStart reads result → IfOk result (λ keeper. keeper ≡ record {
    log = record { number = mark.log; end = mark.log_length };
    mark = mark;
    system = keeper.system;
    history = keeper.history;
    count = keeper.count;
    fault = None;
  }) → Started result tells reads now changes
  started_mark whole (Err faults.Memory) is keeper_is = stands_still
  started_mark whole (Err (faults.Disk failed)) is keeper_is = reads_so tells reads now changes stands_still
  started_mark whole (Err (faults.Damaged damage)) is keeper_is = whole reads damage changes is (files_so tells reads before changes stands)
  started_mark whole (Ok keeper) is keeper_is =
      let P : KeeperState → Type 0 = λ k. Keeps tells reads now k changes changes in
      let knows = start_knows reads keeper is changes (files_so tells reads before changes stands) in
      subst P (sym keeper_is) record {
        holds = holds_all tells reads now (record { number = mark.log; end = mark.log_length }) mark changes stands_by.0 refl refl;
        front = all_kept changes;
        image = stands_by.1;
        built = stands_by.2;
        system = knows.system;
        places = knows.places;
        history = knows.history;
        count = knows.count;
        faultless = refl;
      }

-- the log is as long as its mark says
pub settled_mark : (result : Result KeeperState StartFault) (mark : MarkState) → IfOk result (λ keeper. keeper ≡ record {
  log = record { number = mark.log; end = mark.log_length };
  mark = mark;
  system = keeper.system;
  history = keeper.history;
  count = keeper.count;
  fault = None;
}) → IfOk result (λ keeper. pending_of keeper ≡ 0)
settled_mark (Err fault) mark keeper_is = tt
settled_mark (Ok keeper) mark keeper_is = ap pending_of keeper_is ∙ omega arith

-- a log has all bytes that the valid mark takes, where nothing is wrong with the files
long_enough : (files : Image) (mark : MarkState) (keeper : KeeperState) → HasMark files mark → IsStart files (Ok keeper) → mark.log_length ≤ log_length files mark
long_enough files mark keeper has (inl (list, inl empty, knows)) = absurd (some_log files empty.0 has.some)
long_enough files mark keeper has (inl (list, inr by_mark, knows)) =
    let Long : MarkState → Type 0 = λ m. m.log_length ≤ log_length files m in
    let stands = by_mark.1 in
    let size = simp length-take at (ap length stands.bytes) in
    subst Long (one_mark files by_mark.0 mark stands.valid has.valid) (omega (arith, size, stands.whole))
long_enough files mark keeper has (inr is) =
    let Long : MarkState → Type 0 = λ m. m.log_length ≤ log_length files m in
    subst Long (one_mark files is.mark mark is.reads.has_mark.valid has.valid) is.reads.long

-- so its file has all that the keeper counts
pub whole_mark : (files : Image) (mark : MarkState) (result : Result KeeperState StartFault) → HasMark files mark → IsStart files result → IfOk result (λ keeper. keeper ≡ record {
  log = record { number = mark.log; end = mark.log_length };
  mark = mark;
  system = keeper.system;
  history = keeper.history;
  count = keeper.count;
  fault = None;
}) → IfOk result (λ keeper. keeper.log.end ≤ length (files (log_file keeper.log.number)))
whole_mark files mark (Err fault) has is keeper_is = tt
whole_mark files mark (Ok keeper) has is keeper_is =
    let Within : LogEnd → Type 0 = λ l. l.end ≤ length (files (log_file l.number)) in
    subst Within (sym (ap (λ (k : KeeperState). k.log) keeper_is)) (long_enough files mark keeper has is)
