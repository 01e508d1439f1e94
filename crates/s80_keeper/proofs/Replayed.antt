-- The blocks of a log, replayed one after the other.
use Rattle.std.proofs.Common.{◌≡◌, ◌≢◌, ℕ, ◌+◌, ◌<◌, ◌≤◌, List, [], ◌∷◌, ◌++◌, length, drop, None, Result, Ok, Err, refl, sym, ap, ◌∙◌, subst, arith, append_assoc, append-nil, length-append, length-drop, length-take}
use Rattle.std.specs.List.{All}
use Rattle.std.proofs.lemmas.List.Elements.{All-nil, All-push}
use Rattle.std.proofs.Math.ListN.{drop_of_length-le}
use Rattle.std.proofs.lemmas.Grind.{flat_map-append}
use Rattle.std.proofs.lemmas.List.{drop-drop}
use Rattle.std.proofs.Math.Seq.{drop-append_seam}
use Rattle.s80_base.specs.declared.outside.Failed.{Failed}
use Rattle.s80_change.specs.declared.change.Change.{Change}
use Rattle.s80_change.specs.Block.{block, blocks, log_limit, IsLawful}
use Rattle.s80_disk.specs.Image.{Image}
use Rattle.s80_apply.specs.State.{State}
use Rattle.s80_apply.specs.Placed.{PlacedState, accept_placed, placed_after, placed_from}
use Rattle.s80_apply.specs.Accept.{accept}
use Rattle.s80_apply.specs.System.{SystemState, HasPlaces, IsSystemOf}
use Rattle.s80_apply.specs.List.{AreAccepted, state_after, state_from, refusal_to}
use Rattle.s80_apply.proofs.lemmas.Lists.{accepted_more, blocks_more, from_more, is_after}
use Rattle.s80_history.specs.History.{HistoryState, IsHistoryOf}
use Rattle.s80_log.specs.Log.{LogEnd, log_file, held_in}
use Rattle.s80_change.specs.Blocks.{BeginsWith, BeginsWithNone}
use Rattle.s80_log.specs.Faults.{IfBad}
use Rattle.s80_log.specs.declared.read.BlockFault.{BlockFault}
use Rattle.s80_log.specs.declared.read.BlockFault.TheVariants as block_faults
use Rattle.s80_keeper.specs.declared.start.Damage.TheVariants.{NoMark, BadMark, LogShort, ImageShort, BadImage, BadBlock, Replay, CountDiffers}
use Rattle.s80_keeper.specs.declared.start.StartFault.{StartFault}
use Rattle.s80_keeper.specs.declared.start.StartFault.TheVariants as faults
use Rattle.s80_keeper.specs.Start.{fault_of_block, IfStartDisk}
use Rattle.s80_keeper.specs.Reading.{AreReplayed, Accepts, HasBegun}
use Rattle.s80_keeper.specs.Beginning.{Beginning}
use Rattle.s80_keeper.specs.declared.begin.Begun.{Begun}
use Rattle.s80_keeper.proofs.ListBegins.{all_front}
use Rattle.s80_keeper.proofs.Accepted.{refuses_none, makes_so, unrefused}

-- a change is accepted that makes this state, and this is a system of it
pub accepted_so : (before after : State) (at : ℕ) (change : Change) (now : SystemState) → accept change before ≡ Ok after → at + length (block change) ≤ log_limit → IsSystemOf now after → (refusal_to before at change ≡ None) × IsSystemOf now (state_after change before)
accepted_so before after at change now is within made =
    (refuses_none before at change after is within, subst (IsSystemOf now) (makes_so before at change after is) made)

-- and so it has the places of its sources
pub placed_so : (before after : PlacedState) (at : ℕ) (change : Change) (now : SystemState) → accept_placed change at before ≡ Ok after → HasPlaces now after → HasPlaces now (placed_after change at before)
placed_so before after at change now is made = subst (HasPlaces now) (is_after (accept_placed change at before) before after is) made

-- a call that fails on no disk
pub no_disk : {T : Type 0} (P : Failed → Type 0) (result : Result T StartFault) → IfStartDisk result (λ failed. ⊥) → IfStartDisk result P
no_disk P (Ok done) none = tt
no_disk P (Err faults.Memory) none = tt
no_disk P (Err (faults.Damaged damage)) none = tt
no_disk P (Err (faults.Disk failed)) none = absurd none

-- what is placed with one change more
placed_more : (state : PlacedState) (at : ℕ) (changes : List Change) (change : Change) → placed_from state at (changes ++ change ∷ []) ≡ placed_after change (at + length (blocks changes)) (placed_from state at changes)
placed_more state at [] change = ap (λ n. placed_after change n state) (omega arith)
placed_more state at (c ∷ cs) change =
    let end : (at + length (block c)) + length (blocks cs) ≡ at + length (blocks (c ∷ cs)) = omega (arith, length-append (block c) (blocks cs)) in
    placed_more (placed_after c at state) (at + length (block c)) cs change
    ∙ ap (λ n. placed_after change n (placed_from (placed_after c at state) (at + length (block c)) cs)) end

-- From what is begun with up to a place the bytes are the blocks of changes that are accepted, which make this system and this history; and with them
-- there are so many changes.
pub record ReplayedTo (from : Beginning) (first : HistoryState) (bytes : List ℕ) (place count : ℕ) (system : SystemState) (history : HistoryState) : Type 0 where
  pub changes : List Change
  pub lawful : All IsLawful changes
  pub accepted : AreAccepted from.state changes
  pub within : changes ≢ [] → from.position + length (blocks changes) ≤ log_limit
  pub read : drop from.position bytes ≡ blocks changes ++ drop place bytes
  pub here : place ≡ from.position + length (blocks changes)
  pub made : IsSystemOf system (state_from from.state changes)
  pub placed : HasPlaces system (placed_from from.placed from.position changes)
  pub noted : (front : List Change) → All IsLawful (front ++ changes) → from.position ≡ length (blocks front) → IsHistoryOf first front → IsHistoryOf history (front ++ changes)
  pub counted : count ≡ from.count + length changes

pub replayed_none : (from : Beginning) (bytes : List ℕ) (begun : Begun) → HasBegun from begun → ReplayedTo from begun.history bytes begun.at begun.count begun.system begun.history
replayed_none from bytes begun has = record {
  changes = [];
  lawful = All-nil IsLawful;
  accepted = tt;
  within = λ some. absurd (some refl);
  read = ap (λ n. drop n bytes) (sym has.at);
  here = has.at ∙ omega arith;
  made = has.system;
  placed = has.places;
  noted = λ front lawful here noted. subst (IsHistoryOf begun.history) (sym (append-nil front)) noted;
  counted = has.count ∙ omega arith;
}

module _ (from : Beginning) (first : HistoryState) (bytes : List ℕ) (place count : ℕ) (system : SystemState) (history : HistoryState) (so_far : ReplayedTo from first bytes place count system history) where
  abbrev before : State
  before = state_from from.state so_far.changes

  -- what stands behind a block
  module _ (change : Change) (begins : BeginsWith (drop place bytes) change) where
    read_more : drop from.position bytes ≡ blocks so_far.changes ++ block change ++ begins.after
    read_more = so_far.read ∙ ap (λ l. blocks so_far.changes ++ l) begins.begins ∙ sym (append_assoc (blocks so_far.changes) (block change) begins.after)

    abbrev longer : List Change
    longer = so_far.changes ++ change ∷ []

    -- one block more, whose change isn't refused
    pub replayed_more : {T : Type 0} (done : T) (next : ℕ) (now : SystemState) (noted : HistoryState) → next ≡ place + length (block change) → ((state : State) → IsSystemOf system state → Accepts state now place change (Ok done))
        → ((placed : PlacedState) → HasPlaces system placed → HasPlaces now (placed_after change place placed))
        → ((changes : List Change) → All IsLawful (changes ++ change ∷ []) → place ≡ length (blocks changes) → IsHistoryOf history changes → IsHistoryOf noted (changes ++ change ∷ []))
        → ReplayedTo from first bytes next (count + 1) now noted
    replayed_more done next now noted is accepts places notes =
        let accepted = accepts before so_far.made in
        let more = blocks_more so_far.changes change in
        let size = ap length more ∙ length-append (blocks so_far.changes) (block change) in
        let both = unrefused (accept change before) place (length (block change)) accepted.0 in
        let after : drop next bytes ≡ begins.after =
        ap (λ n. drop n bytes) is ∙ sym (drop-drop (length (block change)) place bytes) ∙ ap (drop (length (block change))) begins.begins ∙ drop-append_seam (block change) begins.after in
        record {
          changes = longer;
          lawful = All-push IsLawful so_far.changes change so_far.lawful begins.lawful;
          accepted = accepted_more from.state so_far.changes change so_far.accepted both.0;
          within = λ some. omega (arith, both.1, so_far.here, size);
          read = read_more ∙ ap (λ l. l ++ begins.after) (sym more) ∙ ap (λ l. blocks longer ++ l) (sym after);
          here = omega (arith, is, so_far.here, size);
          made = subst (IsSystemOf now) (sym (from_more from.state so_far.changes change)) accepted.1;
          placed = subst (HasPlaces now) (ap (λ n. placed_after change n (placed_from from.placed from.position so_far.changes)) so_far.here ∙ sym (placed_more from.placed from.position so_far.changes change)) (places (placed_from from.placed from.position so_far.changes) so_far.placed);
          noted = λ front lawful here was.
              let parts : (front ++ so_far.changes) ++ change ∷ [] ≡ front ++ longer = append_assoc front so_far.changes (change ∷ []) in
              let end : place ≡ length (blocks (front ++ so_far.changes)) = so_far.here ∙ ap (λ n. n + length (blocks so_far.changes)) here ∙ sym (ap length (flat_map-append block front so_far.changes) ∙ length-append (blocks front) (blocks so_far.changes)) in
              let all = subst (All IsLawful) (sym parts) lawful in
              subst (IsHistoryOf noted) parts (notes (front ++ so_far.changes) all end (so_far.noted front (all_front IsLawful (front ++ so_far.changes) (change ∷ []) all) here was));
          counted = simp length-append (omega (arith, so_far.counted));
        }

    -- one whose change the state so far refuses
    refused_here : (T : Type 0) (now : SystemState) (fault : StartFault) → Accepts {T = T} before now place change (Err fault) → AreReplayed from first (drop from.position bytes) (Err fault)
    refused_here T now faults.Memory is = tt
    refused_here T now (faults.Disk failed) is = absurd is
    refused_here T now (faults.Damaged (NoMark size)) is = absurd is
    refused_here T now (faults.Damaged (BadMark value)) is = absurd is
    refused_here T now (faults.Damaged (LogShort marked found)) is = absurd is
    refused_here T now (faults.Damaged (ImageShort marked found)) is = absurd is
    refused_here T now (faults.Damaged (BadImage at)) is = absurd is
    refused_here T now (faults.Damaged (BadBlock at)) is = absurd is
    refused_here T now (faults.Damaged (CountDiffers marked found)) is = absurd is
    refused_here T now (faults.Damaged (Replay at number)) is = (
      so_far.changes,
      change,
      begins.after,
      is.0,
      record { lawful = so_far.lawful; accepted = so_far.accepted; within = so_far.within; bytes_are = so_far.read ∙ ap (λ l. blocks so_far.changes ++ l) begins.begins },
      is.2 ∙ so_far.here,
      begins.lawful,
      ap (λ n. refusal_to before n change) is.2 ∙ is.1,
      is.3,
    )

    pub replayed_refused : (T : Type 0) (now : SystemState) (fault : StartFault) → ((state : State) → IsSystemOf system state → Accepts {T = T} state now place change (Err fault)) → AreReplayed from first (drop from.position bytes) (Err fault)
    replayed_refused T now fault accepts = refused_here T now fault (accepts before so_far.made)

  -- no block where one should begin
  pub replayed_bad : (fault : BlockFault) → place < length bytes → IfBad fault (λ at. BeginsWithNone (drop place bytes)) → IfBad fault (λ at. at ≡ place) → AreReplayed from first (drop from.position bytes) (Err (fault_of_block fault))
  replayed_bad block_faults.Memory within none at = tt
  replayed_bad (block_faults.Disk failed) within none at = tt
  replayed_bad (block_faults.Bad at) within none is = (
    so_far.changes,
    drop place bytes,
    record { lawful = so_far.lawful; accepted = so_far.accepted; within = so_far.within; bytes_are = so_far.read },
    is ∙ so_far.here,
    (λ e. let n = length-drop place bytes in let zero = ap length e in omega (arith, n, zero, within)),
    none,
  )

  -- all of them
  pub replayed_all : length bytes ≤ place → AreReplayed from first (drop from.position bytes) (Ok (record { system = system; history = history; count = count; at = place }))
  replayed_all past = (
    so_far.changes,
    record {
      lawful = so_far.lawful;
      accepted = so_far.accepted;
      within = so_far.within;
      bytes_are = so_far.read ∙ ap (λ l. blocks so_far.changes ++ l) (drop_of_length-le bytes past);
    },
    record { system = so_far.made; places = so_far.placed; count = so_far.counted; history = so_far.noted },
  )

-- how long the part is that counts
pub held_length : (files : Image) (log : LogEnd) → log.end ≤ length (files (log_file log.number)) → length (held_in files log) ≡ log.end
held_length files log long = simp length-take (omega arith)
