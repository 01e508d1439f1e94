-- Changes that are read at places of their blocks.
use Rattle.std.proofs.Common.{◌≡◌, ◌∙◌, ℕ, zero, suc, ◌+◌, ◌<◌, List, [], ◌∷◌, ◌++◌, length, take, drop, get_or, map as list_map, slice_get, Option, Some, None, Result, Ok, Err, refl, sym, ap, subst}
use Rattle.std.specs.List.{All}
use Rattle.std.specs.Prelude.{◌↔◌}
use Rattle.std.proofs.lemmas.List.{take_more}
use Rattle.std.proofs.lemmas.List.Elements.{All-head, All-tail}
use Rattle.s80_base.specs.declared.outside.Failed.{Failed}
use Rattle.s80_change.specs.declared.change.Change.{Change}
use Rattle.s80_change.specs.Blocks.{BeginsWith, BeginsWithNone}
use Rattle.s80_change.proofs.lemmas.BlockLaws.{block_unique}
use Rattle.s80_history.specs.Lists.{Placed}
use Rattle.s80_keeper.specs.declared.start.Damage.TheVariants.{NoMark, BadMark, LogShort, ImageShort, BadImage, BadBlock, Replay, CountDiffers}
use Rattle.s80_keeper.specs.declared.keep.KeepFault.{KeepFault}
use Rattle.s80_keeper.specs.declared.keep.KeepFault.TheVariants as faults
use Rattle.s80_keeper.specs.ChangesAt.{ArePlaced, AreReadAt, BeginAt, IsPlacedAt, IsReadAt}
use Rattle.s80_keeper.specs.Keeper.{KeeperState}
use Rattle.s80_keeper.specs.Source.{IsThis, after_reading}
use Rattle.s80_keeper.proofs.ChangesPlaced.{Begins}

-- ---- one change after the other

begin_push : (log : List ℕ) (places : List ℕ) (changes : List Change) (place : ℕ) (change : Change) → BeginAt log places changes → BeginsWith (drop place log) change → BeginAt log (places ++ place ∷ []) (changes ++ change ∷ [])
begin_push log [] [] place change begin one = (one, tt)
begin_push log [] (c ∷ cs) place change begin one = absurd begin
begin_push log (p ∷ ps) [] place change begin one = absurd begin
begin_push log (p ∷ ps) (c ∷ cs) place change begin one = (begin.0, begin_push log ps cs place change begin.1 one)

-- those of the places so far, and one more
pub begin_more : (log : List ℕ) (places : List ℕ) (i : ℕ) (changes : List Change) (change : Change) → i < length places → BeginAt log (take i places) changes → BeginsWith (drop (get_or places i 0) log) change → BeginAt log (take (i + 1) places) (changes ++ change ∷ [])
begin_more log places i changes change within begin one =
    subst (λ ps. BeginAt log ps (changes ++ change ∷ [])) (sym (take_more places i 0 within)) (begin_push log (take i places) changes (get_or places i 0) change begin one)

-- ---- one that isn't read

module _ (places : List ℕ) (i at : ℕ) (there : slice_get places i ≡ Some at) where
  pub failed_at : (log : List ℕ) (fault : KeepFault) → IsReadAt log at (Err fault) → AreReadAt log places (Err fault)
  failed_at log faults.Memory read = tt
  failed_at log (faults.Disk failed) read = tt
  failed_at log (faults.Closed failed) read = tt
  failed_at log (faults.Full count) read = absurd read
  failed_at log (faults.Damaged (NoMark size)) read = absurd read
  failed_at log (faults.Damaged (BadMark value)) read = absurd read
  failed_at log (faults.Damaged (LogShort marked found)) read = absurd read
  failed_at log (faults.Damaged (ImageShort marked found)) read = absurd read
  failed_at log (faults.Damaged (BadImage place)) read = absurd read
  failed_at log (faults.Damaged (Replay place number)) read = absurd read
  failed_at log (faults.Damaged (CountDiffers marked found)) read = absurd read
  failed_at log (faults.Damaged (BadBlock place)) read = ((i, there ∙ ap Some (sym read.0)), subst (λ n. BeginsWithNone (drop n log)) (sym read.0) read.1)

  pub placed_at : (T U : Type 0) (fault : KeepFault) → IsPlacedAt {T = T} at (Err fault) → ArePlaced {T = U} places (Err fault)
  placed_at T U faults.Memory placed = tt
  placed_at T U (faults.Disk failed) placed = tt
  placed_at T U (faults.Closed failed) placed = tt
  placed_at T U (faults.Full count) placed = absurd placed
  placed_at T U (faults.Damaged (NoMark size)) placed = absurd placed
  placed_at T U (faults.Damaged (BadMark value)) placed = absurd placed
  placed_at T U (faults.Damaged (LogShort marked found)) placed = absurd placed
  placed_at T U (faults.Damaged (ImageShort marked found)) placed = absurd placed
  placed_at T U (faults.Damaged (BadImage place)) placed = absurd placed
  placed_at T U (faults.Damaged (Replay place number)) placed = absurd placed
  placed_at T U (faults.Damaged (CountDiffers marked found)) placed = absurd placed
  placed_at T U (faults.Damaged (BadBlock place)) placed = (i, there ∙ ap Some (sym placed))

-- what is answered at a fault, whatever was to be read
abbrev failed_so : (T : Type 0) → KeepFault → Result T KeepFault
failed_so T fault = Err fault

fault_same : (T : Type 0) (one other : KeepFault) → failed_so T one ≡ failed_so T other → one ≡ other
fault_same T one other e = cc

-- no disk is closed that hasn't failed
pub not_closed : (T U : Type 0) (now keeper : KeeperState) (fault : KeepFault) (failed : Failed) → now ≡ keeper → keeper.fault ≡ None → ((f : Failed) → (failed_so T fault ≡ Err (faults.Closed f)) ↔ (now.fault ≡ Some f)) → failed_so U fault ≡ Err (faults.Closed failed) → ⊥
not_closed T U now keeper fault failed same calm closed is =
    let failing : failed_so T fault ≡ failed_so T (faults.Closed failed) = ap (failed_so T) (fault_same U fault (faults.Closed failed) is) in
    let e : None ≡ Some failed = sym (ap (λ (k : KeeperState). k.fault) same ∙ calm) ∙ (closed failed).0 failing in
    cc

-- the keeper is left so, whatever was to be read
pub left_so : (T U : Type 0) (fault : KeepFault) (keeper : KeeperState) → after_reading {T = T} (Err fault) keeper ≡ after_reading {T = U} (Err fault) keeper
left_so T U faults.Memory keeper = refl
left_so T U (faults.Disk failed) keeper = refl
left_so T U (faults.Closed failed) keeper = refl
left_so T U (faults.Full count) keeper = refl
left_so T U (faults.Damaged damage) keeper = refl

-- ---- at the places of changes of the log

one_place : (p : Placed) (place : ℕ) → Some p.0 ≡ Some place → p.0 ≡ place
one_place p place e = cc

module _ (log : List ℕ) where
  these_read : (ps : List Placed) (found : List Change) → All (Begins log) ps → BeginAt log (list_map (λ p. p.0) ps) found → found ≡ list_map (λ p. p.1) ps
  these_read [] [] begin read = refl
  these_read [] (c ∷ cs) begin read = absurd read
  these_read (p ∷ ps) [] begin read = absurd read
  these_read (p ∷ ps) (c ∷ cs) begin read =
      let own = All-head (Begins log) p ps begin in
      let same = (block_unique c p.1 read.0.after own.after read.0.lawful own.lawful (sym read.0.begins ∙ own.begins)).0 in
      let others = these_read ps cs (All-tail (Begins log) p ps begin) read.1 in
      λ i. same i ∷ others i

  -- a block begins at each of them
  some_begins : (ps : List Placed) (i place : ℕ) → All (Begins log) ps → slice_get (list_map (λ p. p.0) ps) i ≡ Some place → BeginsWithNone (drop place log) → ⊥
  some_begins [] i place begin there none = absurd cc
  some_begins (p ∷ ps) zero place begin there none = none p.1 (subst (λ n. BeginsWith (drop n log) p.1) (one_place p place there) (All-head (Begins log) p ps begin))
  some_begins (p ∷ ps) (suc i) place begin there none = some_begins ps i place (All-tail (Begins log) p ps begin) there none

  are_these : (ps : List Placed) (result : Result (List Change) KeepFault) → All (Begins log) ps → AreReadAt log (list_map (λ p. p.0) ps) result → IsThis (list_map (λ p. p.1) ps) result
  are_these ps (Ok found) begin read = these_read ps found begin read
  are_these ps (Err faults.Memory) begin read = tt
  are_these ps (Err (faults.Disk failed)) begin read = tt
  are_these ps (Err (faults.Closed failed)) begin read = tt
  are_these ps (Err (faults.Full count)) begin read = absurd read
  are_these ps (Err (faults.Damaged (NoMark size))) begin read = absurd read
  are_these ps (Err (faults.Damaged (BadMark value))) begin read = absurd read
  are_these ps (Err (faults.Damaged (LogShort marked found))) begin read = absurd read
  are_these ps (Err (faults.Damaged (ImageShort marked found))) begin read = absurd read
  are_these ps (Err (faults.Damaged (BadImage place))) begin read = absurd read
  are_these ps (Err (faults.Damaged (Replay place number))) begin read = absurd read
  are_these ps (Err (faults.Damaged (CountDiffers marked found))) begin read = absurd read
  are_these ps (Err (faults.Damaged (BadBlock place))) begin read = absurd (some_begins ps read.0.0 place begin read.0.1 read.1)

-- what is read at the places of changes of the log is these changes
pub read_these : (log held : List ℕ) (places : List ℕ) (ps : List Placed) (result : Result (List Change) KeepFault) → held ≡ log → places ≡ list_map (λ p. p.0) ps → All (Begins log) ps → AreReadAt held places result → IsThis (list_map (λ p. p.1) ps) result
read_these log held places ps result same there begin read =
    are_these log ps result begin (subst (λ l. AreReadAt l (list_map (λ p. p.0) ps) result) same (subst (λ q. AreReadAt held q result) there read))

-- so is a damage told, whatever was to be read
pub placed_so : (T U : Type 0) (places : List ℕ) (fault : KeepFault) → ArePlaced {T = T} places (Err fault) → ArePlaced {T = U} places (Err fault)
placed_so T U places faults.Memory placed = tt
placed_so T U places (faults.Disk failed) placed = tt
placed_so T U places (faults.Closed failed) placed = tt
placed_so T U places (faults.Full count) placed = absurd placed
placed_so T U places (faults.Damaged (NoMark size)) placed = absurd placed
placed_so T U places (faults.Damaged (BadMark value)) placed = absurd placed
placed_so T U places (faults.Damaged (LogShort marked found)) placed = absurd placed
placed_so T U places (faults.Damaged (ImageShort marked found)) placed = absurd placed
placed_so T U places (faults.Damaged (BadImage place)) placed = absurd placed
placed_so T U places (faults.Damaged (Replay place number)) placed = absurd placed
placed_so T U places (faults.Damaged (CountDiffers marked found)) placed = absurd placed
placed_so T U places (faults.Damaged (BadBlock place)) placed = placed
