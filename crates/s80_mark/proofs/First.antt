-- The first mark of a folder.
use Rattle.std.proofs.Common.{◌≡◌, inl, inr, ⊎_elim, ◌≤◌, ℕ, List, length, take, subst, sym, ◌∙◌, ap, arith, get_or}
use Rattle.std.specs.Prelude.{slice_index, [], Some, None}
use Rattle.std.proofs.lemmas.List.{get_or-take}
use Rattle.s80_disk.specs.declared.disk.FileId.TheVariants.{Mark, Log0, Log1}
use Rattle.s80_disk.specs.Image.{Image, Wrote, Only}
use Rattle.s80_disk.specs.Moments.{ComesFrom}
use Rattle.s80_disk.specs.Untouched.{StillLeft}
use Rattle.s80_mark.specs.declared.mark.MarkState.{MarkState}
use Rattle.s80_mark.specs.declared.slots.Slot.TheVariants.{First, Second}
use Rattle.s80_mark.specs.Mark.{later_open, valid_mark}
use Rattle.s80_mark.specs.Slots.{mark_in}
use Rattle.s80_mark.specs.Writes.{IsFilled}
use Rattle.s80_mark.specs.Stays.{Anything}
use Rattle.s80_mark.specs.Found.{AreLogsEmpty}
use Rattle.s80_mark.specs.Init.{StaysEmpty, SyncsFirst, KeepNothing, StaysWithout}
use Rattle.s80_mark.proofs.Bytes.{closed}

-- zeros, and a mark in the first slot
pub first_valid : (mark : MarkState) (zeros old mid new : List ℕ) → length zeros ≡ 128 → slice_index zeros 64 ≡ 0 → Wrote 0 zeros old mid → IsFilled First mark mid new → valid_mark new ≡ Some mark
first_valid mark zeros old mid new count zero wrote filled =
    let long : 128 ≤ length mid = let h = wrote.length_is (omega (arith, count)) in omega (arith, h, count) in
    let P : ℕ → Type 0 = λ n. take n mid ≡ zeros in
    let front : take 128 mid ≡ zeros = subst P count wrote.here in
    let gate : slice_index mid 64 ≡ 0 = sym (get_or-take 128 mid 64 0 (omega arith)) ∙ ap (λ (l : List ℕ). get_or l 64 0) front ∙ zero in
    let second : mark_in mid Second ≡ None = closed mid Second (λ e. let h : 0 ≡ 33 = sym gate ∙ e in omega (arith, h)) in
    let slots = filled long in
    λ i. later_open (slots.1 i) ((slots.0 ∙ second) i)

-- empty logs stay so
pub stay_empty : (before : Image → Type 0) (told_before : ℕ) → Only Log0 [] before → Only Log1 [] before → (told : ℕ) (c : Image) → ComesFrom before told_before Mark Anything told c → StaysEmpty told_before told c
stay_empty before told_before log0 log1 told c from = record {
  told_is = from.told_is;
  log0 = from.step.others Log0 (λ e. cc e) ∙ log0 from.image from.was;
  log1 = from.step.others Log1 (λ e. cc e) ∙ log1 from.image from.was;
}

module _ (reads : Image) (before : Image → Type 0) (told_before : ℕ) where
  -- as long as nothing changes
  pub syncs_still : (told : ℕ) (c : Image) → StillLeft before told_before told c → SyncsFirst reads before told_before told c
  syncs_still told c left = record { told_is = left.told_is; logs = inl left.was }

  -- when both logs are on the disk
  pub syncs_on : (mid : Image → Type 0) (told_mid : ℕ) → told_mid ≡ told_before → Only Log0 (reads Log0) mid → Only Log1 (reads Log1) mid → (told : ℕ) (c : Image) → ComesFrom mid told_mid Mark Anything told c → SyncsFirst reads before told_before told c
  syncs_on mid told_mid same log0 log1 told c from = record {
    told_is = from.told_is ∙ same;
    logs = inr (from.step.others Log0 (λ e. cc e) ∙ log0 from.image from.was, from.step.others Log1 (λ e. cc e) ∙ log1 from.image from.was);
  }

  -- where no change is kept, none is at any moment
  pub stays_without : AreLogsEmpty reads → ((c : Image) → before c → KeepNothing c) → (told : ℕ) (c : Image) → SyncsFirst reads before told_before told c → StaysWithout told_before told c
  stays_without empty nothing told c syncs = record {
    told_is = syncs.told_is;
    nothing = ⊎_elim (nothing c) (λ logs. inl (logs.0 ∙ empty.0, logs.1 ∙ empty.1)) syncs.logs;
  }
