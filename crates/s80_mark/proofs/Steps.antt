-- What a crash leaves in each step of a commit.
use Rattle.std.proofs.Common.{◌≡◌, ◌≤◌, ◌⊎◌, inl, ℕ, Bool, List, ◌∙◌, ap}
use Rattle.std.specs.Prelude.{Some}
use Rattle.s80_disk.specs.declared.disk.FileId.TheVariants.{Mark}
use Rattle.s80_disk.specs.Image.{Image, Follows}
use Rattle.s80_disk.specs.Moments.{Beside, LeavesOnly, ComesFrom}
use Rattle.s80_disk.specs.Untouched.{StillLeft}
use Rattle.s80_disk.proofs.lemmas.Run.{weaker, joined}
use Rattle.s80_mark.specs.declared.mark.MarkState.{MarkState}
use Rattle.s80_mark.specs.Mark.{valid_mark}
use Rattle.s80_mark.specs.Stays.{Anything}
use Rattle.s80_mark.specs.Commit.{CanCommit, HasEither}
use Rattle.s80_mark.proofs.Images.{comes_still, comes_through}

module _ {D : Type 0} (moment : D → ℕ) (left_since : D → ℕ → ℕ → Image → Type 0) (may_leave : D → Image → Type 0) (tells : D → Bool) (reads : D → Image) (beside : D → Beside) (old next : MarkState) (start : D) where
  abbrev Either : ℕ → Image → Type 0
  Either = HasEither (tells start) (reads start) (may_leave start) (beside start).told old next

  -- before the first write
  pub unwritten : (now : D) → LeavesOnly moment left_since start now (StillLeft (may_leave start) (beside start).told) → LeavesOnly moment left_since start now Either
  unwritten now run = weaker moment left_since start now _ Either run
      (λ told c left. record { from = comes_still Mark (may_leave start) (beside start).told told c left; mark = λ can. inl (ap valid_mark (can.durable c left.was) ∙ can.valid) })

  -- one step more
  pub stepped : (mid now : D) (change : List ℕ → List ℕ → Type 0) → LeavesOnly moment left_since start mid Either → LeavesOnly moment left_since mid now (ComesFrom (may_leave mid) (beside mid).told Mark change) → beside mid ≡ beside start → Follows Mark Anything (may_leave start) (may_leave mid) → (CanCommit (tells start) (reads start) (may_leave start) old next → (e : Image) → may_leave mid e → (new : List ℕ) → change (e Mark) new → (valid_mark new ≡ Some old) ⊎ (valid_mark new ≡ Some next)) → LeavesOnly moment left_since start now Either
  stepped mid now change run more same follows marks = joined moment left_since start mid now Either _ run more
      (λ told c from. record {
        from = comes_through Mark Anything change Anything (may_leave start) (may_leave mid) (beside start).told (beside mid).told (ap (λ (b : Beside). b.told) same) follows (λ _ _ _ _ _ _. tt) told c from;
        mark = λ can. marks can from.image from.was (c Mark) from.step.here;
      })

  -- a crash now
  pub left_now : (now : D) → ((t : ℕ) (c : Image) → t ≤ moment now → may_leave now c → left_since now t (beside now).told c) → LeavesOnly moment left_since start now Either → (c : Image) → may_leave now c → Either (beside now).told c
  left_now now counts run c left = run.each (beside now).told c (counts (moment start) c run.later left)
