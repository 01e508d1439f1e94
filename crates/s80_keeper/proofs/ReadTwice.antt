-- Calls that write nothing, one after the other.
use Rattle.std.proofs.Common.{ℕ, Bool, ap, ◌∙◌, arith}
use Rattle.s80_disk.specs.Image.{Image}
use Rattle.s80_disk.specs.Moments.{Beside}
use Rattle.s80_disk.specs.Untouched.{IsUntouched, StillLeft}
use Rattle.s80_disk.proofs.lemmas.Run.{joined}

module _ {D : Type 0} (tells : D → Bool) (reads : D → Image) (may_leave : D → Image → Type 0) (moment : D → ℕ) (left_since : D → ℕ → ℕ → Image → Type 0) (beside : D → Beside) (disk_faults : D → ℕ) where
  abbrev Leaves : D → D → Type 0
  Leaves old new = IsUntouched tells reads may_leave moment left_since beside disk_faults old new

  pub read_twice : (old mid new : D) → Leaves old mid → Leaves mid new → Leaves old new
  read_twice old mid new first second = record {
    telling = second.telling ∙ first.telling;
    same = λ file. second.same file ∙ first.same file;
    crash = λ c left. first.crash c (second.crash c left);
    any_moment = joined moment left_since old mid new (StillLeft (may_leave old) (beside old).told) (StillLeft (may_leave mid) (beside mid).told) first.any_moment second.any_moment
        (λ told c left. record { told_is = left.told_is ∙ ap (λ (b : Beside). b.told) first.rest; was = first.crash c left.was });
    rest = second.rest ∙ first.rest;
    later = omega (arith, first.later, second.later);
  }
