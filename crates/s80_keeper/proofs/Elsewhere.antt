-- Runs of calls that leave all files but the mark and one log.
use Rattle.std.proofs.Common.{◌≡◌, ◌≢◌, ℕ, ◌≤◌, Bool, List, refl, ap, ◌∙◌, arith}
use Rattle.std.specs.Prelude.{⊤}
use Rattle.s80_disk.specs.declared.disk.FileId.{FileId}
use Rattle.s80_disk.specs.declared.disk.FileId.TheVariants.{Mark}
use Rattle.s80_disk.specs.Image.{Image}
use Rattle.s80_disk.specs.Moments.{Beside, ComesFrom, LeavesOnly}
use Rattle.s80_disk.specs.Untouched.{IsUntouched, StillLeft}
use Rattle.s80_disk.proofs.lemmas.Run.{started, weaker}
use Rattle.s80_mark.specs.declared.mark.MarkState.{MarkState}
use Rattle.s80_mark.specs.Commit.{HasEither}
use Rattle.s80_mark.specs.Stays.{Anything}
use Rattle.s80_log.specs.Commit.{LeavesBeside}
use Rattle.s80_keeper.specs.Renewing.{IsElsewhere}
use Rattle.s80_keeper.proofs.Keeping.{elsewhere, still_elsewhere}
use Rattle.s80_keeper.proofs.Together.{elsewhere_on}

module _ {D : Type 0} (tells : D → Bool) (reads : D → Image) (may_leave : D → Image → Type 0) (moment : D → ℕ) (left_since : D → ℕ → ℕ → Image → Type 0) (beside : D → Beside) (disk_faults : D → ℕ) (log : FileId) where
  -- what one run leaves
  abbrev Leaves : D → D → Type 0
  Leaves old new = IsElsewhere tells reads may_leave moment left_since beside disk_faults log old new

  -- where no call is made
  pub elsewhere_still : (disk : D) → ((told : ℕ) (c : Image) → left_since disk (moment disk) told c → may_leave disk c × (told ≡ (beside disk).told)) → Leaves disk disk
  elsewhere_still disk now = record {
    telling = refl;
    others = λ other no_mark no_log. refl;
    any_moment = started moment left_since disk (LeavesBeside (may_leave disk) (beside disk).told log (λ e. ⊤)) (λ told c left. still_elsewhere (may_leave disk) (beside disk).told log told c (now told c left));
    rest = refl;
    later = omega arith;
  }

  -- where files are read alone
  pub elsewhere_read : (old new : D) → IsUntouched tells reads may_leave moment left_since beside disk_faults old new → Leaves old new
  elsewhere_read old new untouched = record {
    telling = untouched.telling;
    others = λ other no_mark no_log. untouched.same other;
    any_moment = weaker moment left_since old new (StillLeft (may_leave old) (beside old).told) (LeavesBeside (may_leave old) (beside old).told log (λ e. ⊤)) untouched.any_moment (λ told c left. still_elsewhere (may_leave old) (beside old).told log told c (left.was, left.told_is));
    rest = untouched.rest;
    later = untouched.later;
  }

  -- where one call changes the log
  pub elsewhere_log : (change : List ℕ → List ℕ → Type 0) (old new : D) → tells new ≡ tells old → ((other : FileId) → other ≢ log → reads new other ≡ reads old other) → LeavesOnly moment left_since old new (ComesFrom (may_leave old) (beside old).told log change) → beside new ≡ beside old → disk_faults old ≤ disk_faults new → Leaves old new
  elsewhere_log change old new telling same run rest later = record {
    telling = telling;
    others = λ other no_mark no_log. same other no_log;
    any_moment = weaker moment left_since old new (ComesFrom (may_leave old) (beside old).told log change) (LeavesBeside (may_leave old) (beside old).told log (λ e. ⊤)) run (elsewhere (may_leave old) (beside old).told log log change (λ other no_mark no_log. no_log));
    rest = rest;
    later = later;
  }

  -- where a mark is committed
  pub elsewhere_mark : (mark next : MarkState) (old new : D) → tells new ≡ tells old → ((other : FileId) → other ≢ Mark → reads new other ≡ reads old other) → LeavesOnly moment left_since old new (HasEither (tells old) (reads old) (may_leave old) (beside old).told mark next) → beside new ≡ beside old → disk_faults old ≤ disk_faults new → Leaves old new
  elsewhere_mark mark next old new telling same run rest later = record {
    telling = telling;
    others = λ other no_mark no_log. same other no_mark;
    any_moment = weaker moment left_since old new (HasEither (tells old) (reads old) (may_leave old) (beside old).told mark next) (LeavesBeside (may_leave old) (beside old).told log (λ e. ⊤)) run (λ told c either. elsewhere (may_leave old) (beside old).told log Mark Anything (λ other no_mark no_log. no_mark) told c either.from);
    rest = rest;
    later = later;
  }

  -- one run behind another
  pub elsewhere_then : (old mid new : D) → ((t : ℕ) (c : Image) → t ≤ moment mid → may_leave mid c → left_since mid t (beside mid).told c) → Leaves old mid → Leaves mid new → Leaves old new
  elsewhere_then old mid new counts first second = record {
    telling = second.telling ∙ first.telling;
    others = λ other no_mark no_log. second.others other no_mark no_log ∙ first.others other no_mark no_log;
    any_moment = elsewhere_on moment left_since old mid new (beside old).told (beside mid).told (ap (λ (b : Beside). b.told) first.rest) (may_leave old) (may_leave mid) log log refl counts first.any_moment second.any_moment;
    rest = second.rest ∙ first.rest;
    later = omega (arith, first.later, second.later);
  }
