-- What a crash leaves of the files that an item doesn't change.
use Rattle.std.proofs.Common.{◌≤◌, ℕ, Bool, true, false, inl, inr, if◌then◌else◌, refl, sym, subst, ◌∙◌}
use Rattle.std.specs.Prelude.{◌≢◌, ◌==◌}
use Rattle.s80_disk.specs.declared.disk.FileId.{FileId}
use Rattle.s80_disk.specs.declared.disk.FileId.TheVariants.{Mark, Log0, Log1}
use Rattle.s80_disk.specs.Image.{Image}
use Rattle.s80_disk.specs.Moments.{LeavesOnly}
use Rattle.s80_disk.proofs.lemmas.Run.{joined, weaker}
use Rattle.s80_log.specs.Commit.{LeavesBeside}
use Rattle.s80_log.specs.Log.{log_file}
use Rattle.s80_model.specs.declared.item.SessionItem.{SessionItem}
use Rattle.s80_session.specs.Files.{IsAsLeft, IsElsewhere, IsOther, IsUnwritten, LogAfter}
use Rattle.s80_session.specs.Putting.{IsAsBefore}

-- a log isn't the mark file
log_or_log : (b : Bool) → (if b then Log0 else Log1) ≢ Mark
log_or_log true is = cc is
log_or_log false is = cc is

pub no_mark : (number : ℕ) → log_file number ≢ Mark
no_mark number = log_or_log (number == 0)

pub no_log : (number : ℕ) → Mark ≢ log_file number
no_log number = λ is. no_mark number (sym is)

-- what an item doesn't write, whichever log counts behind it, isn't written by what follows
pub still_other : (item : SessionItem) (before now : ℕ) → LogAfter item before now → (file : FileId) → IsUnwritten item before file → IsOther now file
still_other item before now (inl same) file is = subst (λ n. IsOther n file) (sym same) is.other
still_other item before now (inr (asks, same)) file is = subst (λ n. IsOther n file) (sym same) (record { no_mark = is.other.no_mark; no_log = is.condensing asks })

-- an image of before
as_it_was : (before : Image → Type 0) (Stays : FileId → Type 0) (told : ℕ) (c : Image) → before c → IsElsewhere before Stays told c
as_it_was before Stays told c was = record { image = c; was = was; others = λ other stays. refl }

module _ {D : Type 0} (moment : D → ℕ) (left_since : D → ℕ → ℕ → Image → Type 0) where
  -- calls that leave what might be left before
  pub elsewhere_as_left : (old new : D) (before : Image → Type 0) (Stays : FileId → Type 0) → LeavesOnly moment left_since old new (IsAsLeft before) → LeavesOnly moment left_since old new (IsElsewhere before Stays)
  elsewhere_as_left old new before Stays run = weaker moment left_since old new (IsAsLeft before) (IsElsewhere before Stays) run (as_it_was before Stays)

  -- calls that put nothing, or only to the output
  pub left_as_before : (old new : D) (before : Image → Type 0) (told more : ℕ) → LeavesOnly moment left_since old new (IsAsBefore before told more) → LeavesOnly moment left_since old new (IsAsLeft before)
  left_as_before old new before told more run = weaker moment left_since old new (IsAsBefore before told more) (IsAsLeft before) run (λ n c h. h.was)

  -- the mark and one log were to be written
  pub elsewhere_beside : (old new : D) (before : Image → Type 0) (told : ℕ) (log : FileId) (P : Image → Type 0) (Stays : FileId → Type 0) → ((other : FileId) → Stays other → (other ≢ Mark) × (other ≢ log)) → LeavesOnly moment left_since old new (LeavesBeside before told log P) → LeavesOnly moment left_since old new (IsElsewhere before Stays)
  elsewhere_beside old new before told log P Stays neither run = weaker moment left_since old new (LeavesBeside before told log P) (IsElsewhere before Stays) run (λ n c h. record {
    image = h.image;
    was = h.was;
    others = λ other stays. h.others other (neither other stays).0 (neither other stays).1;
  })

  -- fewer files that stay
  pub elsewhere_fewer : (old new : D) (before : Image → Type 0) (Stays Fewer : FileId → Type 0) → ((other : FileId) → Fewer other → Stays other) → LeavesOnly moment left_since old new (IsElsewhere before Stays) → LeavesOnly moment left_since old new (IsElsewhere before Fewer)
  elsewhere_fewer old new before Stays Fewer among run = weaker moment left_since old new (IsElsewhere before Stays) (IsElsewhere before Fewer) run (λ n c h. record {
    image = h.image;
    was = h.was;
    others = λ other stays. h.others other (among other stays);
  })

  -- an answer more, before which a crash leaves this
  pub elsewhere_on : (old mid new : D) (before now : Image → Type 0) (told : ℕ) (Stays : FileId → Type 0) → ((t : ℕ) (c : Image) → t ≤ moment mid → now c → left_since mid t told c) → LeavesOnly moment left_since old mid (IsElsewhere before Stays) → LeavesOnly moment left_since mid new (IsAsLeft now) → LeavesOnly moment left_since old new (IsElsewhere before Stays)
  elsewhere_on old mid new before now told Stays counts first second =
      joined moment left_since old mid new (IsElsewhere before Stays) (IsAsLeft now) first second (λ n c left.
      let h = first.each told c (counts (moment old) c first.later left) in
      record { image = h.image; was = h.was; others = h.others })

  pub left_on : (old mid new : D) (before now : Image → Type 0) → ((c : Image) → now c → before c) → LeavesOnly moment left_since old mid (IsAsLeft before) → LeavesOnly moment left_since mid new (IsAsLeft now) → LeavesOnly moment left_since old new (IsAsLeft before)
  left_on old mid new before now less first second = joined moment left_since old mid new (IsAsLeft before) (IsAsLeft now) first second (λ n c left. less c left)

  -- two stretches of calls by which the same files stay
  pub elsewhere_then : (old mid new : D) (before now : Image → Type 0) (told : ℕ) (Stays : FileId → Type 0) → ((t : ℕ) (c : Image) → t ≤ moment mid → now c → left_since mid t told c) → LeavesOnly moment left_since old mid (IsElsewhere before Stays) → LeavesOnly moment left_since mid new (IsElsewhere now Stays) → LeavesOnly moment left_since old new (IsElsewhere before Stays)
  elsewhere_then old mid new before now told Stays counts first second =
      joined moment left_since old mid new (IsElsewhere before Stays) (IsElsewhere now Stays) first second (λ n c h.
      let f = first.each told h.image (counts (moment old) h.image first.later h.was) in
      record { image = f.image; was = f.was; others = λ other stays. h.others other stays ∙ f.others other stays })
