-- How a run of calls on a disk goes on.
use Rattle.std.proofs.Common.{◌≡◌, inl, inr, ⊎_elim, ℕ, sym, subst, arith}
use Rattle.s80_disk.specs.Image.{Image}
use Rattle.s80_disk.specs.Moments.{Beside, Elapses, LeavesOnly}

module _ {D : Type 0} (moment : D → ℕ) (left_since : D → ℕ → ℕ → Image → Type 0) where
  -- before the first call
  pub started : (old : D) (P : ℕ → Image → Type 0) → ((told : ℕ) (c : Image) → left_since old (moment old) told c → P told c) → LeavesOnly moment left_since old old P
  started old P here = record { later = omega arith; each = here; before = λ t told c le left. inl left }

  -- one call more, after which a crash leaves what has P
  pub goes_on : (may_leave : D → Image → Type 0) (beside : D → Beside) (old mid new : D) (P : ℕ → Image → Type 0) → LeavesOnly moment left_since old mid P → Elapses moment left_since may_leave beside mid new → ((c : Image) → may_leave new c → P (beside new).told c) → LeavesOnly moment left_since old new P
  goes_on may_leave beside old mid new P so_far time here = record {
    later = omega (arith, so_far.later, time.later);
    each = λ told c left. ⊎_elim (so_far.each told c) (now told c) (time.nothing_else (moment old) told c so_far.later left);
    before = λ t told c le left. ⊎_elim (so_far.before t told c le) (λ h. inr (now told c h)) (time.nothing_else t told c (omega (arith, le, so_far.later)) left);
  }
    where
      now : (told : ℕ) (c : Image) → may_leave new c × (told ≡ (beside new).told) → P told c
      now told c h = let Q : ℕ → Type 0 = λ n. P n c in subst Q (sym h.1) (here c h.0)

  -- a run and a run after it
  pub joined : (old mid new : D) (P Q : ℕ → Image → Type 0) → LeavesOnly moment left_since old mid P → LeavesOnly moment left_since mid new Q → ((told : ℕ) (c : Image) → Q told c → P told c) → LeavesOnly moment left_since old new P
  joined old mid new P Q first second implies = record {
    later = omega (arith, first.later, second.later);
    each = λ told c left. ⊎_elim (first.each told c) (implies told c) (second.before (moment old) told c first.later left);
    before = λ t told c le left. ⊎_elim (first.before t told c le) (λ h. inr (implies told c h)) (second.before t told c (omega (arith, le, first.later)) left);
  }

  -- what a crash leaves has less said of it
  pub weaker : (old new : D) (P Q : ℕ → Image → Type 0) → LeavesOnly moment left_since old new P → ((told : ℕ) (c : Image) → P told c → Q told c) → LeavesOnly moment left_since old new Q
  weaker old new P Q run implies = record {
    later = run.later;
    each = λ told c left. implies told c (run.each told c left);
    before = λ t told c le left. ⊎_elim (λ h. inl h) (λ h. inr (implies told c h)) (run.before t told c le left);
  }
