-- Changes that are accepted where there is room for them, and changes that are refused.
use Rattle.std.proofs.Common.{◌≡◌, inl, inr, ℕ, ◌+◌, ◌<◌, ◌≤◌, length, Some, None, Result, Ok, Err, refl, ap, ◌∙◌, arith}
use Rattle.std.proofs.lemmas.Bool.Decides.{leb_tells}
use Rattle.s80_change.specs.declared.change.Change.{Change}
use Rattle.s80_form.specs.declared.refusal.Refusal.{Refusal}
use Rattle.s80_form.specs.declared.refusal.Refusal.TheVariants.{LogFull}
use Rattle.s80_change.specs.Block.{block, log_limit}
use Rattle.s80_apply.specs.State.{State}
use Rattle.s80_apply.specs.Accept.{accept}
use Rattle.s80_apply.specs.List.{state_after, IsAccepted, too_full, refused_or, refusal_to}
use Rattle.s80_apply.proofs.lemmas.Lists.{is_after}

-- ---- room

pub full_is : (end size : ℕ) → log_limit < end + size → too_full end size ≡ Some (LogFull end)
full_is end size over =
    elim (leb_tells (end + size) log_limit) [
      | inl h ↦ absurd (omega arith)
      | inr h ↦ rw h.0 refl
    ]

not_full : (end size : ℕ) → too_full end size ≡ None → end + size ≤ log_limit
not_full end size e =
    elim (leb_tells (end + size) log_limit) [
      | inl h ↦ h.1
      | inr h ↦ absurd (let k = rw h.0 at e in cc)
    ]

has_room : (end size : ℕ) → end + size ≤ log_limit → too_full end size ≡ None
has_room end size within =
    elim (leb_tells (end + size) log_limit) [
      | inl h ↦ rw h.0 refl
      | inr h ↦ absurd (omega arith)
    ]

-- ---- what isn't refused

-- what isn't refused is accepted, and there is room for it
pub unrefused : (answer : Result State Refusal) (end size : ℕ) → refused_or answer (too_full end size) ≡ None → IsAccepted answer × (end + size ≤ log_limit)
unrefused (Ok state) end size e = (tt, not_full end size e)
unrefused (Err refusal) end size e = absurd cc

-- and what is accepted isn't refused, where there is room for it
pub unrefusing : (answer : Result State Refusal) (end size : ℕ) → IsAccepted answer → end + size ≤ log_limit → refused_or answer (too_full end size) ≡ None
unrefusing (Ok state) end size accepted within = has_room end size within
unrefusing (Err refusal) end size accepted within = absurd accepted

-- ---- one change in a state, whose block begins at a place

module _ (before : State) (at : ℕ) (change : Change) where
  -- why it is refused
  pub refuses_so : (refusal : Refusal) → accept change before ≡ Err refusal → refusal_to before at change ≡ Some refusal
  refuses_so refusal is = ap (λ r. refused_or r (too_full at (length (block change)))) is

  -- it is accepted, but the log is full
  pub refuses_full : (after : State) → accept change before ≡ Ok after → log_limit < at + length (block change) → refusal_to before at change ≡ Some (LogFull at)
  refuses_full after is over = ap (λ r. refused_or r (too_full at (length (block change)))) is ∙ full_is at (length (block change)) over

  -- it is accepted, and there is room for it
  pub refuses_none : (after : State) → accept change before ≡ Ok after → at + length (block change) ≤ log_limit → refusal_to before at change ≡ None
  refuses_none after is within = ap (λ r. refused_or r (too_full at (length (block change)))) is ∙ has_room at (length (block change)) within

  -- what it makes
  pub makes_so : (after : State) → accept change before ≡ Ok after → after ≡ state_after change before
  makes_so after is = is_after (accept change before) before after is
