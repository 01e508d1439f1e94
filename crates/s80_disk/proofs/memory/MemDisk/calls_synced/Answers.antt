use Rattle.std.proofs.Common.{◌≡◌, ◌+◌, ◌-◌, ◌<◌, ℕ, true, false, List, length, get_or, sym, ◌∙◌, ap, subst, arith, ⊎_elim}
use Rattle.std.proofs.lemmas.Bool.{cases_lt}
use Rattle.std.proofs.lemmas.List.{get_or_default}
use Rattle.s80_disk.specs.declared.disk.FileId.{FileId}
use Rattle.s80_disk.specs.declared.recorded.Recorded.{Recorded}
use Rattle.s80_disk.specs.Crash.{syncs}
use Rattle.s80_disk.proofs.memory.MemDisk.calls_synced.Invariants.{LastBelow}
use Rattle.s80_disk.proofs.memory.MemDisk.calls_synced.Goals as goal
use Rattle.s80_disk.proofs.memory.MemDisk.calls_synced.Goals.{then-syncs, else-syncs}

found : (calls : List Recorded) (file : FileId) (i : ℕ) → ((d : Recorded) → syncs file (get_or calls i d) ≡ true) → LastBelow calls file (i + 1) (i + 1)
found calls file i at = record {
  within = omega arith;
  none = λ k d low high. absurd (omega arith);
  last = λ some d. let is : i + 1 - 1 ≡ i = omega arith in subst (λ (k : ℕ). syncs file (get_or calls k d) ≡ true) (sym is) (at d);
}

passed : (calls : List Recorded) (file : FileId) (i n : ℕ) → ((d : Recorded) → syncs file (get_or calls i d) ≡ false) → LastBelow calls file i n → LastBelow calls file (i + 1) n
passed calls file i n at before = record {
  within = omega (arith, before.within);
  none = λ k d low high. ⊎_elim (before.none k d low) (λ le. let is : i ≡ k = omega arith in subst (λ (j : ℕ). syncs file (get_or calls j d) ≡ false) is (at d)) (cases_lt k i);
  last = before.last;
}

pub loop-i-preserved : goal.loop-i-preserved
loop-i-preserved c =
    let calls = c.args.self.now.calls.items in
    let file = c.args.file in
    let i = c.loop-i.i in
    let read = c.syncs.ensures ∙ ap (λ (l : List Recorded). syncs file (get_or l i _)) c.deref-call-items.ensures.value in
    let lt : i < length calls = omega (arith, c.loop-i-test.true, ap (λ (l : List Recorded). length l) c.deref-call-items.ensures.value) in
    elim c.if-syncs.branch [
      | then-syncs w ↦ subst (LastBelow calls file (i + 1)) (sym w.synced-is) (found calls file i (λ d. ap (syncs file) (get_or_default calls i d _ lt) ∙ sym read ∙ w.if-syncs.true))
      | else-syncs w ↦ subst (LastBelow calls file (i + 1)) (sym w.synced-is) (passed calls file i c.loop-i.synced (λ d. ap (syncs file) (get_or_default calls i d _ lt) ∙ sym read ∙ w.if-syncs.false) c.loop-i.invariant)
    ]
