use Rattle.std.proofs.Common.{◌≡◌, ◌<◌, ◌≤◌, ℕ, List, length, take, drop, get_or}
use Rattle.s80_disk.specs.Crash.{any_byte}
use Rattle.s80_disk.proofs.bytes.scatter.Given as goal

-- the places so far have the choice's bytes, and the others what they had
pub record Filling (choice start to place : ℕ) (first bytes : List ℕ) : Type 0 where
  pub before : take start bytes ≡ take start first
  pub after : drop to bytes ≡ drop to first
  pub length_is : length bytes ≡ length first
  pub here : (k : ℕ) → start ≤ k → k < place → get_or bytes k 0 ≡ any_byte choice k

abbrev pub invariant-loop-place : goal.invariant-loop-place
invariant-loop-place l = Filling l.choice l.start l.to l.place l.initial.bytes.items l.bytes.items
