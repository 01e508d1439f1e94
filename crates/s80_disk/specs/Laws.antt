-- What holds of a disk in memory by the way in which it remembers its calls.
use Rattle.std.specs.Prelude.{◌≡◌, ◌≢◌, ℕ, zero, suc, ◌+◌, ◌-◌, ◌≤◌, min, max, Bool, true, false, List, [], ◌∷◌, ◌++◌, length, take, drop, replicate, refl, if◌then◌else◌}
use mathlib.Core.Logic.{inl, inr}
use Rattle.std.proofs.Common.{sym, ◌∙◌, ap, subst, arith, length-append, length-take, length-drop, append_assoc}
use Rattle.std.proofs.lemmas.Bool.{eq-eqb, eqb-true, false_from_ne_true}
use Rattle.std.proofs.lemmas.List.{take_at, drop_at, take-append-le, take-take, length-replicate}
use Rattle.s80_disk.specs.declared.disk.FileId.{FileId}
use Rattle.s80_disk.specs.declared.disk.FileId.TheVariants.{Mark, Log0, Log1, Image0, Image1}
use Rattle.s80_disk.specs.Image.{Image, Wrote, Torn, CutShort, OnFile}
use Rattle.s80_disk.specs.Five.{number_of, same_file, changed, filled, overwritten}
use Rattle.s80_disk.specs.History.{Event, contents, leaves, told_after, left_in}
use Rattle.s80_disk.specs.History.Event.{PieceAt, CutTo, Synced, Counted}

file_at : ℕ → FileId
file_at zero = Mark
file_at (suc zero) = Log0
file_at (suc (suc zero)) = Log1
file_at (suc (suc (suc zero))) = Image0
file_at (suc (suc (suc (suc n)))) = Image1

file_at-number : (file : FileId) → file_at (number_of file) ≡ file
unfolding file_at
file_at-number Mark = refl
file_at-number Log0 = refl
file_at-number Log1 = refl
file_at-number Image0 = refl
file_at-number Image1 = refl

pub same_self : (file : FileId) → same_file file file ≡ true
same_self file = eq-eqb (number_of file) (number_of file) refl

pub same_is : (file other : FileId) → same_file file other ≡ true → file ≡ other
same_is file other h = sym (file_at-number file) ∙ ap file_at (eqb-true (number_of file) (number_of other) h) ∙ file_at-number other

pub differs : (file other : FileId) → other ≢ file → same_file file other ≡ false
differs file other ne = false_from_ne_true (same_file file other) (λ h. ne (sym (same_is file other h)))

-- a moment counts from an earlier one on
pub counts : (first : Image) (events : List Event) (t : ℕ) (c : Image) → t ≤ length events → leaves first events c → left_in first events t (told_after events) c
counts first [] t c le left = (le, left, refl)
counts first (event ∷ events) t c le left = inl (le, left, refl)

within : (first : Image) (events : List Event) (t told : ℕ) (c : Image) → left_in first events t told c → t ≤ length events
within first [] t told c left = left.0
within first (event ∷ events) t told c (inl left) = left.0
within first (event ∷ events) t told c (inr left) = let h = within first events t told c left in omega (arith, h)

-- from this moment on there is no other
pub only : (first : Image) (events : List Event) (told : ℕ) (c : Image) → left_in first events (length events) told c → leaves first events c × (told ≡ told_after events)
only first [] told c left = (left.1, left.2)
only first (event ∷ events) told c (inl left) = (left.1, left.2)
only first (event ∷ events) told c (inr left) = let h = within first events (suc (length events)) told c left in absurd (omega (arith, h))

module _ (at : ℕ) (piece bytes : List ℕ) where
  length-filled : length (filled at bytes) ≡ max (length bytes) at
  length-filled = omega (arith, length-append bytes (replicate (at - length bytes) 0), length-replicate {A = ℕ} (at - length bytes) 0)

  length-front : length (take at (filled at bytes)) ≡ at
  length-front = omega (arith, length-take at (filled at bytes), length-filled)

  length-overwritten : length (overwritten at piece bytes) ≡ max (length bytes) (at + length piece)
  length-overwritten = omega (arith, length-front, length-append (take at (filled at bytes) ++ piece) (drop (at + length piece) bytes), length-append (take at (filled at bytes)) piece, length-drop (at + length piece) bytes)

  before-overwritten : take (min at (length bytes)) (overwritten at piece bytes) ≡ take (min at (length bytes)) bytes
  before-overwritten =
      ap (λ (l : List ℕ). take (min at (length bytes)) l) (append_assoc (take at (filled at bytes)) piece (drop (at + length piece) bytes))
      ∙ take-append-le (min at (length bytes)) (take at (filled at bytes)) (piece ++ drop (at + length piece) bytes) (omega (arith, length-front))
      ∙ take-take (min at (length bytes)) at (filled at bytes) (omega arith)
      ∙ take-append-le (min at (length bytes)) bytes (replicate (at - length bytes) 0) (omega arith)

  here-overwritten : take (length piece) (drop at (overwritten at piece bytes)) ≡ piece
  here-overwritten =
      ap (λ (l : List ℕ). take (length piece) (drop at l)) (append_assoc (take at (filled at bytes)) piece (drop (at + length piece) bytes))
      ∙ ap (λ (l : List ℕ). take (length piece) l) (drop_at (take at (filled at bytes)) (piece ++ drop (at + length piece) bytes) at length-front)
      ∙ take_at piece (drop (at + length piece) bytes) (length piece) refl

  after-overwritten : drop (at + length piece) (overwritten at piece bytes) ≡ drop (at + length piece) bytes
  after-overwritten = drop_at (take at (filled at bytes) ++ piece) (drop (at + length piece) bytes) (at + length piece) (omega (arith, length-front, length-append (take at (filled at bytes)) piece))

  pub wrote : Wrote at piece bytes (overwritten at piece bytes)
  wrote = record { before = before-overwritten; here = here-overwritten; after = after-overwritten; length_is = λ some. length-overwritten }

  pub torn : Torn at (length piece) bytes (overwritten at piece bytes)
  torn = record { before = before-overwritten; after = after-overwritten; no_shorter = omega (arith, length-overwritten); no_longer = omega (arith, length-overwritten) }

pub cut : (to : ℕ) (bytes : List ℕ) → CutShort to bytes (take to bytes)
cut to bytes = record { front = take-take to to bytes (omega arith); no_shorter = omega (arith, length-take to bytes); no_longer = omega (arith, length-take to bytes) }

pub changed_here : (file : FileId) (change : List ℕ → List ℕ) (image : Image) → changed file change image file ≡ change (image file)
changed_here file change image = ap (λ (b : Bool). if b then change (image file) else image file) (same_self file)

-- the change of one file is one of the steps
pub on_file : (file : FileId) (change : List ℕ → List ℕ) (step : List ℕ → List ℕ → Type 0) (image : Image) → step (image file) (change (image file)) → OnFile file step image (changed file change image)
on_file file change step image fits = record {
  here = subst (step (image file)) (sym (changed_here file change image)) fits;
  others = λ other ne. ap (λ (b : Bool). if b then change (image other) else image other) (differs file other ne);
}

-- what is read is one of the images that a crash may leave
pub reads_one : (first : Image) (events : List Event) → leaves first events (contents first events)
reads_one first [] = λ file. refl
reads_one first (PieceAt file at piece ∷ events) = (contents first events, reads_one first events, on_file file (overwritten at piece) (Torn at (length piece)) (contents first events) (torn at piece (contents first events file)))
reads_one first (CutTo file to ∷ events) = (contents first events, reads_one first events, on_file file (take to) (CutShort to) (contents first events) (cut to (contents first events file)))
reads_one first (Synced file ∷ events) = (reads_one first events, refl)
reads_one first (Counted count ∷ events) = reads_one first events

pub reads_left : (first now : Image) (events : List Event) → ((file : FileId) → now file ≡ contents first events file) → leaves first events now
reads_left first now events same = let e : contents first events ≡ now = λ i file. sym (same file) i in subst (leaves first events) e (reads_one first events)
