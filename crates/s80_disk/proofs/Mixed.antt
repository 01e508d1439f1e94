-- The files' pending states are independent: one file of one image goes with the others of another.
use Rattle.std.proofs.Common.{◌≡◌, ℕ, Bool, true, false, List, [], ◌∷◌, length}
use Rattle.std.specs.Prelude.{if◌then◌else◌}
use Rattle.s80_disk.specs.declared.disk.FileId.{FileId}
use Rattle.s80_disk.specs.Image.{Image, Torn, CutShort, OnFile}
use Rattle.s80_disk.specs.Five.{same_file}
use Rattle.s80_disk.specs.History.{Event, contents, leaves}
use Rattle.s80_disk.specs.History.Event.{PieceAt, CutTo, Synced, Counted}

-- this file of the one, and the others of the other
abbrev pub mixed : FileId → Image → Image → Image
mixed file one others other = if same_file file other then one other else others other

pub both : (R : List ℕ → List ℕ → Type 0) (b : Bool) (x x' y y' : List ℕ) → R x y → R x' y' → R (if b then x else x') (if b then y else y')
both R true x x' y y' h k = h
both R false x x' y y' h k = k

mixed_step : (file changes : FileId) (change : List ℕ → List ℕ → Type 0) (d c d' c' : Image) → OnFile changes change d c → OnFile changes change d' c' → OnFile changes change (mixed file d d') (mixed file c c')
mixed_step file changes change d c d' c' step step' = record {
  here = both change (same_file file changes) (d changes) (d' changes) (c changes) (c' changes) step.here step'.here;
  others = λ other ne. both (λ x y. y ≡ x) (same_file file other) (d other) (d' other) (c other) (c' other) (step.others other ne) (step'.others other ne);
}

pub leaves-mixed : (first : Image) (file : FileId) (events : List Event) (c c' : Image) → leaves first events c → leaves first events c' → leaves first events (mixed file c c')
leaves-mixed first file [] c c' left left' = λ other. both (λ x y. x ≡ first other) (same_file file other) (c other) (c' other) (c other) (c' other) (left other) (left' other)
leaves-mixed first file (PieceAt changes at piece ∷ events) c c' left left' = (mixed file left.0 left'.0, leaves-mixed first file events left.0 left'.0 left.1 left'.1, mixed_step file changes (Torn at (length piece)) left.0 c left'.0 c' left.2 left'.2)
leaves-mixed first file (CutTo changes to ∷ events) c c' left left' = (mixed file left.0 left'.0, leaves-mixed first file events left.0 left'.0 left.1 left'.1, mixed_step file changes (CutShort to) left.0 c left'.0 c' left.2 left'.2)
leaves-mixed first file (Synced changes ∷ events) c c' left left' =
    (leaves-mixed first file events c c' left.0 left'.0, both (λ x y. x ≡ contents first events changes) (same_file file changes) (c changes) (c' changes) (c changes) (c' changes) left.1 left'.1)
leaves-mixed first file (Counted count ∷ events) c c' left left' = leaves-mixed first file events c c' left left'
