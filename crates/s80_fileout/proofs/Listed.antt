-- Changes one after the other.
use Rattle.std.proofs.Common.{◌≡◌, ◌∙◌, ◌+◌, ◌≤◌, ℕ, suc, zero, List, [], ◌∷◌, ◌++◌, Option, Some, drop, length, sym, ap, arith}
use Rattle.std.specs.Prelude.{slice_get}
use Rattle.std.proofs.lemmas.List.{drop_all}
use Rattle.s80_change.specs.declared.change.Change.{Change}
use Rattle.s80_change.specs.declared.head.SectionHead.{SectionHead}
use Rattle.s80_fileout.specs.FileText.{changes_from, closed}

-- what is left at a place begins with what stands there
left_behind : (xs : List Change) (i : ℕ) (x : Change) → slice_get xs i ≡ Some x → drop i xs ≡ x ∷ drop (suc i) xs
left_behind [] i x at = absurd (cc)
left_behind (y ∷ ys) zero x at = let same : y ≡ x = cc in ap (λ z. z ∷ ys) same
left_behind (y ∷ ys) (suc i) x at = left_behind ys i x at

left_at : (xs : List Change) (i : ℕ) (x : Change) → slice_get xs i ≡ Some x → drop i xs ≡ x ∷ drop (i + 1) xs
left_at xs i x at = let on : suc i ≡ i + 1 = omega arith in left_behind xs i x at ∙ ap (λ n. x ∷ drop n xs) on

-- a change more
pub next_change : (all : List Change) (i : ℕ) (change : Change) (text now whole : List ℕ) (section after : Option SectionHead) → text ++ changes_from section (drop i all) ≡ whole → slice_get all i ≡ Some change
    → now ++ changes_from after (drop (i + 1) all) ≡ text ++ changes_from section (change ∷ drop (i + 1) all) → now ++ changes_from after (drop (i + 1) all) ≡ whole
next_change all i change text now whole section after so at more = more ∙ ap (λ l. text ++ changes_from section l) (sym (left_at all i change at)) ∙ so

-- none is left
pub all_changes : (all : List Change) (i : ℕ) (text whole : List ℕ) (section : Option SectionHead) → length all ≤ i → text ++ changes_from section (drop i all) ≡ whole → text ++ closed section ≡ whole
all_changes all i text whole section past so = ap (λ l. text ++ changes_from section l) (sym (drop_all i all past)) ∙ so
