-- The words as texts of characters, one by one.
use Rattle.std.proofs.Common.{◌≡◌, ◌∙◌, ◌+◌, ◌<◌, ◌≤◌, ℕ, List, [], ◌∷◌, ◌++◌, All, IsUtf8, ap, ap₂, length, map, slice_index_or, subst, sym, take}
use Rattle.std.proofs.lemmas.List.{map-append, take_all, take_more}
use Rattle.std.proofs.lemmas.List.Elements.{All-push}
use Rattle.s80_line.specs.Line.{Word}

-- the first i words, as they were taken
abbrev pub AreTaken : {X : Type 0} → (X → Word) → List Word → ℕ → List X → Type 0
AreTaken now words i texts = (map now texts ≡ take i words) × All IsUtf8 (take i words)

pub one_more : {X : Type 0} (now : X → Word) (words : List Word) (i : ℕ) (texts more : List X) (text : X) (word : Word) → AreTaken now words i texts
    → i < length words → word ≡ slice_index_or words i word → now text ≡ word → IsUtf8 word → more ≡ texts ++ text ∷ [] → AreTaken now words (i + 1) more
one_more now words i texts more text word (taken, all) within is same utf8 so =
    let next : take (i + 1) words ≡ take i words ++ word ∷ [] = take_more words i word within ∙ ap (λ w. take i words ++ w ∷ []) (sym is) in (
      ap (map now) so ∙ map-append now texts (text ∷ []) ∙ ap₂ (λ xs x. xs ++ x ∷ []) taken same ∙ sym next,
      subst (All IsUtf8) (sym next) (All-push IsUtf8 (take i words) word all utf8),
    )

pub all_taken : {X : Type 0} (now : X → Word) (words : List Word) (i : ℕ) (texts : List X) → AreTaken now words i texts → length words ≤ i
    → All IsUtf8 words × (map now texts ≡ words)
all_taken now words i texts (taken, all) past = (subst (All IsUtf8) (take_all i words past) all, taken ∙ take_all i words past)
