-- A name among others, looked for one by one.
use Rattle.std.proofs.Common.{◌≡◌, ℕ, ◌+◌, ◌<◌, true, false, List, ◌∷◌, length, drop, get_or, Some, refl, sym, ap, ◌∙◌}
use Rattle.std.specs.Prelude.{slice_get}
use Rattle.std.specs.List.{list_any}
use Rattle.std.specs.Str.{bytes_eq}
use Rattle.std.proofs.lemmas.List.{drop_more}
use Rattle.std.proofs.lemmas.Option.{slice_get-get_or}

value : {A : Type 0} (x y : A) → Some x ≡ Some y → x ≡ y
value x y e = cc

pub next : (names : List (List ℕ)) (i : ℕ) (x : List ℕ) → i < length names → slice_get names i ≡ Some x → drop i names ≡ x ∷ drop (i + 1) names
next names i x within e =
    drop_more names i x within ∙ ap (λ y. y ∷ drop (i + 1) names) (value (get_or names i x) x (sym (slice_get-get_or names i x within) ∙ e))

pub named_here : (name : List ℕ) (names : List (List ℕ)) (i : ℕ) (x : List ℕ) → i < length names → slice_get names i ≡ Some x → bytes_eq name x ≡ true
    → list_any (bytes_eq name) (drop i names) ≡ list_any (bytes_eq name) names → true ≡ list_any (bytes_eq name) names
named_here name names i x within e is so_far =
    let one : list_any (bytes_eq name) (drop i names) ≡ true = ap (list_any (bytes_eq name)) (next names i x within e) ∙ rw is refl in
    sym one ∙ so_far

pub named_later : (name : List ℕ) (names : List (List ℕ)) (i : ℕ) (x : List ℕ) → i < length names → slice_get names i ≡ Some x → bytes_eq name x ≡ false
    → list_any (bytes_eq name) (drop i names) ≡ list_any (bytes_eq name) names → list_any (bytes_eq name) (drop (i + 1) names) ≡ list_any (bytes_eq name) names
named_later name names i x within e is so_far =
    let one : list_any (bytes_eq name) (drop i names) ≡ list_any (bytes_eq name) (drop (i + 1) names) = ap (list_any (bytes_eq name)) (next names i x within e) ∙ rw is refl in
    sym one ∙ so_far
