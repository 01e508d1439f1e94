-- What is told of changes, one after another.
use Rattle.std.proofs.Common.{◌≡◌, ◌∙◌, ◌+◌, ◌-◌, ◌≤◌, ℕ, suc, zero, List, [], ◌∷◌, ◌++◌, Some, take, drop, length, sym, ap, append_assoc, arith}
use Rattle.std.specs.List.{slice_get}
use Rattle.std.proofs.lemmas.List.{append-nil, drop_all, length-drop, take_more}
use Rattle.std.proofs.lemmas.List.Concat.{flat_map-append}
use Rattle.std.proofs.lemmas.Option.{slice_get_within, get_or_from_slice_get}
use Rattle.s80_change.specs.declared.change.Change.{Change}
use Rattle.s80_model.specs.Texts.{change_line, changes_text, version_text, versions_text}

-- ---- the lines of a set

line_more : (set : List Change) (i : ℕ) (change : Change) → slice_get set i ≡ Some change
    → changes_text (take (i + 1) set) ≡ changes_text (take i set) ++ (change_line change ++ 10 ∷ [])
line_more set i change at =
    ap changes_text (take_more set i change (slice_get_within set i change at) ∙ ap (λ c. take i set ++ c ∷ []) (get_or_from_slice_get set i change change at))
    ∙ flat_map-append (λ c. change_line c ++ 10 ∷ []) (take i set) (change ∷ [])
    ∙ ap (λ l. changes_text (take i set) ++ l) (append-nil (change_line change ++ 10 ∷ []))

pub next_line : (set : List Change) (i : ℕ) (change : Change) (text t u : List ℕ) → text ≡ changes_text (take i set) → slice_get set i ≡ Some change
    → t ≡ text ++ change_line change → u ≡ t ++ 10 ∷ [] → u ≡ changes_text (take (i + 1) set)
next_line set i change text t u text_is at t_is u_is =
    u_is ∙ ap (λ l. l ++ 10 ∷ []) (t_is ∙ ap (λ l. l ++ change_line change) text_is) ∙ append_assoc (changes_text (take i set)) (change_line change) (10 ∷ [])
    ∙ sym (line_more set i change at)

-- ---- the versions

left_behind : (xs : List Change) (i : ℕ) (x : Change) → slice_get xs i ≡ Some x → drop i xs ≡ x ∷ drop (suc i) xs
left_behind [] i x at = absurd (cc)
left_behind (y ∷ ys) zero x at = let same : y ≡ x = cc in ap (λ z. z ∷ ys) same
left_behind (y ∷ ys) (suc i) x at = left_behind ys i x at

left_at : (xs : List Change) (i : ℕ) (x : Change) → slice_get xs i ≡ Some x → drop i xs ≡ x ∷ drop (i + 1) xs
left_at xs i x at = let on : suc i ≡ i + 1 = omega arith in left_behind xs i x at ∙ ap (λ n. x ∷ drop n xs) on

pub next_version : (all : List Change) (i number : ℕ) (change : Change) (text new : List ℕ) → text ++ versions_text (drop i all) ≡ versions_text all → slice_get all i ≡ Some change
    → number ≡ length all - i → new ≡ text ++ version_text number change → new ++ versions_text (drop (i + 1) all) ≡ versions_text all
next_version all i number change text new text_is at number_is new_is =
    let older = drop (i + 1) all in
    let left = left_at all i change at in
    let counted : number ≡ length (change ∷ older) = number_is ∙ sym (length-drop i all) ∙ ap length left in
    ap (λ l. l ++ versions_text older) (new_is ∙ ap (λ n. text ++ version_text n change) counted)
    ∙ append_assoc text (version_text (length (change ∷ older)) change) (versions_text older)
    ∙ ap (λ l. text ++ versions_text l) (sym left) ∙ text_is

pub all_versions : (all : List Change) (i : ℕ) (text : List ℕ) → length all ≤ i → text ++ versions_text (drop i all) ≡ versions_text all → text ≡ versions_text all
all_versions all i text past text_is = sym (append-nil text) ∙ ap (λ l. text ++ versions_text l) (sym (drop_all i all past)) ∙ text_is
