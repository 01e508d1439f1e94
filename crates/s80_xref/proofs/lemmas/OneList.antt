-- Those of a list of which something holds are one list, and so are all names of which it holds.
use Rattle.std.proofs.Common.{◌≡◌, ◌⊎◌, ◌∙◌, inl, inr, ⊎_elim, ℕ, suc, zero, refl, sym, ap, subst, List, [], ◌∷◌}
use Rattle.std.specs.List.{Contains}
use Rattle.std.specs.Ordering.{nat_cmp}
use Rattle.std.specs.Cmp.Lexicographic.{slice_cmp, nat_list_cmp_total}
use Rattle.std.specs.declared.cmp.Ordering.TheVariants.{Less}
use Rattle.s80_xref.specs.Places.{AreAscending, AreNames, AreThose}
use Rattle.s80_xref.proofs.Members.{here, in_none, later, one_of}

pub one_found : {X : Type 0} (P : X → Type 0) (xs one other : List X) → AreThose P xs one → AreThose P xs other → other ≡ one
one_found P [] one other h k = k ∙ sym h
one_found P (x ∷ xs) one other (inl (holds, (rest, is, those))) (inl (again, (more, also, others))) = also ∙ ap (λ l. x ∷ l) (one_found P xs rest more those others) ∙ sym is
one_found P (x ∷ xs) one other (inl (holds, found)) (inr (fails, others)) = absurd (fails holds)
one_found P (x ∷ xs) one other (inr (fails, those)) (inl (holds, found)) = absurd (fails holds)
one_found P (x ∷ xs) one other (inr (fails, those)) (inr (again, others)) = one_found P xs one other those others

-- ---- names

abbrev Text : Type 0
Text = List ℕ

abbrev IsBelow : Text → Text → Type 0
IsBelow one next = slice_cmp nat_cmp one next ≡ Less

above_none : (x : Text) → IsBelow x x → ⊥
above_none x below = cc (below, nat_list_cmp_total.antisymm x x)

behind : (x : Text) (xs : List Text) → AreAscending (x ∷ xs) → AreAscending xs
behind x xs up = λ i one next at after. up (suc i) one next at after

first_below : (x : Text) (xs : List Text) (y : Text) → AreAscending (x ∷ xs) → Contains xs y → IsBelow x y
first_below x [] y up has = absurd (in_none y has)
first_below x (z ∷ zs) y up has =
    let next : IsBelow x z = up zero x z refl refl in
    ⊎_elim (λ same. subst (IsBelow x) same next) (λ rest. nat_list_cmp_total.trans x z y next (first_below z zs y (behind x (z ∷ zs) up) rest)) (one_of z zs y has)

-- the first name of each is one of the other, and the first of the other is none of the rest
one_first : (x : Text) (xs : List Text) (y : Text) (ys : List Text) → AreAscending (x ∷ xs) → AreAscending (y ∷ ys) → Contains (y ∷ ys) x → Contains (x ∷ xs) y → x ≡ y
one_first x xs y ys up rising there also = by_case (one_of y ys x there) (one_of x xs y also)
  where
    by_case : (y ≡ x) ⊎ Contains ys x → (x ≡ y) ⊎ Contains xs y → x ≡ y
    by_case (inl same) case = sym same
    by_case (inr rest) (inl same) = same
    by_case (inr rest) (inr more) = absurd (above_none x (nat_list_cmp_total.trans x y x (first_below x xs y up more) (first_below y ys x rising rest)))

abbrev AreAmong : List Text → List Text → Type 0
AreAmong names others = (name : Text) → Contains names name → Contains others name

-- without their first
rest_among : (x : Text) (xs ys : List Text) → AreAscending (x ∷ xs) → AreAmong (x ∷ xs) (x ∷ ys) → AreAmong xs ys
rest_among x xs ys up among name has = by_case (one_of x ys name (among name (later x xs name has)))
  where
    by_case : (x ≡ name) ⊎ Contains ys name → Contains ys name
    by_case (inl same) = absurd (above_none x (subst (IsBelow x) (sym same) (first_below x xs name up has)))
    by_case (inr rest) = rest

one_ascending : (xs ys : List Text) → AreAscending xs → AreAscending ys → AreAmong xs ys → AreAmong ys xs → xs ≡ ys
one_ascending [] [] up rising among also = refl
one_ascending [] (y ∷ ys) up rising among also = absurd (in_none y (also y (here y ys)))
one_ascending (x ∷ xs) [] up rising among also = absurd (in_none x (among x (here x xs)))
one_ascending (x ∷ xs) (y ∷ ys) up rising among also =
    let same : x ≡ y = one_first x xs y ys up rising (among x (here x xs)) (also y (here y ys)) in
    let from_x : AreAscending (x ∷ ys) = subst (λ z. AreAscending (z ∷ ys)) (sym same) rising in
    let within : AreAmong (x ∷ xs) (x ∷ ys) = subst (λ z. AreAmong (x ∷ xs) (z ∷ ys)) (sym same) among in
    let around : AreAmong (x ∷ ys) (x ∷ xs) = subst (λ z. AreAmong (z ∷ ys) (x ∷ xs)) (sym same) also in
    let rest = one_ascending xs ys (behind x xs up) (behind x ys from_x) (rest_among x xs ys up within) (rest_among x ys xs from_x around) in
    ap (λ l. x ∷ l) rest ∙ ap (λ z. z ∷ ys) same

pub one_naming : (P : Text → Type 0) (one other : List Text) → AreNames P one → AreNames P other → other ≡ one
one_naming P one other h k = one_ascending other one k.0 h.0 (λ name has. (h.1 name).1 ((k.1 name).0 has)) (λ name has. (k.1 name).1 ((h.1 name).0 has))
