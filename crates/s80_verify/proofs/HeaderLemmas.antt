-- The ends of frames.
use Rattle.std.proofs.Common.{◌≡◌, ◌≢◌, ◌∙◌, ap, sym, subst, refl, ℕ, zero, suc, ◌+◌, ◌*◌, ◌<◌, ◌≤◌, ◌⊎◌, inl, inr, List, [], ◌∷◌, ◌++◌, Option, Some, None, Bool, true, false, map, length, arith, append_assoc}
use Rattle.std.specs.List.{All, list_all}
use Rattle.std.proofs.lemmas.List.Elements.{All-head, All-tail}
use Rattle.std.proofs.lemmas.List.Sums.{AllPass-from_list_all, list_all-from_AllPass}
use Rattle.std.proofs.lemmas.List.Folds.{list_all-map}
use Rattle.s80_base.specs.declared.names.Side.{Side}
use Rattle.s80_code.specs.declared.code.Code.{Code}
use Rattle.s80_code.specs.declared.code.Entry.{Entry}
use Rattle.s80_code.specs.Entries.{EntryTree, constant, class_variable, outer, owner, extension, entry_of}
use Rattle.s80_verify.specs.Header.{IsPlain, is_plain, EndsIn, EndsPlain, IsExtended, BeforeOwner, BeforeExtension}

pub plain_is : (e : EntryTree) → is_plain e ≡ true → IsPlain e
plain_is (owner class side) p = cc
plain_is (extension number) p = cc
plain_is (constant v) p = tt
plain_is (class_variable class name) p = tt
plain_is (outer name) p = tt

pub is_plain_when : (e : EntryTree) → IsPlain e → is_plain e ≡ true
is_plain_when (owner class side) p = absurd p
is_plain_when (extension number) p = absurd p
is_plain_when (constant v) p = refl
is_plain_when (class_variable class name) p = refl
is_plain_when (outer name) p = refl

pub all_plain : (es : List EntryTree) → list_all is_plain es ≡ true → All IsPlain es
all_plain es p = λ k d h. plain_is _ (AllPass-from_list_all is_plain es p k d h)

pub when_all_plain : (es : List EntryTree) → All IsPlain es → list_all is_plain es ≡ true
when_all_plain es p = list_all-from_AllPass is_plain es (λ k d h. is_plain_when _ (p k d h))

pub entries_plain : (xs : List Entry) → list_all (λ e. is_plain (entry_of e)) xs ≡ true → All IsPlain (map entry_of xs)
entries_plain xs p = all_plain (map entry_of xs) (list_all-map is_plain entry_of xs ∙ p)

pub when_entries_plain : (xs : List Entry) → All IsPlain (map entry_of xs) → list_all (λ e. is_plain (entry_of e)) xs ≡ true
when_entries_plain xs p = sym (list_all-map is_plain entry_of xs) ∙ when_all_plain (map entry_of xs) p

pub not_empty : (xs : List EntryTree) (x : EntryTree) → [] ≡ xs ++ x ∷ [] → ⊥
not_empty [] x e = cc
not_empty (a ∷ xs) x e = cc

pub head_same : (x y : EntryTree) (xs ys : List EntryTree) → x ∷ xs ≡ y ∷ ys → (x ≡ y) × (xs ≡ ys)
head_same x y xs ys e = (cc, cc)

pub last_same : (xs ys : List EntryTree) (x y : EntryTree) → xs ++ x ∷ [] ≡ ys ++ y ∷ [] → (xs ≡ ys) × (x ≡ y)
last_same [] [] x y e = (refl, (head_same x y [] [] e).0)
last_same [] (b ∷ ys) x y e = absurd (not_empty ys y (head_same x b [] (ys ++ y ∷ []) e).1)
last_same (a ∷ xs) [] x y e = absurd (not_empty xs x (sym (head_same a y (xs ++ x ∷ []) [] e).1))
last_same (a ∷ xs) (b ∷ ys) x y e =
    let s = head_same a b (xs ++ x ∷ []) (ys ++ y ∷ []) e in
    let t = last_same xs ys x y s.1 in
    (ap (λ h. h ∷ xs) s.0 ∙ ap (λ l. b ∷ l) t.0, t.1)

pub last_plain : (xs : List EntryTree) (x : EntryTree) → All IsPlain (xs ++ x ∷ []) → IsPlain x
last_plain [] x p = All-head IsPlain x [] p
last_plain (a ∷ xs) x p = last_plain xs x (All-tail IsPlain a (xs ++ x ∷ []) p)

pub nothing_behind : (xs : List EntryTree) → xs ++ [] ≡ xs
nothing_behind [] = refl
nothing_behind (a ∷ xs) = ap (λ l. a ∷ l) (nothing_behind xs)

pub carried : (xs ys : List EntryTree) → xs ≡ ys → All IsPlain xs → All IsPlain ys
carried xs ys e p = subst (λ (l : List EntryTree). All IsPlain l) e p

-- an owner stands last
pub owned_plain : (es plain : List EntryTree) (class : List ℕ) (side : Side) → es ≡ plain ++ owner class side ∷ [] → (All IsPlain plain → EndsPlain es) × (EndsPlain es → All IsPlain plain)
owned_plain es plain class side e = (λ p. inr (class, side, (plain, e, p)), back)
  where
    back : EndsPlain es → All IsPlain plain
    back (inl (others, f, p)) = absurd (last_plain plain (owner class side) (carried others (plain ++ owner class side ∷ []) (sym (nothing_behind others) ∙ sym f ∙ e) p))
    back (inr (c, s, (others, f, p))) = carried others plain (last_same others plain (owner c s) (owner class side) (sym f ∙ e)).0 p

-- none stands last
pub unowned_plain : (es : List EntryTree) → BeforeOwner es None → (All IsPlain es → EndsPlain es) × (EndsPlain es → All IsPlain es)
unowned_plain es none = (λ p. inl (es, sym (nothing_behind es), p), back)
  where
    back : EndsPlain es → All IsPlain es
    back (inl (others, f, p)) = carried others es (sym (nothing_behind others) ∙ sym f) p
    back (inr (c, s, (others, f, p))) = absurd (none others c s f)

-- an extension and an owner stand last
pub two_last : (xs : List EntryTree) (x y : EntryTree) → xs ++ x ∷ y ∷ [] ≡ (xs ++ x ∷ []) ++ y ∷ []
two_last [] x y = refl
two_last (a ∷ xs) x y = ap (λ l. a ∷ l) (two_last xs x y)

pub no_owner : (es : List EntryTree) (number : ℕ) (class : List ℕ) (side : Side) → BeforeOwner es None → EndsIn (extension number ∷ owner class side ∷ []) es → ⊥
no_owner es number class side none (plain, e, p) =
    none (plain ++ extension number ∷ []) class side (e ∙ two_last plain (extension number) (owner class side))

pub no_extension : (es rest : List EntryTree) (number : ℕ) (class other : List ℕ) (side another : Side) → es ≡ rest ++ owner other another ∷ [] → BeforeExtension number rest None → EndsIn (extension number ∷ owner class side ∷ []) es → ⊥
no_extension es rest number class other side another f none (plain, e, p) =
    none plain (last_same rest (plain ++ extension number ∷ []) (owner other another) (owner class side) (sym f ∙ e ∙ two_last plain (extension number) (owner class side))).0

pub extended : (es rest plain : List EntryTree) (number : ℕ) (class : List ℕ) (side : Side) → es ≡ rest ++ owner class side ∷ [] → rest ≡ plain ++ extension number ∷ [] → All IsPlain plain → EndsIn (extension number ∷ owner class side ∷ []) es
extended es rest plain number class side e f p =
    (plain, e ∙ ap (λ l. l ++ owner class side ∷ []) f ∙ sym (two_last plain (extension number) (owner class side)), p)

pub when_extended : (es rest plain : List EntryTree) (number : ℕ) (class other : List ℕ) (side another : Side) → es ≡ rest ++ owner other another ∷ [] → rest ≡ plain ++ extension number ∷ [] → EndsIn (extension number ∷ owner class side ∷ []) es → All IsPlain plain
when_extended es rest plain number class other side another e f (others, g, p) =
    let s = last_same (others ++ extension number ∷ []) rest (owner class side) (owner other another) (sym (two_last others (extension number) (owner class side)) ∙ sym g ∙ e) in
    carried others plain (last_same others plain (extension number) (extension number) (s.0 ∙ f)).0 p

-- what the tests for an extended header tell
pub without_owner : (code : Code) (xs : List Entry) → xs ≡ code.literals.items.items → BeforeOwner (map entry_of xs) None → IsExtended code → ⊥
without_owner code xs same none x =
    no_owner (map entry_of xs) (code.arguments * 256 + code.primitive) x.class x.side none
    (subst (λ (l : List Entry). EndsIn (extension (code.arguments * 256 + code.primitive) ∷ owner x.class x.side ∷ []) (map entry_of l)) (sym same) x.ending)

pub ends_extended : (code : Code) (xs : List Entry) (number : ℕ) → xs ≡ code.literals.items.items → number ≡ code.arguments * 256 + code.primitive → (x : IsExtended code) → EndsIn (extension number ∷ owner x.class x.side ∷ []) (map entry_of xs)
ends_extended code xs number same count x =
    subst (λ (n : ℕ). EndsIn (extension n ∷ owner x.class x.side ∷ []) (map entry_of xs)) (sym count)
    (subst (λ (l : List Entry). EndsIn (extension (code.arguments * 256 + code.primitive) ∷ owner x.class x.side ∷ []) (map entry_of l)) (sym same) x.ending)

pub without_extension : (code : Code) (xs rest : List Entry) (number : ℕ) → xs ≡ code.literals.items.items → number ≡ code.arguments * 256 + code.primitive
    → BeforeOwner (map entry_of xs) (Some (map entry_of rest)) → BeforeExtension number (map entry_of rest) None → IsExtended code → ⊥
without_extension code xs rest number same count (class, side, e) none x =
    no_extension (map entry_of xs) (map entry_of rest) number x.class class x.side side e none (ends_extended code xs number same count x)

pub with_extension : (code : Code) (xs rest plain : List Entry) (number : ℕ) (result : Bool) → xs ≡ code.literals.items.items → number ≡ code.arguments * 256 + code.primitive
    → BeforeOwner (map entry_of xs) (Some (map entry_of rest)) → BeforeExtension number (map entry_of rest) (Some (map entry_of plain))
    → (code.flag ≡ 7) × ((4 < code.arguments) ⊎ (code.primitive ≢ 0)) → result ≡ list_all (λ e. is_plain (entry_of e)) plain
    → (result ≡ true → IsExtended code) × (IsExtended code → result ≡ true)
with_extension code xs rest plain number result same count (class, side, e) f flagged is = (
  λ yes_it_is.
      let there : EndsIn (extension number ∷ owner class side ∷ []) (map entry_of xs) = extended (map entry_of xs) (map entry_of rest) (map entry_of plain) number class side e f (entries_plain plain (sym is ∙ yes_it_is)) in
      let here : EndsIn (extension (code.arguments * 256 + code.primitive) ∷ owner class side ∷ []) (map entry_of xs) = subst (λ (n : ℕ). EndsIn (extension n ∷ owner class side ∷ []) (map entry_of xs)) count there in
      record {
        flagged = flagged.0;
        needed = flagged.1;
        class = class;
        side = side;
        ending = subst (λ (l : List Entry). EndsIn (extension (code.arguments * 256 + code.primitive) ∷ owner class side ∷ []) (map entry_of l)) same here;
      },
  λ x. is ∙ when_entries_plain plain (when_extended (map entry_of xs) (map entry_of rest) (map entry_of plain) number x.class class x.side side e f (ends_extended code xs number same count x)),
)
