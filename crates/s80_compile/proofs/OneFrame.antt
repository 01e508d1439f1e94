-- Frames of one core tree are equal, by induction on the entries that it asks for; and a constant or a variable stands in a
-- frame once, by the same induction.
use Rattle.std.proofs.Common.{◌≡◌, ◌∙◌, ap, sym, subst, refl, ℕ, zero, suc, inl, inr, Bool, true, false, not, cond, List, [], ◌∷◌, ◌++◌, slice_get, Some, Contains, true≢false, arith}
use Rattle.std.specs.List.{list_all}
use Rattle.std.proofs.lemmas.List.Elements.{Contains-append_left, Contains-append_right}
use Rattle.s80_base.specs.declared.names.Side.{Side}
use Rattle.s80_code.specs.Entries.{EntryTree, owner, extension}
use Rattle.s80_code.proofs.lemmas.TableLemmas.{value, all_at}
use Rattle.s80_verify.specs.Header.{is_plain}
use Rattle.s80_tree.specs.Tree.{MethodParts}
use Rattle.s80_core.specs.Core.{CoreTree}
use Rattle.s80_compile.specs.Compiles.{AreFirsts, goes_to_super, is_extended, last_entries}

pub same_firsts : (seen es one other : List EntryTree) → AreFirsts seen es one → AreFirsts seen es other → one ≡ other
same_firsts seen [] one other a b = a ∙ sym b
same_firsts seen (e ∷ es) one other (inl (known, a)) (inl (again, b)) = same_firsts seen es one other a b
same_firsts seen (e ∷ es) one other (inl (known, a)) (inr (new, b)) = absurd (new known)
same_firsts seen (e ∷ es) one other (inr (new, a)) (inl (known, b)) = absurd (new known)
same_firsts seen (e ∷ es) one other (inr (new, (rest, begins, a))) (inr (again, (more, starts, b))) =
    begins ∙ ap (λ l. e ∷ l) (same_firsts (seen ++ e ∷ []) es rest more a b) ∙ sym starts

-- ---- each entry once

last_of : (seen : List EntryTree) (e : EntryTree) → Contains (seen ++ e ∷ []) e
last_of seen e = Contains-append_right seen (e ∷ []) e (0, omega arith, refl)

-- what came before isn't among the firsts
none_again : (seen es firsts : List EntryTree) (e : EntryTree) (n : ℕ) → AreFirsts seen es firsts → slice_get firsts n ≡ Some e → Contains seen e → ⊥
none_again seen [] firsts e n none found known = (let none_there : slice_get [] n ≡ Some e = ap (λ l. slice_get l n) (sym none) ∙ found in cc)
none_again seen (x ∷ es) firsts e n (inl (old, later)) found known = none_again seen es firsts e n later found known
none_again seen (x ∷ es) firsts e n (inr (new, (rest, begins, later))) found known =
    at n (λ k there. none_again (seen ++ x ∷ []) es rest e k later there (Contains-append_left seen (x ∷ []) e known)) (ap (λ l. slice_get l n) (sym begins) ∙ found)
  where
    at : (n : ℕ) → ((k : ℕ) → slice_get rest k ≡ Some e → ⊥) → slice_get (x ∷ rest) n ≡ Some e → ⊥
    at zero not_later here = new (subst (λ (y : EntryTree). Contains seen y) (sym (value here)) known)
    at (suc k) not_later there = not_later k there

firsts_once : (seen es firsts : List EntryTree) (e : EntryTree) (n k : ℕ) → AreFirsts seen es firsts → slice_get firsts n ≡ Some e → slice_get firsts k ≡ Some e → n ≡ k
firsts_once seen [] firsts e n k none found again = (let none_there : slice_get [] n ≡ Some e = ap (λ l. slice_get l n) (sym none) ∙ found in cc)
firsts_once seen (x ∷ es) firsts e n k (inl (old, later)) found again = firsts_once seen es firsts e n k later found again
firsts_once seen (x ∷ es) firsts e n k (inr (new, (rest, begins, later))) found again =
    at n k (λ n k here there. firsts_once (seen ++ x ∷ []) es rest e n k later here there)
    (ap (λ l. slice_get l n) (sym begins) ∙ found) (ap (λ l. slice_get l k) (sym begins) ∙ again)
  where
    not_later : (k : ℕ) → Some x ≡ Some e → slice_get rest k ≡ Some e → ⊥
    not_later k here there = none_again (seen ++ x ∷ []) es rest e k later there (subst (λ (y : EntryTree). Contains (seen ++ x ∷ []) y) (value here) (last_of seen x))

    at : (n k : ℕ) → ((n k : ℕ) → slice_get rest n ≡ Some e → slice_get rest k ≡ Some e → n ≡ k) → slice_get (x ∷ rest) n ≡ Some e → slice_get (x ∷ rest) k ≡ Some e → n ≡ k
    at zero zero same here there = refl
    at zero (suc k) same here there = absurd (not_later k here there)
    at (suc n) zero same here there = absurd (not_later n there here)
    at (suc n) (suc k) same here there = ap suc (same n k here there)

-- ---- in a whole frame

-- a number tells one constant or variable
abbrev pub IsOnce : List EntryTree → Type 0
IsOnce entries = (e : EntryTree) (n k : ℕ) → is_plain e ≡ true → slice_get entries n ≡ Some e → slice_get entries k ≡ Some e → n ≡ k

abbrev AreSpecial : List EntryTree → Type 0
AreSpecial es = list_all (λ e. not (is_plain e)) es ≡ true

among_plain : (plain last : List EntryTree) (e : EntryTree) (n : ℕ) → AreSpecial last → is_plain e ≡ true → slice_get (plain ++ last) n ≡ Some e → slice_get plain n ≡ Some e
among_plain [] last e n special is found = absurd (true≢false (sym (all_at (λ e. not (is_plain e)) last n e found special) ∙ ap not is))
among_plain (x ∷ plain) last e zero special is found = found
among_plain (x ∷ plain) last e (suc n) special is found = among_plain plain last e n special is found

special_when : (extended super : Bool) (number : ℕ) (class : List ℕ) (side : Side)
    → AreSpecial (cond extended (extension number ∷ owner class side ∷ []) (cond super (owner class side ∷ []) []))
special_when true super number class side = refl
special_when false true number class side = refl
special_when false false number class side = refl

pub frame_once : (m : MethodParts) (core : CoreTree) (class : List ℕ) (side : Side) (es plain : List EntryTree) → AreFirsts [] es plain → IsOnce (plain ++ last_entries m core class side)
frame_once m core class side es plain firsts e n k is found again =
    firsts_once [] es plain e n k firsts (here n found) (here k again)
  where
    here : (n : ℕ) → slice_get (plain ++ last_entries m core class side) n ≡ Some e → slice_get plain n ≡ Some e
    here n found = among_plain plain (last_entries m core class side) e n (special_when (is_extended m) (goes_to_super core) _ class side) is found
