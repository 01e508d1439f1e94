-- The number of a class by its name, and its name by the number.
use Rattle.std.proofs.Common.{◌≡◌, ◌∙◌, ap, sym, subst, refl, ℕ, zero, suc, cond, List, [], ◌∷◌, Option, Some, None, Bool, true, false, unwrap_or, option_and_then, MatchOption}
use Rattle.std.specs.Option.{option_map}
use Rattle.std.specs.Str.{bytes_eq}
use Rattle.std.specs.Cmp.Lexicographic.{bytes_decides}
use Rattle.s80_class.specs.Classes.{Name}
use Rattle.s80_class.specs.Table.{Table, IsNumberOf, IsSuperclass, class_name, number_of, onto_number}
use Rattle.s80_class.specs.Lookup.{number}
use Rattle.s80_class.proofs.lemmas.Lines.{not_eq}

pub value : {A : Type 0} {x y : A} → Some x ≡ Some y → x ≡ y
value {x = x} e = ap (λ o. unwrap_or o x) e

pub number_names : (names : List (Option Name)) (word : Name) (k : ℕ) → number_of names word ≡ Some k → IsNumberOf names k word
number_names [] word k e = cc
number_names (n ∷ names) word k e = onto n (number_of names word) refl k e (number_names names word)
  where
    later : (n : Option Name) (o : Option ℕ) → number_of names word ≡ o → (k : ℕ) → option_map suc o ≡ Some k → ((k : ℕ) → number_of names word ≡ Some k → IsNumberOf names k word) → IsNumberOf (n ∷ names) k word
    later n None is k e more = cc
    later n (Some j) is k e more = subst (λ i. IsNumberOf (n ∷ names) i word) (value e) (more j is)

    by_name : (name : Name) (b : Bool) → bytes_eq name word ≡ b → (o : Option ℕ) → number_of names word ≡ o → (k : ℕ) → cond b (Some 0) (option_map suc o) ≡ Some k
        → ((k : ℕ) → number_of names word ≡ Some k → IsNumberOf names k word) → IsNumberOf (Some name ∷ names) k word
    by_name name true same o is k e more =
        subst (λ i. IsNumberOf (Some name ∷ names) i word) (value e) (ap (λ w. Some (Some w)) ((bytes_decides name word).0 same))
    by_name name false differs o is k e more = later (Some name) o is k e more

    onto : (n : Option Name) (o : Option ℕ) → number_of names word ≡ o → (k : ℕ) → onto_number word n o ≡ Some k → ((k : ℕ) → number_of names word ≡ Some k → IsNumberOf names k word) → IsNumberOf (n ∷ names) k word
    onto None o is k e more = later None o is k e more
    onto (Some name) o is k e more = by_name name (bytes_eq name word) refl o is k e more

pub has_number : (names : List (Option Name)) (word : Name) (c : ℕ) → IsNumberOf names c word → (k : ℕ) × (number_of names word ≡ Some k)
has_number [] word c h = cc
has_number (None ∷ names) word zero h = let bad : None ≡ Some word = value h in cc
has_number (None ∷ names) word (suc c) h = let r = has_number names word c h in (suc r.0, ap (option_map suc) r.1)
has_number (Some name ∷ names) word c h = by_name (bytes_eq name word) refl c h (has_number names word)
  where
    by_name : (b : Bool) → bytes_eq name word ≡ b → (c : ℕ) → IsNumberOf (Some name ∷ names) c word → ((c : ℕ) → IsNumberOf names c word → (k : ℕ) × (number_of names word ≡ Some k))
        → (k : ℕ) × (cond b (Some 0) (option_map suc (number_of names word)) ≡ Some k)
    by_name true is c h more = (0, refl)
    by_name false is zero h more = absurd (not_eq name word is (value (value h)))
    by_name false is (suc c) h more = let r = more c h in (suc r.0, ap (option_map suc) r.1)

pub number_is : (t : Table) (word : Name) (c : ℕ) → IsNumberOf t.names c word → IsNumberOf t.names (number t word) word
number_is t word c h =
    let r = has_number t.names word c h in
    subst (λ k. IsNumberOf t.names k word) (sym (ap (λ o. unwrap_or o 0) r.1)) (number_names t.names word r.0 r.1)

pub name_is : (t : Table) (c : ℕ) (name : Name) → IsNumberOf t.names c name → class_name t c ≡ name
name_is t c name is = ap (λ o. unwrap_or (option_and_then (λ n. n) o) []) is

-- what a search for the name answers
pub number_found : (A : Type 0) (names : List (Option Name)) (word : Name) (found : Option ℕ) → MatchOption found A (λ c. IsNumberOf names c word) → ((c : ℕ) → IsNumberOf names c word → found ≡ Some c)
    → found ≡ number_of names word
number_found A names word found is only = go (number_of names word) refl
  where
    none : number_of names word ≡ None → (o : Option ℕ) → MatchOption o A (λ c. IsNumberOf names c word) → o ≡ None
    none missing None is = refl
    none missing (Some c) is = let r = has_number names word c is in let bad : None ≡ Some r.0 = sym missing ∙ r.1 in cc

    go : (o : Option ℕ) → number_of names word ≡ o → found ≡ o
    go None missing = none missing found is
    go (Some k) there = only k (number_names names word k there)

-- a class of this name is there, or none
pub is_superclass : (names : List (Option Name)) (word : Name) → IsSuperclass names (number_of names word)
is_superclass names word = go (number_of names word) refl
  where
    go : (o : Option ℕ) → number_of names word ≡ o → IsSuperclass names o
    go None is = tt
    go (Some k) is = (word, number_names names word k is)
