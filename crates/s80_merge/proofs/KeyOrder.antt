-- Keys that the order doesn't tell apart are equal, and so a key is found where it is.
use Rattle.std.proofs.Common.{◌≡◌, ◌⊎◌, ◌∙◌, ◌||◌, ◌&&◌, inl, inr, ℕ, zero, suc, Bool, true, false, true≢false, refl, sym, ap, subst, List, [], ◌∷◌}
use Rattle.std.specs.Cmp.Lexicographic.{slice_cmp}
use Rattle.std.specs.FinMap as map
use Rattle.std.specs.List.{Contains}
use Rattle.std.specs.Ordering.{bool_cmp, is_eq, nat_cmp, ordering_then}
use Rattle.std.specs.declared.cmp.Ordering.{Ordering}
use Rattle.std.specs.declared.cmp.Ordering.TheVariants.{Less, Equal, Greater}
use Rattle.s80_base.specs.declared.names.Side.TheVariants.{Instance, Class}
use Rattle.s80_class.specs.Classes.{Name}
use Rattle.s80_apply.specs.State.{side_of}
use Rattle.s80_merge.specs.declared.key.Key.{Key}
use Rattle.s80_merge.specs.declared.key.Key.TheVariants.{ClassKey, DefinitionKey, ClassVarsKey, CommentKey, MethodKey}
use Rattle.s80_merge.specs.Order.{class_of, has, is_of_class_side, key_cmp, key_equiv, kind_of, same_key, selector_of}
use Rattle.s80_merge.proofs.Members.{here, in_none, later, one_of}

-- the key of these places of its order
abbrev key_at : ℕ → Name → Bool → List ℕ → Key
key_at zero name side selector = ClassKey name
key_at (suc zero) name side selector = DefinitionKey name
key_at (suc (suc zero)) name side selector = ClassVarsKey name
key_at (suc (suc (suc zero))) name side selector = CommentKey name
key_at (suc (suc (suc (suc n)))) name side selector = MethodKey name (side_of side) selector

back : (key : Key) → key_at (kind_of key) (class_of key) (is_of_class_side key) (selector_of key) ≡ key
back (ClassKey name) = refl
back (DefinitionKey name) = refl
back (ClassVarsKey name) = refl
back (CommentKey name) = refl
back (MethodKey name Instance selector) = refl
back (MethodKey name Class selector) = refl

both_equal : (r s : Ordering) → ordering_then r s ≡ Equal → (r ≡ Equal) × (s ≡ Equal)
both_equal Less s bad = absurd (true≢false (sym (ap is_eq bad)))
both_equal Equal s is = (refl, is)
both_equal Greater s bad = absurd (true≢false (sym (ap is_eq bad)))

same_bool : (a b : Bool) → bool_cmp a b ≡ Equal → a ≡ b
same_bool true true is = refl
same_bool false false is = refl
same_bool true false bad = absurd (true≢false (sym (ap is_eq bad)))
same_bool false true bad = absurd (true≢false (sym (ap is_eq bad)))

same_bytes : (a b : List ℕ) → slice_cmp nat_cmp a b ≡ Equal → a ≡ b
same_bytes a b is = map.slice_cmp-IsAntisymmetric map.nat_cmp-IsAntisymmetric a b is

equal_is : (r : Ordering) → is_eq r ≡ true → r ≡ Equal
equal_is Less bad = absurd (true≢false (sym bad))
equal_is Equal is = refl
equal_is Greater bad = absurd (true≢false (sym bad))

pub same_is : (one other : Key) → same_key one other ≡ true → one ≡ other
same_is one other is =
    let a = both_equal _ (slice_cmp nat_cmp (selector_of one) (selector_of other)) (equal_is (key_cmp one other) is) in
    let b = both_equal _ (bool_cmp (is_of_class_side one) (is_of_class_side other)) a.0 in
    let c = both_equal (nat_cmp (kind_of one) (kind_of other)) (slice_cmp nat_cmp (class_of one) (class_of other)) b.0 in
    let kinds = map.nat_cmp-IsAntisymmetric (kind_of one) (kind_of other) c.0 in
    let classes = same_bytes (class_of one) (class_of other) c.1 in
    let sides = same_bool (is_of_class_side one) (is_of_class_side other) b.1 in
    let selectors = same_bytes (selector_of one) (selector_of other) a.1 in
    sym (back one) ∙ (λ i. key_at (kinds i) (classes i) (sides i) (selectors i)) ∙ back other

-- ---- a key among others

or_case : (b r : Bool) → (b || r) ≡ true → (b ≡ true) ⊎ (r ≡ true)
or_case true r is = inl refl
or_case false r is = inr is

or_true : (b : Bool) → (b || true) ≡ true
or_true true = refl
or_true false = refl

pub found : (key : Key) (keys : List Key) → has key keys ≡ true → Contains keys key
found key [] bad = absurd (true≢false (sym bad))
found key (x ∷ xs) is = by_case (or_case (same_key key x) (has key xs) is) (found key xs)
  where
    by_case : (same_key key x ≡ true) ⊎ (has key xs ≡ true) → (has key xs ≡ true → Contains xs key) → Contains (x ∷ xs) key
    by_case (inl same) rest = subst (Contains (x ∷ xs)) (sym (same_is key x same)) (here x xs)
    by_case (inr there) rest = later x xs key (rest there)

pub there : (key : Key) (keys : List Key) → Contains keys key → has key keys ≡ true
there key [] contains = absurd (in_none key contains)
there key (x ∷ xs) contains = by_case (one_of x xs key contains) (there key xs)
  where
    by_case : (x ≡ key) ⊎ Contains xs key → (Contains xs key → has key xs ≡ true) → (same_key key x || has key xs) ≡ true
    by_case (inl same) rest = ap (λ b. b || has key xs) (ap (same_key key) same ∙ key_equiv.refl key)
    by_case (inr among) rest = ap (λ b. same_key key x || b) (rest among) ∙ or_true (same_key key x)

-- what is told of the one key is told of the other
pub same_told : (P : Key → Bool) (one other : Key) → (same_key one other && P other) ≡ (same_key one other && P one)
same_told P one other = by_test (same_key one other) refl
  where
    by_test : (b : Bool) → same_key one other ≡ b → (b && P other) ≡ (b && P one)
    by_test true same = ap P (sym (same_is one other same))
    by_test false same = refl
