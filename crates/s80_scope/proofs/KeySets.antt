-- Sets of keys as they are kept, and the keys of entries in a set.
use Rattle.std.proofs.Common.{◌≡◌, ℕ, ◌+◌, Bool, true, false, not, cond, ◌||◌, List, [], ◌∷◌, ◌++◌, Vec, Global, map, length, refl, ap, ◌∙◌, sym, if◌then◌else◌, arith}
use Rattle.std.specs.BTreeSet.{BTreeSet, insert_key, btree_set_len, contains}
use Rattle.std.specs.Cmp.Lexicographic.{slice_cmp, nat_list_cmp_total, bytes_decides}
use Rattle.std.specs.Cmp.{IsTotalOrder}
use Rattle.std.specs.FinSet as set
use Rattle.std.specs.List.{list_any}
use Rattle.std.specs.Ordering.{nat_cmp, is_eq, eq_by_cmp, match_ordering}
use Rattle.std.specs.declared.cmp.Ordering.{Ordering}
use Rattle.std.specs.declared.cmp.Ordering.TheVariants.{Less, Equal, Greater}
use Rattle.std.proofs.lemmas.Map.Text.{is_eq-slice_cmp}
use Rattle.s80_scope.specs.FitLiterals.{Entry, Keys, key}
use Rattle.s80_scope.specs.Key.{keys_of, IsCounted}
use Rattle.s80_scope.specs.Walk.{with_entries}

abbrev pub R : List ℕ → List ℕ → Ordering
R = slice_cmp nat_cmp

o : IsTotalOrder R
o = nat_list_cmp_total

same : set.IsAntisymmetric R
same = set.slice_cmp-IsAntisymmetric set.nat_cmp-IsAntisymmetric

abbrev pub Word : Type 0
Word = Vec ℕ Global

abbrev pub in_order : Word → Word → Ordering
in_order x y = R x.items y.items

abbrev spells : List ℕ → Word → Bool
spells word k = is_eq (R word k.items)

or_same : (a b r : Bool) → a ≡ b → (b || r) ≡ (a || (b || r))
or_same true true r e = refl
or_same true false r e = cc
or_same false b r e = refl

or_swap : (a b r : Bool) → (a || (b || r)) ≡ (b || (a || r))
or_swap true true r = refl
or_swap true false r = refl
or_swap false b r = refl

same_word : (key k : Word) → in_order key k ≡ Equal → key.items ≡ k.items
same_word key k e = (bytes_decides key.items k.items).0 (sym (is_eq-slice_cmp key.items k.items) ∙ ap is_eq e)

inserted : (word : List ℕ) (keys : List Word) (key : Word) → list_any (spells word) (insert_key in_order keys key) ≡ (spells word key || list_any (spells word) keys)
inserted word [] key = refl
inserted word (k ∷ keys) key = by_order (in_order key k) refl (inserted word keys key)
  where
    by_order : (o : Ordering) → in_order key k ≡ o → list_any (spells word) (insert_key in_order keys key) ≡ (spells word key || list_any (spells word) keys) → list_any (spells word) (match_ordering o (key ∷ k ∷ keys) (k ∷ keys) (k ∷ insert_key in_order keys key)) ≡ (spells word key || (spells word k || list_any (spells word) keys))
    by_order Less e more = refl
    by_order Equal e more = or_same (spells word key) (spells word k) (list_any (spells word) keys) (ap (λ w. is_eq (R word w)) (same_word key k e))
    by_order Greater e more = ap (λ b. spells word k || b) more ∙ or_swap (spells word k) (spells word key) (list_any (spells word) keys)

any_map : (q : List ℕ) (keys : List Word) → list_any (eq_by_cmp R q) (map (λ k. k.items) keys) ≡ list_any (spells q) keys
any_map q [] = refl
any_map q (k ∷ keys) = ap (λ b. spells q k || b) (any_map q keys)

member : (s : BTreeSet Word) (q : List ℕ) → set.contains (keys_of s) q ≡ list_any (spells q) s.keys
member s q = set.contains-from_list o (map (λ k. k.items) s.keys) q ∙ any_map q s.keys

-- one key more
pub one_key_more : (old new : BTreeSet Word) (k : Word) → new.keys ≡ insert_key in_order old.keys k → keys_of new ≡ set.insert (keys_of old) k.items
one_key_more old new k e = set.same_set o same (keys_of new) (set.insert (keys_of old) k.items) (λ q.
    member new q ∙ ap (list_any (spells q)) e ∙ inserted q old.keys k
    ∙ sym (set.contains-insert o (keys_of old) k.items q ∙ ap (λ b. eq_by_cmp R q k.items || b) (member old q)))

count_more : (there added : Bool) (n : ℕ) → added ≡ not there → n + (if added then 1 else 0) ≡ cond there n (n + 1)
count_more true added n e = ap (λ b. n + (if b then 1 else 0)) e ∙ (omega arith)
count_more false added n e = ap (λ b. n + (if b then 1 else 0)) e

pub still_counted : (old new : BTreeSet Word) (k : Word) (added : Bool) → IsCounted old → new.keys ≡ insert_key in_order old.keys k
    → added ≡ not (contains in_order old k) → btree_set_len new ≡ btree_set_len old + (if added then 1 else 0) → IsCounted new
still_counted old new k added counted e is_new len =
    len ∙ ap (λ n. n + (if added then 1 else 0)) counted
    ∙ count_more (contains in_order old k) added (set.len (keys_of old)) is_new
    ∙ sym (ap set.len (one_key_more old new k e) ∙ set.len-insert o (keys_of old) k.items ∙ ap (λ b. cond b (set.len (keys_of old)) (set.len (keys_of old) + 1)) (member old k.items))

-- ---- entries one after the other

pub with_append : (s : Keys) (xs ys : List Entry) → with_entries s (xs ++ ys) ≡ with_entries (with_entries s xs) ys
with_append s [] ys = refl
with_append s (x ∷ xs) ys = with_append (set.insert s (key x)) xs ys

or_turn : (a b c : Bool) → (a || (b || c)) ≡ ((b || a) || c)
or_turn true true c = refl
or_turn true false c = refl
or_turn false true c = refl
or_turn false false c = refl

or_nothing : (a : Bool) → (a || false) ≡ a
or_nothing true = refl
or_nothing false = refl

has_all : (s : Keys) (es : List Entry) (q : List ℕ) → set.contains (with_entries s es) q ≡ (list_any (eq_by_cmp R q) (map key es) || set.contains s q)
has_all s [] q = refl
has_all s (e ∷ es) q =
    has_all (set.insert s (key e)) es q
    ∙ ap (λ b. list_any (eq_by_cmp R q) (map key es) || b) (set.contains-insert o s (key e) q)
    ∙ or_turn (list_any (eq_by_cmp R q) (map key es)) (eq_by_cmp R q (key e)) (set.contains s q)

-- all keys in an empty set
pub all_entries : (es : List Entry) → with_entries set.empty es ≡ set.from_list {R = R} (map key es)
all_entries es = set.same_set o same (with_entries set.empty es) (set.from_list (map key es)) (λ q.
    has_all set.empty es q ∙ ap (λ b. list_any (eq_by_cmp R q) (map key es) || b) (set.contains-empty R q) ∙ or_nothing (list_any (eq_by_cmp R q) (map key es))
    ∙ sym (set.contains-from_list o (map key es) q))

pub empty_counted : (s : BTreeSet Word) → s.keys ≡ [] → IsCounted s
empty_counted s e = ap length e ∙ sym (ap (λ ks. set.len (set.from_list {R = R} (map (λ k. k.items) ks))) e ∙ set.len-empty R)
