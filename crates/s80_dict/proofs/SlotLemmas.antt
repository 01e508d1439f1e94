-- The slots of a dictionary, and the map that they show.
use Rattle.std.proofs.Common.{◌≡◌, ◌∙◌, ◌||◌, ℕ, ◌+◌, ◌≤◌, length, arith, Bool, cond, true, false, not, refl, sym, ap, ap₂, subst, List, [], ◌∷◌, Option, Some, None, is_some, true≢false, Vec, Global, MutBor, IsSome}
use Rattle.std.specs.Option.{option_copied_mut}
use Rattle.std.specs.List.{IsDistinct, AllByRecursion}
use Rattle.std.specs.Str.{bytes_eq}
use Rattle.std.specs.Ordering.{nat_cmp, eq_by_cmp}
use Rattle.std.specs.declared.cmp.Ordering.{Ordering}
use Rattle.std.specs.Cmp.{IsTotalOrder}
use Rattle.std.specs.Cmp.Lexicographic.{slice_cmp, nat_list_cmp_total, bytes_decides}
use Rattle.std.proofs.lemmas.Map.Text.{is_eq-slice_cmp}
use Rattle.std.specs.Map.{lookup, set_value, keys_of}
use Rattle.std.specs.FinMap as map
use Rattle.std.specs.Int.{from_bool}
use Rattle.indexmap.specs.IndexMap.{insert_entry}
use Rattle.s80_dict.specs.Dict.{Bytes, has_room}
use Rattle.s80_dict.specs.Slots.{IsSound, same_bytes, filled, filled_with, methods_of, room_of}

abbrev pub R : Bytes → Bytes → Ordering
R = slice_cmp nat_cmp

pub o : IsTotalOrder R
o = nat_list_cmp_total

pub same : map.IsAntisymmetric R
same = map.slice_cmp-IsAntisymmetric map.nat_cmp-IsAntisymmetric

bytes_eq-self : (x : Bytes) → bytes_eq x x ≡ true
bytes_eq-self x = (bytes_decides x x).1 refl

-- the two tests agree
pub tests_agree : (x y : Bytes) → bytes_eq x y ≡ eq_by_cmp R x y
tests_agree x y = sym (is_eq-slice_cmp x y)

abbrev pub flat : {X : Type 0} → Option (Option X) → Option X
flat None = None
flat (Some x) = x

abbrev pub Key : Type 0
Key = Vec ℕ Global

abbrev pub Slots : Type 0 → Type 0
Slots X = List (Key × Option X)

abbrev pub at_key : Bytes → Key → Bool
at_key q k = bytes_eq q k.items

abbrev find : {X : Type 0} → Bytes → List (Bytes × X) → Option X
find q es = map.find R q es

find_cons : {X : Type 0} (q k : Bytes) (v : X) (es : List (Bytes × X)) → find q ((k, v) ∷ es) ≡ cond (bytes_eq q k) (Some v) (find q es)
find_cons q k v es = ap (λ b. cond b (Some v) (find q es)) (sym (tests_agree q k))

-- a slot of another key
find_past : {X : Type 0} (q k : Bytes) (x : Option X) (es : List (Bytes × X)) → bytes_eq q k ≡ false → find q (filled_with k x es) ≡ find q es
find_past q k None es apart = refl
find_past q k (Some v) es apart = find_cons q k v es ∙ ap (λ b. cond b (Some v) (find q es)) apart

-- no later slot has the key
none_later : {X : Type 0} (k : Key) (es : Slots X) → AllByRecursion (λ y. same_bytes k y ≡ false) (keys_of es) → find k.items (filled es) ≡ None
none_later k [] all = refl
none_later k (e ∷ es) all = find_past k.items e.0.items e.1 (filled es) all.0 ∙ none_later k es all.1

find_here : {X : Type 0} (q : Bytes) (k : Key) (x : Option X) (es : Slots X) → bytes_eq q k.items ≡ true → AllByRecursion (λ y. same_bytes k y ≡ false) (keys_of es)
    → find q (filled_with k.items x (filled es)) ≡ x
find_here q k None es is later = let e : q ≡ k.items = (bytes_decides q k.items).0 is in rw e (none_later k es later)
find_here q k (Some v) es is later = find_cons q k.items v (filled es) ∙ ap (λ b. cond b (Some v) (find q (filled es))) is

find-filled : {X : Type 0} (q : Bytes) (es : Slots X) → IsDistinct same_bytes (keys_of es) → find q (filled es) ≡ flat (lookup (at_key q) es)
unfolding IsDistinct
find-filled q [] distinct = refl
find-filled q (e ∷ es) distinct =
    elim (bytes_eq q e.0.items) as (λ b. bytes_eq q e.0.items ≡ b → find q (filled (e ∷ es)) ≡ flat (cond b (Some e.1) (lookup (at_key q) es))) [
      | true ↦ λ is. find_here q e.0 e.1 es is distinct.0
      | false ↦ λ is. find_past q e.0.items e.1 (filled es) is ∙ find-filled q es distinct.1
    ] refl

pub get-methods_of : {X : Type 0} (q : Bytes) (es : Slots X) → IsDistinct same_bytes (keys_of es) → map.get (methods_of es) q ≡ flat (lookup (at_key q) es)
get-methods_of q es distinct = map.get-from_entries o (filled es) q ∙ find-filled q es distinct

-- ---- a write to a slot

twice : {A : Type 0} (b : Bool) (x y z : A) → cond b x z ≡ cond b x (cond b y z)
twice true x y z = refl
twice false x y z = refl

put_here : {X : Type 0} (x k : Bytes) (v : X) (y : Option X) (es : List (Bytes × X)) → find x ((k, v) ∷ es) ≡ cond (bytes_eq x k) (Some v) (find x (filled_with k y es))
put_here x k v None es = find_cons x k v es
put_here x k v (Some u) es = find_cons x k v es ∙ twice (bytes_eq x k) (Some v) (Some u) (find x es) ∙ sym (ap (cond (bytes_eq x k) (Some v)) (find_cons x k u es))

-- two keys that differ
swapped : {A : Type 0} (a b : Bool) (x y z : A) → (a ≡ true → b ≡ true → ⊥) → cond a x (cond b y z) ≡ cond b y (cond a x z)
swapped true true x y z apart = absurd (apart refl refl)
swapped true false x y z apart = refl
swapped false b x y z apart = refl

never_both : (x k q : Bytes) → bytes_eq q k ≡ false → bytes_eq x k ≡ true → bytes_eq x q ≡ true → ⊥
never_both x k q apart a b =
    let e : q ≡ k = sym ((bytes_decides x q).0 b) ∙ (bytes_decides x k).0 a in
    true≢false (sym (bytes_eq-self q) ∙ ap (bytes_eq q) e ∙ apart)

past : {X : Type 0} (x k q : Bytes) (w : Option X) (y : Option X) (es fs : List (Bytes × X)) → bytes_eq q k ≡ false → find x es ≡ cond (bytes_eq x q) w (find x fs)
    → find x (filled_with k y es) ≡ cond (bytes_eq x q) w (find x (filled_with k y fs))
past x k q w None es fs apart ih = ih
past x k q w (Some u) es fs apart ih =
    find_cons x k u es ∙ ap (cond (bytes_eq x k) (Some u)) ih
    ∙ swapped (bytes_eq x k) (bytes_eq x q) (Some u) w (find x fs) (never_both x k q apart)
    ∙ sym (ap (cond (bytes_eq x q) w) (find_cons x k u fs))

find-put : {X : Type 0} (q x : Bytes) (v : X) (es : Slots X) → is_some (lookup (at_key q) es) ≡ true
    → find x (filled (set_value (at_key q) es (Some v))) ≡ cond (bytes_eq x q) (Some v) (find x (filled es))
find-put q x v [] there = absurd (true≢false (sym there))
find-put q x v (e ∷ es) there =
    elim (bytes_eq q e.0.items) as (λ b. bytes_eq q e.0.items ≡ b → is_some (cond b (Some e.1) (lookup (at_key q) es)) ≡ true
    → find x (filled (cond b ((e.0, Some v) ∷ es) (e ∷ set_value (at_key q) es (Some v)))) ≡ cond (bytes_eq x q) (Some v) (find x (filled (e ∷ es)))) [
      | true ↦ λ is h. let same_key : q ≡ e.0.items = (bytes_decides q e.0.items).0 is in rw same_key (put_here x e.0.items v e.1 (filled es))
      | false ↦ λ is h. past x e.0.items q (Some v) e.1 (filled (set_value (at_key q) es (Some v))) (filled es) is (find-put q x v es h)
    ] refl there

either : {A : Type 0} (b : Bool) (x : A) → x ≡ cond b x x
either true x = refl
either false x = refl

take_here : {X : Type 0} (x : Bytes) (k : Key) (y : Option X) (es : Slots X) → AllByRecursion (λ z. same_bytes k z ≡ false) (keys_of es)
    → find x (filled es) ≡ cond (bytes_eq x k.items) None (find x (filled_with k.items y (filled es)))
take_here x k y es later =
    elim (bytes_eq x k.items) as (λ b. bytes_eq x k.items ≡ b → find x (filled es) ≡ cond b None (find x (filled_with k.items y (filled es)))) [
      | true ↦ λ is. let e : x ≡ k.items = (bytes_decides x k.items).0 is in rw e (none_later k es later)
      | false ↦ λ is. sym (find_past x k.items y (filled es) is)
    ] refl

find-take : {X : Type 0} (q x : Bytes) (es : Slots X) → IsDistinct same_bytes (keys_of es)
    → find x (filled (set_value (at_key q) es None)) ≡ cond (bytes_eq x q) None (find x (filled es))
unfolding IsDistinct
find-take q x [] distinct = either (bytes_eq x q) None
find-take q x (e ∷ es) distinct =
    elim (bytes_eq q e.0.items) as (λ b. bytes_eq q e.0.items ≡ b
    → find x (filled (cond b ((e.0, None) ∷ es) (e ∷ set_value (at_key q) es None))) ≡ cond (bytes_eq x q) None (find x (filled (e ∷ es)))) [
      | true ↦ λ is. let same_key : q ≡ e.0.items = (bytes_decides q e.0.items).0 is in rw same_key (take_here x e.0 e.1 es distinct.0)
      | false ↦ λ is. past x e.0.items q None e.1 (filled (set_value (at_key q) es None)) (filled es) is (find-take q x es distinct.1)
    ] refl

-- ---- the map after it

pub methods_put : {X : Type 0} (q : Bytes) (v : X) (es : Slots X) → is_some (lookup (at_key q) es) ≡ true → methods_of (set_value (at_key q) es (Some v)) ≡ map.insert (methods_of es) q v
methods_put q v es there = map.same_map o same _ _ (λ x.
    map.get-from_entries o (filled (set_value (at_key q) es (Some v))) x ∙ find-put q x v es there
    ∙ sym (map.get-insert o (methods_of es) q v x ∙ ap₂ (λ b r. cond b (Some v) r) (sym (tests_agree x q)) (map.get-from_entries o (filled es) x)))

pub methods_taken : {X : Type 0} (q : Bytes) (es : Slots X) → IsDistinct same_bytes (keys_of es) → methods_of (set_value (at_key q) es None) ≡ map.remove (methods_of es) q
methods_taken q es distinct = map.same_map o same _ _ (λ x.
    map.get-from_entries o (filled (set_value (at_key q) es None)) x ∙ find-take q x es distinct
    ∙ sym (map.get-remove o (methods_of es) q x ∙ ap₂ (λ b r. cond b None r) (sym (tests_agree x q)) (map.get-from_entries o (filled es) x)))

set_value-absent : {X : Type 0} (q : Bytes) (x : Option X) (es : Slots X) → lookup (at_key q) es ≡ None → set_value (at_key q) es x ≡ es
set_value-absent q x [] absent = refl
set_value-absent q x (e ∷ es) absent =
    elim (bytes_eq q e.0.items) as (λ b. cond b (Some e.1) (lookup (at_key q) es) ≡ None → cond b ((e.0, x) ∷ es) (e ∷ set_value (at_key q) es x) ≡ e ∷ es) [
      | true ↦ λ bad. cc
      | false ↦ λ h. ap (λ rest. e ∷ rest) (set_value-absent q x es h)
    ] absent

-- where nothing has the key, a removal leaves the map
pub methods_absent : {X : Type 0} (q : Bytes) (es : Slots X) → IsDistinct same_bytes (keys_of es) → lookup (at_key q) es ≡ None → methods_of es ≡ map.remove (methods_of es) q
methods_absent q es distinct absent = ap methods_of (sym (set_value-absent q None es absent)) ∙ methods_taken q es distinct

-- ---- room

pub room-set_value : {X : Type 0} (q : Bytes) (x : Option X) (es : Slots X) → room_of (set_value (at_key q) es x) ≡ room_of es
room-set_value q x [] = refl
room-set_value q x (e ∷ es) =
    elim (bytes_eq q e.0.items) as (λ b. room_of (cond b ((e.0, x) ∷ es) (e ∷ set_value (at_key q) es x)) ≡ room_of (e ∷ es)) [
      | true ↦ refl
      | false ↦ ap (λ rest. e.0.items ∷ rest) (room-set_value q x es)
    ]

pub room_lookup : {X : Type 0} (q : Bytes) (es : Slots X) → has_room (room_of es) q ≡ is_some (lookup (at_key q) es)
room_lookup q [] = refl
room_lookup q (e ∷ es) =
    elim (bytes_eq q e.0.items) as (λ b. (b || has_room (room_of es) q) ≡ is_some (cond b (Some e.1) (lookup (at_key q) es))) [
      | true ↦ refl
      | false ↦ room_lookup q es
    ]

pub some_mut : {X : Type 0} (r : Option (MutBor X)) → is_some (option_copied_mut r) ≡ true → IsSome r
some_mut None e = e
some_mut (Some x) e = refl

-- ---- a selector more that has room

pub filled-added : {X : Type 0} (k : Key) (es : Slots X) → lookup (at_key k.items) es ≡ None → filled (insert_entry same_bytes es k None) ≡ filled es
filled-added k [] absent = refl
filled-added k (e ∷ es) absent =
    elim (bytes_eq k.items e.0.items) as (λ b. cond b (Some e.1) (lookup (at_key k.items) es) ≡ None
    → filled (cond b ((e.0, None) ∷ es) (e ∷ insert_entry same_bytes es k None)) ≡ filled (e ∷ es)) [
      | true ↦ λ bad. cc
      | false ↦ λ h. ap (filled_with e.0.items e.1) (filled-added k es h)
    ] absent

pub room-added : {X : Type 0} (k : Key) (x : Option X) (es : Slots X) → has_room (room_of (insert_entry same_bytes es k x)) k.items ≡ true
room-added k x [] = rw (bytes_eq-self k.items) refl
room-added k x (e ∷ es) =
    elim (bytes_eq k.items e.0.items) as (λ b. bytes_eq k.items e.0.items ≡ b → has_room (room_of (cond b ((e.0, x) ∷ es) (e ∷ insert_entry same_bytes es k x))) k.items ≡ true) [
      | true ↦ λ is. rw is refl
      | false ↦ λ is. rw is (room-added k x es)
    ] refl

pub room-kept : {X : Type 0} (k : Key) (q : Bytes) (x : Option X) (es : Slots X) → has_room (room_of es) q ≡ true → has_room (room_of (insert_entry same_bytes es k x)) q ≡ true
room-kept k q x [] h = absurd (true≢false (sym h))
room-kept k q x (e ∷ es) h =
    elim (bytes_eq k.items e.0.items) as (λ b. has_room (room_of (cond b ((e.0, x) ∷ es) (e ∷ insert_entry same_bytes es k x))) q ≡ true) [
      | true ↦ h
      | false ↦ elim (bytes_eq q e.0.items) as (λ b. (b || has_room (room_of es) q) ≡ true → (b || has_room (room_of (insert_entry same_bytes es k x)) q) ≡ true) [
        | true ↦ λ _. refl
        | false ↦ λ h'. room-kept k q x es h'
      ] h
    ]

pub none_found : {X : Type 0} (r : Option X) → is_some r ≡ false → r ≡ None
none_found None e = refl
none_found (Some x) e = cc

-- ---- how many are filled

at_most : (b : Bool) (l m n : ℕ) → m ≡ cond b l (l + 1) → l ≤ n → m ≤ n + 1
at_most true l m n e h = omega arith
at_most false l m n e h = omega arith

len_with : {X : Type 0} (k : Bytes) (x : Option X) (es : List (Bytes × X)) (n : ℕ) → map.len {R = R} (map.from_entries es) ≤ n → map.len {R = R} (map.from_entries (filled_with k x es)) ≤ n + 1
len_with k None es n h = omega arith
len_with k (Some v) es n h = at_most _ _ _ n (map.len-insert o (map.from_entries es) k v) h

-- each method has a slot
pub len_filled : {X : Type 0} (es : Slots X) → map.len (methods_of es) ≤ length es
len_filled {X} [] = omega (arith, map.len-empty R X)
len_filled (e ∷ es) = let h = len_with e.0.items e.1 (filled es) (length es) (len_filled es) in omega arith

pub one_more : (b : Bool) (n : ℕ) → cond (not b) n (n + 1) ≡ n + from_bool b
one_more true n = refl
one_more false n = omega arith

pub sound_empty : {X : Type 0} (es : Slots X) → es ≡ [] → IsSound es 0
unfolding IsDistinct
sound_empty {X} es is = subst (λ (xs : Slots X). IsSound xs 0) (sym is) (record { distinct = tt; counted = sym (map.len-empty R X) })

-- ---- a method found has a slot

pub present : {X : Type 0} (r : Option (Option X)) → is_some (flat r) ≡ true → is_some r ≡ true
present None e = e
present (Some x) e = refl
