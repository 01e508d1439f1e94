-- What the tests of the methods' rows say, and how the rows of the code follow those of the kernel.
use Rattle.std.proofs.Common.{◌≡◌, ◌≢◌, ℕ, ◌+◌, ◌≤◌, zero, suc, Bool, true, false, not, ◌&&◌, ◌==◌, nat_le, List, [], ◌∷◌, length, map, find, cond, Option, Some, None, slice_index_or, slice_range, refl, sym, ap, subst, ◌∙◌, ◌↔◌, arith}
use Rattle.std.specs.List.{All, AllPairs, Contains, list_all}
use Rattle.std.specs.Bool.{beq}
use Rattle.std.specs.Cmp.{booleans_Decides}
use Rattle.std.specs.Option.{IfSome, option_map}
use Rattle.std.specs.Str.{bytes_eq}
use Rattle.std.proofs.lemmas.Bool.{and_parts, leb-true, not-true}
use Rattle.std.proofs.lemmas.Bool.Decides.{Decides-eqb}
use Rattle.std.proofs.lemmas.List.Elements.{All-cons, All-nil, All-head, All-tail}
use Rattle.std.proofs.lemmas.List.Kept.{AllPairs-cons}
use Rattle.std.proofs.lemmas.List.Sums.{AllPass-from_list_all}
use Rattle.std.proofs.lemmas.Slice.Eq.{bytes_eq-Decides}
use Rattle.s80_base.specs.Byte.{is_separator}
use Rattle.s80_kernel.specs.declared.methods.KernelMethod.{KernelMethod}
use Rattle.s80_kernel.specs.Methods.{IsBegun, IsPlainSource, KernelMethodRow, MethodPlace, StandsIn, held_place, holds_method, is_method, kernel_methods, key_of, place_of}
use Rattle.s80_kernel.specs.Text.{kernel_text}
use Rattle.s80_kernel.proofs.MethodTests.{all_stand, apart, is_begun, is_other, is_plain, stands}

-- ---- tests over all elements

true_of_all : {X : Type 0} (p : X → Bool) (P : X → Type 0) → ((x : X) → p x ≡ true → P x) → (xs : List X) → list_all p xs ≡ true → All P xs
true_of_all p P tells xs h = λ k d below. tells (slice_index_or xs k d) (AllPass-from_list_all p xs h k d below)

stands_tells : (text : List ℕ) (row : KernelMethodRow) → stands text row ≡ true → StandsIn text row
stands_tells text row h =
    let parts = and_parts (nat_le (row.position + length row.source) (length text)) (bytes_eq (slice_range text row.position (row.position + length row.source)) row.source) h in
    record {
      ends = leb-true (row.position + length row.source) (length text) parts.0;
      same = (bytes_eq-Decides (slice_range text row.position (row.position + length row.source)) row.source).0 parts.1;
    }

pub all_stand_in : (text : List ℕ) (rows : List KernelMethodRow) → list_all (stands text) rows ≡ true → All (StandsIn text) rows
all_stand_in text rows h = true_of_all (stands text) (StandsIn text) (stands_tells text) rows h

begun_tells : (source : List ℕ) → is_begun source ≡ true → IsBegun source
begun_tells [] h = absurd (cc)
begun_tells (b ∷ bs) h = not-true (is_separator b) h

no_mark : (b : ℕ) → not (b == 33) ≡ true → b ≢ 33
no_mark b h = λ is. false_or_true (b == 33) (not-true (b == 33) h) ((Decides-eqb b 33).1 is)
  where
    false_or_true : (t : Bool) → t ≡ false → t ≡ true → ⊥
    false_or_true t fails passes = absurd (cc)

plain_tells : (source : List ℕ) → is_plain source ≡ true → IsPlainSource source
plain_tells source h =
    let parts = and_parts (is_begun source) (list_all (λ b. not (b == 33)) source && nat_le (length source) 65535) h in
    let others = and_parts (list_all (λ b. not (b == 33)) source) (nat_le (length source) 65535) parts.1 in
    record {
      begun = begun_tells source parts.0;
      unmarked = true_of_all (λ b. not (b == 33)) (λ b. b ≢ 33) no_mark source others.0;
      short = leb-true (length source) 65535 others.1;
    }

pub all_are_plain : (rows : List KernelMethodRow) → list_all (λ row. is_plain row.source) rows ≡ true → All (λ row. IsPlainSource row.source) rows
all_are_plain rows h = true_of_all (λ row. is_plain row.source) (λ row. IsPlainSource row.source) (λ row. plain_tells row.source) rows h

-- ---- names

named : (class : List ℕ) (on_class_side : Bool) (selector : List ℕ) (row : KernelMethodRow) → is_method class on_class_side selector row ≡ true → key_of row ≡ (class, on_class_side, selector)
named class on_class_side selector row h =
    let parts = and_parts (bytes_eq row.class class) (beq row.on_class_side on_class_side && bytes_eq row.selector selector) h in
    let others = and_parts (beq row.on_class_side on_class_side) (bytes_eq row.selector selector) parts.1 in
    same_key ((bytes_eq-Decides row.class class).0 parts.0) ((booleans_Decides row.on_class_side on_class_side).0 others.0) ((bytes_eq-Decides row.selector selector).0 others.1)
  where
    same_key : {a b d e : List ℕ} {s t : Bool} → a ≡ b → s ≡ t → d ≡ e → let whole : List ℕ × Bool × List ℕ = (a, s, d) in whole ≡ (b, t, e)
    same_key {b = b} {d = d} {s = s} {t = t} one two three = ap (λ x. (x, s, d)) one ∙ ap (λ x. (b, x, d)) two ∙ ap (λ x. (b, t, x)) three

both : (x y : Bool) → x ≡ true → y ≡ true → (x && y) ≡ true
both x y p q = rw (p, q) refl

is_named : (class : List ℕ) (on_class_side : Bool) (selector : List ℕ) (row : KernelMethodRow) → key_of row ≡ (class, on_class_side, selector) → is_method class on_class_side selector row ≡ true
is_named class on_class_side selector row h =
    both (bytes_eq row.class class) (beq row.on_class_side on_class_side && bytes_eq row.selector selector)
    ((bytes_eq-Decides row.class class).1 (ap (λ k. k.0) h))
    (both (beq row.on_class_side on_class_side) (bytes_eq row.selector selector)
    ((booleans_Decides row.on_class_side on_class_side).1 (ap (λ k. k.1) h))
    ((bytes_eq-Decides row.selector selector).1 (ap (λ k. k.2) h)))

other_tells : (a b : KernelMethodRow) → is_other a b ≡ true → key_of a ≢ key_of b
other_tells a b h = λ same. differ (is_method a.class a.on_class_side a.selector b) (not-true (is_method a.class a.on_class_side a.selector b) h) (is_named a.class a.on_class_side a.selector b (sym same))
  where
    differ : (t : Bool) → t ≡ false → t ≡ true → ⊥
    differ t fails passes = absurd (cc)

pub all_are_apart : (rows : List KernelMethodRow) → apart rows ≡ true → AllPairs (λ a b. key_of a ≢ key_of b) rows
all_are_apart [] h = λ i j d low high. absurd (omega arith)
all_are_apart (row ∷ rows) h =
    let parts = and_parts (list_all (is_other row) rows) (apart rows) h in
    AllPairs-cons (λ a b. key_of a ≢ key_of b) row rows (true_of_all (is_other row) (λ b. key_of row ≢ key_of b) (other_tells row) rows parts.0) (all_are_apart rows parts.1)

-- ---- looking up

in_front : {X : Type 0} (y : X) (ys : List X) → Contains (y ∷ ys) y
in_front y ys = (0, omega arith, refl)

behind : {X : Type 0} (y x : X) (ys : List X) → Contains ys x → Contains (y ∷ ys) x
behind y x ys (k, below, is) = (suc k, omega (arith, below), is)

some : {X : Type 0} (x y : X) → Some x ≡ Some y → x ≡ y
some x y h = cc

found_in : {X : Type 0} (p : X → Bool) (xs : List X) (x : X) → find p xs ≡ Some x → Contains xs x × (p x ≡ true)
found_in p [] x h = absurd (cc)
found_in p (y ∷ ys) x h = go (p y) refl h (found_in p ys x)
  where
    go : (b : Bool) → p y ≡ b → cond b (Some y) (find p ys) ≡ Some x → (find p ys ≡ Some x → Contains ys x × (p x ≡ true)) → Contains (y ∷ ys) x × (p x ≡ true)
    go true is h later = subst (λ z. Contains (y ∷ ys) z × (p z ≡ true)) (some y x h) (in_front y ys, is)
    go false is h later = let rest = later h in (behind y x ys rest.0, rest.1)

later_pairs : {X : Type 0} (p : X → Bool) (y : X) (ys : List X) → AllPairs (λ a b. p a ≡ true → p b ≡ true → ⊥) (y ∷ ys) → AllPairs (λ a b. p a ≡ true → p b ≡ true → ⊥) ys
later_pairs p y ys pairs = λ i j d low high. pairs (suc i) (suc j) d (omega (arith, low)) (omega (arith, high))

-- the only one that passes is found
only_found : {X : Type 0} (p : X → Bool) (xs : List X) (x : X) → AllPairs (λ a b. p a ≡ true → p b ≡ true → ⊥) xs → Contains xs x → p x ≡ true → find p xs ≡ Some x
only_found p [] x pairs (k, below, is) passes = absurd (omega (arith, below))
only_found p (y ∷ ys) x pairs (zero, below, is) passes = ap (λ b. cond b (Some y) (find p ys)) (ap p is ∙ passes) ∙ ap Some is
only_found p (y ∷ ys) x pairs (suc k, below, is) passes = go (p y) refl (only_found p ys x (later_pairs p y ys pairs) (k, omega (arith, below), is) passes)
  where
    go : (b : Bool) → p y ≡ b → find p ys ≡ Some x → cond b (Some y) (find p ys) ≡ Some x
    go true first later = absurd (pairs 0 (suc k) x (omega arith) below first (ap p is ∙ passes))
    go false first later = later

pub found_exactly : (rows : List KernelMethodRow) (class : List ℕ) (on_class_side : Bool) (selector : List ℕ) (row : KernelMethodRow) → AllPairs (λ a b. key_of a ≢ key_of b) rows → (find (is_method class on_class_side selector) rows ≡ Some row) ↔ (Contains rows row × (key_of row ≡ (class, on_class_side, selector)))
found_exactly rows class on_class_side selector row pairs = (
  λ h. let found = found_in (is_method class on_class_side selector) rows row h in (found.0, named class on_class_side selector row found.1),
  λ h. only_found (is_method class on_class_side selector) rows row
      (λ i j d low high one two. pairs i j d low high (named class on_class_side selector (slice_index_or rows i d) one ∙ sym (named class on_class_side selector (slice_index_or rows j d) two)))
      h.0 (is_named class on_class_side selector row h.1),
)

-- ---- the rows of the code

find_of_map : {X Y : Type 0} (f : X → Y) (p : Y → Bool) (xs : List X) → option_map f (find (λ x. p (f x)) xs) ≡ find p (map f xs)
find_of_map f p [] = refl
find_of_map f p (x ∷ xs) = go (p (f x)) (find_of_map f p xs)
  where
    go : (b : Bool) → option_map f (find (λ x. p (f x)) xs) ≡ find p (map f xs) → option_map f (cond b (Some x) (find (λ x. p (f x)) xs)) ≡ cond b (Some (f x)) (find p (map f xs))
    go true later = refl
    go false later = later

is_place : List ℕ → Bool → List ℕ → MethodPlace → Bool
is_place class on_class_side selector m = bytes_eq m.class class && (beq m.on_class_side on_class_side && bytes_eq m.selector selector)

found_so : (ms : List KernelMethod) (rows : List KernelMethodRow) (class : List ℕ) (on_class_side : Bool) (selector : List ℕ) → map held_place ms ≡ map place_of rows → option_map held_place (find (holds_method class on_class_side selector) ms) ≡ option_map place_of (find (is_method class on_class_side selector) rows)
unfolding is_place
found_so ms rows class on_class_side selector same =
    find_of_map held_place (is_place class on_class_side selector) ms
    ∙ ap (find (is_place class on_class_side selector)) same
    ∙ sym (find_of_map place_of (is_place class on_class_side selector) rows)

maps_join : {X Y Z : Type 0} (f : Y → Z) (g : X → Y) (o : Option X) → option_map (λ x. f (g x)) o ≡ option_map f (option_map g o)
maps_join f g None = refl
maps_join f g (Some x) = refl

pub found_place : {X : Type 0} (held : X → KernelMethod) (o : Option X) (ms : List KernelMethod) (rows : List KernelMethodRow) (class : List ℕ) (on_class_side : Bool) (selector : List ℕ) → option_map held o ≡ find (holds_method class on_class_side selector) ms → map held_place ms ≡ map place_of rows → option_map (λ x. held_place (held x)) o ≡ option_map place_of (find (is_method class on_class_side selector) rows)
found_place held o ms rows class on_class_side selector is same = maps_join held_place held o ∙ ap (option_map held_place) is ∙ found_so ms rows class on_class_side selector same

found_passes : {X : Type 0} (P : X → Type 0) (p : X → Bool) (xs : List X) → All P xs → IfSome (find p xs) P
found_passes P p [] all = tt
found_passes P p (x ∷ xs) all = go (p x) (found_passes P p xs (All-tail P x xs all))
  where
    go : (b : Bool) → IfSome (find p xs) P → IfSome (cond b (Some x) (find p xs)) P
    go true later = All-head P x xs all
    go false later = later

if_held : {X Y : Type 0} (held : X → Y) (P : Y → Type 0) (o : Option X) → IfSome (option_map held o) P → IfSome o (λ x. P (held x))
if_held held P None h = tt
if_held held P (Some x) h = h

pub found_inside : {X Y : Type 0} (held : X → Y) (P : Y → Type 0) (p : Y → Bool) (o : Option X) (xs : List Y) → option_map held o ≡ find p xs → All P xs → IfSome o (λ x. P (held x))
found_inside held P p o xs is all = if_held held P o (subst (λ found. IfSome found P) (sym is) (found_passes P p xs all))

all_inside : (text : List ℕ) (ms : List KernelMethod) (rows : List KernelMethodRow) → map held_place ms ≡ map place_of rows → All (StandsIn text) rows → All (λ m. m.position + m.length ≤ length text) ms
all_inside text [] rows same all = All-nil (λ m. m.position + m.length ≤ length text)
all_inside text (m ∷ ms) [] same all = absurd (cc)
all_inside text (m ∷ ms) (row ∷ rows) same all =
    let first : held_place m ≡ place_of row = cc in
    let others : map held_place ms ≡ map place_of rows = cc in
    All-cons (λ m. m.position + m.length ≤ length text) m ms
    (subst (λ place. place.position + place.size ≤ length text) (sym first) (All-head (StandsIn text) row rows all).ends)
    (all_inside text ms rows others (All-tail (StandsIn text) row rows all))

pub kernel_inside : (ms : List KernelMethod) → map held_place ms ≡ map place_of kernel_methods → All (λ m. m.position + m.length ≤ length kernel_text) ms
kernel_inside ms same = all_inside kernel_text ms kernel_methods same (all_stand_in kernel_text kernel_methods all_stand)
