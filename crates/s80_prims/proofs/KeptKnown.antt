-- Primitives keep values known.
use Rattle.std.proofs.Common.{◌≡◌, ◌≤◌, ◌<◌, ◌^◌, ◌⊎◌, ◌||◌, ◌&&◌, not, ◌+ℤ◌, ◌-ℤ◌, ◌*ℤ◌, neg_ℤ, ◌==◌, ⊎_elim, true≢false, ℕ, zero, suc, ◌+◌, ℤ, pos, negsuc, Bool, true, false, cond, refl, sym, ap, subst, List, [], ◌∷◌, ◌++◌, codes, length, map, replicate, All, Option, Some, None, IfSome, IfOk, Result, Ok, Err, find, unwrap_or, option_and_then, slice_get, slice_set, nat_le, nat_lt, if◌then◌else◌, arith, inl, inr, length-append}
use Rattle.std.specs.List.{AllByRecursion, list_any, position_or_len}
use Rattle.std.specs.Int.{w32, int_bit_and, int_bit_or, int_bit_xor, int_shr}
use Rattle.std.specs.Option.{option_map, option_map_or, option_or}
use Rattle.std.specs.Str.{bytes_eq}
use Rattle.std.proofs.lemmas.List.{length-set}
use Rattle.std.proofs.lemmas.List.Elements.{All-nil, All-replicate, All-weaker, All-map, All-set, All-head, All-tail}
use Rattle.s80_base.specs.declared.literal.NumberKind.{NumberKind}
use Rattle.s80_base.specs.declared.literal.NumberKind.TheVariants.{LargePositive, LargeNegative, Float}
use Rattle.s80_base.specs.declared.names.Side.TheVariants as side
use Rattle.s80_form.specs.declared.definition.Kind.{Kind}
use Rattle.s80_form.specs.declared.definition.Kind.TheVariants as kind
use Rattle.s80_kernel.specs.Rows as rows
use Rattle.s80_class.specs.Classes.{Name}
use Rattle.s80_class.specs.Table.{Table, IsClass, number_of}
use Rattle.s80_object.specs.Body.{BodyTree, pointers, bytes, words, home, block, blank, bytes_of, cost, items_of, number_to, words_of, word_limit}
use Rattle.s80_object.specs.Literal.{added_once, named}
use Rattle.s80_object.specs.Objects.{State, body_at, item_put, items_at, number_kind_of, placed, with_body, with_body_at}
use Rattle.s80_object.specs.declared.value.BodyKind.TheVariants as body
use Rattle.s80_object.specs.declared.value.ObjectFault.{ObjectFault}
use Rattle.s80_object.specs.declared.value.ObjectFault.TheVariants as fault
use Rattle.s80_object.specs.declared.value.Value.{Value}
use Rattle.s80_object.specs.declared.value.Value.TheVariants.{Small, Character, Nil, True, False, Symbol, Number, ClassRef, Object, Context, Transcript, Smalltalk}
use Rattle.s80_prims.specs.declared.applied.Applied.{Applied}
use Rattle.s80_prims.specs.declared.applied.Applied.TheVariants.{Done, Fails, Stops}
use Rattle.s80_prims.specs.declared.stop.Stop.TheVariants.{Error, ObjectsFull, TranscriptFull}
use Rattle.s80_prims.specs.Arithmetic.{Row, arithmetic, divided, exact, floor_quotient, floor_rest, is_less, is_zero, ranged, rows as number_rows, shifted, truth}
use Rattle.s80_prims.specs.Classes.{body_class, can_be_new, class_of, kernel_class, kind_of_class, number_class, variables_of}
use Rattle.s80_prims.specs.Kept.{AnswersKnown, HasNumbers, KeepsKnown}
use Rattle.s80_prims.specs.Known.{AreKnown, BodyIsKnown, IsKnown}
use Rattle.s80_prims.specs.Primitives.{Alone, Effect, WithOne, WithTwo, World, at_place, character_of, done, fails, gives, makes, names, new_indexed, new_plain, new_with, number_of_character, of_class, primitive, prints, put_at, put_character_at, put_done, puts, puts_character, readable, readable_bytes, rows_alone, rows_with_one, rows_with_two, same, stops, string_of, symbol_text, text_bytes, two_numbers, with_text, writes, transcript_limit}
use Rattle.s80_prims.specs.Printed.{printed}
use Rattle.s80_prims.proofs.ClassesNumbered.{first_number, none_is_some}

-- ---- more objects

-- no symbol, number or object goes
record Grows (old new : State) : Type 0 where
  symbols : length old.symbols ≤ length new.symbols
  numbers : length old.numbers ≤ length new.numbers
  bodies : length old.bodies ≤ length new.bodies

value_stays : (t : Table) (old new : State) → Grows old new → (v : Value) → IsKnown t old v → IsKnown t new v
value_stays t old new more (Symbol n) h = omega (arith, more.symbols, h)
value_stays t old new more (Number n) h = omega (arith, more.numbers, h)
value_stays t old new more (ClassRef c side) h = h
value_stays t old new more (Object n) h = omega (arith, more.bodies, h)
value_stays t old new more _ h = tt

body_stays : (t : Table) (old new : State) → ((v : Value) → IsKnown t old v → IsKnown t new v) → (b : BodyTree) → BodyIsKnown t old b → BodyIsKnown t new b
body_stays t old new stays (pointers class fields items) h =
    (h.0, (All-weaker (IsKnown t old) (IsKnown t new) stays fields h.1.0, All-weaker (IsKnown t old) (IsKnown t new) stays items h.1.1))
body_stays t old new stays (bytes class items) h = h
body_stays t old new stays (words class items) h = h
body_stays t old new stays (home method receiver temporaries) h = (stays receiver h.0, All-weaker (IsKnown t old) (IsKnown t new) stays temporaries h.1)
body_stays t old new stays (block whole start arguments) h = stays whole h

last_or : {X : Type 0} (xs : List X) (x y : X) (n : ℕ) → slice_get (xs ++ x ∷ []) n ≡ Some y → (slice_get xs n ≡ Some y) ⊎ (x ≡ y)
last_or [] x y zero h = inr (ap (λ o. unwrap_or o x) h)
last_or [] x y (suc n) h = absurd (none_is_some h)
last_or (z ∷ xs) x y zero h = inl h
last_or (z ∷ xs) x y (suc n) h = last_or xs x y n h

set_or : {X : Type 0} (xs : List X) (i : ℕ) (x y : X) (n : ℕ) → slice_get (slice_set xs i x) n ≡ Some y → (slice_get xs n ≡ Some y) ⊎ (x ≡ y)
set_or [] i x y n h = inl h
set_or (z ∷ xs) zero x y zero h = inr (ap (λ o. unwrap_or o x) h)
set_or (z ∷ xs) zero x y (suc n) h = inl h
set_or (z ∷ xs) (suc i) x y zero h = inl h
set_or (z ∷ xs) (suc i) x y (suc n) h = set_or xs i x y n h

-- ---- effects

if_keeps : (t : Table) (old : State) (test : Bool) (a b : Effect) → KeepsKnown t old a → KeepsKnown t old b → KeepsKnown t old (if test then a else b)
if_keeps t old true a b h g = h
if_keeps t old false a b h g = g

-- where nothing is changed
stays_known : (t : Table) (w : World) (applied : Applied) → AreKnown t w.objects → AnswersKnown t w.objects applied → KeepsKnown t w.objects (record { applied = applied; world = w })
stays_known t w applied known h = record { answer = h; objects = known; values = λ v h. h }

fails_known : (t : Table) (w : World) → AreKnown t w.objects → KeepsKnown t w.objects (fails w)
fails_known t w known = stays_known t w Fails known tt

done_known : (t : Table) (w : World) (v : Value) → AreKnown t w.objects → IsKnown t w.objects v → KeepsKnown t w.objects (done w v)
done_known t w v known h = stays_known t w (Done v) known h

gives_known : (t : Table) (w : World) (o : Option Value) → AreKnown t w.objects → IfSome o (IsKnown t w.objects) → KeepsKnown t w.objects (gives w o)
gives_known t w None known h = fails_known t w known
gives_known t w (Some v) known h = done_known t w v known h

with_text_known : (t : Table) (w : World) (o : Option (List ℕ)) (go : List ℕ → Effect) → AreKnown t w.objects → ((text : List ℕ) → KeepsKnown t w.objects (go text)) → KeepsKnown t w.objects (with_text w o go)
with_text_known t w None go known h = fails_known t w known
with_text_known t w (Some text) go known h = h text

made_known : (t : Table) (w : World) (b : BodyTree) → AreKnown t w.objects → BodyIsKnown t w.objects b
    → KeepsKnown t w.objects (done (record w { objects = with_body w.objects b }) (Object (length w.objects.bodies)))
made_known t w b known is =
    let new : State = with_body w.objects b in
    let longer : length new.bodies ≡ length w.objects.bodies + 1 = length-append w.objects.bodies (b ∷ []) in
    let more : Grows w.objects new = record { symbols = omega arith; numbers = omega arith; bodies = omega (arith, longer) } in
    let stays : (v : Value) → IsKnown t w.objects v → IsKnown t new v = value_stays t w.objects new more in
    let inside : length w.objects.bodies < length new.bodies = omega (arith, longer) in
    record {
      answer = inside;
      objects = λ n c e. ⊎_elim (λ h. body_stays t w.objects new stays c (known n c h)) (λ h. subst (BodyIsKnown t new) h (body_stays t w.objects new stays b is))
          (last_or w.objects.bodies b c n e);
      values = stays;
    }

makes_known : (t : Table) (w : World) (b : BodyTree) → AreKnown t w.objects → BodyIsKnown t w.objects b → KeepsKnown t w.objects (makes w b)
makes_known t w b known is =
    if_keeps t w.objects (nat_le (words_of w.objects.bodies + cost b) word_limit) (done (record w { objects = with_body w.objects b }) (Object (length w.objects.bodies)))
    (stops w (ObjectsFull (words_of w.objects.bodies))) (made_known t w b known is) (stays_known t w (Stops (ObjectsFull (words_of w.objects.bodies))) known tt)

-- ---- items

ok_if : (P : BodyTree → Type 0) (test : Bool) (b : BodyTree) → P b → IfOk (if test then Ok b else Err fault.Range) P
ok_if P true b h = h
ok_if P false b h = tt

placed_known : {X : Type 0} (P : BodyTree → Type 0) (items : List X) (i : ℕ) (x : X) (of : List X → BodyTree) → ((j : ℕ) → P (of (slice_set items j x))) → IfOk (placed items i x of) P
placed_known P items zero x of h = tt
placed_known P items (suc i) x of h = ok_if P (nat_lt i (length items)) (of (slice_set items i x)) (h i)

placed_number : (P : BodyTree → Type 0) (items : List ℕ) (i : ℕ) (o : Option ℕ) (of : List ℕ → BodyTree) → ((items : List ℕ) → P (of items))
    → IfOk (option_map_or (λ n. placed items i n of) o (Err fault.Kind)) P
placed_number P items i None of h = tt
placed_number P items i (Some n) of h = placed_known P items i n of (λ j. h (slice_set items j n))

item_put_known : (t : Table) (s : State) (b : BodyTree) (i : ℕ) (to : Value) → IsKnown t s to → BodyIsKnown t s b → IfOk (item_put b i to) (BodyIsKnown t s)
item_put_known t s (pointers class fields items) i to h is =
    placed_known (BodyIsKnown t s) items i to (pointers class fields) (λ j. (is.0, (is.1.0, All-set (IsKnown t s) items j to h is.1.1)))
item_put_known t s (bytes class items) i to h is = placed_number (BodyIsKnown t s) items i (number_to 255 to) (bytes class) (λ new. is)
item_put_known t s (words class items) i to h is = placed_number (BodyIsKnown t s) items i (number_to 65535 to) (words class) (λ new. is)
item_put_known t s _ i to h is = tt

put_known : (t : Table) (w : World) (n : ℕ) (answer : Value) (r : Result BodyTree ObjectFault) → AreKnown t w.objects → IsKnown t w.objects answer → IfOk r (BodyIsKnown t w.objects)
    → KeepsKnown t w.objects (put_done w (Object n) answer r)
put_known t w n answer (Err told) known h is = fails_known t w known
put_known t w n answer (Ok b) known h is =
    let new : State = with_body_at w.objects (Object n) b in
    let same : length new.bodies ≡ length w.objects.bodies = length-set w.objects.bodies n b in
    let more : Grows w.objects new = record { symbols = omega arith; numbers = omega arith; bodies = omega (arith, same) } in
    let stays : (v : Value) → IsKnown t w.objects v → IsKnown t new v = value_stays t w.objects new more in
    record {
      answer = stays answer h;
      objects = λ k c e. ⊎_elim (λ h. body_stays t w.objects new stays c (known k c h)) (λ h. subst (BodyIsKnown t new) h (body_stays t w.objects new stays b is))
          (set_or w.objects.bodies n b c k e);
      values = stays;
    }

puts_known : (t : Table) (w : World) (r : Value) (i : ℕ) (to answer : Value) → AreKnown t w.objects → IsKnown t w.objects to → IsKnown t w.objects answer → KeepsKnown t w.objects (puts w r i to answer)
puts_known t w (Object n) i to answer known h g = of (slice_get w.objects.bodies n) refl
  where
    of : (o : Option BodyTree) → slice_get w.objects.bodies n ≡ o → KeepsKnown t w.objects (put_done w (Object n) answer (option_map_or (λ b. item_put b i to) o (Err fault.Kind)))
    of None e = fails_known t w known
    of (Some b) e = put_known t w n answer (item_put b i to) known g (item_put_known t w.objects b i to h (known n b e))
puts_known t w _ i to answer known h g = fails_known t w known

puts_character_known : (t : Table) (w : World) (r : Value) (i c : ℕ) → AreKnown t w.objects → KeepsKnown t w.objects (puts_character w r i c)
puts_character_known t w r i c known = of (option_and_then bytes_of (body_at w.objects r))
  where
    of : (o : Option (List ℕ)) → KeepsKnown t w.objects (option_map_or (λ items. puts w r i (Small (pos c)) (Character c)) o (fails w))
    of None = fails_known t w known
    of (Some items) = puts_known t w r i (Small (pos c)) (Character c) known tt tt

smalls_known : (t : Table) (s : State) (items : List ℕ) → All (IsKnown t s) (map (λ n. Small (pos n)) items)
smalls_known t s items = All-map (IsKnown t s) (λ n. Small (pos n)) items (λ k d l. tt)

items_of_known : (t : Table) (s : State) (b : BodyTree) → BodyIsKnown t s b → IfSome (items_of b) (All (IsKnown t s))
items_of_known t s (pointers class fields items) h = h.1.1
items_of_known t s (bytes class items) h = smalls_known t s items
items_of_known t s (words class items) h = smalls_known t s items
items_of_known t s (home method receiver temporaries) h = tt
items_of_known t s (block whole start arguments) h = tt

items_known : (t : Table) (s : State) (r : Value) → AreKnown t s → IfSome (items_at s r) (All (IsKnown t s))
items_known t s (Object n) known = of (slice_get s.bodies n) refl
  where
    of : (o : Option BodyTree) → slice_get s.bodies n ≡ o → IfSome (option_and_then items_of o) (All (IsKnown t s))
    of None e = tt
    of (Some b) e = items_of_known t s b (known n b e)
items_known t s _ known = tt

either_known : {X : Type 0} (P : X → Type 0) (a b : Option X) → IfSome a P → IfSome b P → IfSome (option_or a b) P
either_known P None b h g = g
either_known P (Some x) b h g = h

readable_known : (t : Table) (s : State) (r : Value) → AreKnown t s → IfSome (readable s r) (All (IsKnown t s))
readable_known t s r known = either_known (All (IsKnown t s)) (items_at s r) (option_map (map (λ n. Small (pos n))) (symbol_text s r)) (items_known t s r known) (of (symbol_text s r))
  where
    of : (o : Option (List ℕ)) → IfSome (option_map (map (λ n. Small (pos n))) o) (All (IsKnown t s))
    of None = tt
    of (Some items) = smalls_known t s items

then_known : {X : Type 0} (Q : X → Type 0) (P : Value → Type 0) (o : Option X) (f : X → Option Value) → IfSome o Q → ((x : X) → Q x → IfSome (f x) P) → IfSome (option_and_then f o) P
then_known Q P None f h g = tt
then_known Q P (Some x) f h g = g x h

got_known : {X : Type 0} (P : X → Type 0) (items : List X) (i : ℕ) → All P items → IfSome (slice_get items i) P
got_known P [] i h = tt
got_known P (x ∷ items) zero h = All-head P x items h
got_known P (x ∷ items) (suc i) h = got_known P items i (All-tail P x items h)

at_place_known : (P : Value → Type 0) (items : List Value) (place : Value) → All P items → IfSome (at_place items place) P
at_place_known P items (Small (pos (suc i))) h = got_known P items i h
at_place_known P items _ h = tt

character_known : (t : Table) (s : State) (o : Option ℕ) → IfSome (option_map Character o) (IsKnown t s)
character_known t s None = tt
character_known t s (Some c) = tt

-- ---- numbers

some_if : (P : Value → Type 0) (test : Bool) (v : Value) → P v → IfSome (if test then Some v else None) P
some_if P true v h = h
some_if P false v h = tt

truth_known : (t : Table) (s : State) (b : Bool) → IsKnown t s (truth b)
truth_known t s true = tt
truth_known t s false = tt

ranged_known : (t : Table) (s : State) (n : ℤ) → IfSome (ranged n) (IsKnown t s)
ranged_known t s n = some_if (IsKnown t s) (not (is_less n (neg_ℤ (pos (2 ^ 30)))) && is_less n (pos (2 ^ 30))) (Small n) tt

if_known : (P : Value → Type 0) (test : Bool) (a b : Option Value) → IfSome a P → IfSome b P → IfSome (if test then a else b) P
if_known P true a b h g = h
if_known P false a b h g = g

divided_known : (t : Table) (s : State) (f : ℤ → ℤ → Option Value) (a b : ℤ) → IfSome (f a b) (IsKnown t s) → IfSome (divided f a b) (IsKnown t s)
divided_known t s f a b h = if_known (IsKnown t s) (is_zero b) None (f a b) tt h

shifted_known : (t : Table) (s : State) (a b : ℤ) → IfSome (shifted a b) (IsKnown t s)
shifted_known t s a (pos n) = ranged_known t s (a *ℤ pos (2 ^ n))
shifted_known t s a (negsuc n) = ranged_known t s (int_shr a (suc n))

exact_known : (t : Table) (s : State) (a b : ℤ) → IfSome (exact a b) (IsKnown t s)
exact_known t s a b = if_known (IsKnown t s) (is_zero (floor_rest a b)) (ranged (floor_quotient a b)) None (ranged_known t s (floor_quotient a b)) tt

row_known : (t : Table) (s : State) (a b : ℤ) (test : Row → Bool) (rs : List Row) → AllByRecursion (λ r. IfSome (r.answer a b) (IsKnown t s)) rs
    → IfSome (option_and_then (λ r. r.answer a b) (find test rs)) (IsKnown t s)
row_known t s a b test [] h = tt
row_known t s a b test (r ∷ rs) h =
    elim (test r) as (λ is. IfSome (option_and_then (λ r. r.answer a b) (cond is (Some r) (find test rs))) (IsKnown t s)) [
      | true ↦ h.0
      | false ↦ row_known t s a b test rs h.1
    ]

arithmetic_known : (t : Table) (s : State) (n : ℕ) (a b : ℤ) → IfSome (arithmetic n a b) (IsKnown t s)
arithmetic_known t s n a b =
    row_known t s a b (λ r. r.number == n) number_rows (
      ranged_known t s (a +ℤ b),
      (
        ranged_known t s (a -ℤ b),
        (
          truth_known t s (is_less a b),
          (
            truth_known t s (is_less b a),
            (
              truth_known t s (not (is_less b a)),
              (
                truth_known t s (not (is_less a b)),
                (
                  truth_known t s (is_zero (a -ℤ b)),
                  (
                    truth_known t s (not (is_zero (a -ℤ b))),
                    (
                      ranged_known t s (a *ℤ b),
                      (
                        divided_known t s exact a b (exact_known t s a b),
                        (
                          divided_known t s (λ a b. ranged (floor_rest a b)) a b (ranged_known t s (floor_rest a b)),
                          (
                            divided_known t s (λ a b. ranged (floor_quotient a b)) a b (ranged_known t s (floor_quotient a b)),
                            (ranged_known t s (int_bit_and w32 a b), (ranged_known t s (int_bit_or w32 a b), (ranged_known t s (int_bit_xor w32 a b), (shifted_known t s a b, tt)))),
                          ),
                        ),
                      ),
                    ),
                  ),
                ),
              ),
            ),
          ),
        ),
      ),
    )

two_numbers_known : (t : Table) (w : World) (n : ℕ) (r a : Value) → AreKnown t w.objects → KeepsKnown t w.objects (two_numbers n w r a)
two_numbers_known t w n (Small a) (Small b) known = gives_known t w (arithmetic n a b) known (arithmetic_known t w.objects n a b)
two_numbers_known t w n _ _ known = fails_known t w known

number_of_character_known : (t : Table) (w : World) (r : Value) → AreKnown t w.objects → KeepsKnown t w.objects (number_of_character w r)
number_of_character_known t w (Character c) known = done_known t w (Small (pos c)) known tt
number_of_character_known t w _ known = fails_known t w known

character_of_known : (t : Table) (w : World) (a : Value) → AreKnown t w.objects → KeepsKnown t w.objects (character_of w a)
character_of_known t w (Small (pos n)) known = if_keeps t w.objects (nat_le n 255) (done w (Character n)) (fails w) (done_known t w (Character n) known tt) (fails_known t w known)
character_of_known t w _ known = fails_known t w known

-- ---- classes

kernel_known : (t : Table) (s : State) (word : Name) → HasNumbers t → rows.is_kernel_class word ≡ true → IsKnown t s (kernel_class t word)
kernel_known t s word numbers is =
    let n = numbers word is in
    let f = first_number t.names word n.0 n.1 in
    subst (IsClass t.names) (sym (ap (λ o. unwrap_or o 0) f.1)) (word, f.2)

string_known : (t : Table) → HasNumbers t → IsClass t.names (option_map_or (λ n. n) (number_of t.names (codes "String")) 0)
unfolding rows.is_kernel_class
string_known t numbers =
    let n = numbers (codes "String") refl in
    let f = first_number t.names (codes "String") n.0 n.1 in
    subst (IsClass t.names) (sym (ap (λ o. option_map_or (λ n. n) o 0) f.1)) (codes "String", f.2)

number_class_known : (t : Table) (s : State) (k : NumberKind) → HasNumbers t → IsKnown t s (kernel_class t (number_class k))
unfolding rows.is_kernel_class
number_class_known t s LargePositive numbers = kernel_known t s (codes "LargePositiveInteger") numbers refl
number_class_known t s LargeNegative numbers = kernel_known t s (codes "LargeNegativeInteger") numbers refl
number_class_known t s Float numbers = kernel_known t s (codes "Float") numbers refl

body_class_known : (t : Table) (s : State) (b : BodyTree) → HasNumbers t → BodyIsKnown t s b → IsKnown t s (body_class t b)
unfolding rows.is_kernel_class
body_class_known t s (pointers class fields items) numbers h = h.0
body_class_known t s (bytes class items) numbers h = h
body_class_known t s (words class items) numbers h = h
body_class_known t s (home method receiver temporaries) numbers h = kernel_known t s (codes "MethodContext") numbers refl
body_class_known t s (block whole start arguments) numbers h = kernel_known t s (codes "BlockContext") numbers refl

object_class_known : (t : Table) (s : State) (n : ℕ) (o : Option BodyTree) → HasNumbers t → AreKnown t s → slice_get s.bodies n ≡ o → IsKnown t s (option_map_or (body_class t) o Nil)
object_class_known t s n None numbers known e = tt
object_class_known t s n (Some b) numbers known e = body_class_known t s b numbers (known n b e)

opaque_class_known : (t : Table) (s : State) (o : Option NumberKind) → HasNumbers t → IsKnown t s (option_map_or (λ kind. kernel_class t (number_class kind)) o Nil)
opaque_class_known t s None numbers = tt
opaque_class_known t s (Some k) numbers = number_class_known t s k numbers

class_of_known : (t : Table) (s : State) (v : Value) → HasNumbers t → AreKnown t s → IsKnown t s v → IsKnown t s (class_of t s v)
unfolding rows.is_kernel_class
class_of_known t s (Small n) numbers known h = kernel_known t s (codes "SmallInteger") numbers refl
class_of_known t s (Character c) numbers known h = kernel_known t s (codes "Character") numbers refl
class_of_known t s Nil numbers known h = kernel_known t s (codes "UndefinedObject") numbers refl
class_of_known t s True numbers known h = kernel_known t s (codes "True") numbers refl
class_of_known t s False numbers known h = kernel_known t s (codes "False") numbers refl
class_of_known t s (Symbol n) numbers known h = kernel_known t s (codes "Symbol") numbers refl
class_of_known t s (Number n) numbers known h = opaque_class_known t s (number_kind_of s (Number n)) numbers
class_of_known t s (ClassRef c side.Instance) numbers known h = h
class_of_known t s (ClassRef c side.Class) numbers known h = kernel_known t s (codes "Metaclass") numbers refl
class_of_known t s (Object n) numbers known h = object_class_known t s n (slice_get s.bodies n) numbers known refl
class_of_known t s Context numbers known h = kernel_known t s (codes "MethodContext") numbers refl
class_of_known t s Transcript numbers known h = kernel_known t s (codes "TextCollector") numbers refl
class_of_known t s Smalltalk numbers known h = kernel_known t s (codes "SystemDictionary") numbers refl

-- ---- new objects

of_class_known : (t : Table) (w : World) (r : Value) (go : ℕ → Effect) → AreKnown t w.objects → IsKnown t w.objects r → ((c : ℕ) → IsClass t.names c → KeepsKnown t w.objects (go c))
    → KeepsKnown t w.objects (of_class t w r go)
of_class_known t w (ClassRef c side.Instance) go known h goes = if_keeps t w.objects (can_be_new t c) (go c) (fails w) (goes c h) (fails_known t w known)
of_class_known t w _ go known h goes = fails_known t w known

nils_known : (t : Table) (s : State) (n : ℕ) → All (IsKnown t s) (replicate n Nil)
nils_known t s n = All-replicate (IsKnown t s) n Nil tt

new_plain_known : (t : Table) (w : World) (c : ℕ) (k : Kind) → AreKnown t w.objects → IsClass t.names c → KeepsKnown t w.objects (new_plain t w c k)
new_plain_known t w c kind.Plain known is = makes_known t w (pointers c (replicate (variables_of t c) Nil) []) known (is, (nils_known t w.objects (variables_of t c), All-nil (IsKnown t w.objects)))
new_plain_known t w c _ known is = fails_known t w known

new_indexed_known : (t : Table) (w : World) (c : ℕ) (k : Kind) (n : ℕ) → AreKnown t w.objects → IsClass t.names c → KeepsKnown t w.objects (new_indexed t w c k n)
new_indexed_known t w c kind.Plain n known is = fails_known t w known
new_indexed_known t w c kind.Pointers n known is = makes_known t w (blank c body.Pointers (variables_of t c) n) known (is, (nils_known t w.objects (variables_of t c), nils_known t w.objects n))
new_indexed_known t w c kind.Bytes n known is = makes_known t w (blank c body.Bytes 0 n) known is
new_indexed_known t w c kind.Words n known is = makes_known t w (blank c body.Words 0 n) known is

new_with_known : (t : Table) (w : World) (r a : Value) → AreKnown t w.objects → IsKnown t w.objects r → KeepsKnown t w.objects (new_with t w r a)
new_with_known t w r (Small (pos n)) known h = of_class_known t w r (λ c. new_indexed t w c (kind_of_class t c) n) known h (λ c is. new_indexed_known t w c (kind_of_class t c) n known is)
new_with_known t w r _ known h = fails_known t w known

-- ---- symbols

first_within : {X : Type 0} (test : X → Bool) (xs : List X) → list_any test xs ≡ true → position_or_len test xs < length xs
first_within test [] h = absurd (true≢false (sym h))
first_within test (y ∷ ys) h = elim (test y) as (λ is. (is || list_any test ys) ≡ true → cond (not is) (1 + position_or_len test ys) 0 < suc (length ys)) [
  | true ↦ λ h. omega arith
  | false ↦ λ h. omega (arith, first_within test ys h)
] h

first_most : {X : Type 0} (test : X → Bool) (xs : List X) → position_or_len test xs ≤ length xs
first_most test [] = omega arith
first_most test (y ∷ ys) = elim (test y) as (λ is. cond (not is) (1 + position_or_len test ys) 0 ≤ suc (length ys)) [
  | true ↦ omega arith
  | false ↦ omega (arith, first_most test ys)
]

first_added : {X : Type 0} (test : X → Bool) (x : X) (xs : List X) → position_or_len test xs < length (added_once test x xs)
first_added test x xs = of (list_any test xs) refl
  where
    of : (any : Bool) → list_any test xs ≡ any → position_or_len test xs < length (if any then xs else xs ++ x ∷ [])
    of true is = first_within test xs is
    of false is = omega (arith, first_most test xs, length-append xs (x ∷ []))

no_fewer : {X : Type 0} (test : Bool) (x : X) (xs : List X) → length xs ≤ length (if test then xs else xs ++ x ∷ [])
no_fewer true x xs = omega arith
no_fewer false x xs = omega (arith, length-append xs (x ∷ []))

names_known : (t : Table) (w : World) (text : List ℕ) → AreKnown t w.objects → KeepsKnown t w.objects (names w text)
names_known t w text known =
    let new : State = (named text w.objects).0 in
    let more : Grows w.objects new = record { symbols = no_fewer (list_any (bytes_eq text) w.objects.symbols) text w.objects.symbols; numbers = omega arith; bodies = omega arith } in
    let stays : (v : Value) → IsKnown t w.objects v → IsKnown t new v = value_stays t w.objects new more in
    record {
      answer = first_added (bytes_eq text) text w.objects.symbols;
      objects = λ n b e. body_stays t w.objects new stays b (known n b e);
      values = stays;
    }

writes_known : (t : Table) (w : World) (r : Value) (text : List ℕ) → AreKnown t w.objects → IsKnown t w.objects r → KeepsKnown t w.objects (writes w r text)
writes_known t w r text known h =
    if_keeps t w.objects (nat_le (length w.transcript + length text) transcript_limit) (done (record w { transcript = w.transcript ++ text }) r) (stops w TranscriptFull)
    (record { answer = h; objects = known; values = λ v h. h }) (stays_known t w (Stops TranscriptFull) known tt)

-- ---- the table

found_keeps : {R : Type 0} (t : Table) (old : State) (test : R → Bool) (effect : R → Effect) (none : Effect) (rs : List R) → AllByRecursion (λ r. KeepsKnown t old (effect r)) rs
    → KeepsKnown t old none → KeepsKnown t old (option_map_or effect (find test rs) none)
found_keeps t old test effect none [] h g = g
found_keeps t old test effect none (r ∷ rs) h g =
    elim (test r) as (λ is. KeepsKnown t old (option_map_or effect (cond is (Some r) (find test rs)) none)) [
      | true ↦ h.0
      | false ↦ found_keeps t old test effect none rs h.1 g
    ]

size_known : (t : Table) (w : World) (r : Value) → AreKnown t w.objects → KeepsKnown t w.objects (gives w (option_and_then (λ items. ranged (pos (length items))) (readable w.objects r)))
size_known t w r known =
    let size : List Value → Option Value = λ items. ranged (pos (length items)) in
    gives_known t w (option_and_then size (readable w.objects r)) known
    (then_known (All (IsKnown t w.objects)) (IsKnown t w.objects) (readable w.objects r) size (readable_known t w.objects r known) (λ items is. ranged_known t w.objects (pos (length items))))

item_known : (t : Table) (w : World) (r a : Value) → AreKnown t w.objects → KeepsKnown t w.objects (gives w (option_and_then (λ items. at_place items a) (readable w.objects r)))
item_known t w r a known =
    let item : List Value → Option Value = λ items. at_place items a in
    gives_known t w (option_and_then item (readable w.objects r)) known
    (then_known (All (IsKnown t w.objects)) (IsKnown t w.objects) (readable w.objects r) item (readable_known t w.objects r known) (λ items is. at_place_known (IsKnown t w.objects) items a is))

byte_known : (t : Table) (w : World) (r a : Value) → AreKnown t w.objects
    → KeepsKnown t w.objects (gives w (option_map Character (option_and_then (λ items. at_place items a) (readable_bytes w.objects r))))
byte_known t w r a known =
    let byte : Option ℕ = option_and_then (λ items. at_place items a) (readable_bytes w.objects r) in
    gives_known t w (option_map Character byte) known (character_known t w.objects byte)

symbol_known : (t : Table) (w : World) (r : Value) → AreKnown t w.objects → KeepsKnown t w.objects (with_text w (text_bytes t w.objects r) (names w))
symbol_known t w r known = with_text_known t w (text_bytes t w.objects r) (names w) known (λ text. names_known t w text known)

told_known : (t : Table) (w : World) (r a : Value) → AreKnown t w.objects → IsKnown t w.objects r → KeepsKnown t w.objects (with_text w (text_bytes t w.objects a) (writes w r))
told_known t w r a known h = with_text_known t w (text_bytes t w.objects a) (writes w r) known (λ text. writes_known t w r text known h)

error_known : (t : Table) (w : World) (a : Value) → AreKnown t w.objects → KeepsKnown t w.objects (with_text w (text_bytes t w.objects a) (λ text. stops w (Error text)))
error_known t w a known = with_text_known t w (text_bytes t w.objects a) (λ text. stops w (Error text)) known (λ text. stays_known t w (Stops (Error text)) known tt)

plain_instance_known : (t : Table) (w : World) (r : Value) → AreKnown t w.objects → IsKnown t w.objects r → KeepsKnown t w.objects (of_class t w r (λ c. new_plain t w c (kind_of_class t c)))
plain_instance_known t w r known h = of_class_known t w r (λ c. new_plain t w c (kind_of_class t c)) known h (λ c is. new_plain_known t w c (kind_of_class t c) known is)

prints_known : (t : Table) (w : World) (r : Value) → HasNumbers t → AreKnown t w.objects → KeepsKnown t w.objects (prints t w r)
prints_known t w r numbers known = makes_known t w (string_of t (printed t w.objects r)) known (string_known t numbers)

alone_known : (t : Table) (n : ℕ) (r : Value) (w : World) → HasNumbers t → IsKnown t w.objects r → AreKnown t w.objects → KeepsKnown t w.objects (primitive t n r [] w)
alone_known t n r w numbers h known =
    found_keeps t w.objects (λ (row : Alone). row.number == n) (λ (row : Alone). row.effect t w r) (fails w) rows_alone (
      size_known t w r known,
      (
        plain_instance_known t w r known h,
        (
          done_known t w (class_of t w.objects r) known (class_of_known t w.objects r numbers known h),
          (number_of_character_known t w r known, (symbol_known t w r known, (prints_known t w r numbers known, tt))),
        ),
      ),
    )
    (fails_known t w known)

with_one_known : (t : Table) (n : ℕ) (r a : Value) (w : World) → IsKnown t w.objects r → AreKnown t w.objects → KeepsKnown t w.objects (primitive t n r (a ∷ []) w)
with_one_known t n r a w h known =
    found_keeps t w.objects (λ (row : WithOne). row.number == n) (λ (row : WithOne). row.effect t w r a) (two_numbers n w r a) rows_with_one (
      item_known t w r a known,
      (
        byte_known t w r a known,
        (
          new_with_known t w r a known h,
          (
            done_known t w (truth (same r a)) known (truth_known t w.objects (same r a)),
            (told_known t w r a known h, (error_known t w a known, (character_of_known t w a known, tt))),
          ),
        ),
      ),
    )
    (two_numbers_known t w n r a known)

put_at_known : (t : Table) (w : World) (r place to : Value) → AreKnown t w.objects → IsKnown t w.objects to → KeepsKnown t w.objects (put_at w r place to)
put_at_known t w r (Small (pos i)) to known h = puts_known t w r i to to known h h
put_at_known t w r _ to known h = fails_known t w known

put_character_at_known : (t : Table) (w : World) (r place to : Value) → AreKnown t w.objects → KeepsKnown t w.objects (put_character_at w r place to)
put_character_at_known t w r (Small (pos i)) (Character c) known = puts_character_known t w r i c known
put_character_at_known t w r _ to known = fails_known t w known

with_two_known : (t : Table) (n : ℕ) (r a b : Value) (w : World) → IsKnown t w.objects b → AreKnown t w.objects → KeepsKnown t w.objects (primitive t n r (a ∷ b ∷ []) w)
with_two_known t n r a b w h known =
    found_keeps t w.objects (λ (row : WithTwo). row.number == n) (λ (row : WithTwo). row.effect t w r a b) (fails w) rows_with_two
    (put_at_known t w r a b known h, (put_character_at_known t w r a b known, tt))
    (fails_known t w known)

pub primitive_keeps : (t : Table) (n : ℕ) (r : Value) (arguments : List Value) (w : World) → HasNumbers t → IsKnown t w.objects r → All (IsKnown t w.objects) arguments → AreKnown t w.objects
    → KeepsKnown t w.objects (primitive t n r arguments w)
primitive_keeps t n r [] w numbers h all known = alone_known t n r w numbers h known
primitive_keeps t n r (a ∷ []) w numbers h all known = with_one_known t n r a w h known
primitive_keeps t n r (a ∷ b ∷ []) w numbers h all known =
    with_two_known t n r a b w (All-head (IsKnown t w.objects) b [] (All-tail (IsKnown t w.objects) a (b ∷ []) all)) known
primitive_keeps t n r (a ∷ b ∷ c ∷ rest) w numbers h all known = fails_known t w known
