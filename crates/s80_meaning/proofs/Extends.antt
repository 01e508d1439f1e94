-- Every change of objects goes on: homes stay homes, no block is new or another, and nothing is noted; but for a literal that is noted.
use Rattle.std.proofs.Common.{◌≡◌, ◌∙◌, ◌+◌, ◌++◌, ◌==◌, ℕ, zero, suc, pos, Bool, true, false, cond, ◌⊎◌, inl, inr, refl, sym, ap, subst, List, [], ◌∷◌, length, nat_le, nat_lt, replicate, Option, Some, None, Result, Ok, Err, find, option_and_then, option_map, slice_get, slice_set, if◌then◌else◌}
use Rattle.std.specs.List.{AllByRecursion}
use Rattle.std.specs.Option.{option_map_or}
use Rattle.s80_base.specs.declared.names.Side.TheVariants as side
use Rattle.s80_base.specs.Literal.{LiteralTree, LiteralTrees, small, character, str, symbol, array, true_literal, false_literal, nil_literal, number, no_literals, literals}
use Rattle.s80_form.specs.declared.definition.Kind.{Kind}
use Rattle.s80_form.specs.declared.definition.Kind.TheVariants as kind
use Rattle.s80_class.specs.Table.{Table}
use Rattle.s80_object.specs.Body.{BodyTree, pointers, bytes, words, home, block, blank, bytes_of, cost, number_to, words_of, word_limit}
use Rattle.s80_object.specs.Literal.{Built, built, built_all, is_made_at, made_before, noted}
use Rattle.s80_object.specs.Objects.{State as Objects, Made, Opaque, body_at, field_put, home_parts_of, item_put, put_with, with_body, with_body_at}
use Rattle.s80_object.specs.Objects.{placed as put_at_place}
use Rattle.s80_object.specs.declared.value.BodyKind.TheVariants as body
use Rattle.s80_object.specs.declared.value.ObjectFault.{ObjectFault}
use Rattle.s80_object.specs.declared.value.ObjectFault.TheVariants as fault
use Rattle.s80_object.specs.declared.value.Value.{Value}
use Rattle.s80_object.specs.declared.value.Value.TheVariants.{Small, Character, Nil, ClassRef, Object}
use Rattle.s80_prims.specs.declared.stop.Stop.TheVariants.{Error, ObjectsFull, TranscriptFull}
use Rattle.s80_prims.specs.Arithmetic.{arithmetic}
use Rattle.s80_prims.specs.Classes.{can_be_new, kind_of_class, variables_of}
use Rattle.s80_prims.specs.Primitives.{Alone, Effect, WithOne, WithTwo, World as Reached, character_of, done, fails, gives, makes, names, new_indexed, new_plain, new_with, number_of_character, of_class, primitive, prints, put_at, put_character_at, put_done, puts, puts_character, rows_alone, rows_with_one, rows_with_two, stops, string_of, text_bytes, transcript_limit, two_numbers, with_text, writes}
use Rattle.s80_prims.specs.Printed.{printed}
use Rattle.s80_machine.proofs.lemmas.SoundLists.{both_true, same_number}
use Rattle.s80_meaning.proofs.Stays.{Extends, extends_then, same_extends}

abbrev pub IsNoBlock : BodyTree → Type 0
IsNoBlock (block whole b count) = ⊥
IsNoBlock _ = Unit {0}

-- ---- lists of bodies

-- a body that is no block isn't this block
not_it : (b : BodyTree) → IsNoBlock b → (whole : Value) (k count : ℕ) {X : Type 0} → Some b ≡ Some (block whole k count) → X
not_it (block w n m) isnt whole k count e = absurd isnt
not_it (pointers class fields items) isnt whole k count e = cc
not_it (bytes class items) isnt whole k count e = cc
not_it (words class items) isnt whole k count e = cc
not_it (home m r temporaries) isnt whole k count e = cc

pub homes_pushed : (bs : List BodyTree) (b : BodyTree) (n : ℕ) (parts : ℕ × Value) → option_and_then home_parts_of (slice_get bs n) ≡ Some parts → option_and_then home_parts_of (slice_get (bs ++ b ∷ []) n) ≡ Some parts
homes_pushed [] b n parts e = cc
homes_pushed (x ∷ bs) b zero parts e = e
homes_pushed (x ∷ bs) b (suc n) parts e = homes_pushed bs b n parts e

blocks_pushed : (bs : List BodyTree) (b : BodyTree) → IsNoBlock b → (n : ℕ) (whole : Value) (k count : ℕ) → slice_get (bs ++ b ∷ []) n ≡ Some (block whole k count) → slice_get bs n ≡ Some (block whole k count)
blocks_pushed [] b isnt zero whole k count e = not_it b isnt whole k count e
blocks_pushed [] b isnt (suc n) whole k count e = e
blocks_pushed (x ∷ bs) b isnt zero whole k count e = e
blocks_pushed (x ∷ bs) b isnt (suc n) whole k count e = blocks_pushed bs b isnt n whole k count e

-- a body in another's place, which is a home with the same parts if the other was one
homes_set : (bs : List BodyTree) (m : ℕ) (old new : BodyTree) → slice_get bs m ≡ Some old → home_parts_of new ≡ home_parts_of old → (n : ℕ)
    → option_and_then home_parts_of (slice_get (slice_set bs m new) n) ≡ option_and_then home_parts_of (slice_get bs n)
homes_set [] m old new is same n = refl
homes_set (x ∷ bs) zero old new is same zero = same ∙ ap (option_and_then home_parts_of) (sym is)
homes_set (x ∷ bs) zero old new is same (suc n) = refl
homes_set (x ∷ bs) (suc m) old new is same zero = refl
homes_set (x ∷ bs) (suc m) old new is same (suc n) = homes_set bs m old new is same n

blocks_set : (bs : List BodyTree) (m : ℕ) (b : BodyTree) → IsNoBlock b → (n : ℕ) (whole : Value) (k count : ℕ) → slice_get (slice_set bs m b) n ≡ Some (block whole k count) → slice_get bs n ≡ Some (block whole k count)
blocks_set [] m b isnt n whole k count e = e
blocks_set (x ∷ bs) zero b isnt zero whole k count e = not_it b isnt whole k count e
blocks_set (x ∷ bs) zero b isnt (suc n) whole k count e = e
blocks_set (x ∷ bs) (suc m) b isnt zero whole k count e = e
blocks_set (x ∷ bs) (suc m) b isnt (suc n) whole k count e = blocks_set bs m b isnt n whole k count e

-- ---- objects

-- a body that is no block is added
pub added_extends : (s : Objects) (b : BodyTree) → IsNoBlock b → Extends s (with_body s b)
added_extends s b isnt = record { homes = homes; blocks = blocks_pushed s.bodies b isnt; literals = refl }
  where
    homes : (whole : Value) (parts : ℕ × Value) → option_and_then home_parts_of (body_at s whole) ≡ Some parts → option_and_then home_parts_of (body_at (with_body s b) whole) ≡ Some parts
    homes (Object n) parts e = homes_pushed s.bodies b n parts e
    homes _ parts e = e

-- what does not touch bodies, nor what was noted
pub bodies_extend : (s new : Objects) → new.bodies ≡ s.bodies → new.literals ≡ s.literals → Extends s new
bodies_extend s new same noted = record { homes = homes; blocks = λ n whole b count e. ap (λ (bs : List BodyTree). slice_get bs n) (sym same) ∙ e; literals = noted }
  where
    homes : (whole : Value) (parts : ℕ × Value) → option_and_then home_parts_of (body_at s whole) ≡ Some parts → option_and_then home_parts_of (body_at new whole) ≡ Some parts
    homes (Object n) parts e = ap (λ (bs : List BodyTree). option_and_then home_parts_of (slice_get bs n)) same ∙ e
    homes _ parts e = e

pub symbols_extend : (s : Objects) (symbols : List (List ℕ)) → Extends s (record s { symbols = symbols })
symbols_extend s symbols = bodies_extend s (record s { symbols = symbols }) refl refl

pub numbers_extend : (s : Objects) (numbers : List Opaque) → Extends s (record s { numbers = numbers })
numbers_extend s numbers = bodies_extend s (record s { numbers = numbers }) refl refl

-- ---- elements put

-- no block, and a home with the same parts if it was one
abbrev pub Changes : BodyTree → BodyTree → Type 0
Changes old new = IsNoBlock new × (home_parts_of new ≡ home_parts_of old)

changed_at : (s : Objects) (v : Value) (old new : BodyTree) → body_at s v ≡ Some old → Changes old new → Extends s (with_body_at s v new)
changed_at s (Object m) old new is h = record { homes = homes; blocks = blocks_set s.bodies m new h.0; literals = refl }
  where
    homes : (whole : Value) (parts : ℕ × Value) → option_and_then home_parts_of (body_at s whole) ≡ Some parts
        → option_and_then home_parts_of (body_at (with_body_at s (Object m) new) whole) ≡ Some parts
    homes (Object n) parts e = homes_set s.bodies m old new is h.1 n ∙ e
    homes _ parts e = e
changed_at s _ old new is h = same_extends s

put_extends : (change : BodyTree → Result BodyTree ObjectFault) → ((old new : BodyTree) → change old ≡ Ok new → Changes old new) → (s : Objects) (v : Value) (b : BodyTree)
    → put_with change s v ≡ Ok b → Extends s (with_body_at s v b)
put_extends change h s v b e = of (body_at s v) refl e
  where
    of : (o : Option BodyTree) → body_at s v ≡ o → option_map_or change o (Err fault.Kind) ≡ Ok b → Extends s (with_body_at s v b)
    of None is e = cc
    of (Some old) is e = changed_at s v old b is (h old b e)

ok_if : (P : BodyTree → Type 0) (test : Bool) (b c : BodyTree) (told : ObjectFault) → P b → (if test then Ok b else Err told) ≡ Ok c → P c
ok_if P true b c told h e = let same : b ≡ c = cc in subst P same h
ok_if P false b c told h e = cc

put_holds : {X : Type 0} (P : BodyTree → Type 0) (items : List X) (i : ℕ) (x : X) (of : List X → BodyTree) → ((l : List X) → P (of l)) → (c : BodyTree) → put_at_place items i x of ≡ Ok c → P c
put_holds P items zero x of h c e = cc
put_holds P items (suc i) x of h c e = ok_if P (nat_lt i (length items)) (of (slice_set items i x)) c fault.Range (h (slice_set items i x)) e

put_number_holds : (P : BodyTree → Type 0) (items : List ℕ) (i : ℕ) (o : Option ℕ) (of : List ℕ → BodyTree) → ((l : List ℕ) → P (of l)) → (c : BodyTree)
    → option_map_or (λ n. put_at_place items i n of) o (Err fault.Kind) ≡ Ok c → P c
put_number_holds P items i None of h c e = cc
put_number_holds P items i (Some n) of h c e = put_holds P items i n of h c e

field_changes : (i : ℕ) (x : Value) (old new : BodyTree) → field_put old i x ≡ Ok new → Changes old new
field_changes i x (pointers class fields items) new e = put_holds (Changes (pointers class fields items)) fields (suc i) x (λ l. pointers class l items) (λ l. (tt, refl)) new e
field_changes i x (bytes class items) new e = cc
field_changes i x (words class items) new e = cc
field_changes i x (home m r temporaries) new e = put_holds (Changes (home m r temporaries)) temporaries (suc i) x (home m r) (λ l. (tt, refl)) new e
field_changes i x (block whole b count) new e = cc

item_changes : (i : ℕ) (x : Value) (old new : BodyTree) → item_put old i x ≡ Ok new → Changes old new
item_changes i x (pointers class fields items) new e = put_holds (Changes (pointers class fields items)) items i x (pointers class fields) (λ l. (tt, refl)) new e
item_changes i x (bytes class items) new e = put_number_holds (Changes (bytes class items)) items i (number_to 255 x) (bytes class) (λ l. (tt, refl)) new e
item_changes i x (words class items) new e = put_number_holds (Changes (words class items)) items i (number_to 65535 x) (words class) (λ l. (tt, refl)) new e
item_changes i x (home m r temporaries) new e = cc
item_changes i x (block whole b count) new e = cc

pub field_extends : (s : Objects) (v : Value) (i : ℕ) (x : Value) (b : BodyTree) → put_with (λ b. field_put b i x) s v ≡ Ok b → Extends s (with_body_at s v b)
field_extends s v i x b e = put_extends (λ b. field_put b i x) (field_changes i x) s v b e

pub item_extends : (s : Objects) (v : Value) (i : ℕ) (x : Value) (b : BodyTree) → put_with (λ b. item_put b i x) s v ≡ Ok b → Extends s (with_body_at s v b)
item_extends s v i x b e = put_extends (λ b. item_put b i x) (item_changes i x) s v b e

-- ---- literals

mutual
  pub built_extends : (strings arrays : ℕ) (l : LiteralTree) (s : Objects) → Extends s (built strings arrays l s).0
  built_extends strings arrays (small n) s = same_extends s
  built_extends strings arrays (character c) s = same_extends s
  built_extends strings arrays (str text) s = added_extends s (bytes strings text) tt
  built_extends strings arrays (symbol text) s = bodies_extend s (built strings arrays (symbol text) s).0 refl refl
  built_extends strings arrays (array vs) s =
      let b = built_all strings arrays vs s in
      extends_then s b.0 (with_body b.0 (pointers arrays [] b.1)) (built_all_extends strings arrays vs s) (added_extends b.0 (pointers arrays [] b.1) tt)
  built_extends strings arrays true_literal s = same_extends s
  built_extends strings arrays false_literal s = same_extends s
  built_extends strings arrays nil_literal s = same_extends s
  built_extends strings arrays (number kind text) s = bodies_extend s (built strings arrays (number kind text) s).0 refl refl

  pub built_all_extends : (strings arrays : ℕ) (vs : LiteralTrees) (s : Objects) → Extends s (built_all strings arrays vs s).0
  built_all_extends strings arrays no_literals s = same_extends s
  built_all_extends strings arrays (literals v vs) s =
      let b = built strings arrays v s in
      extends_then s b.0 (built_all strings arrays vs b.0).0 (built_extends strings arrays v s) (built_all_extends strings arrays vs b.0)

-- an object that is noted changes no body
pub noted_bodies : (m k : ℕ) (object : Bool) (b : Built) → (noted m k object b).bodies ≡ b.0.bodies
noted_bodies m k true b = refl
noted_bodies m k false b = refl

-- what is found among more was found before, or is the one that was added
found_more : (m k : ℕ) (made : List Made) (x : Made) (v : Value) → option_map (λ (x : Made). x.value) (find (is_made_at m k) (made ++ x ∷ [])) ≡ Some v
    → (option_map (λ (x : Made). x.value) (find (is_made_at m k) made) ≡ Some v) ⊎ (is_made_at m k x ≡ true)
found_more m k [] x v e = by_test (is_made_at m k x) e
  where
    by_test : (b : Bool) → option_map (λ (x : Made). x.value) (cond b (Some x) None) ≡ Some v → (option_map (λ (x : Made). x.value) None ≡ Some v) ⊎ (b ≡ true)
    by_test true e = inr refl
    by_test false e = inl e
found_more m k (y ∷ made) x v e = by_test (is_made_at m k y) e (found_more m k made x v)
  where
    by_test : (b : Bool) → option_map (λ (x : Made). x.value) (cond b (Some y) (find (is_made_at m k) (made ++ x ∷ []))) ≡ Some v
        → (option_map (λ (x : Made). x.value) (find (is_made_at m k) (made ++ x ∷ [])) ≡ Some v → (option_map (λ (x : Made). x.value) (find (is_made_at m k) made) ≡ Some v) ⊎ (is_made_at m k x ≡ true))
        → (option_map (λ (x : Made). x.value) (cond b (Some y) (find (is_made_at m k) made)) ≡ Some v) ⊎ (is_made_at m k x ≡ true)
    by_test true e more = inl e
    by_test false e more = more e

-- what was noted then was noted before, or is this object
pub noted_either : (m k : ℕ) (object : Bool) (b : Built) (n i : ℕ) (v : Value) → made_before n i (noted m k object b) ≡ Some v → (made_before n i b.0 ≡ Some v) ⊎ ((object ≡ true) × (m ≡ n) × (k ≡ i))
noted_either m k false b n i v e = inl e
noted_either m k true b n i v e = elim (found_more n i b.0.literals (record { method = m; entry = k; value = b.1 }) v e) [
  | inl h ↦ inl h
  | inr h ↦ let parts = both_true (m == n) (k == i) h in inr (refl, same_number m n parts.0, same_number k i parts.1)
]

-- ---- effects

-- the objects behind an effect
abbrev pub GoesOn : Reached → Effect → Type 0
GoesOn w e = Extends w.objects e.world.objects

stays : (w : Reached) → Extends w.objects w.objects
stays w = same_extends w.objects

if_goes : (w : Reached) (test : Bool) (a b : Effect) → GoesOn w a → GoesOn w b → GoesOn w (if test then a else b)
if_goes w true a b h g = h
if_goes w false a b h g = g

gives_goes : (w : Reached) (o : Option Value) → GoesOn w (gives w o)
gives_goes w None = stays w
gives_goes w (Some v) = stays w

with_text_goes : (w : Reached) (o : Option (List ℕ)) (go : List ℕ → Effect) → ((text : List ℕ) → GoesOn w (go text)) → GoesOn w (with_text w o go)
with_text_goes w None go h = stays w
with_text_goes w (Some text) go h = h text

makes_goes : (w : Reached) (b : BodyTree) → IsNoBlock b → GoesOn w (makes w b)
makes_goes w b isnt =
    if_goes w (nat_le (words_of w.objects.bodies + cost b) word_limit) (done (record w { objects = with_body w.objects b }) (Object (length w.objects.bodies)))
    (stops w (ObjectsFull (words_of w.objects.bodies))) (added_extends w.objects b isnt) (stays w)

-- ---- items

put_done_goes : (w : Reached) (r answer : Value) (put : Result BodyTree ObjectFault) → ((b : BodyTree) → put ≡ Ok b → Extends w.objects (with_body_at w.objects r b)) → GoesOn w (put_done w r answer put)
put_done_goes w r answer (Ok b) h = h b refl
put_done_goes w r answer (Err told) h = stays w

puts_goes : (w : Reached) (r : Value) (i : ℕ) (to answer : Value) → GoesOn w (puts w r i to answer)
puts_goes w r i to answer = put_done_goes w r answer (put_with (λ b. item_put b i to) w.objects r) (item_extends w.objects r i to)

puts_character_goes : (w : Reached) (r : Value) (i c : ℕ) → GoesOn w (puts_character w r i c)
puts_character_goes w r i c = of (option_and_then bytes_of (body_at w.objects r))
  where
    of : (o : Option (List ℕ)) → GoesOn w (option_map_or (λ items. puts w r i (Small (pos c)) (Character c)) o (fails w))
    of None = stays w
    of (Some items) = puts_goes w r i (Small (pos c)) (Character c)

writes_goes : (w : Reached) (r : Value) (text : List ℕ) → GoesOn w (writes w r text)
writes_goes w r text =
    if_goes w (nat_le (length w.transcript + length text) transcript_limit) (done (record w { transcript = w.transcript ++ text }) r) (stops w TranscriptFull) (stays w) (stays w)

names_goes : (w : Reached) (text : List ℕ) → GoesOn w (names w text)
names_goes w text = bodies_extend w.objects (names w text).world.objects refl refl

prints_goes : (t : Table) (w : Reached) (v : Value) → GoesOn w (prints t w v)
prints_goes t w v = makes_goes w (string_of t (printed t w.objects v)) tt

-- ---- new objects

of_class_goes : (t : Table) (w : Reached) (r : Value) (go : ℕ → Effect) → ((c : ℕ) → GoesOn w (go c)) → GoesOn w (of_class t w r go)
of_class_goes t w (ClassRef c side.Instance) go h = if_goes w (can_be_new t c) (go c) (fails w) (h c) (stays w)
of_class_goes t w _ go h = stays w

new_plain_goes : (t : Table) (w : Reached) (c : ℕ) (k : Kind) → GoesOn w (new_plain t w c k)
new_plain_goes t w c kind.Plain = makes_goes w (pointers c (replicate (variables_of t c) Nil) []) tt
new_plain_goes t w c _ = stays w

new_indexed_goes : (t : Table) (w : Reached) (c : ℕ) (k : Kind) (n : ℕ) → GoesOn w (new_indexed t w c k n)
new_indexed_goes t w c kind.Plain n = stays w
new_indexed_goes t w c kind.Pointers n = makes_goes w (blank c body.Pointers (variables_of t c) n) tt
new_indexed_goes t w c kind.Bytes n = makes_goes w (blank c body.Bytes 0 n) tt
new_indexed_goes t w c kind.Words n = makes_goes w (blank c body.Words 0 n) tt

new_with_goes : (t : Table) (w : Reached) (r a : Value) → GoesOn w (new_with t w r a)
new_with_goes t w r (Small (pos n)) = of_class_goes t w r (λ c. new_indexed t w c (kind_of_class t c) n) (λ c. new_indexed_goes t w c (kind_of_class t c) n)
new_with_goes t w r _ = stays w

-- ---- the table

found_goes : {R : Type 0} (w : Reached) (test : R → Bool) (effect : R → Effect) (none : Effect) (rs : List R) → AllByRecursion (λ r. GoesOn w (effect r)) rs → GoesOn w none
    → GoesOn w (option_map_or effect (find test rs) none)
found_goes w test effect none [] h g = g
found_goes w test effect none (r ∷ rs) h g =
    elim (test r) as (λ is. GoesOn w (option_map_or effect (cond is (Some r) (find test rs)) none)) [
      | true ↦ h.0
      | false ↦ found_goes w test effect none rs h.1 g
    ]

two_numbers_goes : (n : ℕ) (w : Reached) (r a : Value) → GoesOn w (two_numbers n w r a)
two_numbers_goes n w (Small a) (Small b) = gives_goes w (arithmetic n a b)
two_numbers_goes n w _ _ = stays w

number_of_character_goes : (w : Reached) (r : Value) → GoesOn w (number_of_character w r)
number_of_character_goes w (Character c) = stays w
number_of_character_goes w _ = stays w

character_of_goes : (w : Reached) (a : Value) → GoesOn w (character_of w a)
character_of_goes w (Small (pos n)) = if_goes w (nat_le n 255) (done w (Character n)) (fails w) (stays w) (stays w)
character_of_goes w _ = stays w

put_at_goes : (w : Reached) (r place to : Value) → GoesOn w (put_at w r place to)
put_at_goes w r (Small (pos i)) to = puts_goes w r i to to
put_at_goes w r _ to = stays w

put_character_at_goes : (w : Reached) (r place to : Value) → GoesOn w (put_character_at w r place to)
put_character_at_goes w r (Small (pos i)) (Character c) = puts_character_goes w r i c
put_character_at_goes w r _ to = stays w

alone_goes : (t : Table) (n : ℕ) (r : Value) (w : Reached) → GoesOn w (primitive t n r [] w)
alone_goes t n r w =
    found_goes w (λ (row : Alone). row.number == n) (λ (row : Alone). row.effect t w r) (fails w) rows_alone
    (gives_goes w _, (of_class_goes t w r _ (λ c. new_plain_goes t w c (kind_of_class t c)), (stays w, (number_of_character_goes w r, (with_text_goes w (text_bytes t w.objects r) (names w) (names_goes w), (prints_goes t w r, tt))))))
    (stays w)

with_one_goes : (t : Table) (n : ℕ) (r a : Value) (w : Reached) → GoesOn w (primitive t n r (a ∷ []) w)
with_one_goes t n r a w =
    found_goes w (λ (row : WithOne). row.number == n) (λ (row : WithOne). row.effect t w r a) (two_numbers n w r a) rows_with_one
    (gives_goes w _, (gives_goes w _, (new_with_goes t w r a, (stays w, (with_text_goes w (text_bytes t w.objects a) (writes w r) (writes_goes w r), (with_text_goes w (text_bytes t w.objects a) (λ text. stops w (Error text)) (λ text. stays w), (character_of_goes w a, tt)))))))
    (two_numbers_goes n w r a)

with_two_goes : (t : Table) (n : ℕ) (r a b : Value) (w : Reached) → GoesOn w (primitive t n r (a ∷ b ∷ []) w)
with_two_goes t n r a b w =
    found_goes w (λ (row : WithTwo). row.number == n) (λ (row : WithTwo). row.effect t w r a b) (fails w) rows_with_two (put_at_goes w r a b, (put_character_at_goes w r a b, tt)) (stays w)

-- every primitive
pub primitive_extends : (t : Table) (n : ℕ) (r : Value) (arguments : List Value) (w : Reached) → Extends w.objects (primitive t n r arguments w).world.objects
primitive_extends t n r [] w = alone_goes t n r w
primitive_extends t n r (a ∷ []) w = with_one_goes t n r a w
primitive_extends t n r (a ∷ b ∷ []) w = with_two_goes t n r a b w
primitive_extends t n r (a ∷ b ∷ c ∷ rest) w = stays w
