-- Each primitive does with other numbers of the classes what it does.
use Rattle.std.proofs.Common.{◌≡◌, ◌∙◌, ◌+◌, ◌++◌, ◌==◌, ◌&&◌, ℕ, suc, ◌^◌, ℤ, pos, negsuc, Bool, true, false, not, cond, refl, sym, ap, List, [], ◌∷◌, drop, length, map, replicate, Option, Some, None, Result, Ok, Err, find, option_and_then, nat_le, if◌then◌else◌}
use Rattle.std.specs.Prelude.{◌+ℤ◌, ◌-ℤ◌, ◌*ℤ◌, neg_ℤ}
use Rattle.std.specs.Int.{w32, int_bit_and, int_bit_or, int_bit_xor, int_shr}
use Rattle.std.specs.List.{AllByRecursion}
use Rattle.std.specs.Option.{option_map, option_map_or, option_or}
use Rattle.std.proofs.lemmas.Bool.Decides.{Decides-eqb, same_from_decides}
use Rattle.std.proofs.lemmas.List.{length-map}
use Rattle.s80_base.specs.declared.names.Side.TheVariants as side
use Rattle.s80_form.specs.declared.definition.Kind.{Kind}
use Rattle.s80_form.specs.declared.definition.Kind.TheVariants as kind
use Rattle.s80_class.specs.Table.{Table}
use Rattle.s80_object.specs.Body.{BodyTree, pointers, blank, bytes_of, cost, words_of, word_limit}
use Rattle.s80_object.specs.Objects.{State as Objects, body_at, item_put, items_at, put_with, with_body}
use Rattle.s80_object.specs.declared.value.BodyKind.TheVariants as body
use Rattle.s80_object.specs.declared.value.ObjectFault.{ObjectFault}
use Rattle.s80_object.specs.declared.value.Value.{Value}
use Rattle.s80_object.specs.declared.value.Value.TheVariants.{Small, Character, Nil, Symbol, ClassRef, Object}
use Rattle.s80_prims.specs.declared.applied.Applied.{Applied}
use Rattle.s80_prims.specs.declared.applied.Applied.TheVariants.{Done, Fails, Stops}
use Rattle.s80_prims.specs.declared.stop.Stop.TheVariants.{Error, ObjectsFull, TranscriptFull}
use Rattle.s80_prims.specs.Arithmetic.{Row, arithmetic, divided, exact, floor_quotient, floor_rest, is_less, is_zero, ranged, shifted, truth}
use Rattle.s80_prims.specs.Arithmetic as arithmetic_table
use Rattle.s80_prims.specs.Classes.{can_be_new, class_of, kind_of_class, variables_of}
use Rattle.s80_prims.specs.Primitives.{Alone, Effect, WithOne, WithTwo, World as Reached, at_place, character_of, done, fails, gives, makes, names, new_indexed, new_plain, new_with, number_of_character, of_class, primitive, prints, put_at, put_character_at, put_done, puts, puts_character, readable, readable_bytes, rows_alone, rows_with_one, rows_with_two, same, same_side, stops, string_bytes, string_of, symbol_text, text_bytes, transcript_limit, two_numbers, with_text, writes}
use Rattle.s80_prims.specs.Printed.{printed}
use Rattle.s80_meaning.proofs.NaturalObjects.{get_map}
use Rattle.s80_meaning.proofs.RenamedNumbers.{IsRenumbering}
use Rattle.s80_meaning.proofs.RenamedObjects.{and_then_map, bytes_renamed, cost_renamed, item_put_at_renamed, items_at_renamed, length_renamed, map_numbers, map_replicate, number_value, renamed, renamed_body, renamed_objects, renamed_reached, renamed_result, seen_same, with_body_at_renamed, with_body_renamed, words_renamed}
use Rattle.s80_meaning.proofs.RenamedClasses.{can_be_new_same, class_of_renamed, kind_of_class_same, printed_same, string_bytes_same, string_of_renamed, variables_same}

module _ (r : ℕ → ℕ) where
  abbrev pub renamed_applied : Applied → Applied
  renamed_applied (Done v) = Done (renamed r v)
  renamed_applied Fails = Fails
  renamed_applied (Stops stop) = Stops stop

  abbrev pub renamed_effect : Effect → Effect
  renamed_effect e = record { applied = renamed_applied e.applied; world = renamed_reached r e.world }

  -- ---- numbers

  if_plain : (test : Bool) (o p : Option Value) → option_map (renamed r) o ≡ o → option_map (renamed r) p ≡ p → option_map (renamed r) (if test then o else p) ≡ (if test then o else p)
  if_plain true o p h g = h
  if_plain false o p h g = g

  ranged_plain : (n : ℤ) → option_map (renamed r) (ranged n) ≡ ranged n
  ranged_plain n = if_plain (not (is_less n (neg_ℤ (pos (2 ^ 30)))) && is_less n (pos (2 ^ 30))) (Some (Small n)) None refl refl

  pub truth_plain : (b : Bool) → renamed r (truth b) ≡ truth b
  truth_plain true = refl
  truth_plain false = refl

  told_plain : (b : Bool) → option_map (renamed r) (Some (truth b)) ≡ Some (truth b)
  told_plain b = ap (λ v. Some v) (truth_plain b)

  divided_plain : (f : ℤ → ℤ → Option Value) (a b : ℤ) → option_map (renamed r) (f a b) ≡ f a b → option_map (renamed r) (divided f a b) ≡ divided f a b
  divided_plain f a b h = if_plain (is_zero b) None (f a b) refl h

  exact_plain : (a b : ℤ) → option_map (renamed r) (exact a b) ≡ exact a b
  exact_plain a b = if_plain (is_zero (floor_rest a b)) (ranged (floor_quotient a b)) None (ranged_plain (floor_quotient a b)) refl

  shifted_plain : (a b : ℤ) → option_map (renamed r) (shifted a b) ≡ shifted a b
  shifted_plain a (pos n) = ranged_plain (a *ℤ pos (2 ^ n))
  shifted_plain a (negsuc n) = ranged_plain (int_shr a (suc n))

  abbrev IsPlain : ℤ → ℤ → Row → Type 0
  IsPlain a b row = option_map (renamed r) (row.answer a b) ≡ row.answer a b

  found_plain : (test : Row → Bool) (a b : ℤ) (rs : List Row) → AllByRecursion (IsPlain a b) rs
      → option_map (renamed r) (option_and_then (λ (row : Row). row.answer a b) (find test rs)) ≡ option_and_then (λ (row : Row). row.answer a b) (find test rs)
  found_plain test a b [] h = refl
  found_plain test a b (row ∷ rs) h =
      let answer : Row → Option Value = λ k. k.answer a b in
      elim (test row) as (λ is. option_map (renamed r) (option_and_then answer (cond is (Some row) (find test rs))) ≡ option_and_then answer (cond is (Some row) (find test rs))) [
        | true ↦ h.0
        | false ↦ found_plain test a b rs h.1
      ]

  -- the rows from the last on
  bits_plain : (a b : ℤ) → AllByRecursion (IsPlain a b) (drop 12 arithmetic_table.rows)
  bits_plain a b = (ranged_plain (int_bit_and w32 a b), (ranged_plain (int_bit_or w32 a b), (ranged_plain (int_bit_xor w32 a b), (shifted_plain a b, tt))))

  floors_plain : (a b : ℤ) → AllByRecursion (IsPlain a b) (drop 10 arithmetic_table.rows)
  floors_plain a b = (
    divided_plain (λ x y. ranged (floor_rest x y)) a b (ranged_plain (floor_rest a b)),
    (divided_plain (λ x y. ranged (floor_quotient x y)) a b (ranged_plain (floor_quotient a b)), bits_plain a b),
  )

  equals_plain : (a b : ℤ) → AllByRecursion (IsPlain a b) (drop 6 arithmetic_table.rows)
  equals_plain a b =
      (told_plain (is_zero (a -ℤ b)), (told_plain (not (is_zero (a -ℤ b))), (ranged_plain (a *ℤ b), (divided_plain exact a b (exact_plain a b), floors_plain a b))))

  orders_plain : (a b : ℤ) → AllByRecursion (IsPlain a b) (drop 2 arithmetic_table.rows)
  orders_plain a b = (told_plain (is_less a b), (told_plain (is_less b a), (told_plain (not (is_less b a)), (told_plain (not (is_less a b)), equals_plain a b))))

  pub arithmetic_plain : (n : ℕ) (a b : ℤ) → option_map (renamed r) (arithmetic n a b) ≡ arithmetic n a b
  arithmetic_plain n a b =
      found_plain (λ (row : Row). row.number == n) a b arithmetic_table.rows (ranged_plain (a +ℤ b), (ranged_plain (a -ℤ b), orders_plain a b))

  -- ---- effects

  if_renamed : (test : Bool) (a b c d : Effect) → a ≡ renamed_effect c → b ≡ renamed_effect d → (if test then a else b) ≡ renamed_effect (if test then c else d)
  if_renamed true a b c d h g = h
  if_renamed false a b c d h g = g

  gives_renamed : (w : Reached) (o : Option Value) → gives (renamed_reached r w) (option_map (renamed r) o) ≡ renamed_effect (gives w o)
  gives_renamed w None = refl
  gives_renamed w (Some v) = refl

  gives_plain : (w : Reached) (o : Option Value) → option_map (renamed r) o ≡ o → gives (renamed_reached r w) o ≡ renamed_effect (gives w o)
  gives_plain w o h = ap (gives (renamed_reached r w)) (sym h) ∙ gives_renamed w o

  with_text_renamed : (w : Reached) (o : Option (List ℕ)) (go goes : List ℕ → Effect) → ((text : List ℕ) → go text ≡ renamed_effect (goes text))
      → with_text (renamed_reached r w) o go ≡ renamed_effect (with_text w o goes)
  with_text_renamed w None go goes h = refl
  with_text_renamed w (Some text) go goes h = h text

  -- an object is made, of parts that are seen of the world
  abbrev made_of : Reached → Objects → ℕ → ℕ → ℕ → Effect
  made_of w new n count size =
      if nat_le (n + size) word_limit then done (record w { objects = new }) (Object count) else stops w (ObjectsFull n)

  makes_renamed : (w : Reached) (b : BodyTree) → makes (renamed_reached r w) (renamed_body r b) ≡ renamed_effect (makes w b)
  makes_renamed w b =
      let other : Reached = renamed_reached r w in
      let bodies : List BodyTree = map (renamed_body r) w.objects.bodies in
      let size : ℕ = cost (renamed_body r b) in
      let n : ℕ = words_of w.objects.bodies in
      let new : Objects = renamed_objects r (with_body w.objects b) in
      ap (λ s. made_of other s (words_of bodies) (length bodies) size) (sym (with_body_renamed r w.objects b))
      ∙ ap (λ k. made_of other new k (length bodies) size) (words_renamed r w.objects.bodies)
      ∙ ap (λ k. made_of other new n k size) (length_renamed r w.objects.bodies)
      ∙ ap (λ k. made_of other new n (length w.objects.bodies) k) (cost_renamed r b)
      ∙ if_renamed (nat_le (n + cost b) word_limit) (done (renamed_reached r (record w { objects = with_body w.objects b })) (Object (length w.objects.bodies)))
      (stops other (ObjectsFull n)) (done (record w { objects = with_body w.objects b }) (Object (length w.objects.bodies))) (stops w (ObjectsFull n)) refl refl

  -- ---- items

  symbol_text_renamed : (s : Objects) (v : Value) → symbol_text (renamed_objects r s) (renamed r v) ≡ symbol_text s v
  symbol_text_renamed s (Symbol n) = refl
  symbol_text_renamed s _ = refl

  or_renamed : (o : Option (List Value)) (p : Option (List ℕ))
      → option_or (option_map (map (renamed r)) o) (option_map (map number_value) p) ≡ option_map (map (renamed r)) (option_or o (option_map (map number_value) p))
  or_renamed None None = refl
  or_renamed None (Some l) = ap (λ k. Some k) (sym (map_numbers r l))
  or_renamed (Some l) p = refl

  readable_renamed : (s : Objects) (v : Value) → readable (renamed_objects r s) (renamed r v) ≡ option_map (map (renamed r)) (readable s v)
  readable_renamed s v =
      ap (λ o. option_or o (option_map (map number_value) (symbol_text (renamed_objects r s) (renamed r v)))) (items_at_renamed r s v)
      ∙ ap (λ o. option_or (option_map (map (renamed r)) (items_at s v)) (option_map (map number_value) o)) (symbol_text_renamed s v)
      ∙ or_renamed (items_at s v) (symbol_text s v)

  readable_bytes_same : (s : Objects) (v : Value) → readable_bytes (renamed_objects r s) (renamed r v) ≡ readable_bytes s v
  readable_bytes_same s v =
      ap (λ o. option_or o (symbol_text (renamed_objects r s) (renamed r v))) (seen_same r bytes_of bytes_of (bytes_renamed r) s v)
      ∙ ap (λ o. option_or (option_and_then bytes_of (body_at s v)) o) (symbol_text_renamed s v)

  at_place_renamed : (items : List Value) (a : Value) → at_place (map (renamed r) items) (renamed r a) ≡ option_map (renamed r) (at_place items a)
  at_place_renamed items (Small (pos (suc i))) = get_map (renamed r) items i
  at_place_renamed items _ = refl

  at_place_same : (items : List ℕ) (a : Value) → at_place items (renamed r a) ≡ at_place items a
  at_place_same items (Small n) = refl
  at_place_same items _ = refl

  put_done_renamed : (w : Reached) (v answer : Value) (put : Result BodyTree ObjectFault)
      → put_done (renamed_reached r w) (renamed r v) (renamed r answer) (renamed_result r put) ≡ renamed_effect (put_done w v answer put)
  put_done_renamed w v answer (Ok b) = ap (λ s. done (record w { objects = s }) (renamed r answer)) (sym (with_body_at_renamed r w.objects v b))
  put_done_renamed w v answer (Err told) = refl

  puts_renamed : (w : Reached) (v : Value) (i : ℕ) (to answer : Value) → puts (renamed_reached r w) (renamed r v) i (renamed r to) (renamed r answer) ≡ renamed_effect (puts w v i to answer)
  puts_renamed w v i to answer =
      ap (put_done (renamed_reached r w) (renamed r v) (renamed r answer)) (item_put_at_renamed r w.objects v i to) ∙ put_done_renamed w v answer (put_with (λ b. item_put b i to) w.objects v)

  puts_character_renamed : (w : Reached) (v : Value) (i c : ℕ) → puts_character (renamed_reached r w) (renamed r v) i c ≡ renamed_effect (puts_character w v i c)
  puts_character_renamed w v i c =
      ap (λ o. option_map_or (λ items. puts (renamed_reached r w) (renamed r v) i (Small (pos c)) (Character c)) o (fails (renamed_reached r w))) (seen_same r bytes_of bytes_of (bytes_renamed r) w.objects v)
      ∙ of (option_and_then bytes_of (body_at w.objects v))
    where
      of : (o : Option (List ℕ)) → option_map_or (λ items. puts (renamed_reached r w) (renamed r v) i (Small (pos c)) (Character c)) o (fails (renamed_reached r w))
          ≡ renamed_effect (option_map_or (λ items. puts w v i (Small (pos c)) (Character c)) o (fails w))
      of None = refl
      of (Some items) = puts_renamed w v i (Small (pos c)) (Character c)

  writes_renamed : (w : Reached) (v : Value) (text : List ℕ) → writes (renamed_reached r w) (renamed r v) text ≡ renamed_effect (writes w v text)
  writes_renamed w v text =
      if_renamed (nat_le (length w.transcript + length text) transcript_limit) (done (renamed_reached r (record w { transcript = w.transcript ++ text })) (renamed r v))
      (stops (renamed_reached r w) TranscriptFull) (done (record w { transcript = w.transcript ++ text }) v) (stops w TranscriptFull) refl refl

  names_renamed : (w : Reached) (text : List ℕ) → names (renamed_reached r w) text ≡ renamed_effect (names w text)
  names_renamed w text = refl

  -- ---- rows without classes

  found_renamed : {R : Type 0} (test : R → Bool) (effect effects : R → Effect) (none nones : Effect) (rs : List R) → AllByRecursion (λ row. effect row ≡ renamed_effect (effects row)) rs
      → none ≡ renamed_effect nones → option_map_or effect (find test rs) none ≡ renamed_effect (option_map_or effects (find test rs) nones)
  found_renamed test effect effects none nones [] h g = g
  found_renamed test effect effects none nones (row ∷ rs) h g =
      elim (test row) as (λ is. option_map_or effect (cond is (Some row) (find test rs)) none ≡ renamed_effect (option_map_or effects (cond is (Some row) (find test rs)) nones)) [
        | true ↦ h.0
        | false ↦ found_renamed test effect effects none nones rs h.1 g
      ]

  two_numbers_renamed : (n : ℕ) (w : Reached) (a b : Value) → two_numbers n (renamed_reached r w) (renamed r a) (renamed r b) ≡ renamed_effect (two_numbers n w a b)
  two_numbers_renamed n w (Small a) (Small b) = gives_plain w (arithmetic n a b) (arithmetic_plain n a b)
  two_numbers_renamed n w _ _ = refl

  number_of_character_renamed : (w : Reached) (v : Value) → number_of_character (renamed_reached r w) (renamed r v) ≡ renamed_effect (number_of_character w v)
  number_of_character_renamed w (Character c) = refl
  number_of_character_renamed w _ = refl

  character_of_renamed : (w : Reached) (a : Value) → character_of (renamed_reached r w) (renamed r a) ≡ renamed_effect (character_of w a)
  character_of_renamed w (Small (pos n)) = if_renamed (nat_le n 255) (done (renamed_reached r w) (Character n)) (fails (renamed_reached r w)) (done w (Character n)) (fails w) refl refl
  character_of_renamed w _ = refl

  put_at_renamed : (w : Reached) (v place to : Value) → put_at (renamed_reached r w) (renamed r v) (renamed r place) (renamed r to) ≡ renamed_effect (put_at w v place to)
  put_at_renamed w v (Small (pos i)) to = puts_renamed w v i to to
  put_at_renamed w v _ to = refl

  put_character_at_renamed : (w : Reached) (v place to : Value) → put_character_at (renamed_reached r w) (renamed r v) (renamed r place) (renamed r to) ≡ renamed_effect (put_character_at w v place to)
  put_character_at_renamed w v (Small (pos i)) (Character c) = puts_character_renamed w v i c
  put_character_at_renamed w v _ to = refl

  size_row : (w : Reached) (v : Value) → gives (renamed_reached r w) (option_and_then (λ items. ranged (pos (length items))) (readable (renamed_objects r w.objects) (renamed r v)))
      ≡ renamed_effect (gives w (option_and_then (λ items. ranged (pos (length items))) (readable w.objects v)))
  size_row w v =
      let size : List Value → Option Value = λ items. ranged (pos (length items)) in
      let sizes : (items : List Value) → size (map (renamed r) items) ≡ option_map (renamed r) (size items) = λ items. ap (λ n. ranged (pos n)) (length-map items (renamed r)) ∙ sym (ranged_plain (pos (length items))) in
      ap (λ o. gives (renamed_reached r w) (option_and_then size o)) (readable_renamed w.objects v)
      ∙ ap (gives (renamed_reached r w)) (and_then_map (map (renamed r)) (renamed r) size size sizes (readable w.objects v))
      ∙ gives_renamed w (option_and_then size (readable w.objects v))

  item_row : (w : Reached) (v a : Value) → gives (renamed_reached r w) (option_and_then (λ items. at_place items (renamed r a)) (readable (renamed_objects r w.objects) (renamed r v)))
      ≡ renamed_effect (gives w (option_and_then (λ items. at_place items a) (readable w.objects v)))
  item_row w v a =
      let of : List Value → Option Value = λ items. at_place items (renamed r a) in
      let ofs : List Value → Option Value = λ items. at_place items a in
      ap (λ o. gives (renamed_reached r w) (option_and_then of o)) (readable_renamed w.objects v)
      ∙ ap (gives (renamed_reached r w)) (and_then_map (map (renamed r)) (renamed r) of ofs (λ items. at_place_renamed items a) (readable w.objects v))
      ∙ gives_renamed w (option_and_then ofs (readable w.objects v))

  characters_plain : (o : Option ℕ) → option_map (renamed r) (option_map Character o) ≡ option_map Character o
  characters_plain None = refl
  characters_plain (Some c) = refl

  byte_row : (w : Reached) (v a : Value)
      → gives (renamed_reached r w) (option_map Character (option_and_then (λ items. at_place items (renamed r a)) (readable_bytes (renamed_objects r w.objects) (renamed r v))))
      ≡ renamed_effect (gives w (option_map Character (option_and_then (λ items. at_place items a) (readable_bytes w.objects v))))
  byte_row w v a =
      let of : List ℕ → Option ℕ = λ items. at_place items (renamed r a) in
      let ofs : List ℕ → Option ℕ = λ items. at_place items a in
      ap (λ o. gives (renamed_reached r w) (option_map Character (option_and_then of o))) (readable_bytes_same w.objects v)
      ∙ ap (λ (f : List ℕ → Option ℕ). gives (renamed_reached r w) (option_map Character (option_and_then f (readable_bytes w.objects v)))) (λ i items. at_place_same items a i)
      ∙ gives_plain w (option_map Character (option_and_then ofs (readable_bytes w.objects v))) (characters_plain (option_and_then ofs (readable_bytes w.objects v)))

  module _ (injective : (c d : ℕ) → r c ≡ r d → c ≡ d) where
    pub number_same : (c d : ℕ) → (r c == r d) ≡ (c == d)
    number_same c d = same_from_decides (r c == r d) (c == d) ((λ h. injective c d ((Decides-eqb (r c) (r d)).0 h)), (λ e. (Decides-eqb (r c) (r d)).1 (ap r e))) (Decides-eqb c d)

    pub same_renamed : (a b : Value) → same (renamed r a) (renamed r b) ≡ same a b
    same_renamed (ClassRef c s) (ClassRef d on) = ap (λ b. b && same_side s on) (number_same c d)
    same_renamed (ClassRef c s) _ = refl
    same_renamed _ (ClassRef d on) = refl
    same_renamed _ _ = refl

    same_row : (w : Reached) (a b : Value) → done (renamed_reached r w) (truth (same (renamed r a) (renamed r b))) ≡ renamed_effect (done w (truth (same a b)))
    same_row w a b = ap (λ b. done (renamed_reached r w) (truth b)) (same_renamed a b) ∙ ap (done (renamed_reached r w)) (sym (truth_plain (same a b)))

module _ (t u : Table) (r : ℕ → ℕ) (is : IsRenumbering t u r) where
  text_bytes_same : (s : Objects) (v : Value) → text_bytes u (renamed_objects r s) (renamed r v) ≡ text_bytes t s v
  text_bytes_same s v =
      ap (λ o. option_or o (symbol_text (renamed_objects r s) (renamed r v))) (seen_same r (string_bytes u) (string_bytes t) (string_bytes_same t u r is) s v)
      ∙ ap (λ o. option_or (option_and_then (string_bytes t) (body_at s v)) o) (symbol_text_renamed r s v)

  prints_renamed : (w : Reached) (v : Value) → prints u (renamed_reached r w) (renamed r v) ≡ renamed_effect r (prints t w v)
  prints_renamed w v =
      ap (λ text. makes (renamed_reached r w) (string_of u text)) (printed_same t u r is w.objects v)
      ∙ ap (makes (renamed_reached r w)) (string_of_renamed t u r is (printed t w.objects v))
      ∙ makes_renamed r w (string_of t (printed t w.objects v))

  -- ---- new objects

  of_class_renamed : (w : Reached) (v : Value) (go goes : ℕ → Effect) → ((c : ℕ) → go (r c) ≡ renamed_effect r (goes c))
      → of_class u (renamed_reached r w) (renamed r v) go ≡ renamed_effect r (of_class t w v goes)
  of_class_renamed w (ClassRef c side.Instance) go goes h =
      ap (λ can. if can then go (r c) else fails (renamed_reached r w)) (can_be_new_same t u r is c)
      ∙ if_renamed r (can_be_new t c) (go (r c)) (fails (renamed_reached r w)) (goes c) (fails w) (h c) refl
  of_class_renamed w _ go goes h = refl

  new_plain_renamed : (w : Reached) (c : ℕ) (k : Kind) → new_plain u (renamed_reached r w) (r c) k ≡ renamed_effect r (new_plain t w c k)
  new_plain_renamed w c kind.Plain =
      ap (λ n. makes (renamed_reached r w) (pointers (r c) (replicate n Nil) [])) (variables_same t u r is c)
      ∙ ap (λ l. makes (renamed_reached r w) (pointers (r c) l [])) (sym (map_replicate (renamed r) (variables_of t c) Nil))
      ∙ makes_renamed r w (pointers c (replicate (variables_of t c) Nil) [])
  new_plain_renamed w c _ = refl

  new_indexed_renamed : (w : Reached) (c : ℕ) (k : Kind) (n : ℕ) → new_indexed u (renamed_reached r w) (r c) k n ≡ renamed_effect r (new_indexed t w c k n)
  new_indexed_renamed w c kind.Plain n = refl
  new_indexed_renamed w c kind.Pointers n =
      ap (λ m. makes (renamed_reached r w) (pointers (r c) (replicate m Nil) (replicate n Nil))) (variables_same t u r is c)
      ∙ ap (λ l. makes (renamed_reached r w) (pointers (r c) l (replicate n Nil))) (sym (map_replicate (renamed r) (variables_of t c) Nil))
      ∙ ap (λ l. makes (renamed_reached r w) (pointers (r c) (map (renamed r) (replicate (variables_of t c) Nil)) l)) (sym (map_replicate (renamed r) n Nil))
      ∙ makes_renamed r w (blank c body.Pointers (variables_of t c) n)
  new_indexed_renamed w c kind.Bytes n = makes_renamed r w (blank c body.Bytes 0 n)
  new_indexed_renamed w c kind.Words n = makes_renamed r w (blank c body.Words 0 n)

  new_with_renamed : (w : Reached) (v a : Value) → new_with u (renamed_reached r w) (renamed r v) (renamed r a) ≡ renamed_effect r (new_with t w v a)
  new_with_renamed w v (Small (pos n)) =
      of_class_renamed w v (λ c. new_indexed u (renamed_reached r w) c (kind_of_class u c) n) (λ c. new_indexed t w c (kind_of_class t c) n)
      (λ c. ap (λ k. new_indexed u (renamed_reached r w) (r c) k n) (kind_of_class_same t u r is c) ∙ new_indexed_renamed w c (kind_of_class t c) n)
  new_with_renamed w v _ = refl

  -- ---- the table

  new_row : (w : Reached) (v : Value) → of_class u (renamed_reached r w) (renamed r v) (λ c. new_plain u (renamed_reached r w) c (kind_of_class u c))
      ≡ renamed_effect r (of_class t w v (λ c. new_plain t w c (kind_of_class t c)))
  new_row w v =
      of_class_renamed w v (λ c. new_plain u (renamed_reached r w) c (kind_of_class u c)) (λ c. new_plain t w c (kind_of_class t c))
      (λ c. ap (new_plain u (renamed_reached r w) (r c)) (kind_of_class_same t u r is c) ∙ new_plain_renamed w c (kind_of_class t c))

  class_row : (w : Reached) (v : Value) → done (renamed_reached r w) (class_of u (renamed_objects r w.objects) (renamed r v)) ≡ renamed_effect r (done w (class_of t w.objects v))
  class_row w v = ap (done (renamed_reached r w)) (class_of_renamed t u r is w.objects v)

  symbol_row : (w : Reached) (v : Value) → with_text (renamed_reached r w) (text_bytes u (renamed_objects r w.objects) (renamed r v)) (names (renamed_reached r w))
      ≡ renamed_effect r (with_text w (text_bytes t w.objects v) (names w))
  symbol_row w v =
      ap (λ o. with_text (renamed_reached r w) o (names (renamed_reached r w))) (text_bytes_same w.objects v)
      ∙ with_text_renamed r w (text_bytes t w.objects v) (names (renamed_reached r w)) (names w) (names_renamed r w)

  alone_renamed : (n : ℕ) (v : Value) (w : Reached) → primitive u n (renamed r v) [] (renamed_reached r w) ≡ renamed_effect r (primitive t n v [] w)
  alone_renamed n v w =
      found_renamed r (λ (row : Alone). row.number == n) (λ (row : Alone). row.effect u (renamed_reached r w) (renamed r v)) (λ (row : Alone). row.effect t w v)
      (fails (renamed_reached r w)) (fails w) rows_alone
      (size_row r w v, (new_row w v, (class_row w v, (number_of_character_renamed r w v, (symbol_row w v, (prints_renamed w v, tt))))))
      refl

  told_row : (w : Reached) (v a : Value) → with_text (renamed_reached r w) (text_bytes u (renamed_objects r w.objects) (renamed r a)) (writes (renamed_reached r w) (renamed r v))
      ≡ renamed_effect r (with_text w (text_bytes t w.objects a) (writes w v))
  told_row w v a =
      ap (λ o. with_text (renamed_reached r w) o (writes (renamed_reached r w) (renamed r v))) (text_bytes_same w.objects a)
      ∙ with_text_renamed r w (text_bytes t w.objects a) (writes (renamed_reached r w) (renamed r v)) (writes w v) (writes_renamed r w v)

  error_row : (w : Reached) (a : Value) → with_text (renamed_reached r w) (text_bytes u (renamed_objects r w.objects) (renamed r a)) (λ text. stops (renamed_reached r w) (Error text))
      ≡ renamed_effect r (with_text w (text_bytes t w.objects a) (λ text. stops w (Error text)))
  error_row w a =
      ap (λ o. with_text (renamed_reached r w) o (λ text. stops (renamed_reached r w) (Error text))) (text_bytes_same w.objects a)
      ∙ with_text_renamed r w (text_bytes t w.objects a) (λ text. stops (renamed_reached r w) (Error text)) (λ text. stops w (Error text)) (λ text. refl)

  with_one_renamed : (n : ℕ) (v a : Value) (w : Reached) → primitive u n (renamed r v) (renamed r a ∷ []) (renamed_reached r w) ≡ renamed_effect r (primitive t n v (a ∷ []) w)
  with_one_renamed n v a w =
      found_renamed r (λ (row : WithOne). row.number == n) (λ (row : WithOne). row.effect u (renamed_reached r w) (renamed r v) (renamed r a)) (λ (row : WithOne). row.effect t w v a)
      (two_numbers n (renamed_reached r w) (renamed r v) (renamed r a)) (two_numbers n w v a) rows_with_one
      (item_row r w v a, (byte_row r w v a, (new_with_renamed w v a, (same_row r is.injective w v a, (told_row w v a, (error_row w a, (character_of_renamed r w a, tt)))))))
      (two_numbers_renamed r n w v a)

  with_two_renamed : (n : ℕ) (v a b : Value) (w : Reached) → primitive u n (renamed r v) (renamed r a ∷ renamed r b ∷ []) (renamed_reached r w) ≡ renamed_effect r (primitive t n v (a ∷ b ∷ []) w)
  with_two_renamed n v a b w =
      found_renamed r (λ (row : WithTwo). row.number == n) (λ (row : WithTwo). row.effect u (renamed_reached r w) (renamed r v) (renamed r a) (renamed r b)) (λ (row : WithTwo). row.effect t w v a b)
      (fails (renamed_reached r w)) (fails w) rows_with_two (put_at_renamed r w v a b, (put_character_at_renamed r w v a b, tt)) refl

  pub primitive_renamed : (n : ℕ) (v : Value) (arguments : List Value) (w : Reached)
      → primitive u n (renamed r v) (map (renamed r) arguments) (renamed_reached r w) ≡ renamed_effect r (primitive t n v arguments w)
  primitive_renamed n v [] w = alone_renamed n v w
  primitive_renamed n v (a ∷ []) w = with_one_renamed n v a w
  primitive_renamed n v (a ∷ b ∷ []) w = with_two_renamed n v a b w
  primitive_renamed n v (a ∷ b ∷ c ∷ rest) w = refl
