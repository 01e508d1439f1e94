-- No primitive looks at the starting place of a block.
use Rattle.std.proofs.Common.{◌≡◌, ◌∙◌, ◌+◌, ◌++◌, ◌==◌, ℕ, pos, Bool, true, false, cond, refl, sym, ap, List, [], ◌∷◌, codes, length, map, replicate, Option, Some, None, Result, Ok, Err, find, unwrap_or, option_and_then, slice_get, nat_le, if◌then◌else◌}
use Rattle.std.specs.List.{AllByRecursion}
use Rattle.std.specs.Option.{option_map, option_map_or, option_or}
use Rattle.s80_base.specs.declared.names.Side.TheVariants as side
use Rattle.s80_form.specs.declared.definition.Kind.{Kind}
use Rattle.s80_form.specs.declared.definition.Kind.TheVariants as kind
use Rattle.s80_class.specs.Table.{Table}
use Rattle.s80_object.specs.Body.{BodyTree, pointers, block, blank, bytes_of, cost, items_of, words_of, word_limit}
use Rattle.s80_object.specs.Objects.{State as Objects, body_at, item_put, items_at, put_with, with_body}
use Rattle.s80_object.specs.declared.value.BodyKind.TheVariants as body
use Rattle.s80_object.specs.declared.value.ObjectFault.{ObjectFault}
use Rattle.s80_object.specs.declared.value.Value.{Value}
use Rattle.s80_object.specs.declared.value.Value.TheVariants.{Small, Character, Nil, Symbol, ClassRef, Object}
use Rattle.s80_prims.specs.declared.stop.Stop.TheVariants.{Error, ObjectsFull, TranscriptFull}
use Rattle.s80_prims.specs.Arithmetic.{arithmetic, ranged}
use Rattle.s80_prims.specs.Classes.{can_be_new, class_of, is_kind_of, kind_of_class, variables_of}
use Rattle.s80_prims.specs.Primitives.{Alone, Effect, WithOne, WithTwo, World as Reached, at_place, character_of, done, fails, gives, makes, names, new_indexed, new_plain, new_with, number_of_character, of_class, primitive, prints, put_at, put_character_at, put_done, puts, puts_character, readable, readable_bytes, rows_alone, rows_with_one, rows_with_two, stops, string_bytes, string_of, symbol_text, text_bytes, transcript_limit, two_numbers, with_text, writes}
use Rattle.s80_prims.specs.Printed.{array_text, body_text, element, is_array, plain, plain_body, printed, shortened, whole}
use Rattle.s80_meaning.specs.Image.{placed, image, image_reached}
use Rattle.s80_meaning.proofs.NaturalObjects.{bytes_of_placed, class_number_placed, class_of_image, cost_placed, flat_map_same, get_map, item_put_image, items_at_image, items_of_placed, length_image, map_or_same, placed_result, seen_image, string_bytes_placed, with_body_at_image, with_body_image, words_image}

module _ (at : Value → ℕ → ℕ) where
  -- ---- the printed form

  plain_body_placed : (t : Table) (b : BodyTree) → plain_body t (placed at b) ≡ plain_body t b
  plain_body_placed t (block whole b count) = refl
  plain_body_placed t _ = refl

  is_array_placed : (t : Table) (b : BodyTree) → is_array t (placed at b) ≡ is_array t b
  is_array_placed t b = ap (λ o. option_map_or (λ c. is_kind_of t c (codes "Array")) o false) (class_number_placed at b)

  plain_image : (t : Table) (s : Objects) (v : Value) → plain t (image at s) v ≡ plain t s v
  plain_image t s (Object n) =
      ap (λ o. option_map_or (plain_body t) o []) (get_map (placed at) s.bodies n)
      ∙ map_or_same (placed at) (plain_body t) (plain_body t) (plain_body_placed t) (slice_get s.bodies n) []
  plain_image t s _ = refl

  array_text_image : (t : Table) (s : Objects) (items : List Value) → array_text t (image at s) items ≡ array_text t s items
  array_text_image t s items =
      ap (λ text. 40 ∷ text ++ 41 ∷ []) (flat_map_same (element t (image at s)) (element t s) (λ v. ap (λ text. text ++ 32 ∷ []) (plain_image t s v)) items)

  body_text_image : (t : Table) (s : Objects) (b : BodyTree) → body_text t (image at s) (placed at b) ≡ body_text t s b
  body_text_image t s b =
      ap (λ is. if is then array_text t (image at s) (unwrap_or (items_of (placed at b)) []) else plain_body t (placed at b)) (is_array_placed t b)
      ∙ ap (λ o. if is_array t b then array_text t (image at s) (unwrap_or o []) else plain_body t (placed at b)) (items_of_placed at b)
      ∙ ap (λ text. if is_array t b then text else plain_body t (placed at b)) (array_text_image t s (unwrap_or (items_of b) []))
      ∙ ap (λ text. if is_array t b then array_text t s (unwrap_or (items_of b) []) else text) (plain_body_placed t b)

  whole_image : (t : Table) (s : Objects) (v : Value) → whole t (image at s) v ≡ whole t s v
  whole_image t s (Object n) =
      ap (λ o. option_map_or (body_text t (image at s)) o []) (get_map (placed at) s.bodies n)
      ∙ map_or_same (placed at) (body_text t (image at s)) (body_text t s) (body_text_image t s) (slice_get s.bodies n) []
  whole_image t s _ = refl

  pub printed_image : (t : Table) (s : Objects) (v : Value) → printed t (image at s) v ≡ printed t s v
  printed_image t s v = ap shortened (whole_image t s v)

  -- ---- effects

  abbrev pub image_effect : Effect → Effect
  image_effect e = record { applied = e.applied; world = image_reached at e.world }

  if_image : (test : Bool) (a b c d : Effect) → a ≡ image_effect c → b ≡ image_effect d → (if test then a else b) ≡ image_effect (if test then c else d)
  if_image true a b c d h g = h
  if_image false a b c d h g = g

  gives_image : (w : Reached) (o : Option Value) → gives (image_reached at w) o ≡ image_effect (gives w o)
  gives_image w None = refl
  gives_image w (Some v) = refl

  with_text_image : (w : Reached) (o : Option (List ℕ)) (go goes : List ℕ → Effect) → ((text : List ℕ) → go text ≡ image_effect (goes text))
      → with_text (image_reached at w) o go ≡ image_effect (with_text w o goes)
  with_text_image w None go goes h = refl
  with_text_image w (Some text) go goes h = h text

  -- an object is made, of parts that are seen of the world
  abbrev made_of : Reached → Objects → ℕ → ℕ → ℕ → Effect
  made_of w new n count size =
      if nat_le (n + size) word_limit then done (record w { objects = new }) (Object count) else stops w (ObjectsFull n)

  pub makes_image : (w : Reached) (b : BodyTree) → makes (image_reached at w) (placed at b) ≡ image_effect (makes w b)
  makes_image w b =
      let bodies : List BodyTree = map (placed at) w.objects.bodies in
      let size : ℕ = cost (placed at b) in
      let n : ℕ = words_of w.objects.bodies in
      let new : Objects = image at (with_body w.objects b) in
      ap (λ s. made_of (image_reached at w) s (words_of bodies) (length bodies) size) (sym (with_body_image at w.objects b))
      ∙ ap (λ k. made_of (image_reached at w) new k (length bodies) size) (words_image at w.objects.bodies)
      ∙ ap (λ k. made_of (image_reached at w) new n k size) (length_image at w.objects.bodies)
      ∙ ap (λ k. made_of (image_reached at w) new n (length w.objects.bodies) k) (cost_placed at b)
      ∙ if_image (nat_le (n + cost b) word_limit) (done (image_reached at (record w { objects = with_body w.objects b })) (Object (length w.objects.bodies)))
      (stops (image_reached at w) (ObjectsFull n)) (done (record w { objects = with_body w.objects b }) (Object (length w.objects.bodies))) (stops w (ObjectsFull n)) refl refl

  -- ---- items

  symbol_text_image : (s : Objects) (v : Value) → symbol_text (image at s) v ≡ symbol_text s v
  symbol_text_image s (Symbol n) = refl
  symbol_text_image s _ = refl

  pub readable_image : (s : Objects) (v : Value) → readable (image at s) v ≡ readable s v
  readable_image s v =
      ap (λ o. option_or o (option_map (map (λ n. Small (pos n))) (symbol_text (image at s) v))) (items_at_image at s v)
      ∙ ap (λ o. option_or (items_at s v) (option_map (map (λ n. Small (pos n))) o)) (symbol_text_image s v)

  pub readable_bytes_image : (s : Objects) (v : Value) → readable_bytes (image at s) v ≡ readable_bytes s v
  readable_bytes_image s v =
      ap (λ o. option_or o (symbol_text (image at s) v)) (seen_image at bytes_of (bytes_of_placed at) s v)
      ∙ ap (λ o. option_or (option_and_then bytes_of (body_at s v)) o) (symbol_text_image s v)

  pub text_bytes_image : (t : Table) (s : Objects) (v : Value) → text_bytes t (image at s) v ≡ text_bytes t s v
  text_bytes_image t s v =
      ap (λ o. option_or o (symbol_text (image at s) v)) (seen_image at (string_bytes t) (string_bytes_placed at t) s v)
      ∙ ap (λ o. option_or (option_and_then (string_bytes t) (body_at s v)) o) (symbol_text_image s v)

  put_done_image : (w : Reached) (r answer : Value) (put : Result BodyTree ObjectFault) → put_done (image_reached at w) r answer (placed_result at put) ≡ image_effect (put_done w r answer put)
  put_done_image w r answer (Ok b) = ap (λ s. done (record w { objects = s }) answer) (sym (with_body_at_image at w.objects r b))
  put_done_image w r answer (Err told) = refl

  puts_image : (w : Reached) (r : Value) (i : ℕ) (to answer : Value) → puts (image_reached at w) r i to answer ≡ image_effect (puts w r i to answer)
  puts_image w r i to answer =
      ap (put_done (image_reached at w) r answer) (item_put_image at w.objects r i to) ∙ put_done_image w r answer (put_with (λ b. item_put b i to) w.objects r)

  puts_character_image : (w : Reached) (r : Value) (i c : ℕ) → puts_character (image_reached at w) r i c ≡ image_effect (puts_character w r i c)
  puts_character_image w r i c =
      ap (λ o. option_map_or (λ items. puts (image_reached at w) r i (Small (pos c)) (Character c)) o (fails (image_reached at w))) (seen_image at bytes_of (bytes_of_placed at) w.objects r)
      ∙ of (option_and_then bytes_of (body_at w.objects r))
    where
      of : (o : Option (List ℕ)) → option_map_or (λ items. puts (image_reached at w) r i (Small (pos c)) (Character c)) o (fails (image_reached at w))
          ≡ image_effect (option_map_or (λ items. puts w r i (Small (pos c)) (Character c)) o (fails w))
      of None = refl
      of (Some items) = puts_image w r i (Small (pos c)) (Character c)

  writes_image : (w : Reached) (r : Value) (text : List ℕ) → writes (image_reached at w) r text ≡ image_effect (writes w r text)
  writes_image w r text =
      if_image (nat_le (length w.transcript + length text) transcript_limit) (done (image_reached at (record w { transcript = w.transcript ++ text })) r)
      (stops (image_reached at w) TranscriptFull) (done (record w { transcript = w.transcript ++ text }) r) (stops w TranscriptFull) refl refl

  names_image : (w : Reached) (text : List ℕ) → names (image_reached at w) text ≡ image_effect (names w text)
  names_image w text = refl

  prints_image : (t : Table) (w : Reached) (v : Value) → prints t (image_reached at w) v ≡ image_effect (prints t w v)
  prints_image t w v =
      ap (λ text. makes (image_reached at w) (string_of t text)) (printed_image t w.objects v) ∙ makes_image w (string_of t (printed t w.objects v))

  -- ---- new objects

  of_class_image : (t : Table) (w : Reached) (r : Value) (go goes : ℕ → Effect) → ((c : ℕ) → go c ≡ image_effect (goes c))
      → of_class t (image_reached at w) r go ≡ image_effect (of_class t w r goes)
  of_class_image t w (ClassRef c side.Instance) go goes h = if_image (can_be_new t c) (go c) (fails (image_reached at w)) (goes c) (fails w) (h c) refl
  of_class_image t w _ go goes h = refl

  new_plain_image : (t : Table) (w : Reached) (c : ℕ) (k : Kind) → new_plain t (image_reached at w) c k ≡ image_effect (new_plain t w c k)
  new_plain_image t w c kind.Plain = makes_image w (pointers c (replicate (variables_of t c) Nil) [])
  new_plain_image t w c _ = refl

  new_indexed_image : (t : Table) (w : Reached) (c : ℕ) (k : Kind) (n : ℕ) → new_indexed t (image_reached at w) c k n ≡ image_effect (new_indexed t w c k n)
  new_indexed_image t w c kind.Plain n = refl
  new_indexed_image t w c kind.Pointers n = makes_image w (blank c body.Pointers (variables_of t c) n)
  new_indexed_image t w c kind.Bytes n = makes_image w (blank c body.Bytes 0 n)
  new_indexed_image t w c kind.Words n = makes_image w (blank c body.Words 0 n)

  new_with_image : (t : Table) (w : Reached) (r a : Value) → new_with t (image_reached at w) r a ≡ image_effect (new_with t w r a)
  new_with_image t w r (Small (pos n)) =
      of_class_image t w r (λ c. new_indexed t (image_reached at w) c (kind_of_class t c) n) (λ c. new_indexed t w c (kind_of_class t c) n) (λ c. new_indexed_image t w c (kind_of_class t c) n)
  new_with_image t w r _ = refl

  -- ---- the table

  found_image : {R : Type 0} (test : R → Bool) (effect effects : R → Effect) (none nones : Effect) (rs : List R) → AllByRecursion (λ r. effect r ≡ image_effect (effects r)) rs
      → none ≡ image_effect nones → option_map_or effect (find test rs) none ≡ image_effect (option_map_or effects (find test rs) nones)
  found_image test effect effects none nones [] h g = g
  found_image test effect effects none nones (r ∷ rs) h g =
      elim (test r) as (λ is. option_map_or effect (cond is (Some r) (find test rs)) none ≡ image_effect (option_map_or effects (cond is (Some r) (find test rs)) nones)) [
        | true ↦ h.0
        | false ↦ found_image test effect effects none nones rs h.1 g
      ]

  two_numbers_image : (n : ℕ) (w : Reached) (r a : Value) → two_numbers n (image_reached at w) r a ≡ image_effect (two_numbers n w r a)
  two_numbers_image n w (Small a) (Small b) = gives_image w (arithmetic n a b)
  two_numbers_image n w _ _ = refl

  number_of_character_image : (w : Reached) (r : Value) → number_of_character (image_reached at w) r ≡ image_effect (number_of_character w r)
  number_of_character_image w (Character c) = refl
  number_of_character_image w _ = refl

  character_of_image : (w : Reached) (a : Value) → character_of (image_reached at w) a ≡ image_effect (character_of w a)
  character_of_image w (Small (pos n)) = if_image (nat_le n 255) (done (image_reached at w) (Character n)) (fails (image_reached at w)) (done w (Character n)) (fails w) refl refl
  character_of_image w _ = refl

  put_at_image : (w : Reached) (r place to : Value) → put_at (image_reached at w) r place to ≡ image_effect (put_at w r place to)
  put_at_image w r (Small (pos i)) to = puts_image w r i to to
  put_at_image w r _ to = refl

  put_character_at_image : (w : Reached) (r place to : Value) → put_character_at (image_reached at w) r place to ≡ image_effect (put_character_at w r place to)
  put_character_at_image w r (Small (pos i)) (Character c) = puts_character_image w r i c
  put_character_at_image w r _ to = refl

  size_row : (w : Reached) (r : Value) → gives (image_reached at w) (option_and_then (λ items. ranged (pos (length items))) (readable (image at w.objects) r))
      ≡ image_effect (gives w (option_and_then (λ items. ranged (pos (length items))) (readable w.objects r)))
  size_row w r =
      let size : List Value → Option Value = λ items. ranged (pos (length items)) in
      ap (λ o. gives (image_reached at w) (option_and_then size o)) (readable_image w.objects r) ∙ gives_image w (option_and_then size (readable w.objects r))

  new_row : (t : Table) (w : Reached) (r : Value) → of_class t (image_reached at w) r (λ c. new_plain t (image_reached at w) c (kind_of_class t c))
      ≡ image_effect (of_class t w r (λ c. new_plain t w c (kind_of_class t c)))
  new_row t w r =
      of_class_image t w r (λ c. new_plain t (image_reached at w) c (kind_of_class t c)) (λ c. new_plain t w c (kind_of_class t c)) (λ c. new_plain_image t w c (kind_of_class t c))

  class_row : (t : Table) (w : Reached) (r : Value) → done (image_reached at w) (class_of t (image at w.objects) r) ≡ image_effect (done w (class_of t w.objects r))
  class_row t w r = ap (done (image_reached at w)) (class_of_image at t w.objects r)

  symbol_row : (t : Table) (w : Reached) (r : Value) → with_text (image_reached at w) (text_bytes t (image at w.objects) r) (names (image_reached at w))
      ≡ image_effect (with_text w (text_bytes t w.objects r) (names w))
  symbol_row t w r =
      ap (λ o. with_text (image_reached at w) o (names (image_reached at w))) (text_bytes_image t w.objects r)
      ∙ with_text_image w (text_bytes t w.objects r) (names (image_reached at w)) (names w) (names_image w)

  alone_natural : (t : Table) (n : ℕ) (r : Value) (w : Reached) → primitive t n r [] (image_reached at w) ≡ image_effect (primitive t n r [] w)
  alone_natural t n r w =
      found_image (λ (row : Alone). row.number == n) (λ (row : Alone). row.effect t (image_reached at w) r) (λ (row : Alone). row.effect t w r) (fails (image_reached at w)) (fails w) rows_alone
      (size_row w r, (new_row t w r, (class_row t w r, (number_of_character_image w r, (symbol_row t w r, (prints_image t w r, tt))))))
      refl

  item_row : (w : Reached) (r a : Value) → gives (image_reached at w) (option_and_then (λ items. at_place items a) (readable (image at w.objects) r))
      ≡ image_effect (gives w (option_and_then (λ items. at_place items a) (readable w.objects r)))
  item_row w r a =
      let of : List Value → Option Value = λ items. at_place items a in
      ap (λ o. gives (image_reached at w) (option_and_then of o)) (readable_image w.objects r) ∙ gives_image w (option_and_then of (readable w.objects r))

  byte_row : (w : Reached) (r a : Value) → gives (image_reached at w) (option_map Character (option_and_then (λ items. at_place items a) (readable_bytes (image at w.objects) r)))
      ≡ image_effect (gives w (option_map Character (option_and_then (λ items. at_place items a) (readable_bytes w.objects r))))
  byte_row w r a =
      let of : List ℕ → Option ℕ = λ items. at_place items a in
      ap (λ o. gives (image_reached at w) (option_map Character (option_and_then of o))) (readable_bytes_image w.objects r)
      ∙ gives_image w (option_map Character (option_and_then of (readable_bytes w.objects r)))

  told_row : (t : Table) (w : Reached) (r a : Value) → with_text (image_reached at w) (text_bytes t (image at w.objects) a) (writes (image_reached at w) r)
      ≡ image_effect (with_text w (text_bytes t w.objects a) (writes w r))
  told_row t w r a =
      ap (λ o. with_text (image_reached at w) o (writes (image_reached at w) r)) (text_bytes_image t w.objects a)
      ∙ with_text_image w (text_bytes t w.objects a) (writes (image_reached at w) r) (writes w r) (writes_image w r)

  error_row : (t : Table) (w : Reached) (a : Value) → with_text (image_reached at w) (text_bytes t (image at w.objects) a) (λ text. stops (image_reached at w) (Error text))
      ≡ image_effect (with_text w (text_bytes t w.objects a) (λ text. stops w (Error text)))
  error_row t w a =
      ap (λ o. with_text (image_reached at w) o (λ text. stops (image_reached at w) (Error text))) (text_bytes_image t w.objects a)
      ∙ with_text_image w (text_bytes t w.objects a) (λ text. stops (image_reached at w) (Error text)) (λ text. stops w (Error text)) (λ text. refl)

  with_one_natural : (t : Table) (n : ℕ) (r a : Value) (w : Reached) → primitive t n r (a ∷ []) (image_reached at w) ≡ image_effect (primitive t n r (a ∷ []) w)
  with_one_natural t n r a w =
      found_image (λ (row : WithOne). row.number == n) (λ (row : WithOne). row.effect t (image_reached at w) r a) (λ (row : WithOne). row.effect t w r a)
      (two_numbers n (image_reached at w) r a) (two_numbers n w r a) rows_with_one
      (item_row w r a, (byte_row w r a, (new_with_image t w r a, (refl, (told_row t w r a, (error_row t w a, (character_of_image w a, tt)))))))
      (two_numbers_image n w r a)

  with_two_natural : (t : Table) (n : ℕ) (r a b : Value) (w : Reached) → primitive t n r (a ∷ b ∷ []) (image_reached at w) ≡ image_effect (primitive t n r (a ∷ b ∷ []) w)
  with_two_natural t n r a b w =
      found_image (λ (row : WithTwo). row.number == n) (λ (row : WithTwo). row.effect t (image_reached at w) r a b) (λ (row : WithTwo). row.effect t w r a b)
      (fails (image_reached at w)) (fails w) rows_with_two (put_at_image w r a b, (put_character_at_image w r a b, tt)) refl

  pub natural : (t : Table) (n : ℕ) (r : Value) (arguments : List Value) (w : Reached) → primitive t n r arguments (image_reached at w) ≡ image_effect (primitive t n r arguments w)
  natural t n r [] w = alone_natural t n r w
  natural t n r (a ∷ []) w = with_one_natural t n r a w
  natural t n r (a ∷ b ∷ []) w = with_two_natural t n r a b w
  natural t n r (a ∷ b ∷ c ∷ rest) w = refl
