-- Objects under other numbers of the classes: what is seen of them, what is put, and literals.
use Rattle.std.proofs.Common.{◌≡◌, ◌∙◌, ◌+◌, ◌++◌, ℕ, zero, suc, pos, Bool, true, false, cond, refl, sym, ap, List, [], ◌∷◌, length, map, replicate, Option, Some, None, Result, Ok, Err, find, option_and_then, slice_set, nat_lt, if◌then◌else◌}
use Rattle.std.specs.Option.{option_map, option_map_or}
use Rattle.std.proofs.lemmas.List.{length-map, map_push}
use Rattle.s80_base.specs.Literal.{LiteralTree, LiteralTrees, small, character, str, symbol, array, true_literal, false_literal, nil_literal, number, no_literals, literals}
use Rattle.s80_object.specs.Body.{BodyTree, pointers, bytes, words, home, block, bytes_of, cost, fields_of, items_of, number_to, words_of}
use Rattle.s80_object.specs.Literal.{Built, array_of, built, built_all, is_made_at, made, made_before, noted, with_first}
use Rattle.s80_object.specs.Objects.{State as Objects, Made, body_at, field_put, fields_at, home_parts_of, item_put, items_at, put_with, with_body, with_body_at}
use Rattle.s80_object.specs.Objects.{placed as put_at_place}
use Rattle.s80_object.specs.declared.value.ObjectFault.{ObjectFault}
use Rattle.s80_object.specs.declared.value.ObjectFault.TheVariants as fault
use Rattle.s80_object.specs.declared.value.Value.{Value}
use Rattle.s80_object.specs.declared.value.Value.TheVariants.{Small, ClassRef, Object}
use Rattle.s80_prims.specs.Primitives.{World as Reached}
use Rattle.s80_meaning.proofs.NaturalObjects.{get_map, set_map}

-- ---- lists and options

pub map_replicate : {X Y : Type 0} (f : X → Y) (n : ℕ) (x : X) → map f (replicate n x) ≡ replicate n (f x)
map_replicate f zero x = refl
map_replicate f (suc n) x = ap (λ l. f x ∷ l) (map_replicate f n x)

pub map_append : {X Y : Type 0} (f : X → Y) (xs ys : List X) → map f (xs ++ ys) ≡ map f xs ++ map f ys
map_append f [] ys = refl
map_append f (x ∷ xs) ys = ap (λ l. f x ∷ l) (map_append f xs ys)

pub and_then_map : {X Y Z V : Type 0} (p : X → Y) (q : Z → V) (f : Y → Option V) (g : X → Option Z) → ((x : X) → f (p x) ≡ option_map q (g x)) → (o : Option X)
    → option_and_then f (option_map p o) ≡ option_map q (option_and_then g o)
and_then_map p q f g h None = refl
and_then_map p q f g h (Some x) = h x

pub map_or_map : {X Y Z V : Type 0} (p : X → Y) (q : Z → V) (f : Y → V) (g : X → Z) → ((x : X) → f (p x) ≡ q (g x)) → (o : Option X) (z : Z)
    → option_map_or f (option_map p o) (q z) ≡ q (option_map_or g o z)
map_or_map p q f g h None z = refl
map_or_map p q f g h (Some x) z = h x

abbrev pub number_value : ℕ → Value
number_value n = Small (pos n)

abbrev value_in : Made → Value
value_in m = m.value

module _ (r : ℕ → ℕ) where
  -- ---- what holds class numbers

  abbrev pub renamed : Value → Value
  renamed (ClassRef c s) = ClassRef (r c) s
  renamed v = v

  abbrev pub renamed_body : BodyTree → BodyTree
  renamed_body (pointers class fields items) = pointers (r class) (map renamed fields) (map renamed items)
  renamed_body (bytes class items) = bytes (r class) items
  renamed_body (words class items) = words (r class) items
  renamed_body (home method receiver temporaries) = home method (renamed receiver) (map renamed temporaries)
  renamed_body (block whole start arguments) = block (renamed whole) start arguments

  abbrev pub renamed_made : Made → Made
  renamed_made m = record m { value = renamed m.value }

  abbrev pub renamed_objects : Objects → Objects
  renamed_objects s = record s { bodies = map renamed_body s.bodies; literals = map renamed_made s.literals }

  abbrev pub renamed_reached : Reached → Reached
  renamed_reached w = record w { objects = renamed_objects w.objects }

  abbrev pub renamed_parts : ℕ × Value → ℕ × Value
  renamed_parts p = (p.0, renamed p.1)

  -- ---- bodies

  pub map_numbers : (ns : List ℕ) → map renamed (map number_value ns) ≡ map number_value ns
  map_numbers [] = refl
  map_numbers (n ∷ ns) = ap (λ l. number_value n ∷ l) (map_numbers ns)

  pub cost_renamed : (b : BodyTree) → cost (renamed_body b) ≡ cost b
  cost_renamed (pointers class fields items) =
      ap (λ n. 2 + n + length (map renamed items)) (length-map fields renamed) ∙ ap (λ n. 2 + length fields + n) (length-map items renamed)
  cost_renamed _ = refl

  fields_renamed : (b : BodyTree) → fields_of (renamed_body b) ≡ option_map (map renamed) (fields_of b)
  fields_renamed (pointers class fields items) = refl
  fields_renamed _ = refl

  pub items_renamed : (b : BodyTree) → items_of (renamed_body b) ≡ option_map (map renamed) (items_of b)
  items_renamed (bytes class items) = ap (λ l. Some l) (sym (map_numbers items))
  items_renamed (words class items) = ap (λ l. Some l) (sym (map_numbers items))
  items_renamed _ = refl

  pub bytes_renamed : (b : BodyTree) → bytes_of (renamed_body b) ≡ bytes_of b
  bytes_renamed (pointers class fields items) = refl
  bytes_renamed _ = refl

  home_parts_renamed : (b : BodyTree) → home_parts_of (renamed_body b) ≡ option_map renamed_parts (home_parts_of b)
  home_parts_renamed (home method receiver temporaries) = refl
  home_parts_renamed _ = refl

  -- ---- objects

  pub words_renamed : (bodies : List BodyTree) → words_of (map renamed_body bodies) ≡ words_of bodies
  words_renamed [] = refl
  words_renamed (b ∷ bodies) = ap (λ n. n + words_of (map renamed_body bodies)) (cost_renamed b) ∙ ap (λ n. cost b + n) (words_renamed bodies)

  pub length_renamed : (bodies : List BodyTree) → length (map renamed_body bodies) ≡ length bodies
  length_renamed bodies = length-map bodies renamed_body

  pub with_body_renamed : (s : Objects) (b : BodyTree) → renamed_objects (with_body s b) ≡ with_body (renamed_objects s) (renamed_body b)
  with_body_renamed s b = ap (λ (l : List BodyTree). record (renamed_objects s) { bodies = l }) (map_push renamed_body s.bodies b)

  pub with_body_at_renamed : (s : Objects) (v : Value) (b : BodyTree) → renamed_objects (with_body_at s v b) ≡ with_body_at (renamed_objects s) (renamed v) (renamed_body b)
  with_body_at_renamed s (Object n) b = ap (λ (l : List BodyTree). record (renamed_objects s) { bodies = l }) (set_map renamed_body s.bodies n b)
  with_body_at_renamed s _ b = refl

  body_at_renamed : (s : Objects) (v : Value) → body_at (renamed_objects s) (renamed v) ≡ option_map renamed_body (body_at s v)
  body_at_renamed s (Object n) = get_map renamed_body s.bodies n
  body_at_renamed s _ = refl

  -- what is seen of a body, with the values in it
  seen_renamed : {X : Type 0} (f g : BodyTree → Option X) (q : X → X) → ((b : BodyTree) → f (renamed_body b) ≡ option_map q (g b)) → (s : Objects) (v : Value)
      → option_and_then f (body_at (renamed_objects s) (renamed v)) ≡ option_map q (option_and_then g (body_at s v))
  seen_renamed f g q h s v = ap (option_and_then f) (body_at_renamed s v) ∙ and_then_map renamed_body q f g h (body_at s v)

  -- and where there is none in it
  pub seen_same : {X : Type 0} (f g : BodyTree → Option X) → ((b : BodyTree) → f (renamed_body b) ≡ g b) → (s : Objects) (v : Value)
      → option_and_then f (body_at (renamed_objects s) (renamed v)) ≡ option_and_then g (body_at s v)
  seen_same f g h s v = ap (option_and_then f) (body_at_renamed s v) ∙ of (body_at s v)
    where
      of : (o : Option BodyTree) → option_and_then f (option_map renamed_body o) ≡ option_and_then g o
      of None = refl
      of (Some b) = h b

  pub fields_at_renamed : (s : Objects) (v : Value) → fields_at (renamed_objects s) (renamed v) ≡ option_map (map renamed) (fields_at s v)
  fields_at_renamed s v = seen_renamed fields_of fields_of (map renamed) fields_renamed s v

  pub items_at_renamed : (s : Objects) (v : Value) → items_at (renamed_objects s) (renamed v) ≡ option_map (map renamed) (items_at s v)
  items_at_renamed s v = seen_renamed items_of items_of (map renamed) items_renamed s v

  pub home_parts_at_renamed : (s : Objects) (v : Value) → option_and_then home_parts_of (body_at (renamed_objects s) (renamed v)) ≡ option_map renamed_parts (option_and_then home_parts_of (body_at s v))
  home_parts_at_renamed s v = seen_renamed home_parts_of home_parts_of renamed_parts home_parts_renamed s v

  -- ---- elements put

  abbrev pub renamed_result : Result BodyTree ObjectFault → Result BodyTree ObjectFault
  renamed_result (Ok b) = Ok (renamed_body b)
  renamed_result (Err told) = Err told

  abbrev put_if : Bool → BodyTree → Result BodyTree ObjectFault
  put_if test b = if test then Ok b else Err fault.Range

  put_if_renamed : (test : Bool) (a b : BodyTree) → a ≡ renamed_body b → put_if test a ≡ renamed_result (put_if test b)
  put_if_renamed true a b h = ap (put_if true) h
  put_if_renamed false a b h = refl

  put_mapped : {X : Type 0} (f : X → X) (items : List X) (i : ℕ) (x : X) (of ofs : List X → BodyTree) → ((l : List X) → of (map f l) ≡ renamed_body (ofs l))
      → put_at_place (map f items) i (f x) of ≡ renamed_result (put_at_place items i x ofs)
  put_mapped f items zero x of ofs h = refl
  put_mapped f items (suc i) x of ofs h =
      let put : BodyTree = of (slice_set (map f items) i (f x)) in
      ap (λ n. put_if (nat_lt i n) put) (length-map items f)
      ∙ put_if_renamed (nat_lt i (length items)) put (ofs (slice_set items i x)) (ap of (sym (set_map f items i x)) ∙ h (slice_set items i x))

  put_plain : (items : List ℕ) (i n : ℕ) (of ofs : List ℕ → BodyTree) → ((l : List ℕ) → of l ≡ renamed_body (ofs l)) → put_at_place items i n of ≡ renamed_result (put_at_place items i n ofs)
  put_plain items zero n of ofs h = refl
  put_plain items (suc i) n of ofs h = put_if_renamed (nat_lt i (length items)) (of (slice_set items i n)) (ofs (slice_set items i n)) (h (slice_set items i n))

  put_number : (items : List ℕ) (i : ℕ) (o : Option ℕ) (of ofs : List ℕ → BodyTree) → ((l : List ℕ) → of l ≡ renamed_body (ofs l))
      → option_map_or (λ n. put_at_place items i n of) o (Err fault.Kind) ≡ renamed_result (option_map_or (λ n. put_at_place items i n ofs) o (Err fault.Kind))
  put_number items i None of ofs h = refl
  put_number items i (Some n) of ofs h = put_plain items i n of ofs h

  number_to_renamed : (most : ℕ) (v : Value) → number_to most (renamed v) ≡ number_to most v
  number_to_renamed most (Small n) = refl
  number_to_renamed most _ = refl

  item_put_renamed : (i : ℕ) (to : Value) (b : BodyTree) → item_put (renamed_body b) i (renamed to) ≡ renamed_result (item_put b i to)
  item_put_renamed i to (pointers class fields items) =
      put_mapped renamed items i to (λ l. pointers (r class) (map renamed fields) l) (λ l. pointers class fields l) (λ l. refl)
  item_put_renamed i to (bytes class items) =
      ap (λ o. option_map_or (λ n. put_at_place items i n (λ l. bytes (r class) l)) o (Err fault.Kind)) (number_to_renamed 255 to)
      ∙ put_number items i (number_to 255 to) (λ l. bytes (r class) l) (λ l. bytes class l) (λ l. refl)
  item_put_renamed i to (words class items) =
      ap (λ o. option_map_or (λ n. put_at_place items i n (λ l. words (r class) l)) o (Err fault.Kind)) (number_to_renamed 65535 to)
      ∙ put_number items i (number_to 65535 to) (λ l. words (r class) l) (λ l. words class l) (λ l. refl)
  item_put_renamed i to (home method receiver temporaries) = refl
  item_put_renamed i to (block whole start arguments) = refl

  field_put_renamed : (i : ℕ) (to : Value) (b : BodyTree) → field_put (renamed_body b) i (renamed to) ≡ renamed_result (field_put b i to)
  field_put_renamed i to (pointers class fields items) =
      put_mapped renamed fields (suc i) to (λ l. pointers (r class) l (map renamed items)) (λ l. pointers class l items) (λ l. refl)
  field_put_renamed i to (bytes class items) = refl
  field_put_renamed i to (words class items) = refl
  field_put_renamed i to (home method receiver temporaries) =
      put_mapped renamed temporaries (suc i) to (λ l. home method (renamed receiver) l) (λ l. home method receiver l) (λ l. refl)
  field_put_renamed i to (block whole start arguments) = refl

  put_with_renamed : (change changes : BodyTree → Result BodyTree ObjectFault) → ((b : BodyTree) → change (renamed_body b) ≡ renamed_result (changes b)) → (s : Objects) (v : Value)
      → put_with change (renamed_objects s) (renamed v) ≡ renamed_result (put_with changes s v)
  put_with_renamed change changes h s v = ap (λ o. option_map_or change o (Err fault.Kind)) (body_at_renamed s v) ∙ of (body_at s v)
    where
      of : (o : Option BodyTree) → option_map_or change (option_map renamed_body o) (Err fault.Kind) ≡ renamed_result (option_map_or changes o (Err fault.Kind))
      of None = refl
      of (Some b) = h b

  pub field_put_at_renamed : (s : Objects) (v : Value) (i : ℕ) (to : Value)
      → put_with (λ b. field_put b i (renamed to)) (renamed_objects s) (renamed v) ≡ renamed_result (put_with (λ b. field_put b i to) s v)
  field_put_at_renamed s v i to = put_with_renamed (λ b. field_put b i (renamed to)) (λ b. field_put b i to) (field_put_renamed i to) s v

  pub item_put_at_renamed : (s : Objects) (v : Value) (i : ℕ) (to : Value)
      → put_with (λ b. item_put b i (renamed to)) (renamed_objects s) (renamed v) ≡ renamed_result (put_with (λ b. item_put b i to) s v)
  item_put_at_renamed s v i to = put_with_renamed (λ b. item_put b i (renamed to)) (λ b. item_put b i to) (item_put_renamed i to) s v

  -- ---- literals

  abbrev pub renamed_built : Built → Built
  renamed_built b = (renamed_objects b.0, renamed b.1)

  made_renamed : (b : BodyTree) (s : Objects) → made (renamed_body b) (renamed_objects s) ≡ renamed_built (made b s)
  made_renamed b s =
      ap (λ (new : Objects). (new, Object (length (map renamed_body s.bodies)))) (sym (with_body_renamed s b))
      ∙ ap (λ (n : ℕ). (renamed_objects (with_body s b), Object n)) (length_renamed s.bodies)

  mutual
    pub built_renamed : (strings arrays : ℕ) (l : LiteralTree) (s : Objects) → built (r strings) (r arrays) l (renamed_objects s) ≡ renamed_built (built strings arrays l s)
    built_renamed strings arrays (small n) s = refl
    built_renamed strings arrays (character c) s = refl
    built_renamed strings arrays (str text) s = made_renamed (bytes strings text) s
    built_renamed strings arrays (symbol text) s = refl
    built_renamed strings arrays (array vs) s =
        ap (array_of (r arrays)) (built_all_renamed strings arrays vs s)
        ∙ made_renamed (pointers arrays [] (built_all strings arrays vs s).1) (built_all strings arrays vs s).0
    built_renamed strings arrays true_literal s = refl
    built_renamed strings arrays false_literal s = refl
    built_renamed strings arrays nil_literal s = refl
    built_renamed strings arrays (number kind text) s = refl

    built_all_renamed : (strings arrays : ℕ) (vs : LiteralTrees) (s : Objects)
        → built_all (r strings) (r arrays) vs (renamed_objects s) ≡ (renamed_objects (built_all strings arrays vs s).0, map renamed (built_all strings arrays vs s).1)
    built_all_renamed strings arrays no_literals s = refl
    built_all_renamed strings arrays (literals v vs) s =
        ap (λ (b : Built). with_first b.1 (built_all (r strings) (r arrays) vs b.0)) (built_renamed strings arrays v s)
        ∙ ap (with_first (renamed (built strings arrays v s).1)) (built_all_renamed strings arrays vs (built strings arrays v s).0)

  found_made : (m k : ℕ) (ls : List Made) → option_map value_in (find (is_made_at m k) (map renamed_made ls)) ≡ option_map renamed (option_map value_in (find (is_made_at m k) ls))
  found_made m k [] = refl
  found_made m k (l ∷ ls) =
      elim (is_made_at m k l) as (λ is. option_map value_in (cond is (Some (renamed_made l)) (find (is_made_at m k) (map renamed_made ls))) ≡ option_map renamed (option_map value_in (cond is (Some l) (find (is_made_at m k) ls)))) [
        | true ↦ refl
        | false ↦ found_made m k ls
      ]

  pub made_before_renamed : (m k : ℕ) (s : Objects) → made_before m k (renamed_objects s) ≡ option_map renamed (made_before m k s)
  made_before_renamed m k s = found_made m k s.literals

  pub noted_renamed : (m k : ℕ) (object : Bool) (b : Built) → noted m k object (renamed_built b) ≡ renamed_objects (noted m k object b)
  noted_renamed m k true b =
      let one : Made = record { method = m; entry = k; value = b.1 } in
      ap (λ (l : List Made). record (renamed_objects b.0) { literals = l }) (sym (map_push renamed_made b.0.literals one))
  noted_renamed m k false b = refl
