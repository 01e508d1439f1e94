-- Objects whose blocks have other starting places look the same from everywhere else: their sizes, elements, texts and classes; and literals are made alike.
use Rattle.std.proofs.Common.{◌≡◌, ◌∙◌, ◌+◌, ◌++◌, ℕ, zero, suc, Bool, true, false, refl, sym, ap, List, [], ◌∷◌, length, map, Option, Some, None, Result, Ok, Err, flat_map, option_and_then, slice_get, slice_set, nat_lt, if◌then◌else◌}
use Rattle.std.specs.Option.{option_map, option_map_or}
use Rattle.std.proofs.lemmas.List.{length-map, map_push}
use Rattle.s80_base.specs.declared.names.Side.TheVariants as side
use Rattle.s80_base.specs.Literal.{LiteralTree, LiteralTrees, small, character, str, symbol, array, true_literal, false_literal, nil_literal, number, no_literals, literals}
use Rattle.s80_class.specs.Table.{Table}
use Rattle.s80_object.specs.Body.{BodyTree, pointers, bytes, words, home, block, bytes_of, cost, fields_of, items_of, kind_of, number_to, words_of}
use Rattle.s80_object.specs.Literal.{Built, array_of, built, built_all, made, made_before, noted, with_first}
use Rattle.s80_object.specs.Objects.{State as Objects, block_parts_of, body_at, field, field_put, fields_at, home_parts_of, item, item_place, item_put, items_at, number_kind_of, put_with, read_at, size_of, text_of, with_body, with_body_at, placed as put_at_place}
use Rattle.s80_object.specs.declared.value.ObjectFault.{ObjectFault}
use Rattle.s80_object.specs.declared.value.ObjectFault.TheVariants as fault
use Rattle.s80_object.specs.declared.value.Value.{Value}
use Rattle.s80_object.specs.declared.value.Value.TheVariants.{Nil, Symbol, Number, ClassRef, Object}
use Rattle.s80_prims.specs.Classes.{body_class, class_number, class_of}
use Rattle.s80_prims.specs.Primitives.{string_bytes}
use Rattle.s80_prims.specs.Printed.{whole}
use Rattle.s80_meaning.specs.Image.{placed, image}

-- ---- lists and options

pub get_map : {X Y : Type 0} (f : X → Y) (xs : List X) (n : ℕ) → slice_get (map f xs) n ≡ option_map f (slice_get xs n)
get_map f [] n = refl
get_map f (x ∷ xs) zero = refl
get_map f (x ∷ xs) (suc n) = get_map f xs n

pub set_map : {X Y : Type 0} (f : X → Y) (xs : List X) (n : ℕ) (x : X) → map f (slice_set xs n x) ≡ slice_set (map f xs) n (f x)
set_map f [] n x = refl
set_map f (y ∷ xs) zero x = refl
set_map f (y ∷ xs) (suc n) x = ap (λ l. f y ∷ l) (set_map f xs n x)

pub flat_map_same : {X Y : Type 0} (f g : X → List Y) → ((x : X) → f x ≡ g x) → (xs : List X) → flat_map f xs ≡ flat_map g xs
flat_map_same f g h [] = refl
flat_map_same f g h (x ∷ xs) = ap (λ l. l ++ flat_map f xs) (h x) ∙ ap (λ l. g x ++ l) (flat_map_same f g h xs)

pub map_or_same : {X Y Z : Type 0} (p : X → Y) (f : Y → Z) (g : X → Z) → ((x : X) → f (p x) ≡ g x) → (o : Option X) (z : Z) → option_map_or f (option_map p o) z ≡ option_map_or g o z
map_or_same p f g h None z = refl
map_or_same p f g h (Some x) z = h x

pub and_then_same : {X Y Z : Type 0} (p : X → Y) (f : Y → Option Z) (g : X → Option Z) → ((x : X) → f (p x) ≡ g x) → (o : Option X) → option_and_then f (option_map p o) ≡ option_and_then g o
and_then_same p f g h None = refl
and_then_same p f g h (Some x) = h x

abbrev pub arguments_in : Value × ℕ × ℕ → ℕ
arguments_in (whole, start, arguments) = arguments

module _ (at : Value → ℕ → ℕ) where
  -- ---- bodies

  pub cost_placed : (b : BodyTree) → cost (placed at b) ≡ cost b
  cost_placed (block whole b count) = refl
  cost_placed _ = refl

  pub fields_of_placed : (b : BodyTree) → fields_of (placed at b) ≡ fields_of b
  fields_of_placed (block whole b count) = refl
  fields_of_placed _ = refl

  pub items_of_placed : (b : BodyTree) → items_of (placed at b) ≡ items_of b
  items_of_placed (block whole b count) = refl
  items_of_placed _ = refl

  pub bytes_of_placed : (b : BodyTree) → bytes_of (placed at b) ≡ bytes_of b
  bytes_of_placed (block whole b count) = refl
  bytes_of_placed _ = refl

  pub kind_of_placed : (b : BodyTree) → kind_of (placed at b) ≡ kind_of b
  kind_of_placed (block whole b count) = refl
  kind_of_placed _ = refl

  pub home_parts_placed : (b : BodyTree) → home_parts_of (placed at b) ≡ home_parts_of b
  home_parts_placed (block whole b count) = refl
  home_parts_placed _ = refl

  -- the home and the number of the arguments are what they were
  abbrev pub placed_parts : Value × ℕ × ℕ → Value × ℕ × ℕ
  placed_parts (whole, start, arguments) = (whole, at whole start, arguments)

  pub block_parts_placed : (b : BodyTree) → block_parts_of (placed at b) ≡ option_map placed_parts (block_parts_of b)
  block_parts_placed (block whole b count) = refl
  block_parts_placed _ = refl

  pub class_number_placed : (b : BodyTree) → class_number (placed at b) ≡ class_number b
  class_number_placed (block whole b count) = refl
  class_number_placed _ = refl

  pub body_class_placed : (t : Table) (b : BodyTree) → body_class t (placed at b) ≡ body_class t b
  body_class_placed t (block whole b count) = refl
  body_class_placed t _ = refl

  pub string_bytes_placed : (t : Table) (b : BodyTree) → string_bytes t (placed at b) ≡ string_bytes t b
  string_bytes_placed t (block whole b count) = refl
  string_bytes_placed t _ = refl

  -- ---- objects

  pub words_image : (bodies : List BodyTree) → words_of (map (placed at) bodies) ≡ words_of bodies
  words_image [] = refl
  words_image (b ∷ bodies) = ap (λ n. n + words_of (map (placed at) bodies)) (cost_placed b) ∙ ap (λ n. cost b + n) (words_image bodies)

  pub length_image : (bodies : List BodyTree) → length (map (placed at) bodies) ≡ length bodies
  length_image bodies = length-map bodies (placed at)

  pub with_body_image : (s : Objects) (b : BodyTree) → image at (with_body s b) ≡ with_body (image at s) (placed at b)
  with_body_image s b = ap (λ (l : List BodyTree). record s { bodies = l }) (map_push (placed at) s.bodies b)

  pub with_body_at_image : (s : Objects) (v : Value) (b : BodyTree) → image at (with_body_at s v b) ≡ with_body_at (image at s) v (placed at b)
  with_body_at_image s (Object n) b = ap (λ (l : List BodyTree). record s { bodies = l }) (set_map (placed at) s.bodies n b)
  with_body_at_image s _ b = refl

  pub body_at_image : (s : Objects) (v : Value) → body_at (image at s) v ≡ option_map (placed at) (body_at s v)
  body_at_image s (Object n) = get_map (placed at) s.bodies n
  body_at_image s _ = refl

  -- what is seen of a body
  pub seen_image : {X : Type 0} (f : BodyTree → Option X) → ((b : BodyTree) → f (placed at b) ≡ f b) → (s : Objects) (v : Value) → option_and_then f (body_at (image at s) v) ≡ option_and_then f (body_at s v)
  seen_image f h s v = ap (option_and_then f) (body_at_image s v) ∙ and_then_same (placed at) f f h (body_at s v)

  pub fields_at_image : (s : Objects) (v : Value) → fields_at (image at s) v ≡ fields_at s v
  fields_at_image s v = seen_image fields_of fields_of_placed s v

  pub items_at_image : (s : Objects) (v : Value) → items_at (image at s) v ≡ items_at s v
  items_at_image s v = seen_image items_of items_of_placed s v

  pub field_image : (s : Objects) (v : Value) (i : ℕ) → field (image at s) v i ≡ field s v i
  field_image s v i = ap (λ o. read_at o (Some i)) (fields_at_image s v)

  pub item_image : (s : Objects) (v : Value) (i : ℕ) → item (image at s) v i ≡ item s v i
  item_image s v i = ap (λ o. read_at o (item_place i)) (items_at_image s v)

  pub size_image : (s : Objects) (v : Value) → size_of (image at s) v ≡ size_of s v
  size_image s v = ap (λ o. option_map_or (λ items. Ok (length items)) o (Err fault.Kind)) (items_at_image s v)

  pub home_parts_image : (s : Objects) (v : Value) → option_and_then home_parts_of (body_at (image at s) v) ≡ option_and_then home_parts_of (body_at s v)
  home_parts_image s v = seen_image home_parts_of home_parts_placed s v

  pub block_parts_image : (s : Objects) (v : Value) → option_and_then block_parts_of (body_at (image at s) v) ≡ option_map placed_parts (option_and_then block_parts_of (body_at s v))
  block_parts_image s v = ap (option_and_then block_parts_of) (body_at_image s v) ∙ of (body_at s v)
    where
      of : (o : Option BodyTree) → option_and_then block_parts_of (option_map (placed at) o) ≡ option_map placed_parts (option_and_then block_parts_of o)
      of None = refl
      of (Some b) = block_parts_placed b

  -- a block takes as many arguments
  pub block_arguments_image : (s : Objects) (v : Value) → option_map arguments_in (option_and_then block_parts_of (body_at (image at s) v)) ≡ option_map arguments_in (option_and_then block_parts_of (body_at s v))
  block_arguments_image s v = ap (option_map arguments_in) (block_parts_image s v) ∙ of (option_and_then block_parts_of (body_at s v))
    where
      of : (o : Option (Value × ℕ × ℕ)) → option_map arguments_in (option_map placed_parts o) ≡ option_map arguments_in o
      of None = refl
      of (Some (whole, start, arguments)) = refl

  pub text_of_image : (s : Objects) (v : Value) → text_of (image at s) v ≡ text_of s v
  text_of_image s (Symbol n) = refl
  text_of_image s (Number n) = refl
  text_of_image s _ = refl

  pub number_kind_image : (s : Objects) (v : Value) → number_kind_of (image at s) v ≡ number_kind_of s v
  number_kind_image s (Number n) = refl
  number_kind_image s _ = refl

  pub class_of_image : (t : Table) (s : Objects) (v : Value) → class_of t (image at s) v ≡ class_of t s v
  class_of_image t s (Object n) =
      ap (λ o. option_map_or (body_class t) o Nil) (get_map (placed at) s.bodies n)
      ∙ map_or_same (placed at) (body_class t) (body_class t) (body_class_placed t) (slice_get s.bodies n) Nil
  class_of_image t s (ClassRef c side.Instance) = refl
  class_of_image t s (ClassRef c side.Class) = refl
  class_of_image t s _ = refl

  -- ---- elements put

  abbrev pub placed_result : Result BodyTree ObjectFault → Result BodyTree ObjectFault
  placed_result (Ok b) = Ok (placed at b)
  placed_result (Err told) = Err told

  ok_if : (test : Bool) (b : BodyTree) (told : ObjectFault) → placed at b ≡ b → (if test then Ok b else Err told) ≡ placed_result (if test then Ok b else Err told)
  ok_if true b told h = let of : BodyTree → Result BodyTree ObjectFault = λ c. Ok c in ap of (sym h)
  ok_if false b told h = refl

  put_same : {X : Type 0} (items : List X) (i : ℕ) (x : X) (of : List X → BodyTree) → ((l : List X) → placed at (of l) ≡ of l) → put_at_place items i x of ≡ placed_result (put_at_place items i x of)
  put_same items zero x of h = refl
  put_same items (suc i) x of h = ok_if (nat_lt i (length items)) (of (slice_set items i x)) fault.Range (h (slice_set items i x))

  put_number_same : (items : List ℕ) (i : ℕ) (o : Option ℕ) (of : List ℕ → BodyTree) → ((l : List ℕ) → placed at (of l) ≡ of l)
      → option_map_or (λ n. put_at_place items i n of) o (Err fault.Kind) ≡ placed_result (option_map_or (λ n. put_at_place items i n of) o (Err fault.Kind))
  put_number_same items i None of h = refl
  put_number_same items i (Some n) of h = put_same items i n of h

  pub item_put_placed : (b : BodyTree) (i : ℕ) (to : Value) → item_put (placed at b) i to ≡ placed_result (item_put b i to)
  item_put_placed (pointers class fields items) i to = put_same items i to (pointers class fields) (λ l. refl)
  item_put_placed (bytes class items) i to = put_number_same items i (number_to 255 to) (bytes class) (λ l. refl)
  item_put_placed (words class items) i to = put_number_same items i (number_to 65535 to) (words class) (λ l. refl)
  item_put_placed (home method receiver temporaries) i to = refl
  item_put_placed (block whole b count) i to = refl

  pub field_put_placed : (b : BodyTree) (i : ℕ) (to : Value) → field_put (placed at b) i to ≡ placed_result (field_put b i to)
  field_put_placed (pointers class fields items) i to = put_same fields (suc i) to (λ new. pointers class new items) (λ l. refl)
  field_put_placed (bytes class items) i to = refl
  field_put_placed (words class items) i to = refl
  field_put_placed (home method receiver temporaries) i to = put_same temporaries (suc i) to (home method receiver) (λ l. refl)
  field_put_placed (block whole b count) i to = refl

  pub put_with_image : (change : BodyTree → Result BodyTree ObjectFault) → ((b : BodyTree) → change (placed at b) ≡ placed_result (change b)) → (s : Objects) (v : Value)
      → put_with change (image at s) v ≡ placed_result (put_with change s v)
  put_with_image change h s v = ap (λ o. option_map_or change o (Err fault.Kind)) (body_at_image s v) ∙ of (body_at s v)
    where
      of : (o : Option BodyTree) → option_map_or change (option_map (placed at) o) (Err fault.Kind) ≡ placed_result (option_map_or change o (Err fault.Kind))
      of None = refl
      of (Some b) = h b

  pub field_put_image : (s : Objects) (v : Value) (i : ℕ) (to : Value) → put_with (λ b. field_put b i to) (image at s) v ≡ placed_result (put_with (λ b. field_put b i to) s v)
  field_put_image s v i to = put_with_image (λ b. field_put b i to) (λ b. field_put_placed b i to) s v

  pub item_put_image : (s : Objects) (v : Value) (i : ℕ) (to : Value) → put_with (λ b. item_put b i to) (image at s) v ≡ placed_result (put_with (λ b. item_put b i to) s v)
  item_put_image s v i to = put_with_image (λ b. item_put b i to) (λ b. item_put_placed b i to) s v

  -- ---- literals

  abbrev pub image_built : Built → Built
  image_built b = (image at b.0, b.1)

  pub made_image : (b : BodyTree) (s : Objects) → made (placed at b) (image at s) ≡ image_built (made b s)
  made_image b s =
      ap (λ (new : Objects). (new, Object (length (map (placed at) s.bodies)))) (sym (with_body_image s b))
      ∙ ap (λ (n : ℕ). (image at (with_body s b), Object n)) (length_image s.bodies)

  mutual
    pub built_image : (strings arrays : ℕ) (l : LiteralTree) (s : Objects) → built strings arrays l (image at s) ≡ image_built (built strings arrays l s)
    built_image strings arrays (small n) s = refl
    built_image strings arrays (character c) s = refl
    built_image strings arrays (str text) s = made_image (bytes strings text) s
    built_image strings arrays (symbol text) s = refl
    built_image strings arrays (array vs) s =
        ap (array_of arrays) (built_all_image strings arrays vs s)
        ∙ made_image (pointers arrays [] (built_all strings arrays vs s).1) (built_all strings arrays vs s).0
    built_image strings arrays true_literal s = refl
    built_image strings arrays false_literal s = refl
    built_image strings arrays nil_literal s = refl
    built_image strings arrays (number kind text) s = refl

    pub built_all_image : (strings arrays : ℕ) (vs : LiteralTrees) (s : Objects)
        → built_all strings arrays vs (image at s) ≡ (image at (built_all strings arrays vs s).0, (built_all strings arrays vs s).1)
    built_all_image strings arrays no_literals s = refl
    built_all_image strings arrays (literals v vs) s =
        ap (λ (b : Built). with_first b.1 (built_all strings arrays vs b.0)) (built_image strings arrays v s)
        ∙ ap (with_first (built strings arrays v s).1) (built_all_image strings arrays vs (built strings arrays v s).0)

  pub made_before_image : (m k : ℕ) (s : Objects) → made_before m k (image at s) ≡ made_before m k s
  made_before_image m k s = refl

  pub noted_image : (m k : ℕ) (object : Bool) (b : Built) → noted m k object (image_built b) ≡ image at (noted m k object b)
  noted_image m k true b = refl
  noted_image m k false b = refl
