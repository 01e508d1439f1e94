-- A primitive leaves a sound world that goes on.
use Rattle.std.proofs.Common.{◌≡◌, ◌∙◌, ap, sym, subst, refl, ℕ, zero, suc, ◌+◌, ◌==◌, pos, List, [], ◌∷◌, ◌++◌, codes, find, Option, Some, None, Bool, true, false, length, slice_get, slice_set, nat_le, nat_lt, replicate, All, Ok, Err, Result, IfOk, arith, cond, if◌then◌else◌, option_and_then, unwrap_or}
use Rattle.std.specs.Option.{option_map, option_map_or}
use Rattle.std.specs.List.{AllByRecursion}
use Rattle.std.specs.Str.{bytes_eq}
use Rattle.std.proofs.lemmas.List.{length-replicate}
use Rattle.std.proofs.lemmas.List.Elements.{All-head, All-tail, All-nil, All-replicate, All-set}
use Rattle.s80_base.specs.declared.names.Side.TheVariants.{Instance}
use Rattle.s80_form.specs.declared.definition.Kind.{Kind}
use Rattle.s80_form.specs.declared.definition.Kind.TheVariants as kind
use Rattle.s80_kernel.specs.Rows as rows
use Rattle.s80_class.specs.Classes.{is_bits}
use Rattle.s80_class.specs.Table.{Table, IsClass, number_of}
use Rattle.s80_code.specs.declared.code.Code.{Code}
use Rattle.s80_dict.specs.Table.{MethodsValue}
use Rattle.s80_dict.specs.declared.dict.MethodEntry.{MethodEntry}
use Rattle.s80_object.specs.Body.{BodyTree, pointers, bytes, words, home as home_body, block as block_body, blank, bytes_of, cost, number_to, word_limit, words_of}
use Rattle.s80_object.specs.Literal.{added_once}
use Rattle.s80_object.specs.Objects.{State as Objects, body_at, item_put, placed, with_body}
use Rattle.s80_object.specs.declared.value.BodyKind.TheVariants as body
use Rattle.s80_object.specs.declared.value.ObjectFault.{ObjectFault}
use Rattle.s80_object.specs.declared.value.ObjectFault.TheVariants as fault
use Rattle.s80_object.specs.declared.value.Value.{Value}
use Rattle.s80_object.specs.declared.value.Value.TheVariants.{Small, Character, Nil, ClassRef, Object}
use Rattle.s80_prims.specs.declared.stop.Stop.TheVariants.{Error, ObjectsFull, TranscriptFull}
use Rattle.s80_prims.specs.Arithmetic.{arithmetic, ranged}
use Rattle.s80_prims.specs.Classes.{can_be_new, kind_of_class, variables_of}
use Rattle.s80_prims.specs.Known.{BodyIsKnown, IsKnown}
use Rattle.s80_prims.specs.Primitives.{Alone, Effect, WithOne, WithTwo, at_place, character_of, done, fails, gives, makes, names, new_indexed, new_plain, new_with, number_of_character, of_class, primitive, prints, put_at, put_character_at, put_done, puts, puts_character, readable, readable_bytes, rows_alone, rows_with_one, rows_with_two, stops, string_of, text_bytes, transcript_limit, two_numbers, with_text, writes}
use Rattle.s80_prims.specs.Printed.{printed}
use Rattle.s80_machine.specs.World.{World, changed, reached}
use Rattle.s80_machine.specs.Sound.{IsSetting, IsSoundBody, IsSoundWorld}
use Rattle.s80_machine.proofs.SoundClasses.{kernel_number, kernel_plain}
use Rattle.s80_machine.proofs.SoundWorlds.{IsSameAs}
use Rattle.s80_machine.proofs.SoundChanges.{Follows, body_follows, put_follows, same_follows, text_follows, words_follow}
use Rattle.s80_machine.proofs.SoundLiterals.{no_fewer}

-- ---- items put

ok_if : (P : BodyTree → Type 0) (test : Bool) (b : BodyTree) → P b → IfOk (if test then Ok b else Err fault.Range) P
ok_if P true b h = h
ok_if P false b h = tt

placed_ok : {X : Type 0} (P : BodyTree → Type 0) (items : List X) (i : ℕ) (x : X) (of : List X → BodyTree) → ((j : ℕ) → P (of (slice_set items j x))) → IfOk (placed items i x of) P
placed_ok P items zero x of h = tt
placed_ok P items (suc i) x of h = ok_if P (nat_lt i (length items)) (of (slice_set items i x)) (h i)

number_ok : (P : BodyTree → Type 0) (items : List ℕ) (i : ℕ) (o : Option ℕ) (of : List ℕ → BodyTree) → ((items : List ℕ) → P (of items)) → IfOk (option_map_or (λ n. placed items i n of) o (Err fault.Kind)) P
number_ok P items i None of h = tt
number_ok P items i (Some n) of h = placed_ok P items i n of (λ j. h (slice_set items j n))

abbrev IsPut : Table → Objects → BodyTree → BodyTree → Type 0
IsPut t s b c = IsSameAs b c × BodyIsKnown t s c

item_ok : (t : Table) (s : Objects) (b : BodyTree) (i : ℕ) (to : Value) → IsKnown t s to → BodyIsKnown t s b → IfOk (item_put b i to) (IsPut t s b)
item_ok t s (pointers class fields items) i to h is =
    placed_ok (IsPut t s (pointers class fields items)) items i to (pointers class fields)
    (λ j. ((fields, slice_set items j to, refl, refl), (is.0, (is.1.0, All-set (IsKnown t s) items j to h is.1.1))))
item_ok t s (bytes class items) i to h is = number_ok (IsPut t s (bytes class items)) items i (number_to 255 to) (bytes class) (λ new. ((new, refl), is))
item_ok t s (words class items) i to h is = number_ok (IsPut t s (words class items)) items i (number_to 65535 to) (words class) (λ new. ((new, refl), is))
item_ok t s (home_body m r temporaries) i to h is = tt
item_ok t s (block_body whole start count) i to h is = tt

module _ (t : Table) (methods : MethodsValue (MethodEntry Code)) (code : Code) (setting : IsSetting t methods code) (w : World) (sound : IsSoundWorld t methods code w) where
  abbrev pub IsGood : Effect → Type 0
  IsGood e = Follows t methods code w (changed w e.world)

  stays : IsGood (fails (reached w))
  stays = same_follows t methods code w sound

  if_good : (test : Bool) (a b : Effect) → IsGood a → IsGood b → IsGood (if test then a else b)
  if_good true a b h g = h
  if_good false a b h g = g

  gives_good : (o : Option Value) → IsGood (gives (reached w) o)
  gives_good None = stays
  gives_good (Some v) = stays

  with_text_good : (o : Option (List ℕ)) (go : List ℕ → Effect) → ((text : List ℕ) → IsGood (go text)) → IsGood (with_text (reached w) o go)
  with_text_good None go h = stays
  with_text_good (Some text) go h = h text

  makes_good : (b : BodyTree) → BodyIsKnown t w.objects b → IsSoundBody t methods code w b → IsGood (makes (reached w) b)
  makes_good b known is =
      if_good (nat_le (words_of w.objects.bodies + cost b) word_limit) (done (record { objects = with_body w.objects b; transcript = w.transcript }) (Object (length w.objects.bodies)))
      (stops (reached w) (ObjectsFull (words_of w.objects.bodies))) (body_follows t methods code w b sound known is) stays

  -- ---- items

  puts_good : (r : Value) (i : ℕ) (to answer : Value) → IsKnown t w.objects to → IsGood (puts (reached w) r i to answer)
  puts_good (Object n) i to answer h = of (slice_get w.objects.bodies n) refl
    where
      put : (b : BodyTree) → slice_get w.objects.bodies n ≡ Some b → (r : Result BodyTree ObjectFault) → IfOk r (IsPut t w.objects b) → IsGood (put_done (reached w) (Object n) answer r)
      put b e (Ok c) is = put_follows t methods code w n b c sound e is.0 is.1
      put b e (Err told) is = stays

      of : (o : Option BodyTree) → slice_get w.objects.bodies n ≡ o → IsGood (put_done (reached w) (Object n) answer (option_map_or (λ b. item_put b i to) o (Err fault.Kind)))
      of None e = stays
      of (Some b) e = put b e (item_put b i to) (item_ok t w.objects b i to h (sound.known n b e))
  puts_good _ i to answer h = stays

  puts_character_good : (r : Value) (i c : ℕ) → IsGood (puts_character (reached w) r i c)
  puts_character_good r i c = of (option_and_then bytes_of (body_at w.objects r))
    where
      of : (o : Option (List ℕ)) → IsGood (option_map_or (λ items. puts (reached w) r i (Small (pos c)) (Character c)) o (fails (reached w)))
      of None = stays
      of (Some items) = puts_good r i (Small (pos c)) (Character c) tt

  put_at_good : (r place to : Value) → IsKnown t w.objects to → IsGood (put_at (reached w) r place to)
  put_at_good r (Small (pos i)) to h = puts_good r i to to h
  put_at_good r _ to h = stays

  put_character_at_good : (r place to : Value) → IsGood (put_character_at (reached w) r place to)
  put_character_at_good r (Small (pos i)) (Character c) = puts_character_good r i c
  put_character_at_good r _ to = stays

  -- ---- texts

  names_good : (text : List ℕ) → IsGood (names (reached w) text)
  names_good text = words_follow t methods code w (added_once (bytes_eq text) text w.objects.symbols) w.objects.numbers sound (no_fewer (bytes_eq text) text w.objects.symbols) (omega arith)

  writes_good : (r : Value) (text : List ℕ) → IsGood (writes (reached w) r text)
  writes_good r text =
      if_good (nat_le (length w.transcript + length text) transcript_limit) (done (record { objects = w.objects; transcript = w.transcript ++ text }) r) (stops (reached w) TranscriptFull)
      (text_follows t methods code w (w.transcript ++ text) sound) stays

  string_number : (o : Option ℕ) → option_map_or (λ n. n) o 0 ≡ unwrap_or o 0
  string_number None = refl
  string_number (Some n) = refl

  prints_good : (r : Value) → IsGood (prints t (reached w) r)
  unfolding rows.is_kernel_class
  prints_good r =
      let same = string_number (number_of t.names (codes "String")) in
      makes_good (string_of t (printed t w.objects r))
      (subst (IsClass t.names) (sym same) (codes "String", kernel_number t methods code setting (codes "String") refl))
      (ap (variables_of t) same ∙ kernel_plain t methods code setting (codes "String") refl refl)

  -- ---- new objects

  of_class_good : (r : Value) (go : ℕ → Effect) → IsKnown t w.objects r → ((c : ℕ) → IsClass t.names c → IsGood (go c)) → IsGood (of_class t (reached w) r go)
  of_class_good (ClassRef c Instance) go h goes = if_good (can_be_new t c) (go c) (fails (reached w)) (goes c h) stays
  of_class_good _ go h goes = stays

  nils : (n : ℕ) → All (IsKnown t w.objects) (replicate n Nil)
  nils n = All-replicate (IsKnown t w.objects) n Nil tt

  plain_good : (c : ℕ) (k : Kind) → IsClass t.names c → IsGood (new_plain t (reached w) c k)
  plain_good c kind.Plain is = makes_good (pointers c (replicate (variables_of t c) Nil) []) (is, (nils (variables_of t c), All-nil (IsKnown t w.objects))) (length-replicate (variables_of t c) Nil)
  plain_good c kind.Pointers is = stays
  plain_good c kind.Bytes is = stays
  plain_good c kind.Words is = stays

  indexed_good : (c : ℕ) (k : Kind) (n : ℕ) → kind_of_class t c ≡ k → IsClass t.names c → IsGood (new_indexed t (reached w) c k n)
  indexed_good c kind.Plain n e is = stays
  indexed_good c kind.Pointers n e is = makes_good (blank c body.Pointers (variables_of t c) n) (is, (nils (variables_of t c), nils n)) (length-replicate (variables_of t c) Nil)
  indexed_good c kind.Bytes n e is = makes_good (blank c body.Bytes 0 n) is (setting.bits c is (ap is_bits e))
  indexed_good c kind.Words n e is = makes_good (blank c body.Words 0 n) is (setting.bits c is (ap is_bits e))

  new_with_good : (r a : Value) → IsKnown t w.objects r → IsGood (new_with t (reached w) r a)
  new_with_good r (Small (pos n)) h = of_class_good r (λ c. new_indexed t (reached w) c (kind_of_class t c) n) h (λ c is. indexed_good c (kind_of_class t c) n refl is)
  new_with_good r _ h = stays

  -- ---- the table

  found_good : {R : Type 0} (test : R → Bool) (effect : R → Effect) (none : Effect) (rs : List R) → AllByRecursion (λ r. IsGood (effect r)) rs → IsGood none → IsGood (option_map_or effect (find test rs) none)
  found_good test effect none [] h g = g
  found_good test effect none (r ∷ rs) h g =
      elim (test r) as (λ is. IsGood (option_map_or effect (cond is (Some r) (find test rs)) none)) [
        | true ↦ h.0
        | false ↦ found_good test effect none rs h.1 g
      ]

  character_good : (r : Value) → IsGood (number_of_character (reached w) r)
  character_good (Character c) = stays
  character_good _ = stays

  character_of_good : (a : Value) → IsGood (character_of (reached w) a)
  character_of_good (Small (pos n)) = if_good (nat_le n 255) (done (reached w) (Character n)) (fails (reached w)) stays stays
  character_of_good _ = stays

  two_numbers_good : (n : ℕ) (r a : Value) → IsGood (two_numbers n (reached w) r a)
  two_numbers_good n (Small a) (Small b) = gives_good (arithmetic n a b)
  two_numbers_good n _ _ = stays

  alone_good : (n : ℕ) (r : Value) → IsKnown t w.objects r → IsGood (primitive t n r [] (reached w))
  alone_good n r h =
      found_good (λ (row : Alone). row.number == n) (λ (row : Alone). row.effect t (reached w) r) (fails (reached w)) rows_alone (
        gives_good (option_and_then (λ items. ranged (pos (length items))) (readable w.objects r)),
        (
          of_class_good r (λ c. new_plain t (reached w) c (kind_of_class t c)) h (λ c is. plain_good c (kind_of_class t c) is),
          (stays, (character_good r, (with_text_good (text_bytes t w.objects r) (names (reached w)) names_good, (prints_good r, tt)))),
        ),
      )
      stays

  with_one_good : (n : ℕ) (r a : Value) → IsKnown t w.objects r → IsGood (primitive t n r (a ∷ []) (reached w))
  with_one_good n r a h =
      found_good (λ (row : WithOne). row.number == n) (λ (row : WithOne). row.effect t (reached w) r a) (two_numbers n (reached w) r a) rows_with_one (
        gives_good (option_and_then (λ items. at_place items a) (readable w.objects r)),
        (
          gives_good (option_map Character (option_and_then (λ items. at_place items a) (readable_bytes w.objects r))),
          (
            new_with_good r a h,
            (
              stays,
              (
                with_text_good (text_bytes t w.objects a) (writes (reached w) r) (writes_good r),
                (with_text_good (text_bytes t w.objects a) (λ text. stops (reached w) (Error text)) (λ text. stays), (character_of_good a, tt)),
              ),
            ),
          ),
        ),
      )
      (two_numbers_good n r a)

  with_two_good : (n : ℕ) (r a b : Value) → IsKnown t w.objects b → IsGood (primitive t n r (a ∷ b ∷ []) (reached w))
  with_two_good n r a b h =
      found_good (λ (row : WithTwo). row.number == n) (λ (row : WithTwo). row.effect t (reached w) r a b) (fails (reached w)) rows_with_two (put_at_good r a b h, (put_character_at_good r a b, tt)) stays

  pub primitive_good : (n : ℕ) (r : Value) (arguments : List Value) → IsKnown t w.objects r → All (IsKnown t w.objects) arguments → IsGood (primitive t n r arguments (reached w))
  primitive_good n r [] h all = alone_good n r h
  primitive_good n r (a ∷ []) h all = with_one_good n r a h
  primitive_good n r (a ∷ b ∷ []) h all = with_two_good n r a b (All-head (IsKnown t w.objects) b [] (All-tail (IsKnown t w.objects) a (b ∷ []) all))
  primitive_good n r (a ∷ b ∷ c ∷ rest) h all = stays
