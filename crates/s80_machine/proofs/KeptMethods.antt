-- Methods that were activated, by their keys as bytes.
use Rattle.std.proofs.Common.{◌≡◌, ◌∙◌, ap, ap₂, sym, subst, refl, ℕ, zero, suc, ◌+◌, ◌-◌, ◌<◌, ◌≤◌, ◌^◌, not, cond, ◌||◌, List, [], ◌∷◌, ◌++◌, take, drop, length, slice_get, get_or, HoldsAt, All, Vec, Bor, Option, Some, None, Bool, true, false, true≢false, arith, if◌then◌else◌, position, rules}
use Rattle.std.specs.Int.{w32, to_be_bytes, from_be_bytes}
use Rattle.std.specs.List.{list_any, position_or_len}
use Rattle.std.specs.Option.{IfSome, MatchOption, option_copied, option_map_or}
use Rattle.std.specs.Str.{bytes_eq}
use Rattle.std.specs.Cmp.Lexicographic.{bytes_decides}
use Rattle.std.proofs.Math.Logic.{⊎_elim}
use Rattle.std.proofs.lemmas.List.{drop-drop, length-append, length-drop}
use Rattle.std.proofs.lemmas.List.Elements.{All-head, All-tail, All-push}
use Rattle.std.proofs.lemmas.Nat.{from_be_bytes-to_be_bytes_4}
use Rattle.std.proofs.lemmas.Option.{slice_get_past, slice_get_read, slice_get_within}
use Rattle.indexmap.specs.IndexSet.{insert_key}
use Rattle.s80_base.specs.declared.names.Side.{Side}
use Rattle.s80_base.specs.declared.names.Side.TheVariants.{Instance, Class}
use Rattle.s80_base.proofs.lemmas.Lists.{length_map}
use Rattle.s80_code.specs.declared.code.Code.{Code}
use Rattle.s80_code.specs.declared.instruction.Instruction.{Instruction}
use Rattle.s80_code.specs.Table.{decoded}
use Rattle.s80_code.proofs.lemmas.TableLemmas.{decodes}
use Rattle.s80_object.proofs.lemmas.Kept.{texts_of, found_place, last_place, added_last}
use Rattle.s80_machine.specs.declared.methods.Activated.{Activated}
use Rattle.s80_machine.specs.World.{Key, method, same_key}
use Rattle.s80_machine.specs.Turn.{begins_block, instructions_in}
use Rattle.s80_machine.specs.Seen.{AreActivated, IsActivated, IsKept, Method, Numbers, is_method, key_bytes, key_in, methods_of, side_byte, side_of_byte}
use Rattle.s80_machine.proofs.lemmas.SoundLists.{get_either_last, keys_same, same_keys}

-- ---- keys

-- a key that these bytes are
abbrev pub IsKey : List ℕ → Type 0
IsKey k = key_bytes (key_in k) ≡ k

side_back : (s : Side) → side_of_byte (side_byte s) ≡ s
side_back Instance = refl
side_back Class = refl

pub key_back : (c : ℕ) (side : Side) (selector : List ℕ) → c < 2 ^ 32 → key_in (key_bytes (method c side selector)) ≡ method c side selector
key_back c side selector small =
    let number : from_be_bytes w32 (take 4 (to_be_bytes w32 c ++ selector)) ≡ c = from_be_bytes-to_be_bytes_4 c small in
    λ i. method (number i) (side_back side i) selector

-- the bytes of a method's place, as they are read
module _ (c : ℕ) (side : Side) (selector k : List ℕ) (small : c < 2 ^ 32) (is : k ≡ key_bytes (method c side selector)) where
  pub key_read : key_in k ≡ method c side selector
  key_read = ap key_in is ∙ key_back c side selector small

  pub key_own : IsKey k
  key_own = ap key_bytes key_read ∙ sym is

not_true : (b : Bool) → (b ≡ true → ⊥) → b ≡ false
not_true true h = absurd (h refl)
not_true false h = refl

module _ (t : List ℕ) (own : IsKey t) where
  same_test : (k : List ℕ) → IsKey k → same_key (key_in t) (key_in k) ≡ bytes_eq t k
  same_test k is = go (bytes_eq t k) refl
    where
      go : (b : Bool) → bytes_eq t k ≡ b → same_key (key_in t) (key_in k) ≡ b
      go true e = subst (λ o. same_key (key_in t) o ≡ true) (ap key_in ((bytes_decides t k).0 e)) (keys_same (key_in t))
      go false e =
          not_true (same_key (key_in t) (key_in k)) (λ h.
          let same : t ≡ k = sym own ∙ ap key_bytes (same_keys (key_in t) (key_in k) h) ∙ is in
          true≢false (sym ((bytes_decides t k).1 same) ∙ e))

  place_same : (ks : List (List ℕ)) (done : List Activated) → length done ≡ length ks → All IsKey ks → position_or_len (is_method (key_in t)) (methods_of ks done) ≡ position_or_len (bytes_eq t) ks
  place_same [] done same all = refl
  place_same (k ∷ ks) [] same all = absurd (omega (arith, same))
  place_same (k ∷ ks) (a ∷ done) same all =
      let less : length done ≡ length ks = omega (arith, same) in
      ap₂ (λ b n. cond (not b) (1 + n) 0) (same_test k (All-head IsKey k ks all)) (place_same ks done less (All-tail IsKey k ks all))

  any_same : (ks : List (List ℕ)) (done : List Activated) → length done ≡ length ks → All IsKey ks → list_any (is_method (key_in t)) (methods_of ks done) ≡ list_any (bytes_eq t) ks
  any_same [] done same all = refl
  any_same (k ∷ ks) [] same all = absurd (omega (arith, same))
  any_same (k ∷ ks) (a ∷ done) same all =
      let less : length done ≡ length ks = omega (arith, same) in
      ap₂ (λ b c. b || c) (same_test k (All-head IsKey k ks all)) (any_same ks done less (All-tail IsKey k ks all))

-- ---- what is shown

abbrev shown : List ℕ → Activated → Method
shown k a = record { key = key_in k; code = a.code.now }

methods_more : (ks : List (List ℕ)) (done : List Activated) (k : List ℕ) (a : Activated) → length done ≡ length ks
    → methods_of (ks ++ k ∷ []) (done ++ a ∷ []) ≡ methods_of ks done ++ record { key = key_in k; code = a.code.now } ∷ []
methods_more [] [] k a same = refl
methods_more [] (x ∷ done) k a same = absurd (omega (arith, same))
methods_more (j ∷ ks) [] k a same = absurd (omega (arith, same))
methods_more (j ∷ ks) (x ∷ done) k a same = let less : length done ≡ length ks = omega (arith, same) in ap (λ ms. shown j x ∷ ms) (methods_more ks done k a less)

shown_at : (ks : List (List ℕ)) (done : List Activated) (i : ℕ) (a : Activated) → length done ≡ length ks → slice_get done i ≡ Some a
    → (k : List ℕ) × (slice_get ks i ≡ Some k) × (slice_get (methods_of ks done) i ≡ Some (record { key = key_in k; code = a.code.now }))
shown_at ks [] i a same e = cc
shown_at [] (x ∷ done) i a same e = absurd (omega (arith, same))
shown_at (k ∷ ks) (x ∷ done) zero a same e = (k, refl, ap (λ o. Some (shown k o)) (unsome e))
  where
    unsome : {A : Type 0} {p q : A} → Some p ≡ Some q → p ≡ q
    unsome e = cc
shown_at (k ∷ ks) (x ∷ done) (suc i) a same e = let less : length done ≡ length ks = omega (arith, same) in shown_at ks done i a less e

none_at : (ks : List (List ℕ)) (done : List Activated) (i : ℕ) → length done ≡ length ks → slice_get done i ≡ None → slice_get (methods_of ks done) i ≡ None
none_at [] done i same e = refl
none_at (k ∷ ks) [] i same e = refl
none_at (k ∷ ks) (x ∷ done) zero same e = cc
none_at (k ∷ ks) (x ∷ done) (suc i) same e = let less : length done ≡ length ks = omega (arith, same) in none_at ks done i less e

pub got : (ks : List (List ℕ)) (done : List Activated) (now : List Method) → AreActivated ks done → methods_of ks done ≡ now → (i : ℕ) (r : Option Activated) → r ≡ slice_get done i
    → MatchOption r (slice_get now i ≡ None) (IsActivated (slice_get now i))
got ks done now are shows i None e = sym (ap (λ ms. slice_get ms i) shows) ∙ none_at ks done i are.count (sym e)
got ks done now are shows i (Some a) e =
    let s = shown_at ks done i a are.count (sym e) in
    subst (λ o. IsActivated o a) (sym s.2 ∙ ap (λ ms. slice_get ms i) shows) (refl, are.kept i s.0 a s.1 (sym e))

-- what stands in a vector
pub read_at : (xs : List Activated) (i : ℕ) (r : Option (Bor Activated)) → IfSome r (λ b. b.now ≡ get_or xs i b.now) → MatchOption r (length xs ≤ i) (λ b. (i < length xs) × HoldsAt (λ y. b.now ≡ y) xs i)
    → option_copied r ≡ slice_get xs i
read_at xs i None is there = sym (slice_get_past xs i there)
read_at xs i (Some b) is there = sym (slice_get_read xs (length xs) i b.now refl there.0 is)

pub none_activated : (ks : List (List ℕ)) (done : List Activated) → ks ≡ [] → done ≡ [] → AreActivated ks done
none_activated ks done no_keys no_methods =
    subst (λ l. AreActivated l done) (sym no_keys) (subst (λ l. AreActivated [] l) (sym no_methods) (record {
      count = refl;
      few = omega arith;
      bytes = search rules;
      kept = λ i k a e. cc;
    }))

-- ---- one more

pub one_more : (ks : List (List ℕ)) (done : List Activated) (k : List ℕ) (a : Activated) → AreActivated ks done → length ks < 2 ^ 32 → IsKey k → IsKept (key_in k) a → AreActivated (ks ++ k ∷ []) (done ++ a ∷ [])
one_more ks done k a are few own kept = record {
  count = length-append done (a ∷ []) ∙ ap (λ n. n + 1) are.count ∙ sym (length-append ks (k ∷ []));
  few = more_few;
  bytes = All-push IsKey ks k are.bytes own;
  kept = λ i j b key there. ⊎_elim (before i j b there) (last i j b there) (get_either_last ks k i j key);
}
  where
    more_few : length (ks ++ k ∷ []) ≤ 2 ^ 32
    more_few = omega (arith, length-append ks (k ∷ []), few)

    same : length done ≡ length ks
    same = are.count

    before : (i : ℕ) (j : List ℕ) (b : Activated) → slice_get (done ++ a ∷ []) i ≡ Some b → slice_get ks i ≡ Some j → IsKept (key_in j) b
    before i j b there key =
        ⊎_elim (λ old. are.kept i j b key old) (λ new. absurd (omega (arith, slice_get_within ks i j key, new.0, same)))
        (get_either_last done a i b there)

    last : (i : ℕ) (j : List ℕ) (b : Activated) → slice_get (done ++ a ∷ []) i ≡ Some b → (i ≡ length ks) × (k ≡ j) → IsKept (key_in j) b
    last i j b there key =
        ⊎_elim (λ old. absurd (omega (arith, slice_get_within done i b old, key.0, same))) (λ new. subst (λ o. IsKept (key_in o) b) key.1 (subst (IsKept (key_in k)) new.1 kept))
        (get_either_last done a i b there)

-- ---- numbers

any_texts : {Z : Type 0} (t : List ℕ) (ks : List (Vec ℕ Z)) → list_any (λ k. bytes_eq t k.items) ks ≡ list_any (bytes_eq t) (texts_of ks)
any_texts t [] = refl
any_texts t (k ∷ ks) = ap (λ b. bytes_eq t k.items || b) (any_texts t ks)

abbrev as_method : Key → Code → Method
as_method key code = record { key = key; code = code }

module _ {Z : Type 0} (ks : List (Vec ℕ Z)) (done : List Activated) (now : List Method) (are : AreActivated (texts_of ks) done) (shows : methods_of (texts_of ks) done ≡ now) (t q : List ℕ) (same : q ≡ t) (own : IsKey t) where
  any_is : list_any (is_method (key_in t)) now ≡ list_any (λ k. bytes_eq q k.items) ks
  any_is =
      sym (ap (list_any (is_method (key_in t))) shows) ∙ any_same t own (texts_of ks) done are.count are.bytes ∙ sym (any_texts t ks)
      ∙ ap (λ (p : List ℕ). list_any (λ (k : Vec ℕ Z). bytes_eq p k.items) ks) (sym same)

  place_is : position_or_len (bytes_eq q) (texts_of ks) ≡ position_or_len (is_method (key_in t)) now
  place_is =
      ap (λ (p : List ℕ). position_or_len (bytes_eq p) (texts_of ks)) same ∙ sym (place_same t own (texts_of ks) done are.count are.bytes)
      ∙ ap (position_or_len (is_method (key_in t))) shows

  -- it was there
  pub number_there : (code : Code) (i : ℕ) → Some i ≡ position (λ k. bytes_eq q k.items) ks → true ≡ list_any (λ k. bytes_eq q k.items) ks → Numbers (key_in t) code now now i
  number_there code i place any = record {
    is = found_place ks (texts_of ks) refl q i place ∙ place_is;
    added = sym (ap (λ (b : Bool). if b then now else now ++ as_method (key_in t) code ∷ []) (any_is ∙ sym any));
  }

  module _ (none : false ≡ list_any (λ k. bytes_eq q k.items) ks) where
    pub new_texts : (k : Vec ℕ Z) (ks' : List (Vec ℕ Z)) → k.items ≡ t → ks' ≡ insert_key (λ a b. bytes_eq a.items b.items) ks k → texts_of ks' ≡ texts_of ks ++ t ∷ []
    new_texts k ks' key is =
        let absent : false ≡ list_any (λ (k : Vec ℕ Z). bytes_eq t k.items) ks = none ∙ ap (λ (p : List ℕ). list_any (λ (k : Vec ℕ Z). bytes_eq p k.items) ks) same in
        added_last ks (texts_of ks) refl t k key ks' is absent ∙ ap (λ (b : Bool). if b then texts_of ks else texts_of ks ++ t ∷ []) (sym (any_texts t ks) ∙ sym absent)

    pub number_new : (code : Code) (n : ℕ) (a : Activated) (ks' : List (List ℕ)) → n ≡ length ks → ks' ≡ texts_of ks ++ t ∷ [] → a.code.now ≡ code → Numbers (key_in t) code now (methods_of ks' (done ++ a ∷ [])) n
    number_new code n a ks' count is holds = record {
      is = count ∙ last_place ks (texts_of ks) refl q none ∙ place_is;
      added = ap (λ l. methods_of l (done ++ a ∷ [])) is ∙ methods_more (texts_of ks) done t a are.count ∙ ap₂ (λ ms c. ms ++ as_method (key_in t) c ∷ []) shows holds
          ∙ sym (ap (λ (b : Bool). if b then now else now ++ as_method (key_in t) code ∷ []) (any_is ∙ sym none));
    }

    pub new_activated : (a : Activated) (ks' : List (List ℕ)) → ks' ≡ texts_of ks ++ t ∷ [] → length ks < 2 ^ 32 → IsKept (key_in t) a → AreActivated ks' (done ++ a ∷ [])
    new_activated a ks' is few kept =
        let small : length (texts_of ks) < 2 ^ 32 = omega (arith, length_map (λ (k : Vec ℕ Z). k.items) ks, few) in
        subst (λ l. AreActivated l (done ++ a ∷ [])) (sym is) (one_more (texts_of ks) done t a are small own kept)

-- ---- whether a real block begins in a code

pub goes_within : (bytes : List ℕ) (at : ℕ) (i : Instruction) (w : ℕ) → decoded (drop at bytes) ≡ Some (i, w) → at ≤ length bytes → at + w ≤ length bytes
goes_within bytes at i w e le = let fits : w ≤ length (drop at bytes) = (decodes (drop at bytes) (i, w) e).within in omega (arith, fits, length-drop at bytes, le)

module _ (bytes : List ℕ) (end counter at : ℕ) (lt : counter < end) where
  more : end - counter ≡ suc (end - (counter + 1))
  more = omega (arith, lt)

  pub none_left : decoded (drop at bytes) ≡ None → list_any begins_block (instructions_in (end - counter) (drop at bytes)) ≡ false
  none_left e =
      let m : ℕ = end - (counter + 1) in
      ap (λ n. list_any begins_block (instructions_in n (drop at bytes))) more
      ∙ ap (λ o. list_any begins_block (option_map_or (λ (p : Instruction × ℕ). p.0 ∷ instructions_in m (drop p.1 (drop at bytes))) o [])) e

  pub some_left : (i : Instruction) (w : ℕ) → decoded (drop at bytes) ≡ Some (i, w)
      → list_any begins_block (instructions_in (end - counter) (drop at bytes)) ≡ (begins_block i || list_any begins_block (instructions_in (end - (counter + 1)) (drop (at + w) bytes)))
  some_left i w e =
      let m : ℕ = end - (counter + 1) in
      ap (λ n. list_any begins_block (instructions_in n (drop at bytes))) more
      ∙ ap (λ o. list_any begins_block (option_map_or (λ (p : Instruction × ℕ). p.0 ∷ instructions_in m (drop p.1 (drop at bytes))) o [])) e
      ∙ ap (λ d. begins_block i || list_any begins_block (instructions_in m d)) (drop-drop w at bytes)

pub none_more : (bytes : List ℕ) (end counter : ℕ) → end ≤ counter → list_any begins_block (instructions_in (end - counter) bytes) ≡ false
none_more bytes end counter le = let none : end - counter ≡ 0 = omega (arith, le) in ap (λ n. list_any begins_block (instructions_in n bytes)) none
