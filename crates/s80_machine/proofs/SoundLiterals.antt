-- A literal becomes a known value, in a sound world that goes on.
use Rattle.std.proofs.Common.{◌≡◌, ◌∙◌, ap, sym, subst, refl, ℕ, suc, ◌+◌, ◌<◌, ◌≤◌, ◌==◌, ◌||◌, not, List, [], ◌∷◌, ◌++◌, codes, find, Option, Some, None, Bool, true, false, length, slice_get, All, arith, true≢false, cond, if◌then◌else◌, IfSome, length-append}
use Rattle.std.specs.Option.{option_map}
use Rattle.std.specs.List.{list_any, position_or_len}
use Rattle.std.specs.Str.{bytes_eq}
use Rattle.std.proofs.lemmas.List.Elements.{All-nil, All-cons}
use Rattle.s80_base.specs.Literal.{LiteralTree, LiteralTrees, small, character, str, symbol, array, true_literal, false_literal, nil_literal, number as number_literal, no_literals, literals}
use Rattle.s80_kernel.specs.Rows as rows
use Rattle.s80_class.specs.Table.{Table}
use Rattle.s80_code.specs.declared.code.Code.{Code}
use Rattle.s80_code.specs.Entries.{constant, entries_of}
use Rattle.s80_dict.specs.Table.{MethodsValue}
use Rattle.s80_dict.specs.declared.dict.MethodEntry.{MethodEntry}
use Rattle.s80_object.specs.Body.{pointers, bytes}
use Rattle.s80_object.specs.Literal.{Built, added_once, built, built_all, is_made_at, is_object, is_opaque, made_before, noted}
use Rattle.s80_object.specs.Objects.{State as Objects, Made, Opaque, with_body}
use Rattle.s80_object.specs.declared.value.Value.{Value}
use Rattle.s80_object.specs.declared.value.Value.TheVariants.{Small, Character, Nil, True, False, Object}
use Rattle.s80_prims.specs.Known.{IsKnown}
use Rattle.s80_machine.specs.World.{World, with_objects}
use Rattle.s80_class.specs.Lookup.{number}
use Rattle.s80_machine.specs.Sound.{IsSetting, IsMethod, IsSoundLiteral, IsSoundWorld}
use Rattle.s80_machine.specs.Step.{code_for}
use Rattle.s80_machine.proofs.lemmas.SoundLists.{both_true, same_number}
use Rattle.s80_machine.proofs.SoundClasses.{kernel_number, kernel_plain}
use Rattle.s80_machine.proofs.SoundWorlds.{value_stays}
use Rattle.s80_machine.proofs.SoundChanges.{Follows, body_follows, follows_then, last_known, literal_follows, same_follows, words_follow}
use Rattle.s80_code.proofs.lemmas.TableLemmas.{value}

-- ---- found once

first_most : {X : Type 0} (test : X → Bool) (xs : List X) → position_or_len test xs ≤ length xs
first_most test [] = omega arith
first_most test (y ∷ ys) = elim (test y) as (λ is. cond (not is) (1 + position_or_len test ys) 0 ≤ suc (length ys)) [
  | true ↦ omega arith
  | false ↦ omega (arith, first_most test ys)
]

first_within : {X : Type 0} (test : X → Bool) (xs : List X) → list_any test xs ≡ true → position_or_len test xs < length xs
first_within test [] h = absurd (true≢false (sym h))
first_within test (y ∷ ys) h = elim (test y) as (λ is. (is || list_any test ys) ≡ true → cond (not is) (1 + position_or_len test ys) 0 < suc (length ys)) [
  | true ↦ λ h. omega arith
  | false ↦ λ h. omega (arith, first_within test ys h)
] h

pub first_added : {X : Type 0} (test : X → Bool) (x : X) (xs : List X) → position_or_len test xs < length (added_once test x xs)
first_added {X} test x xs = of (list_any test xs) refl
  where
    of : (any : Bool) → list_any test xs ≡ any → position_or_len test xs < length (if any then xs else xs ++ x ∷ [])
    of true is = first_within test xs is
    of false is = omega (arith, first_most test xs, length-append xs (x ∷ []))

pub no_fewer : {X : Type 0} (test : X → Bool) (x : X) (xs : List X) → length xs ≤ length (added_once test x xs)
no_fewer {X} test x xs = of (list_any test xs)
  where
    of : (any : Bool) → length xs ≤ length (if any then xs else xs ++ x ∷ [])
    of true = omega arith
    of false = omega (arith, length-append xs (x ∷ []))

module _ (t : Table) (methods : MethodsValue (MethodEntry Code)) (code : Code) (setting : IsSetting t methods code) where
  abbrev strings : ℕ
  strings = number t (codes "String")

  abbrev arrays : ℕ
  arrays = number t (codes "Array")

  -- a value in a world that goes on from this one, where it is known
  pub record IsBuilt (w : World) (b : Built) : Type 0 where
    pub follows : Follows t methods code w (with_objects w b.0)
    pub known : IsKnown t b.0 b.1

  record AreBuilt (w : World) (p : Objects × List Value) : Type 0 where
    follows : Follows t methods code w (with_objects w p.0)
    known : All (IsKnown t p.0) p.1

  stays_built : (w : World) (v : Value) → IsSoundWorld t methods code w → IsKnown t w.objects v → IsBuilt w (w.objects, v)
  stays_built w v h known = record { follows = same_follows t methods code w h; known = known }

  string_plain : (w : World) (text : List ℕ) → IsSoundWorld t methods code w → IsBuilt w (with_body w.objects (bytes strings text), Object (length w.objects.bodies))
  unfolding rows.is_kernel_class
  string_plain w text h = record {
    follows = body_follows t methods code w (bytes strings text) h (codes "String", kernel_number t methods code setting (codes "String") refl) (kernel_plain t methods code setting (codes "String") refl refl);
    known = last_known t methods code w (bytes strings text);
  }

  array_plain : (w : World) (values : List Value) → IsSoundWorld t methods code w → All (IsKnown t w.objects) values → IsBuilt w (with_body w.objects (pointers arrays [] values), Object (length w.objects.bodies))
  unfolding rows.is_kernel_class
  array_plain w values h known = record {
    follows = body_follows t methods code w (pointers arrays [] values) h
        ((codes "Array", kernel_number t methods code setting (codes "Array") refl), (All-nil (IsKnown t w.objects), known)) (sym (kernel_plain t methods code setting (codes "Array") refl refl));
    known = last_known t methods code w (pointers arrays [] values);
  }

  mutual
    pub is_built : (l : LiteralTree) (w : World) → IsSoundWorld t methods code w → IsBuilt w (built strings arrays l w.objects)
    is_built (small n) w h = stays_built w (Small n) h tt
    is_built (character c) w h = stays_built w (Character c) h tt
    is_built (str text) w h = string_plain w text h
    is_built (symbol text) w h = record {
      follows = words_follow t methods code w (added_once (bytes_eq text) text w.objects.symbols) w.objects.numbers h (no_fewer (bytes_eq text) text w.objects.symbols) (omega arith);
      known = first_added (bytes_eq text) text w.objects.symbols;
    }
    is_built (array vs) w h =
        let all = are_built vs w h in
        let p = built_all strings arrays vs w.objects in
        let last = array_plain (with_objects w p.0) p.1 all.follows.sound all.known in
        record { follows = follows_then t methods code w (with_objects w p.0) (with_objects w (built strings arrays (array vs) w.objects).0) all.follows last.follows; known = last.known }
    is_built true_literal w h = stays_built w True h tt
    is_built false_literal w h = stays_built w False h tt
    is_built nil_literal w h = stays_built w Nil h tt
    is_built (number_literal kind text) w h =
        let n : Opaque = record { kind = kind; text = text } in
        record {
          follows = words_follow t methods code w w.objects.symbols (added_once (is_opaque kind text) n w.objects.numbers) h (omega arith) (no_fewer (is_opaque kind text) n w.objects.numbers);
          known = first_added (is_opaque kind text) n w.objects.numbers;
        }

    are_built : (vs : LiteralTrees) (w : World) → IsSoundWorld t methods code w → AreBuilt w (built_all strings arrays vs w.objects)
    are_built no_literals w h = record { follows = same_follows t methods code w h; known = All-nil (IsKnown t w.objects) }
    are_built (literals v vs) w h =
        let first = is_built v w h in
        let b = built strings arrays v w.objects in
        let w1 : World = with_objects w b.0 in
        let more = are_built vs w1 first.follows.sound in
        let p = built_all strings arrays vs b.0 in
        let w2 : World = with_objects w p.0 in
        record {
          follows = follows_then t methods code w w1 w2 first.follows more.follows;
          known = All-cons (IsKnown t p.0) b.1 p.1 (value_stays t w1 w2 more.follows.onward b.1 first.known) more.known;
        }

-- ---- a literal's first push, and each later one

module _ (t : Table) (methods : MethodsValue (MethodEntry Code)) (code : Code) where
  found_made : (m k : ℕ) (made : List Made) (o : Option Made) → find (is_made_at m k) made ≡ o → IfSome o (λ x. (i : ℕ) × (slice_get made i ≡ Some x) × (x.method ≡ m) × (x.entry ≡ k))
  found_made m k [] None e = tt
  found_made m k [] (Some x) e = cc
  found_made m k (y ∷ ys) o e = go (is_made_at m k y) refl e (found_made m k ys o)
    where
      later : (o : Option Made) → IfSome o (λ x. (i : ℕ) × (slice_get ys i ≡ Some x) × (x.method ≡ m) × (x.entry ≡ k)) → IfSome o (λ x. (i : ℕ) × (slice_get (y ∷ ys) i ≡ Some x) × (x.method ≡ m) × (x.entry ≡ k))
      later None h = tt
      later (Some x) h = (suc h.0, h.1, h.2, h.3)

      go : (b : Bool) → is_made_at m k y ≡ b → cond b (Some y) (find (is_made_at m k) ys) ≡ o → (find (is_made_at m k) ys ≡ o → IfSome o (λ x. (i : ℕ) × (slice_get ys i ≡ Some x) × (x.method ≡ m) × (x.entry ≡ k)))
          → IfSome o (λ x. (i : ℕ) × (slice_get (y ∷ ys) i ≡ Some x) × (x.method ≡ m) × (x.entry ≡ k))
      go true is e more =
          let parts = both_true (y.method == m) (y.entry == k) is in
          subst (λ o. IfSome o (λ x. (i : ℕ) × (slice_get (y ∷ ys) i ≡ Some x) × (x.method ≡ m) × (x.entry ≡ k))) e
          (0, refl, same_number y.method m parts.0, same_number y.entry k parts.1)
      go false is e more = later o (more e)

  -- what was made before is known, and is an object of this literal
  pub record WasMade (w : World) (l : LiteralTree) (v : Value) : Type 0 where
    pub known : IsKnown t w.objects v
    pub object : is_object l ≡ true

  pub was_made : (w : World) (m k : ℕ) (r : Value) (of : Code) (l : LiteralTree) → IsSoundWorld t methods code w → IsMethod t methods code w m r of → slice_get (entries_of of.literals) k ≡ Some (constant l)
      → (o : Option Value) → made_before m k w.objects ≡ o → IfSome o (WasMade w l)
  was_made w m k r of l h is entry o e = go (find (is_made_at m k) w.objects.literals) (found_made m k w.objects.literals (find (is_made_at m k) w.objects.literals) refl) o e
    where
      made_is : (x : Made) → IsSoundLiteral t methods code w x → x.method ≡ m → x.entry ≡ k → WasMade w l x.value
      made_is x s method_is entry_is =
          let key : s.key ≡ is.key = value (sym s.key_is ∙ ap (slice_get w.keys) method_is ∙ is.key_is) in
          let same : s.of ≡ of = value (sym s.code_is ∙ ap (code_for methods code) key ∙ is.code_is) in
          let literal : Some (constant s.literal) ≡ Some (constant l) = sym s.entry_is ∙ ap (λ c. slice_get (entries_of c.literals) x.entry) same ∙ ap (slice_get (entries_of of.literals)) entry_is ∙ entry in
          let tree : s.literal ≡ l = cc in
          record { known = s.known; object = sym (ap is_object tree) ∙ s.object }

      go : (p : Option Made) → IfSome p (λ x. (i : ℕ) × (slice_get w.objects.literals i ≡ Some x) × (x.method ≡ m) × (x.entry ≡ k)) → (o : Option Value) → option_map (λ m. m.value) p ≡ o → IfSome o (WasMade w l)
      go None f None e = tt
      go None f (Some v) e = cc
      go (Some x) f o e = subst (λ o. IfSome o (WasMade w l)) e (made_is x (h.literals f.0 x f.1) f.2 f.3)

  -- an object is noted, where it stands in the code of its method
  pub noted_follows : (w : World) (m k : ℕ) (r : Value) (of : Code) (l : LiteralTree) (b : Built) (object : Bool) → is_object l ≡ object → IsMethod t methods code (with_objects w b.0) m r of
      → slice_get (entries_of of.literals) k ≡ Some (constant l) → IsSoundWorld t methods code (with_objects w b.0) → IsKnown t b.0 b.1 → Follows t methods code (with_objects w b.0) (with_objects w (noted m k object b))
  noted_follows w m k r of l b false is method entry h known = same_follows t methods code (with_objects w b.0) h
  noted_follows w m k r of l b true is method entry h known =
      literal_follows t methods code (with_objects w b.0) (record { method = m; entry = k; value = b.1 }) h
      (record { known = known; key = method.key; of = of; literal = l; key_is = method.key_is; code_is = method.code_is; entry_is = entry; object = is })
