-- Formats whose values are read again as they were spelled, and from nothing else.
use Rattle.std.proofs.Common.{◌≡◌, ℕ, zero, suc, ◌+◌, ◌^◌, ◌<◌, ◌≤◌, Bool, true, false, ◌&&◌, cond, ltb, List, [], ◌∷◌, ◌++◌, length, get_or, take, drop, Result, Ok, Err, refl, sym, ap, ap₂, subst, ◌∙◌, append_assoc, arith, inl, inr}
use Rattle.std.specs.Int.{Width, w32, w64, byte_len, from_be_bytes, to_be_bytes}
use Rattle.std.proofs.lemmas.Bool.{cases_lt, ltb-false, ltb-true, le-ltb, lt-ltb}
use Rattle.std.proofs.lemmas.List.{take_at, drop_at, take-append-drop, append-nil, length-append, length-take, get_or-drop, get_or-take, get_or_past}
use Rattle.std.proofs.lemmas.Nat.{be_bytes_4, be_bytes_8, from_be_bytes-to_be_bytes_4, from_be_bytes-to_be_bytes_8}
use Rattle.s80_image.specs.declared.fault.Fault.{Fault}
use Rattle.s80_image.specs.declared.fault.Fault.TheVariants.{Short, Field}
use Rattle.s80_image.specs.Format.{◌>>=◌, Format, byte, number, word32, word64, text, such_that, mapped, pair, spelled, are_lawful, members, list_of, number_where}

-- ---- bytes

abbrev pub IsBytes : List ℕ → Type 0
IsBytes bytes = (i : ℕ) → get_or bytes i 0 < 256

pub IsBytes-drop : (n : ℕ) (bytes : List ℕ) → IsBytes bytes → IsBytes (drop n bytes)
IsBytes-drop n bytes h i = rw get_or-drop (h (n + i))

pub IsBytes-take : (n : ℕ) (bytes : List ℕ) → IsBytes bytes → IsBytes (take n bytes)
IsBytes-take n bytes h i =
    elim (cases_lt i n) [
      | inl lt ↦ rw (get_or-take n bytes i 0 lt) (h i)
      | inr le ↦ rw (get_or_past (take n bytes) i 0 (omega (arith, length-take n bytes))) (omega arith)
    ]

pub IsBytes-behind : (a bytes : List ℕ) → IsBytes (a ++ bytes) → IsBytes bytes
IsBytes-behind a bytes h = subst IsBytes (drop_at a bytes (length a) refl) (IsBytes-drop (length a) (a ++ bytes) h)

-- ---- steps that did not fail

pub bind_ok : {A B : Type 0} (r : Result A Fault) (f : A → Result B Fault) (y : B) → (r >>= f) ≡ Ok y → (x : A) × (r ≡ Ok x) × (f x ≡ Ok y)
bind_ok (Ok x) f y e = (x, refl, e)
bind_ok (Err d) f y e = absurd cc

pub guard_ok : {A : Type 0} (b : Bool) (d : Fault) (x y : A) → cond b (Err d) (Ok x) ≡ Ok y → (b ≡ false) × (x ≡ y)
guard_ok true d x y e = absurd cc
guard_ok false d x y e = (refl, cc)

pub passed_ok : {A : Type 0} (b : Bool) (d : Fault) (x y : A) → cond b (Ok x) (Err d) ≡ Ok y → (b ≡ true) × (x ≡ y)
passed_ok true d x y e = (refl, cc)
passed_ok false d x y e = absurd cc

abbrev done : {A : Type 0} → A → Result A Fault
done x = Ok x

pub ok_is : {A : Type 0} (x y : A) → done x ≡ done y → x ≡ y
ok_is x y e = cc

pub both : (a b : Bool) → a ≡ true → b ≡ true → (a && b) ≡ true
both a b p q = rw (p, q) refl

pub of_both : (a b : Bool) → (a && b) ≡ true → (a ≡ true) × (b ≡ true)
of_both true true e = (refl, refl)
of_both true false e = absurd cc
of_both false b e = absurd cc

-- ---- the laws of a format

-- what is read of bytes is lawful, and the bytes are its spelling and the rest
pub record Takes {A : Type 0} (f : Format A) (bytes : List ℕ) (x : A × List ℕ) : Type 0 where
  pub parts : bytes ≡ f.spell x.0 ++ x.1
  pub is_lawful : f.lawful x.0 ≡ true

pub record IsFormat {A : Type 0} (f : Format A) : Type 0 where
  pub takes : (bytes : List ℕ) (x : A × List ℕ) → IsBytes bytes → f.read bytes ≡ Ok x → Takes f bytes x
  pub again : (a : A) (rest : List ℕ) → f.lawful a ≡ true → f.read (f.spell a ++ rest) ≡ Ok (a, rest)

pub rest_fits : {A : Type 0} (f : Format A) (bytes : List ℕ) (x : A × List ℕ) → IsBytes bytes → Takes f bytes x → IsBytes x.1
rest_fits f bytes x fits t = IsBytes-behind (f.spell x.0) x.1 (subst IsBytes t.parts fits)

-- ---- single fields

pub byte_law : IsFormat byte
byte_law = record {
  takes = byte_takes;
  again = λ a rest e. refl;
}
  where
    byte_takes : (bytes : List ℕ) (x : ℕ × List ℕ) → IsBytes bytes → byte.read bytes ≡ Ok x → Takes byte bytes x
    byte_takes [] x fits e = absurd cc
    byte_takes (b ∷ bytes) x fits e = subst (λ y. Takes byte (b ∷ bytes) y) (ok_is (b, bytes) x e) (record { parts = refl; is_lawful = lt-ltb b 256 (fits 0) })

pub record IsWide (w : Width) (limit : ℕ) : Type 0 where
  pub len : (n : ℕ) → length (to_be_bytes w n) ≡ byte_len w
  pub back : (bytes : List ℕ) → length bytes ≡ byte_len w → IsBytes bytes → to_be_bytes w (from_be_bytes w bytes) ≡ bytes
  pub again : (n : ℕ) → n < limit → from_be_bytes w (to_be_bytes w n) ≡ n
  pub below : (bytes : List ℕ) → IsBytes bytes → from_be_bytes w bytes < limit

pub wide32 : IsWide w32 (2 ^ 32)
wide32 = record {
  len = λ n. refl;
  back = λ bytes len fits. be_bytes_4 bytes _ len fits refl;
  again = λ n lt. from_be_bytes-to_be_bytes_4 n lt;
  below = λ bytes fits. omega (arith, fits 0, fits 1, fits 2, fits 3);
}

pub wide64 : IsWide w64 (2 ^ 64)
wide64 = record {
  len = λ n. refl;
  back = λ bytes len fits. be_bytes_8 bytes _ len fits refl;
  again = λ n lt. from_be_bytes-to_be_bytes_8 n lt;
  below = λ bytes fits. omega (arith, fits 0, fits 1, fits 2, fits 3, fits 4, fits 5, fits 6, fits 7);
}

pub number_law : (w : Width) (limit : ℕ) → IsWide w limit → IsFormat (number w limit)
number_law w limit wide = record {
  takes = λ bytes x fits e.
      let g = guard_ok (ltb (length bytes) (byte_len w)) Short (from_be_bytes w (take (byte_len w) bytes), drop (byte_len w) bytes) x e in
      let long : byte_len w ≤ length bytes = ltb-false _ _ g.0 in
      let front : to_be_bytes w (from_be_bytes w (take (byte_len w) bytes)) ≡ take (byte_len w) bytes = wide.back (take (byte_len w) bytes) (omega (arith, length-take (byte_len w) bytes)) (IsBytes-take (byte_len w) bytes fits) in
      subst (λ y. Takes (number w limit) bytes y) g.1 (record {
        parts = rw front (sym (take-append-drop (byte_len w) bytes));
        is_lawful = lt-ltb _ _ (wide.below (take (byte_len w) bytes) (IsBytes-take (byte_len w) bytes fits));
      });
  again = λ n rest e.
      let len = wide.len n in
      let lt : n < limit = ltb-true _ _ e in
      let long : ltb (length (to_be_bytes w n ++ rest)) (byte_len w) ≡ false = le-ltb _ _ (omega (arith, length-append (to_be_bytes w n) rest)) in
      rw (long, take_at (to_be_bytes w n) rest (byte_len w) len, drop_at (to_be_bytes w n) rest (byte_len w) len, wide.again n lt) refl;
}

pub word32_law : IsFormat word32
word32_law = number_law w32 (2 ^ 32) wide32

pub word64_law : IsFormat word64
word64_law = number_law w64 (2 ^ 64) wide64

pub text_law : IsFormat text
text_law = record {
  takes = λ bytes x fits e.
      let b = bind_ok (word32.read bytes) (λ n. cond (ltb (length n.1) n.0) (Err Short) (Ok (take n.0 n.1, drop n.0 n.1))) x e in
      let n = b.0 in
      let t = word32_law.takes bytes n fits b.1 in
      let g = guard_ok (ltb (length n.1) n.0) Short (take n.0 n.1, drop n.0 n.1) x b.2 in
      let long : n.0 ≤ length n.1 = ltb-false _ _ g.0 in
      let len : length (take n.0 n.1) ≡ n.0 = omega (arith, length-take n.0 n.1) in
      let lt : n.0 < 2 ^ 32 = ltb-true _ _ t.is_lawful in
      subst (λ y. Takes text bytes y) g.1 (record {
        parts = t.parts ∙ ap₂ (λ (k : ℕ) (r : List ℕ). to_be_bytes w32 k ++ r) (sym len) (sym (take-append-drop n.0 n.1)) ∙ sym (append_assoc (to_be_bytes w32 (length (take n.0 n.1))) (take n.0 n.1) (drop n.0 n.1));
        is_lawful = lt-ltb _ _ (omega arith);
      });
  again = λ t rest e.
      let long : ltb (length (t ++ rest)) (length t) ≡ false = le-ltb _ _ (omega (arith, length-append t rest)) in
      ap text.read (append_assoc (to_be_bytes w32 (length t)) t rest)
      ∙ rw (word32_law.again (length t) (t ++ rest) e) (rw (long, take_at t rest (length t) refl, drop_at t rest (length t) refl) refl);
}

pub such_that_law : {A : Type 0} (value : A → ℕ) (test : A → Bool) (f : Format A) → IsFormat f → IsFormat (such_that value test f)
such_that_law value test f law = record {
  takes = λ bytes x fits e.
      let b = bind_ok (f.read bytes) (λ y. cond (test y.0) (Ok y) (Err (Field (length bytes) (value y.0)))) x e in
      let t = law.takes bytes b.0 fits b.1 in
      let g = passed_ok (test b.0.0) (Field (length bytes) (value b.0.0)) b.0 x b.2 in
      subst (λ y. Takes (such_that value test f) bytes y) g.1 (record { parts = t.parts; is_lawful = both _ _ t.is_lawful g.0 });
  again = λ a rest e.
      let o = of_both (f.lawful a) (test a) e in
      rw (law.again a rest o.0) (rw o.1 refl);
}

-- ---- several fields

pub mapped_law : {A B : Type 0} (to : A → B) (from : B → A) (f : Format A) → IsFormat f
    → ((a : A) → f.lawful a ≡ true → from (to a) ≡ a) → ((b : B) → to (from b) ≡ b) → IsFormat (mapped to from f)
mapped_law to from f law back forth = record {
  takes = λ bytes x fits e.
      let b = bind_ok (f.read bytes) (λ y. Ok (to y.0, y.1)) x e in
      let t = law.takes bytes b.0 fits b.1 in
      let same = back b.0.0 t.is_lawful in
      subst (λ y. Takes (mapped to from f) bytes y) (ok_is (to b.0.0, b.0.1) x b.2) (record {
        parts = t.parts ∙ ap (λ a. f.spell a ++ b.0.1) (sym same);
        is_lawful = ap f.lawful same ∙ t.is_lawful;
      });
  again = λ b rest e. rw (law.again (from b) rest e) (ap (λ y. Ok (y, rest)) (forth b));
}

pub pair_law : {A B : Type 0} (f : Format A) (g : A → Format B) → IsFormat f → ((a : A) → IsFormat (g a)) → IsFormat (pair f g)
pair_law f g law laws = record {
  takes = λ bytes x fits e.
      let a = bind_ok (f.read bytes) (λ y. (g y.0).read y.1 >>= λ z. Ok ((y.0, z.0), z.1)) x e in
      let b = bind_ok ((g a.0.0).read a.0.1) (λ z. Ok ((a.0.0, z.0), z.1)) x a.2 in
      let first = law.takes bytes a.0 fits a.1 in
      let second = (laws a.0.0).takes a.0.1 b.0 (rest_fits f bytes a.0 fits first) b.1 in
      subst (λ y. Takes (pair f g) bytes y) (ok_is ((a.0.0, b.0.0), b.0.1) x b.2) (record {
        parts = first.parts ∙ ap (λ r. f.spell a.0.0 ++ r) second.parts ∙ sym (append_assoc (f.spell a.0.0) ((g a.0.0).spell b.0.0) b.0.1);
        is_lawful = both _ _ first.is_lawful second.is_lawful;
      });
  again = λ p rest e.
      let o = of_both (f.lawful p.0) ((g p.0).lawful p.1) e in
      ap (pair f g).read (append_assoc (f.spell p.0) ((g p.0).spell p.1) rest)
      ∙ rw (law.again p.0 ((g p.0).spell p.1 ++ rest) o.0) (rw ((laws p.0).again p.1 rest o.1) refl);
}

-- ---- lists

-- what is read as so many members behind others
pub record TakesMembers {A : Type 0} (member : List A → Format A) (before : List A) (n : ℕ) (bytes : List ℕ) (x : List A × List ℕ) : Type 0 where
  pub more : List A
  pub all : x.0 ≡ before ++ more
  pub parts : bytes ≡ spelled member before more ++ x.1
  pub is_lawful : are_lawful member before more ≡ true
  pub count : length more ≡ n

pub members_take : {A : Type 0} (member : List A → Format A) → ((before : List A) → IsFormat (member before))
    → (before : List A) (n : ℕ) (bytes : List ℕ) (x : List A × List ℕ) → IsBytes bytes → members member before n bytes ≡ Ok x → TakesMembers member before n bytes x
unfolding members
members_take member laws before zero bytes x fits e =
    subst (λ y. TakesMembers member before 0 bytes y) (ok_is (before, bytes) x e)
    (record { more = []; all = sym (append-nil before); parts = refl; is_lawful = refl; count = refl })
members_take member laws before (suc n) bytes x fits e =
    let a = bind_ok ((member before).read bytes) (λ y. members member (before ++ y.0 ∷ []) n y.1) x e in
    let first = (laws before).takes bytes a.0 fits a.1 in
    let others = members_take member laws (before ++ a.0.0 ∷ []) n a.0.1 x (rest_fits (member before) bytes a.0 fits first) a.2 in
    record {
      more = a.0.0 ∷ others.more;
      all = others.all ∙ append_assoc before (a.0.0 ∷ []) others.more;
      parts = first.parts ∙ ap (λ r. (member before).spell a.0.0 ++ r) others.parts ∙ sym (append_assoc ((member before).spell a.0.0) (spelled member (before ++ a.0.0 ∷ []) others.more) x.1);
      is_lawful = both _ _ first.is_lawful others.is_lawful;
      count = ap suc others.count;
    }

pub members_again : {A : Type 0} (member : List A → Format A) → ((before : List A) → IsFormat (member before))
    → (before xs : List A) (rest : List ℕ) → are_lawful member before xs ≡ true → members member before (length xs) (spelled member before xs ++ rest) ≡ Ok (before ++ xs, rest)
unfolding members
members_again member laws before [] rest e = ap (λ b. Ok (b, rest)) (sym (append-nil before))
members_again member laws before (x ∷ xs) rest e =
    let o = of_both ((member before).lawful x) (are_lawful member (before ++ x ∷ []) xs) e in
    let more = spelled member (before ++ x ∷ []) xs in
    ap (λ b. members member before (suc (length xs)) b) (append_assoc ((member before).spell x) more rest)
    ∙ rw ((laws before).again x (more ++ rest) o.0) (members_again member laws (before ++ x ∷ []) xs rest o.1 ∙ ap (λ b. Ok (b, rest)) (append_assoc before (x ∷ []) xs))

pub list_law : {A : Type 0} (test : ℕ → Bool) (member : List A → Format A) → ((before : List A) → IsFormat (member before)) → IsFormat (list_of test member)
list_law test member laws = record {
  takes = λ bytes x fits e.
      let a = bind_ok ((number_where test word32).read bytes) (λ n. members member [] n.0 n.1) x e in
      let count = (such_that_law (λ n. n) test word32 word32_law).takes bytes a.0 fits a.1 in
      let m = members_take member laws [] a.0.0 a.0.1 x (rest_fits (number_where test word32) bytes a.0 fits count) a.2 in
      let n_is : length x.0 ≡ a.0.0 = ap length m.all ∙ m.count in
      record {
        parts = count.parts ∙ ap₂ (λ (k : ℕ) (r : List ℕ). to_be_bytes w32 k ++ r) (sym n_is) (m.parts ∙ ap (λ xs. spelled member [] xs ++ x.1) (sym m.all)) ∙ sym (append_assoc (to_be_bytes w32 (length x.0)) (spelled member [] x.0) x.1);
        is_lawful = both (ltb (length x.0) (2 ^ 32) && test (length x.0)) (are_lawful member [] x.0) (ap (λ k. ltb k (2 ^ 32) && test k) n_is ∙ count.is_lawful) (ap (are_lawful member []) m.all ∙ m.is_lawful);
      };
  again = λ xs rest e.
      let o = of_both (ltb (length xs) (2 ^ 32) && test (length xs)) (are_lawful member [] xs) e in
      ap (list_of test member).read (append_assoc (to_be_bytes w32 (length xs)) (spelled member [] xs) rest)
      ∙ rw ((such_that_law (λ n. n) test word32 word32_law).again (length xs) (spelled member [] xs ++ rest) o.0) (members_again member laws [] xs rest o.1);
}
