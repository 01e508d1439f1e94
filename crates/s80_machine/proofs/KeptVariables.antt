-- Variables that were assigned: look-ups after an insertion and after a write.
use Rattle.std.proofs.Common.{◌≡◌, ◌∙◌, ap, sym, refl, ℕ, ◌+◌, ◌*◌, ◌<◌, cond, ◌&&◌, nat_eq, nat_lt, List, [], ◌∷◌, Vec, MutBor, Option, Some, None, is_some, option_and_then, Bool, true, false, true≢false, arith}
use Rattle.std.specs.Map.{lookup, set_value}
use Rattle.std.specs.Option.{IsSome, option_copied_mut, option_map}
use Rattle.std.specs.Str.{bytes_eq}
use Rattle.std.specs.Cmp.Lexicographic.{bytes_decides}
use Rattle.std.proofs.lemmas.Bool.Decides.{nat_tests}
use Rattle.indexmap.specs.IndexMap.{IndexMap, insert_entry}
use Rattle.s80_object.specs.declared.value.Value.{Value}
use Rattle.s80_machine.specs.declared.variables.Variables.{Variables}
use Rattle.s80_machine.specs.World.{Variable, class_variable, outer, class_side}
use Rattle.s80_machine.specs.Seen.{IsNamed, IsSet, held_by_name, held_by_number, value_in}
use Rattle.s80_machine.proofs.lemmas.SoundLists.{same_number, number_same}

-- ---- tests

twice : {A : Type 0} (b : Bool) (x y z : A) → cond b x z ≡ cond b x (cond b y z)
twice true x y z = refl
twice false x y z = refl

-- two keys that differ
swapped : {A : Type 0} (a b : Bool) (x y z : A) → (a ≡ true → b ≡ true → ⊥) → cond a x (cond b y z) ≡ cond b y (cond a x z)
swapped true true x y z apart = absurd (apart refl refl)
swapped true false x y z apart = refl
swapped false b x y z apart = refl

found_under : {A B : Type 0} (b : Bool) (p : A × B) (r : Option B) (s : Option (A × B)) → r ≡ option_map (λ e. e.1) s → cond b (Some p.1) r ≡ option_map (λ e. e.1) (cond b (Some p) s)
found_under true p r s is = refl
found_under false p r s is = is

pub some_mut : {X : Type 0} (r : Option (MutBor X)) → is_some (option_copied_mut r) ≡ true → IsSome r
some_mut None h = h
some_mut (Some x) h = refl

pub none_of : {X : Type 0} (r : Option X) → false ≡ is_some r → r ≡ None
none_of None h = refl
none_of (Some x) h = absurd (true≢false (sym h))

abbrev pub entries_in : {K V S : Type 0} → IndexMap K V S → List (K × V)
entries_in m = m.entries

-- ---- entries by what their keys are

module _ {U : Type 0} (same : U → U → Bool) (same_is : (x y : U) → same x y ≡ true → x ≡ y) (is_same : (x : U) → same x x ≡ true) where
  never_both : (x k q : U) → same q k ≡ false → same x k ≡ true → same x q ≡ true → ⊥
  never_both x k q apart a b =
      let e : q ≡ k = sym (same_is x q b) ∙ same_is x k a in
      true≢false (sym (is_same q) ∙ ap (same q) e ∙ apart)

module _ {K V U : Type 0} (of : K → U) (same : U → U → Bool) (same_is : (x y : U) → same x y ≡ true → x ≡ y) (is_same : (x : U) → same x x ≡ true) where
  abbrev held : U → List (K × V) → Option V
  held u es = lookup (λ k. same u (of k)) es

  abbrev with_new : List (K × V) → K → V → List (K × V)
  with_new es k v = insert_entry (λ a b. same (of a) (of b)) es k v

  -- a value for a key
  pub after_new : (es : List (K × V)) (k : K) (v : V) (u : U) → held u (with_new es k v) ≡ cond (same u (of k)) (Some v) (held u es)
  after_new [] k v u = refl
  after_new (e ∷ es) k v u = go (same (of k) (of e.0)) refl (after_new es k v u)
    where
      go : (b : Bool) → same (of k) (of e.0) ≡ b → held u (with_new es k v) ≡ cond (same u (of k)) (Some v) (held u es)
          → held u (cond b ((e.0, v) ∷ es) (e ∷ with_new es k v)) ≡ cond (same u (of k)) (Some v) (cond (same u (of e.0)) (Some e.1) (held u es))
      go true is rest =
          let key : of k ≡ of e.0 = same_is (of k) (of e.0) is in
          twice (same u (of e.0)) (Some v) (Some e.1) (held u es) ∙ ap (λ q. cond (same u q) (Some v) (cond (same u (of e.0)) (Some e.1) (held u es))) (sym key)
      go false is rest =
          ap (cond (same u (of e.0)) (Some e.1)) rest
          ∙ swapped (same u (of e.0)) (same u (of k)) (Some e.1) (Some v) (held u es) (never_both same same_is is_same u (of e.0) (of k) is)

  -- a write to the value of a key that is there
  pub after_write : (es : List (K × V)) (q : U) (v : V) (u : U) → is_some (held q es) ≡ true → held u (set_value (λ k. same q (of k)) es v) ≡ cond (same u q) (Some v) (held u es)
  after_write [] q v u there = absurd (true≢false (sym there))
  after_write (e ∷ es) q v u there = go (same q (of e.0)) refl there (after_write es q v u)
    where
      go : (b : Bool) → same q (of e.0) ≡ b → is_some (cond b (Some e.1) (held q es)) ≡ true → (is_some (held q es) ≡ true → held u (set_value (λ k. same q (of k)) es v) ≡ cond (same u q) (Some v) (held u es))
          → held u (cond b ((e.0, v) ∷ es) (e ∷ set_value (λ k. same q (of k)) es v)) ≡ cond (same u q) (Some v) (cond (same u (of e.0)) (Some e.1) (held u es))
      go true is there rest =
          let key : q ≡ of e.0 = same_is q (of e.0) is in
          twice (same u (of e.0)) (Some v) (Some e.1) (held u es) ∙ ap (λ q. cond (same u q) (Some v) (cond (same u (of e.0)) (Some e.1) (held u es))) (sym key)
      go false is there rest =
          ap (cond (same u (of e.0)) (Some e.1)) (rest there)
          ∙ swapped (same u (of e.0)) (same u q) (Some e.1) (Some v) (held u es) (never_both same same_is is_same u (of e.0) q is)

-- ---- by name

texts_is : (x y : List ℕ) → bytes_eq x y ≡ true → x ≡ y
texts_is x y e = (bytes_decides x y).0 e

is_text : (x : List ℕ) → bytes_eq x x ≡ true
is_text x = (bytes_decides x x).1 refl

module _ {V Z : Type 0} where
  pub by_name : (es : List (Vec ℕ Z × V)) (q : List ℕ) → lookup (λ k. bytes_eq q k.items) es ≡ held_by_name es q
  by_name [] q = refl
  by_name (e ∷ es) q = found_under (bytes_eq q e.0.items) e _ _ (by_name es q)

  pub found_by_name : (es : List (Vec ℕ Z × V)) (q name : List ℕ) (r : Option V) → q ≡ name → r ≡ lookup (λ k. bytes_eq q k.items) es → r ≡ held_by_name es name
  found_by_name es q name r key is = is ∙ by_name es q ∙ ap (held_by_name es) key

  -- a name more, or another value of one that is there
  pub name_put : (es new : List (Vec ℕ Z × V)) (k : Vec ℕ Z) (name : List ℕ) (v : V) → k.items ≡ name → new ≡ insert_entry (λ a b. bytes_eq a.items b.items) es k v → IsNamed es name v new
  name_put es new k name v key is = λ u.
      ap (λ l. held_by_name l u) is ∙ sym (by_name (insert_entry (λ a b. bytes_eq a.items b.items) es k v) u)
      ∙ after_new (λ (k : Vec ℕ Z). k.items) bytes_eq texts_is is_text es k v u
      ∙ ap (λ r. cond (bytes_eq u k.items) (Some v) r) (by_name es u) ∙ ap (λ q. cond (bytes_eq u q) (Some v) (held_by_name es u)) key

  pub name_written : (es new : List (Vec ℕ Z × V)) (q name : List ℕ) (v : V) → q ≡ name → is_some (lookup (λ k. bytes_eq q k.items) es) ≡ true → new ≡ set_value (λ k. bytes_eq q k.items) es v → IsNamed es name v new
  name_written es new q name v key there is = λ u.
      ap (λ l. held_by_name l u) is ∙ sym (by_name (set_value (λ k. bytes_eq q k.items) es v) u)
      ∙ after_write (λ (k : Vec ℕ Z). k.items) bytes_eq texts_is is_text es q v u there
      ∙ ap (λ r. cond (bytes_eq u q) (Some v) r) (by_name es u) ∙ ap (λ p. cond (bytes_eq u p) (Some v) (held_by_name es u)) key

  -- it is there
  pub named_there : (es : List (Vec ℕ Z × V)) (name : List ℕ) (v : V) (old : Option V) → held_by_name es name ≡ cond (bytes_eq name name) (Some v) old → is_some (held_by_name es name) ≡ true
  named_there es name v old is = ap is_some (is ∙ ap (λ b. cond b (Some v) old) (is_text name))

-- ---- by number

pub by_number : (es : List (ℕ × Value)) (q : ℕ) → lookup (nat_eq q) es ≡ held_by_number es q
by_number [] q = refl
by_number (e ∷ es) q = found_under (nat_eq q e.0) e _ _ (by_number es q)

pub number_put : (es new : List (ℕ × Value)) (k n : ℕ) (v : Value) → k ≡ n → new ≡ insert_entry nat_eq es k v → (u : ℕ) → held_by_number new u ≡ cond (nat_eq u n) (Some v) (held_by_number es u)
number_put es new k n v key is u =
    ap (λ l. held_by_number l u) is ∙ sym (by_number (insert_entry nat_eq es k v) u)
    ∙ after_new (λ (n : ℕ). n) nat_eq same_number (λ n. number_same n n refl) es k v u ∙ ap (λ r. cond (nat_eq u k) (Some v) r) (by_number es u)
    ∙ ap (λ m. cond (nat_eq u m) (Some v) (held_by_number es u)) key

-- ---- variables

-- the value of a variable of a class itself
pub side_value : (vs : Variables) (c i : ℕ) (r : Option Value) → i < 256 → r ≡ held_by_number vs.of_class_sides.entries (c * 256 + i) → r ≡ value_in vs (class_side c i)
side_value vs c i r small is = is ∙ sym (ap (λ b. cond b (held_by_number vs.of_class_sides.entries (c * 256 + i)) None) within)
  where
    within : nat_lt i 256 ≡ true
    within = grind (arith, nat_tests)

same_place : (d j c i : ℕ) → j < 256 → i < 256 → nat_eq (d * 256 + j) (c * 256 + i) ≡ (nat_eq d c && nat_eq j i)
same_place d j c i small other = grind (arith, nat_tests)

side_test : (d j c i : ℕ) (b : Bool) (x : Value) (old : Option Value) → i < 256 → nat_lt j 256 ≡ b
    → cond b (cond (nat_eq (d * 256 + j) (c * 256 + i)) (Some x) old) None ≡ cond (nat_eq d c && nat_eq j i) (Some x) (cond b old None)
side_test d j c i true x old small is = ap (λ t. cond t (Some x) old) (same_place d j c i within small)
  where
    within : j < 256
    within = grind (arith, nat_tests)
side_test d j c i false x old small is = ap (λ t. cond t (Some x) None) (sym apart)
  where
    apart : (nat_eq d c && nat_eq j i) ≡ false
    apart = grind (arith, nat_tests)

-- a variable of a class itself was set
pub side_set : (old new : Variables) (c i : ℕ) (x : Value) → i < 256 → new.of_classes ≡ old.of_classes → new.outer ≡ old.outer
    → ((u : ℕ) → held_by_number new.of_class_sides.entries u ≡ cond (nat_eq u (c * 256 + i)) (Some x) (held_by_number old.of_class_sides.entries u)) → IsSet old (class_side c i) x new
side_set old new c i x small classes names put (class_variable class name) = λ j. option_and_then (λ named. held_by_name named.entries name) (held_by_name (classes j).entries class)
side_set old new c i x small classes names put (outer name) = λ j. held_by_name (names j).entries name
side_set old new c i x small classes names put (class_side d k) =
    ap (λ o. cond (nat_lt k 256) o None) (put (d * 256 + k)) ∙ side_test d k c i (nat_lt k 256) x (held_by_number old.of_class_sides.entries (d * 256 + k)) small refl

-- an outer variable was set
pub outer_set : (old new : Variables) (name : List ℕ) (x : Value) → new.of_classes ≡ old.of_classes → new.of_class_sides ≡ old.of_class_sides → IsNamed old.outer.entries name x new.outer.entries
    → IsSet old (outer name) x new
outer_set old new name x classes sides put (class_variable class word) = λ j. option_and_then (λ named. held_by_name named.entries word) (held_by_name (classes j).entries class)
outer_set old new name x classes sides put (outer word) = put word
outer_set old new name x classes sides put (class_side d k) = λ j. cond (nat_lt k 256) (held_by_number (sides j).entries (d * 256 + k)) None

module _ {E Z : Type 0} (inner : E → List (Vec ℕ Z × Value)) (es new : List (Vec ℕ Z × E)) (class : List ℕ) where
  -- a class more, without variables
  pub class_more : (empty : E) → inner empty ≡ [] → held_by_name es class ≡ None → IsNamed es class empty new
      → (c n : List ℕ) → option_and_then (λ e. held_by_name (inner e) n) (held_by_name new c) ≡ option_and_then (λ e. held_by_name (inner e) n) (held_by_name es c)
  class_more empty none absent put c n = ap (option_and_then (λ e. held_by_name (inner e) n)) (put c) ∙ go (bytes_eq c class) refl
    where
      go : (b : Bool) → bytes_eq c class ≡ b → option_and_then (λ e. held_by_name (inner e) n) (cond b (Some empty) (held_by_name es c)) ≡ option_and_then (λ e. held_by_name (inner e) n) (held_by_name es c)
      go true is =
          ap (λ l. held_by_name l n) none
          ∙ sym (ap (λ q. option_and_then (λ e. held_by_name (inner e) n) (held_by_name es q)) (texts_is c class is) ∙ ap (option_and_then (λ e. held_by_name (inner e) n)) absent)
      go false is = refl

  -- a variable of a class that has some was set
  pub class_written : (name : List ℕ) (m w : E) (x : Value) → held_by_name es class ≡ Some m → IsNamed es class w new → IsNamed (inner m) name x (inner w)
      → (c n : List ℕ) → option_and_then (λ e. held_by_name (inner e) n) (held_by_name new c)
      ≡ cond (bytes_eq c class && bytes_eq n name) (Some x) (option_and_then (λ e. held_by_name (inner e) n) (held_by_name es c))
  class_written name m w x there put inside c n = ap (option_and_then (λ e. held_by_name (inner e) n)) (put c) ∙ go (bytes_eq c class) refl
    where
      go : (b : Bool) → bytes_eq c class ≡ b → option_and_then (λ e. held_by_name (inner e) n) (cond b (Some w) (held_by_name es c))
          ≡ cond (b && bytes_eq n name) (Some x) (option_and_then (λ e. held_by_name (inner e) n) (held_by_name es c))
      go true is =
          inside n
          ∙ ap (cond (bytes_eq n name) (Some x))
          (sym (ap (λ q. option_and_then (λ e. held_by_name (inner e) n) (held_by_name es q)) (texts_is c class is) ∙ ap (option_and_then (λ e. held_by_name (inner e) n)) there))
      go false is = refl

-- a class more, and its variables are as before
pub class_added : (old new : Variables) → new.outer ≡ old.outer → new.of_class_sides ≡ old.of_class_sides
    → ((c n : List ℕ) → value_in new (class_variable c n) ≡ value_in old (class_variable c n)) → (v : Variable) → value_in new v ≡ value_in old v
class_added old new names sides put (class_variable c n) = put c n
class_added old new names sides put (outer word) = λ j. held_by_name (names j).entries word
class_added old new names sides put (class_side d k) = λ j. cond (nat_lt k 256) (held_by_number (sides j).entries (d * 256 + k)) None

-- a class variable was set
pub class_set : (old mid new : Variables) (class name : List ℕ) (x : Value) → ((v : Variable) → value_in mid v ≡ value_in old v) → new.outer ≡ mid.outer → new.of_class_sides ≡ mid.of_class_sides
    → ((c n : List ℕ) → value_in new (class_variable c n) ≡ cond (bytes_eq c class && bytes_eq n name) (Some x) (value_in mid (class_variable c n))) → IsSet old (class_variable class name) x new
class_set old mid new class name x same names sides put (class_variable c n) = put c n ∙ ap (cond (bytes_eq c class && bytes_eq n name) (Some x)) (same (class_variable c n))
class_set old mid new class name x same names sides put (outer word) = (λ j. held_by_name (names j).entries word) ∙ same (outer word)
class_set old mid new class name x same names sides put (class_side d k) = (λ j. cond (nat_lt k 256) (held_by_number (sides j).entries (d * 256 + k)) None) ∙ same (class_side d k)
