-- A literal becomes a value, with the objects that it is.
use Rattle.std.proofs.Common.{◌≡◌, ◌∙◌, ℕ, suc, ◌+◌, ◌≤◌, ◌<◌, ◌++◌, arith, List, [], ◌∷◌, length, map, take, get_or, Bool, true, false, if◌then◌else◌, Option, Some, None, is_some, Result, Ok, Err, IfOk, OnErr, refl, sym, ap, ap₂, subst}
use Rattle.std.specs.List.{list_any}
use Rattle.std.specs.Str.{bytes_eq}
use Rattle.std.proofs.Math.Seq.{take-append_seam}
use Rattle.std.proofs.lemmas.Bool.Decides.{nat_tests}
use Rattle.s80_base.specs.declared.literal.Literal.{Literal, fold-roll-Literal}
use Rattle.s80_base.specs.declared.literal.Literal.TheVariants as variant
use Rattle.s80_base.specs.declared.literal.Literal.TheOpen as layer
use Rattle.s80_base.specs.declared.literal.Literals.{Literals, out-Literals}
use Rattle.s80_base.specs.declared.literal.NumberKind.{NumberKind}
use Rattle.s80_base.specs.declared.text.OutOfMemory.{OutOfMemory}
use Rattle.s80_base.specs.Literal.{LiteralTree, LiteralTrees, small, character, str, symbol, array, true_literal, false_literal, nil_literal, number, no_literals, literals, literals_list, literal_of, literals_of, literals_from, literal_layer, literals_layer}
use Rattle.s80_base.proofs.lemmas.Lists.{literals_open}
use Rattle.s80_object.specs.declared.objects.literal.Marks.{Marks}
use Rattle.s80_object.specs.declared.value.ObjectFault.{ObjectFault}
use Rattle.s80_object.specs.declared.value.ObjectFault.TheVariants.{Full, Memory}
use Rattle.s80_object.specs.declared.value.Value.{Value}
use Rattle.s80_object.specs.Body.{BodyTree, pointers, bytes, words_of, word_limit}
use Rattle.s80_object.specs.Objects.{State, Opaque}
use Rattle.s80_object.specs.Literal.{Built, built, built_all, made, named, opaque_number, is_opaque, with_first, is_object, noted, made_before, PushesFirst, PushesLiteral}
use Rattle.s80_object.specs.Steps.{AreMarks, IsBefore, left_of, words_in, words_in_all}
use Rattle.s80_base.proofs.lemmas.LiteralLists.{literals_left, literals_next, literals_done}
use Rattle.s80_object.proofs.Words.{words_of-append}

-- ---- lists

append_none : {X : Type 0} (xs : List X) → xs ++ [] ≡ xs
append_none [] = refl
append_none (x ∷ xs) = ap (λ l. x ∷ l) (append_none xs)

append_more : {X : Type 0} (xs ys zs : List X) → (xs ++ ys) ++ zs ≡ xs ++ (ys ++ zs)
append_more [] ys zs = refl
append_more (x ∷ xs) ys zs = ap (λ l. x ∷ l) (append_more xs ys zs)

-- ---- what stood before stands in front

pub before_same : (s : State) → IsBefore s s
before_same s = record {
  bodies = [];
  symbols = [];
  numbers = [];
  bodies_are = sym (append_none s.bodies);
  symbols_are = sym (append_none s.symbols);
  numbers_are = sym (append_none s.numbers);
  literals_are = refl;
}

pub before_then : (a b c : State) → IsBefore a b → IsBefore b c → IsBefore a c
before_then a b c p q = record {
  bodies = p.bodies ++ q.bodies;
  symbols = p.symbols ++ q.symbols;
  numbers = p.numbers ++ q.numbers;
  bodies_are = q.bodies_are ∙ ap (λ l. l ++ q.bodies) p.bodies_are ∙ append_more a.bodies p.bodies q.bodies;
  symbols_are = q.symbols_are ∙ ap (λ l. l ++ q.symbols) p.symbols_are ∙ append_more a.symbols p.symbols q.symbols;
  numbers_are = q.numbers_are ∙ ap (λ l. l ++ q.numbers) p.numbers_are ∙ append_more a.numbers p.numbers q.numbers;
  literals_are = q.literals_are ∙ p.literals_are;
}

pub before_made : (b : BodyTree) (s : State) → IsBefore s (made b s).0
before_made b s = record {
  bodies = b ∷ [];
  symbols = [];
  numbers = [];
  bodies_are = refl;
  symbols_are = sym (append_none s.symbols);
  numbers_are = sym (append_none s.numbers);
  literals_are = refl;
}

once_under : {X : Type 0} (b : Bool) (x : X) (xs : List X) → (if b then xs else xs ++ x ∷ []) ≡ xs ++ (if b then [] else x ∷ [])
once_under true x xs = sym (append_none xs)
once_under false x xs = refl

pub before_named : (t : List ℕ) (s : State) → IsBefore s (named t s).0
before_named t s = record {
  bodies = [];
  symbols = if list_any (bytes_eq t) s.symbols then [] else t ∷ [];
  numbers = [];
  bodies_are = sym (append_none s.bodies);
  symbols_are = once_under (list_any (bytes_eq t) s.symbols) t s.symbols;
  numbers_are = sym (append_none s.numbers);
  literals_are = refl;
}

pub before_number : (kind : NumberKind) (t : List ℕ) (s : State) → IsBefore s (opaque_number kind t s).0
before_number kind t s =
    let n : Opaque = record { kind = kind; text = t } in
    record {
      bodies = [];
      symbols = [];
      numbers = if list_any (is_opaque kind t) s.numbers then [] else n ∷ [];
      bodies_are = sym (append_none s.bodies);
      symbols_are = sym (append_none s.symbols);
      numbers_are = once_under (list_any (is_opaque kind t) s.numbers) n s.numbers;
      literals_are = refl;
    }

-- of a step that built something or left all as it was
pub before_step : (old new : State) (b : Built) (r : Result Value OutOfMemory) → IsBefore old b.0 → IfOk r (λ v. (new, v) ≡ b) → OnErr r (new ≡ old) → IsBefore old new
before_step old new b (Ok v) before ok err = subst (IsBefore old) (sym (ap (λ p. p.0) ok)) before
before_step old new b (Err e) before ok err = subst (IsBefore old) (sym err) (before_same old)

-- ---- words

count_built : (strings arrays : ℕ) (vs : LiteralTrees) (s : State) → length (built_all strings arrays vs s).1 ≡ length (literals_list vs)
count_built strings arrays no_literals s = refl
count_built strings arrays (literals v vs) s = ap suc (count_built strings arrays vs (built strings arrays v s).0)

mutual
  pub words_built : (strings arrays : ℕ) (l : LiteralTree) (s : State) → words_of (built strings arrays l s).0.bodies ≡ words_of s.bodies + words_in l
  words_built strings arrays (small n) s = omega arith
  words_built strings arrays (character c) s = omega arith
  words_built strings arrays (str text) s = words_of-append s.bodies (bytes strings text ∷ []) ∙ omega arith
  words_built strings arrays (symbol text) s = omega arith
  words_built strings arrays (array vs) s =
      let p = built_all strings arrays vs s in
      words_of-append p.0.bodies (pointers arrays [] p.1 ∷ []) ∙ omega (arith, words_built_all strings arrays vs s, count_built strings arrays vs s)
  words_built strings arrays true_literal s = omega arith
  words_built strings arrays false_literal s = omega arith
  words_built strings arrays nil_literal s = omega arith
  words_built strings arrays (number kind text) s = omega arith

  pub words_built_all : (strings arrays : ℕ) (vs : LiteralTrees) (s : State) → words_of (built_all strings arrays vs s).0.bodies ≡ words_of s.bodies + words_in_all vs
  words_built_all strings arrays no_literals s = omega arith
  words_built_all strings arrays (literals v vs) s =
      let b = built strings arrays v s in
      words_built_all strings arrays vs b.0 ∙ omega (arith, words_built strings arrays v s)

-- ---- the elements of an array

abbrev behind : List Value → State × List Value → State × List Value
behind values p = (p.0, values ++ p.1)

-- the elements so far are built, and what goes on from here ends as the whole does
pub record GoesOn (strings arrays : ℕ) (all left : LiteralTrees) (old now : State) (values : List Value) : Type 0 where
  pub goes : built_all strings arrays all old ≡ behind values (built_all strings arrays left now)
  pub before : IsBefore old now
  pub room : words_of now.bodies + words_in_all left ≤ word_limit

module _ (strings arrays : ℕ) (ls : Literals) (old : State) where
  pub begins : (xs : List Literal) → xs ≡ (out-Literals ls).items.items → words_of old.bodies + words_in_all (literals_of ls) ≤ word_limit → GoesOn strings arrays (literals_of ls) (literals_left xs 0) old old []
  begins xs is room =
      let all : literals_of ls ≡ literals_left xs 0 = literals_open ls ∙ ap (λ xs. literals_from (map literal_of xs)) (sym is) in
      record {
        goes = ap (λ ls. built_all strings arrays ls old) all;
        before = before_same old;
        room = subst (λ ls. words_of old.bodies + words_in_all ls ≤ word_limit) all room;
      }

  module _ (xs : List Literal) (i : ℕ) (x : Literal) (within : i < length xs) (is : x ≡ get_or xs i x) (now : State) (values : List Value)
      (goes : GoesOn strings arrays (literals_of ls) (literals_left xs i) old now values) where
    both : words_of now.bodies + (words_in (literal_of x) + words_in_all (literals_left xs (i + 1))) ≤ word_limit
    both = subst (λ l. words_of now.bodies + words_in_all l ≤ word_limit) (literals_next xs i x within is) goes.room

    pub one_fits : words_of now.bodies + words_in (literal_of x) ≤ word_limit
    one_fits = omega (arith, both)

    pub goes_on : (new : State) (v : Value) → (new, v) ≡ built strings arrays (literal_of x) now → IsBefore now new → GoesOn strings arrays (literals_of ls) (literals_left xs (i + 1)) old new (values ++ v ∷ [])
    goes_on new v told before =
        let rest = built_all strings arrays (literals_left xs (i + 1)) in
        record {
          goes = goes.goes ∙ ap (λ l. behind values (built_all strings arrays l now)) (literals_next xs i x within is)
              ∙ ap (λ b. behind values (with_first b.1 (rest b.0))) (sym told)
              ∙ ap (λ vs. ((rest new).0, vs)) (sym (append_more values (v ∷ []) (rest new).1));
          before = before_then old now new goes.before before;
          room = omega (arith, both, ap (λ b. words_of b.0.bodies) told, words_built strings arrays (literal_of x) now);
        }

  pub ends : (xs : List Literal) (i : ℕ) → length xs ≤ i → (now : State) (values : List Value) → GoesOn strings arrays (literals_of ls) (literals_left xs i) old now values → (now, values) ≡ built_all strings arrays (literals_of ls) old
  ends xs i past now values goes =
      ap (λ vs. (now, vs)) (sym (append_none values)) ∙ sym (ap (λ l. behind values (built_all strings arrays l now)) (literals_done xs i past)) ∙ sym goes.goes

-- ---- an array behind its elements

pub array_opens : (ls : Literals) → literal_of (variant.Array ls) ≡ array (literals_of ls)
array_opens ls = ap literal_of (sym (variant.rolls-Array ls)) ∙ fold-roll-Literal LiteralTree LiteralTrees literal_layer literals_layer (layer.Array ls)

pub array_fits : (strings arrays : ℕ) (l : Literal) (ls : Literals) (old now : State) (values : List Value) → l ≡ variant.Array ls → words_of old.bodies + words_in (literal_of l) ≤ word_limit
    → (now, values) ≡ built_all strings arrays (literals_of ls) old → words_of now.bodies + (2 + length values) ≤ word_limit
array_fits strings arrays l ls old now values is room told =
    let vs = literals_of ls in
    omega (
      arith,
      subst (λ l. words_of old.bodies + words_in l ≤ word_limit) (ap literal_of is ∙ array_opens ls) room,
      ap (λ p. words_of p.0.bodies) told,
      ap (λ p. length p.1) told,
      words_built_all strings arrays vs old,
      count_built strings arrays vs old,
    )

-- ---- back to the marks

module _ (old s : State) (m : Marks) (marks : AreMarks old m) (before : IsBefore old s) where
  bodies_back : take m.bodies s.bodies ≡ old.bodies
  bodies_back = ap₂ take marks.bodies before.bodies_are ∙ take-append_seam old.bodies before.bodies

  pub words_back : m.words ≡ words_of (take m.bodies s.bodies)
  words_back = marks.words ∙ sym (ap words_of bodies_back)

  pub all_back : record { bodies = take m.bodies s.bodies; symbols = take m.symbols s.symbols; numbers = take m.numbers s.numbers; literals = s.literals } ≡ old
  all_back =
      let symbols : take m.symbols s.symbols ≡ old.symbols = ap₂ take marks.symbols before.symbols_are ∙ take-append_seam old.symbols before.symbols in
      let numbers : take m.numbers s.numbers ≡ old.numbers = ap₂ take marks.numbers before.numbers_are ∙ take-append_seam old.numbers before.numbers in
      λ j. record { bodies = bodies_back j; symbols = symbols j; numbers = numbers j; literals = before.literals_are j }

-- ---- the first push

pub none_is : {X : Type 0} (o : Option X) → ((x : X) → o ≡ Some x → ⊥) → o ≡ None
none_is None other = refl
none_is (Some x) other = absurd (other x refl)

no_room : (room n : ℕ) → is_some (left_of room n) ≡ false → room < n
no_room room n is = grind (arith, nat_tests)

some_room : (room n : ℕ) → is_some (left_of room n) ≡ true → n ≤ room
some_room room n is = grind (arith, nat_tests)

module _ (strings arrays : ℕ) (l : LiteralTree) (old : State) (room : ℕ) (there : words_of old.bodies + room ≡ word_limit) (left : Option ℕ) (told : left ≡ left_of room (words_in l)) where
  pub too_many : is_some left ≡ false → word_limit < words_of (built strings arrays l old).0.bodies
  too_many is = omega (arith, no_room room (words_in l) (sym (ap is_some told) ∙ is), there, words_built strings arrays l old)

  pub within : is_some left ≡ true → words_of old.bodies + words_in l ≤ word_limit
  within is = omega (arith, some_room room (words_in l) (sym (ap is_some told) ∙ is), there)

  pub built_within : is_some left ≡ true → words_of (built strings arrays l old).0.bodies ≤ word_limit
  built_within is = omega (arith, within is, words_built strings arrays l old)

pub is_first : (method entry : ℕ) (s : State) (r : Option Value) → r ≡ made_before method entry s → ((v : Value) → r ≡ Some v → ⊥) → made_before method entry s ≡ None
is_first method entry s r told other = sym told ∙ none_is r other

module _ (strings arrays : ℕ) (l : LiteralTree) (old : State) (room : ℕ) (there : words_of old.bodies + room ≡ word_limit) (left : Option ℕ) (told : left ≡ left_of room (words_in l))
    (method entry : ℕ) (first : made_before method entry old ≡ None) where
  pushes : (new : State) (r : Result Value ObjectFault) → PushesFirst old method entry (is_object l) (built strings arrays l old) new r → PushesLiteral (made_before method entry old) old method entry strings arrays l new r
  pushes new r is = subst (λ o. PushesLiteral o old method entry strings arrays l new r) (sym first) is

  pub refused : is_some left ≡ false → (held : ℕ) → held ≡ words_of old.bodies → PushesLiteral (made_before method entry old) old method entry strings arrays l old (Err (Full held))
  refused is held words = pushes old (Err (Full held)) (refl, (words, too_many strings arrays l old room there left told is))

  pub succeeded : is_some left ≡ true → (new : State) (v : Value) → v ≡ (built strings arrays l old).1 → new ≡ noted method entry (is_object l) (built strings arrays l old)
      → PushesLiteral (made_before method entry old) old method entry strings arrays l new (Ok v)
  succeeded is new v value state = pushes new (Ok v) (value, (state, built_within strings arrays l old room there left told is))

  pub taken_back : is_some left ≡ true → (new : State) → new ≡ old → PushesLiteral (made_before method entry old) old method entry strings arrays l new (Err Memory)
  taken_back is new same = pushes new (Err Memory) (same, built_within strings arrays l old room there left told is)
