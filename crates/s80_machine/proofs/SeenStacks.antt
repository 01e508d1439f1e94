-- A list seen from its last element, and a stack that is seen so.
use Rattle.std.proofs.Common.{◌≡◌, ◌∙◌, ap, sym, subst, refl, ℕ, zero, suc, ◌+◌, ◌-◌, ◌<◌, ◌≤◌, List, [], ◌∷◌, ◌++◌, length, get_or, set, reverse, take, drop, Option, Some, None, Result, Ok, Err, SomeIff, option_map, arith, append_assoc, append-nil}
use Rattle.std.proofs.lemmas.List.{reverse-append, reverse-reverse, take_all, take_more, take_more_set, take-append-drop, drop_more, length-drop, length-reverse}
use Rattle.std.proofs.lemmas.Grind.{reverse_onto}
use Rattle.s80_object.specs.declared.value.Value.{Value}
use Rattle.s80_machine.specs.declared.halt.Halt.{Halt}
use Rattle.s80_machine.specs.declared.halt.Halt.TheVariants as halt
use Rattle.s80_machine.specs.Turn.{Context}
use Rattle.s80_machine.specs.Seen.{DoesIn, message_in, message_taken, with_stack}

-- ---- the last of a list is seen first

pub last_first : {A : Type 0} (xs : List A) (x : A) → reverse (xs ++ x ∷ []) ≡ x ∷ reverse xs
last_first xs x = reverse-append xs (x ∷ [])

-- so many elements, and one more
pub one_more : {A : Type 0} (xs : List A) (i : ℕ) (x : A) → i < length xs → x ≡ get_or xs i x → take (i + 1) xs ≡ take i xs ++ x ∷ []
one_more xs i x within is = take_more xs i x within ∙ ap (λ y. take i xs ++ y ∷ []) (sym is)

pub one_more_first : {A : Type 0} (xs : List A) (i : ℕ) (x : A) → i < length xs → x ≡ get_or xs i x → reverse (take (i + 1) xs) ≡ x ∷ reverse (take i xs)
one_more_first xs i x within is = ap reverse (one_more xs i x within is) ∙ last_first (take i xs) x

module _ {A : Type 0} (xs : List A) (x : A) (some : 0 < length xs) where
  short : length xs ≤ (length xs - 1) + 1
  short = omega (arith, some)

  low : length xs - 1 < length xs
  low = omega (arith, some)

  pub seen_first : x ≡ get_or xs (length xs - 1) x → reverse xs ≡ x ∷ reverse (take (length xs - 1) xs)
  seen_first is = ap reverse (sym (take_all ((length xs - 1) + 1) xs short)) ∙ one_more_first xs (length xs - 1) x low is

  pub set_first : reverse (set xs (length xs - 1) x) ≡ x ∷ reverse (take (length xs - 1) xs)
  set_first = ap reverse (sym (take_all ((length xs - 1) + 1) (set xs (length xs - 1) x) long) ∙ take_more_set xs (length xs - 1) x low) ∙ last_first (take (length xs - 1) xs) x
    where
      same : (ys : List A) (n : ℕ) (y : A) → length (set ys n y) ≡ length ys
      same [] n y = refl
      same (z ∷ ys) zero y = refl
      same (z ∷ ys) (suc n) y = ap suc (same ys n y)

      long : length (set xs (length xs - 1) x) ≤ (length xs - 1) + 1
      long = omega (arith, same xs (length xs - 1) x, short)

-- ---- a message on a stack

deep_enough : (ys arguments : List Value) (r : Value) (rest : List Value) → message_in (length ys) arguments (ys ++ r ∷ rest) ≡ Some (rest, (r, reverse ys ++ arguments))
deep_enough [] arguments r rest = refl
deep_enough (y ∷ ys) arguments r rest = deep_enough ys (y ∷ arguments) r rest ∙ ap (λ xs. Some (rest, (r, xs))) (sym (ap (λ zs. zs ++ arguments) (reverse_onto ys y []) ∙ append_assoc (reverse ys) (y ∷ []) arguments))

pub too_few : (n : ℕ) (arguments ys : List Value) → length ys ≤ n → message_in n arguments ys ≡ None
too_few zero arguments [] h = refl
too_few zero arguments (y ∷ ys) h = absurd (omega (arith, h))
too_few (suc n) arguments [] h = refl
too_few (suc n) arguments (y ∷ ys) h = too_few n (y ∷ arguments) ys (omega (arith, h))

-- a receiver, and above it as many as there are arguments
pub message_seen : (xs : List Value) (below count : ℕ) (r : Value) → below + (count + 1) ≡ length xs → r ≡ get_or xs below r
    → message_in count [] (reverse xs) ≡ Some (reverse (take below xs), (r, drop (below + 1) xs))
message_seen xs below count r all is =
    let within : below < length xs = omega (arith, all) in
    let arguments = drop (below + 1) xs in
    let parted : xs ≡ take below xs ++ r ∷ arguments =
    sym (take-append-drop below xs) ∙ ap (λ ys. take below xs ++ ys) (drop_more xs below r within ∙ ap (λ y. y ∷ arguments) (sym is)) in
    let turned : reverse xs ≡ reverse arguments ++ r ∷ reverse (take below xs) =
    ap reverse parted ∙ reverse-append (take below xs) (r ∷ arguments) ∙ ap (λ zs. zs ++ reverse (take below xs)) (reverse_onto arguments r [])
    ∙ append_assoc (reverse arguments) (r ∷ []) (reverse (take below xs)) in
    let many : count ≡ length (reverse arguments) = omega (arith, all, length-drop (below + 1) xs, length-reverse arguments) in
    ap (message_in count []) turned ∙ ap (λ n. message_in n [] (reverse arguments ++ r ∷ reverse (take below xs))) many
    ∙ deep_enough (reverse arguments) [] r (reverse (take below xs))
    ∙ ap (λ zs. Some (reverse (take below xs), (r, zs))) (append-nil (reverse (reverse arguments)) ∙ reverse-reverse arguments)

-- there aren't so many
pub too_small : (rest all : ℕ) (o : Option ℕ) → SomeIff o (rest ≤ all) (all - rest) → ((x : ℕ) → o ≡ Some x → ⊥) → all < rest
too_small rest all None is other = omega (arith, is)
too_small rest all (Some x) is other = absurd (other x refl)

module _ {B : Type 0} (seen : B → Value × List Value) (a old : Context) (shows : a ≡ old) (xs : List Value) (stack : a.stack ≡ reverse xs) (count : ℕ) where
  abbrev off : Option (List Value × (Value × List Value)) → Option (Context × (Value × List Value))
  off o = option_map (λ p. (with_stack a p.0, p.1)) o

  -- whatever the message on the stack gives
  by_message : (o : Option (List Value × (Value × List Value))) (new : Context) (r : Result B Halt) → message_in count [] (reverse xs) ≡ o → DoesIn seen (off o) new r → DoesIn seen (message_taken count old) new r
  by_message o new r is does =
      subst (λ c. DoesIn seen (message_taken count c) new r) shows
      (subst (λ s. DoesIn seen (off (message_in count [] s)) new r) (sym stack) (subst (λ m. DoesIn seen (off m) new r) (sym is) does))

  pub no_message : (new : Context) → length xs ≤ count → DoesIn seen (message_taken count old) new (Err halt.Stuck)
  no_message new few = by_message None new (Err halt.Stuck) (too_few count [] (reverse xs) (omega (arith, few, length-reverse xs))) refl

  module _ (below : ℕ) (r : Value) (all : below + (count + 1) ≡ length xs) (is : r ≡ get_or xs below r) where
    pub message_failed : (new : Context) → DoesIn seen (message_taken count old) new (Err halt.Memory)
    message_failed new = by_message (Some (reverse (take below xs), (r, drop (below + 1) xs))) new (Err halt.Memory) (message_seen xs below count r all is) refl

    pub message_off : (ys : List Value) (b : B) → ys ≡ take below xs → seen b ≡ (r, drop (below + 1) xs) → DoesIn seen (message_taken count old) (with_stack a (reverse ys)) (Ok b)
    message_off ys b rest told =
        by_message (Some (reverse (take below xs), (r, drop (below + 1) xs))) (with_stack a (reverse ys)) (Ok b) (message_seen xs below count r all is)
        (told, ap (λ zs. with_stack a (reverse zs)) rest)

-- ---- the two on top

module _ (xs : List Value) (below : ℕ) (all : below + 2 ≡ length xs) where
  first_within : below + 1 < length xs
  first_within = omega (arith, all)

  second_within : below < length xs
  second_within = omega (arith, all)

  long : length xs ≤ (below + 1) + 1
  long = omega (arith, all)

  -- whatever they are read with where there is nothing
  pub turned : (d e : Value) → reverse xs ≡ get_or xs (below + 1) d ∷ (get_or xs below e ∷ reverse (take below xs))
  turned d e =
      ap reverse (sym (take_all ((below + 1) + 1) xs long) ∙ take_more xs (below + 1) d first_within) ∙ last_first (take (below + 1) xs) (get_or xs (below + 1) d)
      ∙ ap (λ l. get_or xs (below + 1) d ∷ l) (ap reverse (take_more xs below e second_within) ∙ last_first (take below xs) (get_or xs below e))

  -- an answer in their place
  pub answered : (v : Value) (ys : List Value) → ys ≡ take (below + 1) (set xs below v) → reverse ys ≡ v ∷ reverse (take below xs)
  answered v ys is = ap reverse (is ∙ take_more_set xs below v second_within) ∙ last_first (take below xs) v
