-- Selectors and numbers of the messages that have bytes of their own.
use Rattle.std.proofs.Common.{◌≡◌, ◌≢◌, ◌∙◌, ◌↔◌, ap, sym, subst, refl, ℕ, suc, ◌+◌, ◌<◌, ◌≤◌, ◌==◌, List, [], ◌∷◌, length, map, codes, Bool, true, false, cond, get_or, slice_get, Option, Some, None, option_and_then, if◌then◌else◌, arith}
use Rattle.std.specs.Option.{option_map, option_map_or}
use Rattle.std.specs.List.{position_from}
use Rattle.std.specs.Str.{bytes_eq}
use Rattle.std.proofs.lemmas.Bool.Decides.{nat_tests}
use Rattle.std.proofs.lemmas.List.{get_or_past}
use Rattle.std.proofs.lemmas.Option.{slice_get-map, slice_get_within, slice_get_read, get_or_from_slice_get}
use Rattle.std.proofs.lemmas.Slice.Eq.{bytes_eq-Decides}
use Rattle.s80_code.specs.declared.special.SpecialMessage.{SpecialMessage as Held}
use Rattle.s80_code.specs.Special.{SpecialMessage, special_messages, special_selectors, special_arguments, block_copy, number_of, unless_copy, special_number, message_of}
use Rattle.s80_code.proofs.lemmas.TableLemmas.{value, holds_below, below_holds}

-- ---- the columns

pub few : (n : ℕ) (s : List ℕ) → slice_get special_selectors n ≡ Some s → n < 32
few n s e = slice_get_within special_selectors n s e

pub columns : (n : ℕ) (m : SpecialMessage) → slice_get special_messages n ≡ Some m → (slice_get special_selectors n ≡ Some m.selector) × (get_or special_arguments n 0 ≡ m.arguments)
columns n m e = (
  slice_get-map (λ (m : SpecialMessage). m.selector) special_messages n ∙ ap (option_map (λ (m : SpecialMessage). m.selector)) e,
  get_or_from_slice_get special_arguments n m.arguments 0
      (slice_get-map (λ (m : SpecialMessage). m.arguments) special_messages n ∙ ap (option_map (λ (m : SpecialMessage). m.arguments)) e),
)

-- ---- a selector's number

same : (x y : ℕ) → (x == y) ≡ true → x ≡ y
same x y e = grind (arith, nat_tests)

found_from : (ms : List SpecialMessage) (s : List ℕ) (i n : ℕ) → position_from (λ (m : SpecialMessage). bytes_eq m.selector s) i ms ≡ Some n
    → (k : ℕ) × (n ≡ i + k) × (slice_get (map (λ (m : SpecialMessage). m.selector) ms) k ≡ Some s)
found_from [] s i n e = cc
found_from (m ∷ ms) s i n e = by_test (bytes_eq m.selector s) (bytes_eq-Decides m.selector s).0 (found_from ms s (i + 1) n) e
  where
    by_test : (b : Bool) → (b ≡ true → m.selector ≡ s)
        → (position_from (λ (m : SpecialMessage). bytes_eq m.selector s) (i + 1) ms ≡ Some n
        → (k : ℕ) × (n ≡ i + 1 + k) × (slice_get (map (λ (m : SpecialMessage). m.selector) ms) k ≡ Some s))
        → cond b (Some i) (position_from (λ (m : SpecialMessage). bytes_eq m.selector s) (i + 1) ms) ≡ Some n
        → (k : ℕ) × (n ≡ i + k) × (slice_get (map (λ (m : SpecialMessage). m.selector) (m ∷ ms)) k ≡ Some s)
    by_test true is later e = (0, omega (arith, value e), ap Some (is refl))
    by_test false is later e = let (k, far, here) = later e in (suc k, omega (arith, far), here)

pub found : (s : List ℕ) (n : ℕ) → number_of s ≡ Some n → slice_get special_selectors n ≡ Some s
found s n e =
    let (k, far, here) = found_from special_messages s 0 n e in
    let is : k ≡ n = omega (arith, far) in
    subst (λ (j : ℕ). slice_get special_selectors j ≡ Some s) is here

-- the selector at this place has this number
abbrev has_number : ℕ → Option (List ℕ) → Bool
has_number n o = option_map_or (λ s. option_map_or (λ k. k == n) (number_of s) false) o false

all_numbered : holds_below (λ n. has_number n (slice_get special_selectors n)) 32 ≡ true
all_numbered = refl

pub numbered : (s : List ℕ) (n : ℕ) → slice_get special_selectors n ≡ Some s → number_of s ≡ Some n
numbered s n e =
    told (number_of s) (subst (λ o. has_number n o ≡ true) e (below_holds (λ n. has_number n (slice_get special_selectors n)) 32 n all_numbered (few n s e)))
  where
    told : (o : Option ℕ) → option_map_or (λ k. k == n) o false ≡ true → o ≡ Some n
    told None h = cc
    told (Some k) h = ap Some (same k n h)

pub number_law : (s : List ℕ) (n : ℕ) → number_of s ≡ Some n ↔ slice_get special_selectors n ≡ Some s
number_law s n = (found s n, numbered s n)

-- ---- all but `blockCopy:` are sent

pub copy_law : (n : ℕ) → slice_get special_selectors n ≡ Some (codes "blockCopy:") ↔ n ≡ block_copy
copy_law n = (
  λ e. let both : Some n ≡ Some block_copy = sym (numbered (codes "blockCopy:") n e) in value both,
  λ is. subst (λ (k : ℕ). slice_get special_selectors k ≡ Some (codes "blockCopy:")) (sym is) refl,
)

kept : (k n : ℕ) → unless_copy k ≡ Some n → (k ≡ n) × (k ≢ block_copy)
kept k n e = by_test (k == block_copy) refl e
  where
    by_test : (b : Bool) → (k == block_copy) ≡ b → (if b then None else Some k) ≡ Some n → (k ≡ n) × (k ≢ block_copy)
    by_test true is e = cc
    by_test false is e = (value e, λ is_copy. grind (arith, nat_tests))

pub copy_dropped : (k : ℕ) → k ≡ block_copy → unless_copy k ≡ None
copy_dropped k is = ap unless_copy is

pub other_kept : (k : ℕ) → k ≢ block_copy → unless_copy k ≡ Some k
other_kept k differs = by_test (k == block_copy) refl
  where
    by_test : (b : Bool) → (k == block_copy) ≡ b → (if b then None else Some k) ≡ Some k
    by_test true is = absurd (differs (same k block_copy is))
    by_test false is = refl

pub sent_is : (s : List ℕ) (n : ℕ) → special_number s ≡ Some n → (slice_get special_selectors n ≡ Some s) × (n ≢ block_copy)
sent_is s n e = by_number (number_of s) refl e
  where
    by_number : (o : Option ℕ) → number_of s ≡ o → option_and_then unless_copy o ≡ Some n → (slice_get special_selectors n ≡ Some s) × (n ≢ block_copy)
    by_number None is e = cc
    by_number (Some k) is e =
        let (same, differs) = kept k n e in
        subst (λ (j : ℕ). (slice_get special_selectors j ≡ Some s) × (j ≢ block_copy)) same (found s k is, differs)

pub sent_law : (s : List ℕ) (n : ℕ) → special_number s ≡ Some n ↔ (slice_get special_selectors n ≡ Some s) × (n ≢ block_copy)
sent_law s n = (sent_is s n, λ h. ap (option_and_then unless_copy) (numbered s n h.0) ∙ other_kept n h.1)

-- ---- the table as the code holds it

held_from : (rows : List Held) (s : List ℕ) (i : ℕ)
    → position_from (λ (m : Held). bytes_eq m.selector.now s) i rows ≡ position_from (λ (m : SpecialMessage). bytes_eq m.selector s) i (map message_of rows)
held_from [] s i = refl
held_from (m ∷ ms) s i = ap (cond (bytes_eq m.selector.now s) (Some i)) (held_from ms s (i + 1))

pub held_number : (rows : List Held) (s : List ℕ) → map message_of rows ≡ special_messages → position_from (λ (m : Held). bytes_eq m.selector.now s) 0 rows ≡ number_of s
held_number rows s e = held_from rows s 0 ∙ ap (position_from (λ (m : SpecialMessage). bytes_eq m.selector s) 0) e

pub arguments_there : (rows : List Held) (i n : ℕ) (m : Held) → map message_of rows ≡ special_messages → i ≡ n → i < length rows → m ≡ get_or rows i m
    → m.arguments ≡ get_or special_arguments n 0
arguments_there rows i n m same is within read =
    let here : slice_get rows i ≡ Some m = slice_get_read rows (length rows) i m refl within read in
    let there : slice_get special_messages i ≡ Some (message_of m) = ap (λ ms. slice_get ms i) (sym same) ∙ slice_get-map message_of rows i ∙ ap (option_map message_of) here in
    subst (λ (k : ℕ). m.arguments ≡ get_or special_arguments k 0) is (sym (columns i (message_of m) there).1)

pub arguments_past : (rows : List Held) (i n : ℕ) → length rows ≡ 32 → i ≡ n → length rows ≤ i → 0 ≡ get_or special_arguments n 0
arguments_past rows i n count is past = sym (get_or_past special_arguments n 0 (omega (arith, count, is, past)))

-- a place in the table that was looked for is the number, or none
pub special_from : (rows : List Held) (s : List ℕ) (o : Option ℕ) → map message_of rows ≡ special_messages → o ≡ position_from (λ (m : Held). bytes_eq m.selector.now s) 0 rows
    → option_and_then unless_copy o ≡ special_number s
special_from rows s o same is = ap (option_and_then unless_copy) (is ∙ held_number rows s same)
