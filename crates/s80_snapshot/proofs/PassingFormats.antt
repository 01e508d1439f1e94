-- Values that formats spell as bytes, and that are lawful: part by part.
use Rattle.std.proofs.Common.{◌≡◌, ◌<◌, ◌≤◌, ◌^◌, ◌&&◌, ◌++◌, ℕ, Bool, true, false, nat_le, nat_lt, refl, List, [], ◌∷◌, length, arith}
use Rattle.std.specs.List.{AllByRecursion}
use Rattle.std.specs.Int.{w32, to_be_bytes}
use Rattle.std.proofs.lemmas.Bool.Decides.{nat_tests}
use Rattle.s80_image.specs.Format.{Format, are_lawful, byte, list_of, pair, spelled, such_that, text, text_where, word32, word64}
use Rattle.s80_snapshot.proofs.InLists.{all_back, all_front}

abbrev pub AreBytes : List ℕ → Type 0
AreBytes bytes = AllByRecursion (λ b. b < 256) bytes

pub front_bytes : (xs ys : List ℕ) → AreBytes (xs ++ ys) → AreBytes xs
front_bytes xs ys all = all_front (λ b. b < 256) xs ys all

pub back_bytes : (xs ys : List ℕ) → AreBytes (xs ++ ys) → AreBytes ys
back_bytes xs ys all = all_back (λ b. b < 256) xs ys all

pub both_true : (a b : Bool) → a ≡ true → b ≡ true → (a && b) ≡ true
both_true true b first second = second
both_true false b first second = first

pub below : (n limit : ℕ) → n < limit → nat_lt n limit ≡ true
below n limit h = grind (arith, nat_tests)

pub within : (n limit : ℕ) → n ≤ limit → nat_le n limit ≡ true
within n limit h = grind (arith, nat_tests)

-- a value is lawful where what it spells are bytes
abbrev pub Passes : {A : Type 0} → Format A → A → Type 0
Passes f a = AreBytes (f.spell a) → f.lawful a ≡ true

module _ {A B : Type 0} where
  pub pair_passes : (f : Format A) (g : A → Format B) (p : A × B) → Passes f p.0 → Passes (g p.0) p.1 → Passes (pair f g) p
  pair_passes f g p first second bytes =
      both_true (f.lawful p.0) ((g p.0).lawful p.1) (first (front_bytes (f.spell p.0) ((g p.0).spell p.1) bytes)) (second (back_bytes (f.spell p.0) ((g p.0).spell p.1) bytes))

module _ {A : Type 0} where
  pub such_passes : (value : A → ℕ) (test : A → Bool) (f : Format A) (a : A) → Passes f a → test a ≡ true → Passes (such_that value test f) a
  such_passes value test f a first second bytes = both_true (f.lawful a) (test a) (first bytes) second

  -- members behind others, each of which passes
  abbrev pub AllPass : (List A → Format A) → List A → List A → Type 0
  AllPass member before [] = Unit {0}
  AllPass member before (x ∷ xs) = Passes (member before) x × AllPass member (before ++ x ∷ []) xs

  pub members_pass : (member : List A → Format A) (before xs : List A) → AllPass member before xs → AreBytes (spelled member before xs)
      → are_lawful member before xs ≡ true
  members_pass member before [] all bytes = refl
  members_pass member before (x ∷ xs) all bytes =
      let here = (member before).spell x in
      let rest = spelled member (before ++ x ∷ []) xs in
      both_true ((member before).lawful x) (are_lawful member (before ++ x ∷ []) xs) (all.0 (front_bytes here rest bytes)) (members_pass member (before ++ x ∷ []) xs all.1 (back_bytes here rest bytes))

  pub list_passes : (test : ℕ → Bool) (member : List A → Format A) (xs : List A) → length xs < 2 ^ 32 → test (length xs) ≡ true → AllPass member [] xs
      → Passes (list_of test member) xs
  list_passes test member xs few passes all bytes =
      both_true (nat_lt (length xs) (2 ^ 32) && test (length xs)) (are_lawful member [] xs)
      (both_true (nat_lt (length xs) (2 ^ 32)) (test (length xs)) (below (length xs) (2 ^ 32) few) passes)
      (members_pass member [] xs all (back_bytes (to_be_bytes w32 (length xs)) (spelled member [] xs) bytes))

pub text_passes : (t : List ℕ) → length t < 2 ^ 32 → Passes text t
text_passes t brief bytes = below (length t) (2 ^ 32) brief

pub text_where_passes : (test : List ℕ → Bool) (t : List ℕ) → length t < 2 ^ 32 → test t ≡ true → Passes (text_where test) t
text_where_passes test t brief passes = such_passes length test text t (text_passes t brief) passes

pub byte_passes : (n : ℕ) → n < 256 → Passes byte n
byte_passes n small bytes = below n 256 small

pub word32_passes : (n : ℕ) → n < 2 ^ 32 → Passes word32 n
word32_passes n small bytes = below n (2 ^ 32) small

pub word64_passes : (n : ℕ) → n < 2 ^ 64 → Passes word64 n
word64_passes n small bytes = below n (2 ^ 64) small
