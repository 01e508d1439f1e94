-- A message with an instruction of its own takes as many arguments as its selector has parameters.
use Rattle.std.proofs.Common.{◌≡◌, ◌≢◌, ◌∙◌, subst, refl, ℕ, ◌==◌, Bool, true, false, cond, get_or, slice_get, List, Option, Some, None, arith}
use Rattle.std.proofs.lemmas.Bool.Decides.{nat_tests}
use Rattle.std.specs.Option.{option_map_or}
use Rattle.s80_lex.specs.Spelling.{IsName, IsBinary}
use Rattle.s80_code.specs.Special.{special_selectors, special_arguments, block_copy, special_number}
use Rattle.s80_code.proofs.lemmas.SpecialLemmas.{few, sent_is}
use Rattle.s80_code.proofs.lemmas.TableLemmas.{value, holds_below, below_holds}
use Rattle.s80_lex.specs.Selector.{IsSelectorOf, is_name, is_binary, keywords_of}
use Rattle.s80_lex.proofs.lemmas.SelectorLemmas.{of_name, of_binary, of_keywords, not_true, name_is, is_name_when, binary_is, is_binary_when}

-- how many parameters a selector has
abbrev arity : List ℕ → Option ℕ
arity word = cond (is_name word) (Some 0) (cond (is_binary word) (Some 1) (keywords_of word))

arity_is : (word : List ℕ) (n : ℕ) → IsSelectorOf n word → arity word ≡ Some n
arity_is word n h = by_tests (is_name word) refl (is_binary word) refl
  where
    by_tests : (named : Bool) → is_name word ≡ named → (binary : Bool) → is_binary word ≡ binary → cond named (Some 0) (cond binary (Some 1) (keywords_of word)) ≡ Some n
    by_tests true e binary f = (of_name word (name_is word e) n).1 h
    by_tests false e true f = (of_binary word (binary_is word f) n).1 h
    by_tests false e false f = (of_keywords word (not_true (is_name word) (IsName word) e (is_name_when word)) (not_true (is_binary word) (IsBinary word) f (is_binary_when word)) n).1 h

-- with this number a message takes as many arguments as its selector has parameters
abbrev takes_as_many : ℕ → Option (List ℕ) → Bool
takes_as_many number o = option_map_or (λ word. option_map_or (λ n. get_or special_arguments number 0 == n) (arity word) false) o false

all_take : holds_below (λ number. takes_as_many number (slice_get special_selectors number)) 32 ≡ true
all_take = refl

taken : (number n : ℕ) (arguments : Option ℕ) → arguments ≡ Some n → option_map_or (λ n. get_or special_arguments number 0 == n) arguments false ≡ true
    → get_or special_arguments number 0 ≡ n
taken number n None e h = cc
taken number n (Some m) e h = same (get_or special_arguments number 0) m h ∙ value e
  where
    same : (x y : ℕ) → (x == y) ≡ true → x ≡ y
    same x y e = grind (arith, nat_tests)

pub special_fits : (s : List ℕ) (n number : ℕ) → IsSelectorOf n s → special_number s ≡ Some number → (get_or special_arguments number 0 ≡ n) × (number ≢ block_copy)
special_fits s n number h e =
    let (here, other) = sent_is s number e in
    let takes = below_holds (λ number. takes_as_many number (slice_get special_selectors number)) 32 number all_take (few number s here) in
    (taken number n (arity s) (arity_is s n h) (subst (λ o. takes_as_many number o ≡ true) here takes), other)
