-- How many parameters a selector has: what is counted, and what is spelled so.
use Rattle.std.proofs.Common.{◌≡◌, ◌∙◌, ap, sym, subst, ℕ, inl, inr, ◌==◌, List, Option, Some, None, Bool, true, false, refl, if◌then◌else◌}
use Rattle.std.specs.Option.{option_map_or}
use Rattle.s80_code.proofs.lemmas.TableLemmas.{value}
use Rattle.s80_lex.specs.Selector.{IsSelectorOf, is_binary, is_name, keywords_of}
use Rattle.s80_lex.proofs.lemmas.SelectorLemmas.{name_is, is_name_when, binary_is, is_binary_when, keywords_then, keywords_when, name_no_binary, name_is_none, binary_is_none, none_some, not_letter}
use Rattle.s80_machine.specs.Shared.{if_selector, parameters}
use Rattle.s80_machine.proofs.lemmas.SoundLists.{same_number}

pub parameters_tell : (word : List ℕ) (n : ℕ) → parameters word ≡ Some n → IsSelectorOf n word
parameters_tell word n e = go (is_name word) (is_binary word) refl refl e
  where
    go : (a b : Bool) → is_name word ≡ a → is_binary word ≡ b → (if a then Some 0 else (if b then Some 1 else keywords_of word)) ≡ Some n → IsSelectorOf n word
    go true b named binary e = inl (name_is word named, sym (value e))
    go false true named binary e = inr (inl (binary_is word binary, sym (value e)))
    go false false named binary e = inr (inr (keywords_then n word e))

pub parameters_when : (word : List ℕ) (n : ℕ) → IsSelectorOf n word → parameters word ≡ Some n
parameters_when word n (inl p) =
    ap (λ (a : Bool). if a then Some 0 else (if is_binary word then Some 1 else keywords_of word)) (is_name_when word p.0) ∙ ap (λ m. Some m) (sym p.1)
parameters_when word n (inr (inl p)) =
    let plain : is_name word ≡ false = not_letter (is_name word) (λ e. name_no_binary word (name_is word e) p.0) in
    ap (λ (a : Bool). if a then Some 0 else (if is_binary word then Some 1 else keywords_of word)) plain
    ∙ ap (λ (b : Bool). if b then Some 1 else keywords_of word) (is_binary_when word p.0)
    ∙ ap (λ m. Some m) (sym p.1)
parameters_when word n (inr (inr k)) =
    let plain : is_name word ≡ false = not_letter (is_name word) (λ e. none_some word n (name_is_none word (name_is word e)) k) in
    let other : is_binary word ≡ false = not_letter (is_binary word) (λ e. none_some word n (binary_is_none word (binary_is word e)) k) in
    ap (λ (a : Bool). if a then Some 0 else (if is_binary word then Some 1 else keywords_of word)) plain
    ∙ ap (λ (b : Bool). if b then Some 1 else keywords_of word) other
    ∙ keywords_when n word k

pub selects : (count : ℕ) (word selector : List ℕ) → if_selector count word ≡ Some selector → IsSelectorOf count selector
selects count word selector e = go (parameters word) refl e
  where
    go : (o : Option ℕ) → parameters word ≡ o → (if option_map_or (λ n. n == count) o false then Some word else None) ≡ Some selector → IsSelectorOf count selector
    go None is e = cc
    go (Some n) is e = fits (n == count) refl e
      where
        fits : (b : Bool) → (n == count) ≡ b → (if b then Some word else None) ≡ Some selector → IsSelectorOf count selector
        fits true same e = subst (IsSelectorOf count) (value e) (subst (λ m. IsSelectorOf m word) (same_number n count same) (parameters_tell word n is))
        fits false same e = cc
