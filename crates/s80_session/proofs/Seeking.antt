-- Words that are selectors, and words that are none.
use Rattle.std.proofs.Common.{◌≡◌, ◌∙◌, ◌↔◌, ℕ, true, false, true≢false, refl, sym, ap, subst, List, Option, Some, None, is_some}
use Rattle.s80_lex.specs.Selector.{IsSelectorOf}
use Rattle.s80_form.specs.Name.{IsSelectorWord}

abbrev Counts : List ℕ → Option ℕ → Type 0
Counts word found = (n : ℕ) → found ≡ Some n ↔ IsSelectorOf n word

pub no_selector : (word bytes : List ℕ) (found : Option ℕ) → bytes ≡ word → Counts bytes found → is_some found ≡ false → IsSelectorWord word → ⊥
no_selector word bytes found same counts none (n, is) = true≢false (sym (ap is_some ((counts n).1 (subst (IsSelectorOf n) (sym same) is))) ∙ none)

pub is_selector : (word bytes : List ℕ) (found : Option ℕ) → bytes ≡ word → Counts bytes found → is_some found ≡ true → IsSelectorWord word
is_selector word bytes None same counts some = absurd (true≢false (sym some))
is_selector word bytes (Some n) same counts some = (n, subst (IsSelectorOf n) same ((counts n).0 refl))
