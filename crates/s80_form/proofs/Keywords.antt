-- The words of messages: each tells one message.
use Rattle.std.proofs.Common.{◌≡◌, ℕ, ◌-◌, List, ◌++◌, true, Option, Some, None, codes, take, drop, length, refl, ap, sym, ◌∙◌, arith, length-append, take-append-drop, eqb, if◌then◌else◌}
use Rattle.std.specs.Str.{bytes_eq}
use Rattle.std.specs.Cmp.Lexicographic.{pointwise, same_text}
use Rattle.s80_lex.proofs.lemmas.Fronts.{split_same}
use Rattle.s80_form.specs.declared.definition.Kind.{Kind}
use Rattle.s80_form.specs.declared.definition.Kind.TheVariants as kinds
use Rattle.s80_form.specs.declared.keyword.Keyword.{Keyword}
use Rattle.s80_form.specs.declared.keyword.Keyword.TheVariants.{Defines, Plain}
use Rattle.s80_form.specs.declared.keyword.Word.TheVariants as words
use Rattle.s80_form.specs.Keyword.{keyword_text, keyword_selector}
use Rattle.s80_form.specs.TreeParts.{Finds}
use Rattle.s80_form.specs.Definition.{defining_word, defining_selector}

-- the kind that a selector tells, by its front
pub kind_from : (r : Option Kind) (selector tail word : List ℕ) → pointwise eqb (drop (length selector - length tail) selector) tail ≡ true → word ≡ take (length selector - length tail) selector
    → tail ≡ codes "instanceVariableNames:classVariableNames:poolDictionaries:category:"
    → Finds {X = Kind} {Y = Kind} (λ k. k) (λ k. word ≡ defining_word k) r → Finds {X = Kind} {Y = Kind} (λ k. k) (λ k. selector ≡ defining_selector k) r
kind_from r selector tail word e w t h = by_kind r h
  where
    behind : drop (length selector - length tail) selector ≡ tail
    behind = same_text (drop (length selector - length tail) selector) tail (sym e)

    whole : selector ≡ word ++ tail
    whole = sym (take-append-drop (length selector - length tail) selector) ∙ ap (λ l. l ++ drop (length selector - length tail) selector) (sym w) ∙ ap (λ l. word ++ l) behind

    front : (k : Kind) → selector ≡ defining_selector k → word ≡ defining_word k
    front k i =
        let s : word ++ tail ≡ defining_word k ++ tail = sym whole ∙ i ∙ ap (λ l. defining_word k ++ l) (sym t) in
        (split_same word tail (defining_word k) tail (omega (arith, ap length s, length-append word tail, length-append (defining_word k) tail)) s).0

    by_kind : (o : Option Kind) → Finds {X = Kind} {Y = Kind} (λ k. k) (λ k. word ≡ defining_word k) o → Finds {X = Kind} {Y = Kind} (λ k. k) (λ k. selector ≡ defining_selector k) o
    by_kind (Some k) i = whole ∙ ap (λ l. l ++ tail) i ∙ ap (λ l. defining_word k ++ l) t
    by_kind None none = λ k i. none k (front k i)

-- the keyword that has this text or selector, by computation
abbrev keyword_in : List ℕ → Option Keyword
keyword_in word =
    if bytes_eq word (codes "subclass:") then Some (Defines kinds.Plain) else
    (if bytes_eq word (codes "variableSubclass:") then Some (Defines kinds.Pointers) else
    (if bytes_eq word (codes "variableByteSubclass:") then Some (Defines kinds.Bytes) else
    (if bytes_eq word (codes "variableWordSubclass:") then Some (Defines kinds.Words) else
    (if bytes_eq word (defining_selector kinds.Plain) then Some (Defines kinds.Plain) else
    (if bytes_eq word (defining_selector kinds.Pointers) then Some (Defines kinds.Pointers) else
    (if bytes_eq word (defining_selector kinds.Bytes) then Some (Defines kinds.Bytes) else
    (if bytes_eq word (defining_selector kinds.Words) then Some (Defines kinds.Words) else
    (if bytes_eq word (codes "instanceVariableNames:") then Some (Plain words.InstanceVariableNames) else
    (if bytes_eq word (codes "comment:") then Some (Plain words.Comment) else
    (if bytes_eq word (codes "removeSelector:") then Some (Plain words.RemoveSelector) else
    (if bytes_eq word (codes "removeClassNamed:") then Some (Plain words.RemoveClassNamed) else
    (if bytes_eq word (codes "removeFromSystem") then Some (Plain words.RemoveFromSystem) else
    (if bytes_eq word (codes "noChanges") then Some (Plain words.NoChanges) else
    (if bytes_eq word (codes "condenseChanges") then Some (Plain words.CondenseChanges) else
    (if bytes_eq word (codes "snapshot") then Some (Plain words.Snapshot) else
    (if bytes_eq word (codes "organization") then Some (Plain words.Organization) else None))))))))))))))))

text_in : (k : Keyword) → keyword_in (keyword_text k) ≡ Some k
text_in (Defines kinds.Plain) = refl
text_in (Defines kinds.Pointers) = refl
text_in (Defines kinds.Bytes) = refl
text_in (Defines kinds.Words) = refl
text_in (Plain words.InstanceVariableNames) = refl
text_in (Plain words.Comment) = refl
text_in (Plain words.RemoveSelector) = refl
text_in (Plain words.RemoveClassNamed) = refl
text_in (Plain words.RemoveFromSystem) = refl
text_in (Plain words.NoChanges) = refl
text_in (Plain words.CondenseChanges) = refl
text_in (Plain words.Snapshot) = refl
text_in (Plain words.Organization) = refl

selector_in : (k : Keyword) → keyword_in (keyword_selector k) ≡ Some k
selector_in (Defines kinds.Plain) = refl
selector_in (Defines kinds.Pointers) = refl
selector_in (Defines kinds.Bytes) = refl
selector_in (Defines kinds.Words) = refl
selector_in (Plain words.InstanceVariableNames) = refl
selector_in (Plain words.Comment) = refl
selector_in (Plain words.RemoveSelector) = refl
selector_in (Plain words.RemoveClassNamed) = refl
selector_in (Plain words.RemoveFromSystem) = refl
selector_in (Plain words.NoChanges) = refl
selector_in (Plain words.CondenseChanges) = refl
selector_in (Plain words.Snapshot) = refl
selector_in (Plain words.Organization) = refl

value : (k j : Keyword) → Some k ≡ Some j → k ≡ j
value k j e = cc

-- so each text, and each selector, is that of one keyword
pub texts_same : (k j : Keyword) → keyword_text k ≡ keyword_text j → k ≡ j
texts_same k j e = value k j (sym (text_in k) ∙ ap keyword_in e ∙ text_in j)

pub selectors_same : (k j : Keyword) → keyword_selector k ≡ keyword_selector j → k ≡ j
selectors_same k j e = value k j (sym (selector_in k) ∙ ap keyword_in e ∙ selector_in j)
