-- Entries by name: what is seen of them after a write, and after one more.
use Rattle.std.proofs.Common.{◌≡◌, ◌∙◌, ap, sym, refl, ℕ, cond, List, [], ◌∷◌, Option, Some, None, is_some, Bool, true, false, true≢false}
use Rattle.std.specs.Map.{set_value}
use Rattle.std.specs.Str.{bytes_eq}
use Rattle.indexmap.specs.IndexMap.{insert_entry}
use Rattle.s80_history.specs.Traces.{Key, Named, held}
use Rattle.s80_history.proofs.Same.{same_text, text_same}

-- ---- look-ups

twice : {A : Type 0} (b : Bool) (x y z : A) → cond b x z ≡ cond b x (cond b y z)
twice true x y z = refl
twice false x y z = refl

-- two names that differ
swapped : {A : Type 0} (a b : Bool) (x y z : A) → (a ≡ true → b ≡ true → ⊥) → cond a x (cond b y z) ≡ cond b y (cond a x z)
swapped true true x y z apart = absurd (apart refl refl)
swapped true false x y z apart = refl
swapped false b x y z apart = refl

never_both_names : (x k q : List ℕ) → bytes_eq q k ≡ false → bytes_eq x k ≡ true → bytes_eq x q ≡ true → ⊥
never_both_names x k q apart a b =
    let e : q ≡ k = sym (text_same x q b) ∙ text_same x k a in
    true≢false (sym (same_text q) ∙ ap (bytes_eq q) e ∙ apart)

pub none_of : {X : Type 0} (r : Option X) → false ≡ is_some r → r ≡ None
none_of None h = refl
none_of (Some x) h = absurd (true≢false (sym h))

module _ {X : Type 0} where
  abbrev pub written : List ℕ → Named X → X → Named X
  written name entries x = set_value (λ k. bytes_eq name k.items) entries x

  abbrev pub put : Named X → Key → X → Named X
  put entries k x = insert_entry (λ a b. bytes_eq a.items b.items) entries k x

  -- one name has this, and the others have what they had
  abbrev pub IsNamed : Named X → List ℕ → X → Named X → Type 0
  IsNamed old name x new = (q : List ℕ) → held new q ≡ cond (bytes_eq q name) (Some x) (held old q)

  put_named : (es : Named X) (k : Key) (x : X) → IsNamed es k.items x (put es k x)
  put_named [] k x q = refl
  put_named (e ∷ es) k x q = go (bytes_eq k.items e.0.items) refl (put_named es k x q)
    where
      go : (b : Bool) → bytes_eq k.items e.0.items ≡ b → held (put es k x) q ≡ cond (bytes_eq q k.items) (Some x) (held es q)
          → held (cond b ((e.0, x) ∷ es) (e ∷ put es k x)) q ≡ cond (bytes_eq q k.items) (Some x) (cond (bytes_eq q e.0.items) (Some e.1) (held es q))
      go true is rest =
          twice (bytes_eq q e.0.items) (Some x) (Some e.1) (held es q)
          ∙ ap (λ n. cond (bytes_eq q n) (Some x) (cond (bytes_eq q e.0.items) (Some e.1) (held es q))) (sym (text_same k.items e.0.items is))
      go false is rest =
          ap (cond (bytes_eq q e.0.items) (Some e.1)) rest
          ∙ swapped (bytes_eq q e.0.items) (bytes_eq q k.items) (Some e.1) (Some x) (held es q) (never_both_names q e.0.items k.items is)

  written_named : (es : Named X) (name : List ℕ) (x : X) → is_some (held es name) ≡ true → IsNamed es name x (written name es x)
  written_named [] name x there q = absurd (true≢false (sym there))
  written_named (e ∷ es) name x there q = go (bytes_eq name e.0.items) refl there (λ h. written_named es name x h q)
    where
      go : (b : Bool) → bytes_eq name e.0.items ≡ b → is_some (cond b (Some e.1) (held es name)) ≡ true
          → (is_some (held es name) ≡ true → held (written name es x) q ≡ cond (bytes_eq q name) (Some x) (held es q))
          → held (cond b ((e.0, x) ∷ es) (e ∷ written name es x)) q ≡ cond (bytes_eq q name) (Some x) (cond (bytes_eq q e.0.items) (Some e.1) (held es q))
      go true is h rest =
          twice (bytes_eq q e.0.items) (Some x) (Some e.1) (held es q)
          ∙ ap (λ n. cond (bytes_eq q n) (Some x) (cond (bytes_eq q e.0.items) (Some e.1) (held es q))) (sym (text_same name e.0.items is))
      go false is h rest =
          ap (cond (bytes_eq q e.0.items) (Some e.1)) (rest h)
          ∙ swapped (bytes_eq q e.0.items) (bytes_eq q name) (Some e.1) (Some x) (held es q) (never_both_names q e.0.items name is)

  pub named_put : (es new : Named X) (k : Key) (name : List ℕ) (x : X) → k.items ≡ name → new ≡ put es k x → IsNamed es name x new
  named_put es new k name x key is q = ap (λ l. held l q) is ∙ put_named es k x q ∙ ap (λ n. cond (bytes_eq q n) (Some x) (held es q)) key

  pub named_written : (es new : Named X) (name own : List ℕ) (x y : X) → own ≡ name → Some x ≡ held es own → new ≡ written own es y → IsNamed es name y new
  named_written es new name own x y key there is q =
      ap (λ l. held l q) is ∙ written_named es own y (ap is_some (sym there)) q ∙ ap (λ n. cond (bytes_eq q n) (Some y) (held es q)) key

  pub named_there : (es new : Named X) (name : List ℕ) (x : X) → IsNamed es name x new → held new name ≡ Some x
  named_there es new name x is = is name ∙ ap (λ b. cond b (Some x) (held es name)) (same_text name)

  -- ---- what is seen

  module _ {A : Type 0} (seen : Option X → A) (es new : Named X) (name : List ℕ) where
    -- of the name's own entry it is seen as changed
    pub seen_after : (f : A → A) (x y : X) → held es name ≡ Some x → IsNamed es name y new → seen (Some y) ≡ f (seen (Some x))
        → (q : List ℕ) → seen (held new q) ≡ cond (bytes_eq q name) (f (seen (held es q))) (seen (held es q))
    seen_after f x y there is changed q = ap seen (is q) ∙ go (bytes_eq q name) refl
      where
        go : (b : Bool) → bytes_eq q name ≡ b → seen (cond b (Some y) (held es q)) ≡ cond b (f (seen (held es q))) (seen (held es q))
        go true e = changed ∙ sym (ap (λ o. f (seen o)) (ap (held es) (text_same q name e) ∙ there))
        go false e = refl

    -- nothing is seen to change
    pub seen_same : (old : Option X) (y : X) → held es name ≡ old → IsNamed es name y new → seen (Some y) ≡ seen old → (q : List ℕ) → seen (held new q) ≡ seen (held es q)
    seen_same old y there is same q = ap seen (is q) ∙ go (bytes_eq q name) refl
      where
        go : (b : Bool) → bytes_eq q name ≡ b → seen (cond b (Some y) (held es q)) ≡ seen (held es q)
        go true e = same ∙ sym (ap seen (ap (held es) (text_same q name e) ∙ there))
        go false e = refl

    -- where there is none, nothing changes
    pub seen_absent : (f : A → A) → held es name ≡ None → f (seen None) ≡ seen None → (q : List ℕ) → seen (held es q) ≡ cond (bytes_eq q name) (f (seen (held es q))) (seen (held es q))
    seen_absent f none same q = go (bytes_eq q name) refl
      where
        go : (b : Bool) → bytes_eq q name ≡ b → seen (held es q) ≡ cond b (f (seen (held es q))) (seen (held es q))
        go true e = let here = ap (held es) (text_same q name e) ∙ none in ap seen here ∙ sym same ∙ sym (ap (λ o. f (seen o)) here)
        go false e = refl
