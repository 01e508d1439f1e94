-- One form behind another at the front of a text.
use Rattle.std.proofs.Common.{◌≡◌, ℕ, ◌+◌, ◌≤◌, ◌<◌, ◌⊎◌, inl, inr, List, [], ◌∷◌, ◌++◌, take, drop, length, refl, ap, sym, ◌∙◌, arith, append_assoc, length-append, take-append-drop, length-drop, length-take-le}
use Rattle.std.proofs.Math.Seq.{take-append-add}
use Rattle.std.proofs.lemmas.Bool.{cases_lt}
use Rattle.s80_lex.proofs.lemmas.Fronts.{split_same}

-- The longest front of a form. What follows a shorter one begins nothing that may stand behind the form.
pub record Stage (P : List ℕ → Type 0) (Blocks : ℕ → Type 0) (n : ℕ) (text : List ℕ) : Type 0 where
  pub fits : n ≤ length text
  pub here : P (take n text)
  pub longest : (w r : List ℕ) → w ++ r ≡ text → P w → length w ≤ n
  pub blocked : (w : List ℕ) (b : ℕ) (r : List ℕ) → w ++ b ∷ r ≡ text → P w → length w < n → Blocks b

-- one form and then another
abbrev pub Seq : (List ℕ → Type 0) → (List ℕ → Type 0) → List ℕ → Type 0
Seq P Q w = (x y : List ℕ) × (w ≡ x ++ y) × P x × Q y

pub take_both : (n m : ℕ) (text : List ℕ) → n ≤ length text → take (n + m) text ≡ take n text ++ take m (drop n text)
take_both n m text fits =
    let long : n ≡ length (take n text) = sym (length-take-le n text fits) in
    ap (take (n + m)) (sym (take-append-drop n text)) ∙ ap (λ k. take (k + m) (take n text ++ drop n text)) long ∙ take-append-add (take n text) (drop n text) m

module _ (P Q : List ℕ → Type 0) (B C : ℕ → Type 0) (n m : ℕ) (text : List ℕ) (first : Stage P B n text) (second : Stage Q C m (drop n text)) (apart : (b : ℕ) (w : List ℕ) → Q (b ∷ w) → B b → ⊥) where
  -- where the first form is the longest, the second stands behind it
  behind : (x y r : List ℕ) → x ++ (y ++ r) ≡ text → P x → n ≤ length x → (length x ≡ n) × (y ++ r ≡ drop n text)
  behind x y r t p le =
      let long : length x ≡ n = omega (arith, first.longest x (y ++ r) t p) in
      (long, (split_same x (y ++ r) (take n text) (drop n text) (long ∙ sym (length-take-le n text first.fits)) (t ∙ sym (take-append-drop n text))).1)

  -- where it is shorter, nothing of the second stands behind it
  nothing_behind : (x y r : List ℕ) → x ++ (y ++ r) ≡ text → P x → Q y → length x < n → y ≡ []
  nothing_behind x [] r t p q lt = refl
  nothing_behind x (b ∷ y) r t p q lt = absurd (apart b y q (first.blocked x b (y ++ r) t p lt))

  seq_longest : (x y r : List ℕ) → x ++ (y ++ r) ≡ text → P x → Q y → length x + length y ≤ n + m
  seq_longest x y r t p q = elim (cases_lt (length x) n) [
    | inl lt ↦ omega (arith, ap length (nothing_behind x y r t p q lt))
    | inr le ↦ let b = behind x y r t p le in omega (arith, b.0, second.longest y r b.1 q)
  ]

  seq_blocked : (x y : List ℕ) (b : ℕ) (r : List ℕ) → x ++ (y ++ b ∷ r) ≡ text → P x → Q y → length x + length y < n + m → B b ⊎ C b
  seq_blocked x y b r t p q short = elim (cases_lt (length x) n) [
    | inl lt ↦ (let none : y ≡ [] = nothing_behind x y (b ∷ r) t p q lt in inl (first.blocked x b r (ap (λ l. x ++ (l ++ b ∷ r)) (sym none) ∙ t) p lt))
    | inr le ↦ (let e = behind x y (b ∷ r) t p le in inr (second.blocked y b r e.1 q (omega (arith, e.0))))
  ]

  pub seq : Stage (Seq P Q) (λ b. B b ⊎ C b) (n + m) text
  seq = record {
    fits = omega (arith, first.fits, second.fits, length-drop n text);
    here = (take n text, take m (drop n text), take_both n m text first.fits, first.here, second.here);
    longest = λ w r t s. omega (arith, ap length s.2, length-append s.0 s.1, seq_longest s.0 s.1 r (sym (append_assoc s.0 s.1 r) ∙ ap (λ l. l ++ r) (sym s.2) ∙ t) s.3 s.4);
    blocked = λ w b r t s lt. seq_blocked s.0 s.1 b r (sym (append_assoc s.0 s.1 (b ∷ r)) ∙ ap (λ l. l ++ b ∷ r) (sym s.2) ∙ t) s.3 s.4 (omega (arith, ap length s.2, length-append s.0 s.1));
  }
