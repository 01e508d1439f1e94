-- Numbers at the front of a text.
use Rattle.std.proofs.Common.{◌≡◌, ℕ, zero, suc, ◌+◌, ◌≤◌, ◌<◌, ◌⊎◌, inl, inr, List, [], ◌∷◌, ◌++◌, Bool, true, false, cond, take, drop, length, refl, ap, sym, ◌∙◌, subst, arith, append_assoc, length-append, take-append-drop, ◌==◌, length-take-le, length-drop}
use Rattle.std.specs.List.{prefix_len}
use Rattle.std.specs.Char.{is_ascii_digit}
use Rattle.std.proofs.lemmas.Bool.{cases_Bool, eqb-true, eq-eqb}
use Rattle.std.proofs.Math.Seq.{take-append-add}
use Rattle.std.proofs.lemmas.List.{drop_at}
use Rattle.std.proofs.lemmas.List.Sums.{prefix_len-le-length}
use Rattle.s80_lex.specs.declared.digits.Digits.{Digits}
use Rattle.s80_lex.specs.declared.digits.Digits.TheVariants.{Decimal, Capital}
use Rattle.s80_lex.specs.Spelling.{IsRun, Passes, IsFraction, IsPower, IsExponent, IsScaled, IsInRadix, IsNumber, is_digit_or_capital}
use Rattle.s80_lex.specs.Front.{IsMost, passes, run_len, after_mark, with_mark, or_else, fraction_len, power_len, exponent_len, scaled_len, in_radix_len, number_len}
use Rattle.s80_lex.proofs.lemmas.Runs.{run_passes, run_longest, run_ends}
use Rattle.s80_lex.proofs.Stages.{Stage, Seq, seq}

-- The longest front of a form that has at least one byte, if there is one.
pub record Reach (P : List ℕ → Type 0) (n : ℕ) (text : List ℕ) : Type 0 where
  pub fits : n ≤ length text
  pub here : 0 < n → P (take n text)
  pub longest : (w r : List ℕ) → w ++ r ≡ text → P w → length w ≤ n

run_all : (p : ℕ → Bool) (w : List ℕ) → IsRun p w → Passes p w
run_all p [] h = absurd h
run_all p (b ∷ w) h = h

some_run : (p : ℕ → Bool) (w : List ℕ) → 0 < length w → Passes p w → IsRun p w
some_run p [] lt h = omega arith
some_run p (b ∷ w) lt h = h

run_reach : (p : ℕ → Bool) (text : List ℕ) → Reach (IsRun p) (prefix_len p text) text
run_reach p text =
    let le : prefix_len p text ≤ length text = prefix_len-le-length p text in
    record {
      fits = le;
      here = λ lt. some_run p (take (prefix_len p text) text) (omega (arith, length-take-le (prefix_len p text) text le)) (run_passes p text);
      longest = λ w r t h. subst (λ l. length w ≤ prefix_len p l) t (run_longest p w r (run_all p w h));
    }

-- what follows a shorter run goes on with it
run_goes_on : (p : ℕ → Bool) (w : List ℕ) (b : ℕ) (r text : List ℕ) → w ++ b ∷ r ≡ text → Passes p w → length w < prefix_len p text → p b ≡ true
run_goes_on p w b r text t h lt = elim (cases_Bool (p b)) [
  | inl passed ↦ passed
  | inr failed ↦ absurd (omega (arith, run_ends p w b r h failed, ap (prefix_len p) t))
]

run_stage : (p : ℕ → Bool) (text : List ℕ) → 0 < prefix_len p text → Stage (IsRun p) (λ b. p b ≡ true) (prefix_len p text) text
run_stage p text some =
    let reach = run_reach p text in
    record {
      fits = reach.fits;
      here = reach.here some;
      longest = reach.longest;
      blocked = λ w b r t h lt. run_goes_on p w b r text t (run_all p w h) lt;
    }

-- a mark, and a form behind it
abbrev pub Marked : ℕ → (List ℕ → Type 0) → List ℕ → Type 0
Marked mark P [] = ⊥
Marked mark P (b ∷ w) = (b ≡ mark) × P w

after_same : (mark b : ℕ) (text : List ℕ) → b ≡ mark → after_mark mark (b ∷ text) ≡ text
after_same mark b text e = ap (λ t. cond t text []) (eq-eqb b mark e)

marked_longest : (P : List ℕ → Type 0) (mark n : ℕ) (text : List ℕ) → (P [] → ⊥) → Reach P n (after_mark mark text) → (w r : List ℕ) → w ++ r ≡ text → Marked mark P w → length w ≤ with_mark n
marked_longest P mark n text some reach [] r t h = absurd h
marked_longest P mark n text some reach (b ∷ []) r t h = absurd (some h.1)
marked_longest P mark n text some reach (b ∷ c ∷ w) r t h =
    let after : after_mark mark text ≡ c ∷ w ++ r = ap (after_mark mark) (sym t) ∙ after_same mark b (c ∷ w ++ r) h.0 in
    let le : suc (length w) ≤ n = reach.longest (c ∷ w) r (sym after) h.1 in
    with_long n le
  where
    with_long : (m : ℕ) → suc (length w) ≤ m → suc (suc (length w)) ≤ with_mark m
    with_long zero le = omega arith
    with_long (suc m) le = omega arith

marked_here : (P : List ℕ → Type 0) (mark n : ℕ) (text : List ℕ) → Reach P n (after_mark mark text) → (with_mark n ≤ length text) × (0 < with_mark n → Marked mark P (take (with_mark n) text))
marked_here P mark zero text reach = (omega arith, λ lt. absurd (omega arith))
marked_here P mark (suc n) [] reach = absurd (let le : suc n ≤ 0 = reach.fits in omega arith)
marked_here P mark (suc n) (b ∷ text) reach = by_mark (b == mark) refl
  where
    by_mark : (t : Bool) → (b == mark) ≡ t → (suc (suc n) ≤ suc (length text)) × (0 < suc (suc n) → Marked mark P (b ∷ take (suc n) text))
    by_mark true e =
        let after : after_mark mark (b ∷ text) ≡ text = ap (λ t. cond t text []) e in
        let le : suc n ≤ length text = subst (λ l. suc n ≤ length l) after reach.fits in
        let form : P (take (suc n) text) = subst (λ l. P (take (suc n) l)) after (reach.here (omega arith)) in
        (omega arith, λ lt. (eqb-true b mark e, form))
    by_mark false e =
        let after : after_mark mark (b ∷ text) ≡ [] = ap (λ t. cond t text []) e in
        let le : suc n ≤ 0 = subst (λ l. suc n ≤ length l) after reach.fits in
        absurd (omega arith)

-- what a mark shows
pub after_shown : (mark : ℕ) (text : List ℕ) → 0 < length (after_mark mark text) → text ≡ mark ∷ after_mark mark text
after_shown mark [] lt = absurd (omega arith)
after_shown mark (b ∷ text) lt = by_mark (b == mark) refl
  where
    by_mark : (t : Bool) → (b == mark) ≡ t → b ∷ text ≡ mark ∷ after_mark mark (b ∷ text)
    by_mark true e =
        let first : b ≡ mark = eqb-true b mark e in
        let after : after_mark mark (b ∷ text) ≡ text = ap (λ t. cond t text []) e in
        ap (λ c. c ∷ text) first ∙ ap (λ l. mark ∷ l) (sym after)
    by_mark false e =
        let after : after_mark mark (b ∷ text) ≡ [] = ap (λ t. cond t text []) e in
        absurd (omega (arith, lt, ap length after))

-- a mark and what is found behind it are within the text
pub marked_fits : (mark n : ℕ) (text : List ℕ) → n ≤ length (after_mark mark text) → with_mark n ≤ length text
marked_fits mark zero text le = omega arith
marked_fits mark (suc n) text le =
    let some : 0 < length (after_mark mark text) = omega arith in
    omega (arith, ap length (after_shown mark text some))

marked_reach : (P : List ℕ → Type 0) (mark n : ℕ) (text : List ℕ) → (P [] → ⊥) → Reach P n (after_mark mark text) → Reach (Marked mark P) (with_mark n) text
marked_reach P mark n text some reach =
    let h = marked_here P mark n text reach in
    record { fits = h.0; here = h.1; longest = marked_longest P mark n text some reach }

-- the digits of an exponent
run_begins : (p : ℕ → Bool) (b : ℕ) (w r text : List ℕ) → b ∷ w ++ r ≡ text → p b ≡ true → prefix_len p text ≡ 0 → ⊥
run_begins p b w r text t h e =
    let long : prefix_len p text ≡ 1 + prefix_len p (w ++ r) = ap (prefix_len p) (sym t) ∙ ap (λ x. cond x (1 + prefix_len p (w ++ r)) 0) h in
    omega arith

power_reach : (text : List ℕ) → Reach IsPower (power_len text) text
power_reach text = by_run (prefix_len is_ascii_digit text) refl
  where
    plain : Reach (IsRun is_ascii_digit) (prefix_len is_ascii_digit text) text
    plain = run_reach is_ascii_digit text

    signed : Reach (Marked 45 (IsRun is_ascii_digit)) (with_mark (run_len Decimal (after_mark 45 text))) text
    signed = marked_reach (IsRun is_ascii_digit) 45 (run_len Decimal (after_mark 45 text)) text (λ h. h) (run_reach is_ascii_digit (after_mark 45 text))

    as_power : (w : List ℕ) → Marked 45 (IsRun is_ascii_digit) w → IsPower w
    as_power [] h = h
    as_power (b ∷ w) h = inr h

    run_power : (w : List ℕ) → IsRun is_ascii_digit w → IsPower w
    run_power [] h = h
    run_power (b ∷ w) h = inl h

    none_plain : prefix_len is_ascii_digit text ≡ 0 → (w r : List ℕ) → w ++ r ≡ text → IsPower w → Marked 45 (IsRun is_ascii_digit) w
    none_plain e [] r t h = h
    none_plain e (b ∷ w) r t (inl h) = absurd (run_begins is_ascii_digit b w r text t h.0 e)
    none_plain e (b ∷ w) r t (inr h) = h

    not_signed : (b : ℕ) → b ≡ 45 → is_ascii_digit b ≡ false
    not_signed b e = ap is_ascii_digit e

    no_signed : (n : ℕ) → prefix_len is_ascii_digit text ≡ suc n → (w r : List ℕ) → w ++ r ≡ text → IsPower w → length w ≤ suc n
    no_signed n e [] r t h = absurd h
    no_signed n e (b ∷ w) r t (inl h) = subst (λ m. suc (length w) ≤ m) e (plain.longest (b ∷ w) r t h)
    no_signed n e (b ∷ w) r t (inr h) =
        let none : prefix_len is_ascii_digit text ≡ 0 = ap (prefix_len is_ascii_digit) (sym t) ∙ ap (λ x. cond x (1 + prefix_len is_ascii_digit (w ++ r)) 0) (not_signed b h.0) in
        absurd (omega arith)

    by_run : (n : ℕ) → prefix_len is_ascii_digit text ≡ n → Reach IsPower (or_else n (with_mark (run_len Decimal (after_mark 45 text)))) text
    by_run zero e = record {
      fits = signed.fits;
      here = λ lt. as_power _ (signed.here lt);
      longest = λ w r t h. signed.longest w r t (none_plain e w r t h);
    }
    by_run (suc n) e = record {
      fits = subst (λ m. m ≤ length text) e plain.fits;
      here = λ lt. run_power _ (subst (λ m. IsRun is_ascii_digit (take m text)) e (plain.here (omega arith)));
      longest = no_signed n e;
    }

pub power_fits : (text : List ℕ) → power_len text ≤ length text
power_fits text = (power_reach text).fits

-- a fraction, or none
some_fraction : (p : ℕ → Bool) (w : List ℕ) → (0 < length w → Marked 46 (IsRun p) w) → IsFraction p w
some_fraction p [] h = tt
some_fraction p (b ∷ w) h = h (omega arith)

fraction_stage : (digits : Digits) (text : List ℕ) → Stage (IsFraction (passes digits)) (λ b. (passes digits b ≡ true) ⊎ (b ≡ 46)) (fraction_len digits text) text
fraction_stage digits text = record {
  fits = reach.fits;
  here = some_fraction p (take n text) (λ lt. reach.here (omega (arith, lt, length-take-le n text reach.fits)));
  longest = longest;
  blocked = blocked;
}
  where
    p : ℕ → Bool
    p = passes digits

    n : ℕ
    n = fraction_len digits text

    after : List ℕ
    after = after_mark 46 text

    reach : Reach (Marked 46 (IsRun p)) n text
    reach = marked_reach (IsRun p) 46 (run_len digits after) text (λ h. h) (run_reach p after)

    longest : (w r : List ℕ) → w ++ r ≡ text → IsFraction p w → length w ≤ n
    longest [] r t h = omega arith
    longest (b ∷ w) r t h = reach.longest (b ∷ w) r t h

    blocked : (w : List ℕ) (b : ℕ) (r : List ℕ) → w ++ b ∷ r ≡ text → IsFraction p w → length w < n → (p b ≡ true) ⊎ (b ≡ 46)
    blocked [] b r t h lt = elim (cases_Bool (b == 46)) [
      | inl e ↦ inr (eqb-true b 46 e)
      | inr e ↦ absurd (let none : n ≡ 0 = ap (fraction_len digits) (sym t) ∙ ap (λ x. with_mark (run_len digits (cond x r []))) e in omega arith)
    ]
    blocked (c ∷ w) b r t h lt =
        let at : after ≡ w ++ b ∷ r = ap (after_mark 46) (sym t) ∙ after_same 46 c (w ++ b ∷ r) h.0 in
        inl (run_goes_on p w b r after (sym at) (run_all p w h.1) (shorter (run_len digits after) lt))
      where
        shorter : (m : ℕ) → suc (length w) < with_mark m → length w < m
        shorter zero lt = absurd (omega arith)
        shorter (suc m) lt = omega arith

some_exponent : (w : List ℕ) → (0 < length w → Marked 101 IsPower w) → IsExponent w
some_exponent [] h = tt
some_exponent (b ∷ w) h = h (omega arith)

exponent_stage : (text : List ℕ) → Stage IsExponent (λ _. Unit {0}) (exponent_len text) text
exponent_stage text = record {
  fits = reach.fits;
  here = some_exponent (take (exponent_len text) text) (λ lt. reach.here (omega (arith, lt, length-take-le (exponent_len text) text reach.fits)));
  longest = longest;
  blocked = λ w b r t h lt. tt;
}
  where
    reach : Reach (Marked 101 IsPower) (exponent_len text) text
    reach = marked_reach IsPower 101 (power_len (after_mark 101 text)) text (λ h. h) (power_reach (after_mark 101 text))

    longest : (w r : List ℕ) → w ++ r ≡ text → IsExponent w → length w ≤ exponent_len text
    longest [] r t h = omega arith
    longest (b ∷ w) r t h = reach.longest (b ∷ w) r t h

-- neither a period nor an e is a digit
no_period : (digits : Digits) (b : ℕ) (w : List ℕ) → IsFraction (passes digits) (b ∷ w) → passes digits b ≡ true → ⊥
no_period Decimal b w h e = let no_digit : passes Decimal b ≡ false = ap (passes Decimal) h.0 in cc
no_period Capital b w h e = let no_digit : passes Capital b ≡ false = ap (passes Capital) h.0 in cc

no_e : (digits : Digits) (b : ℕ) → b ≡ 101 → passes digits b ≡ true → ⊥
no_e Decimal b h e = let no_digit : passes Decimal b ≡ false = ap (passes Decimal) h in cc
no_e Capital b h e = let no_digit : passes Capital b ≡ false = ap (passes Capital) h in cc

no_exponent : (digits : Digits) (b : ℕ) (w : List ℕ) → IsExponent (b ∷ w) → (passes digits b ≡ true) ⊎ ((passes digits b ≡ true) ⊎ (b ≡ 46)) → ⊥
no_exponent digits b w h (inl e) = no_e digits b h.0 e
no_exponent digits b w h (inr (inl e)) = no_e digits b h.0 e
no_exponent digits b w h (inr (inr e)) = let i : b ≡ 101 = h.0 in omega arith

pub scaled_reach : (digits : Digits) (text : List ℕ) → 0 < run_len digits text → Reach (IsScaled (passes digits)) (scaled_len digits (run_len digits text) text) text
scaled_reach digits text some =
    let p : ℕ → Bool = passes digits in
    let n : ℕ = run_len digits text in
    let m : ℕ = n + fraction_len digits (drop n text) in
    let first = seq (IsRun p) (IsFraction p) (λ b. p b ≡ true) (λ b. (p b ≡ true) ⊎ (b ≡ 46)) n (fraction_len digits (drop n text)) text
    (run_stage p text some) (fraction_stage digits (drop n text)) (no_period digits) in
    let all = seq (Seq (IsRun p) (IsFraction p)) IsExponent (λ b. (p b ≡ true) ⊎ ((p b ≡ true) ⊎ (b ≡ 46))) (λ _. Unit {0}) m (exponent_len (drop m text)) text
    first (exponent_stage (drop m text)) (no_exponent digits) in
    record {
      fits = all.fits;
      here = λ lt. (let s = all.here in (s.3.0, s.3.1, s.1, s.2 ∙ ap (λ l. l ++ s.1) s.3.2, s.3.3, s.3.4, s.4));
      longest = λ w r t s. all.longest w r t (s.0 ++ s.1, s.2, s.3, (s.0, s.1, refl, s.4, s.5), s.6);
    }

-- a number in a radix has an r behind its first digits
radix_shown : (text w r : List ℕ) → w ++ r ≡ text → IsInRadix w → (scaled : List ℕ) × (drop (run_len Decimal text) text ≡ 114 ∷ (scaled ++ r)) × (length w ≡ run_len Decimal text + 1 + length scaled) × IsScaled is_digit_or_capital scaled
radix_shown text w r t h =
    let radix : List ℕ = h.0 in
    let scaled : List ℕ = h.1 in
    let spread : radix ++ 114 ∷ (scaled ++ r) ≡ text = sym (append_assoc radix (114 ∷ scaled) r) ∙ ap (λ l. l ++ r) (sym h.2) ∙ t in
    let run : run_len Decimal text ≡ length radix = ap (run_len Decimal) (sym spread) ∙ run_ends is_ascii_digit radix 114 (scaled ++ r) (run_all is_ascii_digit radix h.3) refl in
    let behind : drop (run_len Decimal text) text ≡ 114 ∷ (scaled ++ r) = ap (λ n. drop n text) run ∙ ap (drop (length radix)) (sym spread) ∙ drop_at radix (114 ∷ (scaled ++ r)) (length radix) refl in
    (scaled, behind, omega (arith, run, ap length h.2, length-append radix (114 ∷ scaled)), h.4)

-- it begins with a digit or capital behind the r
scaled_run : (digits : Digits) (w r text : List ℕ) → w ++ r ≡ text → IsScaled (passes digits) w → 0 < run_len digits text
scaled_run digits w r text t h = by_digits h.0 h.4 (sym (append_assoc h.0 h.1 h.2) ∙ sym h.3)
  where
    by_digits : (d : List ℕ) → IsRun (passes digits) d → d ++ (h.1 ++ h.2) ≡ w → 0 < run_len digits text
    by_digits [] k e = absurd k
    by_digits (b ∷ d) k e =
        let long : 1 + run_len digits ((d ++ (h.1 ++ h.2)) ++ r) ≡ run_len digits text = sym (ap (λ x. cond x (1 + run_len digits ((d ++ (h.1 ++ h.2)) ++ r)) 0) k.0) ∙ ap (λ l. run_len digits (l ++ r)) e ∙ ap (run_len digits) t in
        omega arith

take_radix : (n m : ℕ) (text after : List ℕ) → n ≤ length text → drop n text ≡ 114 ∷ after → take (n + 1 + m) text ≡ take n text ++ 114 ∷ take m after
take_radix n m text after fits e =
    let long : n ≡ length (take n text) = sym (length-take-le n text fits) in
    let more : n + 1 + m ≡ n + suc m = omega arith in
    ap (λ k. take k text) more ∙ ap (take (n + suc m)) (sym (take-append-drop n text)) ∙ ap (λ k. take (k + suc m) (take n text ++ drop n text)) long
    ∙ take-append-add (take n text) (drop n text) (suc m) ∙ ap (λ l. take n text ++ take (suc m) l) e

pub number_most : (text : List ℕ) → 0 < run_len Decimal text → IsMost (λ word _. IsNumber word) (number_len text) text
number_most text some = by_radix (run_len Capital after) refl
  where
    n : ℕ
    n = run_len Decimal text

    after : List ℕ
    after = after_mark 114 (drop n text)

    plain : Reach (IsScaled is_ascii_digit) (scaled_len Decimal n text) text
    plain = scaled_reach Decimal text some

    plain_some : 0 < scaled_len Decimal n text
    plain_some = omega arith

    by_plain : (w r : List ℕ) → run_len Capital after ≡ 0 → w ++ r ≡ text → IsNumber w → length w ≤ scaled_len Decimal n text
    by_plain w r e t (inl h) = plain.longest w r t h
    by_plain w r e t (inr h) =
        let s = radix_shown text w r t h in
        let seen : after ≡ s.0 ++ r = ap (after_mark 114) s.1 in
        absurd (omega (arith, scaled_run Capital s.0 r after (sym seen) s.3))

    -- in front of an r stands neither a fraction nor an exponent
    no_scale : drop n text ≡ 114 ∷ after → scaled_len Decimal n text ≡ n
    no_scale e =
        let m : ℕ = n + fraction_len Decimal (drop n text) in
        let fraction : fraction_len Decimal (drop n text) ≡ 0 = ap (fraction_len Decimal) e in
        let same : m ≡ n = omega (arith, fraction) in
        let exponent : exponent_len (drop m text) ≡ 0 = ap (λ k. exponent_len (drop k text)) same ∙ ap exponent_len e in
        omega (arith, fraction, exponent)

    by_radix : (m : ℕ) → run_len Capital after ≡ m → IsMost (λ word _. IsNumber word) (in_radix_len n m after (scaled_len Decimal n text)) text
    by_radix zero e = record { fits = plain.fits; here = inl (plain.here plain_some); longest = λ w r t h. by_plain w r e t h }
    by_radix (suc m) e =
        let some_after : 0 < length after = omega (arith, e, prefix_len-le-length (passes Capital) after) in
        let shown : drop n text ≡ 114 ∷ after = after_shown 114 (drop n text) some_after in
        let k : ℕ = scaled_len Capital (suc m) after in
        let reach : Reach (IsScaled is_digit_or_capital) k after = subst (λ j. Reach (IsScaled is_digit_or_capital) (scaled_len Capital j after) after) e (scaled_reach Capital after (omega arith)) in
        let fits_run : n ≤ length text = prefix_len-le-length is_ascii_digit text in
        record {
          fits = omega (arith, reach.fits, fits_run, length-drop n text, ap length shown);
          here = inr (take n text, take k after, take_radix n k text after fits_run shown, (run_reach is_ascii_digit text).here some, reach.here (omega arith));
          longest = in_radix k shown reach;
        }
      where
        in_radix : (k : ℕ) → drop n text ≡ 114 ∷ after → Reach (IsScaled is_digit_or_capital) k after → (w r : List ℕ) → w ++ r ≡ text → IsNumber w → length w ≤ n + 1 + k
        in_radix k shown reach w r t (inl h) = omega (arith, plain.longest w r t h, no_scale shown)
        in_radix k shown reach w r t (inr h) =
            let s = radix_shown text w r t h in
            let seen : after ≡ s.0 ++ r = ap (after_mark 114) s.1 in
            omega (arith, s.2, reach.longest s.0 r (sym seen) s.3)
