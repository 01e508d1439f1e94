-- A number is the longest token at its place, where what follows it can't go on with it.
use Rattle.std.proofs.Common.{append_assoc, ◌≡◌, ℕ, ◌≤◌, ◌<◌, ◌⊎◌, inl, inr, List, [], ◌∷◌, ◌++◌, Bool, true, false, ◌==◌, ◌||◌, take, drop, length, refl, ap, sym, ◌∙◌, subst, arith, rules, tests, take-append-drop, length-take-le}
use Rattle.std.specs.Char.{is_ascii_alphanumeric, is_ascii_digit}
use Rattle.std.proofs.lemmas.Bool.{false≢true, cases_lt}
use Rattle.std.proofs.lemmas.List.{take_at, drop_at}
use Rattle.s80_lex.specs.declared.token.TokenKind.TheVariants as kind
use Rattle.s80_lex.specs.Class.{class_of}
use Rattle.s80_lex.specs.Front.{first_class, Takes, number_len}
use Rattle.s80_lex.specs.Spelling.{IsRun, Passes, IsFraction, IsPower, IsExponent, IsScaled, IsInRadix, IsNumber, is_digit_or_capital}
use Rattle.s80_lex.specs.Text.{IsLongest}
use Rattle.s80_lex.proofs.lemmas.Taken.{number_takes}

-- ---- the bytes of a number

abbrev pub is_number_byte : ℕ → Bool
is_number_byte b = is_ascii_alphanumeric b || (b == 46 || b == 45)

abbrev IsAlphanumeric : ℕ → Type 0
IsAlphanumeric b = is_ascii_alphanumeric b ≡ true

digit_is : (b : ℕ) → is_ascii_digit b ≡ true → IsAlphanumeric b
digit_is b e = search (rules, tests)

capital_is : (b : ℕ) → is_digit_or_capital b ≡ true → IsAlphanumeric b
capital_is b e = search (rules, tests)

counts : (b : ℕ) → IsAlphanumeric b → is_number_byte b ≡ true
counts b e = ap (λ t. t || (b == 46 || b == 45)) e

-- the last byte, or another where there is none
abbrev last : ℕ → List ℕ → ℕ
last d [] = d
last d (b ∷ bytes) = last b bytes

last-append : (d : ℕ) (v w : List ℕ) → last d (v ++ w) ≡ last (last d v) w
last-append d [] w = refl
last-append d (b ∷ v) w = last-append b v w

passes-append : (p : ℕ → Bool) (v w : List ℕ) → Passes p v → Passes p w → Passes p (v ++ w)
passes-append p [] w h k = k
passes-append p (b ∷ v) w h k = (h.0, passes-append p v w h.1 k)

passes_behind : (p : ℕ → Bool) (v w : List ℕ) → Passes p (v ++ w) → Passes p w
passes_behind p [] w h = h
passes_behind p (b ∷ v) w h = passes_behind p v w h.1

-- bytes of a number, of which the last, if any, is a letter or a digit
record Ends (w : List ℕ) : Type 0 where
  bytes : Passes is_number_byte w
  ends : (d : ℕ) → IsAlphanumeric d → IsAlphanumeric (last d w)

joined : (v w : List ℕ) → Ends v → Ends w → Ends (v ++ w)
joined v w a b = record {
  bytes = passes-append is_number_byte v w a.bytes b.bytes;
  ends = λ d e. subst IsAlphanumeric (sym (last-append d v w)) (b.ends (last d v) (a.ends d e));
}

module _ (p : ℕ → Bool) (good : (b : ℕ) → p b ≡ true → IsAlphanumeric b) where
  passes_ends : (w : List ℕ) → Passes p w → Ends w
  passes_ends [] h = record { bytes = tt; ends = λ d e. e }
  passes_ends (b ∷ w) h =
      let more = passes_ends w h.1 in
      record { bytes = (counts b (good b h.0), more.bytes); ends = λ d e. more.ends b (good b h.0) }

  run_ends : (w : List ℕ) → IsRun p w → Ends w
  run_ends [] h = absurd h
  run_ends (b ∷ w) h = passes_ends (b ∷ w) h

  -- behind a byte of a number that isn't the last
  after_ends : (b : ℕ) (w : List ℕ) → is_number_byte b ≡ true → IsRun p w → Ends (b ∷ w)
  after_ends b [] e h = absurd h
  after_ends b (c ∷ w) e h =
      let more = passes_ends (c ∷ w) h in
      record { bytes = (e, more.bytes); ends = λ d i. more.ends d i }

  fraction_ends : (w : List ℕ) → IsFraction p w → Ends w
  fraction_ends [] h = record { bytes = tt; ends = λ d e. e }
  fraction_ends (b ∷ w) h = after_ends b w (ap is_number_byte h.0) h.1

power_ends : (w : List ℕ) → IsPower w → Ends w
power_ends [] h = absurd h
power_ends (b ∷ w) (inl h) = run_ends is_ascii_digit digit_is (b ∷ w) h
power_ends (b ∷ w) (inr h) = after_ends is_ascii_digit digit_is b w (ap is_number_byte h.0) h.1

exponent_ends : (w : List ℕ) → IsExponent w → Ends w
exponent_ends [] h = record { bytes = tt; ends = λ d e. e }
exponent_ends (b ∷ w) h =
    let letter : IsAlphanumeric b = ap is_ascii_alphanumeric h.0 in
    let more = power_ends w h.1 in
    record { bytes = (counts b letter, more.bytes); ends = λ d e. more.ends b letter }

scaled_ends : (p : ℕ → Bool) (good : (b : ℕ) → p b ≡ true → IsAlphanumeric b) (w : List ℕ) → IsScaled p w → Ends w
scaled_ends p good w (d, f, x, e, h, i, k) =
    subst Ends (sym e) (joined (d ++ f) x (joined d f (run_ends p good d h) (fraction_ends p good f i)) (exponent_ends x k))

radix_ends : (w : List ℕ) → IsInRadix w → Ends w
radix_ends w (r, s, e, h, k) =
    let scaled = scaled_ends is_digit_or_capital capital_is s k in
    let letter : IsAlphanumeric 114 = refl in
    subst Ends (sym e) (joined r (114 ∷ s) (run_ends is_ascii_digit digit_is r h) (record { bytes = (refl, scaled.bytes); ends = λ d i. scaled.ends 114 letter }))

number_ends : (w : List ℕ) → IsNumber w → Ends w
number_ends w (inl h) = scaled_ends is_ascii_digit digit_is w h
number_ends w (inr h) = radix_ends w h

-- ---- how it begins

digit_class : (b : ℕ) → is_ascii_digit b ≡ true → class_of b ≡ class_of 48
digit_class b e = search (rules, tests)

-- with digits
digits_begin : (d v : List ℕ) → IsRun is_ascii_digit d → first_class (d ++ v) ≡ class_of 48
digits_begin [] v h = absurd h
digits_begin (b ∷ d) v h = digit_class b h.0

pub number_begins : (w rest : List ℕ) → IsNumber w → first_class (w ++ rest) ≡ class_of 48
number_begins w rest (inl (d, f, x, e, h, i, k)) =
    ap (λ v. first_class (v ++ rest)) (e ∙ append_assoc d f x) ∙ ap first_class (append_assoc d (f ++ x) rest) ∙ digits_begin d ((f ++ x) ++ rest) h
number_begins w rest (inr (r, s, e, h, k)) = ap (λ v. first_class (v ++ rest)) e ∙ ap first_class (append_assoc r (114 ∷ s) rest) ∙ digits_begin r ((114 ∷ s) ++ rest) h

-- ---- what stops a number

-- the end, a byte of no number, or a period behind which no number goes on
abbrev pub Quiet : List ℕ → Type 0
Quiet [] = Unit {0}
Quiet (b ∷ rest) = is_number_byte b ≡ false

abbrev pub StopsNumber : List ℕ → Type 0
StopsNumber [] = Unit {0}
StopsNumber (b ∷ rest) = (is_number_byte b ≡ false) ⊎ ((b ≡ 46) × Quiet rest)

-- none is longer than one that is stopped
no_longer : (w : List ℕ) (x : ℕ) (v rest r : List ℕ) → StopsNumber rest → (x ∷ v) ++ r ≡ rest → IsNumber (w ++ x ∷ v) → ⊥
no_longer w x v [] r stops t h = absurd (cc)
no_longer w x v (b ∷ rest) r (inl e) t h =
    let all : Passes is_number_byte (x ∷ v) = passes_behind is_number_byte w (x ∷ v) (number_ends (w ++ x ∷ v) h).bytes in
    let same : x ≡ b = cc in
    false≢true (sym e ∙ ap is_number_byte (sym same) ∙ all.0)
no_longer w x [] (b ∷ rest) r (inr (e, q)) t h =
    let same : x ≡ 46 = (let first : x ≡ b = cc in first ∙ e) in
    let ends : IsAlphanumeric (last 48 (w ++ x ∷ [])) = (number_ends (w ++ x ∷ []) h).ends 48 refl in
    let here : IsAlphanumeric x = subst IsAlphanumeric (last-append 48 w (x ∷ [])) ends in
    false≢true (sym (ap is_ascii_alphanumeric same) ∙ here)
no_longer w x (c ∷ v) (b ∷ []) r (inr (e, q)) t h = let none : c ∷ v ++ r ≡ [] = cc in absurd (cc)
no_longer w x (c ∷ v) (b ∷ d ∷ rest) r (inr (e, q)) t h =
    let all : Passes is_number_byte (x ∷ c ∷ v) = passes_behind is_number_byte w (x ∷ c ∷ v) (number_ends (w ++ x ∷ c ∷ v) h).bytes in
    let same : c ≡ d = cc in
    false≢true (sym q ∙ ap is_number_byte (sym same) ∙ all.1.0)

-- what is longer than a front goes on with it
longer : (w v rest r : List ℕ) → v ++ r ≡ w ++ rest → length w < length v → (x : ℕ) × (y : List ℕ) × (v ≡ w ++ x ∷ y) × ((x ∷ y) ++ r ≡ rest)
longer [] [] rest r t lt = absurd (omega arith)
longer [] (x ∷ v) rest r t lt = (x, v, refl, t)
longer (b ∷ w) [] rest r t lt = absurd (omega arith)
longer (b ∷ w) (x ∷ v) rest r t lt =
    let same : x ≡ b = cc in
    let left : v ++ r ≡ w ++ rest = cc in
    let more = longer w v rest r left (omega arith) in
    (more.0, more.1, ap (λ c. c ∷ v) same ∙ ap (λ l. b ∷ l) more.2, more.3)

pub number_longest : (w rest : List ℕ) → IsNumber w → StopsNumber rest → IsLongest kind.Number w rest
number_longest w rest h stops = taken (cases_lt (length w) n)
  where
    n : ℕ
    n = number_len (w ++ rest)

    takes : Takes kind.Number n (w ++ rest)
    takes = number_takes (w ++ rest) (number_begins w rest h)

    long : length (take n (w ++ rest)) ≡ n
    long = length-take-le n (w ++ rest) takes.fits

    taken : (length w < n) ⊎ (n ≤ length w) → IsLongest kind.Number w rest
    taken (inl lt) =
        let more = longer w (take n (w ++ rest)) rest (drop n (w ++ rest)) (take-append-drop n (w ++ rest)) (omega (arith, long, lt)) in
        absurd (no_longer w more.0 more.1 rest (drop n (w ++ rest)) stops more.3 (subst IsNumber more.2 takes.longest.token))
    taken (inr le) =
        let most : length w ≤ length (take n (w ++ rest)) = takes.longest.longest kind.Number w rest (sym (take-append-drop n (w ++ rest))) h in
        let same : n ≡ length w = omega (arith, le, most, long) in
        subst (λ v. IsLongest kind.Number v rest) (take_at w rest n (sym same)) (subst (IsLongest kind.Number (take n (w ++ rest))) (drop_at w rest n (sym same)) takes.longest)
