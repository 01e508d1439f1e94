-- Selectors: what the counting of keywords tells, and that the three kinds exclude each other.
use Rattle.std.proofs.Common.{◌≡◌, ◌≢◌, ◌∙◌, ap, sym, subst, refl, ℕ, zero, suc, ◌⊎◌, inl, inr, ◌==◌, ◌&&◌, ◌||◌, List, [], ◌∷◌, ◌++◌, Option, Some, None, Bool, true, false, length, codes, if◌then◌else◌, rules, tests, arith, append_assoc}
use Rattle.std.proofs.lemmas.Bool.Decides.{nat_tests}
use Rattle.std.specs.Prelude.{option_map, option_and_then, nat_eq}
use Rattle.std.specs.List.{AllByRecursion, flat_map, list_all, list_any}
use Rattle.std.specs.Char.{is_ascii_alphabetic, is_ascii_alphanumeric}
use Rattle.std.specs.Option.{unwrap_or}
use Rattle.s80_lex.specs.Class.{class_of, is_special}
use Rattle.s80_lex.specs.Spelling.{Passes, IsName, IsBinary, IsOperator, IsKeywordSelector, keyword}
use Rattle.s80_lex.specs.Selector.{IsSelectorOf, is_name, is_binary, begins_binary, keywords_from, some_of, keywords_of}

value : {A : Type 0} {x y : A} → Some x ≡ Some y → x ≡ y
value {x = x} e = ap (λ o. unwrap_or o x) e

pub letter : (b : ℕ) → IsName (b ∷ []) → is_ascii_alphabetic b ≡ true
letter b p = let e = p.0 in search (rules, tests)

pub is_letter : (b : ℕ) (tail : List ℕ) → is_ascii_alphabetic b ≡ true → Passes is_ascii_alphanumeric tail → IsName (b ∷ tail)
is_letter b tail e p = (rw e refl, p)

pub no_colon : (b : ℕ) → is_ascii_alphanumeric b ≡ true → (b == 58) ≡ false
no_colon b e = search (rules, tests)

pub in_run : (tail rest : List ℕ) → Passes is_ascii_alphanumeric tail → keywords_from true (tail ++ 58 ∷ rest) ≡ option_map suc (keywords_from false rest)
in_run [] rest p = refl
in_run (b ∷ tail) rest (here, p) = rw (no_colon b here, here) (in_run tail rest p)

pub behind_name : (name rest : List ℕ) → IsName name → keywords_from false (name ++ 58 ∷ rest) ≡ option_map suc (keywords_from false rest)
behind_name [] rest p = absurd p
behind_name (b ∷ tail) rest (here, p) = rw (letter b (here, tt)) (in_run tail rest p)

pub counts_all : (names : List (List ℕ)) → AllByRecursion IsName names → keywords_from false (flat_map keyword names) ≡ Some (length names)
counts_all [] p = refl
counts_all (name ∷ names) (here, p) =
    ap (λ w. keywords_from false w) (append_assoc name (codes ":") (flat_map keyword names))
    ∙ behind_name name (flat_map keyword names) here
    ∙ ap (λ o. option_map suc o) (counts_all names p)

-- keywords, so many
pub record Joined (n : ℕ) (word : List ℕ) : Type 0 where
  pub names : List (List ℕ)
  pub named : AllByRecursion IsName names
  pub spelled : word ≡ flat_map keyword names
  pub counted : n ≡ length names

-- the rest of a keyword, and keywords
pub record Ends (n : ℕ) (word : List ℕ) : Type 0 where
  pub tail : List ℕ
  pub passes : Passes is_ascii_alphanumeric tail
  pub names : List (List ℕ)
  pub named : AllByRecursion IsName names
  pub spelled : word ≡ tail ++ 58 ∷ flat_map keyword names
  pub counted : n ≡ suc (length names)

pub step_in : (colon goes : Bool) (x y : Option ℕ) (n : ℕ) → (if true && colon then option_map suc x else (if goes then y else None)) ≡ Some n
    → ((colon ≡ true) × ((m : ℕ) × (x ≡ Some m) × (n ≡ suc m))) ⊎ ((goes ≡ true) × (y ≡ Some n))
step_in true goes None y n e = cc
step_in true goes (Some m) y n e = inl (refl, (m, refl, sym (value e)))
step_in false true x y n e = inr (refl, e)
step_in false false x y n e = cc

pub step_out : (colon goes : Bool) (x y : Option ℕ) (n : ℕ) → (if false && colon then option_map suc x else (if goes then y else None)) ≡ Some n → (goes ≡ true) × (y ≡ Some n)
step_out colon true x y n e = (refl, e)
step_out colon false x y n e = cc

pub is_colon : (b : ℕ) → (b == 58) ≡ true → b ≡ 58
is_colon b e = grind (arith, nat_tests)

pub ends_here : (b : ℕ) (word : List ℕ) (m n : ℕ) → b ≡ 58 → n ≡ suc m → Joined m word → Ends n (b ∷ word)
ends_here b word m n e count j =
    record {
      tail = [];
      passes = tt;
      names = j.names;
      named = j.named;
      spelled = ap (λ x. x ∷ word) e ∙ ap (λ w. 58 ∷ w) j.spelled;
      counted = count ∙ ap suc j.counted;
    }

pub ends_later : (b : ℕ) (word : List ℕ) (n : ℕ) → is_ascii_alphanumeric b ≡ true → Ends n word → Ends n (b ∷ word)
ends_later b word n h t =
    record { tail = b ∷ t.tail; passes = (h, t.passes); names = t.names; named = t.named; spelled = ap (λ w. b ∷ w) t.spelled; counted = t.counted }

pub begins_here : (b : ℕ) (word : List ℕ) (n : ℕ) → is_ascii_alphabetic b ≡ true → Ends n word → Joined n (b ∷ word)
begins_here b word n h t =
    record {
      names = (b ∷ t.tail) ∷ t.names;
      named = (is_letter b t.tail h t.passes, t.named);
      spelled = ap (λ w. b ∷ w) t.spelled ∙ sym (append_assoc (b ∷ t.tail) (codes ":") (flat_map keyword t.names));
      counted = t.counted;
    }

pub tells : (word : List ℕ) → ((n : ℕ) → keywords_from false word ≡ Some n → Joined n word) × ((n : ℕ) → keywords_from true word ≡ Some n → Ends n word)
tells [] = (λ n e. record { names = []; named = tt; spelled = refl; counted = sym (value e) }, λ n e. cc)
tells (b ∷ word) =
    let rest = tells word in (
      λ n e. let h = step_out (b == 58) (is_ascii_alphabetic b) (keywords_from false word) (keywords_from true word) n e in
          begins_here b word n h.0 (rest.1 n h.1),
      λ n e. elim (step_in (b == 58) (is_ascii_alphanumeric b) (keywords_from false word) (keywords_from true word) n e) [
        | inl (colon, (m, is, count)) ↦ ends_here b word m n (is_colon b colon) count (rest.0 m is)
        | inr (h, is) ↦ ends_later b word n h (rest.1 n is)
      ],
    )

pub some_is : (o : Option ℕ) (n : ℕ) → option_and_then some_of o ≡ Some n → (o ≡ Some n) × (n ≢ 0)
some_is None n e = cc
some_is (Some zero) n e = cc
some_is (Some (suc m)) n e = (e, λ none. omega (arith, value e))

pub is_some : (n : ℕ) → n ≢ 0 → some_of n ≡ Some n
is_some zero h = absurd (h refl)
is_some (suc n) h = refl

pub empty_is : (names : List (List ℕ)) → names ≡ [] → length names ≡ 0
empty_is names e = ap (λ l. length l) e

pub some_names : (names : List (List ℕ)) → names ≢ [] → length names ≢ 0
some_names [] h = absurd (h refl)
some_names (name ∷ names) h = λ e. omega (arith, e)

pub keywords_then : (n : ℕ) (word : List ℕ) → keywords_of word ≡ Some n → IsKeywordSelector n word
keywords_then n word e =
    let s = some_is (keywords_from false word) n e in
    let j = (tells word).0 n s.0 in
    record { names = j.names; some = λ none. s.1 (j.counted ∙ empty_is j.names none); named = j.named; spelled = j.spelled; counted = j.counted }

pub keywords_when : (n : ℕ) (word : List ℕ) → IsKeywordSelector n word → keywords_of word ≡ Some n
keywords_when n word k =
    ap (λ w. keywords_of w) k.spelled
    ∙ ap (λ o. option_and_then some_of o) (counts_all k.names k.named)
    ∙ is_some (length k.names) (some_names k.names k.some)
    ∙ ap (λ m. Some m) (sym k.counted)

-- the three kinds exclude each other
pub run_is_none : (tail : List ℕ) → Passes is_ascii_alphanumeric tail → keywords_from true tail ≡ None
run_is_none [] p = refl
run_is_none (b ∷ tail) (here, p) = rw (no_colon b here, here) (run_is_none tail p)

pub name_is_none : (word : List ℕ) → IsName word → keywords_of word ≡ None
name_is_none [] p = absurd p
name_is_none (b ∷ tail) (here, p) = rw (letter b (here, tt)) (ap (λ o. option_and_then some_of o) (run_is_none tail p))

pub not_letter : (a : Bool) → (a ≡ true → ⊥) → a ≡ false
not_letter true h = absurd (h refl)
not_letter false h = refl

pub no_letter : (b : ℕ) → IsOperator (class_of b) → is_ascii_alphabetic b ≡ false
no_letter b p = not_letter (is_ascii_alphabetic b) (λ e. subst (λ c. IsOperator c) (is_letter b [] e tt).0 p)

pub binary_is_none : (word : List ℕ) → IsBinary word → keywords_of word ≡ None
binary_is_none [] p = absurd p
binary_is_none (b ∷ []) p = rw (no_letter b p) refl
binary_is_none (b ∷ c ∷ []) p = rw (no_letter b p.0) refl
binary_is_none (b ∷ c ∷ d ∷ more) p = absurd p

pub name_no_binary : (word : List ℕ) → IsName word → IsBinary word → ⊥
name_no_binary [] p q = absurd p
name_no_binary (b ∷ []) p q = subst (λ c. IsOperator c) p.0 q
name_no_binary (b ∷ c ∷ []) p q = subst (λ c. IsOperator c) p.0 q.0
name_no_binary (b ∷ c ∷ d ∷ more) p q = absurd q

pub none_some : (word : List ℕ) (n : ℕ) → keywords_of word ≡ None → IsKeywordSelector n word → ⊥
none_some word n e k = let both = sym e ∙ keywords_when n word k in cc

pub of_name : (word : List ℕ) → IsName word → (n : ℕ) → (Some 0 ≡ Some n → IsSelectorOf n word) × (IsSelectorOf n word → Some 0 ≡ Some n)
of_name word p n = (λ e. inl (p, sym (value e)), back)
  where
    back : IsSelectorOf n word → Some 0 ≡ Some n
    back (inl (q, e)) = ap (λ m. Some m) (sym e)
    back (inr (inl (q, e))) = absurd (name_no_binary word p q)
    back (inr (inr k)) = absurd (none_some word n (name_is_none word p) k)

pub of_binary : (word : List ℕ) → IsBinary word → (n : ℕ) → (Some 1 ≡ Some n → IsSelectorOf n word) × (IsSelectorOf n word → Some 1 ≡ Some n)
of_binary word p n = (λ e. inr (inl (p, sym (value e))), back)
  where
    back : IsSelectorOf n word → Some 1 ≡ Some n
    back (inl (q, e)) = absurd (name_no_binary word q p)
    back (inr (inl (q, e))) = ap (λ m. Some m) (sym e)
    back (inr (inr k)) = absurd (none_some word n (binary_is_none word p) k)

pub of_keywords : (word : List ℕ) → (IsName word → ⊥) → (IsBinary word → ⊥) → (n : ℕ) → (keywords_of word ≡ Some n → IsSelectorOf n word) × (IsSelectorOf n word → keywords_of word ≡ Some n)
of_keywords word p q n = (λ e. inr (inr (keywords_then n word e)), back)
  where
    back : IsSelectorOf n word → keywords_of word ≡ Some n
    back (inl (r, e)) = absurd (p r)
    back (inr (inl (r, e))) = absurd (q r)
    back (inr (inr k)) = keywords_when n word k

-- the tests tell what they should
pub first_true : (x y : Bool) → (x && y) ≡ true → (x ≡ true) × (y ≡ true)
first_true true y e = (refl, e)
first_true false y e = cc

pub passes_all : (p : ℕ → Bool) (bytes : List ℕ) → list_all p bytes ≡ true → Passes p bytes
passes_all p [] e = tt
passes_all p (b ∷ bytes) e = let h = first_true (p b) (list_all p bytes) e in (h.0, passes_all p bytes h.1)

pub all_pass : (p : ℕ → Bool) (bytes : List ℕ) → Passes p bytes → list_all p bytes ≡ true
all_pass p [] h = refl
all_pass p (b ∷ bytes) h = rw h.0 (all_pass p bytes h.1)

pub name_is : (word : List ℕ) → is_name word ≡ true → IsName word
name_is [] e = cc
name_is (b ∷ tail) e = let h = first_true (is_ascii_alphabetic b) (list_all is_ascii_alphanumeric tail) e in is_letter b tail h.0 (passes_all is_ascii_alphanumeric tail h.1)

pub is_name_when : (word : List ℕ) → IsName word → is_name word ≡ true
is_name_when [] p = absurd p
is_name_when (b ∷ tail) (here, p) = rw (letter b (here, tt)) (all_pass is_ascii_alphanumeric tail p)

pub equal_to : (b c : ℕ) → (b == c) ≡ true → b ≡ c
equal_to b c e = grind (arith, nat_tests)

pub either_true : (x y : Bool) → (x || y) ≡ true → (x ≡ true) ⊎ (y ≡ true)
either_true true y e = inl refl
either_true false y e = inr e

pub any_holds : (P : ℕ → Type 0) (b : ℕ) (cs : List ℕ) → AllByRecursion P cs → list_any (λ c. b == c) cs ≡ true → P b
any_holds P b [] h e = cc
any_holds P b (c ∷ cs) (here, h) e =
    elim (either_true (b == c) (list_any (λ c. b == c) cs) e) [
      | inl same ↦ subst P (sym (equal_to b c same)) here
      | inr later ↦ any_holds P b cs h later
    ]

pub special_class : (b : ℕ) → is_special b ≡ true → class_of b ≡ class_of 43
special_class b e =
    any_holds (λ c. class_of c ≡ class_of 43) b (codes "+/\\*~<>=@%|&?,!")
    (refl, (refl, (refl, (refl, (refl, (refl, (refl, (refl, (refl, (refl, (refl, (refl, (refl, (refl, (refl, tt))))))))))))))) e

pub operator_is : (b : ℕ) → begins_binary b ≡ true → IsOperator (class_of b)
operator_is b e =
    elim (either_true (is_special b) (b == 45) e) [
      | inl special ↦ subst (λ c. IsOperator c) (sym (special_class b special)) tt
      | inr minus ↦ subst (λ (c : ℕ). IsOperator (class_of c)) (sym (equal_to b 45 minus)) tt
    ]

pub operator_then : (b : ℕ) → IsOperator (class_of b) → begins_binary b ≡ true
operator_then b p = search (rules, tests)

pub special_then : (b c : ℕ) → IsBinary (b ∷ c ∷ []) → is_special c ≡ true
special_then b c p =
    let op : IsOperator (class_of c) = subst (λ k. IsOperator k) (sym p.1) tt in
    elim (either_true (is_special c) (c == 45) (operator_then c op)) [
      | inl special ↦ special
      | inr minus ↦ absurd (let e : class_of 45 ≡ class_of 43 = ap (λ k. class_of k) (sym (equal_to c 45 minus)) ∙ p.1 in cc)
    ]

pub binary_is : (word : List ℕ) → is_binary word ≡ true → IsBinary word
binary_is [] e = cc
binary_is (b ∷ []) e = operator_is b e
binary_is (b ∷ c ∷ []) e = let h = first_true (begins_binary b) (is_special c) e in (operator_is b h.0, special_class c h.1)
binary_is (b ∷ c ∷ d ∷ more) e = cc

pub is_binary_when : (word : List ℕ) → IsBinary word → is_binary word ≡ true
is_binary_when [] p = absurd p
is_binary_when (b ∷ []) p = operator_then b p
is_binary_when (b ∷ c ∷ []) p = rw (operator_then b p.0) (special_then b c p)
is_binary_when (b ∷ c ∷ d ∷ more) p = absurd p

pub not_true : (b : Bool) (P : Type 0) → b ≡ false → (P → b ≡ true) → P → ⊥
not_true b P e h p = let both = sym e ∙ h p in cc

pub same_number : (m n : ℕ) → nat_eq m n ≡ true → m ≡ n
same_number m n e = grind (arith, nat_tests)

pub number_same : (m n : ℕ) → m ≡ n → nat_eq m n ≡ true
number_same m n e = grind (arith, nat_tests)

pub parameters_some : (word bytes : List ℕ) (count arguments n : ℕ) → bytes ≡ word → n ≡ arguments
    → ((k : ℕ) → (Some count ≡ Some k → IsSelectorOf k bytes) × (IsSelectorOf k bytes → Some count ≡ Some k))
    → (nat_eq count n ≡ true → IsSelectorOf arguments word) × (IsSelectorOf arguments word → nat_eq count n ≡ true)
parameters_some word bytes count arguments n same is h = (
  λ e. subst (λ (w : List ℕ). IsSelectorOf arguments w) same ((h arguments).0 (ap (λ k. Some k) (same_number count n e ∙ is))),
  λ s. number_same count n (value ((h arguments).1 (subst (λ (w : List ℕ). IsSelectorOf arguments w) (sym same) s)) ∙ sym is),
)

pub parameters_none : (word bytes : List ℕ) (arguments : ℕ) → bytes ≡ word → ((k : ℕ) → (None ≡ Some k → IsSelectorOf k bytes) × (IsSelectorOf k bytes → None ≡ Some k)) → IsSelectorOf arguments word → ⊥
parameters_none word bytes arguments same h s =
    let e : None ≡ Some arguments = (h arguments).1 (subst (λ (w : List ℕ). IsSelectorOf arguments w) (sym same) s) in cc
