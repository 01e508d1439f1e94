-- The token at the front of a text, computed.
use Rattle.std.proofs.Common.{◌≡◌, refl, ap, sym, ◌∙◌, subst, Option, Some, None, Bool, true, false, not, ◌||◌, ◌==◌, nat_le, nat_lt, cond, ℕ, ◌+◌, ◌≤◌, List, [], ◌∷◌, ◌++◌, take, drop, length, get_or, arith, rules, tests, add-one}
use Rattle.std.specs.List.{prefix_len, flat_map}
use Rattle.std.specs.Char.{is_ascii_alphabetic, is_ascii_alphanumeric, is_ascii_digit}
use Rattle.std.proofs.lemmas.Bool.{eqb-true, leb-true, ltb-true, not-true}
use Rattle.s80_lex.specs.declared.token.TokenKind.{TokenKind}
use Rattle.s80_lex.specs.declared.token.TokenKind.TheVariants as token
use Rattle.s80_lex.specs.Class.{class_of, is_special}
use Rattle.s80_lex.specs.Front.{first_class, Takes, ends_keyword, number_len, are_below}
use Rattle.s80_lex.specs.Number.{IsLawfulNumber, radix_of, digits_of}
use Rattle.s80_lex.specs.Spelling.{IsOperator, begins_with, doubled, Passes}
use Rattle.s80_lex.proofs.Classes.{digit_class}
use Rattle.s80_lex.proofs.lemmas.Quotes.{SoFar, quoted_found}
use Rattle.s80_lex.proofs.lemmas.Runs.{run_passes}
use Rattle.s80_lex.proofs.lemmas.Selectors.{binary_one, binary_two}
use Rattle.s80_lex.proofs.lemmas.Signs.{colon_takes}
use Rattle.s80_lex.proofs.lemmas.Taken.{name_takes, keyword_takes, binary_takes, string_takes, number_takes, underscore_takes, mark_takes}
use Rattle.s80_lex.proofs.Values.{lawful_test}
use Rattle.s80_apply.proofs.KernelTold.{◌>>=◌, first_of, told, told_not}

-- the longest token at the front
pub record Front (text : List ℕ) : Type 0 where
  pub kind : TokenKind
  pub size : ℕ
  pub taken : Takes kind size text
  pub lawful : kind ≡ token.Number → IsLawfulNumber (take size text)

-- ---- classes, each by one of its bytes: a letter (97), a digit (48), a special character (43)

pub letter_class : (b : ℕ) → is_ascii_alphabetic b ≡ true → class_of b ≡ class_of 97
letter_class b e = search (rules, tests)

pub special_class : (b : ℕ) → is_special b ≡ true → class_of b ≡ class_of 43
special_class b e = search (rules, tests)

pub class_special : (b : ℕ) → class_of b ≡ class_of 43 → is_special b ≡ true
class_special b e = search (rules, tests)

-- ---- each kind of token

abbrev pub is_number : TokenKind → Bool
is_number token.Number = true
is_number _ = false

-- what is asked of numbers alone
pub other_kind : (kind : TokenKind) → is_number kind ≡ false → (text : List ℕ) → kind ≡ token.Number → IsLawfulNumber text
other_kind kind other text same = let is : true ≡ false = sym (ap is_number same) ∙ other in absurd (cc)

-- a letter, and what it begins
abbrev letter_at : (text : List ℕ) → Option (first_class text ≡ class_of 97)
letter_at [] = None
letter_at (b ∷ bs) = do
  e ← told (is_ascii_alphabetic b)
  Some (letter_class b e)

abbrev keyword_at : (text : List ℕ) → first_class text ≡ class_of 97 → Option (Front text)
keyword_at text e = do
  f ← told (ends_keyword (drop (prefix_len is_ascii_alphanumeric text) text))
  Some (record { kind = token.Keyword; size = prefix_len is_ascii_alphanumeric text + 1; taken = keyword_takes text e f; lawful = other_kind token.Keyword refl _ })

abbrev name_at : (text : List ℕ) → first_class text ≡ class_of 97 → Option (Front text)
name_at text e = do
  f ← told_not (ends_keyword (drop (prefix_len is_ascii_alphanumeric text) text))
  Some (record { kind = token.Name; size = prefix_len is_ascii_alphanumeric text; taken = name_takes text e f; lawful = other_kind token.Name refl _ })

abbrev word_at : (text : List ℕ) → Option (Front text)
word_at text = do
  e ← letter_at text
  first_of (name_at text e) (keyword_at text e)

-- a number with a lawful radix and digits
pub lawful_number : (bytes : List ℕ) → nat_le 2 (radix_of bytes) ≡ true → nat_le (radix_of bytes) 36 ≡ true → are_below (radix_of bytes) (digits_of bytes) ≡ true → IsLawfulNumber bytes
lawful_number bytes low high below =
    let from : 2 ≤ radix_of bytes = leb-true 2 (radix_of bytes) low in
    let to : radix_of bytes ≤ 36 = leb-true (radix_of bytes) 36 high in
    (lawful_test (radix_of bytes) (are_below (radix_of bytes) (digits_of bytes)) bytes (digits_of bytes) from to (omega arith) refl refl).0 below

abbrev number_at : (text : List ℕ) → Option (Front text)
number_at [] = None
number_at (b ∷ bs) = do
  e ← told (is_ascii_digit b)
  let word = take (number_len (b ∷ bs)) (b ∷ bs)
  low ← told (nat_le 2 (radix_of word))
  high ← told (nat_le (radix_of word) 36)
  below ← told (are_below (radix_of word) (digits_of word))
  Some (record { kind = token.Number; size = number_len (b ∷ bs); taken = number_takes (b ∷ bs) (digit_class b e); lawful = λ same. lawful_number word low high below })

-- one special character or two
pub operator_class : (b : ℕ) → (is_special b || b == 45) ≡ true → IsOperator (class_of b)
operator_class b e = search (rules, tests)

abbrev double_at : (b : ℕ) (bs : List ℕ) → IsOperator (class_of b) → Option (Front (b ∷ bs))
double_at b [] i = None
double_at b (c ∷ bs) i = do
  e ← told (is_special c)
  Some (record { kind = token.Binary; size = 2; taken = binary_takes 2 (b ∷ c ∷ bs) i (binary_two (b ∷ c ∷ bs) i (special_class c e)); lawful = other_kind token.Binary refl _ })

pub last_one : (b : ℕ) → IsOperator (class_of b) → Takes token.Binary 1 (b ∷ [])
last_one b i = binary_takes 1 (b ∷ []) i (binary_one (b ∷ []) i (λ e. absurd (cc)))

pub one : (b c : ℕ) (bs : List ℕ) → IsOperator (class_of b) → is_special c ≡ false → Takes token.Binary 1 (b ∷ c ∷ bs)
one b c bs i e = binary_takes 1 (b ∷ c ∷ bs) i (binary_one (b ∷ c ∷ bs) i (λ f. let s = class_special c f in cc))

abbrev single_at : (b : ℕ) (bs : List ℕ) → IsOperator (class_of b) → Option (Front (b ∷ bs))
single_at b [] i = Some (record { kind = token.Binary; size = 1; taken = last_one b i; lawful = other_kind token.Binary refl _ })
single_at b (c ∷ bs) i = do
  e ← told_not (is_special c)
  Some (record { kind = token.Binary; size = 1; taken = one b c bs i e; lawful = other_kind token.Binary refl _ })

abbrev operator_at : (text : List ℕ) → Option (Front text)
operator_at [] = None
operator_at (b ∷ bs) = do
  e ← told (is_special b || b == 45)
  first_of (double_at b bs (operator_class b e)) (single_at b bs (operator_class b e))

-- a text between quotes (39), in which none stands
quoteless : (text : List ℕ) → Passes (λ b. not (b == 39)) text → flat_map (doubled 39) text ≡ text
quoteless [] h = refl
quoteless (b ∷ text) h =
    ap (λ t. cond t (39 ∷ 39 ∷ []) (b ∷ []) ++ flat_map (doubled 39) text) (not-true (b == 39) h.0) ∙ ap (λ l. b ∷ l) (quoteless text h.1)

abbrev inner_len : List ℕ → ℕ
inner_len text = prefix_len (λ b. not (b == 39)) text

so_far : (text : List ℕ) → SoFar 39 (inner_len text + 1) (39 ∷ text)
so_far text =
    let inner : List ℕ = take (inner_len text) text in
    (inner, ap (λ n. take n (39 ∷ text)) (add-one (inner_len text)) ∙ ap (λ l. 39 ∷ l) (sym (quoteless inner (run_passes (λ b. not (b == 39)) text))))

pub string_taken : (b n : ℕ) (bs : List ℕ) → n ≡ inner_len bs + 1 → (b == 39) ≡ true → nat_lt n (length (b ∷ bs)) ≡ true → (get_or (b ∷ bs) n 0 == 39) ≡ true → begins_with 39 (drop (n + 1) (b ∷ bs)) ≡ false → Takes token.Str (n + 1) (b ∷ bs)
string_taken b n bs same quote within ends single =
    let is : b ≡ 39 = eqb-true b 39 quote in
    let far : SoFar 39 n (b ∷ bs) = subst (λ c. SoFar 39 n (c ∷ bs)) (sym is) (subst (λ m. SoFar 39 m (39 ∷ bs)) (sym same) (so_far bs)) in
    string_takes (n + 1) (b ∷ bs) (ap class_of is) (quoted_found 39 n (b ∷ bs) (ltb-true n (length (b ∷ bs)) within) (eqb-true (get_or (b ∷ bs) n 0) 39 ends) single far)

abbrev string_at : (text : List ℕ) → Option (Front text)
string_at [] = None
string_at (b ∷ bs) = do
  quote ← told (b == 39)
  within ← told (nat_lt (inner_len bs + 1) (length (b ∷ bs)))
  ends ← told (get_or (b ∷ bs) (inner_len bs + 1) 0 == 39)
  single ← told_not (begins_with 39 (drop (inner_len bs + 1 + 1) (b ∷ bs)))
  Some (record { kind = token.Str; size = inner_len bs + 1 + 1; taken = string_taken b (inner_len bs + 1) bs refl quote within ends single; lawful = other_kind token.Str refl _ })

-- a colon (58) by itself, and one byte that is a token
abbrev colon_at : (text : List ℕ) → Option (Front text)
colon_at [] = None
colon_at (b ∷ bs) = do
  e ← told (b == 58)
  f ← told_not (begins_with 61 bs)
  Some (record { kind = token.Colon; size = 1; taken = colon_takes (b ∷ bs) (ap class_of (eqb-true b 58 e)) f; lawful = other_kind token.Colon refl _ })

abbrev byte_at : (kind : TokenKind) (c : ℕ) → ((text : List ℕ) → first_class text ≡ class_of c → Takes kind 1 text) → is_number kind ≡ false → (text : List ℕ) → Option (Front text)
byte_at kind c takes other [] = None
byte_at kind c takes other (b ∷ bs) = do
  e ← told (b == c)
  Some (record { kind = kind; size = 1; taken = takes (b ∷ bs) (ap class_of (eqb-true b c e)); lawful = other_kind kind other _ })

abbrev pub front_in : (text : List ℕ) → Option (Front text)
front_in text =
    first_of (word_at text) (first_of (number_at text) (first_of (operator_at text) (first_of (string_at text) (first_of (colon_at text)
    (first_of (byte_at token.Assign 95 underscore_takes refl text)
    (first_of (byte_at token.OpenParen 40 (mark_takes token.OpenParen) refl text)
    (first_of (byte_at token.CloseParen 41 (mark_takes token.CloseParen) refl text)
    (first_of (byte_at token.OpenBracket 91 (mark_takes token.OpenBracket) refl text)
    (first_of (byte_at token.CloseBracket 93 (mark_takes token.CloseBracket) refl text)
    (first_of (byte_at token.Caret 94 (mark_takes token.Caret) refl text)
    (first_of (byte_at token.Semicolon 59 (mark_takes token.Semicolon) refl text)
    (byte_at token.Period 46 (mark_takes token.Period) refl text))))))))))))
