-- The longest token at the front of a text.
use Rattle.std.proofs.Common.{◌≡◌, ℕ, ◌+◌, ◌≤◌, ◌<◌, inl, inr, List, [], ◌∷◌, ◌++◌, true, false, cond, drop, length, refl, ap, sym, ◌∙◌, subst, arith, take-append-drop, length-take-le}
use Rattle.std.specs.List.{prefix_len}
use Rattle.std.specs.Char.{is_ascii_alphanumeric}
use Rattle.s80_lex.specs.declared.class.Class.{Class}
use Rattle.s80_lex.specs.declared.class.Class.TheVariants as class
use Rattle.s80_lex.specs.declared.token.TokenKind.{TokenKind}
use Rattle.s80_lex.specs.declared.token.TokenKind.TheVariants.{Name, Keyword, Assign, Binary, Number, Character, Str}
use Rattle.s80_lex.specs.declared.digits.Digits.TheVariants.{Decimal}
use Rattle.s80_lex.specs.Spelling.{IsToken, IsBinary, IsOperator, IsQuoted}
use Rattle.s80_lex.specs.Front.{first_class, IsMost, Takes, ends_keyword, run_len, number_len}
use Rattle.s80_lex.proofs.Begins.{Begins, token_begins}
use Rattle.s80_lex.proofs.Classes.{dollar, underscore, digit, mark_spells, mark_length}
use Rattle.s80_lex.proofs.Numerals.{number_most}
use Rattle.s80_lex.proofs.Words.{name_most, keyword_most, no_keyword}

-- a token is taken where no other is longer, among those that begin so
pub takes : (kind : TokenKind) (n : ℕ) (text : List ℕ) → IsMost (IsToken kind) n text → ((k : TokenKind) → Begins (first_class text) k → (w r : List ℕ) → w ++ r ≡ text → IsToken k w r → length w ≤ n) → Takes kind n text
takes kind n text most others = record {
  fits = most.fits;
  longest = record {
    token = most.here;
    longest = λ k w r t h.
        let s : w ++ r ≡ text = t ∙ take-append-drop n text in
        let short : length w ≤ n = others k (subst (λ l. Begins (first_class l) k) s (token_begins k w r h)) w r s h in
        omega (arith, short, length-take-le n text most.fits);
  };
}

-- and where its kind is the only one
takes_only : (kind : TokenKind) (n : ℕ) (text : List ℕ) (c : Class) → first_class text ≡ c → ((k : TokenKind) → Begins c k → k ≡ kind) → IsMost (IsToken kind) n text → Takes kind n text
takes_only kind n text c e only most = takes kind n text most
    (λ k b w r t h. most.longest w r t (subst (λ j. IsToken j w r) (only k (subst (λ d. Begins d k) e b)) h))

pub name_takes : (text : List ℕ) → first_class text ≡ class.Letter → ends_keyword (drop (prefix_len is_ascii_alphanumeric text) text) ≡ false → Takes Name (prefix_len is_ascii_alphanumeric text) text
name_takes text e no_colon =
    let most = name_most text e in
    takes Name (prefix_len is_ascii_alphanumeric text) text most (λ k b w r t h. others k (subst (λ c. Begins c k) e b) w r t h)
  where
    others : (k : TokenKind) → Begins class.Letter k → (w r : List ℕ) → w ++ r ≡ text → IsToken k w r → length w ≤ prefix_len is_ascii_alphanumeric text
    others k (inl i) w r t h = (name_most text e).longest w r t (subst (λ j. IsToken j w r) i h)
    others k (inr i) w r t h = absurd (no_keyword text no_colon w r t (subst (λ j. IsToken j w r) i h))

pub keyword_takes : (text : List ℕ) → first_class text ≡ class.Letter → ends_keyword (drop (prefix_len is_ascii_alphanumeric text) text) ≡ true → Takes Keyword (prefix_len is_ascii_alphanumeric text + 1) text
keyword_takes text e ends =
    takes Keyword (prefix_len is_ascii_alphanumeric text + 1) text (keyword_most text e ends) (λ k b w r t h. others k (subst (λ c. Begins c k) e b) w r t h)
  where
    others : (k : TokenKind) → Begins class.Letter k → (w r : List ℕ) → w ++ r ≡ text → IsToken k w r → length w ≤ prefix_len is_ascii_alphanumeric text + 1
    others k (inl i) w r t h = omega (arith, (name_most text e).longest w r t (subst (λ j. IsToken j w r) i h))
    others k (inr i) w r t h = (keyword_most text e ends).longest w r t (subst (λ j. IsToken j w r) i h)

only_binary : (c : Class) → IsOperator c → (k : TokenKind) → Begins c k → k ≡ Binary
only_binary class.Special i k h = h
only_binary class.Minus i k h = h
only_binary class.Letter i k h = absurd i
only_binary class.Digit i k h = absurd i
only_binary class.Quote i k h = absurd i
only_binary class.DoubleQuote i k h = absurd i
only_binary class.Dollar i k h = absurd i
only_binary class.Hash i k h = absurd i
only_binary class.Underscore i k h = absurd i
only_binary class.Colon i k h = absurd i
only_binary (class.Mark m) i k h = absurd i
only_binary class.Separator i k h = absurd i
only_binary class.Other i k h = absurd i

pub binary_takes : (n : ℕ) (text : List ℕ) → IsOperator (first_class text) → IsMost (λ word _. IsBinary word) n text → Takes Binary n text
binary_takes n text i most = takes_only Binary n text (first_class text) refl (only_binary (first_class text) i) most

pub string_takes : (n : ℕ) (text : List ℕ) → first_class text ≡ class.Quote → IsMost (IsQuoted 39) n text → Takes Str n text
string_takes n text e most = takes_only Str n text class.Quote e (λ k h. h) most

pub digit_run : (text : List ℕ) → first_class text ≡ class.Digit → 0 < run_len Decimal text
digit_run [] e = absurd (cc)
digit_run (b ∷ text) e =
    let long : run_len Decimal (b ∷ text) ≡ 1 + run_len Decimal text = ap (λ x. cond x (1 + run_len Decimal text) 0) (digit b e) in
    omega arith

pub number_takes : (text : List ℕ) → first_class text ≡ class.Digit → Takes Number (number_len text) text
number_takes text e = takes_only Number (number_len text) text class.Digit e (λ k h. h) (number_most text (digit_run text e))

pub character_takes : (text : List ℕ) → first_class text ≡ class.Dollar → 1 < length text → Takes Character 2 text
character_takes [] e lt = absurd (omega arith)
character_takes (a ∷ []) e lt = absurd (omega arith)
character_takes (a ∷ b ∷ text) e lt = takes_only Character 2 (a ∷ b ∷ text) class.Dollar e (λ k h. h) (record {
  fits = omega arith;
  here = (b, ap (λ c. c ∷ b ∷ []) (dollar a e));
  longest = λ w r t h. omega (arith, ap length h.1);
})

pub underscore_takes : (text : List ℕ) → first_class text ≡ class.Underscore → Takes Assign 1 text
underscore_takes [] e = absurd (cc)
underscore_takes (b ∷ text) e = takes_only Assign 1 (b ∷ text) class.Underscore e (λ k h. h) (record {
  fits = omega arith;
  here = inl (ap (λ c. c ∷ []) (underscore b e));
  longest = longest;
})
  where
    longest : (w r : List ℕ) → w ++ r ≡ b ∷ text → IsToken Assign w r → length w ≤ 1
    longest w r t (inl h) = omega (arith, ap length h)
    longest w r t (inr h) =
        let s : 58 ∷ 61 ∷ r ≡ b ∷ text = ap (λ l. l ++ r) (sym h) ∙ t in
        let first : class.Colon ≡ class.Underscore = ap first_class s ∙ e in
        cc

pub mark_takes : (m : TokenKind) (text : List ℕ) → first_class text ≡ class.Mark m → Takes m 1 text
mark_takes m [] e = absurd (cc)
mark_takes m (b ∷ text) e = takes_only m 1 (b ∷ text) (class.Mark m) e (λ k h. h) (record {
  fits = omega arith;
  here = mark_spells m b text e;
  longest = λ w r t h. omega (arith, mark_length m b w r e h);
})
