-- Formats: how values are spelled as bytes, which values are lawful, and how they are read again, up to the first fault.
use Rattle.std.specs.Prelude.{◌≡◌, ℕ, zero, suc, ◌^◌, Bool, true, ◌&&◌, nat_lt, List, [], ◌∷◌, ◌++◌, length, take, drop, Result, Ok, Err, if◌then◌else◌}
use Rattle.std.specs.Int.{Width, w32, w64, byte_len, from_be_bytes, to_be_bytes}
use Rattle.s80_image.specs.declared.fault.Fault.{Fault}
use Rattle.s80_image.specs.declared.fault.Fault.TheVariants.{Short, Field}
use Rattle.s80_image.specs.declared.fault.ReadError.{ReadError}
use Rattle.s80_image.specs.declared.fault.ReadError.TheVariants as errors

-- what is read from the front of bytes, and the bytes behind it
abbrev pub Reading : Type 0 → Type 0
Reading A = Result (A × List ℕ) Fault

pub record Format (A : Type 0) : Type 0 where
  pub spell : A → List ℕ
  pub lawful : A → Bool
  pub read : List ℕ → Reading A

infixl 10 ◌>>=◌
abbrev pub ◌>>=◌ : {A B : Type 0} → Result A Fault → (A → Result B Fault) → Result B Fault
(Ok x) >>= f = f x
(Err e) >>= f = Err e

-- What a function answered, seen by view, is what reading gives, unless memory ran out.
abbrev pub Fails : {Y : Type 0} → ReadError → Result Y Fault → Type 0
Fails errors.Memory read = Unit {0}
Fails (errors.Fault f) read = read ≡ Err f

abbrev pub Gives : {X Y : Type 0} → (X → Y) → Result X ReadError → Result Y Fault → Type 0
Gives view (Ok x) read = read ≡ Ok (view x)
Gives view (Err e) read = Fails e read

-- ---- single fields

abbrev pub next_byte : List ℕ → Reading ℕ
next_byte [] = Err Short
next_byte (b ∷ rest) = Ok (b, rest)

abbrev pub byte : Format ℕ
byte = record {
  spell = λ n. n ∷ [];
  lawful = λ n. nat_lt n 256;
  read = next_byte;
}

-- a number of several bytes, the highest first, below this limit
abbrev pub number : Width → ℕ → Format ℕ
number w limit = record {
  spell = to_be_bytes w;
  lawful = λ n. nat_lt n limit;
  read = λ bytes. if nat_lt (length bytes) (byte_len w) then Err Short else Ok (from_be_bytes w (take (byte_len w) bytes), drop (byte_len w) bytes);
}

abbrev pub word32 : Format ℕ
word32 = number w32 (2 ^ 32)

abbrev pub word64 : Format ℕ
word64 = number w64 (2 ^ 64)

-- a text: its length, and its bytes
abbrev pub text : Format (List ℕ)
text = record {
  spell = λ t. to_be_bytes w32 (length t) ++ t;
  lawful = λ t. nat_lt (length t) (2 ^ 32);
  read = λ bytes. word32.read bytes >>= λ n. if nat_lt (length n.1) n.0 then Err Short else Ok (take n.0 n.1, drop n.0 n.1);
}

-- values that pass a test; a fault tells how many bytes are left where the field begins, and its value
abbrev pub such_that : {A : Type 0} → (A → ℕ) → (A → Bool) → Format A → Format A
such_that value test f = record {
  spell = f.spell;
  lawful = λ a. f.lawful a && test a;
  read = λ bytes. f.read bytes >>= λ x. if test x.0 then Ok x else Err (Field (length bytes) (value x.0));
}

abbrev pub number_where : (ℕ → Bool) → Format ℕ → Format ℕ
number_where test f = such_that (λ n. n) test f

abbrev pub text_where : (List ℕ → Bool) → Format (List ℕ)
text_where test = such_that length test text

-- ---- several fields

-- other values for the same bytes
abbrev pub mapped : {A B : Type 0} → (A → B) → (B → A) → Format A → Format B
mapped to from f = record {
  spell = λ b. f.spell (from b);
  lawful = λ b. f.lawful (from b);
  read = λ bytes. f.read bytes >>= λ x. Ok (to x.0, x.1);
}

-- a part, and a part behind it whose format it tells
abbrev pub pair : {A B : Type 0} → Format A → (A → Format B) → Format (A × B)
pair f g = record {
  spell = λ p. f.spell p.0 ++ (g p.0).spell p.1;
  lawful = λ p. f.lawful p.0 && (g p.0).lawful p.1;
  read = λ bytes. f.read bytes >>= λ a. (g a.0).read a.1 >>= λ b. Ok ((a.0, b.0), b.1);
}

-- members one behind the other, where those before tell the format of the next one
abbrev pub spelled : {A : Type 0} → (List A → Format A) → List A → List A → List ℕ
spelled member before [] = []
spelled member before (x ∷ xs) = (member before).spell x ++ spelled member (before ++ x ∷ []) xs

abbrev pub are_lawful : {A : Type 0} → (List A → Format A) → List A → List A → Bool
are_lawful member before [] = true
are_lawful member before (x ∷ xs) = (member before).lawful x && are_lawful member (before ++ x ∷ []) xs

unfoldable pub members : {A : Type 0} → (List A → Format A) → List A → ℕ → List ℕ → Reading (List A)
members member before zero bytes = Ok (before, bytes)
members member before (suc n) bytes = (member before).read bytes >>= λ x. members member (before ++ x.0 ∷ []) n x.1

-- a list: its length, which passes a test, and its members
abbrev pub list_of : {A : Type 0} → (ℕ → Bool) → (List A → Format A) → Format (List A)
list_of test member = record {
  spell = λ xs. to_be_bytes w32 (length xs) ++ spelled member [] xs;
  lawful = λ xs. nat_lt (length xs) (2 ^ 32) && test (length xs) && are_lawful member [] xs;
  read = λ bytes. (number_where test word32).read bytes >>= λ n. members member [] n.0 n.1;
}
