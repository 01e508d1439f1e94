-- A text, part by part.
use Rattle.std.proofs.Common.{◌≡◌, ℕ, ◌+◌, ◌-◌, ◌≤◌, ◌<◌, List, [], ◌∷◌, ◌++◌, Ok, Err, take, drop, length, refl, ap, sym, ◌∙◌, subst, arith, append_assoc, length-append, take-append-drop, length-take-le, length-drop}
use Rattle.std.proofs.lemmas.List.{append-nil, take_at, drop_at, take_all, drop_all, take_rest, drop-drop}
use Rattle.s80_lex.specs.declared.front.Wrong.{Wrong}
use Rattle.s80_lex.specs.declared.front.Wrong.TheVariants as wrong
use Rattle.s80_lex.specs.declared.class.Class.TheVariants.{Separator}
use Rattle.s80_lex.specs.declared.part.Part.{Part}
use Rattle.s80_lex.specs.declared.part.Part.TheVariants as part
use Rattle.s80_lex.specs.declared.token.Token.{Token}
use Rattle.s80_lex.specs.declared.token.TokenKind.{TokenKind}
use Rattle.s80_lex.specs.declared.token.TokenKind.TheVariants.{Number}
use Rattle.s80_lex.specs.Class.{class_of}
use Rattle.s80_lex.specs.Text.{IsLongest, IsPart, AreParts, AreTokens, IsFirstFault, text_of, token_of, tokens_of}
use Rattle.s80_lex.specs.Front.{Stands, fault_at}
use Rattle.s80_lex.proofs.Stages.{take_both}

text_push : (parts : List (Part × List ℕ)) (p : Part × List ℕ) → text_of (parts ++ p ∷ []) ≡ text_of parts ++ p.1
text_push [] p = append-nil p.1
text_push (q ∷ parts) p = ap (λ l. q.1 ++ l) (text_push parts p) ∙ sym (append_assoc q.1 (text_of parts) p.1)

parts_push : (parts : List (Part × List ℕ)) (p : Part × List ℕ) (rest : List ℕ) → AreParts parts (p.1 ++ rest) → IsPart p.0 p.1 rest → AreParts (parts ++ p ∷ []) rest
parts_push [] p rest h k = (k, tt)
parts_push (q ∷ parts) p rest h k =
    (subst (IsPart q.0 q.1) (sym (append_assoc (text_of parts) p.1 rest) ∙ ap (λ l. l ++ rest) (sym (text_push parts p))) h.0, parts_push parts p rest h.1 k)

tokens_push : (at : ℕ) (parts : List (Part × List ℕ)) (p : Part × List ℕ) → tokens_of at (parts ++ p ∷ []) ≡ tokens_of at parts ++ token_of p.0 (at + length (text_of parts)) (at + length (text_of parts) + length p.1)
tokens_push at [] p =
    let same : at ≡ at + 0 = omega arith in
    append-nil (token_of p.0 at (at + length p.1)) ∙ ap (λ n. token_of p.0 n (n + length p.1)) same
tokens_push at (q ∷ parts) p =
    let same : at + length q.1 + length (text_of parts) ≡ at + length (text_of (q ∷ parts)) = omega (arith, length-append q.1 (text_of parts)) in
    ap (λ l. token_of q.0 at (at + length q.1) ++ l) (tokens_push (at + length q.1) parts p)
    ∙ sym (append_assoc (token_of q.0 at (at + length q.1)) (tokens_of (at + length q.1) parts) (token_of p.0 (at + length q.1 + length (text_of parts)) (at + length q.1 + length (text_of parts) + length p.1)))
    ∙ ap (λ n. tokens_of at (q ∷ parts) ++ token_of p.0 n (n + length p.1)) same

-- the tokens up to a place
pub record Up (tokens : List Token) (place : ℕ) (bytes : List ℕ) : Type 0 where
  pub within : place ≤ length bytes
  pub parts : List (Part × List ℕ)
  pub spelled : take place bytes ≡ text_of parts
  pub each : AreParts parts (drop place bytes)
  pub listed : tokens ≡ tokens_of 0 parts

pub up_none : (bytes : List ℕ) → Up [] 0 bytes
up_none bytes = record { within = omega arith; parts = []; spelled = refl; each = tt; listed = refl }

up_length : (tokens : List Token) (place : ℕ) (bytes : List ℕ) (u : Up tokens place bytes) → length (text_of u.parts) ≡ place
up_length tokens place bytes u = ap length (sym u.spelled) ∙ length-take-le place bytes u.within

pub up_more : (tokens : List Token) (place n : ℕ) (p : Part) (bytes : List ℕ) → Up tokens place bytes → Stands (Ok (p, n)) (take (length bytes - place) (drop place bytes)) → Up (tokens ++ token_of p place (place + n)) (place + n) bytes
up_more tokens place n p bytes u seen =
    let stands : Stands (Ok (p, n)) (drop place bytes) = subst (Stands (Ok (p, n))) (take_rest bytes place) seen in
    let fits : n ≤ length (drop place bytes) = stands.1 in
    let word : List ℕ = take n (drop place bytes) in
    let rest : List ℕ = drop n (drop place bytes) in
    let long : length word ≡ n = length-take-le n (drop place bytes) fits in
    let done : length (text_of u.parts) ≡ place = up_length tokens place bytes u in
    let before : AreParts u.parts (word ++ rest) = subst (AreParts u.parts) (sym (take-append-drop n (drop place bytes))) u.each in
    record {
      within = omega (arith, length-drop place bytes);
      parts = u.parts ++ (p, word) ∷ [];
      spelled = take_both place n bytes u.within ∙ ap (λ l. l ++ word) u.spelled ∙ sym (text_push u.parts (p, word));
      each = subst (AreParts (u.parts ++ (p, word) ∷ [])) (drop-drop n place bytes) (parts_push u.parts (p, word) rest before stands.2);
      listed = ap (λ l. l ++ token_of p place (place + n)) u.listed
          ∙ ap (λ m. tokens_of 0 u.parts ++ token_of p m (m + n)) (let same : place ≡ 0 + length (text_of u.parts) = omega arith in same)
          ∙ ap (λ m. tokens_of 0 u.parts ++ token_of p (0 + length (text_of u.parts)) (0 + length (text_of u.parts) + m)) (sym long)
          ∙ sym (tokens_push 0 u.parts (p, word));
    }

pub up_all : (tokens : List Token) (place : ℕ) (bytes : List ℕ) → length bytes ≤ place → Up tokens place bytes → AreTokens tokens bytes
up_all tokens place bytes le u = record {
  parts = u.parts;
  whole = sym (take_all place bytes le) ∙ u.spelled;
  each = subst (AreParts u.parts) (drop_all place bytes le) u.each;
  listed = u.listed;
}

pub up_fault : (tokens : List Token) (place : ℕ) (w : Wrong) (bytes : List ℕ) → Up tokens place bytes → Stands (Err w) (take (length bytes - place) (drop place bytes)) → IsFirstFault (fault_at w place) bytes
up_fault tokens place w bytes u seen = by_cause w (subst (Stands (Err w)) (take_rest bytes place) seen)
  where
    whole : bytes ≡ text_of u.parts ++ drop place bytes
    whole = sym (take-append-drop place bytes) ∙ ap (λ l. l ++ drop place bytes) u.spelled

    done : place ≡ length (text_of u.parts)
    done = sym (up_length tokens place bytes u)

    by_cause : (v : Wrong) → Stands (Err v) (drop place bytes) → IsFirstFault (fault_at v place) bytes
    by_cause wrong.Unended h = record { parts = u.parts; rest = drop place bytes; whole = whole; each = u.each; here = (done, h) }
    by_cause wrong.BadByte h = record { parts = u.parts; rest = drop place bytes; whole = whole; each = u.each; here = (done, h) }
    by_cause wrong.BadNumber h = record { parts = u.parts; rest = drop place bytes; whole = whole; each = u.each; here = (done, h) }

-- a separator more
pub up_separator : (tokens : List Token) (place b : ℕ) (bytes rest : List ℕ) → Up tokens place bytes → drop place bytes ≡ b ∷ rest → class_of b ≡ Separator → Up tokens (place + 1) bytes
up_separator tokens place b bytes rest u e s =
    let here : Stands (Ok (part.Separator, 1)) (b ∷ rest) = (omega arith, omega arith, (b, refl, s)) in
    subst (λ ts. Up ts (place + 1) bytes) (append-nil tokens)
    (up_more tokens place 1 part.Separator bytes u (subst (Stands (Ok (part.Separator, 1))) (sym (take_rest bytes place ∙ e)) here))

-- a token more, which is no number
pub up_token : (tokens : List Token) (place : ℕ) (kind : TokenKind) (word rest bytes : List ℕ) → Up tokens place bytes → drop place bytes ≡ word ++ rest → 0 < length word → (kind ≡ Number → ⊥) → IsLongest kind word rest → Up (tokens ++ record { kind = kind; from = place; to = place + length word } ∷ []) (place + length word) bytes
up_token tokens place kind word rest bytes u e some other longest =
    let word_is : take (length word) (word ++ rest) ≡ word = take_at word rest (length word) refl in
    let rest_is : drop (length word) (word ++ rest) ≡ rest = drop_at word rest (length word) refl in
    let here : IsPart (part.Token kind) (take (length word) (word ++ rest)) (drop (length word) (word ++ rest)) =
    subst (λ w. IsPart (part.Token kind) w (drop (length word) (word ++ rest))) (sym word_is) (subst (IsPart (part.Token kind) word) (sym rest_is) (longest, λ i. absurd (other i))) in
    let stands : Stands (Ok (part.Token kind, length word)) (word ++ rest) = (some, omega (arith, length-append word rest), here) in
    up_more tokens place (length word) (part.Token kind) bytes u (subst (Stands (Ok (part.Token kind, length word))) (sym (take_rest bytes place ∙ e)) stands)
