-- The text of tokens has these tokens.
use Rattle.std.proofs.Common.{rules, tests, ◌≡◌, ℕ, ◌+◌, inl, inr, List, [], ◌∷◌, ◌++◌, Bool, true, false, not, ◌&&◌, ◌||◌, ◌==◌, codes, length, refl, ap, sym, ◌∙◌, subst, arith, append_assoc, length-append, length-drop, ◌-◌}
use Rattle.std.proofs.lemmas.Bool.{eq-eqb}
use Rattle.std.proofs.lemmas.Bool.Decides.{nat_tests}
use Rattle.std.proofs.lemmas.List.{take_at, drop_at, take_rest, drop-drop, append-nil}
use Rattle.std.specs.Prelude.{slice_range, take, drop}
use Rattle.s80_lex.specs.declared.token.Token.{Token}
use Rattle.s80_lex.specs.declared.token.TokenKind.{TokenKind}
use Rattle.s80_lex.specs.declared.token.TokenKind.TheVariants as kind
use Rattle.s80_lex.specs.Class.{class_of}
use Rattle.s80_lex.specs.Front.{first_class}
use Rattle.s80_lex.specs.Number.{IsLawfulNumber}
use Rattle.s80_lex.specs.Spelling.{IsName, IsBinary, IsNumber, NotNext, keyword, quoted}
use Rattle.s80_lex.specs.Text.{IsLongest, AreTokens}
use Rattle.s80_lex.specs.Front.{Takes}
use Rattle.s80_lex.proofs.lemmas.Parts.{Up, up_none, up_all, up_more, up_separator}
use Rattle.s80_lex.proofs.lemmas.Standing.{takes_stands}
use Rattle.s80_lex.proofs.lemmas.Taken.{mark_takes}
use Rattle.s80_form.specs.Name.{IsSelectorWord}
use Rattle.s80_form.proofs.Longest.{name_longest, keyword_longest, symbol_longest, string_longest}
use Rattle.s80_syntax.specs.Lexeme.{Lexeme, Lexemes, is_joined, joins, lexeme, lexemes}
use Rattle.s80_syntax.specs.Word.{minus}
use Rattle.s80_decompile.specs.Places.{unplaced_token, unplaced_tokens}
use Rattle.s80_decompile.specs.Spelled.{closes, is_spaced, opens, space_if, spelled, text_of_tokens}
use Rattle.s80_decompile.proofs.Numerals.{Quiet, StopsNumber, number_begins, number_longest}
use Rattle.s80_decompile.proofs.Longest.{StopsAt, stops, not_quote, not_equals, binary_longest, minus_longest, character_longest, assign_longest, mark_longest, array_longest, colon_longest}

-- ---- tokens that are spelled as their kinds

abbrev IsNext : TokenKind → Lexemes → Type 0
IsNext k [] = ⊥
IsNext k (l ∷ ls) = l.kind ≡ k

-- nothing stands next before which there is no space
abbrev pub IsOpenNext : Lexemes → Type 0
IsOpenNext [] = Unit {0}
IsOpenNext (l ∷ ls) = closes l.kind ≡ false

-- a token, with whether it is one with the next, and those behind it
abbrev pub IsSpelled : TokenKind → List ℕ → Bool → Lexemes → Type 0
IsSpelled kind.Binary w true ls = (w ≡ minus) × IsNext kind.Number ls
IsSpelled kind.Name w false ls = IsName w
IsSpelled kind.Keyword w false ls = (n : List ℕ) × IsName n × (w ≡ keyword n)
IsSpelled kind.Binary w false ls = IsBinary w
IsSpelled kind.Number w false ls = IsNumber w × IsLawfulNumber w
IsSpelled kind.Character w false ls = (b : ℕ) × (w ≡ 36 ∷ b ∷ [])
IsSpelled kind.Str w false ls = (text : List ℕ) × (w ≡ quoted 39 text)
IsSpelled kind.Symbol w false ls = (s : List ℕ) × (w ≡ 35 ∷ s) × IsSelectorWord s
IsSpelled kind.Assign w false ls = w ≡ codes "_"
IsSpelled kind.ArrayStart w false ls = w ≡ codes "#("
IsSpelled kind.OpenParen w false ls = w ≡ codes "("
IsSpelled kind.CloseParen w false ls = w ≡ codes ")"
IsSpelled kind.OpenBracket w false ls = w ≡ codes "["
IsSpelled kind.CloseBracket w false ls = w ≡ codes "]"
IsSpelled kind.Caret w false ls = w ≡ codes "^"
IsSpelled kind.Semicolon w false ls = w ≡ codes ";"
IsSpelled kind.Period w false ls = (w ≡ codes ".") × IsOpenNext ls
IsSpelled kind.Colon w false ls = (w ≡ codes ":") × IsNext kind.Name ls
IsSpelled k w true ls = ⊥

abbrev pub AreSpelled : Lexemes → Type 0
AreSpelled [] = Unit {0}
AreSpelled (l ∷ ls) = (l.at ≡ 0) × IsSpelled l.kind l.bytes l.joined ls × AreSpelled ls

-- ---- what may follow a token

stops_by : (k : TokenKind) (w : List ℕ) (j : Bool) (ls : Lexemes) (more : List ℕ) → IsSpelled k w j ls → StopsAt (space_if (true && not (closes k)) ++ (w ++ more))
stops_by kind.CloseParen w false ls more h = subst (λ v. StopsAt (v ++ more)) (sym h) refl
stops_by kind.CloseBracket w false ls more h = subst (λ v. StopsAt (v ++ more)) (sym h) refl
stops_by kind.Period w false ls more h = subst (λ v. StopsAt (v ++ more)) (sym h.0) refl
stops_by kind.Semicolon w false ls more h = subst (λ v. StopsAt (v ++ more)) (sym h) refl
stops_by kind.CloseParen w true ls more h = absurd h
stops_by kind.CloseBracket w true ls more h = absurd h
stops_by kind.Period w true ls more h = absurd h
stops_by kind.Semicolon w true ls more h = absurd h
stops_by _ w j ls more h = refl

stopped : (ls : Lexemes) → AreSpelled ls → StopsAt (spelled true ls)
stopped [] h = tt
stopped (l ∷ ls) h = stops_by l.kind l.bytes l.joined ls (spelled (is_spaced l) ls) h.1

quiet : (ls : Lexemes) → IsOpenNext ls → Quiet (spelled true ls)
quiet [] h = tt
quiet (l ∷ ls) h = subst (λ t. Quiet (space_if (true && not t) ++ (l.bytes ++ spelled (is_spaced l) ls))) (sym h) refl

number_stops_by : (k : TokenKind) (w : List ℕ) (j : Bool) (ls : Lexemes) → IsSpelled k w j ls → StopsNumber (space_if (true && not (closes k)) ++ (w ++ spelled (not (opens k || j)) ls))
number_stops_by kind.CloseParen w false ls h = subst (λ v. StopsNumber (v ++ spelled true ls)) (sym h) (inl refl)
number_stops_by kind.CloseBracket w false ls h = subst (λ v. StopsNumber (v ++ spelled true ls)) (sym h) (inl refl)
number_stops_by kind.Period w false ls h = subst (λ v. StopsNumber (v ++ spelled true ls)) (sym h.0) (inr (refl, quiet ls h.1))
number_stops_by kind.Semicolon w false ls h = subst (λ v. StopsNumber (v ++ spelled true ls)) (sym h) (inl refl)
number_stops_by kind.CloseParen w true ls h = absurd h
number_stops_by kind.CloseBracket w true ls h = absurd h
number_stops_by kind.Period w true ls h = absurd h
number_stops_by kind.Semicolon w true ls h = absurd h
number_stops_by _ w j ls h = inl refl

number_stopped : (ls : Lexemes) → AreSpelled ls → StopsNumber (spelled true ls)
number_stopped [] h = tt
number_stopped (l ∷ ls) h = number_stops_by l.kind l.bytes l.joined ls h.1

-- a number, and a name, directly behind a token
digit_by : (k : TokenKind) (w : List ℕ) (j : Bool) (ls : Lexemes) (more : List ℕ) → k ≡ kind.Number → IsSpelled k w j ls → first_class (w ++ more) ≡ class_of 48
digit_by kind.Number w false ls more e h = number_begins w more h.0
digit_by kind.Number w true ls more e h = absurd h
digit_by _ w j ls more e h = absurd (cc)

digit_next : (ls : Lexemes) → IsNext kind.Number ls → AreSpelled ls → first_class (spelled false ls) ≡ class_of 48
digit_next [] e h = absurd e
digit_next (l ∷ ls) e h = digit_by l.kind l.bytes l.joined ls (spelled (is_spaced l) ls) e h.1

letter_differs : (b : ℕ) → class_of b ≡ class_of 97 → (b == 61) ≡ false
letter_differs b e = search (rules, tests)

name_begins : (w more : List ℕ) → IsName w → NotNext 61 (w ++ more)
name_begins [] more h = absurd h
name_begins (b ∷ w) more h = letter_differs b h.0

name_by : (k : TokenKind) (w : List ℕ) (j : Bool) (ls : Lexemes) (more : List ℕ) → k ≡ kind.Name → IsSpelled k w j ls → NotNext 61 (w ++ more)
name_by kind.Name w false ls more e h = name_begins w more h
name_by kind.Name w true ls more e h = absurd h
name_by _ w j ls more e h = absurd (cc)

name_next : (ls : Lexemes) → IsNext kind.Name ls → AreSpelled ls → NotNext 61 (spelled false ls)
name_next [] e h = absurd e
name_next (l ∷ ls) e h = name_by l.kind l.bytes l.joined ls (spelled (is_spaced l) ls) e h.1

-- ---- each token is the longest at its place

abbrev IsTaken : TokenKind → List ℕ → List ℕ → Type 0
IsTaken k w rest = IsLongest k w rest × (k ≡ kind.Number → IsLawfulNumber w)

plain : (k : TokenKind) (w rest : List ℕ) → (k ≡ kind.Number → ⊥) → IsLongest k w rest → IsTaken k w rest
plain k w rest apart h = (h, λ e. absurd (apart e))

as_spelled : (k : TokenKind) (v w rest : List ℕ) → w ≡ v → (k ≡ kind.Number → ⊥) → IsLongest k v rest → IsTaken k w rest
as_spelled k v w rest e apart h = plain k w rest apart (subst (λ u. IsLongest k u rest) (sym e) h)

token_part : (k : TokenKind) (w : List ℕ) (j : Bool) (ls : Lexemes) → IsSpelled k w j ls → AreSpelled ls → IsTaken k w (spelled (not (opens k || j)) ls)
token_part kind.Binary w true ls h more = as_spelled kind.Binary minus w _ h.0 (λ i. cc) (minus_longest (spelled false ls) (digit_next ls h.1 more))
token_part kind.Name w false ls h more = plain kind.Name w _ (λ i. cc) (name_longest w (spelled true ls) h (stops (spelled true ls) (stopped ls more)))
token_part kind.Keyword w false ls h more =
    as_spelled kind.Keyword (keyword h.0) w _ h.2 (λ i. cc) (keyword_longest h.0 (spelled true ls) h.1 (not_equals (spelled true ls) (stops (spelled true ls) (stopped ls more))))
token_part kind.Binary w false ls h more = plain kind.Binary w _ (λ i. cc) (binary_longest w (spelled true ls) h (stops (spelled true ls) (stopped ls more)))
token_part kind.Number w false ls h more = (number_longest w (spelled true ls) h.0 (number_stopped ls more), λ e. h.1)
token_part kind.Character w false ls h more = as_spelled kind.Character (36 ∷ h.0 ∷ []) w _ h.1 (λ i. cc) (character_longest h.0 (spelled true ls))
token_part kind.Str w false ls h more = as_spelled kind.Str (quoted 39 h.0) w _ h.1 (λ i. cc) (string_longest h.0 (spelled true ls) (not_quote (spelled true ls) (stopped ls more)))
token_part kind.Symbol w false ls h more =
    as_spelled kind.Symbol (35 ∷ h.0) w _ h.1 (λ i. cc) (symbol_longest h.0 (spelled true ls) h.2 (stops (spelled true ls) (stopped ls more)))
token_part kind.Assign w false ls h more = as_spelled kind.Assign (codes "_") w _ h (λ i. cc) (assign_longest (spelled true ls))
token_part kind.ArrayStart w false ls h more = as_spelled kind.ArrayStart (codes "#(") w _ h (λ i. cc) (array_longest (spelled false ls))
token_part kind.OpenParen w false ls h more = as_spelled kind.OpenParen (codes "(") w _ h (λ i. cc) (mark_longest kind.OpenParen 40 (spelled false ls) (mark_takes kind.OpenParen (40 ∷ spelled false ls) refl))
token_part kind.CloseParen w false ls h more = as_spelled kind.CloseParen (codes ")") w _ h (λ i. cc) (mark_longest kind.CloseParen 41 (spelled true ls) (mark_takes kind.CloseParen (41 ∷ spelled true ls) refl))
token_part kind.OpenBracket w false ls h more = as_spelled kind.OpenBracket (codes "[") w _ h (λ i. cc) (mark_longest kind.OpenBracket 91 (spelled false ls) (mark_takes kind.OpenBracket (91 ∷ spelled false ls) refl))
token_part kind.CloseBracket w false ls h more = as_spelled kind.CloseBracket (codes "]") w _ h (λ i. cc) (mark_longest kind.CloseBracket 93 (spelled true ls) (mark_takes kind.CloseBracket (93 ∷ spelled true ls) refl))
token_part kind.Caret w false ls h more = as_spelled kind.Caret (codes "^") w _ h (λ i. cc) (mark_longest kind.Caret 94 (spelled false ls) (mark_takes kind.Caret (94 ∷ spelled false ls) refl))
token_part kind.Semicolon w false ls h more = as_spelled kind.Semicolon (codes ";") w _ h (λ i. cc) (mark_longest kind.Semicolon 59 (spelled true ls) (mark_takes kind.Semicolon (59 ∷ spelled true ls) refl))
token_part kind.Period w false ls h more = as_spelled kind.Period (codes ".") w _ h.0 (λ i. cc) (mark_longest kind.Period 46 (spelled true ls) (mark_takes kind.Period (46 ∷ spelled true ls) refl))
token_part kind.Colon w false ls h more = as_spelled kind.Colon (codes ":") w _ h.0 (λ i. cc) (colon_longest (spelled false ls) (name_next ls h.1 more))
token_part _ w true ls h more = absurd h

-- ---- whether tokens are joined

not_beyond : (n : ℕ) → (n == n + 1) ≡ false
not_beyond n = grind (arith, nat_tests)

gap_joined : (b : Bool) (k m l : TokenKind) (to from : ℕ) → from ≡ to + length (space_if b) → l ≡ m → (to == from) && joins k l ≡ not b && joins k m
gap_joined true k m l to from f e = ap (λ n. (to == n) && joins k l) f ∙ ap (λ t. t && joins k l) (not_beyond to)
gap_joined false k m l to from f e =
    let same : to ≡ from = omega (arith, f) in
    ap (λ t. t && joins k l) (eq-eqb to from same) ∙ ap (joins k) e

and_false : (b : Bool) → (b && false) ≡ false
and_false true = refl
and_false false = refl

apart : (k m : TokenKind) → not (not (opens k || false) && not (closes m)) && joins k m ≡ false
apart kind.Binary kind.Number = refl
apart kind.Keyword kind.Keyword = refl
apart k m = and_false (not (not (opens k || false) && not (closes m)))

joined_by : (k : TokenKind) (w : List ℕ) (j : Bool) (l : Lexeme) (ls : Lexemes) → IsSpelled k w j (l ∷ ls) → not (not (opens k || j) && not (closes l.kind)) && joins k l.kind ≡ j
joined_by k w false l ls h = apart k l.kind
joined_by kind.Binary w true l ls h = ap (λ m. joins kind.Binary m) h.1
joined_by _ w true l ls h = absurd h

none_joined : (k : TokenKind) (w : List ℕ) (j : Bool) → IsSpelled k w j [] → false ≡ j
none_joined k w false h = refl
none_joined kind.Binary w true h = absurd h.1
none_joined _ w true h = absurd h

-- where the first token of a rest begins
abbrev BeginsAt : ℕ → Bool → Lexemes → List Token → Type 0
BeginsAt place spaced [] ts = Unit {0}
BeginsAt place spaced (l ∷ ls) [] = ⊥
BeginsAt place spaced (l ∷ ls) (t ∷ ts) = t.from ≡ place + length (space_if (spaced && not (closes l.kind)))

joined_is : (text : List ℕ) (k : TokenKind) (w : List ℕ) (j : Bool) (ls : Lexemes) (ts : List Token) (from to : ℕ) → IsSpelled k w j ls → unplaced_tokens (lexemes text ts) ≡ ls → BeginsAt to (not (opens k || j)) ls ts
    → is_joined (record { kind = k; from = from; to = to }) ts ≡ j
joined_is text k w j [] [] from to h e b = none_joined k w j h
joined_is text k w j [] (t ∷ ts) from to h e b = absurd (cc)
joined_is text k w j (l ∷ ls) [] from to h e b = absurd b
joined_is text k w j (l ∷ ls) (t ∷ ts) from to h e b =
    let first : unplaced_token (lexeme text t ts) ≡ l = cc in
    gap_joined (not (opens k || j) && not (closes l.kind)) k l.kind t.kind to t.from b (ap (λ (x : Lexeme). x.kind) first) ∙ joined_by k w j l ls h

-- ---- the tokens of the text, one after the other

lexeme_is : (l : Lexeme) (bytes : List ℕ) (joined : Bool) → bytes ≡ l.bytes → joined ≡ l.joined → l.at ≡ 0 → record { kind = l.kind; bytes = bytes; at = 0; joined = joined } ≡ l
lexeme_is l bytes joined b j z =
    ap (λ (x : List ℕ). record { kind = l.kind; bytes = x; at = 0; joined = joined }) b
    ∙ ap (λ (x : Bool). record { kind = l.kind; bytes = l.bytes; at = 0; joined = x }) j
    ∙ ap (λ (x : ℕ). record { kind = l.kind; bytes = l.bytes; at = x; joined = l.joined }) (sym z)

-- a token more
up_taken : (tokens : List Token) (place : ℕ) (k : TokenKind) (word rest text : List ℕ) → Up tokens place text → drop place text ≡ word ++ rest → IsTaken k word rest
    → Up (tokens ++ record { kind = k; from = place; to = place + length word } ∷ []) (place + length word) text
up_taken tokens place k word rest text u e h =
    let word_is : take (length word) (word ++ rest) ≡ word = take_at word rest (length word) refl in
    let rest_is : drop (length word) (word ++ rest) ≡ rest = drop_at word rest (length word) refl in
    let here : Takes k (length word) (word ++ rest) = record {
      fits = omega (arith, length-append word rest);
      longest = subst (λ w. IsLongest k w (drop (length word) (word ++ rest))) (sym word_is) (subst (IsLongest k word) (sym rest_is) h.0);
    } in
    let at : word ++ rest ≡ take (length text - place) (drop place text) = sym (take_rest text place ∙ e) in
    let taken : Takes k (length word) (take (length text - place) (drop place text)) = subst (Takes k (length word)) at here in
    let lawful : k ≡ kind.Number → IsLawfulNumber (take (length word) (take (length text - place) (drop place text))) = λ i. subst (λ l. IsLawfulNumber (take (length word) l)) at (subst IsLawfulNumber (sym word_is) (h.1 i)) in
    let stands = takes_stands k (length word) (take (length text - place) (drop place text)) taken lawful in
    search (up_more, stands, u)

up_gap : (b : Bool) (tokens : List Token) (place : ℕ) (rest text : List ℕ) → Up tokens place text → drop place text ≡ space_if b ++ rest → Up tokens (place + length (space_if b)) text × (drop (place + length (space_if b)) text ≡ rest)
up_gap true tokens place rest text u e = (up_separator tokens place 32 text rest u e refl, sym (drop-drop 1 place text) ∙ ap (drop 1) e)
up_gap false tokens place rest text u e =
    let same : place ≡ place + 0 = omega arith in
    (subst (λ n. Up tokens n text) same u, ap (λ n. drop n text) (sym same) ∙ e)

-- what a text has behind these tokens
record Left (text : List ℕ) (tokens : List Token) (place : ℕ) (spaced : Bool) (ls : Lexemes) : Type 0 where
  more : List Token
  all : AreTokens (tokens ++ more) text
  same : unplaced_tokens (lexemes text more) ≡ ls
  begins : BeginsAt place spaced ls more

lexed : (text : List ℕ) (tokens : List Token) (place : ℕ) (spaced : Bool) (ls : Lexemes) → AreSpelled ls → Up tokens place text → drop place text ≡ spelled spaced ls → Left text tokens place spaced ls
lexed text tokens place spaced [] h u e = record {
  more = [];
  all = subst (λ ts. AreTokens ts text) (sym (append-nil tokens)) (up_all tokens place text (omega (arith, length-drop place text, ap length e)) u);
  same = refl;
  begins = tt;
}
lexed text tokens place spaced (l ∷ ls) h u e =
    let b : Bool = spaced && not (closes l.kind) in
    let here : ℕ = place + length (space_if b) in
    let rest : List ℕ = spelled (is_spaced l) ls in
    let next = up_gap b tokens place (l.bytes ++ rest) text u e in
    let t : Token = record { kind = l.kind; from = here; to = here + length l.bytes } in
    let taken : Up (tokens ++ t ∷ []) (here + length l.bytes) text = up_taken tokens here l.kind l.bytes rest text next.0 next.1 (token_part l.kind l.bytes l.joined ls h.1 h.2) in
    let behind : drop (here + length l.bytes) text ≡ rest = sym (drop-drop (length l.bytes) here text) ∙ ap (drop (length l.bytes)) next.1 ∙ drop_at l.bytes rest (length l.bytes) refl in
    let later = lexed text (tokens ++ t ∷ []) (here + length l.bytes) (is_spaced l) ls h.2 taken behind in
    let long : here + length l.bytes - here ≡ length l.bytes = omega arith in
    let bytes_are : slice_range text here (here + length l.bytes) ≡ l.bytes = ap (λ n. take n (drop here text)) long ∙ ap (take (length l.bytes)) next.1 ∙ take_at l.bytes rest (length l.bytes) refl in
    let first : unplaced_token (lexeme text t later.more) ≡ l =
    lexeme_is l (slice_range text here (here + length l.bytes)) (is_joined t later.more) bytes_are (joined_is text l.kind l.bytes l.joined ls later.more here (here + length l.bytes) h.1 later.same later.begins) h.0 in
    record {
      more = t ∷ later.more;
      all = subst (λ ts. AreTokens ts text) (append_assoc tokens (t ∷ []) later.more) later.all;
      same = ap (λ x. x ∷ unplaced_tokens (lexemes text later.more)) first ∙ ap (λ x. l ∷ x) later.same;
      begins = refl;
    }

-- but for their places, the text's tokens are these
pub record Lexed (ls : Lexemes) : Type 0 where
  pub tokens : List Token
  pub are_tokens : AreTokens tokens (text_of_tokens ls)
  pub same : unplaced_tokens (lexemes (text_of_tokens ls) tokens) ≡ ls

pub lexed_text : (ls : Lexemes) → AreSpelled ls → Lexed ls
lexed_text ls h =
    let left = lexed (text_of_tokens ls) [] 0 false ls h (up_none (text_of_tokens ls)) refl in
    record { tokens = left.more; are_tokens = left.all; same = left.same }
