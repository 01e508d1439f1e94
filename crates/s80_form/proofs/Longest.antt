-- Tokens of forms, each the longest at its place.
use Rattle.std.proofs.Common.{◌≡◌, ℕ, ◌+◌, inl, inr, List, [], ◌∷◌, ◌++◌, Some, true, false, cond, ◌==◌, length, take, drop, not, ◌&&◌, refl, ap, sym, ◌∙◌, subst, arith, rules, tests, length-append, one-add}
use Rattle.std.specs.List.{prefix_len}
use Rattle.std.specs.Char.{is_ascii_alphanumeric}
use Rattle.std.proofs.lemmas.Bool.{false≢true}
use Rattle.std.proofs.lemmas.List.{append-nil, take_at, drop_at}
use Rattle.s80_lex.specs.declared.token.TokenKind.{TokenKind}
use Rattle.s80_lex.specs.declared.token.TokenKind.TheVariants as kind
use Rattle.s80_lex.specs.Class.{class_of}
use Rattle.s80_lex.specs.Selector.{begins_binary}
use Rattle.s80_lex.specs.Spelling.{Passes, IsName, IsBinary, IsOperator, IsKeyword, IsKeywordSelector, AreKeywords, IsSelector, IsQuoted, keyword, quoted, begins_with, NotNext}
use Rattle.s80_lex.specs.Text.{IsLongest}
use Rattle.s80_lex.specs.Front.{first_class, Takes, IsMost, Lacks, ends_keyword}
use Rattle.s80_lex.proofs.Classes.{letter}
use Rattle.s80_lex.proofs.lemmas.Fronts.{most_from}
use Rattle.s80_lex.proofs.Keywords.{no_keywords, keywords_most, keywords_first}
use Rattle.s80_lex.proofs.lemmas.Quotes.{one_quoted}
use Rattle.s80_lex.proofs.lemmas.Runs.{run_ends}
use Rattle.s80_lex.proofs.lemmas.SelectorLemmas.{operator_then}
use Rattle.s80_lex.proofs.lemmas.Selectors.{name_selects, keywords_select, binary_selects, binary_one, binary_two}
use Rattle.s80_lex.proofs.lemmas.Signs.{symbol_takes}
use Rattle.s80_lex.proofs.lemmas.Taken.{name_takes, keyword_takes, string_takes}
use Rattle.s80_lex.proofs.Words.{name_first, name_passes, name_most, no_name, no_keyword, no_letter, keyword_run, keyword_append}
use Rattle.s80_form.specs.Name.{IsSelectorWord}

-- what was taken, as a word and what follows it
longest_from : (k : TokenKind) (n : ℕ) (word rest : List ℕ) → n ≡ length word → Takes k n (word ++ rest) → IsLongest k word rest
longest_from k n word rest e t =
    subst (λ w. IsLongest k w rest) (take_at word rest n (sym e)) (subst (IsLongest k (take n (word ++ rest))) (drop_at word rest n (sym e)) t.longest)

-- a byte that ends a name and a selector, and so does the end of the text
pub record Ends (b : ℕ) : Type 0 where
  pub passes : is_ascii_alphanumeric b ≡ false
  pub colon : (b == 58) ≡ false
  pub equals : (b == 61) ≡ false
  pub special : class_of b ≡ class_of 43 → ⊥

abbrev pub Stops : List ℕ → Type 0
Stops [] = Unit {0}
Stops (b ∷ rest) = Ends b

pub space : Ends 32
space = record { passes = refl; colon = refl; equals = refl; special = λ e. cc }

pub line_feed : Ends 10
line_feed = record { passes = refl; colon = refl; equals = refl; special = λ e. cc }

run_all : (w : List ℕ) → Passes is_ascii_alphanumeric w → prefix_len is_ascii_alphanumeric w ≡ length w
run_all [] h = refl
run_all (b ∷ w) h = ap (λ t. cond t (1 + prefix_len is_ascii_alphanumeric w) 0) h.0 ∙ ap (λ n. 1 + n) (run_all w h.1) ∙ one-add (length w)

name_length : (w rest : List ℕ) → IsName w → Stops rest → prefix_len is_ascii_alphanumeric (w ++ rest) ≡ length w
name_length w [] h e = ap (prefix_len is_ascii_alphanumeric) (append-nil w) ∙ run_all w (name_passes w h)
name_length w (b ∷ rest) h e = run_ends is_ascii_alphanumeric w b rest (name_passes w h) e.passes

ends_not : (rest : List ℕ) → Stops rest → ends_keyword rest ≡ false
ends_not [] e = refl
ends_not (b ∷ rest) e = ap (λ t. t && not (begins_with 61 rest)) e.colon

no_colon : (w rest : List ℕ) → IsName w → Stops rest → ends_keyword (drop (prefix_len is_ascii_alphanumeric (w ++ rest)) (w ++ rest)) ≡ false
no_colon w rest h e = ap (λ n. ends_keyword (drop n (w ++ rest))) (name_length w rest h e) ∙ ap ends_keyword (drop_at w rest (length w) refl) ∙ ends_not rest e

pub name_longest : (w rest : List ℕ) → IsName w → Stops rest → IsLongest kind.Name w rest
name_longest w rest h e =
    longest_from kind.Name (prefix_len is_ascii_alphanumeric (w ++ rest)) w rest (name_length w rest h e)
    (name_takes (w ++ rest) (name_first w rest h) (no_colon w rest h e))

pub keyword_longest : (w rest : List ℕ) → IsName w → NotNext 61 rest → IsLongest kind.Keyword (keyword w) rest
keyword_longest w rest h e =
    let run : prefix_len is_ascii_alphanumeric (keyword w ++ rest) ≡ length w = keyword_run w rest h in
    longest_from kind.Keyword (prefix_len is_ascii_alphanumeric (keyword w ++ rest) + 1) (keyword w) rest (omega (arith, run, length-append w (58 ∷ [])))
    (keyword_takes (keyword w ++ rest) (ap first_class (keyword_append w rest) ∙ name_first w (58 ∷ rest) h)
    (ap (λ n. ends_keyword (drop n (keyword w ++ rest))) run ∙ ap (λ l. ends_keyword (drop (length w) l)) (keyword_append w rest) ∙ ap ends_keyword (drop_at w (58 ∷ rest) (length w) refl) ∙ ap not e))

-- ---- symbols

-- no selector begins with a parenthesis
letter_differs : (b : ℕ) → is_ascii_alphanumeric b ≡ true → (b == 40) ≡ false
letter_differs b e = search (rules, tests)

operator_differs : (b : ℕ) → begins_binary b ≡ true → (b == 40) ≡ false
operator_differs b e = search (rules, tests)

no_paren : (text : List ℕ) → first_class text ≡ class_of 97 → begins_with 40 text ≡ false
no_paren [] e = refl
no_paren (b ∷ text) e = letter_differs b (letter b e)

no_paren_binary : (w rest : List ℕ) → IsBinary w → begins_with 40 (w ++ rest) ≡ false
no_paren_binary [] rest h = absurd h
no_paren_binary (b ∷ []) rest h = operator_differs b (operator_then b h)
no_paren_binary (b ∷ c ∷ []) rest h = operator_differs b (operator_then b h.0)
no_paren_binary (b ∷ c ∷ d ∷ w) rest h = absurd h

-- nothing goes on behind one
no_letter_stops : (rest : List ℕ) → Stops rest → first_class rest ≡ class_of 97 → ⊥
no_letter_stops [] e i = cc
no_letter_stops (b ∷ rest) e i = false≢true (sym e.passes ∙ letter b i)

no_special_stops : (rest : List ℕ) → Stops rest → first_class rest ≡ class_of 43 → ⊥
no_special_stops [] e i = cc
no_special_stops (b ∷ rest) e i = e.special i

no_equals : (rest : List ℕ) → Stops rest → NotNext 61 rest
no_equals [] e = refl
no_equals (b ∷ rest) e = e.equals

-- the longest selector at its place
most_name : (w rest : List ℕ) → IsName w → Stops rest → IsMost IsSelector (length w) (w ++ rest)
most_name w rest h e =
    subst (λ n. IsMost IsSelector n (w ++ rest)) (name_length w rest h e)
    (name_selects _ (w ++ rest) (no_keywords (w ++ rest) (no_keyword (w ++ rest) (no_colon w rest h e))) (name_most (w ++ rest) (name_first w rest h)))

most_keywords : (n : ℕ) (w rest : List ℕ) → IsKeywordSelector n w → Stops rest → IsMost IsSelector (length w) (w ++ rest)
most_keywords n w rest h e =
    let here : AreKeywords w rest = record { count = n; joined = h; ended = no_equals rest e } in
    let front : w ≡ take (length w) (w ++ rest) = sym (take_at w rest (length w) refl) in
    let behind : rest ≡ drop (length w) (w ++ rest) = sym (drop_at w rest (length w) refl) in
    keywords_select (length w) (w ++ rest)
    (keywords_most (length w) (w ++ rest) (omega (arith, length-append w rest)) (subst (λ l. AreKeywords l (drop (length w) (w ++ rest))) front (subst (AreKeywords w) behind here))
    (subst (Lacks IsKeyword) behind (no_letter rest (no_letter_stops rest e))))

operator_no_letter : (text : List ℕ) → IsOperator (first_class text) → first_class text ≡ class_of 97 → ⊥
operator_no_letter text h e = subst IsOperator e h

binary_select : (n : ℕ) (text : List ℕ) → IsOperator (first_class text) → IsMost (λ word _. IsBinary word) n text → IsMost IsSelector n text
binary_select n text h m = binary_selects (Some n) text (no_keywords text (no_letter text (operator_no_letter text h))) (no_name text (operator_no_letter text h)) m

most_binary : (w rest : List ℕ) → IsBinary w → Stops rest → IsMost IsSelector (length w) (w ++ rest)
most_binary [] rest h e = absurd h
most_binary (b ∷ []) rest h e = binary_select 1 (b ∷ rest) h (binary_one (b ∷ rest) h (no_special_stops rest e))
most_binary (b ∷ c ∷ []) rest h e = binary_select 2 (b ∷ c ∷ rest) h.0 (binary_two (b ∷ c ∷ rest) h.0 h.1)
most_binary (b ∷ c ∷ d ∷ w) rest h e = absurd h

symbol_from : (w rest : List ℕ) → begins_with 40 (w ++ rest) ≡ false → IsMost IsSelector (length w) (w ++ rest) → IsLongest kind.Symbol (35 ∷ w) rest
symbol_from w rest e m = longest_from kind.Symbol (length w + 1) (35 ∷ w) rest (omega arith) (symbol_takes (length w) (35 ∷ w ++ rest) refl e m)

pub symbol_longest : (w rest : List ℕ) → IsSelectorWord w → Stops rest → IsLongest kind.Symbol (35 ∷ w) rest
symbol_longest w rest (n, inl (h, i)) e = symbol_from w rest (no_paren (w ++ rest) (name_first w rest h)) (most_name w rest h e)
symbol_longest w rest (n, inr (inl (h, i))) e = symbol_from w rest (no_paren_binary w rest h) (most_binary w rest h e)
symbol_longest w rest (n, inr (inr h)) e = symbol_from w rest (no_paren (w ++ rest) (keywords_first h.names w rest h.some h.named h.spelled)) (most_keywords n w rest h e)

pub string_longest : (text rest : List ℕ) → NotNext 39 rest → IsLongest kind.Str (quoted 39 text) rest
string_longest text rest e =
    let here : IsQuoted 39 (quoted 39 text) rest = record { text = text; spelled = refl; ended = e } in
    longest_from kind.Str (length (quoted 39 text)) (quoted 39 text) rest refl
    (string_takes (length (quoted 39 text)) (quoted 39 text ++ rest) refl
    (most_from (IsQuoted 39) (quoted 39 text) rest here (λ w r t k. omega (arith, ap length (one_quoted 39 (quoted 39 text) rest w r here k t))) (quoted 39 text ++ rest) (length (quoted 39 text)) refl refl))
