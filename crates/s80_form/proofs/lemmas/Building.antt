-- The tokens of a text, one after the other.
use Rattle.std.proofs.Common.{◌≡◌, ℕ, ◌+◌, ◌-◌, List, [], ◌∷◌, ◌++◌, length, take, drop, refl, ap, sym, ◌∙◌, subst, arith, append_assoc, length-drop, codes, true}
use Rattle.std.specs.List.{flat_map}
use Rattle.std.specs.Prelude.{slice_range}
use Rattle.std.proofs.lemmas.List.{append-nil, take_at, drop_at, drop-drop}
use Rattle.s80_lex.specs.declared.token.Token.{Token}
use Rattle.s80_lex.specs.declared.token.TokenKind.{TokenKind}
use Rattle.s80_lex.specs.declared.token.TokenKind.TheVariants as kind
use Rattle.s80_lex.specs.Class.{class_of}
use Rattle.s80_lex.specs.Spelling.{keyword, quoted, unended, doubled, NotNext}
use Rattle.s80_lex.specs.Text.{IsLongest, AreTokens}
use Rattle.s80_lex.proofs.lemmas.Parts.{Up, up_none, up_all, up_separator, up_token}
use Rattle.s80_lex.proofs.lemmas.Standing.{token_some}
use Rattle.s80_syntax.specs.Lexeme.{Lexeme, Lexemes, lexeme, lexemes}
use Rattle.s80_base.specs.declared.names.Side.{Side}
use Rattle.s80_base.specs.declared.names.Side.TheVariants.{Instance, Class}
use Rattle.s80_lex.specs.Selector.{is_name as is_identifier}
use Rattle.s80_lex.proofs.lemmas.SelectorLemmas.{name_is}
use Rattle.s80_form.specs.Name.{IsSelectorWord}
use Rattle.s80_form.specs.Form.{side_text}
use Rattle.s80_form.specs.Read.{line}
use Rattle.s80_form.proofs.Longest.{Stops, space, name_longest, keyword_longest, symbol_longest, string_longest}

-- tokens by their kinds and words
abbrev pub Words : Type 0
Words = List (TokenKind × List ℕ)

abbrev pub AreWords : List ℕ → List Token → Words → Type 0
AreWords text [] [] = Unit {0}
AreWords text (t ∷ ts) (w ∷ ws) = (t.kind ≡ w.0) × (slice_range text t.from t.to ≡ w.1) × AreWords text ts ws
AreWords text _ _ = ⊥

words_push : (text : List ℕ) (ts : List Token) (ws : Words) (t : Token) (w : TokenKind × List ℕ) → AreWords text ts ws → t.kind ≡ w.0 → slice_range text t.from t.to ≡ w.1 → AreWords text (ts ++ t ∷ []) (ws ++ w ∷ [])
words_push text [] [] t w h k s = (k, s, tt)
words_push text [] (v ∷ ws) t w h k s = absurd h
words_push text (u ∷ ts) [] t w h k s = absurd h
words_push text (u ∷ ts) (v ∷ ws) t w h k s = (h.0, h.1, words_push text ts ws t w h.2 k s)

abbrev pub Spells : Lexemes → Words → Type 0
Spells ls [] = ls ≡ []
Spells ls (w ∷ ws) = (l : Lexeme) × (rest : Lexemes) × (ls ≡ l ∷ rest) × (l.kind ≡ w.0) × (l.bytes ≡ w.1) × Spells rest ws

pub words_spell : (text : List ℕ) (ts : List Token) (ws : Words) → AreWords text ts ws → Spells (lexemes text ts) ws
words_spell text [] [] h = refl
words_spell text [] (w ∷ ws) h = absurd h
words_spell text (t ∷ ts) [] h = absurd h
words_spell text (t ∷ ts) (w ∷ ws) h = (lexeme text t ts, lexemes text ts, refl, h.0, h.1, words_spell text ts ws h.2)

-- a text that begins with tokens of these words, and what is left of it
pub record Begun (text : List ℕ) (words : Words) (rest : List ℕ) : Type 0 where
  pub tokens : List Token
  pub place : ℕ
  pub up : Up tokens place text
  pub left : drop place text ≡ rest
  pub are_words : AreWords text tokens words

pub start : (text rest : List ℕ) → text ≡ rest → Begun text [] rest
start text rest e = record { tokens = []; place = 0; up = up_none text; left = e; are_words = tt }

pub separated : (text : List ℕ) (words : Words) (b : ℕ) (rest : List ℕ) → class_of b ≡ class_of 32 → Begun text words (b ∷ rest) → Begun text words rest
separated text words b rest s h = record {
  tokens = h.tokens;
  place = h.place + 1;
  up = up_separator h.tokens h.place b text rest h.up h.left s;
  left = sym (drop-drop 1 h.place text) ∙ ap (drop 1) h.left;
  are_words = h.are_words;
}

pub tokened : (text : List ℕ) (words : Words) (k : TokenKind) (word rest : List ℕ) → (k ≡ kind.Number → ⊥) → IsLongest k word rest → Begun text words (word ++ rest) → Begun text (words ++ (k, word) ∷ []) rest
tokened text words k word rest other longest h =
    let same : h.place + length word - h.place ≡ length word = omega arith in record {
      tokens = h.tokens ++ record { kind = k; from = h.place; to = h.place + length word } ∷ [];
      place = h.place + length word;
      up = up_token h.tokens h.place k word rest text h.up h.left (token_some k word rest longest.token) other longest;
      left = sym (drop-drop (length word) h.place text) ∙ ap (drop (length word)) h.left ∙ drop_at word rest (length word) refl;
      are_words = words_push text h.tokens words (record { kind = k; from = h.place; to = h.place + length word }) (k, word) h.are_words refl
          (ap (λ n. take n (drop h.place text)) same ∙ ap (take (length word)) h.left ∙ take_at word rest (length word) refl);
    }

-- all of the text
pub ended : (text : List ℕ) (words : Words) → (h : Begun text words []) → AreTokens h.tokens text
ended text words h = up_all h.tokens h.place text (omega (arith, length-drop h.place text, ap length h.left)) h.up

-- ---- from the last token to the first

-- behind whatever words, this rest of a text is these words, to its end
abbrev pub EndsIn : Words → List ℕ → Type 0
EndsIn words rest = (text : List ℕ) (before : Words) → Begun text before rest → Begun text (before ++ words) []

pub nothing_more : EndsIn [] []
nothing_more text before h = subst (λ l. Begun text l []) (sym (append-nil before)) h

pub behind : (b : ℕ) (words : Words) (rest : List ℕ) → class_of b ≡ class_of 32 → EndsIn words rest → EndsIn words (b ∷ rest)
behind b words rest e h text before begun = h text before (separated text before b rest e begun)

pub then_token : (k : TokenKind) (word : List ℕ) (words : Words) (rest : List ℕ) → (k ≡ kind.Number → ⊥) → IsLongest k word rest → EndsIn words rest → EndsIn ((k, word) ∷ words) (word ++ rest)
then_token k word words rest other longest h text before begun =
    subst (λ l. Begun text l []) (append_assoc before ((k, word) ∷ []) words) (h text (before ++ (k, word) ∷ []) (tokened text before k word rest other longest begun))

-- a name, a keyword, a symbol and a string
pub then_name : (w : List ℕ) (words : Words) (rest : List ℕ) → is_identifier w ≡ true → Stops rest → EndsIn words rest → EndsIn ((kind.Name, w) ∷ words) (w ++ rest)
then_name w words rest e stops h = then_token kind.Name w words rest (λ i. cc) (name_longest w rest (name_is w e) stops) h

pub then_keyword : (base : List ℕ) (words : Words) (rest : List ℕ) → is_identifier base ≡ true → NotNext 61 rest → EndsIn words rest → EndsIn ((kind.Keyword, keyword base) ∷ words) (keyword base ++ rest)
then_keyword base words rest e n h = then_token kind.Keyword (keyword base) words rest (λ i. cc) (keyword_longest base rest (name_is base e) n) h

pub then_symbol : (w : List ℕ) (words : Words) (rest : List ℕ) → IsSelectorWord w → Stops rest → EndsIn words rest → EndsIn ((kind.Symbol, 35 ∷ w) ∷ words) (35 ∷ (w ++ rest))
then_symbol w words rest s stops h = then_token kind.Symbol (35 ∷ w) words rest (λ i. cc) (symbol_longest w rest s stops) h

pub then_string : (string : List ℕ) (words : Words) (rest : List ℕ) → NotNext 39 rest → EndsIn words rest → EndsIn ((kind.Str, quoted 39 string) ∷ words) (quoted 39 string ++ rest)
then_string string words rest n h = then_token kind.Str (quoted 39 string) words rest (λ i. cc) (string_longest string rest n) h

-- the last ones
pub last_name : (w : List ℕ) → is_identifier w ≡ true → EndsIn ((kind.Name, w) ∷ []) w
last_name w e = subst (EndsIn ((kind.Name, w) ∷ [])) (append-nil w) (then_name w [] [] e tt nothing_more)

pub last_symbol : (w : List ℕ) → IsSelectorWord w → EndsIn ((kind.Symbol, 35 ∷ w) ∷ []) (35 ∷ w)
last_symbol w s = subst (EndsIn ((kind.Symbol, 35 ∷ w) ∷ [])) (ap (λ l. 35 ∷ l) (append-nil w)) (then_symbol w [] [] s tt nothing_more)

pub last_string : (string : List ℕ) → EndsIn ((kind.Str, quoted 39 string) ∷ []) (quoted 39 string)
last_string string = subst (EndsIn ((kind.Str, quoted 39 string) ∷ [])) (append-nil (quoted 39 string)) (then_string string [] [] refl nothing_more)

-- a keyword and its string, to the end
pub last_keyword_string : (base string : List ℕ) → is_identifier base ≡ true → EndsIn ((kind.Keyword, keyword base) ∷ (kind.Str, quoted 39 string) ∷ []) (keyword base ++ 32 ∷ quoted 39 string)
last_keyword_string base string e = then_keyword base _ (32 ∷ quoted 39 string) e refl (behind 32 _ (quoted 39 string) refl (last_string string))

-- the word for the class side
abbrev pub side_words : Side → Words → Words
side_words Instance words = words
side_words Class words = (kind.Name, codes "class") ∷ words

pub then_side : (s : Side) (words : Words) (rest : List ℕ) → EndsIn words (32 ∷ rest) → EndsIn (side_words s words) (side_text s ++ 32 ∷ rest)
then_side Instance words rest h = h
then_side Class words rest h = behind 32 _ (codes "class" ++ 32 ∷ rest) refl (then_name (codes "class") words (32 ∷ rest) refl space h)

-- a name with its side begins the text
side_stops : (s : Side) (rest : List ℕ) → Stops (side_text s ++ 32 ∷ rest)
side_stops Instance rest = space
side_stops Class rest = space

pub then_named : (w : List ℕ) (s : Side) (words : Words) (rest : List ℕ) → is_identifier w ≡ true → EndsIn words (32 ∷ rest) → EndsIn ((kind.Name, w) ∷ side_words s words) (w ++ (side_text s ++ 32 ∷ rest))
then_named w s words rest e h = then_name w (side_words s words) (side_text s ++ 32 ∷ rest) e (side_stops s rest) (then_side s words rest h)

-- a line
pub then_line : (base string : List ℕ) (words : Words) (rest : List ℕ) → is_identifier base ≡ true → NotNext 39 rest → EndsIn words rest → EndsIn ((kind.Keyword, keyword base) ∷ (kind.Str, quoted 39 string) ∷ words) (line (keyword base) string rest)
then_line base string words rest e n h =
    behind 10 _ _ refl (behind 9 _ _ refl (then_keyword base _ (32 ∷ 39 ∷ (flat_map (doubled 39) string ++ 39 ∷ rest)) e refl
    (behind 32 _ _ refl (subst (EndsIn ((kind.Str, quoted 39 string) ∷ words)) (append_assoc (unended 39 string) (39 ∷ []) rest) (then_string string words rest n h)))))

-- so the whole text is these words
pub spelled : (text : List ℕ) (words : Words) → EndsIn words text → Begun text words []
spelled text words h = h text [] (start text text refl)
