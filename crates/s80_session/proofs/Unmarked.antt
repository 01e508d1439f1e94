-- A text with a tree begins with no mark: a mark begins a binary selector, and no doIt begins with one.
use Rattle.std.proofs.Common.{◌≡◌, ◌<◌, ◌≤◌, ℕ, zero, suc, ◌+◌, ◌-◌, inl, inr, List, [], ◌∷◌, ◌++◌, true, take, drop, length, refl, ap, sym, subst, ◌∙◌, arith, append_assoc, length-append, take-append-drop}
use Rattle.std.specs.Prelude.{slice_range}
use Rattle.std.proofs.lemmas.List.{append-nil}
use Rattle.s80_chunk.specs.Chunks.{mark, IsNoMark}
use Rattle.s80_lex.specs.declared.token.Token.{Token}
use Rattle.s80_lex.specs.declared.token.TokenKind.{TokenKind}
use Rattle.s80_lex.specs.declared.token.TokenKind.TheVariants as kind
use Rattle.s80_lex.specs.Front.{Takes}
use Rattle.s80_lex.specs.Text.{AreParts, AreTokens, IsPart, IsStuck, text_of, token_of, tokens_of}
use Rattle.s80_lex.proofs.lemmas.Selectors.{binary_one, binary_two}
use Rattle.s80_lex.proofs.lemmas.Parts.{Up, up_none, up_token}
use Rattle.s80_lex.proofs.lemmas.Standing.{part_some, token_some}
use Rattle.s80_lex.proofs.lemmas.Taken.{binary_takes}
use Rattle.s80_lex.proofs.Unique.{parts_same}
use Rattle.s80_tree.specs.Tree.{BodyTree, DoItParts, no_stmts, stmts}
use Rattle.s80_syntax.specs.Grammar.{IsBody, IsDoIt}
use Rattle.s80_syntax.specs.Lexeme.{Lexeme, Lexemes, lexeme, lexemes}
use Rattle.s80_syntax.specs.Word.{is_minus}
use Rattle.s80_syntax.proofs.Begins.{StatementStart, stmt_begins}
use Rattle.s80_syntax.proofs.Words.{minus_is}
use Rattle.s80_syntax.specs.Text.{IsDoItOf}

-- ---- the first token

-- every text is parts, up to where none stands
reads : (n : ℕ) (text : List ℕ) → length text ≤ n → ((parts : _) (left : List ℕ) → text ≡ text_of parts ++ left → AreParts parts left → IsStuck left → ⊥) → ⊥
reads zero text short none = none [] text refl tt (λ p word left is part. omega (arith, short, ap length is, length-append word left, part_some p word left part))
reads (suc n) text short none = none [] text refl tt (λ p word left is part.
    let less : length left ≤ n = omega (arith, short, ap length is, length-append word left, part_some p word left part) in
    reads n left less (λ parts end e each stuck.
    let P : List ℕ → Type 0 = λ l. IsPart p word l in
    none ((p, word) ∷ parts) end (sym is ∙ ap (λ l. word ++ l) e ∙ sym (append_assoc word (text_of parts) end)) (subst P e part, each) stuck))

nil_stuck : IsStuck []
nil_stuck p word left is part = omega (arith, part_some p word left part, ap length is, length-append word left)

text_both : (some : _) (others : _) → text_of (some ++ others) ≡ text_of some ++ text_of others
text_both [] others = refl
text_both (p ∷ some) others = ap (λ l. p.1 ++ l) (text_both some others) ∙ sym (append_assoc p.1 (text_of some) (text_of others))

are_both : (some : _) (others : _) (rest : List ℕ) → AreParts some (text_of others ++ rest) → AreParts others rest → AreParts (some ++ others) rest
are_both [] others rest h k = k
are_both (p ∷ some) others rest h k =
    let P : List ℕ → Type 0 = λ l. IsPart p.0 p.1 l in
    (subst P (sym (append_assoc (text_of some) (text_of others) rest) ∙ ap (λ l. l ++ rest) (sym (text_both some others))) h.0, are_both some others rest h.1 k)

tokens_both : (at : ℕ) (some : _) (others : _) → (later : List Token) × (tokens_of at (some ++ others) ≡ tokens_of at some ++ later)
tokens_both at [] others = (tokens_of at others, refl)
tokens_both at (p ∷ some) others =
    let more = tokens_both (at + length p.1) some others in
    let here : List Token = token_of p.0 at (at + length p.1) in
    (more.0, ap (λ (l : List Token). here ++ l) more.1 ∙ sym (append_assoc here (tokens_of (at + length p.1) some) more.0))

-- a text begins with the tokens that are read up to a place
begins_with : (front tokens : List Token) (place : ℕ) (text : List ℕ) → Up front place text → AreTokens tokens text → ((later : List Token) → tokens ≡ front ++ later → ⊥) → ⊥
begins_with front tokens place text u h none = reads (length (drop place text)) (drop place text) (omega arith) (λ parts left e each stuck.
    let P : List ℕ → Type 0 = λ l. AreParts u.parts l in
    let are : AreParts (u.parts ++ parts) left = are_both u.parts parts left (subst P e u.each) each in
    let same_text : text ≡ text_of (u.parts ++ parts) ++ left =
    sym (take-append-drop place text) ∙ (λ i. u.spelled i ++ e i) ∙ sym (append_assoc (text_of u.parts) (text_of parts) left) ∙ ap (λ l. l ++ left) (sym (text_both u.parts parts)) in
    let same = parts_same h.parts (u.parts ++ parts) [] left h.each are nil_stuck stuck (append-nil (text_of h.parts) ∙ sym h.whole ∙ same_text) in
    let both = tokens_both 0 u.parts parts in
    none both.0 (h.listed ∙ ap (tokens_of 0) same.0 ∙ both.1 ∙ ap (λ (l : List Token). l ++ both.0) (sym u.listed)))

-- ---- a mark

-- the longest token that a mark begins is a binary selector
mark_takes : (bytes : List ℕ) → ((n : ℕ) → Takes kind.Binary n (mark ∷ bytes) → ⊥) → ⊥
mark_takes bytes none =
    let text : List ℕ = mark ∷ bytes in
    none 1 (binary_takes 1 text tt (binary_one text tt (λ second. none 2 (binary_takes 2 text tt (binary_two text tt second)))))

-- a binary selector whose first byte is a mark
record IsMarked (l : Lexeme) : Type 0 where
  pub binary : l.kind ≡ kind.Binary
  pub more : List ℕ
  pub bytes : l.bytes ≡ mark ∷ more

first_byte : (bytes : List ℕ) (n : ℕ) → 0 < n → (more : List ℕ) × (slice_range (mark ∷ bytes) 0 n ≡ mark ∷ more)
first_byte bytes zero some = absurd (omega (arith, some))
first_byte bytes (suc n) some = let whole : suc n - 0 ≡ suc n = omega arith in (take n bytes, ap (λ m. take m (mark ∷ bytes)) whole)

abbrev token : ℕ → Token
token n = record { kind = kind.Binary; from = 0; to = 0 + n }

begins_marked : (bytes : List ℕ) (tokens : List Token) → AreTokens tokens (mark ∷ bytes) → ((l : Lexeme) (later : Lexemes) → lexemes (mark ∷ bytes) tokens ≡ l ∷ later → IsMarked l → ⊥) → ⊥
begins_marked bytes tokens h none = mark_takes bytes (λ n takes.
    let text : List ℕ = mark ∷ bytes in
    let word : List ℕ = take n text in
    let rest : List ℕ = drop n text in
    let some : 0 < length word = token_some kind.Binary word rest takes.longest.token in
    let up = up_token [] 0 kind.Binary word rest text (up_none text) (sym (take-append-drop n text)) some (λ e. cc) takes.longest in
    begins_with (token (length word) ∷ []) tokens (0 + length word) text up h (λ later e.
    let first = first_byte bytes (0 + length word) (omega (arith, some)) in
    none (lexeme text (token (length word)) later) (lexemes text later) (ap (lexemes text) e) (record { binary = refl; more = first.0; bytes = first.1 })))

-- ---- a doIt

no_bar : (l : Lexeme) → IsMarked l → l.bytes ≡ 124 ∷ [] → ⊥
no_bar l m is = let e = sym m.bytes ∙ is in cc

no_statement : (l : Lexeme) → IsMarked l → StatementStart l.kind (is_minus l) → ⊥
no_statement l m start =
    let P : TokenKind → Type 0 = λ k. StatementStart k (is_minus l) in
    let minus : is_minus l ≡ true = subst P m.binary start in
    let e = sym m.bytes ∙ minus_is l minus in
    cc

no_body : (body : BodyTree) (ts : Lexemes) (l : Lexeme) (later : Lexemes) → ts ≡ l ∷ later → IsMarked l → IsBody body ts [] → ⊥
no_body no_stmts ts l later is m body = let e = sym is ∙ body in cc
no_body (stmts r e ss) ts l later is m body =
    let begins = stmt_begins r e ss ts [] body in
    let same : l ∷ later ≡ begins.0 ∷ begins.1 = sym is ∙ begins.2 in
    let first : begins.0 ≡ l = cc in
    let P : Lexeme → Type 0 = λ x. StatementStart x.kind (is_minus x) in
    no_statement l m (subst P first begins.3)

no_doit : (d : DoItParts) (ts : Lexemes) (l : Lexeme) (later : Lexemes) → ts ≡ l ∷ later → IsMarked l → IsDoIt d ts → ⊥
no_doit d ts l later is m (a, inl bars, body) =
    let bar = bars.2 in
    let same : l ∷ later ≡ bar.0 ∷ bars.0 = sym is ∙ bar.1.0 in
    let first : l ≡ bar.0 = cc in
    no_bar l m (ap (λ (x : Lexeme). x.bytes) first ∙ bar.2)
no_doit d ts l later is m (a, inr none, body) = no_body d.body ts l later is m (let P : Lexemes → Type 0 = λ us. IsBody d.body us [] in subst P (sym none.1) body)

marked : (b : ℕ) (bytes : List ℕ) (d : DoItParts) → IsDoItOf (b ∷ bytes) d → b ≡ mark → ⊥
marked b bytes d h is =
    let P : ℕ → Type 0 = λ x. IsDoItOf (x ∷ bytes) d in
    let own = subst P is h in
    begins_marked bytes own.tokens own.are_tokens (λ l later e m. no_doit d (lexemes (mark ∷ bytes) own.tokens) l later e m own.doit)

pub unmarked : (text : List ℕ) (d : DoItParts) → IsDoItOf text d → IsNoMark text
unmarked [] d h = tt
unmarked (b ∷ bytes) d h = λ is. marked b bytes d h is
