-- A text's tokens are all taken.
use Rattle.std.proofs.Common.{◌≡◌, ℕ, List, [], ◌∷◌, ◌++◌, Bool, true, false, refl, ap, sym, ◌∙◌, subst, append-nil, ◌⊎◌, inl, inr}
use Rattle.s80_lex.specs.declared.token.TokenKind.{TokenKind}
use Rattle.s80_lex.specs.declared.token.TokenKind.TheVariants as kind
use Rattle.s80_tree.specs.declared.name.NameAt.{NameAt}
use Rattle.s80_tree.specs.Tree.{BodyTree, MethodParts, DoItParts, no_stmts, stmts}
use Rattle.s80_syntax.specs.Lexeme.{Lexeme, Lexemes}
use Rattle.s80_syntax.specs.Grammar.{IsSign, IsBody, IsPrimitive, IsHead, AreTemporaries, AreOptionalTemporaries, AreKeywords, IsPattern, IsMethod, IsDoIt}
use Rattle.s80_syntax.specs.Word.{Names, names_in, is_word, is_minus, is_reserved, is_primitive_number, bar, less, greater, minus, primitive_word as primitive_bytes}
use Rattle.s80_syntax.specs.Limits.{home_assigns, IsLawfulBody, IsLawfulMethod, IsLawfulDoIt}
use Rattle.s80_syntax.specs.Stack.{Symbol, Stack, Action, Pushes, Refuses, Accepts, run, takes, may_end, above, body_takes, declared_takes, sign_takes, keyword_takes, number_takes, word_takes, pattern_takes, after_bar, primitive_then, home_takes, head_takes, method_start, doit_start, binary_parameter, keyword_parameter, after_keyword, after_pattern, optional_temporaries, temporaries, after_temporaries, primitive_word, primitive_number, primitive_end, home_scope, body}
use Rattle.s80_syntax.proofs.Moves.{pushes, ends, same_takes, stands_above, IsTaken}
use Rattle.s80_syntax.proofs.Words.{word_true, word_bytes, primitive_true, minus_is, other_word}
use Rattle.s80_syntax.proofs.Quiet.{quiet_end}
use Rattle.s80_syntax.proofs.Begins.{Begins, StatementStart, begins_kind, begins_all, stmt_begins}
use Rattle.s80_syntax.proofs.TakenLiterals.{at}
use Rattle.s80_syntax.proofs.TakenSigns.{sign_taken, declared_taken, temporaries_taken, seen_then}
use Rattle.s80_syntax.proofs.TakenBodies.{body_taken}

-- a statement is taken, and no sign of a method's head
statement_taken : (k : TokenKind) (b : Bool) (l : Lexeme) → StatementStart k b → IsTaken (body_takes k b l)
statement_taken kind.Caret b l o = tt
statement_taken kind.Name b l o = tt
statement_taken kind.Number b l o = tt
statement_taken kind.Character b l o = tt
statement_taken kind.Str b l o = tt
statement_taken kind.Symbol b l o = tt
statement_taken kind.Binary true l o = tt
statement_taken kind.Binary false l o = absurd (false_true o)
  where
    false_true : false ≡ true → ⊥
    false_true e = cc
statement_taken kind.ArrayStart b l o = tt
statement_taken kind.OpenParen b l o = tt
statement_taken kind.OpenBracket b l o = tt
statement_taken _ b l o = absurd o

no_sign : (k : TokenKind) (b same : Bool) (p : Stack) (other : Action) → StatementStart k b → (b ≡ true → same ≡ false) → sign_takes k same p other ≡ other
no_sign kind.Binary b same p other o h = ap (λ x. sign_takes kind.Binary x p other) (h o)
no_sign _ b same p other o h = refl

no_less : (l : Lexeme) (p : Stack) (other : Action) → StatementStart l.kind (is_minus l) → sign_takes l.kind (is_word less l) p other ≡ other
no_less l p other o = no_sign l.kind (is_minus l) (is_word less l) p other o (λ m. other_word minus less refl l (minus_is l m))

no_bar : (l : Lexeme) (p : Stack) (other : Action) → StatementStart l.kind (is_minus l) → sign_takes l.kind (is_word bar l) p other ≡ other
no_bar l p other o = no_sign l.kind (is_minus l) (is_word bar l) p other o (λ m. other_word minus bar refl l (minus_is l m))

-- all of a body, where the method's names are known
home_taken : (strict : Bool) (ps ns : Names) (ss : BodyTree) (ts : Lexemes) → IsBody ss ts [] → IsLawfulBody strict 0 (home_assigns ps ns) ss → run strict ts (body ∷ home_scope ps ns ∷ []) ≡ Accepts
unfolding run
home_taken strict ps ns ss ts h w =
    let b = body_taken strict ss ts [] h 0 (home_assigns ps ns) w in
    b.2 (home_scope ps ns ∷ []) (refl, refl) ∙ quiet_end strict 0 b.0 b.1 (home_scope ps ns ∷ [])

-- a symbol before a method's body, where the body follows
body_follows : (strict : Bool) (a : Symbol) (ps ns : Names) → may_end a ≡ true → ((l : Lexeme) → StatementStart l.kind (is_minus l) → takes a l ≡ home_takes ps ns l) → (ss : BodyTree) (ts : Lexemes) → IsBody ss ts [] → IsLawfulBody strict 0 (home_assigns ps ns) ss → run strict ts (a ∷ []) ≡ Accepts
unfolding run
body_follows strict a ps ns m same no_stmts ts h w = at strict (a ∷ []) ts [] h ∙ ends strict a [] m
body_follows strict a ps ns m same (stmts r e ss) ts h w =
    let (l, us, i, o) = stmt_begins r e ss ts [] h in
    at strict (a ∷ []) ts (l ∷ us) i
    ∙ stands_above strict l us a body (home_scope ps ns ∷ []) [] (same l o) (statement_taken l.kind (is_minus l) l o) refl
    ∙ sym (at strict (body ∷ home_scope ps ns ∷ []) ts (l ∷ us) i)
    ∙ home_taken strict ps ns (stmts r e ss) ts h w

-- temporaries between bars, where they may come
pub temps_taken : (strict : Bool) (a : Symbol) (ps : Names) (primitive : Bool) → ((l : Lexeme) → l.kind ≡ kind.Binary → is_word bar l ≡ true → takes a l ≡ Pushes (temporaries ps [] primitive ∷ [])) → (ns : List NameAt) (ts rest : Lexemes) → AreTemporaries ns ts rest → (k : Stack) → run strict ts (a ∷ k) ≡ run strict rest (after_bar primitive ps (names_in ns) ++ k)
temps_taken strict a ps primitive same ns ts rest (x, y, first, names, last) k =
    sign_taken strict a (temporaries ps [] primitive ∷ []) kind.Binary bar same ts x first k
    ∙ temporaries_taken strict ps primitive ns [] x y names k
    ∙ sign_taken strict (temporaries ps (names_in ns) primitive) (after_bar primitive ps (names_in ns)) kind.Binary bar
    (λ l e h. ap (λ z. declared_takes z (is_reserved l.bytes) (temporaries ps (names_in ns ++ l.bytes ∷ []) primitive ∷ []) (sign_takes z (is_word bar l) (after_bar primitive ps (names_in ns)) Refuses)) e ∙ ap (λ z. sign_takes kind.Binary z (after_bar primitive ps (names_in ns)) Refuses) h)
    y rest last k

-- a primitive, where one may come
pub primitive_taken : (strict : Bool) (a : Symbol) (more : Stack) → ((l : Lexeme) → l.kind ≡ kind.Binary → is_word less l ≡ true → takes a l ≡ Pushes (primitive_then more)) → (n : ℕ) (ts rest : Lexemes) → IsPrimitive n ts rest → (k : Stack) → run strict ts (a ∷ k) ≡ run strict rest (more ++ k)
primitive_taken strict a more same n ts rest (l, x, y, z, first, word, number, value, low, high, last) k =
    sign_taken strict a (primitive_then more) kind.Binary less same ts x first k
    ∙ sign_taken strict primitive_word [] kind.Keyword primitive_bytes (λ m e h. ap (λ q. word_takes q (is_word primitive_bytes m)) e ∙ ap (word_takes kind.Keyword) h) x y word (primitive_number ∷ primitive_end ∷ (more ++ k))
    ∙ at strict (primitive_number ∷ primitive_end ∷ (more ++ k)) y (l ∷ z) number.0
    ∙ pushes strict l z primitive_number (primitive_end ∷ (more ++ k)) [] (ap (λ q. number_takes q (is_primitive_number l)) number.1 ∙ ap (number_takes kind.Number) (primitive_true l n value low high))
    ∙ sign_taken strict primitive_end [] kind.Binary greater (λ m e h. ap (λ q. sign_takes q (is_word greater m) [] Refuses) e ∙ ap (λ q. sign_takes kind.Binary q [] Refuses) h) z rest last (more ++ k)

pub optional_row : (ps : Names) (l : Lexeme) → l.kind ≡ kind.Binary → is_word bar l ≡ true → takes (optional_temporaries ps) l ≡ Pushes (temporaries ps [] false ∷ [])
optional_row ps l e h = ap (λ x. sign_takes x (is_word bar l) (temporaries ps [] false ∷ []) (home_takes ps [] l)) e ∙ ap (λ x. sign_takes kind.Binary x (temporaries ps [] false ∷ []) (home_takes ps [] l)) h

-- temporaries, if any, and a body
optional_taken : (strict : Bool) (ps : Names) (ns : List NameAt) (ss : BodyTree) (ts rest : Lexemes) → AreOptionalTemporaries ns ts rest → IsBody ss rest [] → IsLawfulBody strict 0 (home_assigns ps (names_in ns)) ss → run strict ts (optional_temporaries ps ∷ []) ≡ Accepts
optional_taken strict ps ns ss ts rest (inl h) g w =
    temps_taken strict (optional_temporaries ps) ps false (optional_row ps) ns ts rest h [] ∙ home_taken strict ps (names_in ns) ss rest g w
optional_taken strict ps ns ss ts rest (inr h) g w =
    at strict (optional_temporaries ps ∷ []) ts rest h.1
    ∙ body_follows strict (optional_temporaries ps) ps [] refl (λ l o. no_bar l (temporaries ps [] false ∷ []) (home_takes ps [] l) o) ss rest g (subst (λ x. IsLawfulBody strict 0 (home_assigns ps (names_in x)) ss) h.0 w)

-- behind temporaries: a primitive, if any, and a body
pub behind_row : (ps ns : Names) (l : Lexeme) → l.kind ≡ kind.Binary → is_word less l ≡ true → takes (after_temporaries ps ns) l ≡ Pushes (primitive_then (body ∷ home_scope ps ns ∷ []))
behind_row ps ns l e h = ap (λ x. sign_takes x (is_word less l) (primitive_then (body ∷ home_scope ps ns ∷ [])) (home_takes ps ns l)) e ∙ ap (λ x. sign_takes kind.Binary x (primitive_then (body ∷ home_scope ps ns ∷ [])) (home_takes ps ns l)) h

pub less_row : (ps : Names) (l : Lexeme) → l.kind ≡ kind.Binary → is_word less l ≡ true → takes (after_pattern ps) l ≡ Pushes (primitive_then (optional_temporaries ps ∷ []))
less_row ps l e h =
    let other : Action = sign_takes l.kind (is_word bar l) (temporaries ps [] true ∷ []) (home_takes ps [] l) in
    ap (λ x. sign_takes x (is_word less l) (primitive_then (optional_temporaries ps ∷ [])) other) e ∙ ap (λ x. sign_takes kind.Binary x (primitive_then (optional_temporaries ps ∷ [])) other) h

pub bar_row : (ps : Names) (l : Lexeme) → l.kind ≡ kind.Binary → l.bytes ≡ bar → takes (after_pattern ps) l ≡ Pushes (temporaries ps [] true ∷ [])
bar_row ps l e h =
    let p : Stack = primitive_then (optional_temporaries ps ∷ []) in
    let other : Action = sign_takes l.kind (is_word bar l) (temporaries ps [] true ∷ []) (home_takes ps [] l) in
    ap (λ x. sign_takes x (is_word less l) p other) e
    ∙ ap (λ x. sign_takes kind.Binary x p other) (other_word bar less refl l h)
    ∙ ap (λ x. sign_takes x (is_word bar l) (temporaries ps [] true ∷ []) (home_takes ps [] l)) e
    ∙ ap (λ x. sign_takes kind.Binary x (temporaries ps [] true ∷ []) (home_takes ps [] l)) (word_true bar l h)

pattern_temps : (strict : Bool) (ps : Names) (ns : List NameAt) (ts rest : Lexemes) → AreTemporaries ns ts rest → run strict ts (after_pattern ps ∷ []) ≡ run strict rest (after_temporaries ps (names_in ns) ∷ [])
pattern_temps strict ps ns ts rest h =
    temps_taken strict (after_pattern ps) ps true (λ l e g. bar_row ps l e (word_bytes bar l g)) ns ts rest h []

head_taken : (strict : Bool) (ps : Names) (ns : List NameAt) (n : ℕ) (ss : BodyTree) (ts rest : Lexemes) → IsHead ns n ts rest → IsBody ss rest [] → IsLawfulBody strict 0 (home_assigns ps (names_in ns)) ss → run strict ts (after_pattern ps ∷ []) ≡ Accepts
head_taken strict ps ns n ss ts rest (inl (z, inl h)) g w =
    pattern_temps strict ps ns ts rest h
    ∙ body_follows strict (after_temporaries ps (names_in ns)) ps (names_in ns) refl (λ l o. no_less l (primitive_then (body ∷ home_scope ps (names_in ns) ∷ [])) (home_takes ps (names_in ns) l) o) ss rest g w
head_taken strict ps ns n ss ts rest (inl (z, inr h)) g w =
    at strict (after_pattern ps ∷ []) ts rest h.1
    ∙ body_follows strict (after_pattern ps) ps [] refl
    (λ l o. no_less l (primitive_then (optional_temporaries ps ∷ [])) (sign_takes l.kind (is_word bar l) (temporaries ps [] true ∷ []) (home_takes ps [] l)) o ∙ no_bar l (temporaries ps [] true ∷ []) (home_takes ps [] l) o)
    ss rest g (subst (λ x. IsLawfulBody strict 0 (home_assigns ps (names_in x)) ss) h.0 w)
head_taken strict ps ns n ss ts rest (inr (inl (a, p, h))) g w =
    primitive_taken strict (after_pattern ps) (optional_temporaries ps ∷ []) (less_row ps) n ts a p []
    ∙ optional_taken strict ps ns ss a rest h g w
head_taken strict ps ns n ss ts rest (inr (inr (a, h, p))) g w =
    pattern_temps strict ps ns ts a h
    ∙ primitive_taken strict (after_temporaries ps (names_in ns)) (body ∷ home_scope ps (names_in ns) ∷ []) (behind_row ps (names_in ns)) n a rest p []
    ∙ home_taken strict ps (names_in ns) ss rest g w

-- behind a keyword pattern no keyword comes
abbrev pub NotKeyword : TokenKind → Bool → Type 0
NotKeyword kind.Keyword negative = ⊥
NotKeyword _ negative = Unit {0}

statement_no_keyword : (k : TokenKind) (b : Bool) → StatementStart k b → NotKeyword k b
statement_no_keyword kind.Keyword b o = absurd o
statement_no_keyword _ b o = tt

pub no_keyword : (k : TokenKind) (b : Bool) (p : Stack) (other : Action) → NotKeyword k b → keyword_takes k p other ≡ other
no_keyword kind.Keyword b p other n = absurd n
no_keyword _ b p other n = refl

abbrev pub Follows : Lexemes → Type 0
Follows ts = (ts ≡ []) ⊎ Begins NotKeyword ts

pub body_starts : (ss : BodyTree) (ts : Lexemes) → IsBody ss ts [] → Follows ts
body_starts no_stmts ts h = inl h
body_starts (stmts r e ss) ts h = inr (begins_all StatementStart NotKeyword statement_no_keyword ts (stmt_begins r e ss ts [] h))

sign_starts : (word : List ℕ) (ts rest : Lexemes) → IsSign kind.Binary word ts rest → Follows ts
sign_starts word ts rest h = inr (begins_kind NotKeyword kind.Binary (λ b. tt) h.0 ts rest h.1)

pub head_starts : (ns : List NameAt) (n : ℕ) (ss : BodyTree) (ts rest : Lexemes) → IsHead ns n ts rest → IsBody ss rest [] → Follows ts
head_starts ns n ss ts rest (inl (z, inl h)) g = sign_starts bar ts h.0 h.2
head_starts ns n ss ts rest (inl (z, inr h)) g = subst Follows (sym h.1) (body_starts ss rest g)
head_starts ns n ss ts rest (inr (inl (a, p, h))) g = sign_starts less ts p.1 p.4
head_starts ns n ss ts rest (inr (inr (a, h, p))) g = sign_starts bar ts h.0 h.2

keyword_head : (strict : Bool) (ps : Names) (ts : Lexemes) → Follows ts → run strict ts (after_keyword ps ∷ []) ≡ run strict ts (after_pattern ps ∷ [])
keyword_head strict ps ts (inl e) =
    at strict (after_keyword ps ∷ []) ts [] e ∙ ends strict (after_keyword ps) [] refl ∙ sym (ends strict (after_pattern ps) [] refl) ∙ sym (at strict (after_pattern ps ∷ []) ts [] e)
keyword_head strict ps ts (inr (l, us, e, o)) =
    at strict (after_keyword ps ∷ []) ts (l ∷ us) e
    ∙ same_takes strict l us (after_keyword ps) (after_pattern ps) [] (no_keyword l.kind (is_minus l) (keyword_parameter ps ∷ []) (head_takes ps l) o)
    ∙ sym (at strict (after_pattern ps ∷ []) ts (l ∷ us) e)

keywords_taken : (strict : Bool) (ns : List NameAt) (s : List ℕ) (seen : Names) (ts rest : Lexemes) → AreKeywords ns s ts rest → (k : Stack) → run strict ts (after_keyword seen ∷ k) ≡ run strict rest (after_keyword (seen ++ names_in ns) ∷ k)
keywords_taken strict [] s seen ts rest h k = at strict (after_keyword seen ∷ k) ts rest h.0 ∙ ap (λ x. run strict rest (after_keyword x ∷ k)) (sym (append-nil seen))
keywords_taken strict (n ∷ ns) s seen ts rest h k =
    at strict (after_keyword seen ∷ k) ts (h.0 ∷ h.1) h.4.0
    ∙ pushes strict h.0 h.1 (after_keyword seen) k (keyword_parameter seen ∷ []) (ap (λ x. keyword_takes x (keyword_parameter seen ∷ []) (sign_takes x (is_word less h.0) (primitive_then (optional_temporaries seen ∷ [])) (sign_takes x (is_word bar h.0) (temporaries seen [] true ∷ []) (above (body_takes x (is_minus h.0) h.0) (home_scope seen [] ∷ []))))) h.4.1)
    ∙ declared_taken strict (keyword_parameter seen) (λ x. after_keyword (seen ++ x ∷ []) ∷ []) (λ l. Refuses) (λ l. refl) n h.1 h.2 h.6 k
    ∙ keywords_taken strict ns h.3 (seen ++ n.name ∷ []) h.2 rest h.7 k
    ∙ ap (λ x. run strict rest (after_keyword x ∷ k)) (seen_then seen n ns)

pub pattern_taken : (strict : Bool) (s : List ℕ) (ps : List NameAt) (ts rest : Lexemes) → IsPattern s ps ts rest → Follows rest → run strict ts (method_start ∷ []) ≡ run strict rest (after_pattern (names_in ps) ∷ [])
pattern_taken strict s [] ts rest h f = at strict (method_start ∷ []) ts (h.0 ∷ rest) h.1.0 ∙ pushes strict h.0 rest method_start [] (after_pattern [] ∷ []) (ap pattern_takes h.1.1)
pattern_taken strict s (n ∷ ns) ts rest (inl h) f =
    at strict (method_start ∷ []) ts (h.0 ∷ h.1) h.2.0
    ∙ pushes strict h.0 h.1 method_start [] (binary_parameter ∷ []) (ap pattern_takes h.2.1)
    ∙ declared_taken strict binary_parameter (λ x. after_pattern (x ∷ []) ∷ []) (λ l. Refuses) (λ l. refl) n h.1 rest h.4 []
    ∙ ap (λ x. run strict rest (after_pattern (n.name ∷ names_in x) ∷ [])) (sym h.5)
pattern_taken strict s (n ∷ ns) ts rest (inr h) f =
    at strict (method_start ∷ []) ts (h.0 ∷ h.1) h.4.0
    ∙ pushes strict h.0 h.1 method_start [] (keyword_parameter [] ∷ []) (ap pattern_takes h.4.1)
    ∙ declared_taken strict (keyword_parameter []) (λ x. after_keyword (x ∷ []) ∷ []) (λ l. Refuses) (λ l. refl) n h.1 h.2 h.6 []
    ∙ keywords_taken strict ns h.3 (n.name ∷ []) h.2 rest h.7 []
    ∙ keyword_head strict (names_in (n ∷ ns)) rest f

-- a method's tokens are all taken
pub method_taken : (strict : Bool) (m : MethodParts) (ts : Lexemes) → IsMethod m ts → IsLawfulMethod strict m → run strict ts (method_start ∷ []) ≡ Accepts
method_taken strict m ts (a, b, p, h, g) w =
    pattern_taken strict m.selector m.parameters ts a p (head_starts m.temporaries m.primitive m.body a b h g)
    ∙ head_taken strict (names_in m.parameters) m.temporaries m.primitive m.body a b h g w

-- and a doIt's
pub doit_taken : (strict : Bool) (d : DoItParts) (ts : Lexemes) → IsDoIt d ts → IsLawfulDoIt strict d → run strict ts (doit_start ∷ []) ≡ Accepts
doit_taken strict d ts (a, h, g) w = optional_taken strict [] d.temporaries d.body ts a h g w
