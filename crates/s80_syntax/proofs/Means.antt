-- The tokens that a wanted symbol stands for, where so many brackets are open and these names may be assigned.
use Rattle.std.proofs.Common.{◌≡◌, ℕ, ◌≤◌, List, [], ◌∷◌, ◌++◌, Bool, true, false, refl, ◌⊎◌, inl, inr, lit≤}
use Rattle.std.specs.Prelude.{pos}
use Rattle.s80_lex.specs.declared.token.TokenKind.{TokenKind}
use Rattle.s80_lex.specs.declared.token.TokenKind.TheVariants as kind
use Rattle.s80_base.specs.Literal.{LiteralTrees, small, no_literals}
use Rattle.s80_tree.specs.declared.name.NameAt.{NameAt}
use Rattle.s80_tree.specs.Tree.{ExprTree, PrimaryTree, ExprTrees, MessageTrees, BodyTree, expr, name, no_exprs, no_messages, no_stmts}
use Rattle.s80_lex.specs.Number.{number_literal}
use Rattle.s80_syntax.specs.Lexeme.{Lexeme, Lexemes}
use Rattle.s80_syntax.specs.Grammar.{Takes, IsMark, IsSign, IsName, IsBar, IsDeclared, AreDeclared, AreParameters, AreJoined, AreElements, IsCascadeOf, IsOptionalPeriod, IsBarBetween, IsExpr, IsPrimary, IsChain, IsMessage, AreParts, IsCascade, IsBody, AreOptionalTemporaries, IsPrimitive, IsHead, AreKeywords, IsPattern}
use Rattle.s80_syntax.specs.Word.{Names, names_in, is_reserved, bar, greater, primitive_word as primitive_bytes}
use Rattle.s80_syntax.specs.Limits.{home_assigns, block_assigns, AreLawfulLiterals, IsLawfulExpr, IsLawfulPrimary, AreLawfulExprs, AreLawfulMessages, IsLawfulBody}
use Rattle.s80_syntax.specs.Stack.{Symbol, Stack, level, assigns, method_start, binary_parameter, keyword_parameter, after_keyword, after_pattern, optional_temporaries, temporaries, after_temporaries, primitive_word, primitive_number, primitive_end, home_scope, block_scope, body, after_statement, after_return, expr_start, after_name, first_message, primary, unary_tail, binary_tail, keyword_tail, cascade, message, after_minus, elements, joined_keyword, close_paren, close_bracket, block_start, parameter, after_parameter}

abbrev pub MeansBody : Bool → ℕ → (List ℕ → Bool) → Lexemes → Lexemes → Type 0
MeansBody strict depth names ts rest = (ss : BodyTree) × IsBody ss ts rest × IsLawfulBody strict depth names ss

-- temporaries, if any, and a body, behind these parameters
abbrev pub MeansOptional : Bool → Names → ℕ → Lexemes → Lexemes → Type 0
MeansOptional strict ps depth ts rest =
    (ns : List NameAt) × (ss : BodyTree) × (a : Lexemes) × AreOptionalTemporaries ns ts a × IsBody ss a rest × IsLawfulBody strict depth (home_assigns ps (names_in ns)) ss

abbrev pub MeansHead : Bool → Names → ℕ → Lexemes → Lexemes → Type 0
MeansHead strict ps depth ts rest =
    (ns : List NameAt) × (n : ℕ) × (ss : BodyTree) × (a : Lexemes) × IsHead ns n ts a × IsBody ss a rest × IsLawfulBody strict depth (home_assigns ps (names_in ns)) ss

-- further keywords of a pattern, and what follows it
abbrev pub MeansKeywords : Bool → Names → ℕ → Lexemes → Lexemes → Type 0
MeansKeywords strict seen depth ts rest =
    (qs : List NameAt) × (s : List ℕ) × (a : Lexemes) × AreKeywords qs s ts a × MeansHead strict (seen ++ names_in qs) depth a rest

-- a primitive, if one may come and does
abbrev pub MaybePrimitive : Bool → ℕ → Lexemes → Lexemes → Type 0
MaybePrimitive true n ts rest = IsPrimitive n ts rest ⊎ ((n ≡ 0) × (ts ≡ rest))
MaybePrimitive false n ts rest = (n ≡ 0) × (ts ≡ rest)

-- further parameters of a block, and its body
abbrev pub MeansParameters : Bool → Names → ℕ → (List ℕ → Bool) → Lexemes → Lexemes → Type 0
MeansParameters strict seen depth names ts rest =
    (ps : List NameAt) × (ss : BodyTree) × (a b : Lexemes) × AreParameters ps ts a × ((n : NameAt) → IsBarBetween (n ∷ []) ss a b) × IsBody ss b rest
    × IsLawfulBody strict depth (block_assigns (seen ++ names_in ps) names) ss

abbrev pub Means : Bool → Symbol → ℕ → (List ℕ → Bool) → Lexemes → Lexemes → Type 0
Means strict method_start depth names ts rest = (s : List ℕ) × (ps : List NameAt) × (a : Lexemes) × IsPattern s ps ts a × MeansHead strict (names_in ps) depth a rest
Means strict binary_parameter depth names ts rest = (q : NameAt) × (a : Lexemes) × IsDeclared q ts a × MeansHead strict (q.name ∷ []) depth a rest
Means strict (keyword_parameter ps) depth names ts rest = (q : NameAt) × (a : Lexemes) × IsDeclared q ts a × MeansKeywords strict (ps ++ q.name ∷ []) depth a rest
Means strict (after_keyword ps) depth names ts rest = MeansKeywords strict ps depth ts rest
Means strict (after_pattern ps) depth names ts rest = MeansHead strict ps depth ts rest
Means strict (optional_temporaries ps) depth names ts rest = MeansOptional strict ps depth ts rest
Means strict (temporaries ps seen primitive) depth names ts rest =
    (ns : List NameAt) × (n : ℕ) × (ss : BodyTree) × (a b c : Lexemes) × AreDeclared ns ts a × IsBar a b × MaybePrimitive primitive n b c × IsBody ss c rest
    × IsLawfulBody strict depth (home_assigns ps (seen ++ names_in ns)) ss
Means strict (after_temporaries ps ns) depth names ts rest =
    (n : ℕ) × (ss : BodyTree) × (a : Lexemes) × MaybePrimitive true n ts a × IsBody ss a rest × IsLawfulBody strict depth (home_assigns ps ns) ss
Means strict primitive_word depth names ts rest = IsSign kind.Keyword primitive_bytes ts rest
Means strict primitive_number depth names ts rest = (l : Lexeme) × (n : ℕ) × Takes kind.Number l ts rest × (number_literal false l.bytes ≡ small (pos n)) × (1 ≤ n) × (n ≤ 255)
Means strict primitive_end depth names ts rest = IsSign kind.Binary greater ts rest
Means strict (home_scope ps ns) depth names ts rest = ts ≡ rest
Means strict (block_scope ns) depth names ts rest = ts ≡ rest
Means strict body depth names ts rest = MeansBody strict depth names ts rest
Means strict after_statement depth names ts rest = ((a : Lexemes) × IsMark kind.Period ts a × MeansBody strict depth names a rest) ⊎ (ts ≡ rest)
Means strict after_return depth names ts rest = IsOptionalPeriod ts rest
Means strict expr_start depth names ts rest = (e : ExprTree) × IsExpr e ts rest × IsLawfulExpr strict depth names e
Means strict (after_name n) depth names ts rest = n.kind ≡ kind.Name → (e : ExprTree) × IsExpr e (n ∷ ts) rest × IsLawfulExpr strict depth names e
Means strict first_message depth names ts rest =
    (m c : MessageTrees) × (a : Lexemes) × IsChain m 0 2 ts a × IsCascadeOf m c × IsCascade c a rest × AreLawfulMessages strict depth names m × AreLawfulMessages strict depth names c
Means strict primary depth names ts rest = (p : PrimaryTree) × IsPrimary p ts rest × IsLawfulPrimary strict depth names p
Means strict unary_tail depth names ts rest = (m : MessageTrees) × IsChain m 0 0 ts rest × AreLawfulMessages strict depth names m
Means strict binary_tail depth names ts rest = (m : MessageTrees) × IsChain m 1 1 ts rest × AreLawfulMessages strict depth names m
Means strict keyword_tail depth names ts rest = (es : ExprTrees) × (s : List ℕ) × AreParts es s ts rest × AreLawfulExprs strict depth names es
Means strict cascade depth names ts rest = (c : MessageTrees) × IsCascade c ts rest × AreLawfulMessages strict depth names c
Means strict message depth names ts rest = (es : ExprTrees) × (s : List ℕ) × (next : ℕ) × IsMessage es s 0 2 next ts rest × AreLawfulExprs strict depth names es
Means strict after_minus depth names ts rest = (l : Lexeme) × Takes kind.Number l ts rest
Means strict elements depth names ts rest = (vs : LiteralTrees) × AreElements vs ts rest × AreLawfulLiterals strict depth vs
Means strict joined_keyword depth names ts rest = (word : List ℕ) × AreJoined word ts rest
Means strict close_paren depth names ts rest = IsMark kind.CloseParen ts rest
Means strict close_bracket depth names ts rest = IsMark kind.CloseBracket ts rest
Means strict block_start depth names ts rest =
    (ps : List NameAt) × (ss : BodyTree) × (a b : Lexemes) × AreParameters ps ts a × IsBarBetween ps ss a b × IsBody ss b rest
    × IsLawfulBody strict depth (block_assigns (names_in ps) names) ss
Means strict (parameter ns) depth names ts rest = (q : NameAt) × (a : Lexemes) × IsDeclared q ts a × MeansParameters strict (ns ++ q.name ∷ []) depth names a rest
Means strict (after_parameter ns) depth names ts rest = MeansParameters strict ns depth names ts rest

-- the tokens that all of a stack stands for
abbrev pub Derives : Bool → Stack → Lexemes → Type 0
Derives strict [] ts = ts ≡ []
Derives strict (a ∷ k) ts = (rest : Lexemes) × Means strict a (level k) (assigns k) ts rest × Derives strict k rest

-- a token of a kind
abbrev some : TokenKind → List ℕ → Lexeme
some k bytes = record { kind = k; bytes = bytes; at = 0; joined = false }

abbrev pub name_of : Lexeme → NameAt
name_of l = record { name = l.bytes; at = l.at }

pub is_name : (l : Lexeme) (ts : Lexemes) → l.kind ≡ kind.Name → IsName (name_of l) (l ∷ ts) ts
is_name l ts e = (l, (refl, e), refl, refl)

pub is_declared : (l : Lexeme) (ts : Lexemes) → l.kind ≡ kind.Name → is_reserved l.bytes ≡ false → IsDeclared (name_of l) (l ∷ ts) ts
is_declared l ts e r = (is_name l ts e, r)

pub name_expr : (strict : Bool) (depth : ℕ) (names : List ℕ → Bool) (l : Lexeme) (ts : Lexemes) → l.kind ≡ kind.Name → (e : ExprTree) × IsExpr e (l ∷ ts) ts × IsLawfulExpr strict depth names e
name_expr strict depth names l ts e = (expr [] (name (name_of l)) no_messages no_messages, (l ∷ ts, ts, ts, refl, is_name l ts e, refl, tt, refl), (tt, tt, tt, tt))

no_word : is_reserved [] ≡ false
unfolding is_reserved
no_word = refl

no_body : (strict : Bool) (depth : ℕ) (names : List ℕ → Bool) (us : Lexemes) → MeansBody strict depth names us us
no_body strict depth names us = (no_stmts, refl, tt)

pub no_head : (strict : Bool) (ps : Names) (depth : ℕ) (us : Lexemes) → MeansHead strict ps depth us us
no_head strict ps depth us = ([], 0, no_stmts, us, inl (refl, inr (refl, refl)), refl, tt)

pub no_keywords : (strict : Bool) (ps : Names) (depth : ℕ) (us : Lexemes) → MeansKeywords strict ps depth us us
no_keywords strict ps depth us = ([], [], us, (refl, refl), no_head strict (ps ++ []) depth us)

maybe_none : (primitive : Bool) (us : Lexemes) → MaybePrimitive primitive 0 us us
maybe_none true us = inr (refl, refl)
maybe_none false us = (refl, refl)

pub no_parameters : (strict : Bool) (ns : Names) (depth : ℕ) (names : List ℕ → Bool) (us : Lexemes) → MeansParameters strict ns depth names us us
no_parameters strict ns depth names us = ([], no_stmts, us, us, refl, λ n. inr refl, refl, tt)

one_value : number_literal false (49 ∷ []) ≡ small (pos 1)
unfolding number_literal
one_value = refl

-- each wanted symbol can come
completes_symbol : (strict : Bool) (a : Symbol) (depth : ℕ) (names : List ℕ → Bool) (us : Lexemes) → (ts : Lexemes) × Means strict a depth names ts us
completes_symbol strict method_start depth names us = (some kind.Name [] ∷ us, ([], [], us, (some kind.Name [], (refl, refl), refl), no_head strict [] depth us))
completes_symbol strict binary_parameter depth names us = (some kind.Name [] ∷ us, (name_of (some kind.Name []), us, is_declared (some kind.Name []) us refl no_word, no_head strict ([] ∷ []) depth us))
completes_symbol strict (keyword_parameter ps) depth names us = (some kind.Name [] ∷ us, (name_of (some kind.Name []), us, is_declared (some kind.Name []) us refl no_word, no_keywords strict (ps ++ [] ∷ []) depth us))
completes_symbol strict (after_keyword ps) depth names us = (us, no_keywords strict ps depth us)
completes_symbol strict (after_pattern ps) depth names us = (us, no_head strict ps depth us)
completes_symbol strict (optional_temporaries ps) depth names us = (us, ([], no_stmts, us, inr (refl, refl), refl, tt))
completes_symbol strict (temporaries ps seen primitive) depth names us =
    (some kind.Binary bar ∷ us, ([], 0, no_stmts, some kind.Binary bar ∷ us, us, us, refl, (some kind.Binary bar, (refl, refl), refl), maybe_none primitive us, refl, tt))
completes_symbol strict (after_temporaries ps ns) depth names us = (us, (0, no_stmts, us, inr (refl, refl), refl, tt))
completes_symbol strict primitive_word depth names us = (some kind.Keyword primitive_bytes ∷ us, (some kind.Keyword primitive_bytes, (refl, refl), refl))
completes_symbol strict primitive_number depth names us = (some kind.Number (49 ∷ []) ∷ us, (some kind.Number (49 ∷ []), 1, (refl, refl), one_value, lit≤ tt, lit≤ tt))
completes_symbol strict primitive_end depth names us = (some kind.Binary greater ∷ us, (some kind.Binary greater, (refl, refl), refl))
completes_symbol strict (home_scope ps ns) depth names us = (us, refl)
completes_symbol strict (block_scope ns) depth names us = (us, refl)
completes_symbol strict body depth names us = (us, no_body strict depth names us)
completes_symbol strict after_statement depth names us = (us, inr refl)
completes_symbol strict after_return depth names us = (us, inr refl)
completes_symbol strict expr_start depth names us = (some kind.Name [] ∷ us, name_expr strict depth names (some kind.Name []) us refl)
completes_symbol strict (after_name n) depth names us = (us, name_expr strict depth names n us)
completes_symbol strict first_message depth names us = (us, (no_messages, no_messages, us, refl, tt, refl, tt, tt))
completes_symbol strict primary depth names us = (some kind.Name [] ∷ us, (name (name_of (some kind.Name [])), is_name (some kind.Name []) us refl, tt))
completes_symbol strict unary_tail depth names us = (us, (no_messages, refl, tt))
completes_symbol strict binary_tail depth names us = (us, (no_messages, refl, tt))
completes_symbol strict keyword_tail depth names us = (us, (no_exprs, [], (refl, refl), tt))
completes_symbol strict cascade depth names us = (us, (no_messages, refl, tt))
completes_symbol strict message depth names us = (some kind.Name [] ∷ us, (no_exprs, [], 0, (some kind.Name [], (refl, refl), refl, refl, refl), tt))
completes_symbol strict after_minus depth names us = (some kind.Number [] ∷ us, (some kind.Number [], (refl, refl)))
completes_symbol strict elements depth names us = (us, (no_literals, refl, tt))
completes_symbol strict joined_keyword depth names us = (some kind.Keyword [] ∷ us, ([], (refl, inl (refl, refl, refl))))
completes_symbol strict close_paren depth names us = (some kind.CloseParen [] ∷ us, (some kind.CloseParen [], (refl, refl)))
completes_symbol strict close_bracket depth names us = (some kind.CloseBracket [] ∷ us, (some kind.CloseBracket [], (refl, refl)))
completes_symbol strict block_start depth names us = (us, ([], no_stmts, us, us, refl, refl, refl, tt))
completes_symbol strict (parameter ns) depth names us = (some kind.Name [] ∷ us, (name_of (some kind.Name []), us, is_declared (some kind.Name []) us refl no_word, no_parameters strict (ns ++ [] ∷ []) depth names us))
completes_symbol strict (after_parameter ns) depth names us = (us, no_parameters strict ns depth names us)

-- every stack stands for some tokens
pub completes : (strict : Bool) (k : Stack) → (ts : Lexemes) × Derives strict k ts
completes strict [] = ([], refl)
completes strict (a ∷ k) =
    let d = completes strict k in
    let s = completes_symbol strict a (level k) (assigns k) d.0 in
    (s.0, (d.0, s.1, d.1))
