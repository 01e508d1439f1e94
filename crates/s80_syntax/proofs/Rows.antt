-- The table: each row read backwards, which tokens open a level, and where a name that may be a target stands.
use Rattle.std.proofs.Common.{◌≡◌, ℕ, List, [], ◌∷◌, ◌++◌, Bool, true, false, refl, ◌⊎◌, inl, inr, subst, sym}
use Rattle.s80_lex.specs.declared.token.TokenKind.{TokenKind}
use Rattle.s80_lex.specs.declared.token.TokenKind.TheVariants as kind
use Rattle.s80_tree.specs.Tree.{no_exprs, no_messages, no_stmts}
use Rattle.s80_base.specs.Literal.{no_literals}
use Rattle.s80_syntax.specs.Lexeme.{Lexeme, Lexemes}
use Rattle.s80_syntax.specs.Word.{Names, is_word, is_minus, is_reserved, is_primitive_number, bar, less, greater, primitive_word as primitive_bytes}
use Rattle.s80_syntax.specs.Faults.{IsOpening}
use Rattle.s80_syntax.specs.Stack.{Symbol, Stack, Action, Pushes, Opens, Assigns, Pops, Refuses, takes, may_end, above, primary_takes, expr_takes, body_takes, element_takes, joined_takes, number_takes, message_takes, cascade_takes, name_takes, declared_takes, sign_takes, colon_takes, assign_takes, binary_takes, keyword_takes, semicolon_takes, period_takes, paren_takes, bracket_takes, pattern_takes, word_takes, after_bar, primitive_then, home_takes, head_takes, method_start, binary_parameter, keyword_parameter, after_keyword, after_pattern, optional_temporaries, temporaries, after_temporaries, primitive_word, primitive_number, primitive_end, home_scope, block_scope, body, after_statement, after_return, expr_start, after_name, first_message, primary, unary_tail, binary_tail, keyword_tail, cascade, message, after_minus, elements, joined_keyword, close_paren, close_bracket, block_start, parameter, after_parameter}
use Rattle.s80_syntax.proofs.Means.{Means, name_expr, no_head, no_keywords, no_parameters}
use Rattle.s80_syntax.proofs.BacksExprs.{Back, back_unary, back_binary, back_keyword, back_cascade, back_message, back_first, back_name, back_primary, back_expr, back_body, back_after, back_return, back_paren, back_bracket, back_minus, back_joined, back_element}
use Rattle.s80_syntax.proofs.BacksTexts.{back_block, back_parameter, back_parameters, back_optional, back_pattern, back_temporaries, back_behind, back_keywords, back_keyword_parameter, back_binary_parameter, back_start, back_word, back_number, back_end}

pub backs : (strict : Bool) (a : Symbol) (l : Lexeme) → Back strict a l (takes a l)
backs strict method_start l = back_start strict l l.kind refl
backs strict binary_parameter l = back_binary_parameter strict l
backs strict (keyword_parameter ps) l = back_keyword_parameter strict ps l
backs strict (after_keyword ps) l = back_keywords strict ps l
backs strict (after_pattern ps) l = back_pattern strict ps l
backs strict (optional_temporaries ps) l = back_optional strict ps l
backs strict (temporaries ps ns primitive) l = back_temporaries strict ps ns primitive l
backs strict (after_temporaries ps ns) l = back_behind strict ps ns l
backs strict primitive_word l = back_word strict l l.kind (is_word primitive_bytes l) refl refl
backs strict primitive_number l = back_number strict l l.kind (is_primitive_number l) refl refl
backs strict primitive_end l = back_end strict l
backs strict (home_scope ps ns) l = λ depth names us. refl
backs strict (block_scope ns) l = λ depth names us. refl
backs strict body l = back_body strict l l.kind (is_minus l) refl refl
backs strict after_statement l = back_after strict l l.kind refl
backs strict after_return l = back_return strict l l.kind refl
backs strict expr_start l = back_expr strict l l.kind (is_minus l) refl refl
backs strict (after_name n) l = back_name strict n l l.kind refl
backs strict first_message l = back_first strict l l.kind refl
backs strict primary l = back_primary strict l l.kind (is_minus l) refl refl
backs strict unary_tail l = back_unary strict l l.kind refl
backs strict binary_tail l = back_binary strict l l.kind refl
backs strict keyword_tail l = back_keyword strict l l.kind refl
backs strict cascade l = back_cascade strict l l.kind refl
backs strict message l = back_message strict l l.kind refl
backs strict after_minus l = back_minus strict l l.kind refl
backs strict elements l = back_element strict l l.kind (is_minus l) l.joined refl refl refl
backs strict joined_keyword l = back_joined strict l l.kind l.joined refl refl
backs strict close_paren l = back_paren strict l l.kind refl
backs strict close_bracket l = back_bracket strict l l.kind refl
backs strict block_start l = back_block strict l
backs strict (parameter ns) l = back_parameter strict ns l
backs strict (after_parameter ns) l = back_parameters strict ns l

false_true : false ≡ true → ⊥
false_true e = cc

name_alone : (strict : Bool) (depth : ℕ) (names : List ℕ → Bool) (n : Lexeme) (us : Lexemes) → Means strict (after_name n) depth names us us
name_alone strict depth names n us e = name_expr strict depth names n us e

-- what need not come stands for no tokens
pub ends_means : (strict : Bool) (a : Symbol) → may_end a ≡ true → (depth : ℕ) (names : List ℕ → Bool) (us : Lexemes) → Means strict a depth names us us
ends_means strict method_start e depth names us = absurd (false_true e)
ends_means strict binary_parameter e depth names us = absurd (false_true e)
ends_means strict (keyword_parameter ps) e depth names us = absurd (false_true e)
ends_means strict (after_keyword ps) e depth names us = no_keywords strict ps depth us
ends_means strict (after_pattern ps) e depth names us = no_head strict ps depth us
ends_means strict (optional_temporaries ps) e depth names us = ([], no_stmts, us, inr (refl, refl), refl, tt)
ends_means strict (temporaries ps ns primitive) e depth names us = absurd (false_true e)
ends_means strict (after_temporaries ps ns) e depth names us = (0, no_stmts, us, inr (refl, refl), refl, tt)
ends_means strict primitive_word e depth names us = absurd (false_true e)
ends_means strict primitive_number e depth names us = absurd (false_true e)
ends_means strict primitive_end e depth names us = absurd (false_true e)
ends_means strict (home_scope ps ns) e depth names us = refl
ends_means strict (block_scope ns) e depth names us = refl
ends_means strict body e depth names us = (no_stmts, refl, tt)
ends_means strict after_statement e depth names us = inr refl
ends_means strict after_return e depth names us = inr refl
ends_means strict expr_start e depth names us = absurd (false_true e)
ends_means strict (after_name n) e depth names us = name_alone strict depth names n us
ends_means strict first_message e depth names us = (no_messages, no_messages, us, refl, tt, refl, tt, tt)
ends_means strict primary e depth names us = absurd (false_true e)
ends_means strict unary_tail e depth names us = (no_messages, refl, tt)
ends_means strict binary_tail e depth names us = (no_messages, refl, tt)
ends_means strict keyword_tail e depth names us = (no_exprs, [], (refl, refl), tt)
ends_means strict cascade e depth names us = (no_messages, refl, tt)
ends_means strict message e depth names us = absurd (false_true e)
ends_means strict after_minus e depth names us = absurd (false_true e)
ends_means strict elements e depth names us = (no_literals, refl, tt)
ends_means strict joined_keyword e depth names us = absurd (false_true e)
ends_means strict close_paren e depth names us = absurd (false_true e)
ends_means strict close_bracket e depth names us = absurd (false_true e)
ends_means strict block_start e depth names us = ([], no_stmts, us, us, refl, refl, refl, tt)
ends_means strict (parameter ns) e depth names us = absurd (false_true e)
ends_means strict (after_parameter ns) e depth names us = no_parameters strict ns depth names us

-- no name that may be a target
abbrev pub IsNoName : Symbol → Type 0
IsNoName (after_name n) = ⊥
IsNoName _ = Unit {0}

abbrev pub NoNames : Stack → Type 0
NoNames [] = Unit {0}
NoNames (a ∷ k) = IsNoName a × NoNames k

-- such a name stands first among what is pushed, and is the token itself
abbrev pub PushesName : Lexeme → Stack → Type 0
PushesName l [] = Unit {0}
PushesName l (a ∷ k) = (IsNoName a ⊎ (a ≡ after_name l)) × NoNames k

abbrev pub Row : Symbol → Lexeme → Action → Type 0
Row a l (Pushes p) = PushesName l p
Row a l (Opens p) = IsOpening l.kind × NoNames p
Row a l (Assigns n) = (a ≡ after_name n) × (l.kind ≡ kind.Assign)
Row a l _ = Unit {0}

opening : (l : Lexeme) (d : TokenKind) → l.kind ≡ d → IsOpening d → IsOpening l.kind
opening l d e i = subst IsOpening (sym e) i

row_primary : (a : Symbol) (l : Lexeme) (d : TokenKind) (b : Bool) → l.kind ≡ d → Row a l (primary_takes d b [] Refuses)
row_primary a l kind.Name b e = tt
row_primary a l kind.Number b e = tt
row_primary a l kind.Character b e = tt
row_primary a l kind.Str b e = tt
row_primary a l kind.Symbol b e = tt
row_primary a l kind.Binary true e = (inl tt, tt)
row_primary a l kind.Binary false e = tt
row_primary a l kind.ArrayStart b e = (opening l kind.ArrayStart e tt, (tt, (tt, tt)))
row_primary a l kind.OpenParen b e = (opening l kind.OpenParen e tt, (tt, (tt, tt)))
row_primary a l kind.OpenBracket b e = (opening l kind.OpenBracket e tt, (tt, (tt, tt)))
row_primary a l _ b e = tt

row_expr : (l : Lexeme) (d : TokenKind) (b : Bool) → l.kind ≡ d → Row expr_start l (expr_takes d b l [] Refuses)
row_expr l kind.Name b e = (inr refl, tt)
row_expr l kind.Number b e = (inl tt, tt)
row_expr l kind.Character b e = (inl tt, tt)
row_expr l kind.Str b e = (inl tt, tt)
row_expr l kind.Symbol b e = (inl tt, tt)
row_expr l kind.Binary true e = (inl tt, (tt, tt))
row_expr l kind.Binary false e = tt
row_expr l kind.ArrayStart b e = (opening l kind.ArrayStart e tt, (tt, (tt, (tt, tt))))
row_expr l kind.OpenParen b e = (opening l kind.OpenParen e tt, (tt, (tt, (tt, tt))))
row_expr l kind.OpenBracket b e = (opening l kind.OpenBracket e tt, (tt, (tt, (tt, tt))))
row_expr l _ b e = tt

row_body : (a : Symbol) (l : Lexeme) (d : TokenKind) (b : Bool) → l.kind ≡ d → Row a l (body_takes d b l)
row_body a l kind.Caret b e = (inl tt, (tt, tt))
row_body a l kind.Name b e = (inr refl, (tt, tt))
row_body a l kind.Number b e = (inl tt, (tt, tt))
row_body a l kind.Character b e = (inl tt, (tt, tt))
row_body a l kind.Str b e = (inl tt, (tt, tt))
row_body a l kind.Symbol b e = (inl tt, (tt, tt))
row_body a l kind.Binary true e = (inl tt, (tt, (tt, tt)))
row_body a l kind.Binary false e = tt
row_body a l kind.ArrayStart b e = (opening l kind.ArrayStart e tt, (tt, (tt, (tt, (tt, tt)))))
row_body a l kind.OpenParen b e = (opening l kind.OpenParen e tt, (tt, (tt, (tt, (tt, tt)))))
row_body a l kind.OpenBracket b e = (opening l kind.OpenBracket e tt, (tt, (tt, (tt, (tt, tt)))))
row_body a l _ b e = tt

pub names_append : (p k : Stack) → NoNames p → NoNames k → NoNames (p ++ k)
names_append [] k h g = g
names_append (a ∷ p) k h g = (h.0, names_append p k h.1 g)

-- rows that are made of others
row_home : (a : Symbol) (l : Lexeme) (ps ns : Names) (x : Action) → Row body l x → Row a l (above x (home_scope ps ns ∷ []))
row_home a l ps ns (Pushes []) h = (inl tt, tt)
row_home a l ps ns (Pushes (b ∷ p)) h = (h.0, names_append p (home_scope ps ns ∷ []) h.1 (tt, tt))
row_home a l ps ns (Opens p) h = (h.0, names_append p (home_scope ps ns ∷ []) h.1 (tt, tt))
row_home a l ps ns (Assigns n) h = absurd (body_name h.0)
  where
    body_name : {n : Lexeme} → body ≡ after_name n → ⊥
    body_name e = cc
row_home a l ps ns Pops h = tt
row_home a l ps ns Refuses h = tt

row_declared : (a : Symbol) (l : Lexeme) (d : TokenKind) (r : Bool) (p : Stack) (other : Action) → PushesName l p → Row a l other → Row a l (declared_takes d r p other)
row_declared a l kind.Name false p other h g = h
row_declared a l kind.Name true p other h g = g
row_declared a l _ r p other h g = g

row_sign : (a : Symbol) (l : Lexeme) (d : TokenKind) (b : Bool) (p : Stack) (other : Action) → PushesName l p → Row a l other → Row a l (sign_takes d b p other)
row_sign a l kind.Binary true p other h g = h
row_sign a l kind.Binary false p other h g = g
row_sign a l _ b p other h g = g

row_colon : (a : Symbol) (l : Lexeme) (d : TokenKind) (p : Stack) (other : Action) → PushesName l p → Row a l other → Row a l (colon_takes d p other)
row_colon a l kind.Colon p other h g = h
row_colon a l _ p other h g = g

row_keyword : (a : Symbol) (l : Lexeme) (d : TokenKind) (p : Stack) (other : Action) → PushesName l p → Row a l other → Row a l (keyword_takes d p other)
row_keyword a l kind.Keyword p other h g = h
row_keyword a l _ p other h g = g

row_name : (a : Symbol) (l : Lexeme) (d : TokenKind) (p : Stack) (other : Action) → PushesName l p → Row a l other → Row a l (name_takes d p other)
row_name a l kind.Name p other h g = h
row_name a l _ p other h g = g

row_number : (a : Symbol) (l : Lexeme) (d : TokenKind) (b : Bool) → Row a l (number_takes d b)
row_number a l kind.Number true = tt
row_number a l kind.Number false = tt
row_number a l _ b = tt

row_word : (a : Symbol) (l : Lexeme) (d : TokenKind) (b : Bool) → Row a l (word_takes d b)
row_word a l kind.Keyword true = tt
row_word a l kind.Keyword false = tt
row_word a l _ b = tt

row_pattern : (a : Symbol) (l : Lexeme) (d : TokenKind) → Row a l (pattern_takes d)
row_pattern a l kind.Name = (inl tt, tt)
row_pattern a l kind.Binary = (inl tt, tt)
row_pattern a l kind.Keyword = (inl tt, tt)
row_pattern a l _ = tt

row_message : (a : Symbol) (l : Lexeme) (d : TokenKind) → Row a l (message_takes d)
row_message a l kind.Name = (inl tt, (tt, (tt, (tt, tt))))
row_message a l kind.Binary = (inl tt, (tt, (tt, (tt, (tt, tt)))))
row_message a l kind.Keyword = (inl tt, (tt, (tt, (tt, (tt, tt)))))
row_message a l _ = tt

row_assign : (n l : Lexeme) (d : TokenKind) → l.kind ≡ d → Row (after_name n) l (assign_takes d n)
row_assign n l kind.Assign e = (refl, e)
row_assign n l kind.Name e = row_message (after_name n) l kind.Name
row_assign n l kind.Binary e = row_message (after_name n) l kind.Binary
row_assign n l kind.Keyword e = row_message (after_name n) l kind.Keyword
row_assign n l _ e = tt

row_cascade : (a : Symbol) (l : Lexeme) (d : TokenKind) → Row a l (cascade_takes d)
row_cascade a l kind.Name = tt
row_cascade a l kind.Binary = (inl tt, (tt, tt))
row_cascade a l kind.Keyword = (inl tt, (tt, (tt, (tt, tt))))
row_cascade a l _ = tt

row_binary : (a : Symbol) (l : Lexeme) (d : TokenKind) → Row a l (binary_takes d)
row_binary a l kind.Binary = (inl tt, (tt, (tt, tt)))
row_binary a l _ = tt

row_semicolon : (a : Symbol) (l : Lexeme) (d : TokenKind) → Row a l (semicolon_takes d)
row_semicolon a l kind.Semicolon = (inl tt, (tt, tt))
row_semicolon a l _ = tt

row_period : (a : Symbol) (l : Lexeme) (d : TokenKind) (p : Stack) → PushesName l p → Row a l (period_takes d p)
row_period a l kind.Period p h = h
row_period a l _ p h = tt

row_paren : (a : Symbol) (l : Lexeme) (d : TokenKind) → Row a l (paren_takes d)
row_paren a l kind.CloseParen = tt
row_paren a l _ = tt

row_bracket : (a : Symbol) (l : Lexeme) (d : TokenKind) → Row a l (bracket_takes d)
row_bracket a l kind.CloseBracket = tt
row_bracket a l _ = tt

row_joined : (a : Symbol) (l : Lexeme) (d : TokenKind) (j : Bool) → Row a l (joined_takes d j)
row_joined a l kind.Keyword true = (inl tt, tt)
row_joined a l kind.Keyword false = tt
row_joined a l _ j = tt

row_element : (a : Symbol) (l : Lexeme) (d : TokenKind) (b j : Bool) → l.kind ≡ d → Row a l (element_takes d b j)
row_element a l kind.Number b j e = (inl tt, tt)
row_element a l kind.Character b j e = (inl tt, tt)
row_element a l kind.Str b j e = (inl tt, tt)
row_element a l kind.Symbol b j e = (inl tt, tt)
row_element a l kind.Name b j e = (inl tt, tt)
row_element a l kind.Binary true j e = (inl tt, (tt, tt))
row_element a l kind.Binary false j e = (inl tt, tt)
row_element a l kind.Keyword b true e = (inl tt, (tt, tt))
row_element a l kind.Keyword b false e = (inl tt, tt)
row_element a l kind.ArrayStart b j e = (opening l kind.ArrayStart e tt, (tt, (tt, (tt, tt))))
row_element a l kind.OpenParen b j e = (opening l kind.OpenParen e tt, (tt, (tt, (tt, tt))))
row_element a l _ b j e = tt

row_of_home : (a : Symbol) (l : Lexeme) (ps ns : Names) → Row a l (home_takes ps ns l)
row_of_home a l ps ns = row_home a l ps ns (body_takes l.kind (is_minus l) l) (row_body body l l.kind (is_minus l) refl)

row_head : (a : Symbol) (l : Lexeme) (ps : Names) → Row a l (head_takes ps l)
row_head a l ps =
    row_sign a l l.kind (is_word less l) (primitive_then (optional_temporaries ps ∷ [])) (sign_takes l.kind (is_word bar l) (temporaries ps [] true ∷ []) (home_takes ps [] l)) (inl tt, (tt, (tt, (tt, tt))))
    (row_sign a l l.kind (is_word bar l) (temporaries ps [] true ∷ []) (home_takes ps [] l) (inl tt, tt) (row_of_home a l ps []))

row_after_bar : (l : Lexeme) (primitive : Bool) (ps ns : Names) → PushesName l (after_bar primitive ps ns)
row_after_bar l true ps ns = (inl tt, tt)
row_after_bar l false ps ns = (inl tt, (tt, tt))

pub rows : (a : Symbol) (l : Lexeme) → Row a l (takes a l)
rows method_start l = row_pattern method_start l l.kind
rows binary_parameter l = row_declared binary_parameter l l.kind (is_reserved l.bytes) (after_pattern (l.bytes ∷ []) ∷ []) Refuses (inl tt, tt) tt
rows (keyword_parameter ps) l = row_declared (keyword_parameter ps) l l.kind (is_reserved l.bytes) (after_keyword (ps ++ l.bytes ∷ []) ∷ []) Refuses (inl tt, tt) tt
rows (after_keyword ps) l = row_keyword (after_keyword ps) l l.kind (keyword_parameter ps ∷ []) (head_takes ps l) (inl tt, tt) (row_head (after_keyword ps) l ps)
rows (after_pattern ps) l = row_head (after_pattern ps) l ps
rows (optional_temporaries ps) l = row_sign (optional_temporaries ps) l l.kind (is_word bar l) (temporaries ps [] false ∷ []) (home_takes ps [] l) (inl tt, tt) (row_of_home (optional_temporaries ps) l ps [])
rows (temporaries ps ns primitive) l =
    row_declared (temporaries ps ns primitive) l l.kind (is_reserved l.bytes) (temporaries ps (ns ++ l.bytes ∷ []) primitive ∷ []) (sign_takes l.kind (is_word bar l) (after_bar primitive ps ns) Refuses) (inl tt, tt)
    (row_sign (temporaries ps ns primitive) l l.kind (is_word bar l) (after_bar primitive ps ns) Refuses (row_after_bar l primitive ps ns) tt)
rows (after_temporaries ps ns) l = row_sign (after_temporaries ps ns) l l.kind (is_word less l) (primitive_then (body ∷ home_scope ps ns ∷ [])) (home_takes ps ns l) (inl tt, (tt, (tt, (tt, (tt, tt))))) (row_of_home (after_temporaries ps ns) l ps ns)
rows primitive_word l = row_word primitive_word l l.kind (is_word primitive_bytes l)
rows primitive_number l = row_number primitive_number l l.kind (is_primitive_number l)
rows primitive_end l = row_sign primitive_end l l.kind (is_word greater l) [] Refuses tt tt
rows (home_scope ps ns) l = tt
rows (block_scope ns) l = tt
rows body l = row_body body l l.kind (is_minus l) refl
rows after_statement l = row_period after_statement l l.kind (body ∷ []) (inl tt, tt)
rows after_return l = row_period after_return l l.kind [] tt
rows expr_start l = row_expr l l.kind (is_minus l) refl
rows (after_name n) l = row_assign n l l.kind refl
rows first_message l = row_message first_message l l.kind
rows primary l = row_primary primary l l.kind (is_minus l) refl
rows unary_tail l = row_name unary_tail l l.kind (unary_tail ∷ []) Pops (inl tt, tt) tt
rows binary_tail l = row_binary binary_tail l l.kind
rows keyword_tail l = row_keyword keyword_tail l l.kind (primary ∷ unary_tail ∷ binary_tail ∷ keyword_tail ∷ []) Pops (inl tt, (tt, (tt, (tt, tt)))) tt
rows cascade l = row_semicolon cascade l l.kind
rows message l = row_cascade message l l.kind
rows after_minus l = row_number after_minus l l.kind true
rows elements l = row_element elements l l.kind (is_minus l) l.joined refl
rows joined_keyword l = row_joined joined_keyword l l.kind l.joined
rows close_paren l = row_paren close_paren l l.kind
rows close_bracket l = row_bracket close_bracket l l.kind
rows block_start l = row_colon block_start l l.kind (parameter [] ∷ []) (body_takes l.kind (is_minus l) l) (inl tt, tt) (row_body block_start l l.kind (is_minus l) refl)
rows (parameter ns) l = row_declared (parameter ns) l l.kind (is_reserved l.bytes) (after_parameter (ns ++ l.bytes ∷ []) ∷ []) Refuses (inl tt, tt) tt
rows (after_parameter ns) l =
    row_colon (after_parameter ns) l l.kind (parameter ns ∷ []) (sign_takes l.kind (is_word bar l) (body ∷ block_scope ns ∷ []) Pops) (inl tt, tt)
    (row_sign (after_parameter ns) l l.kind (is_word bar l) (body ∷ block_scope ns ∷ []) Pops (inl tt, (tt, tt)) tt)
