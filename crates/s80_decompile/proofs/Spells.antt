-- The tokens of a spellable tree are spelled as their kinds.
use Rattle.std.proofs.Common.{◌≡◌, ℕ, zero, suc, pos, negsuc, ◌≤◌, inl, inr, List, [], ◌∷◌, ◌++◌, Bool, true, false, ◌==◌, codes, length, refl, ap, sym, ◌∙◌, subst, arith, rules, tests, if◌then◌else◌, decimal, drop}
use Rattle.std.specs.Fmt.{signed_decimal}
use Rattle.std.proofs.lemmas.List.{append-nil}
use Rattle.std.specs.List.{AllByRecursion, flat_map}
use Rattle.s80_base.specs.Literal.{LiteralTree, LiteralTrees, small, character, str, symbol, array, true_literal, false_literal, nil_literal, number, no_literals, literals}
use Rattle.s80_lex.specs.declared.token.TokenKind.TheVariants as kind
use Rattle.s80_lex.specs.Class.{class_of}
use Rattle.s80_lex.specs.Front.{first_class}
use Rattle.s80_lex.specs.Number.{IsLawfulNumber, behind, signed}
use Rattle.s80_lex.specs.Selector.{IsSelectorOf}
use Rattle.s80_lex.specs.Spelling.{IsBinary, IsName, IsNumber, begins_with, keyword}
use Rattle.s80_syntax.specs.Lexeme.{Lexemes}
use Rattle.s80_tree.specs.declared.name.NameAt.{NameAt}
use Rattle.s80_tree.specs.Tree.{ExprTree, PrimaryTree, ExprTrees, MessageTrees, BodyTree, MethodParts, expr, name, literal, block, paren, no_exprs, exprs, no_messages, messages, no_stmts, stmts}
use Rattle.s80_decompile.specs.Spellable.{AreDeclarable, AreNames, AreSpellableLiterals, AreSpellableMessages, AreSpellableOperands, IsSpellable, IsSpellableBody, IsSpellableCascade, IsSpellableExpr, IsSpellableLiteral, IsSpellableMessage, IsSpellableOperand, IsSpellablePrimary, count}
use Rattle.s80_decompile.specs.TreeTokens.{bar_tokens, body_tokens, caret_tokens, cascade_tokens, declared_tokens, expr_tokens, literal_tokens, literals_tokens, message_tokens, messages_tokens, method_tokens, name_tokens, number_tokens, parameter_tokens, part_token, parts_tokens, pattern_tokens, period_tokens, primary_tokens, primitive_tokens, sign, target_tokens, temporary_tokens, token}
use Rattle.s80_decompile.proofs.Lexing.{AreSpelled, IsOpenNext}
use Rattle.s80_decompile.proofs.Numerals.{number_begins}
use Rattle.s80_decompile.proofs.Selecting.{behind_first, binary_part, keyword_part}
use Rattle.s80_decompile.proofs.Values.{decimal_lawful, decimal_number, meant_bytes}

-- ---- literals

no_minus_first : (b : ℕ) → class_of b ≡ class_of 48 → (b == 45) ≡ false
no_minus_first b e = search (rules, tests)

no_minus : (w : List ℕ) → first_class w ≡ class_of 48 → begins_with 45 w ≡ false
no_minus [] e = absurd (cc)
no_minus (b ∷ w) e = no_minus_first b e

number_no_minus : (w : List ℕ) → IsNumber w → begins_with 45 w ≡ false
number_no_minus w h = no_minus w (ap first_class (sym (append-nil w)) ∙ number_begins w [] h)

-- the tokens of a number
pub number_tokens_are : (w : List ℕ) (more : Lexemes) → IsNumber w → number_tokens w more ≡ token kind.Number w ∷ more
number_tokens_are w more h = ap (λ t. if t then (sign ∷ token kind.Number (drop 1 w) ∷ more) else (token kind.Number w ∷ more)) (number_no_minus w h)

number_spelled : (negative : Bool) (w : List ℕ) (more : Lexemes) → IsNumber w → IsLawfulNumber w → AreSpelled more → AreSpelled (number_tokens (signed negative w) more)
number_spelled true w more h k m = (refl, (refl, refl), (refl, (h, k), m))
number_spelled false w more h k m = subst AreSpelled (sym (number_tokens_are w more h)) (refl, (h, k), m)

number_open : (bytes : List ℕ) (more : Lexemes) → IsOpenNext (number_tokens bytes more)
number_open bytes more = by_sign (begins_with 45 bytes)
  where
    by_sign : (t : Bool) → IsOpenNext (if t then (sign ∷ token kind.Number (drop 1 bytes) ∷ more) else (token kind.Number bytes ∷ more))
    by_sign true = refl
    by_sign false = refl

mutual
  literal_spelled : (inner : Bool) (v : LiteralTree) (more : Lexemes) → IsSpellableLiteral inner v → AreSpelled more → AreSpelled (literal_tokens v more)
  literal_spelled inner (small (pos n)) more h m = number_spelled false (decimal n) more (decimal_number n (omega arith)) (decimal_lawful n (omega arith)) m
  literal_spelled inner (small (negsuc n)) more h m = number_spelled true (decimal (suc n)) more (decimal_number (suc n) (omega arith)) (decimal_lawful (suc n) (omega arith)) m
  literal_spelled inner (character b) more h m = (refl, (b, refl), m)
  literal_spelled inner (str text) more h m = (refl, (text, refl), m)
  literal_spelled inner (symbol s) more h m = (refl, (s, refl, h), m)
  literal_spelled inner (array vs) more h m = (refl, refl, literals_spelled vs (token kind.CloseParen (codes ")") ∷ more) h (refl, refl, m))
  literal_spelled inner true_literal more h m = (refl, (search rules), m)
  literal_spelled inner false_literal more h m = (refl, (search rules), m)
  literal_spelled inner nil_literal more h m = (refl, (search rules), m)
  literal_spelled inner (number k bytes) more (negative, w, n, l, e) m =
      subst (λ b. AreSpelled (number_tokens b more)) (sym (meant_bytes negative k bytes w e)) (number_spelled negative w more n l m)

  literals_spelled : (vs : LiteralTrees) (more : Lexemes) → AreSpellableLiterals vs → AreSpelled more → AreSpelled (literals_tokens vs more)
  literals_spelled no_literals more h m = m
  literals_spelled (literals v vs) more h m = literal_spelled true v (literals_tokens vs more) h.0 (literals_spelled vs more h.1 m)

literal_open : (v : LiteralTree) (more : Lexemes) → IsOpenNext (literal_tokens v more)
literal_open (small n) more = number_open (signed_decimal n) more
literal_open (character b) more = refl
literal_open (str text) more = refl
literal_open (symbol s) more = refl
literal_open (array vs) more = refl
literal_open true_literal more = refl
literal_open false_literal more = refl
literal_open nil_literal more = refl
literal_open (number k bytes) more = number_open bytes more

-- ---- names

targets_spelled : (ns : List NameAt) (more : Lexemes) → AreNames ns → AreSpelled more → AreSpelled (target_tokens ns more)
targets_spelled [] more h m = m
targets_spelled (n ∷ ns) more h m = (refl, h.0, (refl, refl, targets_spelled ns more h.1 m))

names_spelled : (ns : List NameAt) (more : Lexemes) → AreDeclarable ns → AreSpelled more → AreSpelled (name_tokens ns more)
names_spelled [] more h m = m
names_spelled (n ∷ ns) more h m = (refl, h.0.0, names_spelled ns more h.1 m)

parameters_spelled : (ns : List NameAt) (more : Lexemes) → AreDeclarable ns → AreSpelled more → AreSpelled (parameter_tokens ns more)
parameters_spelled [] more h m = m
parameters_spelled (n ∷ ns) more h m = (refl, (refl, refl), (refl, h.0.0, parameters_spelled ns more h.1 m))

bar_spelled : (ps : List NameAt) (ss : BodyTree) (more : Lexemes) → AreSpelled more → AreSpelled (bar_tokens ps ss more)
bar_spelled [] ss more m = m
bar_spelled (n ∷ ns) no_stmts more m = m
bar_spelled (n ∷ ns) (stmts r e ss) more m = (refl, tt, m)

caret_spelled : (r : Bool) (more : Lexemes) → AreSpelled more → AreSpelled (caret_tokens r more)
caret_spelled true more m = (refl, refl, m)
caret_spelled false more m = m

-- ---- expressions

primary_open : (p : PrimaryTree) (more : Lexemes) → IsOpenNext (primary_tokens p more)
primary_open (name n) more = refl
primary_open (literal v) more = literal_open v more
primary_open (paren e) more = refl
primary_open (block ps ss) more = refl

expr_open : (e : ExprTree) (more : Lexemes) → IsOpenNext (expr_tokens e more)
expr_open (expr [] p ms cs) more = primary_open p (messages_tokens ms (cascade_tokens cs more))
expr_open (expr (n ∷ ns) p ms cs) more = refl

body_open : (r : Bool) (e : ExprTree) (more : Lexemes) → IsOpenNext (caret_tokens r (expr_tokens e more))
body_open true e more = refl
body_open false e more = expr_open e more

period_spelled : (ss : BodyTree) (more : Lexemes) → AreSpelled (body_tokens ss more) → AreSpelled (period_tokens ss (body_tokens ss more))
period_spelled no_stmts more m = m
period_spelled (stmts r e ss) more m = (refl, (refl, body_open r e (period_tokens ss (body_tokens ss more))), m)

-- a keyword with what follows it
part_spelled : (n rest : List ℕ) (more : Lexemes) → IsName n → AreSpelled more → AreSpelled (part_token (keyword n ++ rest) ∷ more)
part_spelled n rest more h m = subst (λ t. AreSpelled (t ∷ more)) (sym (keyword_part n rest h)) (refl, (n, h, refl), m)

abbrev SpellsParts : ExprTrees → Type 0
SpellsParts es = (names : List (List ℕ)) (more : Lexemes) → AllByRecursion IsName names → count es ≡ length names → AreSpelled more → AreSpelled (parts_tokens es (flat_map keyword names) more)

keywords_spelled : (e : ExprTree) (es : ExprTrees) (s : List ℕ) (names : List (List ℕ)) (more : Lexemes) → AllByRecursion IsName names → s ≡ flat_map keyword names → suc (count es) ≡ length names
    → ((more : Lexemes) → AreSpelled more → AreSpelled (expr_tokens e more)) → SpellsParts es → AreSpelled more → AreSpelled (part_token s ∷ expr_tokens e (parts_tokens es (behind 58 s) more))
keywords_spelled e es s [] more named is counted one others m = absurd (omega (arith, counted))
keywords_spelled e es s (n ∷ ns) more named is counted one others m =
    let P : List ℕ → Type 0 = λ w. AreSpelled (part_token w ∷ expr_tokens e (parts_tokens es (behind 58 w) more)) in
    let rest : List ℕ = flat_map keyword ns in
    subst P (sym is) (part_spelled n rest (expr_tokens e (parts_tokens es (behind 58 (keyword n ++ rest)) more)) named.0
    (subst (λ w. AreSpelled (expr_tokens e (parts_tokens es w more))) (sym (behind_first n rest named.0))
    (one (parts_tokens es rest more) (others ns more named.1 (let e : count es ≡ length ns = omega (arith, counted) in e) m))))

binary_spelled : (e : ExprTree) (s : List ℕ) (more : Lexemes) → IsBinary s → AreSpelled (expr_tokens e more) → AreSpelled (part_token s ∷ expr_tokens e more)
binary_spelled e s more h m = subst (λ t. AreSpelled (t ∷ expr_tokens e more)) (sym (binary_part s h)) (refl, h, m)

mutual
  expr_spelled : (e : ExprTree) (more : Lexemes) → IsSpellableExpr e → AreSpelled more → AreSpelled (expr_tokens e more)
  expr_spelled (expr ns p ms cs) more (a, b, c, d, f) m =
      targets_spelled ns (primary_tokens p (messages_tokens ms (cascade_tokens cs more))) a
      (primary_spelled p (messages_tokens ms (cascade_tokens cs more)) b (messages_spelled ms 0 2 (cascade_tokens cs more) c (cascade_spelled cs more f m)))

  primary_spelled : (p : PrimaryTree) (more : Lexemes) → IsSpellablePrimary p → AreSpelled more → AreSpelled (primary_tokens p more)
  primary_spelled (name n) more h m = (refl, h, m)
  primary_spelled (literal v) more h m = literal_spelled false v more h m
  primary_spelled (paren e) more h m = (refl, refl, expr_spelled e (token kind.CloseParen (codes ")") ∷ more) h (refl, refl, m))
  primary_spelled (block ps ss) more h m = (
    refl,
    refl,
    parameters_spelled ps (bar_tokens ps ss (body_tokens ss (token kind.CloseBracket (codes "]") ∷ more))) h.0
        (bar_spelled ps ss (body_tokens ss (token kind.CloseBracket (codes "]") ∷ more)) (body_spelled ss (token kind.CloseBracket (codes "]") ∷ more) h.1 (refl, refl, m))),
  )

  operand_spelled : (e : ExprTree) (high : ℕ) (more : Lexemes) → IsSpellableOperand e high → AreSpelled more → AreSpelled (expr_tokens e more)
  operand_spelled (expr ns p ms (messages s es cs)) high more (a, b, c, d) m = absurd b
  operand_spelled (expr ns p ms no_messages) high more (a, b, c, d) m =
      subst (λ l. AreSpelled (target_tokens l (primary_tokens p (messages_tokens ms more)))) (sym a) (primary_spelled p (messages_tokens ms more) c (messages_spelled ms 0 high more d m))

  messages_spelled : (ms : MessageTrees) (low high : ℕ) (more : Lexemes) → AreSpellableMessages ms low high → AreSpelled more → AreSpelled (messages_tokens ms more)
  messages_spelled no_messages low high more h m = m
  messages_spelled (messages s es ms) low high more (next, h, k) m = message_spelled es s low high next (messages_tokens ms more) h (messages_spelled ms next high more k m)

  message_spelled : (es : ExprTrees) (s : List ℕ) (low high next : ℕ) (more : Lexemes) → IsSpellableMessage es s low high next → AreSpelled more → AreSpelled (message_tokens es s more)
  message_spelled no_exprs s low high next more h m = (refl, h.0, m)
  message_spelled (exprs e no_exprs) s low high next more (inl h) m = binary_spelled e s more h.0 (operand_spelled e 0 more h.4 m)
  message_spelled (exprs e (exprs f es)) s low high next more (inl h) m = absurd h.5
  message_spelled (exprs e es) s low high next more (inr h) m =
      keywords_spelled e es s h.0.names more h.0.named h.0.spelled h.0.counted (λ after k. operand_spelled e 1 after h.4 k) (λ names after n c k. parts_spelled es names after n c h.5 k) m

  parts_spelled : (es : ExprTrees) (names : List (List ℕ)) (more : Lexemes) → AllByRecursion IsName names → count es ≡ length names → AreSpellableOperands es 1 → AreSpelled more → AreSpelled (parts_tokens es (flat_map keyword names) more)
  parts_spelled no_exprs names more named counted h m = m
  parts_spelled (exprs e es) names more named counted h m =
      keywords_spelled e es (flat_map keyword names) names more named refl counted (λ after k. operand_spelled e 1 after h.0 k) (λ others after n c k. parts_spelled es others after n c h.1 k) m

  cascade_spelled : (ms : MessageTrees) (more : Lexemes) → IsSpellableCascade ms → AreSpelled more → AreSpelled (cascade_tokens ms more)
  cascade_spelled no_messages more h m = m
  cascade_spelled (messages s es ms) more (next, h, k) m = (refl, refl, message_spelled es s 0 2 next (cascade_tokens ms more) h (cascade_spelled ms more k m))

  body_spelled : (ss : BodyTree) (more : Lexemes) → IsSpellableBody ss → AreSpelled more → AreSpelled (body_tokens ss more)
  body_spelled no_stmts more h m = m
  body_spelled (stmts r e ss) more (h, i, k) m =
      caret_spelled r (expr_tokens e (period_tokens ss (body_tokens ss more))) (expr_spelled e (period_tokens ss (body_tokens ss more)) h (period_spelled ss more (body_spelled ss more k m)))

-- ---- methods

primitive_spelled : (n : ℕ) (more : Lexemes) → n ≤ 255 → AreSpelled more → AreSpelled (primitive_tokens n more)
primitive_spelled zero more h m = m
primitive_spelled (suc n) more h m =
    (refl, tt, (refl, (codes "primitive", search rules, refl), (refl, (decimal_number (suc n) (omega arith), decimal_lawful (suc n) (omega arith)), (refl, tt, m))))

temporaries_spelled : (ns : List NameAt) (more : Lexemes) → AreDeclarable ns → AreSpelled more → AreSpelled (temporary_tokens ns more)
temporaries_spelled [] more h m = m
temporaries_spelled (n ∷ ns) more h m = (refl, tt, names_spelled (n ∷ ns) (token kind.Binary (codes "|") ∷ more) h (refl, tt, m))

declared_spelled : (ns : List NameAt) (names : List (List ℕ)) (more : Lexemes) → AllByRecursion IsName names → length ns ≡ length names → AreDeclarable ns → AreSpelled more → AreSpelled (declared_tokens ns (flat_map keyword names) more)
declared_spelled [] names more named counted h m = m
declared_spelled (n ∷ ns) [] more named counted h m = absurd (omega (arith, counted))
declared_spelled (n ∷ ns) (w ∷ ws) more named counted h m =
    let rest : List ℕ = flat_map keyword ws in
    part_spelled w rest (token kind.Name n.name ∷ declared_tokens ns (behind 58 (keyword w ++ rest)) more) named.0
    (refl, h.0.0, subst (λ l. AreSpelled (declared_tokens ns l more)) (sym (behind_first w rest named.0)) (declared_spelled ns ws more named.1 (let e : length ns ≡ length ws = omega (arith, counted) in e) h.1 m))

pattern_spelled : (ns : List NameAt) (s : List ℕ) (more : Lexemes) → IsSelectorOf (length ns) s → AreDeclarable ns → AreSpelled more → AreSpelled (pattern_tokens ns s more)
pattern_spelled [] s more (inl h) k m = (refl, h.0, m)
pattern_spelled [] s more (inr (inl h)) k m = absurd (omega (arith, h.1))
pattern_spelled [] s more (inr (inr h)) k m = absurd (h.some (none h.names h.counted))
  where
    none : (names : List (List ℕ)) → 0 ≡ length names → names ≡ []
    none [] e = refl
    none (n ∷ names) e = absurd (omega (arith, e))
pattern_spelled (n ∷ ns) s more (inl h) k m = absurd (omega (arith, h.1))
pattern_spelled (n ∷ []) s more (inr (inl h)) k m = subst (λ t. AreSpelled (t ∷ token kind.Name n.name ∷ more)) (sym (binary_part s h.0)) (refl, h.0, (refl, k.0.0, m))
pattern_spelled (n ∷ p ∷ ns) s more (inr (inl h)) k m = absurd (omega (arith, h.1))
pattern_spelled (n ∷ ns) s more (inr (inr h)) k m =
    subst (λ w. AreSpelled (declared_tokens (n ∷ ns) w more)) (sym h.spelled) (declared_spelled (n ∷ ns) h.names more h.named h.counted k m)

pub method_spelled : (m : MethodParts) → IsSpellable m → AreSpelled (method_tokens m)
method_spelled m h =
    pattern_spelled m.parameters m.selector (primitive_tokens m.primitive (temporary_tokens m.temporaries (body_tokens m.body []))) h.selector h.parameters
    (primitive_spelled m.primitive (temporary_tokens m.temporaries (body_tokens m.body [])) h.primitive
    (temporaries_spelled m.temporaries (body_tokens m.body []) h.temporaries (body_spelled m.body [] h.body tt)))
