-- In the tree of a text no reserved word is assigned.
use Rattle.std.proofs.Common.{◌≡◌, ℕ, suc, List, [], ◌∷◌, Bool, true, false, ◌||◌, ◌&&◌, not, inl, inr, refl, sym, subst, bytes_eq, true≢false}
use Rattle.std.specs.Cmp.Lexicographic.{bytes_decides}
use Rattle.s80_tree.specs.declared.name.NameAt.{NameAt}
use Rattle.s80_tree.specs.Tree.{ExprTree, PrimaryTree, ExprTrees, MessageTrees, BodyTree, MethodParts, DoItParts, expr, name, literal, block, paren, no_exprs, exprs, no_messages, messages, no_stmts, stmts}
use Rattle.s80_syntax.specs.Lexeme.{Lexemes, lexemes}
use Rattle.s80_syntax.specs.Word.{Names, names_in, has_name, is_reserved}
use Rattle.s80_syntax.specs.Grammar.{AreParameters, IsNone, IsEmpty, IsExpr, IsPrimary, IsOperand, IsChain, IsMessage, AreParts, IsCascade, IsBody, IsMethod, IsDoIt}
use Rattle.s80_syntax.specs.Limits.{home_assigns, block_assigns, AreAssignable, IsLawfulExpr, IsLawfulPrimary, AreLawfulExprs, AreLawfulMessages, IsLawfulBody, IsLawfulMethod, IsLawfulDoIt}
use Rattle.s80_syntax.specs.Text.{IsMethodOf, IsDoItOf}

abbrev pub AreFree : List NameAt → Type 0
AreFree [] = Unit {0}
AreFree (n ∷ ns) = (is_reserved n.name ≡ false) × AreFree ns

-- the names that are assigned in a part
abbrev mutual
  pub ExprIsFree : ExprTree → Type 0
  ExprIsFree (expr targets p ms cs) = AreFree targets × (PrimaryIsFree p × (MessagesAreFree ms × MessagesAreFree cs))

  pub PrimaryIsFree : PrimaryTree → Type 0
  PrimaryIsFree (name n) = Unit {0}
  PrimaryIsFree (literal v) = Unit {0}
  PrimaryIsFree (block ps ss) = BodyIsFree ss
  PrimaryIsFree (paren e) = ExprIsFree e

  pub ExprsAreFree : ExprTrees → Type 0
  ExprsAreFree no_exprs = Unit {0}
  ExprsAreFree (exprs e es) = ExprIsFree e × ExprsAreFree es

  pub MessagesAreFree : MessageTrees → Type 0
  MessagesAreFree no_messages = Unit {0}
  MessagesAreFree (messages s es ms) = ExprsAreFree es × MessagesAreFree ms

  pub BodyIsFree : BodyTree → Type 0
  BodyIsFree no_stmts = Unit {0}
  BodyIsFree (stmts r e ss) = ExprIsFree e × BodyIsFree ss

-- ---- what may be assigned

-- nothing but what isn't reserved
abbrev IsGuarded : (List ℕ → Bool) → Type 0
IsGuarded assigns = (word : List ℕ) → assigns word ≡ true → is_reserved word ≡ false

parameters_free : (ns : List NameAt) (ts rest : Lexemes) → AreParameters ns ts rest → AreFree ns
parameters_free [] ts rest is = tt
parameters_free (n ∷ ns) ts rest (mid, after, colon, one, more) = (one.1, parameters_free ns after rest more)

named_free : (ns : List NameAt) (word : List ℕ) → AreFree ns → has_name (names_in ns) word ≡ true → is_reserved word ≡ false
named_free [] word h e = absurd (true≢false (sym e))
named_free (n ∷ ns) word h e = by_test (bytes_eq word n.name) refl (named_free ns word h.1) e
  where
    by_test : (b : Bool) → bytes_eq word n.name ≡ b → (has_name (names_in ns) word ≡ true → is_reserved word ≡ false) → (b || has_name (names_in ns) word) ≡ true → is_reserved word ≡ false
    by_test true is more f = subst (λ (w : List ℕ). is_reserved w ≡ false) (sym ((bytes_decides word n.name).0 is)) h.0
    by_test false is more f = more f

block_guarded : (ns : List NameAt) (assigns : List ℕ → Bool) → AreFree ns → IsGuarded assigns → IsGuarded (block_assigns (names_in ns) assigns)
block_guarded ns assigns h guarded word e = by_test (has_name (names_in ns) word) refl e
  where
    by_test : (b : Bool) → has_name (names_in ns) word ≡ b → (b || assigns word) ≡ true → is_reserved word ≡ false
    by_test true is f = named_free ns word h is
    by_test false is f = guarded word f

home_guarded : (parameters temporaries : Names) → IsGuarded (home_assigns parameters temporaries)
home_guarded parameters temporaries word e = by_tests (not (has_name parameters word) || has_name temporaries word) (is_reserved word) e
  where
    by_tests : (a b : Bool) → (a && not b) ≡ true → b ≡ false
    by_tests a false f = refl
    by_tests true true f = sym f
    by_tests false true f = sym f

targets_free : (ns : List NameAt) (assigns : List ℕ → Bool) → IsGuarded assigns → AreAssignable true assigns ns → AreFree ns
targets_free [] assigns guarded h = tt
targets_free (n ∷ ns) assigns guarded h = (guarded n.name h.0, targets_free ns assigns guarded h.1)

-- ---- expressions

none_free : (ms : MessageTrees) → IsNone ms → MessagesAreFree ms
none_free no_messages h = tt
none_free (messages s es ms) h = absurd h

empty_free : (es : ExprTrees) → IsEmpty es → ExprsAreFree es
empty_free no_exprs h = tt
empty_free (exprs e es) h = absurd h

mutual
  expr_free : (e : ExprTree) (ts rest : Lexemes) (depth : ℕ) (assigns : List ℕ → Bool) → IsGuarded assigns → IsExpr e ts rest → IsLawfulExpr true depth assigns e → ExprIsFree e
  expr_free (expr ns p ms cs) ts rest depth assigns guarded (a, b, c, assigned, primary, chain, behind, cascade) (targets, within, sent, more) = (
    targets_free ns assigns guarded targets,
    (primary_free p a b depth assigns guarded primary within, (chain_free ms 0 2 b c depth assigns guarded chain sent, cascade_free cs c rest depth assigns guarded cascade more)),
  )

  primary_free : (p : PrimaryTree) (ts rest : Lexemes) (depth : ℕ) (assigns : List ℕ → Bool) → IsGuarded assigns → IsPrimary p ts rest → IsLawfulPrimary true depth assigns p → PrimaryIsFree p
  primary_free (name n) ts rest depth assigns guarded h law = tt
  primary_free (literal v) ts rest depth assigns guarded h law = tt
  primary_free (paren e) ts rest depth assigns guarded (a, b, opening, inner, closing) law = expr_free e a b (suc depth) assigns guarded inner law.1
  primary_free (block ps ss) ts rest depth assigns guarded (a, b, c, d, opening, names, bar, body, closing) law =
      body_free ss c d (suc depth) (block_assigns (names_in ps) assigns) (block_guarded ps assigns (parameters_free ps a b names) guarded) body law.1

  operand_free : (e : ExprTree) (high : ℕ) (ts rest : Lexemes) (depth : ℕ) (assigns : List ℕ → Bool) → IsGuarded assigns → IsOperand e high ts rest → IsLawfulExpr true depth assigns e → ExprIsFree e
  operand_free (expr ns p ms cs) high ts rest depth assigns guarded (a, none, last, primary, chain) (targets, within, sent, more) = (
    targets_free ns assigns guarded targets,
    (primary_free p ts a depth assigns guarded primary within, (chain_free ms 0 high a rest depth assigns guarded chain sent, none_free cs last)),
  )

  chain_free : (ms : MessageTrees) (low high : ℕ) (ts rest : Lexemes) (depth : ℕ) (assigns : List ℕ → Bool) → IsGuarded assigns → IsChain ms low high ts rest → AreLawfulMessages true depth assigns ms → MessagesAreFree ms
  chain_free no_messages low high ts rest depth assigns guarded is law = tt
  chain_free (messages word es ms) low high ts rest depth assigns guarded (a, next, one, more) law =
      (message_free es word low high next ts a depth assigns guarded one law.0, chain_free ms next high a rest depth assigns guarded more law.1)

  message_free : (es : ExprTrees) (word : List ℕ) (low high next : ℕ) (ts rest : Lexemes) (depth : ℕ) (assigns : List ℕ → Bool) → IsGuarded assigns → IsMessage es word low high next ts rest
      → AreLawfulExprs true depth assigns es → ExprsAreFree es
  message_free no_exprs word low high next ts rest depth assigns guarded h law = tt
  message_free (exprs e es) word low high next ts rest depth assigns guarded (inl (l, a, t, is, first, last, after, operand, only)) law =
      (operand_free e 0 a rest depth assigns guarded operand law.0, empty_free es only)
  message_free (exprs e es) word low high next ts rest depth assigns guarded (inr (l, a, b, word', t, is, first, last, after, operand, parts)) law =
      (operand_free e 1 a b depth assigns guarded operand law.0, parts_free es word' b rest depth assigns guarded parts law.1)

  parts_free : (es : ExprTrees) (word : List ℕ) (ts rest : Lexemes) (depth : ℕ) (assigns : List ℕ → Bool) → IsGuarded assigns → AreParts es word ts rest → AreLawfulExprs true depth assigns es → ExprsAreFree es
  parts_free no_exprs word ts rest depth assigns guarded h law = tt
  parts_free (exprs e es) word ts rest depth assigns guarded (l, a, b, word', t, is, operand, parts) law =
      (operand_free e 1 a b depth assigns guarded operand law.0, parts_free es word' b rest depth assigns guarded parts law.1)

  cascade_free : (cs : MessageTrees) (ts rest : Lexemes) (depth : ℕ) (assigns : List ℕ → Bool) → IsGuarded assigns → IsCascade cs ts rest → AreLawfulMessages true depth assigns cs → MessagesAreFree cs
  cascade_free no_messages ts rest depth assigns guarded is law = tt
  cascade_free (messages word es ms) ts rest depth assigns guarded (a, b, next, semicolon, one, more) law =
      (message_free es word 0 2 next a b depth assigns guarded one law.0, cascade_free ms b rest depth assigns guarded more law.1)

  body_free : (ss : BodyTree) (ts rest : Lexemes) (depth : ℕ) (assigns : List ℕ → Bool) → IsGuarded assigns → IsBody ss ts rest → IsLawfulBody true depth assigns ss → BodyIsFree ss
  body_free no_stmts ts rest depth assigns guarded is law = tt
  body_free (stmts q e ss) ts rest depth assigns guarded (a, b, c, returns, one, period, more) law =
      (expr_free e a b depth assigns guarded one law.0, body_free ss c rest depth assigns guarded more law.1)

-- ---- whole texts

method_body : (m : MethodParts) (ts : Lexemes) → IsMethod m ts → IsLawfulMethod true m → BodyIsFree m.body
method_body m ts (a, b, pattern, head, body) law =
    body_free m.body b [] 0 (home_assigns (names_in m.parameters) (names_in m.temporaries)) (home_guarded (names_in m.parameters) (names_in m.temporaries)) body law

doit_body : (d : DoItParts) (ts : Lexemes) → IsDoIt d ts → IsLawfulDoIt true d → BodyIsFree d.body
doit_body d ts (a, names, body) law = body_free d.body a [] 0 (home_assigns [] (names_in d.temporaries)) (home_guarded [] (names_in d.temporaries)) body law

pub method_free : (text : List ℕ) (m : MethodParts) → IsMethodOf text m → BodyIsFree m.body
method_free text m h = method_body m (lexemes text h.tokens) h.method h.lawful

pub doit_free : (text : List ℕ) (d : DoItParts) → IsDoItOf text d → BodyIsFree d.body
doit_free text d h = doit_body d (lexemes text h.tokens) h.doit h.lawful
