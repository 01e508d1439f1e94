-- Messages that are control have as many arms as they want.
use Rattle.std.proofs.Common.{◌≡◌, ℕ, ◌≤◌, List, Bool, true, false, Some, None, bytes_eq, codes, inl, inr, refl, sym, ◌∙◌, subst, if◌then◌else◌, arith}
use Rattle.std.specs.Cmp.Lexicographic.{bytes_decides}
use Rattle.s80_code.proofs.lemmas.TableLemmas.{value}
use Rattle.s80_tree.specs.Tree.{ExprTree, PrimaryTree, ExprTrees, MessageTrees, BodyTree, MethodParts, expr, name, literal, block, paren, no_exprs, exprs, no_messages, messages, no_stmts, stmts, is_super}
use Rattle.s80_lex.specs.Selector.{IsSelectorOf, keywords_of}
use Rattle.s80_lex.proofs.lemmas.SelectorLemmas.{keywords_when, name_is_none, binary_is_none}
use Rattle.s80_scope.specs.Inlined.{ending, chain_ending, message_ending, with_arms, loop_or_branch, branch, are_arms, is_plain_block}
use Rattle.s80_scope.specs.declared.fit.ending.Ending.{Ending}
use Rattle.s80_scope.specs.declared.fit.ending.Ending.TheVariants.{Sent, Cascaded, TwoArms, OneArm, Shortcut, Loop}
use Rattle.s80_core.specs.Arms.{arguments_of, arms_wanted, LastHasArms, ExprHasArms, PrimaryHasArms, ExprsHaveArms, MessagesHaveArms, BodyHasArms, HaveArms}
use Rattle.s80_compile.specs.Sent.{ExprIsWellSent, PrimaryIsWellSent, ExprsAreWellSent, MessagesAreWellSent, BodyIsWellSent, AreWellSent}

-- a selector of so many keywords
keywords_are : (word : List ℕ) (k n : ℕ) → keywords_of word ≡ Some k → IsSelectorOf n word → n ≡ k
keywords_are word k n e (inl (p, z)) = let f : None ≡ Some k = sym (name_is_none word p) ∙ e in cc
keywords_are word k n e (inr (inl (p, z))) = let f : None ≡ Some k = sym (binary_is_none word p) ∙ e in cc
keywords_are word k n e (inr (inr p)) = value (sym (keywords_when n word p) ∙ e)

-- one word of a table of endings
one_word : (s word : List ℕ) (k n : ℕ) (e other : Ending) → keywords_of word ≡ Some k → arms_wanted e ≤ k → IsSelectorOf n s → arms_wanted other ≤ n
    → arms_wanted (if bytes_eq s word then e else other) ≤ n
one_word s word k n e other counted few h more = by_test (bytes_eq s word) refl
  where
    by_test : (b : Bool) → bytes_eq s word ≡ b → arms_wanted (if b then e else other) ≤ n
    by_test true is =
        let same : s ≡ word = (bytes_decides s word).0 is in
        let number : n ≡ k = keywords_are word k n counted (subst (λ (w : List ℕ). IsSelectorOf n w) same h) in
        subst (λ (j : ℕ). arms_wanted e ≤ j) (sym number) few
    by_test false is = more

branch_has : (s : List ℕ) (n : ℕ) → IsSelectorOf n s → arms_wanted (branch s) ≤ n
branch_has s n h =
    one_word s (codes "ifTrue:ifFalse:") 2 n (TwoArms true) _ refl (omega arith) h
    (one_word s (codes "ifFalse:ifTrue:") 2 n (TwoArms false) _ refl (omega arith) h
    (one_word s (codes "ifTrue:") 1 n (OneArm true) _ refl (omega arith) h
    (one_word s (codes "ifFalse:") 1 n (OneArm false) _ refl (omega arith) h
    (one_word s (codes "and:") 1 n (Shortcut true) _ refl (omega arith) h
    (one_word s (codes "or:") 1 n (Shortcut false) Sent refl (omega arith) h (omega arith))))))

loop_has : (s : List ℕ) (n : ℕ) → IsSelectorOf n s → arms_wanted (loop_or_branch s) ≤ n
loop_has s n h =
    one_word s (codes "whileTrue:") 1 n (Loop true) _ refl (omega arith) h
    (one_word s (codes "whileFalse:") 1 n (Loop false) (branch s) refl (omega arith) h (branch_has s n h))

message_has : (to_super condition : Bool) (s : List ℕ) (es : ExprTrees) → IsSelectorOf (arguments_of es) s → arms_wanted (message_ending to_super condition s es) ≤ arguments_of es
message_has to_super condition s es h = by_arms (are_arms es) to_super condition
  where
    by_arms : (b c d : Bool) → arms_wanted (if b then with_arms c d s else Sent) ≤ arguments_of es
    by_arms false c d = omega arith
    by_arms true true d = omega arith
    by_arms true false true = loop_has s (arguments_of es) h
    by_arms true false false = branch_has s (arguments_of es) h

last_has : (to_super condition : Bool) (ms : MessageTrees) → MessagesAreWellSent ms → LastHasArms (chain_ending to_super condition ms) ms
last_has to_super condition no_messages h = tt
last_has to_super condition (messages s es no_messages) h = message_has to_super condition s es h.0.1
last_has to_super condition (messages s es (messages s' es' ms)) h = last_has false false (messages s' es' ms) h.1

cascade_has : (ms : MessageTrees) → LastHasArms Cascaded ms
cascade_has no_messages = tt
cascade_has (messages s es no_messages) = omega arith
cascade_has (messages s es (messages s' es' ms)) = cascade_has (messages s' es' ms)

ending_has : (p : PrimaryTree) (ms cs : MessageTrees) → MessagesAreWellSent ms → LastHasArms (ending p ms cs) ms
ending_has p ms no_messages h = last_has (is_super p) (is_plain_block p) ms h
ending_has p ms (messages s es cs) h = cascade_has ms

mutual
  expr_has : (e : ExprTree) → ExprIsWellSent e → ExprHasArms e
  expr_has (expr targets p ms cs) h = (ending_has p ms cs h.1.0, (primary_has p h.0, (messages_have ms h.1.0, messages_have cs h.1.1)))

  primary_has : (p : PrimaryTree) → PrimaryIsWellSent p → PrimaryHasArms p
  primary_has (name n) h = tt
  primary_has (literal v) h = tt
  primary_has (block ps ss) h = body_has ss h
  primary_has (paren e) h = expr_has e h

  exprs_have : (es : ExprTrees) → ExprsAreWellSent es → ExprsHaveArms es
  exprs_have no_exprs h = tt
  exprs_have (exprs e es) h = (expr_has e h.0, exprs_have es h.1)

  messages_have : (ms : MessageTrees) → MessagesAreWellSent ms → MessagesHaveArms ms
  messages_have no_messages h = tt
  messages_have (messages s es ms) h = (exprs_have es h.0.0, messages_have ms h.1)

  body_has : (ss : BodyTree) → BodyIsWellSent ss → BodyHasArms ss
  body_has no_stmts h = tt
  body_has (stmts r e ss) h = (expr_has e h.0, body_has ss h.1)

pub arms_had : (m : MethodParts) → AreWellSent m → HaveArms m
arms_had m h = body_has m.body h
