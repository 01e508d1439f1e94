-- The core of a tree whose messages fit their selectors has messages that do.
use Rattle.std.proofs.Common.{◌≡◌, ℕ, suc, ◌+◌, List, [], ◌∷◌, Bool, true, false, length, refl, ap, subst}
use Rattle.s80_tree.specs.declared.name.NameAt.{NameAt}
use Rattle.s80_tree.specs.Tree.{ExprTree, PrimaryTree, ExprTrees, MessageTrees, BodyTree, MethodParts, expr, name, literal, block, paren, no_exprs, exprs, no_messages, messages, no_stmts, stmts, is_super}
use Rattle.s80_lex.specs.Selector.{IsSelectorOf}
use Rattle.s80_scope.specs.declared.shape.Shape.{Shape}
use Rattle.s80_scope.specs.Shape.{WhereTree}
use Rattle.s80_scope.specs.Names.{means}
use Rattle.s80_scope.specs.Inlined.{ending, is_loop}
use Rattle.s80_scope.specs.FitStack.{expr_parameters, primary_parameters, messages_parameters, exprs_parameters}
use Rattle.s80_scope.specs.declared.fit.ending.Ending.{Ending}
use Rattle.s80_scope.specs.declared.fit.ending.Ending.TheVariants.{Sent, Cascaded, TwoArms, OneArm, Shortcut, Loop}
use Rattle.s80_core.specs.Arms.{arguments_of}
use Rattle.s80_core.specs.Core.{CoreTree, CoreTrees, SendTrees, send, no_cores, cores, count}
use Rattle.s80_core.specs.Elaborate.{assigned, first_of, second_of, last_core, expr_core, receiver_core, chain_core, sends_core, exprs_core, arms_core, arm_core, body_core, method_end, elaborated}
use Rattle.s80_core.proofs.lemmas.CoverEnds.{KeepsAtEnds, statement_kept, last_kept, empty_kept}
use Rattle.s80_compile.specs.Sent.{IsWellSent, AllWellSent, SendsWellSent, ExprIsWellSent, PrimaryIsWellSent, ExprsAreWellSent, MessagesAreWellSent, BodyIsWellSent, AreWellSent}

first_sent : (cs : CoreTrees) → AllWellSent cs → IsWellSent (first_of cs)
first_sent no_cores h = tt
first_sent (cores c cs) h = h.0

second_sent : (cs : CoreTrees) → AllWellSent cs → IsWellSent (second_of cs)
second_sent no_cores h = tt
second_sent (cores c cs) h = first_sent cs h.1

at_ends : KeepsAtEnds IsWellSent
at_ends = record { empty = tt; fixed = λ n. tt; answers = λ c h. h; leaves = λ c h. h; returns = λ c h. (h, tt) }

last_core_sent : (last : Ending) (r : CoreTree) (to_super : Bool) (s : List ℕ) (es arms : CoreTrees) (more : SendTrees) → IsWellSent r → AllWellSent es → IsSelectorOf (count es) s → AllWellSent arms → SendsWellSent more
    → IsWellSent (last_core last r to_super s es arms more)
last_core_sent Sent r to_super s es arms more hr he hs ha hm = (hr, (he, hs))
last_core_sent Cascaded r to_super s es arms more hr he hs ha hm = (hr, ((he, hs), hm))
last_core_sent (TwoArms on) r to_super s es arms more hr he hs ha hm = (hr, (first_sent arms ha, second_sent arms ha))
last_core_sent (OneArm on) r to_super s es arms more hr he hs ha hm = (hr, first_sent arms ha)
last_core_sent (Shortcut on) r to_super s es arms more hr he hs ha hm = (hr, first_sent arms ha)
last_core_sent (Loop on) r to_super s es arms more hr he hs ha hm = (hr, first_sent arms ha)

module _ (meaning : NameAt → WhereTree) where
  targets_sent : (ns : List NameAt) (c : CoreTree) → IsWellSent c → IsWellSent (assigned meaning ns c)
  targets_sent [] c h = h
  targets_sent (n ∷ ns) c h = targets_sent ns c h

  counted : (k : ℕ) (es : ExprTrees) → arguments_of es ≡ count (exprs_core meaning k es)
  counted k no_exprs = refl
  counted k (exprs e es) = ap (λ n. suc n) (counted (k + expr_parameters e) es)

  selects : (k : ℕ) (es : ExprTrees) (s : List ℕ) → IsSelectorOf (arguments_of es) s → IsSelectorOf (count (exprs_core meaning k es)) s
  selects k es s h = subst (λ (n : ℕ). IsSelectorOf n s) (counted k es) h

  mutual
    expr_sent : (k : ℕ) (e : ExprTree) → ExprIsWellSent e → IsWellSent (expr_core meaning k e)
    expr_sent k (expr targets p ms cs) h =
        targets_sent targets _
        (chain_sent (receiver_core meaning (is_loop (ending p ms cs)) k p) (is_super p) (ending p ms cs) (k + primary_parameters p)
        (sends_core meaning (k + primary_parameters p + messages_parameters ms) cs) ms
        (receiver_sent (is_loop (ending p ms cs)) k p h.0) (sends_sent (k + primary_parameters p + messages_parameters ms) cs h.1.1) h.1.0)

    receiver_sent : (looped : Bool) (k : ℕ) (p : PrimaryTree) → PrimaryIsWellSent p → IsWellSent (receiver_core meaning looped k p)
    receiver_sent looped k (name n) h = tt
    receiver_sent looped k (literal v) h = tt
    receiver_sent looped k (paren e) h = expr_sent k e h
    receiver_sent true k (block ps ss) h = body_sent _ k ss h
    receiver_sent false k (block ps ss) h = body_sent _ (k + length ps) ss h

    chain_sent : (r : CoreTree) (to_super : Bool) (last : Ending) (k : ℕ) (more : SendTrees) (ms : MessageTrees) → IsWellSent r → SendsWellSent more → MessagesAreWellSent ms
        → IsWellSent (chain_core meaning r to_super last k more ms)
    chain_sent r to_super last k more no_messages hr hm h = hr
    chain_sent r to_super last k more (messages s es no_messages) hr hm h =
        last_core_sent last r to_super s (exprs_core meaning k es) (arms_core meaning k es) more hr (exprs_sent k es h.0.0) (selects k es s h.0.1) (arms_sent k es h.0.0) hm
    chain_sent r to_super last k more (messages s es (messages s' es' ms)) hr hm h =
        chain_sent (send r to_super s (exprs_core meaning k es)) false last (k + exprs_parameters es) more (messages s' es' ms) (hr, (exprs_sent k es h.0.0, selects k es s h.0.1)) hm h.1

    sends_sent : (k : ℕ) (cs : MessageTrees) → MessagesAreWellSent cs → SendsWellSent (sends_core meaning k cs)
    sends_sent k no_messages h = tt
    sends_sent k (messages s es ms) h = ((exprs_sent k es h.0.0, selects k es s h.0.1), sends_sent (k + exprs_parameters es) ms h.1)

    exprs_sent : (k : ℕ) (es : ExprTrees) → ExprsAreWellSent es → AllWellSent (exprs_core meaning k es)
    exprs_sent k no_exprs h = tt
    exprs_sent k (exprs e es) h = (expr_sent k e h.0, exprs_sent (k + expr_parameters e) es h.1)

    arms_sent : (k : ℕ) (es : ExprTrees) → ExprsAreWellSent es → AllWellSent (arms_core meaning k es)
    arms_sent k no_exprs h = tt
    arms_sent k (exprs e es) h = (arm_sent k e h.0, arms_sent (k + expr_parameters e) es h.1)

    arm_sent : (k : ℕ) (e : ExprTree) → ExprIsWellSent e → IsWellSent (arm_core meaning k e)
    arm_sent k (expr targets (name n) ms cs) h = tt
    arm_sent k (expr targets (literal v) ms cs) h = tt
    arm_sent k (expr targets (paren e) ms cs) h = tt
    arm_sent k (expr targets (block ps ss) ms cs) h = body_sent _ k ss h.0

    body_sent : (within : _) (k : ℕ) (ss : BodyTree) → BodyIsWellSent ss → IsWellSent (body_core meaning within k ss)
    body_sent within k no_stmts h = empty_kept IsWellSent at_ends within
    body_sent within k (stmts returns e no_stmts) h = last_kept IsWellSent at_ends within returns e (expr_core meaning k e) (expr_sent k e h.0)
    body_sent within k (stmts returns e (stmts returns' e' ss)) h =
        (statement_kept IsWellSent at_ends returns e (expr_core meaning k e) (expr_sent k e h.0), body_sent within (k + expr_parameters e) (stmts returns' e' ss) h.1)

pub core_sent : (m : MethodParts) (shape : Shape) → AreWellSent m → IsWellSent (elaborated m shape)
core_sent m shape h = body_sent (means m shape) (method_end m.selector) (length m.parameters + length m.temporaries) m.body h
