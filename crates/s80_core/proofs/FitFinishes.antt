-- The body of a method ends itself, and so does that of each real block in it.
use Rattle.std.proofs.Common.{ℕ, ◌+◌, List, [], ◌∷◌, Bool, true, false, length, Option, Some, None}
use Rattle.std.specs.Option.{option_map_or}
use Rattle.s80_tree.specs.declared.name.NameAt.{NameAt}
use Rattle.s80_tree.specs.Tree.{ExprTree, PrimaryTree, ExprTrees, MessageTrees, BodyTree, MethodParts, expr, name, literal, block, paren, no_exprs, exprs, no_messages, messages, no_stmts, stmts, is_super}
use Rattle.s80_scope.specs.Inlined.{ending, is_loop}
use Rattle.s80_scope.specs.FitStack.{expr_parameters, primary_parameters, messages_parameters, exprs_parameters}
use Rattle.s80_scope.specs.Names.{means}
use Rattle.s80_scope.specs.Shape.{WhereTree}
use Rattle.s80_scope.specs.declared.shape.Shape.{Shape}
use Rattle.s80_scope.specs.declared.fit.ending.Ending.{Ending}
use Rattle.s80_scope.specs.declared.fit.ending.Ending.TheVariants.{Sent, Cascaded, TwoArms, OneArm, Shortcut, Loop}
use Rattle.s80_core.specs.declared.elaboration.Enclosing.{Enclosing}
use Rattle.s80_core.specs.declared.elaboration.Enclosing.TheVariants as enclosing
use Rattle.s80_core.specs.Core.{CoreTree, CoreTrees, SendTrees, send, before, answer, answer_fixed, no_cores, cores}
use Rattle.s80_core.specs.Elaborate.{assigned, first_of, second_of, last_core, fixed_return, statement, last_statement, empty_body, expr_core, receiver_core, chain_core, sends_core, exprs_core, arms_core, arm_core, body_core, method_end, elaborated}
use Rattle.s80_core.specs.Measures.{Finishes, LeavesBlocks, AllLeaveBlocks, SendsLeaveBlocks}

-- what a body is like by what it ends with
abbrev Ends : Enclosing → CoreTree → Type 0
Ends enclosing.Arm c = LeavesBlocks c
Ends enclosing.Block c = Finishes true c
Ends enclosing.Method c = Finishes false c
Ends enclosing.DoIt c = Finishes false c

returned_leaves : (o : Option ℕ) (c : CoreTree) → LeavesBlocks c → LeavesBlocks (option_map_or answer_fixed o (answer c))
returned_leaves None c h = h
returned_leaves (Some n) c h = tt

returned_finishes : (in_block : Bool) (o : Option ℕ) (c : CoreTree) → LeavesBlocks c → Finishes in_block (option_map_or answer_fixed o (answer c))
returned_finishes in_block None c h = h
returned_finishes in_block (Some n) c h = tt

statement_leaves : (r : Bool) (e : ExprTree) (c : CoreTree) → LeavesBlocks c → LeavesBlocks (statement r e c)
statement_leaves false e c h = h
statement_leaves true e c h = returned_leaves (fixed_return e) c h

last_ends : (within : Enclosing) (r : Bool) (e : ExprTree) (c : CoreTree) → LeavesBlocks c → Ends within (last_statement within r e c)
last_ends enclosing.Arm false e c h = h
last_ends enclosing.Arm true e c h = returned_leaves (fixed_return e) c h
last_ends enclosing.Block false e c h = h
last_ends enclosing.Block true e c h = returned_finishes true (fixed_return e) c h
last_ends enclosing.Method false e c h = (h, tt)
last_ends enclosing.Method true e c h = returned_finishes false (fixed_return e) c h
last_ends enclosing.DoIt false e c h = h
last_ends enclosing.DoIt true e c h = h

empty_ends : (within : Enclosing) → Ends within (empty_body within)
empty_ends enclosing.Arm = tt
empty_ends enclosing.Block = tt
empty_ends enclosing.Method = tt
empty_ends enclosing.DoIt = tt

before_ends : (within : Enclosing) (a b : CoreTree) → LeavesBlocks a → Ends within b → Ends within (before a b)
before_ends enclosing.Arm a b h g = (h, g)
before_ends enclosing.Block a b h g = (h, g)
before_ends enclosing.Method a b h g = (h, g)
before_ends enclosing.DoIt a b h g = (h, g)

first_leaves : (arms : CoreTrees) → AllLeaveBlocks arms → LeavesBlocks (first_of arms)
first_leaves no_cores h = tt
first_leaves (cores c cs) h = h.0

second_leaves : (arms : CoreTrees) → AllLeaveBlocks arms → LeavesBlocks (second_of arms)
second_leaves no_cores h = tt
second_leaves (cores c cs) h = first_leaves cs h.1

last_leaves : (last : Ending) (r : CoreTree) (to_super : Bool) (s : List ℕ) (es arms : CoreTrees) (more : SendTrees)
    → LeavesBlocks r → AllLeaveBlocks es → AllLeaveBlocks arms → SendsLeaveBlocks more → LeavesBlocks (last_core last r to_super s es arms more)
last_leaves Sent r to_super s es arms more h all taken others = (h, all)
last_leaves Cascaded r to_super s es arms more h all taken others = (h, (all, others))
last_leaves (TwoArms on) r to_super s es arms more h all taken others = (h, (first_leaves arms taken, second_leaves arms taken))
last_leaves (OneArm on) r to_super s es arms more h all taken others = (h, first_leaves arms taken)
last_leaves (Shortcut on) r to_super s es arms more h all taken others = (h, first_leaves arms taken)
last_leaves (Loop on) r to_super s es arms more h all taken others = (h, first_leaves arms taken)

module _ (meaning : NameAt → WhereTree) where
  assigned_leaves : (targets : List NameAt) (c : CoreTree) → LeavesBlocks c → LeavesBlocks (assigned meaning targets c)
  assigned_leaves [] c h = h
  assigned_leaves (n ∷ ns) c h = assigned_leaves ns c h

  mutual
    expr_leaves : (k : ℕ) (e : ExprTree) → LeavesBlocks (expr_core meaning k e)
    expr_leaves k (expr targets p ms cs) =
        assigned_leaves targets (chain_core meaning (receiver_core meaning (is_loop (ending p ms cs)) k p) (is_super p) (ending p ms cs) (k + primary_parameters p) (sends_core meaning (k + primary_parameters p + messages_parameters ms) cs) ms)
        (chain_leaves (receiver_core meaning (is_loop (ending p ms cs)) k p) (is_super p) (ending p ms cs) (k + primary_parameters p) (sends_core meaning (k + primary_parameters p + messages_parameters ms) cs) ms
        (receiver_leaves (is_loop (ending p ms cs)) k p) (sends_leave (k + primary_parameters p + messages_parameters ms) cs))

    receiver_leaves : (looped : Bool) (k : ℕ) (p : PrimaryTree) → LeavesBlocks (receiver_core meaning looped k p)
    receiver_leaves looped k (name n) = tt
    receiver_leaves looped k (literal v) = tt
    receiver_leaves looped k (paren e) = expr_leaves k e
    receiver_leaves true k (block ps ss) = body_ends enclosing.Arm k ss
    receiver_leaves false k (block ps ss) = body_ends enclosing.Block (k + length ps) ss

    chain_leaves : (r : CoreTree) (to_super : Bool) (last : Ending) (k : ℕ) (more : SendTrees) (ms : MessageTrees)
        → LeavesBlocks r → SendsLeaveBlocks more → LeavesBlocks (chain_core meaning r to_super last k more ms)
    chain_leaves r to_super last k more no_messages h others = h
    chain_leaves r to_super last k more (messages s es no_messages) h others =
        last_leaves last r to_super s (exprs_core meaning k es) (arms_core meaning k es) more h (exprs_leave k es) (arms_leave k es) others
    chain_leaves r to_super last k more (messages s es (messages t fs ms)) h others =
        chain_leaves (send r to_super s (exprs_core meaning k es)) false last (k + exprs_parameters es) more (messages t fs ms) (h, exprs_leave k es) others

    sends_leave : (k : ℕ) (ms : MessageTrees) → SendsLeaveBlocks (sends_core meaning k ms)
    sends_leave k no_messages = tt
    sends_leave k (messages s es ms) = (exprs_leave k es, sends_leave (k + exprs_parameters es) ms)

    exprs_leave : (k : ℕ) (es : ExprTrees) → AllLeaveBlocks (exprs_core meaning k es)
    exprs_leave k no_exprs = tt
    exprs_leave k (exprs e es) = (expr_leaves k e, exprs_leave (k + expr_parameters e) es)

    arms_leave : (k : ℕ) (es : ExprTrees) → AllLeaveBlocks (arms_core meaning k es)
    arms_leave k no_exprs = tt
    arms_leave k (exprs e es) = (arm_leaves k e, arms_leave (k + expr_parameters e) es)

    arm_leaves : (k : ℕ) (e : ExprTree) → LeavesBlocks (arm_core meaning k e)
    arm_leaves k (expr targets (block ps ss) ms cs) = body_ends enclosing.Arm k ss
    arm_leaves k (expr targets (name n) ms cs) = tt
    arm_leaves k (expr targets (literal v) ms cs) = tt
    arm_leaves k (expr targets (paren e) ms cs) = tt

    body_ends : (within : Enclosing) (k : ℕ) (ss : BodyTree) → Ends within (body_core meaning within k ss)
    body_ends within k no_stmts = empty_ends within
    body_ends within k (stmts r e no_stmts) = last_ends within r e (expr_core meaning k e) (expr_leaves k e)
    body_ends within k (stmts r e (stmts q f ss)) =
        before_ends within (statement r e (expr_core meaning k e)) (body_core meaning within (k + expr_parameters e) (stmts q f ss))
        (statement_leaves r e (expr_core meaning k e) (expr_leaves k e)) (body_ends within (k + expr_parameters e) (stmts q f ss))

pub finished : (m : MethodParts) (shape : Shape) → Finishes false (elaborated m shape)
finished m shape = by_selector m.selector
  where
    by_selector : (s : List ℕ) → Finishes false (body_core (means m shape) (method_end s) (length m.parameters + length m.temporaries) m.body)
    by_selector [] = body_ends (means m shape) enclosing.DoIt (length m.parameters + length m.temporaries) m.body
    by_selector (b ∷ bs) = body_ends (means m shape) enclosing.Method (length m.parameters + length m.temporaries) m.body
