-- The weight of a tree is bounded by its size.
use Rattle.std.proofs.Common.{ℕ, ◌+◌, ◌*◌, ◌≤◌, List, Bool, true, false, cond, arith, if◌then◌else◌}
use Rattle.s80_tree.specs.Tree.{ExprTree, PrimaryTree, ExprTrees, MessageTrees, BodyTree, MethodParts, expr, name, literal, block, paren, no_exprs, exprs, no_messages, messages, no_stmts, stmts}
use Rattle.s80_scope.specs.declared.fit.ending.Ending.{Ending}
use Rattle.s80_scope.specs.declared.fit.ending.Ending.TheVariants.{Sent, Cascaded, TwoArms, OneArm, Shortcut, Loop}
use Rattle.s80_scope.specs.declared.fit.position.Position.{Position}
use Rattle.s80_scope.specs.declared.fit.position.Position.TheVariants.{Value, Effect}
use Rattle.s80_scope.specs.declared.fit.position.Leaves.{Leaves}
use Rattle.s80_scope.specs.declared.fit.position.Leaves.TheVariants as leaves
use Rattle.s80_scope.specs.Inlined.{ending, is_inlined, is_loop}
use Rattle.s80_scope.specs.FitWeight.{expr_weight, receiver_weight, messages_weight, arguments_weight, arms_weight, arm_weight, arm_position, arm_leaves, body_weight, own_weight, dropped, empty_weight, position_within, statement_position, statement_weight, is_short, method_leaves, weight}
use Rattle.s80_change.proofs.TreeSizes.{expr_size, primary_size, messages_size, exprs_size, body_size}

own_most : (position : Position) (e : Ending) → own_weight position e ≤ 6
own_most Value Sent = omega arith
own_most Value Cascaded = omega arith
own_most Value (TwoArms b) = omega arith
own_most Value (OneArm b) = omega arith
own_most Value (Shortcut b) = omega arith
own_most Value (Loop b) = omega arith
own_most Effect Sent = omega arith
own_most Effect Cascaded = omega arith
own_most Effect (TwoArms b) = omega arith
own_most Effect (OneArm b) = omega arith
own_most Effect (Shortcut b) = omega arith
own_most Effect (Loop b) = omega arith

dropped_most : (position : Position) (e : Ending) → dropped position e ≤ 1
dropped_most Value e = omega arith
dropped_most Effect Sent = omega arith
dropped_most Effect Cascaded = omega arith
dropped_most Effect (TwoArms b) = omega arith
dropped_most Effect (OneArm b) = omega arith
dropped_most Effect (Shortcut b) = omega arith
dropped_most Effect (Loop b) = omega arith

empty_most : (l : Leaves) → empty_weight l ≤ 2
empty_most leaves.Nothing = omega arith
empty_most leaves.Value = omega arith
empty_most leaves.Answer = omega arith

either_most : (b : Bool) (x y n : ℕ) → x ≤ n → y ≤ n → (if b then x else y) ≤ n
either_most true x y n h g = h
either_most false x y n h g = g

chosen_most : (b : Bool) (x y n : ℕ) → x ≤ n → y ≤ n → cond b x y ≤ n
chosen_most true x y n h g = h
chosen_most false x y n h g = g

statement_most : (l : Leaves) (r : Bool) (e : ExprTree) (w n : ℕ) → w + 1 ≤ n → statement_weight l r e w ≤ n
statement_most leaves.Answer r e w n h = omega arith
statement_most leaves.Value true e w n h = either_most (is_short e) 1 (w + 1) n (omega arith) h
statement_most leaves.Value false e w n h = omega arith
statement_most leaves.Nothing true e w n h = either_most (is_short e) 1 (w + 1) n (omega arith) h
statement_most leaves.Nothing false e w n h = omega arith

statements_most : (l : Leaves) (r : Bool) (e : ExprTree) (ss : BodyTree) → ((position : Position) → expr_weight position e + 1 ≤ 16 * expr_size e) → body_weight l ss ≤ 16 * body_size ss + 2 → body_weight l (stmts r e ss) ≤ 16 * body_size (stmts r e ss) + 2
statements_most l r e no_stmts here more =
    omega (arith, statement_most l r e (expr_weight (statement_position l r) e) (16 * expr_size e) (here (statement_position l r)))
statements_most l r e (stmts q f ss) here more =
    omega (arith, more, statement_most leaves.Nothing r e (expr_weight (statement_position leaves.Nothing r) e) (16 * expr_size e) (here (statement_position leaves.Nothing r)))

message_most : (position : Position) (first last : Ending) (s : List ℕ) (es : ExprTrees) (ms : MessageTrees) → arguments_weight es ≤ 16 * exprs_size es → arms_weight (arm_position position last) es ≤ 16 * exprs_size es → messages_weight position first last ms ≤ 16 * messages_size ms → messages_weight position first last (messages s es ms) ≤ 16 * messages_size (messages s es ms)
message_most position first last s es no_messages given arms more =
    omega (arith, own_most position last, chosen_most (is_inlined last) (arms_weight (arm_position position last) es) (arguments_weight es) (16 * exprs_size es) arms given)
message_most position first last s es (messages t fs ms) given arms more = omega (arith, given, more, own_most Value first)

mutual
  pub expr_most : (position : Position) (e : ExprTree) → expr_weight position e + 1 ≤ 16 * expr_size e
  expr_most position (expr targets p ms cs) =
      omega (arith, receiver_most (is_loop (ending p ms cs)) p, messages_most (position_within targets position) Sent (ending p ms cs) ms, messages_most Value Cascaded Sent cs, dropped_most (position_within targets position) (ending p ms cs))

  receiver_most : (looped : Bool) (p : PrimaryTree) → receiver_weight looped p + 2 ≤ 16 * primary_size p
  receiver_most looped (name n) = omega arith
  receiver_most looped (literal v) = omega arith
  receiver_most looped (paren e) = omega (arith, expr_most Value e)
  receiver_most true (block ps ss) = omega (arith, body_most leaves.Value ss)
  receiver_most false (block ps ss) = omega (arith, body_most leaves.Value ss)

  messages_most : (position : Position) (first last : Ending) (ms : MessageTrees) → messages_weight position first last ms ≤ 16 * messages_size ms
  messages_most position first last no_messages = omega arith
  messages_most position first last (messages s es ms) =
      message_most position first last s es ms (arguments_most es) (arms_most (arm_position position last) es) (messages_most position first last ms)

  arguments_most : (es : ExprTrees) → arguments_weight es ≤ 16 * exprs_size es
  arguments_most no_exprs = omega arith
  arguments_most (exprs e es) = omega (arith, expr_most Value e, arguments_most es)

  arms_most : (position : Position) (es : ExprTrees) → arms_weight position es ≤ 16 * exprs_size es
  arms_most position no_exprs = omega arith
  arms_most position (exprs e es) = omega (arith, arm_most position e, arms_most position es)

  arm_most : (position : Position) (e : ExprTree) → arm_weight position e ≤ 16 * expr_size e
  arm_most position (expr targets (block ps ss) ms cs) = omega (arith, body_most (arm_leaves position) ss)
  arm_most position (expr targets (name n) ms cs) = omega arith
  arm_most position (expr targets (literal v) ms cs) = omega arith
  arm_most position (expr targets (paren e) ms cs) = omega arith

  body_most : (l : Leaves) (ss : BodyTree) → body_weight l ss ≤ 16 * body_size ss + 2
  body_most l no_stmts = omega (arith, empty_most l)
  body_most l (stmts r e ss) = statements_most l r e ss (λ position. expr_most position e) (body_most l ss)

pub weight_most : (m : MethodParts) → weight m ≤ 16 * body_size m.body + 2
weight_most m = body_most (method_leaves m.selector) m.body
