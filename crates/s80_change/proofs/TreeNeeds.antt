-- What a tree needs of the stack, and its parameters, are bounded by its size.
use Rattle.std.proofs.Common.{ℕ, ◌+◌, ◌*◌, ◌≤◌, List, Bool, true, false, cond, length, arith}
use Rattle.s80_tree.specs.Tree.{ExprTree, PrimaryTree, ExprTrees, MessageTrees, BodyTree, MethodParts, expr, name, literal, block, paren, no_exprs, exprs, no_messages, messages, no_stmts, stmts}
use Rattle.s80_scope.specs.declared.fit.ending.Ending.{Ending}
use Rattle.s80_scope.specs.declared.fit.ending.Ending.TheVariants.{Sent, Cascaded, TwoArms, OneArm, Shortcut, Loop}
use Rattle.s80_scope.specs.declared.fit.position.Position.TheVariants.{Value}
use Rattle.s80_scope.specs.Inlined.{ending, is_inlined, is_loop}
use Rattle.s80_scope.specs.FitStack.{Needs, expr_parameters, primary_parameters, messages_parameters, exprs_parameters, body_parameters, temporaries, at_least, greatest, real_block, values_below, expr_needs, receiver_needs, messages_needs, arguments_needs, arms_needs, arm_needs, body_needs, stack}
use Rattle.s80_scope.specs.FitStack as needs
use Rattle.s80_change.proofs.TreeSizes.{expr_size, primary_size, messages_size, exprs_size, body_size, method_size}
use Rattle.s80_change.proofs.TreeWeights.{expr_most}

-- ---- parameters

mutual
  expr_parameters_most : (e : ExprTree) → expr_parameters e ≤ expr_size e
  expr_parameters_most (expr targets p ms cs) = omega (arith, primary_parameters_most p, messages_parameters_most ms, messages_parameters_most cs)

  primary_parameters_most : (p : PrimaryTree) → primary_parameters p ≤ primary_size p
  primary_parameters_most (name n) = omega arith
  primary_parameters_most (literal v) = omega arith
  primary_parameters_most (paren e) = omega (arith, expr_parameters_most e)
  primary_parameters_most (block ps ss) = omega (arith, body_parameters_most ss)

  messages_parameters_most : (ms : MessageTrees) → messages_parameters ms ≤ messages_size ms
  messages_parameters_most no_messages = omega arith
  messages_parameters_most (messages s es ms) = omega (arith, exprs_parameters_most es, messages_parameters_most ms)

  exprs_parameters_most : (es : ExprTrees) → exprs_parameters es ≤ exprs_size es
  exprs_parameters_most no_exprs = omega arith
  exprs_parameters_most (exprs e es) = omega (arith, expr_parameters_most e, exprs_parameters_most es)

  body_parameters_most : (ss : BodyTree) → body_parameters ss ≤ body_size ss
  body_parameters_most no_stmts = omega arith
  body_parameters_most (stmts r e ss) = omega (arith, expr_parameters_most e, body_parameters_most ss)

pub temporaries_most : (m : MethodParts) → temporaries m ≤ method_size m
temporaries_most m = omega (arith, body_parameters_most m.body)

-- ---- stack

abbrev Low : Needs → ℕ → Type 0
Low a n = (a.here ≤ n) × (a.inside ≤ n)

lower : (a : Needs) (m n : ℕ) → Low a m → m ≤ n → Low a n
lower a m n h le =
    let here : a.here ≤ m = h.0 in let inside : a.inside ≤ m = h.1 in (omega arith, omega arith)

greatest_low : (a b : Needs) (n : ℕ) → Low a n → Low b n → Low (greatest a b) n
greatest_low a b n h g =
    let one : a.here ≤ n = h.0 in let two : a.inside ≤ n = h.1 in
    let three : b.here ≤ n = g.0 in let four : b.inside ≤ n = g.1 in (omega arith, omega arith)

least_low : (k n : ℕ) → k ≤ n → Low (at_least k) n
least_low k n le = (le, omega arith)

above_low : (k m n : ℕ) (a : Needs) → Low a m → k + m ≤ n → Low (needs.above k a) n
above_low k m n a h le =
    let here : a.here ≤ m = h.0 in let inside : a.inside ≤ m = h.1 in (omega arith, omega arith)

block_low : (k m n : ℕ) (a : Needs) → Low a m → k ≤ n → m ≤ n → 2 ≤ n → Low (real_block k a) n
block_low k m n a h le less two =
    let here : a.here ≤ m = h.0 in let inside : a.inside ≤ m = h.1 in (omega arith, omega arith)

chosen_low : (b : Bool) (x y : Needs) (n : ℕ) → Low x n → Low y n → Low (cond b x y) n
chosen_low true x y n h g = h
chosen_low false x y n h g = g

below_most : (e : Ending) → values_below e ≤ 2
below_most Sent = omega arith
below_most Cascaded = omega arith
below_most (TwoArms b) = omega arith
below_most (OneArm b) = omega arith
below_most (Shortcut b) = omega arith
below_most (Loop b) = omega arith

message_low : (first last : Ending) (s : List ℕ) (es : ExprTrees) (ms : MessageTrees) → ((n : ℕ) → Low (arguments_needs n es) (n + 16 * exprs_size es)) → Low (arms_needs es) (16 * exprs_size es) → Low (messages_needs first last ms) (16 * messages_size ms) → Low (messages_needs first last (messages s es ms)) (16 * messages_size (messages s es ms))
message_low first last s es no_messages given arms more =
    let n = 16 * messages_size (messages s es no_messages) in
    let below = values_below last in
    greatest_low (cond (is_inlined last) (arms_needs es) (arguments_needs below es)) (at_least below) n
    (chosen_low (is_inlined last) (arms_needs es) (arguments_needs below es) n
    (lower (arms_needs es) (16 * exprs_size es) n arms (omega arith))
    (lower (arguments_needs below es) (below + 16 * exprs_size es) n (given below) (omega (arith, below_most last))))
    (least_low below n (omega (arith, below_most last)))
message_low first last s es (messages t fs ms) given arms more =
    let rest = messages t fs ms in
    let n = 16 * messages_size (messages s es rest) in
    let below = values_below first in
    greatest_low (greatest (arguments_needs below es) (at_least below)) (messages_needs first last rest) n
    (greatest_low (arguments_needs below es) (at_least below) n
    (lower (arguments_needs below es) (below + 16 * exprs_size es) n (given below) (omega (arith, below_most first)))
    (least_low below n (omega (arith, below_most first))))
    (lower (messages_needs first last rest) (16 * messages_size rest) n more (omega arith))

mutual
  expr_low : (e : ExprTree) → Low (expr_needs e) (16 * expr_size e)
  expr_low (expr targets p ms cs) =
      greatest_low (greatest (receiver_needs (is_loop (ending p ms cs)) p) (messages_needs Sent (ending p ms cs) ms)) (messages_needs Cascaded Sent cs) (16 * expr_size (expr targets p ms cs))
      (greatest_low (receiver_needs (is_loop (ending p ms cs)) p) (messages_needs Sent (ending p ms cs) ms) (16 * expr_size (expr targets p ms cs))
      (lower (receiver_needs (is_loop (ending p ms cs)) p) (16 * primary_size p) (16 * expr_size (expr targets p ms cs)) (receiver_low (is_loop (ending p ms cs)) p) (omega arith))
      (lower (messages_needs Sent (ending p ms cs) ms) (16 * messages_size ms) (16 * expr_size (expr targets p ms cs)) (messages_low Sent (ending p ms cs) ms) (omega arith)))
      (lower (messages_needs Cascaded Sent cs) (16 * messages_size cs) (16 * expr_size (expr targets p ms cs)) (messages_low Cascaded Sent cs) (omega arith))

  receiver_low : (looped : Bool) (p : PrimaryTree) → Low (receiver_needs looped p) (16 * primary_size p)
  receiver_low looped (name n) = least_low 1 16 (omega arith)
  receiver_low looped (literal v) = least_low 1 16 (omega arith)
  receiver_low looped (paren e) = lower (expr_needs e) (16 * expr_size e) (16 * (1 + expr_size e)) (expr_low e) (omega arith)
  receiver_low true (block ps ss) = lower (body_needs ss) (16 * body_size ss) (16 * (1 + length ps + body_size ss)) (body_low ss) (omega arith)
  receiver_low false (block ps ss) = block_low (length ps) (16 * body_size ss) (16 * (1 + length ps + body_size ss)) (body_needs ss) (body_low ss) (omega arith) (omega arith) (omega arith)

  messages_low : (first last : Ending) (ms : MessageTrees) → Low (messages_needs first last ms) (16 * messages_size ms)
  messages_low first last no_messages = (omega arith, omega arith)
  messages_low first last (messages s es ms) = message_low first last s es ms (λ n. arguments_low n es) (arms_low es) (messages_low first last ms)

  arguments_low : (n : ℕ) (es : ExprTrees) → Low (arguments_needs n es) (n + 16 * exprs_size es)
  arguments_low n no_exprs = (omega arith, omega arith)
  arguments_low n (exprs e es) =
      greatest_low (needs.above n (expr_needs e)) (arguments_needs (n + 1) es) (n + 16 * (expr_size e + exprs_size es))
      (above_low n (16 * expr_size e) (n + 16 * (expr_size e + exprs_size es)) (expr_needs e) (expr_low e) (omega arith))
      (lower (arguments_needs (n + 1) es) ((n + 1) + 16 * exprs_size es) (n + 16 * (expr_size e + exprs_size es)) (arguments_low (n + 1) es) (omega (arith, expr_most Value e)))

  arms_low : (es : ExprTrees) → Low (arms_needs es) (16 * exprs_size es)
  arms_low no_exprs = (omega arith, omega arith)
  arms_low (exprs e es) =
      greatest_low (arm_needs e) (arms_needs es) (16 * (expr_size e + exprs_size es))
      (lower (arm_needs e) (16 * expr_size e) (16 * (expr_size e + exprs_size es)) (arm_low e) (omega arith))
      (lower (arms_needs es) (16 * exprs_size es) (16 * (expr_size e + exprs_size es)) (arms_low es) (omega arith))

  arm_low : (e : ExprTree) → Low (arm_needs e) (16 * expr_size e)
  arm_low (expr targets (block ps ss) ms cs) = lower (body_needs ss) (16 * body_size ss) (16 * expr_size (expr targets (block ps ss) ms cs)) (body_low ss) (omega arith)
  arm_low (expr targets (name n) ms cs) = (omega arith, omega arith)
  arm_low (expr targets (literal v) ms cs) = (omega arith, omega arith)
  arm_low (expr targets (paren e) ms cs) = (omega arith, omega arith)

  body_low : (ss : BodyTree) → Low (body_needs ss) (16 * body_size ss)
  body_low no_stmts = (omega arith, omega arith)
  body_low (stmts r e ss) =
      greatest_low (expr_needs e) (body_needs ss) (16 * (expr_size e + body_size ss))
      (lower (expr_needs e) (16 * expr_size e) (16 * (expr_size e + body_size ss)) (expr_low e) (omega arith))
      (lower (body_needs ss) (16 * body_size ss) (16 * (expr_size e + body_size ss)) (body_low ss) (omega arith))

pub stack_most : (m : MethodParts) → stack m ≤ 16 * body_size m.body + method_size m
stack_most m =
    let here : (body_needs m.body).here ≤ 16 * body_size m.body = (body_low m.body).0 in
    let inside : (body_needs m.body).inside ≤ 16 * body_size m.body = (body_low m.body).1 in
    omega (arith, temporaries_most m)
