-- What a method needs of the stack, and how many temporaries it has.
use Rattle.std.specs.Prelude.{ℕ, ◌+◌, Bool, true, false, cond, length, max}
use Rattle.s80_tree.specs.Tree.{ExprTree, PrimaryTree, ExprTrees, MessageTrees, BodyTree, MethodParts, expr, name, literal, block, paren, no_exprs, exprs, no_messages, messages, no_stmts, stmts}
use Rattle.s80_scope.specs.Inlined.{ending, is_inlined, is_loop}
use Rattle.s80_scope.specs.declared.fit.ending.Ending.{Ending}
use Rattle.s80_scope.specs.declared.fit.ending.Ending.TheVariants.{Sent, Cascaded}

-- ---- temporaries

abbrev mutual
  pub expr_parameters : ExprTree → ℕ
  expr_parameters (expr targets p ms cs) = primary_parameters p + messages_parameters ms + messages_parameters cs

  pub primary_parameters : PrimaryTree → ℕ
  primary_parameters (name n) = 0
  primary_parameters (literal v) = 0
  primary_parameters (paren e) = expr_parameters e
  primary_parameters (block ps ss) = body_parameters ss + length ps

  pub messages_parameters : MessageTrees → ℕ
  messages_parameters no_messages = 0
  messages_parameters (messages s es ms) = exprs_parameters es + messages_parameters ms

  pub exprs_parameters : ExprTrees → ℕ
  exprs_parameters no_exprs = 0
  exprs_parameters (exprs e es) = expr_parameters e + exprs_parameters es

  pub body_parameters : BodyTree → ℕ
  body_parameters no_stmts = 0
  body_parameters (stmts r e ss) = expr_parameters e + body_parameters ss

-- parameters, temporaries, and the parameters of blocks
abbrev pub temporaries : MethodParts → ℕ
temporaries m = body_parameters m.body + length m.parameters + length m.temporaries

-- ---- stack

-- what a part needs of the stack on which it stands, and the most that a real block in it needs of its own
pub record Needs : Type 0 where
  pub here : ℕ
  pub inside : ℕ

abbrev pub at_least : ℕ → Needs
at_least n = record { here = n; inside = 0 }

abbrev pub greatest : Needs → Needs → Needs
greatest a b = record { here = max a.here b.here; inside = max a.inside b.inside }

-- with so many values below it
abbrev pub above : ℕ → Needs → Needs
above n a = record { here = n + a.here; inside = a.inside }

-- a real block with so many parameters and such a body: it is pushed with the context and a number; on its own stack
-- it begins with its parameters, and an empty one pushes nil
abbrev pub real_block : ℕ → Needs → Needs
real_block n body = record { here = 2; inside = max (max body.here (max n 1)) body.inside }

-- how many values stand on the stack where the arguments of a message begin: the receiver, and in a cascade its duplicate
abbrev pub values_below : Ending → ℕ
values_below Cascaded = 2
values_below _ = 1

abbrev mutual
  pub expr_needs : ExprTree → Needs
  expr_needs (expr targets p ms cs) =
      greatest (greatest (receiver_needs (is_loop (ending p ms cs)) p) (messages_needs Sent (ending p ms cs) ms)) (messages_needs Cascaded Sent cs)

  -- whether it is the condition of a loop
  pub receiver_needs : Bool → PrimaryTree → Needs
  receiver_needs looped (name n) = at_least 1
  receiver_needs looped (literal v) = at_least 1
  receiver_needs looped (paren e) = expr_needs e
  receiver_needs true (block ps ss) = body_needs ss
  receiver_needs false (block ps ss) = real_block (length ps) (body_needs ss)

  -- messages to one receiver, where the last has another ending than those before it
  pub messages_needs : Ending → Ending → MessageTrees → Needs
  messages_needs before last no_messages = at_least 0
  messages_needs before last (messages s es no_messages) =
      greatest (cond (is_inlined last) (arms_needs es) (arguments_needs (values_below last) es)) (at_least (values_below last))
  messages_needs before last (messages s es ms) =
      greatest (greatest (arguments_needs (values_below before) es) (at_least (values_below before))) (messages_needs before last ms)

  -- arguments, with so many values below the first
  pub arguments_needs : ℕ → ExprTrees → Needs
  arguments_needs n no_exprs = at_least 0
  arguments_needs n (exprs e es) = greatest (above n (expr_needs e)) (arguments_needs (n + 1) es)

  pub arms_needs : ExprTrees → Needs
  arms_needs no_exprs = at_least 0
  arms_needs (exprs e es) = greatest (arm_needs e) (arms_needs es)

  pub arm_needs : ExprTree → Needs
  arm_needs (expr targets (block ps ss) ms cs) = body_needs ss
  arm_needs _ = at_least 0

  pub body_needs : BodyTree → Needs
  body_needs no_stmts = at_least 0
  body_needs (stmts r e ss) = greatest (expr_needs e) (body_needs ss)

-- the home's temporaries stand on its stack
abbrev pub stack : MethodParts → ℕ
stack m = max ((body_needs m.body).here + temporaries m) (body_needs m.body).inside
