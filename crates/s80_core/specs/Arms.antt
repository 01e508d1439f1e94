-- Messages that are control have an arm for each of their parameters, as every text's tree has.
use Rattle.std.specs.Prelude.{ℕ, suc, ◌≤◌}
use Rattle.s80_tree.specs.Tree.{ExprTree, PrimaryTree, ExprTrees, MessageTrees, BodyTree, MethodParts, expr, name, literal, block, paren, no_exprs, exprs, no_messages, messages, no_stmts, stmts}
use Rattle.s80_scope.specs.Inlined.{ending}
use Rattle.s80_scope.specs.declared.fit.ending.Ending.{Ending}
use Rattle.s80_scope.specs.declared.fit.ending.Ending.TheVariants.{Sent, Cascaded, TwoArms, OneArm, Shortcut, Loop}

abbrev pub arguments_of : ExprTrees → ℕ
arguments_of no_exprs = 0
arguments_of (exprs e es) = suc (arguments_of es)

-- how many arms a message with this ending has
abbrev pub arms_wanted : Ending → ℕ
arms_wanted Sent = 0
arms_wanted Cascaded = 0
arms_wanted (TwoArms on) = 2
arms_wanted (OneArm on) = 1
arms_wanted (Shortcut on) = 1
arms_wanted (Loop on) = 1

-- the last message of a chain has them
abbrev pub LastHasArms : Ending → MessageTrees → Type 0
LastHasArms last no_messages = Unit {0}
LastHasArms last (messages s es no_messages) = arms_wanted last ≤ arguments_of es
LastHasArms last (messages s es ms) = LastHasArms last ms

abbrev mutual
  pub ExprHasArms : ExprTree → Type 0
  ExprHasArms (expr targets p ms cs) = LastHasArms (ending p ms cs) ms × (PrimaryHasArms p × (MessagesHaveArms ms × MessagesHaveArms cs))

  pub PrimaryHasArms : PrimaryTree → Type 0
  PrimaryHasArms (name n) = Unit {0}
  PrimaryHasArms (literal v) = Unit {0}
  PrimaryHasArms (block ps ss) = BodyHasArms ss
  PrimaryHasArms (paren e) = ExprHasArms e

  pub ExprsHaveArms : ExprTrees → Type 0
  ExprsHaveArms no_exprs = Unit {0}
  ExprsHaveArms (exprs e es) = ExprHasArms e × ExprsHaveArms es

  pub MessagesHaveArms : MessageTrees → Type 0
  MessagesHaveArms no_messages = Unit {0}
  MessagesHaveArms (messages s es ms) = ExprsHaveArms es × MessagesHaveArms ms

  pub BodyHasArms : BodyTree → Type 0
  BodyHasArms no_stmts = Unit {0}
  BodyHasArms (stmts r e ss) = ExprHasArms e × BodyHasArms ss

abbrev pub HaveArms : MethodParts → Type 0
HaveArms m = BodyHasArms m.body
