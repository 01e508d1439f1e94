-- Messages with as many arguments as their selectors have parameters.
use Rattle.s80_lex.specs.Selector.{IsSelectorOf}
use Rattle.s80_tree.specs.Tree.{ExprTree, PrimaryTree, ExprTrees, MessageTrees, BodyTree, MethodParts, expr, name, literal, block, paren, no_exprs, exprs, no_messages, messages, no_stmts, stmts}
use Rattle.s80_core.specs.Arms.{arguments_of}
use Rattle.s80_core.specs.Core.{CoreTree, CoreTrees, SendTrees, leaf, assign, value, send, cascade, real_block, two_arms, one_arm, shortcut, repeat, nothing, before, answer, answer_fixed, leave, no_cores, cores, no_sends, sends, count}

abbrev mutual
  pub IsWellSent : CoreTree → Type 0
  IsWellSent (leaf l) = Unit {0}
  IsWellSent (assign v e) = IsWellSent e
  IsWellSent (value e) = IsWellSent e
  IsWellSent (send r to_super s es) = IsWellSent r × (AllWellSent es × IsSelectorOf (count es) s)
  IsWellSent (cascade r to_super ms) = IsWellSent r × SendsWellSent ms
  IsWellSent (real_block first n e) = IsWellSent e
  IsWellSent (two_arms on c a b) = IsWellSent c × (IsWellSent a × IsWellSent b)
  IsWellSent (one_arm on c a) = IsWellSent c × IsWellSent a
  IsWellSent (shortcut on c a) = IsWellSent c × IsWellSent a
  IsWellSent (repeat on c e) = IsWellSent c × IsWellSent e
  IsWellSent nothing = Unit {0}
  IsWellSent (before a b) = IsWellSent a × IsWellSent b
  IsWellSent (answer e) = IsWellSent e
  IsWellSent (answer_fixed n) = Unit {0}
  IsWellSent (leave e) = IsWellSent e

  pub AllWellSent : CoreTrees → Type 0
  AllWellSent no_cores = Unit {0}
  AllWellSent (cores c cs) = IsWellSent c × AllWellSent cs

  pub SendsWellSent : SendTrees → Type 0
  SendsWellSent no_sends = Unit {0}
  SendsWellSent (sends s es ms) = (AllWellSent es × IsSelectorOf (count es) s) × SendsWellSent ms

-- the same, of a parsed tree
abbrev mutual
  pub ExprIsWellSent : ExprTree → Type 0
  ExprIsWellSent (expr targets p ms cs) = PrimaryIsWellSent p × (MessagesAreWellSent ms × MessagesAreWellSent cs)

  pub PrimaryIsWellSent : PrimaryTree → Type 0
  PrimaryIsWellSent (name n) = Unit {0}
  PrimaryIsWellSent (literal v) = Unit {0}
  PrimaryIsWellSent (block ps ss) = BodyIsWellSent ss
  PrimaryIsWellSent (paren e) = ExprIsWellSent e

  pub ExprsAreWellSent : ExprTrees → Type 0
  ExprsAreWellSent no_exprs = Unit {0}
  ExprsAreWellSent (exprs e es) = ExprIsWellSent e × ExprsAreWellSent es

  pub MessagesAreWellSent : MessageTrees → Type 0
  MessagesAreWellSent no_messages = Unit {0}
  MessagesAreWellSent (messages s es ms) = (ExprsAreWellSent es × IsSelectorOf (arguments_of es) s) × MessagesAreWellSent ms

  pub BodyIsWellSent : BodyTree → Type 0
  BodyIsWellSent no_stmts = Unit {0}
  BodyIsWellSent (stmts r e ss) = ExprIsWellSent e × BodyIsWellSent ss

abbrev pub AreWellSent : MethodParts → Type 0
AreWellSent m = BodyIsWellSent m.body
