-- The weight of a method: its code in bytes, each part at a width that depends on no place in the code.
use Rattle.std.specs.Prelude.{ℕ, ◌+◌, ◌*◌, List, [], ◌∷◌, Bool, true, false, ◌&&◌, cond, length, codes, if◌then◌else◌}
use Rattle.s80_tree.specs.declared.name.NameAt.{NameAt}
use Rattle.s80_tree.specs.Tree.{ExprTree, PrimaryTree, ExprTrees, MessageTrees, BodyTree, MethodParts, expr, name, literal, block, paren, no_exprs, exprs, no_messages, messages, no_stmts, stmts, is_bare}
use Rattle.s80_syntax.specs.Word.{Names, has_name}
use Rattle.s80_scope.specs.Inlined.{ending, is_inlined, is_loop}
use Rattle.s80_scope.specs.declared.fit.ending.Ending.{Ending}
use Rattle.s80_scope.specs.declared.fit.ending.Ending.TheVariants.{Sent, Cascaded, TwoArms, OneArm, Shortcut, Loop}
use Rattle.s80_scope.specs.declared.fit.position.Position.{Position}
use Rattle.s80_scope.specs.declared.fit.position.Position.TheVariants.{Value, Effect}
use Rattle.s80_scope.specs.declared.fit.position.Leaves.{Leaves}
use Rattle.s80_scope.specs.declared.fit.position.Leaves.TheVariants as leaves

-- a push of any kind, and an assignment to one target
abbrev pub push : ℕ
push = 2

abbrev pub assignment : ℕ
assignment = 2

-- what is assigned is a value
abbrev pub position_within : List NameAt → Position → Position
position_within [] position = position
position_within (n ∷ ns) position = Value

-- the pop of a value that nobody wants; arms and loops leave none
abbrev pub dropped : Position → Ending → ℕ
dropped Value e = 0
dropped Effect Sent = 1
dropped Effect Cascaded = 1
dropped Effect (Shortcut b) = 1
dropped Effect _ = 0

-- a message beside its arguments or arms: a send of 3, which in a cascade stands between a duplication and a pop of 1;
-- and jumps of 2, where a missing value is a push
abbrev pub own_weight : Position → Ending → ℕ
own_weight position Sent = 3
own_weight position Cascaded = 1 + 3 + 1
own_weight position (TwoArms b) = 2 + 2
own_weight Value (OneArm b) = 2 + 2 + push
own_weight Effect (OneArm b) = 2
own_weight position (Shortcut b) = 2 + 2 + push
own_weight Value (Loop b) = 2 + 2 + push
own_weight Effect (Loop b) = 2 + 2

-- the place of the arms of a message
abbrev pub arm_position : Position → Ending → Position
arm_position position (Shortcut b) = Value
arm_position position (Loop b) = Effect
arm_position position _ = position

-- what the body of an arm leaves
abbrev pub arm_leaves : Position → Leaves
arm_leaves Value = leaves.Value
arm_leaves Effect = leaves.Nothing

abbrev pub empty_weight : Leaves → ℕ
empty_weight leaves.Value = push
empty_weight _ = 0

-- the place of a statement, which is the last of what leaves something, or returns or not
abbrev pub statement_position : Leaves → Bool → Position
statement_position leaves.Nothing false = Effect
statement_position _ _ = Value

-- the names that are returned by one instruction and without a push
abbrev pub short_returns : Names
short_returns = codes "self" ∷ codes "true" ∷ codes "false" ∷ codes "nil" ∷ []

abbrev pub is_short_name : PrimaryTree → Bool
is_short_name (name n) = has_name short_returns n.name
is_short_name _ = false

abbrev pub is_short : ExprTree → Bool
is_short (expr targets p ms cs) = is_bare (expr targets p ms cs) && is_short_name p

-- a statement whose expression has this weight; a doIt's last one is its answer with a caret or without
abbrev pub statement_weight : Leaves → Bool → ExprTree → ℕ → ℕ
statement_weight leaves.Answer returns e weight = weight
statement_weight _ true e weight = if is_short e then 1 else weight + 1
statement_weight _ false e weight = weight

abbrev mutual
  pub expr_weight : Position → ExprTree → ℕ
  expr_weight position (expr targets p ms cs) =
      receiver_weight (is_loop (ending p ms cs)) p
      + messages_weight (position_within targets position) Sent (ending p ms cs) ms
      + messages_weight Value Cascaded Sent cs
      + assignment * length targets
      + dropped (position_within targets position) (ending p ms cs)

  -- whether it is the condition of a loop
  pub receiver_weight : Bool → PrimaryTree → ℕ
  receiver_weight looped (name n) = push
  receiver_weight looped (literal v) = push
  receiver_weight looped (paren e) = expr_weight Value e
  receiver_weight true (block ps ss) = body_weight leaves.Value ss
  receiver_weight false (block ps ss) = body_weight leaves.Value ss + (1 + push + 1 + 2) + assignment * length ps

  -- messages to one receiver, where the last has another ending than those before it
  pub messages_weight : Position → Ending → Ending → MessageTrees → ℕ
  messages_weight position before last no_messages = 0
  messages_weight position before last (messages s es no_messages) =
      cond (is_inlined last) (arms_weight (arm_position position last) es) (arguments_weight es) + own_weight position last
  messages_weight position before last (messages s es ms) = arguments_weight es + own_weight Value before + messages_weight position before last ms

  pub arguments_weight : ExprTrees → ℕ
  arguments_weight no_exprs = 0
  arguments_weight (exprs e es) = expr_weight Value e + arguments_weight es

  pub arms_weight : Position → ExprTrees → ℕ
  arms_weight position no_exprs = 0
  arms_weight position (exprs e es) = arm_weight position e + arms_weight position es

  pub arm_weight : Position → ExprTree → ℕ
  arm_weight position (expr targets (block ps ss) ms cs) = body_weight (arm_leaves position) ss
  arm_weight position _ = 0

  pub body_weight : Leaves → BodyTree → ℕ
  body_weight l no_stmts = empty_weight l
  body_weight l (stmts r e no_stmts) = statement_weight l r e (expr_weight (statement_position l r) e)
  body_weight l (stmts r e ss) = statement_weight leaves.Nothing r e (expr_weight (statement_position leaves.Nothing r) e) + body_weight l ss

-- a doIt is a method without a selector
abbrev pub method_leaves : List ℕ → Leaves
method_leaves [] = leaves.Answer
method_leaves (b ∷ bs) = leaves.Nothing

abbrev pub weight : MethodParts → ℕ
weight m = body_weight (method_leaves m.selector) m.body
