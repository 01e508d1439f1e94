-- The core tree of a method in a class: its names are bound, and its control messages and ends of bodies are told apart.
use Rattle.std.specs.Prelude.{ℕ, suc, ◌+◌, List, [], ◌∷◌, Bool, true, false, length, Option, Some, None, if◌then◌else◌}
use Rattle.std.specs.Option.{option_map, option_map_or}
use Rattle.std.specs.Str.{bytes_eq}
use Rattle.s80_tree.specs.declared.name.NameAt.{NameAt}
use Rattle.s80_tree.specs.Tree.{ExprTree, PrimaryTree, ExprTrees, MessageTrees, BodyTree, MethodParts, expr, name, literal, block, paren, no_exprs, exprs, no_messages, messages, no_stmts, stmts, is_bare, is_super}
use Rattle.s80_syntax.specs.Word.{Names}
use Rattle.s80_scope.specs.declared.shape.Shape.{Shape}
use Rattle.s80_scope.specs.Shape as meant
use Rattle.s80_scope.specs.Shape.{WhereTree}
use Rattle.s80_scope.specs.Names.{means}
use Rattle.s80_scope.specs.Inlined.{ending, is_loop}
use Rattle.s80_scope.specs.FitStack.{expr_parameters, primary_parameters, messages_parameters, exprs_parameters}
use Rattle.s80_scope.specs.FitWeight.{short_returns}
use Rattle.s80_scope.specs.declared.fit.ending.Ending.{Ending}
use Rattle.s80_scope.specs.declared.fit.ending.Ending.TheVariants.{Sent, Cascaded, TwoArms, OneArm, Shortcut, Loop}
use Rattle.s80_core.specs.declared.elaboration.Enclosing.{Enclosing}
use Rattle.s80_core.specs.declared.elaboration.Enclosing.TheVariants as enclosing
use Rattle.s80_core.specs.Core.{VariableTree, temporary, instance, class_variable, outer, LeafTree, variable, constant, receiver, context, CoreTree, CoreTrees, SendTrees, leaf, assign, value, send, cascade, real_block, two_arms, one_arm, shortcut, repeat, nothing, before, answer, answer_fixed, leave, no_cores, cores, no_sends, sends}

-- what a name pushes
abbrev pub leaf_meant : WhereTree → LeafTree
leaf_meant (meant.temp number) = variable (temporary number)
leaf_meant (meant.inst place) = variable (instance place)
leaf_meant (meant.class_var owner word) = variable (class_variable owner word)
leaf_meant (meant.outer word) = variable (outer word)
leaf_meant meant.self_ref = receiver
leaf_meant meant.super_ref = receiver
leaf_meant meant.context = context
leaf_meant (meant.constant v) = constant v

-- what a target stores into. A reserved word is never a target; it counts as the first instance variable
abbrev pub target_meant : WhereTree → VariableTree
target_meant (meant.temp number) = temporary number
target_meant (meant.inst place) = instance place
target_meant (meant.class_var owner named) = class_variable owner named
target_meant (meant.outer named) = outer named
target_meant _ = instance 0

-- a value assigned to targets, from the right
abbrev pub assigned : (NameAt → WhereTree) → List NameAt → CoreTree → CoreTree
assigned meaning [] c = c
assigned meaning (n ∷ ns) c = assign (target_meant (meaning n)) (assigned meaning ns c)

abbrev pub first_of : CoreTrees → CoreTree
first_of no_cores = nothing
first_of (cores c cs) = c

abbrev pub second_of : CoreTrees → CoreTree
second_of no_cores = nothing
second_of (cores c cs) = first_of cs

-- the last message of a chain: how it ends, the receiver, whether it goes to super, the selector, the arguments, and the
-- same as arms, and the messages behind semicolons
abbrev pub last_core : Ending → CoreTree → Bool → List ℕ → CoreTrees → CoreTrees → SendTrees → CoreTree
last_core Sent r to_super s es arms more = send r to_super s es
last_core Cascaded r to_super s es arms more = cascade r to_super (sends s es more)
last_core (TwoArms on) r to_super s es arms more = two_arms on r (first_of arms) (second_of arms)
last_core (OneArm on) r to_super s es arms more = one_arm on r (first_of arms)
last_core (Shortcut on) r to_super s es arms more = shortcut on r (first_of arms)
last_core (Loop on) r to_super s es arms more = repeat on r (first_of arms)

-- the place of a word in a list
abbrev pub place_in : Names → List ℕ → Option ℕ
place_in [] word = None
place_in (n ∷ ns) word = if bytes_eq word n then Some 0 else option_map suc (place_in ns word)

-- what is returned by one instruction: `self`, `true`, `false` and `nil`, by themselves
abbrev pub fixed_primary : PrimaryTree → Option ℕ
fixed_primary (name n) = place_in short_returns n.name
fixed_primary _ = None

abbrev pub fixed_return : ExprTree → Option ℕ
fixed_return (expr targets p ms cs) = if is_bare (expr targets p ms cs) then fixed_primary p else None

-- a statement, which may return
abbrev pub statement : Bool → ExprTree → CoreTree → CoreTree
statement false e c = c
statement true e c = option_map_or answer_fixed (fixed_return e) (answer c)

-- the last statement of a body
abbrev pub last_statement : Enclosing → Bool → ExprTree → CoreTree → CoreTree
last_statement enclosing.Block false e c = leave c
last_statement enclosing.Method false e c = before c (answer_fixed 0)
last_statement enclosing.DoIt returns e c = answer c
last_statement _ returns e c = statement returns e c

-- a body without statements
abbrev pub empty_body : Enclosing → CoreTree
empty_body enclosing.Arm = nothing
empty_body enclosing.Block = leave nothing
empty_body enclosing.Method = answer_fixed 0
empty_body enclosing.DoIt = answer_fixed 3

-- Each part with the number of the next declaration, from which on the parameters of its blocks are numbered.
module _ (meaning : NameAt → WhereTree) where
  abbrev mutual
    pub expr_core : ℕ → ExprTree → CoreTree
    expr_core k (expr targets p ms cs) =
        assigned meaning targets
        (chain_core (receiver_core (is_loop (ending p ms cs)) k p) (is_super p) (ending p ms cs) (k + primary_parameters p)
        (sends_core (k + primary_parameters p + messages_parameters ms) cs) ms)

    -- whether it is the condition of a loop
    pub receiver_core : Bool → ℕ → PrimaryTree → CoreTree
    receiver_core looped k (name n) = leaf (leaf_meant (meaning n))
    receiver_core looped k (literal v) = leaf (constant v)
    receiver_core looped k (paren e) = value (expr_core k e)
    receiver_core true k (block ps ss) = body_core enclosing.Arm k ss
    receiver_core false k (block ps ss) = real_block k (length ps) (body_core enclosing.Block (k + length ps) ss)

    -- messages to a receiver, the first of them to super or not, with the ending of the last and the messages behind semicolons
    pub chain_core : CoreTree → Bool → Ending → ℕ → SendTrees → MessageTrees → CoreTree
    chain_core r to_super last k more no_messages = r
    chain_core r to_super last k more (messages s es no_messages) = last_core last r to_super s (exprs_core k es) (arms_core k es) more
    chain_core r to_super last k more (messages s es ms) =
        chain_core (send r to_super s (exprs_core k es)) false last (k + exprs_parameters es) more ms

    pub sends_core : ℕ → MessageTrees → SendTrees
    sends_core k no_messages = no_sends
    sends_core k (messages s es ms) = sends s (exprs_core k es) (sends_core (k + exprs_parameters es) ms)

    pub exprs_core : ℕ → ExprTrees → CoreTrees
    exprs_core k no_exprs = no_cores
    exprs_core k (exprs e es) = cores (expr_core k e) (exprs_core (k + expr_parameters e) es)

    -- arguments that are blocks without parameters
    pub arms_core : ℕ → ExprTrees → CoreTrees
    arms_core k no_exprs = no_cores
    arms_core k (exprs e es) = cores (arm_core k e) (arms_core (k + expr_parameters e) es)

    pub arm_core : ℕ → ExprTree → CoreTree
    arm_core k (expr targets (block ps ss) ms cs) = body_core enclosing.Arm k ss
    arm_core k _ = nothing

    pub body_core : Enclosing → ℕ → BodyTree → CoreTree
    body_core within k no_stmts = empty_body within
    body_core within k (stmts returns e no_stmts) = last_statement within returns e (expr_core k e)
    body_core within k (stmts returns e ss) = before (statement returns e (expr_core k e)) (body_core within (k + expr_parameters e) ss)

-- a doIt is a method without a selector
abbrev pub method_end : List ℕ → Enclosing
method_end [] = enclosing.DoIt
method_end (b ∷ bs) = enclosing.Method

-- a method in a class of this shape
abbrev pub elaborated : MethodParts → Shape → CoreTree
elaborated m shape = body_core (means m shape) (method_end m.selector) (length m.parameters + length m.temporaries) m.body
