-- Which messages are control: they are compiled to jumps, and aren't sent.
use Rattle.std.specs.Prelude.{ℕ, List, [], Bool, true, false, ◌&&◌, codes, if◌then◌else◌}
use Rattle.std.specs.Str.{bytes_eq}
use Rattle.s80_tree.specs.Tree.{ExprTree, PrimaryTree, ExprTrees, MessageTrees, expr, block, no_exprs, exprs, no_messages, messages, is_bare, is_super}
use Rattle.s80_scope.specs.declared.fit.ending.Ending.{Ending}
use Rattle.s80_scope.specs.declared.fit.ending.Ending.TheVariants.{Sent, Cascaded, TwoArms, OneArm, Shortcut, Loop}

-- a literal block without parameters
abbrev pub is_plain_block : PrimaryTree → Bool
is_plain_block (block [] ss) = true
is_plain_block _ = false

-- an argument that is such a block, written without parentheses
abbrev pub is_arm : ExprTree → Bool
is_arm (expr targets p ms cs) = is_bare (expr targets p ms cs) && is_plain_block p

abbrev pub are_arms : ExprTrees → Bool
are_arms no_exprs = true
are_arms (exprs e es) = is_arm e && are_arms es

-- messages with arms: the Boolean tells on which condition the first arm is taken, or the loop goes on
abbrev pub branch : List ℕ → Ending
branch s =
    if bytes_eq s (codes "ifTrue:ifFalse:") then TwoArms true
    else (if bytes_eq s (codes "ifFalse:ifTrue:") then TwoArms false
    else (if bytes_eq s (codes "ifTrue:") then OneArm true
    else (if bytes_eq s (codes "ifFalse:") then OneArm false
    else (if bytes_eq s (codes "and:") then Shortcut true
    else (if bytes_eq s (codes "or:") then Shortcut false else Sent)))))

-- a loop has its condition as receiver
abbrev pub loop_or_branch : List ℕ → Ending
loop_or_branch s =
    if bytes_eq s (codes "whileTrue:") then Loop true
    else (if bytes_eq s (codes "whileFalse:") then Loop false else branch s)

-- a message with arms as all its arguments, by whether it is sent to super, and whether its receiver may be a condition
abbrev pub with_arms : Bool → Bool → List ℕ → Ending
with_arms true condition s = Sent
with_arms false true s = loop_or_branch s
with_arms false false s = branch s

-- the last message of a chain
abbrev pub message_ending : Bool → Bool → List ℕ → ExprTrees → Ending
message_ending to_super condition s es = if are_arms es then with_arms to_super condition s else Sent

-- a message that another one follows is sent
abbrev pub chain_ending : Bool → Bool → MessageTrees → Ending
chain_ending to_super condition no_messages = Sent
chain_ending to_super condition (messages s es no_messages) = message_ending to_super condition s es
chain_ending to_super condition (messages s es ms) = chain_ending false false ms

-- how an expression with this receiver, these messages and these cascades ends
abbrev pub ending : PrimaryTree → MessageTrees → MessageTrees → Ending
ending p ms no_messages = chain_ending (is_super p) (is_plain_block p) ms
ending p ms (messages s es cs) = Cascaded

abbrev pub expr_ending : ExprTree → Ending
expr_ending (expr targets p ms cs) = ending p ms cs

abbrev pub is_inlined : Ending → Bool
is_inlined Sent = false
is_inlined Cascaded = false
is_inlined _ = true

abbrev pub is_loop : Ending → Bool
is_loop (Loop b) = true
is_loop _ = false

-- ---- messages to super

abbrev pub is_single : MessageTrees → Bool
is_single (messages s es no_messages) = true
is_single _ = false

-- a cascade goes to the receiver of the message before it
abbrev pub cascade_to_super : ExprTree → Bool
cascade_to_super (expr targets p ms cs) = is_super p && is_single ms
