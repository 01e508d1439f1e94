-- Parts of trees, by which the forms of doIts are told.
use Rattle.std.specs.Prelude.{◌≡◌, [], false, Option, Some, None, codes}
use Rattle.s80_base.specs.Literal.{LiteralTree}
use Rattle.s80_base.specs.declared.names.Side.{Side}
use Rattle.s80_base.specs.declared.names.Side.TheVariants.{Instance, Class}
use Rattle.s80_tree.specs.declared.name.NameAt.{NameAt}
use Rattle.s80_tree.specs.Tree.{DoItParts, ExprTree, MessageTree, MessageTrees, expr, name, literal, message_of, no_exprs, messages, no_messages, stmts, no_stmts}
use Rattle.s80_syntax.specs.Word.{is_reserved}
use Rattle.s80_form.specs.declared.tree_parts.Sending.{Sending}

-- what was found, as it is seen, has this property; or nothing has it
abbrev pub Finds : {X Y : Type 0} → (X → Y) → (Y → Type 0) → Option X → Type 0
Finds view P (Some x) = P (view x)
Finds view P None = (y : _) → P y → ⊥

-- an expression that is this literal, and nothing else
abbrev pub argument : LiteralTree → ExprTree
argument value = expr [] (literal value) no_messages no_messages

-- a doIt that is this expression, and nothing else
abbrev pub alone : ExprTree → DoItParts
alone e = record { temporaries = []; body = stmts false e no_stmts }

-- an expression that sends these messages to this name, one after the other, and does nothing else
abbrev pub all_sent : NameAt × MessageTrees → ExprTree
all_sent p = expr [] (name p.0) p.1 no_messages

-- the message that asks for the class of a class
abbrev pub class_message : MessageTree
class_message = (codes "class", no_exprs)

-- a message to the instance side of a class, or behind `class` to its class side
abbrev pub to_side : Side × MessageTree → MessageTrees
to_side (Instance, m) = messages m.0 m.1 no_messages
to_side (Class, m) = messages class_message.0 class_message.1 (messages m.0 m.1 no_messages)

-- the message that asks for the organization of a side: its selectors by their categories
abbrev pub organization_message : MessageTree
organization_message = (codes "organization", no_exprs)

-- a message to the organization of one side of a class
abbrev pub to_organization : Side × MessageTree → MessageTrees
to_organization (Instance, m) = messages organization_message.0 organization_message.1 (messages m.0 m.1 no_messages)
to_organization (Class, m) = messages class_message.0 class_message.1 (messages organization_message.0 organization_message.1 (messages m.0 m.1 no_messages))

-- The tree is one statement that sends these messages to this name, and does nothing else. The name is no reserved word.
pub record IsSentToName (tree : DoItParts) (p : NameAt × MessageTrees) : Type 0 where
  pub tree_is : tree ≡ alone (all_sent p)
  pub receiver : is_reserved p.0.name ≡ false

-- it sends this message to this side of the class of this name
abbrev pub IsSending : DoItParts → NameAt × Side × MessageTree → Type 0
IsSending tree p = IsSentToName tree (p.0, to_side (p.1, p.2))

-- it sends it to the organization of that side
abbrev pub IsOrganizing : DoItParts → NameAt × Side × MessageTree → Type 0
IsOrganizing tree p = IsSentToName tree (p.0, to_organization (p.1, p.2))

-- what a doIt sends, without memory
abbrev pub sending_of : Sending → NameAt × Side × MessageTree
sending_of s = (s.receiver.now, s.side, message_of s.message.now)
