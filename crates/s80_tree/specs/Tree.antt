-- Trees without where they lie in memory.
use Rattle.std.specs.Prelude.{ℕ, List, [], ◌∷◌, Bool, true, false, codes}
use Rattle.std.specs.Str.{bytes_eq}
use Rattle.s80_base.specs.Literal.{LiteralTree, literal_of}
use Rattle.s80_tree.specs.Name.{names_of}
use Rattle.s80_tree.specs.declared.name.NameAt.{NameAt}
use Rattle.s80_tree.specs.declared.expr.Expr.{Expr}
use Rattle.s80_tree.specs.declared.expr.Exprs.{Exprs}
use Rattle.s80_tree.specs.declared.expr.Primary.{Primary}
use Rattle.s80_tree.specs.declared.expr.Block.{Block}
use Rattle.s80_tree.specs.declared.expr.Message.{Message}
use Rattle.s80_tree.specs.declared.expr.Messages.{Messages}
use Rattle.s80_tree.specs.declared.expr.Stmt.{Stmt}
use Rattle.s80_tree.specs.declared.expr.Body.{Body}
use Rattle.s80_tree.specs.declared.method.MethodTree.{MethodTree}
use Rattle.s80_tree.specs.declared.method.DoItTree.{DoItTree}
use Rattle.s80_tree.specs.declared.expr.Primary.TheOpen.{Primary-F, Block-F, Body-F, Expr-F, Exprs-F, Message-F, Messages-F, Stmt-F}
use Rattle.s80_tree.specs.declared.expr.Primary.TheOpen as layer
use Rattle.s80_tree.specs.declared.expr.Primary.TheFolds.{fold-Primary, fold-Block, fold-Body, fold-Expr, fold-Exprs, fold-Message, fold-Messages, fold-Stmt}

mutual
  -- targets, receiver, messages, cascades
  pub data ExprTree : Type 0 where
    expr : List NameAt → PrimaryTree → MessageTrees → MessageTrees → ExprTree

  pub data PrimaryTree : Type 0 where
    name : NameAt → PrimaryTree
    literal : LiteralTree → PrimaryTree
    block : List NameAt → BodyTree → PrimaryTree
    paren : ExprTree → PrimaryTree

  pub data ExprTrees : Type 0 where
    no_exprs : ExprTrees
    exprs : ExprTree → ExprTrees → ExprTrees

  -- a selector and its arguments, and further messages
  pub data MessageTrees : Type 0 where
    no_messages : MessageTrees
    messages : List ℕ → ExprTrees → MessageTrees → MessageTrees

  -- whether a statement returns, its expression, and further statements
  pub data BodyTree : Type 0 where
    no_stmts : BodyTree
    stmts : Bool → ExprTree → BodyTree → BodyTree

-- a method, and a doIt
pub record MethodParts : Type 0 where
  pub selector : List ℕ
  pub parameters : List NameAt
  pub temporaries : List NameAt
  pub primitive : ℕ
  pub body : BodyTree

pub record DoItParts : Type 0 where
  pub temporaries : List NameAt
  pub body : BodyTree

-- a message: its selector and its arguments
abbrev pub MessageTree : Type 0
MessageTree = List ℕ × ExprTrees

-- a statement: whether it returns, and its expression
abbrev pub StmtTree : Type 0
StmtTree = Bool × ExprTree

-- a block: its parameters and its body
abbrev pub BlockTree : Type 0
BlockTree = List NameAt × BodyTree

abbrev pub exprs_from : List ExprTree → ExprTrees
exprs_from [] = no_exprs
exprs_from (e ∷ es) = exprs e (exprs_from es)

abbrev pub messages_from : List MessageTree → MessageTrees
messages_from [] = no_messages
messages_from (m ∷ ms) = messages m.0 m.1 (messages_from ms)

abbrev pub body_from : List StmtTree → BodyTree
body_from [] = no_stmts
body_from (s ∷ ss) = stmts s.0 s.1 (body_from ss)

-- the members of a list
abbrev pub exprs_list : ExprTrees → List ExprTree
exprs_list no_exprs = []
exprs_list (exprs e es) = e ∷ exprs_list es

abbrev pub messages_list : MessageTrees → List MessageTree
messages_list no_messages = []
messages_list (messages s es ms) = (s, es) ∷ messages_list ms

abbrev pub body_list : BodyTree → List StmtTree
body_list no_stmts = []
body_list (stmts r e ss) = (r, e) ∷ body_list ss

-- one list behind another
abbrev pub exprs_append : ExprTrees → ExprTrees → ExprTrees
exprs_append no_exprs more = more
exprs_append (exprs e es) more = exprs e (exprs_append es more)

abbrev pub messages_append : MessageTrees → MessageTrees → MessageTrees
messages_append no_messages more = more
messages_append (messages s es ms) more = messages s es (messages_append ms more)

abbrev pub body_append : BodyTree → BodyTree → BodyTree
body_append no_stmts more = more
body_append (stmts r e ss) more = stmts r e (body_append ss more)

-- an expression that is its receiver, and nothing else
abbrev pub is_bare : ExprTree → Bool
is_bare (expr [] p no_messages no_messages) = true
is_bare _ = false

-- `super`, by its name
abbrev pub is_super : PrimaryTree → Bool
is_super (name n) = bytes_eq n.name (codes "super")
is_super _ = false

-- one layer of each type, with the trees of its parts
abbrev pub primary_layer : Primary-F PrimaryTree BlockTree BodyTree ExprTree ExprTrees MessageTree MessageTrees StmtTree → PrimaryTree
primary_layer (layer.Name n) = name n
primary_layer (layer.Literal l) = literal (literal_of l)
primary_layer (layer.Block b) = block b.0 b.1
primary_layer (layer.Paren e) = paren e.value

abbrev pub block_layer : Block-F PrimaryTree BlockTree BodyTree ExprTree ExprTrees MessageTree MessageTrees StmtTree → BlockTree
block_layer b = (names_of b.parameters, b.body)

abbrev pub body_layer : Body-F PrimaryTree BlockTree BodyTree ExprTree ExprTrees MessageTree MessageTrees StmtTree → BodyTree
body_layer b = body_from b.items.items

abbrev pub expr_layer : Expr-F PrimaryTree BlockTree BodyTree ExprTree ExprTrees MessageTree MessageTrees StmtTree → ExprTree
expr_layer e = expr (names_of e.targets) e.receiver e.messages e.cascades

abbrev pub exprs_layer : Exprs-F PrimaryTree BlockTree BodyTree ExprTree ExprTrees MessageTree MessageTrees StmtTree → ExprTrees
exprs_layer es = exprs_from es.items.items

abbrev pub message_layer : Message-F PrimaryTree BlockTree BodyTree ExprTree ExprTrees MessageTree MessageTrees StmtTree → MessageTree
message_layer m = (m.selector, m.arguments)

abbrev pub messages_layer : Messages-F PrimaryTree BlockTree BodyTree ExprTree ExprTrees MessageTree MessageTrees StmtTree → MessageTrees
messages_layer ms = messages_from ms.items.items

abbrev pub stmt_layer : Stmt-F PrimaryTree BlockTree BodyTree ExprTree ExprTrees MessageTree MessageTrees StmtTree → StmtTree
stmt_layer s = (s.returns, s.expr)

abbrev pub primary_of : Primary → PrimaryTree
primary_of = fold-Primary PrimaryTree BlockTree BodyTree ExprTree ExprTrees MessageTree MessageTrees StmtTree primary_layer block_layer body_layer expr_layer exprs_layer message_layer messages_layer stmt_layer

abbrev pub block_of : Block → BlockTree
block_of = fold-Block PrimaryTree BlockTree BodyTree ExprTree ExprTrees MessageTree MessageTrees StmtTree primary_layer block_layer body_layer expr_layer exprs_layer message_layer messages_layer stmt_layer

abbrev pub body_of : Body → BodyTree
body_of = fold-Body PrimaryTree BlockTree BodyTree ExprTree ExprTrees MessageTree MessageTrees StmtTree primary_layer block_layer body_layer expr_layer exprs_layer message_layer messages_layer stmt_layer

abbrev pub expr_of : Expr → ExprTree
expr_of = fold-Expr PrimaryTree BlockTree BodyTree ExprTree ExprTrees MessageTree MessageTrees StmtTree primary_layer block_layer body_layer expr_layer exprs_layer message_layer messages_layer stmt_layer

abbrev pub exprs_of : Exprs → ExprTrees
exprs_of = fold-Exprs PrimaryTree BlockTree BodyTree ExprTree ExprTrees MessageTree MessageTrees StmtTree primary_layer block_layer body_layer expr_layer exprs_layer message_layer messages_layer stmt_layer

abbrev pub message_of : Message → MessageTree
message_of = fold-Message PrimaryTree BlockTree BodyTree ExprTree ExprTrees MessageTree MessageTrees StmtTree primary_layer block_layer body_layer expr_layer exprs_layer message_layer messages_layer stmt_layer

abbrev pub messages_of : Messages → MessageTrees
messages_of = fold-Messages PrimaryTree BlockTree BodyTree ExprTree ExprTrees MessageTree MessageTrees StmtTree primary_layer block_layer body_layer expr_layer exprs_layer message_layer messages_layer stmt_layer

abbrev pub stmt_of : Stmt → StmtTree
stmt_of = fold-Stmt PrimaryTree BlockTree BodyTree ExprTree ExprTrees MessageTree MessageTrees StmtTree primary_layer block_layer body_layer expr_layer exprs_layer message_layer messages_layer stmt_layer

-- a method and a doIt, their bodies as trees
abbrev pub method_of : MethodTree → MethodParts
method_of m = record { selector = m.selector; parameters = names_of m.parameters; temporaries = names_of m.temporaries; primitive = m.primitive; body = body_of m.body }

abbrev pub doit_of : DoItTree → DoItParts
doit_of d = record { temporaries = names_of d.temporaries; body = body_of d.body }
