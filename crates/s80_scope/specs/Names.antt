-- What the names in a method mean: the uses and the declarations of names, and which declaration a use means.
use Rattle.std.specs.Prelude.{◌≡◌, ℕ, suc, ◌+◌, ◌==◌, ◌<◌, ◌≤◌, List, [], ◌∷◌, ◌++◌, Bool, ◌&&◌, cond, map, length, find, codes, Option, Some, None}
use Rattle.std.specs.declared.ops.ControlFlow.{ControlFlow}
use Rattle.std.specs.declared.ops.ControlFlow.TheVariants.{Continue, Break}
use Rattle.std.specs.List.{AllPairs, list_any, count_by}
use Rattle.std.specs.Option.{option_map, option_map_or}
use Rattle.std.specs.Str.{bytes_eq}
use Rattle.s80_base.specs.Literal.{true_literal, false_literal, nil_literal}
use Rattle.s80_tree.specs.declared.name.NameAt.{NameAt}
use Rattle.s80_tree.specs.Tree.{ExprTree, PrimaryTree, ExprTrees, MessageTrees, BodyTree, MethodParts, expr, name, literal, block, paren, no_exprs, exprs, no_messages, messages, no_stmts, stmts}
use Rattle.s80_scope.specs.Shape.{WhereTree, temp, inst, class_var, outer, self_ref, super_ref, context, constant}
use Rattle.s80_scope.specs.declared.names.Found.{Found}
use Rattle.s80_scope.specs.declared.shape.Shape.{Shape}

-- The names that are used in a part: those that are assigned, and those that stand as operands, in text order.
abbrev mutual
  pub expr_uses : ExprTree → List NameAt
  expr_uses (expr targets p ms cs) = targets ++ (primary_uses p ++ (messages_uses ms ++ messages_uses cs))

  pub primary_uses : PrimaryTree → List NameAt
  primary_uses (name n) = n ∷ []
  primary_uses (literal v) = []
  primary_uses (block ps ss) = body_uses ss
  primary_uses (paren e) = expr_uses e

  pub exprs_uses : ExprTrees → List NameAt
  exprs_uses no_exprs = []
  exprs_uses (exprs e es) = expr_uses e ++ exprs_uses es

  pub messages_uses : MessageTrees → List NameAt
  messages_uses no_messages = []
  messages_uses (messages s es ms) = exprs_uses es ++ messages_uses ms

  pub body_uses : BodyTree → List NameAt
  body_uses no_stmts = []
  body_uses (stmts r e ss) = expr_uses e ++ body_uses ss

-- a declared word, and the uses of names within what the declaration is visible in
pub record Declaration : Type 0 where
  pub word : List ℕ
  pub extent : List NameAt

-- these names are declared, and visible where these uses stand
abbrev pub declared_over : List NameAt → List NameAt → List Declaration
declared_over uses names = map (λ n. record { word = n.name; extent = uses }) names

-- The declarations of a part, in text order: those of its blocks, whose parameters are visible in the block's body.
abbrev mutual
  pub expr_declarations : ExprTree → List Declaration
  expr_declarations (expr targets p ms cs) = primary_declarations p ++ (messages_declarations ms ++ messages_declarations cs)

  pub primary_declarations : PrimaryTree → List Declaration
  primary_declarations (name n) = []
  primary_declarations (literal v) = []
  primary_declarations (block ps ss) = declared_over (body_uses ss) ps ++ body_declarations ss
  primary_declarations (paren e) = expr_declarations e

  pub exprs_declarations : ExprTrees → List Declaration
  exprs_declarations no_exprs = []
  exprs_declarations (exprs e es) = expr_declarations e ++ exprs_declarations es

  pub messages_declarations : MessageTrees → List Declaration
  messages_declarations no_messages = []
  messages_declarations (messages s es ms) = exprs_declarations es ++ messages_declarations ms

  pub body_declarations : BodyTree → List Declaration
  body_declarations no_stmts = []
  body_declarations (stmts r e ss) = expr_declarations e ++ body_declarations ss

-- the uses of names in a method
abbrev pub uses_of : MethodParts → List NameAt
uses_of m = body_uses m.body

-- the declarations of a method: parameters and temporaries, visible in the whole body, and then those of its blocks. Each
-- temporary of the method's home has its place in this list as its number.
abbrev pub declarations_of : MethodParts → List Declaration
declarations_of m = declared_over (body_uses m.body) (m.parameters ++ m.temporaries) ++ body_declarations m.body

abbrev pub is_at : ℕ → NameAt → Bool
is_at at n = n.at == at

-- exactly one of these uses has that place
abbrev pub IsUsedOnce : ℕ → List NameAt → Type 0
IsUsedOnce at uses = count_by (is_at at) uses ≡ 1

-- the declaration has the word of a use, and is visible there
abbrev pub declares : NameAt → Declaration → Bool
declares use_of d = bytes_eq use_of.name d.word && list_any (is_at use_of.at) d.extent

-- the place of the last element that passes the test
abbrev pub last_place : {X : Type 0} → (X → Bool) → List X → Option ℕ
last_place test [] = None
last_place test (x ∷ xs) = option_map_or (λ i. Some (suc i)) (last_place test xs) (cond (test x) (Some 0) None)

-- what a reserved word means
abbrev pub reserved_meanings : List (List ℕ × WhereTree)
reserved_meanings =
    (codes "self", self_ref)
    ∷ (codes "super", super_ref)
    ∷ (codes "thisContext", context)
    ∷ (codes "true", constant true_literal)
    ∷ (codes "false", constant false_literal)
    ∷ (codes "nil", constant nil_literal)
    ∷ []

abbrev pub reserved_meaning : List ℕ → Option WhereTree
reserved_meaning word = option_map (λ r. r.1) (find (λ r. bytes_eq word r.0) reserved_meanings)

-- what a word means that is a temporary of this number or of none, in a class of this shape: of two instance variables the
-- nearer one stands later, of two class variables earlier
abbrev pub word_means : List ℕ → Option ℕ → Shape → WhereTree
word_means word number shape =
    option_map_or (λ meaning. meaning) (reserved_meaning word)
    (option_map_or temp number
    (option_map_or inst (last_place (bytes_eq word) shape.inst_vars)
    (option_map_or (λ b. class_var b.owner b.name) (find (λ b. bytes_eq word b.name) shape.class_vars)
    (outer word))))

-- what a use of a name means in a method of a class of this shape: among the declarations that are visible there, the last
-- one in text order is the innermost, and of equal ones in one scope the last
abbrev pub means : MethodParts → Shape → NameAt → WhereTree
means m shape use_of = word_means use_of.name (last_place (declares use_of) (declarations_of m)) shape

-- the places of these uses rise, so that no two are equal
abbrev pub AreInOrder : List NameAt → Type 0
AreInOrder uses = AllPairs (λ one other. one.at < other.at) uses

-- one extent is part of another
abbrev pub IsWithin : List NameAt → List NameAt → Type 0
IsWithin part whole = (before after : List NameAt) × (whole ≡ before ++ (part ++ after))

-- ---- what private functions promise

-- a name has this word
abbrev pub has_word : List ℕ → NameAt → Bool
has_word word n = bytes_eq word n.name

-- the number of the last of these names that has the word, where the first of them has the number first
abbrev pub number_among : List NameAt → ℕ → List ℕ → Option ℕ
number_among names first word = option_map (λ i. first + i) (last_place (has_word word) names)

-- in a part with these uses and declarations, of which the first has the number first, this use is the first at the place,
-- and where no other is there, its number is that of its declaration
pub record IsFound (at first : ℕ) (uses : List NameAt) (declared : List Declaration) (found : Found) : Type 0 where
  pub here : find (is_at at) uses ≡ Some found.name.now
  pub number : count_by (is_at at) uses ≤ 1 → found.number ≡ option_map (λ i. first + i) (last_place (declares found.name.now) declared)

-- the walk breaks off at the use that has the place, or none has it, and it goes on with the number behind the declarations
abbrev pub Walks : ℕ → ℕ → List NameAt → List Declaration → ControlFlow Found ℕ → Type 0
Walks at first uses declared (Continue next) = (next ≡ first + length declared) × (find (is_at at) uses ≡ None)
Walks at first uses declared (Break found) = IsFound at first uses declared found
