-- How many entries a method's literal frame has beside those that its header asks for.
use Rattle.std.specs.Prelude.{ℕ, suc, List, [], ◌∷◌, ◌++◌, Bool, false, ◌&&◌, ◌||◌, not, cond, map, length, is_some, nat_le, if◌then◌else◌, pos, negsuc}
use Rattle.std.specs.Ordering.{nat_cmp}
use Rattle.std.specs.Cmp.Lexicographic.{slice_cmp}
use Rattle.std.specs.FinSet as set
use Rattle.s80_base.specs.Literal.{LiteralTree, LiteralTrees, small, character, str, symbol, array, true_literal, false_literal, nil_literal, number, no_literals, literals, kind_number}
use Rattle.s80_code.specs.Special.{special_number}
use Rattle.s80_tree.specs.declared.name.NameAt.{NameAt}
use Rattle.s80_tree.specs.Tree.{ExprTree, PrimaryTree, ExprTrees, MessageTrees, BodyTree, MethodParts, expr, name, literal, block, paren, no_exprs, exprs, no_messages, messages, no_stmts, stmts, is_super}
use Rattle.s80_syntax.specs.Word.{names_in, has_name, is_reserved}
use Rattle.s80_scope.specs.Inlined.{ending, is_inlined, is_single}

-- a constant, or a variable that isn't declared in the method
pub data Entry : Type 0 where
  constant : LiteralTree → Entry
  variable : List ℕ → Entry

-- ---- what has an entry

-- -1, 0, 1, 2, true, false and nil have instructions of their own
abbrev pub constant_entries : LiteralTree → List Entry
constant_entries (small (pos n)) = if nat_le n 2 then [] else constant (small (pos n)) ∷ []
constant_entries (small (negsuc n)) = if nat_le n 0 then [] else constant (small (negsuc n)) ∷ []
constant_entries true_literal = []
constant_entries false_literal = []
constant_entries nil_literal = []
constant_entries v = constant v ∷ []

-- a name, with the names that are declared where it stands
abbrev pub name_entries : (List ℕ → Bool) → List ℕ → List Entry
name_entries declared word = if declared word || is_reserved word then [] else variable word ∷ []

-- a selector whose send has a byte of its own
unfoldable pub is_special : List ℕ → Bool
is_special s = is_some (special_number s)

-- a selector that is sent, to super or not
abbrev pub selector_entries : Bool → List ℕ → List Entry
selector_entries to_super s = if not to_super && is_special s then [] else constant (symbol s) ∷ []

-- ---- the entries of a tree, in the order of its code, with equal ones

-- targets are assigned from the right
abbrev pub target_entries : (List ℕ → Bool) → List NameAt → List Entry
target_entries declared [] = []
target_entries declared (n ∷ ns) = target_entries declared ns ++ name_entries declared n.name

-- names declared by a list, and around it
abbrev pub declares : List NameAt → (List ℕ → Bool) → List ℕ → Bool
declares names outer word = has_name (names_in names) word || outer word

abbrev mutual
  pub expr_entries : (List ℕ → Bool) → ExprTree → List Entry
  expr_entries declared (expr targets p ms cs) =
      primary_entries declared p
      ++ messages_entries declared (is_super p) false (is_inlined (ending p ms cs)) ms
      ++ messages_entries declared (is_super p && is_single ms) (is_super p && is_single ms) false cs
      ++ target_entries declared targets

  -- a real block has its number of parameters as a constant
  pub primary_entries : (List ℕ → Bool) → PrimaryTree → List Entry
  primary_entries declared (name n) = name_entries declared n.name
  primary_entries declared (literal v) = constant_entries v
  primary_entries declared (paren e) = expr_entries declared e
  primary_entries declared (block ps ss) = constant_entries (small (pos (length ps))) ++ body_entries (declares ps declared) ss

  -- messages to one receiver: whether the first and whether the others are sent to super, and whether the last is inlined
  pub messages_entries : (List ℕ → Bool) → Bool → Bool → Bool → MessageTrees → List Entry
  messages_entries declared first others inlined no_messages = []
  messages_entries declared first others inlined (messages s es no_messages) =
      exprs_entries declared es ++ cond inlined [] (selector_entries first s)
  messages_entries declared first others inlined (messages s es ms) =
      (exprs_entries declared es ++ selector_entries first s) ++ messages_entries declared others others inlined ms

  pub exprs_entries : (List ℕ → Bool) → ExprTrees → List Entry
  exprs_entries declared no_exprs = []
  exprs_entries declared (exprs e es) = expr_entries declared e ++ exprs_entries declared es

  pub body_entries : (List ℕ → Bool) → BodyTree → List Entry
  body_entries declared no_stmts = []
  body_entries declared (stmts r e ss) = expr_entries declared e ++ body_entries declared ss

abbrev pub entries : MethodParts → List Entry
entries m = body_entries (declares m.temporaries (declares m.parameters (λ word. false))) m.body

-- ---- how many are different

-- An entry as a key: no two entries have one key, as `keys_tell_entries_apart` says. A label is what a literal spells,
-- with its kind; behind it stand the elements of an array.
abbrev pub label : LiteralTree → List ℕ
label (small (pos n)) = 0 ∷ n ∷ []
label (small (negsuc n)) = 1 ∷ n ∷ []
label (character c) = 2 ∷ c ∷ []
label (str bytes) = 3 ∷ bytes
label (symbol bytes) = 4 ∷ bytes
label (array vs) = 5 ∷ []
label true_literal = 6 ∷ []
label false_literal = 7 ∷ []
label nil_literal = 8 ∷ []
label (number kind bytes) = 9 ∷ kind_number kind ∷ bytes

-- numbers one greater, up to a 0
abbrev pub ended : List ℕ → List ℕ
ended [] = 0 ∷ []
ended (n ∷ ns) = suc n ∷ ended ns

abbrev mutual
  pub literal_key : LiteralTree → List ℕ
  literal_key (array vs) = ended (label (array vs)) ++ literals_key vs
  literal_key v = ended (label v) ++ 0 ∷ []

  pub literals_key : LiteralTrees → List ℕ
  literals_key no_literals = 0 ∷ []
  literals_key (literals v vs) = 1 ∷ literal_key v ++ literals_key vs

abbrev pub key : Entry → List ℕ
key (constant v) = 0 ∷ literal_key v
key (variable word) = 1 ∷ word

-- sets of keys
abbrev pub Keys : Type 0
Keys = set.FinSet {K = List ℕ} (slice_cmp nat_cmp)

abbrev pub literal_count : MethodParts → ℕ
literal_count m = set.len {R = slice_cmp nat_cmp} (set.from_list (map key (entries m)))
