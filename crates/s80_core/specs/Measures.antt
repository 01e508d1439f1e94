-- What the code of a core tree needs: bytes, values on a stack, entries of the frame, and numbers in range.
use Rattle.std.specs.Prelude.{ℕ, ◌+◌, ◌*◌, ◌≤◌, ◌<◌, List, [], ◌∷◌, ◌++◌, Bool, true, false, length, nat_le, Option, Some, None, if◌then◌else◌, pos, negsuc}
use Rattle.std.specs.List.{All, Contains}
use Rattle.std.specs.Option.{option_map_or}
use Rattle.s80_base.specs.Literal.{LiteralTree, small, symbol, true_literal, false_literal, nil_literal}
use Rattle.s80_code.specs.Entries as frame
use Rattle.s80_code.specs.Entries.{EntryTree}
use Rattle.s80_code.specs.Special.{special_number}
use Rattle.s80_scope.specs.declared.fit.position.Position.{Position}
use Rattle.s80_scope.specs.declared.fit.position.Position.TheVariants.{Value, Effect}
use Rattle.s80_scope.specs.FitStack.{Needs, at_least, greatest, above}
use Rattle.s80_scope.specs.FitStack as stack
use Rattle.s80_core.specs.Core.{VariableTree, temporary, instance, class_variable, outer, LeafTree, variable, constant, receiver, context, CoreTree, CoreTrees, SendTrees, leaf, assign, value, send, cascade, real_block, two_arms, one_arm, shortcut, repeat, nothing, before, answer, answer_fixed, leave, no_cores, cores, no_sends, sends, count}

-- ---- instructions without an entry

-- the constants that have an instruction of their own, by its number: true, false, nil, -1, 0, 1, 2
abbrev pub fixed_number : LiteralTree → Option ℕ
fixed_number true_literal = Some 1
fixed_number false_literal = Some 2
fixed_number nil_literal = Some 3
fixed_number (small (pos n)) = if nat_le n 2 then Some (5 + n) else None
fixed_number (small (negsuc n)) = if nat_le n 0 then Some 4 else None
fixed_number _ = None

-- the messages that have an instruction of their own, by its number; none where they are sent to super
abbrev pub sent_number : Bool → List ℕ → Option ℕ
sent_number true s = None
sent_number false s = special_number s

-- ---- bytes

-- the pop of a value that isn't wanted
abbrev pub popped : Position → ℕ
popped Value = 0
popped Effect = 1

-- the number of a block's parameters: up to 2 by one byte
abbrev pub count_width : ℕ → ℕ
count_width n = if nat_le n 2 then 1 else 2

-- nil, where a value is wanted
abbrev pub nil_width : Position → ℕ
nil_width Value = 1
nil_width Effect = 0

-- the most bytes that a part takes
abbrev mutual
  pub size : Position → CoreTree → ℕ
  size p (leaf l) = 2 + popped p
  size p (assign v e) = size Value e + 2
  size p (value e) = size Value e + popped p
  size p (send r to_super s es) = size Value r + size_all es + 3 + popped p
  size p (cascade r to_super ms) = size Value r + size_sends ms + popped p
  size p (real_block first n e) = 4 + count_width n + 2 * n + size Effect e + popped p
  size p (two_arms on c a b) = size Value c + 2 + size p a + 2 + size p b
  size Value (one_arm on c a) = size Value c + 2 + size Value a + 2 + 1
  size Effect (one_arm on c a) = size Value c + 2 + size Effect a
  size p (shortcut on c a) = size Value c + 2 + size Value a + 2 + 1 + popped p
  size p (repeat on c e) = size Value c + 2 + size Effect e + 2 + nil_width p
  size p nothing = nil_width p
  size p (before a b) = size Effect a + size p b
  size p (answer e) = size Value e + 1
  size p (answer_fixed n) = 1
  size p (leave e) = size Value e + 1

  pub size_all : CoreTrees → ℕ
  size_all no_cores = 0
  size_all (cores c cs) = size Value c + size_all cs

  -- a message before another one has a duplicate and a pop beside its send
  pub size_sends : SendTrees → ℕ
  size_sends no_sends = 0
  size_sends (sends s es no_sends) = size_all es + 3
  size_sends (sends s es ms) = 1 + size_all es + 3 + 1 + size_sends ms

-- ---- the stack

abbrev mutual
  pub needs : CoreTree → Needs
  needs (leaf l) = at_least 1
  needs (assign v e) = needs e
  needs (value e) = needs e
  needs (send r to_super s es) = greatest (needs r) (needs_all 1 es)
  needs (cascade r to_super ms) = greatest (needs r) (needs_sends ms)
  needs (real_block first n e) = stack.real_block n (needs e)
  needs (two_arms on c a b) = greatest (needs c) (greatest (needs a) (needs b))
  needs (one_arm on c a) = greatest (needs c) (greatest (needs a) (at_least 1))
  needs (shortcut on c a) = greatest (needs c) (greatest (needs a) (at_least 1))
  needs (repeat on c e) = greatest (needs c) (greatest (needs e) (at_least 1))
  needs nothing = at_least 1
  needs (before a b) = greatest (needs a) (needs b)
  needs (answer e) = needs e
  needs (answer_fixed n) = at_least 0
  needs (leave e) = needs e

  -- arguments, with so many values below the first
  pub needs_all : ℕ → CoreTrees → Needs
  needs_all n no_cores = at_least n
  needs_all n (cores c cs) = greatest (above n (needs c)) (needs_all (n + 1) cs)

  pub needs_sends : SendTrees → Needs
  needs_sends no_sends = at_least 0
  needs_sends (sends s es no_sends) = needs_all 1 es
  needs_sends (sends s es ms) = greatest (needs_all 2 es) (needs_sends ms)

-- ---- the frame

abbrev pub variable_entries : VariableTree → List EntryTree
variable_entries (temporary number) = []
variable_entries (instance place) = []
variable_entries (class_variable owner word) = frame.class_variable owner word ∷ []
variable_entries (outer word) = frame.outer word ∷ []

abbrev pub constant_entries : LiteralTree → List EntryTree
constant_entries v = option_map_or (λ n. []) (fixed_number v) (frame.constant v ∷ [])

abbrev pub leaf_entries : LeafTree → List EntryTree
leaf_entries (variable v) = variable_entries v
leaf_entries (constant v) = constant_entries v
leaf_entries receiver = []
leaf_entries context = []

abbrev pub selector_entries : Bool → List ℕ → List EntryTree
selector_entries to_super s = option_map_or (λ n. []) (sent_number to_super s) (frame.constant (symbol s) ∷ [])

-- the entries of a part, in the order of its code, with equal ones
abbrev mutual
  pub entries : CoreTree → List EntryTree
  entries (leaf l) = leaf_entries l
  entries (assign v e) = entries e ++ variable_entries v
  entries (value e) = entries e
  entries (send r to_super s es) = entries r ++ (entries_all es ++ selector_entries to_super s)
  entries (cascade r to_super ms) = entries r ++ entries_sends to_super ms
  entries (real_block first n e) = constant_entries (small (pos n)) ++ entries e
  entries (two_arms on c a b) = entries c ++ (entries a ++ entries b)
  entries (one_arm on c a) = entries c ++ entries a
  entries (shortcut on c a) = entries c ++ entries a
  entries (repeat on c e) = entries c ++ entries e
  entries nothing = []
  entries (before a b) = entries a ++ entries b
  entries (answer e) = entries e
  entries (answer_fixed n) = []
  entries (leave e) = entries e

  pub entries_all : CoreTrees → List EntryTree
  entries_all no_cores = []
  entries_all (cores c cs) = entries c ++ entries_all cs

  pub entries_sends : Bool → SendTrees → List EntryTree
  entries_sends to_super no_sends = []
  entries_sends to_super (sends s es ms) = (entries_all es ++ selector_entries to_super s) ++ entries_sends to_super ms

-- ---- numbers

abbrev pub InRange : ℕ → VariableTree → Type 0
InRange temporaries (temporary number) = number < temporaries
InRange temporaries (instance place) = place < 64
InRange temporaries _ = Unit {0}

-- with so many temporaries
abbrev mutual
  pub AreInRange : ℕ → CoreTree → Type 0
  AreInRange t (leaf (variable v)) = InRange t v
  AreInRange t (leaf l) = Unit {0}
  AreInRange t (assign v e) = InRange t v × AreInRange t e
  AreInRange t (value e) = AreInRange t e
  AreInRange t (send r to_super s es) = AreInRange t r × AllInRange t es
  AreInRange t (cascade r to_super ms) = AreInRange t r × SendsInRange t ms
  AreInRange t (real_block first n e) = (first + n ≤ t) × AreInRange t e
  AreInRange t (two_arms on c a b) = AreInRange t c × (AreInRange t a × AreInRange t b)
  AreInRange t (one_arm on c a) = AreInRange t c × AreInRange t a
  AreInRange t (shortcut on c a) = AreInRange t c × AreInRange t a
  AreInRange t (repeat on c e) = AreInRange t c × AreInRange t e
  AreInRange t nothing = Unit {0}
  AreInRange t (before a b) = AreInRange t a × AreInRange t b
  AreInRange t (answer e) = AreInRange t e
  AreInRange t (answer_fixed n) = n ≤ 3
  AreInRange t (leave e) = AreInRange t e

  pub AllInRange : ℕ → CoreTrees → Type 0
  AllInRange t no_cores = Unit {0}
  AllInRange t (cores c cs) = AreInRange t c × AllInRange t cs

  pub SendsInRange : ℕ → SendTrees → Type 0
  SendsInRange t no_sends = Unit {0}
  SendsInRange t (sends s es ms) = AllInRange t es × SendsInRange t ms

-- a message has at most 31 arguments
abbrev mutual
  pub HasFewArguments : CoreTree → Type 0
  HasFewArguments (leaf l) = Unit {0}
  HasFewArguments (assign v e) = HasFewArguments e
  HasFewArguments (value e) = HasFewArguments e
  HasFewArguments (send r to_super s es) = HasFewArguments r × (AllHaveFewArguments es × (count es ≤ 31))
  HasFewArguments (cascade r to_super ms) = HasFewArguments r × SendsHaveFewArguments ms
  HasFewArguments (real_block first n e) = HasFewArguments e
  HasFewArguments (two_arms on c a b) = HasFewArguments c × (HasFewArguments a × HasFewArguments b)
  HasFewArguments (one_arm on c a) = HasFewArguments c × HasFewArguments a
  HasFewArguments (shortcut on c a) = HasFewArguments c × HasFewArguments a
  HasFewArguments (repeat on c e) = HasFewArguments c × HasFewArguments e
  HasFewArguments nothing = Unit {0}
  HasFewArguments (before a b) = HasFewArguments a × HasFewArguments b
  HasFewArguments (answer e) = HasFewArguments e
  HasFewArguments (answer_fixed n) = Unit {0}
  HasFewArguments (leave e) = HasFewArguments e

  pub AllHaveFewArguments : CoreTrees → Type 0
  AllHaveFewArguments no_cores = Unit {0}
  AllHaveFewArguments (cores c cs) = HasFewArguments c × AllHaveFewArguments cs

  pub SendsHaveFewArguments : SendTrees → Type 0
  SendsHaveFewArguments no_sends = Unit {0}
  SendsHaveFewArguments (sends s es ms) = (AllHaveFewArguments es × (count es ≤ 31)) × SendsHaveFewArguments ms

-- ---- ends

-- a body that ends itself: it returns from the method, or leaves its block; and real blocks alone are left
abbrev mutual
  pub Finishes : Bool → CoreTree → Type 0
  Finishes in_block (before a b) = LeavesBlocks a × Finishes in_block b
  Finishes in_block (answer e) = LeavesBlocks e
  Finishes in_block (answer_fixed n) = Unit {0}
  Finishes true (leave e) = LeavesBlocks e
  Finishes in_block _ = ⊥

  -- each real block in it ends itself, and nothing else is left
  pub LeavesBlocks : CoreTree → Type 0
  LeavesBlocks (leaf l) = Unit {0}
  LeavesBlocks (assign v e) = LeavesBlocks e
  LeavesBlocks (value e) = LeavesBlocks e
  LeavesBlocks (send r to_super s es) = LeavesBlocks r × AllLeaveBlocks es
  LeavesBlocks (cascade r to_super ms) = LeavesBlocks r × SendsLeaveBlocks ms
  LeavesBlocks (real_block first n e) = Finishes true e
  LeavesBlocks (two_arms on c a b) = LeavesBlocks c × (LeavesBlocks a × LeavesBlocks b)
  LeavesBlocks (one_arm on c a) = LeavesBlocks c × LeavesBlocks a
  LeavesBlocks (shortcut on c a) = LeavesBlocks c × LeavesBlocks a
  LeavesBlocks (repeat on c e) = LeavesBlocks c × LeavesBlocks e
  LeavesBlocks nothing = Unit {0}
  LeavesBlocks (before a b) = LeavesBlocks a × LeavesBlocks b
  LeavesBlocks (answer e) = LeavesBlocks e
  LeavesBlocks (answer_fixed n) = Unit {0}
  LeavesBlocks (leave e) = ⊥

  pub AllLeaveBlocks : CoreTrees → Type 0
  AllLeaveBlocks no_cores = Unit {0}
  AllLeaveBlocks (cores c cs) = LeavesBlocks c × AllLeaveBlocks cs

  pub SendsLeaveBlocks : SendTrees → Type 0
  SendsLeaveBlocks no_sends = Unit {0}
  SendsLeaveBlocks (sends s es ms) = AllLeaveBlocks es × SendsLeaveBlocks ms

-- ---- what fits

-- at most so many different entries
abbrev pub IsCovered : ℕ → List EntryTree → Type 0
IsCovered most entries = (allowed : List EntryTree) × (length allowed ≤ most) × All (Contains allowed) entries

-- a home with so many temporaries and so much room
pub record CoreFits (temporaries room : ℕ) (core : CoreTree) : Type 0 where
  pub size : size Effect core ≤ 1023
  pub home : (needs core).here + temporaries ≤ room
  pub blocks : (needs core).inside ≤ room
  pub entries : IsCovered 60 (entries core)
  pub range : AreInRange temporaries core
  pub few : HasFewArguments core
  pub finishes : Finishes false core
