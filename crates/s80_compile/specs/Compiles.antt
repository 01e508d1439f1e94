-- Agreement of code with its source: a method's tree in a class, and code.
use Rattle.std.specs.Prelude.{◌≡◌, ℕ, ◌+◌, ◌*◌, ◌==◌, List, [], ◌∷◌, ◌++◌, Bool, false, ◌||◌, not, length, nat_lt, ◌⊎◌, if◌then◌else◌}
use Rattle.std.specs.List.{Contains}
use Rattle.s80_base.specs.declared.names.Side.{Side}
use Rattle.s80_code.specs.declared.code.Code.{Code}
use Rattle.s80_code.specs.Entries.{EntryTree, owner, extension, entries_of}
use Rattle.s80_tree.specs.Tree.{MethodParts}
use Rattle.s80_scope.specs.declared.shape.Shape.{Shape}
use Rattle.s80_scope.specs.declared.fit.position.Position.TheVariants.{Effect}
use Rattle.s80_scope.specs.FitStack.{stack, temporaries}
use Rattle.s80_core.specs.Core.{CoreTree, CoreTrees, SendTrees, leaf, assign, value, send, cascade, real_block, two_arms, one_arm, shortcut, repeat, nothing, before, answer, answer_fixed, leave, no_cores, cores, no_sends, sends}
use Rattle.s80_core.specs.Elaborate.{elaborated}
use Rattle.s80_core.specs.Measures.{entries}
use Rattle.s80_compile.specs.Rows.{At}

-- those of a list, each once, in the order in which they come first; without those that came before
abbrev pub AreFirsts : List EntryTree → List EntryTree → List EntryTree → Type 0
AreFirsts seen [] firsts = firsts ≡ []
AreFirsts seen (e ∷ es) firsts =
    (Contains seen e × AreFirsts seen es firsts)
    ⊎ ((Contains seen e → ⊥) × ((rest : List EntryTree) × (firsts ≡ e ∷ rest) × AreFirsts (seen ++ e ∷ []) es rest))

-- whether a message goes to super
abbrev mutual
  pub goes_to_super : CoreTree → Bool
  goes_to_super (leaf l) = false
  goes_to_super (assign v e) = goes_to_super e
  goes_to_super (value e) = goes_to_super e
  goes_to_super (send r to_super s es) = to_super || (goes_to_super r || any_to_super es)
  goes_to_super (cascade r to_super ms) = to_super || (goes_to_super r || sends_to_super ms)
  goes_to_super (real_block first n e) = goes_to_super e
  goes_to_super (two_arms on c a b) = goes_to_super c || (goes_to_super a || goes_to_super b)
  goes_to_super (one_arm on c a) = goes_to_super c || goes_to_super a
  goes_to_super (shortcut on c a) = goes_to_super c || goes_to_super a
  goes_to_super (repeat on c e) = goes_to_super c || goes_to_super e
  goes_to_super nothing = false
  goes_to_super (before a b) = goes_to_super a || goes_to_super b
  goes_to_super (answer e) = goes_to_super e
  goes_to_super (answer_fixed n) = false
  goes_to_super (leave e) = goes_to_super e

  pub any_to_super : CoreTrees → Bool
  any_to_super no_cores = false
  any_to_super (cores c cs) = goes_to_super c || any_to_super cs

  pub sends_to_super : SendTrees → Bool
  sends_to_super no_sends = false
  sends_to_super (sends s es ms) = any_to_super es || sends_to_super ms

-- a method with more than 4 parameters or with a primitive is told by an extension
abbrev pub is_extended : MethodParts → Bool
is_extended m = nat_lt 4 (length m.parameters) || not (m.primitive == 0)

abbrev pub flag_of : MethodParts → ℕ
flag_of m = if is_extended m then 7 else length m.parameters

-- the entries that the header asks for
abbrev pub last_entries : MethodParts → CoreTree → List ℕ → Side → List EntryTree
last_entries m core class side =
    if is_extended m then extension (length m.parameters * 256 + m.primitive) ∷ owner class side ∷ []
    else (if goes_to_super core then owner class side ∷ [] else [])

-- a code is that of a method with this core tree in this class
pub record IsCodeOf (m : MethodParts) (core : CoreTree) (class : List ℕ) (side : Side) (code : Code) : Type 0 where
  pub flag : code.flag ≡ flag_of m
  pub arguments : code.arguments ≡ length m.parameters
  pub primitive : code.primitive ≡ m.primitive
  pub temporaries : code.temporaries ≡ temporaries m
  pub large : code.large ≡ nat_lt 12 (stack m)
  pub plain : List EntryTree
  pub firsts : AreFirsts [] (entries core) plain
  pub frame : entries_of code.literals ≡ plain ++ last_entries m core class side
  pub body : At code.bytes (entries_of code.literals) core Effect 0 (length code.bytes)

-- a method, in a class of this shape, is compiled to this code
abbrev pub Compiles : MethodParts → Shape → List ℕ → Side → Code → Type 0
Compiles m shape class side code = IsCodeOf m (elaborated m shape) class side code

-- two codes with the same header, the same entries and the same bytes, wherever their literals lie in memory
pub record AreEqual (one other : Code) : Type 0 where
  pub flag : one.flag ≡ other.flag
  pub arguments : one.arguments ≡ other.arguments
  pub primitive : one.primitive ≡ other.primitive
  pub temporaries : one.temporaries ≡ other.temporaries
  pub large : one.large ≡ other.large
  pub literals : entries_of one.literals ≡ entries_of other.literals
  pub bytes : one.bytes ≡ other.bytes
