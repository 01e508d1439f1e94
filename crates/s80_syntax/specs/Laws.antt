-- Laws of the grammar.
use Rattle.std.specs.Prelude.{◌≡◌, ◌⊎◌, [], ◌∷◌, Bool, true}
use Rattle.s80_tree.specs.Tree.{MethodParts, DoItParts}
use Rattle.s80_syntax.specs.Lexeme.{Lexemes}
use Rattle.s80_syntax.specs.Grammar.{IsMethod, IsDoIt}
use Rattle.s80_syntax.specs.Limits.{IsLawfulMethod, IsLawfulDoIt}
use Rattle.s80_syntax.specs.Faults.{Wrong, IsFault}
use Rattle.s80_syntax.specs.Stack.{Symbol, method_start, doit_start, Accepts, Fails, run}

-- a text has at most one tree
abbrev pub OneMethod : Type 0
OneMethod = (m n : MethodParts) (ts : Lexemes) → IsMethod m ts → IsMethod n ts → m ≡ n

abbrev pub OneDoIt : Type 0
OneDoIt = (d e : DoItParts) (ts : Lexemes) → IsDoIt d ts → IsDoIt e ts → d ≡ e

-- tokens are a lawful text or have a fault
abbrev pub TextOrFault : (Bool → Lexemes → Type 0) → Type 0
TextOrFault IsText = (ts : Lexemes) → IsText true ts ⊎ ((w : Wrong) × (rest : Lexemes) × IsFault IsText w ts rest)

-- a lawful text has no fault
abbrev pub NoFaultInText : (Bool → Lexemes → Type 0) → Type 0
NoFaultInText IsText = (w : Wrong) (ts rest : Lexemes) → IsText true ts → IsFault IsText w ts rest → ⊥

-- tokens have at most one fault
abbrev pub OneFault : (Bool → Lexemes → Type 0) → Type 0
OneFault IsText = (w v : Wrong) (ts rest more : Lexemes) → IsFault IsText w ts rest → IsFault IsText v ts more → (w ≡ v) × (rest ≡ more)

-- every token of a tree is taken
abbrev pub MethodTaken : Type 0
MethodTaken = (strict : Bool) (m : MethodParts) (ts : Lexemes) → IsMethod m ts → IsLawfulMethod strict m → run strict ts (method_start ∷ []) ≡ Accepts

abbrev pub DoItTaken : Type 0
DoItTaken = (strict : Bool) (d : DoItParts) (ts : Lexemes) → IsDoIt d ts → IsLawfulDoIt strict d → run strict ts (doit_start ∷ []) ≡ Accepts

-- where not all tokens are taken, the run stops at their fault
abbrev pub StopsAtFault : (Bool → Lexemes → Type 0) → Symbol → Type 0
StopsAtFault IsText start = (w : Wrong) (ts rest : Lexemes) → run true ts (start ∷ []) ≡ Fails w rest → IsFault IsText w ts rest
