-- What it means that a text has a tree of a kind, or a fault.
use Rattle.std.specs.Prelude.{ℕ, List, codes}
use Rattle.s80_tree.specs.Tree.{DoItParts, MethodParts}
use Rattle.s80_syntax.specs.Faults.{IsDoItText, IsMethodText}
use Rattle.s80_syntax.specs.Text.{IsDoItOf, IsFaultOf, IsMethodOf}
use Rattle.s80_syntax.specs.declared.fault.ParseFault.{ParseFault}
use Rattle.parse_bench.specs.declared.kind.TextKind.{TextKind}
use Rattle.parse_bench.specs.declared.kind.TextKind.TheVariants.{DoIt, Method}

-- the word of the command line
abbrev pub word_of : TextKind → List ℕ
word_of DoIt = codes "doit"
word_of Method = codes "method"

abbrev pub HasTree : TextKind → List ℕ → Type 0
HasTree DoIt text = (d : DoItParts) × IsDoItOf text d
HasTree Method text = (m : MethodParts) × IsMethodOf text m

abbrev pub HasFault : TextKind → List ℕ → ParseFault → Type 0
HasFault DoIt text = IsFaultOf IsDoItText text
HasFault Method text = IsFaultOf IsMethodText text
