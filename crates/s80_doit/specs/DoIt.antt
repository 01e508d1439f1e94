-- DoIts, their code and their runs.
use Rattle.std.specs.Prelude.{◌≡◌, ℕ, Bool, true, false, List, [], None, codes}
use Rattle.s80_base.specs.declared.names.Side.TheVariants.{Instance}
use Rattle.s80_tree.specs.declared.method.MethodTree.{MethodTree}
use Rattle.s80_tree.specs.Tree.{DoItParts, method_of}
use Rattle.s80_syntax.specs.Text.{IsDoItOf}
use Rattle.s80_code.specs.declared.code.Code.{Code}
use Rattle.s80_compile.specs.Compiles.{Compiles}
use Rattle.s80_change.specs.Check.{as_method, size_refusal}
use Rattle.s80_class.specs.Known.{IsKnown}
use Rattle.s80_apply.specs.Codes.{AreCodes}
use Rattle.s80_apply.specs.System.{SystemState}
use Rattle.s80_prims.specs.declared.stop.End.{End}
use Rattle.s80_prims.specs.declared.stop.End.TheVariants.{Answer, Stopped}
use Rattle.s80_machine.specs.Came.{RanValue}
use Rattle.s80_machine.specs.Run.{RunsTo}

-- the text has a tree, which fits a machine
abbrev pub Fits : List ℕ → Type 0
Fits text = (tree : DoItParts) × IsDoItOf text tree × (size_refusal (as_method tree) ≡ None)

-- the method is the text's tree, which fits, as it is evaluated
pub record IsMethodOfDoIt (text : List ℕ) (method : MethodTree) : Type 0 where
  pub tree : DoItParts
  pub tree_is : IsDoItOf text tree
  pub method_is : method_of method ≡ as_method tree
  pub fits : size_refusal (as_method tree) ≡ None

-- the code is that of the text's tree, which fits, as a method of the instances of UndefinedObject that sees no variable of a class
pub record IsDoItCode (text : List ℕ) (code : Code) : Type 0 where
  pub tree : DoItParts
  pub tree_is : IsDoItOf text tree
  pub fits : size_refusal (as_method tree) ≡ None
  pub compiles : Compiles (as_method tree) (record { inst_vars = []; class_vars = [] }) (codes "UndefinedObject") Instance code

-- classes and methods among which doIts are run: each class has one number, and each method the code of its source
pub record AreGiven (system : SystemState) : Type 0 where
  pub classes : IsKnown system.table
  pub codes : AreCodes system.table system.methods

-- the run of the text's code among these classes and methods under the budget comes to this
pub record IsRunOf (system : SystemState) (text : List ℕ) (budget : ℕ) (ran : RanValue) : Type 0 where
  pub code : Code
  pub code_is : IsDoItCode text code
  pub runs : RunsTo system.table system.methods code budget ran.outcome
  pub budget_is : ran.budget ≡ budget

-- a run that gave no answer
abbrev pub is_stopped : End → Bool
is_stopped (Answer v) = false
is_stopped (Stopped stop) = true
