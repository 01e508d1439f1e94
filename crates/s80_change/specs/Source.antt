-- The source of a method, and what it is by itself.
use Rattle.std.specs.Prelude.{◌≡◌, List, ℕ, None, Result, Ok, Err}
use Rattle.s80_tree.specs.declared.method.MethodTree.{MethodTree}
use Rattle.s80_tree.specs.Tree.{method_of}
use Rattle.s80_syntax.specs.Text.{IsMethodOf}
use Rattle.s80_form.specs.declared.refusal.Refusal.{Refusal}
use Rattle.s80_change.specs.Check.{IsCheckOf, size_refusal}

-- its text; and the selector of the method that it is, or why each class refuses it
pub record SourceParts : Type 0 where
  pub text : List ℕ
  pub selector : Result (List ℕ) Refusal

abbrev pub selector_of : Result MethodTree Refusal → Result (List ℕ) Refusal
selector_of (Ok tree) = Ok tree.selector
selector_of (Err refusal) = Err refusal

-- the text's method, which fits a machine; or why each class refuses it
abbrev pub IsParsedText : List ℕ → Result MethodTree Refusal → Type 0
IsParsedText text (Ok tree) = IsMethodOf text (method_of tree) × (size_refusal (method_of tree) ≡ None)
IsParsedText text (Err refusal) = IsCheckOf text (Err refusal)

-- the method that a source is, which fits a machine
pub record IsTreeOf (source : SourceParts) (tree : MethodTree) : Type 0 where
  pub method : IsMethodOf source.text (method_of tree)
  pub fits : size_refusal (method_of tree) ≡ None
  pub selector : source.selector ≡ Ok tree.selector
