-- Why a text is refused by itself, and what the source of a method is by itself.
use Rattle.std.specs.Prelude.{◌≡◌, ◌⊎◌, ℕ, List, [], Bool, Option, Some, None, Result, Ok, Err}
use Rattle.s80_tree.specs.declared.method.MethodTree.{MethodTree}
use Rattle.s80_tree.specs.Tree.{MethodParts, DoItParts, method_of}
use Rattle.s80_syntax.specs.Lexeme.{Lexemes}
use Rattle.s80_syntax.specs.Faults.{IsMethodText}
use Rattle.s80_syntax.specs.declared.fault.ParseFault.{ParseFault}
use Rattle.s80_syntax.specs.declared.fault.ParseFault.TheVariants as faults
use Rattle.s80_syntax.specs.Text.{IsMethodOf, IsFaultOf}
use Rattle.s80_scope.specs.declared.fit.Fit.{Fit}
use Rattle.s80_scope.specs.declared.fit.Fit.TheVariants as fits
use Rattle.s80_scope.specs.declared.fit.FitKind.{FitKind}
use Rattle.s80_scope.specs.declared.fit.FitKind.TheVariants as measure
use Rattle.s80_scope.specs.Fit.{fit, measures, cut_measures}
use Rattle.s80_form.specs.declared.refusal.FitWord.{FitWord}
use Rattle.s80_form.specs.declared.refusal.FitWord.TheVariants as words
use Rattle.s80_form.specs.declared.refusal.SyntaxKind.{SyntaxKind}
use Rattle.s80_form.specs.declared.refusal.SyntaxKind.TheVariants as kinds
use Rattle.s80_form.specs.declared.refusal.Refusal.{Refusal}
use Rattle.s80_form.specs.declared.refusal.Refusal.TheVariants as refusals
use Rattle.s80_form.specs.declared.refusal.Refused.{Refused}
use Rattle.s80_form.specs.declared.refusal.Refused.TheVariants as refused

-- ---- the syntax

abbrev pub fault_of : SyntaxKind → ℕ → ParseFault
fault_of kinds.UnendedToken place = faults.Unended place
fault_of kinds.BadByte place = faults.BadByte place
fault_of kinds.BadNumber place = faults.BadNumber place
fault_of kinds.Unexpected place = faults.Unexpected place
fault_of kinds.NotAssignable place = faults.NotAssignable place
fault_of kinds.Nested place = faults.Nested place

-- the text has no tree of this form, and this is its first fault
abbrev pub IsSyntaxRefusal : (Bool → Lexemes → Type 0) → List ℕ → Refusal → Type 0
IsSyntaxRefusal IsText text (refusals.Syntax kind place) = IsFaultOf IsText text (fault_of kind place)
IsSyntaxRefusal IsText text _ = ⊥

-- ---- the measures

abbrev pub word_of : FitKind → FitWord
word_of measure.Literals = words.Literals
word_of measure.Temporaries = words.Temporaries
word_of measure.Stack = words.Stack
word_of measure.Weight = words.Weight

abbrev pub too_large : Fit → Option Refusal
too_large fits.Fits = None
too_large (fits.TooMuch kind count) = Some (refusals.TooLarge (word_of kind) count)

-- the first measure of a method that is above its limit, where one is
abbrev pub size_refusal : MethodParts → Option Refusal
size_refusal m = too_large (fit (cut_measures (measures m)))

-- a doIt as a method with an empty selector
abbrev pub as_method : DoItParts → MethodParts
as_method tree = record { selector = []; parameters = []; temporaries = tree.temporaries; primitive = 0; body = tree.body }

-- ---- the source of a method

-- the selector of the method that a source is, where that fits a machine; or else why each class refuses it
abbrev pub IsCheckOf : List ℕ → Result (List ℕ) Refusal → Type 0
IsCheckOf source (Ok selector) = (m : MethodParts) × IsMethodOf source m × (size_refusal m ≡ None) × (selector ≡ m.selector)
IsCheckOf source (Err refusal) = IsSyntaxRefusal IsMethodText source refusal ⊎ ((m : MethodParts) × IsMethodOf source m × (size_refusal m ≡ Some refusal))

-- ---- what fits

-- the method itself, which fits; or the refusal of its size
abbrev pub IsFitting : MethodParts → Result MethodTree Refusal → Type 0
IsFitting m (Ok tree) = (method_of tree ≡ m) × (size_refusal m ≡ None)
IsFitting m (Err refusal) = size_refusal m ≡ Some refusal

-- the same of the method that a doIt is evaluated as, or out of memory
abbrev pub IsFittingDoIt : DoItParts → Result MethodTree Refused → Type 0
IsFittingDoIt tree (Ok method) = (method_of method ≡ as_method tree) × (size_refusal (as_method tree) ≡ None)
IsFittingDoIt tree (Err refused.Memory) = Unit {0}
IsFittingDoIt tree (Err (refused.Refusal refusal)) = size_refusal (as_method tree) ≡ Some refusal
