-- What plain texts ask whose trees fit.
use Rattle.std.proofs.Common.{ℕ, List, Ok, subst}
use Rattle.s80_tree.specs.declared.method.MethodTree.{MethodTree}
use Rattle.s80_tree.specs.Tree.{DoItParts}
use Rattle.s80_syntax.specs.Text.{IsDoItOf}
use Rattle.s80_syntax.proofs.lemmas.OneReading.{one_doit_of}
use Rattle.s80_change.specs.Check.{IsFittingDoIt}
use Rattle.s80_change.proofs.lemmas.TextOf.{no_form_text}
use Rattle.s80_form.specs.Form.{IsCondensing, IsEvaluated, IsEvaluatedText}
use Rattle.s80_doit.specs.DoIt.{IsMethodOfDoIt}
use Rattle.s80_model.specs.Asked.{AsksPlain, condenses}

-- a text with a tree asks what the tree does
evaluated_text : (text : List ℕ) (tree : DoItParts) → IsDoItOf text tree → IsEvaluated tree → IsEvaluatedText text
evaluated_text text tree is evaluated = record {
  none = no_form_text text tree is evaluated.none;
  condensing = λ of. evaluated.condensing (subst IsCondensing (one_doit_of text of.tree tree of.tree_is is) of.condensing);
}

-- a text whose tree fits, and neither has one of the forms nor asks to condense, is to be evaluated
pub doit_fits : (text : List ℕ) (tree : DoItParts) (method : MethodTree) → IsDoItOf text tree → IsFittingDoIt tree (Ok method) → IsEvaluated tree → IsMethodOfDoIt text method × IsEvaluatedText text
doit_fits text tree method is fits evaluated = (record { tree = tree; tree_is = is; method_is = fits.0; fits = fits.1 }, evaluated_text text tree is evaluated)

-- one whose tree fits and asks to condense is to condense
pub condensing_fits : (text : List ℕ) (tree : DoItParts) (method : MethodTree) → IsDoItOf text tree → IsFittingDoIt tree (Ok method) → IsCondensing tree → AsksPlain text condenses
condensing_fits text tree method is fits condensing = ((tree, is, fits.1), record { tree = tree; tree_is = is; condensing = condensing })
