-- DoIts that are kept are lawful.
use Rattle.std.proofs.Common.{◌≤◌, ℕ, List, length}
use Rattle.s80_tree.specs.declared.method.MethodTree.{MethodTree}
use Rattle.s80_chunk.specs.Chunks.{IsChunkText, longest}
use Rattle.s80_change.specs.declared.change.Change.{Change}
use Rattle.s80_change.specs.declared.change.Change.TheVariants.{DoIt}
use Rattle.s80_form.specs.Form.{IsEvaluatedText}
use Rattle.s80_doit.specs.DoIt.{Fits, IsMethodOfDoIt}
use Rattle.s80_session.specs.Working.{IsLawfulFor}
use Rattle.s80_session.proofs.Unmarked.{unmarked}

-- its tree fits
pub method_fits : (text : List ℕ) (method : MethodTree) → IsMethodOfDoIt text method → Fits text
method_fits text method is = (is.tree, is.tree_is, is.fits)

-- such a doIt is lawful
pub doit_lawful : (changes : List Change) (text : List ℕ) → IsChunkText text → length text ≤ longest → Fits text → IsEvaluatedText text → IsLawfulFor changes (DoIt text)
doit_lawful changes text chunk short fits evaluated = λ accepted. ((chunk, unmarked text fits.0 fits.1, short), evaluated.none)
