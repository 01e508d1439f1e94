-- What a text is the text of.
use Rattle.std.proofs.Common.{◌≢◌, sym, subst, ℕ, List, Bool, true, false, None, MatchBool}
use Rattle.s80_chunk.specs.Chunks.{IsPlainText}
use Rattle.s80_tree.specs.Tree.{DoItParts}
use Rattle.s80_syntax.specs.Faults.{IsDoItText}
use Rattle.s80_syntax.specs.declared.fault.ParseFault.{ParseFault}
use Rattle.s80_syntax.specs.declared.fault.ParseFault.TheVariants.{Memory}
use Rattle.s80_syntax.specs.Text.{IsDoItOf, IsFaultOf}
use Rattle.s80_syntax.proofs.lemmas.OneReading.{one_doit_of, doit_only_memory}
use Rattle.s80_form.specs.Form.{IsCondensingText, IsFormOf, IsNoForm, IsNoFormText, IsReadAs, IsSnapshot}
use Rattle.s80_form.proofs.lemmas.OneForm.{condensing_no_form}
use Rattle.s80_change.specs.declared.change.Change.TheVariants.{Form, Method, DoIt}
use Rattle.s80_change.specs.declared.framing.Framing.TheVariants.{Plain}
use Rattle.s80_change.specs.Block.{IsLawful, HasNoChange}
use Rattle.s80_change.proofs.lemmas.BlockLaws.{plains_same, no_plain}

-- a text with a tree has one of the forms where the tree has
pub no_form_text : (text : List ℕ) (tree : DoItParts) → IsDoItOf text tree → IsNoForm tree → IsNoFormText text
no_form_text text tree tree_is none = record {
  form = λ form is. none.form form (subst (λ t. IsFormOf t form) (one_doit_of text is.tree tree is.tree_is tree_is) is.form_is);
  snapshot = λ is. none.snapshot (subst IsSnapshot (one_doit_of text is.tree tree is.tree_is tree_is) is.snapshot);
}

pub no_form_tree : (text : List ℕ) (tree : DoItParts) → IsDoItOf text tree → IsNoFormText text → IsNoForm tree
no_form_tree text tree tree_is none = record {
  form = λ form is. none.form form (record { tree = tree; tree_is = tree_is; form_is = is });
  snapshot = λ is. none.snapshot (record { tree = tree; tree_is = tree_is; snapshot = is });
}

pub form_of_text : (text : List ℕ) (tree : DoItParts) → IsDoItOf text tree → (none : Bool) → MatchBool none (IsNoForm tree) (IsNoForm tree → ⊥) → MatchBool none (IsNoFormText text) (IsNoFormText text → ⊥)
form_of_text text tree tree_is true none = no_form_text text tree tree_is none
form_of_text text tree tree_is false some = λ none. some (no_form_tree text tree tree_is none)

-- a text with a fault has none
pub fault_in_text : (text : List ℕ) (fault : ParseFault) → IsFaultOf IsDoItText text fault → fault ≢ Memory → IsNoFormText text
fault_in_text text fault is some = record {
  form = λ form of. some (doit_only_memory text of.tree fault of.tree_is is);
  snapshot = λ of. some (doit_only_memory text of.tree fault of.tree_is is);
}

-- whether a text of the right shape is a doIt's
pub doit_of_text : (text : List ℕ) → IsPlainText text → (none : Bool) → MatchBool none (IsNoFormText text) (IsNoFormText text → ⊥) → MatchBool none (IsLawful (DoIt text)) (IsLawful (DoIt text) → ⊥)
doit_of_text text plain true none = (plain, none)
doit_of_text text plain false some = λ lawful. some lawful.1

-- so is one that asks to condense
pub condensing_is_doit : (text : List ℕ) → IsPlainText text → IsCondensingText text → IsLawful (DoIt text)
condensing_is_doit text plain is = (plain, no_form_text text is.tree is.tree_is (condensing_no_form is.tree is.condensing))

-- a text that is read as no form and is no doIt's
pub no_change : (text : List ℕ) → IsReadAs text None → (IsLawful (DoIt text) → ⊥) → HasNoChange (Plain text)
no_change text none unfit (Form form) lawful e = none form lawful (sym (plains_same _ _ e))
no_change text none unfit (Method m) lawful e = no_plain _ _ _ (sym e)
no_change text none unfit (DoIt t) lawful e = unfit (subst (λ u. IsLawful (DoIt u)) (plains_same _ _ e) lawful)
