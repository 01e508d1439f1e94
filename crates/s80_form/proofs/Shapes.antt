-- What a tree shows, and its form.
use Rattle.std.proofs.Common.{◌≡◌, ℕ, List, false, codes, ap, sym, ◌∙◌, subst}
use Rattle.std.specs.Prelude.{◌↔◌, IsTrue, Bool}
use Rattle.std.proofs.lemmas.Bool.{false≢true}
use Rattle.s80_base.specs.Literal.{symbol, str}
use Rattle.s80_tree.specs.declared.expr.Message.{Message, out-Message}
use Rattle.s80_tree.specs.Tree.{DoItParts, ExprTrees, message_of, exprs_of, exprs, no_exprs}
use Rattle.s80_form.specs.declared.form.Recognised.{Recognised}
use Rattle.s80_form.specs.declared.form.Recognised.TheVariants as recognised
use Rattle.s80_form.specs.TreeParts.{argument}
use Rattle.s80_form.specs.Form.{IsEvaluated, Recognises, classifying}
use Rattle.s80_form.specs.Shown.{Has, IsBriefRecognised}
use Rattle.s80_form.proofs.Trees.{message_open}
use Rattle.s80_form.proofs.lemmas.OneForm.{has_same}

pub classifying_is : (m : Message) (selector category : List ℕ) → (out-Message m).selector ≡ codes "classify:under:" → exprs_of (out-Message m).arguments ≡ exprs (argument (symbol selector)) (exprs (argument (str category)) no_exprs)
    → message_of m ≡ classifying selector category
classifying_is m selector category s e =
    message_open m ∙ ap (λ (x : List ℕ). (x, exprs_of (out-Message m).arguments)) s ∙ ap (λ (x : ExprTrees). (codes "classify:under:", x)) e

-- a tree that has no form, whether its parts are brief or not
pub none_has : (tree : DoItParts) → ((y : Recognised) → Has tree y → ⊥) → IsEvaluated tree
none_has tree none = record {
  none = record {
    form = λ form is. none (recognised.Form form) is.0;
    snapshot = λ is. none recognised.Snapshot is;
  };
  condensing = λ is. none recognised.Condense is;
}

-- it is the form where that is brief
pub recognised_so : (tree : DoItParts) (y z : Recognised) → Has tree y → z ≡ y → IsBriefRecognised z → Recognises tree z
recognised_so tree y (recognised.Form form) has e brief = (subst (Has tree) (sym e) has, brief)
recognised_so tree y recognised.Condense has e brief = subst (Has tree) (sym e) has
recognised_so tree y recognised.Snapshot has e brief = subst (Has tree) (sym e) has
recognised_so tree y recognised.Evaluate has e brief = absurd (subst (Has tree) (sym e) has)

-- and else the tree has none
pub not_brief : (tree : DoItParts) (y z : Recognised) (b : Bool) → Has tree y → z ≡ y → (IsTrue b ↔ IsBriefRecognised z) → b ≡ false → IsEvaluated tree
not_brief tree y z b has e is long = record {
  none = record {
    form = λ form of. none (recognised.Form form) of.0 of.1;
    snapshot = λ of. none recognised.Snapshot of tt;
  };
  condensing = λ of. none recognised.Condense of tt;
}
  where
    none : (x : Recognised) → Has tree x → IsBriefRecognised x → ⊥
    none x of brief = false≢true (sym long ∙ is.1 (subst IsBriefRecognised (has_same tree x y of has ∙ sym e) brief))
