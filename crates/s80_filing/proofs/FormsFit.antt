-- A doIt that changes classes fits a machine.
use Rattle.std.proofs.Common.{◌≡◌, ℕ, ◌+◌, ◌≤◌, nat_lt, cond, max, Bool, false, le-ltb, codes, List, None, refl, sym, ap, subst, ◌∙◌, inl, inr, arith}
use Rattle.s80_base.specs.Literal.{LiteralTree, symbol, str}
use Rattle.s80_base.specs.declared.names.Side.{Side}
use Rattle.s80_base.specs.declared.names.Side.TheVariants.{Instance, Class}
use Rattle.s80_tree.specs.declared.name.NameAt.{NameAt}
use Rattle.s80_tree.specs.Tree.{DoItParts, MessageTrees, messages, name, no_exprs, no_messages}
use Rattle.s80_scope.specs.Fit.{fit, measures}
use Rattle.s80_scope.specs.FitLiterals.{literal_count}
use Rattle.s80_scope.specs.FitStack.{at_least, greatest, messages_needs, receiver_needs, temporaries, stack, Needs}
use Rattle.s80_scope.specs.Inlined.{ending, is_loop}
use Rattle.s80_scope.specs.declared.fit.ending.Ending.{Ending}
use Rattle.s80_scope.specs.declared.fit.ending.Ending.TheVariants as endings
use Rattle.s80_scope.specs.FitWeight.{weight}
use Rattle.s80_scope.specs.declared.fit.Measures.{Measures}
use Rattle.s80_scope.specs.declared.fit.Fit.TheVariants.{Fits}
use Rattle.s80_form.specs.Definition.{are_arguments, defining_selector}
use Rattle.s80_form.specs.declared.definition.Kind.{Kind}
use Rattle.s80_form.specs.declared.definition.Kind.TheVariants as kinds
use Rattle.s80_form.specs.declared.form.Form.{Form}
use Rattle.s80_form.specs.declared.form.Form.TheVariants.{Define, ClassVars, Comment, RemoveMethod, Classify, RemoveClass, NoChanges}
use Rattle.s80_form.specs.Form.{classifying, unary, with_literal, HasForm}
use Rattle.s80_form.specs.TreeParts.{all_sent, alone, to_organization, to_side, IsSentToName}
use Rattle.s80_change.specs.Check.{as_method, size_refusal, too_large}
use Rattle.s80_change.proofs.Told.{refusal_exact}
use Rattle.s80_change.proofs.TreeEntries.{literals_most}
use Rattle.s80_change.proofs.TreeSizes.{body_size}
use Rattle.s80_change.proofs.TreeWeights.{weight_most}

not_above : (limit n : ℕ) → n ≤ limit → nat_lt limit n ≡ false
not_above limit n h = le-ltb limit n h

all_pass : {X : Type 0} (a b c d : Bool) (w x y z v : X) → a ≡ false → b ≡ false → c ≡ false → d ≡ false → cond a w (cond b x (cond c y (cond d z v))) ≡ v
all_pass a b c d w x y z v e f g h = rw (e, f, g, h) refl

fits : (c : Measures) → c.literals ≤ 60 → c.temporaries ≤ 31 → c.stack ≤ 32 → c.weight ≤ 1000 → fit c ≡ Fits
fits c e f g h = all_pass _ _ _ _ _ _ _ _ _ (not_above 60 c.literals e) (not_above 31 c.temporaries f) (not_above 32 c.stack g) (not_above 1000 c.weight h)

-- few nodes, no temporaries, and little on the stack
pub record IsSmall (d : DoItParts) : Type 0 where
  pub nodes : body_size d.body ≤ 60
  pub temporaries_are : temporaries (as_method d) ≤ 31
  pub stack_is : stack (as_method d) ≤ 32

pub small_fits : (d : DoItParts) → IsSmall d → size_refusal (as_method d) ≡ None
small_fits d s =
    let m = as_method d in
    let few : literal_count m ≤ 60 = omega (arith, literals_most m, s.nodes) in
    let light : weight m ≤ 1000 = omega (arith, weight_most m, s.nodes) in
    refusal_exact m (record { literals = omega (arith, few); temporaries = omega (arith, s.temporaries_are); stack = omega (arith, s.stack_is); weight = omega (arith, light) })
    ∙ ap too_large (fits (measures m) few s.temporaries_are s.stack_is light)

sent_fits : (tree : DoItParts) (p : NameAt × MessageTrees) → IsSentToName tree p → IsSmall (alone (all_sent p)) → size_refusal (as_method tree) ≡ None
sent_fits tree p sent small = subst (λ d. size_refusal (as_method d) ≡ None) (sym sent.tree_is) (small_fits (alone (all_sent p)) small)

-- a message without arguments, with one, and one to the organization; and the one that defines a class
class_vars_small : (at : NameAt) (side : Side) (value : LiteralTree) → IsSmall (alone (all_sent (at, to_side (side, with_literal (codes "instanceVariableNames:") value))))
class_vars_small at Instance value = record { nodes = omega arith; temporaries_are = omega arith; stack_is = omega arith }
class_vars_small at Class value = record { nodes = omega arith; temporaries_are = omega arith; stack_is = omega arith }

comment_small : (at : NameAt) (value : LiteralTree) → IsSmall (alone (all_sent (at, to_side (Instance, with_literal (codes "comment:") value))))
comment_small at value = record { nodes = omega arith; temporaries_are = omega arith; stack_is = omega arith }

removal_small : (at : NameAt) (side : Side) (value : LiteralTree) → IsSmall (alone (all_sent (at, to_side (side, with_literal (codes "removeSelector:") value))))
removal_small at Instance value = record { nodes = omega arith; temporaries_are = omega arith; stack_is = omega arith }
removal_small at Class value = record { nodes = omega arith; temporaries_are = omega arith; stack_is = omega arith }

classifying_small : (at : NameAt) (side : Side) (selector category : List ℕ) → IsSmall (alone (all_sent (at, to_organization (side, classifying selector category))))
classifying_small at Instance selector category = record { nodes = omega arith; temporaries_are = omega arith; stack_is = omega arith }
classifying_small at Class selector category = record { nodes = omega arith; temporaries_are = omega arith; stack_is = omega arith }

class_removal_small : (at : NameAt) (value : LiteralTree) → IsSmall (alone (all_sent (at, to_side (Instance, with_literal (codes "removeClassNamed:") value))))
class_removal_small at value = record { nodes = omega arith; temporaries_are = omega arith; stack_is = omega arith }

-- what a unary message to a name needs, by the ending of the expression
abbrev unary_needs : NameAt → List ℕ → Ending → Needs
unary_needs at selector last = greatest (greatest (receiver_needs (is_loop last) (name at)) (messages_needs endings.Sent last (messages selector no_exprs no_messages))) (messages_needs endings.Cascaded endings.Sent no_messages)

few_needs : (at : NameAt) (selector : List ℕ) (last : Ending) → max ((greatest (unary_needs at selector last) (at_least 0)).here + 0) (greatest (unary_needs at selector last) (at_least 0)).inside ≤ 32
few_needs at selector endings.Sent = omega arith
few_needs at selector endings.Cascaded = omega arith
few_needs at selector (endings.TwoArms _) = omega arith
few_needs at selector (endings.OneArm _) = omega arith
few_needs at selector (endings.Shortcut _) = omega arith
few_needs at selector (endings.Loop _) = omega arith

unary_small : (at : NameAt) (selector : List ℕ) → IsSmall (alone (all_sent (at, to_side (Instance, unary selector))))
unary_small at selector = record { nodes = omega arith; temporaries_are = omega arith; stack_is = few_needs at selector (ending (name at) (to_side (Instance, unary selector)) no_messages) }

removal_from_system_small : (at : NameAt) → IsSmall (alone (all_sent (at, to_side (Instance, unary (codes "removeFromSystem")))))
removal_from_system_small at = unary_small at (codes "removeFromSystem")

no_changes_small : (at : NameAt) → IsSmall (alone (all_sent (at, to_side (Instance, unary (codes "noChanges")))))
no_changes_small at = unary_small at (codes "noChanges")

definition_small : (at : NameAt) (kind : Kind) (t : List ℕ × List ℕ × List ℕ × List ℕ × List ℕ) → IsSmall (alone (all_sent (at, to_side (Instance, (defining_selector kind, are_arguments t)))))
definition_small at kinds.Plain t = record { nodes = omega arith; temporaries_are = omega arith; stack_is = omega arith }
definition_small at kinds.Pointers t = record { nodes = omega arith; temporaries_are = omega arith; stack_is = omega arith }
definition_small at kinds.Bytes t = record { nodes = omega arith; temporaries_are = omega arith; stack_is = omega arith }
definition_small at kinds.Words t = record { nodes = omega arith; temporaries_are = omega arith; stack_is = omega arith }

pub form_fits : (tree : DoItParts) (form : Form) → HasForm tree form → size_refusal (as_method tree) ≡ None
form_fits tree (Define d) h = sent_fits tree _ h.sending (definition_small _ d.kind (d.class_name, h.inst_vars, h.class_vars, h.pools, d.category))
form_fits tree (ClassVars class_name names) (text, (at, sent), are) = sent_fits tree _ sent (class_vars_small _ Class (str text))
form_fits tree (Comment class_name text) (at, sent) = sent_fits tree _ sent (comment_small _ (str text))
form_fits tree (RemoveMethod class_name side selector) (at, sent) = sent_fits tree _ sent (removal_small _ side (symbol selector))
form_fits tree (Classify class_name side selector category) (at, sent) = sent_fits tree _ sent (classifying_small _ side selector category)
form_fits tree (RemoveClass class_name) (inl (at, sent)) = sent_fits tree _ sent (class_removal_small _ (symbol class_name))
form_fits tree (RemoveClass class_name) (inr (at, sent)) = sent_fits tree _ sent (removal_from_system_small _)
form_fits tree NoChanges (at, sent) = sent_fits tree _ sent (no_changes_small _)
