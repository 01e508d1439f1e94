-- Code of a tree that fits suits the machine.
use Rattle.std.proofs.Common.{◌≡◌, ◌∙◌, ◌≤◌, ℕ, refl, sym, ap, subst, List, [], codes, length, None, option_and_then, unwrap_or, arith, Ok}
use Rattle.s80_base.specs.declared.names.Side.{Side}
use Rattle.s80_base.specs.declared.names.Side.TheVariants.{Instance, Class}
use Rattle.s80_tree.specs.Tree.{MethodParts, DoItParts}
use Rattle.s80_syntax.specs.Text.{IsDoItOf}
use Rattle.s80_scope.specs.declared.fit.Fit.TheVariants as fits
use Rattle.s80_scope.specs.declared.shape.Shape.{Shape}
use Rattle.s80_scope.specs.Fit.{fit, measures}
use Rattle.s80_scope.specs.Names.{AreInOrder, uses_of}
use Rattle.s80_scope.proofs.lemmas.Apart.{method_in_order, doit_in_order}
use Rattle.s80_code.specs.declared.code.Code.{Code}
use Rattle.s80_code.specs.Entries.{entries_of}
use Rattle.s80_core.specs.Elaborate.{elaborated}
use Rattle.s80_core.proofs.lemmas.FitAll.{fits_small, core_fits}
use Rattle.s80_scope.specs.declared.fit.position.Position.TheVariants.{Effect}
use Rattle.s80_compile.specs.Compiles.{Compiles}
use Rattle.s80_compile.specs.Sent.{AreWellSent}
use Rattle.s80_compile.proofs.Related.{related}
use Rattle.s80_compile.proofs.SentArms.{arms_had}
use Rattle.s80_compile.proofs.lemmas.SentCore.{core_sent}
use Rattle.s80_compile.proofs.SentTrees.{method_sent, doit_sent}
use Rattle.s80_verify.specs.Record.{HasDepths}
use Rattle.s80_lex.specs.Selector.{IsSelectorOf}
use Rattle.s80_change.specs.Check.{IsCheckOf, as_method, size_refusal}
use Rattle.s80_class.specs.Classes.{Name, Classes, inherited_of}
use Rattle.s80_class.specs.Table.{Table, IsNumberOf, class_name}
use Rattle.s80_method.specs.Code.{IsMethodCode}
use Rattle.s80_method.specs.Shape.{shape_of}
use Rattle.s80_method.proofs.Fitting.{tree_fits}
use Rattle.s80_machine.specs.Sound.{variables_on, Suits, SuitsMethod}
use Rattle.s80_doit.proofs.Fitting.{tree_fits as doit_fits}
use Rattle.s80_doit.proofs.Behind.{runs_with, at_the_end}
use Rattle.s80_doit.proofs.Naming.{NamesBelow, core_from}
use Rattle.s80_doit.proofs.Targets.{BodyIsFree, method_free, doit_free}
use Rattle.s80_doit.proofs.Meanings.{core_below}
use Rattle.s80_doit.proofs.Patterns.{text_selects}

code_suits : (m : MethodParts) (shape : Shape) (class : List ℕ) (side : Side) (code : Code) → fit (measures m) ≡ fits.Fits → AreInOrder (uses_of m) → AreWellSent m → BodyIsFree m.body
    → length shape.inst_vars ≤ 64 → Compiles m shape class side code → Suits (length shape.inst_vars) code
code_suits m shape class side code fitting in_order sent free few is =
    let small = fits_small (measures m) fitting in
    let depths : HasDepths code =
    related m (elaborated m shape) class side code (core_fits m shape fitting in_order (arms_had m sent) few) small.stack small.temporaries (core_sent m shape sent) is in
    let v = length shape.inst_vars in
    record {
      depths = depths;
      named = λ at i run e.
          runs_with code depths (NamesBelow v)
          (core_from code.bytes (entries_of code.literals) v (elaborated m shape) Effect 0 (length code.bytes) (core_below m shape free) is.body
          (at_the_end code.bytes (NamesBelow v) (length code.bytes) refl))
          at run i e;
    }

-- ---- methods

class_name_is : (t : Table) (c : ℕ) (name : Name) → IsNumberOf t.names c name → class_name t c ≡ name
class_name_is t c name is = ap (λ o. unwrap_or (option_and_then (λ n. n) o) []) is

-- a shape has as many variables as its class
counted : ((classes : Classes) (name : Name) → length (shape_of classes name Instance).inst_vars ≡ (inherited_of classes name).inst_vars)
    → ((classes : Classes) (name : Name) → length (shape_of classes name Class).inst_vars ≡ (inherited_of classes name).class_side_vars)
    → (t : Table) (c : ℕ) (name : Name) (side : Side) → class_name t c ≡ name → length (shape_of t.classes name side).inst_vars ≡ variables_on t c side
counted instance class t c name Instance is = instance t.classes name ∙ ap (λ (n : Name). (inherited_of t.classes n).inst_vars) (sym is)
counted instance class t c name Class is = class t.classes name ∙ ap (λ (n : Name). (inherited_of t.classes n).class_side_vars) (sym is)

pub method_suits : ((classes : Classes) (name : Name) → length (shape_of classes name Instance).inst_vars ≡ (inherited_of classes name).inst_vars)
    → ((classes : Classes) (name : Name) → length (shape_of classes name Class).inst_vars ≡ (inherited_of classes name).class_side_vars)
    → (t : Table) (c : ℕ) (name : Name) (side : Side) (selector source : List ℕ) (code : Code)
    → IsNumberOf t.names c name → IsCheckOf source (Ok selector) → length (shape_of t.classes name side).inst_vars ≤ 64
    → IsMethodCode t.classes name side selector source code → SuitsMethod t c side selector code
method_suits instance class t c name side selector source code named check few is =
    let m = is.tree in
    let text = is.tree_is in
    let suits : Suits (length (shape_of t.classes name side).inst_vars) code =
    code_suits m (shape_of t.classes name side) name side code (tree_fits source selector m text check) (method_in_order source m text) (method_sent source m text)
    (method_free source m text) few is.compiles in
    record {
      class = (name, named);
      suits = subst (λ (n : ℕ). Suits n code) (counted instance class t c name side (class_name_is t c name named)) suits;
      selector_is = subst (λ (n : ℕ). IsSelectorOf n selector) (sym is.compiles.arguments)
          (subst (λ (word : List ℕ). IsSelectorOf (length m.parameters) word) is.selector_is (text_selects source m text));
    }

-- ---- doIts

pub doit_suits : (text : List ℕ) (tree : DoItParts) (code : Code) → IsDoItOf text tree → size_refusal (as_method tree) ≡ None
    → Compiles (as_method tree) (record { inst_vars = []; class_vars = [] }) (codes "UndefinedObject") Instance code → Suits 0 code
doit_suits text tree code is fitting compiled =
    code_suits (as_method tree) (record { inst_vars = []; class_vars = [] }) (codes "UndefinedObject") Instance code
    (doit_fits tree fitting) (doit_in_order text tree is) (doit_sent text tree is) (doit_free text tree is) (omega arith) compiled
