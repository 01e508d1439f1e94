-- Whatever their numbers, the classes of a state and what its sources mean are the same.
use Rattle.std.proofs.Common.{◌≡◌, ◌∙◌, refl, sym, ap, subst, ℕ, ℤ, List, Bool, Option, Some, None, option_and_then}
use Rattle.std.specs.FinMap as map
use Rattle.s80_base.specs.declared.names.Side.{Side}
use Rattle.s80_tree.specs.Tree.{DoItParts, MethodParts}
use Rattle.s80_syntax.specs.Text.{IsDoItOf, IsMethodOf}
use Rattle.s80_change.specs.declared.change.Change.{Change}
use Rattle.s80_class.specs.Classes.{Name, Classes}
use Rattle.s80_class.specs.Table.{Table, IsNumberOf}
use Rattle.s80_method.specs.Shape.{shape_of}
use Rattle.s80_apply.specs.List.{state_of}
use Rattle.s80_apply.specs.State.{MethodRow, State}
use Rattle.s80_meaning.specs.Meaning.{Methods, eval}
use Rattle.s80_meaning.specs.Renamed.{AreOneHouse, AreToldAlike, IsByName, IsHouse}
use Rattle.s80_meaning.specs.Tree.{Meant, meant_in}
use Rattle.s80_doit.specs.Answer.{AnswersSmall, AreOfState, EvaluatesTo, IsMeantBy, IsMethodAt, doit_meant}
use Rattle.s80_doit.proofs.Evaluated.{smalls_alike, stopped_alike}
use Rattle.s80_doit.proofs.Setting.{KernelLasts, there}

abbrev pub OneMethodTree : Type 0
OneMethodTree = (text : List ℕ) (one other : MethodParts) → IsMethodOf text one → IsMethodOf text other → one ≡ other

abbrev pub OneDoItTree : Type 0
OneDoItTree = (text : List ℕ) (one other : DoItParts) → IsDoItOf text one → IsDoItOf text other → one ≡ other

abbrev pub ByName : Type 0
ByName = (t u : Table) (methods others : Methods) (meant : Meant) (budget : ℕ) → AreOneHouse t u methods others → IsByName t u methods others meant budget

-- a method means one thing in a class
one_meaning : OneMethodTree → (classes : Classes) (class : Name) (side : Side) (row : Option MethodRow) (m n : Option Meant) → IsMeantBy classes class side row m → IsMeantBy classes class side row n → n ≡ m
one_meaning one classes class side None None None h k = refl
one_meaning one classes class side (Some row) (Some m) (Some n) (tree, is, m_is) (other, also, n_is) =
    ap (λ x. Some x) (n_is ∙ ap (λ t. meant_in t (shape_of classes class side)) (one row.source other tree also is) ∙ sym m_is)
one_meaning one classes class side None None (Some n) h k = absurd k
one_meaning one classes class side None (Some m) n h k = absurd h
one_meaning one classes class side (Some row) None n h k = absurd h
one_meaning one classes class side (Some row) (Some m) None h k = absurd k

module _ (changes : List Change) where
  abbrev state : State
  state = state_of changes

  house : KernelLasts → (t : Table) (methods : Methods) → AreOfState state t methods → IsHouse t methods
  house lasts t methods are = record {
    known = are.known;
    kernel = λ name is. there t changes are.classes lasts name is;
    nowhere = λ c side selector none. subst (λ (o : Option Name). IsMethodAt state o side selector (methods c side selector)) none (are.means c side selector);
  }

  named : (t : Table) (methods : Methods) → AreOfState state t methods → (name : Name) (c : ℕ) → IsNumberOf t.names c name → (side : Side) (selector : List ℕ) → IsMeantBy state.classes name side (map.get (state.methods name side) selector) (methods c side selector)
  named t methods are name c is side selector =
      subst (λ (o : Option Name). IsMethodAt state o side selector (methods c side selector)) (ap (option_and_then (λ n. n)) is) (are.means c side selector)

  pub one_house : KernelLasts → OneMethodTree → (t u : Table) (methods others : Methods) → AreOfState state t methods → AreOfState state u others → AreOneHouse t u methods others
  one_house lasts one t u methods others are also = record {
    house = house lasts t methods are;
    other = house lasts u others also;
    classes = also.classes ∙ sym are.classes;
    same_methods = λ name c d is at side selector.
        one_meaning one state.classes name side (map.get (state.methods name side) selector) (methods c side selector) (others d side selector) (named t methods are name c is side selector) (named u others also name d at side selector);
  }

  -- two evaluations of one text come to outcomes that are told alike
  one_outcome : KernelLasts → OneMethodTree → OneDoItTree → ByName → (text : List ℕ) (budget : ℕ) (told other : List ℕ) (stopped also : Bool) → (e : EvaluatesTo state text budget told stopped) → (f : EvaluatesTo state text budget other also)
      → AreToldAlike e.table f.table e.outcome f.outcome
  one_outcome lasts one one_doit by_name text budget told other stopped also e f =
      let same : f.tree ≡ e.tree = one_doit text f.tree e.tree f.tree_is e.tree_is in
      let alike = by_name e.table f.table e.methods f.methods (doit_meant e.tree) budget (one_house lasts one e.table f.table e.methods f.methods e.are f.are) e.outcome e.evaluates in
      let is : Some alike.0 ≡ Some f.outcome = sym alike.1 ∙ ap (λ (t : DoItParts). eval f.table f.methods (doit_meant t) budget) (sym same) ∙ f.evaluates in
      let outcome_is : alike.0 ≡ f.outcome = cc in
      subst (AreToldAlike e.table f.table e.outcome) outcome_is alike.2

  pub told_once : KernelLasts → OneMethodTree → OneDoItTree → ByName → (text : List ℕ) (budget : ℕ) (told other : List ℕ) (stopped also : Bool) → EvaluatesTo state text budget told stopped → EvaluatesTo state text budget other also
      → (other ≡ told) × (also ≡ stopped)
  told_once lasts one one_doit by_name text budget told other stopped also e f =
      let alike = one_outcome lasts one one_doit by_name text budget told other stopped also e f in
      (f.told_is ∙ alike.text ∙ sym e.told_is, f.stopped_is ∙ stopped_alike e.outcome.end f.outcome.end alike.end ∙ sym e.stopped_is)

  pub one_small : KernelLasts → OneMethodTree → OneDoItTree → ByName → (text : List ℕ) (budget : ℕ) (told other : List ℕ) (stopped also : Bool) (small another : Option ℤ) → AnswersSmall state text budget told stopped small
      → AnswersSmall state text budget other also another → another ≡ small
  one_small lasts one one_doit by_name text budget told other stopped also small another a b =
      let alike = one_outcome lasts one one_doit by_name text budget told other stopped also a.evaluation b.evaluation in
      b.small_is ∙ smalls_alike a.evaluation.outcome.end b.evaluation.outcome.end alike.end ∙ sym a.small_is
