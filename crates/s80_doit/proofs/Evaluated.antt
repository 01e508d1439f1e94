-- What the trees of a system's sources are, and that its codes agree with them.
use Rattle.std.proofs.Common.{◌≡◌, ◌∙◌, refl, sym, ap, subst, ℕ, List, [], codes, Option, Some, None, option_map, option_and_then, slice_get, unwrap_or}
use Rattle.std.specs.FinMap as map
use Rattle.s80_base.specs.declared.names.Side.{Side}
use Rattle.s80_base.specs.declared.names.Side.TheVariants.{Instance}
use Rattle.s80_tree.specs.Tree.{DoItParts, MethodParts}
use Rattle.s80_syntax.specs.Text.{IsDoItOf, IsMethodOf}
use Rattle.s80_code.specs.declared.code.Code.{Code}
use Rattle.s80_compile.specs.Sent.{AreWellSent, BodyIsWellSent}
use Rattle.s80_change.specs.Check.{as_method}
use Rattle.s80_class.specs.Classes.{Name}
use Rattle.s80_class.specs.Table.{Table, IsNumberOf, class_name, name_of}
use Rattle.s80_dict.specs.Table.{methods_at}
use Rattle.s80_method.specs.Shape.{shape_of}
use Rattle.s80_apply.specs.Entries.{Entry, state_row}
use Rattle.s80_apply.specs.State.{MethodRow, State}
use Rattle.s80_apply.specs.System.{IsSystemOf, SystemState}
use Rattle.s80_prims.specs.declared.stop.End.{End}
use Rattle.s80_prims.specs.declared.stop.End.TheVariants.{Answer, Stopped}
use Rattle.s80_meaning.specs.Agreement.{Agree, AreOne, IsCodeFor}
use Rattle.s80_meaning.specs.Meaning.{Methods}
use Rattle.s80_meaning.specs.Renamed.{EndAlike, small_of}
use Rattle.s80_meaning.specs.Tree.{Meant, meant_in}
use Rattle.s80_doit.specs.Answer.{AreOfState, IsMeantBy, IsMethodAt, doit_meant}
use Rattle.s80_doit.specs.DoIt.{AreGiven, IsDoItCode, is_stopped}

-- the laws of trees that were read
abbrev pub MethodsAreWellSent : Type 0
MethodsAreWellSent = (text : List ℕ) (m : MethodParts) → IsMethodOf text m → AreWellSent m

abbrev pub DoItsAreWellSent : Type 0
DoItsAreWellSent = (text : List ℕ) (d : DoItParts) → IsDoItOf text d → BodyIsWellSent d.body

-- a number's name, where it has one
named_so : (names : List (Option Name)) (c : ℕ) (name : Name) → IsNumberOf names c name → name_of names c ≡ Some name
named_so names c name named = ap (option_and_then (λ n. n)) named

module _ (system : SystemState) (given : AreGiven system) where
  abbrev table : Table
  table = system.table

  abbrev entry_at : ℕ → Side → List ℕ → Option Entry
  entry_at c side selector = map.get (methods_at system.methods c side) selector

  -- an entry's tree in its class
  meant_of : (c : ℕ) (side : Side) (selector : List ℕ) (o : Option Entry) → entry_at c side selector ≡ o → Option Meant
  meant_of c side selector None is = None
  meant_of c side selector (Some entry) is =
      let has = given.codes c side selector entry is in
      Some (meant_in has.has_code.code.tree (shape_of table.classes has.class side))

  pub trees : Methods
  trees c side selector = meant_of c side selector (entry_at c side selector) refl

  module _ (sent : MethodsAreWellSent) where
    pub codes_agree : Agree table trees system.methods
    unfolding meant_of trees
    codes_agree c side selector = here (entry_at c side selector) refl
      where
        here : (o : Option Entry) (is : entry_at c side selector ≡ o) → AreOne (class_name table c) side (meant_of c side selector o is) o
        here None is = tt
        here (Some entry) is =
            let has = given.codes c side selector entry is in
            let source = has.has_code.code in
            let name : has.class ≡ class_name table c = sym (ap (λ (o : Option Name). unwrap_or o []) (named_so table.names c has.class has.named)) in
            let P : Name → Type 0 = λ n. IsCodeFor n side (meant_in source.tree (shape_of table.classes has.class side)) entry.code in
            subst P name (record {
              parts = source.tree;
              shape = shape_of table.classes has.class side;
              well_sent = sent entry.source source.tree source.tree_is;
              meant_is = refl;
              code_is = source.compiles;
            })

  module _ (state : State) (is_of : IsSystemOf system state) where
    pub trees_of_state : AreOfState state table trees
    unfolding meant_of trees
    trees_of_state = record {
      known = given.classes;
      classes = is_of.classes;
      means = λ c side selector. at c side selector (name_of table.names c) refl;
    }
      where
        -- the class of an entry's number is the one that the number has
        class_is : (c : ℕ) (class name : Name) → IsNumberOf table.names c class → name_of table.names c ≡ Some name → class ≡ name
        class_is c class name named is = let e : Some class ≡ Some name = sym (named_so table.names c class named) ∙ is in cc

        number_is : (c : ℕ) (name : Name) → name_of table.names c ≡ Some name → IsNumberOf table.names c name
        number_is c name is = numbered (slice_get table.names c) is
          where
            numbered : (o : Option (Option Name)) → option_and_then (λ n. n) o ≡ Some name → o ≡ Some (Some name)
            numbered None e = cc
            numbered (Some n) e = ap (λ n. Some n) e

        in_class : (c : ℕ) (name : Name) (side : Side) (selector : List ℕ) → name_of table.names c ≡ Some name → (o : Option Entry) (is : entry_at c side selector ≡ o)
            → IsMeantBy state.classes name side (option_map state_row o) (meant_of c side selector o is)
        in_class c name side selector named None is = tt
        in_class c name side selector named (Some entry) is =
            let has = given.codes c side selector entry is in
            let source = has.has_code.code in
            let same = class_is c has.class name has.named named in
            (source.tree, source.tree_is, λ i. meant_in source.tree (shape_of (is_of.classes i) (same i) side))

        nowhere : (c : ℕ) (side : Side) (selector : List ℕ) → name_of table.names c ≡ None → (o : Option Entry) (is : entry_at c side selector ≡ o) → meant_of c side selector o is ≡ None
        nowhere c side selector none None is = refl
        nowhere c side selector none (Some entry) is =
            let has = given.codes c side selector entry is in
            let e : Some has.class ≡ None = sym (named_so table.names c has.class has.named) ∙ none in cc

        at : (c : ℕ) (side : Side) (selector : List ℕ) (o : Option Name) → name_of table.names c ≡ o → IsMethodAt state o side selector (trees c side selector)
        at c side selector None none = nowhere c side selector none (entry_at c side selector) refl
        at c side selector (Some name) named =
            let P : Option MethodRow → Type 0 = λ r. IsMeantBy state.classes name side r (trees c side selector) in
            subst P ((is_of.methods c name side (number_is c name named)).each selector) (in_class c name side selector named (entry_at c side selector) refl)

  -- a doIt's code is that of its tree
  pub doit_code_for : (text : List ℕ) (code : Code) (is : IsDoItCode text code) → DoItsAreWellSent → IsCodeFor (codes "UndefinedObject") Instance (doit_meant is.tree) code
  doit_code_for text code is sent = record {
    parts = as_method is.tree;
    shape = record { inst_vars = []; class_vars = [] };
    well_sent = sent text is.tree is.tree_is;
    meant_is = refl;
    code_is = is.compiles;
  }

-- both were stopped, or neither was
pub stopped_alike : (one other : End) → EndAlike one other → is_stopped other ≡ is_stopped one
stopped_alike (Answer v) (Answer x) h = refl
stopped_alike (Stopped stop) (Stopped reason) h = refl
stopped_alike (Answer v) (Stopped stop) h = absurd h
stopped_alike (Stopped stop) (Answer v) h = absurd h

-- they answer the same SmallInteger, or none
pub smalls_alike : (one other : End) → EndAlike one other → small_of other ≡ small_of one
smalls_alike (Answer v) (Answer x) h = h
smalls_alike (Stopped stop) (Stopped reason) h = refl
smalls_alike (Answer v) (Stopped stop) h = absurd h
smalls_alike (Stopped stop) (Answer v) h = absurd h
