-- That a state takes a change, were there no limits; and that it takes it behind another one that is free of it.
use Rattle.std.proofs.Common.{◌≡◌, ◌≢◌, ◌⊎◌, ◌∙◌, ◌++◌, inl, inr, ℕ, Bool, cond, true, false, not, find, refl, sym, ap, subst, List, [], ◌∷◌, Option, Some, None, Result, Ok, Err, is_some, option_map, bytes_eq, flat_map, map}
use Rattle.std.specs.Prelude.{⊤}
use Rattle.std.specs.FinMap as finmap
use Rattle.std.specs.List.{Contains}
use Rattle.std.proofs.lemmas.List.Elements.{Contains-append_left, Contains-append_right}
use Rattle.s80_base.specs.declared.names.Side.{Side}
use Rattle.s80_change.specs.declared.change.Change.{Change}
use Rattle.s80_change.specs.declared.change.Change.TheVariants as change
use Rattle.s80_form.specs.Name.{is_name}
use Rattle.s80_form.specs.declared.definition.Definition.{Definition}
use Rattle.s80_form.specs.declared.form.Form.{Form}
use Rattle.s80_form.specs.declared.form.Form.TheVariants.{Define, ClassVars, Comment, RemoveMethod, Classify, RemoveClass, NoChanges}
use Rattle.s80_form.specs.declared.refusal.Refusal.TheVariants.{BadName, Duplicate}
use Rattle.s80_class.specs.Classes.{Name, ClassRow, Classes, IsLine, with_class_side_vars, with_comment}
use Rattle.s80_class.proofs.lemmas.Lines.{Entry, lineage_line, passes}
use Rattle.s80_apply.specs.Accept.{bad_name, duplicate, first_again, kernel_class, kernel_name, row_of}
use Rattle.s80_apply.specs.State.{State}
use Rattle.s80_merge.specs.declared.key.Key.{Key}
use Rattle.s80_merge.specs.declared.key.Key.TheVariants.{ClassKey, DefinitionKey, MethodKey}
use Rattle.s80_merge.specs.Touched.{class_keys, form_uses, form_writes, line_keys, uses, writes}
use Rattle.s80_merge.proofs.Acts.{Does, act_of, agreed, does, effect, method_act}
use Rattle.s80_merge.proofs.Clear.{agree, kept_class, kept_method, line_later, same_keys, same_passes}
use Rattle.s80_merge.proofs.Members.{here}
use Rattle.s80_merge.proofs.Parts.{AreFree, touches}

-- ---- what a state has to have

-- a line from the superclass on, which doesn't come by the class
pub record HasLine (d : Definition) (classes : Classes) : Type 0 where
  pub line : List Entry
  pub is_line : IsLine classes (Some d.superclass) line
  pub apart : passes d.class_name line ≡ false

pub record TakesDefinition (d : Definition) (classes : Classes) : Type 0 where
  pub named : bad_name d ≡ None
  pub own : kernel_class d ≡ None
  pub once : duplicate d ≡ None
  pub above : HasLine d classes

pub record TakesVars (name : Name) (names : List Name) (classes : Classes) : Type 0 where
  pub named : option_map BadName (find (λ word. not (is_name word)) names) ≡ None
  pub there : finmap.contains_key classes name ≡ true
  pub own : kernel_name name ≡ None
  pub once : option_map Duplicate (first_again [] names) ≡ None

pub record TakesMethod (name : Name) (side : Side) (selector : List ℕ) (state : State) : Type 0 where
  pub there : finmap.contains_key state.classes name ≡ true
  pub found : finmap.contains_key (state.methods name side) selector ≡ true

pub record TakesRemoval (name : Name) (classes : Classes) : Type 0 where
  pub there : finmap.contains_key classes name ≡ true
  pub own : kernel_name name ≡ None
  pub alone : (q : Name) (row : ClassRow) → finmap.get classes q ≡ Some row → row.superclass ≢ Some name

abbrev pub TakesForm : Form → State → Type 0
TakesForm (Define d) state = TakesDefinition d state.classes
TakesForm (ClassVars name names) state = TakesVars name names state.classes
TakesForm (Comment name text) state = finmap.contains_key state.classes name ≡ true
TakesForm (RemoveMethod name side selector) state = TakesMethod name side selector state
TakesForm (Classify name side selector category) state = TakesMethod name side selector state
TakesForm (RemoveClass name) state = TakesRemoval name state.classes
TakesForm NoChanges state = ⊤

abbrev pub Takes : Change → State → Type 0
Takes (change.Form form) state = TakesForm form state
Takes (change.Method m) state = ((selector : List ℕ) × (m.source.selector ≡ Ok selector)) × (finmap.contains_key state.classes m.class_name ≡ true)
Takes (change.DoIt text) state = ⊤

-- ---- a definition uses its superclass

first_in_line : (classes : Classes) (name : Name) (es : List Entry) → IsLine classes (Some name) es → Contains (flat_map (λ e. class_keys e.0) es) (ClassKey name)
first_in_line classes name [] line = absurd line
first_in_line classes name (e ∷ es) line = subst (λ n. Contains (class_keys n ++ flat_map (λ (f : Entry). class_keys f.0) es) (ClassKey name)) (sym line.0) (here (ClassKey name) (DefinitionKey name ∷ flat_map (λ (f : Entry). class_keys f.0) es))

line_used : (d : Definition) (classes : Classes) (key : Key) → Contains (line_keys d.superclass classes) key → Contains (touches (change.Form (Define d)) classes) key
line_used d classes key has = Contains-append_right (form_writes (Define d) classes) (form_uses (Define d) classes) key (Contains-append_left (line_keys d.superclass classes) _ key has)

uses_above : (d : Definition) (classes : Classes) → HasLine d classes → Contains (touches (change.Form (Define d)) classes) (ClassKey d.superclass)
uses_above d classes above =
    line_used d classes (ClassKey d.superclass)
    (subst (λ es. Contains (flat_map (λ (e : Entry). class_keys e.0) es) (ClassKey d.superclass)) (sym (lineage_line classes d.superclass above.line above.is_line)) (first_in_line classes d.superclass above.line above.is_line))

-- ---- where the superclass of a row comes from

-- the change has just defined it, or it was so before
abbrev Above : Change → Option ClassRow → ClassRow → Type 0
Above c o row = ((d : Definition) × (c ≡ change.Form (Define d)) × (row.superclass ≡ Some d.superclass)) ⊎ ((old : ClassRow) × (o ≡ Some old) × (old.superclass ≡ row.superclass))

some_row : (a b : ClassRow) → Some a ≡ Some b → a ≡ b
some_row a b is = cc

changed_above : (c : Change) (f : ClassRow → ClassRow) → ((row : ClassRow) → (f row).superclass ≡ row.superclass) → (o : Option ClassRow) (row : ClassRow) → option_map f o ≡ Some row → Above c o row
changed_above c f leaves None row is = absurd (let none : None ≡ Some row = is in cc)
changed_above c f leaves (Some old) row is = inr (old, refl, sym (leaves old) ∙ ap (λ (r : ClassRow). r.superclass) (some_row (f old) row is))

kept_above : (c : Change) (o : Option ClassRow) (row : ClassRow) → o ≡ Some row → Above c o row
kept_above c o row is = inr (row, is, refl)

above : (c : Change) (o : Option ClassRow) (row : ClassRow) → (act_of c).row o ≡ Some row → Above c o row
above (change.Form (Define d)) o row is = inl (d, refl, sym (ap (λ (r : ClassRow). r.superclass) (some_row (row_of d o) row is)))
above (change.Form (ClassVars name names)) o row is = changed_above (change.Form (ClassVars name names)) (with_class_side_vars names) (λ row. refl) o row is
above (change.Form (Comment name text)) o row is = changed_above (change.Form (Comment name text)) (with_comment text) (λ row. refl) o row is
above (change.Form (RemoveMethod name side selector)) o row is = kept_above (change.Form (RemoveMethod name side selector)) o row is
above (change.Form (Classify name side selector category)) o row is = kept_above (change.Form (Classify name side selector category)) o row is
above (change.Form (RemoveClass name)) o row is = absurd (let none : None ≡ Some row = is in cc)
above (change.Form NoChanges) o row is = kept_above (change.Form NoChanges) o row is
above (change.Method m) o row is = by_check m.source.selector refl
  where
    by_check : (check : Result (List ℕ) _) → m.source.selector ≡ check → Above (change.Method m) o row
    by_check (Ok selector) so = kept_above (change.Method m) o row (sym (ap (λ r. (method_act m r).row o) so) ∙ is)
    by_check (Err refusal) so = kept_above (change.Method m) o row (sym (ap (λ r. (method_act m r).row o) so) ∙ is)
above (change.DoIt text) o row is = kept_above (change.DoIt text) o row is

-- ---- behind a change that is free of it

module _ (one : Change) (before now : State) (made : Does (act_of one) before now) (taken : Takes one before) where
  -- a class without subclasses stays so, if the change doesn't use it
  stays_alone : (name : Name) → (Contains (touches one before.classes) (ClassKey name) → ⊥) → ((q : Name) (row : ClassRow) → finmap.get before.classes q ≡ Some row → row.superclass ≢ Some name)
      → (q : Name) (row : ClassRow) → finmap.get now.classes q ≡ Some row → row.superclass ≢ Some name
  stays_alone name unused alone q row is under = by_name (bytes_eq q (act_of one).name) refl
    where
      defined : (d : Definition) → one ≡ change.Form (Define d) → row.superclass ≡ Some d.superclass → ⊥
      defined d is_one top =
          let line : HasLine d before.classes = (subst (λ c. Takes c before) is_one taken).above in
          let same : d.superclass ≡ name = let both : Some d.superclass ≡ Some name = sym top ∙ under in cc in
          unused (subst (λ c. Contains (touches c before.classes) (ClassKey name)) (sym is_one) (subst (λ n. Contains (touches (change.Form (Define d)) before.classes) (ClassKey n)) same (uses_above d before.classes line)))

      by_above : Above one (finmap.get before.classes q) row → ⊥
      by_above (inl (d, is_one, top)) = defined d is_one top
      by_above (inr (old, found, same)) = alone q old found (same ∙ under)

      by_name : (b : Bool) → bytes_eq q (act_of one).name ≡ b → ⊥
      by_name true named = by_above (above one (finmap.get before.classes q) row (sym (made.rows q ∙ ap (λ b. cond b ((act_of one).row (finmap.get before.classes q)) (finmap.get before.classes q)) named) ∙ is))
      by_name false named = alone q row (sym (made.rows q ∙ ap (λ b. cond b ((act_of one).row (finmap.get before.classes q)) (finmap.get before.classes q)) named) ∙ is) under

  module _ (other : Change) (free : AreFree one other before.classes) where
    used : (key : Key) → Contains (uses other before.classes) key → Contains (writes one before.classes) key → ⊥
    used key has written = free.left key written (Contains-append_right (writes other before.classes) (uses other before.classes) key has)

    written_too : (key : Key) → Contains (writes other before.classes) key → Contains (writes one before.classes) key → ⊥
    written_too key has written = free.left key written (Contains-append_left (writes other before.classes) (uses other before.classes) key has)

    same_class : (name : Name) → Contains (uses other before.classes) (ClassKey name) → finmap.contains_key now.classes name ≡ finmap.contains_key before.classes name
    same_class name has = kept_class one before now made name (used (ClassKey name) has)

-- what is said of the other change, by its kind
pub record Later (one other : Change) (before now : State) : Type 0 where
  pub taken : Takes other now
  pub writes : writes other now.classes ≡ writes other before.classes
  pub uses : uses other now.classes ≡ uses other before.classes

module _ (one : Change) (before now : State) (made : Does (act_of one) before now) (taken : Takes one before) where
  -- a change of a class that is there, which looks no further
  there_later : (other : Change) (name : Name) → AreFree one other before.classes → Contains (uses other before.classes) (ClassKey name) → finmap.contains_key before.classes name ≡ true → finmap.contains_key now.classes name ≡ true
  there_later other name free has there = same_class one before now made taken other free name has ∙ there

  method_later : (other : Change) (name : Name) (side : Side) (selector : List ℕ) → AreFree one other before.classes → Contains (uses other before.classes) (ClassKey name)
      → Contains (writes other before.classes) (MethodKey name side selector) → TakesMethod name side selector before → TakesMethod name side selector now
  method_later other name side selector free used_class written takes = record {
    there = there_later other name free used_class takes.there;
    found = ap is_some (kept_method one before now made name side selector (used one before now made taken other free (ClassKey name) used_class) (written_too one before now made taken other free (MethodKey name side selector) written)) ∙ takes.found;
  }

  module _ (d : Definition) (free : AreFree one (change.Form (Define d)) before.classes) (takes : TakesDefinition d before.classes) where
    old_line : List Entry
    old_line = takes.above.line

    new_line : (fs : List Entry) × IsLine now.classes (Some d.superclass) fs × (map (λ e. e.0) fs ≡ map (λ e. e.0) takes.above.line)
    new_line =
        line_later one before now made (Some d.superclass) takes.above.line takes.above.is_line
        (λ key has written.
        free.left key written
        (line_used d before.classes key (subst (λ es. Contains (flat_map (λ (e : Entry). class_keys e.0) es) key) (sym (lineage_line before.classes d.superclass takes.above.line takes.above.is_line)) has)))

    definition_later : TakesDefinition d now.classes
    definition_later = record {
      named = takes.named;
      own = takes.own;
      once = takes.once;
      above = record { line = new_line.0; is_line = new_line.1; apart = same_passes takes.above.line new_line.0 new_line.2 d.class_name ∙ takes.above.apart };
    }

    same_lines : line_keys d.superclass now.classes ≡ line_keys d.superclass before.classes
    same_lines =
        ap (flat_map (λ (e : Entry). class_keys e.0)) (lineage_line now.classes d.superclass new_line.0 new_line.1) ∙ same_keys takes.above.line new_line.0 new_line.2
        ∙ sym (ap (flat_map (λ (e : Entry). class_keys e.0)) (lineage_line before.classes d.superclass takes.above.line takes.above.is_line))

    there_too : (b : Bool) → finmap.contains_key before.classes d.class_name ≡ b → Contains (touches (change.Form (Define d)) before.classes) (ClassKey d.class_name)
    there_too true is =
        Contains-append_right (form_writes (Define d) before.classes) (form_uses (Define d) before.classes) (ClassKey d.class_name)
        (Contains-append_right (line_keys d.superclass before.classes) (cond (finmap.contains_key before.classes d.class_name) (ClassKey d.class_name ∷ []) []) (ClassKey d.class_name)
        (subst (λ b. Contains (cond b (ClassKey d.class_name ∷ []) []) (ClassKey d.class_name)) (sym is) (here (ClassKey d.class_name) [])))
    there_too false is =
        Contains-append_left (form_writes (Define d) before.classes) (form_uses (Define d) before.classes) (ClassKey d.class_name)
        (subst (λ b. Contains (cond b (DefinitionKey d.class_name ∷ []) (class_keys d.class_name)) (ClassKey d.class_name)) (sym is) (here (ClassKey d.class_name) (DefinitionKey d.class_name ∷ [])))

    same_there : finmap.contains_key now.classes d.class_name ≡ finmap.contains_key before.classes d.class_name
    same_there = kept_class one before now made d.class_name (λ written. free.left (ClassKey d.class_name) written (there_too (finmap.contains_key before.classes d.class_name) refl))

    defined_later : Later one (change.Form (Define d)) before now
    defined_later = record {
      taken = definition_later;
      writes = ap (λ b. cond b (DefinitionKey d.class_name ∷ []) (class_keys d.class_name)) same_there;
      uses = λ i. same_lines i ++ cond (same_there i) (ClassKey d.class_name ∷ []) [];
    }

  later : (other : Change) → AreFree one other before.classes → Takes other before → Later one other before now
  later (change.Form (Define d)) free takes = defined_later d free takes
  later (change.Form (ClassVars name names)) free takes = record {
    taken = record { named = takes.named; there = there_later (change.Form (ClassVars name names)) name free (here (ClassKey name) []) takes.there; own = takes.own; once = takes.once };
    writes = refl;
    uses = refl;
  }
  later (change.Form (Comment name text)) free takes = record { taken = there_later (change.Form (Comment name text)) name free (here (ClassKey name) []) takes; writes = refl; uses = refl }
  later (change.Form (RemoveMethod name side selector)) free takes = record {
    taken = method_later (change.Form (RemoveMethod name side selector)) name side selector free (here (ClassKey name) []) (here (MethodKey name side selector) []) takes;
    writes = refl;
    uses = refl;
  }
  later (change.Form (Classify name side selector category)) free takes = record {
    taken = method_later (change.Form (Classify name side selector category)) name side selector free (here (ClassKey name) []) (here (MethodKey name side selector) []) takes;
    writes = refl;
    uses = refl;
  }
  later (change.Form (RemoveClass name)) free takes = record {
    taken = record {
      there = there_later (change.Form (RemoveClass name)) name free (here (ClassKey name) []) takes.there;
      own = takes.own;
      alone = stays_alone one before now made taken name (λ touched. free.right (ClassKey name) (here (ClassKey name) (DefinitionKey name ∷ [])) touched) takes.alone;
    };
    writes = refl;
    uses = refl;
  }
  later (change.Form NoChanges) free takes = record { taken = tt; writes = refl; uses = refl }
  later (change.Method m) free takes = record { taken = (takes.0, there_later (change.Method m) m.class_name free (here (ClassKey m.class_name) []) takes.1); writes = refl; uses = refl }
  later (change.DoIt text) free takes = record { taken = tt; writes = refl; uses = refl }

-- ---- two changes that are free of each other

module _ (one other : Change) (state : State) (free : AreFree one other state.classes) (takes_one : Takes one state) (takes_other : Takes other state) where
  pub behind_one : Later one other state (effect one state)
  behind_one = later one state (effect one state) (does one state) takes_one other free takes_other

  pub one_end : effect other (effect one state) ≡ effect one (effect other state)
  one_end =
      agreed (act_of one) (act_of other) state (effect one state) (effect other state) (effect other (effect one state)) (effect one (effect other state)) (does one state) (does other state)
      (does other (effect one state)) (does one (effect other state)) (agree one other state free)
