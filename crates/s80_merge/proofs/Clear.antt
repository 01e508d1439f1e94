-- Two changes that are free of each other: what the one leaves of what the other looks at.
use Rattle.std.proofs.Common.{◌≡◌, ◌∙◌, ◌++◌, ◌&&◌, ◌||◌, inl, inr, ℕ, Bool, cond, true, false, refl, sym, ap, subst, List, [], ◌∷◌, Option, Some, None, is_some, option_map, bytes_eq, flat_map, map}
use Rattle.std.specs.Cmp.Lexicographic.{bytes_decides}
use Rattle.std.specs.FinMap as finmap
use Rattle.std.specs.List.{Contains, list_any}
use Rattle.std.proofs.lemmas.List.Elements.{Contains-append_left, Contains-append_right}
use Rattle.s80_base.specs.declared.names.Side.{Side}
use Rattle.s80_dict.specs.Table.{same_side}
use Rattle.s80_change.specs.declared.change.Change.{Change}
use Rattle.s80_class.specs.Classes.{Name, ClassRow, IsLine}
use Rattle.s80_class.proofs.lemmas.Lines.{Entry, passes}
use Rattle.s80_apply.specs.State.{MethodRow, State}
use Rattle.s80_merge.specs.declared.key.Key.{Key}
use Rattle.s80_merge.specs.declared.key.Key.TheVariants.{ClassKey, DefinitionKey, MethodKey}
use Rattle.s80_merge.specs.Touched.{class_keys, writes}
use Rattle.s80_merge.proofs.Acts.{Agree, Does, act_of, is_side}
use Rattle.s80_merge.proofs.Members.{here, later}
use Rattle.s80_merge.proofs.Parts.{Alters, AreApart, AreFree, IsPart, Part, Defining, Giving, Commenting, Placing, Nothing, alters, both_true, clash, idle_left, idle_right, methods_agree, part_keys, part_method, part_row, rows_agree}

-- ---- they agree

module _ (one other : Change) (state : State) (free : AreFree one other state.classes) (same : (act_of one).name ≡ (act_of other).name) where
  module _ (mine : IsPart one state.classes) (theirs : IsPart other state.classes) where
    apart : AreApart (part_keys mine.part (act_of one).name) (part_keys theirs.part (act_of one).name)
    apart = λ key left right.
        free.left key (subst (λ keys. Contains keys key) (sym mine.keys) left)
        (Contains-append_left (writes other state.classes) _ key (subst (λ keys. Contains keys key) (sym (theirs.keys ∙ ap (part_keys theirs.part) (sym same))) right))

    rows_so : (n : Name) (o : Option ClassRow) → finmap.get state.classes n ≡ o → n ≡ (act_of one).name → n ≡ (act_of other).name → (act_of other).row ((act_of one).row o) ≡ (act_of one).row ((act_of other).row o)
    rows_so n (Some row) is is_mine is_theirs =
        ap (act_of other).row (mine.some row) ∙ theirs.some (part_row mine.part row) ∙ ap Some (rows_agree (act_of one).name row mine.part theirs.part apart)
        ∙ sym (ap (act_of one).row (theirs.some row) ∙ mine.some (part_row theirs.part row))
    rows_so n None is is_mine is_theirs =
        let one_none : (act_of one).row None ≡ None = mine.none (ap (finmap.contains_key state.classes) (sym is_mine) ∙ ap is_some is) in
        let other_none : (act_of other).row None ≡ None = theirs.none (ap (finmap.contains_key state.classes) (sym is_theirs) ∙ ap is_some is) in
        ap (act_of other).row one_none ∙ other_none ∙ sym (ap (act_of one).row other_none ∙ one_none)

    methods_so : (s : Side) (k : List ℕ) (o : Option MethodRow) → (act_of other).method s k ((act_of one).method s k o) ≡ (act_of one).method s k ((act_of other).method s k o)
    methods_so s k o =
        ap ((act_of other).method s k) (mine.methods s k o) ∙ theirs.methods s k (part_method mine.part s k o) ∙ methods_agree (act_of one).name s k o mine.part theirs.part apart
        ∙ sym (ap ((act_of one).method s k) (theirs.methods s k o) ∙ mine.methods s k (part_method theirs.part s k o))

    parts_agree : Agree (act_of one) (act_of other) state
    parts_agree = record {
      rows = λ n is_mine is_theirs. rows_so n (finmap.get state.classes n) refl is_mine is_theirs;
      methods = λ n s k _ _. methods_so s k (finmap.get (state.methods n s) k);
    }

  by_case : Alters one state.classes → Alters other state.classes → Agree (act_of one) (act_of other) state
  by_case (inl written) theirs = idle_right one other state (clash one other state.classes free.left written same)
  by_case (inr mine) (inl written) = idle_left one other state (clash other one state.classes free.right written (sym same))
  by_case (inr mine) (inr theirs) = parts_agree mine theirs

  agree_there : Agree (act_of one) (act_of other) state
  agree_there = by_case (alters state.classes one) (alters state.classes other)

pub agree : (one other : Change) (state : State) → AreFree one other state.classes → Agree (act_of one) (act_of other) state
agree one other state free = record {
  rows = λ n is_mine is_theirs. (agree_there one other state free (sym is_mine ∙ is_theirs)).rows n is_mine is_theirs;
  methods = λ n s k is_mine is_theirs. (agree_there one other state free (sym is_mine ∙ is_theirs)).methods n s k is_mine is_theirs;
}

-- ---- what a change leaves

superclass_kept : (q : Name) (part : Part) → (Contains (part_keys part q) (DefinitionKey q) → ⊥) → (row : ClassRow) → Some (part_row part row).superclass ≡ Some row.superclass
superclass_kept q (Defining d) lacks row = absurd (lacks (here (DefinitionKey q) []))
superclass_kept q (Giving names) lacks row = refl
superclass_kept q (Commenting text) lacks row = refl
superclass_kept q (Placing side selector f) lacks row = refl
superclass_kept q Nothing lacks row = refl

module _ (c : Change) (before now : State) (does : Does (act_of c) before now) where
  abbrev name : Name
  name = (act_of c).name

  row_here : (q : Name) → bytes_eq q name ≡ true → finmap.get now.classes q ≡ (act_of c).row (finmap.get before.classes q)
  row_here q is = does.rows q ∙ ap (λ b. cond b ((act_of c).row (finmap.get before.classes q)) (finmap.get before.classes q)) is

  row_elsewhere : (q : Name) → bytes_eq q name ≡ false → finmap.get now.classes q ≡ finmap.get before.classes q
  row_elsewhere q is = does.rows q ∙ ap (λ b. cond b ((act_of c).row (finmap.get before.classes q)) (finmap.get before.classes q)) is

  -- so much of a row as no part alters
  module _ {V : Type 0} (view : Option ClassRow → V) (q : Name) (unwritten : Contains (writes c before.classes) (ClassKey q) → ⊥)
      (leaves : (p : IsPart c before.classes) → q ≡ name → (row : ClassRow) → view (Some (part_row p.part row)) ≡ view (Some row)) where
    by_row : (p : IsPart c before.classes) → q ≡ name → (o : Option ClassRow) → finmap.get before.classes q ≡ o → view ((act_of c).row o) ≡ view o
    by_row p is (Some row) found = ap view (p.some row) ∙ leaves p is row
    by_row p is None found = ap view (p.none (ap (finmap.contains_key before.classes) (sym is) ∙ ap is_some found))

    by_part : Alters c before.classes → q ≡ name → view ((act_of c).row (finmap.get before.classes q)) ≡ view (finmap.get before.classes q)
    by_part (inl written) is = absurd (unwritten (subst (λ n. Contains (writes c before.classes) (ClassKey n)) (sym is) written))
    by_part (inr p) is = by_row p is (finmap.get before.classes q) refl

    by_name : (b : Bool) → bytes_eq q name ≡ b → view (finmap.get now.classes q) ≡ view (finmap.get before.classes q)
    by_name true is = ap view (row_here q is) ∙ by_part (alters before.classes c) ((bytes_decides q name).0 is)
    by_name false is = ap view (row_elsewhere q is)

    kept : view (finmap.get now.classes q) ≡ view (finmap.get before.classes q)
    kept = by_name (bytes_eq q name) refl

  -- whether a class is there
  pub kept_class : (q : Name) → (Contains (writes c before.classes) (ClassKey q) → ⊥) → finmap.contains_key now.classes q ≡ finmap.contains_key before.classes q
  kept_class q unwritten = kept is_some q unwritten (λ p is row. refl)

  -- its superclass
  pub kept_superclass : (q : Name) → (Contains (writes c before.classes) (ClassKey q) → ⊥) → (Contains (writes c before.classes) (DefinitionKey q) → ⊥)
      → option_map (λ row. row.superclass) (finmap.get now.classes q) ≡ option_map (λ row. row.superclass) (finmap.get before.classes q)
  kept_superclass q unwritten undefined =
      kept (option_map (λ row. row.superclass)) q unwritten
      (λ p is row. superclass_kept q p.part (λ has. undefined (subst (λ keys. Contains keys (DefinitionKey q)) (sym (p.keys ∙ ap (part_keys p.part) (sym is))) has)) row)

  -- a method
  module _ (q : Name) (s : Side) (k : List ℕ) (unwritten : Contains (writes c before.classes) (ClassKey q) → ⊥) (unput : Contains (writes c before.classes) (MethodKey q s k) → ⊥) where
    placed : (part : Part) → (Contains (part_keys part q) (MethodKey q s k) → ⊥) → (o : Option MethodRow) → part_method part s k o ≡ o
    placed (Defining d) lacks o = refl
    placed (Giving names) lacks o = refl
    placed (Commenting text) lacks o = refl
    placed Nothing lacks o = refl
    placed (Placing side selector f) lacks o = go (same_side s side && bytes_eq k selector) refl
      where
        go : (b : Bool) → (same_side s side && bytes_eq k selector) ≡ b → cond b (f o) o ≡ o
        go false is = refl
        go true is =
            let both = both_true (same_side s side) (bytes_eq k selector) is in
            absurd (lacks (subst (λ key. Contains (key ∷ []) (MethodKey q s k)) (λ i. MethodKey q (is_side s side both.0 i) ((bytes_decides k selector).0 both.1 i)) (here (MethodKey q s k) [])))

    method_part : Alters c before.classes → q ≡ name → (o : Option MethodRow) → (act_of c).method s k o ≡ o
    method_part (inl written) is o = absurd (unwritten (subst (λ n. Contains (writes c before.classes) (ClassKey n)) (sym is) written))
    method_part (inr p) is o =
        p.methods s k o ∙ placed p.part (λ has. unput (subst (λ keys. Contains keys (MethodKey q s k)) (sym (p.keys ∙ ap (part_keys p.part) (sym is))) has)) o

    method_named : (b : Bool) → bytes_eq q name ≡ b → cond b ((act_of c).method s k (finmap.get (before.methods q s) k)) (finmap.get (before.methods q s) k) ≡ finmap.get (before.methods q s) k
    method_named true is = method_part (alters before.classes c) ((bytes_decides q name).0 is) (finmap.get (before.methods q s) k)
    method_named false is = refl

    pub kept_method : finmap.get (now.methods q s) k ≡ finmap.get (before.methods q s) k
    kept_method = does.methods q s k ∙ method_named (bytes_eq q name) refl

  -- ---- a line of superclasses

  row_above : (o : Option ClassRow) (above : Option Name) → option_map (λ row. row.superclass) o ≡ Some above → (row : ClassRow) × (o ≡ Some row) × (row.superclass ≡ above)
  row_above None above bad = absurd (let no : None ≡ Some above = bad in cc)
  row_above (Some row) above is = (row, refl, cc)

  pub line_later : (p : Option Name) (es : List Entry) → IsLine before.classes p es → ((key : Key) → Contains (flat_map (λ e. class_keys e.0) es) key → Contains (writes c before.classes) key → ⊥)
      → (fs : List Entry) × IsLine now.classes p fs × (map (λ e. e.0) fs ≡ map (λ e. e.0) es)
  line_later None [] line free = ([], tt, refl)
  line_later None (e ∷ es) line free = absurd line
  line_later (Some q) [] line free = absurd line
  line_later (Some q) (e ∷ es) line free =
      let keys = flat_map (λ (e : Entry). class_keys e.0) es in
      let no_class : Contains (writes c before.classes) (ClassKey q) → ⊥ = λ has.
      free (ClassKey q) (subst (λ n. Contains (class_keys n ++ keys) (ClassKey q)) (sym line.0) (here (ClassKey q) (DefinitionKey q ∷ keys))) has in
      let no_definition : Contains (writes c before.classes) (DefinitionKey q) → ⊥ = λ has.
      free (DefinitionKey q) (subst (λ n. Contains (class_keys n ++ keys) (DefinitionKey q)) (sym line.0) (later (ClassKey q) (DefinitionKey q ∷ keys) (DefinitionKey q) (here (DefinitionKey q) keys))) has in
      let same = kept_superclass q no_class no_definition ∙ ap (option_map (λ row. row.superclass)) line.1 in
      let row = row_above (finmap.get now.classes q) e.1.superclass same in
      let rest = line_later e.1.superclass es line.2 (λ key has. free key (Contains-append_right (class_keys e.0) keys key has)) in
      ((q, row.0) ∷ rest.0, (refl, row.1, subst (λ above. IsLine now.classes above rest.0) (sym row.2) rest.1), λ i. sym line.0 i ∷ rest.2 i)

-- ---- lines by their names

keys_named : (es : List Entry) → flat_map (λ e. class_keys e.0) es ≡ flat_map class_keys (map (λ e. e.0) es)
keys_named [] = refl
keys_named (e ∷ es) = ap (λ keys. class_keys e.0 ++ keys) (keys_named es)

passes_named : (other : Name) (es : List Entry) → passes other es ≡ list_any (λ n. bytes_eq n other) (map (λ e. e.0) es)
passes_named other [] = refl
passes_named other (e ∷ es) = ap (λ b. bytes_eq e.0 other || b) (passes_named other es)

module _ (es fs : List Entry) (same : map (λ e. e.0) fs ≡ map (λ e. e.0) es) where
  pub same_keys : flat_map (λ e. class_keys e.0) fs ≡ flat_map (λ e. class_keys e.0) es
  same_keys = keys_named fs ∙ ap (flat_map class_keys) same ∙ sym (keys_named es)

  pub same_passes : (other : Name) → passes other fs ≡ passes other es
  same_passes other = passes_named other fs ∙ ap (list_any (λ n. bytes_eq n other)) same ∙ sym (passes_named other es)
