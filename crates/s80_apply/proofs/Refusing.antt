-- What an accepted definition meets, and the step that is made of it.
use Rattle.std.proofs.Common.{◌≡◌, ◌≤◌, ◌<◌, ◌+◌, ◌^◌, ◌∙◌, ℕ, Bool, cond, true, false, refl, sym, ap, subst, [], ◌∷◌, length, Vec, Global, Option, Some, None, is_some, option_map, unwrap_or, MatchOption, true≢false, arith}
use Rattle.std.specs.FinMap as map
use Rattle.std.proofs.lemmas.List.Sums.{sum_by-cons}
use Rattle.s80_form.specs.declared.definition.Definition.{Definition}
use Rattle.s80_form.specs.declared.refusal.Refusal.TheVariants.{Cycle}
use Rattle.s80_form.specs.declared.refusal.ManyKind.TheVariants.{Classes as ManyClasses, InstanceVariables, ClassVariables, ClassSideVariables, Pools, BitsVariables}
use Rattle.s80_class.specs.declared.entry.ClassEntry.{ClassEntry}
use Rattle.s80_class.specs.declared.inherited.Totals.{Totals}
use Rattle.s80_class.specs.declared.inherited.Greatest.{Greatest}
use Rattle.s80_class.specs.Classes.{Name, ClassRow, Classes, IsLine, IsValid, lineage, is_under, inherited_in, inherited_of, extent_of, bits_variables_of, is_bits, own_or}
use Rattle.s80_class.specs.Counted.{counted, totals, greatest_of}
use Rattle.s80_class.specs.Table.{Table, IsNumberOf, IsSuperclass, IsAbove, row_of}
use Rattle.s80_class.proofs.lemmas.Lines.{Entry, IsOver, passes}
use Rattle.s80_apply.specs.Accept.{row_of as defined_row, define, bad_name, unknown_class, kernel_class, cycle, duplicate, too_many, above, refusal_of}
use Rattle.s80_apply.specs.Entry.{IsDefined}
use Rattle.s80_apply.specs.Extent.{IsGreatest, totals_on, alone}
use Rattle.s80_apply.specs.Limits.{IsWithin}
use Rattle.s80_apply.specs.System.{AreRecompiled, CanPut, HasDictionaryRoom, MayPut, SystemState, with_entry}
use Rattle.s80_apply.specs.declared.step.PlacedMethod.{PlacedMethod}
use Rattle.s80_class.proofs.lemmas.Most.{some_row}
use Rattle.s80_apply.proofs.Passing.{few_enough, known_name, none_first}
use Rattle.s80_apply.proofs.Defined.{alone_under, line_of, no_lineage, over_of, inherited_defined, valid_defined}
use Rattle.s80_apply.proofs.Extents.{bits_extent, own_side, within_defined, alone_extent, grown_extent}

-- ---- no check refuses

not_under : (d : Definition) (classes : Classes) → cycle d classes ≡ None → is_under classes d.superclass d.class_name ≡ false
not_under d classes h = go (is_under classes d.superclass d.class_name) refl h
  where
    go : (b : Bool) → is_under classes d.superclass d.class_name ≡ b → cond b (Some (Cycle d.class_name)) None ≡ None → is_under classes d.superclass d.class_name ≡ false
    go false is _ = is
    go true is bad = absurd (cc)

-- what the classes meet for which no reason to refuse was found
pub record IsAccepted (d : Definition) (classes : Classes) : Type 0 where
  pub known : map.contains_key classes d.superclass ≡ true
  pub acyclic : is_under classes d.superclass d.class_name ≡ false
  pub count : map.len (define d classes) ≤ 65536
  pub inst_vars : (extent_of (define d classes) d.class_name).inst_vars ≤ 64
  pub class_side_vars : (extent_of (define d classes) d.class_name).class_side_vars ≤ 64

pub accepted_where : (d : Definition) (classes : Classes) → refusal_of d classes ≡ None → IsAccepted d classes
accepted_where d classes h =
    let E = extent_of (define d classes) d.class_name in
    let bits = above 0 BitsVariables E.bits_variables in
    let pools = above 256 Pools (length d.pools) in
    let side = above 64 ClassSideVariables E.class_side_vars in
    let vars = above 256 ClassVariables (length d.class_vars) in
    let inst = above 64 InstanceVariables E.inst_vars in
    let many = above 65536 ManyClasses (map.len (define d classes)) in
    let a = none_first (bad_name d) (unknown_class d classes ∷ kernel_class d ∷ cycle d classes ∷ duplicate d ∷ too_many d classes ∷ []) h in
    let b = none_first (unknown_class d classes) (kernel_class d ∷ cycle d classes ∷ duplicate d ∷ too_many d classes ∷ []) a.1 in
    let c = none_first (kernel_class d) (cycle d classes ∷ duplicate d ∷ too_many d classes ∷ []) b.1 in
    let e = none_first (cycle d classes) (duplicate d ∷ too_many d classes ∷ []) c.1 in
    let f = none_first (duplicate d) (too_many d classes ∷ []) e.1 in
    let g = none_first (too_many d classes) [] f.1 in
    let m = none_first many (inst ∷ vars ∷ side ∷ pools ∷ bits ∷ []) g.0 in
    let n = none_first inst (vars ∷ side ∷ pools ∷ bits ∷ []) m.1 in
    let o = none_first vars (side ∷ pools ∷ bits ∷ []) n.1 in
    let q = none_first side (pools ∷ bits ∷ []) o.1 in
    record {
      known = known_name d.superclass classes b.0;
      acyclic = not_under d classes e.0;
      count = few_enough 65536 ManyClasses (map.len (define d classes)) m.0;
      inst_vars = few_enough 64 InstanceVariables E.inst_vars n.0;
      class_side_vars = few_enough 64 ClassSideVariables E.class_side_vars q.0;
    }

-- ---- the totals of the class as it is defined

capped_sum : (a b x : ℕ) → x ≡ b + a → counted (counted a + b) ≡ counted x
capped_sum a b x e = omega (arith, e)

small : (n : ℕ) → n < 2 ^ 64 → counted n ≡ n
small n h = omega arith

module _ (d : Definition) (classes : Classes) (valid : IsValid classes) (known : map.contains_key classes d.superclass ≡ true) (acyclic : is_under classes d.superclass d.class_name ≡ false) where
  abbrev row : ClassRow
  row = defined_row d (map.get classes d.class_name)

  abbrev superclass : (r : ClassRow) × (map.get classes d.superclass ≡ Some r)
  superclass = some_row classes d.superclass known

  abbrev pub over : IsOver classes d.class_name (Some d.superclass)
  over = over_of classes d.class_name d.superclass superclass.0 valid superclass.1 acyclic

  pub valid_after : IsValid (define d classes)
  valid_after = valid_defined classes d.class_name row valid over

  inherits : inherited_of (define d classes) d.class_name ≡ inherited_in ((d.class_name, row) ∷ lineage classes d.superclass)
  inherits = inherited_defined classes d.class_name row valid over

  inst_sum : (inherited_of (define d classes) d.class_name).inst_vars ≡ length d.inst_vars + (inherited_of classes d.superclass).inst_vars
  inst_sum = ap (λ t. t.inst_vars) inherits ∙ sum_by-cons (λ (e : Entry). length e.1.inst_vars) (d.class_name, row) (lineage classes d.superclass)

  side_sum : (inherited_of (define d classes) d.class_name).class_side_vars ≡ length row.class_side_vars + (inherited_of classes d.superclass).class_side_vars
  side_sum = ap (λ t. t.class_side_vars) inherits ∙ sum_by-cons (λ (e : Entry). length e.1.class_side_vars) (d.class_name, row) (lineage classes d.superclass)

  pub counted_top : (t : Totals) (side : ℕ) → t ≡ totals (inherited_of classes d.superclass) → side ≡ length row.class_side_vars → totals_on t d side ≡ totals (inherited_of (define d classes) d.class_name)
  counted_top t side same count =
      let e : counted (t.inst_vars + length d.inst_vars) ≡ counted (inherited_of (define d classes) d.class_name).inst_vars =
      ap (λ n. counted (n + length d.inst_vars)) (ap (λ t. t.inst_vars) same) ∙ capped_sum _ _ _ inst_sum in
      let f : counted (t.class_side_vars + side) ≡ counted (inherited_of (define d classes) d.class_name).class_side_vars =
      ap (λ n. counted (n + side)) (ap (λ t. t.class_side_vars) same) ∙ capped_sum _ _ _ (side_sum ∙ ap (λ n. n + (inherited_of classes d.superclass).class_side_vars) (sym count)) in
      let g : own_or d.kind t.kind ≡ (inherited_of (define d classes) d.class_name).kind = ap (λ t. own_or d.kind t.kind) same ∙ sym (ap (λ t. t.kind) inherits) in
      λ i. record { inst_vars = e i; class_side_vars = f i; kind = g i }

  -- ---- the extent

  module _ (within : IsWithin classes) (short : length d.inst_vars < 2 ^ 63) where
    above_inst : (inherited_of classes d.superclass).inst_vars ≤ 64
    above_inst = within.inst_vars d.superclass superclass.0 superclass.1

    above_side : (inherited_of classes d.superclass).class_side_vars ≤ 64
    above_side = within.class_side_vars d.superclass superclass.0 superclass.1

    pub extent_new : map.get classes d.class_name ≡ None → (t : Totals) (result : Greatest) → t ≡ totals (inherited_of (define d classes) d.class_name) → result ≡ alone t
        → IsGreatest (extent_of (define d classes) d.class_name) result
    extent_new none t result same is =
        let T = inherited_of (define d classes) d.class_name in
        let none_side : length row.class_side_vars ≡ 0 = ap (λ o. length (unwrap_or (option_map (λ (row : ClassRow). row.class_side_vars) o) [])) none in
        let inst : counted T.inst_vars ≡ T.inst_vars = small T.inst_vars (omega (arith, inst_sum, above_inst, short)) in
        let side : counted T.class_side_vars ≡ T.class_side_vars = small T.class_side_vars (omega (arith, side_sum, above_side, none_side)) in
        let all : result ≡ alone (totals T) = is ∙ ap alone same in
        record {
          inst_vars = ap (λ g. g.inst_vars) all ∙ inst ∙ sym (alone_extent classes d.class_name row valid over none (λ t. t.inst_vars));
          class_side_vars = ap (λ g. g.class_side_vars) all ∙ side ∙ sym (alone_extent classes d.class_name row valid over none (λ t. t.class_side_vars));
          bits_variables = ap (λ g. g.bits_variables) all ∙ ap (λ n. cond (is_bits T.kind) n 0) inst ∙ sym (alone_extent classes d.class_name row valid over none bits_variables_of);
        }

    pub extent_there : (old : ClassRow) → map.get classes d.class_name ≡ Some old → (result : Greatest) → result ≡ greatest_of (extent_of (define d classes) d.class_name)
        → IsGreatest (extent_of (define d classes) d.class_name) result
    extent_there old here result is =
        let T = inherited_of (define d classes) d.class_name in
        let E = extent_of (define d classes) d.class_name in
        let mine : length row.class_side_vars ≤ 64 =
        let same : length row.class_side_vars ≡ length old.class_side_vars = ap (λ o. length (unwrap_or (option_map (λ (row : ClassRow). row.class_side_vars) o) [])) here in
        omega (arith, same, own_side classes d.class_name old valid here, within.class_side_vars d.class_name old here) in
        let inst_bound : E.inst_vars ≤ 64 + T.inst_vars = grown_extent classes d.class_name row valid over old here (λ e. length e.1.inst_vars) (λ t. t.inst_vars) (λ es. refl) 64 within.inst_vars in
        let side_bound : E.class_side_vars ≤ 64 + T.class_side_vars = grown_extent classes d.class_name row valid over old here (λ e. length e.1.class_side_vars) (λ t. t.class_side_vars) (λ es. refl) 64 within.class_side_vars in
        let bits_bound : E.bits_variables ≤ E.inst_vars = bits_extent (define d classes) d.class_name in
        record {
          inst_vars = ap (λ g. g.inst_vars) is ∙ small E.inst_vars (omega (arith, inst_bound, inst_sum, above_inst, short));
          class_side_vars = ap (λ g. g.class_side_vars) is ∙ small E.class_side_vars (omega (arith, side_bound, side_sum, above_side, mine));
          bits_variables = ap (λ g. g.bits_variables) is ∙ small E.bits_variables (omega (arith, bits_bound, inst_bound, inst_sum, above_inst, short));
        }

-- ---- the step

-- the entry may be put, and makes the class
pub record IsPlaced (d : Definition) (table : Table) (number : Option ℕ) (entry : ClassEntry) : Type 0 where
  pub may_put : MayPut table number entry
  pub within : IsWithin (with_entry table entry)
  pub over : IsOver table.classes entry.class_name (row_of table.names entry).superclass
  pub makes : with_entry table entry ≡ define d table.classes

same_table : (old now : Table) → now.classes ≡ old.classes → now.names ≡ old.names → ◌≡◌ {A = Table} (record { classes = old.classes; names = old.names; spare = now.spare }) now
same_table old now c n = λ i. record { classes = sym c i; names = sym n i; spare = now.spare }

module _ (d : Definition) (table : Table) (room : 0 < table.spare) (valid : IsValid table.classes) (within : IsWithin table.classes) (accepted : refusal_of d table.classes ≡ None)
    (entry : ClassEntry) (defined : IsDefined table d entry) where
  ok : IsAccepted d table.classes
  ok = accepted_where d table.classes accepted

  -- its superclass is there, and isn't under it
  placed : (o : Option ℕ) → MatchOption o (map.get table.classes d.superclass ≡ None) (λ c. IsNumberOf table.names c d.superclass) → IsSuperclass table.names o × IsAbove table o entry.class_name
  placed None none = absurd (true≢false (sym ok.known ∙ ap is_some none))
  placed (Some c) named = ((d.superclass, named), (d.superclass, named, ap (is_under table.classes d.superclass) defined.class_name ∙ ok.acyclic))

  may_put : (number : Option ℕ) → MatchOption number (map.get table.classes d.class_name ≡ None) (λ c. IsNumberOf table.names c d.class_name) → MayPut table number entry
  may_put None none = (room, ap (map.get table.classes) defined.class_name ∙ none, (placed entry.superclass defined.superclass).0)
  may_put (Some c) named = (subst (λ (n : Name). IsNumberOf table.names c n) (sym defined.class_name) named, (placed entry.superclass defined.superclass).1)

  makes : with_entry table entry ≡ define d table.classes
  makes = λ i. map.insert table.classes (defined.class_name i) (defined.row i)

  placed_here : (number : Option ℕ) → MatchOption number (map.get table.classes d.class_name ≡ None) (λ c. IsNumberOf table.names c d.class_name) → IsPlaced d table number entry
  placed_here number found =
      let kept : IsWithin (define d table.classes) = within_defined table.classes d.class_name (defined_row d (map.get table.classes d.class_name)) valid (over d table.classes valid ok.known ok.acyclic) within ok.count ok.inst_vars ok.class_side_vars in
      record {
        may_put = may_put number found;
        within = subst IsWithin (sym makes) kept;
        over = subst (λ (n : Name). IsOver table.classes n (row_of table.names entry).superclass) (sym defined.class_name)
            (subst (λ o. IsOver table.classes d.class_name o) (sym (ap (λ (r : ClassRow). r.superclass) defined.row)) (over d table.classes valid ok.known ok.acyclic));
        makes = makes;
      }

pub prepared : (d : Definition) (old now : Table) (entry : ClassEntry) (number : Option ℕ) → now.classes ≡ old.classes → now.names ≡ old.names → 0 < now.spare → IsValid old.classes → IsWithin old.classes
    → refusal_of d old.classes ≡ None → IsDefined old d entry → MatchOption number (map.get old.classes d.class_name ≡ None) (λ c. IsNumberOf old.names c d.class_name)
    → IsPlaced d now number entry
prepared d old now entry number classes names room valid within accepted defined found =
    let table : Table = record { classes = old.classes; names = old.names; spare = now.spare } in
    let here : IsDefined table d entry = record { class_name = defined.class_name; row = defined.row; superclass = defined.superclass } in
    subst (λ (t : Table). IsPlaced d t number entry) (same_table old now classes names)
    (placed_here d table room valid within accepted entry here number found)

-- ---- a new class

-- only what is there is under a class
under_there : (classes : Classes) (name q : Name) → is_under classes q name ≡ true → (row : ClassRow) × (map.get classes q ≡ Some row)
under_there classes name q under = go (map.get classes q) refl
  where
    go : (o : Option ClassRow) → map.get classes q ≡ o → (row : ClassRow) × (map.get classes q ≡ Some row)
    go None none = absurd (true≢false (sym under ∙ ap (passes name) (no_lineage classes q none)))
    go (Some row) is = (row, is)

-- no class of before is under it, so no method is compiled again
nothing_again : (system : SystemState) (entry : ClassEntry) → IsValid system.table.classes → IsOver system.table.classes entry.class_name (row_of system.table.names entry).superclass → map.get system.table.classes entry.class_name ≡ None
    → ((c : ℕ) → IsNumberOf system.table.names c entry.class_name → ⊥) → AreRecompiled system (with_entry system.table entry) entry.class_name []
nothing_again system entry valid over none unnumbered = record {
  each = λ k p at. absurd (let bad : None ≡ Some p = at in cc);
  apart = λ j k p q at. absurd (let bad : None ≡ Some p = at in cc);
  all = λ number class side selector method named under has.
      let classes = system.table.classes in
      let row = row_of system.table.names entry in
      let there = under_there (with_entry system.table entry) entry.class_name class under in
      let line : IsLine (with_entry system.table entry) (Some class) (lineage (with_entry system.table entry) class) = line_of (with_entry system.table entry) class there.0 (valid_defined classes entry.class_name row valid over) there.1 in
      let same : class ≡ entry.class_name = alone_under classes entry.class_name row valid over none class (lineage (with_entry system.table entry) class) line under in
      absurd (unnumbered number (subst (λ (n : Name). IsNumberOf system.table.names number n) same named));
}

pub none_numbered : (n : ℕ) → None ≡ Some n → ⊥
none_numbered n is = cc

pub new_can_put : (system : SystemState) (d : Definition) (number : Option ℕ) (entry : ClassEntry) (recompiled : Vec PlacedMethod Global) → number ≡ None → recompiled.items ≡ [] → IsPlaced d system.table None entry → 0 < system.methods.spare
    → IsValid system.table.classes → map.get system.table.classes entry.class_name ≡ None → ((c : ℕ) → IsNumberOf system.table.names c entry.class_name → ⊥)
    → CanPut system (record { number = number; entry = entry; recompiled = recompiled })
new_can_put system d number entry recompiled new empty placed some valid none unnumbered = record {
  may_put = subst (λ o. MayPut system.table o entry) (sym new) placed.may_put;
  within = placed.within;
  room = subst (λ o. HasDictionaryRoom o system.methods) (sym new) some;
  recompiled = subst (λ ps. AreRecompiled system (with_entry system.table entry) entry.class_name ps) (sym empty) (nothing_again system entry valid placed.over none unnumbered);
}
