-- What is kept of totals, after each change.
use Rattle.std.proofs.Common.{◌≡◌, ◌≢◌, ◌<◌, ◌≤◌, ◌+◌, ◌-◌, ◌∙◌, ◌++◌, inl, inr, ℕ, true, false, Bool, cond, get_or, refl, sym, ap, subst, List, [], ◌∷◌, length, set, Option, Some, None, is_some, arith, slice_get, length-append, length-set}
use Rattle.std.specs.Option.{option_and_then}
use Rattle.std.specs.FinMap as map
use Rattle.std.specs.Cmp.Lexicographic.{nat_list_cmp_total}
use Rattle.std.proofs.lemmas.Option.{slice_get_within, slice_get-get_or}
use Rattle.s80_class.specs.declared.entry.ClassEntry.{ClassEntry}
use Rattle.s80_class.specs.declared.inherited.Totals.{Totals}
use Rattle.s80_class.specs.Classes.{Name, ClassRow, Classes, IsLine, IsValid, Inherited, inherited_in, inherited_of, is_under}
use Rattle.s80_class.specs.Counted.{totals, nothing, over, own}
use Rattle.s80_class.specs.Table.{Table, IsNumberOf, IsSuperclass, IsAbove, name_of, row_of}
use Rattle.s80_class.specs.Family.{Found, IsFamily}
use Rattle.s80_class.specs.Known.{IsKnown}
use Rattle.s80_class.specs.Totalled.{AreTotals, HasSettled, IsSettled}
use Rattle.s80_class.proofs.lemmas.Lines.{Entry, passes, valid-insert, get-here, get-elsewhere, get-left, line_across, lineage_line, absent_passed, alone_passed}
use Rattle.s80_class.proofs.lemmas.Rows.{get_kept, get_new, get_pushed, get_set, get_set_other, same_number, superclass_in, name_is}
use Rattle.s80_class.proofs.Indexed.{none_there}
use Rattle.s80_class.proofs.lemmas.Walks.{same_name, totals_more}
use Rattle.s80_class.proofs.lemmas.Commented.{AreCommented, commented_inherited}

-- ---- as many classes as before, one more, one less

pub one_more : (classes : Classes) (name : Name) (row : ClassRow) → map.get classes name ≡ None → map.len (map.insert classes name row) ≡ map.len classes + 1
one_more classes name row none =
    map.len-insert nat_list_cmp_total classes name row ∙ ap (λ (o : Option ClassRow). cond (is_some o) (map.len classes) (map.len classes + 1)) none

pub as_many : (classes : Classes) (name : Name) (old row : ClassRow) → map.get classes name ≡ Some old → map.len (map.insert classes name row) ≡ map.len classes
as_many classes name old row there =
    map.len-insert nat_list_cmp_total classes name row ∙ ap (λ (o : Option ClassRow). cond (is_some o) (map.len classes) (map.len classes + 1)) there

pub not_more : (classes : Classes) (name : Name) → map.len (map.remove classes name) ≤ map.len classes
not_more classes name = go (map.contains_key classes name) (map.len-remove nat_list_cmp_total classes name)
  where
    go : (b : Bool) → map.len (map.remove classes name) ≡ cond b (map.len classes - 1) (map.len classes) → map.len (map.remove classes name) ≤ map.len classes
    go true h = omega (arith, h)
    go false h = omega (arith, h)

-- ---- what is settled, one after the other

pub settled_none : (kept : List Totals) → IsSettled [] kept kept
settled_none kept = record { size = refl; each = λ number t at. inr (λ k p got. absurd (none_there k p got), at) }

pub settled_more : (found : List Found) (p : Found) (kept now : List Totals) → IsSettled found kept now → p.0 < length now → IsSettled (found ++ p ∷ []) kept (set now p.0 p.1)
settled_more found p kept now so_far within = record { size = length-set now p.0 p.1 ∙ so_far.size; each = each }
  where
    here : slice_get (set now p.0 p.1) p.0 ≡ Some p.1
    here = get_set now p.0 (get_or now p.0 p.1) p.1 (slice_get-get_or now p.0 p.1 within)

    each : (number : ℕ) (t : Totals) → slice_get (set now p.0 p.1) number ≡ Some t → HasSettled (found ++ p ∷ []) kept number t
    each number t at = elim (same_number number p.0) as (λ _. HasSettled (found ++ p ∷ []) kept number t) [
      | inl same ↦
          let is : p.1 ≡ t = let h : Some p.1 ≡ Some t = sym here ∙ ap (slice_get (set now p.0 p.1)) (sym same) ∙ at in cc in
          inl (length found, p, get_new found p, sym same, is)
      | inr ne ↦ elim (so_far.each number t (sym (get_set_other now p.0 number p.1 ne) ∙ at)) as (λ _. HasSettled (found ++ p ∷ []) kept number t) [
        | inl there ↦ inl (there.0, there.1, get_kept found (p ∷ []) there.0 there.1 there.2, there.3, there.4)
        | inr apart ↦ inr (
          λ k q got. elim (get_pushed found p k q got) [
            | inl old ↦ apart.0 k q old
            | inr new ↦ λ is. ne (sym is ∙ ap (λ (r : Found). r.0) (sym new.1))
          ],
          apart.1,
        )
      ]
    ]

-- what a class has, by its line
by_line : (classes : Classes) (q : Name) (es : List Entry) → IsLine classes (Some q) es → totals (inherited_of classes q) ≡ totals (inherited_in es)
by_line classes q es line = ap (λ xs. totals (inherited_in xs)) (lineage_line classes q es line)

-- a class has the same in each map that differs at a class alone that isn't in its line
same_inherited : (classes other : Classes) (name q : Name) → ((k : Name) → k ≢ name → map.get other k ≡ map.get classes k) → (es : List Entry) → IsLine classes (Some q) es → passes name es ≡ false
    → totals (inherited_of classes q) ≡ totals (inherited_of other q)
same_inherited classes other name q alike es line apart =
    by_line classes q es line ∙ sym (by_line other q es (line_across classes other name alike (Some q) es line apart))

-- so much has a class with this entry
abbrev pub IsTop : Table → ClassEntry → Totals → Type 0
IsTop table e top = (es : List Entry) → IsLine table.classes (option_and_then (name_of table.names) e.superclass) es → top ≡ over (own e.kind e.inst_vars e.class_side_vars) (totals (inherited_in es))

module _ (table : Table) where
  pub above_counts : (s : Option ℕ) (number : ℕ) → s ≡ Some number → IsSuperclass table.names s → (t : Totals) → ((name : Name) → IsNumberOf table.names number name → t ≡ totals (inherited_of table.classes name))
      → (es : List Entry) → IsLine table.classes (superclass_in table.names s) es → t ≡ totals (inherited_in es)
  above_counts s number same class t counts es line =
      let named : IsSuperclass table.names (Some number) = subst (IsSuperclass table.names) same class in
      let at : IsLine table.classes (Some named.0) es =
      subst (λ o. IsLine table.classes o es) (ap (superclass_in table.names) same ∙ name_is table.names number named.0 named.1) line in
      counts named.0 named.1 ∙ by_line table.classes named.0 es at

  pub none_above : (s : Option ℕ) → s ≡ None → (es : List Entry) → IsLine table.classes (superclass_in table.names s) es → nothing ≡ totals (inherited_in es)
  none_above s same es line = go es (subst (λ o. IsLine table.classes (superclass_in table.names o) es) same line)
    where
      go : (es : List Entry) → IsLine table.classes None es → nothing ≡ totals (inherited_in es)
      go [] line = refl
      go (e ∷ es) line = absurd line

module _ (table : Table) (is : IsKnown table) where
  line_of : (number : ℕ) (q : Name) → IsNumberOf table.names number q → (es : List Entry) × IsLine table.classes (Some q) es
  line_of number q named = let row = is.known number q named in is.valid q row.0 row.1

  pub line_over : (s : Option ℕ) → IsSuperclass table.names s → (es : List Entry) × IsLine table.classes (superclass_in table.names s) es
  line_over None class = ([], tt)
  line_over (Some number) class =
      let line = line_of number class.0 class.1 in
      (line.0, subst (λ o. IsLine table.classes o line.0) (sym (name_is table.names number class.0 class.1)) line.1)

  -- ---- what the class itself has, if it comes to have this entry

  top_over : (e : ClassEntry) (top : Totals) → IsTop table e top → (es : List Entry) → IsLine table.classes (superclass_in table.names e.superclass) es → passes e.class_name es ≡ false
      → top ≡ totals (inherited_of (map.insert table.classes e.class_name (row_of table.names e)) e.class_name)
  top_over e top is_top es line apart =
      let row = row_of table.names e in
      let other = map.insert table.classes e.class_name row in
      let up : IsLine other row.superclass es = line_across table.classes other e.class_name (get-elsewhere table.classes e.class_name row) row.superclass es line apart in
      let here : IsLine other (Some e.class_name) ((e.class_name, row) ∷ es) = (refl, get-here table.classes e.class_name row, up) in
      is_top es line ∙ sym (totals_more (e.class_name, row) es) ∙ sym (by_line other e.class_name ((e.class_name, row) ∷ es) here)

  pub top_new : (e : ClassEntry) (top : Totals) → IsTop table e top → IsSuperclass table.names e.superclass → map.get table.classes e.class_name ≡ None
      → top ≡ totals (inherited_of (map.insert table.classes e.class_name (row_of table.names e)) e.class_name)
  top_new e top is_top super none =
      let line = line_over e.superclass super in
      top_over e top is_top line.0 line.1 (absent_passed table.classes e.class_name none (superclass_in table.names e.superclass) line.0 line.1)

  above_class : (s : Option ℕ) (name : Name) → IsAbove table s name → IsSuperclass table.names s
  above_class None name above = tt
  above_class (Some number) name above = (above.0, above.1)

  above_passed : (s : Option ℕ) (name : Name) (above : IsAbove table s name) (es : List Entry) → IsLine table.classes (superclass_in table.names s) es → passes name es ≡ false
  above_passed None name above [] line = refl
  above_passed None name above (e ∷ es) line = absurd line
  above_passed (Some number) name above es line =
      let at_class : IsLine table.classes (Some above.0) es = subst (λ o. IsLine table.classes o es) (name_is table.names number above.0 above.1) line in
      ap (passes name) (sym (lineage_line table.classes above.0 es at_class)) ∙ above.2

  pub top_other : (e : ClassEntry) (top : Totals) → IsTop table e top → IsAbove table e.superclass e.class_name
      → top ≡ totals (inherited_of (map.insert table.classes e.class_name (row_of table.names e)) e.class_name)
  top_other e top is_top above =
      let line = line_over e.superclass (above_class e.superclass e.class_name above) in
      top_over e top is_top line.0 line.1 (above_passed e.superclass e.class_name above line.0 line.1)

  pub valid_other : (e : ClassEntry) → IsAbove table e.superclass e.class_name → IsValid (map.insert table.classes e.class_name (row_of table.names e))
  valid_other e above =
      let line = line_over e.superclass (above_class e.superclass e.class_name above) in
      valid-insert table.classes e.class_name (row_of table.names e) is.valid (line.0, line.1, above_passed e.superclass e.class_name above line.0 line.1)

  module _ (kept : List Totals) (have : AreTotals table kept) where
    -- ---- a class more

    pub totals_added : (e : ClassEntry) (top : Totals) → IsTop table e top → IsSuperclass table.names e.superclass → map.get table.classes e.class_name ≡ None
        → (new : Table) → new.classes ≡ map.insert table.classes e.class_name (row_of table.names e) → new.names ≡ table.names ++ Some e.class_name ∷ [] → AreTotals new (kept ++ top ∷ [])
    totals_added e top is_top super none new classes_are names_are = record { size = size; each = each }
      where
        name : Name
        name = e.class_name

        other : Classes
        other = map.insert table.classes e.class_name (row_of table.names e)

        size : length (kept ++ top ∷ []) ≡ length new.names
        size = omega (arith, length-append kept (top ∷ []), length-append table.names (Some e.class_name ∷ []), have.size, ap length names_are)

        each_in : (number : ℕ) (q : Name) → IsNumberOf (table.names ++ Some name ∷ []) number q → slice_get (kept ++ top ∷ []) number ≡ Some (totals (inherited_of other q))
        each_in number q named = elim (get_pushed table.names (Some name) number (Some q) named) as (λ _. slice_get (kept ++ top ∷ []) number ≡ Some (totals (inherited_of other q))) [
          | inl old ↦
              let line = line_of number q old in
              get_kept kept (top ∷ []) number (totals (inherited_of table.classes q)) (have.each number q old)
              ∙ ap Some (same_inherited table.classes other name q (get-elsewhere table.classes name (row_of table.names e)) line.0 line.1 (absent_passed table.classes name none (Some q) line.0 line.1))
          | inr is_new ↦
              let same : name ≡ q = let h : Some name ≡ Some q = is_new.1 in cc in
              let place : number ≡ length kept = is_new.0 ∙ sym have.size in
              ap (slice_get (kept ++ top ∷ [])) place ∙ get_new kept top ∙ ap Some (top_new e top is_top super none ∙ ap (λ (k : Name). totals (inherited_of other k)) same)
        ]

        each : (number : ℕ) (q : Name) → IsNumberOf new.names number q → slice_get (kept ++ top ∷ []) number ≡ Some (totals (inherited_of new.classes q))
        each number q named =
            each_in number q (subst (λ names. IsNumberOf names number q) names_are named) ∙ ap (λ (m : Classes). Some (totals (inherited_of m q))) (sym classes_are)

    -- ---- another comment

    pub totals_commented : (new : Table) → AreCommented table.classes new.classes → new.names ≡ table.names → AreTotals new kept
    totals_commented new alike names_are = record {
      size = have.size ∙ ap length (sym names_are);
      each = λ number q named.
          have.each number q (subst (λ names. IsNumberOf names number q) names_are named)
          ∙ ap (λ (t : Inherited). Some (totals t)) (sym (commented_inherited table.classes new.classes alike q));
    }

    -- ---- another entry in a class's place

    module _ (e : ClassEntry) (found : List Found) (family : IsFamily table.names (map.insert table.classes e.class_name (row_of table.names e)) e.class_name found)
        (settled : List Totals) (settles : IsSettled found kept settled)
        (new : Table) (knows : IsKnown new) (classes_are : new.classes ≡ map.insert table.classes e.class_name (row_of table.names e)) (names_are : new.names ≡ table.names) where
      abbrev other : Classes
      other = map.insert table.classes e.class_name (row_of table.names e)

      named_before : (number : ℕ) (q : Name) → IsNumberOf new.names number q → IsNumberOf table.names number q
      named_before number q named = subst (λ names. IsNumberOf names number q) names_are named

      line_after : (number : ℕ) (q : Name) → IsNumberOf new.names number q → (row : ClassRow) × (map.get other q ≡ Some row) × (es : List Entry) × IsLine other (Some q) es
      line_after number q named =
          let row = knows.known number q named in
          let line = knows.valid q row.0 row.1 in
          (row.0, ap (λ (m : Classes). map.get m q) (sym classes_are) ∙ row.1, line.0, subst (λ (m : Classes). IsLine m (Some q) line.0) classes_are line.1)

      one_found : (number : ℕ) (q : Name) (t : Totals) → IsNumberOf new.names number q → (k : ℕ) (p : Found) → slice_get found k ≡ Some p → p.0 ≡ number → p.1 ≡ t → t ≡ totals (inherited_of other q)
      one_found number q t named k p at here is_t =
          let f = family.each k p at in
          let same : f.0 ≡ q = same_name table number f.0 q (subst (λ n. IsNumberOf table.names n f.0) here f.1) (named_before number q named) in
          sym is_t ∙ f.4 ∙ ap (λ (k : Name). totals (inherited_of other k)) same

      none_found : (number : ℕ) (q : Name) (t : Totals) → IsNumberOf new.names number q → ((k : ℕ) (p : Found) → slice_get found k ≡ Some p → p.0 ≢ number) → slice_get kept number ≡ Some t → t ≡ totals (inherited_of other q)
      none_found number q t named apart had = go (is_under other q e.class_name) refl
        where
          go : (b : Bool) → is_under other q e.class_name ≡ b → t ≡ totals (inherited_of other q)
          go true under =
              let line = line_after number q named in
              let f = family.all q (ap is_some line.1) under in
              absurd (apart f.0 f.1 f.2 (is.one_number f.1.0 number q f.3 (named_before number q named)))
          go false under =
              let line = line_after number q named in
              let out : passes e.class_name line.2 ≡ false = ap (passes e.class_name) (sym (lineage_line other q line.2 line.3)) ∙ under in
              let had_totals : t ≡ totals (inherited_of table.classes q) = let h : Some t ≡ Some (totals (inherited_of table.classes q)) = sym had ∙ have.each number q (named_before number q named) in cc in
              had_totals ∙ sym (same_inherited other table.classes e.class_name q (λ k ne. sym (get-elsewhere table.classes e.class_name (row_of table.names e) k ne)) line.2 line.3 out)

      settled_is : (number : ℕ) (q : Name) (t : Totals) → IsNumberOf new.names number q → slice_get settled number ≡ Some t → t ≡ totals (inherited_of new.classes q)
      settled_is number q t named at =
          elim (settles.each number t at) as (λ _. t ≡ totals (inherited_of other q)) [
            | inl there ↦ one_found number q t named there.0 there.1 there.2 there.3 there.4
            | inr none ↦ none_found number q t named none.0 none.1
          ] ∙ ap (λ (m : Classes). totals (inherited_of m q)) (sym classes_are)

      pub totals_replaced : AreTotals new settled
      totals_replaced = record {
        size = settles.size ∙ have.size ∙ ap length (sym names_are);
        each = λ number q named.
            let within : number < length settled = omega (arith, slice_get_within new.names number (Some q) named, settles.size, have.size, ap length names_are) in
            let t = totals (inherited_of new.classes q) in
            let at = slice_get-get_or settled number t within in
            at ∙ ap Some (settled_is number q _ named at);
      }

    -- ---- a class less

    pub totals_removed : (c : ℕ) (name : Name) → IsNumberOf table.names c name → ((q : Name) (row : ClassRow) → map.get table.classes q ≡ Some row → row.superclass ≢ Some name)
        → (new : Table) → new.classes ≡ map.remove table.classes name → new.names ≡ set table.names c None → AreTotals new kept
    totals_removed c name named alone new classes_are names_are = record { size = size; each = each }
      where
        other : Classes
        other = map.remove table.classes name

        size : length kept ≡ length new.names
        size = have.size ∙ sym (length-set table.names c None) ∙ ap length (sym names_are)

        each_in : (number : ℕ) (q : Name) → IsNumberOf (set table.names c None) number q → slice_get kept number ≡ Some (totals (inherited_of other q))
        each_in number q is_q = elim (same_number number c) as (λ _. slice_get kept number ≡ Some (totals (inherited_of other q))) [
          | inl here ↦ absurd (gone here)
          | inr ne ↦
              let before : IsNumberOf table.names number q = sym (get_set_other table.names c number None ne) ∙ is_q in
              let line = line_of number q before in
              let apart : Some q ≢ Some name = λ eq. let same : q ≡ name = cc in ne (is.one_number number c name (subst (λ k. IsNumberOf table.names number k) same before) named) in
              have.each number q before
              ∙ ap Some (same_inherited table.classes other name q (get-left table.classes name) line.0 line.1 (alone_passed table.classes name alone (Some q) line.0 apart line.1))
        ]
          where
            gone : number ≡ c → ⊥
            gone here = let bad : Some None ≡ Some (Some q) = sym (ap (slice_get (set table.names c None)) here ∙ get_set table.names c (Some name) None named) ∙ is_q in cc

        each : (number : ℕ) (q : Name) → IsNumberOf new.names number q → slice_get kept number ≡ Some (totals (inherited_of new.classes q))
        each number q is_q =
            each_in number q (subst (λ names. IsNumberOf names number q) names_are is_q) ∙ ap (λ (m : Classes). Some (totals (inherited_of m q))) (sym classes_are)
