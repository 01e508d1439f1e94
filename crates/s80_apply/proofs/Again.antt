-- An entry put in place of that of its class, and the old one put back.
use Rattle.std.proofs.Common.{◌≡◌, ◌∙◌, ℕ, Bool, cond, true, false, refl, sym, ap, subst, List, [], ◌∷◌, Option, Some, None}
use Rattle.std.specs.Option.{option_and_then}
use Rattle.std.specs.Str.{bytes_eq}
use Rattle.std.specs.Cmp.Lexicographic.{bytes_decides, nat_list_cmp_total}
use Rattle.std.specs.FinMap as map
use Rattle.s80_class.specs.declared.entry.ClassEntry.{ClassEntry}
use Rattle.s80_class.specs.Classes.{Name, ClassRow, Classes, IsLine, IsValid, is_under}
use Rattle.s80_class.specs.Table.{Table, IsAbove, IsEntryOf, IsNumberOf, IsSuperclass, name_of, row_of}
use Rattle.s80_class.proofs.lemmas.Lines.{Entry as LineEntry, get-elsewhere, get-here, get-inserted, line_across, lineage_line, never_again, passes}
use Rattle.s80_apply.specs.System.{with_entry}
use Rattle.s80_apply.proofs.Places.{some_same}

one_name : (names : List (Option Name)) (n : ℕ) (a b : Name) → IsNumberOf names n a → IsNumberOf names n b → a ≡ b
one_name names n a b is also = some_same a b (some_same (Some a) (Some b) (sym is ∙ also))

-- ---- the old entry

-- its superclass isn't under the class in the changed table
module _ (classes : Classes) (name : Name) (old row : ClassRow) (valid : IsValid classes) (there : map.get classes name ≡ Some old) where
  above_stays : (above : Name) → old.superclass ≡ Some above → is_under (map.insert classes name row) above name ≡ false
  above_stays above is = go (valid name old there).0 (valid name old there).1
    where
      go : (es : List LineEntry) → IsLine classes (Some name) es → is_under (map.insert classes name row) above name ≡ false
      go [] line = absurd line
      go (e ∷ es) line =
          let rows : e.1 ≡ old = some_same e.1 old (sym line.1 ∙ there) in
          let up : IsLine classes (Some above) es = subst (λ o. IsLine classes o es) (ap (λ (r : ClassRow). r.superclass) rows ∙ is) line.2 in
          let without : passes name es ≡ false = never_again classes name e es line in
          let line_now : IsLine (map.insert classes name row) (Some above) es = line_across classes (map.insert classes name row) name (get-elsewhere classes name row) (Some above) es up without in
          ap (passes name) (lineage_line (map.insert classes name row) above es line_now) ∙ without

  -- with its row put back, the classes are as before
  put_back : map.insert (map.insert classes name row) name old ≡ classes
  put_back = map.same_map nat_list_cmp_total (map.slice_cmp-IsAntisymmetric map.nat_cmp-IsAntisymmetric) (map.insert (map.insert classes name row) name old) classes (λ q. by_name (bytes_eq q name) q refl)
    where
      by_name : (b : Bool) (q : Name) → bytes_eq q name ≡ b → map.get (map.insert (map.insert classes name row) name old) q ≡ map.get classes q
      by_name true q t =
          get-inserted (map.insert classes name row) name old q ∙ ap (λ b. cond b (Some old) (map.get (map.insert classes name row) q)) t ∙ sym there ∙ ap (map.get classes) (sym ((bytes_decides q name).0 t))
      by_name false q t =
          get-inserted (map.insert classes name row) name old q ∙ ap (λ b. cond b (Some old) (map.get (map.insert classes name row) q)) t
          ∙ get-inserted classes name row q ∙ ap (λ b. cond b (Some row) (map.get classes q)) t

module _ (table changed : Table) (number : ℕ) (entry old : ClassEntry) (valid : IsValid table.classes) (named : IsNumberOf table.names number entry.class_name) (above : IsAbove table entry.superclass entry.class_name)
    (was : IsEntryOf table number old) (classes : changed.classes ≡ with_entry table entry) (names : changed.names ≡ table.names) where
  same_class : old.class_name ≡ entry.class_name
  same_class = one_name table.names number old.class_name entry.class_name was.named named

  there : map.get table.classes entry.class_name ≡ Some (row_of table.names old)
  there = ap (map.get table.classes) (sym same_class) ∙ was.row

  -- it may be put back
  pub old_named : IsNumberOf changed.names number old.class_name
  old_named = subst (λ ns. IsNumberOf ns number old.class_name) (sym names) was.named

  pub old_above : IsAbove changed old.superclass old.class_name
  old_above = go old.superclass refl was.superclass
    where
      go : (o : Option ℕ) → old.superclass ≡ o → IsSuperclass table.names o → IsAbove changed o old.class_name
      go None is super = tt
      go (Some c) is super =
          let up : (row_of table.names old).superclass ≡ Some super.0 = ap (option_and_then (name_of table.names)) is ∙ ap (option_and_then (λ (name : Option Name). name)) super.1 in (
            super.0,
            subst (λ ns. IsNumberOf ns c super.0) (sym names) super.1,
            ap (λ (m : Classes). is_under m super.0 old.class_name) classes
                ∙ ap (is_under (with_entry table entry) super.0) same_class
                ∙ above_stays table.classes entry.class_name (row_of table.names old) (row_of table.names entry) valid there super.0 up,
          )

  -- and then the table is as before
  pub table_back : (after : Table) → after.classes ≡ with_entry changed old → after.names ≡ changed.names → after.spare ≡ table.spare → after ≡ table
  table_back after put again spare =
      let back : after.classes ≡ table.classes = put ∙ (λ i. map.insert (classes i) (same_class i) (row_of (names i) old)) ∙ put_back table.classes entry.class_name (row_of table.names old) (row_of table.names entry) valid there in
      λ i. record { classes = back i; names = (again ∙ names) i; spare = spare i }

  -- ---- the entry that comes back is that which was put, but for the number of a superclass of the same name

  module _ (new : ClassEntry) (is : IsEntryOf changed number new) where
    new_class : new.class_name ≡ entry.class_name
    new_class = one_name table.names number new.class_name entry.class_name (subst (λ ns. IsNumberOf ns number new.class_name) names is.named) named

    new_row : row_of table.names new ≡ row_of table.names entry
    new_row =
        some_same (row_of table.names new) (row_of table.names entry)
        (ap (λ ns. Some (row_of ns new)) (sym names) ∙ sym is.row ∙ (λ i. map.get (classes i) (new_class i)) ∙ get-here table.classes entry.class_name (row_of table.names entry))

    pub with_same : with_entry table new ≡ with_entry table entry
    with_same = λ i. map.insert table.classes (new_class i) (new_row i)

    pub new_named : IsNumberOf table.names number new.class_name
    new_named = subst (λ ns. IsNumberOf ns number new.class_name) names is.named

    pub new_above : IsAbove table new.superclass new.class_name
    new_above = subst (IsAbove table new.superclass) (sym new_class) (go new.superclass refl is.superclass entry.superclass refl above)
      where
        superclass_is : (c : ℕ) (up : Name) → new.superclass ≡ Some c → IsNumberOf table.names c up → (row_of table.names entry).superclass ≡ Some up
        superclass_is c up at has =
            ap (λ (r : ClassRow). r.superclass) (sym new_row) ∙ ap (option_and_then (name_of table.names)) at ∙ ap (option_and_then (λ (name : Option Name). name)) has

        go : (o : Option ℕ) → new.superclass ≡ o → IsSuperclass changed.names o → (p : Option ℕ) → entry.superclass ≡ p → IsAbove table p entry.class_name → IsAbove table o entry.class_name
        go None at super p on over = tt
        go (Some c) at super None on over =
            let has : IsNumberOf table.names c super.0 = subst (λ ns. IsNumberOf ns c super.0) names super.1 in
            let bad : None ≡ Some super.0 = sym (ap (option_and_then (name_of table.names)) on) ∙ superclass_is c super.0 at has in
            absurd (cc)
        go (Some c) at super (Some d) on over =
            let has : IsNumberOf table.names c super.0 = subst (λ ns. IsNumberOf ns c super.0) names super.1 in
            let both : Some over.0 ≡ Some super.0 =
            sym (ap (option_and_then (name_of table.names)) on ∙ ap (option_and_then (λ (name : Option Name). name)) over.1) ∙ superclass_is c super.0 at has in
            (super.0, has, ap (λ (n : Name). is_under table.classes n entry.class_name) (sym (some_same over.0 super.0 both)) ∙ over.2)
