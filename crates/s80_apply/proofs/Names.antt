-- Every class of a list has a lawful name.
use Rattle.std.proofs.Common.{◌≡◌, ◌∙◌, ◌&&◌, ◌||◌, Bool, cond, true, false, refl, sym, ap, List, [], ◌∷◌, Option, Some, None, is_some, not, option_map, unwrap_or, codes, ◌++◌, true≢false}
use Rattle.std.specs.List.{list_all, find}
use Rattle.std.specs.Str.{bytes_eq}
use Rattle.std.specs.Cmp.Lexicographic.{bytes_decides}
use Rattle.std.specs.FinMap as map
use Rattle.s80_syntax.specs.Word.{is_reserved}
use Rattle.s80_kernel.specs.Rows.{KernelRow, kernel_rows, has_name}
use Rattle.s80_form.specs.declared.definition.Definition.{Definition}
use Rattle.s80_form.specs.declared.refusal.Refusal.TheVariants.{BadName}
use Rattle.s80_form.specs.Name.{IsName, is_name, is_class_name, begins_with_capital}
use Rattle.s80_change.specs.declared.change.Change.{Change}
use Rattle.s80_class.specs.Classes.{Name, ClassRow, Classes, change_row, with_class_side_vars, with_comment}
use Rattle.s80_class.proofs.lemmas.Lines.{get-inserted, get-removed}
use Rattle.s80_apply.specs.Accept.{define, row_of, bad_name, unknown_class, kernel_class, cycle, duplicate, too_many, refusal_of}
use Rattle.s80_apply.specs.Kernel.{kernel_classes}
use Rattle.s80_apply.specs.List.{classes_of}
use Rattle.s80_apply.specs.Named.{AreNamed}
use Rattle.s80_apply.proofs.Booted.{built_has}
use Rattle.s80_apply.proofs.LastingLists.{in_each_list}
use Rattle.s80_apply.proofs.Passing.{none_first}

and_left : (a b : Bool) → (a && b) ≡ true → a ≡ true
and_left true b h = refl
and_left false b h = h

and_right : (a b : Bool) → (a && b) ≡ true → b ≡ true
and_right true b h = h
and_right false b h = absurd (true≢false (sym h))

-- ---- the kernel

rows_named : list_all (λ row. is_name row.name) kernel_rows ≡ true
unfolding is_reserved
rows_named = refl

named_among : (rows : List KernelRow) (q : Name) → list_all (λ row. is_name row.name) rows ≡ true → has_name rows q ≡ true → IsName q
named_among [] q all h = absurd (true≢false (sym h))
named_among (row ∷ rows) q all h =
    elim (bytes_eq row.name q) as (λ b. bytes_eq row.name q ≡ b → (b || has_name rows q) ≡ true → IsName q) [
      | true ↦ λ is _. ap is_name (sym ((bytes_decides row.name q).0 is)) ∙ and_left (is_name row.name) (list_all (λ row. is_name row.name) rows) all
      | false ↦ λ is h'. named_among rows q (and_right (is_name row.name) (list_all (λ row. is_name row.name) rows) all) h'
    ] refl h

pub kernel_named : AreNamed kernel_classes
unfolding kernel_classes
kernel_named = λ name row is. named_among kernel_rows name rows_named (sym (built_has kernel_rows name) ∙ ap is_some is)

-- ---- a definition

pub named_where : (d : Definition) → bad_name d ≡ None → IsName d.class_name
named_where d h = go (is_class_name d.class_name) refl h
  where
    go : (b : Bool) → is_class_name d.class_name ≡ b → cond b (option_map BadName (find (λ name. not (is_name name)) (d.inst_vars ++ (d.class_vars ++ d.pools)))) (Some (BadName d.class_name)) ≡ None → IsName d.class_name
    go true is _ =
        and_left (is_name d.class_name) (begins_with_capital d.class_name)
        (and_left (is_name d.class_name && begins_with_capital d.class_name) (not (bytes_eq d.class_name (codes "Smalltalk") || bytes_eq d.class_name (codes "Transcript"))) is)
    go false is bad = absurd (cc)

-- ---- the classes of each list

named_put : (classes : Classes) (name : Name) (row : ClassRow) → IsName name → AreNamed classes → AreNamed (map.insert classes name row)
named_put classes name row mine named q r there =
    elim (bytes_eq q name) as (λ b. bytes_eq q name ≡ b → cond b (Some row) (map.get classes q) ≡ Some r → IsName q) [
      | true ↦ λ same _. ap is_name ((bytes_decides q name).0 same) ∙ mine
      | false ↦ λ _ is. named q r is
    ] refl (sym (get-inserted classes name row q) ∙ there)

named_defined : (d : Definition) (classes : Classes) → refusal_of d classes ≡ None → AreNamed classes → AreNamed (define d classes)
named_defined d classes none named =
    let mine = named_where d (none_first (bad_name d) (unknown_class d classes ∷ kernel_class d ∷ cycle d classes ∷ duplicate d ∷ too_many d classes ∷ []) none).0 in
    named_put classes d.class_name (row_of d (map.get classes d.class_name)) mine named

named_changed : (change : ClassRow → ClassRow) (name : Name) (classes : Classes) → AreNamed classes → AreNamed (change_row change name classes)
named_changed change name classes named = go (map.get classes name) refl
  where
    go : (o : Option ClassRow) → map.get classes name ≡ o → AreNamed (unwrap_or (option_map (λ row. map.insert classes name (change row)) o) classes)
    go None none = named
    go (Some row) is = named_put classes name (change row) (named name row is) named

named_removed : (name : Name) (classes : Classes) → AreNamed classes → AreNamed (map.remove classes name)
named_removed name classes named q r there =
    elim (bytes_eq q name) as (λ b. cond b None (map.get classes q) ≡ Some r → IsName q) [
      | true ↦ λ bad. absurd (let none : None ≡ Some r = bad in cc)
      | false ↦ λ is. named q r is
    ] (sym (get-removed classes name q) ∙ there)

pub classes_named : (changes : List Change) → AreNamed (classes_of changes)
classes_named changes = in_each_list AreNamed (record {
  defined = named_defined;
  given_vars = λ name names classes none named. named_changed (with_class_side_vars names) name classes named;
  commented = λ name text classes named. named_changed (with_comment text) name classes named;
  removed = λ name classes none named. named_removed name classes named;
}) kernel_named changes
