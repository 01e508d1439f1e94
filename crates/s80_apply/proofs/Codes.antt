-- The code of all methods as classes and methods are put and taken away.
use Rattle.std.proofs.Common.{◌≡◌, ◌≢◌, ◌≤◌, ◌++◌, ◌∙◌, ℕ, Bool, cond, true, false, refl, sym, ap, subst, List, [], ◌∷◌, length, map as list_map, nat_eq, reverse, arith, Option, Some, None, Ok, slice_get, slice_set}
use Rattle.std.specs.List.{flat_map}
use Rattle.std.specs.Ordering.{nat_cmp}
use Rattle.std.specs.Cmp.Lexicographic.{slice_cmp}
use Rattle.std.specs.FinMap as map
use Rattle.std.proofs.lemmas.Bool.Decides.{nat_tests}
use Rattle.std.proofs.lemmas.List.{map-append, reverse-append}
use Rattle.s80_base.specs.declared.names.Side.{Side}
use Rattle.s80_base.specs.declared.names.Side.TheVariants.{Instance, Class}
use Rattle.s80_dict.specs.Table.{MethodsValue, methods_at, put_at}
use Rattle.s80_code.specs.declared.code.Code.{Code}
use Rattle.s80_scope.specs.declared.shape.Shape.{Shape}
use Rattle.s80_change.specs.Check.{IsCheckOf}
use Rattle.s80_change.specs.declared.change.Method.{Method as MethodChange}
use Rattle.s80_compile.specs.Compiles.{Compiles}
use Rattle.s80_class.specs.declared.entry.ClassEntry.{ClassEntry}
use Rattle.s80_class.specs.Classes.{Name, ClassRow, Classes, IsLine, IsValid, change_row, has_subclass, is_under, lineage, with_comment}
use Rattle.s80_class.specs.Table.{Table, IsNumberOf, row_of}
use Rattle.s80_class.proofs.lemmas.Alike.{seen as seen_entry}
use Rattle.s80_class.proofs.lemmas.Commented.{are_commented, bare, commented_lineage}
use Rattle.s80_class.proofs.lemmas.Lines.{Entry as LineEntry, get-elsewhere, get-inserted, line_across, lineage_line}
use Rattle.s80_class.proofs.lemmas.Removed.{left_lineage}
use Rattle.s80_class.proofs.lemmas.Rows.{get_kept, get_set_other}
use Rattle.s80_method.specs.Code.{IsMethodCode}
use Rattle.s80_method.specs.Shape.{bindings_in, bindings_of, own_variables, shape_of, variables_in}
use Rattle.s80_apply.specs.declared.step.Placed.{Placed}
use Rattle.s80_apply.specs.declared.step.PlacedMethod.{PlacedMethod}
use Rattle.s80_apply.specs.declared.step.SourcePlace.{SourcePlace}
use Rattle.s80_apply.specs.Entries.{Entry}
use Rattle.s80_apply.specs.Codes.{AreCodes, HasCode, HasCodeAt, HaveSources}
use Rattle.s80_apply.specs.System.{CanPut, CanPutMethod, ClassifiesMethod, HasClass, HasComment, HasMethod, HasNumber, HasSourceAt, IsRecompiled, LosesClass, LosesMethod, SystemState, at_place, moved, put, put_at_number, with_dictionaries, with_entry}
use Rattle.s80_apply.specs.Method.{TakesPlace}
use Rattle.s80_apply.proofs.Defined.{line_of, no_lineage}
use Rattle.s80_apply.proofs.Places.{IsFound, IsLast, IsPlace, among, apart, found_after, found_before, last_of, newly, still}
use Rattle.s80_apply.proofs.Standing.{dictionaries_stay}

-- ---- what methods with code owe

pub codes_have_sources : (table : Table) (methods : MethodsValue Entry) → AreCodes table methods → HaveSources methods
codes_have_sources table methods codes = λ n s k e is. let h = codes n s k e is in (h.has_code.short, h.has_code.check)

-- the same classes, names and methods
pub codes_stay : (table now : Table) (methods after : MethodsValue Entry) → now.classes ≡ table.classes → now.names ≡ table.names → ((n : ℕ) (s : Side) → methods_at after n s ≡ methods_at methods n s)
    → AreCodes table methods → AreCodes now after
codes_stay table now methods after classes names same codes = λ n s k e is.
    let h = codes n s k e (sym (ap (λ m. map.get m k) (same n s)) ∙ is) in
    record {
      class = h.class;
      named = subst (λ ns. IsNumberOf ns n h.class) (sym names) h.named;
      has_code = subst (λ (c : Classes). HasCode c h.class s k e) (sym classes) h.has_code;
    }

-- ---- a method that is put

moved_place : (table : Table) (number : ℕ) (side : Side) (selector : List ℕ) (x : Entry) (n : ℕ) (s : Side) (k : List ℕ) (y : Entry)
    → HasCodeAt table number side selector x → IsPlace number side selector n s k → x ≡ y → HasCodeAt table n s k y
moved_place table number side selector x n s k y has at same =
    subst (λ n. HasCodeAt table n s k y) (sym at.0)
    (subst (λ s. HasCodeAt table number s k y) (sym at.1)
    (subst (λ k. HasCodeAt table number side k y) (sym at.2)
    (subst (λ x. HasCodeAt table number side selector x) same has)))

pub codes_put : (table : Table) (methods after : MethodsValue Entry) (number : ℕ) (side : Side) (selector : List ℕ) (x : Entry) → HasCodeAt table number side selector x
    → ((n : ℕ) (s : Side) → methods_at after n s ≡ put_at (methods_at methods) number side selector x n s) → AreCodes table methods → AreCodes table after
codes_put table methods after number side selector x has put codes = λ n s k e is.
    by_place n s k e (found_after (methods_at methods) number side selector x n s k e (sym (ap (λ m. map.get m k) (put n s)) ∙ is))
  where
    by_place : (n : ℕ) (s : Side) (k : List ℕ) (e : Entry) → IsFound (IsPlace number side selector n s k) x e (map.get (methods_at methods n s) k) → HasCodeAt table n s k e
    by_place n s k e (newly at same) = moved_place table number side selector x n s k e has at same
    by_place n s k e (still others is) = codes n s k e is

pub code_is : (classes : Classes) (name : Name) (side : Side) (selector source : List ℕ) (entry : Entry) (code : Code) → entry.source ≡ source → entry.code ≡ code → length source ≤ 65535 → IsCheckOf source (Ok selector)
    → IsMethodCode classes name side selector source code → HasCode classes name side selector entry
code_is classes name side selector source entry code text is short check compiled = record {
  short = subst (λ bytes. length bytes ≤ 65535) (sym text) short;
  check = subst (λ bytes. IsCheckOf bytes (Ok selector)) (sym text) check;
  code = subst (λ bytes. IsMethodCode classes name side selector bytes entry.code) (sym text) (subst (λ (x : Code). IsMethodCode classes name side selector source x) (sym is) compiled);
}

-- its category, and where its source stands, are nothing to its code
same_code : (table : Table) (number : ℕ) (side : Side) (selector : List ℕ) (entry now : Entry) → now.source ≡ entry.source → now.code ≡ entry.code → HasCodeAt table number side selector entry → HasCodeAt table number side selector now
same_code table number side selector entry now source code has = record {
  class = has.class;
  named = has.named;
  has_code = code_is table.classes has.class side selector entry.source now entry.code source code has.has_code.short has.has_code.check has.has_code.code;
}

pub codes_with_method : (before now : SystemState) (placed : PlacedMethod) (at : ℕ) → CanPutMethod before placed → AreCodes before.table before.methods → HasMethod before placed at now → AreCodes now.table now.methods
codes_with_method before now placed at can codes has =
    subst (λ (t : Table). AreCodes t now.methods) (sym has.table)
    (codes_put before.table before.methods now.methods placed.number placed.side placed.selector (moved at placed.entry)
    (same_code before.table placed.number placed.side placed.selector placed.entry (moved at placed.entry) refl refl can.code) has.methods codes)

pub codes_classified : (before now : SystemState) (number : ℕ) (side : Side) (selector category : List ℕ) (entry : Entry) → map.get (methods_at before.methods number side) selector ≡ Some entry
    → AreCodes before.table before.methods → ClassifiesMethod before number side selector category now → AreCodes now.table now.methods
codes_classified before now number side selector category entry there codes has =
    let again : Entry = record entry { category = category } in
    subst (λ (t : Table). AreCodes t now.methods) (sym has.table)
    (codes_put before.table before.methods now.methods number side selector again (same_code before.table number side selector entry again refl refl (codes number side selector entry there)) (has.methods entry there) codes)

pub codes_placed : (before now : SystemState) (number : ℕ) (side : Side) (selector : List ℕ) (place : SourcePlace) (entry : Entry) → map.get (methods_at before.methods number side) selector ≡ Some entry
    → AreCodes before.table before.methods → HasSourceAt before number side selector place now → AreCodes now.table now.methods
codes_placed before now number side selector place entry there codes has =
    let again : Entry = at_place place entry in
    subst (λ (t : Table). AreCodes t now.methods) (sym has.table)
    (codes_put before.table before.methods now.methods number side selector again (same_code before.table number side selector entry again refl refl (codes number side selector entry there)) (has.methods entry there) codes)

-- ---- a method that is taken away

pub codes_taken : (before now : SystemState) (number : ℕ) (side : Side) (selector : List ℕ) → AreCodes before.table before.methods → LosesMethod before number side selector now → AreCodes now.table now.methods
codes_taken before now number side selector codes loses = subst (λ (t : Table). AreCodes t now.methods) (sym loses.table) (λ n s k e is.
    codes n s k e (found_before (methods_at before.methods) number side selector n s k e (sym (ap (λ m. map.get m k) (loses.methods n s)) ∙ is)))

-- ---- the classes changed

-- methods have their code where their class has its shape yet
same_shape : (classes other : Classes) (name : Name) (side : Side) (selector : List ℕ) (entry : Entry) → shape_of other name side ≡ shape_of classes name side → HasCode classes name side selector entry → HasCode other name side selector entry
same_shape classes other name side selector entry same has = record {
  short = has.short;
  check = has.check;
  code = record {
    tree = has.code.tree;
    tree_is = has.code.tree_is;
    selector_is = has.code.selector_is;
    compiles = subst (λ (shape : Shape). Compiles has.code.tree shape name side entry.code) (sym same) has.code.compiles;
  };
}

-- so it is where it has its line yet
same_line : (classes other : Classes) (name : Name) (side : Side) (selector : List ℕ) (entry : Entry) → lineage other name ≡ lineage classes name → HasCode classes name side selector entry → HasCode other name side selector entry
same_line classes other name side selector entry same =
    same_shape classes other name side selector entry (ap (λ (es : List LineEntry). record { inst_vars = variables_in side es; class_vars = bindings_in es }) same)

-- ---- a class that is put

-- a class that isn't under it has its line yet
pub apart_line : (classes : Classes) (name : Name) (row : ClassRow) (q : Name) → IsValid (map.insert classes name row) → is_under (map.insert classes name row) q name ≡ false → lineage (map.insert classes name row) q ≡ lineage classes q
apart_line classes name row q valid under = go (map.get (map.insert classes name row) q) refl
  where
    go : (o : Option ClassRow) → map.get (map.insert classes name row) q ≡ o → lineage (map.insert classes name row) q ≡ lineage classes q
    go None none = no_lineage (map.insert classes name row) q none ∙ sym (no_lineage classes q (by_name _ (sym (get-inserted classes name row q) ∙ none)))
      where
        by_name : (b : Bool) → cond b (Some row) (map.get classes q) ≡ None → map.get classes q ≡ None
        by_name true h = absurd (let bad : Some row ≡ None = h in cc)
        by_name false h = h
    go (Some r) is =
        let line : IsLine (map.insert classes name row) (Some q) (lineage (map.insert classes name row) q) = line_of (map.insert classes name row) q r valid is in
        sym (lineage_line classes q (lineage (map.insert classes name row) q)
        (line_across (map.insert classes name row) classes name (λ p ne. sym (get-elsewhere classes name row p ne)) (Some q) (lineage (map.insert classes name row) q) line under))

pub classes_put : (table : Table) (number : Option ℕ) (entry : ClassEntry) → (put_at_number table number entry).classes ≡ with_entry table entry
classes_put table (Some number) entry = refl
classes_put table None entry = refl

pub number_kept : (table : Table) (number : Option ℕ) (entry : ClassEntry) (n : ℕ) (name : Name) → IsNumberOf table.names n name → IsNumberOf (put_at_number table number entry).names n name
number_kept table (Some number) entry n name named = named
number_kept table None entry n name named = get_kept table.names (Some entry.class_name ∷ []) n (Some name) named

module _ (before : SystemState) (placed : Placed) (can : CanPut before placed) (codes : AreCodes before.table before.methods) (valid : IsValid (with_entry before.table placed.entry)) where
  -- in the table with the entry
  at_class : (n : ℕ) (s : Side) (k : List ℕ) (e : Entry) (class : Name) → IsNumberOf before.table.names n class → HasCode (with_entry before.table placed.entry) class s k e → HasCodeAt (put before.table placed) n s k e
  at_class n s k e class named has = record {
    class = class;
    named = number_kept before.table placed.number placed.entry n class named;
    has_code = subst (λ (c : Classes). HasCode c class s k e) (sym (classes_put before.table placed.number placed.entry)) has;
  }

  recompiled_code : (p : PlacedMethod) → IsRecompiled before (with_entry before.table placed.entry) p → HasCodeAt (put before.table placed) p.number p.side p.selector p.entry
  recompiled_code p is = at_class p.number p.side p.selector p.entry is.class is.named is.has_code

  -- a method that isn't among those that were compiled again is one of a class that the entry doesn't change
  old_code : (n : ℕ) (s : Side) (k : List ℕ) (e : Entry) → ((j : ℕ) (p : PlacedMethod) → slice_get placed.recompiled.items j ≡ Some p → IsPlace p.number p.side p.selector n s k → ⊥)
      → map.get (methods_at before.methods n s) k ≡ Some e → HasCodeAt (put before.table placed) n s k e
  old_code n s k e none is = by_line (is_under (with_entry before.table placed.entry) h.class placed.entry.class_name) refl
    where
      h : HasCodeAt before.table n s k e
      h = codes n s k e is

      by_line : (b : Bool) → is_under (with_entry before.table placed.entry) h.class placed.entry.class_name ≡ b → HasCodeAt (put before.table placed) n s k e
      by_line true under =
          let m = can.recompiled.all n h.class s k e h.named under is in
          absurd (none m.0 m.1 m.2 (sym m.3, sym m.4, sym m.5))
      by_line false under =
          at_class n s k e h.class h.named
          (same_line before.table.classes (with_entry before.table placed.entry) h.class s k e (apart_line before.table.classes placed.entry.class_name (row_of before.table.names placed.entry) h.class valid under) h.has_code)

  pub codes_with_class : (now : SystemState) → HasClass before placed now → AreCodes now.table now.methods
  codes_with_class now has = λ n s k e is.
      subst (λ (t : Table). HasCodeAt t n s k e) (sym has.table)
      (by_last n s k e (last_of placed.recompiled.items (methods_at (with_dictionaries placed.number before.methods)) n s k e (sym (ap (λ m. map.get m k) (has.methods n s)) ∙ is)))
    where
      by_last : (n : ℕ) (s : Side) (k : List ℕ) (e : Entry) → IsLast placed.recompiled.items n s k e (map.get (methods_at (with_dictionaries placed.number before.methods) n s) k) → HasCodeAt (put before.table placed) n s k e
      by_last n s k e (among j p here at same) =
          moved_place (put before.table placed) p.number p.side p.selector p.entry n s k e (recompiled_code p (can.recompiled.each j p here)) at same
      by_last n s k e (apart none is) =
          old_code n s k e none (sym (ap (λ m. map.get m k) (dictionaries_stay placed.number before.methods n s)) ∙ is)

-- ---- a comment

-- no shape hangs on comments
reverse_each : (f : LineEntry → LineEntry) (es : List LineEntry) → reverse (list_map f es) ≡ list_map f (reverse es)
reverse_each f [] = refl
reverse_each f (e ∷ es) =
    reverse-append (f e ∷ []) (list_map f es)
    ∙ ap (λ (rest : List LineEntry). rest ++ f e ∷ []) (reverse_each f es)
    ∙ sym (map-append f (reverse es) (e ∷ []))
    ∙ ap (list_map f) (sym (reverse-append (e ∷ []) es))

flat_each : {X : Type 0} (h : LineEntry → List X) → ((e : LineEntry) → h (seen_entry bare e) ≡ h e) → (es : List LineEntry) → flat_map h (list_map (seen_entry bare) es) ≡ flat_map h es
flat_each h same [] = refl
flat_each h same (e ∷ es) = λ i. same e i ++ flat_each h same es i

own_bare : (side : Side) (row : ClassRow) → own_variables side (bare row) ≡ own_variables side row
own_bare Instance row = refl
own_bare Class row = refl

variables_bare : (side : Side) (es : List LineEntry) → variables_in side (list_map (seen_entry bare) es) ≡ variables_in side es
variables_bare side es = ap (flat_map (λ (e : LineEntry). own_variables side e.1)) (reverse_each (seen_entry bare) es) ∙ flat_each (λ e. own_variables side e.1) (λ e. own_bare side e.1) (reverse es)

shape_commented : (text : List ℕ) (name : Name) (classes : Classes) (q : Name) (side : Side) → shape_of (change_row (with_comment text) name classes) q side ≡ shape_of classes q side
shape_commented text name classes q side =
    let other : Classes = change_row (with_comment text) name classes in
    let same : list_map (seen_entry bare) (lineage other q) ≡ list_map (seen_entry bare) (lineage classes q) = commented_lineage classes other (are_commented text name classes) q in
    let variables : variables_in side (lineage other q) ≡ variables_in side (lineage classes q) = sym (variables_bare side (lineage other q)) ∙ ap (variables_in side) same ∙ variables_bare side (lineage classes q) in
    let bindings : bindings_in (lineage other q) ≡ bindings_in (lineage classes q) =
    sym (flat_each (λ e. bindings_of e.0 e.1.class_vars) (λ e. refl) (lineage other q)) ∙ ap bindings_in same ∙ flat_each (λ e. bindings_of e.0 e.1.class_vars) (λ e. refl) (lineage classes q) in
    λ i. record { inst_vars = variables i; class_vars = bindings i }

pub codes_commented : (before now : SystemState) (class : Name) (number : ℕ) (text : List ℕ) → IsNumberOf before.table.names number class → AreCodes before.table before.methods → HasComment before number text now → AreCodes now.table now.methods
codes_commented before now class number text named codes has = λ n s k e is.
    let h = codes n s k e (sym (ap (λ m. map.get m k) (has.methods n s)) ∙ is) in
    record {
      class = h.class;
      named = subst (λ ns. IsNumberOf ns n h.class) (sym has.names) h.named;
      has_code = subst (λ (c : Classes). HasCode c h.class s k e) (sym (has.classes class named))
          (same_shape before.table.classes (change_row (with_comment text) class before.table.classes) h.class s k e (shape_commented text class before.table.classes h.class s) h.has_code);
    }

-- ---- a class taken away

none_left : (number : ℕ) (now : SystemState) (before : SystemState) (n : ℕ) (s : Side) (k : List ℕ) (e : Entry) → LosesClass before number now → map.get (methods_at now.methods n s) k ≡ Some e
    → (n ≢ number) × (map.get (methods_at before.methods n s) k ≡ Some e)
none_left number now before n s k e loses is = go (nat_eq n number) refl (sym (ap (λ m. map.get m k) (loses.methods n s)) ∙ is)
  where
    go : (b : Bool) → nat_eq n number ≡ b → map.get (cond b map.empty (methods_at before.methods n s)) k ≡ Some e → (n ≢ number) × (map.get (methods_at before.methods n s) k ≡ Some e)
    go true at there = absurd (let bad : None ≡ Some e = sym (map.get-empty (slice_cmp nat_cmp) k) ∙ there in cc)
    go false at there = ((λ same. grind (arith, nat_tests)), there)

pub codes_without_class : (before now : SystemState) (class : Name) (number : ℕ) → HasNumber before class number → has_subclass before.table.classes class ≡ false → IsValid before.table.classes
    → AreCodes before.table before.methods → LosesClass before number now → AreCodes now.table now.methods
codes_without_class before now class number has alone valid codes loses = λ n s k e is.
    let left = none_left number now before n s k e loses is in
    let h = codes n s k e left.1 in
    let other : h.class ≢ class = λ same. left.0 (has.only n (subst (λ (name : Name). IsNumberOf before.table.names n name) same h.named)) in
    record {
      class = h.class;
      named = number_stays before.table.names number now.table.names n h.class loses.names left.0 h.named;
      has_code = subst (λ (c : Classes). HasCode c h.class s k e) (sym (loses.classes class has.named))
          (same_line before.table.classes (map.remove before.table.classes class) h.class s k e (left_lineage before.table.classes class alone valid h.class other) h.has_code);
    }
  where
    number_stays : (names : List (Option Name)) (number : ℕ) (now : List (Option Name)) (n : ℕ) (name : Name) → now ≡ slice_set names number None → n ≢ number → IsNumberOf names n name → IsNumberOf now n name
    number_stays names number now n name is ne named = ap (λ ns. slice_get ns n) is ∙ get_set_other names number n None ne ∙ named

-- ---- a method that takes its place

pub takes_code : (system : SystemState) (m : MethodChange) (selector : List ℕ) (placed : PlacedMethod) → TakesPlace system m selector placed → HasCodeAt system.table placed.number placed.side placed.selector placed.entry
takes_code system m selector placed takes = record {
  class = m.class_name;
  named = takes.number;
  has_code = subst (λ s. HasCode system.table.classes m.class_name s placed.selector placed.entry) (sym takes.side)
      (subst (λ k. HasCode system.table.classes m.class_name m.side k placed.entry) (sym takes.selector_is) takes.code);
}
