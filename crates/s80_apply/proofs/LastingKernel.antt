-- The classes of the kernel stand in those of each list, and have there what the rows say.
use Rattle.std.proofs.Common.{◌≡◌, ◌≢◌, ◌≤◌, ◌+◌, ◌∙◌, ◌&&◌, ◌||◌, ℕ, zero, suc, Bool, cond, true, false, nat_le, refl, sym, ap, List, [], ◌∷◌, length, Option, Some, None, is_some, option_map, find, codes, true≢false, arith}
use Rattle.std.specs.List.{list_all}
use Rattle.std.specs.Str.{bytes_eq}
use Rattle.std.specs.Ordering.{nat_cmp}
use Rattle.std.specs.Cmp.Lexicographic.{slice_cmp, bytes_decides}
use Rattle.std.specs.FinMap as map
use Rattle.std.proofs.lemmas.Bool.{and_parts}
use Rattle.std.proofs.lemmas.Bool.Decides.{nat_tests}
use Rattle.std.proofs.lemmas.List.Sums.{sum_by-cons}
use Rattle.s80_kernel.specs.Rows.{KernelRow, kernel_rows, has_name, is_kernel_class}
use Rattle.s80_change.specs.declared.change.Change.{Change}
use Rattle.s80_form.specs.declared.definition.Definition.{Definition}
use Rattle.s80_class.specs.Classes.{Name, ClassRow, Classes, IsLine, Inherited, own_or, effective_kind, bits_variables_of, change_row, inherited_in, inherited_of, with_class_side_vars, with_comment}
use Rattle.s80_class.proofs.lemmas.Lines.{Entry, get-inserted, get-elsewhere, get-left, eq_not, lineage_line, not_eq}
use Rattle.s80_class.proofs.lemmas.Changed.{changed_elsewhere, changed_here}
use Rattle.s80_apply.specs.Accept.{row_of, define, refusal_of, refusal_of_class_vars, refusal_of_removal}
use Rattle.s80_apply.specs.Kernel.{kernel_row, superclass_of, kernel_classes}
use Rattle.s80_apply.specs.List.{classes_of}
use Rattle.s80_apply.proofs.Booted.{built, built_has}
use Rattle.s80_apply.proofs.Seen.{words_turned}
use Rattle.s80_apply.proofs.Passing.{removal_accepted, vars_accepted}
use Rattle.s80_apply.proofs.LastingDefined.{accepted_apart}
use Rattle.s80_apply.proofs.LastingLists.{in_each_list}

-- ---- the rows as a map

abbrev pub row_named : List KernelRow → Name → Option KernelRow
row_named rows name = find (λ row. bytes_eq row.name name) rows

mapped : (b : Bool) (row : KernelRow) (o : Option KernelRow) → cond b (Some (kernel_row row)) (option_map kernel_row o) ≡ option_map kernel_row (cond b (Some row) o)
mapped true row o = refl
mapped false row o = refl

get_built : (rows : List KernelRow) (q : Name) → map.get (built rows) q ≡ option_map kernel_row (row_named rows q)
get_built [] q = map.get-empty (slice_cmp nat_cmp) q
get_built (row ∷ rows) q =
    get-inserted (built rows) row.name (kernel_row row) q
    ∙ (λ i. cond (words_turned q row.name i) (Some (kernel_row row)) (get_built rows q i))
    ∙ mapped (bytes_eq row.name q) row (row_named rows q)

row_stands : (name : Name) (row : KernelRow) → row_named kernel_rows name ≡ Some row → map.get kernel_classes name ≡ Some (kernel_row row)
unfolding kernel_classes
row_stands name row is = get_built kernel_rows name ∙ ap (option_map kernel_row) is

pub has_row : (name : Name) (row : ClassRow) → map.get kernel_classes name ≡ Some row → has_name kernel_rows name ≡ true
unfolding kernel_classes
has_row name row is = sym (built_has kernel_rows name) ∙ ap is_some is

has_class : (name : Name) → is_kernel_class name ≡ true → has_name kernel_rows name ≡ true
unfolding is_kernel_class
has_class name is = is

is_class : (name : Name) → has_name kernel_rows name ≡ true → is_kernel_class name ≡ true
unfolding is_kernel_class
is_class name is = is

-- ---- they stand in each list, whatever their comments

abbrev pub HasClass : Classes → Name → ClassRow → Type 0
HasClass classes name row = (comment : List ℕ) × (map.get classes name ≡ Some (with_comment comment row))

abbrev pub Stands : Classes → Type 0
Stands classes = (name : Name) (row : ClassRow) → map.get kernel_classes name ≡ Some row → HasClass classes name row

-- a class that is none of the kernel's is another
other_class : (name class : Name) (row : ClassRow) → map.get kernel_classes name ≡ Some row → is_kernel_class class ≡ false → name ≢ class
other_class name class row is apart same = true≢false (sym (is_class name (has_row name row is)) ∙ ap is_kernel_class same ∙ apart)

stands_defined : (d : Definition) (classes : Classes) → refusal_of d classes ≡ None → Stands classes → Stands (define d classes)
stands_defined d classes none stands name row is =
    let ne = other_class name d.class_name row is (accepted_apart d classes none) in
    let there = stands name row is in
    (there.0, get-elsewhere classes d.class_name (row_of d (map.get classes d.class_name)) name ne ∙ there.1)

stands_given_vars : (class : Name) (names : List Name) (classes : Classes) → refusal_of_class_vars class names classes ≡ None → Stands classes → Stands (change_row (with_class_side_vars names) class classes)
stands_given_vars class names classes none stands name row is =
    let ne = other_class name class row is (vars_accepted class names classes none).apart in
    let there = stands name row is in
    (there.0, changed_elsewhere (with_class_side_vars names) class classes name ne ∙ there.1)

stands_commented : (class : Name) (text : List ℕ) (classes : Classes) → Stands classes → Stands (change_row (with_comment text) class classes)
stands_commented class text classes stands name row is =
    let there = stands name row is in
    elim (bytes_eq name class) as (λ b. bytes_eq name class ≡ b → HasClass (change_row (with_comment text) class classes) name row) [
      | true ↦ λ same.
          let here : name ≡ class = (bytes_decides name class).0 same in
          let was : map.get classes class ≡ Some (with_comment there.0 row) = ap (map.get classes) (sym here) ∙ there.1 in
          (text, ap (map.get (change_row (with_comment text) class classes)) here ∙ changed_here (with_comment text) class classes (with_comment there.0 row) was)
      | false ↦ λ differs. (there.0, changed_elsewhere (with_comment text) class classes name (not_eq name class differs) ∙ there.1)
    ] refl

stands_removed : (class : Name) (classes : Classes) → refusal_of_removal class classes ≡ None → Stands classes → Stands (map.remove classes class)
stands_removed class classes none stands name row is =
    let ne = other_class name class row is (removal_accepted class classes none).apart in
    let there = stands name row is in
    (there.0, get-left classes class name ne ∙ there.1)

pub stands_first : Stands kernel_classes
stands_first = λ name row is. (row.comment, is)

pub stands_last : (changes : List Change) → Stands (classes_of changes)
stands_last changes = in_each_list Stands (record { defined = stands_defined; given_vars = stands_given_vars; commented = stands_commented; removed = stands_removed }) stands_first changes

-- ---- what a class has by the rows

-- a class with what it inherits
abbrev pub onto : ClassRow → Inherited → Inherited
onto row above = record {
  inst_vars = length row.inst_vars + above.inst_vars;
  class_side_vars = length row.class_side_vars + above.class_side_vars;
  kind = own_or row.kind above.kind;
}

abbrev pub with_row : Option KernelRow → (KernelRow → Option Inherited) → Option Inherited
with_row None up = None
with_row (Some row) up = option_map (onto (kernel_row row)) (up row)

-- by a line of fewer classes than this; no name stands for none
abbrev pub has_by : List KernelRow → ℕ → Name → Option Inherited
has_by rows zero name = None
has_by rows (suc n) [] = Some (inherited_in [])
has_by rows (suc n) (b ∷ bytes) = with_row (row_named rows (b ∷ bytes)) (λ row. has_by rows n row.superclass)

abbrev pub holds : (Inherited → Bool) → Option Inherited → Bool
holds test None = false
holds test (Some t) = test t

abbrev pub is_by : List KernelRow → ℕ → (Inherited → Bool) → Name → Bool
is_by rows n test [] = false
is_by rows n test (b ∷ bytes) = holds test (has_by rows n (b ∷ bytes))

inherited_onto : (e : Entry) (es : List Entry) → inherited_in (e ∷ es) ≡ onto e.1 (inherited_in es)
inherited_onto e es = λ i. record {
  inst_vars = sum_by-cons (λ (e : Entry). length e.1.inst_vars) e es i;
  class_side_vars = sum_by-cons (λ (e : Entry). length e.1.class_side_vars) e es i;
  kind = own_or e.1.kind (effective_kind es);
}

some_same : (t u : Inherited) → Some t ≡ Some u → t ≡ u
some_same t u h = cc

-- in each map where the rows stand
module _ (rows : List KernelRow) (classes : Classes) (stand : (name : Name) (row : KernelRow) → row_named rows name ≡ Some row → HasClass classes name (kernel_row row)) where
  abbrev HasLine : Name → Inherited → Type 0
  HasLine name t = (es : List Entry) × IsLine classes (superclass_of name) es × (inherited_in es ≡ t)

  line_by : (n : ℕ) (name : Name) (t : Inherited) → has_by rows n name ≡ Some t → HasLine name t
  line_by zero name t is = absurd (let bad : None ≡ Some t = is in cc)
  line_by (suc n) [] t is = ([], tt, some_same (inherited_in []) t is)
  line_by (suc n) (b ∷ bytes) t is = by_row (λ name t is. line_by n name t is) (row_named rows (b ∷ bytes)) refl is
    where
      by_above : ((name : Name) (t : Inherited) → has_by rows n name ≡ Some t → HasLine name t) → (row : KernelRow) → row_named rows (b ∷ bytes) ≡ Some row
          → (o : Option Inherited) → has_by rows n row.superclass ≡ o → option_map (onto (kernel_row row)) o ≡ Some t → HasLine (b ∷ bytes) t
      by_above above row named None _ is = absurd (let bad : None ≡ Some t = is in cc)
      by_above above row named (Some u) up is =
          let rest = above row.superclass u up in
          let there = stand (b ∷ bytes) row named in
          let e : Entry = (b ∷ bytes, with_comment there.0 (kernel_row row)) in
          (e ∷ rest.0, (refl, there.1, rest.1), inherited_onto e rest.0 ∙ ap (onto (kernel_row row)) rest.2 ∙ some_same (onto (kernel_row row) u) t is)

      by_row : ((name : Name) (t : Inherited) → has_by rows n name ≡ Some t → HasLine name t) → (o : Option KernelRow) → row_named rows (b ∷ bytes) ≡ o
          → with_row o (λ row. has_by rows n row.superclass) ≡ Some t → HasLine (b ∷ bytes) t
      by_row above None named is = absurd (let bad : None ≡ Some t = is in cc)
      by_row above (Some row) named is = by_above above row named (has_by rows n row.superclass) refl is

  line_is : (n : ℕ) (test : Inherited → Bool) (name : Name) → is_by rows n test name ≡ true → (es : List Entry) × IsLine classes (Some name) es × (test (inherited_in es) ≡ true)
  line_is n test [] h = absurd (true≢false (sym h))
  line_is n test (b ∷ bytes) h = go (has_by rows n (b ∷ bytes)) refl h
    where
      go : (o : Option Inherited) → has_by rows n (b ∷ bytes) ≡ o → holds test o ≡ true → (es : List Entry) × IsLine classes (Some (b ∷ bytes)) es × (test (inherited_in es) ≡ true)
      go None is h = absurd (true≢false (sym h))
      go (Some t) is h = let line = line_by n (b ∷ bytes) t is in (line.0, line.1, ap test line.2 ∙ h)

  pub has_line : (n : ℕ) (test : Inherited → Bool) (name : Name) → is_by rows n test name ≡ true → (es : List Entry) × IsLine classes (Some name) es
  has_line n test name h = let line = line_is n test name h in (line.0, line.1)

  pub inherits : (n : ℕ) (test : Inherited → Bool) (name : Name) → is_by rows n test name ≡ true → test (inherited_of classes name) ≡ true
  inherits n test name h = let line = line_is n test name h in ap (λ (es : List Entry). test (inherited_in es)) (lineage_line classes name line.0 line.1) ∙ line.2

-- ---- what the kernel's have

-- no class-side variables, and no variables in a class of bytes or words
abbrev pub few : Inherited → Bool
few t = nat_le t.inst_vars 64 && (nat_le t.class_side_vars 0 && nat_le (bits_variables_of t) 0)

abbrev pub bare : Inherited → Bool
bare t = nat_le t.inst_vars 0

abbrev has_two : Inherited → Bool
has_two t = nat_le t.inst_vars 2 && nat_le 2 t.inst_vars

message_has_two : is_by kernel_rows 8 has_two (codes "Message") ≡ true
message_has_two = refl

abbrev bare_but_one : Name → Bool
bare_but_one name = bytes_eq name (codes "Message") || is_by kernel_rows 8 bare name

all_few : list_all (λ row. is_by kernel_rows 8 few row.name) kernel_rows ≡ true
all_few = refl

all_bare : list_all (λ row. bare_but_one row.name) kernel_rows ≡ true
all_bare = refl

at_name : (test : Name → Bool) (rows : List KernelRow) (q : Name) → list_all (λ row. test row.name) rows ≡ true → has_name rows q ≡ true → test q ≡ true
at_name test [] q all h = absurd (true≢false (sym h))
at_name test (k ∷ rows) q all h =
    let both = and_parts (test k.name) (list_all (λ row. test row.name) rows) all in
    elim (bytes_eq k.name q) as (λ b. bytes_eq k.name q ≡ b → (b || has_name rows q) ≡ true → test q ≡ true) [
      | true ↦ λ is _. ap test (sym ((bytes_decides k.name q).0 is)) ∙ both.0
      | false ↦ λ _ h'. at_name test rows q both.1 h'
    ] refl h

pub few_at : (name : Name) → has_name kernel_rows name ≡ true → is_by kernel_rows 8 few name ≡ true
few_at name has = at_name (is_by kernel_rows 8 few) kernel_rows name all_few has

bare_at : (name : Name) → has_name kernel_rows name ≡ true → name ≢ codes "Message" → is_by kernel_rows 8 bare name ≡ true
bare_at name has ne = ap (λ b. b || is_by kernel_rows 8 bare name) (sym (eq_not name (codes "Message") ne)) ∙ at_name bare_but_one kernel_rows name all_bare has

pub most_of : (n most : ℕ) → nat_le n most ≡ true → n ≤ most
most_of n most h = grind (arith, nat_tests)

pub few_parts : (t : Inherited) → few t ≡ true → (t.inst_vars ≤ 64) × (t.class_side_vars ≤ 0) × (bits_variables_of t ≤ 0)
few_parts t h =
    let first = and_parts (nat_le t.inst_vars 64) (nat_le t.class_side_vars 0 && nat_le (bits_variables_of t) 0) h in
    let second = and_parts (nat_le t.class_side_vars 0) (nat_le (bits_variables_of t) 0) first.1 in
    (most_of t.inst_vars 64 first.0, most_of t.class_side_vars 0 second.0, most_of (bits_variables_of t) 0 second.1)

module _ (classes : Classes) (stands : Stands classes) where
  stand : (name : Name) (row : KernelRow) → row_named kernel_rows name ≡ Some row → HasClass classes name (kernel_row row)
  stand name row is = stands name (kernel_row row) (row_stands name row is)

  pub kernel_line : (name : Name) → has_name kernel_rows name ≡ true → (es : List Entry) × IsLine classes (Some name) es
  kernel_line name has = has_line kernel_rows classes stand 8 few name (few_at name has)

  pub kernel_few : (name : Name) → has_name kernel_rows name ≡ true → few (inherited_of classes name) ≡ true
  kernel_few name has = inherits kernel_rows classes stand 8 few name (few_at name has)

  pub kernel_inst_vars : (name : Name) → is_kernel_class name ≡ true → name ≢ codes "Message" → (inherited_of classes name).inst_vars ≡ 0
  kernel_inst_vars name is ne =
      let most : (inherited_of classes name).inst_vars ≤ 0 = most_of (inherited_of classes name).inst_vars 0 (inherits kernel_rows classes stand 8 bare name (bare_at name (has_class name is) ne)) in
      omega (arith, most)

  pub message_inst_vars : (inherited_of classes (codes "Message")).inst_vars ≡ 2
  message_inst_vars =
      let count : ℕ = (inherited_of classes (codes "Message")).inst_vars in
      let both = and_parts (nat_le count 2) (nat_le 2 count) (inherits kernel_rows classes stand 8 has_two (codes "Message") message_has_two) in
      let most : count ≤ 2 = most_of count 2 both.0 in
      let least : 2 ≤ count = most_of 2 count both.1 in
      omega (arith, most, least)

  pub kernel_class_side_vars : (name : Name) → is_kernel_class name ≡ true → (inherited_of classes name).class_side_vars ≡ 0
  kernel_class_side_vars name is =
      let parts = few_parts (inherited_of classes name) (kernel_few name (has_class name is)) in
      omega (arith, parts.1)
