-- The state that all changes of a set make, and the short one, made by those that aren't left out: where the two may differ.
use Rattle.std.proofs.Common.{◌≡◌, ◌≢◌, ◌≤◌, ◌∙◌, ◌&&◌, ℕ, not, Bool, cond, true, false, true≢false, refl, sym, ap, subst, List, [], ◌∷◌, length, find, is_some, option_map, Option, Some, None, arith}
use Rattle.std.specs.Str.{bytes_eq}
use Rattle.std.specs.Cmp.Lexicographic.{bytes_decides, nat_list_cmp_total}
use Rattle.std.specs.FinMap as map
use Rattle.std.proofs.lemmas.Bool.{and_parts}
use Rattle.s80_base.specs.declared.names.Side.{Side}
use Rattle.s80_dict.specs.Dict.{Methods}
use Rattle.s80_dict.specs.Table.{same_side}
use Rattle.s80_change.specs.declared.change.Change.{Change}
use Rattle.s80_form.specs.Name.{is_name}
use Rattle.s80_form.specs.declared.definition.Definition.{Definition}
use Rattle.s80_form.specs.declared.refusal.Refusal.{Refusal}
use Rattle.s80_form.specs.declared.refusal.Refusal.TheVariants.{BadName, Cycle, Duplicate, HasSubclasses, UnknownClass}
use Rattle.s80_form.specs.declared.refusal.ManyKind.TheVariants.{BitsVariables, Classes as ManyClasses, ClassSideVariables, ClassVariables, InstanceVariables, Pools}
use Rattle.s80_class.specs.Classes.{Name, ClassRow, Classes, Extent, change_row, with_class_side_vars, with_comment}
use Rattle.s80_class.proofs.lemmas.Changed.{changed_absent, changed_elsewhere, changed_here}
use Rattle.s80_class.proofs.lemmas.Commented.{AreCommented, bare, commented_contains, commented_extent, commented_has_subclass, commented_len, commented_under}
use Rattle.s80_class.proofs.lemmas.Lines.{bytes_eq-self, get-elsewhere, get-here, get-removed}
use Rattle.s80_history.specs.Lists.{MethodName, comes_before, comments, is_put_again, is_same, removes_class}
use Rattle.s80_apply.specs.State.{MethodRow, State, put_method, take_method}
use Rattle.s80_apply.specs.Accept.{above, bad_name, define, duplicate, first_again, first_some, kernel_class, kernel_name, len_with, refusal_of, refusal_of_class_vars, refusal_of_removal, row_of}
use Rattle.s80_apply.proofs.Stands.{same_keys}
use Rattle.s80_fileout.proofs.Cells.{Cell, in_cell, put_elsewhere, put_here, side_itself, side_same, taken_elsewhere, taken_here}
use Rattle.s80_fileout.proofs.Keyed.{by_bytes, by_found, get_put_here, get_put_other, no_longer, same_named}

-- ---- the names of methods

abbrev pub name_of : Cell → MethodName
name_of c = record { class_name = c.0; side = c.1; selector = c.2 }

pub same_itself : (c : Cell) → is_same (name_of c) (name_of c) ≡ true
same_itself c = λ i. bytes_eq-self c.0 i && side_itself c.1 i && bytes_eq-self c.2 i

told_same : (c d : Cell) → is_same (name_of c) (name_of d) ≡ true → c ≡ d
told_same c d is =
    let both = and_parts (bytes_eq c.0 d.0 && same_side c.1 d.1) (bytes_eq c.2 d.2) is in
    let place = and_parts (bytes_eq c.0 d.0) (same_side c.1 d.1) both.0 in
    let class : c.0 ≡ d.0 = (bytes_decides c.0 d.0).0 place.0 in
    let side : c.1 ≡ d.1 = side_same c.1 d.1 place.1 in
    let selector : c.2 ≡ d.2 = (bytes_decides c.2 d.2).0 both.1 in
    λ i. (class i, side i, selector i)

-- whether or not two methods are the same
by_cell : {P : Type 0} (c d : Cell) → (c ≡ d → P) → (c ≢ d → P) → P
by_cell {P} c d same other = go (is_same (name_of c) (name_of d)) refl
  where
    go : (b : Bool) → is_same (name_of c) (name_of d) ≡ b → P
    go true is = same (told_same c d is)
    go false is = other (λ e. true≢false (sym (ap (λ (x : Cell). is_same (name_of x) (name_of d)) e ∙ same_itself d) ∙ is))

pub told_other : (c d : Cell) → c ≢ d → is_same (name_of c) (name_of d) ≡ false
told_other c d ne = go (is_same (name_of c) (name_of d)) refl
  where
    go : (b : Bool) → is_same (name_of c) (name_of d) ≡ b → is_same (name_of c) (name_of d) ≡ false
    go true is = absurd (ne (told_same c d is))
    go false is = is

-- ---- one class, and one method

-- the rows of a class in the full state and in the short one: its comment may differ where it is put again, and nothing else
pub record AreRows (again : Bool) (full short : Option ClassRow) : Type 0 where
  pub but_comment : option_map bare short ≡ option_map bare full
  pub same : again ≡ false → short ≡ full

-- and a method of both: it may differ where it is put again, and the full state has it where the short one does
pub record AreCells (again : Bool) (full short : Option MethodRow) : Type 0 where
  pub there : (row : MethodRow) → short ≡ Some row → (now : MethodRow) × (full ≡ Some now)
  pub same : again ≡ false → short ≡ full

-- what is the same may stand anywhere
rows_equal : (again : Bool) (full short : Option ClassRow) → short ≡ full → AreRows again full short
rows_equal again full short is = record { but_comment = ap (option_map bare) is; same = λ _. is }

cells_equal : (again : Bool) (full short : Option MethodRow) → short ≡ full → AreCells again full short
cells_equal again full short is = record { there = λ row at. (row, sym is ∙ at); same = λ _. is }

-- ---- the states

-- the comment of a class is put again before the class is removed
abbrev pub is_commented_again : Name → List Change → Bool
is_commented_again class later = comes_before (comments class) (removes_class class) later

-- the two states, before the changes that are to come
pub record AreBefore (later : List Change) (full short : State) : Type 0 where
  pub classes : (q : Name) → AreRows (is_commented_again q later) (map.get full.classes q) (map.get short.classes q)
  pub methods : (c : Cell) → AreCells (is_put_again (name_of c) later) (in_cell c full) (in_cell c short)

-- a set begins with one state
pub before_itself : (later : List Change) (state : State) → AreBefore later state state
before_itself later state = record {
  classes = λ q. rows_equal (is_commented_again q later) (map.get state.classes q) (map.get state.classes q) refl;
  methods = λ c. cells_equal (is_put_again (name_of c) later) (in_cell c state) (in_cell c state) refl;
}

-- at its end nothing is put again, and they are one state
pub before_none : (full short : State) → AreBefore [] full short → short ≡ full
before_none full short at =
    let classes : short.classes ≡ full.classes = same_named short.classes full.classes (λ q. (at.classes q).same refl) in
    λ i. record { classes = classes i; methods = λ name side. same_named (short.methods name side) (full.methods name side) (λ q. (at.methods (name, side, q)).same refl) i }

-- ---- what doesn't look at comments

some_bare : (o : Option ClassRow) → is_some o ≡ is_some (option_map bare o)
some_bare None = refl
some_bare (Some row) = refl

-- the classes are the same but for comments
pub commented_before : (again : Name → Bool) (full short : Classes) → ((q : Name) → AreRows (again q) (map.get full q) (map.get short q)) → AreCommented full short
commented_before again full short at = record {
  keys = same_keys short full (λ q. some_bare (map.get short q) ∙ ap is_some (at q).but_comment ∙ sym (some_bare (map.get full q)));
  rows = λ q. (at q).but_comment;
}

-- the refusal of each form, by what is seen of the classes
abbrev counted : Definition → ℕ → Extent → Option Refusal
counted d count extent = first_some (
    above 65536 ManyClasses count
    ∷ above 64 InstanceVariables extent.inst_vars
    ∷ above 256 ClassVariables (length d.class_vars)
    ∷ above 64 ClassSideVariables extent.class_side_vars
    ∷ above 256 Pools (length d.pools)
    ∷ above 0 BitsVariables extent.bits_variables
    ∷ [])

abbrev defining : Definition → Bool → Bool → ℕ → Extent → Option Refusal
defining d known under count extent = first_some (
    bad_name d
    ∷ cond known None (Some (UnknownClass d.superclass))
    ∷ kernel_class d
    ∷ cond under (Some (Cycle d.class_name)) None
    ∷ duplicate d
    ∷ counted d count extent
    ∷ [])

abbrev giving : Name → List Name → Bool → Extent → Option Refusal
giving name names known extent = first_some (
    option_map BadName (find (λ word. not (is_name word)) names)
    ∷ cond known None (Some (UnknownClass name))
    ∷ kernel_name name
    ∷ option_map Duplicate (first_again [] names)
    ∷ above 64 ClassSideVariables extent.class_side_vars
    ∷ [])

abbrev removing : Name → Bool → Bool → Option Refusal
removing name known below = first_some (cond known None (Some (UnknownClass name)) ∷ kernel_name name ∷ cond below (Some (HasSubclasses name)) None ∷ [])

module _ (classes other : Classes) (alike : AreCommented classes other) where
  pub known_alike : (name : Name) → map.contains_key classes name ≡ true → map.contains_key other name ≡ true
  known_alike name known = commented_contains classes other alike name ∙ known

  pub defining_alike : (d : Definition) → AreCommented (define d classes) (define d other) → refusal_of d other ≡ refusal_of d classes
  defining_alike d defined =
      let counts = commented_len (define d classes) (define d other) defined in
      let extents = commented_extent (define d classes) (define d other) defined d.class_name in
      λ i. defining d (commented_contains classes other alike d.superclass i) (commented_under classes other alike d.superclass d.class_name i) (counts i) (extents i)

  pub giving_alike : (name : Name) (names : List Name) → AreCommented (change_row (with_class_side_vars names) name classes) (change_row (with_class_side_vars names) name other)
      → refusal_of_class_vars name names other ≡ refusal_of_class_vars name names classes
  giving_alike name names given =
      let extents = commented_extent (change_row (with_class_side_vars names) name classes) (change_row (with_class_side_vars names) name other) given name in
      λ i. giving name names (commented_contains classes other alike name i) (extents i)

  pub removing_alike : (name : Name) → refusal_of_removal name other ≡ refusal_of_removal name classes
  removing_alike name = λ i. removing name (commented_contains classes other alike name i) (commented_has_subclass classes other alike name i)

-- ---- one class changed

-- both states are changed at one name
rows_changed : (again : Name → Bool) (name : Name) (full short full_now short_now : Classes)
    → ((q : Name) → q ≢ name → map.get full_now q ≡ map.get full q) → ((q : Name) → q ≢ name → map.get short_now q ≡ map.get short q)
    → ((q : Name) → q ≢ name → AreRows (again q) (map.get full q) (map.get short q)) → AreRows (again name) (map.get full_now name) (map.get short_now name)
    → (q : Name) → AreRows (again q) (map.get full_now q) (map.get short_now q)
rows_changed again name full short full_now short_now left kept others here q = by_bytes q name
    (λ same. subst (λ (n : Name). AreRows (again n) (map.get full_now n) (map.get short_now n)) (sym same) here)
    (λ ne. subst (λ o. AreRows (again q) o (map.get short_now q)) (sym (left q ne)) (subst (λ o. AreRows (again q) (map.get full q) o) (sym (kept q ne)) (others q ne)))

-- one row is changed by a function
changed_at : (change : ClassRow → ClassRow) (name : Name) (classes : Classes) → map.get (change_row change name classes) name ≡ option_map change (map.get classes name)
changed_at change name classes = by_found (map.get classes name)
    (λ none. ap (λ (m : Classes). map.get m name) (changed_absent change name classes none) ∙ none ∙ sym (ap (option_map change) none))
    (λ row is. changed_here change name classes row is ∙ sym (ap (option_map change) is))

module _ (again : Name → Bool) (name : Name) (full short : Classes) (others : (q : Name) → q ≢ name → AreRows (again q) (map.get full q) (map.get short q)) where
  -- in both states
  pub rows_both : (change : ClassRow → ClassRow) → AreRows (again name) (option_map change (map.get full name)) (option_map change (map.get short name))
      → (q : Name) → AreRows (again q) (map.get (change_row change name full) q) (map.get (change_row change name short) q)
  rows_both change here = rows_changed again name full short (change_row change name full) (change_row change name short) (changed_elsewhere change name full) (changed_elsewhere change name short) others
      (subst (λ o. AreRows (again name) o (map.get (change_row change name short) name)) (sym (changed_at change name full))
      (subst (λ o. AreRows (again name) (option_map change (map.get full name)) o) (sym (changed_at change name short)) here))

  -- in the full one alone
  pub rows_full : (change : ClassRow → ClassRow) → AreRows (again name) (option_map change (map.get full name)) (map.get short name)
      → (q : Name) → AreRows (again q) (map.get (change_row change name full) q) (map.get short q)
  rows_full change here = rows_changed again name full short (change_row change name full) short (changed_elsewhere change name full) (λ q ne. refl) others
      (subst (λ o. AreRows (again name) o (map.get short name)) (sym (changed_at change name full)) here)

  -- a row put in both
  pub rows_put : (row old : ClassRow) → AreRows (again name) (Some row) (Some old) → (q : Name) → AreRows (again q) (map.get (map.insert full name row) q) (map.get (map.insert short name old) q)
  rows_put row old here = rows_changed again name full short (map.insert full name row) (map.insert short name old) (get-elsewhere full name row) (get-elsewhere short name old) others
      (subst (λ o. AreRows (again name) o (map.get (map.insert short name old) name)) (sym (get-here full name row)) (subst (λ o. AreRows (again name) (Some row) o) (sym (get-here short name old)) here))

-- the variables of the class side
given_bare : (names : List Name) (o : Option ClassRow) → option_map bare (option_map (with_class_side_vars names) o) ≡ option_map (with_class_side_vars names) (option_map bare o)
given_bare names None = refl
given_bare names (Some row) = refl

pub rows_given : (again : Bool) (names : List Name) (full short : Option ClassRow) → AreRows again full short → AreRows again (option_map (with_class_side_vars names) full) (option_map (with_class_side_vars names) short)
rows_given again names full short at = record {
  but_comment = given_bare names short ∙ ap (option_map (with_class_side_vars names)) at.but_comment ∙ sym (given_bare names full);
  same = λ off. ap (option_map (with_class_side_vars names)) (at.same off);
}

-- a comment, in both states and in the full one alone
comment_bare : (text : Name) (o : Option ClassRow) → option_map (with_comment text) o ≡ option_map (with_comment text) (option_map bare o)
comment_bare text None = refl
comment_bare text (Some row) = refl

pub rows_commented : (was again : Bool) (text : Name) (full short : Option ClassRow) → AreRows was full short → AreRows again (option_map (with_comment text) full) (option_map (with_comment text) short)
rows_commented was again text full short at =
    rows_equal again (option_map (with_comment text) full) (option_map (with_comment text) short)
    (comment_bare text short ∙ ap (option_map (with_comment text)) at.but_comment ∙ sym (comment_bare text full))

bare_comment : (text : Name) (o : Option ClassRow) → option_map bare (option_map (with_comment text) o) ≡ option_map bare o
bare_comment text None = refl
bare_comment text (Some row) = refl

pub rows_left : (was again : Bool) (text : Name) (full short : Option ClassRow) → again ≡ true → AreRows was full short → AreRows again (option_map (with_comment text) full) short
rows_left was again text full short on at = record { but_comment = at.but_comment ∙ sym (bare_comment text full); same = λ off. absurd (true≢false (sym on ∙ off)) }

-- a definition
defined_bare : (d : Definition) (o : Option ClassRow) → bare (row_of d o) ≡ bare (row_of d (option_map bare o))
defined_bare d None = refl
defined_bare d (Some row) = refl

pub rows_defined : (again : Bool) (d : Definition) (full short : Option ClassRow) → AreRows again full short → AreRows again (Some (row_of d full)) (Some (row_of d short))
rows_defined again d full short at = record {
  but_comment = ap Some (defined_bare d short ∙ ap (λ o. bare (row_of d o)) at.but_comment ∙ sym (defined_bare d full));
  same = λ off. ap (λ o. Some (row_of d o)) (at.same off);
}

-- a class taken away, with its methods
taken_row : (again off : Bool) (full short : Option ClassRow) → AreRows (not off && again) full short → AreRows again (cond off None full) (cond off None short)
taken_row again true full short at = rows_equal again None None refl
taken_row again false full short at = at

pub rows_taken : (again : Name → Bool) (name : Name) (full short : Classes) → ((q : Name) → AreRows (not (bytes_eq q name) && again q) (map.get full q) (map.get short q))
    → (q : Name) → AreRows (again q) (map.get (map.remove full name) q) (map.get (map.remove short name) q)
rows_taken again name full short at q =
    subst (λ o. AreRows (again q) o (map.get (map.remove short name) q)) (sym (get-removed full name q))
    (subst (λ o. AreRows (again q) (cond (bytes_eq q name) None (map.get full q)) o) (sym (get-removed short name q)) (taken_row (again q) (bytes_eq q name) (map.get full q) (map.get short q) (at q)))

pub cell_emptied : (again off : Bool) (full short : Methods MethodRow) (selector : Name) → AreCells (not off && again) (map.get full selector) (map.get short selector)
    → AreCells again (map.get (cond off map.empty full) selector) (map.get (cond off map.empty short) selector)
cell_emptied again true full short selector at = let none : Methods MethodRow = map.empty in cells_equal again (map.get none selector) (map.get none selector) refl
cell_emptied again false full short selector at = at

-- ---- one method changed

-- both states are changed at one place
module _ (c : Cell) (again : Cell → Bool) (full short full_now short_now : State)
    (left : (q : Cell) → q ≢ c → in_cell q full_now ≡ in_cell q full) (kept : (q : Cell) → q ≢ c → in_cell q short_now ≡ in_cell q short)
    (others : (q : Cell) → q ≢ c → AreCells (again q) (in_cell q full) (in_cell q short)) where
  cells_changed : AreCells (again c) (in_cell c full_now) (in_cell c short_now) → (q : Cell) → AreCells (again q) (in_cell q full_now) (in_cell q short_now)
  cells_changed here q = by_cell q c
      (λ same. subst (λ (d : Cell). AreCells (again d) (in_cell d full_now) (in_cell d short_now)) (sym same) here)
      (λ ne. subst (λ o. AreCells (again q) o (in_cell q short_now)) (sym (left q ne)) (subst (λ o. AreCells (again q) (in_cell q full) o) (sym (kept q ne)) (others q ne)))

module _ (name : Name) (side : Side) (selector : Name) (again : Cell → Bool) (full short : State)
    (others : (q : Cell) → q ≢ (name, side, selector) → AreCells (again q) (in_cell q full) (in_cell q short)) where
  abbrev c : Cell
  c = (name, side, selector)

  -- in both states
  pub cells_put : (row : MethodRow) → (q : Cell) → AreCells (again q) (in_cell q (put_method name side selector row full)) (in_cell q (put_method name side selector row short))
  cells_put row =
      let full_now : State = put_method name side selector row full in
      let short_now : State = put_method name side selector row short in
      cells_changed c again full short full_now short_now (put_elsewhere name side selector full row) (put_elsewhere name side selector short row) others
      (cells_equal (again c) (in_cell c full_now) (in_cell c short_now) (put_here name side selector short row ∙ sym (put_here name side selector full row)))

  pub cells_taken : (q : Cell) → AreCells (again q) (in_cell q (take_method name side selector full)) (in_cell q (take_method name side selector short))
  cells_taken =
      let full_now : State = take_method name side selector full in
      let short_now : State = take_method name side selector short in
      cells_changed c again full short full_now short_now (taken_elsewhere name side selector full) (taken_elsewhere name side selector short) others
      (cells_equal (again c) (in_cell c full_now) (in_cell c short_now) (taken_here name side selector short ∙ sym (taken_here name side selector full)))

  -- in the full one alone, as it is put again
  pub cells_left : (row : MethodRow) → again c ≡ true → (q : Cell) → AreCells (again q) (in_cell q (put_method name side selector row full)) (in_cell q short)
  cells_left row on =
      cells_changed c again full short (put_method name side selector row full) short (put_elsewhere name side selector full row) (λ q ne. refl) others
      (record { there = λ old at. (row, put_here name side selector full row); same = λ off. absurd (true≢false (sym on ∙ off)) })

-- ---- how many methods

-- with one more, the short state has no more of them than the full one
pub few_short : (m n : Methods MethodRow) (selector : Name) → ((q : Name) (row : MethodRow) → map.get m q ≡ Some row → (now : MethodRow) × (map.get n q ≡ Some now)) → len_with selector n ≤ 16384 → len_with selector m ≤ 16384
few_short m n selector there few =
    let row : MethodRow = record { category = []; source = [] } in
    let fewer : map.len (map.insert m selector row) ≤ map.len (map.insert n selector row) =
    no_longer (map.insert m selector row) (map.insert n selector row) (λ q old is. by_bytes q selector
    (λ same. (row, ap (map.get (map.insert n selector row)) same ∙ get_put_here n selector row))
    (λ ne. let now = there q old (sym (get_put_other m selector row q ne) ∙ is) in (now.0, get_put_other n selector row q ne ∙ now.1))) in
    omega (arith, fewer, few, map.len-insert nat_list_cmp_total m selector row, map.len-insert nat_list_cmp_total n selector row)
