-- One change of a set: where it is left out, the state made without it stays as it is, and else it accepts the change too.
use Rattle.std.proofs.Common.{◌≡◌, ◌≢◌, ◌≤◌, ◌∙◌, ◌||◌, ◌&&◌, not, Bool, cond, true, false, refl, sym, ap, subst, List, ◌∷◌, is_some, Option, Some, None, Ok, Err}
use Rattle.std.specs.Option.{option_map_or}
use Rattle.std.specs.Str.{bytes_eq}
use Rattle.std.specs.FinMap as map
use Rattle.s80_base.specs.declared.names.Side.{Side}
use Rattle.s80_change.specs.declared.change.Change.{Change}
use Rattle.s80_change.specs.declared.change.Change.TheVariants as changes
use Rattle.s80_change.specs.declared.change.Method.{Method as MethodChange}
use Rattle.s80_form.specs.declared.definition.Definition.{Definition}
use Rattle.s80_form.specs.declared.form.Form.TheVariants.{Define, ClassVars, Comment, RemoveMethod, Classify, RemoveClass}
use Rattle.s80_form.specs.declared.refusal.Refusal.{Refusal}
use Rattle.s80_form.specs.declared.refusal.Refusal.TheVariants.{UnknownClass}
use Rattle.s80_form.specs.declared.refusal.ManyKind.TheVariants.{Methods as ManyMethods}
use Rattle.s80_class.specs.Classes.{Name, ClassRow, change_row, with_class_side_vars, with_comment}
use Rattle.s80_class.proofs.lemmas.Commented.{AreCommented}
use Rattle.s80_class.proofs.lemmas.Lines.{eq_not}
use Rattle.s80_history.specs.Lists.{is_left_out, is_put_again, is_same, named}
use Rattle.s80_apply.specs.State.{MethodRow, State, put_method, take_class, take_method}
use Rattle.s80_apply.specs.Accept.{accept, accepted, define, len_with, no_method, refusal_of, refusal_of_class_vars, refusal_of_removal, row_of, too_many_methods}
use Rattle.s80_apply.proofs.Passing.{few_enough, method_there}
use Rattle.s80_fileout.proofs.Accepting.{Cases, by_case, with_method}
use Rattle.s80_fileout.proofs.Cells.{Cell, in_cell, classify_accepted, method_accepted, removal_accepted}
use Rattle.s80_filing.proofs.lemmas.SetKept.{AreBefore, AreCells, AreRows, cell_emptied, cells_left, cells_put, cells_taken, commented_before, defining_alike, few_short, giving_alike, is_commented_again, known_alike, name_of, removing_alike, rows_both, rows_commented, rows_defined, rows_full, rows_given, rows_left, rows_put, rows_taken, same_itself, told_other}

-- behind a change the full state is this one; the short one stays where the change is left out, and else accepts it
abbrev pub Goes : Bool → Change → List Change → State → State → Type 0
Goes true change later full short = AreBefore later full short
Goes false change later full short = (now : State) × (accept change short ≡ Ok now) × AreBefore later full now

-- ---- classes

-- what a form makes of a class hangs on no comment
defined_goes : (d : Definition) (later : List Change) (full short : State) → refusal_of d full.classes ≡ None → AreBefore (changes.Form (Define d) ∷ later) full short
    → Goes false (changes.Form (Define d)) later (record full { classes = define d full.classes }) short
defined_goes d later full short none at =
    let again : Name → Bool = λ q. is_commented_again q later in
    let now : State = record short { classes = define d short.classes } in
    let old : Option ClassRow = map.get full.classes d.class_name in
    let mine : Option ClassRow = map.get short.classes d.class_name in
    let rows = rows_put again d.class_name full.classes short.classes (λ q ne. at.classes q) (row_of d old) (row_of d mine) (rows_defined (again d.class_name) d old mine (at.classes d.class_name)) in
    let alike : AreCommented full.classes short.classes = commented_before again full.classes short.classes at.classes in
    let defined : AreCommented (define d full.classes) (define d short.classes) = commented_before again (define d full.classes) (define d short.classes) rows in
    (now, ap (λ o. accepted o now) (defining_alike full.classes short.classes alike d defined ∙ none), record { classes = rows; methods = at.methods })

given_goes : (class : Name) (names : List Name) (later : List Change) (full short : State) → refusal_of_class_vars class names full.classes ≡ None → AreBefore (changes.Form (ClassVars class names) ∷ later) full short
    → Goes false (changes.Form (ClassVars class names)) later (record full { classes = change_row (with_class_side_vars names) class full.classes }) short
given_goes class names later full short none at =
    let again : Name → Bool = λ q. is_commented_again q later in
    let change : ClassRow → ClassRow = with_class_side_vars names in
    let now : State = record short { classes = change_row change class short.classes } in
    let rows = rows_both again class full.classes short.classes (λ q ne. at.classes q) change (rows_given (again class) names (map.get full.classes class) (map.get short.classes class) (at.classes class)) in
    let alike : AreCommented full.classes short.classes = commented_before again full.classes short.classes at.classes in
    let given : AreCommented (change_row change class full.classes) (change_row change class short.classes) = commented_before again (change_row change class full.classes) (change_row change class short.classes) rows in
    (now, ap (λ o. accepted o now) (giving_alike full.classes short.classes alike class names given ∙ none), record { classes = rows; methods = at.methods })

-- a comment is left out where it is put again
module _ (class text : Name) (later : List Change) (full short : State) (at : AreBefore (changes.Form (Comment class text) ∷ later) full short) where
  abbrev again : Name → Bool
  again q = is_commented_again q later

  abbrev was : Name → Bool
  was q = is_commented_again q (changes.Form (Comment class text) ∷ later)

  comment_others : (q : Name) → q ≢ class → AreRows (again q) (map.get full.classes q) (map.get short.classes q)
  comment_others q ne = subst (λ b. AreRows (b || again q) (map.get full.classes q) (map.get short.classes q)) (eq_not q class ne) (at.classes q)

  commented_goes : map.contains_key full.classes class ≡ true → (b : Bool) → again class ≡ b
      → Goes b (changes.Form (Comment class text)) later (record full { classes = change_row (with_comment text) class full.classes }) short
  commented_goes known true on = record {
    classes = rows_full again class full.classes short.classes comment_others (with_comment text) (rows_left (was class) (again class) text (map.get full.classes class) (map.get short.classes class) on (at.classes class));
    methods = at.methods;
  }
  commented_goes known false off =
      let now : State = record short { classes = change_row (with_comment text) class short.classes } in
      let alike : AreCommented full.classes short.classes = commented_before was full.classes short.classes at.classes in (
        now,
        ap (λ b. accepted (cond b None (Some (UnknownClass class))) now) (known_alike full.classes short.classes alike class known),
        record {
          classes = rows_both again class full.classes short.classes comment_others (with_comment text) (rows_commented (was class) (again class) text (map.get full.classes class) (map.get short.classes class) (at.classes class));
          methods = at.methods;
        },
      )

-- with a class its comment and its methods go
removed_goes : (class : Name) (later : List Change) (full short : State) → refusal_of_removal class full.classes ≡ None → AreBefore (changes.Form (RemoveClass class) ∷ later) full short
    → Goes false (changes.Form (RemoveClass class)) later (take_class class full) short
removed_goes class later full short none at =
    let alike : AreCommented full.classes short.classes = commented_before (λ q. is_commented_again q (changes.Form (RemoveClass class) ∷ later)) full.classes short.classes at.classes in (
      take_class class short,
      ap (λ o. accepted o (take_class class short)) (removing_alike full.classes short.classes alike class ∙ none),
      record {
        classes = rows_taken (λ q. is_commented_again q later) class full.classes short.classes at.classes;
        methods = λ c. cell_emptied (is_put_again (name_of c) later) (bytes_eq c.0 class) (full.methods c.0 c.1) (short.methods c.0 c.1) c.2 (at.methods c);
      },
    )

-- ---- methods

-- a method is left out where it is put again
module _ (m : MethodChange) (selector : Name) (so : m.source.selector ≡ Ok selector) (later : List Change) (full short : State) (at : AreBefore (changes.Method m ∷ later) full short) where
  abbrev c : Cell
  c = (m.class_name, m.side, selector)

  put_others : (q : Cell) → q ≢ c → AreCells (is_put_again (name_of q) later) (in_cell q full) (in_cell q short)
  put_others q ne =
      subst (λ b. AreCells (b || is_put_again (name_of q) later) (in_cell q full) (in_cell q short)) (ap (λ r. option_map_or (is_same (name_of q)) (named m r) false) so ∙ told_other q c ne) (at.methods q)

  put_goes : map.contains_key full.classes m.class_name ≡ true → too_many_methods m selector full ≡ None → (b : Bool) → is_put_again (name_of c) later ≡ b → Goes b (changes.Method m) later (with_method m selector full) short
  put_goes known few true on = record {
    classes = at.classes;
    methods = cells_left m.class_name m.side selector (λ q. is_put_again (name_of q) later) full short put_others (record { category = m.category; source = m.source.text }) on;
  }
  put_goes known few false off =
      let alike : AreCommented full.classes short.classes = commented_before (λ q. is_commented_again q later) full.classes short.classes at.classes in
      let fewer : len_with selector (short.methods m.class_name m.side) ≤ 16384 =
      few_short (short.methods m.class_name m.side) (full.methods m.class_name m.side) selector (λ q row is. (at.methods (m.class_name, m.side, q)).there row is)
      (few_enough 16384 ManyMethods (len_with selector (full.methods m.class_name m.side)) few) in (
        with_method m selector short,
        method_accepted m selector short so (known_alike full.classes short.classes alike m.class_name known) fewer,
        record {
          classes = at.classes;
          methods = cells_put m.class_name m.side selector (λ q. is_put_again (name_of q) later) full short put_others (record { category = m.category; source = m.source.text });
        },
      )

  left_so : is_left_out (changes.Method m) later ≡ is_put_again (name_of c) later
  left_so = ap (λ r. option_map_or (λ name. is_put_again name later) (named m r) true) so

  put_step : map.contains_key full.classes m.class_name ≡ true → too_many_methods m selector full ≡ None → Goes (is_left_out (changes.Method m) later) (changes.Method m) later (with_method m selector full) short
  put_step known few = subst (λ b. Goes b (changes.Method m) later (with_method m selector full) short) (sym left_so) (put_goes known few (is_put_again (name_of c) later) refl)

-- so is a category of it
classified_goes : (class : Name) (side : Side) (selector category : Name) (row : MethodRow) (later : List Change) (full short : State) → map.contains_key full.classes class ≡ true → in_cell (class, side, selector) full ≡ Some row
    → AreBefore (changes.Form (Classify class side selector category) ∷ later) full short
    → (b : Bool) → is_put_again (name_of (class, side, selector)) later ≡ b → Goes b (changes.Form (Classify class side selector category)) later (put_method class side selector (record row { category = category }) full) short
classified_goes class side selector category row later full short known there at true on = record {
  classes = at.classes;
  methods = cells_left class side selector (λ q. is_put_again (name_of q) later) full short (λ q ne. at.methods q) (record row { category = category }) on;
}
classified_goes class side selector category row later full short known there at false off =
    let alike : AreCommented full.classes short.classes = commented_before (λ q. is_commented_again q later) full.classes short.classes at.classes in (
      put_method class side selector (record row { category = category }) short,
      classify_accepted class side selector short category row (known_alike full.classes short.classes alike class known) ((at.methods (class, side, selector)).same off ∙ there),
      record {
        classes = at.classes;
        methods = cells_put class side selector (λ q. is_put_again (name_of q) later) full short (λ q ne. at.methods q) (record row { category = category });
      },
    )

-- a method that is taken away isn't put again before that, so both states have it
taken_goes : (class : Name) (side : Side) (selector : Name) (later : List Change) (full short : State) → no_method class side selector full ≡ None → AreBefore (changes.Form (RemoveMethod class side selector) ∷ later) full short
    → Goes false (changes.Form (RemoveMethod class side selector)) later (take_method class side selector full) short
taken_goes class side selector later full short none at =
    let c : Cell = (class, side, selector) in
    let there = method_there class side selector full none in
    let alike : AreCommented full.classes short.classes = commented_before (λ q. is_commented_again q later) full.classes short.classes at.classes in
    let off : not (is_same (name_of c) (name_of c)) && is_put_again (name_of c) later ≡ false = ap (λ b. not b && is_put_again (name_of c) later) (same_itself c) in (
      take_method class side selector short,
      removal_accepted class side selector short (known_alike full.classes short.classes alike class there.known) (ap is_some ((at.methods c).same off) ∙ there.there),
      record {
        classes = at.classes;
        methods = cells_taken class side selector (λ q. is_put_again (name_of q) later) full short
            (λ q ne. subst (λ b. AreCells (not b && is_put_again (name_of q) later) (in_cell q full) (in_cell q short)) (told_other q c ne) (at.methods q));
      },
    )

-- ---- one change

-- where the full state accepts it
abbrev Steps : Change → State → State → Type 0
Steps change full now = accept change full ≡ Ok now → (later : List Change) (short : State) → AreBefore (change ∷ later) full short → Goes (is_left_out change later) change later now short

none_refused : (o : Option Refusal) (made now : State) → accepted o made ≡ Ok now → o ≡ None
none_refused None made now is = refl
none_refused (Some why) made now is = absurd (let bad : Err why ≡ Ok now = is in cc)

steps : Cases Steps
steps = record {
  defined = λ d full none is later short at. defined_goes d later full short none at;
  given_vars = λ class names full none is later short at. given_goes class names later full short none at;
  commented = λ class text full known is later short at. commented_goes class text later full short at known (is_commented_again class later) refl;
  taken = λ class side selector full known is later short at.
      taken_goes class side selector later full short (none_refused (no_method class side selector full) (take_method class side selector full) (take_method class side selector full) is) at;
  classified = λ class side selector category row full known there is later short at.
      classified_goes class side selector category row later full short known there at (is_put_again (name_of (class, side, selector)) later) refl;
  removed = λ class full none is later short at. removed_goes class later full short none at;
  begun = λ full is later short at. (short, refl, record { classes = at.classes; methods = at.methods });
  put = λ m selector full so known few is later short at. put_step m selector so later full short at known few;
  evaluated = λ text full is later short at. record { classes = at.classes; methods = at.methods };
}

pub step : (change : Change) (full now : State) → accept change full ≡ Ok now → (later : List Change) (short : State) → AreBefore (change ∷ later) full short → Goes (is_left_out change later) change later now short
step change full now ok = by_case Steps steps change full now ok ok
