-- The names and texts in the state of a list of lawful changes are brief, and its methods are the kernel's or lawful.
use Rattle.std.proofs.Common.{◌≡◌, ◌⊎◌, inl, inr, ◌∙◌, ◌≤◌, ℕ, Bool, cond, true, false, refl, sym, ap, subst, List, [], ◌∷◌, length, Option, Some, None, Result, Ok, Err, true≢false, arith}
use Rattle.std.specs.List.{All}
use Rattle.std.specs.Str.{bytes_eq}
use Rattle.std.specs.Ordering.{nat_cmp}
use Rattle.std.specs.Cmp.Lexicographic.{slice_cmp}
use Rattle.std.specs.FinMap as map
use Rattle.std.proofs.lemmas.List.Elements.{All-nil, All-head, All-tail}
use Rattle.s80_chunk.specs.Chunks.{IsChunkText, longest}
use Rattle.s80_kernel.specs.Rows.{is_kernel_class}
use Rattle.s80_form.specs.declared.definition.Definition.{Definition}
use Rattle.s80_form.specs.declared.refusal.Refusal.{Refusal}
use Rattle.s80_form.specs.Definition.{IsBriefDefinition}
use Rattle.s80_form.specs.Name.{IsBrief, AreBrief}
use Rattle.s80_change.specs.declared.change.Change.{Change}
use Rattle.s80_change.specs.Block.{IsLawful}
use Rattle.s80_change.specs.Check.{IsCheckOf}
use Rattle.s80_class.specs.Classes.{Name, ClassRow, Classes, change_row, with_class_side_vars, with_comment}
use Rattle.s80_class.proofs.lemmas.Changed.{changed_absent, changed_elsewhere, changed_here}
use Rattle.s80_apply.specs.Kernel.{kernel_classes}
use Rattle.s80_apply.specs.Accept.{accept, define, row_of}
use Rattle.s80_apply.specs.List.{state_after, state_from, state_of, state_or}
use Rattle.s80_apply.specs.State.{MethodRow, State, kernel_state, put_method, take_class, take_method}
use Rattle.s80_fileout.specs.Condensed.{definition_of}
use Rattle.s80_fileout.proofs.Keyed.{by_bytes, by_found, get_put_here, get_put_other, get_taken_here, get_taken_other, no_value, one_value}
use Rattle.s80_fileout.proofs.Cells.{Cell, in_cell, put_elsewhere, put_here, taken_elsewhere, taken_here}
use Rattle.s80_fileout.proofs.KernelCells.{kernel_bare, kernel_category_is, kernel_name_short, kernel_state_classes, there_kernel_class}
use Rattle.s80_fileout.proofs.MethodsPart.{by_cell}
use Rattle.s80_fileout.proofs.Accepting.{Cases, by_case}

-- ---- what lists of lawful changes keep

module _ (P : State → Type 0) (cases : Cases (λ c s t. IsLawful c → P s → P t)) where
  one_lawful : (c : Change) (s : State) → IsLawful c → P s → P (state_after c s)
  one_lawful c s lawful holds = go (accept c s) refl
    where
      go : (r : Result State Refusal) → accept c s ≡ r → P (state_or r s)
      go (Ok now) is = by_case (λ c s t. IsLawful c → P s → P t) cases c s now is lawful holds
      go (Err why) is = holds

  each_lawful : (cs : List Change) (s : State) → All IsLawful cs → P s → P (state_from s cs)
  each_lawful [] s lawful holds = holds
  each_lawful (c ∷ cs) s lawful holds = each_lawful cs (state_after c s) (All-tail IsLawful c cs lawful) (one_lawful c s (All-head IsLawful c cs lawful) holds)

-- ---- what holds of a class, and of a method

-- a class that isn't the kernel's: its definition, and its class-side variables
pub record IsBriefOwn (name : Name) (row : ClassRow) : Type 0 where
  pub superclass : Name
  pub above : row.superclass ≡ Some superclass
  pub definition : IsBriefDefinition (definition_of name row superclass)
  pub class_side_vars : AreBrief row.class_side_vars

pub record IsBriefRow (name : Name) (row : ClassRow) : Type 0 where
  pub named : IsBrief name
  pub comment : IsBrief row.comment
  pub own : is_kernel_class name ≡ false → IsBriefOwn name row

-- its source is that of the kernel's
abbrev pub IsKernels : Cell → MethodRow → Type 0
IsKernels c row = (old : MethodRow) × (in_cell c kernel_state ≡ Some old) × (old.source ≡ row.source)

pub record HasLawfulSource (c : Cell) (row : MethodRow) : Type 0 where
  pub text : IsChunkText row.source
  pub short : length row.source ≤ longest
  pub check : IsCheckOf row.source (Ok c.2)

pub record IsBriefCell (c : Cell) (row : MethodRow) : Type 0 where
  pub category : IsBrief row.category
  pub source : IsKernels c row ⊎ HasLawfulSource c row

pub record AreBriefIn (s : State) : Type 0 where
  pub rows : (name : Name) (row : ClassRow) → map.get s.classes name ≡ Some row → IsBriefRow name row
  pub cells : (c : Cell) (row : MethodRow) → in_cell c s ≡ Some row → IsBriefCell c row

brief_none : IsBrief []
brief_none = omega arith

-- ---- classes

module _ (d : Definition) (s : State) (definition : IsBriefDefinition d) (brief : AreBriefIn s) where
  defined_row : (o : Option ClassRow) → map.get s.classes d.class_name ≡ o → IsBriefRow d.class_name (row_of d o)
  defined_row None is = record {
    named = definition.class_name;
    comment = brief_none;
    own = λ other. record { superclass = d.superclass; above = refl; definition = definition; class_side_vars = All-nil IsBrief };
  }
  defined_row (Some old) is =
      let was = brief.rows d.class_name old is in
      record {
        named = definition.class_name;
        comment = was.comment;
        own = λ other. record { superclass = d.superclass; above = refl; definition = definition; class_side_vars = (was.own other).class_side_vars };
      }

  defined_brief : AreBriefIn (record s { classes = define d s.classes })
  defined_brief = record {
    rows = λ name row is. by_bytes name d.class_name
        (λ same.
        let made : ClassRow = row_of d (map.get s.classes d.class_name) in
        let here : made ≡ row = one_value (map.get (define d s.classes) name) made row (ap (map.get (define d s.classes)) same ∙ get_put_here s.classes d.class_name made) is in
        subst (λ n. IsBriefRow n row) (sym same) (subst (IsBriefRow d.class_name) here (defined_row (map.get s.classes d.class_name) refl)))
        (λ ne. brief.rows name row (sym (get_put_other s.classes d.class_name (row_of d (map.get s.classes d.class_name)) name ne) ∙ is));
    cells = brief.cells;
  }

changed_brief : (change : ClassRow → ClassRow) (class : Name) (s : State) → ((row : ClassRow) → IsBriefRow class row → IsBriefRow class (change row)) → AreBriefIn s → AreBriefIn (record s { classes = change_row change class s.classes })
changed_brief change class s stays brief = record {
  rows = λ name row is. by_bytes name class
      (λ same. by_found (map.get s.classes class)
      (λ none. brief.rows name row (ap (λ (k : Classes). map.get k name) (sym (changed_absent change class s.classes none)) ∙ is))
      (λ old was.
      let here : change old ≡ row = one_value (map.get (change_row change class s.classes) name) (change old) row (ap (map.get (change_row change class s.classes)) same ∙ changed_here change class s.classes old was) is in
      subst (λ n. IsBriefRow n row) (sym same) (subst (IsBriefRow class) here (stays old (brief.rows class old was)))))
      (λ ne. brief.rows name row (sym (changed_elsewhere change class s.classes name ne) ∙ is));
  cells = brief.cells;
}

-- ---- methods

put_brief : (c : Cell) (made : MethodRow) (s : State) → IsBriefCell c made → AreBriefIn s → AreBriefIn (put_method c.0 c.1 c.2 made s)
put_brief c made s here brief = record {
  rows = brief.rows;
  cells = λ q row is. by_cell c q
      (λ same.
      let now : State = put_method c.0 c.1 c.2 made s in
      let both : made ≡ row = one_value (in_cell q now) made row (ap (λ (d : Cell). in_cell d now) same ∙ put_here c.0 c.1 c.2 s made) is in
      subst (λ d. IsBriefCell d row) (sym same) (subst (IsBriefCell c) both here))
      (λ ne. brief.cells q row (sym (put_elsewhere c.0 c.1 c.2 s made q ne) ∙ is));
}

taken_brief : (c : Cell) (s : State) → AreBriefIn s → AreBriefIn (take_method c.0 c.1 c.2 s)
taken_brief c s brief = record {
  rows = brief.rows;
  cells = λ q row is. by_cell c q
      (λ same. let now : State = take_method c.0 c.1 c.2 s in no_value (in_cell q now) row (ap (λ (d : Cell). in_cell d now) same ∙ taken_here c.0 c.1 c.2 s) is)
      (λ ne. brief.cells q row (sym (taken_elsewhere c.0 c.1 c.2 s q ne) ∙ is));
}

removed_brief : (class : Name) (s : State) → AreBriefIn s → AreBriefIn (take_class class s)
removed_brief class s brief = record {
  rows = λ name row is. by_bytes name class
      (λ same. no_value (map.get (map.remove s.classes class) name) row (ap (map.get (map.remove s.classes class)) same ∙ get_taken_here s.classes class) is)
      (λ ne. brief.rows name row (sym (get_taken_other s.classes class name ne) ∙ is));
  cells = λ q row is. left q row (bytes_eq q.0 class) is;
}
  where
    left : (q : Cell) (row : MethodRow) (b : Bool) → map.get (cond b map.empty (s.methods q.0 q.1)) q.2 ≡ Some row → IsBriefCell q row
    left q row true is = absurd (let bad : None ≡ Some row = sym (map.get-empty (slice_cmp nat_cmp) q.2) ∙ is in cc)
    left q row false is = brief.cells q row is

-- ---- lists

kernel_brief : AreBriefIn kernel_state
kernel_brief = record {
  rows = λ name row is.
      let there : map.get kernel_classes name ≡ Some row = ap (λ (k : Classes). map.get k name) (sym kernel_state_classes) ∙ is in
      let short : length name ≤ 100 = kernel_name_short name row there in
      record {
        named = omega (arith, short);
        comment = subst IsBrief (sym (kernel_bare name row there)) brief_none;
        own = λ other. absurd (true≢false (sym (there_kernel_class name row there) ∙ other));
      };
  cells = λ c row is. record { category = subst IsBrief (sym (kernel_category_is c row is)) (omega arith); source = inl (row, is, refl) };
}

cases : Cases (λ c s t. IsLawful c → AreBriefIn s → AreBriefIn t)
cases = record {
  defined = λ d s none lawful brief. defined_brief d s lawful.brief brief;
  given_vars = λ name names s none lawful brief. changed_brief (with_class_side_vars names) name s (λ row was. record {
    named = was.named;
    comment = was.comment;
    own = λ other. record { superclass = (was.own other).superclass; above = (was.own other).above; definition = (was.own other).definition; class_side_vars = lawful.brief.1 };
  }) brief;
  commented = λ name text s known lawful brief. changed_brief (with_comment text) name s (λ row was. record {
    named = was.named;
    comment = lawful.brief.1;
    own = λ other. record { superclass = (was.own other).superclass; above = (was.own other).above; definition = (was.own other).definition; class_side_vars = (was.own other).class_side_vars };
  }) brief;
  taken = λ name side selector s known lawful brief. taken_brief (name, side, selector) s brief;
  classified = λ name side selector category old s known there lawful brief. put_brief (name, side, selector) (record old { category = category }) s
      (record { category = lawful.brief.2; source = under (name, side, selector) old category (brief.cells (name, side, selector) old there).source }) brief;
  removed = λ name s none lawful brief. removed_brief name s brief;
  begun = λ s lawful brief. brief;
  put = λ m selector s so known few lawful brief. put_brief (m.class_name, m.side, selector) (record { category = m.category; source = m.source.text }) s
      (record { category = lawful.head.brief.category; source = inr (record { text = lawful.text; short = lawful.short; check = subst (IsCheckOf m.source.text) so lawful.check }) }) brief;
  evaluated = λ text s lawful brief. brief;
}
  where
    under : (c : Cell) (old : MethodRow) (category : List ℕ) → IsKernels c old ⊎ HasLawfulSource c old → IsKernels c (record old { category = category }) ⊎ HasLawfulSource c (record old { category = category })
    under c old category (inl kernels) = inl kernels
    under c old category (inr lawful) = inr (record { text = lawful.text; short = lawful.short; check = lawful.check })

pub brief_last : (cs : List Change) → All IsLawful cs → AreBriefIn (state_of cs)
brief_last cs lawful = each_lawful AreBriefIn cases cs kernel_state lawful kernel_brief
