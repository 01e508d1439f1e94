-- The second part of a condensed list: the classes that aren't the kernel's, each behind its superclass.
use Rattle.std.proofs.Common.{◌≡◌, ◌∙◌, ◌≤◌, ◌<◌, ◌==◌, ◌&&◌, ◌++◌, ℕ, zero, suc, Bool, cond, true, false, not, refl, sym, ap, subst, List, [], ◌∷◌, length, Some, None, true≢false, append-nil, arith}
use Rattle.std.specs.List.{flat_map}
use Rattle.std.specs.FinMap as map
use Rattle.std.proofs.lemmas.Bool.{and_parts}
use Rattle.std.proofs.lemmas.Bool.Decides.{nat_tests}
use Rattle.std.proofs.lemmas.Grind.{flat_map-append}
use Rattle.s80_kernel.specs.Rows.{is_kernel_class}
use Rattle.s80_change.specs.declared.change.Change.{Change}
use Rattle.s80_class.specs.Classes.{Name, ClassRow, Classes, IsLine, IsValid, lineage}
use Rattle.s80_class.proofs.lemmas.Lines.{Entry, lineage_line, line_short}
use Rattle.s80_apply.specs.State.{State}
use Rattle.s80_apply.proofs.Defined.{head_row, line_of, valid_defined}
use Rattle.s80_apply.proofs.LastingKernel.{Stands, has_row, kernel_line}
use Rattle.s80_apply.proofs.LastingWithin.{AreWithin}
use Rattle.s80_fileout.specs.Condensed.{is_own_at, of_own_class, own_part, up_to}
use Rattle.s80_fileout.specs.Lawful.{AreOwn, IsOwnRow}
use Rattle.s80_fileout.proofs.Elements.{IsIn}
use Rattle.s80_fileout.proofs.Keyed.{by_bytes, by_found, entries_apart, entry_got, get_put_here, get_put_other, got_entry, no_value, one_value, same_named}
use Rattle.s80_fileout.proofs.Leading.{AllStepped, Leads, Stepped, leads_keyed, leads_then, leads_weaker}
use Rattle.s80_fileout.proofs.KernelCells.{kernel_class_there, there_kernel_class}
use Rattle.s80_fileout.proofs.OwnClass.{AreAmong, leads_class, over}

equal_told : (n m : ℕ) → (n == m) ≡ true → n ≡ m
equal_told n m h = grind (arith, nat_tests)

equal_so : (n m : ℕ) → n ≡ m → (n == m) ≡ true
equal_so n m h = grind (arith, nat_tests)

less : (m n : ℕ) → m ≤ suc n → (m == suc n) ≡ false → m ≤ n
less m n le differs = grind (arith, nat_tests)

not_true : (b : Bool) → not b ≡ true → b ≡ false
not_true true h = absurd (true≢false (sym h))
not_true false h = refl

-- whether or not a test passes
by_test : {P : Type 0} (b : Bool) → (b ≡ true → P) → (b ≡ false → P) → P
by_test true passes fails = passes refl
by_test false passes fails = fails refl

-- the superclass of a class is there, and has one class less above it
record HasAbove (classes : Classes) (name superclass : Name) : Type 0 where
  row : ClassRow
  there : map.get classes superclass ≡ Some row
  depth : suc (length (lineage classes superclass)) ≡ length (lineage classes name)

above_of : (classes : Classes) (name superclass : Name) (row : ClassRow) → IsValid classes → map.get classes name ≡ Some row → row.superclass ≡ Some superclass → HasAbove classes name superclass
above_of classes name superclass row valid here is = go (lineage classes name) refl (line_of classes name row valid here)
  where
    go : (es : List Entry) → lineage classes name ≡ es → IsLine classes (Some name) es → HasAbove classes name superclass
    go [] same line = absurd line
    go (e ∷ es) same line =
        let rows : e.1 ≡ row = one_value (map.get classes name) e.1 row line.1 here in
        let up : IsLine classes (Some superclass) es = subst (λ p. IsLine classes p es) (ap (λ (r : ClassRow). r.superclass) rows ∙ is) line.2 in
        let known = head_row classes superclass es up in
        record { row = known.0; there = known.1; depth = ap (λ (fs : List Entry). suc (length fs)) (lineage_line classes superclass es up) ∙ ap length (sym same) }

module _ (final start : State) (within : AreWithin final.classes) (few : map.len final.classes ≤ 65536) (own : AreOwn final.classes) (stands : Stands final.classes)
    (begins : (q : Name) → map.get start.classes q ≡ cond (is_kernel_class q) (map.get final.classes q) None) where
  abbrev C : Classes
  C = final.classes

  -- so many classes above
  abbrev depth : Name → ℕ
  depth q = length (lineage C q)

  -- those of the kernel are there, and of the others those with at most so many classes above them; but none with more than so many
  record IsMade (n most : ℕ) (s : State) : Type 0 where
    methods : s.methods ≡ start.methods
    among : AreAmong s.classes C
    valid : IsValid s.classes
    kernel : (q : Name) → is_kernel_class q ≡ true → map.get s.classes q ≡ map.get C q
    others : (q : Name) → is_kernel_class q ≡ false → depth q ≤ n → map.get s.classes q ≡ map.get C q
    later : (q : Name) → is_kernel_class q ≡ false → most < depth q → map.get s.classes q ≡ None

  -- where the state has none, nor do these
  none_among : (s : State) → AreAmong s.classes C → (q : Name) → map.get C q ≡ None → map.get s.classes q ≡ map.get C q
  none_among s among q none = by_found (map.get s.classes q) (λ absent. absent ∙ sym none) (λ row is. no_value (map.get C q) row none (among q row is))

  -- ---- one class

  module _ (n : ℕ) (s : State) (made : IsMade n (suc n) s) (name : Name) (bare : ClassRow) (here : map.get C name ≡ Some bare) (other : is_kernel_class name ≡ false) (here_depth : depth name ≡ suc n)
      (absent : map.get s.classes name ≡ None) where
    abbrev told : IsOwnRow name bare
    told = own name bare here other

    above : HasAbove C name told.superclass
    above = above_of C name told.superclass bare within.valid here told.above

    above_here : map.get s.classes told.superclass ≡ Some above.row
    above_here =
        by_test (is_kernel_class told.superclass) (λ is. made.kernel told.superclass is) (λ is. made.others told.superclass is (omega (arith, above.depth, here_depth))) ∙ above.there

    abbrev row : ClassRow
    row = record bare { superclass = Some told.superclass }

    same_row : row ≡ bare
    same_row = λ i. record bare { superclass = sym told.above i }

    abbrev now : State
    now = record s { classes = map.insert s.classes name bare }

    leads_here : Leads s (of_own_class name bare) (λ t. t ≡ now)
    leads_here =
        subst (λ r. Leads s (of_own_class name r) (λ t. t ≡ record s { classes = map.insert s.classes name r })) same_row
        (leads_class C within few name bare above.row told.superclass s (subst (IsOwnRow name) (sym same_row) told) other (here ∙ ap Some (sym same_row)) absent made.among made.valid above_here)

    valid_now : IsValid now.classes
    valid_now =
        subst (λ r. IsValid (map.insert s.classes name r)) same_row
        (valid_defined s.classes name row made.valid
        (over C within few name bare above.row told.superclass s (subst (IsOwnRow name) (sym same_row) told) other (here ∙ ap Some (sym same_row)) absent made.among made.valid above_here))

    made_now : IsMade n (suc n) now
    made_now = record {
      methods = made.methods;
      among = λ q r is. by_bytes q name
          (λ same. ap (map.get C) same ∙ here ∙ ap Some (one_value (map.get now.classes q) bare r (ap (map.get now.classes) same ∙ get_put_here s.classes name bare) is))
          (λ ne. made.among q r (sym (get_put_other s.classes name bare q ne) ∙ is));
      valid = valid_now;
      kernel = λ q is. get_put_other s.classes name bare q (λ same. true≢false (sym is ∙ ap is_kernel_class same ∙ other)) ∙ made.kernel q is;
      others = λ q is le. by_bytes q name
          (λ same. ap (map.get now.classes) same ∙ get_put_here s.classes name bare ∙ sym here ∙ ap (map.get C) (sym same))
          (λ ne. get_put_other s.classes name bare q ne ∙ made.others q is le);
      later = λ q is more. get_put_other s.classes name bare q (λ same. absurd (deeper (ap depth same) more)) ∙ made.later q is more;
    }
      where
        deeper : {m : ℕ} → m ≡ depth name → suc n < m → ⊥
        deeper is more = absurd (omega (arith, is, more, here_depth))

  -- ---- the classes with so many above them

  abbrev Row : Type 0
  Row = Name × ClassRow

  abbrev changes_at : ℕ → Row → List Change
  changes_at d e = cond (is_own_at C d e.0) (of_own_class e.0 e.1) []

  abbrev SameClass : Name → State → State → Type 0
  SameClass q s t = map.get t.classes q ≡ map.get s.classes q

  abbrev Todo : ℕ → Row → State → Type 0
  Todo d e s = is_own_at C d e.0 ≡ true → map.get s.classes e.0 ≡ None

  abbrev Done : ℕ → Row → State → Type 0
  Done d e s = is_own_at C d e.0 ≡ true → map.get s.classes e.0 ≡ map.get C e.0

  abbrev IsStepped : ℕ → Row → State → State → Type 0
  IsStepped n = Stepped (λ (e : Row). e.0) (changes_at (suc n)) SameClass (λ q s. refl) (λ q r s t first second. second ∙ first) (IsMade n (suc n)) (Todo (suc n)) (Done (suc n))
      (λ e s t same todo is. same ∙ todo is) (λ e s t same done is. same ∙ done is)

  abbrev AreStepped : ℕ → State → State → Type 0
  AreStepped n = AllStepped (λ (e : Row). e.0) (changes_at (suc n)) SameClass (λ q s. refl) (λ q r s t first second. second ∙ first) (IsMade n (suc n)) (Todo (suc n)) (Done (suc n))
      (λ e s t same todo is. same ∙ todo is) (λ e s t same done is. same ∙ done is) (map.entries C)

  one_entry : (n : ℕ) (e : Row) → IsIn e (map.entries C) → (s : State) → IsMade n (suc n) s → Todo (suc n) e s → Leads s (changes_at (suc n) e) (IsStepped n e s)
  one_entry n e at s made todo = go (is_own_at C (suc n) e.0) refl
    where
      go : (b : Bool) → is_own_at C (suc n) e.0 ≡ b → Leads s (cond b (of_own_class e.0 e.1) []) (IsStepped n e s)
      go true is =
          let parts = and_parts (not (is_kernel_class e.0)) (depth e.0 == suc n) is in
          let here = entry_got C e at in
          let other = not_true (is_kernel_class e.0) parts.0 in
          let deep = equal_told (depth e.0) (suc n) parts.1 in
          let next : State = record s { classes = map.insert s.classes e.0 e.1 } in
          leads_weaker (of_own_class e.0 e.1) s (λ t. t ≡ next) (IsStepped n e s) (leads_here n s made e.0 e.1 here other deep (todo is)) (λ t same. subst (IsStepped n e s) (sym same) (record {
            keeps = made_now n s made e.0 e.1 here other deep (todo is);
            done = λ _. get_put_here s.classes e.0 e.1 ∙ sym here;
            others = λ q ne. get_put_other s.classes e.0 e.1 q ne;
          }))
      go false isnt = (tt, record { keeps = made; done = λ is. absurd (true≢false (sym is ∙ isnt)); others = λ q ne. refl })

  abbrev at_depth : ℕ → List Change
  at_depth d = flat_map (changes_at d) (map.entries C)

  one_depth : (n : ℕ) (s : State) → IsMade n n s → Leads s (at_depth (suc n)) (IsMade (suc n) (suc n))
  one_depth n s made =
      leads_weaker (at_depth (suc n)) s (AreStepped n s) (IsMade (suc n) (suc n))
      (leads_keyed (λ (e : Row). e.0) (changes_at (suc n)) SameClass (λ q s. refl) (λ q r s t first second. second ∙ first) (IsMade n (suc n)) (Todo (suc n)) (Done (suc n))
      (λ e s t same todo is. same ∙ todo is) (λ e s t same done is. same ∙ done is)
      (map.entries C) (entries_apart C) (one_entry n) s
      (record { methods = made.methods; among = made.among; valid = made.valid; kernel = made.kernel; others = made.others; later = λ q is more. made.later q is (omega (arith, more)) })
      (λ e at is.
      let parts = and_parts (not (is_kernel_class e.0)) (depth e.0 == suc n) is in
      let deep = equal_told (depth e.0) (suc n) parts.1 in
      made.later e.0 (not_true (is_kernel_class e.0) parts.0) (omega (arith, deep))))
      (λ t all. record {
        methods = all.keeps.methods;
        among = all.keeps.among;
        valid = all.keeps.valid;
        kernel = all.keeps.kernel;
        others = λ q is le. by_test (depth q == suc n)
            (λ deep. by_found (map.get C q) (none_among t all.keeps.among q)
            (λ row here. all.done (q, row) (got_entry C q row here) (λ i. not (is i) && deep i)))
            (λ differs. all.keeps.others q is (less (depth q) n le differs));
        later = all.keeps.later;
      })

  -- ---- all of them

  stands_first : Stands start.classes
  stands_first name row is =
      let there = stands name row is in
      (there.0, begins name ∙ ap (λ b. cond b (map.get C name) None) (there_kernel_class name row is) ∙ there.1)

  first_among : AreAmong start.classes C
  first_among q row is = by_test (is_kernel_class q)
      (λ kernel. sym (begins q ∙ ap (λ b. cond b (map.get C q) None) kernel) ∙ is)
      (λ other. no_value (map.get start.classes q) row (begins q ∙ ap (λ b. cond b (map.get C q) None) other) is)

  first_valid : IsValid start.classes
  first_valid q row is = by_test (is_kernel_class q)
      (λ kernel. let k = kernel_class_there q kernel in kernel_line start.classes stands_first q (has_row q k.0 k.1))
      (λ other. no_value (map.get start.classes q) row (begins q ∙ ap (λ b. cond b (map.get C q) None) other) is)

  made_first : IsMade 0 0 start
  made_first = record {
    methods = refl;
    among = first_among;
    valid = first_valid;
    kernel = λ q is. begins q ∙ ap (λ b. cond b (map.get C q) None) is;
    others = λ q is le. by_found (map.get C q) (none_among start first_among q) (λ row here. absurd (nonempty q (lineage C q) (line_of C q row within.valid here) le));
    later = λ q is more. begins q ∙ ap (λ b. cond b (map.get C q) None) is;
  }
    where
      nonempty : (q : Name) (es : List Entry) → IsLine C (Some q) es → length es ≤ 0 → ⊥
      nonempty q [] line le = absurd line
      nonempty q (e ∷ es) line le = absurd (omega (arith, le))

  so_deep : (n : ℕ) → Leads start (flat_map at_depth (up_to n)) (IsMade n n)
  so_deep zero = (tt, made_first)
  so_deep (suc n) =
      subst (λ cs. Leads start cs (IsMade (suc n) (suc n))) (sym (flat_map-append at_depth (up_to n) (suc n ∷ []) ∙ ap (λ cs. flat_map at_depth (up_to n) ++ cs) (append-nil (at_depth (suc n)))))
      (leads_then (flat_map at_depth (up_to n)) (at_depth (suc n)) start (IsMade n n) (IsMade (suc n) (suc n)) (so_deep n) (λ s made. one_depth n s made))

  pub record AllMade (t : State) : Type 0 where
    pub classes : t.classes ≡ C
    pub methods : t.methods ≡ start.methods

  pub leads_own_part : Leads start (own_part final) AllMade
  leads_own_part =
      leads_weaker (own_part final) start (IsMade (map.len C) (map.len C)) AllMade (so_deep (map.len C)) (λ t made. record {
        classes = same_named t.classes C (λ q. by_test (is_kernel_class q) (made.kernel q) (λ other. by_found (map.get C q)
            (none_among t made.among q)
            (λ row here. made.others q other (line_short (lineage C q) C (Some q) (line_of C q row within.valid here)))));
        methods = made.methods;
      })
