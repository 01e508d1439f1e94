-- What the classes and methods of a lawful list have, as its image asks for it.
use Rattle.std.proofs.Common.{◌≡◌, ◌∙◌, ◌<◌, ◌≤◌, ◌+◌, ◌^◌, ◌&&◌, ◌||◌, not, ◌++◌, ℕ, zero, suc, Bool, cond, true, false, true≢false, nat_le, refl, sym, ap, subst, List, [], ◌∷◌, length, Option, Some, None, find, option_map, unwrap_or, arith}
use Rattle.std.specs.List.{All, AllByRecursion, list_all, list_any, sum_by}
use Rattle.std.specs.Str.{bytes_eq}
use Rattle.std.specs.Cmp.Lexicographic.{bytes_decides}
use Rattle.std.specs.FinMap as map
use Rattle.std.proofs.lemmas.Bool.Decides.{nat_tests}
use Rattle.std.proofs.lemmas.List.Elements.{recursion_from_All}
use Rattle.std.proofs.lemmas.List.Sums.{sum_by-cons}
use Rattle.s80_base.specs.declared.names.Side.{Side}
use Rattle.s80_kernel.specs.Rows.{KernelRow, is_kernel_class, kernel_rows}
use Rattle.s80_kernel.specs.Text.{kernel_text}
use Rattle.s80_form.specs.declared.refusal.Refusal.TheVariants.{BadName, Duplicate}
use Rattle.s80_form.specs.Name.{IsBrief, is_class_name, is_name}
use Rattle.s80_change.specs.declared.change.Change.{Change}
use Rattle.s80_change.specs.Block.{IsLawful, blocks}
use Rattle.s80_class.specs.Classes.{Name, ClassRow, Classes, lineage, then_up, upwards, with_comment}
use Rattle.s80_scope.specs.declared.shape.Binding.{Binding}
use Rattle.s80_method.specs.Shape.{bindings_in, bindings_of, shape_of}
use Rattle.s80_apply.specs.Accept.{first_again, first_some}
use Rattle.s80_apply.specs.Kernel.{kernel_classes}
use Rattle.s80_apply.specs.Kernel as kernel
use Rattle.s80_apply.specs.List.{classes_of, state_of}
use Rattle.s80_apply.specs.Source.{StandsAt, text_for}
use Rattle.s80_apply.specs.Placed.{PlacedRow}
use Rattle.s80_fileout.specs.Condensed.{filed}
use Rattle.s80_fileout.specs.Lawful.{IsOwnRow}
use Rattle.s80_image.specs.Classes.{kernel_row}
use Rattle.s80_snapshot.proofs.lemmas.NamedMaps.{no_value, one_value}
use Rattle.s80_snapshot.proofs.FiledClasses.{comment_brief, own_brief}
use Rattle.s80_snapshot.proofs.GoodEntries.{AreGoodBindings, IsGoodClass, IsGoodWord}
use Rattle.s80_snapshot.proofs.LawfulHeadings.{HasHeading, IsFitRow, kernel_got, kernel_named, own_row}
use Rattle.s80_snapshot.proofs.InLists.{all_back, all_both, all_front}
use Rattle.s80_snapshot.proofs.ListBounds.{bounds_of}

-- ---- names that were accepted

none_bad : (ns : List Name) → find (λ (n : Name). not (is_name n)) ns ≡ None → AllByRecursion (λ (n : Name). is_name n ≡ true) ns
none_bad [] is = tt
none_bad (n ∷ ns) is = go (is_name n) refl is (none_bad ns)
  where
    go : (b : Bool) → is_name n ≡ b → cond (not b) (Some n) (find (λ (m : Name). not (is_name m)) ns) ≡ None
        → (find (λ (m : Name). not (is_name m)) ns ≡ None → AllByRecursion (λ (m : Name). is_name m ≡ true) ns)
        → AllByRecursion (λ (m : Name). is_name m ≡ true) (n ∷ ns)
    go true at none rest = (at, rest none)
    go false at bad rest = absurd (let no : Some n ≡ None = bad in cc)

names_good : (ns : List Name) → option_map BadName (find (λ (n : Name). not (is_name n)) ns) ≡ None → AllByRecursion (λ (n : Name). is_name n ≡ true) ns
names_good ns is = go (find (λ (n : Name). not (is_name n)) ns) refl is
  where
    go : (o : Option Name) → find (λ (n : Name). not (is_name n)) ns ≡ o → option_map BadName o ≡ None → AllByRecursion (λ (n : Name). is_name n ≡ true) ns
    go None at _ = none_bad ns at
    go (Some n) at bad = absurd (cc)

abbrev IsLawfulName : Name → Type 0
IsLawfulName n = is_name n ≡ true

words_good : (ns : List Name) → AllByRecursion (λ (n : Name). is_name n ≡ true) ns → AllByRecursion IsBrief ns → AllByRecursion IsGoodWord ns
words_good [] named brief = tt
words_good (n ∷ ns) named brief = (record { named = named.0; brief = brief.0 }, words_good ns named.1 brief.1)

first_none : {T : Type 0} (o : Option T) (os : List (Option T)) → first_some (o ∷ os) ≡ None → (o ≡ None) × (first_some os ≡ None)
first_none None os h = (refl, h)
first_none {T} (Some x) os h = absurd (let bad : ◌≡◌ {A = Option T} (Some x) None = h in cc)

not_again : (o : Option Name) → option_map Duplicate o ≡ None → o ≡ None
not_again None is = refl
not_again (Some n) is = absurd (cc)

-- ---- a class of one's own

module _ (name : Name) (row : ClassRow) (own : IsOwnRow name row) where
  abbrev all_names : List Name
  all_names = row.inst_vars ++ (row.class_vars ++ row.pools)

  name_parts : (is_class_name name ≡ true) × AllByRecursion (λ (n : Name). is_name n ≡ true) all_names
  name_parts = go (is_class_name name) refl own.named
    where
      go : (b : Bool) → is_class_name name ≡ b → cond b (option_map BadName (find (λ (n : Name). not (is_name n)) all_names)) (Some (BadName name)) ≡ None
          → (is_class_name name ≡ true) × AllByRecursion (λ (n : Name). is_name n ≡ true) all_names
      go true is none = (is, names_good all_names none)
      go false is bad = absurd (cc)

  single_parts : (first_again [] row.inst_vars ≡ None) × ((first_again [] row.class_vars ≡ None) × (first_again [] row.pools ≡ None))
  single_parts =
      let all : first_some (first_again [] row.inst_vars ∷ first_again [] row.class_vars ∷ first_again [] row.pools ∷ []) ≡ None =
      not_again (first_some (first_again [] row.inst_vars ∷ first_again [] row.class_vars ∷ first_again [] row.pools ∷ [])) own.single in
      let a = first_none (first_again [] row.inst_vars) (first_again [] row.class_vars ∷ first_again [] row.pools ∷ []) all in
      let b = first_none (first_again [] row.class_vars) (first_again [] row.pools ∷ []) a.1 in
      let c = first_none (first_again [] row.pools) [] b.1 in
      (a.0, (b.0, c.0))

-- ---- how many variables a class has of its own

lineage_begins : (classes : Classes) (name : Name) (row : ClassRow) → map.get classes name ≡ Some row
    → (es : List (Name × ClassRow)) × (lineage classes name ≡ (name, row) ∷ es)
lineage_begins classes name row there = go (map.len classes) refl
  where
    go : (n : ℕ) → map.len classes ≡ n → (es : List (Name × ClassRow)) × (upwards n classes (Some name) ≡ (name, row) ∷ es)
    go zero none = no_value (map.get classes name) row (ap (λ (c : Classes). map.get c name) (map.empty_of_len classes none) ∙ map.get-empty _ name) there
    go (suc n) some = (upwards n classes row.superclass, ap (λ o. then_up name o (λ (r : ClassRow). upwards n classes r.superclass)) there)

own_few : (f : Name × ClassRow → ℕ) (classes : Classes) (name : Name) (row : ClassRow) → map.get classes name ≡ Some row
    → f (name, row) ≤ sum_by f (lineage classes name)
own_few f classes name row there =
    let line = lineage_begins classes name row there in
    omega (arith, ap (sum_by f) line.1, sum_by-cons f (name, row) line.0)

-- ---- which class is one of the kernel's

any_then_found : {X : Type 0} (test : X → Bool) (xs : List X) → list_any test xs ≡ true → (x : X) × (find test xs ≡ Some x)
any_then_found test [] is = absurd (true≢false (sym is))
any_then_found {X} test (y ∷ xs) is = go (test y) is (any_then_found test xs)
  where
    go : (b : Bool) → (b || list_any test xs) ≡ true → (list_any test xs ≡ true → (x : X) × (find test xs ≡ Some x))
        → (x : X) × (cond b (Some y) (find test xs) ≡ Some x)
    go true is rest = (y, refl)
    go false is rest = rest is

pub kernel_found : (name : Name) → is_kernel_class name ≡ true → (k : KernelRow) × (kernel_row name ≡ Some k)
unfolding is_kernel_class kernel_row
kernel_found name is = any_then_found (λ (k : KernelRow). bytes_eq k.name name) kernel_rows is

names_short : list_all (λ (k : KernelRow). nat_le (length k.name) 100) kernel_rows ≡ true
names_short = refl

short_name : (rows : List KernelRow) (name : Name) → list_all (λ (k : KernelRow). nat_le (length k.name) 100) rows ≡ true
    → list_any (λ (k : KernelRow). bytes_eq k.name name) rows ≡ true → length name ≤ 100
short_name [] name all is = absurd (true≢false (sym is))
short_name (k ∷ rows) name all is = go (bytes_eq k.name name) refl is (nat_le (length k.name) 100) refl all (short_name rows name)
  where
    rest_of : (a b : Bool) → (a && b) ≡ true → b ≡ true
    rest_of true b is = is
    rest_of false b is = absurd (true≢false (sym is))

    first_of : (a b : Bool) → (a && b) ≡ true → a ≡ true
    first_of true b is = refl
    first_of false b is = is

    few : nat_le (length k.name) 100 ≡ true → length k.name ≤ 100
    few is = grind (arith, nat_tests)

    go : (b : Bool) → bytes_eq k.name name ≡ b → (b || list_any (λ (k : KernelRow). bytes_eq k.name name) rows) ≡ true → (s : Bool) → nat_le (length k.name) 100 ≡ s
        → (s && list_all (λ (k : KernelRow). nat_le (length k.name) 100) rows) ≡ true
        → (list_all (λ (k : KernelRow). nat_le (length k.name) 100) rows ≡ true → list_any (λ (k : KernelRow). bytes_eq k.name name) rows ≡ true → length name ≤ 100) → length name ≤ 100
    go true here is s short all rest =
        subst (λ (n : Name). length n ≤ 100) ((bytes_decides k.name name).0 here) (few (short ∙ first_of s (list_all (λ (k : KernelRow). nat_le (length k.name) 100) rows) all))
    go false other is s short all rest = rest (rest_of s (list_all (λ (k : KernelRow). nat_le (length k.name) 100) rows) all) is

kernel_brief : (name : Name) → is_kernel_class name ≡ true → IsBrief name
unfolding is_kernel_class
kernel_brief name is = let short : length name ≤ 100 = short_name kernel_rows name names_short is in omega (arith, short)

-- ---- the classes of a list

-- classes of the kernel last, but for their comments
abbrev pub KernelLasts : List Change → Type 0
KernelLasts changes = (name : Name) (row : ClassRow) → map.get kernel_classes name ≡ Some row → (comment : List ℕ) × (map.get (classes_of changes) name ≡ Some (with_comment comment row))

module _ (changes : List Change) (lawful : All IsLawful (filed (state_of changes))) (lasts : KernelLasts changes) where
  abbrev all_classes : Classes
  all_classes = classes_of changes

  module _ (name : Name) (row : ClassRow) (there : map.get all_classes name ≡ Some row) where
    own_fit : is_kernel_class name ≡ false → IsFitRow name row
    own_fit own =
        let has = (bounds_of changes).own name row there own in
        let brief = own_brief (state_of changes) name row there lawful own has.superclass has.above in
        let named = name_parts name row has in
        let single = single_parts name row has in
        let others = all_back IsLawfulName row.inst_vars (row.class_vars ++ row.pools) named.1 in
        let bounds = bounds_of changes in
        record {
          class = record { named = named.0; brief = brief.definition.class_name };
          superclass = subst (λ (o : Option Name). IsBrief (unwrap_or o [])) (sym has.above) brief.definition.superclass;
          inst_vars = words_good row.inst_vars (all_front IsLawfulName row.inst_vars (row.class_vars ++ row.pools) named.1) (recursion_from_All IsBrief row.inst_vars brief.definition.inst_vars);
          class_vars = words_good row.class_vars (all_front IsLawfulName row.class_vars row.pools others) (recursion_from_All IsBrief row.class_vars brief.definition.class_vars);
          pools = words_good row.pools (all_back IsLawfulName row.class_vars row.pools others) (recursion_from_All IsBrief row.pools brief.definition.pools);
          class_side_vars = words_good row.class_side_vars (names_good row.class_side_vars has.side_named) brief.class_side_vars;
          single_inst = single.0;
          single_class = single.1.0;
          single_pools = single.1.1;
          single_side = not_again (first_again [] row.class_side_vars) has.side_single;
          few_inst = omega (arith, bounds.inst_vars name row there, own_few (λ e. length e.1.inst_vars) all_classes name row there);
          few_class = has.class_vars;
          few_pools = has.pools;
          few_side = omega (arith, bounds.class_side_vars name row there, own_few (λ e. length e.1.class_side_vars) all_classes name row there);
          category = brief.definition.category;
          comment = comment_brief (state_of changes) name row there lawful;
        }

    pub kernel_same : is_kernel_class name ≡ true → (k : KernelRow) × (kernel_row name ≡ Some k) × (row ≡ with_comment row.comment (kernel.kernel_row k))
    kernel_same is =
        let k = kernel_found name is in
        let last = lasts name (kernel.kernel_row k.0) (kernel_got name k.0 k.1) in
        let same : row ≡ with_comment last.0 (kernel.kernel_row k.0) = one_value (map.get all_classes name) row (with_comment last.0 (kernel.kernel_row k.0)) there last.1 in
        (k.0, k.1, subst (λ (t : List ℕ). row ≡ with_comment t (kernel.kernel_row k.0)) (sym (ap (λ (r : ClassRow). r.comment) same)) same)

    pub has_heading : HasHeading name row (kernel_row name)
    has_heading = go (is_kernel_class name) refl
      where
        go : (b : Bool) → is_kernel_class name ≡ b → HasHeading name row (kernel_row name)
        go true is = let k = kernel_same is in subst (HasHeading name row) (sym k.1) k.2
        go false is = subst (HasHeading name row) (sym (own_row name is)) (own_fit is)

    pub class_good : IsGoodClass name
    class_good = go (is_kernel_class name) refl
      where
        go : (b : Bool) → is_kernel_class name ≡ b → IsGoodClass name
        go true is = let k = kernel_found name is in record { named = kernel_named name k.0 k.1; brief = kernel_brief name is }
        go false is = (own_fit is).class

    pub row_comment : IsBrief row.comment
    row_comment = comment_brief (state_of changes) name row there lawful

    class_vars_good : AllByRecursion IsGoodWord row.class_vars
    class_vars_good = go (is_kernel_class name) refl
      where
        go : (b : Bool) → is_kernel_class name ≡ b → AllByRecursion IsGoodWord row.class_vars
        go true is = let k = kernel_same is in subst (λ (r : ClassRow). AllByRecursion IsGoodWord r.class_vars) (sym k.2) tt
        go false is = (own_fit is).class_vars

  -- ---- the class variables that a class sees

  bound : (name : Name) (ns : List Name) → IsGoodClass name → AllByRecursion IsGoodWord ns → AreGoodBindings (bindings_of name ns)
  bound name [] good words = tt
  bound name (n ∷ ns) good words = ((good, words.0), bound name ns good words.1)

  upwards_bound : (count : ℕ) (o : Option Name) → AreGoodBindings (bindings_in (upwards count all_classes o))
  upwards_bound zero o = tt
  upwards_bound (suc count) None = tt
  upwards_bound (suc count) (Some name) = go (map.get all_classes name) refl (λ (row : ClassRow). upwards_bound count row.superclass)
    where
      go : (o : Option ClassRow) → map.get all_classes name ≡ o → ((row : ClassRow) → AreGoodBindings (bindings_in (upwards count all_classes row.superclass)))
          → AreGoodBindings (bindings_in (then_up name o (λ (row : ClassRow). upwards count all_classes row.superclass)))
      go None is rest = tt
      go (Some row) is rest =
          all_both (λ (b : Binding). IsGoodClass b.owner × IsGoodWord b.name) (bindings_of name row.class_vars) (bindings_in (upwards count all_classes row.superclass)) (bound name row.class_vars (class_good name row is) (class_vars_good name row is)) (rest row)

  pub shape_bound : (name : Name) (side : Side) → AreGoodBindings (shape_of all_classes name side).class_vars
  shape_bound name side = upwards_bound (map.len all_classes) (Some name)

-- ---- places

kernel_short : length kernel_text ≤ 65536
unfolding kernel_text
kernel_short = omega arith

pub place_small : (changes : List Change) (row : PlacedRow) → length (blocks changes) ≤ 2 ^ 36 → StandsAt (blocks changes) row
    → (row.position < 2 ^ 64) × (row.length < 2 ^ 64)
place_small changes row few stands = go row.from_kernel stands.within
  where
    go : (b : Bool) → row.position + row.length ≤ length (text_for b (blocks changes)) → (row.position < 2 ^ 64) × (row.length < 2 ^ 64)
    go true within = (omega (arith, within, kernel_short), omega (arith, within, kernel_short))
    go false within = (omega (arith, within, few), omega (arith, within, few))
