-- The heading of a class of a list is lawful in an image.
use Rattle.std.proofs.Common.{◌≡◌, ◌∙◌, ◌≤◌, ◌&&◌, ◌||◌, not, ◌++◌, ℕ, Bool, cond, true, false, true≢false, nat_le, refl, sym, ap, subst, List, [], ◌∷◌, length, Option, Some, None, codes, find, map as list_map, option_map, unwrap_or, arith}
use Rattle.std.specs.List.{AllByRecursion, list_all, list_any}
use Rattle.std.specs.Str.{bytes_eq}
use Rattle.std.specs.Cmp.Lexicographic.{bytes_decides, nat_list_cmp_total, texts_ties}
use Rattle.std.specs.Ordering.{eq_by_cmp}
use Rattle.std.specs.FinMap as map
use Rattle.std.specs.FinMap.Entries.{find as find_key}
use Rattle.std.proofs.lemmas.Bool.{and_parts}
use Rattle.s80_kernel.specs.Rows.{KernelRow, is_kernel_class, kernel_rows}
use Rattle.s80_form.specs.declared.definition.Kind.{Kind}
use Rattle.s80_form.specs.declared.definition.Kind.TheVariants.{Plain, Pointers, Bytes, Words}
use Rattle.s80_form.specs.Definition.{split_names}
use Rattle.s80_form.specs.Name.{IsBrief, is_class_name, is_name}
use Rattle.s80_syntax.specs.Word.{is_reserved}
use Rattle.s80_class.specs.Classes.{Name, ClassRow, with_comment}
use Rattle.s80_apply.specs.Accept.{first_again}
use Rattle.s80_apply.specs.Kernel.{kernel_classes, superclass_of, kind_of as kernel_kind}
use Rattle.s80_apply.specs.Kernel as kernel
use Rattle.s80_image.specs.Classes.{category_text, heading, kernel_row, kind, may_stand, names, superclass_text, variables}
use Rattle.s80_image.specs.Format.{Format, pair, text, text_where}
use Rattle.s80_image.specs.Parts.{is_above}
use Rattle.s80_image.specs.declared.image.ClassVariables.{ClassVariables}
use Rattle.s80_snapshot.specs.Pictured.{heading_view}
use Rattle.s80_snapshot.proofs.lemmas.NamedMaps.{Text, by_text}
use Rattle.s80_snapshot.proofs.GoodEntries.{IsGoodClass, IsGoodWord}
use Rattle.s80_snapshot.proofs.PassingFormats.{AllPass, Passes, both_true, list_passes, pair_passes, text_passes, text_where_passes, within}

-- ---- lists of names

again_none : (b : Bool) (word : Name) (rest : Option Name) → cond b (Some word) rest ≡ None → (b ≡ false) × (rest ≡ None)
again_none true word rest is = absurd (let bad : Some word ≡ None = is in cc)
again_none false word rest is = (refl, is)

names_pass : (before ns : List Name) → AllByRecursion IsGoodWord ns → first_again before ns ≡ None → AllPass (λ b. text_where (may_stand None b)) before ns
names_pass before [] good none = tt
names_pass before (n ∷ ns) good none =
    let parts = again_none (list_any (bytes_eq n) before) n (first_again (before ++ n ∷ []) ns) none in (
      text_where_passes (may_stand None before) n good.0.brief
          (both_true (is_name n && not (list_any (bytes_eq n) before)) true (both_true (is_name n) (not (list_any (bytes_eq n) before)) good.0.named (ap not parts.0)) refl),
      names_pass (before ++ n ∷ []) ns good.1 parts.1,
    )

names_none : (most : ℕ) (ns : List Name) → most ≤ 65536 → length ns ≤ most → AllByRecursion IsGoodWord ns → first_again [] ns ≡ None → Passes (names most None) ns
unfolding names
names_none most ns low few good none =
    list_passes (λ n. nat_le n most && true) (λ b. text_where (may_stand None b)) ns (omega (arith, few, low)) (both_true (nat_le (length ns) most) true (within (length ns) most few) refl) (names_pass [] ns good none)

-- ---- a class of one's own

pub record IsFitRow (name : Name) (row : ClassRow) : Type 0 where
  pub class : IsGoodClass name
  pub superclass : IsBrief (unwrap_or row.superclass [])
  pub inst_vars : AllByRecursion IsGoodWord row.inst_vars
  pub class_vars : AllByRecursion IsGoodWord row.class_vars
  pub pools : AllByRecursion IsGoodWord row.pools
  pub class_side_vars : AllByRecursion IsGoodWord row.class_side_vars
  pub single_inst : first_again [] row.inst_vars ≡ None
  pub single_class : first_again [] row.class_vars ≡ None
  pub single_pools : first_again [] row.pools ≡ None
  pub single_side : first_again [] row.class_side_vars ≡ None
  pub few_inst : length row.inst_vars ≤ 64
  pub few_class : length row.class_vars ≤ 256
  pub few_pools : length row.pools ≤ 256
  pub few_side : length row.class_side_vars ≤ 64
  pub category : IsBrief row.category
  pub comment : IsBrief row.comment

kind_none : (k : Kind) → Passes (kind None) k
unfolding kind
kind_none Plain bytes = refl
kind_none Pointers bytes = refl
kind_none Bytes bytes = refl
kind_none Words bytes = refl

abbrev variables_in : ClassRow → ClassVariables
variables_in row = record { instance = row.inst_vars; class = row.class_vars; pools = row.pools; class_side = row.class_side_vars }

variables_none : (name : Name) (row : ClassRow) → IsFitRow name row → Passes (variables None) (variables_in row)
unfolding variables
variables_none name row fit =
    pair_passes (names 64 None) (λ _. pair (names 256 None) (λ _. pair (names 256 None) (λ _. names 64 None))) (row.inst_vars, (row.class_vars, (row.pools, row.class_side_vars)))
    (names_none 64 row.inst_vars (omega arith) fit.few_inst fit.inst_vars fit.single_inst)
    (pair_passes (names 256 None) (λ _. pair (names 256 None) (λ _. names 64 None)) (row.class_vars, (row.pools, row.class_side_vars)) (names_none 256 row.class_vars (omega arith) fit.few_class fit.class_vars fit.single_class)
    (pair_passes (names 256 None) (λ _. names 64 None) (row.pools, row.class_side_vars) (names_none 256 row.pools (omega arith) fit.few_pools fit.pools fit.single_pools)
    (names_none 64 row.class_side_vars (omega arith) fit.few_side fit.class_side_vars fit.single_side)))

-- the fields behind the name
abbrev rest_fields : Option KernelRow → Format (Name × (Kind × (ClassVariables × (List ℕ × List ℕ))))
rest_fields o = pair (superclass_text o) (λ _. pair (kind o) (λ _. pair (variables o) (λ _. pair (category_text o) (λ _. text))))

abbrev rest_of : ClassRow → Name × (Kind × (ClassVariables × (List ℕ × List ℕ)))
rest_of row = (unwrap_or row.superclass [], (row.kind, (variables_in row, (row.category, row.comment))))

-- each field passes
abbrev rest_passes : (o : Option KernelRow) (row : ClassRow) → Passes (superclass_text o) (unwrap_or row.superclass []) → Passes (kind o) row.kind
    → Passes (variables o) (variables_in row) → Passes (category_text o) row.category → IsBrief row.comment
    → Passes (rest_fields o) (rest_of row)
rest_passes o row superclass kind_in variables_pass category comment =
    pair_passes (superclass_text o) (λ _. pair (kind o) (λ _. pair (variables o) (λ _. pair (category_text o) (λ _. text)))) (rest_of row) superclass
    (pair_passes (kind o) (λ _. pair (variables o) (λ _. pair (category_text o) (λ _. text))) (row.kind, (variables_in row, (row.category, row.comment))) kind_in
    (pair_passes (variables o) (λ _. pair (category_text o) (λ _. text)) (variables_in row, (row.category, row.comment)) variables_pass
    (pair_passes (category_text o) (λ _. text) (row.category, row.comment) category (text_passes row.comment comment))))

own_rest : (name : Name) (row : ClassRow) → IsFitRow name row → Passes (rest_fields None) (rest_of row)
own_rest name row fit =
    rest_passes None row (text_where_passes (λ n. true) (unwrap_or row.superclass []) fit.superclass refl) (kind_none row.kind) (variables_none name row fit) (text_where_passes (λ c. true) row.category fit.category refl) fit.comment

-- ---- a class of the kernel

-- its fields but for the comment pass
abbrev kernel_test : KernelRow → Bool
kernel_test k =
    (superclass_text (Some k)).lawful (unwrap_or (superclass_of k.superclass) [])
    && ((kind (Some k)).lawful (kernel_kind k.kind)
    && ((variables (Some k)).lawful (record { instance = split_names k.inst_vars; class = []; pools = []; class_side = [] })
    && ((category_text (Some k)).lawful (codes "Kernel") && is_class_name k.name)))

kernel_passes : list_all kernel_test kernel_rows ≡ true
unfolding kind variables names is_reserved
kernel_passes = refl

-- how a row is found by a name
abbrev is_of : Name → KernelRow → Bool
is_of name k = bytes_eq k.name name

found_passes : (name : Name) (rows : List KernelRow) → list_all kernel_test rows ≡ true → (k : KernelRow) → find (is_of name) rows ≡ Some k
    → (kernel_test k ≡ true) × (k.name ≡ name)
found_passes name [] all k is = absurd (let bad : None ≡ Some k = is in cc)
found_passes name (r ∷ rows) all k is =
    let parts = and_parts (kernel_test r) (list_all kernel_test rows) all in
    go (is_of name r) refl is parts.0 (found_passes name rows parts.1 k)
  where
    go : (b : Bool) → is_of name r ≡ b → cond b (Some r) (find (is_of name) rows) ≡ Some k → kernel_test r ≡ true
        → (find (is_of name) rows ≡ Some k → (kernel_test k ≡ true) × (k.name ≡ name)) → (kernel_test k ≡ true) × (k.name ≡ name)
    go true at here passes more =
        let same : r ≡ k = (let both : Some r ≡ Some k = here in cc) in
        (subst (λ (x : KernelRow). kernel_test x ≡ true) same passes, subst (λ (x : KernelRow). x.name ≡ name) same ((bytes_decides r.name name).0 at))
    go false at rest passes more = more rest

kernel_rest : (k : KernelRow) (comment : List ℕ) → kernel_test k ≡ true → IsBrief comment
    → Passes (rest_fields (Some k)) (rest_of (with_comment comment (kernel.kernel_row k)))
kernel_rest k comment passes brief =
    let row : ClassRow = with_comment comment (kernel.kernel_row k) in
    let a = and_parts ((superclass_text (Some k)).lawful (unwrap_or (superclass_of k.superclass) [])) _ passes in
    let b = and_parts ((kind (Some k)).lawful (kernel_kind k.kind)) _ a.1 in
    let c = and_parts ((variables (Some k)).lawful (record { instance = split_names k.inst_vars; class = []; pools = []; class_side = [] })) _ b.1 in
    let d = and_parts ((category_text (Some k)).lawful (codes "Kernel")) _ c.1 in
    rest_passes (Some k) row (λ _. a.0) (λ _. b.0) (λ _. c.0) (λ _. d.0) brief

-- ---- which classes are the kernel's

none_found : {X : Type 0} (test : X → Bool) (xs : List X) → list_any test xs ≡ false → find test xs ≡ None
none_found test [] is = refl
none_found test (x ∷ xs) is = go (test x) is (none_found test xs)
  where
    go : (b : Bool) → (b || list_any test xs) ≡ false → (list_any test xs ≡ false → find test xs ≡ None) → cond b (Some x) (find test xs) ≡ None
    go true bad rest = absurd (true≢false bad)
    go false none rest = rest none

any_found : {X : Type 0} (test : X → Bool) (xs : List X) (x : X) → find test xs ≡ Some x → list_any test xs ≡ true
any_found test [] x is = absurd (let bad : None ≡ Some x = is in cc)
any_found test (y ∷ xs) x is = go (test y) is (any_found test xs x)
  where
    go : (b : Bool) → cond b (Some y) (find test xs) ≡ Some x → (find test xs ≡ Some x → list_any test xs ≡ true) → (b || list_any test xs) ≡ true
    go true here rest = refl
    go false more rest = rest more

pub own_row : (name : Name) → is_kernel_class name ≡ false → kernel_row name ≡ None
unfolding is_kernel_class kernel_row
own_row name own = none_found (is_of name) kernel_rows own

pub kernels_row : (name : Name) (k : KernelRow) → kernel_row name ≡ Some k → is_kernel_class name ≡ true
unfolding is_kernel_class kernel_row
kernels_row name k is = any_found (is_of name) kernel_rows k is

found_is : (name : Name) (k : KernelRow) → kernel_row name ≡ Some k → (kernel_test k ≡ true) × (k.name ≡ name)
unfolding kernel_row
found_is name k is = found_passes name kernel_rows kernel_passes k is

-- what the kernel's classes have by this name
turned : (a b : Name) → bytes_eq a b ≡ eq_by_cmp by_text b a
turned a b = both (bytes_eq a b) refl (eq_by_cmp by_text b a) refl
  where
    both : (x : Bool) → bytes_eq a b ≡ x → (y : Bool) → eq_by_cmp by_text b a ≡ y → x ≡ y
    both true is true at = refl
    both false is false at = refl
    both true is false at = absurd (true≢false (sym ((bytes_decides b a).1 (sym ((bytes_decides a b).0 is))) ∙ texts_ties b a ∙ at))
    both false is true at = absurd (true≢false (sym ((bytes_decides a b).1 (sym ((bytes_decides b a).0 (texts_ties b a ∙ at)))) ∙ is))

found_key : (name : Name) (rows : List KernelRow)
    → find_key by_text name (list_map (λ (row : KernelRow). (row.name, kernel.kernel_row row)) rows) ≡ option_map kernel.kernel_row (find (is_of name) rows)
found_key name [] = refl
found_key name (r ∷ rows) = ap (λ b. cond b (Some (kernel.kernel_row r)) (find_key by_text name (list_map (λ (row : KernelRow). (row.name, kernel.kernel_row row)) rows))) (sym (turned r.name name)) ∙ go (is_of name r) (found_key name rows)
  where
    go : (b : Bool)
        → find_key by_text name (list_map (λ (row : KernelRow). (row.name, kernel.kernel_row row)) rows) ≡ option_map kernel.kernel_row (find (is_of name) rows)
        → cond b (Some (kernel.kernel_row r)) (find_key by_text name (list_map (λ (row : KernelRow). (row.name, kernel.kernel_row row)) rows)) ≡ option_map kernel.kernel_row (cond b (Some r) (find (is_of name) rows))
    go true rest = refl
    go false rest = rest

pub kernel_got : (name : Name) (k : KernelRow) → kernel_row name ≡ Some k → map.get kernel_classes name ≡ Some (kernel.kernel_row k)
unfolding kernel_row kernel_classes
kernel_got name k is = map.get-from_entries nat_list_cmp_total (list_map (λ (row : KernelRow). (row.name, kernel.kernel_row row)) kernel_rows) name ∙ found_key name kernel_rows ∙ ap (option_map kernel.kernel_row) is

pub kernel_named : (name : Name) (k : KernelRow) → kernel_row name ≡ Some k → is_class_name name ≡ true
kernel_named name k is =
    let found = found_is name k is in
    let a = and_parts ((superclass_text (Some k)).lawful (unwrap_or (superclass_of k.superclass) [])) _ found.0 in
    let b = and_parts ((kind (Some k)).lawful (kernel_kind k.kind)) _ a.1 in
    let c = and_parts ((variables (Some k)).lawful (record { instance = split_names k.inst_vars; class = []; pools = []; class_side = [] })) _ b.1 in
    let d = and_parts ((category_text (Some k)).lawful (codes "Kernel")) _ c.1 in
    subst (λ n. is_class_name n ≡ true) found.1 d.1

-- ---- headings

-- a class: one of the kernel's with some comment, or one of one's own
abbrev pub HasHeading : Name → ClassRow → Option KernelRow → Type 0
HasHeading name row None = IsFitRow name row
HasHeading name row (Some k) = row ≡ with_comment row.comment (kernel.kernel_row k)

rest_by : (name : Name) (row : ClassRow) (o : Option KernelRow) → kernel_row name ≡ o → HasHeading name row o → IsBrief row.comment
    → Passes (rest_fields o) (rest_of row)
rest_by name row None is has brief = own_rest name row has
rest_by name row (Some k) is has brief = subst (λ (r : ClassRow). Passes (rest_fields (Some k)) (rest_of r)) (sym has) (kernel_rest k row.comment (found_is name k is).0 brief)

pub heading_passes : (last : Option Text) (name : Name) (row : ClassRow) → IsGoodClass name → IsBrief row.comment → HasHeading name row (kernel_row name)
    → is_above last name ≡ true → Passes (heading last) (heading_view name row)
unfolding heading
heading_passes last name row good brief has above =
    pair_passes (text_where (λ n. is_class_name n && is_above last n)) (λ n. rest_fields (kernel_row n)) (name, rest_of row)
    (text_where_passes (λ n. is_class_name n && is_above last n) name good.brief (both_true (is_class_name name) (is_above last name) good.named above))
    (rest_by name row (kernel_row name) refl has brief)
