-- The classes of a lawful image are such as definitions, comments and class-side variables could have made.
use Rattle.std.proofs.Common.{◌≡◌, ◌∙◌, ◌≤◌, ◌++◌, ◌&&◌, ◌||◌, not, ℕ, Bool, cond, true, false, refl, sym, ap, subst, List, [], ◌∷◌, Option, Some, None, length, map as list_map, option_map, codes, find, true≢false}
use Rattle.std.specs.FinMap as map
use Rattle.std.specs.FinMap.Entries.{find as find_entry}
use Rattle.std.specs.List.{list_any}
use Rattle.std.specs.Str.{bytes_eq}
use Rattle.std.specs.Ordering.{eq_by_cmp}
use Rattle.std.specs.Cmp.Lexicographic.{nat_list_cmp_total, texts_ties}
use Rattle.s80_kernel.specs.Rows.{KernelRow, is_kernel_class, kernel_rows}
use Rattle.s80_form.specs.Name.{is_class_name, is_name}
use Rattle.s80_form.specs.Definition.{split_names}
use Rattle.s80_form.specs.declared.refusal.Refusal.TheVariants.{BadName, Duplicate}
use Rattle.s80_syntax.specs.Word.{has_name}
use Rattle.s80_class.specs.Classes.{Name, ClassRow, Classes, with_comment}
use Rattle.s80_apply.specs.Accept.{bad_name, duplicate, first_again, first_some}
use Rattle.s80_apply.specs.Kernel.{kernel_classes, kernel_row as row_in_kernel, superclass_of as above_in_kernel}
use Rattle.s80_fileout.specs.Condensed.{definition_of}
use Rattle.s80_fileout.specs.Lawful.{AreLawfulClasses, IsOwnRow}
use Rattle.s80_image.specs.Classes.{kernel_row}
use Rattle.s80_image.specs.Definable.{AreInOrder, IsDefinable, are_new, row_of_kernel}
use Rattle.s80_image.specs.Together.{superclass_of}
use Rattle.s80_snapshot.proofs.ImageMaps.{by_bytes, by_found, no_value, one_value, order, other_bytes}

-- ---- names

both_of : (a b : Bool) → (a && b) ≡ true → (a ≡ true) × (b ≡ true)
both_of true b e = (refl, e)
both_of false b e = absurd (true≢false (sym e))

is_not : (b : Bool) → not b ≡ true → b ≡ false
is_not true e = absurd (true≢false (sym e))
is_not false e = refl

abbrev bad : List Name → Option Name
bad names = find (λ name. not (is_name name)) names

none_bad : (before names more : List Name) → are_new before names ≡ true → bad (names ++ more) ≡ bad more
none_bad before [] more new = refl
none_bad before (n ∷ names) more new =
    let h = both_of (is_name n && not (list_any (bytes_eq n) before)) (are_new (before ++ n ∷ []) names) new in
    let named = both_of (is_name n) (not (list_any (bytes_eq n) before)) h.0 in
    ap (λ b. cond (not b) (Some n) (bad (names ++ more))) named.0 ∙ none_bad (before ++ n ∷ []) names more h.1

none_bad_alone : (names : List Name) → are_new [] names ≡ true → bad names ≡ None
none_bad_alone names new = ap bad (sym (append_nothing names)) ∙ none_bad [] names [] new
  where
    append_nothing : (xs : List Name) → xs ++ [] ≡ xs
    append_nothing [] = refl
    append_nothing (x ∷ xs) = ap (λ l. x ∷ l) (append_nothing xs)

none_again : (before names : List Name) → are_new before names ≡ true → first_again before names ≡ None
none_again before [] new = refl
none_again before (n ∷ names) new =
    let h = both_of (is_name n && not (list_any (bytes_eq n) before)) (are_new (before ++ n ∷ []) names) new in
    let named = both_of (is_name n) (not (list_any (bytes_eq n) before)) h.0 in
    ap (λ b. cond b (Some n) (first_again (before ++ n ∷ []) names)) (is_not (has_name before n) named.1) ∙ none_again (before ++ n ∷ []) names h.1

-- ---- classes of one's own

not_found : (rows : List KernelRow) (name : Name) → list_any (λ row. bytes_eq row.name name) rows ≡ false → find (λ (row : KernelRow). bytes_eq row.name name) rows ≡ None
not_found [] name none = refl
not_found (r ∷ rows) name none = go (bytes_eq r.name name) none (not_found rows name)
  where
    go : (b : Bool) → (b || list_any (λ row. bytes_eq row.name name) rows) ≡ false → (list_any (λ row. bytes_eq row.name name) rows ≡ false → find (λ (row : KernelRow). bytes_eq row.name name) rows ≡ None)
        → cond b (Some r) (find (λ (row : KernelRow). bytes_eq row.name name) rows) ≡ None
    go true e more = absurd (true≢false e)
    go false e more = more e

not_kernels : (name : Name) → is_kernel_class name ≡ false → kernel_row name ≡ None
unfolding is_kernel_class kernel_row
not_kernels name own = not_found kernel_rows name own

own_row : (name : Name) (row : ClassRow) → IsDefinable name row → IsOwnRow name row
own_row name row is = record {
  superclass = is.superclass;
  above = is.above;
  named = ap (λ b. cond b (option_map BadName (bad (row.inst_vars ++ (row.class_vars ++ row.pools)))) (Some (BadName name))) is.named
      ∙ ap (option_map BadName) (none_bad [] row.inst_vars (row.class_vars ++ row.pools) is.inst_vars ∙ none_bad [] row.class_vars row.pools is.class_vars ∙ none_bad_alone row.pools is.pools);
  single = (λ i. option_map Duplicate (first_some (none_again [] row.inst_vars is.inst_vars i ∷ none_again [] row.class_vars is.class_vars i ∷ none_again [] row.pools is.pools i ∷ [])));
  class_vars = is.few_class_vars;
  pools = is.few_pools;
  side_named = ap (option_map BadName) (none_bad_alone row.class_side_vars is.class_side_vars);
  side_single = ap (option_map Duplicate) (none_again [] row.class_side_vars is.class_side_vars);
}

-- ---- the kernel's classes

turned : (a b : Name) → bytes_eq a b ≡ bytes_eq b a
turned a b = by_bytes a b (λ same. ap (bytes_eq a) (sym same) ∙ ap (λ z. bytes_eq z a) same) (λ ne. other_bytes a b ne ∙ sym (other_bytes b a (λ e. ne (sym e))))

found_row : (rows : List KernelRow) (name : Name) → find_entry order name (list_map (λ row. (row.name, row_in_kernel row)) rows) ≡ option_map row_in_kernel (find (λ (row : KernelRow). bytes_eq row.name name) rows)
found_row [] name = refl
found_row (r ∷ rows) name =
    ap (λ b. cond b (Some (row_in_kernel r)) (find_entry order name (list_map (λ row. (row.name, row_in_kernel row)) rows))) (sym (texts_ties name r.name) ∙ turned name r.name)
    ∙ go (bytes_eq r.name name) (found_row rows name)
  where
    go : (b : Bool) → find_entry order name (list_map (λ row. (row.name, row_in_kernel row)) rows) ≡ option_map row_in_kernel (find (λ (row : KernelRow). bytes_eq row.name name) rows)
        → cond b (Some (row_in_kernel r)) (find_entry order name (list_map (λ row. (row.name, row_in_kernel row)) rows)) ≡ option_map row_in_kernel (cond b (Some r) (find (λ (row : KernelRow). bytes_eq row.name name) rows))
    go true same = refl
    go false same = same

kernel_got : (name : Name) → map.get kernel_classes name ≡ option_map row_in_kernel (kernel_row name)
unfolding kernel_classes kernel_row
kernel_got name = map.get-from_entries nat_list_cmp_total (list_map (λ row. (row.name, row_in_kernel row)) kernel_rows) name ∙ found_row kernel_rows name

same_above : (name : Name) → above_in_kernel name ≡ superclass_of name
same_above [] = refl
same_above (b ∷ bytes) = refl

same_row : (k : KernelRow) → row_of_kernel k ≡ row_in_kernel k
same_row k = λ i. record {
  superclass = sym (same_above k.superclass) i;
  kind = (row_in_kernel k).kind;
  inst_vars = split_names k.inst_vars;
  class_vars = [];
  pools = [];
  category = codes "Kernel";
  comment = [];
  class_side_vars = [];
}

pub lawful_classes : (classes : Classes) → AreInOrder classes → AreLawfulClasses classes
lawful_classes classes is = record {
  count = is.count;
  valid = is.valid;
  inst_vars = is.inst_vars;
  class_side_vars = is.class_side_vars;
  bits_variables = is.bits_variables;
  own = λ name row there own. own_row name row (is.own name row there (not_kernels name own));
  kernel = λ name row there. by_found (kernel_row name)
      (λ none. no_value (map.get kernel_classes name) row (kernel_got name ∙ ap (option_map row_in_kernel) none) there)
      (λ k found.
      let commented = is.kernel name k found in
      let same : row_of_kernel k ≡ row = same_row k ∙ one_value (map.get kernel_classes name) (row_in_kernel k) row (kernel_got name ∙ ap (option_map row_in_kernel) found) there in
      (commented.0, commented.1 ∙ ap (λ r. Some (with_comment commented.0 r)) same));
}
