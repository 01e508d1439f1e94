-- The classes of a lawful image by their names.
use Rattle.std.proofs.Common.{◌≡◌, ◌≤◌, ◌<◌, ◌∙◌, ℕ, zero, suc, ◌+◌, ◌^◌, Bool, true, false, cond, leb, ltb, List, [], ◌∷◌, ◌++◌, length, get_or, drop, Option, Some, None, refl, sym, ap, ap₂, subst, arith}
use Rattle.std.specs.Prelude.{codes, find, slice_get, not, ◌&&◌, ◌||◌, ◌==◌}
use Rattle.std.specs.List.{list_any}
use Rattle.std.specs.Option.{option_map_or}
use Rattle.std.specs.Str.{bytes_eq}
use Rattle.std.specs.Cmp.Lexicographic.{bytes_decides}
use Rattle.std.specs.FinMap as map
use Rattle.std.proofs.lemmas.Bool.{eqb-true, leb-true}
use Rattle.std.proofs.lemmas.List.{drop_all, drop_more, length-append}
use Rattle.std.proofs.lemmas.Option.{slice_get-get_or}
use Rattle.s80_form.specs.declared.definition.Kind.{Kind}
use Rattle.s80_form.specs.declared.definition.Kind.TheVariants.{Plain, Pointers, Bytes, Words}
use Rattle.s80_form.specs.Definition.{split_names}
use Rattle.s80_form.specs.Name.{is_name}
use Rattle.s80_kernel.specs.Rows.{KernelRow, kernel_rows}
use Rattle.s80_class.specs.Classes.{ClassRow, Classes, IsLine, IsValid, inherited_of, with_comment}
use Rattle.s80_class.proofs.lemmas.Most.{some_row}
use Rattle.s80_image.specs.declared.image.ClassHeading.{ClassHeading}
use Rattle.s80_image.specs.Format.{are_lawful, text, text_where}
use Rattle.s80_image.specs.Parts.{Name}
use Rattle.s80_image.specs.Classes.{ClassView, as_in, as_many, classes, inst_vars_given, kernel_row, kind_number, kind_of, may_stand, names, none_given}
use Rattle.s80_image.specs.Definable.{AreInOrder, IsDefinable, are_new, row_of_kernel}
use Rattle.s80_image.specs.Image.{ImageView}
use Rattle.s80_image.specs.Together.{IsLawfulImage, Spot, classes_by_name, classes_place, ends_within, first_class_place, first_wrong, has_many_class_side_variables, has_many_variables, lacks_kernel_class, missing, or_else, row_of, superclass_of, wrong_chain, wrong_superclass, wrong_together, wrong_total}
use Rattle.s80_image.proofs.Laws.{both, of_both}
use Rattle.s80_image.proofs.ByName.{HasLawfulHeading, class_of_row, counted, few, lawful_at}
use Rattle.s80_image.proofs.FirstWrong.{passes}
use Rattle.s80_image.proofs.LawfulImages.{lawful_classes}
use Rattle.s80_image.proofs.Wrongs.{ended, had, object_is, object_row, some_name, superclass_there, told_by, total_fine}

-- ---- chains

-- one that ends is a line
ends_line : (n : ℕ) (by : Classes) (o : Option Name) → ends_within n by o ≡ true → (es : List (Name × ClassRow)) × IsLine by o es
ends_line n by None e = ([], tt)
ends_line zero by (Some name) e = absurd cc
ends_line (suc n) by (Some name) e = go (map.get by name) refl e (λ row f. ends_line n by row.superclass f)
  where
    go : (o : Option ClassRow) → map.get by name ≡ o → option_map_or (λ (row : ClassRow). ends_within n by row.superclass) o false ≡ true
        → ((row : ClassRow) → ends_within n by row.superclass ≡ true → (es : List (Name × ClassRow)) × IsLine by row.superclass es) → (es : List (Name × ClassRow)) × IsLine by (Some name) es
    go None is f up = absurd cc
    go (Some row) is f up = let r = up row f in ((name, row) ∷ r.0, (refl, is, r.1))

-- ---- lists of names

names_few : (most : ℕ) (given : Option (List Name)) (ns : List Name) → (names most given).lawful ns ≡ true → length ns ≤ most
unfolding names
names_few most given ns e = leb-true _ _ (of_both _ _ (of_both _ _ (of_both _ _ e).0).1).0

new_from : (before ns : List Name) → are_lawful (λ before. text_where (may_stand None before)) before ns ≡ true → are_new before ns ≡ true
new_from before [] e = refl
new_from before (x ∷ ns) e =
    let o = of_both ((text_where (may_stand None before)).lawful x) (are_lawful (λ before. text_where (may_stand None before)) (before ++ x ∷ []) ns) e in
    let t = of_both (text.lawful x) (may_stand None before x) o.0 in
    let m = of_both (is_name x && not (list_any (bytes_eq x) before)) true t.1 in
    both (is_name x && not (list_any (bytes_eq x) before)) (are_new (before ++ x ∷ []) ns) m.0 (new_from (before ++ x ∷ []) ns o.1)

names_new : (most : ℕ) (ns : List Name) → (names most None).lawful ns ≡ true → are_new [] ns ≡ true
unfolding names
names_new most ns e = new_from [] ns (of_both _ _ e).1

named_at : (g : List Name) (i : ℕ) (x : Name) → i < length g → option_map_or (bytes_eq x) (slice_get g i) false ≡ true → x ≡ get_or g i x
named_at g i x lt e = (bytes_decides x (get_or g i x)).0 (ap (λ o. option_map_or (bytes_eq x) o false) (sym (slice_get-get_or g i x lt)) ∙ e)

given_from : (g before ns : List Name) → are_lawful (λ before. text_where (may_stand (Some g) before)) before ns ≡ true → length before + length ns ≡ length g → ns ≡ drop (length before) g
given_from g before [] e size = sym (drop_all (length before) g (omega arith))
given_from g before (x ∷ ns) e size =
    let o = of_both ((text_where (may_stand (Some g) before)).lawful x) (are_lawful (λ before. text_where (may_stand (Some g) before)) (before ++ x ∷ []) ns) e in
    let t = of_both (text.lawful x) (may_stand (Some g) before x) o.0 in
    let m = of_both (is_name x && not (list_any (bytes_eq x) before)) (option_map_or (bytes_eq x) (slice_get g (length before)) false) t.1 in
    let within : length before < length g = omega arith in
    let here : x ≡ get_or g (length before) x = named_at g (length before) x within m.1 in
    let longer : length (before ++ x ∷ []) ≡ length before + 1 = length-append before (x ∷ []) in
    let rest : ns ≡ drop (length before + 1) g = given_from g (before ++ x ∷ []) ns o.1 (omega (arith, longer)) ∙ ap (λ n. drop n g) longer in
    ap₂ (λ (y : Name) (ys : List Name). y ∷ ys) here rest ∙ sym (drop_more g (length before) x within)

names_given : (most : ℕ) (given : Option (List Name)) (g ns : List Name) → given ≡ Some g → (names most given).lawful ns ≡ true → ns ≡ g
unfolding names
names_given most given g ns is e =
    let f = subst (λ o. (names most o).lawful ns ≡ true) is e in
    let o = of_both (ltb (length ns) (2 ^ 32) && (leb (length ns) most && as_many (Some g) (length ns))) (are_lawful (λ before. text_where (may_stand (Some g) before)) [] ns) f in
    let size : length ns ≡ length g = eqb-true (length ns) (length g) (of_both (leb (length ns) most) (as_many (Some g) (length ns)) (of_both (ltb (length ns) (2 ^ 32)) (leb (length ns) most && as_many (Some g) (length ns)) o.0).1).1 in
    given_from g [] ns o.1 (omega (arith, size))

-- ---- a class of the kernel

kind_back : (k : Kind) → kind_of (kind_number k) ≡ k
kind_back Plain = refl
kind_back Pointers = refl
kind_back Bytes = refl
kind_back Words = refl

module _ (last : Option Name) (h : ClassHeading) (lawful : HasLawfulHeading last h) where
  kernel_heading : (k : KernelRow) → kernel_row h.name ≡ Some k → row_of h ≡ with_comment h.comment (row_of_kernel k)
  kernel_heading k is =
      let superclass : h.superclass ≡ k.superclass =
      sym ((bytes_decides k.superclass h.superclass).0 (ap (λ r. as_in r (λ r. bytes_eq r.superclass h.superclass)) (sym is) ∙ lawful.superclass)) in
      let number : kind_number h.kind ≡ k.kind = eqb-true _ _ (ap (λ r. as_in r (λ r. kind_number h.kind == r.kind)) (sym is) ∙ lawful.kind) in
      let kind : h.kind ≡ kind_of k.kind = sym (kind_back h.kind) ∙ ap kind_of number in
      let inst_vars : h.variables.instance ≡ split_names k.inst_vars = names_given 64 (inst_vars_given (kernel_row h.name)) _ _ (ap inst_vars_given is) lawful.inst_vars in
      let class_vars : h.variables.class ≡ [] = names_given 256 (none_given (kernel_row h.name)) _ _ (ap none_given is) lawful.class_vars in
      let pools : h.variables.pools ≡ [] = names_given 256 (none_given (kernel_row h.name)) _ _ (ap none_given is) lawful.pools in
      let side : h.variables.class_side ≡ [] = names_given 64 (none_given (kernel_row h.name)) _ _ (ap none_given is) lawful.class_side_vars in
      let category : h.category ≡ codes "Kernel" = sym ((bytes_decides (codes "Kernel") h.category).0 (ap (λ r. as_in r (λ _. bytes_eq (codes "Kernel") h.category)) (sym is) ∙ lawful.category)) in
      λ i. record {
        superclass = superclass_of (superclass i);
        kind = kind i;
        inst_vars = inst_vars i;
        class_vars = class_vars i;
        pools = pools i;
        category = category i;
        comment = h.comment;
        class_side_vars = side i;
      }

  definable : kernel_row h.name ≡ None → superclass_of h.superclass ≡ Some h.superclass → IsDefinable h.name (row_of h)
  definable none above =
      let given : inst_vars_given (kernel_row h.name) ≡ None = ap inst_vars_given none in
      let no_given : none_given (kernel_row h.name) ≡ None = ap none_given none in
      record {
        named = lawful.named;
        superclass = h.superclass;
        above = above;
        inst_vars = names_new 64 h.variables.instance (subst (λ g. (names 64 g).lawful h.variables.instance ≡ true) given lawful.inst_vars);
        class_vars = names_new 256 h.variables.class (subst (λ g. (names 256 g).lawful h.variables.class ≡ true) no_given lawful.class_vars);
        pools = names_new 256 h.variables.pools (subst (λ g. (names 256 g).lawful h.variables.pools ≡ true) no_given lawful.pools);
        class_side_vars = names_new 64 h.variables.class_side (subst (λ g. (names 64 g).lawful h.variables.class_side ≡ true) no_given lawful.class_side_vars);
        few_class_vars = names_few 256 (none_given (kernel_row h.name)) h.variables.class lawful.class_vars;
        few_pools = names_few 256 (none_given (kernel_row h.name)) h.variables.pools lawful.pools;
      }

found_row : (p f : KernelRow → Bool) (rows : List KernelRow) (k : KernelRow) → find p rows ≡ Some k → list_any f rows ≡ false → (p k ≡ true) × (f k ≡ false)
found_row p f [] k e g = absurd cc
found_row p f (r ∷ rows) k e g = go (p r) (f r) refl refl e g (λ e' g'. found_row p f rows k e' g')
  where
    go : (a b : Bool) → p r ≡ a → f r ≡ b → cond a (Some r) (find p rows) ≡ Some k → (b || list_any f rows) ≡ false
        → (find p rows ≡ Some k → list_any f rows ≡ false → (p k ≡ true) × (f k ≡ false)) → (p k ≡ true) × (f k ≡ false)
    go a true is_a is_b e' g' others = absurd cc
    go true false is_a is_b e' g' others = let same : r ≡ k = cc in (ap p (sym same) ∙ is_a, ap f (sym same) ∙ is_b)
    go false false is_a is_b e' g' others = others e' g'

-- ---- nothing is wrong

of_none : (a b : Option Spot) → or_else a b ≡ None → (a ≡ None) × (b ≡ None)
of_none None b e = (refl, e)
of_none (Some s) b e = absurd cc

few_of : (a b : ℕ) → (not (leb a 64) || not (leb b 0)) ≡ false → (a ≤ 64) × (b ≤ 0)
few_of a b e = go (leb a 64) (leb b 0) refl refl e
  where
    go : (p q : Bool) → leb a 64 ≡ p → leb b 0 ≡ q → (not p || not q) ≡ false → (a ≤ 64) × (b ≤ 0)
    go true true x y f = (leb-true a 64 x, leb-true b 0 y)
    go true false x y f = absurd cc
    go false q x y f = absurd cc

few_side_of : (a : ℕ) → not (leb a 64) ≡ false → a ≤ 64
few_side_of a e = go (leb a 64) refl e
  where
    go : (p : Bool) → leb a 64 ≡ p → not p ≡ false → a ≤ 64
    go true x f = leb-true a 64 x
    go false x f = absurd cc

module _ (cs : List ClassView) (lawful : classes.lawful cs ≡ true) (together : wrong_together cs ≡ None) where
  abbrev by : Classes
  by = classes_by_name cs

  nothing : (first_wrong (wrong_superclass by) first_class_place cs ≡ None)
      × ((first_wrong (wrong_chain by) first_class_place cs ≡ None) × ((first_wrong (wrong_total by) first_class_place cs ≡ None) × (missing by cs ≡ None)))
  unfolding wrong_together
  nothing =
      let a = of_none _ _ together in
      let b = of_none _ _ a.1 in
      let c = of_none _ _ b.1 in
      (a.0, (b.0, (c.0, c.1)))

  valid : IsValid by
  valid name row is =
      let c = class_of_row cs name row is in
      let end = ended by c.1.heading (passes (wrong_chain by) first_class_place cs nothing.1.0 c.0 c.1 c.2) in
      ends_line (map.len by) by (Some name) (subst (λ n. ends_within (map.len by) by (Some n) ≡ true) c.3 end)

  totals_fine : (name : Name) (row : ClassRow) → map.get by name ≡ Some row → (has_many_variables (inherited_of by name) ≡ false) × (has_many_class_side_variables (inherited_of by name) ≡ false)
  totals_fine name row is =
      let c = class_of_row cs name row is in
      let fine = total_fine (inherited_of by c.1.heading.name) c.1.heading (passes (wrong_total by) first_class_place cs nothing.1.1.0 c.0 c.1 c.2) in
      subst (λ n. (has_many_variables (inherited_of by n) ≡ false) × (has_many_class_side_variables (inherited_of by n) ≡ false)) c.3 fine

  -- a class that isn't Object has a superclass
  has_superclass : (i : ℕ) (c : ClassView) → slice_get cs i ≡ Some c → kernel_row c.heading.name ≡ None → superclass_of c.heading.superclass ≡ Some c.heading.superclass
  has_superclass i c at none = go (map.get by c.heading.superclass) refl
    where
      go : (o : Option ClassRow) → map.get by c.heading.superclass ≡ o → superclass_of c.heading.superclass ≡ Some c.heading.superclass
      go None absent =
          let fine = had by c.heading (passes (wrong_superclass by) first_class_place cs nothing.0 i c at) in
          let named = superclass_there by c.heading fine absent in
          let bad : object_row ≡ None = sym (ap kernel_row named ∙ object_is) ∙ none in
          absurd cc
      go (Some row) is =
          let d = class_of_row cs c.heading.superclass row is in
          let own = lawful_at cs lawful d.0 d.1 d.2 in
          subst (λ n. superclass_of n ≡ Some n) d.3 (some_name d.1.heading.name own.1.named)

  own_row : (name : Name) (row : ClassRow) → map.get by name ≡ Some row → kernel_row name ≡ None → IsDefinable name row
  own_row name row is none =
      let c = class_of_row cs name row is in
      let own = lawful_at cs lawful c.0 c.1 c.2 in
      let none' : kernel_row c.1.heading.name ≡ None = ap kernel_row c.3 ∙ none in
      let d : IsDefinable c.1.heading.name (row_of c.1.heading) = definable own.0 c.1.heading own.1 none' (has_superclass c.0 c.1 c.2 none') in
      subst (λ n. IsDefinable n row) c.3 (subst (λ r. IsDefinable c.1.heading.name r) c.4 d)

  kernel_there : (name : Name) (k : KernelRow) → kernel_row name ≡ Some k → map.contains_key by name ≡ true
  unfolding kernel_row
  kernel_there name k is =
      let lacks : lacks_kernel_class by ≡ false = told_by (lacks_kernel_class by) (classes_place, length cs) nothing.1.1.1 in
      let f = found_row (λ row. bytes_eq row.name name) (λ row. not (map.contains_key by row.name)) kernel_rows k is lacks in
      let named : k.name ≡ name = (bytes_decides k.name name).0 f.0 in
      turned (map.contains_key by name) (ap (λ n. not (map.contains_key by n)) (sym named) ∙ f.1)
    where
      turned : (b : Bool) → not b ≡ false → b ≡ true
      turned true e = refl
      turned false e = absurd cc

  of_kernel : (name : Name) (k : KernelRow) → kernel_row name ≡ Some k → (comment : List ℕ) × (map.get by name ≡ Some (with_comment comment (row_of_kernel k)))
  of_kernel name k is =
      let row = some_row by name (kernel_there name k is) in
      let c = class_of_row cs name row.0 row.1 in
      let own = lawful_at cs lawful c.0 c.1 c.2 in
      (c.1.heading.comment, row.1 ∙ ap Some (sym c.4 ∙ kernel_heading own.0 c.1.heading own.1 k (ap kernel_row c.3 ∙ is)))

  in_order : AreInOrder by
  in_order = record {
    count = omega (arith, few cs lawful, counted cs lawful);
    valid = valid;
    inst_vars = λ name row is. (few_of _ _ (totals_fine name row is).0).0;
    class_side_vars = λ name row is. few_side_of _ (totals_fine name row is).1;
    bits_variables = λ name row is. (few_of _ _ (totals_fine name row is).0).1;
    own = own_row;
    kernel = of_kernel;
  }

pub are_in_order : (image : ImageView) → IsLawfulImage image → AreInOrder (classes_by_name image.classes)
are_in_order image lawful = in_order image.classes (lawful_classes image lawful.fields) lawful.together
