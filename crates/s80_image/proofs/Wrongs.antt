-- What is wrong with a class, from what the code finds of it.
use Rattle.std.proofs.Common.{◌≡◌, ◌<◌, ◌∙◌, ℕ, ◌^◌, ◌-◌, Bool, true, false, cond, leb, true≢false, List, [], ◌∷◌, length, get_or, Option, Some, None, is_some, refl, sym, ap, arith}
use Rattle.std.specs.Prelude.{codes, slice_get, not, ◌&&◌, ◌||◌}
use Rattle.std.specs.Str.{bytes_eq}
use Rattle.std.specs.Cmp.Lexicographic.{bytes_decides}
use Rattle.std.specs.FinMap as map
use Rattle.std.proofs.lemmas.Bool.Decides.{nat_tests}
use Rattle.std.proofs.lemmas.Option.{slice_get_within, slice_get-get_or}
use Rattle.s80_form.specs.declared.definition.Kind.{Kind}
use Rattle.s80_form.specs.declared.definition.Kind.TheVariants.{Plain, Pointers, Bytes, Words}
use Rattle.s80_form.specs.Name.{is_class_name, is_name}
use Rattle.s80_kernel.specs.Rows.{KernelRow}
use Rattle.s80_class.specs.declared.inherited.Totals.{Totals}
use Rattle.s80_class.specs.Classes.{Classes, Inherited, bits_variables_of, inherited_of}
use Rattle.s80_class.specs.Counted.{counted, totals}
use Rattle.s80_image.specs.declared.image.ClassHeading.{ClassHeading}
use Rattle.s80_image.specs.declared.image.ImageClass.{ImageClass}
use Rattle.s80_image.specs.Parts.{Name}
use Rattle.s80_image.specs.Classes.{ClassView, as_in, class_of, classes, classes_of, kernel_row}
use Rattle.s80_image.specs.Superclasses.{AreLinked, AreSuperclasses, GoesOn, IsPlaceOf, as_inherited}
use Rattle.s80_image.specs.Together.{Spot, class_side_field, classes_by_name, ends_within, first_class_place, first_wrong, has_many_class_side_variables, has_many_variables, instance_field, lacks_superclass, superclass_field, superclass_of, missing, or_else, wrong_chain, wrong_superclass, wrong_together, wrong_total, wrong_total_in}
use Rattle.s80_image.proofs.Laws.{of_both}
use Rattle.s80_image.proofs.ByName.{class_at, counted as counted_classes, found_at, lawful_at}
use Rattle.s80_image.proofs.FirstWrong.{passes}
use Rattle.s80_image.proofs.Linked.{told_by_place, viewed_length}

-- ---- tests on a class

module _ (by : Classes) (h : ClassHeading) where
  pub lacking : lacks_superclass by h ≡ true → wrong_superclass by h ≡ Some (superclass_field h)
  lacking e = ap (λ b. cond b (Some (superclass_field h)) None) e

  pub having : lacks_superclass by h ≡ false → wrong_superclass by h ≡ None
  having e = ap (λ b. cond b (Some (superclass_field h)) None) e

  pub endless : ends_within (map.len by) by (Some h.name) ≡ false → wrong_chain by h ≡ Some (superclass_field h)
  endless e = ap (λ b. cond (not b) (Some (superclass_field h)) None) e

  pub ending : ends_within (map.len by) by (Some h.name) ≡ true → wrong_chain by h ≡ None
  ending e = ap (λ b. cond (not b) (Some (superclass_field h)) None) e

pub told_by : (b : Bool) (s : Spot) → cond b (Some s) None ≡ None → b ≡ false
told_by true s e = absurd cc
told_by false s e = refl

pub had : (by : Classes) (h : ClassHeading) → wrong_superclass by h ≡ None → lacks_superclass by h ≡ false
had by h e = told_by (lacks_superclass by h) (superclass_field h) e

pub ended : (by : Classes) (h : ClassHeading) → wrong_chain by h ≡ None → ends_within (map.len by) by (Some h.name) ≡ true
ended by h e = turned (ends_within (map.len by) by (Some h.name)) (told_by (not (ends_within (map.len by) by (Some h.name))) (superclass_field h) e)
  where
    turned : (b : Bool) → not b ≡ false → b ≡ true
    turned true f = refl
    turned false f = absurd cc

-- ---- totals that were counted

counted_le : (a n : ℕ) → n < 2 ^ 64 - 1 → leb (counted a) n ≡ leb a n
counted_le a n lt = grind (arith, nat_tests)

pub many_counted : (t : Inherited) → has_many_variables (as_inherited (totals t)) ≡ has_many_variables t
many_counted t = (λ i. not (counted_le t.inst_vars 64 (omega arith) i) || not (bits t.kind i))
  where
    bits : (k : Kind) → leb (bits_variables_of (record { inst_vars = counted t.inst_vars; class_side_vars = counted t.class_side_vars; kind = k })) 0
        ≡ leb (bits_variables_of (record { inst_vars = t.inst_vars; class_side_vars = t.class_side_vars; kind = k })) 0
    bits Plain = refl
    bits Pointers = refl
    bits Bytes = counted_le t.inst_vars 0 (omega arith)
    bits Words = counted_le t.inst_vars 0 (omega arith)

pub many_side_counted : (t : Inherited) → has_many_class_side_variables (as_inherited (totals t)) ≡ has_many_class_side_variables t
many_side_counted t = ap not (counted_le t.class_side_vars 64 (omega arith))

module _ (by : Classes) (h : ClassHeading) (t : Totals) (is : t ≡ totals (inherited_of by h.name)) where
  many_is : has_many_variables (as_inherited t) ≡ has_many_variables (inherited_of by h.name)
  many_is = ap (λ (k : Totals). has_many_variables (as_inherited k)) is ∙ many_counted (inherited_of by h.name)

  side_is : has_many_class_side_variables (as_inherited t) ≡ has_many_class_side_variables (inherited_of by h.name)
  side_is = ap (λ (k : Totals). has_many_class_side_variables (as_inherited k)) is ∙ many_side_counted (inherited_of by h.name)

  abbrev choice : Bool → Bool → Option Spot
  choice many side = cond many (Some (instance_field h)) (cond side (Some (class_side_field h)) None)

  pub crowded : has_many_variables (as_inherited t) ≡ true → wrong_total by h ≡ Some (instance_field h)
  crowded e = ap (λ b. choice b (has_many_class_side_variables (inherited_of by h.name))) (sym many_is ∙ e)

  pub side_crowded : has_many_variables (as_inherited t) ≡ false → has_many_class_side_variables (as_inherited t) ≡ true → wrong_total by h ≡ Some (class_side_field h)
  side_crowded e f = (λ i. choice ((sym many_is ∙ e) i) ((sym side_is ∙ f) i))

  pub uncrowded : has_many_variables (as_inherited t) ≡ false → has_many_class_side_variables (as_inherited t) ≡ false → wrong_total by h ≡ None
  uncrowded e f = (λ i. choice ((sym many_is ∙ e) i) ((sym side_is ∙ f) i))

pub total_fine : (t : Inherited) (h : ClassHeading) → wrong_total_in t h ≡ None → (has_many_variables t ≡ false) × (has_many_class_side_variables t ≡ false)
total_fine t h e = go (has_many_variables t) (has_many_class_side_variables t) e
  where
    go : (many side : Bool) → cond many (Some (instance_field h)) (cond side (Some (class_side_field h)) None) ≡ None → (many ≡ false) × (side ≡ false)
    go true side f = absurd cc
    go false true f = absurd cc
    go false false f = (refl, refl)

-- ---- superclasses

pub lack_told : (xs : List ImageClass) → classes.lawful (classes_of xs) ≡ true → (h : ClassHeading) (place : Option ℕ) (b : Bool) → b ≡ (not (bytes_eq h.name (codes "Object")) && not (is_some place))
    → IsPlaceOf (classes_of xs) h.superclass place → b ≡ lacks_superclass (classes_by_name (classes_of xs)) h
lack_told xs lawful h place b is stands =
    is ∙ ap (λ k. not (bytes_eq h.name (codes "Object")) && not k) (told_by_place xs lawful h.superclass place (is_some place) refl stands)

pub some_name : (n : Name) → is_class_name n ≡ true → superclass_of n ≡ Some n
some_name [] e =
    absurd (true≢false (sym (of_both (is_name []) false (of_both (is_name [] && false) (not (bytes_eq [] (codes "Smalltalk") || bytes_eq [] (codes "Transcript"))) e).0).1))
some_name (b ∷ n) e = refl

abbrev pub object_row : Option KernelRow
object_row = Some (record { name = codes "Object"; superclass = []; kind = 0; inst_vars = [] })

pub object_is : kernel_row (codes "Object") ≡ object_row
unfolding kernel_row
object_is = refl

-- Object has no superclass
pub object_superclass : (h : ClassHeading) → h.name ≡ codes "Object" → as_in (kernel_row h.name) (λ r. bytes_eq r.superclass h.superclass) ≡ true → superclass_of h.superclass ≡ None
object_superclass h named e =
    let f : bytes_eq [] h.superclass ≡ true = ap (λ r. as_in r (λ r. bytes_eq r.superclass h.superclass)) (sym (ap kernel_row named ∙ object_is)) ∙ e in
    ap superclass_of (sym ((bytes_decides [] h.superclass).0 f))

-- a class that lacks none is Object, or its superclass is there
pub superclass_there : (by : Classes) (h : ClassHeading) → lacks_superclass by h ≡ false → map.get by h.superclass ≡ None → h.name ≡ codes "Object"
superclass_there by h e none = (bytes_decides h.name (codes "Object")).0 (go (bytes_eq h.name (codes "Object")) (ap (λ o. not (bytes_eq h.name (codes "Object")) && not (is_some o)) (sym none) ∙ e))
  where
    go : (b : Bool) → (not b && true) ≡ false → b ≡ true
    go true f = refl
    go false f = absurd cc

pub lack_at : (xs : List ImageClass) (places : List (Option ℕ)) → classes.lawful (classes_of xs) ≡ true → AreSuperclasses (classes_of xs) (length xs) places → (i : ℕ) (x : ImageClass) (b : Bool) → slice_get xs i ≡ Some x
    → b ≡ (not (bytes_eq x.heading.name (codes "Object")) && not (is_some (get_or places i None))) → b ≡ lacks_superclass (classes_by_name (classes_of xs)) x.heading
lack_at xs places lawful stand i x b here is =
    let within : i < length places = omega (arith, stand.size, slice_get_within xs i x here) in
    lack_told xs lawful x.heading (get_or places i None) b is (stand.each i (class_of x) (get_or places i None) (class_at xs i x here) (slice_get-get_or places i None within))

module _ (xs : List ImageClass) (places : List (Option ℕ)) (lawful : classes.lawful (classes_of xs) ≡ true) (stand : AreSuperclasses (classes_of xs) (length xs) places)
    (none : first_wrong (wrong_superclass (classes_by_name (classes_of xs))) first_class_place (classes_of xs) ≡ None) where
  goes_on : (i : ℕ) (c : ClassView) → slice_get (classes_of xs) i ≡ Some c → (place : Option ℕ) → IsPlaceOf (classes_of xs) c.heading.superclass place → GoesOn (classes_of xs) place (superclass_of c.heading.superclass)
  goes_on i c at None absent =
      let fine = had (classes_by_name (classes_of xs)) c.heading (passes (wrong_superclass (classes_by_name (classes_of xs))) first_class_place (classes_of xs) none i c at) in
      let row = lawful_at (classes_of xs) lawful i c at in
      object_superclass c.heading (superclass_there (classes_by_name (classes_of xs)) c.heading fine absent) row.1.superclass
  goes_on i c at (Some k) (d, there, named) =
      let row = lawful_at (classes_of xs) lawful k d there in
      (d, there, ap superclass_of (sym named) ∙ some_name d.heading.name row.1.named)

  pub linked : AreLinked (classes_of xs) places
  linked = record {
    size = stand.size ∙ sym (viewed_length xs);
    count = counted_classes (classes_of xs) lawful;
    found = λ i c at. found_at (classes_of xs) lawful i c at;
    each = λ i c place at here. goes_on i c at place (stand.each i c place at here);
  }

-- ---- all of them

module _ (cs : List ClassView) where
  abbrev first : Option Spot
  first = first_wrong (wrong_superclass (classes_by_name cs)) first_class_place cs

  abbrev second : Option Spot
  second = first_wrong (wrong_chain (classes_by_name cs)) first_class_place cs

  abbrev third : Option Spot
  third = first_wrong (wrong_total (classes_by_name cs)) first_class_place cs

  abbrev last : Option Spot
  last = missing (classes_by_name cs) cs

  pub told_first : (s : Spot) → Some s ≡ first → Some s ≡ wrong_together cs
  unfolding wrong_together
  told_first s e = ap (λ o. or_else o (or_else second (or_else third last))) e

  pub told_second : (s : Spot) → None ≡ first → Some s ≡ second → Some s ≡ wrong_together cs
  unfolding wrong_together
  told_second s a e = (λ i. or_else (a i) (or_else (e i) (or_else third last)))

  pub told_third : (s : Spot) → None ≡ first → None ≡ second → Some s ≡ third → Some s ≡ wrong_together cs
  unfolding wrong_together
  told_third s a b e = (λ i. or_else (a i) (or_else (b i) (or_else (e i) last)))

  pub told_last : (o : Option Spot) → None ≡ first → None ≡ second → None ≡ third → o ≡ last → o ≡ wrong_together cs
  unfolding wrong_together
  told_last o a b c e = (λ i. or_else (a i) (or_else (b i) (or_else (c i) (e i))))
