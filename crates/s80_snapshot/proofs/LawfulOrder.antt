-- The classes of a lawful image are in byte order of their names, and the methods of each in that of their selectors.
use Rattle.std.proofs.Common.{◌≡◌, ◌∙◌, ◌≤◌, ◌+◌, ◌-◌, ◌^◌, ◌++◌, ◌&&◌, ℕ, suc, zero, Bool, true, false, refl, sym, ap, subst, List, [], ◌∷◌, Option, Some, None, length, map as list_map, option_map, nat_le, nat_lt, slice_get, true≢false, arith}
use Rattle.std.proofs.lemmas.Bool.Decides.{nat_tests}
use Rattle.std.specs.List.{AllByRecursion}
use Rattle.std.specs.List.Sorted.{IsStrictlySortedBy}
use Rattle.std.specs.Ordering.{is_lt}
use Rattle.std.specs.declared.cmp.Ordering.{Ordering}
use Rattle.std.specs.declared.cmp.Ordering.TheVariants.{Less, Equal, Greater}
use Rattle.std.specs.Cmp.Lexicographic.{nat_list_cmp_total}
use Rattle.s80_form.specs.Name.{is_class_name}
use Rattle.s80_image.specs.declared.image.ClassHeading.{ClassHeading}
use Rattle.s80_image.specs.declared.image.MethodHeading.{MethodHeading}
use Rattle.s80_image.specs.Format.{Format, are_lawful, text, word64}
use Rattle.s80_image.specs.Parts.{Name, is_above, is_selector, last_of}
use Rattle.s80_image.specs.Methods.{MethodView, code, method, method_behind, method_heading, method_limit, methods}
use Rattle.s80_image.specs.Classes.{ClassView, class, class_behind, classes, heading}
use Rattle.s80_image.specs.Definable.{AreInOrder}
use Rattle.s80_image.specs.History.{all_versions, change_set}
use Rattle.s80_image.specs.Image.{HasLawfulFields, ImageView, contents, image_format}
use Rattle.s80_image.specs.Together.{classes_by_name}
use Rattle.s80_snapshot.specs.Resuming.{AreListed, AreOrdered, names_of, selectors_of}
use Rattle.s80_snapshot.proofs.ImageMaps.{order}

of_both : (a b : Bool) → (a && b) ≡ true → (a ≡ true) × (b ≡ true)
of_both true b e = (refl, e)
of_both false b e = absurd (true≢false (sym e))

is_less : (o : Ordering) → is_lt o ≡ true → o ≡ Less
is_less Less e = refl
is_less Equal e = absurd (true≢false (sym e))
is_less Greater e = absurd (true≢false (sym e))

at_end : {A : Type 0} (xs : List A) (x : A) → slice_get (xs ++ x ∷ []) (length xs) ≡ Some x
at_end [] x = refl
at_end (y ∷ ys) x = at_end ys x

one_longer : {A : Type 0} (xs : List A) (x : A) → length (xs ++ x ∷ []) ≡ suc (length xs)
one_longer [] x = refl
one_longer (y ∷ ys) x = ap suc (one_longer ys x)

last_is : {A : Type 0} (xs : List A) (x : A) → last_of (xs ++ x ∷ []) ≡ Some x
last_is xs x =
    let at : length (xs ++ x ∷ []) - 1 ≡ length xs = omega (arith, one_longer xs x) in
    ap (slice_get (xs ++ x ∷ [])) at ∙ at_end xs x

-- names behind another are above it
abbrev Above : Option Name → List Name → Type 0
Above None names = Unit {0}
Above (Some last) names = AllByRecursion (λ n. order last n ≡ Less) names

none_above : (last : Option Name) → Above last []
none_above None = tt
none_above (Some last) = tt

above_all : (l m : Name) (names : List Name) → order l m ≡ Less → AllByRecursion (λ n. order m n ≡ Less) names → AllByRecursion (λ n. order l n ≡ Less) names
above_all l m [] less all = tt
above_all l m (n ∷ names) less all = (nat_list_cmp_total.trans l m n less all.0, above_all l m names less all.1)

one_above : (last : Option Name) (m : Name) (names : List Name) → is_above last m ≡ true → AllByRecursion (λ n. order m n ≡ Less) names → Above last (m ∷ names)
one_above None m names above all = tt
one_above (Some l) m names above all = let less = is_less (order l m) above in (less, above_all l m names less all)

module _ {A : Type 0} (key : A → Name) (member : List A → Format A) (above : (before : List A) (x : A) → (member before).lawful x ≡ true → is_above (option_map key (last_of before)) (key x) ≡ true) where
  rising : (before xs : List A) → are_lawful member before xs ≡ true → IsStrictlySortedBy order (list_map key xs) × Above (option_map key (last_of before)) (list_map key xs)
  unfolding IsStrictlySortedBy
  rising before [] lawful = (tt, none_above (option_map key (last_of before)))
  rising before (x ∷ xs) lawful =
      let h = of_both ((member before).lawful x) (are_lawful member (before ++ x ∷ []) xs) lawful in
      let r = rising (before ++ x ∷ []) xs h.1 in
      let later : AllByRecursion (λ n. order (key x) n ≡ Less) (list_map key xs) = subst (λ o. Above (option_map key o) (list_map key xs)) (last_is before x) r.1 in
      ((later, r.0), one_above (option_map key (last_of before)) (key x) (list_map key xs) (above before x h.0) later)

module _ {A : Type 0} (P : A → Type 0) (member : List A → Format A) (each : (before : List A) (x : A) → (member before).lawful x ≡ true → P x) where
  all_so : (before xs : List A) → are_lawful member before xs ≡ true → AllByRecursion P xs
  all_so before [] lawful = tt
  all_so before (x ∷ xs) lawful =
      let h = of_both ((member before).lawful x) (are_lawful member (before ++ x ∷ []) xs) lawful in
      (each before x h.0, all_so (before ++ x ∷ []) xs h.1)

few_enough : (n limit : ℕ) → nat_le n limit ≡ true → n ≤ limit
few_enough n limit is = grind (arith, nat_tests)

-- ---- methods

method_above : (last : Option Name) (m : MethodView) → (method last).lawful m ≡ true → is_above last m.heading.selector ≡ true
unfolding method method_heading
method_above last m lawful =
    let h = of_both ((method_heading last).lawful m.heading) (code.lawful m.code) lawful in
    let k = of_both (text.lawful m.heading.selector && (is_selector m.heading.selector && is_above last m.heading.selector)) _ h.0 in
    let t = of_both (text.lawful m.heading.selector) (is_selector m.heading.selector && is_above last m.heading.selector) k.0 in
    (of_both (is_selector m.heading.selector) (is_above last m.heading.selector) t.1).1

methods_listed : (ms : List MethodView) → methods.lawful ms ≡ true → AreListed ms
unfolding methods
methods_listed ms lawful =
    let h = of_both (nat_lt (length ms) (2 ^ 32) && nat_le (length ms) method_limit) (are_lawful method_behind [] ms) lawful in
    let few = of_both (nat_lt (length ms) (2 ^ 32)) (nat_le (length ms) method_limit) h.0 in
    record {
      sorted = (rising (λ m. m.heading.selector) method_behind (λ before m so. method_above (option_map (λ x. x.heading.selector) (last_of before)) m so) [] ms h.1).0;
      few = few_enough (length ms) method_limit few.1;
    }

-- ---- classes

class_parts : (last : Option Name) (c : ClassView) → (class last).lawful c ≡ true → ((heading last).lawful c.heading ≡ true) × (methods.lawful c.instance ≡ true) × (methods.lawful c.class ≡ true)
unfolding class
class_parts last c lawful =
    let h = of_both ((heading last).lawful c.heading) (methods.lawful c.instance && methods.lawful c.class) lawful in
    let m = of_both (methods.lawful c.instance) (methods.lawful c.class) h.1 in
    (h.0, m.0, m.1)

heading_above : (last : Option Name) (h : ClassHeading) → (heading last).lawful h ≡ true → is_above last h.name ≡ true
unfolding heading
heading_above last h lawful =
    let k = of_both (text.lawful h.name && (is_class_name h.name && is_above last h.name)) _ lawful in
    let t = of_both (text.lawful h.name) (is_class_name h.name && is_above last h.name) k.0 in
    (of_both (is_class_name h.name) (is_above last h.name) t.1).1

pub lawful_ordered : (image : ImageView) → HasLawfulFields image → AreInOrder (classes_by_name image.classes) → AreOrdered image.classes
unfolding image_format contents classes
lawful_ordered image lawful in_order =
    let h = of_both (word64.lawful image.count) (classes.lawful image.classes && (change_set.lawful image.change_set && all_versions.lawful image.versions)) lawful in
    let k = of_both (classes.lawful image.classes) (change_set.lawful image.change_set && all_versions.lawful image.versions) h.1 in
    let cs = of_both (nat_lt (length image.classes) (2 ^ 32) && nat_le (length image.classes) 65536) (are_lawful class_behind [] image.classes) k.0 in
    record {
      sorted = (rising (λ c. c.heading.name) class_behind
          (λ before c so. heading_above (option_map (λ x. x.heading.name) (last_of before)) c.heading (class_parts (option_map (λ x. x.heading.name) (last_of before)) c so).0) [] image.classes cs.1).0;
      methods = all_so (λ c. AreListed c.instance × AreListed c.class) class_behind
          (λ before c so. let p = class_parts (option_map (λ x. x.heading.name) (last_of before)) c so in (methods_listed c.instance p.1, methods_listed c.class p.2)) [] image.classes cs.1;
      in_order = in_order;
    }
