-- Classes with methods that look alike in an image, and have the same sources, are the same.
use Rattle.std.proofs.Common.{◌≡◌, ◌∙◌, ◌++◌, ℕ, refl, sym, ap, List, [], ◌∷◌, length, length-append, map as list_map, unwrap_or, arith}
use Rattle.std.specs.List.{AllByRecursion, flat_map}
use Rattle.std.specs.FinMap as map
use Rattle.std.proofs.lemmas.List.{length-map}
use Rattle.s80_base.specs.declared.names.Side.{Side}
use Rattle.s80_base.specs.declared.names.Side.TheVariants.{Instance, Class}
use Rattle.s80_dict.specs.Dict.{Methods}
use Rattle.s80_class.specs.Classes.{Name, ClassRow}
use Rattle.s80_image.specs.Classes.{ClassView}
use Rattle.s80_image.specs.Together.{classes_by_name, row_of, superclass_of}
use Rattle.s80_snapshot.specs.Pictured.{CodedRow, CodedState, class_view, classes_view, method_view, methods_view, sources_on}
use Rattle.s80_snapshot.proofs.lemmas.NamedMaps.{entries_again}

-- ---- lists

pub heads : {A : Type 0} (x y : A) (xs ys : List A) → x ∷ xs ≡ y ∷ ys → x ≡ y
heads x y xs ys is = cc

pub tails : {A : Type 0} (x y : A) (xs ys : List A) → x ∷ xs ≡ y ∷ ys → xs ≡ ys
tails x y xs ys is = cc

-- what stands in front of two lists is the same where it is as long
fronts : {A : Type 0} (xs ys us vs : List A) → length xs ≡ length ys → xs ++ us ≡ ys ++ vs → (xs ≡ ys) × (us ≡ vs)
fronts [] [] us vs size is = (refl, is)
fronts [] (y ∷ ys) us vs size is = absurd (omega arith)
fronts (x ∷ xs) [] us vs size is = absurd (omega arith)
fronts (x ∷ xs) (y ∷ ys) us vs size is =
    let first = heads x y (xs ++ us) (ys ++ vs) is in
    let rest = fronts xs ys us vs (omega arith) (tails x y (xs ++ us) (ys ++ vs) is) in
    ((λ i. first i ∷ rest.0 i), rest.1)

-- ---- methods

abbrev Entries : Type 0
Entries = List (List ℕ × CodedRow)

abbrev source_in : List ℕ × CodedRow → List ℕ
source_in e = e.1.row.source

same_entry : (e f : List ℕ × CodedRow) → method_view e ≡ method_view f → source_in e ≡ source_in f → e ≡ f
same_entry e f view source = λ i. (
  (view i).heading.selector,
  record {
    row = record {
      category = (view i).heading.category;
      source = source i;
      from_kernel = (view i).heading.from_kernel;
      position = (view i).heading.position;
      length = (view i).heading.length;
    };
    code = (view i).code;
  },
)

same_entries : (es fs : Entries) → list_map method_view es ≡ list_map method_view fs → list_map source_in es ≡ list_map source_in fs → es ≡ fs
same_entries [] [] views sources = refl
same_entries [] (f ∷ fs) views sources = absurd (let none = ap length views in omega (arith, none))
same_entries (e ∷ es) [] views sources = absurd (let none = ap length views in omega (arith, none))
same_entries (e ∷ es) (f ∷ fs) views sources =
    let here = same_entry e f (heads (method_view e) (method_view f) (list_map method_view es) (list_map method_view fs) views) (heads (source_in e) (source_in f) (list_map source_in es) (list_map source_in fs) sources) in
    let rest = same_entries es fs (tails (method_view e) (method_view f) (list_map method_view es) (list_map method_view fs) views) (tails (source_in e) (source_in f) (list_map source_in es) (list_map source_in fs) sources) in
    λ i. here i ∷ rest i

abbrev coded_source : CodedRow → List ℕ
coded_source m = m.row.source

as_long : (one other : Methods CodedRow) → methods_view one ≡ methods_view other → length (sources_on coded_source one) ≡ length (sources_on coded_source other)
as_long one other views =
    length-map (map.entries one) source_in ∙ sym (length-map (map.entries one) method_view) ∙ ap length views
    ∙ length-map (map.entries other) method_view ∙ sym (length-map (map.entries other) source_in)

same_methods : (one other : Methods CodedRow) → methods_view one ≡ methods_view other → sources_on coded_source one ≡ sources_on coded_source other → one ≡ other
same_methods one other views sources = map.same_entries_map one other (same_entries (map.entries one) (map.entries other) views sources)

-- ---- classes

abbrev Sided : Type 0
Sided = Name → Side → Methods CodedRow

-- a class with its methods, and their sources
abbrev viewed : Sided → Name × ClassRow → ClassView
viewed methods e = class_view (record { classes = map.empty; methods = methods }) e

abbrev sources_in : Sided → Name × ClassRow → List (List ℕ)
sources_in methods e = sources_on coded_source (methods e.0 Instance) ++ sources_on coded_source (methods e.0 Class)

abbrev AreSame : Sided → Sided → Name → Type 0
AreSame one other name = (one name Instance ≡ other name Instance) × (one name Class ≡ other name Class)

module _ (one other : Sided) where
  here_same : (e : Name × ClassRow) (rest more : List (List ℕ)) → viewed one e ≡ viewed other e → sources_in one e ++ rest ≡ sources_in other e ++ more
      → AreSame one other e.0 × (rest ≡ more)
  here_same e rest more view sources =
      let first : methods_view (one e.0 Instance) ≡ methods_view (other e.0 Instance) = ap (λ (c : ClassView). c.instance) view in
      let second : methods_view (one e.0 Class) ≡ methods_view (other e.0 Class) = ap (λ (c : ClassView). c.class) view in
      let a = sources_on coded_source (one e.0 Instance) in
      let b = sources_on coded_source (one e.0 Class) in
      let x = sources_on coded_source (other e.0 Instance) in
      let y = sources_on coded_source (other e.0 Class) in
      let long : length a ≡ length x = as_long (one e.0 Instance) (other e.0 Instance) first in
      let longer : length b ≡ length y = as_long (one e.0 Class) (other e.0 Class) second in
      let whole = fronts (a ++ b) (x ++ y) rest more (both_long a b x y long longer) sources in
      let parts = fronts a x b y long whole.0 in
      ((same_methods (one e.0 Instance) (other e.0 Instance) first parts.0, same_methods (one e.0 Class) (other e.0 Class) second parts.1), whole.1)
    where
      both_long : (a b x y : List (List ℕ)) → length a ≡ length x → length b ≡ length y → length (a ++ b) ≡ length (x ++ y)
      both_long a b x y long longer = omega (arith, length-append a b, length-append x y)

  pub each_same : (es : List (Name × ClassRow)) → list_map (viewed one) es ≡ list_map (viewed other) es
      → flat_map (sources_in one) es ≡ flat_map (sources_in other) es → AllByRecursion (λ e. AreSame one other e.0) es
  each_same [] views sources = tt
  each_same (e ∷ es) views sources =
      let here = here_same e (flat_map (sources_in one) es) (flat_map (sources_in other) es) (heads (viewed one e) (viewed other e) (list_map (viewed one) es) (list_map (viewed other) es) views) sources in
      (here.0, each_same es (tails (viewed one e) (viewed other e) (list_map (viewed one) es) (list_map (viewed other) es) views) here.1)

-- ---- classes by their names

-- no superclass has the empty name
abbrev pub IsAbove : ClassRow → Type 0
IsAbove row = superclass_of (unwrap_or row.superclass []) ≡ row.superclass

named_again : (state : CodedState) (es : List (Name × ClassRow)) → AllByRecursion (λ e. IsAbove e.1) es
    → list_map (λ (c : ClassView). (c.heading.name, row_of c.heading)) (list_map (class_view state) es) ≡ es
named_again state [] all = refl
named_again state (e ∷ es) all = λ i. (e.0, record e.1 { superclass = all.0 i }) ∷ named_again state es all.1 i

pub by_name_again : (state : CodedState) → AllByRecursion (λ e. IsAbove e.1) (map.entries state.classes) → classes_by_name (classes_view state) ≡ state.classes
unfolding classes_by_name
by_name_again state all = ap (λ es. map.from_entries es) (named_again state (map.entries state.classes) all) ∙ entries_again state.classes
