-- Look-ups by the numbers of classes: along a class and its superclasses, and above it.
use Rattle.std.proofs.Common.{◌≡◌, ◌∙◌, ap, sym, subst, refl, ℕ, suc, ◌<◌, ◌-◌, ◌+◌, List, [], ◌∷◌, ◌++◌, map, drop, codes, length, Option, Some, None, is_some, true, false, true≢false, arith}
use Rattle.std.specs.FinMap as map_of
use Rattle.std.proofs.lemmas.Option.{slice_get_within}
use Rattle.s80_base.specs.declared.names.Side.{Side}
use Rattle.s80_base.specs.declared.names.Side.TheVariants.{Instance, Class}
use Rattle.s80_class.specs.declared.entry.ClassEntry.{ClassEntry}
use Rattle.s80_class.specs.declared.found.Found.{Found as FoundEntry}
use Rattle.s80_class.specs.Classes.{Name, ClassRow, IsLine, lineage, then_up, upwards}
use Rattle.s80_class.specs.Known.{IsKnown as IsKnownTable}
use Rattle.s80_class.specs.Table.{Table, IsClass, IsEntryOf, IsNumberOf, IsSuperclass, class_name, number_of, row_of}
use Rattle.s80_class.specs.Lookup.{Found, IsFound, Place, first_found, found_or, number, numbers_from, numbers_up, on_side, places_behind, places_from, places_up}
use Rattle.s80_class.proofs.lemmas.Lines.{lineage_line}
use Rattle.s80_class.proofs.lemmas.Numbers.{name_is, number_is, value}
use Rattle.s80_class.proofs.lemmas.Rows as row
use Rattle.s80_class.proofs.lemmas.Walks.{left, left_none}
use Rattle.s80_dict.specs.Table.{MethodsValue, methods_at}
use Rattle.s80_dict.specs.declared.dict.MethodEntry.{MethodEntry}

abbrev pub Entry : Type 0
Entry = Name × ClassRow

abbrev pub numbers_of : Table → List Entry → List ℕ
numbers_of t es = map (λ e. number t e.0) es

-- the number of a class that has one
pub has_place : {A : Type 0} (t : Table) (c : ℕ) (sides : List A) → length sides ≡ length t.names → IsClass t.names c → c < length sides
has_place t c sides same class = subst (λ n. c < n) (sym same) (slice_get_within t.names c (Some class.0) class.1)

-- ---- the walk up

-- it begins with all superclasses
pub starts : (t : Table) (end : ℕ) (from : Option ℕ) → end ≡ map_of.len t.classes → IsSuperclass t.names from → numbers_of t (left t end 0 from) ≡ numbers_from t from
starts t end None size class = ap (numbers_of t) (left_none t end 0)
starts t end (Some c) size class =
    ap (λ n. numbers_of t (upwards (end - 0) t.classes n)) (row.name_is t.names c class.0 class.1)
    ∙ ap (λ n. numbers_of t (upwards n t.classes (Some class.0))) (whole ∙ size)
    ∙ ap (λ n. numbers_of t (lineage t.classes n)) (sym (name_is t c class.0 class.1))
  where
    whole : end - 0 ≡ end
    whole = omega arith

module _ (t : Table) (known : IsKnownTable t) where
  -- a class that has a number
  pub own_number : (c : ℕ) (name : Name) → IsNumberOf t.names c name → number t name ≡ c
  own_number c name is = known.one_number (number t name) c name (number_is t name c is) is

  -- the class itself, and those above it
  above_one : (end counter c : ℕ) (name : Name) (r : ClassRow) → counter < end → IsNumberOf t.names c name → map_of.get t.classes name ≡ Some r
      → left t end counter (Some c) ≡ (name, r) ∷ upwards (end - (counter + 1)) t.classes r.superclass
  above_one end counter c name r lt named there =
      let more : end - counter ≡ suc (end - (counter + 1)) = omega arith in
      let up : ClassRow → List Entry = λ k. upwards (end - (counter + 1)) t.classes k.superclass in
      ap (upwards (end - counter) t.classes) (row.name_is t.names c name named) ∙ ap (λ n. upwards n t.classes (Some name)) more ∙ ap (λ o. then_up name o up) there

  module _ {X : Type 0} (methods : MethodsValue X) (selector : List ℕ) (side : Side) where
    abbrev pub found_in : List ℕ → Option (Found X)
    found_in ns = first_found methods selector (on_side side ns)

    abbrev at_one : ℕ → List ℕ → Option (Found X)
    at_one n ns = found_or (n, side) (map_of.get (methods_at methods n side) selector) (found_in ns)

    -- a class without the method
    pub goes_up : (end counter c : ℕ) (e : ClassEntry) (next : Option ℕ) → counter < end → IsEntryOf t c e → next ≡ Some c → map_of.get (methods_at methods c side) selector ≡ None
        → found_in (numbers_of t (left t end counter next)) ≡ found_in (numbers_of t (left t end (counter + 1) e.superclass))
    goes_up end counter c e next lt is here none =
        let rest : List ℕ = numbers_of t (left t end (counter + 1) e.superclass) in
        ap (λ n. found_in (numbers_of t (left t end counter n))) here
        ∙ ap (λ es. found_in (numbers_of t es)) (above_one end counter c e.class_name (row_of t.names e) lt is.named is.row)
        ∙ ap (λ n. at_one n rest) (own_number c e.class_name is.named)
        ∙ ap (λ o. found_or (c, side) o (found_in rest)) none

    -- a class with it
    pub finds : (end counter c : ℕ) (next : Option ℕ) (entry : X) → counter < end → IsClass t.names c → next ≡ Some c → map_of.get (methods_at methods c side) selector ≡ Some entry
        → found_in (numbers_of t (left t end counter next)) ≡ Some (record { class = c; side = side; entry = entry })
    finds end counter c next entry lt class here there =
        let r = known.known c class.0 class.1 in
        let rest : List ℕ = numbers_of t (upwards (end - (counter + 1)) t.classes r.0.superclass) in
        ap (λ n. found_in (numbers_of t (left t end counter n))) here
        ∙ ap (λ es. found_in (numbers_of t es)) (above_one end counter c class.0 r.0 lt class.1 r.1)
        ∙ ap (λ n. at_one n rest) (own_number c class.0 class.1)
        ∙ ap (λ o. found_or (c, side) o (found_in rest)) there

  -- ---- above a class

  line_above : (c : ℕ) (e : ClassEntry) (es : List Entry) → IsEntryOf t c e → IsLine t.classes (row_of t.names e).superclass es → numbers_of t es ≡ numbers_from t e.superclass
  line_above c e es is line = go e.superclass is.superclass es line
    where
      go : (s : Option ℕ) → IsSuperclass t.names s → (es : List Entry) → IsLine t.classes (row.superclass_in t.names s) es → numbers_of t es ≡ numbers_from t s
      go None above [] line = refl
      go None above (x ∷ es) line = absurd line
      go (Some k) above es line =
          let own : IsLine t.classes (Some above.0) es = subst (λ n. IsLine t.classes n es) (row.name_is t.names k above.0 above.1) line in
          ap (numbers_of t) (sym (lineage_line t.classes above.0 es own)) ∙ ap (λ n. numbers_of t (lineage t.classes n)) (sym (name_is t k above.0 above.1))

  -- the class, and behind it those of its superclass
  numbers_above : (c : ℕ) (e : ClassEntry) → IsEntryOf t c e → (n : ℕ) × (numbers_up t c ≡ n ∷ numbers_from t e.superclass)
  numbers_above c e is =
      let line = known.valid e.class_name (row_of t.names e) is.row in
      let named : class_name t c ≡ e.class_name = name_is t c e.class_name is.named in
      let up : numbers_up t c ≡ numbers_of t line.0 = ap (λ n. numbers_of t (lineage t.classes n)) named ∙ ap (numbers_of t) (lineage_line t.classes e.class_name line.0 line.1) in
      let r = split line.0 line.1 in
      (r.0, up ∙ r.1)
    where
      split : (es : List Entry) → IsLine t.classes (Some e.class_name) es → (n : ℕ) × (numbers_of t es ≡ n ∷ numbers_from t e.superclass)
      split [] line = absurd line
      split (x ∷ es) line =
          let same : x.1 ≡ row_of t.names e = value (sym line.1 ∙ is.row) in
          let rest : IsLine t.classes (row_of t.names e).superclass es = subst (λ (r : ClassRow). IsLine t.classes r.superclass es) same line.2 in
          (number t x.0, ap (λ ns. number t x.0 ∷ ns) (line_above c e es is rest))

  pub places_above : (c : ℕ) (side : Side) (e : ClassEntry) → IsEntryOf t c e → places_from t e.superclass side ≡ drop 1 (places_up t c side)
  places_above c Instance e is = let r = numbers_above c e is in sym (ap (λ ns. drop 1 (on_side Instance ns)) r.1)
  places_above c Class e is =
      let r = numbers_above c e is in
      sym (ap (λ ns. drop 1 (on_side Class ns ++ places_behind t)) r.1)

pub places_from_class : (t : Table) (c : ℕ) (side : Side) → places_from t (Some c) side ≡ places_up t c side
places_from_class t c Instance = refl
places_from_class t c Class = refl

-- ---- on the class side the search goes on

module _ {X : Type 0} (methods : MethodsValue X) (selector : List ℕ) (more : List Place) where
  behind : (place : Place) (o : Option X) (rest all : Option (Found X)) → (rest ≡ None → all ≡ first_found methods selector more) → found_or place o rest ≡ None → found_or place o all ≡ first_found methods selector more
  behind place None rest all goes e = goes e
  behind place (Some x) rest all goes e = absurd (true≢false (ap is_some e))

  -- where nothing is found, it is what is found behind
  pub none_first : (places : List Place) → first_found methods selector places ≡ None → first_found methods selector (places ++ more) ≡ first_found methods selector more
  none_first [] e = refl
  none_first (place ∷ places) e =
      behind place (map_of.get (methods_at methods place.0 place.1) selector) (first_found methods selector places) (first_found methods selector (places ++ more)) (none_first places) e

  before : (place : Place) (o : Option X) (rest all : Option (Found X)) (f : Found X) → (rest ≡ Some f → all ≡ Some f) → found_or place o rest ≡ Some f → found_or place o all ≡ Some f
  before place None rest all f goes e = goes e
  before place (Some x) rest all f goes e = e

  -- and what is found stays so
  pub some_first : (places : List Place) (f : Found X) → first_found methods selector places ≡ Some f → first_found methods selector (places ++ more) ≡ Some f
  some_first [] f e = absurd (true≢false (sym (ap is_some e)))
  some_first (place ∷ places) f e =
      before place (map_of.get (methods_at methods place.0 place.1) selector) (first_found methods selector places) (first_found methods selector (places ++ more)) f (some_first places f) e

module _ {C : Type 0} (methods : MethodsValue (MethodEntry C)) (selector : List ℕ) (places more : List Place) where
  found_first : (r : Option (FoundEntry C)) → is_some r ≡ true → IsFound (first_found methods selector places) r → IsFound (first_found methods selector (places ++ more)) r
  found_first None there h = absurd (true≢false (sym there))
  found_first (Some g) there h = go (first_found methods selector places) refl h
    where
      go : (o : Option (Found (MethodEntry C))) → first_found methods selector places ≡ o → IsFound o (Some g) → IsFound (first_found methods selector (places ++ more)) (Some g)
      go None e h = absurd h
      go (Some f) e h = subst (λ o. IsFound o (Some g)) (sym (some_first methods selector more places f e)) h

  found_behind : (q : Option (FoundEntry C)) → is_some q ≡ false → IsFound (first_found methods selector places) q → (r : Option (FoundEntry C)) → IsFound (first_found methods selector more) r
      → IsFound (first_found methods selector (places ++ more)) r
  found_behind (Some g) there none r h = absurd (true≢false there)
  found_behind None there none r h = go (first_found methods selector places) refl none
    where
      go : (o : Option (Found (MethodEntry C))) → first_found methods selector places ≡ o → IsFound o None → IsFound (first_found methods selector (places ++ more)) r
      go None e none = subst (λ o. IsFound o r) (sym (none_first methods selector more places e)) h
      go (Some f) e none = absurd none

-- ---- what a walk comes to

module _ {C : Type 0} (t : Table) (known : IsKnownTable t) (methods : MethodsValue (MethodEntry C)) (selector : List ℕ) (side : Side) (all : Option (Found (MethodEntry C))) (end counter : ℕ) (next : Option ℕ)
    (same : first_found methods selector (on_side side (numbers_of t (left t end counter next))) ≡ all) where
  -- no class is left
  pub found_none : left t end counter next ≡ [] → IsFound all None
  found_none none = subst (λ o. IsFound o None) (sym (ap (λ es. first_found methods selector (on_side side (numbers_of t es))) none) ∙ same) tt

  -- the next class has the method
  pub found_one : (c : ℕ) (entry : MethodEntry C) (g : FoundEntry C) → counter < end → IsClass t.names c → next ≡ Some c → map_of.get (methods_at methods c side) selector ≡ Some entry
      → g.class ≡ c → g.side ≡ side → g.entry.now ≡ entry → IsFound all (Some g)
  found_one c entry g lt class here there own on is =
      subst (λ o. IsFound o (Some g)) (sym (finds t known methods selector side end counter c next entry lt class here there) ∙ same) (own, on, is)

module _ {C : Type 0} (t : Table) (methods : MethodsValue (MethodEntry C)) (selector : List ℕ) (from : Option ℕ) where
  -- it is found among these classes
  pub found_here : (side : Side) (r : Option (FoundEntry C)) → is_some r ≡ true → IsFound (first_found methods selector (on_side side (numbers_from t from))) r → IsFound (first_found methods selector (places_from t from side)) r
  found_here Instance r there h = h
  found_here Class r there h = found_first methods selector (on_side Class (numbers_from t from)) (places_behind t) r there h

  -- it isn't, and the class side goes on
  pub found_nowhere : (side : Side) (r : Option (FoundEntry C)) → side ≡ Instance → is_some r ≡ false → IsFound (first_found methods selector (on_side side (numbers_from t from))) r
      → IsFound (first_found methods selector (places_from t from side)) None
  found_nowhere Instance None is there h = h
  found_nowhere Instance (Some g) is there h = absurd (true≢false there)
  found_nowhere Class r is there h = cc

  pub found_later : (side : Side) (q : Option (FoundEntry C)) (class : Option ℕ) → side ≡ Class → class ≡ number_of t.names (codes "Class") → is_some q ≡ false
      → IsFound (first_found methods selector (on_side side (numbers_from t from))) q → (r : Option (FoundEntry C)) → IsFound (first_found methods selector (on_side Instance (numbers_from t class))) r
      → IsFound (first_found methods selector (places_from t from side)) r
  found_later Instance q class is same there none r h = cc
  found_later Class q class is same there none r h =
      found_behind methods selector (on_side Class (numbers_from t from)) (places_behind t) q there none r
      (subst (λ c. IsFound (first_found methods selector (on_side Instance (numbers_from t c))) r) same h)
