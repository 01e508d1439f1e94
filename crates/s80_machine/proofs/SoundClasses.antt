-- Classes by number, and what they inherit: a class above has no more variables.
use Rattle.std.proofs.Common.{◌≡◌, ◌∙◌, ap, sym, subst, refl, ℕ, ◌≤◌, List, [], ◌∷◌, map, codes, Option, Some, None, true, false, unwrap_or, All, length, arith}
use Rattle.std.specs.FinMap as map_of
use Rattle.std.specs.Str.{bytes_eq}
use Rattle.std.proofs.lemmas.List.Elements.{All-nil, All-cons, All-head, All-tail, All-append, All-map}
use Rattle.std.proofs.lemmas.List.Sums.{sum_by-cons}
use Rattle.s80_base.specs.declared.names.Side.{Side}
use Rattle.s80_base.specs.declared.names.Side.TheVariants.{Instance, Class}
use Rattle.s80_kernel.specs.Rows as rows
use Rattle.s80_class.specs.Classes.{Name, ClassRow, IsLine, inherited_in, inherited_of, lineage}
use Rattle.s80_class.specs.Known.{IsKnown as IsKnownTable}
use Rattle.s80_class.specs.Table.{Table, IsClass, IsNumberOf, class_name, number_of}
use Rattle.s80_class.proofs.lemmas.Lines.{lineage_line, not_eq}
use Rattle.s80_class.proofs.lemmas.Numbers.{has_number, name_is, number_is}
use Rattle.s80_code.proofs.lemmas.TableLemmas.{value}
use Rattle.s80_code.specs.declared.code.Code.{Code}
use Rattle.s80_dict.specs.Table.{MethodsValue, methods_at}
use Rattle.s80_dict.specs.declared.dict.MethodEntry.{MethodEntry}
use Rattle.s80_prims.specs.Classes.{variables_of}
use Rattle.s80_class.specs.Lookup.{Found, Place, first_found, found_or, number, numbers_from, numbers_up, on_side, places_behind, places_up}
use Rattle.s80_machine.specs.Sound.{IsSetting, variables_on}

-- ---- classes above

-- the variables of a line of classes
abbrev pub count_in : Side → List (Name × ClassRow) → ℕ
count_in Instance es = (inherited_in es).inst_vars
count_in Class es = (inherited_in es).class_side_vars

counts : (t : Table) (c : ℕ) (side : Side) → variables_on t c side ≡ count_in side (lineage t.classes (class_name t c))
counts t c Instance = refl
counts t c Class = refl

count_tail : (side : Side) (e : Name × ClassRow) (es : List (Name × ClassRow)) → count_in side es ≤ count_in side (e ∷ es)
count_tail Instance e es = omega (arith, sum_by-cons (λ e. length e.1.inst_vars) e es)
count_tail Class e es = omega (arith, sum_by-cons (λ e. length e.1.class_side_vars) e es)

module _ (t : Table) (known : IsKnownTable t) (side : Side) (most : ℕ) where
  abbrev IsWithin : Name × ClassRow → Type 0
  IsWithin e = variables_on t (number t e.0) side ≤ most

  line_within : (p : Option Name) (es : List (Name × ClassRow)) → IsLine t.classes p es → count_in side es ≤ most → All IsWithin es
  line_within p [] line le = All-nil IsWithin
  line_within None (e ∷ es) line le = absurd line
  line_within (Some name) (e ∷ es) line le =
      let own : IsLine t.classes (Some e.0) (e ∷ es) = subst (λ n. IsLine t.classes (Some n) (e ∷ es)) (sym line.0) line in
      let numbered = known.numbered e.0 e.1 own.1 in
      let named : class_name t (number t e.0) ≡ e.0 = name_is t (number t e.0) e.0 (number_is t e.0 numbered.0 numbered.1) in
      let above : lineage t.classes (class_name t (number t e.0)) ≡ e ∷ es = ap (lineage t.classes) named ∙ lineage_line t.classes e.0 (e ∷ es) own in
      let here : variables_on t (number t e.0) side ≡ count_in side (e ∷ es) = counts t (number t e.0) side ∙ ap (count_in side) above in
      All-cons IsWithin e es (omega (arith, here, le)) (line_within e.1.superclass es line.2 (omega (arith, count_tail side e es, le)))

-- a place with no more variables than these
abbrev pub HasAtMost : Table → ℕ → Place → Type 0
HasAtMost t most place = variables_on t place.0 place.1 ≤ most

module _ (t : Table) (known : IsKnownTable t) where
  pub numbers_within : (c : ℕ) (side : Side) (most : ℕ) → IsClass t.names c → variables_on t c side ≤ most → All (HasAtMost t most) (map (λ n. (n, side)) (numbers_up t c))
  numbers_within c side most class le =
      let name = class.0 in
      let named : class_name t c ≡ name = name_is t c name class.1 in
      let row = known.known c name class.1 in
      let line = known.valid name row.0 row.1 in
      let all : lineage t.classes (class_name t c) ≡ line.0 = ap (lineage t.classes) named ∙ lineage_line t.classes name line.0 line.1 in
      let within : count_in side line.0 ≤ most = omega (arith, counts t c side, ap (count_in side) all, le) in
      All-map (HasAtMost t most) (λ n. (n, side)) (numbers_up t c)
      (All-map (λ n. HasAtMost t most (n, side)) (λ e. number t e.0) (lineage t.classes (class_name t c))
      (subst (All (IsWithin t known side most)) (sym all) (line_within t known side most (Some name) line.0 line.1 within)))

-- ---- the kernel

module _ (t : Table) (methods : MethodsValue (MethodEntry Code)) (code : Code) (setting : IsSetting t methods code) where
  pub kernel_number : (word : Name) → rows.is_kernel_class word ≡ true → IsNumberOf t.names (number t word) word
  kernel_number word is = let n = setting.numbers word is in number_is t word n.0 n.1

  pub kernel_plain : (word : Name) → rows.is_kernel_class word ≡ true → bytes_eq word (codes "Message") ≡ false → variables_of t (number t word) ≡ 0
  kernel_plain word is differs =
      ap (λ n. (inherited_of t.classes n).inst_vars) (name_is t (number t word) word (kernel_number word is)) ∙ setting.plain word is (not_eq word (codes "Message") differs)

  pub kernel_message : variables_of t (number t (codes "Message")) ≡ 2
  unfolding rows.is_kernel_class
  kernel_message =
      ap (λ n. (inherited_of t.classes n).inst_vars) (name_is t (number t (codes "Message")) (codes "Message") (kernel_number (codes "Message") refl)) ∙ setting.message

  -- the places of a side of a class have no more variables than it
  pub places_within : (c : ℕ) (side : Side) (most : ℕ) → IsClass t.names c → variables_on t c side ≤ most → All (HasAtMost t most) (places_up t c side)
  unfolding rows.is_kernel_class
  places_within c Instance most class le = numbers_within t setting.classes c Instance most class le
  places_within c Class most class le =
      let n = setting.numbers (codes "Class") refl in
      let there = has_number t.names (codes "Class") n.0 n.1 in
      let behind : All (HasAtMost t most) (on_side Instance (numbers_up t (number t (codes "Class")))) =
      numbers_within t setting.classes (number t (codes "Class")) Instance most (codes "Class", kernel_number (codes "Class") refl) (omega (arith, kernel_plain (codes "Class") refl refl)) in
      let known : Some (number t (codes "Class")) ≡ number_of t.names (codes "Class") = ap (λ (o : Option ℕ). Some (unwrap_or o 0)) there.1 ∙ sym there.1 in
      All-append (HasAtMost t most) (on_side Class (numbers_up t c)) (places_behind t) (numbers_within t setting.classes c Class most class le)
      (subst (λ (o : Option ℕ). All (HasAtMost t most) (on_side Instance (numbers_from t o))) known behind)

-- ---- what was found stands at one of the places

pub record IsFound {X : Type 0} (methods : MethodsValue X) (selector : List ℕ) (P : Place → Type 0) (f : Found X) : Type 0 where
  pub place : P (f.class, f.side)
  pub entry : map_of.get (methods_at methods f.class f.side) selector ≡ Some f.entry

pub found_at : {X : Type 0} (methods : MethodsValue X) (selector : List ℕ) (P : Place → Type 0) (places : List Place) (f : Found X) → All P places → first_found methods selector places ≡ Some f → IsFound methods selector P f
found_at {X} methods selector P [] f all e = cc
found_at {X} methods selector P (place ∷ places) f all e = go (map_of.get (methods_at methods place.0 place.1) selector) refl e (found_at methods selector P places f (All-tail P place places all))
  where
    go : (o : Option X) → map_of.get (methods_at methods place.0 place.1) selector ≡ o → found_or place o (first_found methods selector places) ≡ Some f → (first_found methods selector places ≡ Some f → IsFound methods selector P f) → IsFound methods selector P f
    go None is e more = more e
    go (Some entry) is e more =
        let here : IsFound methods selector P (record { class = place.0; side = place.1; entry = entry }) = record { place = All-head P place places all; entry = is } in
        subst (IsFound methods selector P) (value e) here
