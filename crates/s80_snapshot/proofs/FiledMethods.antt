-- What the methods of a lawful list have: their sources are lawful, and their categories brief.
use Rattle.std.proofs.Common.{◌≡◌, inl, inr, ◌≤◌, ◌++◌, Bool, cond, true, false, true≢false, refl, sym, ap, subst, [], ◌∷◌, Option, Some, None, Ok, length, filter, arith}
use Rattle.std.specs.Prelude.{IsTrue}
use Rattle.std.specs.List.{All, Contains, flat_map}
use Rattle.std.specs.FinMap as map
use Rattle.std.specs.Str.{bytes_eq}
use Rattle.std.specs.Cmp.Lexicographic.{bytes_decides}
use Rattle.std.proofs.lemmas.List.Elements.{All-contains}
use Rattle.s80_base.specs.Byte.{is_separator}
use Rattle.s80_base.specs.declared.names.Side.{Side}
use Rattle.s80_base.specs.declared.names.Side.TheVariants.{Instance, Class}
use Rattle.s80_chunk.specs.Chunks.{IsChunkText}
use Rattle.s80_dict.specs.Dict.{Methods}
use Rattle.s80_kernel.specs.Methods.{IsBegun, IsPlainSource, KernelMethodRow, found_method, kernel_methods, key_of}
use Rattle.s80_form.specs.Name.{IsBrief}
use Rattle.s80_form.specs.declared.form.Form.TheVariants.{Classify}
use Rattle.s80_change.specs.declared.change.Change.{Change}
use Rattle.s80_change.specs.declared.change.Change.TheVariants.{Form}
use Rattle.s80_change.specs.Block.{IsLawful}
use Rattle.s80_change.specs.Check.{IsCheckOf}
use Rattle.s80_class.specs.Classes.{Name, ClassRow}
use Rattle.s80_apply.specs.State.{MethodRow, State, on_class_side}
use Rattle.s80_fileout.specs.Condensed.{as_change, by_category, categories, classified, filed, for_methods, kernel_category, kernel_part, of_method, over_kernels, own_part}
use Rattle.s80_snapshot.proofs.lemmas.NamedMaps.{Text}
use Rattle.s80_snapshot.proofs.InLists.{IsIn, all_in, in_back, in_entries, in_filtered, in_flat, in_keys, in_keys_of, in_mapped}

-- a method whose source is lawful, and whose category is brief
pub record IsSourced (selector : Text) (row : MethodRow) : Type 0 where
  pub text : IsChunkText row.source
  pub short : length row.source ≤ 65535
  pub check : IsCheckOf row.source (Ok selector)
  pub category : IsBrief row.category

-- ---- what makes a method stands in the file of all classes

same_bytes : (x : Text) → bytes_eq x x ≡ true
same_bytes x = (bytes_decides x x).1 refl

in_by_category : (methods : Methods MethodRow) (selector : Text) (row : MethodRow) → map.get methods selector ≡ Some row → IsIn (selector, row) (by_category methods)
in_by_category methods selector row is =
    let here = in_entries methods selector row is in
    in_flat (λ category. filter (λ (e : Text × MethodRow). bytes_eq e.1.category category) (map.entries methods)) row.category (selector, row) (categories methods)
    (in_keys_of _ (row.category, tt {0}) (in_mapped (λ (e : Text × MethodRow). (e.1.category, tt {0})) (selector, row) (map.entries methods) here))
    (in_filtered (λ (e : Text × MethodRow). bytes_eq e.1.category row.category) (selector, row) (map.entries methods) (same_bytes row.category) here)

module _ (state : State) (name : Name) (class : ClassRow) (there : map.get state.classes name ≡ Some class) where
  in_sides : (side : Side) → IsIn side (Instance ∷ Class ∷ [])
  in_sides Instance = inl refl
  in_sides Class = inr (inl refl)

  in_filed : (side : Side) (selector : Text) (row : MethodRow) (c : Change) → map.get (state.methods name side) selector ≡ Some row
      → IsIn c (of_method name side selector row) → IsIn c (filed state)
  in_filed side selector row c is at =
      in_back c (kernel_part state) (own_part state ++ for_methods of_method state)
      (in_back c (own_part state) (for_methods of_method state)
      (in_flat (λ (n : Name). flat_map (λ (s : Side). flat_map (λ (e : Text × MethodRow). of_method n s e.0 e.1) (by_category (state.methods n s))) (Instance ∷ Class ∷ [])) name c (map.keys state.classes) (in_keys state.classes name class there)
      (in_flat (λ (s : Side). flat_map (λ (e : Text × MethodRow). of_method name s e.0 e.1) (by_category (state.methods name s))) side c (Instance ∷ Class ∷ []) (in_sides side)
      (in_flat (λ (e : Text × MethodRow). of_method name side e.0 e.1) (selector, row) c (by_category (state.methods name side)) (in_by_category (state.methods name side) selector row is) at))))

-- ---- the kernel's methods

begun : (source : Text) → IsBegun source → IsChunkText source
begun [] h = h
begun (b ∷ bs) h = go (is_separator b) h
  where
    go : (s : Bool) → s ≡ false → IsTrue s → ⊥
    go true bad _ = absurd (cc)
    go false _ none = true≢false (sym none)

abbrev pub AreFound : Type 0
AreFound = (class : Text) (on : Bool) (selector : Text) (row : KernelMethodRow) → found_method class on selector ≡ Some row → Contains kernel_methods row × (key_of row ≡ (class, on, selector))

module _ (found : AreFound) (plain : All (λ (row : KernelMethodRow). IsPlainSource row.source) kernel_methods)
    (fit : All (λ (row : KernelMethodRow). IsCheckOf row.source (Ok row.selector)) kernel_methods) where
  kernels : (class : Text) (on : Bool) (selector : Text) (k : KernelMethodRow) (row : MethodRow) → found_method class on selector ≡ Some k
      → row.source ≡ k.source → IsBrief row.category → IsSourced selector row
  kernels class on selector k row is same brief =
      let named = found class on selector k is in
      let good : IsPlainSource k.source = All-contains (λ (r : KernelMethodRow). IsPlainSource r.source) kernel_methods k plain named.0 in
      let check : IsCheckOf k.source (Ok k.selector) = All-contains (λ (r : KernelMethodRow). IsCheckOf r.source (Ok r.selector)) kernel_methods k fit named.0 in
      record {
        text = subst IsChunkText (sym same) (begun k.source good.begun);
        short = subst (λ (s : Text). length s ≤ 65535) (sym same) good.short;
        check = subst (λ (s : Text). IsCheckOf s (Ok selector)) (sym same) (subst (λ (w : Text). IsCheckOf k.source (Ok w)) (ap (λ key. key.2) named.1) check);
        category = brief;
      }

  -- ---- the methods of a state

  module _ (state : State) (lawful : All IsLawful (filed state)) (name : Name) (class : ClassRow) (there : map.get state.classes name ≡ Some class)
      (side : Side) (selector : Text) (row : MethodRow)
      (is : map.get (state.methods name side) selector ≡ Some row) where
    of_change : IsIn (as_change name side selector row) (of_method name side selector row) → IsSourced selector row
    of_change at =
        let law : IsLawful (as_change name side selector row) = all_in IsLawful (filed state) lawful (as_change name side selector row) (in_filed state name class there side selector row (as_change name side selector row) is at) in
        record { text = law.text; short = law.short; check = law.check; category = law.head.brief.category }

    brief_classified : (b : Bool) → bytes_eq kernel_category row.category ≡ b
        → ((c : Change) → IsIn c (cond b [] (Form (Classify name side selector row.category) ∷ [])) → IsIn c (filed state)) → IsBrief row.category
    brief_classified true same within = subst IsBrief ((bytes_decides kernel_category row.category).0 same) (omega arith)
    brief_classified false differs within =
        let c : Change = Form (Classify name side selector row.category) in
        let law : IsLawful c = all_in IsLawful (filed state) lawful c (within c (inl refl)) in
        law.brief.2

    by_kernels : (o : Option KernelMethodRow) → found_method name (on_class_side side) selector ≡ o
        → ((c : Change) → IsIn c (over_kernels name side selector row o) → IsIn c (of_method name side selector row)) → IsSourced selector row
    by_kernels None none within = of_change (within (as_change name side selector row) (inl refl))
    by_kernels (Some k) found_is within = by_source (bytes_eq row.source k.source) refl within
      where
        by_source : (b : Bool) → bytes_eq row.source k.source ≡ b
            → ((c : Change) → IsIn c (cond b (classified name side selector kernel_category row.category) (as_change name side selector row ∷ [])) → IsIn c (of_method name side selector row)) → IsSourced selector row
        by_source true same within =
            kernels name (on_class_side side) selector k row found_is ((bytes_decides row.source k.source).0 same)
            (brief_classified (bytes_eq kernel_category row.category) refl (λ c at. in_filed state name class there side selector row c is (within c at)))
        by_source false differs within = of_change (within (as_change name side selector row) (inl refl))

    pub method_sourced : IsSourced selector row
    method_sourced = by_kernels (found_method name (on_class_side side) selector) refl (λ c at. at)
