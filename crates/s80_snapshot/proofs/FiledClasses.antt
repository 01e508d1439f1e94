-- What the classes of a lawful list have: all names and texts of a class are brief.
use Rattle.std.proofs.Common.{◌≡◌, inl, ◌∙◌, ◌≤◌, ◌==◌, ◌++◌, ◌&&◌, not, ℕ, zero, suc, Bool, cond, true, false, refl, sym, ap, subst, List, [], ◌∷◌, Option, Some, None, length, arith}
use Rattle.std.specs.List.{All, AllByRecursion}
use Rattle.std.specs.FinMap as map
use Rattle.std.proofs.lemmas.Bool.Decides.{nat_tests}
use Rattle.std.proofs.lemmas.List.Elements.{All-nil, recursion_from_All}
use Rattle.s80_kernel.specs.Rows.{is_kernel_class}
use Rattle.s80_form.specs.Definition.{IsBriefDefinition}
use Rattle.s80_form.specs.Name.{AreBrief, IsBrief}
use Rattle.s80_form.specs.declared.form.Form.TheVariants.{ClassVars, Comment, Define}
use Rattle.s80_change.specs.declared.change.Change.{Change}
use Rattle.s80_change.specs.declared.change.Change.TheVariants.{Form}
use Rattle.s80_change.specs.Block.{IsLawful}
use Rattle.s80_class.specs.Classes.{Name, ClassRow, Classes, lineage, then_up, upwards}
use Rattle.s80_apply.specs.State.{State}
use Rattle.s80_fileout.specs.Condensed.{class_vars_of, comment_of, defined, definition_of, filed, for_classes, for_methods, is_own_at, kernel_part, of_kernel_class, of_method, of_own_class, own_part, removals, up_to}
use Rattle.s80_base.specs.declared.names.Side.TheVariants.{Instance, Class}
use Rattle.s80_snapshot.proofs.lemmas.NamedMaps.{no_value}
use Rattle.s80_snapshot.proofs.InLists.{IsIn, all_in, in_back, in_entries, in_flat, in_front}

-- a class that isn't the kernel's
pub record IsBriefOwn (name : Name) (row : ClassRow) (superclass : Name) : Type 0 where
  pub definition : IsBriefDefinition (definition_of name row superclass)
  pub class_side_vars : AllByRecursion IsBrief row.class_side_vars

-- ---- the depth of a class

in_up_to : (d n : ℕ) → 1 ≤ d → d ≤ n → IsIn d (up_to n)
in_up_to d zero some most = absurd (omega arith)
in_up_to d (suc n) some most = go (d == suc n) refl (in_up_to d n some)
  where
    same : (b : Bool) → (d == suc n) ≡ b → b ≡ true → d ≡ suc n
    same true is _ = grind (arith, nat_tests)
    same false is bad = absurd (cc)

    other : (d == suc n) ≡ false → d ≤ n
    other is = grind (arith, nat_tests)

    go : (b : Bool) → (d == suc n) ≡ b → (d ≤ n → IsIn d (up_to n)) → IsIn d (up_to n ++ suc n ∷ [])
    go true is rest = in_back d (up_to n) (suc n ∷ []) (inl (same true is refl))
    go false is rest = in_front d (up_to n) (suc n ∷ []) (rest (other is))

pub upwards_few : (count : ℕ) (classes : Classes) (o : Option Name) → length (upwards count classes o) ≤ count
upwards_few zero classes o = omega arith
upwards_few (suc count) classes None = omega arith
upwards_few (suc count) classes (Some name) = go (map.get classes name) (λ row. upwards_few count classes row.superclass)
  where
    go : (o : Option ClassRow) → ((row : ClassRow) → length (upwards count classes row.superclass) ≤ count)
        → length (then_up name o (λ row. upwards count classes row.superclass)) ≤ suc count
    go None rest = omega arith
    go (Some row) rest = omega (arith, rest row)

module _ (classes : Classes) (name : Name) (row : ClassRow) (there : map.get classes name ≡ Some row) where
  lineage_some : 1 ≤ length (lineage classes name)
  lineage_some = go (map.len classes) refl
    where
      go : (n : ℕ) → map.len classes ≡ n → 1 ≤ length (upwards n classes (Some name))
      go zero none = no_value (map.get classes name) row (ap (λ (c : Classes). map.get c name) (map.empty_of_len classes none) ∙ map.get-empty _ name) there
      go (suc n) some = subst (λ o. 1 ≤ length (then_up name o (λ (r : ClassRow). upwards n classes r.superclass))) (sym there) (omega arith)

  in_depths : IsIn (length (lineage classes name)) (up_to (map.len classes))
  in_depths = in_up_to (length (lineage classes name)) (map.len classes) lineage_some (upwards_few (map.len classes) classes (Some name))

-- ---- what makes a class stands in the file of all classes

module _ (state : State) (name : Name) (row : ClassRow) (there : map.get state.classes name ≡ Some row) where
  chosen : (b : Bool) (c : Change) (cs : List Change) → b ≡ true → IsIn c cs → IsIn c (cond b cs [])
  chosen true c cs is at = at
  chosen false c cs is at = absurd (cc)

  in_kernel : (c : Change) → is_kernel_class name ≡ true → IsIn c (of_kernel_class state name row) → IsIn c (filed state)
  in_kernel c kernel at =
      in_front c (kernel_part state) (own_part state ++ for_methods of_method state)
      (in_flat (λ (e : Name × ClassRow). cond (is_kernel_class e.0) (of_kernel_class state e.0 e.1) []) (name, row) c (map.entries state.classes) (in_entries state.classes name row there)
      (chosen (is_kernel_class name) c (of_kernel_class state name row) kernel at))

  own_here : is_kernel_class name ≡ false → is_own_at state.classes (length (lineage state.classes name)) name ≡ true
  own_here own = ap (λ b. not b && (length (lineage state.classes name) == length (lineage state.classes name))) own ∙ same (length (lineage state.classes name))
    where
      same : (n : ℕ) → (n == n) ≡ true
      same n = grind (arith, nat_tests)

  in_own : (c : Change) → is_kernel_class name ≡ false → IsIn c (of_own_class name row) → IsIn c (filed state)
  in_own c own at =
      let depth = length (lineage state.classes name) in
      in_back c (kernel_part state) (own_part state ++ for_methods of_method state)
      (in_front c (own_part state) (for_methods of_method state)
      (in_flat (λ (d : ℕ). for_classes (λ n r. cond (is_own_at state.classes d n) (of_own_class n r) []) state) depth c (up_to (map.len state.classes)) (in_depths state.classes name row there)
      (in_flat (λ (e : Name × ClassRow). cond (is_own_at state.classes depth e.0) (of_own_class e.0 e.1) []) (name, row) c (map.entries state.classes) (in_entries state.classes name row there)
      (chosen (is_own_at state.classes depth name) c (of_own_class name row) (own_here own) at))))

  module _ (lawful : All IsLawful (filed state)) where
    brief_none : IsBrief []
    brief_none = omega arith

    comment_by : (text : List ℕ) → ((c : Change) → IsIn c (comment_of name text) → IsIn c (filed state)) → IsBrief text
    comment_by [] within = brief_none
    comment_by (b ∷ bs) within =
        let law : IsLawful (Form (Comment name (b ∷ bs))) = all_in IsLawful (filed state) lawful (Form (Comment name (b ∷ bs))) (within (Form (Comment name (b ∷ bs))) (inl refl)) in
        law.brief.1

    side_by : (names : List Name) → ((c : Change) → IsIn c (class_vars_of name names) → IsIn c (filed state)) → AreBrief names
    side_by [] within = All-nil IsBrief
    side_by (v ∷ vs) within =
        let law : IsLawful (Form (ClassVars name (v ∷ vs))) = all_in IsLawful (filed state) lawful (Form (ClassVars name (v ∷ vs))) (within (Form (ClassVars name (v ∷ vs))) (inl refl)) in
        law.brief.1

    pub comment_brief : IsBrief row.comment
    comment_brief = go (is_kernel_class name) refl
      where
        go : (b : Bool) → is_kernel_class name ≡ b → IsBrief row.comment
        go true kernel = comment_by row.comment (λ c at. in_kernel c kernel (in_front c (comment_of name row.comment) (removals state name Instance ++ removals state name Class) at))
        go false own = comment_by row.comment (λ c at.
            in_own c own (in_back c (defined name row row.superclass) (comment_of name row.comment ++ class_vars_of name row.class_side_vars) (in_front c (comment_of name row.comment) (class_vars_of name row.class_side_vars) at)))

    pub own_brief : is_kernel_class name ≡ false → (superclass : Name) → row.superclass ≡ Some superclass → IsBriefOwn name row superclass
    own_brief own superclass above =
        let d : Change = Form (Define (definition_of name row superclass)) in
        let at : IsIn d (filed state) =
        in_own d own (in_front d (defined name row row.superclass) (comment_of name row.comment ++ class_vars_of name row.class_side_vars) (subst (λ o. IsIn d (defined name row o)) (sym above) (inl refl))) in
        let law : IsLawful d = all_in IsLawful (filed state) lawful d at in
        record {
          definition = law.brief;
          class_side_vars = recursion_from_All IsBrief row.class_side_vars (side_by row.class_side_vars (λ c at.
              in_own c own (in_back c (defined name row row.superclass) (comment_of name row.comment ++ class_vars_of name row.class_side_vars) (in_back c (comment_of name row.comment) (class_vars_of name row.class_side_vars) at))));
        }
