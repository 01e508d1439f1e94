-- What methods see doesn't hang on the comments of classes, and so their code doesn't.
use Rattle.std.proofs.Common.{◌≡◌, ◌∙◌, ℕ, refl, sym, ap, subst, List, map as list_map, reverse}
use Rattle.std.specs.List.{flat_map}
use Rattle.std.proofs.lemmas.List.Folds.{flat_map-map}
use Rattle.s80_base.specs.declared.names.Side.{Side}
use Rattle.s80_base.specs.declared.names.Side.TheVariants.{Instance, Class}
use Rattle.s80_code.specs.declared.code.Code.{Code}
use Rattle.s80_compile.specs.Compiles.{Compiles}
use Rattle.s80_scope.specs.declared.shape.Shape.{Shape}
use Rattle.s80_class.specs.Classes.{Name, ClassRow, Classes, lineage}
use Rattle.s80_class.proofs.lemmas.Alike.{seen}
use Rattle.s80_class.proofs.lemmas.Commented.{AreCommented, bare, commented_lineage}
use Rattle.s80_class.proofs.lemmas.Lines.{Entry}
use Rattle.s80_method.specs.Code.{IsMethodCode}
use Rattle.s80_method.specs.Shape.{bindings_in, bindings_of, own_variables, shape_of, variables_in}
use Rattle.s80_method.proofs.Numbered.{map_reverse}

own_bare : (side : Side) (row : ClassRow) → own_variables side (bare row) ≡ own_variables side row
own_bare Instance row = refl
own_bare Class row = refl

variables_bare : (side : Side) (es : List Entry) → variables_in side (list_map (seen bare) es) ≡ variables_in side es
variables_bare side es =
    ap (flat_map (λ (e : Entry). own_variables side e.1)) (sym (map_reverse (seen bare) es))
    ∙ flat_map-map (λ (e : Entry). own_variables side e.1) (seen bare) (reverse es)
    ∙ (λ i. flat_map (λ (e : Entry). own_bare side e.1 i) (reverse es))

bindings_bare : (es : List Entry) → bindings_in (list_map (seen bare) es) ≡ bindings_in es
bindings_bare es = flat_map-map (λ (e : Entry). bindings_of e.0 e.1.class_vars) (seen bare) es

module _ (classes other : Classes) (alike : AreCommented classes other) where
  pub commented_shape : (name : Name) (side : Side) → shape_of other name side ≡ shape_of classes name side
  commented_shape name side =
      let line = commented_lineage classes other alike name in
      let variables : variables_in side (lineage other name) ≡ variables_in side (lineage classes name) =
      sym (variables_bare side (lineage other name)) ∙ ap (variables_in side) line ∙ variables_bare side (lineage classes name) in
      let bindings : bindings_in (lineage other name) ≡ bindings_in (lineage classes name) = sym (bindings_bare (lineage other name)) ∙ ap bindings_in line ∙ bindings_bare (lineage classes name) in
      λ i. record { inst_vars = variables i; class_vars = bindings i }

  pub commented_code : (name : Name) (side : Side) (selector source : List ℕ) (code : Code) → IsMethodCode classes name side selector source code → IsMethodCode other name side selector source code
  commented_code name side selector source code is = record {
    tree = is.tree;
    tree_is = is.tree_is;
    selector_is = is.selector_is;
    compiles = subst (λ (s : Shape). Compiles is.tree s name side code) (sym (commented_shape name side)) is.compiles;
  }
