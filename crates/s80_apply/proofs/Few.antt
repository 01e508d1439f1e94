-- Classes within the limits have no more variables than code can name.
use Rattle.std.proofs.Common.{◌≡◌, ◌≤◌, ℕ, refl, sym, subst, List, [], length, Option, Some, None, arith}
use Rattle.std.specs.FinMap as map
use Rattle.s80_base.specs.declared.names.Side.{Side}
use Rattle.s80_base.specs.declared.names.Side.TheVariants.{Instance, Class}
use Rattle.s80_class.specs.Classes.{Name, ClassRow, Classes, Inherited, inherited_in, inherited_of}
use Rattle.s80_class.specs.Table.{Table}
use Rattle.s80_class.proofs.lemmas.Lines.{Entry}
use Rattle.s80_method.specs.Code.{HasFewVariables}
use Rattle.s80_method.specs.Shape.{shape_of}
use Rattle.s80_apply.specs.Limits.{IsWithin}
use Rattle.s80_apply.proofs.Defined.{no_lineage}

-- a name that no class has, has no variables
all_within : (classes : Classes) (count : Inherited → ℕ) → count (inherited_in []) ≤ 64 → ((name : Name) (row : ClassRow) → map.get classes name ≡ Some row → count (inherited_of classes name) ≤ 64) → (name : Name) → count (inherited_of classes name) ≤ 64
all_within classes count none each name = go (map.get classes name) refl
  where
    go : (o : Option ClassRow) → map.get classes name ≡ o → count (inherited_of classes name) ≤ 64
    go None is = subst (λ (es : List Entry). count (inherited_in es) ≤ 64) (sym (no_lineage classes name is)) none
    go (Some row) is = each name row is

pub few_variables : (table : Table) (c : ℕ) (side : Side) → IsWithin table.classes
    → ((classes : Classes) (name : Name) → length (shape_of classes name Instance).inst_vars ≡ (inherited_of classes name).inst_vars)
    → ((classes : Classes) (name : Name) → length (shape_of classes name Class).inst_vars ≡ (inherited_of classes name).class_side_vars)
    → HasFewVariables table c side
few_variables table c Instance within instance class = λ name named.
    let most : (inherited_of table.classes name).inst_vars ≤ 64 = all_within table.classes (λ t. t.inst_vars) (omega arith) within.inst_vars name in
    omega (arith, instance table.classes name, most)
few_variables table c Class within instance class = λ name named.
    let most : (inherited_of table.classes name).class_side_vars ≤ 64 = all_within table.classes (λ t. t.class_side_vars) (omega arith) within.class_side_vars name in
    omega (arith, class table.classes name, most)
