use Rattle.std.proofs.Common.{◌≡◌, ◌∙◌, List, length, reverse}
use Rattle.std.specs.List.{flat_map, sum_by}
use Rattle.std.proofs.lemmas.List.Concat.{length-flat_map}
use Rattle.std.proofs.lemmas.List.Sorted.{sum_by-IsPermutation, IsPermutation-reverse}
use Rattle.s80_class.specs.Classes.{Name, lineage}
use Rattle.s80_method.proofs.Numbered.{Class}
use Rattle.s80_method.proofs.laws.shapes_have_as_many_variables.Goals as goal

as_many : (own : Class → List Name) (es : List Class) → length (flat_map own (reverse es)) ≡ sum_by (λ e. length (own e)) es
as_many own es = length-flat_map own (reverse es) ∙ sum_by-IsPermutation (λ e. length (own e)) es (reverse es) (IsPermutation-reverse es)

pub returns-clause-instance : goal.returns-clause-instance
returns-clause-instance c = λ classes name. as_many (λ e. e.1.inst_vars) (lineage classes name)

pub returns-clause-class : goal.returns-clause-class
returns-clause-class c = λ classes name. as_many (λ e. e.1.class_side_vars) (lineage classes name)
