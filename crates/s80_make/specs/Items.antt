-- The items of generated input: classes, each with a variable, a section of ten methods, and a doIt that sends one of them.
use Rattle.std.specs.Prelude.{ℕ, zero, suc, ◌+◌, ◌*◌, ◌/◌, ◌==◌, List, [], ◌∷◌, ◌++◌, codes, decimal, map, if◌then◌else◌}
use Rattle.s80_chunk.specs.Chunks.{item_of}
use Rattle.s80_chunk.specs.declared.item.Item.{Item}
use Rattle.s80_chunk.specs.declared.item.Item.TheVariants.{SectionEnd}
use Rattle.s80_chunk.specs.declared.item.Role.TheVariants.{Plain, Head, Method}
use Rattle.s80_form.specs.declared.definition.Definition.{Definition}
use Rattle.s80_form.specs.declared.definition.Kind.TheVariants as kinds
use Rattle.s80_form.specs.Definition.{definition_text}
use Rattle.s80_model.specs.declared.item.Query.TheVariants.{Condense}
use Rattle.s80_model.specs.declared.item.SessionItem.{SessionItem}
use Rattle.s80_model.specs.declared.item.SessionItem.TheVariants.{Chunk, Query}

-- classes are numbered from 1 on
abbrev pub class_name : ℕ → List ℕ
class_name k = codes "Gen" ++ decimal k

-- the class of half its number, or Object above the first
abbrev pub superclass_name : ℕ → List ℕ
superclass_name k = if k == 1 then codes "Object" else class_name (k / 2)

abbrev pub definition : ℕ → Definition
definition k = record {
  class_name = class_name k;
  superclass = superclass_name k;
  kind = kinds.Plain;
  inst_vars = (codes "v" ++ decimal k) ∷ [];
  class_vars = [];
  pools = [];
  category = codes "gen";
}

abbrev pub head_text : ℕ → List ℕ
head_text k = class_name k ++ codes " methodsFor: 'gen'"

-- methods are numbered from 0 to 9
abbrev pub method_text : ℕ → ℕ → List ℕ
method_text k j = (codes "m" ++ decimal j) ++ (codes ": x ^x + " ++ decimal (10 * k + j))

abbrev pub doit_text : ℕ → List ℕ
doit_text k = class_name k ++ (codes " new m9: " ++ decimal k)

-- the items of a class: the definition, the head, ten methods, the section's end and the doIt
abbrev pub class_items : ℕ → List Item
class_items k =
    item_of Plain (definition_text (definition k)) ∷ item_of Head (head_text k)
    ∷ map (λ j. item_of Method (method_text k j)) (0 ∷ 1 ∷ 2 ∷ 3 ∷ 4 ∷ 5 ∷ 6 ∷ 7 ∷ 8 ∷ 9 ∷ [])
    ++ SectionEnd ∷ item_of Plain (doit_text k) ∷ []

-- how many these are
abbrev pub items_each : ℕ
items_each = 14

-- the items of so many classes, one class after another
abbrev pub classes_items : ℕ → List Item
classes_items zero = []
classes_items (suc count) = classes_items count ++ class_items (suc count)

-- and condensing behind them
abbrev pub make_items : ℕ → List SessionItem
make_items count = map Chunk (classes_items count) ++ Query Condense ∷ []
