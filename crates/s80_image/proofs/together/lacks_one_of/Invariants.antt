use Rattle.std.proofs.Common.{◌≡◌, drop}
use Rattle.std.specs.Prelude.{not}
use Rattle.std.specs.FinMap as map
use Rattle.std.specs.List.{list_any}
use Rattle.s80_image.specs.Classes.{classes_of}
use Rattle.s80_image.specs.Together.{classes_by_name}
use Rattle.s80_image.proofs.together.lacks_one_of.Given as goal

abbrev pub invariant-loop-row : goal.invariant-loop-row
invariant-loop-row l =
    list_any (λ row. not (map.contains_key (classes_by_name (classes_of l.classes)) row.name.now)) (drop l.row-index l.rows)
    ≡ list_any (λ row. not (map.contains_key (classes_by_name (classes_of l.classes)) row.name.now)) l.rows
