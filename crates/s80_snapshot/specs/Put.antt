-- The parts of an image as they are put one behind the other.
use Rattle.std.specs.Prelude.{◌≡◌, ◌<◌, ◌^◌, ℕ, List, [], ◌++◌, length, All, map as list_map, Option, None}
use Rattle.std.specs.Option.{option_map_or}
use Rattle.std.specs.FinMap as map
use Rattle.s80_dict.specs.Dict.{Methods}
use Rattle.s80_class.specs.Classes.{Name, ClassRow}
use Rattle.s80_history.specs.History.{HistoryState}
use Rattle.s80_history.specs.Lists.{MethodName}
use Rattle.s80_history.specs.Order.{AreMethodsOf}
use Rattle.s80_apply.specs.Entries.{Entry}
use Rattle.s80_apply.specs.System.{SystemState}
use Rattle.s80_image.specs.Classes.{ClassView, class}
use Rattle.s80_image.specs.History.{versions}
use Rattle.s80_image.specs.Methods.{MethodView, method}
use Rattle.s80_image.specs.Spelling.{listed}
use Rattle.s80_snapshot.specs.Pictured.{AreClassesOf, CodedState, class_view, coded_row, method_view, versions_view}

-- ---- what is put for a selector or a name: nothing where there is no such method or class

abbrev pub entry_view : List ℕ × Entry → MethodView
entry_view e = method_view (e.0, coded_row e.1)

abbrev pub entries_view : Methods Entry → List MethodView
entries_view methods = list_map entry_view (map.entries methods)

abbrev pub method_put : List ℕ → Option Entry → List ℕ
method_put selector entry = option_map_or (λ e. (method None).spell (entry_view (selector, e))) entry []

abbrev pub class_put : CodedState → Name → Option ClassRow → List ℕ
class_put state name row = option_map_or (λ r. (class None).spell (class_view state (name, r))) row []

-- ---- lists that were put behind these bytes

pub record HasPutClasses (system : SystemState) (before now : List ℕ) : Type 0 where
  pub classes : List ClassView
  pub are : AreClassesOf system classes
  pub bytes : now ≡ before ++ listed (class None).spell classes

pub record HasPutVersions (history : HistoryState) (before now : List ℕ) : Type 0 where
  pub names : List MethodName
  pub those : AreMethodsOf history names
  pub short : length names < 2 ^ 32
  pub places : All (λ name. length (versions_view history name).places < 2 ^ 32) names
  pub bytes : now ≡ before ++ listed (versions None).spell (list_map (versions_view history) names)
