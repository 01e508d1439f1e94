-- What the entries of a dictionary say, and the lines of their categories.
use Rattle.std.specs.Prelude.{◌≡◌, ℕ, List, [], ◌∷◌, Vec, map as list_map, option_map, unwrap_or, cond, is_some}
use Rattle.std.specs.FinMap as map
use Rattle.std.specs.Ordering.{nat_cmp}
use Rattle.std.specs.Cmp.Lexicographic.{slice_cmp}
use Rattle.s80_dict.specs.Dict.{Bytes, Methods}
use Rattle.s80_apply.specs.State.{MethodRow}
use Rattle.s80_apply.specs.Entries.{Entry}
use Rattle.s80_model.specs.Texts.{categories, selectors_of}

abbrev pub category_in : Methods Entry → Bytes → Bytes
category_in entries selector = unwrap_or (option_map (λ entry. entry.category) (map.get entries selector)) []

-- lines by their categories
abbrev pub Lines : Type 0
Lines = map.FinMap {K = Bytes} (slice_cmp nat_cmp) (List ℕ)

abbrev pub shown : {Z : Type 0} → List (Vec ℕ Z × List ℕ) → List (Bytes × List ℕ)
shown entries = list_map (λ e. (e.0.items, e.1)) entries

-- the entries are those of these lines
abbrev pub AreLines : {Z : Type 0} → List (Vec ℕ Z × List ℕ) → Lines → Type 0
AreLines entries lines = shown entries ≡ map.entries lines

-- a selector behind a space
abbrev pub spaced : Bytes → List ℕ
spaced selector = 32 ∷ selector

abbrev pub line_at : Lines → Bytes → List ℕ
line_at lines category = unwrap_or (map.get lines category) []

-- an empty line made for a category that has none
abbrev pub with_line : Lines → Bytes → Lines
with_line lines category = cond (is_some (map.get lines category)) lines (map.insert lines category [])

-- for each category the selectors of its methods in byte order, each behind a space
abbrev pub lines_of : Methods MethodRow → List (Bytes × List ℕ)
lines_of rows = list_map (λ category. (category, selectors_of rows category)) (categories rows)
