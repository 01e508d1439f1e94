-- How the change set and the versions are spelled and read.
use Rattle.std.specs.Prelude.{ℕ, ◌==◌, ◌&&◌, ◌||◌, Bool, true, false, nat_le, List, map, length, Option, Some, None, option_map, if◌then◌else◌}
use Rattle.std.specs.Ordering.{nat_cmp, is_lt, ordering_then}
use Rattle.std.specs.Cmp.Lexicographic.{slice_cmp}
use Rattle.s80_base.specs.declared.names.Side.{Side}
use Rattle.s80_history.specs.declared.noted.Noted.{Noted}
use Rattle.s80_history.specs.declared.noted.NotedKind.{NotedKind}
use Rattle.s80_history.specs.declared.noted.NotedKind.TheVariants.{Define, ClassVars, Comment, Method, RemoveMethod, Classify, RemoveClass}
use Rattle.s80_history.specs.Lists.{MethodName}
use Rattle.s80_image.specs.declared.image.MethodVersions.{MethodVersions}
use Rattle.s80_image.specs.Format.{Format, byte, list_of, mapped, number_where, pair, text_where}
use Rattle.s80_image.specs.Parts.{Name, at_most, class_text, is_selector, last_of, place_above, places, side, side_number, side_of}

-- ---- the change set

abbrev pub noted_kind_number : NotedKind → ℕ
noted_kind_number Define = 0
noted_kind_number ClassVars = 1
noted_kind_number Comment = 2
noted_kind_number Method = 3
noted_kind_number RemoveMethod = 4
noted_kind_number Classify = 5
noted_kind_number RemoveClass = 6

abbrev pub noted_kind_of : ℕ → NotedKind
noted_kind_of n =
    if n == 0 then Define else (if n == 1 then ClassVars else (if n == 2 then Comment else (if n == 3 then Method
    else (if n == 4 then RemoveMethod else (if n == 5 then Classify else RemoveClass)))))

unfoldable pub noted_kind : Format NotedKind
noted_kind = mapped noted_kind_of noted_kind_number (at_most 6)

-- it names a method, by a side and a selector
abbrev pub names_method : NotedKind → Bool
names_method Method = true
names_method RemoveMethod = true
names_method Classify = true
names_method _ = false

-- a side of 0 and an empty selector where no method is named
unfoldable pub noted_side : NotedKind → Format Side
noted_side kind = mapped side_of side_number (number_where (λ n. nat_le n 1 && (names_method kind || n == 0)) byte)

abbrev pub noted_selector : NotedKind → Format Name
noted_selector kind = text_where (λ word. if names_method kind then is_selector word else length word == 0)

unfoldable pub noted : Option ℕ → Format Noted
noted last = mapped
    (λ p. record { at = p.0; kind = p.1.0; class_name = p.1.1.0; side = p.1.1.1.0; selector = p.1.1.1.1 })
    (λ m. (m.at, (m.kind, (m.class_name, (m.side, m.selector)))))
    (pair (place_above last) (λ _. pair noted_kind (λ kind. pair class_text (λ _. pair (noted_side kind) (λ _. noted_selector kind)))))

abbrev pub noted_behind : List Noted → Format Noted
noted_behind before = noted (option_map (λ m. m.at) (last_of before))

-- the oldest first
unfoldable pub change_set : Format (List Noted)
change_set = list_of (λ _. true) noted_behind

-- ---- versions

pub record VersionsView : Type 0 where
  pub name : MethodName
  pub places : List ℕ

abbrev pub versions_of : MethodVersions → VersionsView
versions_of v = record { name = record { class_name = v.class_name; side = v.side; selector = v.selector }; places = v.places.items }

abbrev pub all_versions_of : List MethodVersions → List VersionsView
all_versions_of vs = map versions_of vs

-- by class, side and selector
abbrev pub is_above_method : Option MethodName → MethodName → Bool
is_above_method None name = true
is_above_method (Some last) name =
    is_lt (ordering_then (slice_cmp nat_cmp last.class_name name.class_name)
    (ordering_then (nat_cmp (side_number last.side) (side_number name.side)) (slice_cmp nat_cmp last.selector name.selector)))

abbrev pub selector_above : Option MethodName → Name → Side → Format Name
selector_above last class s =
    text_where (λ word. is_selector word && is_above_method last (record { class_name = class; side = s; selector = word }))

unfoldable pub versions : Option MethodName → Format VersionsView
versions last = mapped
    (λ p. record { name = record { class_name = p.0; side = p.1.0; selector = p.1.1.0 }; places = p.1.1.1 })
    (λ v. (v.name.class_name, (v.name.side, (v.name.selector, v.places))))
    (pair class_text (λ class. pair side (λ s. pair (selector_above last class s) (λ _. places))))

abbrev pub versions_behind : List VersionsView → Format VersionsView
versions_behind before = versions (option_map (λ v. v.name) (last_of before))

unfoldable pub all_versions : Format (List VersionsView)
all_versions = list_of (λ _. true) versions_behind
